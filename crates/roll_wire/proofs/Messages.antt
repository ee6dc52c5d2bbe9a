-- The two laws: what is read is spelled so, and what is spelled so is read.
use Rattle.std.proofs.Common.{◌≡◌, ℕ, zero, suc, true, cond, eqb, leb, List, [], ◌∷◌, ◌++◌, length, None, Result, Ok, Err, refl, sym, ap, subst, ◌∙◌, append_assoc}
use Rattle.std.specs.Prelude.{Option, IfOk}
use Rattle.std.proofs.lemmas.Bool.{eqb-true, leb-true, le-leb}
use Rattle.std.proofs.lemmas.List.{append-nil, nil_from_length}
use Rattle.roll_mesh.specs.declared.packet.Offer.{Offer}
use Rattle.roll_wire.specs.declared.datagram.Datagram.{Datagram}
use Rattle.roll_wire.specs.declared.datagram.Envelope.{Envelope}
use Rattle.roll_wire.specs.declared.datagram.Head.{Head}
use Rattle.roll_wire.specs.declared.datagram.Marked.{Marked}
use Rattle.roll_wire.specs.declared.fault.WireFault.{WireFault}
use Rattle.roll_wire.specs.declared.fault.WireFault.TheVariants.{TooMany, Trailing, Mark as MarkFault}
use Rattle.roll_wire.specs.declared.limits.TheConstants.{MAGIC, WORD_LIMIT}
use Rattle.roll_wire.specs.Spelling.{Content, Greets, Plays, Leaves, Message, Turn, body, envelope, hello, message, number, head, marks, runs, spelling, byte, count_of, Fits, IsContent, IsTurn}
use Rattle.roll_wire.specs.Reading.{◌>>=◌, Gives, byte_at, magic_at, envelope_at, hello_at, head_at, is_unmarked, marks_at, unmarked, unmarked_of, words_at, turn_at, content_at, all_of}
use Rattle.roll_wire.proofs.Fields.{IsBytes, IsBytes-rest, Takes, Takes-then, bind_ok, passed_ok, ok_is, byte_field}
use Rattle.roll_wire.proofs.Heads.{magic_again, magic_takes}
use Rattle.roll_wire.proofs.Groups.{envelope_field, head_field, hello_field, marks_field}
use Rattle.roll_wire.proofs.Words.{words_take, words_again}

-- ---- a turn

abbrev turn_text : Turn → List ℕ
turn_text t = head t.head ++ (marks t.marks ++ runs t.words)

abbrev with_words : Head → List (Option Marked) → List ℕ × List ℕ → Result (Turn × List ℕ) WireFault
with_words h ms words = Ok (record { head = h; marks = ms; words = words.0 }, words.1)

abbrev counted : List Offer → Result ℕ WireFault
counted offers = cond (leb (count_of offers) WORD_LIMIT) (Ok (count_of offers)) (Err TooMany)

turn_takes : (bytes : List ℕ) (t : Turn) (rest : List ℕ) → IsBytes bytes
    → turn_at bytes ≡ Ok (t, rest) → Takes bytes (turn_text t) rest × IsTurn t
unfolding turn_at
turn_takes bytes t rest b e =
    let q = bind_ok (head_at bytes) (λ h. counted h.0.offers >>=
    λ count. marks_at h.1 >>= λ ms. words_at count 0 None ms.1 >>= with_words h.0 ms.0)
    (t, rest) e in
    let r = bind_ok (counted q.0.0.offers) (λ count. marks_at q.0.1 >>=
    λ ms. words_at count 0 None ms.1 >>= with_words q.0.0 ms.0) (t, rest) q.2 in
    let m = bind_ok (marks_at q.0.1)
    (λ ms. words_at r.0 0 None ms.1 >>= with_words q.0.0 ms.0) (t, rest) r.2 in
    let s = bind_ok (words_at r.0 0 None m.0.1) (with_words q.0.0 m.0.0) (t, rest) m.2 in
    let c = passed_ok (leb (count_of q.0.0.offers) WORD_LIMIT) TooMany (count_of q.0.0.offers) r.0
    r.1 in
    let u = head_field.takes bytes q.0.0 q.0.1 b q.1 in
    let k = marks_field.takes q.0.1 m.0.0 m.0.1 u.0.rest_fits m.1 in
    let v = words_take r.0 m.0.1 s.0.0 s.0.1 k.0.rest_fits s.1 in
    let with_marks = Takes-then q.0.1 (marks m.0.0) m.0.1 (runs s.0.0) s.0.1 k.0 v.takes in
    let made : Turn × List ℕ =
    (record { head = q.0.0; marks = m.0.0; words = s.0.0 }, s.0.1) in
    subst (λ (x : Turn × List ℕ). Takes bytes (turn_text x.0) x.1 × IsTurn x.0)
    (ok_is made (t, rest) s.2) (
      Takes-then bytes (head q.0.0) q.0.1 (marks m.0.0 ++ runs s.0.0) s.0.1 u.0 with_marks,
      record {
        head = u.1;
        marks = k.1;
        words = v.all ∙ sym c.1;
        few = leb-true (count_of q.0.0.offers) WORD_LIMIT c.0;
        are_words = v.fits;
      },
    )

turn_again : (t : Turn) (rest : List ℕ) → IsTurn t → turn_at (turn_text t ++ rest) ≡ Ok (t, rest)
unfolding turn_at
turn_again t rest f =
    let few : leb (count_of t.head.offers) WORD_LIMIT ≡ true =
    le-leb (count_of t.head.offers) WORD_LIMIT f.few in
    let words : words_at (count_of t.head.offers) 0 None (runs t.words ++ rest) ≡ Ok (t.words, rest)
    =
    subst (λ (n : ℕ). words_at n 0 None (runs t.words ++ rest) ≡ Ok (t.words, rest)) f.words
    (words_again t.words rest f.are_words) in
    ap turn_at (append_assoc (head t.head) (marks t.marks ++ runs t.words) rest
    ∙ ap (λ (bs : List ℕ). head t.head ++ bs) (append_assoc (marks t.marks) (runs t.words) rest))
    ∙ rw (
      head_field.again t.head (marks t.marks ++ (runs t.words ++ rest)) f.head,
      few,
      marks_field.again t.marks (runs t.words ++ rest) f.marks,
      words,
    ) refl

-- ---- a kind, and what follows it

behind : (kind : ℕ) (bytes text rest : List ℕ) → Takes bytes text rest
    → Takes (kind ∷ bytes) (kind ∷ text) rest
behind kind bytes text rest t = record {
  parts = ap (λ (bs : List ℕ). kind ∷ bs) t.parts;
  rest_fits = t.rest_fits;
}

content_takes : (bytes : List ℕ) (c : Content) (rest : List ℕ) → IsBytes bytes
    → content_at bytes ≡ Ok (c, rest) → Takes bytes (body c) rest × IsContent c
unfolding content_at
content_takes [] c rest b e = absurd cc
content_takes (zero ∷ bytes) c rest b e =
    let p = bind_ok (hello_at bytes) (λ h. Ok (Greets h.0, h.1)) (c, rest) e in
    let t = hello_field.takes bytes p.0.0 p.0.1 (IsBytes-rest 0 bytes b) p.1 in
    subst (λ (x : Content × List ℕ). Takes (0 ∷ bytes) (body x.0) x.1 × IsContent x.0)
    (ok_is (Greets p.0.0, p.0.1) (c, rest) p.2) (behind 0 bytes (hello p.0.0) p.0.1 t.0, t.1)
content_takes (suc zero ∷ bytes) c rest b e =
    let p = bind_ok (turn_at bytes) (λ t. Ok (Plays t.0, t.1)) (c, rest) e in
    let t = turn_takes bytes p.0.0 p.0.1 (IsBytes-rest 1 bytes b) p.1 in
    subst (λ (x : Content × List ℕ). Takes (1 ∷ bytes) (body x.0) x.1 × IsContent x.0)
    (ok_is (Plays p.0.0, p.0.1) (c, rest) p.2) (behind 1 bytes (turn_text p.0.0) p.0.1 t.0, t.1)
content_takes (suc (suc zero) ∷ bytes) c rest b e =
    let p = bind_ok (byte_at bytes) (λ why. Ok (Leaves why.0, why.1)) (c, rest) e in
    let t = byte_field.takes bytes p.0.0 p.0.1 (IsBytes-rest 2 bytes b) p.1 in
    subst (λ (x : Content × List ℕ). Takes (2 ∷ bytes) (body x.0) x.1 × IsContent x.0)
    (ok_is (Leaves p.0.0, p.0.1) (c, rest) p.2) (behind 2 bytes (byte p.0.0) p.0.1 t.0, t.1)
content_takes (suc (suc (suc kind)) ∷ bytes) c rest b e = absurd cc

content_again : (c : Content) (rest : List ℕ) → IsContent c
    → content_at (body c ++ rest) ≡ Ok (c, rest)
unfolding content_at
content_again (Greets h) rest f = rw (hello_field.again h rest f) refl
content_again (Plays t) rest f = rw (turn_again t rest f) refl
content_again (Leaves why) rest f = rw (byte_field.again why rest f) refl

-- ---- the whole

abbrev ended : Envelope → Content × List ℕ → Result Message WireFault
ended envelope c = cond (eqb (length c.1) 0) (Ok (record { envelope = envelope; content = c.0 }))
    (Err Trailing)

pub all_takes : (bytes : List ℕ) (m : Message) → IsBytes bytes → all_of bytes ≡ Ok m → Fits m
    × (bytes ≡ spelling m)
unfolding all_of
all_takes bytes m b e =
    let p = bind_ok (magic_at bytes) (λ magic. envelope_at magic.1 >>= λ h. content_at h.1 >>=
    ended h.0) m e in
    let q = bind_ok (envelope_at p.0.1) (λ h. content_at h.1 >>= ended h.0) m p.2 in
    let r = bind_ok (content_at q.0.1) (ended q.0.0) m q.2 in
    let g = passed_ok (eqb (length r.0.1) 0) Trailing
    (record { envelope = q.0.0; content = r.0.0 }) m r.2 in
    let t = magic_takes bytes p.0.0 p.0.1 b p.1 in
    let u = envelope_field.takes p.0.1 q.0.0 q.0.1 t.0.rest_fits q.1 in
    let v = content_takes q.0.1 r.0.0 r.0.1 u.0.rest_fits r.1 in
    let nothing : r.0.1 ≡ [] = nil_from_length r.0.1 (eqb-true (length r.0.1) 0 g.0) in
    let text : List ℕ = envelope q.0.0 ++ body r.0.0 in
    let tail = Takes-then p.0.1 (envelope q.0.0) q.0.1 (body r.0.0) r.0.1 u.0 v.0 in
    let all = Takes-then bytes (number p.0.0) p.0.1 text r.0.1 t.0 tail in
    let whole : bytes ≡ number MAGIC ++ text =
    all.parts ∙ ap (λ (rest : List ℕ). (number p.0.0 ++ text) ++ rest) nothing
    ∙ append-nil (number p.0.0 ++ text) ∙ ap (λ (n : ℕ). number n ++ text) t.1 in
    subst (λ (x : Message). Fits x × (bytes ≡ spelling x)) g.1
    (record { envelope = u.1; content = v.1 }, whole)

pub all_again : (m : Message) → Fits m → all_of (spelling m) ≡ Ok m
unfolding all_of
all_again m f =
    let content : content_at (body m.content) ≡ Ok (m.content, []) =
    ap content_at (sym (append-nil (body m.content))) ∙ content_again m.content [] f.content in
    rw (
      magic_again (envelope m.envelope ++ body m.content),
      envelope_field.again m.envelope (body m.content) f.envelope,
      content,
    ) refl

-- ---- who can't take marks

pub unmarked_is : (bytes : List ℕ) (m : Message) → unmarked_of bytes ≡ Ok m → all_of bytes ≡ Ok m
unfolding unmarked_of
unmarked_is bytes m e =
    let p = bind_ok (all_of bytes) unmarked m e in
    let g = passed_ok (is_unmarked p.0.content) MarkFault p.0 m p.2 in
    p.1 ∙ ap (λ (x : Message). Ok x) g.1

-- what is read of a datagram's text is that datagram
pub unmarked_back : (m n : Message) → Fits m → unmarked_of (spelling m) ≡ Ok n → n ≡ m
unmarked_back m n f e = ok_is n m (sym (unmarked_is (spelling m) n e) ∙ all_again m f)

-- the text of a datagram in which no word has a mark is read as that datagram
pub unmarked_again : (m : Message) → Fits m → is_unmarked m.content ≡ true
    → unmarked_of (spelling m) ≡ Ok m
unfolding unmarked_of
unmarked_again m f none = rw (all_again m f, none) refl

-- ---- what a caller is told

pub is_found : (bytes : List ℕ) (r : Result Datagram WireFault) → IsBytes bytes
    → Gives message r (all_of bytes) → IfOk r (λ d. Fits (message d)
    × (bytes ≡ spelling (message d)))
is_found bytes (Ok d) b given = all_takes bytes (message d) b given
is_found bytes (Err e) b given = tt

-- no two datagrams have one spelling
pub one_spelling : (m n : Message) → Fits m → Fits n → spelling m ≡ spelling n → m ≡ n
one_spelling m n f g e = ok_is m n (sym (all_again m f) ∙ (ap all_of e ∙ all_again n g))
