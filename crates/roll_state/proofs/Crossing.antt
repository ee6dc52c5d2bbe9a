-- What a taker has is what givers gave.
use Rattle.std.proofs.Common.{◌≡◌, inl, inr, ℕ, ◌+◌, ◌-◌, ◌*◌, ◌/◌, ◌<◌, ◌≤◌, Bool, true, false, not, cond, eqb, List, [], ◌∷◌, ◌++◌, length, take, drop, get_or, set, Option, Some, None, Result, Ok, Err, refl, sym, ap, subst, ◌∙◌, arith}
use Rattle.std.specs.Prelude.{count_by, is_none, nat_lt, replicate, All, IsOk, ◌==◌, if◌then◌else◌}
use Rattle.std.specs.List.{list_all}
use Rattle.std.specs.Str.{bytes_eq}
use Rattle.std.proofs.lemmas.Bool.{and_from, and_parts, cases_eq, cases_lt, eq-eqb, eqb-true, lt-ltb, false≢true}
use Rattle.std.proofs.lemmas.List.{get_or-append_right, get_or-drop, get_or-replicate, get_or-set_other, get_or-set_same, get_or-take, get_or_append_left, get_or_past, length-drop, length-replicate, length-take, length-take-le, same_lists, get_or_default}
use Rattle.std.proofs.lemmas.Option.{none-some}
use Rattle.std.proofs.lemmas.List.Elements.{All-cons, All-nil}
use Rattle.std.proofs.lemmas.List.Folds.{list_all_at, sum_by-zero}
use Rattle.std.proofs.lemmas.Slice.Eq.{bytes_eq-Decides}
use Rattle.sha2.specs.Sha256.{sha256}
use Rattle.roll_contact.specs.declared.key.Key.{Key}
use Rattle.roll_mesh.specs.declared.limits.TheConstants.{MACHINE_LIMIT}
use Rattle.roll_state.specs.Crossing.{AreCalls, HearsBytes, HoldsOf, IsCall, IsOfGiver, TakersHoldWhatWasGiven}
use Rattle.roll_state.specs.Sealing.{message_by, opened}
use Rattle.roll_state.specs.Spelling.{Content, Gives, Message, Part, Wants}
use Rattle.roll_state.specs.States.{count_of, is_same, piece_of, size_of, with_piece, IsNameOf}
use Rattle.roll_state.specs.Taking.{after_heard, after_piece, after_read, after_said, after_verdict, are_from, emptied, heard_if, heard_of, heard_read, held_after, is_allowed, is_from, is_right, is_there, left_in, opened_taker, received, refusal_of, with_part, Held, IsTaken, Taking}
use Rattle.roll_state.specs.declared.limits.TheConstants.{PIECE_LIMIT}
use Rattle.roll_state.specs.declared.name.StateName.{StateName}
use Rattle.roll_state.specs.declared.heard.Heard.{Heard}
use Rattle.roll_state.specs.declared.heard.Heard.TheVariants.{Again, Taken, Whole, Wrong}
use Rattle.roll_state.specs.declared.refusal.StateRefusal.{StateRefusal}
use Rattle.roll_state.proofs.Sent.{given_back, is_sent}
use Rattle.roll_state.proofs.Taken.{accepted, all_missing, has_room, hears as hears_piece}

-- ---- names

abbrev name_with : (which frame len : ℕ) (digest : List ℕ) → StateName
name_with which frame len digest = record {
  which = which;
  frame = frame;
  length = len;
  digest = digest;
}

pub same_name : (one other : StateName) → is_same one other ≡ true → one ≡ other
same_name one other e =
    let a = and_parts (one.which == other.which) _ e in
    let b = and_parts (one.frame == other.frame) _ a.1 in
    let d = and_parts (one.length == other.length) (bytes_eq one.digest other.digest) b.1 in
    let which : one.which ≡ other.which = eqb-true _ _ a.0 in
    let frame : one.frame ≡ other.frame = eqb-true _ _ b.0 in
    let len : one.length ≡ other.length = eqb-true _ _ d.0 in
    let digest : one.digest ≡ other.digest = (bytes_eq-Decides one.digest other.digest).0 d.1 in
    ap (λ (n : ℕ). name_with n one.frame one.length one.digest) which
    ∙ ap (λ (n : ℕ). name_with other.which n one.length one.digest) frame
    ∙ ap (λ (n : ℕ). name_with other.which other.frame n one.digest) len
    ∙ ap (λ (bs : List ℕ). name_with other.which other.frame other.length bs) digest

-- ---- bytes and pieces

-- a byte of a piece that comes
pub at_piece : (place : ℕ) (piece bytes : List ℕ) (i : ℕ)
    → PIECE_LIMIT * place + length piece ≤ length bytes → PIECE_LIMIT * place ≤ i
    → i < PIECE_LIMIT * place + length piece
    → get_or (with_piece place piece bytes) i 0 ≡ get_or piece (i - PIECE_LIMIT * place) 0
at_piece place piece bytes i room low high =
    let front : length (take (PIECE_LIMIT * place) bytes) ≡ PIECE_LIMIT * place =
    length-take-le (PIECE_LIMIT * place) bytes (omega arith) in
    get_or-append_right (take (PIECE_LIMIT * place) bytes)
    (piece ++ drop (PIECE_LIMIT * place + length piece) bytes) (PIECE_LIMIT * place) i 0 front low
    ∙ get_or_append_left piece (drop (PIECE_LIMIT * place + length piece) bytes) 0
    (i - PIECE_LIMIT * place) (omega arith)

-- and any other
pub before_piece : (place : ℕ) (piece bytes : List ℕ) (i : ℕ)
    → PIECE_LIMIT * place + length piece ≤ length bytes → i < PIECE_LIMIT * place
    → get_or (with_piece place piece bytes) i 0 ≡ get_or bytes i 0
before_piece place piece bytes i room low =
    let front : length (take (PIECE_LIMIT * place) bytes) ≡ PIECE_LIMIT * place =
    length-take-le (PIECE_LIMIT * place) bytes (omega arith) in
    get_or_append_left (take (PIECE_LIMIT * place) bytes)
    (piece ++ drop (PIECE_LIMIT * place + length piece) bytes) 0 i (omega (arith, front))
    ∙ get_or-take (PIECE_LIMIT * place) bytes i 0 low

pub behind_piece : (place : ℕ) (piece bytes : List ℕ) (i : ℕ)
    → PIECE_LIMIT * place + length piece ≤ length bytes
    → PIECE_LIMIT * place + length piece ≤ i
    → get_or (with_piece place piece bytes) i 0 ≡ get_or bytes i 0
behind_piece place piece bytes i room high =
    let start : ℕ = PIECE_LIMIT * place in
    let front : length (take start bytes) ≡ start = length-take-le start bytes (omega arith) in
    get_or-append_right (take start bytes) (piece ++ drop (start + length piece) bytes) start i 0 front
    (omega arith)
    ∙ get_or-append_right piece (drop (start + length piece) bytes) (length piece) (i - start) 0 refl
    (omega arith)
    ∙ get_or-drop (start + length piece) bytes (i - start - length piece) 0
    ∙ ap (λ (n : ℕ). get_or bytes n 0) (omega arith)

-- a byte of a state's piece
pub of_piece : (state : List ℕ) (place i : ℕ) → PIECE_LIMIT * place ≤ i
    → i < PIECE_LIMIT * place + PIECE_LIMIT
    → get_or (piece_of state place) (i - PIECE_LIMIT * place) 0 ≡ get_or state i 0
of_piece state place i low high =
    get_or-take PIECE_LIMIT (drop (PIECE_LIMIT * place) state) (i - PIECE_LIMIT * place) 0 (omega arith)
    ∙ get_or-drop (PIECE_LIMIT * place) state (i - PIECE_LIMIT * place) 0
    ∙ ap (λ (n : ℕ). get_or state n 0) (omega arith)

-- ---- who gave pieces

pub none_there : (n k : ℕ) → get_or (replicate {A = Option ℕ} n None) k None ≡ None
none_there n k =
    elim (cases_lt k n) [
      | inl lt ↦ get_or-replicate n k None None lt
      | inr le ↦ get_or_past (replicate {A = Option ℕ} n None) k None
          (omega (arith, length-replicate {A = Option ℕ} n None))
    ]

none_barred : (n k : ℕ) → get_or (replicate n false) k false ≡ false
none_barred n k =
    elim (cases_lt k n) [
      | inl lt ↦ get_or-replicate n k false false lt
      | inr le ↦ get_or_past (replicate n false) k false (omega (arith, length-replicate n false))
    ]

-- what holds of all holds of each
each : (p : Option ℕ → Bool) (xs : List (Option ℕ)) (i : ℕ) → list_all p xs ≡ true → i < length xs
    → p (get_or xs i None) ≡ true
each p xs i all l = go (p (get_or xs i None)) refl
  where
    go : (b : Bool) → p (get_or xs i None) ≡ b → p (get_or xs i None) ≡ true
    go true e = e
    go false e = absurd (false≢true (sym (list_all_at p xs i None l e) ∙ all))

giver_is : (host : ℕ) (giver : Option ℕ) → is_from host giver ≡ true → giver ≡ Some host
giver_is host (Some by) e = ap (λ (n : ℕ). Some n) (eqb-true by host e)
giver_is host None e = absurd cc

some_giver : (giver : Option ℕ) → eqb (cond (is_none giver) 1 0) 0 ≡ true
    → (host : ℕ) × (giver ≡ Some host)
some_giver (Some by) e = (by, refl)
some_giver None e = absurd cc

-- ---- what is read

ok_message : (m n : Message) → (let r : Result Message StateRefusal = Ok m in r) ≡ Ok n → m ≡ n
ok_message m n e = cc e

gives_one : (p q : Part) → Gives p ≡ Gives q → p ≡ q
gives_one p q e = cc e

-- ---- the law

module _ (honest : ℕ → Bool) (state : List ℕ) where
  -- each byte that an honest machine gave is the state's
  pub record IsOfHonest (held : Held) : Type 0 where
    pub bytes : (i host : ℕ) → i < length state → get_or held.from (i / PIECE_LIMIT) None ≡ Some host
        → honest host ≡ true → get_or held.bytes i 0 ≡ get_or state i 0

  pub record Keeps (t : Taking) : Type 0 where
    pub named : IsNameOf t.name state
    pub taken : IsTaken t.name t.held
    pub held : IsOfHonest t.held
    pub trusted : (host : ℕ) → honest host ≡ true → get_or t.barred host false ≡ false

  -- a piece comes: of an honest machine, it is the state's
  grown : (name : StateName) (host place : ℕ) (bytes : List ℕ) (held : Held)
      → IsNameOf name state → IsTaken name held → place < count_of name.length
      → length bytes ≡ size_of name.length place
      → (honest host ≡ true → bytes ≡ piece_of state place)
      → IsOfHonest held → IsOfHonest (with_part host place bytes held)
  grown name host place bytes held n t inside size given h = record { bytes = go }
    where
      start : ℕ
      start = PIECE_LIMIT * place

      go : (i by : ℕ) → i < length state
          → get_or (set held.from place (Some host)) (i / PIECE_LIMIT) None ≡ Some by
          → honest by ≡ true → get_or (with_piece place bytes held.bytes) i 0 ≡ get_or state i 0
      go i by l from good =
          let room : PIECE_LIMIT * place + length bytes ≤ length held.bytes =
          omega (arith, has_room name.length place inside, t.bytes, size) in
          elim (cases_eq (i / PIECE_LIMIT) place) [
            | inl here ↦
                let low : PIECE_LIMIT * place ≤ i = omega arith in
                let high : i < PIECE_LIMIT * place + PIECE_LIMIT = omega arith in
                let within : i < PIECE_LIMIT * place + length bytes = omega (arith, n.all, size) in
                let put : get_or (set held.from place (Some host)) (i / PIECE_LIMIT) None ≡ Some host =
                ap (λ (k : ℕ). get_or (set held.from place (Some host)) k None) here
                ∙ get_or-set_same held.from place (Some host) None (omega (arith, t.from, inside)) in
                let one : Some host ≡ Some by = sym put ∙ from in
                let whose : host ≡ by = cc one in
                at_piece place bytes held.bytes i room low within
                ∙ ap (λ (bs : List ℕ). get_or bs (i - PIECE_LIMIT * place) 0)
                (given (ap honest whose ∙ good))
                ∙ of_piece state place i low high
            | inr other ↦
                let same : get_or held.from (i / PIECE_LIMIT) None ≡ Some by =
                sym (get_or-set_other held.from place (i / PIECE_LIMIT) (Some host) None other) ∙ from in
                let old : get_or held.bytes i 0 ≡ get_or state i 0 = h.bytes i by l same good in
                elim (cases_lt i (PIECE_LIMIT * place)) [
                  | inl low ↦ before_piece place bytes held.bytes i room low ∙ old
                  | inr past ↦ behind_piece place bytes held.bytes i room
                      (omega (arith, n.all, size, other)) ∙ old
                ]
          ]

  -- all pieces of honest machines are the state
  whole_is : (name : StateName) (held : Held) → IsNameOf name state → length held.bytes ≡ name.length
      → length held.from ≡ count_of name.length → IsOfHonest held
      → ((k : ℕ) → k < length held.from → (host : ℕ) × (get_or held.from k None ≡ Some host)
      × (honest host ≡ true)) → held.bytes ≡ state
  whole_is name held n bytes from h all =
      same_lists held.bytes state (bytes ∙ n.all) (λ k d l.
      let inside : k / PIECE_LIMIT < length held.from = omega arith in
      let here : k < length state = omega (arith, n.all) in
      let g = all (k / PIECE_LIMIT) inside in
      get_or_default held.bytes k d 0 l ∙ h.bytes k g.0 here g.1 g.2
      ∙ get_or_default state k 0 d here)

  module _ (t : Taking) (host : ℕ) (p : Part) (k : Keeps t) where
    abbrev more : Held
    more = with_part host p.place p.bytes t.held

    abbrev verdict : (there all right sole : Bool) → Heard
    verdict there all right sole =
        if there then Again
        else (if not all then Taken
        else (if right then Whole else Wrong (if sole then Some host else None)))

    abbrev left_over : (there all right : Bool) → Held
    left_over there all right =
        if there then t.held
        else (if not all then more else (if right then more else emptied more))

    abbrev Given : Type 0
    Given = IsOfHonest more

    nothing : IsOfHonest (emptied more)
    nothing = record {
      bytes = λ i by l from good. absurd (none-some by (sym (none_there (length more.from) (i / PIECE_LIMIT)) ∙ from));
    }

    -- an honest machine gives no wrong state
    no_liar : Given → IsTaken t.name (emptied more) → is_right t.name.digest more ≡ false
        → are_from host more ≡ true → honest host ≡ true → ⊥
    no_liar g taken wrong sole good =
        let whole : more.bytes ≡ state =
        whole_is t.name more k.named taken.bytes
        (sym (length-replicate {A = Option ℕ} (length more.from) None) ∙ taken.from) g
        (λ q l. (host, giver_is host _ (each (is_from host) more.from q sole l), good)) in
        false≢true (sym wrong ∙ (bytes_eq-Decides (sha256 more.bytes) t.name.digest).1
        (ap sha256 whole ∙ sym k.named.digest))

    trusted_after : (honest host ≡ true → ⊥) → (by : ℕ) → honest by ≡ true
        → get_or (set t.barred host true) by false ≡ false
    trusted_after liar by good =
        elim (cases_eq by host) [
          | inl same ↦ absurd (liar (sym (ap honest same) ∙ good))
          | inr other ↦ get_or-set_other t.barred host by true false other ∙ k.trusted by good
        ]

    decided : (there all right sole : Bool) → Given → IsTaken t.name (left_over there all right)
        → is_right t.name.digest more ≡ right → are_from host more ≡ sole
        → Keeps (after_verdict host (verdict there all right sole)
        (record t { held = left_over there all right }))
    decided true all right sole g taken r s = k
    decided false false right sole g taken r s = record {
      named = k.named;
      taken = taken;
      held = g;
      trusted = k.trusted;
    }
    decided false true true sole g taken r s = record {
      named = k.named;
      taken = taken;
      held = g;
      trusted = k.trusted;
    }
    decided false true false true g taken r s = record {
      named = k.named;
      taken = taken;
      held = nothing;
      trusted = trusted_after (no_liar g taken r s);
    }
    decided false true false false g taken r s = record {
      named = k.named;
      taken = taken;
      held = nothing;
      trusted = k.trusted;
    }

    heard_one : refusal_of t host p ≡ None → (honest host ≡ true → p.bytes ≡ piece_of state p.place)
        → Keeps (after_piece t host p)
    heard_one e given =
        let a = accepted t host p e in
        let g : Given = grown t.name host p.place p.bytes t.held k.named k.taken a.inside a.whole given k.held in
        decided (is_there t.held p.place) (left_in more == 0) (is_right t.name.digest more)
        (are_from host more) g
        (hears_piece t host p (held_after t.name.digest host p.place p.bytes t.held) k.taken e refl)
        refl refl

    heard_any : (is_same t.name p.state ≡ true → honest host ≡ true
        → p.bytes ≡ piece_of state p.place) → Keeps (after_heard t host p)
    heard_any given = go (refusal_of t host p) refl
      where
        go : (why : Option StateRefusal) → refusal_of t host p ≡ why
            → Keeps (if is_none why then after_piece t host p else t)
        go None e = heard_one e (given (accepted t host p e).same)
        go (Some why) e = k

  -- ---- bytes

  piece_given : (t : Taking) (key : Key) (bytes : List ℕ) (m : Message) (p : Part)
      → opened key bytes ≡ Ok m → m.content ≡ Gives p → IsOfGiver state t.name key bytes
      → is_same t.name p.state ≡ true → p.bytes ≡ piece_of state p.place
  piece_given t key bytes m p e is g same =
      let s = is_sent g.giver key g.sender g.asked g.index bytes g.sent in
      let told : Part = record {
        state = g.giver.name;
        place = s.place;
        bytes = piece_of g.giver.bytes s.place;
      } in
      let one : m ≡ message_by key g.sender (Gives told) =
      ok_message m _ (sym e ∙ given_back state t.name key bytes g s) in
      let part_is : p ≡ told =
      gives_one p told (sym is ∙ ap (λ (x : Message). x.content) one) in
      let named : g.giver.name ≡ t.name =
      sym (ap (λ (q : Part). q.state) part_is) ∙ sym (same_name t.name p.state same) in
      ap (λ (q : Part). q.bytes) part_is
      ∙ ap (λ (bs : List ℕ). piece_of bs s.place) (g.one named)
      ∙ ap (λ (q : Part). piece_of state q.place) (sym part_is)

  hears : (old new : Taking) → Keeps old → HearsBytes honest state old new → Keeps new
  hears old new k c = subst Keeps (sym c.heard) (go (opened c.key c.bytes) refl)
    where
      said : (m : Message) (what : Content) → opened c.key c.bytes ≡ Ok m → m.content ≡ what
          → Keeps (after_said old m.envelope.sender what)
      said m (Gives p) e is =
          heard_any old m.envelope.sender p k (λ same good.
          piece_given old c.key c.bytes m p e is
          (c.of_giver m.envelope p (e ∙ ap (λ (what : Content). Ok (record { envelope = m.envelope; content = what })) is)
          good) same)
      said m (Wants w) e is = k

      go : (r : Result Message StateRefusal) → opened c.key c.bytes ≡ r → Keeps (after_read old r)
      go (Ok m) e = said m m.content e refl
      go (Err why) e = k

  calls : (old new : Taking) → Keeps old → IsCall honest state old new → Keeps new
  calls old new k (inl c) = hears old new k c
  calls old new k (inr (inl c)) = subst Keeps (sym c.asked) (record {
    named = k.named;
    taken = k.taken;
    held = k.held;
    trusted = k.trusted;
  })
  calls old new k (inr (inr c)) = subst Keeps (sym c.chosen) (record {
    named = k.named;
    taken = k.taken;
    held = k.held;
    trusted = k.trusted;
  })

  -- ---- what is held

  all_of_someone : (held : Held) → left_in held ≡ 0 → (q : ℕ) → q < length held.from
      → (host : ℕ) × (get_or held.from q None ≡ Some host)
  all_of_someone held none q l =
      let zero : eqb (left_in held) 0 ≡ true = eq-eqb (left_in held) 0 none in
      let all : list_all (λ x. eqb (cond (is_none x) 1 0) 0) held.from ≡ true =
      sym (sum_by-zero (λ x. cond (is_none x) 1 0) held.from) ∙ zero in
      some_giver _ (each (λ x. eqb (cond (is_none x) 1 0) 0) held.from q all l)

  holds : (t : Taking) → Keeps t → HoldsOf honest state t
  holds t k = record {
    bytes = k.held.bytes;
    trusted = k.trusted;
    digest = λ none. (k.taken.bytes ∙ k.named.all, k.taken.whole none ∙ k.named.digest);
    whole = λ good none.
        whole_is t.name t.held k.named k.taken.bytes k.taken.from k.held
        (λ q l. let g = all_of_someone t.held none q l in (g.0, g.1, good g.0));
  }

  hold_later : (old : Taking) (later : List Taking) → Keeps old → AreCalls honest state old later
      → All (HoldsOf honest state) later
  hold_later old [] k c = All-nil (HoldsOf honest state)
  hold_later old (new ∷ later) k c =
      let kept : Keeps new = calls old new k c.0 in
      All-cons (HoldsOf honest state) new later (holds new kept) (hold_later new later kept c.1)

  starts : (name : StateName) → IsNameOf name state → Keeps (opened_taker name)
  starts name n =
      let count : ℕ = count_of name.length in
      let many : count_by is_none (replicate {A = Option ℕ} count None) ≡ count = all_missing count in
      record {
        named = n;
        taken = record {
          some = omega (arith, n.some, n.all);
          bytes = length-replicate name.length 0;
          from = length-replicate {A = Option ℕ} count None;
          whole = λ none. absurd (omega (arith, many, none, n.some, n.all));
        };
        held = record {
          bytes = λ i by l from good. absurd (none-some by (sym (none_there count (i / PIECE_LIMIT)) ∙ from));
        };
        trusted = λ by good. none_barred MACHINE_LIMIT by;
      }

  pub held_by_takers : (name : StateName) (later : List Taking) → IsNameOf name state
      → AreCalls honest state (opened_taker name) later → All (HoldsOf honest state) later
  held_by_takers name later n c = hold_later (opened_taker name) later (starts name n) c

-- ---- a giver's piece is heard

same_as_is : (name : StateName) → is_same name name ≡ true
same_as_is name =
    and_from _ _ (eq-eqb name.which name.which refl) (and_from _ _ (eq-eqb name.frame name.frame refl)
    (and_from _ _ (eq-eqb name.length name.length refl)
    ((bytes_eq-Decides name.digest name.digest).1 refl)))

length-piece_of : (state : List ℕ) (place : ℕ)
    → length (piece_of state place) ≡ size_of (length state) place
length-piece_of state place =
    omega (
      arith,
      length-take PIECE_LIMIT (drop (PIECE_LIMIT * place) state),
      length-drop (PIECE_LIMIT * place) state,
    )

pub is_heard : (state : List ℕ) (t : Taking) (key : Key) (bytes : List ℕ)
    (g : IsOfGiver state t.name key bytes) → g.giver.name ≡ t.name → g.sender < MACHINE_LIMIT
    → get_or t.barred g.sender false ≡ false → is_allowed t.only g.sender ≡ true
    → IsOk (received t key bytes)
is_heard state t key bytes g named machine free allowed =
    let s = is_sent g.giver key g.sender g.asked g.index bytes g.sent in
    let p : Part = record {
      state = g.giver.name;
      place = s.place;
      bytes = piece_of g.giver.bytes s.place;
    } in
    let same : is_same t.name p.state ≡ true =
    ap (is_same t.name) named ∙ same_as_is t.name in
    let inside : nat_lt p.place (count_of t.name.length) ≡ true =
    ap (λ (n : StateName). nat_lt p.place (count_of n.length)) (sym named)
    ∙ lt-ltb _ _ s.inside in
    let size : (length p.bytes == size_of t.name.length p.place) ≡ true =
    eq-eqb _ _ (length-piece_of g.giver.bytes s.place
    ∙ ap (λ (n : ℕ). size_of n s.place) (sym g.named.all)
    ∙ ap (λ (n : StateName). size_of n.length s.place) named) in
    let taken : refusal_of t g.sender p ≡ None =
    rw (same, lt-ltb g.sender MACHINE_LIMIT machine, free, allowed, inside, size) refl in
    let heard_is : received t key bytes
    ≡ Ok (heard_of t.name.digest g.sender p.place p.bytes t.held) =
    ap (heard_read t) (given_back state t.name key bytes g s)
    ∙ ap (λ (why : Option StateRefusal). heard_if why
    (heard_of t.name.digest g.sender p.place p.bytes t.held)) taken in
    subst (λ (r : Result Heard StateRefusal). IsOk r) (sym heard_is) refl

pub takers_hold_what_was_given : TakersHoldWhatWasGiven
takers_hold_what_was_given = record {
  holds = λ honest state name later n c. held_by_takers honest state name later n c;
  heard = is_heard;
}
