-- The two laws: what is read is spelled so, and what is spelled so is read.
use Rattle.std.proofs.Common.{◌≡◌, ◌⊎◌, inl, inr, ℕ, zero, suc, ◌*◌, ◌≤◌, Bool, true, false, cond, eqb, ltb, List, [], ◌∷◌, ◌++◌, length, take, drop, Result, Ok, Err, refl, sym, ap, subst, ◌∙◌, arith}
use Rattle.std.specs.Prelude.{IfOk}
use Rattle.std.specs.Int.{w32, w64}
use Rattle.std.specs.List.{flat_map, AllByRecursion}
use Rattle.std.proofs.lemmas.Bool.{eqb-true, ltb-false, le-ltb}
use Rattle.std.proofs.lemmas.List.{append-nil, nil_from_length, take_at, drop_at, take_all, drop_all, take-append-drop, length-append, length-take, length-take-le}
use Rattle.std.proofs.lemmas.List.Concat.{flat_map-cons}
use Rattle.roll_wire.specs.declared.datagram.Envelope.{Envelope}
use Rattle.roll_wire.specs.declared.fault.WireFault.{WireFault}
use Rattle.roll_wire.specs.declared.fault.WireFault.TheVariants.{Short, Kind, Trailing}
use Rattle.roll_wire.specs.declared.limits.TheConstants.{MAGIC}
use Rattle.roll_wire.specs.Reading.{◌>>=◌, Gives as GivesRead, byte_at, envelope_at, magic_at, number_at, repeated}
use Rattle.roll_wire.specs.Spelling.{byte, envelope, long, number, IsLong, IsNumber}
use Rattle.roll_wire.proofs.Fields.{IsBytes, IsBytes-drop, IsField, Takes, Takes-then, bind_ok, both_at, both_field, byte_field, guard_ok, long_field, number_field, ok_is, passed_ok, repeated_field, seen_at, seen_field}
use Rattle.roll_wire.proofs.Heads.{magic_again, magic_takes}
use Rattle.roll_wire.proofs.Groups.{bind_assoc, envelope_field}
use Rattle.roll_state.specs.declared.datagram.StateDatagram.{StateDatagram}
use Rattle.roll_state.specs.declared.limits.TheConstants.{ASK_LIMIT, PIECE_LIMIT}
use Rattle.roll_state.specs.declared.name.StateName.{StateName}
use Rattle.roll_state.specs.Spelling.{Content, Gives, Message, Part, Wants, Wish, body, message, name, spelling, Fits, IsContent, IsName}
use Rattle.roll_state.specs.Reading.{all_of, bytes_at, content_at, name_at, part_at, place_count, wish_at}

-- ---- a name

digest_takes : (n : ℕ) (bytes x rest : List ℕ) → IsBytes bytes → bytes_at n bytes ≡ Ok (x, rest)
    → Takes bytes x rest × (length x ≡ n)
digest_takes n bytes x rest b e =
    let g = guard_ok (ltb (length bytes) n) Short (take n bytes, drop n bytes) (x, rest) e in
    let long : n ≤ length bytes = ltb-false _ _ g.0 in
    subst (λ (y : List ℕ × List ℕ). Takes bytes y.0 y.1 × (length y.0 ≡ n)) g.1 (
      record { parts = sym (take-append-drop n bytes); rest_fits = IsBytes-drop n bytes b },
      length-take-le n bytes long,
    )

digest_again : (n : ℕ) (x rest : List ℕ) → length x ≡ n → bytes_at n (x ++ rest) ≡ Ok (x, rest)
digest_again n x rest len =
    let long : ltb (length (x ++ rest)) n ≡ false =
    le-ltb _ _ (omega (arith, length-append x rest, len)) in
    rw (long, take_at x rest n len, drop_at x rest n len) refl

digest_field : IsField (λ (d : List ℕ). length d ≡ 32) (λ (d : List ℕ). d) (bytes_at 32)
digest_field = record { takes = digest_takes 32; again = digest_again 32 }

abbrev Last : ℕ × List ℕ → Type 0
Last x = IsNumber x.0 × (length x.1 ≡ 32)

abbrev last : ℕ × List ℕ → List ℕ
last x = number x.0 ++ x.1

abbrev last_at : List ℕ → Result ((ℕ × List ℕ) × List ℕ) WireFault
last_at = both_at (number_at w32) (bytes_at 32)

last_field : IsField Last last last_at
last_field =
    both_field IsNumber number (number_at w32) (λ (d : List ℕ). length d ≡ 32)
    (λ (d : List ℕ). d) (bytes_at 32) number_field digest_field

abbrev Rest : ℕ × (ℕ × List ℕ) → Type 0
Rest x = IsNumber x.0 × Last x.1

abbrev rest_text : ℕ × (ℕ × List ℕ) → List ℕ
rest_text x = number x.0 ++ last x.1

abbrev rest_at : List ℕ → Result ((ℕ × (ℕ × List ℕ)) × List ℕ) WireFault
rest_at = both_at (number_at w32) last_at

rest_field : IsField Rest rest_text rest_at
rest_field = both_field IsNumber number (number_at w32) Last last last_at number_field last_field

abbrev name_parts : List ℕ → Result ((ℕ × (ℕ × (ℕ × List ℕ))) × List ℕ) WireFault
name_parts = both_at (number_at w64) rest_at

abbrev name_of : ℕ × (ℕ × (ℕ × List ℕ)) → StateName
name_of x = record { which = x.0; frame = x.1.0; length = x.1.1.0; digest = x.1.1.1 }

name_same : (bytes : List ℕ) → name_at bytes ≡ seen_at name_of name_parts bytes
unfolding name_at
name_same bytes = sym (simp bind_assoc)

name_seen : IsField IsName name (seen_at name_of name_parts)
name_seen =
    seen_field name_of (λ s. (s.which, (s.frame, (s.length, s.digest))))
    (λ x. IsLong x.0 × Rest x.1) (λ x. long x.0 ++ rest_text x.1) name_parts (λ x. refl) (λ s. refl)
    (both_field IsLong long (number_at w64) Rest rest_text rest_at long_field rest_field)

name_takes : (bytes : List ℕ) (s : StateName) (rest : List ℕ) → IsBytes bytes
    → name_at bytes ≡ Ok (s, rest) → Takes bytes (name s) rest × IsName s
name_takes bytes s rest b e = name_seen.takes bytes s rest b (sym (name_same bytes) ∙ e)

name_again : (s : StateName) (rest : List ℕ) → IsName s → name_at (name s ++ rest) ≡ Ok (s, rest)
name_again s rest h = name_same (name s ++ rest) ∙ name_seen.again s rest h

-- ---- a piece

abbrev part_text : Part → List ℕ
part_text p = name p.state ++ (number p.place ++ p.bytes)

abbrev IsPart : Part → Type 0
IsPart p = IsName p.state × (IsNumber p.place × (length p.bytes ≤ PIECE_LIMIT))

abbrev part_with : StateName → ℕ × List ℕ → Result (Part × List ℕ) WireFault
part_with s place = Ok (
  record { state = s; place = place.0; bytes = take PIECE_LIMIT place.1 },
  drop PIECE_LIMIT place.1,
)

part_takes : (bytes : List ℕ) (p : Part) (rest : List ℕ) → IsBytes bytes
    → part_at bytes ≡ Ok (p, rest) → Takes bytes (part_text p) rest × IsPart p
unfolding part_at
part_takes bytes p rest b e =
    let q = bind_ok (name_at bytes) (λ s. number_at w32 s.1 >>= part_with s.0) (p, rest) e in
    let r = bind_ok (number_at w32 q.0.1) (part_with q.0.0) (p, rest) q.2 in
    let t = name_takes bytes q.0.0 q.0.1 b q.1 in
    let u = number_field.takes q.0.1 r.0.0 r.0.1 t.0.rest_fits r.1 in
    let bytes_there : Takes r.0.1 (take PIECE_LIMIT r.0.1) (drop PIECE_LIMIT r.0.1) = record {
      parts = sym (take-append-drop PIECE_LIMIT r.0.1);
      rest_fits = IsBytes-drop PIECE_LIMIT r.0.1 u.0.rest_fits;
    } in
    let tail = Takes-then q.0.1 (number r.0.0) r.0.1 (take PIECE_LIMIT r.0.1)
    (drop PIECE_LIMIT r.0.1) u.0 bytes_there in
    let made : Part × List ℕ = (
      record { state = q.0.0; place = r.0.0; bytes = take PIECE_LIMIT r.0.1 },
      drop PIECE_LIMIT r.0.1,
    ) in
    subst (λ (x : Part × List ℕ). Takes bytes (part_text x.0) x.1 × IsPart x.0)
    (ok_is made (p, rest) r.2) (
      Takes-then bytes (name q.0.0) q.0.1 (number r.0.0 ++ take PIECE_LIMIT r.0.1)
          (drop PIECE_LIMIT r.0.1) t.0 tail,
      (t.1, (u.1, omega (arith, length-take PIECE_LIMIT r.0.1))),
    )

part_again : (p : Part) → IsPart p → part_at (part_text p) ≡ Ok (p, [])
unfolding part_at
part_again p f =
    let all : take PIECE_LIMIT p.bytes ≡ p.bytes = take_all PIECE_LIMIT p.bytes f.1.1 in
    let none : drop PIECE_LIMIT p.bytes ≡ [] = drop_all PIECE_LIMIT p.bytes f.1.1 in
    rw (
      name_again p.state (number p.place ++ p.bytes) f.0,
      number_field.again p.place p.bytes f.1.0,
      all,
      none,
    ) refl

-- ---- an ask

abbrev wish_text : Wish → List ℕ
wish_text w = name w.state ++ flat_map number w.places

abbrev IsWish : Wish → Type 0
IsWish w = IsName w.state × ((length w.places ≤ ASK_LIMIT) × AllByRecursion IsNumber w.places)

places_field : (n : ℕ) → IsField (λ (ns : List ℕ). (length ns ≡ n) × AllByRecursion IsNumber ns)
    (λ (ns : List ℕ). flat_map number ns) (repeated (number_at w32) n)
places_field n = repeated_field IsNumber number (number_at w32) n number_field

wish_takes : (bytes : List ℕ) (w : Wish) (rest : List ℕ) → IsBytes bytes
    → wish_at bytes ≡ Ok (w, rest) → Takes bytes (wish_text w) rest × IsWish w
unfolding wish_at
wish_takes bytes w rest b e =
    let q = bind_ok (name_at bytes) (λ s. repeated (number_at w32) (place_count s.1) s.1 >>=
    λ places. Ok (record { state = s.0; places = places.0 }, places.1)) (w, rest) e in
    let r = bind_ok (repeated (number_at w32) (place_count q.0.1) q.0.1)
    (λ places. Ok (record { state = q.0.0; places = places.0 }, places.1)) (w, rest) q.2 in
    let t = name_takes bytes q.0.0 q.0.1 b q.1 in
    let u = (places_field (place_count q.0.1)).takes q.0.1 r.0.0 r.0.1 t.0.rest_fits r.1 in
    let made : Wish × List ℕ = (record { state = q.0.0; places = r.0.0 }, r.0.1) in
    subst (λ (x : Wish × List ℕ). Takes bytes (wish_text x.0) x.1 × IsWish x.0)
    (ok_is made (w, rest) r.2) (
      Takes-then bytes (name q.0.0) q.0.1 (flat_map number r.0.0) r.0.1 t.0 u.0,
      (t.1, (omega (arith, u.1.0), u.1.1)),
    )

length-places : (places : List ℕ) → length (flat_map number places) ≡ 4 * length places
length-places [] = refl
length-places (p ∷ ps) =
    ap length (flat_map-cons number p ps)
    ∙ omega (arith, length-append (number p) (flat_map number ps), length-places ps)

counted : (places : List ℕ) → length places ≤ ASK_LIMIT
    → place_count (flat_map number places) ≡ length places
counted places few =
    omega (arith, length-places places)

wish_again : (w : Wish) → IsWish w → wish_at (wish_text w) ≡ Ok (w, [])
unfolding wish_at
wish_again w f =
    let places : repeated (number_at w32) (length w.places) (flat_map number w.places)
    ≡ Ok (w.places, []) =
    ap (repeated (number_at w32) (length w.places)) (sym (append-nil (flat_map number w.places)))
    ∙ (places_field (length w.places)).again w.places [] (refl, f.1.1) in
    rw (name_again w.state (flat_map number w.places) f.0, counted w.places f.1.0, places) refl

-- ---- a kind, and what follows it

chosen : {A : Type 0} (b : Bool) (x y z : A) → cond b x y ≡ z
    → ((b ≡ true) × (x ≡ z)) ⊎ ((b ≡ false) × (y ≡ z))
chosen true x y z e = inl (refl, e)
chosen false x y z e = inr (refl, e)

abbrev given : Part × List ℕ → Result (Content × List ℕ) WireFault
given p = Ok (Gives p.0, p.1)

abbrev wanted : Wish × List ℕ → Result (Content × List ℕ) WireFault
wanted w = Ok (Wants w.0, w.1)

abbrev of_kind : ℕ × List ℕ → Result (Content × List ℕ) WireFault
of_kind kind =
    cond (eqb kind.0 5) (part_at kind.1 >>= given)
    (cond (eqb kind.0 6) (wish_at kind.1 >>= wanted) (Err Kind))

abbrev Reads : List ℕ → Content × List ℕ → Type 0
Reads bytes x = Takes bytes (body x.0) x.1 × IsContent x.0

part_reads : (bytes behind : List ℕ) (kind : ℕ) (x : Content × List ℕ)
    → Takes bytes (byte kind) behind → kind ≡ 5 → (part_at behind >>= given) ≡ Ok x → Reads bytes x
part_reads bytes behind kind x t k e =
    let p = bind_ok (part_at behind) given x e in
    let u = part_takes behind p.0.0 p.0.1 t.rest_fits p.1 in
    let five : Takes bytes (byte 5) behind =
    subst (λ (n : ℕ). Takes bytes (byte n) behind) k t in
    subst (λ (y : Content × List ℕ). Reads bytes y) (ok_is (Gives p.0.0, p.0.1) x p.2)
    (Takes-then bytes (byte 5) behind (part_text p.0.0) p.0.1 five u.0, u.1)

wish_reads : (bytes behind : List ℕ) (kind : ℕ) (x : Content × List ℕ)
    → Takes bytes (byte kind) behind → kind ≡ 6 → (wish_at behind >>= wanted) ≡ Ok x → Reads bytes x
wish_reads bytes behind kind x t k e =
    let p = bind_ok (wish_at behind) wanted x e in
    let u = wish_takes behind p.0.0 p.0.1 t.rest_fits p.1 in
    let six : Takes bytes (byte 6) behind =
    subst (λ (n : ℕ). Takes bytes (byte n) behind) k t in
    subst (λ (y : Content × List ℕ). Reads bytes y) (ok_is (Wants p.0.0, p.0.1) x p.2)
    (Takes-then bytes (byte 6) behind (wish_text p.0.0) p.0.1 six u.0, u.1)

content_takes : (bytes : List ℕ) (c : Content) (rest : List ℕ) → IsBytes bytes
    → content_at bytes ≡ Ok (c, rest) → Takes bytes (body c) rest × IsContent c
unfolding content_at
content_takes bytes c rest b e =
    let p = bind_ok (byte_at bytes) of_kind (c, rest) e in
    let t = byte_field.takes bytes p.0.0 p.0.1 b p.1 in
    elim (chosen (eqb p.0.0 5) (part_at p.0.1 >>= given)
    (cond (eqb p.0.0 6) (wish_at p.0.1 >>= wanted) (Err Kind)) (Ok (c, rest)) p.2) [
      | inl five ↦ part_reads bytes p.0.1 p.0.0 (c, rest) t.0 (eqb-true p.0.0 5 five.0) five.1
      | inr more ↦ elim (chosen (eqb p.0.0 6) (wish_at p.0.1 >>= wanted) (Err Kind) (Ok (c, rest))
          more.1) [
            | inl six ↦ wish_reads bytes p.0.1 p.0.0 (c, rest) t.0 (eqb-true p.0.0 6 six.0) six.1
            | inr none ↦ absurd (no_kind c rest none.1)
          ]
    ]
  where
    no_kind : (c : Content) (rest : List ℕ)
        → (let r : Result (Content × List ℕ) WireFault = Err Kind in r) ≡ Ok (c, rest) → ⊥
    no_kind c rest e = absurd cc

content_again : (c : Content) → IsContent c → content_at (body c) ≡ Ok (c, [])
unfolding content_at
content_again (Gives p) f =
    rw (byte_field.again 5 (part_text p) (omega arith), part_again p f) refl
content_again (Wants w) f =
    rw (byte_field.again 6 (wish_text w) (omega arith), wish_again w f) refl

-- ---- the whole

abbrev ended : Envelope → Content × List ℕ → Result Message WireFault
ended envelope c = cond (eqb (length c.1) 0) (Ok (record { envelope = envelope; content = c.0 }))
    (Err Trailing)

pub all_takes : (bytes : List ℕ) (m : Message) → IsBytes bytes → all_of bytes ≡ Ok m → Fits m
    × (bytes ≡ spelling m)
unfolding all_of
all_takes bytes m b e =
    let p = bind_ok (magic_at bytes) (λ magic. envelope_at magic.1 >>= λ h. content_at h.1 >>=
    ended h.0) m e in
    let q = bind_ok (envelope_at p.0.1) (λ h. content_at h.1 >>= ended h.0) m p.2 in
    let r = bind_ok (content_at q.0.1) (ended q.0.0) m q.2 in
    let g = passed_ok (eqb (length r.0.1) 0) Trailing
    (record { envelope = q.0.0; content = r.0.0 }) m r.2 in
    let t = magic_takes bytes p.0.0 p.0.1 b p.1 in
    let u = envelope_field.takes p.0.1 q.0.0 q.0.1 t.0.rest_fits q.1 in
    let v = content_takes q.0.1 r.0.0 r.0.1 u.0.rest_fits r.1 in
    let nothing : r.0.1 ≡ [] = nil_from_length r.0.1 (eqb-true (length r.0.1) 0 g.0) in
    let text : List ℕ = envelope q.0.0 ++ body r.0.0 in
    let tail = Takes-then p.0.1 (envelope q.0.0) q.0.1 (body r.0.0) r.0.1 u.0 v.0 in
    let all = Takes-then bytes (number p.0.0) p.0.1 text r.0.1 t.0 tail in
    let whole : bytes ≡ number MAGIC ++ text =
    all.parts ∙ ap (λ (rest : List ℕ). (number p.0.0 ++ text) ++ rest) nothing
    ∙ append-nil (number p.0.0 ++ text) ∙ ap (λ (n : ℕ). number n ++ text) t.1 in
    subst (λ (x : Message). Fits x × (bytes ≡ spelling x)) g.1
    (record { envelope = u.1; content = v.1 }, whole)

pub all_again : (m : Message) → Fits m → all_of (spelling m) ≡ Ok m
unfolding all_of
all_again m f =
    rw (
      magic_again (envelope m.envelope ++ body m.content),
      envelope_field.again m.envelope (body m.content) f.envelope,
      content_again m.content f.content,
    ) refl

-- ---- what a caller is told

pub is_found : (bytes : List ℕ) (r : Result StateDatagram WireFault) → IsBytes bytes
    → GivesRead message r (all_of bytes) → IfOk r (λ d. Fits (message d)
    × (bytes ≡ spelling (message d)))
is_found bytes (Ok d) b given = all_takes bytes (message d) b given
is_found bytes (Err e) b given = tt

-- no two datagrams have one spelling
pub one_spelling : (m n : Message) → Fits m → Fits n → spelling m ≡ spelling n → m ≡ n
one_spelling m n f g e = ok_is m n (sym (all_again m f) ∙ (ap all_of e ∙ all_again n g))

-- ---- an ask names no more than its limit

repeated_length : {A : Type 0} (read : List ℕ → Result (A × List ℕ) WireFault) (n : ℕ)
    (bytes : List ℕ) (x : List A × List ℕ) → repeated read n bytes ≡ Ok x → length x.0 ≡ n
unfolding repeated
repeated_length {A = A} read zero bytes x e =
    ap (λ (y : List A × List ℕ). length y.0) (sym (ok_is ([], bytes) x e))
repeated_length {A = A} read (suc n) bytes x e =
    let p = bind_ok (read bytes) (λ first. repeated read n first.1 >>=
    λ others. Ok (first.0 ∷ others.0, others.1)) x e in
    let q = bind_ok (repeated read n p.0.1) (λ others. Ok (p.0.0 ∷ others.0, others.1)) x p.2 in
    let made : List A × List ℕ = (p.0.0 ∷ q.0.0, q.0.1) in
    ap (λ (y : List A × List ℕ). length y.0) (sym (ok_is made x q.2))
    ∙ ap suc (repeated_length read n p.0.1 q.0 q.1)

few_places : (bytes : List ℕ) (x : Wish × List ℕ) → wish_at bytes ≡ Ok x
    → length x.0.places ≤ ASK_LIMIT
unfolding wish_at
few_places bytes x e =
    let q = bind_ok (name_at bytes) (λ s. repeated (number_at w32) (place_count s.1) s.1 >>=
    λ places. Ok (record { state = s.0; places = places.0 }, places.1)) x e in
    let r = bind_ok (repeated (number_at w32) (place_count q.0.1) q.0.1)
    (λ places. Ok (record { state = q.0.0; places = places.0 }, places.1)) x q.2 in
    let made : Wish × List ℕ = (record { state = q.0.0; places = r.0.0 }, r.0.1) in
    omega (
      arith,
      ap (λ (y : Wish × List ℕ). length y.0.places) (ok_is made x r.2),
      repeated_length (number_at w32) (place_count q.0.1) q.0.1 r.0 r.1,
    )

wants_one : (p q : Wish) → Wants p ≡ Wants q → p ≡ q
wants_one p q e = cc e

of_part : (behind : List ℕ) (x : Content × List ℕ) (w : Wish) → (part_at behind >>= given) ≡ Ok x
    → x.0 ≡ Wants w → length w.places ≤ ASK_LIMIT
of_part behind x w e is =
    let p = bind_ok (part_at behind) given x e in
    let no : Gives p.0.0 ≡ Wants w =
    ap (λ (y : Content × List ℕ). y.0) (ok_is (Gives p.0.0, p.0.1) x p.2) ∙ is in
    absurd (cc no)

of_wish : (behind : List ℕ) (x : Content × List ℕ) (w : Wish) → (wish_at behind >>= wanted) ≡ Ok x
    → x.0 ≡ Wants w → length w.places ≤ ASK_LIMIT
of_wish behind x w e is =
    let p = bind_ok (wish_at behind) wanted x e in
    let one : p.0.0 ≡ w =
    wants_one p.0.0 w
    (ap (λ (y : Content × List ℕ). y.0) (ok_is (Wants p.0.0, p.0.1) x p.2) ∙ is) in
    omega (arith, few_places behind p.0 p.1, ap (λ (y : Wish). length y.places) one)

few_in : (bytes : List ℕ) (x : Content × List ℕ) (w : Wish) → content_at bytes ≡ Ok x
    → x.0 ≡ Wants w → length w.places ≤ ASK_LIMIT
unfolding content_at
few_in bytes x w e is =
    let p = bind_ok (byte_at bytes) of_kind x e in
    elim (chosen (eqb p.0.0 5) (part_at p.0.1 >>= given)
    (cond (eqb p.0.0 6) (wish_at p.0.1 >>= wanted) (Err Kind)) (Ok x) p.2) [
      | inl five ↦ of_part p.0.1 x w five.1 is
      | inr more ↦ elim (chosen (eqb p.0.0 6) (wish_at p.0.1 >>= wanted) (Err Kind) (Ok x) more.1) [
        | inl six ↦ of_wish p.0.1 x w six.1 is
        | inr none ↦ absurd (cc none.1)
      ]
    ]

pub few_wanted : (bytes : List ℕ) (m : Message) (w : Wish) → all_of bytes ≡ Ok m
    → m.content ≡ Wants w → length w.places ≤ ASK_LIMIT
unfolding all_of
few_wanted bytes m w e is =
    let p = bind_ok (magic_at bytes) (λ magic. envelope_at magic.1 >>= λ h. content_at h.1 >>=
    ended h.0) m e in
    let q = bind_ok (envelope_at p.0.1) (λ h. content_at h.1 >>= ended h.0) m p.2 in
    let r = bind_ok (content_at q.0.1) (ended q.0.0) m q.2 in
    let g = passed_ok (eqb (length r.0.1) 0) Trailing
    (record { envelope = q.0.0; content = r.0.0 }) m r.2 in
    few_in q.0.1 r.0 w r.1 (ap (λ (x : Message). x.content) g.1 ∙ is)
