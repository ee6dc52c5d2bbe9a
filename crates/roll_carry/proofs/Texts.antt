-- A map or a parcel that is read is what was written, and what was written is read again.
use Rattle.std.proofs.Common.{◌≡◌, ℕ, ◌*◌, ◌^◌, ◌<◌, ◌≤◌, Bool, true, false, cond, eqb, ltb, List, [], ◌∷◌, ◌++◌, length, take, drop, Result, Ok, Err, refl, sym, ap, subst, ◌∙◌, append_assoc, arith}
use Rattle.std.specs.Prelude.{IfOk, ◌||◌}
use Rattle.std.specs.Int.{w16, w32, from_be_bytes, to_be_bytes}
use Rattle.std.specs.List.{flat_map, AllByRecursion}
use Rattle.std.proofs.lemmas.Bool.{eq-eqb, eqb-true, le-ltb, ltb-false, or_parts}
use Rattle.std.proofs.lemmas.List.{append-nil, nil_from_length, take_at, drop_at, take-append-drop, length-append, length-take-le}
use Rattle.std.proofs.lemmas.List.Concat.{flat_map-cons}
use Rattle.std.proofs.lemmas.Nat.{be_bytes_2, from_be_bytes-to_be_bytes_2}
use Rattle.roll_mesh.specs.declared.limits.TheConstants.{MACHINE_LIMIT}
use Rattle.roll_wire.specs.declared.datagram.Envelope.{Envelope}
use Rattle.roll_wire.specs.declared.fault.WireFault.{WireFault}
use Rattle.roll_wire.specs.declared.fault.WireFault.TheVariants.{Short, Kind, Trailing}
use Rattle.roll_wire.specs.declared.limits.TheConstants.{MAGIC}
use Rattle.roll_wire.specs.Reading.{◌>>=◌, Gives, byte_at, envelope_at, magic_at, mask_at, number_at, repeated}
use Rattle.roll_wire.specs.Spelling.{byte, envelope, mask, number, IsByte, IsEnvelope, IsNumber}
use Rattle.roll_wire.proofs.Fields.{IsBytes, IsBytes-drop, IsBytes-take, IsField, Takes, Takes-then, bind_ok, both_at, both_field, byte_field, guard_ok, mask_field, number_field, ok_is, passed_ok, repeated_field, seen_at, seen_field}
use Rattle.roll_wire.proofs.Heads.{magic_again, magic_takes}
use Rattle.roll_wire.proofs.Groups.{bind_assoc, envelope_field}
use Rattle.roll_carry.specs.declared.datagram.Hearing.{Hearing}
use Rattle.roll_carry.specs.declared.limits.TheConstants.{MAP, TAIL_LEAST}
use Rattle.roll_carry.specs.Spelling.{IsHearing, IsMap, Maps, ParcelValue, Says, head, hearing_text, kind, map_text, pair, parcel_text}
use Rattle.roll_carry.specs.Reading.{tail_at, head_at, hearing_at, machine_count, map_of, parcel_at}

-- ---- what each datagram begins with

abbrev pub of_kind : ℕ → Envelope → ℕ × List ℕ → Result (Envelope × List ℕ) WireFault
of_kind kind e found = cond (eqb found.0 kind) (Ok (e, found.1)) (Err Kind)

pub head_takes : (kind : ℕ) (bytes : List ℕ) (e : Envelope) (rest : List ℕ) → IsBytes bytes
    → head_at kind bytes ≡ Ok (e, rest) → Takes bytes (head kind e) rest × IsEnvelope e
unfolding head_at
head_takes kind bytes e rest b h =
    let p = bind_ok (magic_at bytes) (λ magic. envelope_at magic.1 >>= λ x. byte_at x.1 >>=
    of_kind kind x.0) (e, rest) h in
    let q = bind_ok (envelope_at p.0.1) (λ x. byte_at x.1 >>= of_kind kind x.0) (e, rest) p.2 in
    let r = bind_ok (byte_at q.0.1) (of_kind kind q.0.0) (e, rest) q.2 in
    let g = passed_ok (eqb r.0.0 kind) Kind (q.0.0, r.0.1) (e, rest) r.2 in
    let t = magic_takes bytes p.0.0 p.0.1 b p.1 in
    let u = envelope_field.takes p.0.1 q.0.0 q.0.1 t.0.rest_fits q.1 in
    let v = byte_field.takes q.0.1 r.0.0 r.0.1 u.0.rest_fits r.1 in
    let tail = Takes-then p.0.1 (envelope q.0.0) q.0.1 (byte r.0.0) r.0.1 u.0 v.0 in
    let all = Takes-then bytes (number p.0.0) p.0.1 (envelope q.0.0 ++ byte r.0.0) r.0.1 t.0 tail in
    let named : Takes bytes (number MAGIC ++ (envelope q.0.0 ++ byte r.0.0)) r.0.1 =
    subst (λ (n : ℕ). Takes bytes (number n ++ (envelope q.0.0 ++ byte r.0.0)) r.0.1) t.1 all in
    let kept : Takes bytes (head kind q.0.0) r.0.1 =
    subst (λ (n : ℕ). Takes bytes (head n q.0.0) r.0.1) (eqb-true r.0.0 kind g.0) named in
    subst (λ (x : Envelope × List ℕ). Takes bytes (head kind x.0) x.1 × IsEnvelope x.0) g.1
    (kept, u.1)

-- a datagram of another kind, or of this one
pub head_of : (kind found : ℕ) (e : Envelope) (rest : List ℕ) → found < 256 → IsEnvelope e
    → head_at kind (head found e ++ rest) ≡ of_kind kind e (found, rest)
unfolding head_at
head_of kind found e rest small fits =
    let parts : head found e ++ rest ≡ number MAGIC ++ (envelope e ++ (byte found ++ rest)) =
    simp append_assoc in
    rw (
      parts,
      magic_again (envelope e ++ (byte found ++ rest)),
      envelope_field.again e (byte found ++ rest) fits,
      byte_field.again found rest small,
    ) refl

pub head_again : (kind : ℕ) (e : Envelope) (rest : List ℕ) → kind < 256 → IsEnvelope e
    → head_at kind (head kind e ++ rest) ≡ Ok (e, rest)
head_again kind e rest small fits =
    let same : eqb kind kind ≡ true = eq-eqb kind kind refl in
    head_of kind kind e rest small fits ∙ rw same refl

-- ---- a map

abbrev hearing_parts : List ℕ → Result ((List Bool × ℕ) × List ℕ) WireFault
hearing_parts = both_at mask_at (number_at w32)

abbrev hearing_of : List Bool × ℕ → Hearing
hearing_of x = record { hears = x.0; number = x.1 }

hearing_same : (bytes : List ℕ) → hearing_at bytes ≡ seen_at hearing_of hearing_parts bytes
unfolding hearing_at
hearing_same bytes = sym (simp bind_assoc)

hearing_seen : IsField IsHearing hearing_text (seen_at hearing_of hearing_parts)
hearing_seen =
    seen_field hearing_of (λ h. (h.hears, h.number)) (λ x. (length x.0 ≡ 8) × IsNumber x.1)
    (λ x. byte (mask x.0) ++ number x.1) hearing_parts (λ x. refl) (λ h. refl)
    (both_field (λ (bs : List Bool). length bs ≡ 8) (λ (bs : List Bool). byte (mask bs)) mask_at
    IsNumber number (number_at w32) mask_field number_field)

hearing_field : IsField IsHearing hearing_text hearing_at
hearing_field = record {
  takes = λ bytes h rest b e. hearing_seen.takes bytes h rest b (sym (hearing_same bytes) ∙ e);
  again = λ h rest f. hearing_same (hearing_text h ++ rest) ∙ hearing_seen.again h rest f;
}

hearings_field : (n : ℕ) → IsField (λ (hs : List Hearing). (length hs ≡ n) × AllByRecursion IsHearing hs)
    (λ (hs : List Hearing). flat_map hearing_text hs) (repeated hearing_at n)
hearings_field n = repeated_field IsHearing hearing_text hearing_at n hearing_field

length-map_text : (map : List Hearing) → length (map_text map) ≡ 5 * length map
length-map_text [] = refl
length-map_text (h ∷ hs) =
    ap length (flat_map-cons hearing_text h hs)
    ∙ omega (arith, length-append (hearing_text h) (map_text hs), length-map_text hs)

counted : (map : List Hearing) → length map ≤ MACHINE_LIMIT
    → machine_count (map_text map) ≡ length map
counted map few =
    omega (arith, length-map_text map)

abbrev map_end : List Hearing × List ℕ → Result (List Hearing) WireFault
map_end map = cond (eqb (length map.1) 0) (Ok map.0) (Err Trailing)

pub map_takes : (bytes : List ℕ) (map : List Hearing) → IsBytes bytes → map_of bytes ≡ Ok map
    → Says bytes (Maps map)
unfolding map_of
map_takes bytes map b e =
    let p = bind_ok (head_at MAP bytes) (λ h. repeated hearing_at (machine_count h.1) h.1 >>= map_end)
    map e in
    let q = bind_ok (repeated hearing_at (machine_count p.0.1) p.0.1) map_end map p.2 in
    let g = passed_ok (eqb (length q.0.1) 0) Trailing q.0.0 map q.2 in
    let t = head_takes MAP bytes p.0.0 p.0.1 b p.1 in
    let u = (hearings_field (machine_count p.0.1)).takes p.0.1 q.0.0 q.0.1 t.0.rest_fits q.1 in
    let nothing : q.0.1 ≡ [] = nil_from_length q.0.1 (eqb-true (length q.0.1) 0 g.0) in
    let all = Takes-then bytes (head MAP p.0.0) p.0.1 (map_text q.0.0) q.0.1 t.0 u.0 in
    let whole : bytes ≡ head MAP p.0.0 ++ map_text q.0.0 =
    all.parts ∙ ap (λ (rest : List ℕ). (head MAP p.0.0 ++ map_text q.0.0) ++ rest) nothing
    ∙ append-nil (head MAP p.0.0 ++ map_text q.0.0) in
    subst (λ (m : List Hearing). Says bytes (Maps m)) g.1
    (record {
      envelope = p.0.0;
      fits = record { envelope = t.1; content = (omega (arith, u.1.0), u.1.1) };
      text = whole;
    })

map_spelled : (e : Envelope) (map : List Hearing) → IsEnvelope e → IsMap map
    → map_of (head MAP e ++ map_text map) ≡ Ok map
unfolding map_of
map_spelled e map fits f =
    let all : repeated hearing_at (length map) (map_text map) ≡ Ok (map, []) =
    ap (repeated hearing_at (length map)) (sym (append-nil (map_text map)))
    ∙ (hearings_field (length map)).again map [] (refl, f.1) in
    rw (head_again MAP e (map_text map) (omega arith) fits, counted map f.0, all) refl

pub map_again : (bytes : List ℕ) (map : List Hearing) → Says bytes (Maps map)
    → map_of bytes ≡ Ok map
map_again bytes map s =
    ap map_of s.text ∙ map_spelled s.envelope map s.fits.envelope s.fits.content

-- ---- a parcel

-- a number in two bytes
pair_takes : (bytes : List ℕ) (n : ℕ) (rest : List ℕ) → IsBytes bytes
    → number_at w16 bytes ≡ Ok (n, rest) → Takes bytes (pair n) rest × (n < 2 ^ 16)
pair_takes bytes n rest b e =
    let g = guard_ok (ltb (length bytes) 2) Short (from_be_bytes w16 (take 2 bytes), drop 2 bytes)
    (n, rest) e in
    let long : 2 ≤ length bytes = ltb-false _ _ g.0 in
    let front : to_be_bytes w16 (from_be_bytes w16 (take 2 bytes)) ≡ take 2 bytes =
    be_bytes_2 (take 2 bytes) _ (length-take-le 2 bytes long) (IsBytes-take 2 bytes b) refl in
    let fits = IsBytes-take 2 bytes b in
    subst (λ (x : ℕ × List ℕ). Takes bytes (pair x.0) x.1 × (x.0 < 2 ^ 16)) g.1 (
      record {
        parts = sym (ap (λ (t : List ℕ). t ++ drop 2 bytes) front ∙ take-append-drop 2 bytes);
        rest_fits = IsBytes-drop 2 bytes b;
      },
      omega (arith, fits 0, fits 1),
    )

pair_again : (n : ℕ) (rest : List ℕ) → n < 2 ^ 16 → number_at w16 (pair n ++ rest) ≡ Ok (n, rest)
pair_again n rest small =
    let long : ltb (length (pair n ++ rest)) 2 ≡ false = le-ltb _ _ (omega arith) in
    rw (long, from_be_bytes-to_be_bytes_2 n small) refl

tail_takes : (n : ℕ) (bytes x rest : List ℕ) → IsBytes bytes → tail_at n bytes ≡ Ok (x, rest)
    → Takes bytes x rest × ((length x ≡ n) × (TAIL_LEAST ≤ n))
tail_takes n bytes x rest b e =
    let g = guard_ok (ltb n TAIL_LEAST || ltb (length bytes) n) Short (take n bytes, drop n bytes) (x, rest)
    e in
    let both = or_parts (ltb n TAIL_LEAST) (ltb (length bytes) n) g.0 in
    let long : n ≤ length bytes = ltb-false _ _ both.1 in
    subst (λ (y : List ℕ × List ℕ). Takes bytes y.0 y.1 × ((length y.0 ≡ n) × (TAIL_LEAST ≤ n))) g.1 (
      record { parts = sym (take-append-drop n bytes); rest_fits = IsBytes-drop n bytes b },
      (length-take-le n bytes long, ltb-false _ _ both.0),
    )

tail_again : (n : ℕ) (x rest : List ℕ) → length x ≡ n → TAIL_LEAST ≤ n
    → tail_at n (x ++ rest) ≡ Ok (x, rest)
tail_again n x rest len least =
    let whole : ltb n TAIL_LEAST ≡ false = le-ltb _ _ least in
    let long : ltb (length (x ++ rest)) n ≡ false =
    le-ltb _ _ (omega (arith, length-append x rest, len)) in
    rw (whole, long, take_at x rest n len, drop_at x rest n len) refl

-- a parcel whose length two bytes can say
pub record IsSized (p : ParcelValue) : Type 0 where
  pub to : IsByte p.to
  pub steps : IsByte p.steps
  pub least : TAIL_LEAST ≤ length p.tail
  pub most : length p.tail < 2 ^ 16

abbrev made : (to steps : ℕ) → List ℕ × List ℕ → Result (ParcelValue × List ℕ) WireFault
made to steps x = Ok (record { to = to; steps = steps; tail = x.0 }, x.1)

abbrev Reads : List ℕ → ParcelValue × List ℕ → Type 0
Reads bytes x = Takes bytes (parcel_text x.0) x.1 × IsSized x.0

in_parts : (bytes first second third rest : List ℕ) (to steps size : ℕ) (x : List ℕ)
    → Takes bytes (byte to) first × IsByte to → Takes first (byte steps) second × IsByte steps
    → Takes second (pair size) third × (size < 2 ^ 16)
    → Takes third x rest × ((length x ≡ size) × (TAIL_LEAST ≤ size))
    → Reads bytes (record { to = to; steps = steps; tail = x }, rest)
in_parts bytes first second third rest to steps size x t u v w =
    let sized : Takes second (pair (length x)) third =
    subst (λ (n : ℕ). Takes second (pair n) third) (sym w.1.0) v.0 in
    let tail = Takes-then second (pair (length x)) third x rest sized w.0 in
    let behind = Takes-then first (byte steps) second (pair (length x) ++ x) rest u.0 tail in (
      Takes-then bytes (byte to) first (byte steps ++ (pair (length x) ++ x)) rest t.0 behind,
      record {
        to = t.1;
        steps = u.1;
        least = omega (arith, w.1.0, w.1.1);
        most = omega (arith, w.1.0, v.1);
      },
    )

pub parcel_takes : (bytes : List ℕ) (p : ParcelValue) (rest : List ℕ) → IsBytes bytes
    → parcel_at bytes ≡ Ok (p, rest) → Takes bytes (parcel_text p) rest × IsSized p
unfolding parcel_at
parcel_takes bytes p rest b e =
    let q = bind_ok (byte_at bytes) (λ to. byte_at to.1 >>= λ steps. number_at w16 steps.1 >>=
    λ size. tail_at size.0 size.1 >>= made to.0 steps.0) (p, rest) e in
    let r = bind_ok (byte_at q.0.1) (λ steps. number_at w16 steps.1 >>=
    λ size. tail_at size.0 size.1 >>= made q.0.0 steps.0) (p, rest) q.2 in
    let s = bind_ok (number_at w16 r.0.1) (λ size. tail_at size.0 size.1 >>= made q.0.0 r.0.0)
    (p, rest) r.2 in
    let d = bind_ok (tail_at s.0.0 s.0.1) (made q.0.0 r.0.0) (p, rest) s.2 in
    let t = byte_field.takes bytes q.0.0 q.0.1 b q.1 in
    let u = byte_field.takes q.0.1 r.0.0 r.0.1 t.0.rest_fits r.1 in
    let v = pair_takes r.0.1 s.0.0 s.0.1 u.0.rest_fits s.1 in
    let w = tail_takes s.0.0 s.0.1 d.0.0 d.0.1 v.0.rest_fits d.1 in
    let one : ParcelValue = record { to = q.0.0; steps = r.0.0; tail = d.0.0 } in
    subst (Reads bytes) {x = (one, d.0.1)} (ok_is (one, d.0.1) (p, rest) d.2)
    (in_parts bytes q.0.1 r.0.1 s.0.1 d.0.1 q.0.0 r.0.0 s.0.0 d.0.0 t u v w)

pub parcel_again : (p : ParcelValue) (rest : List ℕ) → IsSized p
    → parcel_at (parcel_text p ++ rest) ≡ Ok (p, rest)
unfolding parcel_at
parcel_again p rest f =
    let parts : parcel_text p ++ rest ≡ byte p.to ++ (byte p.steps ++ (pair (length p.tail) ++ (p.tail ++ rest))) =
    simp append_assoc in
    rw (
      parts,
      byte_field.again p.to (byte p.steps ++ (pair (length p.tail) ++ (p.tail ++ rest))) f.to,
      byte_field.again p.steps (pair (length p.tail) ++ (p.tail ++ rest)) f.steps,
      pair_again (length p.tail) (p.tail ++ rest) f.most,
      tail_again (length p.tail) p.tail rest refl f.least,
    ) refl

-- what a caller is told
pub map_found : {A : Type 0} (bytes : List ℕ) (view : A → List Hearing) (r : Result A WireFault)
    → IsBytes bytes → Gives view r (map_of bytes) → IfOk r (λ map. Says bytes (Maps (view map)))
map_found bytes view (Ok map) b given = map_takes bytes (view map) b given
map_found bytes view (Err f) b given = tt
