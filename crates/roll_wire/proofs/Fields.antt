-- A field that is read is the field that was written, and what was written is read again.
use Rattle.std.proofs.Common.{◌≡◌, ℕ, zero, suc, ◌+◌, ◌-◌, ◌*◌, ◌/◌, ◌%◌, ◌^◌, ◌<◌, ◌≤◌, Bool, true, false, cond, eqb, ltb, List, [], ◌∷◌, ◌++◌, length, map, get_or, take, drop, Option, Some, None, Result, Ok, Err, refl, sym, ap, subst, ◌∙◌, append_assoc, arith, inl, inr}
use Rattle.std.specs.Prelude.{IfSome}
use Rattle.std.specs.Int.{Width, w32, w64, byte_len, from_be_bytes, to_be_bytes, from_bool}
use Rattle.std.specs.List.{flat_map, AllByRecursion}
use Rattle.std.proofs.lemmas.Bool.{cases_lt, eqb-true, eqb-false, ne_eqb, lt-ltb, ltb-true, ltb-false, le-ltb}
use Rattle.std.proofs.lemmas.List.{take_at, drop_at, take-append-drop, length-append, length-map, length-take, get_or-drop, get_or-take, get_or_past}
use Rattle.std.proofs.lemmas.List.Concat.{flat_map-cons}
use Rattle.std.proofs.lemmas.Nat.{be_bytes_4, be_bytes_8, from_be_bytes-to_be_bytes_4, from_be_bytes-to_be_bytes_8}
use Rattle.roll_wire.specs.declared.fault.WireFault.{WireFault}
use Rattle.roll_wire.specs.declared.fault.WireFault.TheVariants.{Short, Long}
use Rattle.roll_wire.specs.Spelling.{number, long, short, digits, digits_limit, byte, flag, mask, optional, present, masked, IsByte, IsNumber, IsLong}
use Rattle.roll_wire.proofs.Digits.{some_limit}
use Rattle.roll_wire.specs.Reading.{◌>>=◌, number_at, byte_at, flag_at, digits_at, short_at, bits, mask_at, optional_at, place_at, places_at, masked_at, repeated}

abbrev pub IsBytes : List ℕ → Type 0
IsBytes bytes = (i : ℕ) → get_or bytes i 0 < 256

pub IsBytes-drop : (n : ℕ) (bytes : List ℕ) → IsBytes bytes → IsBytes (drop n bytes)
IsBytes-drop n bytes h i = rw get_or-drop (h (n + i))

pub IsBytes-take : (n : ℕ) (bytes : List ℕ) → IsBytes bytes → IsBytes (take n bytes)
IsBytes-take n bytes h i =
    elim (cases_lt i n) [
      | inl lt ↦ rw (get_or-take n bytes i 0 lt) (h i)
      | inr le ↦ rw (get_or_past (take n bytes) i 0 (omega (arith, length-take n bytes)))
          (omega arith)
    ]

pub IsBytes-rest : (b : ℕ) (bytes : List ℕ) → IsBytes (b ∷ bytes) → IsBytes bytes
IsBytes-rest b bytes h i = h (suc i)

-- the value of a step that did not fail
pub bind_ok : {A B : Type 0} (r : Result A WireFault) (f : A → Result B WireFault) (y : B)
    → (r >>= f) ≡ Ok y → (x : A) × (r ≡ Ok x) × (f x ≡ Ok y)
bind_ok (Ok x) f y e = (x, refl, e)
bind_ok (Err d) f y e = absurd cc

-- a test that failed a step, or a test that let it go on
pub guard_ok : {A : Type 0} (b : Bool) (d : WireFault) (x y : A) → cond b (Err d) (Ok x) ≡ Ok y
    → (b ≡ false) × (x ≡ y)
guard_ok true d x y e = absurd cc
guard_ok false d x y e = (refl, cc)

pub passed_ok : {A : Type 0} (b : Bool) (d : WireFault) (x y : A) → cond b (Ok x) (Err d) ≡ Ok y
    → (b ≡ true) × (x ≡ y)
passed_ok true d x y e = (refl, cc)
passed_ok false d x y e = absurd cc

abbrev done : {A : Type 0} → A → Result A WireFault
done x = Ok x

pub ok_is : {A : Type 0} (x y : A) → done x ≡ done y → x ≡ y
ok_is x y e = cc

-- what a reader took from the front
pub record Takes (bytes text rest : List ℕ) : Type 0 where
  pub parts : bytes ≡ text ++ rest
  pub rest_fits : IsBytes rest

pub Takes-then : (a x b y c : List ℕ) → Takes a x b → Takes b y c → Takes a (x ++ y) c
Takes-then a x b y c p q = record {
  parts = p.parts ∙ ap (λ (t : List ℕ). x ++ t) q.parts
      ∙ sym (append_assoc x y c);
  rest_fits = q.rest_fits;
}

-- a reader takes just the spelling of what it reads, and reads it again
pub record IsField {A : Type 0} (fits : A → Type 0) (text : A → List ℕ)
    (read : List ℕ → Result (A × List ℕ) WireFault) : Type 0 where
  pub takes : (bytes : List ℕ) (x : A) (rest : List ℕ) → IsBytes bytes → read bytes ≡ Ok (x, rest)
      → Takes bytes (text x) rest × fits x
  pub again : (x : A) (rest : List ℕ) → fits x → read (text x ++ rest) ≡ Ok (x, rest)

-- ---- numbers

pub record IsWide (w : Width) (limit : ℕ) : Type 0 where
  pub len : (n : ℕ) → length (to_be_bytes w n) ≡ byte_len w
  pub back : (bytes : List ℕ) → length bytes ≡ byte_len w → IsBytes bytes
      → to_be_bytes w (from_be_bytes w bytes) ≡ bytes
  pub again : (n : ℕ) → n < limit → from_be_bytes w (to_be_bytes w n) ≡ n
  pub below : (bytes : List ℕ) → IsBytes bytes → from_be_bytes w bytes < limit

wide32 : IsWide w32 (2 ^ 32)
wide32 = record {
  len = λ n. refl;
  back = λ bytes len fits. be_bytes_4 bytes _ len fits refl;
  again = λ n lt. from_be_bytes-to_be_bytes_4 n lt;
  below = λ bytes fits. omega (arith, fits 0, fits 1, fits 2, fits 3);
}

wide64 : IsWide w64 (2 ^ 64)
wide64 = record {
  len = λ n. refl;
  back = λ bytes len fits. be_bytes_8 bytes _ len fits refl;
  again = λ n lt. from_be_bytes-to_be_bytes_8 n lt;
  below = λ bytes fits. omega (
    arith,
    fits 0,
    fits 1,
    fits 2,
    fits 3,
    fits 4,
    fits 5,
    fits 6,
    fits 7,
  );
}

number_takes : (w : Width) (limit : ℕ) (wide : IsWide w limit) (bytes : List ℕ) (n : ℕ)
    (rest : List ℕ) → IsBytes bytes → number_at w bytes ≡ Ok (n, rest)
    → Takes bytes (to_be_bytes w n) rest × (n < limit)
number_takes w limit wide bytes n rest fits e =
    let g = guard_ok (ltb (length bytes) (byte_len w)) Short
    (from_be_bytes w (take (byte_len w) bytes), drop (byte_len w) bytes) (n, rest) e in
    let long : byte_len w ≤ length bytes = ltb-false _ _ g.0 in
    let n-is : from_be_bytes w (take (byte_len w) bytes) ≡ n = ap (λ (p : ℕ × List ℕ). p.0) g.1 in
    let rest-is : drop (byte_len w) bytes ≡ rest = ap (λ (p : ℕ × List ℕ). p.1) g.1 in
    let front : to_be_bytes w n ≡ take (byte_len w) bytes =
    rw (← n-is) (wide.back (take (byte_len w) bytes)
    (omega (arith, length-take (byte_len w) bytes)) (IsBytes-take (byte_len w) bytes fits)) in (
      record {
        parts = rw (front, ← rest-is) (sym (take-append-drop (byte_len w) bytes));
        rest_fits =
            rw (← rest-is) (IsBytes-drop (byte_len w) bytes fits);
      },
      rw (← n-is) (wide.below (take (byte_len w) bytes) (IsBytes-take (byte_len w) bytes fits)),
    )

number_again : (w : Width) (limit : ℕ) (wide : IsWide w limit) (n : ℕ) (rest : List ℕ) → n < limit
    → number_at w (to_be_bytes w n ++ rest) ≡ Ok (n, rest)
number_again w limit wide n rest lt =
    let len = wide.len n in
    let long : ltb (length (to_be_bytes w n ++ rest)) (byte_len w) ≡ false =
    le-ltb _ _ (omega (arith, length-append (to_be_bytes w n) rest)) in
    rw (
      long,
      take_at (to_be_bytes w n) rest (byte_len w) len,
      drop_at (to_be_bytes w n) rest (byte_len w) len,
      wide.again n lt,
    ) refl

pub number_field : IsField IsNumber number (number_at w32)
number_field = record {
  takes = number_takes w32 (2 ^ 32) wide32;
  again =
      number_again w32 (2 ^ 32) wide32;
}

pub long_field : IsField IsLong long (number_at w64)
long_field = record {
  takes = number_takes w64 (2 ^ 64) wide64;
  again =
      number_again w64 (2 ^ 64) wide64;
}

-- ---- bytes and flags

byte_takes : (bytes : List ℕ) (n : ℕ) (rest : List ℕ) → IsBytes bytes → byte_at bytes ≡ Ok (n, rest)
    → Takes bytes (byte n) rest × (n < 256)
unfolding byte_at
byte_takes [] n rest fits e = absurd cc
byte_takes (b ∷ bytes) n rest fits e =
    subst (λ (x : ℕ × List ℕ). Takes (b ∷ bytes) (byte x.0) x.1 × (x.0 < 256))
    (ok_is (b, bytes) (n, rest) e)
    (record { parts = refl; rest_fits = IsBytes-rest b bytes fits }, fits 0)

byte_again : (n : ℕ) (rest : List ℕ) → n < 256 → byte_at (byte n ++ rest) ≡ Ok (n, rest)
unfolding byte_at
byte_again n rest h = refl

pub byte_field : IsField IsByte byte byte_at
byte_field = record { takes = byte_takes; again = byte_again }

flag_takes : (bytes : List ℕ) (b : Bool) (rest : List ℕ) → IsBytes bytes
    → flag_at bytes ≡ Ok (b, rest) → Takes bytes (flag b) rest × Unit {0}
unfolding flag_at
flag_takes [] b rest fits e = absurd cc
flag_takes (zero ∷ bytes) b rest fits e =
    subst (λ (x : Bool × List ℕ). Takes (0 ∷ bytes) (flag x.0) x.1 × Unit {0})
    (ok_is (false, bytes) (b, rest) e)
    (record { parts = refl; rest_fits = IsBytes-rest 0 bytes fits }, tt)
flag_takes (suc zero ∷ bytes) b rest fits e =
    subst (λ (x : Bool × List ℕ). Takes (1 ∷ bytes) (flag x.0) x.1 × Unit {0})
    (ok_is (true, bytes) (b, rest) e)
    (record { parts = refl; rest_fits = IsBytes-rest 1 bytes fits }, tt)
flag_takes (suc (suc n) ∷ bytes) b rest fits e = absurd cc

flag_again : (b : Bool) (rest : List ℕ) → Unit {0} → flag_at (flag b ++ rest) ≡ Ok (b, rest)
unfolding flag_at
flag_again true rest h = refl
flag_again false rest h = refl

pub flag_field : IsField (λ b. Unit {0}) flag flag_at
flag_field = record { takes = flag_takes; again = flag_again }

-- ---- short numbers

last_takes : (more byte : ℕ) (bytes rest : List ℕ) → byte < 128 → Takes bytes (byte ∷ []) rest
    → Takes bytes (digits (suc more) byte) rest × (byte < digits_limit (suc more))
unfolding digits digits_limit
last_takes more byte bytes rest small t =
    (rw (lt-ltb byte 128 small) t, omega (arith, some_limit more))

more_takes : (more byte higher : ℕ) (bytes then rest : List ℕ) → 128 ≤ byte → byte < 256
    → 1 ≤ higher → Takes bytes (byte ∷ []) then → Takes then (digits more higher) rest
    → higher < digits_limit more
    → Takes bytes (digits (suc more) (byte - 128 + 128 * higher)) rest
    × (byte - 128 + 128 * higher < digits_limit (suc more))
unfolding digits digits_limit
more_takes more byte higher bytes then rest high byte_fits some t u below =
    let n : ℕ = byte - 128 + 128 * higher in
    let great : ltb n 128 ≡ false = le-ltb n 128 (omega arith) in
    let low : 128 + n % 128 ≡ byte = omega arith in
    let rest_is : n / 128 ≡ higher = omega arith in
    let both = Takes-then bytes (byte ∷ []) then (digits more higher) rest t u in
    (rw (great, low, rest_is) both, omega arith)

abbrev then_higher : ℕ → ℕ → List ℕ → Result (ℕ × List ℕ) WireFault
then_higher more byte then = digits_at more then >>= λ higher.
    cond (eqb higher.0 0) (Err Long) (Ok (byte - 128 + 128 * higher.0, higher.1))

some_more : (n : ℕ) → eqb n 0 ≡ false → 1 ≤ n
some_more zero e = absurd cc
some_more (suc n) e = omega arith

not_zero : (n : ℕ) → 1 ≤ n → eqb n 0 ≡ false
not_zero n h = ne_eqb n 0 (λ e. omega arith)

abbrev Taken : ℕ → List ℕ → ℕ → List ℕ → Type 0
Taken more bytes n rest = Takes bytes (digits more n) rest × (n < digits_limit more)

first_takes : (more : ℕ) (bytes : List ℕ) (byte : ℕ) (then : List ℕ) (n : ℕ) (rest : List ℕ)
    (is_last : Bool) → ltb byte 128 ≡ is_last → Takes bytes (byte ∷ []) then → byte < 256
    → ((higher : ℕ) (rest : List ℕ) → digits_at more then ≡ Ok (higher, rest)
    → Taken more then higher rest)
    → cond is_last (Ok (byte, then)) (then_higher more byte then) ≡ Ok (n, rest)
    → Taken (suc more) bytes n rest
first_takes more bytes byte then n rest true small t byte_fits others e =
    subst (λ (x : ℕ × List ℕ). Taken (suc more) bytes x.0 x.1) (ok_is (byte, then) (n, rest) e)
    (last_takes more byte bytes then (ltb-true byte 128 small) t)
first_takes more bytes byte then n rest false high t byte_fits others e =
    let q = bind_ok (digits_at more then) (λ higher. cond (eqb higher.0 0) (Err Long)
    (Ok (byte - 128 + 128 * higher.0, higher.1))) (n, rest) e in
    let g = guard_ok (eqb q.0.0 0) Long (byte - 128 + 128 * q.0.0, q.0.1) (n, rest) q.2 in
    let u = others q.0.0 q.0.1 q.1 in
    subst (λ (x : ℕ × List ℕ). Taken (suc more) bytes x.0 x.1) g.1
    (more_takes more byte q.0.0 bytes then q.0.1 (ltb-false byte 128 high) byte_fits
    (some_more q.0.0 g.0) t u.0 u.1)

digits_takes : (more : ℕ) (bytes : List ℕ) (n : ℕ) (rest : List ℕ) → IsBytes bytes
    → digits_at more bytes ≡ Ok (n, rest) → Taken more bytes n rest
unfolding digits digits_at digits_limit
digits_takes zero bytes n rest b e =
    let p = bind_ok (byte_at bytes) (λ last. cond (ltb last.0 16) (Ok last) (Err Long)) (n, rest)
    e in
    let g = passed_ok (ltb p.0.0 16) Long p.0 (n, rest) p.2 in
    let t = byte_field.takes bytes p.0.0 p.0.1 b p.1 in
    subst (λ (x : ℕ × List ℕ). Takes bytes (x.0 ∷ []) x.1 × (x.0 < 16)) g.1
    (t.0, ltb-true p.0.0 16 g.0)
digits_takes (suc more) bytes n rest b e =
    let p = bind_ok (byte_at bytes) (λ byte. cond (ltb byte.0 128) (Ok byte)
    (then_higher more byte.0 byte.1)) (n, rest) e in
    let t = byte_field.takes bytes p.0.0 p.0.1 b p.1 in
    first_takes more bytes p.0.0 p.0.1 n rest (ltb p.0.0 128) refl t.0 t.1
    (λ higher after e'. digits_takes more p.0.1 higher after t.0.rest_fits e') p.2

first_again : (more n : ℕ) (rest : List ℕ) (is_last : Bool) → ltb n 128 ≡ is_last
    → (128 ≤ n → digits_at more (digits more (n / 128) ++ rest) ≡ Ok (n / 128, rest))
    → digits_at (suc more) (cond is_last (n ∷ []) ((128 + n % 128) ∷ digits more (n / 128)) ++ rest)
    ≡ Ok (n, rest)
unfolding digits_at byte_at
first_again more n rest true small others = rw small refl
first_again more n rest false high others =
    let great : 128 ≤ n = ltb-false n 128 high in
    let goes_on : ltb (128 + n % 128) 128 ≡ false = le-ltb (128 + n % 128) 128 (omega arith) in
    let some : eqb (n / 128) 0 ≡ false = not_zero (n / 128) (omega arith) in
    let whole : 128 + n % 128 - 128 + 128 * (n / 128) ≡ n = omega arith in
    rw (goes_on, others great, some) (ap (λ (k : ℕ). Ok (k, rest)) whole)

digits_again : (more n : ℕ) (rest : List ℕ) → n < digits_limit more
    → digits_at more (digits more n ++ rest) ≡ Ok (n, rest)
unfolding digits digits_at digits_limit byte_at
digits_again zero n rest below = rw (lt-ltb n 16 below) refl
digits_again (suc more) n rest below =
    first_again more n rest (ltb n 128) refl
    (λ great. digits_again more (n / 128) rest (omega arith))

pub short_field : IsField IsNumber short short_at
unfolding digits_limit
short_field = record {
  takes = λ bytes n rest b e. digits_takes 4 bytes n rest b e;
  again = λ n rest h. digits_again 4 n rest h;
}

-- ---- masks

bits_len : (n m : ℕ) → length (bits n m) ≡ n
unfolding bits
bits_len zero m = refl
bits_len (suc n) m = ap suc (bits_len n (m / 2))

mask_of_bits : (n m : ℕ) → m < 2 ^ n → mask (bits n m) ≡ m
unfolding mask bits
mask_of_bits zero m below = omega arith
mask_of_bits (suc n) m below =
    let others : mask (bits n (m / 2)) ≡ m / 2 = mask_of_bits n (m / 2) (omega arith) in
    go (eqb (m % 2) 1) refl others
  where
    go : (b : Bool) → eqb (m % 2) 1 ≡ b → mask (bits n (m / 2)) ≡ m / 2
        → from_bool b + 2 * mask (bits n (m / 2)) ≡ m
    go true e others = omega (arith, eqb-true (m % 2) 1 e)
    go false e others =
        let low = eqb-false (m % 2) 1 e in
        omega arith

bits_of_mask : (bs : List Bool) → bits (length bs) (mask bs) ≡ bs
unfolding mask bits
bits_of_mask [] = refl
bits_of_mask (true ∷ bs) =
    let low : (1 + 2 * mask bs) % 2 ≡ 1 = omega arith in
    let high : (1 + 2 * mask bs) / 2 ≡ mask bs = omega arith in
    rw (low, high, bits_of_mask bs) refl
bits_of_mask (false ∷ bs) =
    let low : (0 + 2 * mask bs) % 2 ≡ 0 = omega arith in
    let high : (0 + 2 * mask bs) / 2 ≡ mask bs = omega arith in
    rw (low, high, bits_of_mask bs) refl

mask_takes : (bytes : List ℕ) (bs : List Bool) (rest : List ℕ) → IsBytes bytes
    → mask_at bytes ≡ Ok (bs, rest) → Takes bytes (byte (mask bs)) rest × (length bs ≡ 8)
unfolding mask_at
mask_takes bytes bs rest b e =
    let p = bind_ok (byte_at bytes) (λ m. Ok (bits 8 m.0, m.1)) (bs, rest) e in
    let t = byte_field.takes bytes p.0.0 p.0.1 b p.1 in
    subst (λ (x : List Bool × List ℕ). Takes bytes (byte (mask x.0)) x.1 × (length x.0 ≡ 8))
    (ok_is (bits 8 p.0.0, p.0.1) (bs, rest) p.2)
    (rw (mask_of_bits 8 p.0.0 t.1) t.0, bits_len 8 p.0.0)

mask_again : (bs : List Bool) (rest : List ℕ) → length bs ≡ 8
    → mask_at (byte (mask bs) ++ rest) ≡ Ok (bs, rest)
unfolding mask_at byte_at
mask_again bs rest len =
    let back : bits 8 (mask bs) ≡ bs =
    subst (λ (n : ℕ). bits n (mask bs) ≡ bs) len (bits_of_mask bs) in
    rw back refl

pub mask_field : IsField (λ (bs : List Bool). length bs ≡ 8) (λ (bs : List Bool). byte (mask bs))
    mask_at
mask_field = record { takes = mask_takes; again = mask_again }

-- ---- one field after another

abbrev pub both_at : {A B : Type 0} → (List ℕ → Result (A × List ℕ) WireFault)
    → (List ℕ → Result (B × List ℕ) WireFault) → List ℕ → Result ((A × B) × List ℕ) WireFault
both_at first second bytes = first bytes >>= λ x. second x.1 >>= λ y. Ok ((x.0, y.0), y.1)

pub both_field : {A B : Type 0} (fits : A → Type 0) (text : A → List ℕ)
    (read : List ℕ → Result (A × List ℕ) WireFault) (fits' : B → Type 0) (text' : B → List ℕ)
    (read' : List ℕ → Result (B × List ℕ) WireFault)
    → IsField fits text read → IsField fits' text' read'
    → IsField (λ (x : A × B). fits x.0 × fits' x.1) (λ (x : A × B). text x.0 ++ text' x.1)
    (both_at read read')
both_field {A = A} {B = B} fits text read fits' text' read' f g =
    record { takes = takes; again = again }
  where
    takes : (bytes : List ℕ) (x : A × B) (rest : List ℕ) → IsBytes bytes
        → both_at read read' bytes ≡ Ok (x, rest) → Takes bytes (text x.0 ++ text' x.1) rest
        × (fits x.0 × fits' x.1)
    takes bytes x rest b e =
        let p = bind_ok (read bytes) (λ u. read' u.1 >>= λ v. Ok ((u.0, v.0), v.1)) (x, rest) e in
        let q = bind_ok (read' p.0.1) (λ v. Ok ((p.0.0, v.0), v.1)) (x, rest) p.2 in
        let s = f.takes bytes p.0.0 p.0.1 b p.1 in
        let t = g.takes p.0.1 q.0.0 q.0.1 s.0.rest_fits q.1 in
        subst (λ (y : (A × B) × List ℕ). Takes bytes (text y.0.0 ++ text' y.0.1) y.1
        × (fits y.0.0 × fits' y.0.1)) (ok_is ((p.0.0, q.0.0), q.0.1) (x, rest) q.2)
        (Takes-then bytes (text p.0.0) p.0.1 (text' q.0.0) q.0.1 s.0 t.0, (s.1, t.1))

    again : (x : A × B) (rest : List ℕ) → fits x.0 × fits' x.1
        → both_at read read' ((text x.0 ++ text' x.1) ++ rest) ≡ Ok (x, rest)
    again x rest h =
        ap (both_at read read') (append_assoc (text x.0) (text' x.1) rest)
        ∙ rw (f.again x.0 (text' x.1 ++ rest) h.0, g.again x.1 rest h.1) refl

-- a field seen as another type
abbrev pub seen_at : {A B : Type 0} → (A → B) → (List ℕ → Result (A × List ℕ) WireFault) → List ℕ
    → Result (B × List ℕ) WireFault
seen_at see read bytes = read bytes >>= λ x. Ok (see x.0, x.1)

pub seen_field : {A B : Type 0} (see : A → B) (back : B → A) (fits : A → Type 0) (text : A → List ℕ)
    (read : List ℕ → Result (A × List ℕ) WireFault)
    → ((x : A) → back (see x) ≡ x) → ((y : B) → see (back y) ≡ y) → IsField fits text read
    → IsField (λ (y : B). fits (back y)) (λ (y : B). text (back y)) (seen_at see read)
seen_field {A = A} {B = B} see back fits text read there here f =
    record { takes = takes; again = again }
  where
    takes : (bytes : List ℕ) (y : B) (rest : List ℕ) → IsBytes bytes
        → seen_at see read bytes ≡ Ok (y, rest) → Takes bytes (text (back y)) rest × fits (back y)
    takes bytes y rest b e =
        let p = bind_ok (read bytes) (λ x. Ok (see x.0, x.1)) (y, rest) e in
        let s = f.takes bytes p.0.0 p.0.1 b p.1 in
        subst (λ (z : B × List ℕ). Takes bytes (text (back z.0)) z.1 × fits (back z.0))
        (ok_is (see p.0.0, p.0.1) (y, rest) p.2)
        (rw (there p.0.0) s)

    again : (y : B) (rest : List ℕ) → fits (back y)
        → seen_at see read (text (back y) ++ rest) ≡ Ok (y, rest)
    again y rest h = rw (f.again (back y) rest h, here y) refl

-- ---- so many of a field

repeated_takes : {A : Type 0} (fits : A → Type 0) (text : A → List ℕ)
    (read : List ℕ → Result (A × List ℕ) WireFault) → IsField fits text read
    → (n : ℕ) (bytes : List ℕ) (x : List A × List ℕ) → IsBytes bytes → repeated read n bytes ≡ Ok x
    → Takes bytes (flat_map text x.0) x.1 × ((length x.0 ≡ n) × AllByRecursion fits x.0)
unfolding repeated
repeated_takes {A = A} fits text read f zero bytes x b e =
    subst (λ (y : List A × List ℕ). Takes bytes (flat_map text y.0) y.1
    × ((length y.0 ≡ 0) × AllByRecursion fits y.0)) (ok_is ([], bytes) x e)
    (record { parts = refl; rest_fits = b }, (refl, tt))
repeated_takes {A = A} fits text read f (suc n) bytes x b e =
    let p = bind_ok (read bytes) (λ first. repeated read n first.1 >>=
    λ others. Ok (first.0 ∷ others.0, others.1)) x e in
    let q = bind_ok (repeated read n p.0.1) (λ others. Ok (p.0.0 ∷ others.0, others.1)) x p.2 in
    let s = f.takes bytes p.0.0 p.0.1 b p.1 in
    let t = repeated_takes fits text read f n p.0.1 q.0 s.0.rest_fits q.1 in
    let both = Takes-then bytes (text p.0.0) p.0.1 (flat_map text q.0.0) q.0.1 s.0 t.0 in
    let made : List A × List ℕ = (p.0.0 ∷ q.0.0, q.0.1) in
    subst (λ (y : List A × List ℕ). Takes bytes (flat_map text y.0) y.1
    × ((length y.0 ≡ suc n) × AllByRecursion fits y.0)) (ok_is made x q.2)
    (rw flat_map-cons both, (ap suc t.1.0, (s.1, t.1.1)))

repeated_again : {A : Type 0} (fits : A → Type 0) (text : A → List ℕ)
    (read : List ℕ → Result (A × List ℕ) WireFault) → IsField fits text read
    → (xs : List A) (rest : List ℕ) → AllByRecursion fits xs
    → repeated read (length xs) (flat_map text xs ++ rest) ≡ Ok (xs, rest)
unfolding repeated
repeated_again fits text read f [] rest h = refl
repeated_again fits text read f (x ∷ xs) rest h =
    let regrouped : flat_map text (x ∷ xs) ++ rest ≡ text x ++ (flat_map text xs ++ rest) =
    ap (λ (t : List ℕ). t ++ rest) (flat_map-cons text x xs)
    ∙ append_assoc (text x) (flat_map text xs) rest in
    ap (repeated read (suc (length xs))) regrouped
    ∙ rw (f.again x (flat_map text xs ++ rest) h.0, repeated_again fits text read f xs rest h.1)
    refl

pub repeated_field : {A : Type 0} (fits : A → Type 0) (text : A → List ℕ)
    (read : List ℕ → Result (A × List ℕ) WireFault) (n : ℕ) → IsField fits text read
    → IsField (λ (xs : List A). (length xs ≡ n) × AllByRecursion fits xs)
    (λ (xs : List A). flat_map text xs) (repeated read n)
repeated_field {A = A} fits text read n f = record {
  takes = λ bytes xs rest b e. repeated_takes fits text read f n bytes (xs, rest) b e;
  again = λ xs rest h. subst (λ (k : ℕ). repeated read k (flat_map text xs ++ rest) ≡ Ok (xs, rest))
      h.0 (repeated_again fits text read f xs rest h.1);
}

-- ---- a field that may be there

abbrev if_there : {A : Type 0} → (List ℕ → Result (A × List ℕ) WireFault) → Bool → List ℕ
    → Result (Option A × List ℕ) WireFault
if_there read is_there then =
    cond is_there (read then >>= λ x. Ok (Some x.0, x.1)) (Ok (None, then))

optional_takes : {A : Type 0} (fits : A → Type 0) (text : A → List ℕ)
    (read : List ℕ → Result (A × List ℕ) WireFault) → IsField fits text read
    → (bytes : List ℕ) (x : Option A) (rest : List ℕ) → IsBytes bytes
    → optional_at read bytes ≡ Ok (x, rest) → Takes bytes (optional text x) rest × IfSome x fits
unfolding optional_at
optional_takes {A = A} fits text read f bytes x rest b e =
    let p = bind_ok (flag_at bytes) (λ is_there. if_there read is_there.0 is_there.1) (x, rest) e in
    let t = flag_field.takes bytes p.0.0 p.0.1 b p.1 in
    go p.0.0 p.0.1 t.0 p.2
  where
    go : (is_there : Bool) (then : List ℕ) → Takes bytes (flag is_there) then
        → if_there read is_there then ≡ Ok (x, rest) → Takes bytes (optional text x) rest × IfSome x fits
    go true then t e' =
        let q = bind_ok (read then) (λ y. Ok (Some y.0, y.1)) (x, rest) e' in
        let u = f.takes then q.0.0 q.0.1 t.rest_fits q.1 in
        subst (λ (y : Option A × List ℕ). Takes bytes (optional text y.0) y.1 × IfSome y.0 fits)
        (ok_is (Some q.0.0, q.0.1) (x, rest) q.2)
        (Takes-then bytes (flag true) then (text q.0.0) q.0.1 t u.0, u.1)
    go false then t e' =
        subst (λ (y : Option A × List ℕ). Takes bytes (optional text y.0) y.1 × IfSome y.0 fits)
        (ok_is (None, then) (x, rest) e') (t, tt)

optional_again : {A : Type 0} (fits : A → Type 0) (text : A → List ℕ)
    (read : List ℕ → Result (A × List ℕ) WireFault) → IsField fits text read
    → (x : Option A) (rest : List ℕ) → IfSome x fits
    → optional_at read (optional text x ++ rest) ≡ Ok (x, rest)
unfolding optional_at flag_at
optional_again fits text read f None rest h = refl
optional_again fits text read f (Some x) rest h = rw (f.again x rest h) refl

pub optional_field : {A : Type 0} (fits : A → Type 0) (text : A → List ℕ)
    (read : List ℕ → Result (A × List ℕ) WireFault) → IsField fits text read
    → IsField (λ (x : Option A). IfSome x fits) (λ (x : Option A). optional text x)
    (optional_at read)
optional_field fits text read f = record {
  takes = optional_takes fits text read f;
  again = optional_again fits text read f;
}

-- ---- the fields that a mask says are there

-- what stands for a field that isn't there is told from one that is
pub record IsMasked {A : Type 0} (fits : A → Type 0) (is_there : A → Bool) (none : A) : Type 0 where
  pub fits_none : fits none
  pub none_not : is_there none ≡ false
  pub only_none : (x : A) → fits x → is_there x ≡ false → x ≡ none

module _ {A : Type 0} (fits : A → Type 0) (is_there : A → Bool) (none : A) (text : A → List ℕ)
    (read : List ℕ → Result (A × List ℕ) WireFault) (m : IsMasked fits is_there none)
    (f : IsField (λ (x : A). fits x × (is_there x ≡ true)) text read) where
  -- a place as its mask says
  record Placed (here : Bool) (x : A) (bytes rest : List ℕ) : Type 0 where
    takes : Takes bytes (present is_there text x) rest
    fits_it : fits x
    said : is_there x ≡ here

  place_takes : (here : Bool) (bytes : List ℕ) (x : A × List ℕ) → IsBytes bytes
      → place_at none read here bytes ≡ Ok x → Placed here x.0 bytes x.1
  place_takes true bytes x b e =
      let t = f.takes bytes x.0 x.1 b e in
      record { takes = rw t.1.1 t.0; fits_it = t.1.0; said = t.1.1 }
  place_takes false bytes x b e =
      subst (λ (y : A × List ℕ). Placed false y.0 bytes y.1) (ok_is (none, bytes) x e) (record {
        takes = rw m.none_not (record { parts = refl; rest_fits = b });
        fits_it = m.fits_none;
        said = m.none_not;
      })

  place_again : (x : A) (rest : List ℕ) → fits x
      → place_at none read (is_there x) (present is_there text x ++ rest) ≡ Ok (x, rest)
  place_again x rest h = go (is_there x) refl
    where
      go : (here : Bool) → is_there x ≡ here
          → place_at none read here (cond here (text x) [] ++ rest) ≡ Ok (x, rest)
      go true e = f.again x rest (h, e)
      go false e = ap (λ (y : A). Ok (y, rest)) (sym (m.only_none x h e))

  record AllPlaced (places : List Bool) (xs : List A) (bytes rest : List ℕ) : Type 0 where
    takes : Takes bytes (flat_map (present is_there text) xs) rest
    fits_them : AllByRecursion fits xs
    said : map is_there xs ≡ places

  places_takes : (places : List Bool) (bytes : List ℕ) (x : List A × List ℕ) → IsBytes bytes
      → places_at none read places bytes ≡ Ok x → AllPlaced places x.0 bytes x.1
  unfolding places_at
  places_takes [] bytes x b e =
      subst (λ (y : List A × List ℕ). AllPlaced [] y.0 bytes y.1) (ok_is ([], bytes) x e)
      (record { takes = record { parts = refl; rest_fits = b }; fits_them = tt; said = refl })
  places_takes (here ∷ places) bytes x b e =
      let p = bind_ok (place_at none read here bytes) (λ first. places_at none read places first.1
      >>= λ behind. Ok (first.0 ∷ behind.0, behind.1)) x e in
      let q = bind_ok (places_at none read places p.0.1)
      (λ behind. Ok (p.0.0 ∷ behind.0, behind.1)) x p.2 in
      let s = place_takes here bytes p.0 b p.1 in
      let t = places_takes places p.0.1 q.0 s.takes.rest_fits q.1 in
      let both = Takes-then bytes (present is_there text p.0.0) p.0.1
      (flat_map (present is_there text) q.0.0) q.0.1 s.takes t.takes in
      let made : List A × List ℕ = (p.0.0 ∷ q.0.0, q.0.1) in
      subst (λ (y : List A × List ℕ). AllPlaced (here ∷ places) y.0 bytes y.1) (ok_is made x q.2)
      (record {
        takes = rw flat_map-cons both;
        fits_them = (s.fits_it, t.fits_them);
        said = cons_is s.said t.said;
      })
    where
      cons_is : {b c : Bool} {bs cs : List Bool} → b ≡ c → bs ≡ cs → b ∷ bs ≡ c ∷ cs
      cons_is p q = cc

  places_again : (xs : List A) (rest : List ℕ) → AllByRecursion fits xs
      → places_at none read (map is_there xs) (flat_map (present is_there text) xs ++ rest)
      ≡ Ok (xs, rest)
  unfolding places_at
  places_again [] rest h = refl
  places_again (x ∷ xs) rest h =
      let regrouped :
      flat_map (present is_there text) (x ∷ xs) ++ rest
      ≡ present is_there text x ++ (flat_map (present is_there text) xs ++ rest) =
      ap (λ (t : List ℕ). t ++ rest) (flat_map-cons (present is_there text) x xs)
      ∙ append_assoc (present is_there text x) (flat_map (present is_there text) xs) rest in
      ap (places_at none read (is_there x ∷ map is_there xs)) regrouped
      ∙ rw (
        place_again x (flat_map (present is_there text) xs ++ rest) h.0,
        places_again xs rest h.1,
      ) refl

  masked_takes : (bytes : List ℕ) (xs : List A) (rest : List ℕ) → IsBytes bytes
      → masked_at none read bytes ≡ Ok (xs, rest) → Takes bytes (masked is_there text xs) rest
      × ((length xs ≡ 8) × AllByRecursion fits xs)
  unfolding masked_at
  masked_takes bytes xs rest b e =
      let p = bind_ok (mask_at bytes) (λ places. places_at none read places.0 places.1) (xs, rest)
      e in
      let s = mask_field.takes bytes p.0.0 p.0.1 b p.1 in
      let t = places_takes p.0.0 p.0.1 (xs, rest) s.0.rest_fits p.2 in
      let front : Takes bytes (byte (mask (map is_there xs))) p.0.1 = rw t.said s.0 in
      let len : length xs ≡ 8 =
      sym (length-map xs is_there) ∙ (ap (λ (bs : List Bool). length bs) t.said ∙ s.1) in (
        Takes-then bytes (byte (mask (map is_there xs))) p.0.1
            (flat_map (present is_there text) xs) rest front t.takes,
        (len, t.fits_them),
      )

  masked_again : (xs : List A) (rest : List ℕ) → (length xs ≡ 8) × AllByRecursion fits xs
      → masked_at none read (masked is_there text xs ++ rest) ≡ Ok (xs, rest)
  unfolding masked_at
  masked_again xs rest h =
      let len : length (map is_there xs) ≡ 8 = length-map xs is_there ∙ h.0 in
      rw (
        mask_field.again (map is_there xs) (flat_map (present is_there text) xs ++ rest) len,
        places_again xs rest h.1,
      ) refl

  pub masked_field :
      IsField (λ (xs : List A). (length xs ≡ 8) × AllByRecursion fits xs)
      (λ (xs : List A). masked is_there text xs) (masked_at none read)
  masked_field = record { takes = masked_takes; again = masked_again }
