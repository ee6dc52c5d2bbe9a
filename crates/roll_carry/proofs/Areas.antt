-- Parcels that are read are those that were written, and what was written is read again.
use Rattle.std.proofs.Common.{◌≡◌, ℕ, zero, suc, ◌+◌, ◌≤◌, Bool, true, false, cond, eqb, List, [], ◌∷◌, ◌++◌, length, take, drop, min, Option, None, Some, Result, Ok, Err, refl, sym, ap, subst, ◌∙◌, arith}
use Rattle.std.specs.Prelude.{IfOk, IfSome, option_map}
use Rattle.std.specs.List.{AllByRecursion}
use Rattle.std.specs.Result.{result_err, result_ok}
use Rattle.std.proofs.lemmas.Bool.{eqb-true}
use Rattle.std.proofs.lemmas.List.{append-nil, nil_from_length, take_all, drop_all, take_min, drop_min, take-append-drop, length-append, length-take}
use Rattle.std.proofs.lemmas.List.Concat.{flat_map-cons}
use Rattle.roll_wire.specs.declared.datagram.Envelope.{Envelope}
use Rattle.roll_wire.specs.declared.fault.WireFault.{WireFault}
use Rattle.roll_wire.specs.declared.fault.WireFault.TheVariants.{Trailing}
use Rattle.roll_wire.specs.Reading.{◌>>=◌, Gives, byte_at}
use Rattle.roll_wire.specs.Spelling.{IsEnvelope}
use Rattle.roll_wire.proofs.Fields.{IsBytes, IsBytes-take, bind_ok, ok_is, passed_ok}
use Rattle.roll_carry.specs.declared.limits.TheConstants.{AREA_LIMIT, CARRIED, LABEL}
use Rattle.roll_carry.specs.Spelling.{AreParcels, Carries, IsParcel, ParcelValue, Says, area_text, head, parcel_text}
use Rattle.roll_carry.specs.Reading.{area_of, first_of, head_at, parcel_at, parcels_at, parcels_of, parcels_within}
use Rattle.roll_carry.proofs.Texts.{IsSized, head_again, head_takes, parcel_again, parcel_takes}

-- ---- parcels one behind the other

pub shorter : (bytes : List ℕ) (p : ParcelValue) (rest : List ℕ) → IsBytes bytes
    → parcel_at bytes ≡ Ok (p, rest) → length bytes ≡ LABEL + length p.tail + length rest
shorter bytes p rest b e =
    let t = parcel_takes bytes p rest b e in
    omega (arith, ap length t.0.parts, length-append p.tail rest)

abbrev before : ParcelValue → List ParcelValue → Result (List ParcelValue) WireFault
before p others = Ok (p ∷ others)

-- the others, of which so many may follow
abbrev and_others : ℕ → ParcelValue × List ℕ → Result (List ParcelValue) WireFault
and_others n p = parcels_within n p.1 >>= before p.0

abbrev Same : ℕ → ℕ → List ℕ → Type 0
Same n m bytes = parcels_within n bytes ≡ parcels_within m bytes

same_behind : (n m : ℕ) (bytes : List ℕ) → IsBytes bytes
    → ((rest : List ℕ) → IsBytes rest → suc (length rest) ≤ length bytes → Same n m rest)
    → (r : Result (ParcelValue × List ℕ) WireFault) → parcel_at bytes ≡ r
    → (r >>= and_others n) ≡ (r >>= and_others m)
same_behind n m bytes b same (Err f) e = refl
same_behind n m bytes b same (Ok p) e =
    let less = shorter bytes p.0 p.1 b e in
    let t = parcel_takes bytes p.0 p.1 b e in
    ap (λ (r : Result (List ParcelValue) WireFault). r >>= before p.0)
    (same p.1 t.0.rest_fits (omega arith))

-- how many may follow makes no difference, if there are as many as bytes
enough : (n m : ℕ) (bytes : List ℕ) → IsBytes bytes → length bytes ≤ n → length bytes ≤ m
    → Same n m bytes
unfolding parcels_within
enough zero zero bytes b i j = refl
enough zero (suc m) [] b i j = refl
enough (suc n) zero [] b i j = refl
enough (suc n) (suc m) [] b i j = refl
enough zero (suc m) (x ∷ bytes) b i j = absurd (omega arith)
enough (suc n) zero (x ∷ bytes) b i j = absurd (omega arith)
enough (suc n) (suc m) (x ∷ bytes) b i j =
    same_behind n m (x ∷ bytes) b
    (λ rest r less. enough n m rest r (omega arith) (omega arith)) (parcel_at (x ∷ bytes)) refl

abbrev Taken : List ℕ → List ParcelValue → Type 0
Taken bytes parcels = (bytes ≡ area_text parcels) × AllByRecursion IsSized parcels

none_taken : (parcels : List ParcelValue)
    → (let r : Result (List ParcelValue) WireFault = Ok [] in r) ≡ Ok parcels → Taken [] parcels
none_taken parcels e = subst (Taken []) (ok_is [] parcels e) (refl, tt)

parcels_take : (n : ℕ) (bytes : List ℕ) (parcels : List ParcelValue) → IsBytes bytes
    → parcels_within n bytes ≡ Ok parcels → Taken bytes parcels
unfolding parcels_within
parcels_take zero [] parcels b e = none_taken parcels e
parcels_take (suc n) [] parcels b e = none_taken parcels e
parcels_take zero (x ∷ bytes) parcels b e = absurd cc
parcels_take (suc n) (x ∷ bytes) parcels b e =
    let p = bind_ok (parcel_at (x ∷ bytes)) (and_others n) parcels e in
    let q = bind_ok (parcels_within n p.0.1) (before p.0.0) parcels p.2 in
    let t = parcel_takes (x ∷ bytes) p.0.0 p.0.1 b p.1 in
    let u = parcels_take n p.0.1 q.0 t.0.rest_fits q.1 in
    subst (Taken (x ∷ bytes)) (ok_is (p.0.0 ∷ q.0) parcels q.2) (
      t.0.parts ∙ ap (λ (rest : List ℕ). parcel_text p.0.0 ++ rest) u.0
          ∙ sym (flat_map-cons parcel_text p.0.0 q.0),
      (t.1, u.1),
    )

pub behind : (p : ParcelValue) (ps : List ParcelValue)
    → length (area_text (p ∷ ps)) ≡ LABEL + length p.tail + length (area_text ps)
behind p ps = ap length (flat_map-cons parcel_text p ps)
    ∙ omega (arith, length-append p.tail (area_text ps))

-- parcels that have room in a datagram
limited : (parcels : List ParcelValue) → length (area_text parcels) ≤ AREA_LIMIT
    → AllByRecursion IsSized parcels → AllByRecursion IsParcel parcels
limited [] few f = tt
limited (p ∷ ps) few f =
    let size : length (area_text (p ∷ ps)) ≡ LABEL + length p.tail + length (area_text ps) =
    behind p ps in (
      record {
        to = f.0.to;
        steps = f.0.steps;
        least = f.0.least;
        most = omega arith;
      },
      limited ps (omega arith) f.1,
    )

pub sized : (p : ParcelValue) → IsParcel p → IsSized p
sized p f = record { to = f.to; steps = f.steps; least = f.least; most = omega (arith, f.most) }

parcels_again : (n : ℕ) (parcels : List ParcelValue) → AllByRecursion IsParcel parcels
    → length (area_text parcels) ≤ n → parcels_within n (area_text parcels) ≡ Ok parcels
unfolding parcels_within
parcels_again zero [] f few = refl
parcels_again (suc n) [] f few = refl
parcels_again zero (p ∷ ps) f few = absurd (omega arith)
parcels_again (suc n) (p ∷ ps) f few =
    let size : length (area_text (p ∷ ps)) ≡ LABEL + length p.tail + length (area_text ps) =
    behind p ps in
    rw (
      parcel_again p (area_text ps) (sized p f.0),
      parcels_again n ps f.1 (omega arith),
    ) refl

-- ---- a loop that reads parcel by parcel

err_before : (p : ParcelValue) (r : Result (List ParcelValue) WireFault)
    → result_err (r >>= before p) ≡ result_err r
err_before p (Ok ps) = refl
err_before p (Err f) = refl

-- some parcels were read, and the others are still to be read
pub record Checking (area rest : List ℕ) : Type 0 where
  pub same : result_err (parcels_at area) ≡ result_err (parcels_at rest)
  pub are_bytes : IsBytes rest

one_less : (bytes : List ℕ) (p : ParcelValue) (rest : List ℕ) → IsBytes bytes
    → parcel_at bytes ≡ Ok (p, rest)
    → result_err (parcels_at bytes) ≡ result_err (parcels_at rest)
unfolding parcels_within
one_less [] p rest b e = absurd (omega (arith, shorter [] p rest b e))
one_less (x ∷ bytes) p rest b e =
    let less = shorter (x ∷ bytes) p rest b e in
    let t = parcel_takes (x ∷ bytes) p rest b e in
    rw e (err_before p (parcels_within (length bytes) rest)
    ∙ ap result_err (enough (length bytes) (length rest) rest t.0.rest_fits (omega arith) (omega arith)))

pub goes_on : (area rest : List ℕ) (p : ParcelValue) (after : List ℕ)
    → parcel_at rest ≡ Ok (p, after) → Checking area rest → Checking area after
goes_on area rest p after e c = record {
  same = c.same ∙ one_less rest p after c.are_bytes e;
  are_bytes = (parcel_takes rest p after c.are_bytes e).0.rest_fits;
}

fails_first : (bytes : List ℕ) (fault : WireFault) → 1 ≤ length bytes → parcel_at bytes ≡ Err fault
    → result_err (parcels_at bytes) ≡ Some fault
unfolding parcels_within
fails_first [] fault some e = absurd (omega arith)
fails_first (x ∷ bytes) fault some e = rw e refl

pub some_left : (bytes : List ℕ) → eqb (length bytes) 0 ≡ false → 1 ≤ length bytes
some_left [] e = absurd cc
some_left (x ∷ bytes) e = omega arith

pub ends : (area rest : List ℕ) (fault : WireFault) → 1 ≤ length rest → parcel_at rest ≡ Err fault
    → Checking area rest → result_err (parcels_at area) ≡ Some fault
ends area rest fault some e c = c.same ∙ fails_first rest fault some e

none_left : (bytes : List ℕ) → length bytes ≡ 0 → result_err (parcels_at bytes) ≡ None
unfolding parcels_within
none_left [] none = refl
none_left (x ∷ bytes) none = absurd (omega arith)

pub is_done : (area rest : List ℕ) → length rest ≡ 0 → Checking area rest
    → result_err (parcels_at area) ≡ None
is_done area rest none c = c.same ∙ none_left rest none

-- ---- the whole

abbrev parcels_end : List ℕ → List ParcelValue → Result (List ParcelValue) WireFault
parcels_end rest parcels = cond (eqb (length (drop AREA_LIMIT rest)) 0) (Ok parcels) (Err Trailing)

parcels_found : (bytes : List ℕ) (parcels : List ParcelValue) → IsBytes bytes
    → parcels_of bytes ≡ Ok parcels → Says bytes (Carries parcels)
unfolding parcels_of
parcels_found bytes parcels b e =
    let p = bind_ok (head_at CARRIED bytes) (λ h. parcels_at (take AREA_LIMIT h.1) >>= parcels_end h.1)
    parcels e in
    let q = bind_ok (parcels_at (take AREA_LIMIT p.0.1)) (parcels_end p.0.1) parcels p.2 in
    let g = passed_ok (eqb (length (drop AREA_LIMIT p.0.1)) 0) Trailing q.0 parcels q.2 in
    let t = head_takes CARRIED bytes p.0.0 p.0.1 b p.1 in
    let front : List ℕ = take AREA_LIMIT p.0.1 in
    let u = parcels_take (length front) front q.0 (IsBytes-take AREA_LIMIT p.0.1 t.0.rest_fits) q.1 in
    let none : drop AREA_LIMIT p.0.1 ≡ [] =
    nil_from_length (drop AREA_LIMIT p.0.1) (eqb-true (length (drop AREA_LIMIT p.0.1)) 0 g.0) in
    let all : p.0.1 ≡ area_text q.0 =
    sym (take-append-drop AREA_LIMIT p.0.1) ∙ ap (λ (rest : List ℕ). front ++ rest) none
    ∙ append-nil front ∙ u.0 in
    let few : length (area_text q.0) ≤ AREA_LIMIT =
    omega (arith, ap length u.0, length-take AREA_LIMIT p.0.1) in
    subst (λ (ps : List ParcelValue). Says bytes (Carries ps)) g.1
    (record {
      envelope = p.0.0;
      fits = record { envelope = t.1; content = (few, limited q.0 few u.1) };
      text = t.0.parts ∙ ap (λ (rest : List ℕ). head CARRIED p.0.0 ++ rest) all;
    })

parcels_spelled : (e : Envelope) (parcels : List ParcelValue) → IsEnvelope e → AreParcels parcels
    → parcels_of (head CARRIED e ++ area_text parcels) ≡ Ok parcels
unfolding parcels_of
parcels_spelled e parcels fits f =
    let all : take AREA_LIMIT (area_text parcels) ≡ area_text parcels =
    take_all AREA_LIMIT (area_text parcels) f.0 in
    let none : drop AREA_LIMIT (area_text parcels) ≡ [] =
    drop_all AREA_LIMIT (area_text parcels) f.0 in
    let again : parcels_at (area_text parcels) ≡ Ok parcels =
    parcels_again (length (area_text parcels)) parcels f.1 (omega arith) in
    rw (head_again CARRIED e (area_text parcels) (omega arith) fits, all, none, again) refl

pub parcels_said : (bytes : List ℕ) (parcels : List ParcelValue) → Says bytes (Carries parcels)
    → parcels_of bytes ≡ Ok parcels
parcels_said bytes parcels s =
    ap parcels_of s.text ∙ parcels_spelled s.envelope parcels s.fits.envelope s.fits.content

-- ---- the bytes of parcels that were checked

abbrev text_of : List ParcelValue → Result (List ℕ) WireFault
text_of parcels = Ok (area_text parcels)

failed : (r : Result (List ParcelValue) WireFault) (fault : WireFault) → result_err r ≡ Some fault
    → r ≡ Err fault
failed (Ok ps) fault e = absurd cc
failed (Err f) fault e = ap (λ (x : WireFault). Err x) (some_is f fault e)
  where
    some_is : (f g : WireFault) → (let o : Option WireFault = Some f in o) ≡ Some g → f ≡ g
    some_is f g e = cc

ends_well : (area : List ℕ) (none : Bool) → IsBytes area
    → (r : Result (List ParcelValue) WireFault) → parcels_at area ≡ r → result_err r ≡ None
    → ((r >>= λ parcels. cond none (Ok parcels) (Err Trailing)) >>= text_of)
    ≡ cond none (Ok area) (Err Trailing)
ends_well area true b (Ok ps) e well =
    let u = parcels_take (length area) area ps b e in
    ap (λ (bytes : List ℕ). Ok bytes) (sym u.0)
ends_well area false b (Ok ps) e well = refl
ends_well area none b (Err f) e well = absurd cc

-- what follows a head, as much as a datagram has, and what is behind it
pub record Parted (bytes front back : List ℕ) : Type 0 where
  pub envelope : Envelope
  pub rest : List ℕ
  pub begun : head_at CARRIED bytes ≡ Ok (envelope, rest)
  pub front_is : front ≡ take AREA_LIMIT rest
  pub back_is : back ≡ drop AREA_LIMIT rest

pub parted : (bytes front back : List ℕ) (e : Envelope) (rest : List ℕ) (n : ℕ)
    → head_at CARRIED bytes ≡ Ok (e, rest) → n ≡ min AREA_LIMIT (length rest)
    → front ≡ take n rest → back ≡ drop n rest → Parted bytes front back
parted bytes front back e rest n h least f b = record {
  envelope = e;
  rest = rest;
  begun = h;
  front_is = f ∙ ap (λ (k : ℕ). take k rest) least ∙ take_min AREA_LIMIT rest;
  back_is = b ∙ ap (λ (k : ℕ). drop k rest) least ∙ drop_min AREA_LIMIT rest;
}

pub area_fails : (bytes front back : List ℕ) (fault : WireFault) → Parted bytes front back
    → Some fault ≡ result_err (parcels_at front) → area_of bytes ≡ Err fault
unfolding parcels_of
area_fails bytes front back fault d f =
    let why : parcels_at (take AREA_LIMIT d.rest) ≡ Err fault =
    ap parcels_at (sym d.front_is) ∙ failed (parcels_at front) fault (sym f) in
    rw (d.begun, why) refl

-- all of them are parcels, and bytes may follow
pub area_passes : (bytes front back : List ℕ) → IsBytes bytes → Parted bytes front back
    → None ≡ result_err (parcels_at front)
    → area_of bytes ≡ cond (eqb (length back) 0) (Ok front) (Err Trailing)
unfolding parcels_of
area_passes bytes front back b d well =
    let t = head_takes CARRIED bytes d.envelope d.rest b d.begun in
    let all : result_err (parcels_at (take AREA_LIMIT d.rest)) ≡ None =
    ap (λ (area : List ℕ). result_err (parcels_at area)) (sym d.front_is) ∙ sym well in
    rw (d.begun, d.front_is, d.back_is)
    (ends_well (take AREA_LIMIT d.rest) (eqb (length (drop AREA_LIMIT d.rest)) 0)
    (IsBytes-take AREA_LIMIT d.rest t.0.rest_fits) (parcels_at (take AREA_LIMIT d.rest)) refl all)

-- ---- what a caller is told

pub area_found : {A : Type 0} (bytes : List ℕ) (view : A → List ℕ) (r : Result A WireFault)
    → IsBytes bytes → Gives view r (area_of bytes)
    → IfOk r (λ area. (parcels : List ParcelValue) × (Says bytes (Carries parcels)
    × (view area ≡ area_text parcels)))
area_found bytes view (Ok area) b given =
    let p = bind_ok (parcels_of bytes) text_of (view area) given in
    (p.0, (parcels_found bytes p.0 b p.1, sym (ok_is (area_text p.0) (view area) p.2)))
area_found bytes view (Err f) b given = tt

pub area_few : {A : Type 0} (bytes : List ℕ) (view : A → List ℕ) (r : Result A WireFault)
    → IsBytes bytes → Gives view r (area_of bytes)
    → IfOk r (λ area. length (view area) ≤ AREA_LIMIT)
area_few bytes view (Ok area) b given =
    let f = area_found bytes view (Ok area) b given in
    omega (arith, ap length f.1.1, f.1.0.fits.content.0)
area_few bytes view (Err f) b given = tt

pub area_said : (bytes : List ℕ) (parcels : List ParcelValue) → Says bytes (Carries parcels)
    → area_of bytes ≡ Ok (area_text parcels)
area_said bytes parcels s = rw (parcels_said bytes parcels s) refl

-- ---- the first of some parcels

is_parcel : (p : ParcelValue) → IsSized p → LABEL + length p.tail ≤ AREA_LIMIT → IsParcel p
is_parcel p f few = record { to = f.to; steps = f.steps; least = f.least; most = omega arith }

pub first_found : {A : Type 0} (bytes : List ℕ) (view : A → ParcelValue × List ℕ)
    (r : Result A WireFault) → IsBytes bytes → length bytes ≤ AREA_LIMIT
    → Gives view r (parcel_at bytes) → IfSome (result_ok r) (λ x. IsParcel (view x).0
    × (bytes ≡ parcel_text (view x).0 ++ (view x).1))
first_found bytes view (Ok x) b few given =
    let t = parcel_takes bytes (view x).0 (view x).1 b given in
    let size = shorter bytes (view x).0 (view x).1 b given in
    (is_parcel (view x).0 t.1 (omega arith), t.0.parts)
first_found bytes view (Err f) b few given = tt

pub first_len : {A : Type 0} (bytes : List ℕ) (view : A → ParcelValue × List ℕ)
    (r : Result A WireFault) → IsBytes bytes → Gives view r (parcel_at bytes)
    → IfSome (result_ok r) (λ x. length bytes
    ≡ LABEL + length (view x).0.tail + length (view x).1)
first_len bytes view (Ok x) b given = shorter bytes (view x).0 (view x).1 b given
first_len bytes view (Err f) b given = tt

first_again : (parcels : List ParcelValue) → AllByRecursion IsParcel parcels
    → result_ok (parcel_at (area_text parcels)) ≡ first_of parcels
unfolding parcel_at byte_at
first_again [] f = refl
first_again (p ∷ ps) f = rw (parcel_again p (area_text ps) (sized p f.0)) refl

pub first_only : {A : Type 0} (bytes : List ℕ) (view : A → ParcelValue × List ℕ)
    (r : Result A WireFault) (parcels : List ParcelValue) → Gives view r (parcel_at bytes)
    → AllByRecursion IsParcel parcels → bytes ≡ area_text parcels
    → option_map view (result_ok r) ≡ first_of parcels
first_only {A = A} bytes view r parcels given f e =
    go r given ∙ ap (λ (text : List ℕ). result_ok (parcel_at text)) e ∙ first_again parcels f
  where
    go : (r : Result A WireFault) → Gives view r (parcel_at bytes)
        → option_map view (result_ok r) ≡ result_ok (parcel_at bytes)
    go (Ok x) given = ap result_ok (sym given)
    go (Err f) given = ap result_ok (sym given)
