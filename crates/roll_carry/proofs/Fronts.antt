-- The parcels that bytes begin with are read one by one, and are those that were written.
use Rattle.std.proofs.Common.{◌≡◌, ◌∙◌, ℕ, zero, suc, ◌+◌, ◌≤◌, List, [], ◌∷◌, ◌++◌, length, Result, Ok, Err, refl, sym, ap, subst, arith, append-nil}
use Rattle.std.specs.Prelude.{IfNone, IfOk, IfSome}
use Rattle.std.specs.List.{AllByRecursion}
use Rattle.std.specs.Option.{option_map_or}
use Rattle.std.specs.Result.{result_ok}
use Rattle.std.proofs.lemmas.Grind.{flat_map-append}
use Rattle.std.proofs.lemmas.List.Concat.{flat_map-cons}
use Rattle.roll_wire.specs.declared.fault.WireFault.{WireFault}
use Rattle.roll_wire.specs.Reading.{Gives, byte_at}
use Rattle.roll_wire.proofs.Fields.{IsBytes}
use Rattle.roll_carry.specs.declared.limits.TheConstants.{LABEL}
use Rattle.roll_carry.specs.Spelling.{Carries, IsParcel, ParcelValue, Says, area_text, parcel_text}
use Rattle.roll_carry.specs.Reading.{IsArea, front_within, parcel_at, parcels_in}
use Rattle.roll_carry.proofs.Areas.{behind, shorter, sized}
use Rattle.roll_carry.proofs.Texts.{parcel_again, parcel_takes}

-- ---- one by one

pub none_within : (n : ℕ) → front_within n [] ≡ []
unfolding front_within parcel_at byte_at
none_within zero = refl
none_within (suc n) = refl

abbrev and_more : ℕ → Result (ParcelValue × List ℕ) WireFault → List ParcelValue
and_more n r = option_map_or (λ found. found.0 ∷ front_within n found.1) (result_ok r) []

step_is : (n : ℕ) (bytes : List ℕ) → front_within (suc n) bytes ≡ and_more n (parcel_at bytes)
unfolding front_within
step_is n bytes = refl

same_behind : (n m : ℕ) (bytes : List ℕ) → IsBytes bytes
    → ((rest : List ℕ) → IsBytes rest → suc (length rest) ≤ length bytes → front_within n rest ≡ front_within m rest)
    → (r : Result (ParcelValue × List ℕ) WireFault) → parcel_at bytes ≡ r → and_more n r ≡ and_more m r
same_behind n m bytes b same (Err f) e = refl
same_behind n m bytes b same (Ok p) e =
    let less = shorter bytes p.0 p.1 b e in
    let t = parcel_takes bytes p.0 p.1 b e in
    ap (λ (ps : List ParcelValue). p.0 ∷ ps) (same p.1 t.0.rest_fits (omega (arith, less)))

-- how many may follow makes no difference, if there are as many as bytes
front_same : (n m : ℕ) (bytes : List ℕ) → IsBytes bytes → length bytes ≤ n → length bytes ≤ m
    → front_within n bytes ≡ front_within m bytes
front_same zero zero bytes b i j = refl
front_same zero (suc m) [] b i j = none_within zero ∙ sym (none_within (suc m))
front_same (suc n) zero [] b i j = none_within (suc n) ∙ sym (none_within zero)
front_same zero (suc m) (x ∷ bytes) b i j = absurd (omega (arith, i))
front_same (suc n) zero (x ∷ bytes) b i j = absurd (omega (arith, j))
front_same (suc n) (suc m) bytes b i j =
    step_is n bytes
    ∙ same_behind n m bytes b (λ rest r less. front_same n m rest r (omega (arith, i, less)) (omega (arith, j, less)))
    (parcel_at bytes) refl
    ∙ sym (step_is m bytes)

one_step : (bytes : List ℕ) (b : IsBytes bytes) → parcels_in bytes ≡ and_more (length bytes) (parcel_at bytes)
one_step bytes b =
    front_same (length bytes) (suc (length bytes)) bytes b (omega arith) (omega arith) ∙ step_is (length bytes) bytes

parcels_next : (bytes : List ℕ) (p : ParcelValue) (rest : List ℕ) → IsBytes bytes → parcel_at bytes ≡ Ok (p, rest)
    → parcels_in bytes ≡ p ∷ parcels_in rest
parcels_next bytes p rest b e =
    let size = shorter bytes p rest b e in
    let t = parcel_takes bytes p rest b e in
    one_step bytes b ∙ ap (and_more (length bytes)) e
    ∙ ap (λ (ps : List ParcelValue). p ∷ ps)
    (front_same (length bytes) (length rest) rest t.0.rest_fits (omega (arith, size)) (omega arith))

pub first_next : {A : Type 0} (bytes : List ℕ) (view : A → ParcelValue × List ℕ) (r : Result A WireFault)
    → IsBytes bytes → Gives view r (parcel_at bytes)
    → IfSome (result_ok r) (λ x. parcels_in bytes ≡ (view x).0 ∷ parcels_in (view x).1)
first_next bytes view (Ok x) b given = parcels_next bytes (view x).0 (view x).1 b given
first_next bytes view (Err f) b given = tt

pub first_none : {A : Type 0} (bytes : List ℕ) (view : A → ParcelValue × List ℕ) (r : Result A WireFault)
    → IsBytes bytes → Gives view r (parcel_at bytes) → IfNone (result_ok r) (parcels_in bytes ≡ [])
first_none bytes view (Ok x) b given = tt
first_none bytes view (Err f) b given = one_step bytes b ∙ ap (and_more (length bytes)) given

-- ---- what was written

front_again : (n : ℕ) (parcels : List ParcelValue) → AllByRecursion IsParcel parcels
    → length (area_text parcels) ≤ n → front_within n (area_text parcels) ≡ parcels
front_again zero [] f few = none_within zero
front_again (suc n) [] f few = none_within (suc n)
front_again zero (p ∷ ps) f few =
    let size : length (area_text (p ∷ ps)) ≡ LABEL + length p.tail + length (area_text ps) = behind p ps in
    absurd (omega (arith, size, few))
front_again (suc n) (p ∷ ps) f few =
    let size : length (area_text (p ∷ ps)) ≡ LABEL + length p.tail + length (area_text ps) = behind p ps in
    step_is n (area_text (p ∷ ps))
    ∙ ap (and_more n) (ap parcel_at (flat_map-cons parcel_text p ps) ∙ parcel_again p (area_text ps) (sized p f.0))
    ∙ ap (λ (qs : List ParcelValue). p ∷ qs) (front_again n ps f.1 (omega (arith, size, few)))

pub parcels_written : (parcels : List ParcelValue) → AllByRecursion IsParcel parcels
    → parcels_in (area_text parcels) ≡ parcels
parcels_written parcels f = front_again (length (area_text parcels)) parcels f (omega arith)

pub is_area : (area : List ℕ) (parcels : List ParcelValue) → AllByRecursion IsParcel parcels → area ≡ area_text parcels
    → IsArea area
is_area area parcels f e =
    let again : parcels_in area ≡ parcels = ap parcels_in e ∙ parcels_written parcels f in
    record { text = e ∙ ap area_text (sym again); fits = subst (AllByRecursion IsParcel) (sym again) f }

-- a caller is told of what was read
pub area_is : {A : Type 0} (bytes : List ℕ) (view : A → List ℕ) (r : Result A WireFault)
    → IfOk r (λ area. (parcels : List ParcelValue) × (Says bytes (Carries parcels) × (view area ≡ area_text parcels)))
    → IfOk r (λ area. IsArea (view area))
area_is bytes view (Ok area) found = is_area (view area) found.0 found.1.0.fits.content.1 found.1.1
area_is bytes view (Err f) found = tt

pub area_says : {A : Type 0} (bytes : List ℕ) (view : A → List ℕ) (r : Result A WireFault)
    → IfOk r (λ area. (parcels : List ParcelValue) × (Says bytes (Carries parcels) × (view area ≡ area_text parcels)))
    → IfOk r (λ area. Says bytes (Carries (parcels_in (view area))))
area_says bytes view (Ok area) found =
    subst (λ (ps : List ParcelValue). Says bytes (Carries ps))
    (sym (ap parcels_in found.1.1 ∙ parcels_written found.0 found.1.0.fits.content.1)) found.1.0
area_says bytes view (Err f) found = tt

-- ---- one parcel more

all_more : (parcels : List ParcelValue) (p : ParcelValue) → AllByRecursion IsParcel parcels → IsParcel p
    → AllByRecursion IsParcel (parcels ++ p ∷ [])
all_more [] p f is = (is, tt)
all_more (q ∷ qs) p f is = (f.0, all_more qs p f.1 is)

text_more : (area : List ℕ) (p : ParcelValue) → IsArea area
    → area ++ parcel_text p ≡ area_text (parcels_in area ++ p ∷ [])
text_more area p is =
    let one : area_text (p ∷ []) ≡ parcel_text p = flat_map-cons parcel_text p [] ∙ append-nil (parcel_text p) in
    ap (λ (bytes : List ℕ). bytes ++ parcel_text p) is.text
    ∙ ap (λ (bytes : List ℕ). area_text (parcels_in area) ++ bytes) (sym one)
    ∙ sym (flat_map-append parcel_text (parcels_in area) (p ∷ []))

pub area_more : (area : List ℕ) (p : ParcelValue) → IsArea area → IsParcel p → IsArea (area ++ parcel_text p)
area_more area p is fits =
    is_area (area ++ parcel_text p) (parcels_in area ++ p ∷ []) (all_more (parcels_in area) p is.fits fits)
    (text_more area p is)

pub parcels_more : (area : List ℕ) (p : ParcelValue) → IsArea area → IsParcel p
    → parcels_in (area ++ parcel_text p) ≡ parcels_in area ++ p ∷ []
parcels_more area p is fits =
    ap parcels_in (text_more area p is) ∙ parcels_written (parcels_in area ++ p ∷ []) (all_more (parcels_in area) p is.fits fits)

pub area_none : IsArea []
area_none = is_area [] [] tt refl
