-- What is said of lists of texts.
use Rattle.std.proofs.Common.{◌≡◌, ◌<◌, ◌∙◌, ap, min, take, ℕ, List, [], ◌∷◌, Option, Some, None, MatchOption, inl, length, get_or, sym, subst, arith}
use Rattle.std.specs.List.{All, AllZip, Contains, zip}
use Rattle.std.proofs.lemmas.List.Elements.{All-head, All-tail}
use Rattle.std.proofs.lemmas.Slice.Zip.{get_or-zip, length-zip}
use Rattle.roll_cert.specs.Reading.{IsWithin}
use Rattle.prog_scripts.specs.declared.diagnosis.Diagnosis.{Diagnosis}
use Rattle.prog_scripts.specs.declared.lines.Item.{Item}
use Rattle.prog_scripts.specs.Diagnoses.{IsFaultAs, IsFaultAt, IsFaultOfLength, IsFaultOfList, IsFit, fields}

-- a text that an iteration came to
pub stands_at : (texts : List (List ℕ)) (k : ℕ) (text : List ℕ) → (k < length texts) × (text ≡ get_or texts k text) → Contains texts text
stands_at texts k text h = (k, h.0, sym h.1)

-- all texts are right, and their number was looked at
pub counted : (Fits : List ℕ → Type 0) (IsFault : List ℕ → Diagnosis → Type 0) (least most count : ℕ) (texts : List (List ℕ)) (said : Option Diagnosis)
    → count ≡ length texts → All Fits texts → MatchOption said (IsWithin least most count) (IsFaultOfLength least most count)
    → MatchOption said (All Fits texts × IsWithin least most (length texts)) (IsFaultOfList IsFault least most texts)
counted Fits IsFault least most count texts None same each h = (each, (omega arith, omega arith))
counted Fits IsFault least most count texts (Some d) same each h = inl (let P : ℕ → Type 0 = λ n. IsFaultOfLength least most n d in subst P same h)

-- a field and its item that an iteration came to
pub at_place : (items : List Item) (line : List ℕ) (k : ℕ) (field : List ℕ) (item : Item) (d : Diagnosis)
    → (k < length (zip (fields line) items)) × ((field, item) ≡ get_or (zip (fields line) items) k (field, item))
    → All (λ (pair : List ℕ × Item). IsFit pair.1 pair.0) (take k (zip (fields line) items)) → IsFaultAs item field d → IsFaultAt items line d
at_place items line k field item d h earlier fault =
    let size : length (zip (fields line) items) ≡ min (length (fields line)) (length items) = length-zip (fields line) items in
    let same = h.1 ∙ get_or-zip (fields line) items k (field, item) (omega (arith, h.0)) (omega (arith, h.0)) in
    record {
      place = k;
      item = item;
      field = field;
      asked = (omega (arith, h.0), sym (ap (λ (pair : List ℕ × Item). pair.1) same));
      stands = (omega (arith, h.0), sym (ap (λ (pair : List ℕ × Item). pair.0) same));
      earlier = earlier;
      fault = fault;
    }

-- as many fields as items, each of which fits
pub all_fit : (items : List Item) (texts : List (List ℕ)) → length texts ≡ length items → All (λ (pair : List ℕ × Item). IsFit pair.1 pair.0) (zip texts items) → AllZip IsFit items texts
all_fit [] [] same h = tt
all_fit [] (t ∷ ts) same h = absurd (omega arith)
all_fit (i ∷ is) [] same h = absurd (omega arith)
all_fit (i ∷ is) (t ∷ ts) same h = (
  All-head (λ (pair : List ℕ × Item). IsFit pair.1 pair.0) (t, i) (zip ts is) h,
  all_fit is ts (omega arith) (All-tail (λ (pair : List ℕ × Item). IsFit pair.1 pair.0) (t, i) (zip ts is) h),
)
