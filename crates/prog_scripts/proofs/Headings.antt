-- The line of a header, cut into its fields and written in pieces.
use Rattle.std.proofs.Common.{◌≡◌, ℕ, zero, suc, ◌<◌, ◌≤◌, ◌^◌, ◌==◌, ◌++◌, List, [], ◌∷◌, refl, sym, ap, ◌∙◌, arith, codes, length, length-append, take, drop, replicate}
use Rattle.std.specs.List.{slice_split, join_with_byte, All, AllByRecursion}
use Rattle.std.specs.Fmt.{decimal}
use Rattle.std.proofs.lemmas.List.Elements.{All-head}
use Rattle.roll_text.specs.Lines.{Lacks}
use Rattle.roll_text.specs.Numbers.{IsWord, IsList, list_of}
use Rattle.roll_text.proofs.Joined.{decimal-lacks, join-lacks, split-fields, high-lacks}
use Rattle.roll_text.proofs.Lists.{list_of-lacks, list_of-injective, list_of-cons, list_more}
use Rattle.std.proofs.lemmas.Fmt.{decimal_injective, decimal_nonempty}
use Rattle.prog_scripts.specs.declared.header.Version.{Version}
use Rattle.prog_scripts.specs.declared.header.Version.TheVariants.{Plain, Masked, Wide}
use Rattle.prog_scripts.specs.Headers.{Setup, IsSetup, header_fields, header_of, mask_fields, mask_count, version_field, in_places}
use Rattle.roll_frame.specs.declared.limits.TheConstants.{PLAYER_LIMIT}

version-lacks : (c : ℕ) → c < 44 → (version : Version) → Lacks c (version_field version)
version-lacks c low Plain = high-lacks c low (codes "1") refl
version-lacks c low Masked = high-lacks c low (codes "2") refl
version-lacks c low Wide = high-lacks c low (codes "3") refl

number-lacks : (c n : ℕ) → c < 44 → n < 2 ^ 32 → Lacks c (decimal n)
number-lacks c n low h = decimal-lacks c n (omega arith) (omega arith)

last-lacks : (c : ℕ) → c < 44 → (masks : List ℕ) → All IsWord masks → (n : ℕ) → IsWord n → AllByRecursion (Lacks c) (mask_fields masks ++ codes "threshold" ∷ decimal n ∷ [])
last-lacks c low [] h n word = (high-lacks c low (codes "threshold") refl, (number-lacks c n low word, tt))
last-lacks c low (mask ∷ masks) h n word =
    (high-lacks c low (codes "mask") refl, (list_of-lacks c (mask ∷ masks) low (omega arith, h), (high-lacks c low (codes "threshold") refl, (number-lacks c n low word, tt))))

-- no field of a header has a space or a line's end
fields-lack : (c : ℕ) → c < 44 → (setup : Setup) → IsSetup setup → AllByRecursion (Lacks c) (header_fields setup)
fields-lack c low setup h = (
  high-lacks c low (codes "roll") refl,
  (
    version-lacks c low setup.version,
    (
      high-lacks c low (codes "players") refl,
      (
        number-lacks c setup.players low (omega (arith, h.players)),
        (
          high-lacks c low (codes "local") refl,
          (list_of-lacks c setup.local low h.local, (high-lacks c low (codes "delay") refl, (list_of-lacks c setup.delays low h.delays, last-lacks c low setup.masks h.masks setup.threshold h.threshold))),
        ),
      ),
    ),
  ),
)

pub split-header : (setup : Setup) → IsSetup setup → slice_split (λ b. b == 32) (header_of setup) ≡ header_fields setup
unfolding header_of
split-header setup h = split-fields 32 (header_fields setup) (omega arith) (fields-lack 32 (omega arith) setup h)

pub header-lacks : (setup : Setup) → IsSetup setup → Lacks 10 (header_of setup)
unfolding header_of
header-lacks setup h = join-lacks 10 32 (header_fields setup) refl (fields-lack 10 (omega arith) setup h)

-- what is written of the masks
abbrev pub mask_text : List ℕ → List ℕ
mask_text [] = []
mask_text (mask ∷ masks) = codes " mask " ++ list_of (mask ∷ masks)

-- a header in the pieces that are written
abbrev pub pieces : Setup → List ℕ → List ℕ
pieces setup masks =
    codes "roll " ++ (version_field setup.version ++ (codes " players " ++ (decimal setup.players ++ (codes " local " ++ (list_of setup.local ++ (codes " delay " ++ (list_of setup.delays ++ (mask_text masks ++ (codes " threshold " ++ decimal setup.threshold)))))))))

abbrev pub fields_with : Setup → List ℕ → List (List ℕ)
fields_with setup masks =
    codes "roll" ∷ version_field setup.version ∷ codes "players" ∷ decimal setup.players ∷ codes "local" ∷ list_of setup.local
    ∷ codes "delay" ∷ list_of setup.delays ∷ (mask_fields masks ++ codes "threshold" ∷ decimal setup.threshold ∷ [])

pub joined_pieces : (setup : Setup) (masks : List ℕ) → join_with_byte 32 (fields_with setup masks) ≡ pieces setup masks
joined_pieces setup [] = refl
joined_pieces setup (mask ∷ masks) = refl

pub header_pieces : (setup : Setup) → header_of setup ≡ pieces setup setup.masks
unfolding header_of
header_pieces setup = joined_pieces setup setup.masks

-- the values of texts are those of the header that has these texts
pub record AreSame (setup : Setup) (players : ℕ) (local delays masks : List ℕ) (threshold : ℕ) : Type 0 where
  pub same_players : players ≡ setup.players
  pub same_local : local ≡ setup.local
  pub same_delays : delays ≡ setup.delays
  pub same_masks : masks ≡ setup.masks
  pub same_threshold : threshold ≡ setup.threshold

some : (x : ℕ) (xs : List ℕ) → All IsWord (x ∷ xs) → list_of (x ∷ xs) ≡ [] → ⊥
some x xs h e =
    let digits : 0 < length (decimal x) = decimal_nonempty x (omega (arith, All-head IsWord x xs h)) in
    let none : length (decimal x ++ list_more xs) ≡ 0 = ap length (sym (list_of-cons x xs) ∙ e) in
    omega (arith, length-append (decimal x) (list_more xs))

words-injective : (xs ys : List ℕ) → All IsWord xs → All IsWord ys → list_of xs ≡ list_of ys → xs ≡ ys
words-injective [] [] h k e = refl
words-injective [] (y ∷ ys) h k e = absurd (some y ys k (sym e))
words-injective (x ∷ xs) [] h k e = absurd (some x xs h e)
words-injective (x ∷ xs) (y ∷ ys) h k e = list_of-injective (x ∷ xs) (y ∷ ys) (omega arith, h) (omega arith, k) e

pub same_values : (setup : Setup) → IsSetup setup → (players threshold : ℕ) (local delays masks : List ℕ) → IsWord players → IsWord threshold → IsList local → IsList delays → All IsWord masks
    → decimal players ≡ decimal setup.players → list_of local ≡ list_of setup.local → list_of delays ≡ list_of setup.delays → list_of masks ≡ list_of setup.masks → decimal threshold ≡ decimal setup.threshold
    → AreSame setup players local delays masks threshold
same_values setup fits players threshold local delays masks p t l d m ep el ed em et = record {
  same_players = decimal_injective players setup.players (omega arith) (omega (arith, fits.players)) ep;
  same_local = list_of-injective local setup.local l fits.local el;
  same_delays = list_of-injective delays setup.delays d fits.delays ed;
  same_masks = words-injective masks setup.masks m fits.masks em;
  same_threshold = decimal_injective threshold setup.threshold (omega arith) (omega (arith, fits.threshold)) et;
}

-- a header of ten fields has no masks, one of twelve has some
pub without_masks : (setup : Setup) → IsSetup setup → length (header_fields setup) ≡ 10 → (setup.version ≡ Plain) × (setup.masks ≡ [])
without_masks setup fits e = let none = empty setup.masks e in (plain setup.version (ap length (sym none) ∙ fits.masked), none)
  where
    empty : (masks : List ℕ) → length (fields_with setup masks) ≡ 10 → masks ≡ []
    empty [] e = refl
    empty (mask ∷ masks) e = absurd (omega (arith, e))

    plain : (version : Version) → 0 ≡ mask_count version setup.players → version ≡ Plain
    plain Plain e = refl
    plain Masked e = absurd (omega (arith, e, fits.players))
    plain Wide e = absurd (omega (arith, e, fits.players))

pub with_masks : (setup : Setup) → IsSetup setup → length (header_fields setup) ≡ 12 → (setup.version ≡ Plain → ⊥) × (mask : ℕ) × (masks : List ℕ) × (setup.masks ≡ mask ∷ masks)
with_masks setup fits e = let some = filled setup.masks e in ((λ plain. absurd (omega (arith, ap length some.2, fits.masked, ap (λ version. mask_count version setup.players) plain))), some.0, some.1, some.2)
  where
    filled : (masks : List ℕ) → length (fields_with setup masks) ≡ 12 → (mask : ℕ) × (more : List ℕ) × (masks ≡ mask ∷ more)
    filled [] e = absurd (omega (arith, e))
    filled (mask ∷ more) e = (mask, more, refl)

pub version_read : (version read : Version) (digit : List ℕ) → (version ≡ Plain → ⊥) → (digit ≡ version_field Masked → read ≡ Masked) → (digit ≡ version_field Wide → read ≡ Wide) → digit ≡ version_field version → read ≡ version
version_read Plain read digit apart m w e = absurd (apart refl)
version_read Masked read digit apart m w e = m e
version_read Wide read digit apart m w e = w e

-- masks are written where there are some
pub mask_text_some : (masks : List ℕ) → 0 < length masks → mask_text masks ≡ codes " mask " ++ list_of masks
mask_text_some [] some = absurd (omega (arith, some))
mask_text_some (mask ∷ masks) some = refl

pub mask_text_none : (masks : List ℕ) → length masks ≡ 0 → mask_text masks ≡ []
mask_text_none [] none = refl
mask_text_none (mask ∷ masks) none = absurd (omega (arith, none))

take-replicate : (k m r : ℕ) → k ≤ m → take k (replicate m r) ≡ replicate k r
take-replicate zero m r h = refl
take-replicate (suc k) zero r h = absurd (omega (arith, h))
take-replicate (suc k) (suc m) r h = ap (λ t. r ∷ t) (take-replicate k m r (omega (arith, h)))

-- numbers in the first of k places
placed_in : (k m r : ℕ) (numbers : List ℕ) → k ≤ m → length numbers ≤ k → numbers ++ drop (length numbers) (replicate k r) ≡ take k (numbers ++ replicate m r)
placed_in k m r [] low h = sym (take-replicate k m r low)
placed_in zero m r (n ∷ ns) low h = absurd (omega (arith, h))
placed_in (suc k) m r (n ∷ ns) low h = ap (λ t. n ∷ t) (placed_in k m r ns (omega (arith, low)) (omega (arith, h)))

pub placed : (rest : ℕ) (numbers : List ℕ) → length numbers ≤ PLAYER_LIMIT → numbers ++ drop (length numbers) (replicate PLAYER_LIMIT rest) ≡ in_places rest numbers
placed rest numbers h = placed_in PLAYER_LIMIT PLAYER_LIMIT rest numbers (omega arith) h
