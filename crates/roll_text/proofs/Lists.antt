-- Numbers with a comma between each two, cut again.
use Rattle.std.proofs.Common.{flat_map, rules, tests, ◌++◌, ◌+◌, map, ◌≡◌, ℕ, ◌<◌, ◌==◌, List, [], ◌∷◌, refl, sym, ap, ◌∙◌, arith, get_or, length}
use Rattle.std.specs.List.{slice_split, join_with_byte, All, AllByRecursion, count_by}
use Rattle.std.specs.Fmt.{decimal}
use Rattle.std.proofs.lemmas.List.{get_or-map, length-map, append-nil}
use Rattle.std.proofs.lemmas.List.Elements.{All-get_or, recursion_from_All}
use Rattle.std.proofs.lemmas.List.Splits.{join_with_byte-slice_split, length-slice_split}
use Rattle.std.proofs.lemmas.Fmt.{decimal_injective}
use Rattle.roll_text.specs.Lines.{Lacks}
use Rattle.roll_text.specs.Numbers.{IsWord, IsList, list_of}
use Rattle.roll_text.proofs.Joined.{split-join, decimal-lacks, join-lacks}

-- so do numbers, each
pub decimals-lack : (c : ℕ) (ns : List ℕ) → c < 48 → AllByRecursion IsWord ns → AllByRecursion (Lacks c) (map decimal ns)
decimals-lack c [] low h = tt
decimals-lack c (n ∷ ns) low h = (decimal-lacks c n low (omega arith), decimals-lack c ns low h.1)

-- a list lacks spaces and ends of lines
pub list_of-lacks : (c : ℕ) (ns : List ℕ) → c < 44 → IsList ns → Lacks c (list_of ns)
list_of-lacks c ns low h = join-lacks c 44 (map decimal ns) (search (rules, tests)) (decimals-lack c ns (omega arith) (recursion_from_All IsWord ns h.1))

pub split-list : (ns : List ℕ) → IsList ns → slice_split (λ b. b == 44) (list_of ns) ≡ map decimal ns
split-list [] h = absurd (omega arith)
split-list (n ∷ ns) h = split-join 44 (decimal n) (map decimal ns) (decimals-lack 44 (n ∷ ns) (omega arith) (recursion_from_All IsWord (n ∷ ns) h.1))

-- all parts are numbers
pub list_from : (text ns : List ℕ) (parts : List (List ℕ)) → parts ≡ slice_split (λ b. b == 44) text → All IsWord ns → map decimal ns ≡ parts → IsList ns × (text ≡ list_of ns)
list_from text ns parts cut words e =
    let n : length (map decimal ns) ≡ count_by (λ b. b == 44) text + 1 = ap length (e ∙ cut) ∙ length-slice_split (λ b. b == 44) text in
    let m : length (map decimal ns) ≡ length ns = length-map ns decimal in
    ((omega arith, words), sym (join_with_byte-slice_split 44 text) ∙ ap (join_with_byte 44) (sym (e ∙ cut)))

-- one part is no number
pub no_list : (text : List ℕ) (parts : List (List ℕ)) (i : ℕ) → parts ≡ slice_split (λ b. b == 44) text → i < length parts → ((n : ℕ) → IsWord n → get_or parts i [] ≡ decimal n → ⊥) → (ns : List ℕ) → IsList ns → text ≡ list_of ns → ⊥
no_list text parts i cut within none ns fits e =
    let same : parts ≡ map decimal ns = cut ∙ ap (slice_split (λ b. b == 44)) e ∙ split-list ns fits in
    let n : length parts ≡ length ns = ap length same ∙ length-map ns decimal in
    none (get_or ns i 0) (All-get_or IsWord ns i 0 (omega arith) fits.1)
    (ap (λ t. get_or t i []) same ∙ get_or-map decimal ns i 0 [] (omega arith))

decimals-injective : (xs ys : List ℕ) → AllByRecursion IsWord xs → AllByRecursion IsWord ys → map decimal xs ≡ map decimal ys → xs ≡ ys
decimals-injective [] [] h k e = refl
decimals-injective [] (y ∷ ys) h k e = cc
decimals-injective (x ∷ xs) [] h k e = cc
decimals-injective (x ∷ xs) (y ∷ ys) h k e =
    let same : x ≡ y = decimal_injective x y (omega arith) (omega arith) (cc) in
    let more : xs ≡ ys = decimals-injective xs ys h.1 k.1 (cc) in cc

pub list_of-injective : (xs ys : List ℕ) → IsList xs → IsList ys → list_of xs ≡ list_of ys → xs ≡ ys
list_of-injective xs ys h k e =
    let parts : map decimal xs ≡ map decimal ys = sym (split-list xs h) ∙ ap (slice_split (λ b. b == 44)) e ∙ split-list ys k in
    decimals-injective xs ys (recursion_from_All IsWord xs h.1) (recursion_from_All IsWord ys k.1) parts

-- what follows the first number of a list
abbrev pub list_more : List ℕ → List ℕ
list_more ns = flat_map (λ n. 44 ∷ decimal n) ns

pub list_of-cons : (n : ℕ) (ns : List ℕ) → list_of (n ∷ ns) ≡ decimal n ++ list_more ns
list_of-cons n [] = sym (append-nil (decimal n))
list_of-cons n (m ∷ ns) = ap (λ t. decimal n ++ 44 ∷ t) (list_of-cons m ns)
