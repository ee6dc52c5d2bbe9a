-- A text is of one claim.
use Rattle.std.proofs.Common.{◌≡◌, ℕ, ◌<◌, ◌≤◌, ◌^◌, ◌++◌, ◌==◌, List, [], ◌∷◌, false, refl, sym, ap, subst, ◌∙◌, arith, codes, drop, get_or, length, map}
use Rattle.std.specs.Fmt.{decimal}
use Rattle.std.specs.List.{AllByRecursion, slice_split}
use Rattle.std.proofs.lemmas.Fmt.{decimal_injective}
use Rattle.std.proofs.lemmas.List.{append-nil, append_cancel_left}
use Rattle.std.proofs.lemmas.List.Elements.{All-head}
use Rattle.roll_frame.specs.declared.limits.TheConstants.{PATH_LIMIT, TREE_LIMIT}
use Rattle.roll_frame.specs.declared.path.Path.{Path}
use Rattle.roll_frame.specs.declared.row.Cell.{Cell}
use Rattle.roll_frame.specs.Cells.{Rows}
use Rattle.roll_frame.specs.declared.claim.Claim.{Claim}
use Rattle.roll_frame.specs.declared.claim.Differ.{Differ}
use Rattle.roll_text.specs.Lines.{Lacks, text_of}
use Rattle.roll_text.proofs.LineTexts.{text_of-injective}
use Rattle.roll_cert.specs.Texts.{IsCell, IsEntry, IsPathOf, IsRowOf, IsSized, cell_text, claim_lines, entry_line, entry_fields, named, path_line, row_line, rows_line, section}
use Rattle.roll_cert.proofs.Laid.{lines-lack}
use Rattle.roll_cert.proofs.Spelled.{cell-lacks, cell_text-injective, row-lacks, split-entry}
use Rattle.roll_cert.proofs.Values.{joined-injective, split-values}

no_dash : (cell : Cell) → IsCell cell → cell_text cell ≡ codes "-" → ⊥
no_dash cell fits e =
    let dash : Lacks 45 (45 ∷ []) = subst (Lacks 45) e (cell-lacks 45 (omega arith) cell fits) in
    let same : (45 == 45) ≡ false = All-head (λ b. (b == 45) ≡ false) 45 [] dash in cc

-- no row is a dash
dash_apart : (players : ℕ) → 1 ≤ players → (row : List Cell) → IsRowOf players row → row_line row ≡ codes "-" → ⊥
dash_apart players some [] h e = absurd (omega (arith, h.0))
dash_apart players some (cell ∷ cells) h e =
    let parts : map cell_text (cell ∷ cells) ≡ codes "-" ∷ [] = sym (split-values 44 IsCell cell_text (cell-lacks 44 (omega arith)) (cell ∷ cells) (omega arith) h.1) ∙ ap (slice_split (λ b. b == 44)) e in
    no_dash cell h.1.0 (ap (λ texts. get_or texts 0 []) parts)

row_line-injective : (players : ℕ) → 1 ≤ players → (r s : List Cell) → IsRowOf players r → IsRowOf players s → row_line r ≡ row_line s → r ≡ s
row_line-injective players some r s h k e = joined-injective 44 IsCell cell_text (cell-lacks 44 (omega arith)) cell_text-injective r s (omega (arith, h.0)) (omega (arith, k.0)) h.1 k.1 e

no_rows : (players : ℕ) → 1 ≤ players → (row : List Cell) (rows : Rows) → AllByRecursion (IsRowOf players) (row ∷ rows) → rows_line (row ∷ rows) ≡ codes "-" → ⊥
no_rows players some row rows h e =
    let parts : map row_line (row ∷ rows) ≡ codes "-" ∷ [] = sym (split-values 32 (IsRowOf players) row_line (row-lacks 32 players (omega arith)) (row ∷ rows) (omega arith) h) ∙ ap (slice_split (λ b. b == 32)) e in
    dash_apart players some row h.0 (ap (λ texts. get_or texts 0 []) parts)

rows_line-injective : (players : ℕ) → 1 ≤ players → (p q : Rows) → AllByRecursion (IsRowOf players) p → AllByRecursion (IsRowOf players) q → rows_line p ≡ rows_line q → p ≡ q
rows_line-injective players some [] [] h k e = refl
rows_line-injective players some [] (s ∷ ss) h k e = absurd (no_rows players some s ss k (sym e))
rows_line-injective players some (r ∷ rs) [] h k e = absurd (no_rows players some r rs h e)
rows_line-injective players some (r ∷ rs) (s ∷ ss) h k e =
    joined-injective 32 (IsRowOf players) row_line (row-lacks 32 players (omega arith)) (row_line-injective players some) (r ∷ rs) (s ∷ ss) (omega arith) (omega arith) h k e

path_line-injective : (players base : ℕ) → 1 ≤ players → (p q : Path) → IsPathOf players base p → IsPathOf players base q → path_line p ≡ path_line q → p ≡ q
path_line-injective players base some p q h k e =
    let rows : p.rows.items ≡ q.rows.items = rows_line-injective players some p.rows.items q.rows.items h.2 k.2 e in
    let bases : p.base ≡ q.base = h.0 ∙ sym k.0 in
    λ i. record { base = bases i; rows = record { items = rows i } }

entry_line-injective : (d f : Differ) → IsEntry d → IsEntry f → entry_line d ≡ entry_line f → d ≡ f
entry_line-injective d f h k e =
    let fields : entry_fields d ≡ entry_fields f = sym (split-entry d h) ∙ ap (slice_split (λ b. b == 32)) e ∙ split-entry f k in
    let states : d.state ≡ f.state = decimal_injective d.state f.state (omega (arith, h)) (omega (arith, k)) (ap (λ texts. get_or texts 0 []) fields) in
    let frames : d.frame ≡ f.frame = decimal_injective d.frame f.frame (omega (arith, h)) (omega (arith, k)) (ap (λ texts. get_or texts 1 []) fields) in
    let players : d.player ≡ f.player = decimal_injective d.player f.player (omega (arith, h)) (omega (arith, k)) (ap (λ texts. get_or texts 2 []) fields) in
    λ i. record { state = states i; frame = frames i; player = players i }

named-injective : (name : List ℕ) (m n : ℕ) → m < 2 ^ 32 → n < 2 ^ 32 → named name m ≡ named name n → m ≡ n
named-injective name m n h k e = decimal_injective m n (omega (arith, h)) (omega (arith, k)) (append_cancel_left name (decimal m) (decimal n) e)

fronts : {A : Type 0} (Fits : A → Type 0) (spelling : A → List ℕ) → ((a b : A) → Fits a → Fits b → spelling a ≡ spelling b → a ≡ b)
    → (xs ys : List A) (s t : List (List ℕ)) → AllByRecursion Fits xs → AllByRecursion Fits ys → length xs ≡ length ys → map spelling xs ++ s ≡ map spelling ys ++ t → (xs ≡ ys) × (s ≡ t)
fronts Fits spelling same [] [] s t h k n e = (refl, e)
fronts Fits spelling same [] (y ∷ ys) s t h k n e = absurd (omega (arith, n))
fronts Fits spelling same (x ∷ xs) [] s t h k n e = absurd (omega (arith, n))
fronts Fits spelling same (x ∷ xs) (y ∷ ys) s t h k n e =
    let first : x ≡ y = same x y h.0 k.0 (cc) in
    let more = fronts Fits spelling same xs ys s t h.1 k.1 (omega (arith, n)) (cc) in
    ((λ i. first i ∷ more.0 i), more.1)

section-injective : {A : Type 0} (name : List ℕ) (limit : ℕ) (Fits : A → Type 0) (spelling : A → List ℕ) → limit < 2 ^ 32 → ((a b : A) → Fits a → Fits b → spelling a ≡ spelling b → a ≡ b)
    → (xs ys : List A) (s t : List (List ℕ)) → AllByRecursion Fits xs → AllByRecursion Fits ys → length xs ≤ limit → length ys ≤ limit → section name spelling xs ++ s ≡ section name spelling ys ++ t → (xs ≡ ys) × (s ≡ t)
section-injective name limit Fits spelling small same xs ys s t h k few fewer e =
    let count : length xs ≡ length ys = named-injective name (length xs) (length ys) (omega (arith, few, small)) (omega (arith, fewer, small)) (ap (λ lines. get_or lines 0 []) e) in
    fronts Fits spelling same xs ys s t h k count (ap (λ lines. drop 1 lines) e)

pub lines-injective : (a b : Claim) → IsSized a → IsSized b → claim_lines a ≡ claim_lines b → a ≡ b
lines-injective a b h k e =
    let players : a.players ≡ b.players = named-injective (codes "players ") a.players b.players (omega (arith, h.few)) (omega (arith, k.few)) (ap (λ lines. get_or lines 1 []) e) in
    let base : a.base ≡ b.base = named-injective (codes "base ") a.base b.base (omega (arith, h.base)) (omega (arith, k.base)) (ap (λ lines. get_or lines 2 []) e) in
    let from : a.from ≡ b.from = named-injective (codes "from ") a.from b.from (omega (arith, h.from)) (omega (arith, k.from)) (ap (λ lines. get_or lines 3 []) e) in
    let rows : AllByRecursion (IsRowOf a.players) b.time = rw players k.time in
    let paths : AllByRecursion (IsPathOf a.players a.base) b.kept = rw (players, base) k.kept in
    let time = section-injective (codes "time ") PATH_LIMIT (IsRowOf a.players) row_line (omega arith) (row_line-injective a.players h.some) a.time b.time _ _ h.time rows h.short k.short (ap (λ lines. drop 4 lines) e) in
    let kept = section-injective (codes "kept ") TREE_LIMIT (IsPathOf a.players a.base) path_line (omega arith) (path_line-injective a.players a.base h.some) a.kept b.kept _ _ h.kept paths h.few_kept k.few_kept time.1 in
    let counts : length a.differs ≡ length b.differs = named-injective (codes "differs ") (length a.differs) (length b.differs) (omega (arith, h.few_entries)) (omega (arith, k.few_entries)) (ap (λ lines. get_or lines 0 []) kept.1) in
    let entries = fronts IsEntry entry_line entry_line-injective a.differs b.differs [] [] h.differs k.differs counts (append-nil (map entry_line a.differs) ∙ ap (λ lines. drop 1 lines) kept.1 ∙ sym (append-nil (map entry_line b.differs))) in
    λ i. record { players = players i; base = base i; time = time.0 i; kept = kept.0 i; from = from i; differs = entries.0 i }

-- a text is of one claim
pub one_claim : (a b : Claim) → IsSized a → IsSized b → text_of (claim_lines a) ≡ text_of (claim_lines b) → a ≡ b
one_claim a b h k e = lines-injective a b h k (text_of-injective (claim_lines a) (claim_lines b) (lines-lack a h) (lines-lack b k) e)
