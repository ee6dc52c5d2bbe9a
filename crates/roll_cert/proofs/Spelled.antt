-- The lines of rows, paths and entries, cut into their parts.
use Rattle.std.proofs.Common.{◌≡◌, ℕ, ◌<◌, ◌==◌, false, List, [], ◌∷◌, refl, sym, ap, rules, tests, arith, codes, length, map}
use Rattle.std.specs.List.{AllByRecursion, join_with_byte, slice_split}
use Rattle.std.specs.Fmt.{decimal}
use Rattle.std.proofs.lemmas.Fmt.{decimal_injective, digits_decimal}
use Rattle.std.proofs.lemmas.Str.Parse.{numerals_by_value, tells_digits, not_in_digits}
use Rattle.std.proofs.lemmas.List.Elements.{All-cons, All-nil}
use Rattle.roll_frame.specs.declared.path.Path.{Path}
use Rattle.roll_frame.specs.declared.row.Cell.{Cell}
use Rattle.roll_frame.specs.declared.row.Cell.TheVariants.{Word, Gone}
use Rattle.roll_frame.specs.Cells.{Rows}
use Rattle.roll_frame.specs.declared.claim.Differ.{Differ}
use Rattle.roll_text.specs.Lines.{Lacks}
use Rattle.roll_text.specs.Numbers.{IsWord}
use Rattle.roll_text.proofs.Joined.{decimal-lacks, join-lacks, split-fields, high-lacks}
use Rattle.roll_cert.specs.Texts.{IsCell, IsEntry, IsPathOf, IsRowOf, cell_text, entry_fields, entry_line, path_line, row_line, rows_line}
use Rattle.roll_cert.proofs.Values.{all-lack}

-- a cell has no comma, no space and no line's end
pub cell-lacks : (c : ℕ) → c < 48 → (cell : Cell) → IsCell cell → Lacks c (cell_text cell)
cell-lacks c low (Word word) h = decimal-lacks c word low (omega arith)
cell-lacks c low Gone h = All-cons (λ x. (x == c) ≡ false) 120 [] (search (rules, tests)) (All-nil _)

pub row-lacks : (c players : ℕ) → c < 44 → (row : List Cell) → IsRowOf players row → Lacks c (row_line row)
row-lacks c players low row h = join-lacks c 44 (map cell_text row) (search (rules, tests)) (all-lack c IsCell cell_text (cell-lacks c (omega arith)) row h.1)

rows-lack : (players : ℕ) (rows : Rows) → AllByRecursion (IsRowOf players) rows → Lacks 10 (rows_line rows)
rows-lack players [] h = high-lacks 10 (omega arith) (codes "-") refl
rows-lack players (row ∷ rows) h = join-lacks 10 32 (map row_line (row ∷ rows)) refl (all-lack 10 (IsRowOf players) row_line (row-lacks 10 players (omega arith)) (row ∷ rows) h)

pub path-lacks : (players base : ℕ) (path : Path) → IsPathOf players base path → Lacks 10 (path_line path)
path-lacks players base path h = rows-lack players path.rows.items h.2

pub entry_fields-lack : (c : ℕ) → c < 48 → (entry : Differ) → IsEntry entry → AllByRecursion (Lacks c) (entry_fields entry)
entry_fields-lack c low entry h = (decimal-lacks c entry.state low (omega arith), (decimal-lacks c entry.frame low (omega arith), (decimal-lacks c entry.player low (omega arith), tt)))

pub entry-lacks : (entry : Differ) → IsEntry entry → Lacks 10 (entry_line entry)
entry-lacks entry h = join-lacks 10 32 (entry_fields entry) refl (entry_fields-lack 10 (omega arith) entry h)

pub split-entry : (entry : Differ) → IsEntry entry → slice_split (λ b. b == 32) (entry_line entry) ≡ entry_fields entry
split-entry entry h = split-fields 32 (entry_fields entry) (omega arith) (entry_fields-lack 32 (omega arith) entry h)

-- no digits are the letter x
letter_apart : (n : ℕ) → IsWord n → decimal n ≡ codes "x" → ⊥
letter_apart n small e =
    let own = numerals_by_value _ tells_digits in
    not_in_digits own (decimal n) 120 (digits_decimal own n (omega arith)) (λ h. omega arith) 0 (rw e (omega arith)) (rw e refl)

pub cell_text-injective : (a b : Cell) → IsCell a → IsCell b → cell_text a ≡ cell_text b → a ≡ b
cell_text-injective (Word v) (Word w) h k e = ap Word (decimal_injective v w (omega arith) (omega arith) e)
cell_text-injective (Word v) Gone h k e = absurd (letter_apart v h e)
cell_text-injective Gone (Word w) h k e = absurd (letter_apart w k (sym e))
cell_text-injective Gone Gone h k e = refl

-- a line that is not a dash has some rows
pub some_rows : (text : List ℕ) (rows : Rows) → (text ≡ codes "-" → ⊥) → text ≡ rows_line rows → (0 < length rows) × (text ≡ join_with_byte 32 (map row_line rows))
some_rows text [] apart e = absurd (apart e)
some_rows text (row ∷ rows) apart e = (omega arith, e)

pub rows_joined : (rows : Rows) → 0 < length rows → join_with_byte 32 (map row_line rows) ≡ rows_line rows
rows_joined [] some = absurd (omega (arith, some))
rows_joined (row ∷ rows) some = refl
