-- A claim's text is short.
use Rattle.std.proofs.Common.{◌≡◌, ℕ, suc, ◌+◌, ◌*◌, ◌<◌, ◌≤◌, ◌^◌, ◌++◌, List, [], ◌∷◌, ap, arith, codes, length, map}
use Rattle.std.specs.Fmt.{decimal}
use Rattle.std.specs.List.{AllByRecursion, join_with_byte}
use Rattle.std.proofs.Math.Nat.{mul-suc, mul-le-mul_left}
use Rattle.std.proofs.lemmas.Fmt.{length-decimal-le}
use Rattle.std.proofs.lemmas.Grind.{flat_map-append}
use Rattle.std.proofs.lemmas.List.{length-append}
use Rattle.roll_frame.specs.declared.limits.TheConstants.{FRAME_LIMIT, PATH_LIMIT, PLAYER_LIMIT, TREE_LIMIT}
use Rattle.roll_frame.specs.declared.row.Cell.{Cell}
use Rattle.roll_frame.specs.declared.row.Cell.TheVariants.{Word, Gone}
use Rattle.roll_frame.specs.Cells.{Rows}
use Rattle.roll_frame.specs.declared.claim.Claim.{Claim}
use Rattle.roll_frame.specs.declared.claim.Differ.{Differ}
use Rattle.roll_text.specs.declared.streams.TheConstants.{TEXT_LIMIT}
use Rattle.roll_text.specs.Lines.{ended, text_of}
use Rattle.roll_cert.specs.Texts.{IsCell, IsEntry, IsPathOf, IsRowOf, IsSized, cell_text, claim_lines, entry_line, heading_lines, named, path_line, row_line, rows_line, section, version_of}
use Rattle.roll_cert.proofs.Laid.{version_is}

digits : (n : ℕ) → n < 2 ^ 32 → length (decimal n) ≤ 10
digits n small = length-decimal-le 10 n (omega arith) (omega arith) (omega arith)

-- values of short texts, joined
joined-short : {A : Type 0} (c most : ℕ) (Fits : A → Type 0) (spelling : A → List ℕ) → ((a : A) → Fits a → length (spelling a) ≤ most) → (values : List A) → AllByRecursion Fits values
    → length (join_with_byte c (map spelling values)) ≤ suc most * length values
joined-short c most Fits spelling short [] h = omega arith
joined-short c most Fits spelling short (a ∷ []) h = omega (arith, short a h.0, mul-suc (suc most) 0)
joined-short c most Fits spelling short (a ∷ b ∷ values) h =
    let more = joined-short c most Fits spelling short (b ∷ values) h.1 in
    omega (arith, more, short a h.0, mul-suc (suc most) (length (b ∷ values)), length-append (spelling a) (c ∷ join_with_byte c (map spelling (b ∷ values))))

lines-short : {A : Type 0} (most : ℕ) (Fits : A → Type 0) (spelling : A → List ℕ) → ((a : A) → Fits a → length (spelling a) ≤ most) → (values : List A) → AllByRecursion Fits values
    → length (text_of (map spelling values)) ≤ suc most * length values
lines-short most Fits spelling short [] h = omega arith
lines-short most Fits spelling short (a ∷ values) h =
    let more = lines-short most Fits spelling short values h.1 in
    omega (arith, more, short a h.0, mul-suc (suc most) (length values), length-append (ended (spelling a)) (text_of (map spelling values)), length-append (spelling a) (10 ∷ []))

named-short : (name : List ℕ) (n : ℕ) → n < 2 ^ 32 → length (ended (named name n)) ≤ length name + 11
named-short name n small = omega (arith, digits n small, length-append (named name n) (10 ∷ []), length-append name (decimal n))

section-short : {A : Type 0} (name : List ℕ) (most limit : ℕ) (Fits : A → Type 0) (spelling : A → List ℕ) → limit < 2 ^ 32 → ((a : A) → Fits a → length (spelling a) ≤ most) → (values : List A) → AllByRecursion Fits values → length values ≤ limit
    → length (text_of (section name spelling values)) ≤ length name + 11 + suc most * limit
section-short name most limit Fits spelling small short values h few =
    omega (arith, lines-short most Fits spelling short values h, mul-le-mul_left (suc most) few, named-short name (length values) (omega (arith, few, small)), length-append (ended (named name (length values))) (text_of (map spelling values)))

cell-short : (cell : Cell) → IsCell cell → length (cell_text cell) ≤ 10
cell-short (Word word) h = digits word h
cell-short Gone h = omega arith

row-short : (players : ℕ) → players ≤ PLAYER_LIMIT → (row : List Cell) → IsRowOf players row → length (row_line row) ≤ 88
row-short players few row h = omega (arith, joined-short 44 10 IsCell cell_text cell-short row h.1, h.0, few)

rows-short : (players : ℕ) → players ≤ PLAYER_LIMIT → (rows : Rows) → length rows ≤ PATH_LIMIT → AllByRecursion (IsRowOf players) rows → length (rows_line rows) ≤ 2136
rows-short players few [] short h = omega arith
rows-short players few (row ∷ rows) short h = omega (arith, joined-short 32 88 (IsRowOf players) row_line (row-short players few) (row ∷ rows) h, short)

entry-short : (entry : Differ) → IsEntry entry → length (entry_line entry) ≤ 32
entry-short entry h =
    omega (
      arith,
      digits entry.state (omega arith),
      digits entry.frame (omega arith),
      digits entry.player (omega arith),
      length-append (decimal entry.state) (32 ∷ (decimal entry.frame ++ 32 ∷ decimal entry.player)),
      length-append (decimal entry.frame) (32 ∷ decimal entry.player),
    )

four_lines : (a b c d : List ℕ) → length (text_of (a ∷ b ∷ c ∷ d ∷ [])) ≡ length (ended a) + (length (ended b) + (length (ended c) + length (ended d)))
four_lines a b c d =
    omega (arith, length-append (ended a) (text_of (b ∷ c ∷ d ∷ [])), length-append (ended b) (text_of (c ∷ d ∷ [])), length-append (ended c) (text_of (d ∷ [])), length-append (ended d) [])

four_parts : (a b c d : List (List ℕ)) → length (text_of (a ++ (b ++ (c ++ d)))) ≡ length (text_of a) + (length (text_of b) + (length (text_of c) + length (text_of d)))
four_parts a b c d =
    omega (
      arith,
      ap length (flat_map-append ended a (b ++ (c ++ d))),
      length-append (text_of a) (text_of (b ++ (c ++ d))),
      ap length (flat_map-append ended b (c ++ d)),
      length-append (text_of b) (text_of (c ++ d)),
      ap length (flat_map-append ended c d),
      length-append (text_of c) (text_of d),
    )

heading-short : (players base from : ℕ) → players ≤ PLAYER_LIMIT → base ≤ FRAME_LIMIT → from < 2 ^ 32 → length (text_of (heading_lines players base from)) ≤ 100
heading-short players base from few low small =
    omega (
      arith,
      four_lines (named (codes "rollcert ") (version_of players)) (named (codes "players ") players) (named (codes "base ") base) (named (codes "from ") from),
      named-short (codes "rollcert ") (version_of players) (omega (arith, version_is players)),
      named-short (codes "players ") players (omega (arith, few)),
      named-short (codes "base ") base (omega (arith, low)),
      named-short (codes "from ") from small,
    )

pub texts-short : (claim : Claim) → IsSized claim → length (text_of (claim_lines claim)) ≤ TEXT_LIMIT
texts-short claim h =
    let time = section-short (codes "time ") 88 PATH_LIMIT (IsRowOf claim.players) row_line (omega arith) (row-short claim.players h.few) claim.time h.time h.short in
    let kept = section-short (codes "kept ") 2136 TREE_LIMIT (IsPathOf claim.players claim.base) path_line (omega arith) (λ path fits. rows-short claim.players h.few path.rows.items fits.1 fits.2) claim.kept h.kept h.few_kept in
    let differs = section-short (codes "differs ") 32 TREE_LIMIT IsEntry entry_line (omega arith) entry-short claim.differs h.differs h.few_entries in
    let heading = heading-short claim.players claim.base claim.from h.few h.base h.from in
    omega (arith, heading, time, kept, differs, four_parts (heading_lines claim.players claim.base claim.from) (section (codes "time ") row_line claim.time) (section (codes "kept ") path_line claim.kept) (section (codes "differs ") entry_line claim.differs))
