-- Files of rows are texts of a header and rows.
use Rattle.std.proofs.Common.{◌≡◌, ℕ, codes, refl, subst, arith}
use Rattle.std.specs.Fmt.{decimal}
use Rattle.std.proofs.lemmas.List.{append_cancel_left}
use Rattle.std.proofs.lemmas.Fmt.{decimal_injective}
use Rattle.roll_cert.specs.Texts.{IsRowOf, row_line}
use Rattle.roll_cert.proofs.Spelled.{row-lacks}
use Rattle.roll_cert.proofs.Wrong.{named-lacks}
use Rattle.roll_text.specs.Lines.{Lacks}
use Rattle.roll_text.proofs.Headed.{IsHeaded}
use Rattle.prog_scripts.specs.RowsFiles.{RowsFile, IsCount, IsRowsFile, rows_header}

header-lacks : (players : ℕ) → IsCount players → Lacks 10 (rows_header players)
header-lacks players h = named-lacks (codes "rolltest 1 players ") 1 4 players refl (omega arith) h

same_players : (a b : ℕ) → IsCount a → IsCount b → rows_header a ≡ rows_header b → a ≡ b
same_players a b is_a is_b e = decimal_injective a b (omega (arith, is_a.1)) (omega (arith, is_b.1)) (append_cancel_left (codes "rolltest 1 players ") (decimal a) (decimal b) e)

pub files : IsHeaded IsCount IsRowOf rows_header row_line IsRowsFile (λ (file : RowsFile). file.players) (λ (file : RowsFile). file.rows) (λ players rows. record { players = players; rows = rows })
files = record {
  head_fits = λ file fits. fits.count;
  items_fit = λ file fits. fits.rows;
  made_fits = λ players rows count each. record { count = count; rows = each };
  made_head = λ players rows. refl;
  made_items = λ players rows. refl;
  head_lacks = header-lacks;
  item_lacks = λ players row fits. row-lacks 10 players (omega arith) row fits;
  same_items = λ a b is_a is_b e row fits. subst (λ n. IsRowOf n row) (same_players a b is_a is_b e) fits;
  least = 1;
  least_fits = (omega arith, omega arith);
}
