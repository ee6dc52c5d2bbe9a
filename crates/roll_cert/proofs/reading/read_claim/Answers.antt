use Rattle.std.proofs.Common.{◌≡◌, ◌≤◌, ◌⊎◌, inr, arith, codes, length}
use Rattle.roll_frame.specs.declared.limits.TheConstants.{PATH_LIMIT, TREE_LIMIT}
use Rattle.roll_frame.specs.declared.refusal.Refusal.TheVariants.{NoMemory}
use Rattle.roll_frame.specs.declared.claim.Claim.{Claim}
use Rattle.roll_text.specs.declared.streams.TheConstants.{TEXT_LIMIT}
use Rattle.roll_cert.specs.Texts.{IsEntry, IsPathOf, IsRowOf, IsUnreadable, entry_line, path_line, row_line}
use Rattle.roll_cert.proofs.Begun.{Differs, End, Kept, heading_read, possible_entries, possible_paths, possible_rows, section_text, whole_text}
use Rattle.roll_cert.proofs.Remains.{Each, all_read, each_refused, handed_on, number_read, number_wrong, too_much}
use Rattle.roll_cert.proofs.reading.read_claim.Goals as goal

pub returns-in_err-count-clause-refused : goal.returns-in_err-count-clause-refused
returns-in_err-count-clause-refused c =
    let headed = heading_read c.args.lines.now.rest.now c.read_heading.new.lines.rest.now c.read_heading.new.lines.next c.in_ok-heading.heading.players c.in_ok-heading.heading.base c.in_ok-heading.heading.from c.in_ok-heading.ensures.sized.0 c.in_ok-heading.ensures.sized.1 c.in_ok-heading.ensures.sized.2 c.in_ok-heading.ensures.sized.3 c.in_ok-heading.ensures.ok (omega (arith, c.requires, c.in_ok-heading.ensures.next)) in
    let short : length c.args.lines.now.rest.now ≤ TEXT_LIMIT = omega (arith, c.args.lines.now.short, c.requires) in
    handed_on c.from_residual-in_err-count.result c.in_err-count.field-0.0 (λ why. (why ≡ NoMemory) ⊎ IsUnreadable why c.args.lines.now.rest.now) c.from_residual-in_err-count.ensures.1
    (inr (number_wrong (codes "time ") 0 PATH_LIMIT (Each (IsRowOf c.in_ok-heading.heading.players) row_line (Kept c.in_ok-heading.heading.players c.in_ok-heading.heading.base)) c.args.lines.now.rest.now c.read_heading.new.lines.rest.now c.read_heading.new.lines.next c.in_err-count.field-0.0 short headed c.in_err-count.ensures.err))

pub returns-in_err-time-clause-refused : goal.returns-in_err-time-clause-refused
returns-in_err-time-clause-refused c =
    let headed = heading_read c.args.lines.now.rest.now c.read_heading.new.lines.rest.now c.read_heading.new.lines.next c.in_ok-heading.heading.players c.in_ok-heading.heading.base c.in_ok-heading.heading.from c.in_ok-heading.ensures.sized.0 c.in_ok-heading.ensures.sized.1 c.in_ok-heading.ensures.sized.2 c.in_ok-heading.ensures.sized.3 c.in_ok-heading.ensures.ok (omega (arith, c.requires, c.in_ok-heading.ensures.next)) in
    let timed = number_read (codes "time ") 0 PATH_LIMIT (Each (IsRowOf c.in_ok-heading.heading.players) row_line (Kept c.in_ok-heading.heading.players c.in_ok-heading.heading.base)) c.args.lines.now.rest.now c.read_heading.new.lines.rest.now c.number.new.self.rest.now c.read_heading.new.lines.next c.number.new.self.next c.in_ok-count.count (omega arith) headed c.in_ok-count.ensures.ok c.in_ok-count.ensures.next (possible_rows c.in_ok-heading.heading.players c.in_ok-heading.heading.base c.in_ok-count.count) in
    let short : length c.args.lines.now.rest.now ≤ TEXT_LIMIT = omega (arith, c.args.lines.now.short, c.requires) in
    handed_on c.from_residual-in_err-time.result c.in_err-time.field-0.0 (λ why. (why ≡ NoMemory) ⊎ IsUnreadable why c.args.lines.now.rest.now) c.from_residual-in_err-time.ensures.1
    (each_refused (IsRowOf c.in_ok-heading.heading.players) row_line (Kept c.in_ok-heading.heading.players c.in_ok-heading.heading.base) c.in_ok-count.count c.args.lines.now.rest.now c.number.new.self.rest.now c.number.new.self.next c.in_err-time.field-0.0 short timed c.in_err-time.ensures.err)

pub returns-in_err-count-2-clause-refused : goal.returns-in_err-count-2-clause-refused
returns-in_err-count-2-clause-refused c =
    let headed = heading_read c.args.lines.now.rest.now c.read_heading.new.lines.rest.now c.read_heading.new.lines.next c.in_ok-heading.heading.players c.in_ok-heading.heading.base c.in_ok-heading.heading.from c.in_ok-heading.ensures.sized.0 c.in_ok-heading.ensures.sized.1 c.in_ok-heading.ensures.sized.2 c.in_ok-heading.ensures.sized.3 c.in_ok-heading.ensures.ok (omega (arith, c.requires, c.in_ok-heading.ensures.next)) in
    let timed = number_read (codes "time ") 0 PATH_LIMIT (Each (IsRowOf c.in_ok-heading.heading.players) row_line (Kept c.in_ok-heading.heading.players c.in_ok-heading.heading.base)) c.args.lines.now.rest.now c.read_heading.new.lines.rest.now c.number.new.self.rest.now c.read_heading.new.lines.next c.number.new.self.next c.in_ok-count.count (omega arith) headed c.in_ok-count.ensures.ok c.in_ok-count.ensures.next (possible_rows c.in_ok-heading.heading.players c.in_ok-heading.heading.base c.in_ok-count.count) in
    let rows = all_read (IsRowOf c.in_ok-heading.heading.players) row_line (Kept c.in_ok-heading.heading.players c.in_ok-heading.heading.base) c.in_ok-count.count c.args.lines.now.rest.now c.number.new.self.rest.now c.read_rows.new.lines.rest.now c.number.new.self.next c.read_rows.new.lines.next c.in_ok-time.time.items timed c.in_ok-time.ensures.ok c.in_ok-time.ensures.next in
    let short : length c.args.lines.now.rest.now ≤ TEXT_LIMIT = omega (arith, c.args.lines.now.short, c.requires) in
    handed_on c.from_residual-in_err-count-2.result c.in_err-count-2.field-0.0 (λ why. (why ≡ NoMemory) ⊎ IsUnreadable why c.args.lines.now.rest.now) c.from_residual-in_err-count-2.ensures.1
    (inr (number_wrong (codes "kept ") 0 TREE_LIMIT (Each (IsPathOf c.in_ok-heading.heading.players c.in_ok-heading.heading.base) path_line Differs) c.args.lines.now.rest.now c.read_rows.new.lines.rest.now c.read_rows.new.lines.next c.in_err-count-2.field-0.0 short rows c.in_err-count-2.ensures.err))

pub returns-in_err-kept-clause-refused : goal.returns-in_err-kept-clause-refused
returns-in_err-kept-clause-refused c =
    let headed = heading_read c.args.lines.now.rest.now c.read_heading.new.lines.rest.now c.read_heading.new.lines.next c.in_ok-heading.heading.players c.in_ok-heading.heading.base c.in_ok-heading.heading.from c.in_ok-heading.ensures.sized.0 c.in_ok-heading.ensures.sized.1 c.in_ok-heading.ensures.sized.2 c.in_ok-heading.ensures.sized.3 c.in_ok-heading.ensures.ok (omega (arith, c.requires, c.in_ok-heading.ensures.next)) in
    let timed = number_read (codes "time ") 0 PATH_LIMIT (Each (IsRowOf c.in_ok-heading.heading.players) row_line (Kept c.in_ok-heading.heading.players c.in_ok-heading.heading.base)) c.args.lines.now.rest.now c.read_heading.new.lines.rest.now c.number.new.self.rest.now c.read_heading.new.lines.next c.number.new.self.next c.in_ok-count.count (omega arith) headed c.in_ok-count.ensures.ok c.in_ok-count.ensures.next (possible_rows c.in_ok-heading.heading.players c.in_ok-heading.heading.base c.in_ok-count.count) in
    let rows = all_read (IsRowOf c.in_ok-heading.heading.players) row_line (Kept c.in_ok-heading.heading.players c.in_ok-heading.heading.base) c.in_ok-count.count c.args.lines.now.rest.now c.number.new.self.rest.now c.read_rows.new.lines.rest.now c.number.new.self.next c.read_rows.new.lines.next c.in_ok-time.time.items timed c.in_ok-time.ensures.ok c.in_ok-time.ensures.next in
    let kept = number_read (codes "kept ") 0 TREE_LIMIT (Each (IsPathOf c.in_ok-heading.heading.players c.in_ok-heading.heading.base) path_line Differs) c.args.lines.now.rest.now c.read_rows.new.lines.rest.now c.number-2.new.self.rest.now c.read_rows.new.lines.next c.number-2.new.self.next c.in_ok-count-2.count (omega arith) rows c.in_ok-count-2.ensures.ok c.in_ok-count-2.ensures.next (possible_paths c.in_ok-heading.heading.players c.in_ok-heading.heading.base c.in_ok-count-2.count) in
    let short : length c.args.lines.now.rest.now ≤ TEXT_LIMIT = omega (arith, c.args.lines.now.short, c.requires) in
    handed_on c.from_residual-in_err-kept.result c.in_err-kept.field-0.0 (λ why. (why ≡ NoMemory) ⊎ IsUnreadable why c.args.lines.now.rest.now) c.from_residual-in_err-kept.ensures.1
    (each_refused (IsPathOf c.in_ok-heading.heading.players c.in_ok-heading.heading.base) path_line Differs c.in_ok-count-2.count c.args.lines.now.rest.now c.number-2.new.self.rest.now c.number-2.new.self.next c.in_err-kept.field-0.0 short kept c.in_err-kept.ensures.err)

pub returns-in_err-count-3-clause-refused : goal.returns-in_err-count-3-clause-refused
returns-in_err-count-3-clause-refused c =
    let headed = heading_read c.args.lines.now.rest.now c.read_heading.new.lines.rest.now c.read_heading.new.lines.next c.in_ok-heading.heading.players c.in_ok-heading.heading.base c.in_ok-heading.heading.from c.in_ok-heading.ensures.sized.0 c.in_ok-heading.ensures.sized.1 c.in_ok-heading.ensures.sized.2 c.in_ok-heading.ensures.sized.3 c.in_ok-heading.ensures.ok (omega (arith, c.requires, c.in_ok-heading.ensures.next)) in
    let timed = number_read (codes "time ") 0 PATH_LIMIT (Each (IsRowOf c.in_ok-heading.heading.players) row_line (Kept c.in_ok-heading.heading.players c.in_ok-heading.heading.base)) c.args.lines.now.rest.now c.read_heading.new.lines.rest.now c.number.new.self.rest.now c.read_heading.new.lines.next c.number.new.self.next c.in_ok-count.count (omega arith) headed c.in_ok-count.ensures.ok c.in_ok-count.ensures.next (possible_rows c.in_ok-heading.heading.players c.in_ok-heading.heading.base c.in_ok-count.count) in
    let rows = all_read (IsRowOf c.in_ok-heading.heading.players) row_line (Kept c.in_ok-heading.heading.players c.in_ok-heading.heading.base) c.in_ok-count.count c.args.lines.now.rest.now c.number.new.self.rest.now c.read_rows.new.lines.rest.now c.number.new.self.next c.read_rows.new.lines.next c.in_ok-time.time.items timed c.in_ok-time.ensures.ok c.in_ok-time.ensures.next in
    let kept = number_read (codes "kept ") 0 TREE_LIMIT (Each (IsPathOf c.in_ok-heading.heading.players c.in_ok-heading.heading.base) path_line Differs) c.args.lines.now.rest.now c.read_rows.new.lines.rest.now c.number-2.new.self.rest.now c.read_rows.new.lines.next c.number-2.new.self.next c.in_ok-count-2.count (omega arith) rows c.in_ok-count-2.ensures.ok c.in_ok-count-2.ensures.next (possible_paths c.in_ok-heading.heading.players c.in_ok-heading.heading.base c.in_ok-count-2.count) in
    let paths = all_read (IsPathOf c.in_ok-heading.heading.players c.in_ok-heading.heading.base) path_line Differs c.in_ok-count-2.count c.args.lines.now.rest.now c.number-2.new.self.rest.now c.read_paths.new.lines.rest.now c.number-2.new.self.next c.read_paths.new.lines.next c.in_ok-kept.kept.items kept c.in_ok-kept.ensures.ok c.in_ok-kept.ensures.next in
    let short : length c.args.lines.now.rest.now ≤ TEXT_LIMIT = omega (arith, c.args.lines.now.short, c.requires) in
    handed_on c.from_residual-in_err-count-3.result c.in_err-count-3.field-0.0 (λ why. (why ≡ NoMemory) ⊎ IsUnreadable why c.args.lines.now.rest.now) c.from_residual-in_err-count-3.ensures.1
    (inr (number_wrong (codes "differs ") 0 TREE_LIMIT (Each IsEntry entry_line End) c.args.lines.now.rest.now c.read_paths.new.lines.rest.now c.read_paths.new.lines.next c.in_err-count-3.field-0.0 short paths c.in_err-count-3.ensures.err))

pub returns-in_err-differs-clause-refused : goal.returns-in_err-differs-clause-refused
returns-in_err-differs-clause-refused c =
    let headed = heading_read c.args.lines.now.rest.now c.read_heading.new.lines.rest.now c.read_heading.new.lines.next c.in_ok-heading.heading.players c.in_ok-heading.heading.base c.in_ok-heading.heading.from c.in_ok-heading.ensures.sized.0 c.in_ok-heading.ensures.sized.1 c.in_ok-heading.ensures.sized.2 c.in_ok-heading.ensures.sized.3 c.in_ok-heading.ensures.ok (omega (arith, c.requires, c.in_ok-heading.ensures.next)) in
    let timed = number_read (codes "time ") 0 PATH_LIMIT (Each (IsRowOf c.in_ok-heading.heading.players) row_line (Kept c.in_ok-heading.heading.players c.in_ok-heading.heading.base)) c.args.lines.now.rest.now c.read_heading.new.lines.rest.now c.number.new.self.rest.now c.read_heading.new.lines.next c.number.new.self.next c.in_ok-count.count (omega arith) headed c.in_ok-count.ensures.ok c.in_ok-count.ensures.next (possible_rows c.in_ok-heading.heading.players c.in_ok-heading.heading.base c.in_ok-count.count) in
    let rows = all_read (IsRowOf c.in_ok-heading.heading.players) row_line (Kept c.in_ok-heading.heading.players c.in_ok-heading.heading.base) c.in_ok-count.count c.args.lines.now.rest.now c.number.new.self.rest.now c.read_rows.new.lines.rest.now c.number.new.self.next c.read_rows.new.lines.next c.in_ok-time.time.items timed c.in_ok-time.ensures.ok c.in_ok-time.ensures.next in
    let kept = number_read (codes "kept ") 0 TREE_LIMIT (Each (IsPathOf c.in_ok-heading.heading.players c.in_ok-heading.heading.base) path_line Differs) c.args.lines.now.rest.now c.read_rows.new.lines.rest.now c.number-2.new.self.rest.now c.read_rows.new.lines.next c.number-2.new.self.next c.in_ok-count-2.count (omega arith) rows c.in_ok-count-2.ensures.ok c.in_ok-count-2.ensures.next (possible_paths c.in_ok-heading.heading.players c.in_ok-heading.heading.base c.in_ok-count-2.count) in
    let paths = all_read (IsPathOf c.in_ok-heading.heading.players c.in_ok-heading.heading.base) path_line Differs c.in_ok-count-2.count c.args.lines.now.rest.now c.number-2.new.self.rest.now c.read_paths.new.lines.rest.now c.number-2.new.self.next c.read_paths.new.lines.next c.in_ok-kept.kept.items kept c.in_ok-kept.ensures.ok c.in_ok-kept.ensures.next in
    let differs = number_read (codes "differs ") 0 TREE_LIMIT (Each IsEntry entry_line End) c.args.lines.now.rest.now c.read_paths.new.lines.rest.now c.number-3.new.self.rest.now c.read_paths.new.lines.next c.number-3.new.self.next c.in_ok-count-3.count (omega arith) paths c.in_ok-count-3.ensures.ok c.in_ok-count-3.ensures.next (possible_entries c.in_ok-count-3.count) in
    let short : length c.args.lines.now.rest.now ≤ TEXT_LIMIT = omega (arith, c.args.lines.now.short, c.requires) in
    handed_on c.from_residual-in_err-differs.result c.in_err-differs.field-0.0 (λ why. (why ≡ NoMemory) ⊎ IsUnreadable why c.args.lines.now.rest.now) c.from_residual-in_err-differs.ensures.1
    (each_refused IsEntry entry_line End c.in_ok-count-3.count c.args.lines.now.rest.now c.number-3.new.self.rest.now c.number-3.new.self.next c.in_err-differs.field-0.0 short differs c.in_err-differs.ensures.err)

pub returns-in_err-end-clause-refused : goal.returns-in_err-end-clause-refused
returns-in_err-end-clause-refused c =
    let headed = heading_read c.args.lines.now.rest.now c.read_heading.new.lines.rest.now c.read_heading.new.lines.next c.in_ok-heading.heading.players c.in_ok-heading.heading.base c.in_ok-heading.heading.from c.in_ok-heading.ensures.sized.0 c.in_ok-heading.ensures.sized.1 c.in_ok-heading.ensures.sized.2 c.in_ok-heading.ensures.sized.3 c.in_ok-heading.ensures.ok (omega (arith, c.requires, c.in_ok-heading.ensures.next)) in
    let timed = number_read (codes "time ") 0 PATH_LIMIT (Each (IsRowOf c.in_ok-heading.heading.players) row_line (Kept c.in_ok-heading.heading.players c.in_ok-heading.heading.base)) c.args.lines.now.rest.now c.read_heading.new.lines.rest.now c.number.new.self.rest.now c.read_heading.new.lines.next c.number.new.self.next c.in_ok-count.count (omega arith) headed c.in_ok-count.ensures.ok c.in_ok-count.ensures.next (possible_rows c.in_ok-heading.heading.players c.in_ok-heading.heading.base c.in_ok-count.count) in
    let rows = all_read (IsRowOf c.in_ok-heading.heading.players) row_line (Kept c.in_ok-heading.heading.players c.in_ok-heading.heading.base) c.in_ok-count.count c.args.lines.now.rest.now c.number.new.self.rest.now c.read_rows.new.lines.rest.now c.number.new.self.next c.read_rows.new.lines.next c.in_ok-time.time.items timed c.in_ok-time.ensures.ok c.in_ok-time.ensures.next in
    let kept = number_read (codes "kept ") 0 TREE_LIMIT (Each (IsPathOf c.in_ok-heading.heading.players c.in_ok-heading.heading.base) path_line Differs) c.args.lines.now.rest.now c.read_rows.new.lines.rest.now c.number-2.new.self.rest.now c.read_rows.new.lines.next c.number-2.new.self.next c.in_ok-count-2.count (omega arith) rows c.in_ok-count-2.ensures.ok c.in_ok-count-2.ensures.next (possible_paths c.in_ok-heading.heading.players c.in_ok-heading.heading.base c.in_ok-count-2.count) in
    let paths = all_read (IsPathOf c.in_ok-heading.heading.players c.in_ok-heading.heading.base) path_line Differs c.in_ok-count-2.count c.args.lines.now.rest.now c.number-2.new.self.rest.now c.read_paths.new.lines.rest.now c.number-2.new.self.next c.read_paths.new.lines.next c.in_ok-kept.kept.items kept c.in_ok-kept.ensures.ok c.in_ok-kept.ensures.next in
    let differs = number_read (codes "differs ") 0 TREE_LIMIT (Each IsEntry entry_line End) c.args.lines.now.rest.now c.read_paths.new.lines.rest.now c.number-3.new.self.rest.now c.read_paths.new.lines.next c.number-3.new.self.next c.in_ok-count-3.count (omega arith) paths c.in_ok-count-3.ensures.ok c.in_ok-count-3.ensures.next (possible_entries c.in_ok-count-3.count) in
    let entries = all_read IsEntry entry_line End c.in_ok-count-3.count c.args.lines.now.rest.now c.number-3.new.self.rest.now c.read_entries.new.lines.rest.now c.number-3.new.self.next c.read_entries.new.lines.next c.in_ok-differs.differs.items differs c.in_ok-differs.ensures.ok c.in_ok-differs.ensures.next in
    let short : length c.args.lines.now.rest.now ≤ TEXT_LIMIT = omega (arith, c.args.lines.now.short, c.requires) in
    handed_on c.from_residual-in_err-end.result c.in_err-end.field-0.0 (λ why. (why ≡ NoMemory) ⊎ IsUnreadable why c.args.lines.now.rest.now) c.from_residual-in_err-end.ensures.1
    (inr (too_much c.args.lines.now.rest.now c.read_entries.new.lines.rest.now c.read_entries.new.lines.next c.in_err-end.field-0.0 short entries c.in_err-end.ensures.err.0 c.in_err-end.ensures.err.1))

pub returns-clause-sized : goal.returns-clause-sized
returns-clause-sized c =
    let time = c.in_ok-time.ensures.ok in
    let kept = c.in_ok-kept.ensures.ok in
    let differs = c.in_ok-differs.ensures.ok in
    rw (c.from.ensures, c.from-2.ensures, c.from-3.ensures) (record {
      some = c.in_ok-heading.ensures.sized.0;
      few = c.in_ok-heading.ensures.sized.1;
      base = c.in_ok-heading.ensures.sized.2;
      from = c.in_ok-heading.ensures.sized.3;
      short = omega (arith, time.counted, c.in_ok-count.ensures.ok.fits);
      time = time.fit;
      few_kept = omega (arith, kept.counted, c.in_ok-count-2.ensures.ok.fits);
      kept = kept.fit;
      few_entries = omega (arith, differs.counted, c.in_ok-count-3.ensures.ok.fits);
      differs = differs.fit;
    })

pub returns-clause-claim : goal.returns-clause-claim
returns-clause-claim c =
    let claim : Claim = record { players = c.in_ok-heading.heading.players; base = c.in_ok-heading.heading.base; time = c.in_ok-time.time.items; kept = c.in_ok-kept.kept.items; from = c.in_ok-heading.heading.from; differs = c.in_ok-differs.differs.items } in
    let time = section_text (codes "time ") PATH_LIMIT (IsRowOf c.in_ok-heading.heading.players) row_line c.read_heading.new.lines.rest.now c.number.new.self.rest.now c.read_rows.new.lines.rest.now c.in_ok-count.count c.in_ok-time.time.items c.in_ok-count.ensures.ok c.in_ok-time.ensures.ok in
    let kept = section_text (codes "kept ") TREE_LIMIT (IsPathOf c.in_ok-heading.heading.players c.in_ok-heading.heading.base) path_line c.read_rows.new.lines.rest.now c.number-2.new.self.rest.now c.read_paths.new.lines.rest.now c.in_ok-count-2.count c.in_ok-kept.kept.items c.in_ok-count-2.ensures.ok c.in_ok-kept.ensures.ok in
    let differs = section_text (codes "differs ") TREE_LIMIT IsEntry entry_line c.read_paths.new.lines.rest.now c.number-3.new.self.rest.now c.read_entries.new.lines.rest.now c.in_ok-count-3.count c.in_ok-differs.differs.items c.in_ok-count-3.ensures.ok c.in_ok-differs.ensures.ok in
    rw (c.from.ensures, c.from-2.ensures, c.from-3.ensures) (whole_text claim c.args.lines.now.rest.now c.read_heading.new.lines.rest.now c.read_rows.new.lines.rest.now c.read_paths.new.lines.rest.now c.read_entries.new.lines.rest.now c.in_ok-heading.ensures.ok time kept differs c.in_ok-end.ensures.ok)
