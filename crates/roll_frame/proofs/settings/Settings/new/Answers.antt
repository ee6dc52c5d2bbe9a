use Rattle.std.proofs.Common.{◌≡◌, ◌∙◌, ◌≤◌, arith, length, sym, true}
use Rattle.std.specs.Int.{is_in_range}
use Rattle.roll_frame.proofs.LocalBits.{has_local, plain_starts, range_parts}
use Rattle.roll_frame.proofs.settings.Settings.new.Goals as goal

pub returns-clause-starts : goal.returns-clause-starts
returns-clause-starts c =
    let bits = c.in_ok-local.ensures in
    let within : is_in_range 1 8 c.args.players ≡ true = sym (rw c.from.ensures at c.is_within.ensures) ∙ c.if-not-is_within.false in
    let r = range_parts 8 c.args.players within in
    let some : 1 ≤ length c.args.local.now = search (arith, c.is_empty.ensures, c.if-is_empty.false) in
    rw c.plain.ensures (plain_starts c.args.players c.in_ok-local.local r.0 r.1 bits.small (has_local c.in_ok-local.local c.args.players c.args.local.now r.1 some bits.inside bits.bits))
