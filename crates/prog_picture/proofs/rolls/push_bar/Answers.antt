use Rattle.std.proofs.Common.{rules, ◌≡◌, ◌-◌}
use Rattle.prog_picture.proofs.rolls.push_bar.Goals as goal

pub returns : goal.returns
returns c =
    let e : c.saturating_sub-width.result ≡ c.args.end - c.args.x = c.saturating_sub-width.ensures in
    rw⁻¹ e (search rules)
