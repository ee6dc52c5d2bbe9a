use Rattle.std.proofs.Common.{◌+◌, arith, refl}
use Rattle.roll_session.proofs.Ways.{can_go, goes_on, is_added}
use Rattle.roll_session.proofs.saves.Saves.go_on.Goals as goal

pub add_state-way-requires-clause-fits : goal.add_state-way-requires-clause-fits
add_state-way-requires-clause-fits g c =
    can_go c.args.self.now c.args.way.now c.requires.going c.requires.more c.told_row-row.result (omega (arith, c.requires.going.near, c.laws.ensures.reached, c.laws.ensures.short)) c.told_row-row.ensures

pub returns-clause-added : goal.returns-clause-added
returns-clause-added g c =
    is_added c.args.self.now c.args.way.now c.requires.going c.requires.more c.add_state-way.new.self.tree c.told_row-row.result c.add_state-way.result c.args.snapshot c.told_row-row.ensures c.add_state-way.ensures.added

pub returns-clause-going : goal.returns-clause-going
returns-clause-going g c =
    goes_on c.args.self.now c.args.way.now c.requires.going c.requires.more c.add_state-way.new.self (record { at = c.add_state-way.result; frame = c.args.way.now.frame + 1; to = c.args.way.now.to }) c.args.snapshot refl refl c.add_state-way.ensures.inputs c.add_state-way.ensures.vacant (returns-clause-added g c)
