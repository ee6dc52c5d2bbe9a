use Rattle.std.proofs.Common.{subst, sym}
use Rattle.roll_session.specs.Seen.{game_of}
use Rattle.roll_viewer.proofs.Settled.{known_log, tells, Known}
use Rattle.roll_viewer.proofs.telling.tells_rows.Goals as goal

pub returns : goal.returns
returns g c =
    let s = g.S.Networked.seen c.args.session.now in
    tells s.core c.args.had
    (subst Known (sym c.laws.ensures.core)
    (known_log s.settings (game_of g.S.Networked.step s) s.log c.laws.ensures.log))
