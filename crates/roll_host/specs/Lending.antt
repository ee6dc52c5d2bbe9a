-- What a host ends as, once the `&mut` to its session that it lent has ended.
use denote.RattleType.{RattleType}
use Rattle.std.specs.Borrow.{Fml, Lends, MutBor}
use Rattle.roll_branch.specs.declared.branch.Done.{Done}
use Rattle.roll_game.specs.declared.game.Game as game
use Rattle.roll_game.specs.declared.game.RawGame as raw_game
use Rattle.roll_session.specs.Seen.{Seen}
use Rattle.roll_session.specs.contracts.session.Session.{the_row as session_row}
use Rattle.roll_host.specs.Hosted.{Hosted}
use Rattle.roll_host.specs.contracts.host.Host.{the_row}

-- it has the session as that was left, and its links and its pool as they were
abbrev pub LendsSession : (G S N : RattleType) → game.Ghosts G.Denot S.Denot N.Denot → raw_game.Ghosts G.Denot S.Denot N.Denot
    → MutBor (Hosted (Done G.Denot S.Denot N.Denot)) → MutBor Seen → Fml
LendsSession G S N own raw host session =
    Lends (the_row G S N own raw) (session_row G S N own raw) host session (λ left. record host.now { session = left })
