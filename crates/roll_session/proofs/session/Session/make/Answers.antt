use Rattle.std.proofs.Common.{◌≡◌, ◌+◌, Err, Ok, refl, rules}
use Rattle.roll_frame.specs.declared.entry.Entry.TheVariants.{Local, Remote, Disconnect, Sync, Advance}
use Rattle.roll_inputs.specs.declared.heard.Heard.TheVariants.{Taken, Repeated}
use Rattle.roll_session.specs.Seen.{plain}
use Rattle.roll_session.proofs.Changes.{advance_answered, disconnect_answered, local_answered, refused_answered, remote_answered, roll_refused_answered, sync_answered}
use Rattle.roll_session.proofs.session.Session.make.Goals as goal

pub returns-in_err-add_local_input-in-Local-clause-answered : goal.returns-in_err-add_local_input-in-Local-clause-answered
returns-in_err-add_local_input-in-Local-clause-answered g c =
    let e = c.in_err-add_local_input-in-Local in
    let is : c.from_residual.result ≡ Err e.field-0.0 = search (rules, c.from_residual.ensures) in
    rw (is, c.in-Local.is) (refused_answered g.G.Game.step c.args.self.now c.add_local_input.new.self (plain (Local c.in-Local.player c.in-Local.word)) e.field-0.0 refl e.ensures.refused)

pub returns-in_ok-add_local_input-in-Local-clause-answered : goal.returns-in_ok-add_local_input-in-Local-clause-answered
returns-in_ok-add_local_input-in-Local-clause-answered g c =
    let e = c.in_ok-add_local_input-in-Local.ensures in
    rw c.in-Local.is (local_answered g.G.Game.step c.args.self.now c.add_local_input.new.self {X = Unit {0}} c.in-Local.player c.in-Local.word (Ok tt) e.accepted e.taken tt)

pub returns-in_err-remote_input-in-Remote-clause-answered : goal.returns-in_err-remote_input-in-Remote-clause-answered
returns-in_err-remote_input-in-Remote-clause-answered g c =
    let e = c.in_err-remote_input-in-Remote in
    let is : c.from_residual-in_err-remote_input-in-Remote.result ≡ Err e.field-0.0 = search (rules, c.from_residual-in_err-remote_input-in-Remote.ensures) in
    rw (is, c.in-Remote.is) (refused_answered g.G.Game.step c.args.self.now c.remote_input.new.self (plain (Remote c.in-Remote.player c.in-Remote.frame c.in-Remote.word)) e.field-0.0 e.ensures.fresh e.ensures.refused)

pub returns-in-Taken-clause-answered : goal.returns-in-Taken-clause-answered
returns-in-Taken-clause-answered g c =
    let r = c.in-Remote in
    let heard = rw c.in-Taken.is at c.in_ok-remote_input-in-Remote.ensures.heard in
    rw r.is (remote_answered g.G.Game.step c.args.self.now c.remote_input.new.self r.player r.frame r.word (Ok Taken) heard tt tt)

pub returns-in-Repeated-clause-answered : goal.returns-in-Repeated-clause-answered
returns-in-Repeated-clause-answered g c =
    let r = c.in-Remote in
    let heard = rw c.in-Repeated.is at c.in_ok-remote_input-in-Remote.ensures.heard in
    rw r.is (remote_answered g.G.Game.step c.args.self.now c.remote_input.new.self r.player r.frame r.word (Ok Repeated) heard tt tt)

pub returns-in_err-disconnect_player-in-Disconnect-clause-answered : goal.returns-in_err-disconnect_player-in-Disconnect-clause-answered
returns-in_err-disconnect_player-in-Disconnect-clause-answered g c =
    let e = c.in_err-disconnect_player-in-Disconnect in
    let is : c.from_residual-in_err-disconnect_player-in-Disconnect.result ≡ Err e.field-0.0 = search (rules, c.from_residual-in_err-disconnect_player-in-Disconnect.ensures) in
    rw (is, c.in-Disconnect.is) (refused_answered g.G.Game.step c.args.self.now c.disconnect_player.new.self (plain (Disconnect c.in-Disconnect.player)) e.field-0.0 refl e.ensures.refused)

pub returns-in_ok-disconnect_player-in-Disconnect-clause-answered : goal.returns-in_ok-disconnect_player-in-Disconnect-clause-answered
returns-in_ok-disconnect_player-in-Disconnect-clause-answered g c =
    let e = c.in_ok-disconnect_player-in-Disconnect.ensures in
    rw c.in-Disconnect.is (disconnect_answered g.G.Game.step c.args.self.now c.disconnect_player.new.self {X = Unit {0}} c.in-Disconnect.player (Ok tt) e.accepted e.taken tt)

pub returns-in_err-synchronize_input-in-Sync-clause-answered : goal.returns-in_err-synchronize_input-in-Sync-clause-answered
returns-in_err-synchronize_input-in-Sync-clause-answered g c =
    let e = c.in_err-synchronize_input-in-Sync in
    let is : c.from_residual-in_err-synchronize_input-in-Sync.result ≡ Err e.field-0.0 = search (rules, c.from_residual-in_err-synchronize_input-in-Sync.ensures) in
    rw (is, c.in-Sync.is) (roll_refused_answered g.G.Game.step c.args.self.now c.synchronize_input.new.self (plain Sync) c.args.self.now.core.frame e.field-0.0 refl (λ h. h) e.ensures.refused)

pub returns-in_ok-synchronize_input-in-Sync-clause-answered : goal.returns-in_ok-synchronize_input-in-Sync-clause-answered
returns-in_ok-synchronize_input-in-Sync-clause-answered g c =
    let e = c.in_ok-synchronize_input-in-Sync in
    rw c.in-Sync.is (sync_answered g.G.Game.step c.args.self.now c.synchronize_input.new.self (Ok e.field-0) e.ensures.accepted e.ensures.row e.ensures.rolled tt)

pub returns-in_err-frame-in-Advance-clause-answered : goal.returns-in_err-frame-in-Advance-clause-answered
returns-in_err-frame-in-Advance-clause-answered g c =
    let e = c.in_err-frame-in-Advance in
    let is : c.from_residual-in_err-frame-in-Advance.result ≡ Err e.field-0.0 = search (rules, c.from_residual-in_err-frame-in-Advance.ensures) in
    rw (is, c.in-Advance.is) (roll_refused_answered g.G.Game.step c.args.self.now c.advance_frame.new.self (plain Advance) (c.args.self.now.core.frame + 1) e.field-0.0 refl (λ h. h) e.ensures.refused)

pub returns-in_ok-frame-in-Advance-clause-answered : goal.returns-in_ok-frame-in-Advance-clause-answered
returns-in_ok-frame-in-Advance-clause-answered g c =
    let e = c.in_ok-frame-in-Advance in
    rw c.in-Advance.is (advance_answered g.G.Game.step c.args.self.now c.advance_frame.new.self (Ok e.field-0) e.ensures.accepted e.ensures.reached e.ensures.rolled tt)
