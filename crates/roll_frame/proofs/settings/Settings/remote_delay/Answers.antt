use Rattle.std.proofs.Common.{◌∙◌, nat_lt, sym}
use Rattle.std.specs.Prelude.{◌&&◌, not}
use Rattle.roll_frame.specs.Settings.{delay_at, is_local}
use Rattle.roll_frame.proofs.Searches.{search_goes_on}
use Rattle.roll_frame.proofs.settings.Settings.remote_delay.Goals as goal

pub loop-place-preserved : goal.loop-place-preserved
loop-place-preserved c =
    c.loop-place.invariant
    ∙ search_goes_on (λ place. not (is_local c.args.self.now place) && nat_lt 0 (delay_at c.args.self.now place)) c.loop-place.place c.args.self.now.players c.loop-place-test.true (sym c.is_remote_delayed.ensures ∙ c.if-is_remote_delayed.false)
