use Rattle.std.proofs.Common.{◌∙◌, nat_lt}
use Rattle.std.proofs.lemmas.Bool.{le-ltb}
use Rattle.roll_frame.specs.Settings.{delay_at}
use Rattle.roll_frame.specs.declared.limits.TheConstants.{DELAY_LIMIT}
use Rattle.roll_frame.proofs.Searches.{search_goes_on}
use Rattle.roll_frame.proofs.settings.Settings.long_delay.Goals as goal

pub loop-place-preserved : goal.loop-place-preserved
loop-place-preserved c =
    let short = rw c.from.ensures at c.if-self-from-gt-DELAY_LIMIT.false in
    c.loop-place.invariant
    ∙ search_goes_on (λ place. nat_lt DELAY_LIMIT (delay_at c.args.self.now place)) c.loop-place.place c.args.self.now.players c.loop-place-test.true (le-ltb DELAY_LIMIT (delay_at c.args.self.now c.loop-place.place) short)
