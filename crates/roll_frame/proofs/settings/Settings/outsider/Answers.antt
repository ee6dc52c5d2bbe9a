use Rattle.std.proofs.Common.{◌∙◌, ◌<◌, arith, sym}
use Rattle.roll_frame.specs.Settings.{is_local}
use Rattle.roll_frame.proofs.Outsiders.{past_some}
use Rattle.roll_frame.proofs.Searches.{search_ends, search_finds, search_goes_on}
use Rattle.roll_frame.proofs.settings.Settings.outsider.Goals as goal

pub loop-place-preserved : goal.loop-place-preserved
loop-place-preserved c =
    c.loop-place.invariant
    ∙ search_goes_on (is_local c.args.self.now) c.loop-place.place 8 c.loop-place-test.true (sym c.has_bit.ensures ∙ c.if-has_bit.false)

pub returns-then-has_bit-clause-some : goal.returns-then-has_bit-clause-some
returns-then-has_bit-clause-some c =
    let small : c.args.self.now.local < 256 = omega arith in
    past_some c.args.self.now.players c.args.self.now.local _ c.requires small (c.loop-place.invariant ∙ search_finds (is_local c.args.self.now) c.loop-place.place 8 c.loop-place-test.true (sym c.has_bit.ensures ∙ c.if-has_bit.true))

pub returns-clause-some : goal.returns-clause-some
returns-clause-some c =
    let small : c.args.self.now.local < 256 = omega arith in
    past_some c.args.self.now.players c.args.self.now.local _ c.requires small (c.loop-place.invariant ∙ search_ends (is_local c.args.self.now) c.loop-place.place 8 c.loop-place-test.false)
