use Rattle.std.proofs.Common.{◌∙◌, arith, sym}
use Rattle.roll_inputs.specs.Boards.{players_of}
use Rattle.roll_inputs.specs.declared.remote_word.RemoteWord.{RemoteWord}
use Rattle.roll_inputs.specs.declared.remote_word.TheConstants.{FORETOLD_LIMIT}
use Rattle.std.proofs.Common.{length}
use Rattle.roll_inputs.proofs.Told.{each_goes, each_stops, some_few}
use Rattle.roll_inputs.proofs.foretold.words_refusal.Goals as goal

abbrev none : RemoteWord
none = record { player = 0; frame = 0; word = 0 }

pub returns-then-is_some : goal.returns-then-is_some
returns-then-is_some c =
    rw (some_few (length c.args.words.now) FORETOLD_LIMIT (omega (arith, c.loop-place-test.true)) (omega (arith, c.if-words-gt-FORETOLD_LIMIT.false)))
    (each_stops (players_of c.args.queues.now) c.args.words.now c.loop-place.place none c.loop-place-test.true c.loop-place.invariant c.next_refusal-refusal.result c.next_refusal-refusal.ensures (sym c.is_some.ensures ∙ c.if-is_some.true))

pub loop-place-preserved : goal.loop-place-preserved
loop-place-preserved c =
    each_goes (players_of c.args.queues.now) c.args.words.now c.loop-place.place none c.loop-place-test.true c.loop-place.invariant c.next_refusal-refusal.result c.next_refusal-refusal.ensures (sym c.is_some.ensures ∙ c.if-is_some.false)
