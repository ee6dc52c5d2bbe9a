use Rattle.std.proofs.Common.{arith, map, ◌≡◌, ◌+◌, ◌++◌, ◌∷◌, [], ◌∙◌, List, Err, Some, ap, rules, subst, sym, take}
use Rattle.std.specs.Prelude.{slice_get}
use Rattle.std.proofs.lemmas.Option.{get_or_from_slice_get, slice_get_within}
use Rattle.std.proofs.lemmas.List.{take_all, take_more}
use Rattle.roll_frame.specs.declared.entry.Entry.{Entry}
use Rattle.roll_session.specs.declared.event.ReplayFault.{ReplayFault}
use Rattle.roll_session.specs.Logs.{logged_entry}
use Rattle.roll_session.specs.Replaying.{IsReplayed, IsStopped}
use Rattle.roll_session.specs.Seen.{plain}
use Rattle.roll_session.proofs.Headlines.{calls_are_asked, headline_of}
use Rattle.roll_session.proofs.Replaying.{own_log, replayed_more}
use Rattle.roll_session.proofs.session.Session.replay.Goals as goal

pub loop-place-preserved : goal.loop-place-preserved
loop-place-preserved g c =
    let log : List Entry = c.args.log.now.entries in
    let entry : Entry = logged_entry c.at.result in
    let there : slice_get log c.loop-place.place ≡ Some entry = c.at.ensures in
    let first : List Entry = take c.loop-place.place log in
    let more : take (c.loop-place.place + 1) log ≡ first ++ entry ∷ [] = take_more log c.loop-place.place entry (slice_get_within log c.loop-place.place entry there) ∙ ap (λ (x : Entry). first ++ x ∷ []) (get_or_from_slice_get log c.loop-place.place entry entry there) in
    subst (IsReplayed g.G.Game.step c.args.self.now c.redo.new.self) (sym more)
    (replayed_more g.G.Game.step c.args.self.now c.loop-place.self c.redo.new.self first (entry ∷ []) c.loop-place.invariant c.in_ok-redo.ensures.redone)

pub returns-in_err-redo-clause-own : goal.returns-in_err-redo-clause-own
returns-in_err-redo-clause-own g c =
    let log : List Entry = c.args.log.now.entries in
    let fault : ReplayFault = c.in_err-redo.field-0.0 in
    let is : c.from_residual.result ≡ Err fault = search (rules, c.from_residual.ensures) in
    let stopped : IsStopped g.G.Game.step c.args.self.now c.redo.new.self log fault = record {
      before = c.loop-place.self;
      place = c.loop-place.place;
      entry = logged_entry c.at.result;
      there = c.at.ensures;
      done = c.loop-place.invariant;
      stops = c.in_err-redo.ensures.stops;
    } in
    λ fresh logged. rw is (own_log g.G.Game.step c.args.self.now c.redo.new.self log fault c.laws.ensures.log fresh logged stopped)

pub returns-clause-headline : goal.returns-clause-headline
returns-clause-headline g c =
    let log : List Entry = c.args.log.now.entries in
    let whole : IsReplayed g.G.Game.step c.args.self.now c.loop-place.self log = subst (IsReplayed g.G.Game.step c.args.self.now c.loop-place.self) (take_all c.loop-place.place log (omega arith)) c.loop-place.invariant in
    headline_of g.G.Game.step (map plain log) c.args.self.now c.loop-place.self c.laws.ensures.log (calls_are_asked log whole.calls) whole.played
