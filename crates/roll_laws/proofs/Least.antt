-- Rolls are least, and pruning loses nothing.
use Rattle.std.specs.Prelude.{filter, min}
use Rattle.std.proofs.lemmas.Bool.{false≢true, cases_Bool}
use Rattle.std.proofs.lemmas.List.{length-take-le}
use Rattle.std.proofs.lemmas.List.Elements.{filter-append}
use Rattle.roll_frame.specs.Cells.{Rows}
use Rattle.roll_frame.specs.Core.{Core, kept, settled, is_live, depth}
use Rattle.roll_frame.specs.Events.{added_by, CoreEvent, is_accepted, after, played}
use Rattle.roll_frame.specs.Games.{Game}
use Rattle.roll_frame.specs.Paths.{begins_with, longest}
use Rattle.roll_frame.specs.Timeline.{front, timeline}
use Rattle.roll_frame.specs.declared.settings.Settings.{Settings}
use Rattle.roll_frame.proofs.Beginnings.{begins}
use Rattle.roll_frame.proofs.Timelines.{length_timeline}
use Rattle.roll_laws.specs.Laws.{KeptAfter, SettledAfter, RollsAreLeast, PruningLosesNothing}
use Rattle.roll_frame.specs.Settings.{start_refusal}
use Rattle.roll_laws.proofs.Counting.{filter_takes, filter_skips}
use Rattle.std.proofs.Common.{None, ◌≡◌, ℕ, ◌+◌, ◌≤◌, List, [], ◌∷◌, ◌++◌, length, take, refl, ap, sym, ◌∙◌, Bool, true, false, arith, inl, inr, subst, length-append}
use Rattle.std.specs.Prelude.{◌⊎◌}
use Rattle.std.proofs.Math.Seq.{take-append_seam}
use Rattle.roll_laws.proofs.Saved.{In, in_left, in_right, in_either, has_in, IsLength, longest_is, longest_at_least, take_timeline, timeline_on_time, time_begins}
use Rattle.roll_laws.proofs.Fronts.{Onward, settled_onward, settled_is, depth_is, depth_at_least}
use Rattle.roll_laws.proofs.Accepted.{after_accepted}
use Rattle.roll_laws.proofs.Prefixes.{in_filter}
use Rattle.roll_laws.proofs.Sound.{Sound, sound_played, step_any, staying}
use Rattle.roll_laws.proofs.KeptPaths.{start_kept, settled_kept}
use Rattle.roll_laws.proofs.Few.{live_before}

pub rolls_are_least : RollsAreLeast
rolls_are_least settings game events h m path rows plan =
    let core : Core = played settings game events in
    let long : length path + length rows ≡ m = sym (length-append path rows) ∙ ap length plan.leads ∙ length_timeline core.players m in
    let is : path ≡ timeline core.players (length path) = sym (take-append_seam path rows) ∙ ap (take (length path)) plan.leads ∙ take_timeline core.players (length path) m (omega arith) in
    let low : length path ≤ depth core m = depth_at_least core m (length path) (omega arith) (subst (λ (q : Rows). In q core.ever) is (has_in core.ever path plan.saved)) in
    omega arith

-- fewer paths have no longer prefix
longest_fewer : (ps qs : List Rows) (q : Rows) → ((p : Rows) → In p ps → In p qs) → longest ps q ≤ longest qs q
longest_fewer ps qs q f = go (longest ps q) (longest_is ps q)
  where
    go : (n : ℕ) → IsLength ps q n → n ≤ longest qs q
    go n (inl e) = omega arith
    go n (inr h) =
        let long : length (take n q) ≡ n = length-take-le n q h.1 in
        let b : begins_with q (take n q) ≡ true = begins q (take n q) (ap (λ k. take k q) (sym long)) in
        omega (arith, long, longest_at_least qs q (take n q) (f (take n q) h.0) b)

pub pruning_loses_nothing : PruningLosesNothing
pruning_loses_nothing settings game events h m l =
    let core : Core = played settings game events in
    let s = sound_played settings game events h in
    let q : Rows = timeline core.players (depth core m) in
    let d = depth_is core m s.root in
    let fewer : longest (kept core) (timeline core.players m) ≤ depth core m = longest_fewer (kept core) core.ever (timeline core.players m) (λ p i. (in_filter (is_live (settled core) core.players) p core.ever i).0) in
    let b : begins_with (timeline core.players m) q ≡ true = time_begins core.players m q (timeline_on_time core.players (depth core m)) (omega (arith, d.0, length_timeline core.players (depth core m))) in
    let least : length q ≤ longest (kept core) (timeline core.players m) = longest_at_least (kept core) (timeline core.players m) q (has_in (kept core) q (start_kept settings core m s l)) b in
    omega (arith, length_timeline core.players (depth core m))

-- a test that implies another
filter_twice : (p r : Rows → Bool) (xs : List Rows) → ((q : Rows) → p q ≡ true → r q ≡ true) → filter p xs ≡ filter p (filter r xs)
filter_twice p r [] f = refl
filter_twice p r (x ∷ xs) f = go (cases_Bool (r x)) (cases_Bool (p x)) (filter_twice p r xs f)
  where
    go : (r x ≡ true) ⊎ (r x ≡ false) → (p x ≡ true) ⊎ (p x ≡ false) → filter p xs ≡ filter p (filter r xs) → filter p (x ∷ xs) ≡ filter p (filter r (x ∷ xs))
    go (inl a) (inl b) h = filter_takes p x xs b ∙ ap (λ ys. x ∷ ys) h ∙ sym (filter_takes p x (filter r xs) b) ∙ ap (filter p) (sym (filter_takes r x xs a))
    go (inl a) (inr b) h = filter_skips p x xs b ∙ h ∙ sym (filter_skips p x (filter r xs) b) ∙ ap (filter p) (sym (filter_takes r x xs a))
    go (inr a) (inl b) h = absurd (false≢true (sym a ∙ f x b))
    go (inr a) (inr b) h = filter_skips p x xs b ∙ h ∙ ap (filter p) (sym (filter_skips r x xs a))

kept_grows : (old new : Core) (made : List Rows) → Onward old new → settled old ≤ settled new → new.ever ≡ old.ever ++ made → kept new ≡ filter (is_live (settled new) new.players) (kept old ++ made)
kept_grows old new made o f e =
    let test : Rows → Bool = is_live (settled new) new.players in
    ap (filter test) e ∙ filter-append test old.ever made
    ∙ ap (λ ys. ys ++ filter test made) (filter_twice test (is_live (settled old) old.players) old.ever (λ q h. live_before old new q o f h))
    ∙ sym (filter-append test (kept old) made)

settled_grows : (settings : Settings) (old new : Core) (made : List Rows) → Sound settings new → Onward old new → settled old ≤ settled new → new.ever ≡ old.ever ++ made → settled new ≡ longest (kept old ++ made) (timeline new.players (min (front new.players) new.frame))
settled_grows settings old new made s o f e =
    let m : ℕ = min (front new.players) new.frame in
    let q : Rows = timeline new.players (settled new) in
    let d = settled_is new s.root in
    let less : longest (kept old ++ made) (timeline new.players m) ≤ settled new = longest_fewer (kept old ++ made) new.ever (timeline new.players m) (λ p i. subst (In p) (sym e) (saved p (in_either p (kept old) made i))) in
    let in_new : In q (kept new) = has_in (kept new) q (settled_kept settings new s) in
    let here : In q (kept old ++ made) = (in_filter (is_live (settled new) new.players) q (kept old ++ made) (subst (In q) (kept_grows old new made o f e) in_new)).0 in
    let b : begins_with (timeline new.players m) q ≡ true = time_begins new.players m q (timeline_on_time new.players (settled new)) (omega (arith, d.0, length_timeline new.players (settled new))) in
    let least : length q ≤ longest (kept old ++ made) (timeline new.players m) = longest_at_least (kept old ++ made) (timeline new.players m) q here b in
    omega (arith, length_timeline new.players (settled new))
  where
    saved : (p : Rows) → In p (kept old) ⊎ In p made → In p (old.ever ++ made)
    saved p (inl i) = in_left p old.ever made (in_filter (is_live (settled old) old.players) p old.ever i).0
    saved p (inr i) = in_right p old.ever made i

-- what an accepted event leads to: a core that is later and sound, with what the event added
record Grows (settings : Settings) (core new : Core) (added : List Rows) : Type 0 where
  onward : Onward core new
  sound : Sound settings new
  ever : new.ever ≡ core.ever ++ added
  up : settled core ≤ settled new

grows : (settings : Settings) (game : Game) (events : List CoreEvent) (event : CoreEvent) → start_refusal settings ≡ None → is_accepted settings game (played settings game events) event ≡ true
    → Grows settings (played settings game events) (after settings game (played settings game events) event) (added_by (played settings game events) event.entry)
grows settings game events event h a =
    let core : Core = played settings game events in
    let new : Core = after settings game core event in
    let s = sound_played settings game events h in
    let g = step_any settings game core event s in
    record {
      onward = g.0;
      sound = g.1;
      ever = ap (λ (c : Core). c.ever) (after_accepted settings game core event a);
      up = settled_onward core new g.0 s.root (staying new.players g.1.stays g.1.has_local);
    }

pub kept_after : KeptAfter
kept_after settings game events event h a =
    let g = grows settings game events event h a in
    kept_grows _ _ (added_by (played settings game events) event.entry) g.onward g.up g.ever

pub settled_after : SettledAfter
settled_after settings game events event h a =
    let g = grows settings game events event h a in
    settled_grows settings _ _ (added_by (played settings game events) event.entry) g.sound g.onward g.up g.ever
