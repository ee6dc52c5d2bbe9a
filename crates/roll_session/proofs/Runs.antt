-- What lists of events, and of requests, make of a session.
use Rattle.std.proofs.Common.{◌≡◌, ◌-◌, length, List, [], ◌∷◌, ◌++◌, refl, ap, sym, ◌∙◌, subst, arith, append-nil, length-append, true, false, Some, None}
use Rattle.std.proofs.lemmas.List.{append_assoc, map-append}
use Rattle.std.proofs.lemmas.List.Sums.{fold-append}
use Rattle.roll_frame.specs.Core.{Core}
use Rattle.roll_frame.specs.Events.{CoreEvent, after, answer, applied, is_accepted, is_repeat, log_from, played_from, refusal}
use Rattle.roll_frame.specs.Games.{Game}
use Rattle.roll_frame.specs.declared.entry.Entry.{Entry}
use Rattle.roll_frame.specs.declared.refusal.Refusal.{Refusal}
use Rattle.roll_frame.specs.declared.reply.Reply.{Reply}
use Rattle.roll_frame.specs.declared.reply.Reply.TheVariants.{Refused, Repeated}
use Rattle.roll_frame.specs.declared.settings.Settings.{Settings}
use Rattle.roll_game.specs.declared.counts.Counts.{Counts}
use Rattle.roll_laws.proofs.Appended.{log_from-append, played_from-append, replies_from-append}
use Rattle.roll_session.specs.Answered.{counts_by, counts_from, replies_to, with_entries, IsPlayed, IsReplied}
use Rattle.roll_session.specs.Calls.{asked}
use Rattle.roll_session.specs.Requests.{all_asked, IsDoneTo}
use Rattle.roll_session.specs.Seen.{Step, Seen, game_of}
use Rattle.roll_session.specs.declared.event.Request.{Request}

counts_from-append : (settings : Settings) (game : Game) (core : Core) (events more : List CoreEvent) (counts : Counts)
    → counts_from settings game core (events ++ more) counts ≡ counts_from settings game (played_from settings game core events) more (counts_from settings game core events counts)
counts_from-append settings game core [] more counts = refl
counts_from-append settings game core (first ∷ events) more counts = counts_from-append settings game (after settings game core first) events more _

-- no entry was added
pub none_added : (s : Seen) → s ≡ with_entries s [] s.counts
none_added s = let same : s.reserved ≡ s.reserved - 0 = omega arith in λ i. record s { log = sym (append-nil s.log) i; reserved = same i }

-- no event came
pub played_none : (step : Step) (s : Seen) → IsPlayed step s s []
played_none step s = record { seen = none_added s; core = refl }

-- one event came, which was accepted, or wasn't
pub played_one : (step : Step) (old new : Seen) (event : CoreEvent) → is_accepted old.settings (game_of step old) old.core event ≡ true → new ≡ with_entries old (event.entry ∷ []) (counts_by old.core event.entry old.counts) → IsPlayed step old new (event ∷ [])
played_one step old new event e h = record { seen = rw e h; core = rw e (ap (λ (s : Seen). s.core) h) }

pub played_not : (step : Step) (s : Seen) (event : CoreEvent) → is_accepted s.settings (game_of step s) s.core event ≡ false → IsPlayed step s s (event ∷ [])
played_not step s event e = record { seen = rw e (none_added s); core = rw e refl }

module _ (step : Step) (old : Seen) (event : CoreEvent) where
  pub replied_accepted : (new : Seen) → is_repeat old.core event.entry ≡ false → refusal old.settings (game_of step old) old.core event ≡ None → new ≡ with_entries old (event.entry ∷ []) (counts_by old.core event.entry old.counts) → IsReplied step old new event (answer old.core event.entry)
  replied_accepted new fresh fine h =
      record { said_is = rw (fresh, fine) refl; played = played_one step old new event (rw (fresh, fine) refl) h }

  pub replied_refused : (why : Refusal) → is_repeat old.core event.entry ≡ false → refusal old.settings (game_of step old) old.core event ≡ Some why → IsReplied step old old event (Refused why)
  replied_refused why fresh tested = record { said_is = rw (fresh, tested) refl; played = played_not step old event (rw (fresh, tested) refl) }

  pub replied_repeated : is_repeat old.core event.entry ≡ true → IsReplied step old old event Repeated
  replied_repeated again = record { said_is = rw again refl; played = played_not step old event (rw again refl) }

-- some events came, and then more
pub played_more : (step : Step) (old mid new : Seen) (events more : List CoreEvent) → IsPlayed step old mid events → IsPlayed step mid new more → IsPlayed step old new (events ++ more)
played_more step old mid new events more a b =
    let settings : mid.settings ≡ old.settings = ap (λ (s : Seen). s.settings) a.seen in
    let opening : mid.opening ≡ old.opening = ap (λ (s : Seen). s.opening) a.seen in
    let game : Game = game_of step old in
    let core : Core = played_from old.settings game old.core events in
    let first : List Entry = log_from old.settings game old.core events in
    let rest : List Entry = log_from old.settings game core more in
    let log : log_from mid.settings (game_of step mid) mid.core more ≡ rest = rw (a.core, settings, opening) refl in
    let counts : counts_from mid.settings (game_of step mid) mid.core more mid.counts ≡ counts_from old.settings game core more mid.counts = rw (a.core, settings, opening) refl in
    let asked : Counts = counts_from old.settings game core more (counts_from old.settings game old.core events old.counts) in
    record {
      seen = b.seen
          ∙ (λ i. with_entries mid (log i) (counts i))
          ∙ ap (λ (m : Seen). with_entries m rest (counts_from old.settings game core more m.counts)) a.seen
          ∙ (λ i. record old { core = sym (fold-append applied old.core first rest) i; log = append_assoc old.log first rest i; counts = asked; reserved = less first rest i })
          ∙ (λ i. with_entries old (sym (log_from-append old.settings game old.core events more) i) (sym (counts_from-append old.settings game old.core events more old.counts) i));
      core = b.core ∙ rw (a.core, settings, opening) (sym (played_from-append old.settings game old.core events more));
    }
  where
    less : (xs ys : List Entry) → old.reserved - length xs - length ys ≡ old.reserved - length (xs ++ ys)
    less xs ys = let n = length-append xs ys in omega (arith, n)

module _ {G S N : Type 0} (step : Step) (old : Seen) (requests : List (Request G S N)) (first : List Reply) where
  -- no request was done yet
  pub done_none : IsDoneTo step old old requests requests first first
  done_none = record { done = []; split = refl; played = played_none step old; replies = sym (append-nil first) }

  -- some requests were done, and the next one
  pub done_more : (mid new : Seen) (left : List (Request G S N)) (all : List Reply) (request : Request G S N) (said : Reply) → IsDoneTo step old mid requests (request ∷ left) first all → IsReplied step mid new (asked request) said
      → IsDoneTo step old new requests left first (all ++ said ∷ [])
  done_more mid new left all request said to one =
      record {
        done = to.done ++ request ∷ [];
        split = to.split ∙ sym (append_assoc to.done (request ∷ []) left);
        played = subst (IsPlayed step old new) (sym next) (played_more step old mid new (all_asked to.done) (asked request ∷ []) to.played one.played);
        replies =
            ap (λ (rs : List Reply). rs ++ said ∷ []) to.replies ∙ append_assoc first (replies_to step old (all_asked to.done)) (said ∷ [])
            ∙ ap (λ (rs : List Reply). first ++ rs) (sym said_too);
      }
    where
      next : all_asked (to.done ++ request ∷ []) ≡ all_asked to.done ++ asked request ∷ []
      next = map-append asked to.done (request ∷ [])

      said_too : replies_to step old (all_asked (to.done ++ request ∷ [])) ≡ replies_to step old (all_asked to.done) ++ said ∷ []
      said_too =
          let settings : mid.settings ≡ old.settings = ap (λ (s : Seen). s.settings) to.played.seen in
          let opening : mid.opening ≡ old.opening = ap (λ (s : Seen). s.opening) to.played.seen in
          ap (replies_to step old) next ∙ replies_from-append old.settings (game_of step old) old.core (all_asked to.done) (asked request ∷ [])
          ∙ ap (λ (r : Reply). replies_to step old (all_asked to.done) ++ r ∷ []) (sym (one.said_is ∙ rw (to.played.core, settings, opening) refl))
