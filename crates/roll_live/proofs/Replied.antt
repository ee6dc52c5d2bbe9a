-- What is replied to an item that was applied alone.
use Rattle.std.proofs.Common.{◌≡◌, ◌∙◌, ℕ, suc, ◌+◌, [], ◌∷◌, length, Bool, true, false, Option, Some, None, refl, ap, arith, length-append}
use Rattle.std.specs.Prelude.{nat_lt, if◌then◌else◌}
use Rattle.std.proofs.lemmas.Bool.{lt-leb, lt-ltb}
use Rattle.roll_frame.specs.Events.{CoreEvent, is_accepted, is_repeat, refusal, reply}
use Rattle.roll_frame.specs.Games.{Game}
use Rattle.roll_frame.specs.declared.refusal.Refusal.{Refusal}
use Rattle.roll_frame.specs.declared.reply.Reply.{Reply}
use Rattle.roll_frame.specs.declared.reply.Reply.TheVariants.{Refused, Repeated, Taken}
use Rattle.roll_host.specs.Heard.{event_of, refusal_in, AreHeard}
use Rattle.roll_link.specs.declared.remote.Remote.{Remote}
use Rattle.roll_session.specs.Seen.{Seen, Step, game_of}
use Rattle.roll_live.specs.Told.{item_reply}

-- where one item was applied, what is told of it by the log and the refusal is its reply
pub replied_so : (step : Step) (old new : Seen) (item : Remote) (refused : ℕ) (why : Option Refusal) → AreHeard step old new (item ∷ []) refused why
    → item_reply (nat_lt (length old.log) (length new.log)) why ≡ reply old.settings (game_of step old) old.core (event_of item)
replied_so step old new item refused why heard = go (is_repeat old.core event.entry) (refusal old.settings game old.core event) refl refl
  where
    game : Game
    game = game_of step old

    event : CoreEvent
    event = event_of item

    said : Reply
    said = reply old.settings game old.core event

    is_why : why ≡ refusal_in said
    is_why = heard.why_is

    log : (b : Bool) → is_accepted old.settings game old.core event ≡ b → length new.log ≡ length old.log + (if b then 1 else 0)
    log b a = ap (λ (s : Seen). length s.log) heard.played.seen ∙ (length-append old.log _ ∙ ap (λ n. length old.log + n) (rw a (one b)))
      where
        one : (b : Bool) → length (if b then event.entry ∷ [] else []) ≡ (if b then 1 else 0)
        one true = refl
        one false = refl

    same : is_accepted old.settings game old.core event ≡ false → nat_lt (length old.log) (length new.log) ≡ false
    same a = let l = log false a in lt-leb (suc (length old.log)) (length new.log) (omega arith)

    go : (again : Bool) (o : Option Refusal) → is_repeat old.core event.entry ≡ again → refusal old.settings game old.core event ≡ o
        → item_reply (nat_lt (length old.log) (length new.log)) why ≡ said
    go true o r e =
        let is : said ≡ Repeated = rw r refl in
        let none : why ≡ None = is_why ∙ ap (λ (x : Reply). refusal_in x) is in
        rw (same (rw r refl), none, is) refl
    go false None r e =
        let is : said ≡ Taken = rw (r, e) refl in
        let l = log true (rw (r, e) refl) in
        let more : nat_lt (length old.log) (length new.log) ≡ true = lt-ltb (length old.log) (length new.log) (omega arith) in
        rw (more, is) refl
    go false (Some w) r e =
        let is : said ≡ Refused w = rw (r, e) refl in
        let so : why ≡ Some w = is_why ∙ ap (λ (x : Reply). refusal_in x) is in
        rw (same (rw (r, e) refl), so, is) refl
