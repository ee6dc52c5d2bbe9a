-- What one item, and then more of them, make of a session.
use Rattle.std.proofs.Common.{◌≡◌, ◌∙◌, ℕ, ◌+◌, List, [], ◌∷◌, ◌++◌, refl, ap, sym, subst, arith, Bool, true, false, cond, inl, inr, Option, None, Some}
use Rattle.std.specs.Prelude.{count_by, is_none, is_some, not, ◌&&◌}
use Rattle.std.specs.Int.{from_bool}
use Rattle.std.specs.Option.{option_map_or, option_or}
use Rattle.std.proofs.lemmas.List.{map-append}
use Rattle.std.proofs.lemmas.List.Sums.{sum_by-append}
use Rattle.roll_frame.specs.Events.{is_accepted, is_repeat, refusal}
use Rattle.roll_frame.specs.declared.refusal.Refusal.{Refusal}
use Rattle.roll_frame.specs.declared.refusal.Refusal.TheVariants.{NoMemory}
use Rattle.roll_frame.specs.declared.reply.Reply.{Reply}
use Rattle.roll_frame.specs.declared.reply.Reply.TheVariants.{Refused, Repeated, Taken}
use Rattle.roll_inputs.specs.declared.heard.Heard.{Heard}
use Rattle.roll_inputs.specs.declared.heard.Heard.TheVariants.{Taken as HeardNow, Repeated as HeardBefore}
use Rattle.roll_laws.proofs.Appended.{replies_from-append}
use Rattle.roll_link.specs.declared.remote.Remote.{Remote}
use Rattle.roll_session.proofs.Runs.{played_more, played_none}
use Rattle.roll_session.specs.Answered.{replies_to, IsAnswered, IsReplied}
use Rattle.roll_session.specs.Calls.{heard_reply}
use Rattle.roll_session.specs.Seen.{Seen, Step, game_of}
use Rattle.roll_host.specs.Heard.{can_wait, event_of, events_of, is_refused, is_to_wait, last_refusal, refusal_in, AreHeard, IsHeard, IsHeldFor}

counted : (p : Reply → Bool) (said : Reply) (n : ℕ) → cond (p said) 1 0 ≡ n → count_by p (said ∷ []) ≡ n
counted p said n h = omega (arith, h)

pub or_assoc : (a b c : Option Refusal) → option_or (option_or a b) c ≡ option_or a (option_or b c)
or_assoc None b c = refl
or_assoc (Some x) b c = refl

pub or_nothing : (o : Option Refusal) → option_or o None ≡ o
or_nothing None = refl
or_nothing (Some x) = refl

last_refusal-append : (xs ys : List Reply) → option_or (last_refusal ys) (last_refusal xs) ≡ last_refusal (xs ++ ys)
last_refusal-append [] ys = or_nothing (last_refusal ys)
last_refusal-append (x ∷ xs) ys = sym (or_assoc (last_refusal ys) (last_refusal xs) (refusal_in x)) ∙ ap (λ (o : Option Refusal). option_or o (refusal_in x)) (last_refusal-append xs ys)

module _ (step : Step) where
  heard_one : (old new : Seen) (item : Remote) (said : Reply) (why : Option Refusal) → IsReplied step old new (event_of item) said → cond (is_refused said) 1 0 ≡ from_bool (is_some why) → why ≡ refusal_in said → is_to_wait said ≡ false
      → IsHeard step old new item why
  heard_one old new item said why r n e w =
      record {
        played = r.played;
        refusals = sym (counted is_refused _ _ (ap (λ (x : Reply). cond (is_refused x) 1 0) (sym r.said_is) ∙ n));
        why_is = e ∙ ap (λ (x : Reply). refusal_in x) r.said_is;
        none_waits = counted is_to_wait _ 0 (ap (λ (x : Reply). cond (is_to_wait x) 1 0) (sym r.said_is) ∙ ap (λ b. cond b 1 0) w);
      }

  -- a word that was taken, now or before
  pub heard_taken : (old new : Seen) (item : Remote) (heard : Heard) → IsAnswered step old new (event_of item) (heard_reply heard) → IsHeard step old new item None
  heard_taken old new item HeardNow (inl r) = heard_one old new item Taken None r refl refl refl
  heard_taken old new item HeardBefore (inl r) = heard_one old new item Repeated None r refl refl refl
  heard_taken old new item HeardNow (inr h) = absurd (cc h.0)
  heard_taken old new item HeardBefore (inr h) = absurd (cc h.0)

  -- a word that was refused for good
  pub heard_refused : (old new : Seen) (item : Remote) (why : Refusal) → can_wait why ≡ false → IsAnswered step old new (event_of item) (Refused why) → IsHeard step old new item (Some why)
  heard_refused old new item why w (inl r) = heard_one old new item (Refused why) (Some why) r refl refl w
  heard_refused old new item why w (inr h) = let is : why ≡ NoMemory = cc h.0 in let no : can_wait NoMemory ≡ false = ap can_wait (sym is) ∙ w in absurd (cc no)

  -- a refused word changes nothing
  refused_same : (old new : Seen) (item : Remote) (why : Refusal) → IsAnswered step old new (event_of item) (Refused why) → new ≡ old
  refused_same old new item why (inl r) =
      let no : is_accepted old.settings (game_of step old) old.core (event_of item) ≡ false = go (is_repeat old.core (event_of item).entry) (refusal old.settings (game_of step old) old.core (event_of item)) r.said_is in
      rw no at r.played.seen ∙ sym (played_none step old).seen
    where
      go : (b : Bool) (o : Option Refusal) → Refused why ≡ cond b Repeated (option_map_or Refused o Taken) → (not b && is_none o) ≡ false
      go true o e = refl
      go false (Some first) e = refl
      go false None e = absurd (cc e)
  refused_same old new item why (inr h) = elim h.1.left [ inl same ↦ same.0 | inr cut ↦ absurd cut ]

  -- a word that is to be held
  pub held_for : (old new : Seen) (item : Remote) (why : Refusal) → can_wait why ≡ true → IsAnswered step old new (event_of item) (Refused why) → IsHeldFor step new item why × (new ≡ old)
  held_for old new item why w a =
      let same = refused_same old new item why a in
      (record { waits = w; answered = subst (λ (s : Seen). IsAnswered step s new (event_of item) (Refused why)) (sym same) a }, same)

  pub heard_none : (s : Seen) → AreHeard step s s [] 0 None
  heard_none s = record { played = played_none step s; refusals = refl; why_is = refl; none_waits = refl }

  -- items after others
  pub heard_more : (old mid new : Seen) (xs ys : List Remote) (m n : ℕ) (v w : Option Refusal) → AreHeard step old mid xs m v → AreHeard step mid new ys n w → AreHeard step old new (xs ++ ys) (m + n) (option_or w v)
  heard_more old mid new xs ys m n v w a b =
      let settings : mid.settings ≡ old.settings = ap (λ (s : Seen). s.settings) a.played.seen in
      let opening : mid.opening ≡ old.opening = ap (λ (s : Seen). s.opening) a.played.seen in
      let all : replies_to step old (events_of (xs ++ ys)) ≡ replies_to step old (events_of xs) ++ replies_to step mid (events_of ys) =
      rw (map-append, a.played.core, settings, opening) (replies_from-append old.settings (game_of step old) old.core (events_of xs) (events_of ys)) in
      record {
        played = rw map-append (played_more step old mid new (events_of xs) (events_of ys) a.played b.played);
        refusals = omega (arith, a.refusals, b.refusals, ap (λ (rs : List Reply). count_by is_refused rs) all, sum_by-append (λ (x : Reply). cond (is_refused x) 1 0) (replies_to step old (events_of xs)) (replies_to step mid (events_of ys)));
        why_is = (λ i. option_or (b.why_is i) (a.why_is i)) ∙ last_refusal-append (replies_to step old (events_of xs)) (replies_to step mid (events_of ys)) ∙ ap (λ (rs : List Reply). last_refusal rs) (sym all);
        none_waits = omega (arith, a.none_waits, b.none_waits, ap (λ (rs : List Reply). count_by is_to_wait rs) all, sum_by-append (λ (x : Reply). cond (is_to_wait x) 1 0) (replies_to step old (events_of xs)) (replies_to step mid (events_of ys)));
      }
