-- A session later on: the words of its players go on, and its opening stays.
use Rattle.std.proofs.Common.{◌≡◌, ◌∙◌, ◌⊎◌, ℕ, zero, suc, ◌+◌, List, [], ◌∷◌, ◌++◌, refl, ap, sym, subst, arith, Bool, true, false, inl, inr, Option, Some, None, Result, Ok, Err}
use Rattle.std.specs.Option.{option_map_or}
use Rattle.std.specs.Prelude.{if◌then◌else◌, slice_get}
use Rattle.std.proofs.lemmas.Bool.{ne_eqb}
use Rattle.roll_frame.specs.Core.{Core}
use Rattle.roll_frame.specs.Events.{played_from, replay, CoreEvent}
use Rattle.roll_frame.specs.Inputs.{player_at}
use Rattle.roll_frame.specs.Timeline.{Player}
use Rattle.roll_frame.specs.declared.entry.Entry.{Entry}
use Rattle.roll_frame.specs.declared.entry.Entry.TheVariants.{Local, Remote, Disconnect, Sync, Advance, Graft, Partial}
use Rattle.roll_frame.specs.declared.refusal.Refusal.{Refusal}
use Rattle.roll_laws.proofs.Accepted.{later_none_given}
use Rattle.roll_laws.proofs.Ahead.{all_later_same, AllLater}
use Rattle.roll_laws.proofs.Bounds.{as_many}
use Rattle.roll_laws.proofs.Fronts.{Onward}
use Rattle.roll_laws.proofs.Glue.{ever_holds}
use Rattle.roll_laws.proofs.Sound.{onward_played}
use Rattle.roll_session.specs.Answered.{IsCutShort, IsPlayed}
use Rattle.roll_session.specs.Changes.{after_advance, after_sync, IsPartial, IsRollRefused}
use Rattle.roll_session.specs.Headline.{words_of}
use Rattle.roll_session.specs.Others.{bare}
use Rattle.roll_session.specs.Seen.{game_of, FollowsLog, Seen, Step}
use Rattle.roll_session.specs.declared.event.Reached.{Reached}
use Rattle.roll_peer.specs.PeerWorlds.{Continues, IsCalled}
use Rattle.roll_peer.specs.Turning.{ends_in_roll, GoesOn, Plays, PlaysIf}
use Rattle.roll_peer.specs.declared.refusal.PeerRefusal.{PeerRefusal}
use Rattle.roll_peer.specs.declared.refusal.PeerRefusal.TheVariants.{OtherSession, Session}

-- ---- the players

abbrev words_at : List Player → ℕ → List ℕ
words_at players p = option_map_or (λ player. player.words) (slice_get players p) []

pub at_place : (players : List Player) (p : ℕ) → player_at players (p + 1) ≡ slice_get players p
at_place players p =
    rw (ne_eqb (p + 1) 0 (λ e. omega (arith, e)))
    (ap (λ n. slice_get players n) (omega arith))

pub words_in : (s : Seen) (p : ℕ) → words_of s (p + 1) ≡ words_at s.core.players p
words_in s p = ap (λ o. option_map_or (λ (player : Player). player.words) o []) (at_place s.core.players p)

later_at : (old new : List Player) (p : ℕ) → AllLater old new → (more : List ℕ) × (words_at new p ≡ words_at old p ++ more)
later_at [] [] p l = ([], refl)
later_at [] (q ∷ qs) p l = absurd l
later_at (o ∷ os) [] p l = absurd l
later_at (o ∷ os) (n ∷ ns) zero l = (l.0.more, l.0.words)
later_at (o ∷ os) (n ∷ ns) (suc p) l = later_at os ns p l.1

later : (old new : Seen) → AllLater old.core.players new.core.players → new.opening ≡ old.opening → Continues old new
later old new l opening = record {
  words = λ p.
      let more = later_at old.core.players new.core.players p l in
      (more.0, words_in new p ∙ more.1 ∙ ap (λ (ws : List ℕ). ws ++ more.0) (sym (words_in old p)));
  players = as_many old.core.players new.core.players l;
  opening = opening;
}

-- what has a session's players and its opening goes on from it
as_in : (old mid new : Seen) → new ≡ mid → mid.core.players ≡ old.core.players → mid.opening ≡ old.opening → Continues old new
as_in old mid new e players opening =
    later old new
    (subst (AllLater old.core.players) (sym (ap (λ (s : Seen). s.core.players) e ∙ players)) (all_later_same old.core.players))
    (ap (λ (s : Seen). s.opening) e ∙ opening)

-- ---- its own calls

played_on : (step : Step) (old new : Seen) (events : List CoreEvent) → FollowsLog step old
    → IsPlayed step (bare old) (bare new) events → Continues old new
played_on step old new events follows played =
    later old new (subst (λ (core : Core). AllLater core.players new.core.players) (sym follows.core) on.players)
    (ap (λ (s : Seen). s.opening) played.seen)
  where
    on : Onward (replay old.settings old.log) new.core
    on = ever_holds Onward onward_played follows.log events new.core
        (played.core ∙ ap (λ (core : Core). played_from old.settings (game_of step old) core events) follows.core)

partial_on : (old new : Seen) (to : ℕ) → IsPartial old new to → Continues old new
partial_on old new to partial = as_in old _ new partial.seen refl refl

cut_on : (old new : Seen) (entry : Entry) → IsCutShort old new entry → Continues old new
cut_on old new Sync cut = partial_on old new old.core.frame cut
cut_on old new Advance cut = partial_on old new (old.core.frame + 1) cut
cut_on old new (Local player word) cut = absurd cut
cut_on old new (Remote player frame word) cut = absurd cut
cut_on old new (Disconnect player) cut = absurd cut
cut_on old new (Graft ticket route) cut = absurd cut
cut_on old new (Partial to made) cut = absurd cut

pub called_on : (step : Step) (old new : Seen) → FollowsLog step old → IsCalled step old new → Continues old new
called_on step old new follows (inl played) = played_on step old new played.0 follows played.1
called_on step old new follows (inr (inr swapped)) = as_in old _ new swapped refl refl
called_on step old new follows (inr (inl short)) = go short.1.left
  where
    go : ((new ≡ old) × (old.reserved ≡ 0)) ⊎ IsCutShort old new short.0.entry → Continues old new
    go (inl same) = as_in old old new same.0 refl refl
    go (inr cut) = cut_on old new short.0.entry cut

-- ---- a roll

advanced_on : (s : Seen) → Continues s (after_advance s)
advanced_on s = later s (after_advance s) (later_none_given s.core.players) refl

synced_on : (s : Seen) (b : Bool) → Continues s (if b then s else after_sync s)
synced_on s true = as_in s s s refl refl refl
synced_on s false = as_in s (after_sync s) (after_sync s) refl refl refl

refused_on : (refusal : Option Refusal) (old new : Seen) (to : ℕ) (why : Refusal) → IsRollRefused refusal old new to why
    → Continues old new
refused_on refusal old new to why (inl refused) = as_in old old new refused.unchanged refl refl
refused_on refusal old new to why (inr partial) = partial_on old new to partial.2

plays_on : (old new : Seen) (result : Result (Option Reached) Refusal) → Plays old new result → Continues old new
plays_on old new (Ok (Some reached)) plays =
    subst (λ (s : Seen). Continues old s) (sym plays.2) (advanced_on old)
plays_on old new (Ok None) plays =
    subst (λ (s : Seen). Continues old s) (sym plays.1) (synced_on old (ends_in_roll old.log))
plays_on old new (Err why) (inl refused) = refused_on _ old new (old.core.frame + 1) why refused
plays_on old new (Err why) (inr refused) = refused_on _ old new old.core.frame why refused

plays_if : (running : Bool) (old new : Seen) (result : Result (Option Reached) Refusal) → PlaysIf running old new result
    → Continues old new
plays_if true old new result plays = plays_on old new result plays
plays_if false old new result stays = as_in old old new stays.0 refl refl

pub goes_on : (poll : Result Unit PeerRefusal) (running : Bool) (old new : Seen) (result : Result (Option Reached) PeerRefusal)
    → GoesOn poll running old new result → Continues old new
goes_on (Ok done) running old new (Ok reached) plays = plays_if running old new (Ok reached) plays
goes_on (Ok done) running old new (Err (Session why)) plays = plays_if running old new (Err why) plays
goes_on (Ok done) running old new (Err OtherSession) plays = absurd plays
goes_on (Err why) running old new result stays = as_in old old new stays.0 refl refl
