-- A session that has its game, and the network beside it, go on in the next epoch.
use Rattle.std.specs.Prelude.{◌≡◌, ◌⊎◌, [], Bool, Some}
use Rattle.roll_carry.specs.Carrying.{Carrying}
use Rattle.roll_chain.specs.Chains.{settings_in}
use Rattle.roll_chain.specs.Judging.{IsOver}
use Rattle.roll_chain.specs.Seams.{followed_by, opening_after}
use Rattle.roll_chain.specs.declared.chain.Chain.{Chain}
use Rattle.roll_chain.specs.declared.seam.Opening.{Opening}
use Rattle.roll_epoch.specs.declared.marks.Ending.{Ending}
use Rattle.roll_frame.specs.Settings.{start_refusal}
use Rattle.roll_peer.specs.Following.{IsFollowedAs}
use Rattle.roll_peer.specs.Known.{IsKnownTo}
use Rattle.roll_peer.specs.Peered.{IsWhyNot, Peered}
use Rattle.roll_peer.specs.declared.refusal.OpenRefusal.TheVariants.{NoMemory as NoneLeft}
use Rattle.roll_relay.specs.Relaying.{opened_beside}
use Rattle.roll_chain.specs.Again.{given_again, ArePlayed}
use Rattle.roll_chain.specs.Calls.{DeclinesHere, MakesHere}
use Rattle.roll_chain.specs.declared.epochs.Epochs.{Epochs}
use Rattle.roll_chain.specs.declared.past.Past.{Past}
use Rattle.roll_session.specs.Changes.{IsWhy}
use Rattle.roll_game.specs.Counts.{no_calls}
use Rattle.roll_session.specs.Gameless.{with_game, Bare}
use Rattle.roll_session.specs.Seen.{Seen, Step}
use Rattle.roll_session.specs.Started.{first_seen}
use Rattle.roll_chain.specs.States.{value_at, IsWhyNoState}
use Rattle.roll_chain.specs.declared.onward_refusal.OnwardRefusal.{OnwardRefusal}
use Rattle.roll_chain.specs.declared.onward_refusal.OnwardRefusal.TheVariants.{Network, NotOver, Session}

-- a session that has just started as an opening says, from the state at the end of the epoch before: all rows up to there are known, and
-- it is worth the serial run over them
pub record IsStartedFrom (step : Step) (o : Opening) (session started : Seen) : Type 0 where
  pub known : IsKnownTo session o.end
  pub start : started ≡ first_seen o.settings (value_at step session o.end) started.counts

-- how the next epoch opens: its session starts from the end of this one's, its network follows this one's, and opened so also what
-- carries beside it; this one's network, what it carried and its session without the game are the epoch before
pub record GoesOnward {N : Type 0} (step : Step) (o : Opening) (old new : Chain) (peer next : Peered) (relay carrying : Carrying) (session started : Seen)
    (past : Past (Bare N)) : Type 0 where
  pub starts : IsStartedFrom step o session started
  pub follows : IsFollowedAs started (settings_in old o.terms) peer o.seating next
  pub chain : new ≡ followed_by old o
  pub carries : carrying ≡ opened_beside next
  pub past_peer : past.peer ≡ peer
  pub past_relay : past.relay ≡ relay
  pub past_session : past.session.seen ≡ with_game [] no_calls session

-- this epoch is over, and the next one has begun; what own players gave past the end was given again, as far as that is taken
pub record HasGoneOn {N : Type 0} (step : Step) (old new : Epochs (Bare N)) (peer next : Peered) (relay carrying : Carrying) (session after : Seen) : Type 0 where
  pub ending : Ending
  pub over : IsOver session old.chain peer ending
  pub started : Seen
  pub past : Past (Bare N)
  pub past_is : new.past ≡ Some past
  pub goes_on : GoesOnward step (opening_after session old.chain peer ending) old.chain new.chain peer next relay carrying session started past
  pub all : Bool
  pub again : ArePlayed (MakesHere step) (DeclinesHere step) started (given_again new.chain.terms next.settings.me past.session.seen ending.frame) after all

-- ---- why not

-- there is no state at the end, or the session doesn't start from it
abbrev pub IsWhyNotStarted : Opening → Seen → OnwardRefusal → Type 0
IsWhyNotStarted o session NotOver = ⊥
IsWhyNotStarted o session (Session why) = IsWhyNoState session.core o.end why ⊎ IsWhy (start_refusal o.settings) why
IsWhyNotStarted o session (Network why) = ⊥

-- memory ran out for the network, or it doesn't open beside a session that starts so
abbrev pub IsWhyUnopened : Step → Opening → Chain → Seen → OnwardRefusal → Type 0
IsWhyUnopened step o chain session NotOver = ⊥
IsWhyUnopened step o chain session (Session why) = ⊥
IsWhyUnopened step o chain session (Network why) =
    (why ≡ NoneLeft)
    ⊎ ((started : Seen) × IsStartedFrom step o session started × IsWhyNot started (settings_in chain o.terms) why)

abbrev pub IsWhyNotFollowed : Step → Opening → Chain → Seen → OnwardRefusal → Type 0
IsWhyNotFollowed step o chain session why = IsWhyNotStarted o session why ⊎ IsWhyUnopened step o chain session why

-- this epoch isn't over, or it is, and the next one doesn't open
abbrev pub IsWhyNotGone : Step → Chain → Peered → Seen → OnwardRefusal → Type 0
IsWhyNotGone step chain peer session why =
    ((why ≡ NotOver) × ((e : Ending) → IsOver session chain peer e → ⊥))
    ⊎ ((e : Ending) × IsOver session chain peer e × IsWhyNotFollowed step (opening_after session chain peer e) chain session why)
