-- What goes out of a match in a turn: datagrams, one after another, each to a machine.
use Rattle.std.specs.Prelude.{◌≡◌, ◌⊎◌, ◌≤◌, ◌<◌, ℕ, zero, suc, ◌+◌, ◌/◌, ◌%◌, ◌==◌, ◌||◌, not, is_none, length, List, Bool, true, false, Option, Some, None, MatchOption, Result, Ok, Err}
use Rattle.roll_relay.specs.Relayed.{SendsBy}
use Rattle.roll_relay.specs.Told.{as_told, roomier, IsHeldFault}
use Rattle.roll_relay.specs.declared.fault.HeldFault.{HeldFault}
use Rattle.roll_peer.specs.Peered.{contact_at}
use Rattle.roll_peer.specs.Sending.{is_lost}
use Rattle.roll_peer.specs.declared.refusal.OtherSession.{OtherSession}
use Rattle.roll_carry.specs.Carrying.{Carrying}
use Rattle.roll_contact.specs.Contacts.{is_playing}
use Rattle.roll_relay.specs.Relaying.{IsNext, SaysBye}
use Rattle.roll_chain.specs.Epochs.{IsNextBefore, SendsBefore}
use Rattle.roll_session.specs.Seen.{Seen}
use Rattle.roll_match.specs.declared.going_out.TheConstants.{PLACES}
use Rattle.roll_match.specs.declared.one.Match.{Match}

-- what is sent, if anything is
abbrev pub sent_of : Result (Option (List ℕ)) OtherSession → Option (List ℕ)
sent_of (Ok sent) = sent
sent_of (Err other) = None

abbrev pub told_of : Result (Result (Option (List ℕ)) OtherSession) HeldFault → Option (List ℕ)
told_of (Ok said) = sent_of said
told_of (Err why) = None

module _ {S P E L : Type 0} where
  -- what goes straight to a machine in this epoch
  abbrev pub Gives : (machine : ℕ) → (before after : Seen) → (old new : Match S P E L)
      → Result (Result (Option (List ℕ)) OtherSession) HeldFault → Type 0
  Gives machine before after old new (Ok said) =
      SendsBy (as_told before old.held.words.items 0) old.moment machine old.peer new.peer old.relay new.relay said
      × (new ≡ record old { peer = new.peer; relay = new.relay }) × (after ≡ roomier (length old.held.words.items) before)
  Gives machine before after old new (Err why) =
      IsHeldFault before old.held.words.items why × (new ≡ old) × (after ≡ before)

  pub record PlaysTo (machine : ℕ) (before after : Seen) (old new : Match S P E L) (sent : Option (List ℕ)) : Type 0 where
    pub said : Result (Result (Option (List ℕ)) OtherSession) HeldFault
    pub gives : Gives machine before after old new said
    pub sent_is : sent ≡ told_of said

  -- once this machine leaves, a bye goes there in its place: to each machine that is there, and has answered this one
  pub record LeavesFor (machine why : ℕ) (before after : Seen) (old new : Match S P E L) (sent : Option (List ℕ)) : Type 0 where
    pub says : SaysBye old.peer machine why old.relay new.relay sent
    pub none : is_none sent ≡ (is_lost old.peer machine || not (is_playing (contact_at old.peer machine).stage))
    pub rest : new ≡ record old { relay = new.relay }
    pub session : after ≡ before

  abbrev pub SendsHere : (machine : ℕ) → (before after : Seen) → (old new : Match S P E L) → Option (List ℕ) → Type 0
  SendsHere machine before after old new sent =
      MatchOption old.leaving (PlaysTo machine before after old new sent) (λ why. LeavesFor machine why before after old new sent)

  -- and in the one before, if it may still be there
  pub record SendsEarlier (seen : P → Seen) (machine : ℕ) (old new : Match S P E L) (sent : Option (List ℕ)) : Type 0 where
    pub said : Result (Option (List ℕ)) OtherSession
    pub gives : SendsBefore seen machine old.moment old.epochs new.epochs said
    pub rest : new ≡ record old { epochs = new.epochs }
    pub sent_is : sent ≡ sent_of said

  -- at each place a machine gets what goes straight: at an even one in this epoch, at an odd one in that before
  abbrev pub SendsAtPlace : (is_here : Bool) → (seen : P → Seen) → (machine : ℕ) → (before after : Seen) → (old new : Match S P E L)
      → Option (List ℕ) → Type 0
  SendsAtPlace true seen machine before after old new sent = SendsHere machine before after old new sent
  SendsAtPlace false seen machine before after old new sent = SendsEarlier seen machine old new sent × (after ≡ before)

  abbrev pub SendsAt : (seen : P → Seen) → (place : ℕ) → (before after : Seen) → (old new : Match S P E L) → Option (List ℕ) → Type 0
  SendsAt seen place before after old new sent =
      SendsAtPlace (place % 2 == 0) seen (place / 2) before after (record old { gone_out = place + 1 }) new sent

  -- at so many places from one on there is nothing to send
  abbrev pub Skips : (seen : P → Seen) → (from count : ℕ) → (before after : Seen) → (old new : Match S P E L) → Type 0
  Skips seen from zero before after old new = (new ≡ old) × (after ≡ before)
  Skips seen from (suc n) before after old new =
      (mid : Match S P E L) × (middle : Seen) × Skips seen from n before middle old mid
      × SendsAt seen (from + n) middle after mid new None

  -- what goes out beside that, first in this epoch: who hears whom, and what is carried
  abbrev pub IsBesideThen : (old new : Match S P E L) → Carrying → Option (ℕ × List ℕ) → Option (ℕ × List ℕ) → Type 0
  IsBesideThen old new relay (Some first) said = (said ≡ Some first) × (new ≡ record old { relay = relay })
  IsBesideThen old new relay None said =
      IsNextBefore old.epochs new.epochs said × (new ≡ record old { relay = relay; epochs = new.epochs })

  pub record IsBeside (old new : Match S P E L) (said : Option (ℕ × List ℕ)) : Type 0 where
    pub relay : Carrying
    pub first : Option (ℕ × List ℕ)
    pub next : IsNext old.peer old.relay relay first
    pub then_is : IsBesideThen old new relay first said

  -- the next datagram of this turn, and to which machine it goes; none if there is no more
  pub record GoesOut (seen : P → Seen) (before after : Seen) (old new : Match S P E L) (said : Option (ℕ × List ℕ)) : Type 0 where
    pub count : ℕ
    pub between : Match S P E L
    pub middle : Seen
    pub skips : Skips seen old.gone_out count before middle old between
    pub then_is : ((old.gone_out + count < PLACES)
        × ((bytes : List ℕ) × SendsAt seen (old.gone_out + count) middle after between new (Some bytes)
        × (said ≡ Some ((old.gone_out + count) / 2, bytes))))
        ⊎ ((PLACES ≤ old.gone_out + count) × (after ≡ middle) × IsBeside between new said)
