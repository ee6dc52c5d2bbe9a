-- What a match makes of bytes that come.
use Rattle.std.specs.Prelude.{◌≡◌, ℕ, List, [], Result, Ok, Err, OnErr}
use Rattle.roll_relay.specs.Relayed.{relayed_beside, HearsHeldBy}
use Rattle.roll_relay.specs.Told.{IsHeldFault}
use Rattle.roll_relay.specs.declared.fault.HeldFault.{HeldFault}
use Rattle.roll_peer.specs.declared.received.Ignored.{Ignored}
use Rattle.roll_peer.specs.declared.received.Ignored.TheVariants.{NotSealed, NoDatagram, InvalidMachine, OwnMachine, MachineGone, OtherSession, Outside, Overstated}
use Rattle.roll_relay.specs.Relaying.{Relayed}
use Rattle.roll_relay.specs.declared.heard.Heard.{Heard}
use Rattle.roll_chain.specs.Epochs.{HearsBefore}
use Rattle.roll_session.specs.Seen.{Seen, Step}
use Rattle.roll_match.specs.declared.one.Match.{Match}
use Rattle.roll_match.specs.declared.unheard.Unheard.{Unheard}
use Rattle.roll_match.specs.declared.unheard.Unheard.TheVariants.{Ignored as NotHeard, Held}

-- that something was heard, or not
abbrev pub said_as : Result Unit Ignored → Result Unit Unheard
said_as (Ok done) = Ok done
said_as (Err why) = Err (NotHeard why)

module _ {S P E L : Type 0} where
  -- what the network of this epoch has beside it: a session as if it had heard what waits
  abbrev pub ahead : Seen → Match S P E L → Relayed
  ahead s it = relayed_beside s it.held.words.items it.peer it.relay

  -- bytes are heard in this epoch, or not, and then what waits goes on waiting; or that has no room, and nothing is changed
  abbrev pub HearsHere : Step → (bytes : List ℕ) → (now : ℕ) → (before after : Seen) → (old new : Match S P E L)
      → Result (Result Heard Ignored) HeldFault → Type 0
  HearsHere step bytes now before after old new (Ok said) =
      HearsHeldBy step now (ahead before old) (ahead after new) bytes said
      × (new ≡ record old { peer = new.peer; held = new.held; relay = new.relay })
      × OnErr said ((new.held ≡ old.held) × (old.held.words.items ≡ [] → after ≡ before))
  HearsHere step bytes now before after old new (Err why) =
      IsHeldFault before old.held.words.items why × (new ≡ old) × (after ≡ before)

  -- bytes are heard in the epoch before, or not
  pub record HearsEarlier (seen : P → Seen) (step : Step) (bytes : List ℕ) (now : ℕ) (old new : Match S P E L) (said : Result Unit Unheard) : Type 0 where
    pub result : Result Unit Ignored
    pub hears : HearsBefore seen step bytes now old.epochs new.epochs result
    pub rest : new ≡ record old { epochs = new.epochs }
    pub said_is : said ≡ said_as result

  -- what isn't sealed for this epoch may be for the one before
  abbrev pub HearsThen : (seen : P → Seen) → Step → (bytes : List ℕ) → (now : ℕ) → Result (Result Heard Ignored) HeldFault
      → (old new : Match S P E L) → Result Unit Unheard → Type 0
  HearsThen seen step bytes now (Ok (Ok heard)) old new said = (new ≡ old) × (said ≡ Ok tt)
  HearsThen seen step bytes now (Ok (Err NotSealed)) old new said = HearsEarlier seen step bytes now old new said
  HearsThen seen step bytes now (Ok (Err (NoDatagram fault))) old new said = (new ≡ old) × (said ≡ Err (NotHeard (NoDatagram fault)))
  HearsThen seen step bytes now (Ok (Err InvalidMachine)) old new said = (new ≡ old) × (said ≡ Err (NotHeard InvalidMachine))
  HearsThen seen step bytes now (Ok (Err OwnMachine)) old new said = (new ≡ old) × (said ≡ Err (NotHeard OwnMachine))
  HearsThen seen step bytes now (Ok (Err MachineGone)) old new said = (new ≡ old) × (said ≡ Err (NotHeard MachineGone))
  HearsThen seen step bytes now (Ok (Err OtherSession)) old new said = (new ≡ old) × (said ≡ Err (NotHeard OtherSession))
  HearsThen seen step bytes now (Ok (Err Outside)) old new said = (new ≡ old) × (said ≡ Err (NotHeard Outside))
  HearsThen seen step bytes now (Ok (Err Overstated)) old new said = (new ≡ old) × (said ≡ Err (NotHeard Overstated))
  HearsThen seen step bytes now (Err why) old new said = (new ≡ old) × (said ≡ Err (Held why))

  pub record Hears (step : Step) (seen : P → Seen) (past : Step) (bytes : List ℕ) (now : ℕ) (before after : Seen) (old new : Match S P E L)
      (said : Result Unit Unheard) : Type 0 where
    pub between : Match S P E L
    pub first : Result (Result Heard Ignored) HeldFault
    pub here : HearsHere step bytes now before after old between first
    pub then_is : HearsThen seen past bytes now first between new said
