-- The epoch before, as long as somebody may still be in it.
use Rattle.std.specs.Prelude.{◌≡◌, ℕ, List, Option, Result, Ok, Err}
use Rattle.roll_carry.specs.Carrying.{turned}
use Rattle.roll_relay.specs.Relayed.{relayed, HearsBy, SendsBy}
use Rattle.roll_peer.specs.Receiving.{moment_of}
use Rattle.roll_peer.specs.declared.received.Ignored.{Ignored}
use Rattle.roll_peer.specs.declared.refusal.OtherSession.{OtherSession}
use Rattle.roll_relay.specs.Relaying.{IsNext}
use Rattle.roll_relay.specs.declared.heard.Heard.{Heard}
use Rattle.roll_session.specs.Seen.{Seen, Step}
use Rattle.roll_chain.specs.declared.past.Past.{Past}

-- a turn begins for what it carries
abbrev pub turned_past : {S : Type 0} → Past S → Past S
turned_past past = record past { relay = turned (moment_of past.peer) past.relay }

abbrev pub done : Result Heard Ignored → Result Unit Ignored
done (Ok heard) = Ok tt
done (Err why) = Err why

module _ {S : Type 0} (seen : S → Seen) (step : Step) where
  -- bytes are heard, or they aren't
  pub record Hears (bytes : List ℕ) (now : ℕ) (old new : Past S) (said : Result Unit Ignored) : Type 0 where
    pub result : Result Heard Ignored
    pub hears : HearsBy step now (relayed (seen old.session) old.peer old.relay) (relayed (seen new.session) new.peer new.relay) bytes result
    pub said_is : said ≡ done result

module _ {S : Type 0} (seen : S → Seen) where
  -- what is sent to a machine straight; nothing to one that is gone, to this one, or where there is none
  abbrev pub Sends : (machine now : ℕ) → (old new : Past S) → Result (Option (List ℕ)) OtherSession → Type 0
  Sends machine now old new said =
      (new.session ≡ old.session) × SendsBy (seen old.session) now machine old.peer new.peer old.relay new.relay said

-- what goes out beside that
pub record IsNextOf {S : Type 0} (old new : Past S) (said : Option (ℕ × List ℕ)) : Type 0 where
  pub peer : new.peer ≡ old.peer
  pub session : new.session ≡ old.session
  pub next : IsNext old.peer old.relay new.relay said
