-- The network beside a session from which words are held back, where lines may break.
use Rattle.std.proofs.Common.{◌≡◌, subst, ℕ, List}
use Rattle.std.specs.Prelude.{IfErr, IfOk, OnErr, Option, option_map, Result, Ok, Err, true}
use Rattle.roll_carry.specs.Carrying.{Carrying}
use Rattle.roll_inputs.specs.declared.remote_word.RemoteWord.{RemoteWord}
use Rattle.roll_peer.specs.Peered.{Peered}
use Rattle.roll_peer.specs.Receiving.{ticking, IsOther}
use Rattle.roll_peer.specs.declared.received.Ignored.{Ignored}
use Rattle.roll_peer.specs.declared.refusal.OtherSession.{OtherSession}
use Rattle.roll_relay.specs.Relaying.{is_said, taken_kind, Hears, IsUnheard, Sends}
use Rattle.roll_relay.specs.declared.heard.Heard.{Heard}
use Rattle.roll_session.specs.Seen.{Seen, Step}
use Rattle.roll_relay.proofs.Ahead.{before_is}
use Rattle.roll_relay.specs.Relayed.{bytes_of, relayed, relayed_beside, HearsBy, HearsHeldBy, SendsBy}
use Rattle.roll_relay.specs.Rooms.{HasRoom}
use Rattle.roll_relay.specs.Told.{as_told, roomless, told}

module _ (s later new : Seen) (words held : List RemoteWord) (room : ℕ) (same : roomless later ≡ roomless s) where
  pub hears_held_by : (step : Step) (peer next : Peered) (here there : Carrying) (now : ℕ) (bytes : List ℕ) (said : Result Heard Ignored)
      → HasRoom (told s words) (told new held) room
      → IfOk said (Hears step now (relayed (as_told later words 0) peer here) (relayed (as_told new held room) next there) bytes)
      → IfOk said (λ heard. is_said (taken_kind here bytes) heard ≡ true)
      → IfErr said (IsUnheard step now (taken_kind here bytes) (relayed (as_told later words 0) peer here).beside (relayed (as_told new held room) next there).beside bytes)
      → OnErr said (there ≡ here)
      → HearsHeldBy step now (relayed_beside s words peer here) (relayed_beside new held next there) bytes said
  hears_held_by step peer next here there now bytes said has heard kind ignored unchanged = record {
    room = room;
    has_room = has;
    hears = subst (λ (x : Seen). HearsBy step now (relayed x peer here) (relayed (as_told new held room) next there) bytes said)
        (before_is s later new words held room same)
        (record { heard = heard; kind = kind; ignored = ignored; unchanged = unchanged });
  }

  pub sends_by : {A : Type 0} (items : A → List ℕ) (now machine : ℕ) (peer next : Peered) (here there : Carrying)
      → (said : Result (Option A) OtherSession)
      → IfOk said (λ sent. Sends (as_told later words 0) now machine peer next here there (option_map items sent))
      → OnErr said (IsOther (as_told later words 0) peer)
      → OnErr said (next ≡ ticking now peer)
      → OnErr said (there ≡ here)
      → SendsBy (as_told s words 0) now machine peer next here there (bytes_of items said)
  sends_by items now machine peer next here there (Ok sent) sends other ticked unchanged =
      subst (λ (x : Seen). SendsBy x now machine peer next here there (Ok (option_map items sent)))
      (before_is s later new words held room same)
      (record { sent = sends; other = tt; ticked = tt; unchanged = tt })
  sends_by items now machine peer next here there (Err why) sends other ticked unchanged =
      subst (λ (x : Seen). SendsBy x now machine peer next here there (Err why))
      (before_is s later new words held room same)
      (record { sent = tt; other = other; ticked = ticked; unchanged = unchanged })
