-- A session from which words are held back, with the network beside it, which sees it as if it had heard them.
use Rattle.std.specs.Prelude.{ℕ, List, Result}
use Rattle.roll_inputs.specs.declared.remote_word.RemoteWord.{RemoteWord}
use Rattle.roll_peer.specs.Peered.{Peered}
use Rattle.roll_peer.specs.Receiving.{ticking}
use Rattle.roll_peer.specs.Requests.{Beside}
use Rattle.roll_peer.specs.Turning.{IsPolled}
use Rattle.roll_peer.specs.declared.refusal.PeerRefusal.{PeerRefusal}
use Rattle.roll_session.specs.Seen.{Seen}
use Rattle.roll_relay.specs.Rooms.{HasRoom}
use Rattle.roll_relay.specs.Told.{roomless, told, with_room}

-- so is what the network has beside it
abbrev pub beside : Seen → List RemoteWord → Peered → Beside
beside s words peer = record { session = told s words; peer = peer }

-- a poll, which asks for room as beside a session that has none
pub record PollsHeld (old new : Beside) (now : ℕ) (said : Result Unit PeerRefusal) : Type 0 where
  pub room : ℕ
  pub polls : IsPolled (roomless old.session) (with_room room new.session) (ticking now old.peer) new.peer said
  pub has_room : HasRoom old.session new.session room
