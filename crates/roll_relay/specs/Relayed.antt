-- The same where lines may break: what is carried stands beside the network.
use Rattle.std.specs.Prelude.{◌≡◌, ℕ, List, Option, option_map, true, IfErr, IfOk, OnErr, Result, Ok, Err}
use Rattle.roll_carry.specs.Carrying.{Carrying}
use Rattle.roll_inputs.specs.declared.remote_word.RemoteWord.{RemoteWord}
use Rattle.roll_peer.specs.Peered.{Peered}
use Rattle.roll_peer.specs.Receiving.{ticking, IsOther}
use Rattle.roll_peer.specs.declared.received.Ignored.{Ignored}
use Rattle.roll_peer.specs.declared.refusal.OtherSession.{OtherSession}
use Rattle.roll_relay.specs.Relaying.{is_said, taken_kind, Hears, IsUnheard, Relayed, Sends}
use Rattle.roll_relay.specs.declared.heard.Heard.{Heard}
use Rattle.roll_session.specs.Seen.{Seen, Step}
use Rattle.roll_relay.specs.Heard.{beside}
use Rattle.roll_relay.specs.Rooms.{HasRoom}
use Rattle.roll_relay.specs.Told.{with_room}

-- a session, the network beside it, and what is carried
abbrev pub relayed : Seen → Peered → Carrying → Relayed
relayed s peer here = record { beside = record { session = s; peer = peer }; carrying = here }

-- the same where words are held back from the session
abbrev pub relayed_beside : Seen → List RemoteWord → Peered → Carrying → Relayed
relayed_beside s words peer here = record { beside = beside s words peer; carrying = here }

-- with room for so many events more
abbrev pub roomed : ℕ → Relayed → Relayed
roomed room it = record it { beside = record it.beside { session = with_room room it.beside.session } }

-- bytes are heard that came straight, or of who carries; or they aren't, and nothing is changed of what is carried
pub record HearsBy (step : Step) (now : ℕ) (old new : Relayed) (bytes : List ℕ) (said : Result Heard Ignored) : Type 0 where
  pub heard : IfOk said (Hears step now old new bytes)
  pub kind : IfOk said (λ heard. is_said (taken_kind old.carrying bytes) heard ≡ true)
  pub ignored : IfErr said (IsUnheard step now (taken_kind old.carrying bytes) old.beside new.beside bytes)
  pub unchanged : OnErr said (new.carrying ≡ old.carrying)

-- the same where words are held back: room is asked for as in a session that has none
pub record HearsHeldBy (step : Step) (now : ℕ) (old new : Relayed) (bytes : List ℕ) (said : Result Heard Ignored) : Type 0 where
  pub room : ℕ
  pub hears : HearsBy step now (roomed 0 old) (roomed room new) bytes said
  pub has_room : HasRoom old.beside.session new.beside.session room

-- what goes to a machine is sent, or carried; or the session is another, and nothing is changed but the clock
pub record SendsBy (s : Seen) (now machine : ℕ) (old new : Peered) (here there : Carrying)
    (said : Result (Option (List ℕ)) OtherSession) : Type 0 where
  pub sent : IfOk said (Sends s now machine old new here there)
  pub other : OnErr said (IsOther s old)
  pub ticked : OnErr said (new ≡ ticking now old)
  pub unchanged : OnErr said (there ≡ here)

-- the bytes of a datagram, if there are any
abbrev pub bytes_of : {A : Type 0} → (A → List ℕ) → Result (Option A) OtherSession → Result (Option (List ℕ)) OtherSession
bytes_of items (Ok said) = Ok (option_map items said)
bytes_of items (Err other) = Err other
