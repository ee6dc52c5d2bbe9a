-- Laws of a machine beside its session.
use Rattle.std.specs.Prelude.{◌≡◌, ◌≤◌, ◌<◌, ◌-◌, ◌==◌, ℕ, length, None, false}
use Rattle.roll_mesh.specs.declared.limits.TheConstants.{PLAYER_LIMIT}
use Rattle.roll_mesh.specs.Groups.{first_of}
use Rattle.roll_mesh.specs.Machines.{left_at, owner_of}
use Rattle.roll_mesh.specs.Meshes.{Seated}
use Rattle.roll_mesh.specs.Words.{give_word}
use Rattle.roll_frame.specs.Core.{settled}
use Rattle.roll_session.specs.Changes.{after_local, local_refusal}
use Rattle.roll_session.specs.Seen.{Seen}
use Rattle.roll_member.specs.Beside.{caught_up}
use Rattle.roll_member.specs.Joined.{count_of, held, IsBehind, IsTied}

-- a word that a session takes of a local player is given once its machine meets the session again: a step of the laws over words.
-- Of several words each is such a step, since to have caught up twice is to have caught up with the later. Where an input has one word:
-- else its words are given once they are all there
abbrev pub OwnWordsAreGiven : Type 0
OwnWordsAreGiven = (s : Seen) (mesh : Seated) (player word : ℕ) → mesh.seat.words ≡ 1
    → local_refusal s player ≡ None
    → IsTied s mesh → length s.core.players ≤ PLAYER_LIMIT
    → held (record { session = after_local s player word; mesh = caught_up (after_local s player word) mesh })
    ≡ give_word mesh.seat (player - 1) word (held (record { session = s; mesh = mesh }))

-- no part of an input of another machine's player: a session has as many of one of its words as of another, and they leave at one frame
abbrev pub InputsAreWhole : Type 0
InputsAreWhole = (s : Seen) (mesh : Seated) (p : ℕ) → IsTied s mesh → p < PLAYER_LIMIT
    → (owner_of mesh.seat p == mesh.seat.me) ≡ false
    → (count_of s p ≡ count_of s (first_of mesh.seat.words p))
    × (left_at mesh.machine p ≡ left_at mesh.machine (first_of mesh.seat.words p))

-- a session settles no frame past the words of another machine's player who hasn't left
abbrev pub NothingPastItIsSettled : Type 0
NothingPastItIsSettled = (s : Seen) (mesh : Seated) (count : ℕ) → IsTied s mesh
    → IsBehind (record { session = s; mesh = mesh }) count → settled s.core ≤ count
