-- A frame of a match: the inputs of this machine's players are given to the session, which plays it.
use Rattle.std.specs.Prelude.{◌≡◌, ◌⊎◌, ℕ, zero, suc, ◌+◌, ◌*◌, ◌/◌, ◌%◌, ◌==◌, ℤ, pos, List, [], ◌∷◌, ◌++◌, get_or, length, min, nat_lt, Bool, true, false, if◌then◌else◌}
use Rattle.std.specs.Int.{w32, from_le_bytes}
use Rattle.roll_chain.specs.Again.{ArePlayed}
use Rattle.roll_chain.specs.Calls.{DeclinesCall, MakesCall}
use Rattle.roll_epoch.specs.Ends.{owner_of}
use Rattle.roll_frame.specs.Codes.{code_of}
use Rattle.roll_frame.specs.declared.refusal.Refusal.TheVariants.{InputTwice}
use Rattle.roll_mesh.specs.declared.limits.TheConstants.{PLAYER_LIMIT}
use Rattle.roll_peer.specs.Turning.{ends_in_roll}
use Rattle.roll_requests.specs.Asked.{Asked}
use Rattle.roll_requests.specs.Declined.{refusal_of}
use Rattle.roll_requests.specs.Made.{IsNotMade, KeepsLeading}
use Rattle.roll_requests.specs.declared.declined.Declined.{Declined}
use Rattle.roll_requests.specs.declared.declined.Declined.TheVariants.{Refused}
use Rattle.roll_session.specs.declared.event.Call.{Call}
use Rattle.roll_session.specs.declared.event.Call.TheVariants.{Local, Sync, Advance}
use Rattle.fazgrond_c.specs.MatchKinds.{words_of}
use Rattle.fazgrond_c.specs.declared.playing.Played.{Played}

-- ---- words of inputs

-- how many of the words before a place are this machine's
unfoldable pub own_before : (owners : List ℕ) → (me : ℕ) → ℕ → ℕ
own_before owners me zero = 0
own_before owners me (suc p) = if owner_of owners p == me then suc (own_before owners me p) else own_before owners me p

-- a byte of an input that ends before a place; past its end it is 0
abbrev pub byte_in : (inputs : List ℕ) → (end at : ℕ) → ℕ
byte_in inputs end at = if nat_lt at end then get_or inputs at 0 else 0

-- the word of this machine of this rank, in inputs of so many bytes each, one after another: 4 bytes of one, the lowest first
abbrev pub word_from : (inputs : List ℕ) → (end at : ℕ) → ℕ
word_from inputs end at = from_le_bytes w32
    (byte_in inputs end at ∷ byte_in inputs end (at + 1) ∷ byte_in inputs end (at + 2) ∷ byte_in inputs end (at + 3) ∷ [])

abbrev pub word_in : (inputs : List ℕ) → (size rank : ℕ) → ℕ
word_in inputs size rank =
    word_from inputs ((rank / words_of size + 1) * size) (rank / words_of size * size + 4 * (rank % words_of size))

-- ---- calls of a frame

-- the word at a place, if it is this machine's
abbrev pub word_given : (owners : List ℕ) → (me size : ℕ) → (inputs : List ℕ) → ℕ → List Call
word_given owners me size inputs p =
    if owner_of owners p == me then Local (p + 1) (word_in inputs size (own_before owners me p)) ∷ [] else []

unfoldable pub words_given : (owners : List ℕ) → (me size : ℕ) → (inputs : List ℕ) → ℕ → List Call
words_given owners me size inputs zero = []
words_given owners me size inputs (suc p) = words_given owners me size inputs p ++ word_given owners me size inputs p

-- those of a frame, and the frame is played
abbrev pub frame_calls : (owners : List ℕ) → (me size : ℕ) → (inputs : List ℕ) → List Call
frame_calls owners me size inputs = words_given owners me size inputs PLAYER_LIMIT ++ Advance ∷ []

-- a word that was given before for this frame stays as it is
pub record WasGiven (old new : Asked) (call : Call) : Type 0 where
  pub not_made : IsNotMade old new call (Refused InputTwice)
  pub leads : KeepsLeading old new

abbrev pub GivesCall : (old new : Asked) → Call → Type 0
GivesCall old new call = MakesCall old new call ⊎ WasGiven old new call

-- a call is declined for this reason
pub record DeclinesFor (why : Declined) (old new : Asked) (call : Call) : Type 0 where
  pub not_made : IsNotMade old new call why
  pub leads : KeepsLeading old new

-- calls are made in their order; or those up to the first that is declined, for this reason
abbrev pub AreGivenIn : (old : Asked) → List Call → (new : Asked) → (why : Declined) → (all : Bool) → Type 0
AreGivenIn old calls new why all = ArePlayed GivesCall (DeclinesFor why) old calls new all

abbrev pub AreAllGiven : (old : Asked) → List Call → (new : Asked) → Type 0
AreAllGiven old calls new = (why : Declined) → AreGivenIn old calls new why true

-- what the session shows is that of the inputs
abbrev pub CatchesUp : (old new : Asked) → Type 0
CatchesUp old new =
    ((ends_in_roll old.seen.log ≡ true) × (new ≡ old))
    ⊎ ((ends_in_roll old.seen.log ≡ false) × (MakesCall old new Sync ⊎ DeclinesCall old new Sync))

-- a frame is played, or it isn't, and then the session rolls back if that is due
abbrev pub PlaysFrame : (calls : List Call) → (old new : Asked) → Played → Type 0
PlaysFrame calls old new played =
    ((played ≡ record { has_played = true; waits_for = pos 0 }) × AreAllGiven old calls new)
    ⊎ ((why : Declined) × (mid : Asked) × (played ≡ record { has_played = false; waits_for = pos (code_of (refusal_of why)) })
    × AreGivenIn old calls mid why false × CatchesUp mid new)
