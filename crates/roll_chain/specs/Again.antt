-- What own players gave past the end of an epoch, given again in the next one.
use Rattle.std.specs.Prelude.{◌≡◌, ◌⊎◌, ℕ, zero, suc, ◌+◌, ◌-◌, ◌==◌, List, [], ◌∷◌, ◌++◌, Bool, true, false, if◌then◌else◌, slice_index}
use Rattle.roll_epoch.specs.Ends.{owner_of}
use Rattle.roll_epoch.specs.declared.terms.Terms.{Terms}
use Rattle.roll_member.specs.Seam.{given_at}
use Rattle.roll_mesh.specs.declared.limits.TheConstants.{PLAYER_LIMIT}
use Rattle.roll_session.specs.Seen.{Seen}
use Rattle.roll_session.specs.declared.event.Call.{Call}
use Rattle.roll_session.specs.declared.event.Call.TheVariants.{Local, Advance}

-- ---- calls, one after another

module _ {S : Type 0} (makes declines : S → S → Call → Type 0) where
  -- calls are made in their order, up to the first that is declined, if one is
  abbrev pub ArePlayed : (old : S) → List Call → (new : S) → (all : Bool) → Type 0
  ArePlayed old [] new all = (new ≡ old) × (all ≡ true)
  ArePlayed old (call ∷ more) new all =
      ((mid : S) × makes old mid call × ArePlayed mid more new all)
      ⊎ (declines old new call × (all ≡ false))

-- ---- which calls

-- the word that the player at a place gave for a frame of the epoch before, or else its last one, if it is this machine's in the next
-- one, where it has this delay
abbrev pub word_of : Terms → (me : ℕ) → (past : Seen) → (frame p : ℕ) → List Call
word_of terms me past frame p =
    if owner_of terms.owners p == me
    then Local (p + 1) (given_at past p (frame + slice_index terms.delays p)) ∷ [] else []

-- those of the first players
unfoldable pub words_until : Terms → (me : ℕ) → (past : Seen) → (frame p : ℕ) → List Call
words_until terms me past frame zero = []
words_until terms me past frame (suc p) = words_until terms me past frame p ++ word_of terms me past frame p

-- the words of a frame, and the frame is run
abbrev pub frame_calls : Terms → (me : ℕ) → (past : Seen) → (frame : ℕ) → List Call
frame_calls terms me past frame = words_until terms me past frame PLAYER_LIMIT ++ Advance ∷ []

-- so many frames from one on
unfoldable pub calls_from : Terms → (me : ℕ) → (past : Seen) → (frame count : ℕ) → List Call
calls_from terms me past frame zero = []
calls_from terms me past frame (suc n) = calls_from terms me past frame n ++ frame_calls terms me past (frame + n)

-- all frames from the end of the epoch before to where its session was
abbrev pub given_again : Terms → (me : ℕ) → (past : Seen) → (end : ℕ) → List Call
given_again terms me past end = calls_from terms me past end (past.core.frame - end)
