-- What a call of a peer answers, and what it writes.
use Rattle.std.specs.Prelude.{◌≡◌, ℕ, ℤ, pos, List, ◌++◌, drop, length, Option, Some, None, Result, Ok, Err}
use Rattle.roll_peer.specs.declared.received.Ignored.{Ignored}
use Rattle.roll_peer.specs.declared.refusal.OtherSession.{OtherSession}
use Rattle.fazgrond_c.specs.PeerKinds.{code_of_ignored}

-- the code of what came of bytes
abbrev pub code_of_receipt : {T : Type 0} → Result T Ignored → ℤ
code_of_receipt (Ok received) = pos 0
code_of_receipt (Err why) = pos (code_of_ignored why)

-- bytes are written to the front of a buffer, and how many they are; or there are none, and nothing is written
abbrev pub AreWritten : Option (List ℕ) → (before after : List ℕ) → (had size : ℕ) → ℤ → Type 0
AreWritten None before after had size code =
    (code ≡ pos 203) × ((after ≡ before) × (size ≡ had))
AreWritten (Some bytes) before after had size code =
    (code ≡ pos 0) × ((after ≡ bytes ++ drop (length bytes) before) × (size ≡ length bytes))

-- what there is to send is written; or the session is another
abbrev pub AreSent : Result (Option (List ℕ)) OtherSession → (before after : List ℕ) → (had size : ℕ)
    → ℤ → Type 0
AreSent (Ok bytes) before after had size code = AreWritten bytes before after had size code
AreSent (Err other) before after had size code =
    (code ≡ pos 313) × ((after ≡ before) × (size ≡ had))
