-- What an engine comes to, which reads a text and writes to a writer.
use Rattle.std.specs.Prelude.{◌≡◌, ℕ, List, Option, Result, Err, IfOk, IfSome}
use Rattle.std.specs.Io.KnownBytes.{Appends}
use Rattle.roll_text.specs.Streams.{AppendsPart}
use Rattle.prog_scripts.specs.declared.fault.PlayFault.{PlayFault}
use Rattle.prog_scripts.specs.declared.fault.PlayFault.TheVariants.{Unreadable, Write as CannotWrite}

-- what an output came to, where these bytes were written before and after: all of it was written, if it ended well, and
-- a front of it but not all, if the writer failed
pub record Outputs {T : Type 0} (IsOutput : List ℕ → T → Type 0) (before after : Option (List ℕ))
    (result : Result T PlayFault) : Type 0 where
  pub written : IfOk result
      (λ said. (whole : List ℕ) × IsOutput whole said × Appends before after whole)
  pub cut : result ≡ Err CannotWrite
      → (whole : List ℕ) × (said : T) × IsOutput whole said × AppendsPart before after whole

-- what an engine came to, where its reader held a text: the output is one of that text, and if a line can't be read, it
-- is a bad one of it
pub record Plays {T : Type 0} (IsBad : ℕ → List ℕ → Type 0)
    (IsOutputOf : List ℕ → List ℕ → T → Type 0) (text before after : Option (List ℕ))
    (result : Result T PlayFault) : Type 0 where
  pub outputs : IfSome text (λ text. Outputs (IsOutputOf text) before after result)
  pub unreadable : (line : ℕ) → result ≡ Err (Unreadable line) → IfSome text (IsBad line)
