-- How a task ends.
use Rattle.std.proofs.Common.{◌≡◌, ℕ, List, Option, Some, None}
use Rattle.std.specs.Prelude.{IfSome, Result, Err, ⊤, Bool}
use Rattle.std.proofs.lemmas.Option.{IfSome_then}
use Rattle.roll_text.specs.Streams.{IsBadAt}
use Rattle.prog_scripts.specs.declared.fault.PlayFault.{PlayFault}
use Rattle.prog_scripts.specs.declared.fault.PlayFault.TheVariants.{Unreadable, NoMemory, Read, Write}
use Rattle.prog_scripts.specs.declared.task.Task.{Task}
use Rattle.prog_scripts.specs.Engines.{Plays}
use Rattle.roll_cli.specs.Programs.{IsDone, IsFault, IsReadable}

of_any : (known : Option (List ℕ)) → IfSome known (λ text. ⊤)
of_any None = tt
of_any (Some text) = tt

-- a fault of an engine that does a task is one of the task
pub is_fault : (task : Task) (known old new : Option (List ℕ)) (result : Result Bool PlayFault)
    (fault : PlayFault) → result ≡ Err fault
    → Plays (IsBadAt (IsReadable task)) (IsDone task) known old new result
    → IfSome known (λ text. IsFault task text old new fault)
is_fault task known old new result (Unreadable line) is h = h.unreadable line is
is_fault task known old new result NoMemory is h = of_any known
is_fault task known old new result Read is h = of_any known
is_fault task known old new result Write is h = IfSome_then known h.outputs (λ text out. out.cut is)
