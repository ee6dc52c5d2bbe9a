-- How a task ends with a text that is read first, or isn't read.
use Rattle.std.proofs.Common.{◌≡◌, ◌∙◌, ℕ, List, refl, subst, inl, length, Option, Some, None}
use Rattle.std.specs.Prelude.{◌<◌, IfSome}
use Rattle.roll_text.specs.declared.streams.ReadFault.{ReadFault}
use Rattle.roll_text.specs.declared.streams.ReadFault.TheVariants.{TooLong, NoMemory, Read}
use Rattle.roll_text.specs.declared.streams.TheConstants.{TEXT_LIMIT}
use Rattle.prog_scripts.specs.declared.fault.PlayFault.{PlayFault}
use Rattle.prog_scripts.specs.declared.ending.Ending.{Ending}
use Rattle.prog_scripts.specs.declared.task.Task.{Task}
use Rattle.prog_scripts.specs.PlayFaults.{fault_of_read}
use Rattle.roll_cli.specs.Programs.{Ends, EndsBy}

of_fault : (task : Task) (known contents : Option (List ℕ)) (fault : ReadFault) → (fault ≡ TooLong → IfSome known (λ text. TEXT_LIMIT < length text))
    → IfSome known (λ text. EndsBy task text contents contents 2 (Some (fault_of_read fault)))
of_fault task None contents fault long = tt
of_fault task (Some text) contents TooLong long = (refl, inl (refl, long refl))
of_fault task (Some text) contents NoMemory long = (refl, tt)
of_fault task (Some text) contents Read long = (refl, tt)

pub ends_unread : (task : Task) (known contents : Option (List ℕ)) (fault : ReadFault) (told : PlayFault) (ending : Ending) → told ≡ fault_of_read fault
    → ending ≡ record { status = 2; fault = Some told } → (fault ≡ TooLong → IfSome known (λ text. TEXT_LIMIT < length text))
    → IfSome known (λ text. Ends task text contents contents ending)
ends_unread task known contents fault told ending e is long = rw (is, e) (of_fault task known contents fault long)

pub ends_of_read : (task : Task) (known old new : Option (List ℕ)) (held text : List ℕ) (ending : Ending) → held ≡ text → IfSome known (λ bytes. text ≡ bytes)
    → Ends task held old new ending → IfSome known (λ bytes. Ends task bytes old new ending)
ends_of_read task None old new held text ending same all ends = tt
ends_of_read task (Some bytes) old new held text ending same all ends = subst (λ (t : List ℕ). Ends task t old new ending) (same ∙ all) ends
