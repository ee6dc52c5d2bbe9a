-- Why a text wasn't played.
use Rattle.std.specs.Prelude.{ℕ, List, ◌++◌, codes}
use Rattle.std.specs.Fmt.{decimal}
use Rattle.roll_text.specs.declared.streams.ReadFault.{ReadFault}
use Rattle.roll_text.specs.declared.streams.ReadFault.TheVariants.{TooLong, NoMemory as NoMemoryToRead, Read as ReadFails}
use Rattle.prog_scripts.specs.declared.fault.PlayFault.{PlayFault}
use Rattle.prog_scripts.specs.declared.fault.PlayFault.TheVariants.{Unreadable, NoMemory, Read, Write}

-- how a fault is told
abbrev pub fault_text : PlayFault → List ℕ
fault_text (Unreadable line) = codes "unreadable: line " ++ decimal line
fault_text NoMemory = codes "out of memory"
fault_text Read = codes "cannot read"
fault_text Write = codes "cannot write"

abbrev pub fault_of_read : ReadFault → PlayFault
fault_of_read TooLong = Unreadable 0
fault_of_read NoMemoryToRead = NoMemory
fault_of_read ReadFails = Read
