-- Refusals other than for want of memory.
use Rattle.std.proofs.Common.{◌≡◌, ap, sym, Option, Some, None}
use Rattle.std.specs.Prelude.{◌≢◌, unwrap_or}
use Rattle.roll_frame.specs.declared.refusal.Refusal.{Refusal}
use Rattle.roll_frame.specs.declared.refusal.Refusal.TheVariants.{NoMemory}

-- a refusal other than for want of memory is that of the tests
pub refused_so : (o : Option Refusal) (why : Refusal) → why ≡ unwrap_or o NoMemory → why ≢ NoMemory → o ≡ Some why
refused_so None why e ne = absurd (ne e)
refused_so (Some w) why e ne = ap Some (sym e)
