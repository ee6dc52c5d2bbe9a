-- An epoch has one end, or none.
use Rattle.std.proofs.Common.{◌≡◌, ◌∙◌, ◌<◌, ℕ, sym, Option, None, Some}
use Rattle.std.specs.Prelude.{IfNone}
use Rattle.roll_epoch.specs.Ends.{counting, IsEnd, Told}
use Rattle.roll_epoch.specs.declared.marks.Ending.{Ending}
use Rattle.roll_mesh.proofs.Changes.{none_some}
use Rattle.roll_mesh.specs.declared.limits.TheConstants.{PLAYER_LIMIT}

-- where no mark counts there is no end
pub no_end : (told : Told) (settled : ℕ) → ((p : ℕ) → p < PLAYER_LIMIT → counting told settled p ≡ None)
    → (e : Ending) → IsEnd told settled e → ⊥
no_end told settled none e end = none_some end.marked (sym (none e.player end.inside) ∙ end.counts)

pub none_so : {X : Type 0} {A B : Type 0} (o : Option X) → (A → B) → IfNone o A → IfNone o B
none_so None f h = f h
none_so (Some x) f h = tt
