-- The number of the next epoch tells the number of the one before, where that ended, by which mark, and where players had left.
use Rattle.std.specs.Prelude.{◌≡◌, ℕ, List, ◌++◌, Option}
use Rattle.std.specs.Int.{w32, w64, to_be_bytes}
use Rattle.sha2.specs.Sha256.{sha256}
use Rattle.roll_wire.specs.Spelling.{mark, IsLong, IsMark, IsNumber}
use Rattle.roll_epoch.specs.Ids.{first_number, leavings, next_id}
use Rattle.roll_epoch.specs.Laws.{LeftAlike}
use Rattle.roll_epoch.specs.Successions.{successor}
use Rattle.roll_epoch.specs.declared.marks.Ending.{Ending}
use Rattle.roll_epoch.specs.declared.terms.Terms.{Terms}

-- the bytes whose digest begins with the number of the next epoch
abbrev pub message_of : ℕ → Ending → List (Option ℕ) → List ℕ
message_of id e left = to_be_bytes w64 id ++ (to_be_bytes w32 e.frame ++ (mark e.mark ++ leavings e.frame left))

-- two texts aren't different ones whose digests begin with the same number
abbrev pub HasNoCollision : List ℕ → List ℕ → Type 0
HasNoCollision x y = first_number (sha256 x) ≡ first_number (sha256 y) → x ≡ y

-- an epoch and its end whose numbers fit into their bytes, and whose mark has a spelling
pub record IsSaid (terms : Terms) (e : Ending) : Type 0 where
  pub id : IsLong terms.id
  pub frame : IsNumber e.frame
  pub mark : IsMark e.mark

-- two epochs of one number, which ended at one frame by one mark, and where players left before that is the same; and if they opened
-- alike too, so do the next ones
pub record HaveOneNext (one other : Terms) (e f : Ending) (left others : List (Option ℕ)) : Type 0 where
  pub id : one.id ≡ other.id
  pub frame : e.frame ≡ f.frame
  pub mark : e.mark ≡ f.mark
  pub places : LeftAlike e.frame left others
  pub next : one ≡ other → successor one e left ≡ successor other f others

-- two epochs of which the next ones have one number ended alike, and had one number themselves
abbrev pub OfOneNumberOneNext : Type 0
OfOneNumberOneNext =
    (one other : Terms) (e f : Ending) (left others : List (Option ℕ)) → IsSaid one e → IsSaid other f
    → HasNoCollision (message_of one.id e left) (message_of other.id f others)
    → next_id one.id e left ≡ next_id other.id f others
    → HaveOneNext one other e f left others
