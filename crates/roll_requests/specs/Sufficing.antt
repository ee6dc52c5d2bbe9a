-- When slots are enough.
use Rattle.std.specs.Prelude.{◌≡◌, ℕ, ◌+◌, List, length, sum_by, Bool, true, false}
use Rattle.std.specs.List.{list_any}
use Rattle.slab.specs.Slab.{Slab, entries, slab_len}
use Rattle.roll_frame.specs.Settings.{open_to_branches}
use Rattle.roll_frame.specs.declared.entry.Entry.{Entry}
use Rattle.roll_frame.specs.declared.entry.Entry.TheVariants.{Graft}
use Rattle.roll_requests.specs.Asked.{Asked}
use Rattle.roll_requests.specs.Slotted.{Guessed}

abbrev pub is_graft : Entry → Bool
is_graft (Graft ticket route) = true
is_graft entry = false

abbrev pub has_graft : List Entry → Bool
has_graft log = list_any is_graft log

-- a session took in no branch, and none of its jobs is out
pub record HasNoGuesses (e : Asked) : Type 0 where
  pub none_taken : has_graft e.seen.log ≡ false
  pub none_out : slab_len e.jobs ≡ 0

-- how many slots the jobs that are out have: of each those of its states, and the one that it starts from
abbrev pub slots_of_jobs : Slab Guessed → ℕ
slots_of_jobs jobs = sum_by (λ out. length out.1.slots + 1) (entries jobs)

-- as many slots as can be needed at once: for the states that branches may fill, the threshold and two, and those of the jobs
abbrev pub most_slots : Asked → ℕ
most_slots e =
    open_to_branches e.seen.settings.profile + e.seen.settings.threshold + 2 + slots_of_jobs e.jobs
