-- What C sees of a viewer's line, and the numbers of why no end is opened, and of why bytes aren't heard.
use Rattle.std.specs.Prelude.{◌≡◌, ℕ, ◌⊎◌, ◌≤◌, slice_index}
use Rattle.roll_viewer.specs.declared.refusal.LineFault.{LineFault}
use Rattle.roll_viewer.specs.declared.refusal.LineFault.TheVariants.{Host, Machines, NoDraw, NoMemory}
use Rattle.roll_viewer.specs.declared.refusal.LineRefusal.{LineRefusal}
use Rattle.roll_viewer.specs.declared.refusal.LineRefusal.TheVariants.{Ended, Gap, Mismatched, NoDatagram, NoRows, NotSealed, Stranger}
use Rattle.roll_viewer.specs.declared.settings.LineSettings.{LineSettings}
use Rattle.fazgrond_c.specs.declared.line_kinds.LineIn.{LineIn}

-- the line that was given
pub record AreTold (given : LineIn) (settings : LineSettings) : Type 0 where
  pub number : settings.number ≡ given.number
  pub draw : settings.draw ≡ given.draw
  pub host : settings.host ≡ given.host
  pub machines : settings.machines ≡ given.machines
  pub owners : settings.owners ≡ given.owners
  pub digest : settings.digest ≡ given.digest
  pub opening : settings.opening ≡ given.opening
  pub silent_after : settings.silent_after ≡ given.silent_after

-- a number of it has no room in 8 bits
abbrev pub HasNoRoom : LineIn → Type 0
HasNoRoom given =
    (256 ≤ given.host) ⊎ ((256 ≤ given.machines) ⊎ ((p : ℕ) × (256 ≤ slice_index given.owners p)))

abbrev pub code_of_fault : LineFault → ℕ
code_of_fault NoDraw = 11
code_of_fault Machines = 303
code_of_fault Host = 303
code_of_fault NoMemory = 107

abbrev pub code_of_line : LineRefusal → ℕ
code_of_line NotSealed = 301
code_of_line (NoDatagram fault) = 302
code_of_line (Mismatched field) = 306
code_of_line Ended = 308
code_of_line Stranger = 309
code_of_line NoRows = 310
code_of_line Gap = 311
