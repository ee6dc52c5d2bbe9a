-- What an end says of itself, and what another has otherwise.
use Rattle.std.specs.Prelude.{◌≡◌, ℕ, ◌+◌, ◌/◌, ◌%◌, Bool, not, ◌==◌, nat_eq, Option, Some, None, if◌then◌else◌}
use Rattle.std.specs.Bool.{beq}
use Rattle.std.specs.Cmp.Lexicographic.{pointwise}
use Rattle.roll_wire.specs.declared.datagram.Hello.{Hello}
use Rattle.roll_contact.specs.declared.contact.Opening.{Opening}
use Rattle.roll_contact.specs.declared.terms.Field.{Field}
use Rattle.roll_contact.specs.declared.terms.Field.TheVariants.{Lasting, Machines, Opening as OpeningField, Owners, Settings, Words}
use Rattle.roll_contact.specs.declared.terms.Terms.{Terms}
use Rattle.roll_contact.specs.declared.terms.TheConstants.{CARRIES, LASTS}

-- the bits of an end that can carry or not, in a match that goes on in epochs or doesn't
abbrev pub abilities_of : (carries lasts : Bool) → ℕ
abilities_of carries lasts = (if carries then CARRIES else 0) + (if lasts then LASTS else 0)

-- whether a hello is of a match that goes on in epochs
abbrev pub says_lasting : Hello → Bool
says_lasting hello = (hello.abilities / LASTS) % 2 == 1

abbrev pub hello_of : Terms → Opening → ℕ → Hello
hello_of terms opening echo = record {
  machines = terms.machines;
  words = terms.words;
  owners = terms.owners;
  settings = terms.digest;
  opening = terms.opening;
  draw = opening.draw;
  echo = echo;
  patience = opening.silent_after;
  abilities = abilities_of opening.carries terms.lasts;
}

-- a hello says these terms
abbrev pub are_said : Terms → Hello → Type 0
are_said terms hello = terms ≡ record {
  machines = hello.machines;
  owners = hello.owners;
  digest = hello.settings;
  opening = hello.opening;
  words = hello.words;
  lasts = says_lasting hello;
}

-- the first field that isn't alike
abbrev pub mismatch_of : Terms → Hello → Option Field
mismatch_of terms hello =
    if not (hello.machines == terms.machines) then Some Machines
    else (if not (pointwise nat_eq hello.owners terms.owners) then Some Owners
    else (if not (hello.words == terms.words) then Some Words
    else (if not (beq (says_lasting hello) terms.lasts) then Some Lasting
    else (if not (hello.settings == terms.digest) then Some Settings
    else (if not (hello.opening == terms.opening) then Some OpeningField else None)))))
