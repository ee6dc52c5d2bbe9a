-- Who may come to a match: by a ticket that says so itself.
use Rattle.std.specs.Prelude.{ℕ, ◌+◌, ◌*◌, ◌/◌, ◌%◌, ◌==◌, ◌||◌, Bool, true, Option, None, Some}
use Rattle.roll_epoch.specs.Ids.{hash_of}
use Rattle.roll_wire.specs.declared.datagram.Newcomer.{Newcomer}
use Rattle.roll_chain.specs.declared.comers.TheConstants.{HALF}

-- a name, and before it the first half of a hash of the match's number of comers and of the name
abbrev pub ticket_for : (comers name : ℕ) → ℕ
ticket_for comers name = hash_of comers name / HALF * HALF + name

-- whether a ticket is one; where there is no such number, each is
abbrev pub is_vouched_for : (comers ticket : ℕ) → Bool
is_vouched_for comers ticket = (comers == 0) || (hash_of comers (ticket % HALF) / HALF == ticket / HALF)

-- whether whoever is to come may, if somebody is
abbrev pub is_vouched : (comers : ℕ) → Option Newcomer → Bool
is_vouched comers None = true
is_vouched comers (Some newcomer) = is_vouched_for comers newcomer.ticket
