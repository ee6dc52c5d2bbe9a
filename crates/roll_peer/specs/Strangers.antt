-- Hellos that came and aren't of this match.
use Rattle.std.specs.Prelude.{Bool, false, not, ◌&&◌, nat_lt}
use Rattle.roll_contact.specs.Clocks.{one_more}
use Rattle.roll_peer.specs.declared.strangers.Strangers.{Strangers}

abbrev pub no_strangers : Strangers
no_strangers = record { count = 0; told = false }

abbrev pub one_stranger_more : Strangers → Strangers
one_stranger_more strangers = record strangers { count = one_more strangers.count }

-- whether it is to be told that some came, if anything is: it is told once
abbrev pub are_to_tell : Strangers → Bool
are_to_tell strangers = not strangers.told && nat_lt 0 strangers.count
