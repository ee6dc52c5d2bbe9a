use Rattle.std.proofs.Common.{◌≡◌, take}
use Rattle.roll_guess.specs.Parts.{bits_left}
use Rattle.roll_guess.proofs.parts.WordParts.rest.Given as goal

abbrev pub invariant-loop-mask : goal.invariant-loop-mask
invariant-loop-mask l = l.left ≡ bits_left (take l.mask-index l.mask-items)
