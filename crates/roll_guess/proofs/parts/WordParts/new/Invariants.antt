use Rattle.std.proofs.Common.{◌≡◌, ◌≢◌, take, length, All}
use Rattle.std.specs.Prelude.{AllPairs}
use Rattle.roll_guess.specs.Parts.{AreApart}
use Rattle.roll_guess.proofs.parts.WordParts.new.Given as goal

abbrev pub invariant-loop-mask : goal.invariant-loop-mask
invariant-loop-mask l = record {
  same : l.parts.items ≡ take l.mask-index l.masks;
  count : length l.parts.items ≡ l.mask-index;
  some : All (λ mask. mask ≢ 0) l.parts.items;
  apart : AllPairs AreApart l.parts.items;
}
