use Rattle.std.proofs.Common.{◌≡◌, drop}
use Rattle.roll_viewer.specs.Rows.{first_of}
use Rattle.roll_viewer.proofs.rows.first_of.Given as goal

abbrev pub invariant-loop-offer : goal.invariant-loop-offer
invariant-loop-offer l = first_of (drop l.offer-index l.offers) ≡ first_of l.offers
