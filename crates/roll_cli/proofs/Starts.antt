-- A roll can't have started past its end.
use Rattle.std.proofs.Common.{◌≡◌, ◌≤◌, ◌&&◌, List, [], ◌∷◌, true, inl, inr, nat_eq, nat_le}
use Rattle.std.specs.List.{list_any}
use Rattle.std.proofs.lemmas.Bool.{false≢true, or_cases, and_parts, leb-true}
use Rattle.roll_frame.specs.declared.path.Path.{Path}
use Rattle.roll_frame.specs.declared.claim.Claim.{Claim}
use Rattle.roll_frame.specs.Claims.{is_start, target_of}
use Rattle.roll_frame.specs.Order.{frames_of}
use Rattle.roll_frame.specs.Paths.{begins_with}

pub start_within : (claim : Claim) (paths : List Path) → list_any (is_start claim) paths ≡ true → claim.from ≤ target_of claim
start_within claim [] h = absurd (false≢true h)
start_within claim (path ∷ paths) h =
    elim (or_cases (is_start claim path) (list_any (is_start claim) paths) h) [
      | inl here ↦
          let parts = and_parts (nat_eq (frames_of path) claim.from && nat_le claim.from (target_of claim)) (begins_with claim.time path.rows.items) here in
          leb-true claim.from (target_of claim) (and_parts (nat_eq (frames_of path) claim.from) (nat_le claim.from (target_of claim)) parts.0).1
      | inr there ↦ start_within claim paths there
    ]
