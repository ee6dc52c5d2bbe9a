use Rattle.std.proofs.Common.{◌≡◌, ℕ, List, Option, arith, ap, subst, ◌∙◌}
use Rattle.std.proofs.lemmas.List.FromFn.{fill_by_all}
use Rattle.roll_mesh.specs.declared.limits.TheConstants.{PLAYER_LIMIT}
use Rattle.roll_epoch.specs.Ends.{owner_of}
use Rattle.roll_epoch.specs.Seats.{absent, owner_or_absent, owners_with_absent}
use Rattle.roll_epoch.specs.Successions.{each_player}
use Rattle.roll_epoch.specs.declared.limits.TheConstants.{FREE}
use Rattle.roll_epoch.proofs.SeatLaws.{none_is_free}
use Rattle.roll_epoch.proofs.terms.Terms.owners_with_absent.Goals as goal

pub returns-clause-owners : goal.returns-clause-owners
unfolding owners_with_absent each_player
returns-clause-owners c = fill_by_all (λ (p : ℕ). owner_or_absent (absent c.args.self.now.owners) (owner_of c.args.self.now.owners p)) c.loop-player.owners PLAYER_LIMIT 0
    (omega (arith, c.loop-player.invariant.0))
    (λ k l. c.loop-player.invariant.1 k (omega arith)
    ∙ ap (λ (o : Option ℕ). owner_or_absent o (owner_of c.args.self.now.owners k)) c.absent-absent.ensures.lowest)

pub returns-clause-somebodys : goal.returns-clause-somebodys
returns-clause-somebodys c =
    λ p l is. none_is_free c.args.self.now.owners p (omega arith) l
    (subst (λ (owners : List ℕ). owner_of owners p ≡ FREE) (returns-clause-owners c) is)
