-- Machines that stay together go on together, also if one of them goes on long before the other.
use Rattle.std.proofs.Common.{◌≡◌, ◌∙◌, ℕ, ◌≤◌, List, [], ◌∷◌, ◌++◌, subst}
use Rattle.roll_chain.proofs.Lasting.{left_alike_still, over_stays, stays_judged}
use Rattle.roll_chain.proofs.LaterOn.{it_is_later}
use Rattle.roll_chain.proofs.Together.{end_low, they_end_together}
use Rattle.roll_chain.specs.Judging.{told_by}
use Rattle.roll_chain.specs.Lasting.{IsLater}
use Rattle.roll_chain.specs.Rows.{lefts, rows_known}
use Rattle.roll_chain.specs.Seams.{next_terms}
use Rattle.roll_chain.specs.Together.{EndsSo, TheyGoOnAtAnyTime}
use Rattle.roll_epoch.proofs.NextLaws.{of_one_past_one_next}
use Rattle.roll_mesh.specs.Worlds.{Match}
use Rattle.roll_peer.specs.PeerWorlds.{nobody, AreSteps, PeerWorld}
use Rattle.roll_session.specs.Seen.{Step}

steps_both : (match : Match) (games : ℕ → Step) (old : PeerWorld) (xs : List PeerWorld) (mid : PeerWorld) (ys : List PeerWorld) (new : PeerWorld)
    → AreSteps match games old xs mid → AreSteps match games mid ys new → AreSteps match games old (xs ++ ys) new
steps_both match games old [] mid ys new first rest = subst (λ (w : PeerWorld). AreSteps match games w ys new) first rest
steps_both match games old (x ∷ xs) mid ys new first rest = (first.0, steps_both match games x xs mid ys new first.1 rest)

pub they_go_on_at_any_time : TheyGoOnAtAnyTime
they_go_on_at_any_time match games world later worlds i j a after b one other e f played steps ended ends_b here_after here_b terms profile comers =
    (together.0, next)
  where
    on : IsLater a.peer after.peer
    on = it_is_later match games world later worlds i a after played steps ended.ends.is ended.is

    low : e.frame ≤ rows_known a.peer.member.mesh
    low = end_low (told_by one a.peer) (rows_known a.peer.member.mesh) e ended.ends.ending.end

    ends_after : EndsSo later i after one e
    ends_after = record {
      is = ended.is;
      judged = stays_judged one a.peer after.peer on e.frame ended.voids low ended.ends.judged;
      ending = over_stays one a.peer after.peer e on ended.voids ended.ends.ending;
    }

    together : (e ≡ f) × (next_terms one after.peer e ≡ next_terms other b.peer f)
    together =
        they_end_together match games later i j after b one other e f
        (played.0 ++ worlds, steps_both match games nobody played.0 world worlds later played.1 steps) ends_after ends_b here_after here_b
        terms profile comers

    next : next_terms one a.peer e ≡ next_terms other b.peer f
    next =
        of_one_past_one_next one.terms e (lefts a.peer.member.mesh) (lefts after.peer.member.mesh)
        (left_alike_still one a.peer after.peer on e.frame ended.voids low) ∙ together.1
