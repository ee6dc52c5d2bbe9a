use Rattle.std.proofs.Common.{◌≡◌, ◌≤◌, true, false, subst, length}
use Rattle.std.proofs.lemmas.List.Elements.{All-map}
use Rattle.std.specs.Prelude.{All}
use Rattle.roll_frame.specs.Timeline.{Player}
use Rattle.roll_inputs.specs.Boards.{Inputs}
use Rattle.roll_inputs.specs.Queues.{Known}
use Rattle.roll_inputs.proofs.board.Board.laws.Goals as goal

pub returns-clause-ahead : goal.returns-clause-ahead
returns-clause-ahead c =
    let i = c.self.inside in
    subst (λ (k : Inputs). All (λ (p : Player). p.gone ≡ false → k.settled ≤ length p.words) k.players) c.self.view_is
    (All-map (λ (p : Player). p.gone ≡ false → i.settled ≤ length p.words) (λ (q : Known). q.player) i.queues.items (λ k d h. (c.self.invariant.in_step k d h).ahead))

pub returns-clause-stays : goal.returns-clause-stays
returns-clause-stays c =
    let i = c.self.inside in
    subst (λ (k : Inputs). All (λ (p : Player). p.local ≡ true → p.gone ≡ false) k.players) c.self.view_is
    (All-map (λ (p : Player). p.local ≡ true → p.gone ≡ false) (λ (q : Known). q.player) i.queues.items (λ k d h. (c.self.invariant.in_step k d h).stays))
