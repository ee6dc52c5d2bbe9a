use Rattle.std.proofs.Common.{◌≡◌, ◌<◌, ◌*◌, ◌+◌, ◌-◌, ℕ, List, length, take, drop, refl, ap, ◌∙◌, arith}
use Rattle.roll_state.specs.Giving.{part_at, Giving}
use Rattle.roll_state.specs.States.{count_of, piece_of, size_of}
use Rattle.roll_state.specs.declared.limits.TheConstants.{PIECE_LIMIT}
use Rattle.roll_state.proofs.Parts.{is_part, taken_piece}
use Rattle.roll_state.proofs.giver.Giver.piece.Goals as goal

pub returns : goal.returns
returns c =
    let giver : Giving = record { name = c.self.inside.name; bytes = c.self.inside.bytes.items } in
    let place : ℕ = c.args.place in
    let start : ℕ = PIECE_LIMIT * place in
    let size : c.size.result ≡ size_of (length giver.bytes) place =
    c.size.ensures ∙ ap (λ (n : ℕ). size_of n place) c.self.invariant.all in
    let bytes : c.kept.result.items ≡ piece_of giver.bytes place =
    c.kept.ensures
    ∙ ap (λ (bs : List ℕ). take (start + c.size.result - start) (drop start bs)) c.deref.ensures.value
    ∙ taken_piece giver.bytes place start c.size.result refl size in
    let inside : place < count_of giver.name.length = omega (arith, c.count.ensures.count) in
    is_part giver place c.kept.result.items inside bytes
    ∙ ap (λ (g : Giving). part_at g place) c.self.view_is
