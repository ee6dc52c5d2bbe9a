use Rattle.std.proofs.Common.{◌≡◌, List, ℕ, take, drop, refl, sym, ap, ◌∙◌}
use Rattle.std.proofs.lemmas.List.{take_min, drop_min}
use Rattle.roll_state.specs.Reading.{part_at}
use Rattle.roll_state.specs.declared.limits.TheConstants.{PIECE_LIMIT}
use Rattle.roll_state.proofs.reading.piece_of.Goals as goal

pub returns : goal.returns
unfolding part_at
returns c =
    let rest : List ℕ = c.in_ok-place.rest.now in
    let front : take PIECE_LIMIT rest ≡ c.kept.result.items =
    sym (c.kept.ensures ∙ c.split_at.ensures.front ∙ ap (λ (n : ℕ). take n rest) c.min.ensures
    ∙ take_min PIECE_LIMIT rest) in
    let back : drop PIECE_LIMIT rest ≡ c.split_at.result.1.now =
    sym (c.split_at.ensures.back ∙ ap (λ (n : ℕ). drop n rest) c.min.ensures
    ∙ drop_min PIECE_LIMIT rest) in
    rw (c.in_ok-state.ensures, c.in_ok-place.ensures, front, back) refl
