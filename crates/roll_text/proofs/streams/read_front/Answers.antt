use Rattle.std.proofs.Common.{◌+◌, ◌++◌, ◌≤◌, take, length, arith, refl}
use Rattle.std.proofs.lemmas.Grind.{common_steps}
use Rattle.roll_text.specs.declared.streams.TheConstants.{TEXT_LIMIT}
use Rattle.roll_text.proofs.KnownTexts.{consumes_more, refused}
use Rattle.roll_text.proofs.streams.read_front.Goals as goal

pub returns-in_err-extend_from_slice-clause-err : goal.returns-in_err-extend_from_slice-clause-err
returns-in_err-extend_from_slice-clause-err g c =
    let size : length (c.loop-buffer.text.items ++ take c.in-Ok.count c.read.new.buf) ≤ TEXT_LIMIT + 1 = grind (arith, common_steps) in
    refused _ _ _ _ c.from_residual-in_err-extend_from_slice.ensures.1
    (consumes_more _ _ _ _ _ _ c.loop-buffer.invariant.taken c.in-Ok.ensures.bytes.0 refl) size
