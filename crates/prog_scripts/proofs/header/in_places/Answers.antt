use Rattle.std.proofs.Common.{◌∙◌, ◌++◌, length, drop, replicate, ap}
use Rattle.roll_frame.specs.declared.limits.TheConstants.{PLAYER_LIMIT}
use Rattle.prog_scripts.proofs.Headings.{placed}
use Rattle.prog_scripts.proofs.header.in_places.Goals as goal

pub returns : goal.returns
returns c =
    ap (λ front. front ++ drop (length c.args.numbers.now) (replicate PLAYER_LIMIT c.args.rest)) c.copy_from_slice.ensures.after
    ∙ placed c.args.rest c.args.numbers.now c.requires
