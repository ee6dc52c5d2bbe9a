use Rattle.std.proofs.Common.{◌∙◌, ap}
use Rattle.roll_mesh.specs.Meshes.{Seated}
use Rattle.roll_chain.specs.Judging.{told_by}
use Rattle.roll_chain.specs.Rows.{lefts, rows_known}
use Rattle.roll_chain.proofs.Ends.{no_end, none_so}
use Rattle.roll_chain.proofs.chain.Chain.end.Goals as goal

pub returns-clause-none : goal.returns-clause-none
returns-clause-none c =
    let none = rw (
      c.counted_marks.ensures,
      c.lefts.ensures ∙ ap (λ (m : Seated). lefts m) c.mesh-mesh.ensures,
      c.rows_known.ensures ∙ ap (λ (m : Seated). rows_known m) c.mesh-mesh.ensures,
    ) at c.end.ensures.none in
    none_so c.end.result
    (λ counts e ending. no_end (told_by c.args.self.now c.args.peer.now) (rows_known c.args.peer.now.member.mesh) counts e ending.end)
    none
