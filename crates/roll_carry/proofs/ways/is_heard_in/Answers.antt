use Rattle.std.proofs.Common.{◌≡◌, ◌<◌, length, sym, ap, arith, ◌∙◌, true}
use Rattle.std.specs.Prelude.{not, ◌&&◌}
use Rattle.roll_carry.specs.Ways.{hears, is_heard_in}
use Rattle.roll_mesh.specs.Machines.{is_in}
use Rattle.roll_mesh.proofs.Places.{all_places, not_all_places}
use Rattle.roll_carry.proofs.ways.is_heard_in.Goals as goal

pub returns-then-hears : goal.returns-then-hears
unfolding is_heard_in
returns-then-hears c =
    let inside : c.loop-other.other < length c.args.set.now = omega arith in
    let both : (is_in c.args.set.now c.loop-other.other && hears c.args.lines.now c.loop-other.other c.args.machine) ≡ true =
    rw (c.if-set-other.true) (sym c.hears.ensures ∙ c.if-hears.true) in
    ap not (not_all_places (λ m. not (is_in c.args.set.now m && hears c.args.lines.now m c.args.machine))
    c.args.set.now c.loop-other.other inside (ap not both))

pub returns : goal.returns
unfolding is_heard_in
returns c =
    ap not (all_places (λ m. not (is_in c.args.set.now m && hears c.args.lines.now m c.args.machine))
    c.args.set.now c.loop-other.other (omega arith) (λ m h. ap not (c.loop-other.invariant m h)))
