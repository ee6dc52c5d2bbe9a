use Rattle.std.proofs.Common.{◌≡◌, ◌∙◌, ◌≤◌, ap, arith, get_or, sym, true, false}
use Rattle.std.specs.Int.{is_in_range}
use Rattle.std.specs.Option.{option_map}
use Rattle.roll_frame.specs.declared.fault.SettingsFault.TheVariants.{LocalPlayerOutside}
use Rattle.roll_frame.proofs.LocalBits.{bits_more, first_outside, inside_more, range_parts, small_more}
use Rattle.roll_frame.proofs.settings.local_bits.Goals as goal

pub loop-player-preserved : goal.loop-player-preserved
loop-player-preserved c =
    let xs = c.args.local.now in
    let i = c.loop-player.player-index in
    let now = c.loop-player.invariant in
    let inside : is_in_range 1 c.args.players (get_or xs i 0) ≡ true = sym (rw (c.from.ensures, c.from-in-loop-player.ensures) at c.is_within.ensures) ∙ c.if-not-is_within.false in
    let r = range_parts c.args.players (get_or xs i 0) inside in
    let few = c.requires in
    let most : get_or xs i 0 ≤ 8 = omega (arith, r.1, few) in
    record {
      bits = λ place h. bits_more c.loop-player.bits xs i place c.loop-player-test.true r.0 most h (now.bits place h);
      small = small_more c.loop-player.bits c.args.players (get_or xs i 0) now.small r.0 r.1;
      inside = inside_more c.args.players xs i c.loop-player-test.true now.inside inside;
    }

pub returns-then-not-is_within-clause-outside : goal.returns-then-not-is_within-clause-outside
returns-then-not-is_within-clause-outside c =
    let xs = c.args.local.now in
    let i = c.loop-player.player-index in
    let out : is_in_range 1 c.args.players (get_or xs i 0) ≡ false = sym (rw (c.from.ensures, c.from-in-loop-player.ensures) at c.is_within.ensures) ∙ c.if-not-is_within.true in
    ap (option_map LocalPlayerOutside) (first_outside c.args.players xs i c.loop-player-test.true c.loop-player.invariant.inside out)
