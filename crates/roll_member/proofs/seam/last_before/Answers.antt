use Rattle.std.proofs.Common.{◌∙◌, ◌-◌, ap, min, sym}
use Rattle.std.specs.Prelude.{slice_index}
use Rattle.roll_frame.specs.declared.settings.Settings.{Settings}
use Rattle.roll_member.proofs.Again.{confirmed_in, is_there, last_is, none_before}
use Rattle.roll_member.proofs.seam.last_before.Goals as goal

pub returns-then-count-eq0 : goal.returns-then-count-eq0
returns-then-count-eq0 g c =
    let s = g.S.Networked.seen c.args.session.now in
    ap (λ (x : Settings). slice_index x.before c.args.place) c.settings.ensures
    ∙ none_before s c.args.place c.args.end c.min-count.result
    (c.min-count.ensures ∙ ap (λ n. min n c.args.end) c.count_at.ensures) c.if-count-eq0.true

pub unreachable-requires : goal.unreachable-requires
unreachable-requires g c =
    let s = g.S.Networked.seen c.args.session.now in
    is_there s c.args.place c.args.end c.min-count.result
    (c.min-count.ensures ∙ ap (λ n. min n c.args.end) c.count_at.ensures) c.if-count-eq0.false
    (sym (confirmed_in s c.args.place (c.min-count.result - 1)) ∙ sym c.confirmed_word.ensures ∙ c.in-None.is)

pub returns : goal.returns
returns g c =
    let s = g.S.Networked.seen c.args.session.now in
    last_is s c.args.place c.args.end c.min-count.result c.in-Some.word
    (c.min-count.ensures ∙ ap (λ n. min n c.args.end) c.count_at.ensures) c.if-count-eq0.false
    (sym (confirmed_in s c.args.place (c.min-count.result - 1)) ∙ sym c.confirmed_word.ensures ∙ c.in-Some.is)
