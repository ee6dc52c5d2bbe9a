use Rattle.std.proofs.Common.{◌∙◌, sym}
use Rattle.roll_member.proofs.Again.{confirmed_in, given_is, last_again}
use Rattle.roll_member.proofs.seam.given_at.Goals as goal

pub returns-in-Some : goal.returns-in-Some
returns-in-Some g c =
    let s = g.S.Networked.seen c.args.session.now in
    given_is s c.args.place c.args.frame c.in-Some.word
    (sym (confirmed_in s c.args.place c.args.frame) ∙ sym c.confirmed_word.ensures ∙ c.in-Some.is)

pub returns-in-None : goal.returns-in-None
returns-in-None g c =
    let s = g.S.Networked.seen c.args.session.now in
    c.last_before.ensures ∙ last_again s c.args.place c.args.frame c.count_at.result c.count_at.ensures
    (sym (confirmed_in s c.args.place c.args.frame) ∙ sym c.confirmed_word.ensures ∙ c.in-None.is)
