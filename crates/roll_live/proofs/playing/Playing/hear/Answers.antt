use Rattle.std.proofs.Common.{◌≡◌, ◌∙◌, List, length, nat_lt, rules, subst}
use Rattle.roll_host.specs.Heard.{AreHeard}
use Rattle.roll_link.specs.declared.remote.Remote.{Remote}
use Rattle.roll_session.specs.Seen.{Seen}
use Rattle.roll_live.specs.Told.{item_reply}
use Rattle.roll_live.proofs.Replied.{replied_so}
use Rattle.roll_live.proofs.playing.Playing.hear.Goals as goal

pub returns-clause-told : goal.returns-clause-told
returns-clause-told g c =
    let old : Seen = c.args.self.now.host.session in
    let new : Seen = c.apply.new.self.host.session in
    let why = c.in_ok-refusal.refusal in
    let applied = c.in_ok-refusal.ensures.heard in
    let said : c.item_reply-said.result ≡ item_reply (nat_lt (length old.log) (length new.log)) why = search rules in (
      _,
      record {
        near = search rules;
        items = applied.0;
        refused = applied.1;
        why = why;
        heard = applied.2;
        some = applied.3;
        said = c.item_reply-said.result;
        said_is = said;
        same = λ alone. said ∙ replied_so g.G.Game.step old new c.args.item applied.1 why (subst (λ (items : List Remote). AreHeard g.G.Game.step old new items applied.1 why) alone applied.2);
        line_is = search rules;
      },
      c.in_ok-push_line.ensures.written,
    )
