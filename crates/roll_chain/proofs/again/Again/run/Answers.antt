use Rattle.std.proofs.Common.{◌++◌, ◌∷◌, [], List, Bool, true, false, sym, subst}
use Rattle.roll_mesh.specs.declared.limits.TheConstants.{PLAYER_LIMIT}
use Rattle.roll_session.specs.declared.event.Call.{Call}
use Rattle.roll_session.specs.declared.event.Call.TheVariants.{Advance}
use Rattle.roll_chain.specs.Again.{words_until, ArePlayed}
use Rattle.roll_chain.proofs.Played.{performed, played_then, stopped_before}
use Rattle.roll_chain.proofs.again.Again.run.Goals as goal

pub returns-then-give_all : goal.returns-then-give_all
returns-then-give_all g c =
    let i = c.args.self.now in
    let words : List Call = words_until i.terms.now i.me (g.P.Networked.seen i.past.now) c.args.frame PLAYER_LIMIT in
    let gave : ArePlayed g.S.Plays.makes g.S.Plays.declines c.args.session.now words c.give_all.new.session true =
    subst (λ (b : Bool). ArePlayed g.S.Plays.makes g.S.Plays.declines c.args.session.now words c.give_all.new.session b) c.if-give_all.true c.give_all.ensures in
    (played_then g.S.Plays.makes g.S.Plays.declines c.args.session.now c.give_all.new.session c.make.new.self words (Advance ∷ []) c.make.result gave
    (performed g.S.Plays.makes g.S.Plays.declines c.give_all.new.session c.make.new.self Advance c.make.result c.make.ensures.made c.make.ensures.declined))

pub returns-else-give_all : goal.returns-else-give_all
returns-else-give_all g c =
    let i = c.args.self.now in
    let words : List Call = words_until i.terms.now i.me (g.P.Networked.seen i.past.now) c.args.frame PLAYER_LIMIT in
    let gave : ArePlayed g.S.Plays.makes g.S.Plays.declines c.args.session.now words c.give_all.new.session false =
    subst (λ (b : Bool). ArePlayed g.S.Plays.makes g.S.Plays.declines c.args.session.now words c.give_all.new.session b) c.if-give_all.false c.give_all.ensures in
    subst (λ (b : Bool). ArePlayed g.S.Plays.makes g.S.Plays.declines c.args.session.now (words ++ Advance ∷ []) c.give_all.new.session b) (sym c.if-give_all.false)
    (stopped_before g.S.Plays.makes g.S.Plays.declines c.args.session.now c.give_all.new.session words (Advance ∷ []) gave)
