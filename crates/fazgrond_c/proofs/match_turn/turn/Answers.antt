use Rattle.std.proofs.Common.{◌≡◌, inr, pos, Option, Some, refl, subst, sym}
use Rattle.std.specs.Prelude.{MatchOption}
use Rattle.fazgrond_c.specs.Matches.{TurnsWith}
use Rattle.fazgrond_c.specs.declared.live.Live.{Live}
use Rattle.fazgrond_c.specs.declared.online.Online.{Online}
use Rattle.fazgrond_c.proofs.match_turn.turn.Goals as goal

pub returns : goal.returns
returns c =
    let new : Live = record c.args.live.now {
      session = c.play_if_due-played.new.session;
      closing = c.begin-begun.new.closing;
      first_job = c.begin-begun.new.first_job;
      network = Some c.begin-begun.new.online;
    } in
    subst (λ (n : Option Online). MatchOption n ((pos 0 ≡ pos 201) × (new ≡ c.args.live.now) × (c.told.result ≡ c.args.out.now))
    (λ it. TurnsWith c.args.inputs.now c.args.now it c.args.live.now new c.args.out.now c.told.result (pos 0))) (sym c.in-Some.is)
    (inr (
      c.has_requests.ensures.none c.if-has_requests.false,
      record {
        mid = c.begin-begun.new.online;
        said = c.begin-begun.result;
        between = c.begin-begun.new.session;
        begins = c.begin-begun.ensures;
        played = c.play_if_due-played.result;
        plays = c.play_if_due-played.ensures;
        rest = refl;
        told = c.told.ensures;
        code_is = refl;
      },
    ))
