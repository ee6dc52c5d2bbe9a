use Rattle.std.proofs.Common.{◌≡◌, ℕ, ℤ, List, Option, Some, refl, subst, sym, arith}
use Rattle.std.specs.Prelude.{IsSomeAnd, MatchOption}
use Rattle.fazgrond_c.specs.Handles.{IsNothing}
use Rattle.fazgrond_c.specs.Matches.{GoesNext, IsNextOut}
use Rattle.fazgrond_c.specs.declared.live.Live.{Live}
use Rattle.fazgrond_c.specs.declared.online.Online.{Online}
use Rattle.fazgrond_c.proofs.match_calls.next.Goals as goal

goes_next : (to : ℕ) (old new : Live) (it now : Online) (had wrote : List ℕ) (was size : ℕ) (code : ℤ) → old.network ≡ Some it
    → new.network ≡ Some now → new ≡ record old { session = new.session; network = new.network }
    → IsNextOut to old.session new.session it now had wrote was size code → GoesNext to old new had wrote was size code
goes_next to old new it now had wrote was size code is_it is_now rest out =
    subst (λ (n : Option Online). MatchOption n (IsNothing 201 old new had wrote was size code)
    (λ it. IsSomeAnd new.network (λ now. (new ≡ record old { session = new.session; network = new.network })
    × IsNextOut to old.session new.session it now had wrote was size code))) (sym is_it)
    (subst (λ (n : Option Online). IsSomeAnd n (λ now. (new ≡ record old { session = new.session; network = new.network })
    × IsNextOut to old.session new.session it now had wrote was size code)) (sym is_now) (rest, out))

pub returns-in-Some-next-clause-sent : goal.returns-in-Some-next-clause-sent
returns-in-Some-next-clause-sent c = record {
  short = λ less. absurd (omega (arith, less));
  filled = λ room. goes_next _ c.args.live.now _ c.in-Some.online _ c.args.out.now c.write.new.out c.args.size.now c.write.new.size _ c.in-Some.is refl refl
      (record {
        bytes = Some c.in-Some-next.bytes.items;
        goes = c.in-Some-next.ensures.out;
        keeps = c.in-Some-next.ensures.keeps;
        rest = (refl, refl);
        written = (refl, (c.write.ensures.bytes, c.write.ensures.size));
      });
}
