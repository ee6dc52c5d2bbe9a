use Rattle.std.proofs.Common.{◌≡◌, ◌≤◌, ◌+◌, ℕ, false}
use Rattle.roll_member.proofs.Leading.{IsReady}
use Rattle.roll_member.proofs.Taking.{remaining}
use Rattle.roll_member.specs.Taking.{is_first, shares, Hearing, KeepsPlayers, TakesAll}
use Rattle.roll_session.specs.Headline.{words_of}
use Rattle.roll_member.proofs.words.take_all.Given as goal

abbrev pub invariant-loop-place : goal.invariant-loop-place
invariant-loop-place g l =
    let h : Hearing = record {
      input = l.seat.words;
      offers = l.offers;
      words = shares l.offers l.words;
      has = l.has;
      most = l.most;
    } in
    record {
      rest : l.rest ≡ remaining l.place l.offers l.words;
      taken : TakesAll g.S.Networked.step h (g.S.Networked.seen l.fn.session) l.place
          (g.S.Networked.seen l.session) l.led l.refusal;
      later : (q : ℕ) → l.place ≤ q → words_of (g.S.Networked.seen l.session) (q + 1)
          ≡ words_of (g.S.Networked.seen l.fn.session) (q + 1);
      players : KeepsPlayers (g.S.Networked.seen l.fn.session) (g.S.Networked.seen l.session);
      ready : is_first l.seat.words l.place ≡ false
          → IsReady h (g.S.Networked.seen l.session) l.place l.led;
      keeps : g.S.Networked.keeps l.fn.session l.session;
    }
