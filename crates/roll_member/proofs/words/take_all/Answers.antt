use Rattle.std.proofs.Common.{◌≡◌, ◌⊎◌, ◌∙◌, ◌<◌, List, ℕ, ◌+◌, suc, length, take, drop, [], refl, ap, sym, subst, arith, inl, inr, true, false}
use Rattle.std.specs.Prelude.{slice_index, slice_index_or}
use Rattle.std.proofs.lemmas.Bool.{cases_Bool}
use Rattle.std.proofs.lemmas.List.{length-take}
use Rattle.roll_mesh.specs.Machines.{none_offered}
use Rattle.roll_member.specs.Taking.{is_first, news, news_at, shares, Hearing, TakesAll, TakesPlace}
use Rattle.roll_member.specs.declared.words.Took.{Took}
use Rattle.roll_member.proofs.Leading.{can_follow, ready_lead, ready_more, IsReady}
use Rattle.roll_member.proofs.Inputs.{no_first_before}
use Rattle.roll_member.proofs.Taking.{keeps_more, keeps_none, later_words, offered, placed, remaining, remaining_next, share_at}
use Rattle.roll_member.proofs.words.take_all.Goals as goal

pub loop-place-init : goal.loop-place-init
loop-place-init g c = record {
  rest = refl;
  taken = (refl, refl);
  later = λ q le. refl;
  players = keeps_none (g.S.Networked.seen c.args.session.now);
  ready = λ other. absurd (no_first_before c.args.seat.now.words c.requires.fair.word other);
  keeps = g.S.Networked.keeps_itself c.args.session.now;
}

pub take_place-took-requires-clause-next : goal.take_place-took-requires-clause-next
take_place-took-requires-clause-next g c = λ some.
    let p = c.loop-place.place in
    let offers = c.args.offers.now in
    let words = c.args.words.now in
    let h : Hearing = record {
      input = c.args.seat.now.words;
      offers = offers;
      words = shares offers words;
      has = c.args.has.now;
      most = c.args.most.now;
    } in
    let lt : p < length offers = omega (arith, c.loop-place-test.true, c.loop-place.auto.place-end, c.told-offers) in
    let within : p < 8 = omega (arith, c.loop-place-test.true, c.loop-place.auto.place-end) in
    let mine : c.share.result.0.now ≡ slice_index_or (shares offers words) p [] =
    c.share.ensures.mine ∙ ap (λ ws. take (offered offers p) ws) c.loop-place.invariant.rest ∙ sym (share_at p offers words lt) in
    let is : c.news-news.result.now ≡ news_at h p =
    c.news-news.ensures ∙ ap (λ ws. news (slice_index_or offers p none_offered) ws (slice_index c.args.has.now p)
    (slice_index c.args.most.now p)) mine in
    c.requires.fair.next p within (omega (arith, some, ap (λ (ws : List ℕ). length ws) is))
    ∙ ap (λ (ws : List ℕ). length ws) (sym (c.loop-place.invariant.later p (omega arith)))

pub take_place-took-requires-clause-can : goal.take_place-took-requires-clause-can
take_place-took-requires-clause-can g c = λ other.
    let p = c.loop-place.place in
    let old = g.S.Networked.seen c.args.session.now in
    let mid = g.S.Networked.seen c.loop-place.session in
    let offers = c.args.offers.now in
    let words = c.args.words.now in
    let h : Hearing = record {
      input = c.args.seat.now.words;
      offers = offers;
      words = shares offers words;
      has = c.args.has.now;
      most = c.args.most.now;
    } in
    let now = c.loop-place.invariant in
    let lt : p < length offers = omega (arith, c.loop-place-test.true, c.loop-place.auto.place-end, c.told-offers) in
    let within : p < 8 = omega (arith, c.loop-place-test.true, c.loop-place.auto.place-end) in
    let mine : c.share.result.0.now ≡ slice_index_or (shares offers words) p [] =
    c.share.ensures.mine ∙ ap (λ ws. take (offered offers p) ws) now.rest ∙ sym (share_at p offers words lt) in
    let is : c.news-news.result.now ≡ news_at h p =
    c.news-news.ensures ∙ ap (λ ws. news (slice_index_or offers p none_offered) ws (slice_index c.args.has.now p)
    (slice_index c.args.most.now p)) mine in
    let can = can_follow g.S.Networked.step h old mid c.requires.fair now.players p c.loop-place.led within now.later
    (now.ready other) in
    (omega (arith, can.0, ap (λ (ws : List ℕ). length ws) is), can.1)

pub loop-place-preserved : goal.loop-place-preserved
loop-place-preserved g c =
    let step = g.S.Networked.step in
    let p = c.loop-place.place in
    let old = g.S.Networked.seen c.args.session.now in
    let mid = g.S.Networked.seen c.loop-place.session in
    let new = g.S.Networked.seen c.take_place-took.new.session in
    let offers = c.args.offers.now in
    let words = c.args.words.now in
    let has = slice_index c.args.has.now p in
    let most = slice_index c.args.most.now p in
    let led = c.loop-place.led in
    let took = c.take_place-took.result in
    let h : Hearing = record {
      input = c.args.seat.now.words;
      offers = offers;
      words = shares offers words;
      has = c.args.has.now;
      most = c.args.most.now;
    } in
    let lt : p < length offers = omega (arith, c.loop-place-test.true, c.loop-place.auto.place-end, c.told-offers) in
    let within : p < 8 = omega (arith, c.loop-place-test.true, c.loop-place.auto.place-end) in
    let on : suc p ≡ p + 1 = omega arith in
    let now = c.loop-place.invariant in
    let fair = c.requires.fair in
    let mine : c.share.result.0.now ≡ slice_index_or (shares offers words) p [] =
    c.share.ensures.mine ∙ ap (λ ws. take (offered offers p) ws) now.rest ∙ sym (share_at p offers words lt) in
    let is : c.news-news.result.now ≡ news_at h p =
    c.news-news.ensures ∙ ap (λ ws. news (slice_index_or offers p none_offered) ws has most) mine in
    let place : TakesPlace step h.input p has led (news_at h p) mid new took =
    subst (λ ws. TakesPlace step h.input p has led ws mid new took) is c.take_place-took.ensures.took in
    let ready = λ (other : is_first h.input p ≡ false).
    can_follow step h old mid fair now.players p led within now.later (now.ready other) in
    let at = placed step h p has led (news_at h p) mid new took (λ other. (ready other).0) place in
    let go : is_first h.input (p + 1) ≡ false → (is_first h.input p ≡ true) ⊎ (is_first h.input p ≡ false)
    → IsReady h new (p + 1) took.count = λ other which. elim which [
      | inl first ↦ ready_lead step h old mid fair now.players p took.count within new first other at.few
          (c.take_place-took.ensures.leads first)
      | inr follows ↦ (let f = place.follow follows in
          let many : length (take led (news_at h p)) ≡ led =
          omega (arith, length-take led (news_at h p), (ready follows).0) in
          subst (λ n. IsReady h new (p + 1) n) (sym (ap (λ (o : Took). o.count) f.1))
          (ready_more step h old mid fair now.players p led within new (take led (news_at h p)) other
          c.laws.ensures (now.ready follows) f.0 many))
    ] in
    record {
      rest = c.share.ensures.others ∙ ap (λ ws. drop (offered offers p) ws) now.rest
          ∙ sym (remaining_next p offers words lt) ∙ ap (λ n. remaining n offers words) on;
      taken = subst (λ n. TakesAll step h old n new took.count c.or-refusal.result) on
          (mid, c.loop-place.refusal, took, led, now.taken, place, refl, c.or-refusal.ensures);
      later = later_words h old mid new p led (news_at h p) took now.later at;
      players = keeps_more old mid new now.players at.players;
      ready = λ other. go other (cases_Bool (is_first h.input p));
      keeps = g.S.Networked.keeps_on c.args.session.now c.loop-place.session c.take_place-took.new.session
          now.keeps c.take_place-took.ensures.keeps;
    }

pub returns-clause-took : goal.returns-clause-took
returns-clause-took g c =
    let all : c.loop-place.place ≡ 8 = omega arith in
    let h : Hearing = record {
      input = c.args.seat.now.words;
      offers = c.args.offers.now;
      words = shares c.args.offers.now c.args.words.now;
      has = c.args.has.now;
      most = c.args.most.now;
    } in (
      c.loop-place.led,
      subst (λ n. TakesAll g.S.Networked.step h (g.S.Networked.seen c.args.session.now) n
          (g.S.Networked.seen c.loop-place.session) c.loop-place.led c.loop-place.refusal) all c.loop-place.invariant.taken,
    )
