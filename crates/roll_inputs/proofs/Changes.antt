-- A change of one player's queue: when it is accepted, and what it leaves.
use Rattle.std.proofs.Common.{◌≡◌, ◌≢◌, ℕ, ◌+◌, ◌-◌, ◌^◌, ◌<◌, ◌≤◌, zero, suc, List, [], ◌∷◌, ◌++◌, length, get_or, set, refl, true, false, not, Some, None, ap, sym, ◌∙◌, subst, arith, length-append}
use Rattle.std.proofs.lemmas.Bool.{false≢true, not-true, not-false, leb-false, eqb-false}
use Rattle.std.proofs.Math.Seq.{map-set_same}
use Rattle.std.proofs.lemmas.List.{map-set, length-map}
use Rattle.std.proofs.lemmas.Option.{get_or_from_slice_get}
use Rattle.roll_frame.specs.declared.limits.TheConstants.{QUEUE_LIMIT, DELAY_LIMIT}
use Rattle.roll_frame.specs.Inputs.{player_at, changed, with_words, with_given, with_gone, local_tests, remote_tests, disconnect_tests}
use Rattle.roll_frame.specs.Refusals.{first_refusal}
use Rattle.roll_frame.specs.Timeline.{Player, cell_at, row_at, timeline}
use Rattle.roll_frame.proofs.Refused.{all_fail}
use Rattle.roll_inputs.specs.Boards.{Inputs, IsBoard, IsInStep, KeepsCells, players_of}
use Rattle.roll_inputs.specs.Queues.{Known}
use Rattle.roll_inputs.proofs.Players.{found, of_player_at, is_at, changed_at, queue_is, change_keeps, KeepsWords}
use Rattle.roll_inputs.proofs.Steps.{set_keeps}

-- what holds where a local word, a remote word and a disconnect are accepted
pub record MayGive (players : List Player) (frame threshold limit p : ℕ) : Type 0 where
  pub player : Player
  pub at : player_at players p ≡ Some player
  pub local : player.local ≡ true
  pub new : player.given ≡ false
  pub early : frame ≢ limit

pub record MayTell (players : List Player) (base p f : ℕ) : Type 0 where
  pub player : Player
  pub at : player_at players p ≡ Some player
  pub remote : player.local ≡ false
  pub there : player.gone ≡ false
  pub room : length player.words - base < QUEUE_LIMIT

pub record MayLeave (players : List Player) (p : ℕ) : Type 0 where
  pub player : Player
  pub at : player_at players p ≡ Some player
  pub remote : player.local ≡ false
  pub there : player.gone ≡ false

pub may_give : (players : List Player) (frame threshold limit p : ℕ) → first_refusal (local_tests players frame threshold limit p) ≡ None → MayGive players frame threshold limit p
may_give players frame threshold limit p e =
    let tests = all_fail (local_tests players frame threshold limit p) e in
    let x = found (λ player. player.local) players p (not-false _ tests.0) in
    record {
      player = x.0;
      at = x.1;
      local = x.2;
      new = sym (of_player_at (λ player. player.given) players p x.0 x.1) ∙ tests.1.0;
      early = eqb-false frame limit tests.1.1.1.0;
    }

pub may_tell : (players : List Player) (base p f : ℕ) → first_refusal (remote_tests players base p f) ≡ None → MayTell players base p f
may_tell players base p f e =
    let tests = all_fail (remote_tests players base p f) e in
    let x = found (λ player. not player.local) players p (not-false _ tests.0) in
    record {
      player = x.0;
      at = x.1;
      remote = not-true x.0.local x.2;
      there = sym (of_player_at (λ player. player.gone) players p x.0 x.1) ∙ tests.1.0;
      room = leb-false _ _ (sym (of_player_at _ players p x.0 x.1) ∙ tests.1.1.1.1.0);
    }

pub may_leave : (players : List Player) (p : ℕ) → first_refusal (disconnect_tests players p) ≡ None → MayLeave players p
may_leave players p e =
    let tests = all_fail (disconnect_tests players p) e in
    let x = found (λ player. not player.local) players p (not-false _ tests.0) in
    record {
      player = x.0;
      at = x.1;
      remote = not-true x.0.local x.2;
      there = sym (of_player_at (λ player. player.gone) players p x.0 x.1) ∙ tests.1.0;
    }

-- rows that are the same one by one are the same together
pub same_rows : (players others : List Player) (m : ℕ) → ((t : ℕ) → t < m → row_at others t ≡ row_at players t) → timeline others m ≡ timeline players m
same_rows players others zero same = refl
same_rows players others (suc m) same = λ i. same_rows players others m (λ t h. same t (omega arith)) i ++ same m (omega arith) i ∷ []

-- the rows below a frame that the player has confirmed stay
pub change_rows : (change : Player → Player) (players : List Player) (p m : ℕ) (x : Player) → KeepsWords change → player_at players p ≡ Some x → m ≤ length x.words → timeline (changed change players p) m ≡ timeline players m
change_rows change players p m x keeps e confirmed =
    let at = is_at players p x e in
    same_rows players (changed change players p) m (λ t before.
    rw (changed_at change players p x e) (map-set_same (cell_at t) players (p - 1) (change x) x (keeps t x (omega arith) ∙ ap (cell_at t) (sym (get_or_from_slice_get players (p - 1) x x at.there)))))

-- the queue of player p, who is x, became another
pub record IsChange (change : Player → Player) (queues : List Known) (p i : ℕ) (x : Player) (old new : Known) : Type 0 where
  pub at : player_at (players_of queues) p ≡ Some x
  pub place : i ≡ p
  pub old_is : old ≡ get_or queues (i - 1) old
  pub new_is : new ≡ record { player = change old.player; from = old.from }

module _ (change : Player → Player) (queues : List Known) (p i : ℕ) (x : Player) (old new : Known) (h : IsChange change queues p i x old new) where
  pub change-within : i - 1 < length queues
  change-within = let at = is_at (players_of queues) p x h.at in omega (arith, at.within, length-map queues (λ (q : Known). q.player), h.place)

  pub change-old : old.player ≡ x
  change-old = queue_is queues p x old h.at (subst (λ (k : ℕ). old ≡ get_or queues (k - 1) old) h.place h.old_is) (subst (λ (k : ℕ). k - 1 < length queues) h.place change-within)

  pub change-players : players_of (set queues (i - 1) new) ≡ changed change (players_of queues) p
  change-players =
      map-set (λ (q : Known). q.player) queues (i - 1) new
      ∙ (ap (set (players_of queues) (i - 1)) (ap (λ (q : Known). q.player) h.new_is ∙ ap change change-old)
      ∙ (ap (λ (k : ℕ). set (players_of queues) (k - 1) (change x)) h.place
      ∙ sym (changed_at change (players_of queues) p x h.at)))

  pub change-cells : KeepsWords change → KeepsCells (players_of queues) (players_of (set queues (i - 1) new)) p
  change-cells keeps = subst (λ (ps : List Player). KeepsCells (players_of queues) ps p) (sym change-players) (change_keeps change (players_of queues) p x keeps h.at)

  pub change-rows : (m : ℕ) → KeepsWords change → m ≤ length old.player.words → timeline (players_of (set queues (i - 1) new)) m ≡ timeline (players_of queues) m
  change-rows m keeps confirmed =
      ap (λ (ps : List Player). timeline ps m) change-players
      ∙ change_rows change (players_of queues) p m x keeps h.at (subst (λ (y : Player). m ≤ length y.words) change-old confirmed)

  pub change-step : (settled frame threshold limit : ℕ) → IsBoard queues frame settled threshold limit → IsInStep settled frame limit old
  change-step settled frame threshold limit b = subst (IsInStep settled frame limit) (sym h.old_is) (b.in_step (i - 1) old change-within)

  pub change-board : (frame settled threshold limit : ℕ) → IsBoard queues frame settled threshold limit → (change old.player).local ≡ old.player.local → IsInStep settled frame limit (record { player = change old.player; from = old.from }) → IsBoard (set queues (i - 1) new) frame settled threshold limit
  change-board frame settled threshold limit b local step =
      set_keeps queues (i - 1) old new frame settled threshold limit b change-within h.old_is (ap (λ (q : Known). q.player.local) h.new_is ∙ local) (subst (IsInStep settled frame limit) (sym h.new_is) step)

-- what callers see of a board with these queues
abbrev pub seen : ℕ → ℕ → ℕ → ℕ → List Player → Inputs
seen frame settled threshold limit players = record { players = players; frame = frame; settled = settled; threshold = threshold; limit = limit }

-- a local player has words of the delay and of the frames, of which few are past the settled one
pub own_few : (settled frame threshold limit : ℕ) (queues : List Known) (q : Known) → IsBoard queues frame settled threshold limit → IsInStep settled frame limit q → q.player.local ≡ true → q.player.given ≡ false → length q.player.words ≤ settled + 24
own_few settled frame threshold limit queues q b step local given =
    let most : length q.player.words ≤ frame + DELAY_LIMIT + 0 = rw given at (step.own local) in
    omega (arith, b.window, b.narrow)

-- a queue that takes one more word
pub record CanTake (q : Known) : Type 0 where
  pub ahead : q.from ≤ length q.player.words
  pub room : length q.player.words < q.from + QUEUE_LIMIT
  pub fits : length q.player.words + 1 < 2 ^ 32

pub can_take : (settled frame threshold limit : ℕ) (queues : List Known) (q : Known) → IsBoard queues frame settled threshold limit → IsInStep settled frame limit q → q.player.gone ≡ false → length q.player.words - settled < QUEUE_LIMIT → CanTake q
can_take settled frame threshold limit queues q b step there room = record {
  ahead = omega (arith, step.from, step.ahead there);
  room = omega (arith, step.from, step.ahead there, room);
  fits = omega (arith, step.ahead there, room, b.reached, b.within, b.short);
}

pub give_step : (settled frame limit word : ℕ) (q : Known) → IsInStep settled frame limit q → length q.player.words ≤ settled + 24 → q.player.local ≡ true → q.player.given ≡ false → frame < limit → IsInStep settled frame limit (record { player = with_given word q.player; from = q.from })
give_step settled frame limit word q step few local given early =
    let more : length (q.player.words ++ word ∷ []) ≡ length q.player.words + 1 = length-append q.player.words (word ∷ []) in
    let most : length q.player.words ≤ frame + DELAY_LIMIT + 0 = rw given at (step.own local) in
    record {
      from = step.from;
      ahead = λ there. omega (arith, more, step.ahead there);
      few = omega (arith, more, few);
      stays = step.stays;
      own = λ here. omega (arith, more, most);
      early = λ now. early;
    }

pub hear_step : (settled frame limit word : ℕ) (q : Known) → IsInStep settled frame limit q → length q.player.words - settled < QUEUE_LIMIT → q.player.local ≡ false → IsInStep settled frame limit (record { player = with_words (word ∷ []) q.player; from = q.from })
hear_step settled frame limit word q step room remote =
    let more : length (q.player.words ++ word ∷ []) ≡ length q.player.words + 1 = length-append q.player.words (word ∷ []) in
    record {
      from = step.from;
      ahead = λ there. omega (arith, more, step.ahead there);
      few = omega (arith, more, step.few);
      stays = step.stays;
      own = λ here. absurd (false≢true (sym remote ∙ here));
      early = step.early;
    }

pub leave_step : (settled frame limit : ℕ) (q : Known) → IsInStep settled frame limit q → q.player.local ≡ false → IsInStep settled frame limit (record { player = with_gone q.player; from = q.from })
leave_step settled frame limit q step remote = record {
  from = step.from;
  ahead = λ there. absurd (false≢true (sym there));
  few = step.few;
  stays = λ here. absurd (false≢true (sym remote ∙ here));
  own = λ here. absurd (false≢true (sym remote ∙ here));
  early = step.early;
}
