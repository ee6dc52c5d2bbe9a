-- The queues at the start.
use Rattle.std.proofs.Common.{◌≡◌, ◌⊎◌, ℕ, ◌<◌, ◌≤◌, length, get_or, map, true, false, None, refl, sym, ◌∙◌, subst, inl, inr, arith}
use Rattle.std.specs.Prelude.{slice_index_or, nat_lt}
use Rattle.std.proofs.lemmas.Bool.{false≢true, cases_Bool, not-false, ltb-false}
use Rattle.std.proofs.lemmas.List.Elements.{All-map}
use Rattle.std.proofs.lemmas.List.Folds.{list_any_at}
use Rattle.std.proofs.lemmas.List.FromFn.{get_or-range_with_len, length-range_with_len, length-map-range_with_len}
use Rattle.roll_frame.specs.Settings.{most_players, most_threshold, start_tests, start_refusal, places, delay_at, first_words}
use Rattle.roll_frame.specs.declared.limits.TheConstants.{DELAY_LIMIT, FRAME_LIMIT, PLAYER_LIMIT}
use Rattle.roll_frame.specs.declared.profile.Profile.{Profile}
use Rattle.roll_frame.specs.declared.profile.Profile.TheVariants.{Ggpo, Wide}
use Rattle.roll_frame.specs.declared.settings.Settings.{Settings}
use Rattle.roll_frame.proofs.FirstWords.{long_first}
use Rattle.roll_frame.proofs.Refused.{in_range, all_fail}
use Rattle.roll_inputs.specs.Boards.{IsBoard, IsInStep, first_known}
use Rattle.roll_inputs.specs.Queues.{Known}
use Rattle.roll_inputs.proofs.Steps.{list_any-map}

most_of : (profile : Profile) → (most_players profile ≤ PLAYER_LIMIT) × (most_threshold profile ≤ most_threshold Wide)
most_of Ggpo = (omega arith, omega arith)
most_of Wide = (omega arith, omega arith)

pub short_delays : (settings : Settings) → start_refusal settings ≡ None → (place : ℕ) → place < settings.players → delay_at settings place ≤ DELAY_LIMIT
short_delays settings e place within = by_test (cases_Bool (nat_lt DELAY_LIMIT (delay_at settings place)))
  where
    here : get_or (places settings) place 0 ≡ place
    here = get_or-range_with_len 0 settings.players place 0 within ∙ omega arith

    by_test : (nat_lt DELAY_LIMIT (delay_at settings place) ≡ true) ⊎ (nat_lt DELAY_LIMIT (delay_at settings place) ≡ false) → delay_at settings place ≤ DELAY_LIMIT
    by_test (inr short) = ltb-false DELAY_LIMIT (delay_at settings place) short
    by_test (inl long) =
        let tests = all_fail (start_tests settings) e in
        let some = list_any_at (λ p. nat_lt DELAY_LIMIT (delay_at settings p)) (places settings) place 0 (subst (λ (n : ℕ). place < n) (sym (length-range_with_len 0 settings.players)) within) (rw here long) in
        absurd (false≢true (sym tests.1.1.1.0 ∙ some))

first_step : (settings : Settings) (place limit : ℕ) → delay_at settings place ≤ DELAY_LIMIT → IsInStep 0 0 limit (first_known settings place)
first_step settings place limit short =
    let long : length (first_words settings place) ≡ delay_at settings place = long_first settings place in
    record {
      from = refl;
      ahead = λ there. omega arith;
      few = omega (arith, long, short);
      stays = λ here. refl;
      own = λ here. omega (arith, long, short);
      early = λ now. absurd (false≢true now);
    }

pub first_board : (settings : Settings) → start_refusal settings ≡ None → IsBoard (map (first_known settings) (places settings)) 0 0 settings.threshold settings.limit
first_board settings e =
    let tests = all_fail (start_tests settings) e in
    let players = in_range 1 (most_players settings.profile) settings.players tests.0 in
    let threshold = in_range 1 (most_threshold settings.profile) settings.threshold tests.1.1.1.1.1.0 in
    let limit = in_range 1 FRAME_LIMIT settings.limit tests.1.1.1.1.1.1.0 in
    let most = most_of settings.profile in
    let long : length (map (first_known settings) (places settings)) ≡ settings.players = length-map-range_with_len (first_known settings) 0 settings.players in
    record {
      some = omega (arith, long, players.0);
      most = omega (arith, long, players.1, most.0);
      local = list_any-map (λ (q : Known). q.player.local) (first_known settings) (places settings) ∙ not-false _ tests.1.0;
      in_step = All-map (IsInStep 0 0 settings.limit) (first_known settings) (places settings) (λ k d within.
          let few : k < settings.players = subst (λ (n : ℕ). k < n) (length-range_with_len 0 settings.players) within in
          let here : slice_index_or (places settings) k d ≡ k = get_or-range_with_len 0 settings.players k d few ∙ omega arith in
          first_step settings (slice_index_or (places settings) k d) settings.limit (rw here (short_delays settings e k few)));
      reached = omega arith;
      window = omega arith;
      within = omega arith;
      narrow = omega (arith, threshold.1, most.1);
      short = limit.1;
    }
