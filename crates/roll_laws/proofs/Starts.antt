-- What it says of the settings that a session starts.
use Rattle.std.proofs.Common.{◌≡◌, ℕ, ◌+◌, ◌≤◌, arith, None}
use Rattle.roll_frame.specs.Settings.{most_players, most_threshold, open_to_branches, start_tests, start_refusal}
use Rattle.roll_frame.specs.declared.profile.Profile.{Profile}
use Rattle.roll_frame.specs.declared.settings.Settings.{Settings}
use Rattle.roll_frame.proofs.Refused.{in_range, all_fail}
use Rattle.roll_laws.specs.Laws.{StartsAreSmall, most_kept}
use Rattle.roll_frame.specs.declared.profile.Profile.TheVariants.{Ggpo, Wide}

-- what a profile lets its sessions keep
profile_keeps : (profile : Profile) (threshold : ℕ) → threshold ≤ most_threshold profile → open_to_branches profile + threshold + 2 ≤ most_kept profile
profile_keeps Ggpo threshold h = omega arith
profile_keeps Wide threshold h = omega arith

pub starts_are_small : StartsAreSmall
starts_are_small settings h =
    let tests = all_fail (start_tests settings) h in
    let players = in_range 1 (most_players settings.profile) settings.players tests.0 in
    let threshold = in_range 1 (most_threshold settings.profile) settings.threshold tests.1.1.1.1.1.0 in
    let limit = in_range 1 1048576 settings.limit tests.1.1.1.1.1.1.0 in
    let log = in_range 1 16777216 settings.log tests.1.1.1.1.1.1.1.0 in
    record {
      some_players = players.0;
      few_players = players.1;
      some_threshold = threshold.0;
      small_threshold = threshold.1;
      some_frames = limit.0;
      few_frames = limit.1;
      some_entries = log.0;
      few_entries = log.1;
      few_kept = profile_keeps settings.profile settings.threshold threshold.1;
    }

eight_players : (profile : Profile) → most_players profile ≤ 8
eight_players Ggpo = omega arith
eight_players Wide = omega arith

pub few_players : (settings : Settings) → start_refusal settings ≡ None → settings.players ≤ 8
few_players settings h = omega (arith, eight_players settings.profile, (starts_are_small settings h).few_players)

small_profile : (profile : Profile) → most_threshold profile ≤ 15
small_profile Ggpo = omega arith
small_profile Wide = omega arith

pub small_threshold : (settings : Settings) → start_refusal settings ≡ None → settings.threshold ≤ 15
small_threshold settings h = omega (arith, small_profile settings.profile, (starts_are_small settings h).small_threshold)

few_in_profile : (profile : Profile) → most_kept profile ≤ 250
few_in_profile Ggpo = omega arith
few_in_profile Wide = omega arith

-- no profile lets a session keep more than that
pub few_kept : (settings : Settings) → start_refusal settings ≡ None → open_to_branches settings.profile + settings.threshold + 2 ≤ 250
few_kept settings h = omega (arith, few_in_profile settings.profile, (starts_are_small settings h).few_kept)
