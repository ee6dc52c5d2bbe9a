-- A player begins with a word for each frame of its delay.
use Rattle.std.proofs.Common.{◌≡◌, ℕ, [], length}
use Rattle.std.specs.Prelude.{slice_index, slice_index_or}
use Rattle.std.proofs.lemmas.List.FromFn.{length-map-range_with_len}
use Rattle.roll_frame.specs.Settings.{delay_at, first_words}
use Rattle.roll_frame.specs.declared.settings.Settings.{Settings}

pub long_first : (settings : Settings) (place : ℕ) → length (first_words settings place) ≡ delay_at settings place
long_first settings place = length-map-range_with_len (slice_index (slice_index_or settings.first place [])) 0 (delay_at settings place)
