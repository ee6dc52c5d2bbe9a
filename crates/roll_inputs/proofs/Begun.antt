-- A player that begins, with the words of so many frames of its delay.
use Rattle.std.proofs.Common.{◌≡◌, ℕ, ◌+◌, ◌∷◌, [], length, map, ap, sym, arith}
use Rattle.std.specs.Prelude.{slice_index, slice_index_or}
use Rattle.std.specs.List.{range_with_len}
use Rattle.std.proofs.lemmas.List.FromFn.{length-map-range_with_len, map-range_with_len_more}
use Rattle.roll_frame.specs.Inputs.{with_words}
use Rattle.roll_frame.specs.Settings.{first_player}
use Rattle.roll_frame.specs.Timeline.{Player}
use Rattle.roll_frame.specs.declared.settings.Settings.{Settings}
use Rattle.roll_inputs.specs.Queues.{Known}

abbrev pub begun : Settings → ℕ → ℕ → Known
begun settings place n = record {
  player = record (first_player settings place) {
    words = map (slice_index (slice_index_or settings.first place [])) (range_with_len 0 n);
  };
  from = 0;
}

pub begun_long : (settings : Settings) (place n : ℕ) → length (begun settings place n).player.words ≡ n
begun_long settings place n = length-map-range_with_len (slice_index (slice_index_or settings.first place [])) 0 n

pub begun_next : (settings : Settings) (place n : ℕ)
    → record (begun settings place n) { player = with_words (slice_index (slice_index_or settings.first place []) n ∷ []) (begun settings place n).player }
    ≡ begun settings place (n + 1)
begun_next settings place n =
    let more = map-range_with_len_more (slice_index (slice_index_or settings.first place [])) 0 n n (omega arith) in
    ap (λ ws. record { player = record (first_player settings place) { words = ws }; from = 0 }) (sym more)
