-- Rows that a session knows are those of the session that has heard more.
use Rattle.std.proofs.Common.{◌≡◌, ◌∙◌, ℕ, zero, suc, ◌<◌, List, [], ◌∷◌, true, ap, refl, arith}
use Rattle.std.proofs.lemmas.Bool.{and_from, and_parts}
use Rattle.roll_frame.specs.Core.{is_known}
use Rattle.roll_frame.specs.Timeline.{timeline, Player}
use Rattle.roll_relay.proofs.Told.{played_told, told_stays}
use Rattle.roll_relay.specs.OneMatch.{HoldsBack}
use Rattle.roll_relay.specs.Told.{asked_words, told}
use Rattle.roll_inputs.specs.declared.remote_word.RemoteWord.{RemoteWord}
use Rattle.roll_laws.proofs.Ahead.{all_known_stays, known_row_stays, AllLater}
use Rattle.roll_laws.proofs.Fronts.{Onward}
use Rattle.roll_laws.proofs.Known.{AllKnown}
use Rattle.roll_laws.proofs.Sound.{onward_played}
use Rattle.roll_peer.specs.Known.{is_row_known, IsKnownTo}
use Rattle.roll_peer.specs.Requests.{Beside}
use Rattle.roll_session.proofs.Following.{ever_of}
use Rattle.roll_session.specs.Seen.{Seen, Step}

each_known : (t : ℕ) (players : List Player) → is_row_known players t ≡ true → AllKnown t players
each_known t [] known = tt
each_known t (p ∷ ps) known =
    let both = and_parts (is_known t p) (is_row_known ps t) known in
    (both.0, each_known t ps both.1)

row_known : (t : ℕ) (players : List Player) → AllKnown t players → is_row_known players t ≡ true
row_known t [] known = refl
row_known t (p ∷ ps) known = and_from (is_known t p) (is_row_known ps t) known.0 (row_known t ps known.1)

-- rows before a frame that are known
abbrev AreKnown : ℕ → List Player → Type 0
AreKnown f players = (t : ℕ) → t < f → is_row_known players t ≡ true

pub rows_known_still : (f : ℕ) (olds news : List Player) → AllLater olds news → AreKnown f olds → AreKnown f news
rows_known_still f olds news later known t l =
    row_known t news (all_known_stays t olds news later (each_known t olds (known t l)))

pub time_stays : (f : ℕ) (olds news : List Player) → AllLater olds news → AreKnown f olds → timeline news f ≡ timeline olds f
time_stays zero olds news later known = refl
time_stays (suc f) olds news later known =
    cc (
      time_stays f olds news later (λ t l. known t (omega (arith, l))),
      known_row_stays f olds news later (each_known f olds (known f (omega arith))),
    )

module _ (step : Step) (s : Seen) (words : List RemoteWord) (b : Beside) (holds : HoldsBack step s words b) where
  later : AllLater s.core.players (told s words).core.players
  later = (ever_of step s holds.follows Onward onward_played (asked_words words) (told s words).core (played_told step s words holds.fits).core).players

  pub known_ahead : (f : ℕ) → IsKnownTo s f → IsKnownTo b.session f
  known_ahead f known t l =
      ap (λ (x : Seen). is_row_known x.core.players t) holds.is
      ∙ rows_known_still f s.core.players (told s words).core.players later known t l

  pub rows_ahead : (f : ℕ) → IsKnownTo s f → timeline b.session.core.players f ≡ timeline s.core.players f
  rows_ahead f known =
      ap (λ (x : Seen). timeline x.core.players f) holds.is
      ∙ time_stays f s.core.players (told s words).core.players later known

  pub opening_ahead : b.session.opening ≡ s.opening
  opening_ahead = ap (λ (x : Seen). x.opening) holds.is ∙ (told_stays s words).opening
