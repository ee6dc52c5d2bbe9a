-- What a session answers at its next frame for its prediction threshold.
use Rattle.std.proofs.Common.{◌≡◌, ◌≢◌, ◌∙◌, ℕ, ◌+◌, ◌-◌, List, [], ◌∷◌, length, map, not, Bool, true, false, eqb, Option, Some, None, refl, ap, sym, arith, inl, inr}
use Rattle.std.proofs.lemmas.Bool.{cases_Bool, false≢true}
use Rattle.std.proofs.lemmas.Option.{slice_get-map}
use Rattle.std.specs.Option.{option_map, option_map_or}
use Rattle.std.specs.Prelude.{◌⊎◌, if◌then◌else◌, nat_le, slice_get}
use Rattle.roll_frame.specs.Codes.{code_of}
use Rattle.roll_frame.specs.Inputs.{of_player, player_at, with_none_given}
use Rattle.roll_frame.specs.Refusals.{first_refusal}
use Rattle.roll_frame.specs.Timeline.{Player, front, least_of}
use Rattle.roll_frame.specs.declared.refusal.Refusal.TheVariants.{FrameLimit, InputTwice, InvalidPlayer, LogFull, PredictionThreshold}
use Rattle.roll_session.specs.Seen.{Seen}
use Rattle.roll_relay.specs.Pressed.{stands_next, RefusesNext, TakesNext}
use Rattle.roll_relay.proofs.Fronts.{counts}

-- none given, the players are as they were
at_none_given : (players : List Player) (p : ℕ) → player_at (map with_none_given players) p ≡ option_map with_none_given (player_at players p)
at_none_given players p = by_number (eqb p 0)
  where
    by_number : (b : Bool) → (if b then None else slice_get (map with_none_given players) (p - 1)) ≡ option_map with_none_given (if b then None else slice_get players (p - 1))
    by_number true = refl
    by_number false = slice_get-map with_none_given players (p - 1)

of_none_given : (test : Player → Bool) (players : List Player) (p : ℕ) → of_player test (map with_none_given players) p ≡ of_player (λ player. test (with_none_given player)) players p
of_none_given test players p = ap (λ o. option_map_or test o false) (at_none_given players p) ∙ through (player_at players p)
  where
    through : (o : Option Player) → option_map_or test (option_map with_none_given o) false ≡ option_map_or (λ player. test (with_none_given player)) o false
    through None = refl
    through (Some player) = refl

none_is : (o : Option Player) → option_map_or (λ (player : Player). false) o false ≡ false
none_is None = refl
none_is (Some player) = refl

counts_none_given : (players : List Player) → counts (map with_none_given players) ≡ counts players
counts_none_given [] = refl
counts_none_given (p ∷ players) = by_gone (cases_Bool p.gone) (counts_none_given players)
  where
    by_gone : (p.gone ≡ true) ⊎ (p.gone ≡ false) → counts (map with_none_given players) ≡ counts players → counts (map with_none_given (p ∷ players)) ≡ counts (p ∷ players)
    by_gone (inl gone) e = rw gone e
    by_gone (inr there) e = rw there (ap (λ ns. length p.words ∷ ns) e)

front_none_given : (players : List Player) → front (map with_none_given players) ≡ front players
front_none_given players = ap least_of (counts_none_given players)

-- the third of five tests
third : (a b c d l : Bool) → not a ≡ false → b ≡ false → c ≡ true
    → first_refusal ((not a, InvalidPlayer) ∷ (b, InputTwice) ∷ (c, PredictionThreshold) ∷ (d, FrameLimit) ∷ (l, LogFull) ∷ []) ≡ Some PredictionThreshold
third a b c d l one two three = rw (one, two, three) refl

not_third : (a b c d l : Bool) → c ≡ false
    → option_map_or code_of (first_refusal ((a, InvalidPlayer) ∷ (b, InputTwice) ∷ (c, PredictionThreshold) ∷ (d, FrameLimit) ∷ (l, LogFull) ∷ [])) 0 ≢ 4
not_third a b true d l e = absurd (false≢true (sym e))
not_third true b false d l e = λ h. omega (arith, h)
not_third false true false d l e = λ h. omega (arith, h)
not_third false false false true l e = λ h. omega (arith, h)
not_third false false false false true e = λ h. omega (arith, h)
not_third false false false false false e = λ h. omega (arith, h)

pub refuses_next : (s : Seen) → stands_next s ≡ true → RefusesNext s
refuses_next s stands p local =
    let players = s.core.players in
    let next : List Player = map with_none_given players in
    let there : of_player (λ (player : Player). player.local) next p ≡ true = of_none_given (λ player. player.local) players p ∙ local in
    let fresh : of_player (λ (player : Player). player.given) next p ≡ false = of_none_given (λ player. player.given) players p ∙ none_is (player_at players p) in
    let far : nat_le (front next + s.settings.threshold) (s.core.frame + 1) ≡ true = ap (λ n. nat_le (n + s.settings.threshold) (s.core.frame + 1)) (front_none_given players) ∙ stands in
    third (of_player (λ (player : Player). player.local) next p) (of_player (λ (player : Player). player.given) next p)
    (nat_le (front next + s.settings.threshold) (s.core.frame + 1)) (eqb (s.core.frame + 1) s.settings.limit)
    (nat_le s.settings.log (s.core.logged + 1)) (ap not there) fresh far

pub takes_next : (s : Seen) → stands_next s ≡ false → TakesNext s
takes_next s goes p e =
    let next : List Player = map with_none_given s.core.players in
    let near : nat_le (front next + s.settings.threshold) (s.core.frame + 1) ≡ false = ap (λ n. nat_le (n + s.settings.threshold) (s.core.frame + 1)) (front_none_given s.core.players) ∙ goes in
    not_third (not (of_player (λ (player : Player). player.local) next p)) (of_player (λ (player : Player). player.given) next p)
    (nat_le (front next + s.settings.threshold) (s.core.frame + 1)) (eqb (s.core.frame + 1) s.settings.limit)
    (nat_le s.settings.log (s.core.logged + 1)) near (ap (λ o. option_map_or code_of o 0) e)
