-- The player of an input that is taken.
use Rattle.std.proofs.Common.{◌≡◌, ℕ, zero, suc, ◌+◌, ◌-◌, ◌<◌, ◌≤◌, List, [], ◌∷◌, length, refl, sym, subst, arith, Bool, true, false, eqb, Option, Some, None}
use Rattle.std.specs.Prelude.{not, slice_get, slice_index_or, All}
use Rattle.std.specs.Option.{option_map_or}
use Rattle.std.proofs.lemmas.Bool.{false≢true, not-false}
use Rattle.std.proofs.lemmas.Bool.Decides.{nat_tests}
use Rattle.roll_frame.specs.Inputs.{disconnect_tests, local_tests, of_player, remote_tests}
use Rattle.roll_frame.specs.Timeline.{Player}
use Rattle.roll_inputs.specs.Boards.{Inputs, count_of, disconnect_refusal, local_refusal, remote_refusal}
use Rattle.roll_frame.proofs.Refused.{all_fail}

-- there is a player of this number, who isn't gone
pub record IsPlaying (players : List Player) (p : ℕ) : Type 0 where
  pub place : ℕ
  pub number : p ≡ place + 1
  pub player : Player
  pub is_there : slice_get players place ≡ Some player
  pub here : player.gone ≡ false

-- there is a player of this number, of whom the test holds
record Passes (test : Player → Bool) (players : List Player) (p : ℕ) : Type 0 where
  place : ℕ
  number : p ≡ place + 1
  player : Player
  is_there : slice_get players place ≡ Some player
  holds : test player ≡ true

passed : (test : Player → Bool) (players : List Player) (p : ℕ) → of_player test players p ≡ true → Passes test players p
passed test players zero h = absurd (false≢true h)
passed test players (suc place) h =
    let z : eqb (suc place) 0 ≡ false = grind (arith, nat_tests) in
    let y : suc place - 1 ≡ place = omega arith in
    go (slice_get players place) refl (rw (z, y) at h)
  where
    go : (o : Option Player) → slice_get players place ≡ o → option_map_or test o false ≡ true → Passes test players (suc place)
    go None e h = absurd (false≢true h)
    go (Some player) e h = record { place = place; number = omega arith; player = player; is_there = e; holds = h }

-- no player passes a test of that number
missed : (test : Player → Bool) (players : List Player) (place : ℕ) (player : Player) → slice_get players place ≡ Some player → of_player test players (place + 1) ≡ false → test player ≡ false
missed test players place player e h =
    let z : eqb (place + 1) 0 ≡ false = grind (arith, nat_tests) in
    let y : place + 1 - 1 ≡ place = omega arith in
    rw (z, y, e) at h

get_index : (xs : List Player) (k : ℕ) (x : Player) → slice_get xs k ≡ Some x → (k < length xs) × (slice_index_or xs k x ≡ x)
get_index [] k x e = absurd (cc e)
get_index (y ∷ ys) zero x e = (omega arith, cc e)
get_index (y ∷ ys) (suc k) x e = let r = get_index ys k x e in (omega (arith, r.0), r.1)

-- what holds of all, of one of them
pub of_all : (P : Player → Type 0) (xs : List Player) (k : ℕ) (x : Player) → All P xs → slice_get xs k ≡ Some x → P x
of_all P xs k x all e = let r = get_index xs k x e in subst P r.1 (all k x r.0)

module _ (inputs : Inputs) (p : ℕ) where
  -- a local player is there
  pub local_plays : All (λ (q : Player). q.local ≡ true → q.gone ≡ false) inputs.players → local_refusal inputs p ≡ None → IsPlaying inputs.players p
  local_plays stays h =
      let fails = all_fail (local_tests inputs.players inputs.frame inputs.threshold inputs.limit p) h in
      let it = passed (λ player. player.local) inputs.players p (not-false (of_player (λ player. player.local) inputs.players p) fails.0) in
      record { place = it.place; number = it.number; player = it.player; is_there = it.is_there; here = of_all (λ (q : Player). q.local ≡ true → q.gone ≡ false) inputs.players it.place it.player stays it.is_there it.holds }

  remote_here : (it : Passes (λ player. not player.local) inputs.players p) → of_player (λ player. player.gone) inputs.players p ≡ false → IsPlaying inputs.players p
  remote_here it h =
      record { place = it.place; number = it.number; player = it.player; is_there = it.is_there; here = missed (λ player. player.gone) inputs.players it.place it.player it.is_there (subst (λ q. of_player (λ player. player.gone) inputs.players q ≡ false) it.number h) }

  -- a remote player whose word is taken is there
  pub remote_plays : (f : ℕ) → remote_refusal inputs p f ≡ None → IsPlaying inputs.players p
  remote_plays f h =
      let fails = all_fail (remote_tests inputs.players inputs.settled p f) h in
      remote_here (passed (λ player. not player.local) inputs.players p (not-false (of_player (λ player. not player.local) inputs.players p) fails.0)) fails.1.0

  -- a player who leaves was there
  pub leaving_plays : disconnect_refusal inputs p ≡ None → IsPlaying inputs.players p
  leaving_plays h =
      let fails = all_fail (disconnect_tests inputs.players p) h in
      remote_here (passed (λ player. not player.local) inputs.players p (not-false (of_player (λ player. not player.local) inputs.players p) fails.0)) fails.1.0

  pub count_is : (it : IsPlaying inputs.players p) → count_of inputs.players p ≡ length it.player.words
  count_is it =
      let z : eqb (it.place + 1) 0 ≡ false = grind (arith, nat_tests) in
      let y : it.place + 1 - 1 ≡ it.place = omega arith in
      rw (it.number, z, y, it.is_there) refl

  -- as many words are confirmed of a player who is there as are settled
  pub count_reached : IsPlaying inputs.players p → All (λ (q : Player). q.gone ≡ false → inputs.settled ≤ length q.words) inputs.players → inputs.settled ≤ count_of inputs.players p
  count_reached it ahead =
      subst (λ n. inputs.settled ≤ n) (sym (count_is it)) (of_all (λ (q : Player). q.gone ≡ false → inputs.settled ≤ length q.words) inputs.players it.place it.player ahead it.is_there it.here)
