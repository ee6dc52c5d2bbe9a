-- What the fields of a board keep, as its queues change.
use Rattle.std.proofs.Common.{◌≡◌, ◌⊎◌, ℕ, zero, suc, ◌+◌, ◌<◌, ◌≤◌, List, [], ◌∷◌, ◌++◌, length, get_or, set, map, take, drop, min, Bool, true, false, not, cond, refl, ap, sym, ◌∙◌, subst, inl, inr, arith}
use Rattle.std.specs.Prelude.{◌||◌, ◌&&◌, All, slice_index_or}
use Rattle.std.specs.List.{list_any}
use Rattle.std.proofs.Math.Seq.{map-set_same, take-append_seam}
use Rattle.std.proofs.lemmas.Bool.{cases_Bool, false≢true}
use Rattle.std.proofs.lemmas.Simd.{map-map}
use Rattle.std.proofs.lemmas.List.{length-map, length-set}
use Rattle.std.proofs.lemmas.List.Elements.{All-map, All-set}
use Rattle.roll_frame.specs.declared.limits.TheConstants.{DELAY_LIMIT}
use Rattle.roll_frame.specs.Inputs.{with_none_given}
use Rattle.roll_frame.specs.Timeline.{least_of, front}
use Rattle.roll_inputs.proofs.Fronts.{remaining, counts, counts-remaining}
use Rattle.roll_inputs.specs.Boards.{IsBoard, IsInStep, players_of, started, settled_to}
use Rattle.roll_inputs.specs.Queues.{Known}

pub list_any-map : {X Y : Type 0} (p : Y → Bool) (f : X → Y) (xs : List X) → list_any p (map f xs) ≡ list_any (λ x. p (f x)) xs
list_any-map p f [] = refl
list_any-map p f (x ∷ xs) = ap (λ b. p (f x) || b) (list_any-map p f xs)

abbrev locals : List Known → List Bool
locals queues = map (λ q. q.player.local) queues

some_local : (qs rs : List Known) → locals rs ≡ locals qs → list_any (λ q. q.player.local) rs ≡ list_any (λ q. q.player.local) qs
some_local qs rs e = sym (list_any-map (λ (b : Bool). b) (λ (q : Known). q.player.local) rs) ∙ (ap (list_any (λ (b : Bool). b)) e ∙ list_any-map (λ (b : Bool). b) (λ (q : Known). q.player.local) qs)

-- one queue changed, and its player is as local as before
pub set_keeps : (qs : List Known) (i : ℕ) (old new : Known) (frame settled threshold limit : ℕ) → IsBoard qs frame settled threshold limit → i < length qs → old ≡ get_or qs i old → new.player.local ≡ old.player.local → IsInStep settled frame limit new → IsBoard (set qs i new) frame settled threshold limit
set_keeps qs i old new frame settled threshold limit b within is local step =
    let long : length (set qs i new) ≡ length qs = length-set qs i new in
    record {
      some = omega (arith, b.some);
      most = omega (arith, b.most);
      local = some_local qs (set qs i new) (map-set_same (λ (q : Known). q.player.local) qs i new old (local ∙ ap (λ (q : Known). q.player.local) is)) ∙ b.local;
      in_step = All-set (IsInStep settled frame limit) qs i new step b.in_step;
      reached = b.reached;
      window = b.window;
      within = b.within;
      narrow = b.narrow;
      short = b.short;
    }

-- the number is in the list
abbrev Has : ℕ → List ℕ → Type 0
Has n [] = ⊥
Has n (m ∷ ms) = (n ≡ m) ⊎ Has n ms

least_of-below : (n : ℕ) (ns : List ℕ) → Has n ns → least_of ns ≤ n
least_of-below n [] h = absurd h
least_of-below n (m ∷ []) (inl e) = omega arith
least_of-below n (m ∷ []) (inr h) = absurd h
least_of-below n (m ∷ k ∷ ks) (inl e) = omega arith
least_of-below n (m ∷ k ∷ ks) (inr h) = omega (arith, least_of-below n (k ∷ ks) h)

has_count : (qs : List Known) (k : ℕ) (d : Known) → k < length qs → (get_or qs k d).player.gone ≡ false → Has (length (get_or qs k d).player.words) (counts (remaining qs))
has_count [] k d h there = absurd (omega arith)
has_count (q ∷ qs) zero d h there = rw there (inl refl)
has_count (q ∷ qs) (suc k) d h there = by_head q.player.gone (has_count qs k d (omega arith) there)
  where
    by_head : (gone : Bool) → Has (length (get_or qs k d).player.words) (counts (remaining qs)) → Has (length (get_or qs k d).player.words) (counts (cond (not gone) (q ∷ remaining qs) (remaining qs)))
    by_head true has = has
    by_head false has = inr has

-- the front is at most the count of a player that is not gone
pub front-below : (qs : List Known) (k : ℕ) (d : Known) → k < length qs → (get_or qs k d).player.gone ≡ false → front (players_of qs) ≤ length (get_or qs k d).player.words
front-below qs k d h there = subst (λ (n : ℕ). n ≤ length (get_or qs k d).player.words) (ap least_of (counts-remaining qs)) (least_of-below _ _ (has_count qs k d h there))

-- where a local player is, and all local words are given, the last frame is still ahead
pub given_early : (qs : List Known) (frame settled limit : ℕ) → list_any (λ (q : Known). q.player.local) qs ≡ true → list_any (λ (q : Known). q.player.local && not q.player.given) qs ≡ false → All (IsInStep settled frame limit) qs → frame < limit
given_early [] frame settled limit some none steps = absurd (false≢true some)
given_early (q ∷ qs) frame settled limit some none steps =
    by_head (cases_Bool q.player.local) (cases_Bool q.player.given) (λ s n. given_early qs frame settled limit s n (λ k d h. steps (suc k) d (omega arith)))
  where
    by_head : (q.player.local ≡ true) ⊎ (q.player.local ≡ false) → (q.player.given ≡ true) ⊎ (q.player.given ≡ false) → (list_any (λ (k : Known). k.player.local) qs ≡ true → list_any (λ (k : Known). k.player.local && not k.player.given) qs ≡ false → frame < limit) → frame < limit
    by_head (inl local) (inl given) rest = (steps 0 q (omega arith)).early given
    by_head (inl local) (inr given) rest = let no : true ≡ false = rw (local, given) at none in absurd (false≢true (sym no))
    by_head (inr local) given rest = rest (rw local at some) (rw local at none)

-- all queues changed, and their players are as local as before
pub map_keeps : (change : Known → Known) (qs : List Known) (frame settled to_frame to_settled threshold limit : ℕ) → ((q : Known) → (change q).player.local ≡ q.player.local) → All (λ q. IsInStep to_settled to_frame limit (change q)) qs → IsBoard qs frame settled threshold limit → to_settled ≤ to_frame → to_frame ≤ to_settled + threshold + 1 → to_frame ≤ limit → IsBoard (map change qs) to_frame to_settled threshold limit
map_keeps change qs frame settled to_frame to_settled threshold limit same steps b reached window within =
    let long : length (map change qs) ≡ length qs = length-map qs change in
    record {
      some = omega (arith, b.some);
      most = omega (arith, b.most);
      local = some_local qs (map change qs) (map-map (λ (q : Known). q.player.local) change qs ∙ map_congr same qs) ∙ b.local;
      in_step = All-map (IsInStep to_settled to_frame limit) change qs steps;
      reached = reached;
      window = window;
      within = within;
      narrow = b.narrow;
      short = b.short;
    }
  where
    map_congr : ((q : Known) → (change q).player.local ≡ q.player.local) → (rs : List Known) → map (λ (q : Known). (change q).player.local) rs ≡ map (λ (q : Known). q.player.local) rs
    map_congr same [] = refl
    map_congr same (q ∷ rs) = λ i. same q i ∷ map_congr same rs i

start_step : (settled frame limit : ℕ) (q : Known) → IsInStep settled frame limit q → IsInStep settled (frame + 1) limit (started q)
start_step settled frame limit q step = record {
  from = step.from;
  ahead = step.ahead;
  few = step.few;
  stays = step.stays;
  own = λ here. by_given q.player.given (step.own here);
  early = λ now. absurd (false≢true now);
}
  where
    by_given : (given : Bool) → length q.player.words ≤ frame + DELAY_LIMIT + cond given 1 0 → length q.player.words ≤ frame + 1 + DELAY_LIMIT + 0
    by_given true h = omega arith
    by_given false h = omega arith

-- the next frame, where all local words are given
pub start_keeps : (qs : List Known) (frame settled threshold limit : ℕ) → IsBoard qs frame settled threshold limit → list_any (λ (q : Known). q.player.local && not q.player.given) qs ≡ false → frame ≤ settled + threshold → IsBoard (map started qs) (frame + 1) settled threshold limit
start_keeps qs frame settled threshold limit b given near =
    let early : frame < limit = given_early qs frame settled limit b.local given b.in_step in
    map_keeps started qs frame settled (frame + 1) settled threshold limit (λ q. refl)
    (λ k d h. start_step settled frame limit (slice_index_or qs k d) (b.in_step k d h)) b (omega (arith, b.reached)) (omega (arith, near)) (omega (arith, early))

settle_step : (settled frame limit to : ℕ) (q : Known) → IsInStep settled frame limit q → settled ≤ to → (q.player.gone ≡ false → to ≤ length q.player.words) → IsInStep to frame limit (settled_to to q)
settle_step settled frame limit to q step reached ahead = record {
  from = refl;
  ahead = ahead;
  few = omega (arith, step.few);
  stays = step.stays;
  own = step.own;
  early = step.early;
}

-- the rows below a frame are settled, which the front has reached
pub settle_keeps : (qs : List Known) (frame settled threshold limit to : ℕ) → IsBoard qs frame settled threshold limit → settled ≤ to → to ≤ min (front (players_of qs)) frame → IsBoard (map (settled_to to) qs) frame to threshold limit
settle_keeps qs frame settled threshold limit to b reached confirmed =
    map_keeps (settled_to to) qs frame settled frame to threshold limit (λ q. refl)
    (λ k d h. settle_step settled frame limit to (slice_index_or qs k d) (b.in_step k d h) reached (λ there. (let least = front-below qs k d h there in omega (arith, least, confirmed))))
    b (omega (arith, confirmed)) (omega (arith, b.window, reached)) b.within

-- neither changes more of the players than it says
pub start_players : (qs : List Known) → players_of (map started qs) ≡ map with_none_given (players_of qs)
start_players [] = refl
start_players (q ∷ qs) = ap (λ ps. with_none_given q.player ∷ ps) (start_players qs)

pub settle_players : (to : ℕ) (qs : List Known) → players_of (map (settled_to to) qs) ≡ players_of qs
settle_players to [] = refl
settle_players to (q ∷ qs) = ap (λ ps. q.player ∷ ps) (settle_players to qs)

-- what stands in the vector after all its places were written
pub all_written : (change : Known → Known) (qs rs : List Known) (len : ℕ) → rs ≡ map change qs → length qs ≡ len → take len (rs ++ drop (length rs) qs) ≡ map change qs
all_written change qs rs len is long =
    let same : length rs ≡ length qs = ap (λ (ks : List Known). length ks) is ∙ length-map qs change in
    rw (← long, ← same) (take-append_seam rs (drop (length rs) qs) ∙ is)
