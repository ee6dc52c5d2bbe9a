-- Words that change none of the rows that were told: those that were predicted, and those of later frames.
use Rattle.std.proofs.Common.{◌≡◌, ℕ, ◌+◌, ◌-◌, ◌<◌, ◌≤◌, List, [], ◌∷◌, ◌++◌, length, length-append, get_or, drop, true, false, ap, sym, subst, ◌∙◌, inl, inr, arith, Some}
use Rattle.std.specs.Prelude.{◌⊎◌, slice_get, bit_and, option_map}
use Rattle.std.proofs.Math.ListN.{get_or-append}
use Rattle.std.proofs.Math.Seq.{get_or-append_seam, map-set_same}
use Rattle.std.proofs.lemmas.Bool.{cases_lt}
use Rattle.std.proofs.lemmas.Option.{get_or_from_slice_get}
use Rattle.roll_frame.specs.Impls.Equal.{cell_eq-Decides}
use Rattle.roll_frame.specs.Inputs.{changed, player_at}
use Rattle.roll_frame.specs.Timeline.{Player, cell_at, last_word, predicted, row_at, timeline}
use Rattle.roll_frame.specs.declared.row.Cell.TheVariants.{Word}
use Rattle.roll_inputs.specs.Boards.{Inputs, count_of}
use Rattle.roll_inputs.proofs.Changes.{same_rows}
use Rattle.roll_inputs.proofs.Players.{changed_at, is_at}
use Rattle.roll_laws.proofs.Known.{cell_confirmed, cell_predicted}
use Rattle.roll_laws.proofs.Predicted.{masked_twice, word_of_cell}
use Rattle.roll_inputs.proofs.Words.{last_word-push}
use Rattle.roll_session.specs.Saves.{has_word}
use Rattle.roll_session.specs.Standing.{rows_from}
use Rattle.roll_session.proofs.Playing.{IsPlaying, count_is}
use Rattle.roll_session.proofs.Retold.{player_next, row_from, slice_get-map}

-- a player that has given one word more
pub record HasGiven (old new : Player) (word : ℕ) : Type 0 where
  pub words : new.words ≡ old.words ++ word ∷ []
  pub mask : new.mask ≡ old.mask
  pub here : old.gone ≡ false
  pub there : new.gone ≡ false

module _ (old new : Player) (word : ℕ) (h : HasGiven old new word) where
  more : length new.words ≡ length old.words + 1
  more = ap length h.words ∙ length-append old.words (word ∷ [])

  -- the cells before the word stay
  pub early_cell : (t : ℕ) → t < length old.words → cell_at t new ≡ cell_at t old
  early_cell t i =
      cell_confirmed t new (omega (arith, i, more))
      ∙ ap Word (ap (λ (ws : List ℕ). get_or ws t 0) h.words ∙ get_or-append old.words (word ∷ []) 0 t i)
      ∙ sym (cell_confirmed t old i)

  -- where the word was predicted, all cells stay
  pub foreseen_cell : cell_at (length old.words) old ≡ Word word → (t : ℕ) → cell_at t new ≡ cell_at t old
  foreseen_cell right t = go (cases_lt t (length old.words))
    where
      was : predicted old ≡ word
      was = word_of_cell (predicted old) word (sym (cell_predicted (length old.words) old (omega arith) h.here) ∙ right)

      still : predicted new ≡ predicted old
      still =
          ap (λ (ws : List ℕ). bit_and (last_word new.before ws) new.mask) h.words
          ∙ ap (λ w. bit_and w new.mask) (last_word-push new.before old.words word ∙ sym was)
          ∙ ap (bit_and (predicted old)) h.mask
          ∙ masked_twice (last_word old.before old.words) old.mask

      past : (length old.words < t) ⊎ (t ≤ length old.words) → length old.words ≤ t → cell_at t new ≡ cell_at t old
      past (inl later) i = cell_predicted t new (omega (arith, later, more)) h.there ∙ ap Word still ∙ sym (cell_predicted t old i h.here)
      past (inr now) i =
          let is : t ≡ length old.words = omega (arith, now, i) in
          subst (λ (k : ℕ). cell_at k new ≡ cell_at k old) (sym is)
          (cell_confirmed (length old.words) new (omega (arith, more))
          ∙ ap Word (ap (λ (ws : List ℕ). get_or ws (length old.words) 0) h.words ∙ get_or-append_seam old.words word [] 0)
          ∙ sym right)

      go : (t < length old.words) ⊎ (length old.words ≤ t) → cell_at t new ≡ cell_at t old
      go (inl i) = early_cell t i
      go (inr i) = past (cases_lt (length old.words) t) i

-- the timeline stays so far as the changed player's cells do
kept_time : (change : Player → Player) (players : List Player) (p m : ℕ) (x : Player) → player_at players p ≡ Some x
    → ((t : ℕ) → t < m → cell_at t (change x) ≡ cell_at t x) → timeline (changed change players p) m ≡ timeline players m
kept_time change players p m x e same =
    let at = is_at players p x e in
    same_rows players (changed change players p) m (λ t before.
    rw (changed_at change players p x e) (map-set_same (cell_at t) players (p - 1) (change x) x (same t before ∙ ap (cell_at t) (sym (get_or_from_slice_get players (p - 1) x x at.there)))))

-- rows from a frame on stay where they end before the word
pub early_rows : (change : Player → Player) (players : List Player) (p base n : ℕ) (x : Player) (word : ℕ) → player_at players p ≡ Some x → HasGiven x (change x) word
    → base + n ≤ length x.words → rows_from (changed change players p) base n ≡ rows_from players base n
early_rows change players p base n x word e h before =
    ap (drop base) (kept_time change players p (base + n) x e (λ t i. early_cell x (change x) word h t (omega (arith, i, before))))

-- and where it was predicted
pub foreseen_rows : (change : Player → Player) (players : List Player) (p base n : ℕ) (x : Player) (word : ℕ) → player_at players p ≡ Some x → HasGiven x (change x) word
    → cell_at (length x.words) x ≡ Word word → rows_from (changed change players p) base n ≡ rows_from players base n
foreseen_rows change players p base n x word e h right =
    ap (drop base) (kept_time change players p (base + n) x e (λ t i. foreseen_cell x (change x) word h right t))

-- rows that have the word, or end before it, stay
pub told_stays : (inputs : Inputs) (change : Player → Player) (p n word : ℕ) (it : IsPlaying inputs.players p) → HasGiven it.player (change it.player) word → inputs.settled ≤ length it.player.words
    → has_word (rows_from inputs.players inputs.settled n) (count_of inputs.players p - inputs.settled) (p - 1) word ≡ true
    → rows_from (changed change inputs.players p) inputs.settled n ≡ rows_from inputs.players inputs.settled n
told_stays inputs change p n word it h low told = go (cases_lt place n)
  where
    place : ℕ
    place = length it.player.words - inputs.settled

    at : player_at inputs.players p ≡ Some it.player
    at = subst (λ (q : ℕ). player_at inputs.players q ≡ Some it.player) (sym it.number) (player_next inputs.players it.place ∙ it.is_there)

    index : p - 1 ≡ it.place
    index = omega (arith, it.number)

    has : has_word (rows_from inputs.players inputs.settled n) place it.place word ≡ true
    has = rw (count_is inputs p it, index) at told

    end : inputs.settled + place ≡ length it.player.words
    end = omega (arith, low)

    cell : place < n → cell_at (length it.player.words) it.player ≡ Word word
    cell i =
        let row : slice_get (rows_from inputs.players inputs.settled n) place ≡ Some (row_at inputs.players (length it.player.words)) = row_from inputs.players inputs.settled n place i ∙ ap (λ t. Some (row_at inputs.players t)) end in
        let there : slice_get (row_at inputs.players (length it.player.words)) it.place ≡ Some (cell_at (length it.player.words) it.player) = slice_get-map (cell_at (length it.player.words)) inputs.players it.place ∙ ap (option_map (cell_at (length it.player.words))) it.is_there in
        (cell_eq-Decides (cell_at (length it.player.words) it.player) (Word word)).0 (rw there at (rw row at has))

    go : (place < n) ⊎ (n ≤ place) → rows_from (changed change inputs.players p) inputs.settled n ≡ rows_from inputs.players inputs.settled n
    go (inl i) = foreseen_rows change inputs.players p inputs.settled n it.player word at h (cell i)
    go (inr i) = early_rows change inputs.players p inputs.settled n it.player word at h (omega (arith, i, end))
