-- One player of the list, and what a change of that player leaves.
use Rattle.std.proofs.Common.{◌≡◌, ◌≢◌, ◌⊎◌, ℕ, ◌-◌, ◌<◌, ◌≤◌, List, [], ◌∷◌, ◌++◌, length, get_or, map, set, Bool, true, false, Option, Some, None, eqb, cond, refl, ap, sym, ◌∙◌, subst, inl, inr, arith, length-append}
use Rattle.std.specs.Prelude.{IsSomeAnd, slice_get, slice_set}
use Rattle.std.specs.Option.{option_map, option_map_or}
use Rattle.std.proofs.lemmas.Bool.{cases_Bool, cases_lt, eq-eqb, ne_eqb, lt-ltb, false≢true}
use Rattle.std.proofs.lemmas.List.{get_or_append_left, map-set}
use Rattle.std.proofs.lemmas.Option.{same_Some, slice_get_within, slice_get-map, slice_get-get_or, none-some}
use Rattle.circular_buffer.proofs.Places.{slice_get-set_same, slice_get-set_other}
use Rattle.roll_frame.specs.Inputs.{player_at, of_player, changed, with_words, with_given, with_gone}
use Rattle.roll_frame.specs.Timeline.{Player, cell_at, row_at}
use Rattle.roll_frame.specs.declared.row.Cell.TheVariants.{Word}
use Rattle.roll_inputs.specs.Boards.{KeepsCells, players_of, queue_at}
use Rattle.roll_inputs.specs.Queues.{Known}

-- what a test finds is a player
pub found : (test : Player → Bool) (players : List Player) (p : ℕ) → of_player test players p ≡ true → (x : Player) × (player_at players p ≡ Some x) × (test x ≡ true)
found test players p e = by_player (player_at players p) e
  where
    by_player : (o : Option Player) → option_map_or test o false ≡ true → (x : Player) × (o ≡ Some x) × (test x ≡ true)
    by_player None e = absurd (false≢true e)
    by_player (Some x) e = (x, refl, e)

pub of_player_at : (test : Player → Bool) (players : List Player) (p : ℕ) (x : Player) → player_at players p ≡ Some x → of_player test players p ≡ test x
of_player_at test players p x e = ap (λ o. option_map_or test o false) e

-- the place of a player
pub record IsAt (players : List Player) (p : ℕ) (x : Player) : Type 0 where
  pub some : 1 ≤ p
  pub within : p - 1 < length players
  pub there : slice_get players (p - 1) ≡ Some x

pub is_at : (players : List Player) (p : ℕ) (x : Player) → player_at players p ≡ Some x → IsAt players p x
is_at players p x e = by_number (cases_Bool (eqb p 0))
  where
    by_number : (eqb p 0 ≡ true) ⊎ (eqb p 0 ≡ false) → IsAt players p x
    by_number (inl zeroth) = let none : None ≡ Some x = rw zeroth at e in absurd (none-some x none)
    by_number (inr later) =
        let there : slice_get players (p - 1) ≡ Some x = rw later at e in
        record {
          some = elim (cases_lt 0 p) [ inl h ↦ h | inr h ↦ (let no : true ≡ false = sym (eq-eqb p 0 (omega arith)) ∙ later in absurd (false≢true (sym no))) ];
          within = slice_get_within players (p - 1) x there;
          there = there;
        }

-- the change of a player is a write at its place
pub changed_at : (change : Player → Player) (players : List Player) (p : ℕ) (x : Player) → player_at players p ≡ Some x → changed change players p ≡ set players (p - 1) (change x)
changed_at change players p x e = ap (λ o. option_map_or (λ player. slice_set players (p - 1) (change player)) o players) e

pub at_changed : (change : Player → Player) (players : List Player) (p : ℕ) (x : Player) → player_at players p ≡ Some x → player_at (changed change players p) p ≡ Some (change x)
at_changed change players p x e =
    let at = is_at players p x e in
    let later : eqb p 0 ≡ false = ne_eqb p 0 (λ h. omega (arith, at.some)) in
    rw (changed_at change players p x e, later) (slice_get-set_same players (p - 1) (change x) at.within)

pub at_other : (change : Player → Player) (players : List Player) (p q : ℕ) (x : Player) → player_at players p ≡ Some x → q ≢ p → player_at (changed change players p) q ≡ player_at players q
at_other change players p q x e differs = by_number (cases_Bool (eqb q 0))
  where
    by_number : (eqb q 0 ≡ true) ⊎ (eqb q 0 ≡ false) → player_at (changed change players p) q ≡ player_at players q
    by_number (inl zeroth) = rw zeroth refl
    by_number (inr later) =
        let at = is_at players p x e in
        let apart : q - 1 ≢ p - 1 = λ h. elim (cases_lt 0 q) [ inl some ↦ differs (omega (arith, at.some)) | inr none ↦ (let no : true ≡ false = sym (eq-eqb q 0 (omega arith)) ∙ later in false≢true (sym no)) ] in
        rw (changed_at change players p x e, later) (slice_get-set_other players (p - 1) (q - 1) (change x) apart)

-- a change that leaves the confirmed words keeps their cells, and those of the others
abbrev pub KeepsWords : (Player → Player) → Type 0
KeepsWords change = (t : ℕ) (x : Player) → t < length x.words → cell_at t (change x) ≡ cell_at t x

pub change_keeps : (change : Player → Player) (players : List Player) (p : ℕ) (x : Player) → KeepsWords change → player_at players p ≡ Some x → KeepsCells players (changed change players p) p
change_keeps change players p x keeps e = record {
  others = λ q t differs. ap (option_map (cell_at t)) (at_other change players p q x e differs);
  confirmed = λ t early.
      let within : t < length x.words = subst (λ (n : ℕ). t < n) (ap (λ o. option_map_or (λ player. length player.words) o 0) e) early in
      rw (at_changed change players p x e, e) (ap Some (keeps t x within));
}

pub same_keeps : (players : List Player) (p : ℕ) → KeepsCells players players p
same_keeps players p = record { others = λ q t differs. refl; confirmed = λ t early. refl }

longer_cell : (t : ℕ) (x y : Player) (words : List ℕ) → y.words ≡ x.words ++ words → t < length x.words → cell_at t y ≡ cell_at t x
longer_cell t x y words e within =
    let more : t < length (x.words ++ words) = omega (arith, length-append x.words words) in
    rw (e, lt-ltb t (length (x.words ++ words)) more, lt-ltb t (length x.words) within) (ap Word (get_or_append_left x.words words 0 t within))

pub hears_keeps : (word : ℕ) → KeepsWords (with_words (word ∷ []))
hears_keeps word t x within = longer_cell t x (with_words (word ∷ []) x) (word ∷ []) refl within

pub gives_keeps : (word : ℕ) → KeepsWords (with_given word)
gives_keeps word t x within = longer_cell t x (with_given word x) (word ∷ []) refl within

pub leaves_keeps : KeepsWords with_gone
leaves_keeps t x within = rw (lt-ltb t (length x.words) within) refl

-- the queue of a player is found by its number
pub queue_at-player : (queues : List Known) (p : ℕ) → option_map (λ (q : Known). q.player) (queue_at queues p) ≡ player_at (players_of queues) p
queue_at-player queues p = by_number (eqb p 0)
  where
    by_number : (b : Bool) → option_map (λ (q : Known). q.player) (cond b None (slice_get queues (p - 1))) ≡ cond b None (slice_get (players_of queues) (p - 1))
    by_number true = refl
    by_number false = sym (slice_get-map (λ (q : Known). q.player) queues (p - 1))

-- the queue at a player's place
pub queue_is : (queues : List Known) (p : ℕ) (x : Player) (q : Known) → player_at (players_of queues) p ≡ Some x → q ≡ get_or queues (p - 1) q → p - 1 < length queues → q.player ≡ x
queue_is queues p x q e is within =
    let at = is_at (players_of queues) p x e in
    same_Some q.player x (ap (option_map (λ (k : Known). k.player)) (ap Some is ∙ sym (slice_get-get_or queues (p - 1) q within)) ∙ (sym (slice_get-map (λ (k : Known). k.player) queues (p - 1)) ∙ at.there))

-- a player of whom something holds
pub player_there : (players : List Player) (p : ℕ) (Q : Player → Type 0) → IsSomeAnd (player_at players p) Q → (x : Player) × (player_at players p ≡ Some x) × Q x
player_there players p Q h = by_player (player_at players p) h
  where
    by_player : (o : Option Player) → IsSomeAnd o Q → (x : Player) × (o ≡ Some x) × Q x
    by_player None h = absurd h
    by_player (Some x) h = (x, refl, h)

-- a row with one player's cell written over is that of the players after the change
pub row_changed : (change : Player → Player) (players : List Player) (p t : ℕ) (x : Player) → player_at players p ≡ Some x → set (row_at players t) (p - 1) (cell_at t (change x)) ≡ row_at (changed change players p) t
row_changed change players p t x e = sym (ap (map (cell_at t)) (changed_at change players p x e) ∙ map-set (cell_at t) players (p - 1) (change x))
