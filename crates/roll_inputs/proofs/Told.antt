-- Words that aren't told yet: what they make of one player, and what holds of each that is the next.
use Rattle.std.proofs.Common.{◌≡◌, ◌∙◌, ◌⊎◌, ℕ, zero, suc, ◌+◌, ◌-◌, ◌<◌, ◌≤◌, List, [], ◌∷◌, ◌++◌, length, get_or, take, drop, set, map, not, Bool, true, false, cond, Option, Some, None, refl, ap, sym, subst, inl, inr, arith, append_assoc, length-append}
use Rattle.std.specs.Prelude.{count_by, filter, nat_le, ◌==◌, if◌then◌else◌, slice_get}
use Rattle.std.specs.Int.{is_in_range}
use Rattle.std.specs.Option.{is_some, option_map, option_map_or}
use Rattle.std.proofs.lemmas.Bool.{and_from, cases_Bool, eqb-true, eqb-false, le-leb, not-false}
use Rattle.std.proofs.lemmas.List.{append-nil, drop_more, length-map, length-set, take_more}
use Rattle.std.proofs.lemmas.List.Sums.{fold-append, length-filter}
use Rattle.std.proofs.lemmas.Option.{get_or_from_slice_get, none-some, same_Some, slice_get-map}
use Rattle.roll_frame.specs.declared.refusal.Refusal.{Refusal}
use Rattle.roll_frame.specs.declared.refusal.Refusal.TheVariants.{InvalidPlayer, PlayerDisconnected, InvalidRequest}
use Rattle.roll_frame.specs.declared.row.Cell.{Cell}
use Rattle.roll_frame.specs.Inputs.{player_at, with_words}
use Rattle.roll_frame.specs.Refusals.{first_refusal}
use Rattle.roll_frame.specs.Timeline.{Player, cell_at, row_at}
use Rattle.roll_frame.proofs.Refused.{all_fail, first_refusal-behind}
use Rattle.roll_inputs.specs.Boards.{players_of, queue_at}
use Rattle.roll_inputs.specs.Foretold.{each_tests, foretold, foretold_refusal, foretold_tests, next_tests, told}
use Rattle.roll_inputs.specs.Queues.{Known}
use Rattle.roll_inputs.specs.declared.remote_word.RemoteWord.{RemoteWord}
use Rattle.roll_inputs.proofs.Players.{at_changed, at_other, found, is_at, of_player_at, queue_at-player, queue_is, row_changed, IsAt}
use Rattle.roll_inputs.proofs.Refusals.{first_refusal-front, is_behind, is_first}
use Rattle.roll_inputs.proofs.Replies.{queue_found}

-- the words of player p among these
abbrev pub words_of : ℕ → List RemoteWord → List ℕ
words_of p words = map (λ w. w.word) (filter (λ w. w.player == p) words)

pub length-words_of : (p : ℕ) (words : List RemoteWord) → length (words_of p words) ≡ count_by (λ w. w.player == p) words
length-words_of p words = length-map (filter (λ (w : RemoteWord). w.player == p) words) (λ (w : RemoteWord). w.word) ∙ length-filter (λ (w : RemoteWord). w.player == p) words

-- player p after one word
told_at : (players : List Player) (w : RemoteWord) (p : ℕ) → player_at (told players w) p ≡ option_map (λ x. if w.player == p then with_words (w.word ∷ []) x else x) (player_at players p)
told_at players w p = by_player (player_at players w.player) refl (cases_Bool (w.player == p))
  where
    same : (o : Option Player) → o ≡ option_map (λ x. x) o
    same None = refl
    same (Some x) = refl

    by_player : (o : Option Player) → player_at players w.player ≡ o → ((w.player == p) ≡ true) ⊎ ((w.player == p) ≡ false) → player_at (told players w) p ≡ option_map (λ x. if w.player == p then with_words (w.word ∷ []) x else x) (player_at players p)
    by_player None e (inl i) =
        let none : player_at players p ≡ None = subst (λ (n : ℕ). player_at players n ≡ None) (eqb-true w.player p i) e in
        rw (e, none) refl
    by_player None e (inr d) = rw (e, d) (same (player_at players p))
    by_player (Some x) e (inl i) =
        let here : player_at players p ≡ Some x = subst (λ (n : ℕ). player_at players n ≡ Some x) (eqb-true w.player p i) e in
        let after : player_at (told players w) p ≡ Some (with_words (w.word ∷ []) x) = subst (λ (n : ℕ). player_at (told players w) n ≡ Some (with_words (w.word ∷ []) x)) (eqb-true w.player p i) (at_changed (with_words (w.word ∷ [])) players w.player x e) in
        after ∙ rw (here, i) refl
    by_player (Some x) e (inr d) =
        at_other (with_words (w.word ∷ [])) players w.player p x e (λ q. eqb-false w.player p d (sym q)) ∙ rw d (same (player_at players p))

-- player p after them
pub foretold_at : (players : List Player) (words : List RemoteWord) (p : ℕ) → player_at (foretold players words) p ≡ option_map (with_words (words_of p words)) (player_at players p)
foretold_at players [] p = none (player_at players p)
  where
    none : (o : Option Player) → o ≡ option_map (with_words []) o
    none None = refl
    none (Some x) = λ i. Some (record x { words = sym (append-nil x.words) i })
foretold_at players (w ∷ words) p =
    foretold_at (told players w) words p ∙ ap (option_map (with_words (words_of p words))) (told_at players w p) ∙ both (w.player == p) (player_at players p)
  where
    both : (b : Bool) (o : Option Player) → option_map (with_words (words_of p words)) (option_map (λ x. if b then with_words (w.word ∷ []) x else x) o) ≡ option_map (with_words (map (λ (w : RemoteWord). w.word) (cond b (w ∷ filter (λ w. w.player == p) words) (filter (λ w. w.player == p) words)))) o
    both true None = refl
    both false None = refl
    both true (Some x) = λ i. Some (record x { words = append_assoc x.words (w.word ∷ []) (words_of p words) i })
    both false (Some x) = refl

pub length-foretold : (players : List Player) (words : List RemoteWord) → length (foretold players words) ≡ length players
length-foretold players [] = refl
length-foretold players (w ∷ words) = length-foretold (told players w) words ∙ one (player_at players w.player)
  where
    one : (o : Option Player) → length (option_map_or (λ player. set players (w.player - 1) (with_words (w.word ∷ []) player)) o players) ≡ length players
    one None = refl
    one (Some x) = length-set players (w.player - 1) (with_words (w.word ∷ []) x)

-- one word more
pub foretold-more : (players : List Player) (words : List RemoteWord) (k : ℕ) (d : RemoteWord) → k < length words → foretold players (take (k + 1) words) ≡ told (foretold players (take k words)) (get_or words k d)
foretold-more players words k d h = ap (foretold players) (take_more words k d h) ∙ fold-append told players (take k words) (get_or words k d ∷ [])

-- what holds where a word is the next
pub record IsNext (players : List Player) (w : RemoteWord) : Type 0 where
  pub player : Player
  pub at : player_at players w.player ≡ Some player
  pub there : player.gone ≡ false
  pub frame : length player.words ≡ w.frame

pub is_next : (players : List Player) (w : RemoteWord) → first_refusal (next_tests players w) ≡ None → IsNext players w
is_next players w e =
    let tests = all_fail (next_tests players w) e in
    let x = found (λ player. not player.local) players w.player (not-false _ tests.0) in
    record {
      player = x.0;
      at = x.1;
      there = sym (of_player_at (λ player. player.gone) players w.player x.0 x.1) ∙ tests.1.0;
      frame = eqb-true (length x.0.words) w.frame (sym (of_player_at (λ player. length player.words == w.frame) players w.player x.0 x.1) ∙ not-false _ tests.1.1.0);
    }

-- why it is refused, by its player
pub next_is : (players : List Player) (w : RemoteWord) (o : Option Player) → player_at players w.player ≡ o
    → first_refusal (next_tests players w)
    ≡ option_map_or (λ x. if not (not x.local) then Some InvalidPlayer else (if x.gone then Some PlayerDisconnected else (if not (length x.words == w.frame) then Some InvalidRequest else None))) o (Some InvalidPlayer)
next_is players w None e = rw e refl
next_is players w (Some x) e = rw e refl

-- and by the queue that was found
pub next_found : (queues : List Known) (before : List RemoteWord) (w : RemoteWord) (q : Known) → Some q ≡ queue_at queues w.player
    → first_refusal (next_tests (foretold (players_of queues) before) w)
    ≡ (if q.player.local then Some InvalidPlayer else (if q.player.gone then Some PlayerDisconnected else (if length q.player.words + count_by (λ v. v.player == w.player) before == w.frame then None else Some InvalidRequest)))
next_found queues before w q e =
    let found = queue_found queues w.player q e in
    let after = foretold_at (players_of queues) before w.player ∙ ap (option_map (with_words (words_of w.player before))) found.player in
    let count : length (q.player.words ++ words_of w.player before) ≡ length q.player.words + count_by (λ v. v.player == w.player) before = omega (arith, length-append q.player.words (words_of w.player before), length-words_of w.player before) in
    next_is (foretold (players_of queues) before) w (Some (with_words (words_of w.player before) q.player)) after
    ∙ rw count (by_tests q.player.local q.player.gone (length q.player.words + count_by (λ v. v.player == w.player) before == w.frame))
  where
    by_tests : (l g f : Bool)
        → (if not (not l) then Some InvalidPlayer else (if g then Some PlayerDisconnected else (if not f then Some InvalidRequest else None)))
        ≡ (if l then Some InvalidPlayer else (if g then Some PlayerDisconnected else (if f then None else Some InvalidRequest)))
    by_tests true g f = refl
    by_tests false true f = refl
    by_tests false false true = refl
    by_tests false false false = refl

pub next_missing : (queues : List Known) (before : List RemoteWord) (w : RemoteWord) → None ≡ queue_at queues w.player → first_refusal (next_tests (foretold (players_of queues) before) w) ≡ Some InvalidPlayer
next_missing queues before w e =
    let none : player_at (players_of queues) w.player ≡ None = sym (queue_at-player queues w.player) ∙ ap (option_map (λ (q : Known). q.player)) (sym e) in
    next_is (foretold (players_of queues) before) w None (foretold_at (players_of queues) before w.player ∙ ap (option_map (with_words (words_of w.player before))) none)

-- the tests of each word are behind that of their number
pub each_of : (players : List Player) (words : List RemoteWord) → foretold_refusal players words ≡ None → first_refusal (each_tests players words) ≡ None
each_of players words e = let tests = all_fail (foretold_tests players words) e in sym (first_refusal-behind (take 1 (foretold_tests players words)) (each_tests players words) (tests.0, tt)) ∙ e

-- the tests from a word on
pub each_front : (players : List Player) (words : List RemoteWord) → first_refusal (each_tests players words) ≡ None → (k : ℕ) (d : RemoteWord) → k < length words → first_refusal (next_tests (foretold players (take k words)) (get_or words k d)) ≡ None
each_front players [] e k d h = absurd (omega arith)
each_front players (w ∷ words) e zero d h = first_refusal-front (next_tests players w) (each_tests (told players w) words) e
each_front players (w ∷ words) e (suc k) d h =
    let first = all_fail (next_tests players w) (first_refusal-front (next_tests players w) (each_tests (told players w) words) e) in
    each_front (told players w) words (sym (first_refusal-behind (next_tests players w) (each_tests (told players w) words) first) ∙ e) k d (omega arith)

-- the tests of all words, of which those before one fail
module _ (players : List Player) (words : List RemoteWord) (k : ℕ) (d : RemoteWord) (h : k < length words)
    (same : first_refusal (each_tests players words) ≡ first_refusal (each_tests (foretold players (take k words)) (drop k words))) where
  abbrev told_here : List Player
  told_here = foretold players (take k words)

  from_here : first_refusal (each_tests players words) ≡ first_refusal (next_tests told_here (get_or words k d) ++ each_tests (told told_here (get_or words k d)) (drop (k + 1) words))
  from_here = same ∙ ap (λ (ws : List RemoteWord). first_refusal (each_tests told_here ws)) (drop_more words k d h)

  abbrev after : List (Bool × Refusal)
  after = each_tests (told told_here (get_or words k d)) (drop (k + 1) words)

  pub each_stops : (o : Option Refusal) → o ≡ first_refusal (next_tests told_here (get_or words k d)) → is_some o ≡ true → o ≡ first_refusal (each_tests players words)
  each_stops o e some = is_first (next_tests told_here (get_or words k d)) after o e some ∙ sym from_here

  pub each_goes : (o : Option Refusal) → o ≡ first_refusal (next_tests told_here (get_or words k d)) → is_some o ≡ false → first_refusal (each_tests players words) ≡ first_refusal (each_tests (foretold players (take (k + 1) words)) (drop (k + 1) words))
  each_goes o e none =
      from_here ∙ is_behind (next_tests told_here (get_or words k d)) after o e none
      ∙ ap (λ (ps : List Player). first_refusal (each_tests ps (drop (k + 1) words))) (sym (foretold-more players words k d h))

-- a number of words that may be
pub some_few : (n limit : ℕ) → 1 ≤ n → n ≤ limit → is_in_range 1 limit n ≡ true
some_few n limit some few = and_from (nat_le 1 n) (nat_le n limit) (le-leb 1 n some) (le-leb n limit few)

-- what is changed was there
was_there : (f : Player → Player) (o : Option Player) (x : Player) → option_map f o ≡ Some x → (y : Player) × (o ≡ Some y) × (f y ≡ x)
was_there f None x e = absurd (none-some x e)
was_there f (Some y) x e = (y, refl, same_Some (f y) x e)

-- words that are told in their order, and one of them
module _ (queues : List Known) (words : List RemoteWord) (fine : first_refusal (each_tests (players_of queues) words) ≡ None) (k t : ℕ) (d : RemoteWord) (h : k < length words) where
  abbrev before : List Player
  before = foretold (players_of queues) (take k words)

  abbrev here : RemoteWord
  here = get_or words k d

  next : IsNext before here
  next = is_next before here (each_front (players_of queues) words fine k d h)

  at : IsAt before here.player next.player
  at = is_at before here.player next.player next.at

  pub told-some : 1 ≤ here.player
  told-some = at.some

  pub told-within : here.player - 1 < length queues
  told-within = omega (arith, at.within, length-foretold (players_of queues) (take k words), length-map queues (λ (q : Known). q.player))

  pub told-cell : (cells : List Cell) → cells ≡ row_at before t → here.player - 1 < length cells
  told-cell cells row = omega (arith, at.within, ap (λ (cs : List Cell). length cs) row, length-map before (cell_at t))

  mask_is : (q : Known) → q ≡ get_or queues (here.player - 1) q → next.player.mask ≡ q.player.mask
  mask_is q is =
      let y = was_there (with_words (words_of here.player (take k words))) (player_at (players_of queues) here.player) next.player (sym (foretold_at (players_of queues) (take k words) here.player) ∙ next.at) in
      sym (ap (λ (x : Player). x.mask) y.2) ∙ ap (λ (x : Player). x.mask) (sym (queue_is queues here.player y.0 q y.1 is told-within))

  -- it changes its player's cell
  pub told-cells : (q : Known) (cells : List Cell) (new other : Cell) → q ≡ get_or queues (here.player - 1) q → cells ≡ row_at before t
      → ((player : Player) → player.mask ≡ q.player.mask → player.gone ≡ false → length player.words ≡ here.frame → get_or cells (here.player - 1) other ≡ cell_at t player → new ≡ cell_at t (with_words (here.word ∷ []) player))
      → set cells (here.player - 1) new ≡ row_at (foretold (players_of queues) (take (k + 1) words)) t
  told-cells q cells new other is row made =
      let there : slice_get (row_at before t) (here.player - 1) ≡ Some (cell_at t next.player) = slice_get-map (cell_at t) before (here.player - 1) ∙ ap (option_map (cell_at t)) at.there in
      let old : get_or cells (here.player - 1) other ≡ cell_at t next.player = ap (λ (cs : List Cell). get_or cs (here.player - 1) other) row ∙ get_or_from_slice_get (row_at before t) (here.player - 1) (cell_at t next.player) other there in
      let cell : new ≡ cell_at t (with_words (here.word ∷ []) next.player) = made next.player (mask_is q is) next.there next.frame old in
      (λ i. set (row i) (here.player - 1) (cell i)) ∙ row_changed (with_words (here.word ∷ [])) before here.player t next.player next.at
      ∙ ap (λ (ps : List Player). row_at ps t) (sym (foretold-more (players_of queues) words k d h))
