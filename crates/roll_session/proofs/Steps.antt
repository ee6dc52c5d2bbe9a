-- The timeline and the saved states after each step.
use Rattle.std.proofs.Common.{◌≡◌, ℕ, ◌+◌, ◌-◌, ◌≤◌, List, [], ◌∷◌, ◌++◌, length, map, take, drop, min, refl, ap, sym, subst, ◌∙◌, arith, cond, Option, Some, None}
use Rattle.std.specs.Prelude.{IfSome, IsSomeAnd, filter, slice_set}
use Rattle.std.specs.Option.{option_map_or}
use Rattle.std.proofs.lemmas.List.{length-set}
use Rattle.roll_frame.specs.Cells.{Rows}
use Rattle.roll_frame.specs.Paths.{begins_with, longest}
use Rattle.roll_frame.specs.Timeline.{Player, front, timeline}
use Rattle.roll_frame.specs.Inputs.{changed, player_at}
use Rattle.roll_inputs.specs.Boards.{Inputs, KeepsCells, count_of}
use Rattle.roll_tree.specs.SavedStates.{SavedStates, Saved, state_named, later, paths_of, time_to}
use Rattle.roll_tree.specs.Marks.{AreSameBut}
use Rattle.roll_frame.proofs.Beginnings.{longest_within, begins}
use Rattle.roll_session.specs.Saves.{IsInStep, Standing, settled_by, settling}
use Rattle.roll_session.specs.Standing.{rows_from}
use Rattle.roll_session.specs.declared.saves.Saves.TheInside.{Inside}
use Rattle.roll_session.proofs.Retold.{same_but}
use Rattle.roll_session.proofs.Rows.{drop-rows_from, length-rows_from, rows_from-none, settled-rows_from, take-rows_from}

some_and : {A : Type 0} (o : Option A) (P Q : A → Type 0) → ((x : A) → P x → Q x) → IsSomeAnd o P → IsSomeAnd o Q
some_and None P Q f h = h
some_and (Some x) P Q f h = f x h

-- a change of one player leaves as many
pub length_changed : (change : Player → Player) (players : List Player) (p : ℕ) → length (changed change players p) ≡ length players
length_changed change players p = go (player_at players p)
  where
    go : (o : Option Player) → length (option_map_or (λ player. slice_set players (p - 1) (change player)) o players) ≡ length players
    go None = refl
    go (Some x) = length-set players (p - 1) (change x)

module _ {S : Type 0} where
  -- what a tree was told but for one player's later cells
  pub still_told : (s : Inside S) (new : Inputs) (p : ℕ) → IsInStep s → KeepsCells s.board.players new.players p → AreSameBut p (count_of s.board.players p) s.board.settled s.tree.time (rows_from new.players s.board.settled (length s.tree.time))
  still_told s new p i keeps =
      subst (λ (time : Rows). AreSameBut p (count_of s.board.players p) s.board.settled time (rows_from new.players s.board.settled (length s.tree.time))) (sym i.told)
      (same_but s.board.players new.players p s.board.settled (length s.tree.time) keeps)

  -- after an input, where the tree was told the timeline again
  pub retold : (s : Inside S) (new : Inputs) (t : SavedStates S) → IsInStep s → new.settled ≡ s.board.settled → new.frame ≡ s.board.frame → length new.players ≡ length s.board.players → timeline new.players s.board.settled ≡ timeline s.board.players s.board.settled
      → t.base ≡ s.tree.base → t.time ≡ rows_from new.players new.settled (length s.tree.time) → IsInStep (record { board = new; past = s.past; tree = t })
  retold s new t i settled frame wide rows base time =
      record {
        past = rw settled (i.past ∙ sym rows);
        wide = i.wide ∙ sym wide;
        base = base ∙ i.base ∙ sym settled;
        told = let long = ap length time ∙ length-rows_from new.players new.settled (length s.tree.time) in rw long time;
        room = rw frame i.room;
      }

  -- a tree that is settled at the state of this name and path
  abbrev pub settled_with : SavedStates S → ℕ → Rows → SavedStates S
  settled_with t node q = record { base = t.base + length q; root = node; time = drop (length q) t.time; states = map (later (length q)) (filter (λ u. begins_with u.path q) t.states) }

  module _ (t : SavedStates S) (players : List Player) (s to : ℕ) (base : t.base ≡ s) (told : t.time ≡ rows_from players s (length t.time)) (from : s ≤ to) (far : to ≤ s + length t.time) where
    -- the rows that a tree was told, up to a frame
    pub time_is : time_to t to ≡ rows_from players s (to - s)
    time_is = rw base (ap (take (to - s)) told ∙ take-rows_from players s (length t.time) (to - s) (omega (arith, far)))

    -- how far its paths begin them
    pub longest_there : s + longest (paths_of t) (time_to t to) ≤ to
    longest_there =
        let short = longest_within (paths_of t) (time_to t to) in
        omega (arith, short, ap length time_is, length-rows_from players s (to - s), from)

    first_rows : take (longest (paths_of t) (time_to t to)) (time_to t to) ≡ rows_from players s (longest (paths_of t) (rows_from players s (to - s)))
    first_rows = rw time_is (take-rows_from players s (to - s) (longest (paths_of t) (rows_from players s (to - s))) (omega (arith, longest_within (paths_of t) (rows_from players s (to - s)), length-rows_from players s (to - s))))

    -- the first rows that it was told, up to the deepest state
    pub first_told : take (longest (paths_of t) (time_to t to)) t.time ≡ rows_from players s (longest (paths_of t) (rows_from players s (to - s)))
    first_told =
        let n : ℕ = longest (paths_of t) (rows_from players s (to - s)) in
        ap (λ (q : Rows). take (longest (paths_of t) q) t.time) time_is
        ∙ ap (take n) told
        ∙ take-rows_from players s (length t.time) n (omega (arith, far, longest_within (paths_of t) (rows_from players s (to - s)), length-rows_from players s (to - s)))

    -- the rows of the deepest state on the timeline
    pub deepest_is : (node : ℕ) → IsSomeAnd (state_named t node) (λ u. u.path ≡ take (longest (paths_of t) (time_to t to)) (time_to t to)) → IsSomeAnd (state_named t node) (λ u. u.path ≡ rows_from players s (longest (paths_of t) (rows_from players s (to - s))))
    deepest_is node h = some_and (state_named t node) (λ u. u.path ≡ take (longest (paths_of t) (time_to t to)) (time_to t to)) (λ u. u.path ≡ rows_from players s (longest (paths_of t) (rows_from players s (to - s)))) (λ u e. e ∙ first_rows) h

    pub told_is : (node : ℕ) → IsSomeAnd (state_named t node) (λ u. u.path ≡ rows_from players s (longest (paths_of t) (rows_from players s (to - s)))) → IsSomeAnd (state_named t node) (λ u. u.path ≡ take (longest (paths_of t) (time_to t to)) (time_to t to))
    told_is node h = some_and (state_named t node) (λ u. u.path ≡ rows_from players s (longest (paths_of t) (rows_from players s (to - s)))) (λ u. u.path ≡ take (longest (paths_of t) (time_to t to)) (time_to t to)) (λ u e. e ∙ sym first_rows) h

  -- the deepest state on the timeline's way to a frame: its frame, and its rows
  pub record IsDeepest (players : List Player) (s to : ℕ) (t : SavedStates S) (node end n : ℕ) : Type 0 where
    pub end_is : end ≡ s + n
    pub within : s + n ≤ to
    pub rows : take n t.time ≡ rows_from players s n
    pub path : IsSomeAnd (state_named t node) (λ u. u.path ≡ rows_from players s n)

  -- of a tree that was told the timeline so far
  pub deepest_told : (players : List Player) (s to : ℕ) (was t : SavedStates S) (node end : ℕ) → was.base ≡ s → t ≡ record was { time = t.time } → t.time ≡ rows_from players s (length t.time) → s ≤ to → to ≤ s + length t.time
      → IsSomeAnd (state_named t node) (λ u. u.path ≡ take (longest (paths_of t) (time_to t to)) (time_to t to)) → end ≡ t.base + longest (paths_of t) (time_to t to)
      → IsDeepest players s to t node end (longest (paths_of was) (rows_from players s (to - s)))
  deepest_told players s to was t node end is same told from far path length_is =
      let base : t.base ≡ s = ap (λ (k : SavedStates S). k.base) same ∙ is in
      let paths : paths_of t ≡ paths_of was = ap paths_of same in
      let there = longest_there t players s to base told from far in
      subst (λ (ps : List Rows). IsDeepest players s to t node end (longest ps (rows_from players s (to - s)))) paths
      (record {
        end_is = length_is ∙ (ap (λ k. k + longest (paths_of t) (time_to t to)) base ∙ ap (λ (q : Rows). s + longest (paths_of t) q) (time_is t players s to base told from far));
        within = subst (λ (q : Rows). s + longest (paths_of t) q ≤ to) (time_is t players s to base told from far) there;
        rows = ap (λ (q : Rows). take (longest (paths_of t) q) t.time) (sym (time_is t players s to base told from far)) ∙ first_told t players s to base told from far;
        path = deepest_is t players s to base told from far node path;
      })

  -- a tree that was settled at the state of a path
  pub settled_at : (t new : SavedStates S) (node : ℕ) (q : Rows) → IsSomeAnd (state_named t node) (λ u. u.path ≡ q) → IfSome (state_named t node) (λ u. new ≡ settled_with t node u.path) → new ≡ settled_with t node q
  settled_at t new node q = go (state_named t node)
    where
      go : (o : Option (Saved S)) → IsSomeAnd o (λ u. u.path ≡ q) → IfSome o (λ u. new ≡ settled_with t node u.path) → new ≡ settled_with t node q
      go None h e = absurd h
      go (Some u) h e = e ∙ ap (settled_with t node) h

  -- after some rows were settled
  pub settled_step : (s new : Inside S) (n k : ℕ) → IsInStep s → new.board ≡ record s.board { settled = s.board.settled + n } → new.past ≡ record s.past { rows = s.past.rows ++ rows_from s.board.players s.board.settled n }
      → new.tree.base ≡ s.board.settled + n → new.tree.time ≡ drop n (rows_from s.board.players s.board.settled k) → IsInStep new
  settled_step s new n k i board past base time =
      let rest = time ∙ drop-rows_from s.board.players s.board.settled k n in
      let long = ap length rest ∙ length-rows_from s.board.players (s.board.settled + n) (k - n) in
      record {
        past = rw (board, past) (ap (λ (q : Rows). q ++ rows_from s.board.players s.board.settled n) i.past ∙ settled-rows_from s.board.players s.board.settled n);
        wide = rw (board, past) i.wide;
        base = rw board base;
        told = rw (board, long) rest;
        room = rw (board, past) i.room;
      }

  -- where the timeline is settled as far as it can be, nothing settles
  pub nothing_settles : (st : Standing S) → min (front st.inputs.players) st.inputs.frame ≡ st.inputs.settled → settling st ≡ 0
  nothing_settles st e =
      let to = min (front st.inputs.players) st.inputs.frame in
      omega (arith, longest_within (paths_of st.tree) (rows_from st.inputs.players st.inputs.settled (to - st.inputs.settled)), length-rows_from st.inputs.players st.inputs.settled (to - st.inputs.settled), e)

  -- and the states stay
  pub none_settled : (st : Standing S) → settled_by st 0 ≡ st.tree.states
  none_settled st = ap (λ (q : Rows). map (later 0) (filter (λ u. begins_with u.path q) st.tree.states)) (rows_from-none st.inputs.players st.inputs.settled) ∙ stay st.tree.states
    where
      stay : (states : List (Saved S)) → map (later 0) (filter (λ u. begins_with u.path []) states) ≡ states
      stay [] = refl
      stay (u ∷ states) =
          ap (λ b. map (later 0) (cond b (u ∷ filter (λ v. begins_with v.path []) states) (filter (λ v. begins_with v.path []) states))) (begins u.path [] refl) ∙ ap (λ (l : List (Saved S)). u ∷ l) (stay states)
