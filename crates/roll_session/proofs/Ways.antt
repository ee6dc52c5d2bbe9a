-- A roll in progress, one state at a time.
use Rattle.std.proofs.Common.{◌≡◌, ℕ, ◌+◌, ◌-◌, ◌^◌, ◌<◌, ◌≤◌, List, [], ◌∷◌, ◌++◌, length, take, refl, ap, sym, subst, ◌∙◌, arith, Bool, true, false, max, Some, None, add-one, append-nil, append_assoc}
use Rattle.std.specs.Prelude.{◌==◌, IfSome, IsSomeAnd}
use Rattle.std.proofs.lemmas.Bool.{false_from_ne_true}
use Rattle.std.proofs.lemmas.List.{length-append, map-append}
use Rattle.std.proofs.lemmas.List.Elements.{All-push}
use Rattle.std.proofs.lemmas.List.Sums.{fold_push}
use Rattle.roll_frame.specs.declared.limits.TheConstants.{PATH_LIMIT, TREE_LIMIT}
use Rattle.roll_frame.specs.declared.row.Cell.{Cell}
use Rattle.roll_frame.specs.Cells.{Rows}
use Rattle.roll_frame.specs.Games.{Value}
use Rattle.roll_frame.specs.Paths.{begins_with, contains, longest, prefixes, run}
use Rattle.roll_frame.specs.Timeline.{row_at, timeline}
use Rattle.roll_frame.proofs.Beginnings.{begins}
use Rattle.roll_tree.specs.SavedStates.{CanGrow, SavedStates, Saved, state_named, paths_of, with_state}
use Rattle.roll_laws.proofs.Saved.{has_in, longest_at_least}
use Rattle.roll_session.specs.Saves.{HaveValues, Standing, rows_to, deepest_toward}
use Rattle.roll_session.specs.Standing.{rows_from}
use Rattle.roll_session.specs.Ways.{IsGoing, next_state}
use Rattle.roll_session.specs.declared.way.Way.{Way}
use Rattle.roll_session.proofs.Rows.{length-rows_from, take-rows_from}
use Rattle.roll_session.proofs.Rolling.{all_held, held_last, held_same, if_some, next_rows, prefixes_more, some_is, some_there, whole}

-- one path more that these rows begin with
longest_more : (ps : List Rows) (q R : Rows) → begins_with R q ≡ true → longest (ps ++ q ∷ []) R ≡ max (longest ps R) (length q)
longest_more [] q R b = rw b (omega arith)
longest_more (x ∷ xs) q R b = go (begins_with R x) refl (longest_more xs q R b)
  where
    go : (t : Bool) → begins_with R x ≡ t → longest (xs ++ q ∷ []) R ≡ max (longest xs R) (length q) → longest (x ∷ xs ++ q ∷ []) R ≡ max (longest (x ∷ xs) R) (length q)
    go true e h = rw (e, h) (omega arith)
    go false e h = rw (e, h) refl

-- where a roll begins
pub stands : {S : Type 0} (s : Standing S) (way : Way) → s.tree.base ≡ s.inputs.settled → way.to ≤ s.inputs.settled + PATH_LIMIT → way.to ≤ s.inputs.settled + length s.tree.time → way.frame ≡ s.inputs.settled + deepest_toward s way.to → way.frame ≤ way.to
    → IsSomeAnd (state_named s.tree way.at) (λ u. u.path ≡ rows_from s.inputs.players s.inputs.settled (deepest_toward s way.to)) → length s.tree.states + (way.to - s.inputs.settled - deepest_toward s way.to) ≤ TREE_LIMIT → IsGoing s way
stands s way base near told deepest within here fits =
    let place : deepest_toward s way.to ≡ way.frame - s.inputs.settled = omega (arith, deepest) in
    record {
      base = base;
      within = within;
      near = near;
      told = told;
      deepest = deepest;
      here = subst (λ n. IsSomeAnd (state_named s.tree way.at) (λ u. u.path ≡ rows_from s.inputs.players s.inputs.settled n)) place here;
      fits = omega (arith, deepest, fits);
    }

module _ {S : Type 0} (s : Standing S) (way : Way) (g : IsGoing s way) where
  pub is_past : s.inputs.settled ≤ way.to
  is_past = omega (arith, g.deepest, g.within)

  pub place_is : way.frame - s.inputs.settled ≡ deepest_toward s way.to
  place_is = omega (arith, g.deepest)

module _ {S : Type 0} (s : Standing S) (way : Way) (g : IsGoing s way) (more : way.frame < way.to) where
  low : s.inputs.settled ≤ way.frame
  low = omega (arith, g.deepest)

  -- the path of the next state
  abbrev next : Rows
  next = rows_from s.inputs.players s.inputs.settled (way.frame + 1 - s.inputs.settled)

  long : length next ≡ way.frame + 1 - s.inputs.settled
  long = length-rows_from s.inputs.players s.inputs.settled (way.frame + 1 - s.inputs.settled)

  begun : begins_with (rows_to s.inputs way.to) next ≡ true
  begun = begins (rows_to s.inputs way.to) next (sym (ap (λ k. take k (rows_to s.inputs way.to)) long ∙ take-rows_from s.inputs.players s.inputs.settled (way.to - s.inputs.settled) (way.frame + 1 - s.inputs.settled) (omega (arith, low, more))))

  not_there : contains (paths_of s.tree) next ≡ false
  not_there = false_from_ne_true (contains (paths_of s.tree) next) (λ e. omega (arith, long, low, g.deepest, longest_at_least (paths_of s.tree) (rows_to s.inputs way.to) next (has_in (paths_of s.tree) next e) begun))

  path_is : (u : Saved S) → state_named s.tree way.at ≡ Some u → u.path ≡ rows_from s.inputs.players s.inputs.settled (way.frame - s.inputs.settled)
  path_is u e =
      let x = some_is (state_named s.tree way.at) (λ v. v.path ≡ rows_from s.inputs.players s.inputs.settled (way.frame - s.inputs.settled)) g.here in
      ap (λ (v : Saved S). v.path) (held_same (state_named s.tree way.at) u x.0 e x.1) ∙ x.2

  -- it fits
  pub can_go : (row : List Cell) → way.to < 2 ^ 32 → row ≡ row_at s.inputs.players way.frame → CanGrow s.tree way.at row
  can_go row wide row_is =
      let x = some_is (state_named s.tree way.at) (λ v. v.path ≡ rows_from s.inputs.players s.inputs.settled (way.frame - s.inputs.settled)) g.here in
      let count = length-rows_from s.inputs.players s.inputs.settled (way.frame - s.inputs.settled) in
      record {
        kept = some_there (state_named s.tree way.at) x.0 x.1;
        short = λ u e. omega (arith, ap length (path_is u e), count, g.near, low, more);
        frames = λ u e. omega (arith, ap length (path_is u e), count, g.base, wide, low, more);
        fresh = λ u e. rw (path_is u e, row_is, next_rows s.inputs.players s.inputs.settled way.frame low) not_there;
      }

  -- it is saved
  pub is_added : (new : SavedStates S) (row : List Cell) (name : ℕ) (snapshot : S) → row ≡ row_at s.inputs.players way.frame
      → IfSome (state_named s.tree way.at) (λ u. new ≡ with_state s.tree (record { name = name; path = u.path ++ row ∷ []; snapshot = snapshot }))
      → new ≡ with_state s.tree (next_state s way.frame name snapshot)
  is_added new row name snapshot row_is added =
      let x = some_is (state_named s.tree way.at) (λ v. v.path ≡ rows_from s.inputs.players s.inputs.settled (way.frame - s.inputs.settled)) g.here in
      let path : x.0.path ++ row ∷ [] ≡ next = rw (x.2, row_is) (next_rows s.inputs.players s.inputs.settled way.frame low) in
      if_some (state_named s.tree way.at) x.0 (λ u. new ≡ with_state s.tree (record { name = name; path = u.path ++ row ∷ []; snapshot = snapshot })) x.1 added
      ∙ ap (λ (q : Rows). with_state s.tree (record { name = name; path = q; snapshot = snapshot })) path

  -- and the roll stands there
  pub goes_on : (new : Standing S) (after : Way) (snapshot : S) → after.frame ≡ way.frame + 1 → after.to ≡ way.to → new.inputs ≡ s.inputs → state_named s.tree after.at ≡ None → new.tree ≡ with_state s.tree (next_state s way.frame after.at snapshot) → IsGoing new after
  goes_on new after snapshot frame to inputs vacant tree =
      let u : Saved S = next_state s way.frame after.at snapshot in
      let paths : paths_of new.tree ≡ paths_of s.tree ++ next ∷ [] = ap paths_of tree ∙ map-append (λ (v : Saved S). v.path) s.tree.states (u ∷ []) in
      let count : length new.tree.states ≡ length s.tree.states + 1 = ap (λ (t : SavedStates S). length t.states) tree ∙ length-append s.tree.states (u ∷ []) in
      let deep : longest (paths_of s.tree ++ next ∷ []) (rows_to s.inputs way.to) ≡ max (deepest_toward s way.to) (length next) = longest_more (paths_of s.tree) next (rows_to s.inputs way.to) begun in
      record {
        base = ap (λ (t : SavedStates S). t.base) tree ∙ g.base ∙ sym (ap (λ i. i.settled) inputs);
        within = omega (arith, frame, to, more);
        near = rw (to, inputs) g.near;
        told = rw (to, inputs, ap (λ (t : SavedStates S). t.time) tree) g.told;
        deepest = rw (frame, to, inputs, paths) (omega (arith, deep, long, low, g.deepest));
        here = rw (tree, frame, inputs, held_last s.tree u vacant) refl;
        fits = omega (arith, count, frame, to, more, g.fits);
      }

-- how many states are saved when a roll that began at a frame has come to another
pub record IsLonger {S : Type 0} (old now : Standing S) (from to frame : ℕ) : Type 0 where
  pub inputs : now.inputs ≡ old.inputs
  pub room : now.room ≡ old.room
  pub paths : paths_of now.tree ≡ paths_of old.tree ++ prefixes (rows_to old.inputs to) (deepest_toward old to) (frame - from)

pub longer_start : {S : Type 0} (old : Standing S) (from to : ℕ) → IsLonger old old from to from
longer_start old from to =
    let none : from - from ≡ 0 = omega arith in
    record { inputs = refl; room = refl; paths = rw none (sym (append-nil (paths_of old.tree))) }

pub longer_more : {S : Type 0} (old now new : Standing S) (from to frame name : ℕ) (snapshot : S) → from ≡ old.inputs.settled + deepest_toward old to → IsLonger old now from to frame → from ≤ frame → frame < to → new.inputs ≡ now.inputs → new.room ≡ now.room → new.tree ≡ with_state now.tree (next_state now frame name snapshot) → IsLonger old new from to (frame + 1)
longer_more {S} old now new from to frame name snapshot start w low high inputs room tree =
    let u : Saved S = next_state now frame name snapshot in
    let path : u.path ≡ rows_from old.inputs.players old.inputs.settled (frame + 1 - old.inputs.settled) = rw w.inputs refl in
    record {
      inputs = inputs ∙ w.inputs;
      room = room ∙ w.room;
      paths = ap paths_of tree ∙ map-append (λ (v : Saved S). v.path) now.tree.states (u ∷ []) ∙ rw (w.paths, path, prefixes_more old.inputs.players old.inputs.settled to (deepest_toward old to) from frame start low high) (append_assoc (paths_of old.tree) (prefixes (rows_to old.inputs to) (deepest_toward old to) (frame - from)) (rows_from old.inputs.players old.inputs.settled (frame + 1 - old.inputs.settled) ∷ []));
    }

-- what is saved, and the state, when a roll that began at a frame has come to another
pub record IsGrown {S : Type 0} (value : S → Value) (step : Value → List Cell → Value) (old now : Standing S) (from to frame : ℕ) (state : Value) : Type 0 where
  pub longer : IsLonger old now from to frame
  pub values : (opening : Value) → HaveValues value step opening (timeline old.inputs.players old.inputs.settled) old.tree.states → HaveValues value step opening (timeline old.inputs.players old.inputs.settled) now.tree.states
  pub reached : (opening : Value) → HaveValues value step opening (timeline old.inputs.players old.inputs.settled) old.tree.states → state ≡ run step opening (timeline old.inputs.players frame)

module _ {S : Type 0} (value : S → Value) (step : Value → List Cell → Value) (old : Standing S) (way : Way) (g : IsGoing old way) where
  -- the state that the roll starts from
  pub grown_start : (snapshot : S) (state : Value) → IsSomeAnd (state_named old.tree way.at) (λ u. u.snapshot ≡ snapshot) → state ≡ value snapshot → IsGrown value step old old way.frame way.to way.frame state
  grown_start snapshot state found loaded =
      let none : way.frame - way.frame ≡ 0 = omega arith in
      let x = some_is (state_named old.tree way.at) (λ u. u.path ≡ rows_from old.inputs.players old.inputs.settled (way.frame - old.inputs.settled)) g.here in
      let y = some_is (state_named old.tree way.at) (λ u. u.snapshot ≡ snapshot) found in
      let same : x.0.snapshot ≡ snapshot = ap (λ (v : Saved S). v.snapshot) (held_same (state_named old.tree way.at) x.0 y.0 x.1 y.1) ∙ y.2 in
      record {
        longer = longer_start old way.frame way.to;
        values = λ opening h. h;
        reached = λ opening h. loaded ∙ ap value (sym same) ∙ (all_held (λ u. value u.snapshot ≡ run step opening (timeline old.inputs.players old.inputs.settled ++ u.path)) (λ u. u.name == way.at) old.tree.states x.0 h x.1 ∙ ap (run step opening) (ap (λ (q : Rows). timeline old.inputs.players old.inputs.settled ++ q) x.2 ∙ whole old.inputs.players old.inputs.settled way.frame (omega (arith, g.deepest))));
      }

  -- one frame more
  pub grown_more : (now new : Standing S) (frame name : ℕ) (state state' : Value) (snapshot : S) (row : List Cell) → IsGrown value step old now way.frame way.to frame state → way.frame ≤ frame → frame < way.to → row ≡ row_at now.inputs.players frame → state' ≡ step state row → value snapshot ≡ step state row
      → new.inputs ≡ now.inputs → new.room ≡ now.room → new.tree ≡ with_state now.tree (next_state now frame name snapshot)
      → IsGrown value step old new way.frame way.to (frame + 1) state'
  grown_more now new frame name state state' snapshot row w low high row_is state_is snap inputs room tree =
      let u : Saved S = next_state now frame name snapshot in
      let path : u.path ≡ rows_from old.inputs.players old.inputs.settled (frame + 1 - old.inputs.settled) = rw w.longer.inputs refl in
      let led : (opening : Value) → HaveValues value step opening (timeline old.inputs.players old.inputs.settled) old.tree.states → step state row ≡ run step opening (timeline old.inputs.players (frame + 1)) =
      λ opening h. rw (w.reached opening h, row_is, w.longer.inputs, add-one) (sym (fold_push step opening (timeline old.inputs.players frame) (row_at old.inputs.players frame))) in
      record {
        longer = longer_more old now new way.frame way.to frame name snapshot g.deepest w.longer low high inputs room tree;
        values = λ opening h. rw tree (All-push (λ v. value v.snapshot ≡ run step opening (timeline old.inputs.players old.inputs.settled ++ v.path)) now.tree.states u (w.values opening h) (snap ∙ led opening h ∙ ap (run step opening) (sym (ap (λ (q : Rows). timeline old.inputs.players old.inputs.settled ++ q) path ∙ whole old.inputs.players old.inputs.settled (frame + 1) (omega (arith, low, g.deepest))))));
        reached = λ opening h. state_is ∙ led opening h;
      }
