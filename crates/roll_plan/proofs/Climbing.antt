-- From a state of a tree up to its root: the names on the way.
use Rattle.std.proofs.Common.{◌≡◌, ℕ, ◌+◌, ◌-◌, ◌≤◌, ◌<◌, List, [], ◌∷◌, ◌++◌, length, length-append, length-take, take, get_or, Bool, true, false, cond, eqb, ltb, refl, sym, ap, subst, ◌∙◌, arith, Option, Some, None}
use Rattle.std.specs.Prelude.{All, IfSome, IsSome, IsSomeAnd, option_map}
use Rattle.std.specs.List.{AllByRecursion, find}
use Rattle.std.specs.List.Sorted.{IsPermutation}
use Rattle.std.specs.Option.{option_map_or}
use Rattle.std.proofs.lemmas.Bool.{false≢true, ltb-false, ltb-true}
use Rattle.std.proofs.lemmas.List.{length-map, take-take}
use Rattle.std.proofs.lemmas.List.Elements.{recursion_from_All}
use Rattle.std.proofs.lemmas.Option.{none-some, same_Some}
use Rattle.std.proofs.Math.ListN.{get_or-append}
use Rattle.std.proofs.Math.Seq.{get_or-append_seam, take-append_seam, take-length}
use Rattle.roll_frame.specs.declared.limits.TheConstants.{PATH_LIMIT}
use Rattle.roll_frame.specs.Cells.{Rows}
use Rattle.roll_frame.specs.Paths.{contains}
use Rattle.roll_laws.proofs.Saved.{has_in}
use Rattle.roll_tree.specs.SavedStates.{SavedStates, Saved, state_named, paths_of, IsAbove, IsClosed}
use Rattle.roll_tree.specs.declared.tree.Above.{Above}
use Rattle.roll_plan.specs.Ranks.{IsKept, IsWay, path_named}
use Rattle.roll_plan.specs.Spelled.{beginnings}
use Rattle.roll_plan.proofs.Beginnings.{are_beginnings}

module _ {S : Type 0} (t : SavedStates S) where
  -- the state of a name that is kept
  record IsHeld (name : ℕ) : Type 0 where
    state : Saved S
    named : state_named t name ≡ Some state

  held : (name : ℕ) → IsKept t name → IsHeld name
  held name kept = go (state_named t name) refl
    where
      go : (o : Option (Saved S)) → state_named t name ≡ o → IsHeld name
      go None e = absurd (false≢true (sym (ap (λ (o : Option (Saved S)). is_there o) e) ∙ kept))
        where
          is_there : Option (Saved S) → Bool
          is_there None = false
          is_there (Some _) = true
      go (Some s) e = record { state = s; named = e }

  path_held : (name : ℕ) (s : Saved S) → state_named t name ≡ Some s → path_named t name ≡ s.path
  path_held name s named = ap (λ (o : Option (Saved S)). option_map_or (λ u. u.path) o []) named

  -- the length of a kept path, from frame 0
  pub end_is : (name end : ℕ) → IsKept t name → option_map (λ s. t.base + length s.path) (state_named t name) ≡ Some end → end ≡ t.base + length (path_named t name)
  end_is name end kept e =
      let h = held name kept in
      same_Some _ _ (sym e ∙ ap (option_map (λ s. t.base + length s.path)) h.named) ∙ ap (λ (p : Rows). t.base + length p) (sym (path_held name h.state h.named))

  of_found : (P : Saved S → Type 0) (states : List (Saved S)) (name : ℕ) (u : Saved S) → AllByRecursion P states → find (λ s. eqb s.name name) states ≡ Some u → P u
  of_found P [] name u all e = absurd (none-some u e)
  of_found P (s ∷ states) name u all e = go (eqb s.name name) refl (of_found P states name u all.1)
    where
      go : (b : Bool) → eqb s.name name ≡ b → (find (λ x. eqb x.name name) states ≡ Some u → P u) → P u
      go true is rest = subst P (same_Some _ _ (sym (ap (λ b. cond b (Some s) (find (λ x. eqb x.name name) states)) is) ∙ e)) all.0
      go false is rest = rest (sym (ap (λ b. cond b (Some s) (find (λ x. eqb x.name name) states)) is) ∙ e)

  module _ (start : ℕ) where
    abbrev way : Rows
    way = path_named t start

    pub way_short : IsKept t start → All (λ (s : Saved S). length s.path ≤ PATH_LIMIT) t.states → length way ≤ PATH_LIMIT
    way_short kept short =
        let h = held start kept in
        let bound = of_found (λ (s : Saved S). length s.path ≤ PATH_LIMIT) t.states start h.state (recursion_from_All (λ (s : Saved S). length s.path ≤ PATH_LIMIT) t.states short) h.named in
        omega (arith, bound, ap (λ (l : Rows). length l) (path_held start h.state h.named))

    -- the names that were passed on the way up to this one
    pub record IsClimbed (at : ℕ) (names : List ℕ) : Type 0 where
      pub here : IsSomeAnd (state_named t at) (λ s. s.path ≡ take (length way - length names) way)
      pub each : (k : ℕ) → k < length names → IsSomeAnd (state_named t (get_or names k 0)) (λ s. s.path ≡ take (length way - k) way)
      pub few : length names ≤ length way

    pub first_climbed : IsKept t start → IsClimbed start []
    first_climbed kept =
        let h = held start kept in
        let whole : length way ≡ length way - 0 = omega arith in
        record {
          here = subst (λ (o : Option (Saved S)). IsSomeAnd o (λ s. s.path ≡ take (length way - 0) way)) (sym h.named) (sym (path_held start h.state h.named) ∙ sym (take-length way) ∙ ap (λ n. take n way) whole);
          each = λ k low. absurd (omega (arith, low));
          few = omega arith;
        }

    pub climbed_kept : (at : ℕ) (names : List ℕ) → IsClimbed at names → IsKept t at
    climbed_kept at names c = go (state_named t at) c.here
      where
        go : (o : Option (Saved S)) → IsSomeAnd o (λ s. s.path ≡ take (length way - length names) way) → IsSome o
        go None h = absurd h
        go (Some s) h = refl

    -- one up
    record IsUp (at : ℕ) (names : List ℕ) (above : Above) : Type 0 where
      low : length names < length way
      is : IsSomeAnd (state_named t above.node) (λ u. u.path ≡ take (length way - (length names + 1)) way)

    up : (at : ℕ) (names : List ℕ) (above : Above) → IsClimbed at names → IfSome (state_named t at) (λ s. IsAbove t s.path (Some above)) → IsUp at names above
    up at names above c h = go (state_named t at) c.here h
      where
        below : (path : Rows) → path ≡ take (length way - length names) way → (o : Option (Saved S)) → IsSomeAnd o (λ u. path ≡ u.path ++ above.row ∷ [])
            → (length names < length way) × IsSomeAnd o (λ u. u.path ≡ take (length way - (length names + 1)) way)
        below path is None f = absurd f
        below path is (Some u) f =
            let long : length u.path + 1 ≡ length way - length names = omega (arith, ap (λ (l : Rows). length l) (sym f ∙ is), length-append u.path (above.row ∷ []), length-take (length way - length names) way) in
            let deep : length u.path ≡ length way - (length names + 1) = omega (arith, long) in
            let within : length u.path ≤ length way - length names = omega (arith, long) in (
              omega (arith, long),
              sym (take-append_seam u.path (above.row ∷ [])) ∙ ap (take (length u.path)) (sym f ∙ is) ∙ take-take (length u.path) (length way - length names) way within ∙ ap (λ n. take n way) deep,
            )

        go : (o : Option (Saved S)) → IsSomeAnd o (λ s. s.path ≡ take (length way - length names) way) → IfSome o (λ s. IsAbove t s.path (Some above)) → IsUp at names above
        go None here over = absurd here
        go (Some s) here over = let r = below s.path here (state_named t above.node) over in record { low = r.0; is = r.1 }

    pub climbed_low : (at : ℕ) (names : List ℕ) (above : Above) → IsClimbed at names → IfSome (state_named t at) (λ s. IsAbove t s.path (Some above)) → length names < length way
    climbed_low at names above c h = (up at names above c h).low

    pub climbed_more : (at : ℕ) (names : List ℕ) (above : Above) → IsClimbed at names → IfSome (state_named t at) (λ s. IsAbove t s.path (Some above)) → IsClimbed above.node (names ++ at ∷ [])
    climbed_more at names above c h =
        let u = up at names above c h in
        let more : length (names ++ at ∷ []) ≡ length names + 1 = omega (arith, length-append names (at ∷ [])) in
        record {
          here = subst (λ n. IsSomeAnd (state_named t above.node) (λ s. s.path ≡ take (length way - n) way)) (sym more) u.is;
          each = λ k low. earlier k (omega (arith, low, more));
          few = omega (arith, more, u.low);
        }
      where
        earlier : (k : ℕ) → k < length names + 1 → IsSomeAnd (state_named t (get_or (names ++ at ∷ []) k 0)) (λ s. s.path ≡ take (length way - k) way)
        earlier k low = go (ltb k (length names)) refl
          where
            go : (b : Bool) → ltb k (length names) ≡ b → IsSomeAnd (state_named t (get_or (names ++ at ∷ []) k 0)) (λ s. s.path ≡ take (length way - k) way)
            go true is = subst (λ n. IsSomeAnd (state_named t n) (λ s. s.path ≡ take (length way - k) way)) (sym (get_or-append names (at ∷ []) 0 k (ltb-true k (length names) is))) (c.each k (ltb-true k (length names) is))
            go false is =
                let last : k ≡ length names = omega (arith, low, ltb-false k (length names) is) in
                subst (λ n. IsSomeAnd (state_named t (get_or (names ++ at ∷ []) n 0)) (λ s. s.path ≡ take (length way - n) way)) (sym last)
                (subst (λ n. IsSomeAnd (state_named t n) (λ s. s.path ≡ take (length way - length names) way)) (sym (get_or-append_seam names at [] 0)) c.here)

    -- once above there is nothing, they are the way
    pub climbed_way : (at : ℕ) (names : List ℕ) → IsClimbed at names → IfSome (state_named t at) (λ s. IsAbove t s.path None) → IsWay t way names
    climbed_way at names c h =
        record {
          count = go (state_named t at) c.here h;
          each = c.each;
        }
      where
        go : (o : Option (Saved S)) → IsSomeAnd o (λ s. s.path ≡ take (length way - length names) way) → IfSome o (λ s. IsAbove t s.path None) → length names ≡ length way
        go None here over = absurd here
        go (Some s) here over = omega (arith, c.few, ap (λ (l : Rows). length l) (sym over ∙ here), length-take (length way - length names) way)

    -- where there are no more states than beginnings of the way, they are on it
    pub all_on_way : IsKept t start → IsClosed t → length t.states ≡ length way + 1 → IsPermutation (paths_of t) (beginnings way (length way + 1))
    all_on_way kept closed count =
        let h = held start kept in
        are_beginnings way (length way + 1) (paths_of t) (omega arith) (length-map t.states (λ (s : Saved S). s.path) ∙ count)
        (λ k _. has_in (paths_of t) (take k way) (subst (λ (p : Rows). contains (paths_of t) (take k p) ≡ true) (sym (path_held start h.state h.named)) (closed start h.state k h.named)))
