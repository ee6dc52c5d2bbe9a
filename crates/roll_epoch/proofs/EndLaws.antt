-- There is one end, and all find it who know the same of the rows before it.
use Rattle.std.proofs.Common.{◌≡◌, ℕ, ◌+◌, ◌<◌, ◌≤◌, Bool, true, false, leb, refl, sym, ap, subst, ◌∙◌, arith, inl, inr, Option, Some, None}
use Rattle.std.specs.Prelude.{IfNone, IfSome, ◌⊎◌, ◌&&◌, nat_lt, if◌then◌else◌, slice_index_or}
use Rattle.std.proofs.lemmas.Bool.{and_from, and_parts, cases_lt, leb-true, leb-false, lt-ltb, ltb-true}
use Rattle.roll_mesh.specs.declared.limits.TheConstants.{PLAYER_LIMIT}
use Rattle.roll_wire.specs.declared.datagram.Marked.{Marked}
use Rattle.roll_epoch.specs.Ends.{IsEnd, IsFirst, Told, counting, ending, in_rows, is_there, is_void, mark_in, owner_of, sooner, unless_void}
use Rattle.roll_epoch.specs.Laws.{AreAlike, EndsAreOne, EndsStay, OfOnePastOneEnd}
use Rattle.roll_epoch.specs.declared.marks.Ending.{Ending}
use Rattle.roll_epoch.specs.declared.terms.Terms.{Terms}

clash : {A : Type 0} {o : Option Marked} {m : Marked} → o ≡ None → o ≡ Some m → A
clash p q = absurd cc

some_is : (m n : Marked) → Some m ≡ Some n → m ≡ n
some_is m n e = cc

-- ---- which marks count

-- a mark in the rows before a frame
record IsIn (end : ℕ) (left : Option ℕ) (marked : Option Marked) (m : Marked) : Type 0 where
  there : marked ≡ Some m
  below : m.frame < end
  stays : is_there left m.frame ≡ true

is_in : (end : ℕ) (left : Option ℕ) (marked : Option Marked) (m : Marked) → in_rows end left marked ≡ Some m
    → IsIn end left marked m
is_in end left None m e = absurd cc
is_in end left (Some n) m e = go (nat_lt n.frame end && is_there left n.frame) refl e
  where
    go : (b : Bool) → (nat_lt n.frame end && is_there left n.frame) ≡ b → (if b then Some n else None) ≡ Some m
        → IsIn end left (Some n) m
    go false t e = absurd cc
    go true t e =
        let both = and_parts (nat_lt n.frame end) (is_there left n.frame) t in
        subst (IsIn end left (Some n)) (some_is n m e)
        (record { there = refl; below = ltb-true n.frame end both.0; stays = both.1 })

in_is : (end : ℕ) (left : Option ℕ) (marked : Option Marked) (m : Marked) → marked ≡ Some m → m.frame < end
    → is_there left m.frame ≡ true → in_rows end left marked ≡ Some m
in_is end left marked m e l t =
    ap (in_rows end left) e
    ∙ ap (λ (b : Bool). if b then Some m else None)
    (and_from (nat_lt m.frame end) (is_there left m.frame) (lt-ltb m.frame end l) t)

fine : (terms : Terms) (giver : ℕ) (marked : Option Marked) (m : Marked)
    → unless_void terms giver marked ≡ Some m
    → (marked ≡ Some m) × (is_void m.mark giver terms ≡ false)
fine terms giver None m e = absurd cc
fine terms giver (Some n) m e = go (is_void n.mark giver terms) refl e
  where
    go : (b : Bool) → is_void n.mark giver terms ≡ b → (if b then None else Some n) ≡ Some m
        → (Some n ≡ Some m) × (is_void m.mark giver terms ≡ false)
    go true t e = absurd cc
    go false t e =
        subst (λ (x : Marked). (Some n ≡ Some x) × (is_void x.mark giver terms ≡ false)) (some_is n m e)
        (refl, t)

unvoid : (terms : Terms) (giver : ℕ) (marked : Option Marked) (m : Marked) → marked ≡ Some m
    → is_void m.mark giver terms ≡ false → unless_void terms giver marked ≡ Some m
unvoid terms giver marked m e t =
    ap (unless_void terms giver) e ∙ ap (λ (b : Bool). if b then None else Some m) t

record Counts (told : Told) (settled p : ℕ) (m : Marked) : Type 0 where
  inside : IsIn settled (slice_index_or told.left p None) (slice_index_or told.first p None) m
  is_fine : is_void m.mark (owner_of told.terms.owners p) told.terms ≡ false

counts : (told : Told) (settled p : ℕ) (m : Marked) → counting told settled p ≡ Some m → Counts told settled p m
counts told settled p m e =
    let f = fine told.terms (owner_of told.terms.owners p)
    (mark_in told settled p) m e in
    record {
      inside = is_in settled (slice_index_or told.left p None) (slice_index_or told.first p None) m f.0;
      is_fine = f.1;
    }

counted : (told : Told) (settled p : ℕ) (m : Marked) → mark_in told settled p ≡ Some m
    → is_void m.mark (owner_of told.terms.owners p) told.terms ≡ false
    → counting told settled p ≡ Some m
counted told settled p m e t =
    unvoid told.terms (owner_of told.terms.owners p) (mark_in told settled p) m e t

-- a mark in rows of which two know the same counts for both
alike_back : (one other : Told) (end : ℕ) → AreAlike one other end → AreAlike other one end
alike_back one other end a = record {
  terms = sym a.terms;
  rows = λ p l. sym (a.rows p l);
}

moved : (one other : Told) (end settled more p : ℕ) (m : Marked) → AreAlike one other end → p < PLAYER_LIMIT
    → m.frame < end → m.frame < more → counting one settled p ≡ Some m → counting other more p ≡ Some m
moved one other end settled more p m a l below far e =
    let c = counts one settled p m e in
    let mine : mark_in one end p ≡ Some m =
    in_is end (slice_index_or one.left p None) (slice_index_or one.first p None) m c.inside.there below c.inside.stays in
    let theirs = is_in end (slice_index_or other.left p None) (slice_index_or other.first p None) m
    (sym (a.rows p l) ∙ mine) in
    let there : mark_in other more p ≡ Some m =
    in_is more (slice_index_or other.left p None) (slice_index_or other.first p None) m theirs.there far theirs.stays in
    counted other more p m there
    (subst (λ (t : Terms). is_void m.mark (owner_of t.owners p) t ≡ false) a.terms c.is_fine)

-- ---- the laws

pub of_one_past_one_end : OfOnePastOneEnd
of_one_past_one_end one other end settled more e a ends reach is =
    let mine = counts one settled e.player is.marked is.counts in
    let low : is.marked.frame < end = omega (arith, is.frame, ends) in
    record {
      marked = is.marked;
      counts = moved one other end settled more e.player is.marked a is.inside low (omega (arith, low, reach)) is.counts;
      inside = is.inside;
      frame = is.frame;
      mark = is.mark;
      least = λ p m l c. least p m l c (cases_lt m.frame end) (cases_lt m.frame settled);
    }
  where
    least : (p : ℕ) (m : Marked) → p < PLAYER_LIMIT → counting other more p ≡ Some m
        → (m.frame < end) ⊎ (end ≤ m.frame) → (m.frame < settled) ⊎ (settled ≤ m.frame)
        → (is.marked.frame < m.frame) ⊎ ((is.marked.frame ≡ m.frame) × (e.player ≤ p))
    least p m l c (inl below) (inl within) =
        is.least p m l (moved other one end more settled p m (alike_back one other end a) l below within c)
    least p m l c (inl below) (inr past) =
        inl (omega (arith, (counts one settled e.player is.marked is.counts).inside.below, past))
    least p m l c (inr past) within = inl (omega (arith, is.frame, ends, past))

pub ends_stay : EndsStay
ends_stay told settled more e far is =
    of_one_past_one_end told told settled settled more e
    (record { terms = refl; rows = λ p l. refl })
    (omega (arith, is.frame, (counts told settled e.player is.marked is.counts).inside.below)) far is

pub ends_are_one : EndsAreOne
ends_are_one told settled e f is its = go (is.least f.player its.marked its.inside its.counts)
    (its.least e.player is.marked is.inside is.counts)
  where
    one : (e f : Ending) → e.frame ≡ f.frame → e.player ≡ f.player → e.mark ≡ f.mark → e ≡ f
    one e f p q r = λ k. record { frame = p k; player = q k; mark = r k }

    go : (is.marked.frame < its.marked.frame) ⊎ ((is.marked.frame ≡ its.marked.frame) × (e.player ≤ f.player))
        → (its.marked.frame < is.marked.frame) ⊎ ((its.marked.frame ≡ is.marked.frame) × (f.player ≤ e.player)) → e ≡ f
    go (inl a) (inl b) = absurd (omega (arith, a, b))
    go (inl a) (inr b) = absurd (omega (arith, a, b.0))
    go (inr a) (inl b) = absurd (omega (arith, a.0, b))
    go (inr a) (inr b) =
        let player : e.player ≡ f.player = omega (arith, a.1, b.1) in
        let marked : is.marked ≡ its.marked =
        some_is is.marked its.marked
        (sym is.counts ∙ (ap (counting told settled) player ∙ its.counts)) in
        one e f (is.frame ∙ (ap (λ (m : Marked). m.frame + 1) marked ∙ sym its.frame)) player
        (is.mark ∙ (ap (λ (m : Marked). m.mark) marked ∙ sym its.mark))

-- ---- as a loop finds it

-- the ending by the marks of the first players
abbrev pub Best : Told → (settled players : ℕ) → Option Ending → Type 0
Best told settled players None = (p : ℕ) → p < players → counting told settled p ≡ None
Best told settled players (Some e) = IsFirst told settled players e

pub starts : (told : Told) (settled : ℕ) → Best told settled 0 None
starts told settled p l = absurd (omega (arith, l))

module _ (told : Told) (settled i : ℕ) where
  first_by : (m : Marked) → counting told settled i ≡ Some m
      → ((p : ℕ) (n : Marked) → p < i → counting told settled p ≡ Some n → m.frame < n.frame)
      → IsFirst told settled (i + 1) (ending i m)
  first_by m c before = record {
    marked = m;
    counts = c;
    inside = omega arith;
    frame = refl;
    mark = refl;
    least = λ p n l e. go p n e (cases_lt p i) l;
  }
    where
      go : (p : ℕ) (n : Marked) → counting told settled p ≡ Some n → (p < i) ⊎ (i ≤ p) → p < i + 1
          → (m.frame < n.frame) ⊎ ((m.frame ≡ n.frame) × (i ≤ p))
      go p n e (inl l) u = inl (before p n l e)
      go p n e (inr g) u =
          let same : p ≡ i = omega (arith, g, u) in
          let marks : n ≡ m = some_is n m (sym e ∙ (ap (counting told settled) same ∙ c)) in
          inr (ap (λ (x : Marked). x.frame) (sym marks), g)

  kept_by : (e : Ending) (is : IsFirst told settled i e)
      → ((n : Marked) → counting told settled i ≡ Some n → is.marked.frame ≤ n.frame)
      → IsFirst told settled (i + 1) e
  kept_by e is after = record {
    marked = is.marked;
    counts = is.counts;
    inside = omega (arith, is.inside);
    frame = is.frame;
    mark = is.mark;
    least = λ p n l c. go p n c (cases_lt p i) l;
  }
    where
      later : (p : ℕ) (n : Marked) → i ≤ p → is.marked.frame ≤ n.frame
          → (is.marked.frame < n.frame) ⊎ (n.frame ≤ is.marked.frame)
          → (is.marked.frame < n.frame) ⊎ ((is.marked.frame ≡ n.frame) × (e.player ≤ p))
      later p n g low (inl l) = inl l
      later p n g low (inr l) = inr (omega (arith, low, l), omega (arith, is.inside, g))

      go : (p : ℕ) (n : Marked) → counting told settled p ≡ Some n → (p < i) ⊎ (i ≤ p) → p < i + 1
          → (is.marked.frame < n.frame) ⊎ ((is.marked.frame ≡ n.frame) × (e.player ≤ p))
      go p n c (inl l) u = is.least p n l c
      go p n c (inr g) u =
          let same : p ≡ i = omega (arith, g, u) in
          later p n g (after n (ap (counting told settled) (sym same) ∙ c)) (cases_lt is.marked.frame n.frame)

  none_more : counting told settled i ≡ None → Best told settled i None → Best told settled (i + 1) None
  none_more c before p l = go (cases_lt p i)
    where
      go : (p < i) ⊎ (i ≤ p) → counting told settled p ≡ None
      go (inl low) = before p low
      go (inr g) =
          let same : p ≡ i = omega (arith, g, l) in
          ap (counting told settled) same ∙ c

  either : (e : Ending) (m : Marked) → counting told settled i ≡ Some m → (is : IsFirst told settled i e)
      → (b : Bool) → leb e.frame (m.frame + 1) ≡ b
      → Best told settled (i + 1) (if b then Some e else Some (ending i m))
  either e m c is true t =
      kept_by e is (λ n d. subst (λ (x : Marked). is.marked.frame ≤ x.frame) (some_is m n (sym c ∙ d))
      (omega (arith, is.frame, leb-true e.frame (m.frame + 1) t)))
  either e m c is false t =
      first_by m c (λ p n l d. sooner_still p n (is.least p n l d))
    where
      sooner_still : (p : ℕ) (n : Marked)
          → (is.marked.frame < n.frame) ⊎ ((is.marked.frame ≡ n.frame) × (e.player ≤ p)) → m.frame < n.frame
      sooner_still p n (inl l) = omega (arith, is.frame, leb-false e.frame (m.frame + 1) t, l)
      sooner_still p n (inr q) = omega (arith, is.frame, leb-false e.frame (m.frame + 1) t, q.0)

  pub goes_on : (best : Option Ending) → Best told settled i best
      → Best told settled (i + 1) (sooner best i (counting told settled i))
  goes_on best before = go best before (counting told settled i) refl
    where
      go : (best : Option Ending) → Best told settled i best → (o : Option Marked) → counting told settled i ≡ o
          → Best told settled (i + 1) (sooner best i o)
      go None before None c = none_more c before
      go (Some e) before None c = kept_by e before (λ n d. absurd cc)
      go None before (Some m) c = first_by m c (λ p n l d. clash (before p l) d)
      go (Some e) before (Some m) c = either e m c before (leb e.frame (m.frame + 1)) refl

-- what was found among all players
pub ended : (told : Told) (settled : ℕ) (best : Option Ending) → Best told settled PLAYER_LIMIT best
    → IfSome best (IsEnd told settled)
    × IfNone best ((p : ℕ) → p < PLAYER_LIMIT → counting told settled p ≡ None)
ended told settled None before = (tt, before)
ended told settled (Some e) before = (before, tt)
