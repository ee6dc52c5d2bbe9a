-- Machines that stay together find the same end of an epoch, and open the next one alike.
use Rattle.std.proofs.Common.{◌≡◌, ◌⊎◌, ◌∙◌, ℕ, zero, suc, ◌<◌, ◌≤◌, List, map, refl, ap, sym, subst, arith, Bool, true, false, inl, inr, Option, Some, None}
use Rattle.std.specs.Option.{option_map_or}
use Rattle.std.specs.Prelude.{◌==◌, ◌&&◌, ◌||◌, if◌then◌else◌, is_some, min, nat_le, nat_lt, slice_index, slice_index_or, IsSome}
use Rattle.std.proofs.lemmas.Bool.{and_from, and_parts, cases_Bool, cases_lt, eq-eqb, eqb-true, false≢true, lt-ltb, ltb-true}
use Rattle.std.proofs.lemmas.List.{get_or_past}
use Rattle.std.proofs.lemmas.List.FromFn.{get_or-map-range_with_len, length-map-range_with_len}
use Rattle.roll_epoch.proofs.EndLaws.{ends_are_one, of_one_past_one_end}
use Rattle.roll_epoch.proofs.NextLaws.{of_one_past_one_next}
use Rattle.roll_epoch.specs.Ends.{in_rows, is_there, is_void, mark_in, owner_of as owned_by, unless_void, IsEnd, Told}
use Rattle.roll_epoch.specs.Ids.{leaving_at}
use Rattle.roll_epoch.specs.Laws.{AreAlike, LeftAlike}
use Rattle.roll_epoch.specs.Successions.{successor}
use Rattle.roll_epoch.specs.declared.marks.Ending.{Ending}
use Rattle.roll_epoch.specs.declared.terms.Terms.{Terms}
use Rattle.roll_mesh.proofs.Agreement.{has_left}
use Rattle.roll_mesh.proofs.Changes.{none_some, some_same}
use Rattle.roll_mesh.proofs.Holders.{counts_are_played, machine_of}
use Rattle.roll_mesh.proofs.Seams.{they_close_alike}
use Rattle.roll_mesh.specs.Laws.{is_gone, left_of, machine_at, owner_in}
use Rattle.roll_mesh.specs.Machines.{is_in, left_at, owner_of}
use Rattle.roll_mesh.specs.Meshes.{Seated}
use Rattle.roll_mesh.specs.Seams.{IsKnown}
use Rattle.roll_mesh.specs.Words.{counted, counts_of, Holder}
use Rattle.roll_mesh.specs.Worlds.{played as steps_played, Match, Step as MeshStep, World}
use Rattle.roll_mesh.specs.declared.limits.TheConstants.{PLAYER_LIMIT}
use Rattle.roll_mesh.specs.declared.machine.Machine.{Machine}
use Rattle.roll_mesh.specs.declared.seat.Seat.{Seat}
use Rattle.roll_peer.proofs.Mirrors.{mirrors, IsAt, IsMirrored, Mirrors}
use Rattle.roll_peer.proofs.OneMark.{they_know_one_mark}
use Rattle.roll_peer.specs.MarkLaws.{mark_for}
use Rattle.roll_peer.specs.Marks.{each_player, mark_at}
use Rattle.roll_peer.specs.OneMatch.{IsHere}
use Rattle.roll_peer.specs.PeerWorlds.{IsPlayedTo, PeerWorld}
use Rattle.roll_peer.specs.Peered.{Peered}
use Rattle.roll_peer.specs.Requests.{Beside}
use Rattle.roll_session.specs.Seen.{Step}
use Rattle.roll_wire.specs.declared.datagram.Marked.{Marked}
use Rattle.roll_chain.specs.Judging.{told_by}
use Rattle.roll_chain.specs.Rows.{counted_at, is_nobody, left_in, lefts, rows_at, rows_known, rows_until}
use Rattle.roll_chain.specs.Seams.{next_terms}
use Rattle.roll_chain.specs.Together.{EndsSo}
use Rattle.roll_chain.specs.declared.chain.Chain.{Chain}
use Rattle.roll_chain.specs.declared.rows.TheConstants.{ALL}
use Rattle.roll_chain.proofs.Judged.{judged_alike}

-- ---- rows

pub at_each : {X : Type 0} (f : ℕ → X) (p : ℕ) (d : X) → p < PLAYER_LIMIT → slice_index_or (each_player f) p d ≡ f p
at_each f p d l = get_or-map-range_with_len f 0 PLAYER_LIMIT p p d l (omega arith)

pub rows_below : (mesh : Seated) (n p : ℕ) → p < n → rows_until mesh n ≤ rows_at mesh p
unfolding rows_until
rows_below mesh zero p l = absurd (omega (arith, l))
rows_below mesh (suc n) p l = go (cases_lt p n) (rows_below mesh n p)
  where
    go : (p < n) ⊎ (n ≤ p) → (p < n → rows_until mesh n ≤ rows_at mesh p)
        → min (rows_until mesh n) (rows_at mesh n) ≤ rows_at mesh p
    go (inl less) before = omega (arith, before less)
    go (inr same) before =
        let e : n ≡ p = omega (arith, same, l) in
        let least : min (rows_until mesh n) (rows_at mesh n) ≤ rows_at mesh n = omega arith in
        subst (λ (k : ℕ). min (rows_until mesh n) (rows_at mesh n) ≤ rows_at mesh k) e least

-- a mark in the rows before a frame
pub record IsInRows (end : ℕ) (left : Option ℕ) (marked : Option Marked) (m : Marked) : Type 0 where
  pub is : marked ≡ Some m
  pub below : m.frame < end
  pub there : is_there left m.frame ≡ true

pub in_rows_is : (end : ℕ) (left : Option ℕ) (marked : Option Marked) (m : Marked) → in_rows end left marked ≡ Some m
    → IsInRows end left marked m
in_rows_is end left None m e = absurd (none_some m e)
in_rows_is end left (Some x) m e = go (nat_lt x.frame end && is_there left x.frame) refl e
  where
    go : (b : Bool) → (nat_lt x.frame end && is_there left x.frame) ≡ b → (if b then Some x else None) ≡ Some m
        → IsInRows end left (Some x) m
    go true t e =
        let both = and_parts (nat_lt x.frame end) (is_there left x.frame) t in
        subst (λ (y : Marked). IsInRows end left (Some x) y) (some_same x m e)
        (record { is = refl; below = ltb-true x.frame end both.0; there = both.1 })
    go false t e = absurd (none_some m e)

pub in_rows_so : (end : ℕ) (left : Option ℕ) (m : Marked) → m.frame < end → is_there left m.frame ≡ true
    → in_rows end left (Some m) ≡ Some m
in_rows_so end left m l t =
    ap (λ (b : Bool). if b then Some m else None)
    (and_from (nat_lt m.frame end) (is_there left m.frame) (lt-ltb m.frame end l) t)

unless_void_is : (terms : Terms) (giver : ℕ) (marked : Option Marked) (m : Marked)
    → unless_void terms giver marked ≡ Some m → marked ≡ Some m
unless_void_is terms giver None m e = absurd (none_some m e)
unless_void_is terms giver (Some x) m e = go (is_void x.mark giver terms) e
  where
    go : (b : Bool) → (if b then None else Some x) ≡ Some m → Some x ≡ Some m
    go true e = absurd (none_some m e)
    go false e = e

-- an end isn't over the rows that are known
pub end_low : (told : Told) (settled : ℕ) (e : Ending) → IsEnd told settled e → e.frame ≤ settled
end_low told settled e end =
    omega (
      arith,
      end.frame,
      (in_rows_is settled (slice_index_or told.left e.player None) (slice_index_or told.first e.player None) end.marked
          (unless_void_is told.terms (owned_by told.terms.owners e.player)
          (mark_in told settled e.player) end.marked end.counts)).below,
    )

pub mark_for_is : (marked : Option Marked) (m : Marked) → mark_for marked m.frame ≡ Some m.mark → marked ≡ Some m
mark_for_is None m e = absurd (none_some m.mark e)
mark_for_is (Some x) m e = go (x.frame == m.frame) refl e
  where
    go : (b : Bool) → (x.frame == m.frame) ≡ b → (if b then Some x.mark else None) ≡ Some m.mark → Some x ≡ Some m
    go true t e =
        let frames = eqb-true x.frame m.frame t in
        let marks = some_same x.mark m.mark e in
        λ k. Some (record { frame = frames k; mark = marks k })
    go false t e = absurd (none_some m.mark e)

pub own_frame : (n : ℕ) → (n == n) ≡ true
own_frame n = eq-eqb n n refl

pub options_same : (x y : Option Marked) → ((m : Marked) → x ≡ Some m → y ≡ Some m) → ((m : Marked) → y ≡ Some m → x ≡ Some m)
    → x ≡ y
options_same None None f g = refl
options_same None (Some m) f g = g m refl
options_same (Some m) y f g = sym (f m refl)

pub leaving_is : (end : ℕ) (left : Option ℕ) → leaving_at end left ≡ option_map_or (λ n. min n end) left end
leaving_is end None = refl
leaving_is end (Some n) = refl

-- what is told of a player before a frame
pub told_at : (chain : Chain) (peer : Peered) (end p : ℕ) → p < PLAYER_LIMIT
    → mark_in (told_by chain peer) end p ≡ in_rows end (left_in peer.member.mesh p) (counted_at peer p)
told_at chain peer end p l =
    λ k. in_rows end (at_each (left_in peer.member.mesh) p None l k) (at_each (counted_at peer) p None l k)

-- of two machines
pub left_by_each : (one other : Seated) (end : ℕ)
    → ((p : ℕ) → p < PLAYER_LIMIT → leaving_at end (left_in one p) ≡ leaving_at end (left_in other p))
    → LeftAlike end (lefts one) (lefts other)
left_by_each one other end same = record {
  many = length-map-range_with_len (left_in one) 0 PLAYER_LIMIT ∙ sym (length-map-range_with_len (left_in other) 0 PLAYER_LIMIT);
  places = λ p. go p (cases_lt p PLAYER_LIMIT);
}
  where
    go : (p : ℕ) → (p < PLAYER_LIMIT) ⊎ (PLAYER_LIMIT ≤ p)
        → leaving_at end (slice_index_or (lefts one) p None) ≡ leaving_at end (slice_index_or (lefts other) p None)
    go p (inl l) =
        ap (leaving_at end) (at_each (left_in one) p None l) ∙ same p l ∙ sym (ap (leaving_at end) (at_each (left_in other) p None l))
    go p (inr past) =
        ap (leaving_at end) (get_or_past (lefts one) p None (omega (arith, past, length-map-range_with_len (left_in one) 0 PLAYER_LIMIT)))
        ∙ sym (ap (leaving_at end) (get_or_past (lefts other) p None
        (omega (arith, past, length-map-range_with_len (left_in other) 0 PLAYER_LIMIT))))

-- ---- a machine of a world

module _ (match : Match) (games : ℕ → Step) (peers : PeerWorld) (played : IsPlayedTo match games peers) where
  abbrev m : Mirrors match peers
  m = mirrors match games peers played

  abbrev steps : List MeshStep
  steps = map counted m.from.0

  abbrev world : World
  world = steps_played match steps

  here : (i : ℕ) (b : Beside) → peers.machines i ≡ Some b → IsMirrored match m.world i b
  here i b is = subst (λ (o : Option Beside). IsAt match m.world i o) is (m.each i)

  machine_is : (i : ℕ) (b : Beside) → peers.machines i ≡ Some b → machine_at world i ≡ b.peer.member.mesh.machine
  machine_is i b is =
      ap (λ (w : World). machine_at w i) (sym (counts_are_played match m.from.0))
      ∙ ap (λ w. machine_at (counts_of w) i) m.from.1 ∙ machine_of m.world i
      ∙ ap (λ (h : Holder). h.mesh) (sym (here i b is).holds)

  abbrev nobody : ℕ → Bool
  nobody p = nat_le match.machines (owner_in match p)

  nobody_is : (i : ℕ) (b : Beside) (p : ℕ) → peers.machines i ≡ Some b → is_nobody b.peer.member.mesh p ≡ nobody p
  nobody_is i b p is = ap (λ (seat : Seat). nat_le seat.machines (owner_of seat p)) (here i b is).seat

  -- a player of the match, whose words before a frame are known
  record IsOf (b : Beside) (p end : ℕ) : Type 0 where
    left : left_in b.peer.member.mesh p ≡ left_at b.peer.member.mesh.machine p
    counted_is : counted_at b.peer p ≡ (if is_in b.peer.voids p then None else mark_at b.peer.marks p)
    known : (end ≤ slice_index b.peer.member.mesh.machine.has p) ⊎ IsSome (left_at b.peer.member.mesh.machine p)

  is_of : (i : ℕ) (b : Beside) (p end : ℕ) → peers.machines i ≡ Some b → p < PLAYER_LIMIT → nobody p ≡ false
      → end ≤ rows_known b.peer.member.mesh → IsOf b p end
  is_of i b p end is l there low = record {
    left = left;
    counted_is = ap (λ (x : Bool). if x || is_in b.peer.voids p then None else mark_at b.peer.marks p) not_nobody;
    known = go (left_at mesh.machine p) refl;
  }
    where
      mesh : Seated
      mesh = b.peer.member.mesh

      not_nobody : is_nobody mesh p ≡ false
      not_nobody = nobody_is i b p is ∙ there

      left : left_in mesh p ≡ left_at mesh.machine p
      left = ap (λ (x : Bool). if x then None else left_at mesh.machine p) not_nobody

      rows : end ≤ rows_at mesh p
      rows = omega (arith, low, rows_below mesh PLAYER_LIMIT p l)

      rows_are : rows_at mesh p ≡ (if is_some (left_at mesh.machine p) then ALL else slice_index mesh.machine.has p)
      rows_are =
          ap (λ (x : Bool). if x || is_some (left_in mesh p) then ALL else slice_index mesh.machine.has p) not_nobody
          ∙ ap (λ (o : Option ℕ). if is_some o then ALL else slice_index mesh.machine.has p) left

      go : (o : Option ℕ) → left_at mesh.machine p ≡ o → (end ≤ slice_index mesh.machine.has p) ⊎ IsSome (left_at mesh.machine p)
      go None e = inl (omega (
        arith,
        rows,
        rows_are ∙ ap (λ (o : Option ℕ). if is_some o then ALL else slice_index mesh.machine.has p) e,
      ))
      go (Some n) e = inr (ap (λ (o : Option ℕ). is_some o) e)

  -- who has left has left at as many words as it has
  left_has : (i p n : ℕ) (b : Beside) → peers.machines i ≡ Some b → left_at b.peer.member.mesh.machine p ≡ Some n
      → slice_index b.peer.member.mesh.machine.has p ≡ n
  left_has i p n b is left =
      ap (λ (machine : Machine). slice_index machine.has p) (sym (machine_is i b is))
      ∙ has_left match steps i p n (ap (λ (machine : Machine). left_at machine p) (machine_is i b is) ∙ left)

  abbrev closed : Beside → ℕ → ℕ → ℕ
  closed b p end = option_map_or (λ n. min n end) (left_at b.peer.member.mesh.machine p) end

  -- two of which neither regards the other as gone
  module _ (i j : ℕ) (a b : Beside) (is_a : peers.machines i ≡ Some a) (is_b : peers.machines j ≡ Some b)
      (here_a : IsHere a j) (here_b : IsHere b i) (p end : ℕ) (l : p < PLAYER_LIMIT)
      (of_a : IsOf a p end) (of_b : IsOf b p end) where
    in_world : (k : ℕ) (x : Beside) → peers.machines k ≡ Some x → IsOf x p end → IsKnown world k p end
    in_world k x is of =
        subst (λ (machine : Machine). (end ≤ slice_index machine.has p) ⊎ IsSome (left_at machine p)) (sym (machine_is k x is))
        of.known

    stays : (k q : ℕ) (x : Beside) → peers.machines k ≡ Some x → IsHere x q → is_gone world k q ≡ false
    stays k q x is h = ap (λ (machine : Machine). is_in machine.gone q) (machine_is k x is) ∙ h

    closed_in : (k : ℕ) (x : Beside) → peers.machines k ≡ Some x
        → option_map_or (λ n. min n end) (left_of world k p) end ≡ closed x p end
    closed_in k x is = ap (λ (machine : Machine). option_map_or (λ n. min n end) (left_at machine p) end) (machine_is k x is)

    closed_alike : closed a p end ≡ closed b p end
    closed_alike =
        sym (closed_in i a is_a)
        ∙ they_close_alike match steps i j p end (here i a is_a).inside (here j b is_b).inside (in_world i a is_a of_a)
        (in_world j b is_b of_b) (stays i j a is_a here_a) (stays j i b is_b here_b)
        ∙ closed_in j b is_b

    -- a word before the end that one counts, the other has
    record HasIt (x : Beside) (frame : ℕ) : Type 0 where
      there : is_there (left_at x.peer.member.mesh.machine p) frame ≡ true
      has : frame < slice_index x.peer.member.mesh.machine.has p

    counts_it : (x : Beside) (frame : ℕ) → frame < end → is_there (left_at x.peer.member.mesh.machine p) frame ≡ true
        → frame < closed x p end
    counts_it x frame below there = go (left_at x.peer.member.mesh.machine p) there
      where
        go : (o : Option ℕ) → is_there o frame ≡ true → frame < option_map_or (λ n. min n end) o end
        go None t = below
        go (Some n) t = omega (arith, below, ltb-true frame n t)

    has_it : (k : ℕ) (x : Beside) (frame : ℕ) → peers.machines k ≡ Some x → IsOf x p end → frame < end → frame < closed x p end
        → HasIt x frame
    has_it k x frame is of below counts = go (left_at x.peer.member.mesh.machine p) refl counts of.known
      where
        has : ℕ
        has = slice_index x.peer.member.mesh.machine.has p

        go : (o : Option ℕ) → left_at x.peer.member.mesh.machine p ≡ o → frame < option_map_or (λ n. min n end) o end
            → (end ≤ has) ⊎ IsSome (left_at x.peer.member.mesh.machine p) → HasIt x frame
        go None e c (inl low) = record {
          there = ap (λ (o : Option ℕ). is_there o frame) e;
          has = omega (arith, low, below);
        }
        go None e c (inr some) = absurd (false≢true (sym (ap (λ (o : Option ℕ). is_some o) e) ∙ some))
        go (Some n) e c known = record {
          there = ap (λ (o : Option ℕ). is_there o frame) e ∙ lt-ltb frame n (omega (arith, c));
          has = omega (arith, left_has k p n x is e, c);
        }

  -- a mark of a row before the end that one counts, the other does
  counts_too : (k q : ℕ) (x y : Beside) (p end : ℕ) (mark : Marked) → peers.machines k ≡ Some x → peers.machines q ≡ Some y
      → IsHere x q → IsHere y k → p < PLAYER_LIMIT → IsOf x p end → IsOf y p end
      → (mark_at x.peer.marks p ≡ Some mark → mark_at y.peer.marks p ≡ Some mark → mark.frame < end
      → is_there (left_in x.peer.member.mesh p) mark.frame ≡ true → is_there (left_in y.peer.member.mesh p) mark.frame ≡ true
      → is_in x.peer.voids p ≡ is_in y.peer.voids p)
      → in_rows end (left_in x.peer.member.mesh p) (counted_at x.peer p) ≡ Some mark
      → in_rows end (left_in y.peer.member.mesh p) (counted_at y.peer p) ≡ Some mark
  counts_too k q x y p end mark is_x is_y here_x here_y l of_x of_y judged found =
      (λ h. in_rows end (of_y.left h) (counted_y h)) ∙ in_rows_so end (left_at y.peer.member.mesh.machine p) mark row.below it_y.there
    where
      row : IsInRows end (left_in x.peer.member.mesh p) (counted_at x.peer p) mark
      row = in_rows_is end (left_in x.peer.member.mesh p) (counted_at x.peer p) mark found

      there_x : is_there (left_at x.peer.member.mesh.machine p) mark.frame ≡ true
      there_x = ap (λ (o : Option ℕ). is_there o mark.frame) (sym of_x.left) ∙ row.there

      closed_x : mark.frame < closed x p end
      closed_x = counts_it k q x y is_x is_y here_x here_y p end l of_x of_y x mark.frame row.below there_x

      it_x : HasIt k q x y is_x is_y here_x here_y p end l of_x of_y x mark.frame
      it_x = has_it k q x y is_x is_y here_x here_y p end l of_x of_y k x mark.frame is_x of_x row.below closed_x

      it_y : HasIt k q x y is_x is_y here_x here_y p end l of_x of_y y mark.frame
      it_y = has_it k q x y is_x is_y here_x here_y p end l of_x of_y q y mark.frame is_y of_y row.below
          (omega (arith, closed_x, closed_alike k q x y is_x is_y here_x here_y p end l of_x of_y))

      -- it isn't void at the first
      known_x : (b : Bool) → is_in x.peer.voids p ≡ b → (if b then None else mark_at x.peer.marks p) ≡ Some mark
          → (is_in x.peer.voids p ≡ false) × (mark_at x.peer.marks p ≡ Some mark)
      known_x true e f = absurd (none_some mark f)
      known_x false e f = (e, f)

      fine : (is_in x.peer.voids p ≡ false) × (mark_at x.peer.marks p ≡ Some mark)
      fine = known_x (is_in x.peer.voids p) refl (sym of_x.counted_is ∙ row.is)

      known_y : mark_at y.peer.marks p ≡ Some mark
      known_y = mark_for_is (mark_at y.peer.marks p) mark
          (sym (they_know_one_mark match games peers k q p mark.frame x y played l
          (record { is = is_x; there = it_x.has }) (record { is = is_y; there = it_y.has }))
          ∙ ap (λ o. mark_for o mark.frame) fine.1
          ∙ ap (λ (b : Bool). if b then Some mark.mark else None) (own_frame mark.frame))

      void_same : is_in x.peer.voids p ≡ is_in y.peer.voids p
      void_same =
          judged fine.1 known_y row.below row.there (ap (λ (o : Option ℕ). is_there o mark.frame) of_y.left ∙ it_y.there)

      counted_y : counted_at y.peer p ≡ Some mark
      counted_y =
          of_y.counted_is
          ∙ ap (λ (b : Bool). if b then None else mark_at y.peer.marks p) (sym void_same ∙ fine.0)
          ∙ known_y

  counted_none : (i p : ℕ) (b : Beside) → peers.machines i ≡ Some b → nobody p ≡ true → counted_at b.peer p ≡ None
  counted_none i p b is t =
      ap (λ (x : Bool). if x || is_in b.peer.voids p then None else mark_at b.peer.marks p) (nobody_is i b p is ∙ t)

  left_none : (i p : ℕ) (b : Beside) → peers.machines i ≡ Some b → nobody p ≡ true → left_in b.peer.member.mesh p ≡ None
  left_none i p b is t = ap (λ (x : Bool). if x then None else left_at b.peer.member.mesh.machine p) (nobody_is i b p is ∙ t)

  -- ---- two machines that know where the epoch ends

  module _ (i j : ℕ) (a b : Beside) (one other : Chain) (e f : Ending)
      (ends_a : EndsSo peers i a one e) (ends_b : EndsSo peers j b other f) (here_a : IsHere a j) (here_b : IsHere b i)
      (terms : one.terms ≡ other.terms) (profile : one.profile ≡ other.profile) (comers : one.comers ≡ other.comers)
      (end : ℕ) (low_a : end ≤ rows_known a.peer.member.mesh) (low_b : end ≤ rows_known b.peer.member.mesh)
      (within_a : end ≤ e.frame) (within_b : end ≤ f.frame) where
    of_a : (p : ℕ) → p < PLAYER_LIMIT → nobody p ≡ false → IsOf a p end
    of_a p l t = is_of i a p end ends_a.is l t low_a

    of_b : (p : ℕ) → p < PLAYER_LIMIT → nobody p ≡ false → IsOf b p end
    of_b p l t = is_of j b p end ends_b.is l t low_b

    rows_alike : (p : ℕ) → p < PLAYER_LIMIT
        → in_rows end (left_in a.peer.member.mesh p) (counted_at a.peer p)
        ≡ in_rows end (left_in b.peer.member.mesh p) (counted_at b.peer p)
    rows_alike p l = go (cases_Bool (nobody p))
      where
        go : (nobody p ≡ true) ⊎ (nobody p ≡ false)
            → in_rows end (left_in a.peer.member.mesh p) (counted_at a.peer p)
            ≡ in_rows end (left_in b.peer.member.mesh p) (counted_at b.peer p)
        go (inl none) =
            ap (in_rows end (left_in a.peer.member.mesh p)) (counted_none i p a ends_a.is none)
            ∙ sym (ap (in_rows end (left_in b.peer.member.mesh p)) (counted_none j p b ends_b.is none))
        go (inr some) =
            options_same (in_rows end (left_in a.peer.member.mesh p) (counted_at a.peer p))
            (in_rows end (left_in b.peer.member.mesh p) (counted_at b.peer p))
            (λ mark. counts_too i j a b p end mark ends_a.is ends_b.is here_a here_b l (of_a p l some) (of_b p l some)
            (λ x y below s t. judged_alike one other a.peer b.peer p mark terms profile comers
            (ends_a.judged p mark l (nobody_is i a p ends_a.is ∙ some) x (omega (arith, below, within_a)) s)
            (ends_b.judged p mark l (nobody_is j b p ends_b.is ∙ some) y (omega (arith, below, within_b)) t)))
            (λ mark. counts_too j i b a p end mark ends_b.is ends_a.is here_b here_a l (of_b p l some) (of_a p l some)
            (λ x y below s t. judged_alike other one b.peer a.peer p mark (sym terms) (sym profile) (sym comers)
            (ends_b.judged p mark l (nobody_is j b p ends_b.is ∙ some) x (omega (arith, below, within_b)) s)
            (ends_a.judged p mark l (nobody_is i a p ends_a.is ∙ some) y (omega (arith, below, within_a)) t)))

    are_alike : AreAlike (told_by one a.peer) (told_by other b.peer) end
    are_alike = record {
      terms = terms;
      rows = λ p l. told_at one a.peer end p l ∙ rows_alike p l ∙ sym (told_at other b.peer end p l);
    }

    left_same : (p : ℕ) → p < PLAYER_LIMIT
        → leaving_at end (left_in a.peer.member.mesh p) ≡ leaving_at end (left_in b.peer.member.mesh p)
    left_same p l = go (cases_Bool (nobody p))
      where
        go : (nobody p ≡ true) ⊎ (nobody p ≡ false)
            → leaving_at end (left_in a.peer.member.mesh p) ≡ leaving_at end (left_in b.peer.member.mesh p)
        go (inl none) = ap (leaving_at end) (left_none i p a ends_a.is none ∙ sym (left_none j p b ends_b.is none))
        go (inr some) =
            ap (leaving_at end) (of_a p l some).left ∙ leaving_is end (left_at a.peer.member.mesh.machine p)
            ∙ closed_alike i j a b ends_a.is ends_b.is here_a here_b p end l (of_a p l some) (of_b p l some)
            ∙ sym (leaving_is end (left_at b.peer.member.mesh.machine p)) ∙ ap (leaving_at end) (sym (of_b p l some).left)

    left_alike : LeftAlike end (lefts a.peer.member.mesh) (lefts b.peer.member.mesh)
    left_alike = left_by_each a.peer.member.mesh b.peer.member.mesh end left_same

-- ---- at one moment

pub they_end_together : (match : Match) (games : ℕ → Step) (peers : PeerWorld) (i j : ℕ) (a b : Beside) (one other : Chain) (e f : Ending)
    → IsPlayedTo match games peers → EndsSo peers i a one e → EndsSo peers j b other f
    → IsHere a j → IsHere b i → one.terms ≡ other.terms → one.profile ≡ other.profile → one.comers ≡ other.comers
    → (e ≡ f) × (next_terms one a.peer e ≡ next_terms other b.peer f)
they_end_together match games peers i j a b one other e f played ends_a ends_b here_a here_b terms profile comers =
    (same, next)
  where
    mesh_a : Seated
    mesh_a = a.peer.member.mesh

    mesh_b : Seated
    mesh_b = b.peer.member.mesh

    end_a : IsEnd (told_by one a.peer) (rows_known mesh_a) e
    end_a = ends_a.ending.end

    end_b : IsEnd (told_by other b.peer) (rows_known mesh_b) f
    end_b = ends_b.ending.end

    low_e : e.frame ≤ rows_known mesh_a
    low_e = end_low (told_by one a.peer) (rows_known mesh_a) e end_a

    low_f : f.frame ≤ rows_known mesh_b
    low_f = end_low (told_by other b.peer) (rows_known mesh_b) f end_b

    go : (e.frame < f.frame) ⊎ (f.frame ≤ e.frame) → e ≡ f
    go (inl before) =
        ends_are_one (told_by other b.peer) (rows_known mesh_b) e f
        (of_one_past_one_end (told_by one a.peer) (told_by other b.peer) e.frame (rows_known mesh_a) (rows_known mesh_b) e
        (are_alike match games peers played i j a b one other e f ends_a ends_b here_a here_b terms profile comers e.frame low_e
        (omega (arith, before, low_f)) (omega arith) (omega (arith, before))) (omega arith) (omega (arith, before, low_f)) end_a) end_b
    go (inr after) =
        sym (ends_are_one (told_by one a.peer) (rows_known mesh_a) f e
        (of_one_past_one_end (told_by other b.peer) (told_by one a.peer) f.frame (rows_known mesh_b) (rows_known mesh_a) f
        (are_alike match games peers played j i b a other one f e ends_b ends_a here_b here_a (sym terms) (sym profile) (sym comers)
        f.frame low_f (omega (arith, after, low_e)) (omega arith) (omega (arith, after))) (omega arith) (omega (arith, after, low_e)) end_b) end_a)

    same : e ≡ f
    same = go (cases_lt e.frame f.frame)

    next : next_terms one a.peer e ≡ next_terms other b.peer f
    next =
        of_one_past_one_next one.terms e (lefts mesh_a) (lefts mesh_b)
        (left_alike match games peers played i j a b one other e f ends_a ends_b here_a here_b terms profile comers e.frame low_e
        (omega (arith, low_f, ap (λ (x : Ending). x.frame) same)) (omega arith) (omega (arith, ap (λ (x : Ending). x.frame) same)))
        ∙ (λ k. successor (terms k) (same k) (lefts mesh_b))
