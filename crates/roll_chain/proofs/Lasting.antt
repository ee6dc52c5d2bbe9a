-- An epoch that is over stays over.
use Rattle.std.proofs.Common.{◌≡◌, ◌⊎◌, ◌∙◌, ℕ, zero, suc, ◌<◌, ◌≤◌, refl, ap, sym, arith, Bool, true, false, inl, inr, Option, Some, None}
use Rattle.std.specs.Prelude.{◌||◌, if◌then◌else◌, is_some, min, nat_le, slice_index}
use Rattle.std.proofs.lemmas.Bool.{cases_Bool, lt-ltb, ltb-true}
use Rattle.roll_epoch.proofs.EndLaws.{of_one_past_one_end}
use Rattle.roll_epoch.specs.Ends.{in_rows, is_there}
use Rattle.roll_epoch.specs.Ids.{leaving_at}
use Rattle.roll_epoch.specs.Laws.{AreAlike, LeftAlike}
use Rattle.roll_mesh.proofs.Changes.{none_some}
use Rattle.roll_mesh.specs.Machines.{is_in, left_at, owner_of}
use Rattle.roll_mesh.specs.Meshes.{Seated}
use Rattle.roll_mesh.specs.declared.limits.TheConstants.{PLAYER_LIMIT}
use Rattle.roll_mesh.specs.declared.machine.Machine.{Machine}
use Rattle.roll_mesh.specs.declared.seat.Seat.{Seat}
use Rattle.roll_peer.specs.Marks.{mark_at}
use Rattle.roll_peer.specs.Peered.{Peered}
use Rattle.roll_wire.specs.declared.datagram.Marked.{Marked}
use Rattle.roll_chain.specs.Judging.{told_by}
use Rattle.roll_chain.specs.Lasting.{IsLater, KeepsVoids, OverStays}
use Rattle.roll_chain.specs.Rows.{counted_at, is_nobody, left_in, lefts, rows_at, rows_known, rows_until}
use Rattle.roll_chain.specs.Together.{IsJudgedTo}
use Rattle.roll_chain.specs.declared.chain.Chain.{Chain}
use Rattle.roll_chain.specs.declared.rows.TheConstants.{ALL}
use Rattle.roll_chain.proofs.Together.{end_low, in_rows_is, in_rows_so, leaving_is, left_by_each, options_same, rows_below, told_at}

-- ---- rows

rows_most : (mesh : Seated) (n : ℕ) → rows_until mesh n ≤ ALL
unfolding rows_until
rows_most mesh zero = omega arith
rows_most mesh (suc n) = omega (arith, rows_most mesh n)

rows_least : (mesh : Seated) (x n : ℕ) → x ≤ ALL → ((p : ℕ) → p < n → x ≤ rows_at mesh p) → x ≤ rows_until mesh n
unfolding rows_until
rows_least mesh x zero top h = top
rows_least mesh x (suc n) top h =
    let before : x ≤ rows_until mesh n = rows_least mesh x n top (λ p l. h p (omega (arith, l))) in
    let here : x ≤ rows_at mesh n = h n (omega arith) in
    omega (arith, before, here)

-- a mark that counts isn't void
unvoided : (void : Bool) (marked : Option Marked) (m : Marked) → (if void then None else marked) ≡ Some m
    → (void ≡ false) × (marked ≡ Some m)
unvoided true marked m e = absurd (none_some m e)
unvoided false marked m e = (refl, e)

module _ (chain : Chain) (old new : Peered) (later : IsLater old new) (end : ℕ) (voids : KeepsVoids end old new)
    (low : end ≤ rows_known old.member.mesh) where
  abbrev was : Machine
  was = old.member.mesh.machine

  abbrev is : Machine
  is = new.member.mesh.machine

  abbrev had : ℕ → ℕ
  had p = slice_index was.has p

  nobody_same : (p : ℕ) → is_nobody new.member.mesh p ≡ is_nobody old.member.mesh p
  nobody_same p = ap (λ (seat : Seat). nat_le seat.machines (owner_of seat p)) later.seat

  -- a player of the match
  module _ (p : ℕ) (l : p < PLAYER_LIMIT) (there : is_nobody old.member.mesh p ≡ false) where
    left_old : left_in old.member.mesh p ≡ left_at was p
    left_old = ap (λ (x : Bool). if x then None else left_at was p) there

    left_new : left_in new.member.mesh p ≡ left_at is p
    left_new = ap (λ (x : Bool). if x then None else left_at is p) (nobody_same p ∙ there)

    counted_old : counted_at old p ≡ (if is_in old.voids p then None else mark_at old.marks p)
    counted_old = ap (λ (x : Bool). if x || is_in old.voids p then None else mark_at old.marks p) there

    counted_new : counted_at new p ≡ (if is_in new.voids p then None else mark_at new.marks p)
    counted_new = ap (λ (x : Bool). if x || is_in new.voids p then None else mark_at new.marks p) (nobody_same p ∙ there)

    rows : end ≤ rows_at old.member.mesh p
    rows = omega (arith, low, rows_below old.member.mesh PLAYER_LIMIT p l)

    rows_by : (o : Option ℕ) → left_at was p ≡ o → rows_at old.member.mesh p ≡ (if is_some o then ALL else had p)
    rows_by o e =
        ap (λ (x : Bool). if x || is_some (left_in old.member.mesh p) then ALL else had p) there
        ∙ ap (λ (x : Option ℕ). if is_some x then ALL else had p) (left_old ∙ e)

    -- a word before the end is had, if its player has it
    has_it : (frame : ℕ) → frame < end → is_there (left_at was p) frame ≡ true → frame < had p
    has_it frame below t = go (left_at was p) refl t
      where
        go : (o : Option ℕ) → left_at was p ≡ o → is_there o frame ≡ true → frame < had p
        go None e t = omega (arith, below, rows, rows_by None e)
        go (Some n) e t = omega (arith, later.had p n e, ltb-true frame n t)

    there_later : (frame : ℕ) → frame < end → is_there (left_at was p) frame ≡ true → is_there (left_at is p) frame ≡ true
    there_later frame below t = go (left_at is p) refl
      where
        go : (o : Option ℕ) → left_at is p ≡ o → is_there o frame ≡ true
        go None e = refl
        go (Some n) e = lt-ltb frame n (omega (arith, has_it frame below t, later.leaves p n l e))

    there_before : (frame : ℕ) → is_there (left_at is p) frame ≡ true → is_there (left_at was p) frame ≡ true
    there_before frame t = go (left_at was p) refl
      where
        go : (o : Option ℕ) → left_at was p ≡ o → is_there o frame ≡ true
        go None e = refl
        go (Some n) e = ap (λ (o : Option ℕ). is_there o frame) (sym (later.left p n e)) ∙ t

    forth : (m : Marked) → in_rows end (left_in old.member.mesh p) (counted_at old p) ≡ Some m
        → in_rows end (left_in new.member.mesh p) (counted_at new p) ≡ Some m
    forth m found =
        let row = in_rows_is end (left_in old.member.mesh p) (counted_at old p) m found in
        let fine = unvoided (is_in old.voids p) (mark_at old.marks p) m (sym counted_old ∙ row.is) in
        let known : mark_at new.marks p ≡ Some m = later.keeps p m l fine.1 in
        let void : is_in new.voids p ≡ false = voids p m l fine.1 row.below ∙ fine.0 in
        let t : is_there (left_at was p) m.frame ≡ true = ap (λ (o : Option ℕ). is_there o m.frame) (sym left_old) ∙ row.there in
        (λ k. in_rows end (left_new k) ((counted_new ∙ (λ h. if void h then None else known h)) k))
        ∙ in_rows_so end (left_at is p) m row.below (there_later m.frame row.below t)

    back : (m : Marked) → in_rows end (left_in new.member.mesh p) (counted_at new p) ≡ Some m
        → in_rows end (left_in old.member.mesh p) (counted_at old p) ≡ Some m
    back m found =
        let row = in_rows_is end (left_in new.member.mesh p) (counted_at new p) m found in
        let fine = unvoided (is_in new.voids p) (mark_at new.marks p) m (sym counted_new ∙ row.is) in
        let t : is_there (left_at was p) m.frame ≡ true =
        there_before m.frame (ap (λ (o : Option ℕ). is_there o m.frame) (sym left_new) ∙ row.there) in
        let known : mark_at old.marks p ≡ Some m = later.learns p m l (has_it m.frame row.below t) fine.1 in
        let void : is_in old.voids p ≡ false = sym (voids p m l known row.below) ∙ fine.0 in
        (λ k. in_rows end (left_old k) ((counted_old ∙ (λ h. if void h then None else known h)) k))
        ∙ in_rows_so end (left_at was p) m row.below t

    rows_still : end ≤ rows_at new.member.mesh p
    rows_still = go (left_at is p) refl
      where
        by : (o : Option ℕ) → left_at is p ≡ o → rows_at new.member.mesh p ≡ (if is_some o then ALL else slice_index is.has p)
        by o e =
            ap (λ (x : Bool). if x || is_some (left_in new.member.mesh p) then ALL else slice_index is.has p) (nobody_same p ∙ there)
            ∙ ap (λ (x : Option ℕ). if is_some x then ALL else slice_index is.has p) (left_new ∙ e)

        go : (o : Option ℕ) → left_at is p ≡ o → end ≤ rows_at new.member.mesh p
        go (Some n) e = omega (arith, low, rows_most old.member.mesh PLAYER_LIMIT, by (Some n) e)
        go None e = before (left_at was p) refl
          where
            before : (o : Option ℕ) → left_at was p ≡ o → end ≤ rows_at new.member.mesh p
            before None f = omega (arith, rows, rows_by None f, later.rises p l, by None e)
            before (Some n) f = absurd (none_some n (sym e ∙ later.left p n f))

  -- who leaves later leaves past the end
  left_still : (p : ℕ) → p < PLAYER_LIMIT → leaving_at end (left_in old.member.mesh p) ≡ leaving_at end (left_in new.member.mesh p)
  left_still p l = go (cases_Bool (is_nobody old.member.mesh p))
    where
      go : (is_nobody old.member.mesh p ≡ true) ⊎ (is_nobody old.member.mesh p ≡ false)
          → leaving_at end (left_in old.member.mesh p) ≡ leaving_at end (left_in new.member.mesh p)
      go (inl none) =
          ap (leaving_at end) (ap (λ (x : Bool). if x then None else left_at was p) none
          ∙ sym (ap (λ (x : Bool). if x then None else left_at is p) (nobody_same p ∙ none)))
      go (inr some) = ap (leaving_at end) (left_old p l some) ∙ by (left_at was p) refl (left_at is p) refl ∙ ap (leaving_at end) (sym (left_new p l some))
        where
          by : (o : Option ℕ) → left_at was p ≡ o → (n : Option ℕ) → left_at is p ≡ n → leaving_at end (left_at was p) ≡ leaving_at end (left_at is p)
          by (Some k) x n y = ap (leaving_at end) (x ∙ sym (later.left p k x))
          by None x None y = ap (leaving_at end) (x ∙ sym y)
          by None x (Some n) y =
              let low_n : end ≤ n = omega (arith, rows p l some, rows_by p l some None x, later.leaves p n l y) in
              let least : min n end ≡ end = omega (arith, low_n) in
              ap (leaving_at end) x ∙ leaving_is end None ∙ sym (leaving_is end (Some n) ∙ least) ∙ ap (leaving_at end) (sym y)

  pub left_alike_still : LeftAlike end (lefts old.member.mesh) (lefts new.member.mesh)
  left_alike_still = left_by_each old.member.mesh new.member.mesh end left_still

  pub stays_judged : IsJudgedTo end chain old → IsJudgedTo end chain new
  stays_judged judged p m l nobody at below t =
      let some : is_nobody old.member.mesh p ≡ false = sym (nobody_same p) ∙ nobody in
      let t_old : is_there (left_at was p) m.frame ≡ true =
      there_before p l some m.frame (ap (λ (o : Option ℕ). is_there o m.frame) (sym (left_new p l some)) ∙ t) in
      let at_old : mark_at old.marks p ≡ Some m = later.learns p m l (has_it p l some m.frame below t_old) at in
      voids p m l at_old below ∙ judged p m l some at_old below (ap (λ (o : Option ℕ). is_there o m.frame) (left_old p l some) ∙ t_old)

  -- each player
  rows_same : (p : ℕ) → p < PLAYER_LIMIT
      → in_rows end (left_in old.member.mesh p) (counted_at old p) ≡ in_rows end (left_in new.member.mesh p) (counted_at new p)
  rows_same p l = go (cases_Bool (is_nobody old.member.mesh p))
    where
      go : (is_nobody old.member.mesh p ≡ true) ⊎ (is_nobody old.member.mesh p ≡ false)
          → in_rows end (left_in old.member.mesh p) (counted_at old p) ≡ in_rows end (left_in new.member.mesh p) (counted_at new p)
      go (inl none) =
          ap (in_rows end (left_in old.member.mesh p)) (ap (λ (x : Bool). if x || is_in old.voids p then None else mark_at old.marks p) none)
          ∙ sym (ap (in_rows end (left_in new.member.mesh p))
          (ap (λ (x : Bool). if x || is_in new.voids p then None else mark_at new.marks p) (nobody_same p ∙ none)))
      go (inr some) =
          options_same (in_rows end (left_in old.member.mesh p) (counted_at old p)) (in_rows end (left_in new.member.mesh p) (counted_at new p))
          (forth p l some) (back p l some)

  alike : AreAlike (told_by chain old) (told_by chain new) end
  alike = record {
    terms = refl;
    rows = λ p l. told_at chain old end p l ∙ rows_same p l ∙ sym (told_at chain new end p l);
  }

  known_still : end ≤ rows_known new.member.mesh
  known_still =
      rows_least new.member.mesh end PLAYER_LIMIT (omega (arith, low, rows_most old.member.mesh PLAYER_LIMIT))
      (λ p l. go p l (cases_Bool (is_nobody old.member.mesh p)))
    where
      go : (p : ℕ) → p < PLAYER_LIMIT → (is_nobody old.member.mesh p ≡ true) ⊎ (is_nobody old.member.mesh p ≡ false)
          → end ≤ rows_at new.member.mesh p
      go p l (inl none) =
          omega (
            arith,
            low,
            rows_most old.member.mesh PLAYER_LIMIT,
            ap (λ (x : Bool). if x || is_some (left_in new.member.mesh p) then ALL else slice_index is.has p) (nobody_same p ∙ none),
          )
      go p l (inr some) = rows_still p l some

pub over_stays : OverStays
over_stays chain old new e later voids ending =
    let low : e.frame ≤ rows_known old.member.mesh = end_low (told_by chain old) (rows_known old.member.mesh) e ending.end in
    record {
      end = of_one_past_one_end (told_by chain old) (told_by chain new) e.frame (rows_known old.member.mesh) (rows_known new.member.mesh) e
          (alike chain old new later e.frame voids low) (omega arith) (known_still chain old new later e.frame voids low) ending.end;
    }
