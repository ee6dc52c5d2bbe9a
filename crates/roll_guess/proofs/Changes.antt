-- The changes after some words, one frame after another.
use Rattle.std.proofs.Common.{◌≡◌, ℕ, ◌+◌, ◌-◌, ◌<◌, ◌≤◌, ◌^◌, ◌⊎◌, inl, inr, List, [], ◌∷◌, ◌++◌, Bool, true, false, cond, length, max, min, refl, sym, ◌∙◌, ap, subst, arith}
use Rattle.std.specs.Prelude.{replicate, ◌==◌}
use Rattle.std.proofs.lemmas.Bool.{cases_lt}
use Rattle.std.proofs.lemmas.List.{append-nil, append_assoc, length-append, replicate_more}
use Rattle.roll_guess.specs.Guesses.{worth_of_words, along, AreOffered, IsChange, IsChangeAfter, IsCourse}
use Rattle.roll_guess.specs.Habits.{held_after}
use Rattle.roll_guess.specs.declared.course.Course.{Course}
use Rattle.roll_guess.specs.declared.habits.Habits.{Habits}
use Rattle.roll_guess.specs.declared.habits.Held.{Held}
use Rattle.roll_guess.specs.declared.ranking.Guess.{Guess}
use Rattle.roll_guess.specs.declared.ranking.View.{View}
use Rattle.roll_guess.proofs.Offers.{offered_as, offered_both}

-- the course of these words, and of the one that is held then, some times more
pub record HoldsOn (habits : Habits) (start : List ℕ) (course : Course) : Type 0 where
  pub from : length start ≤ length course.words.items
  pub words : course.words.items ≡ start ++ replicate (length course.words.items - length start) (along habits start).0.word
  pub held : course.held.word ≡ (along habits start).0.word

-- a change in a frame before this one
abbrev pub IsChangeBefore : Habits → List ℕ → ℕ → List ℕ → Type 0
IsChangeBefore habits words end next = (more : ℕ) × (length words + more < end) × IsChangeAfter habits words more next

same_word : (word age other : ℕ) (same : Bool)
    → (cond {A = Held} same (record { word = word; age = age }) (record { word = word; age = other })).word ≡ word
same_word word age other true = refl
same_word word age other false = refl

held_word : (held : Held) (word : ℕ) → (held_after held word).word ≡ word
held_word held word = same_word word (min (held.age + 1) (2 ^ 32 - 1)) 1 (word == held.word)

module _ (habits : Habits) where
  pub holds_start : (course : Course) → IsCourse habits course → HoldsOn habits course.words.items course
  holds_start course is = record {
    from = omega arith;
    words = let e : length course.words.items - length course.words.items ≡ 0 = omega arith in
        sym (append-nil course.words.items)
        ∙ ap (λ n. course.words.items ++ replicate n (along habits course.words.items).0.word) (sym e);
    held = ap (λ held. held.word) is.held;
  }

  pub holds_more : (start : List ℕ) (course next : Course) → HoldsOn habits start course
      → next.words.items ≡ course.words.items ++ course.held.word ∷ []
      → next.held ≡ held_after course.held course.held.word → HoldsOn habits start next
  holds_more start course next holds words held =
      let from = holds.from in
      let held_one = (along habits start).0.word in
      let many = length course.words.items - length start in
      let one : length next.words.items ≡ length course.words.items + 1 =
      ap length words ∙ length-append course.words.items (course.held.word ∷ []) in
      let e : many + 1 ≡ length next.words.items - length start = omega (arith, from, one) in
      record {
        from = omega (arith, from, one);
        words = words ∙ ap (λ word. course.words.items ++ word ∷ []) holds.held
            ∙ ap (λ words. words ++ held_one ∷ []) holds.words ∙ append_assoc start (replicate many held_one) (held_one ∷ [])
            ∙ ap (λ words. start ++ words) (replicate_more many held_one)
            ∙ ap (λ n. start ++ replicate n held_one) e;
        held = ap (λ held. held.word) held ∙ held_word course.held course.held.word ∙ holds.held;
      }

  module _ (start : List ℕ) (course : Course) (is : IsCourse habits course) (holds : HoldsOn habits start course) where
    same_held : (along habits start).0.word ≡ (along habits course.words.items).0.word
    same_held = sym holds.held ∙ ap (λ held. held.word) is.held

    same_words : (word : ℕ)
        → start ++ replicate (length course.words.items - length start) (along habits start).0.word ++ word ∷ []
        ≡ course.words.items ++ replicate 0 (along habits course.words.items).0.word ++ word ∷ []
    same_words word = ap (λ words. words ++ word ∷ []) (sym holds.words ∙ sym (append-nil course.words.items))

    -- a change in one of the frames is one in an earlier one, or in the last
    pub change_last : (next : List ℕ) → IsChangeAfter habits course.words.items 0 next
        → IsChangeBefore habits start (length course.words.items + 1) next
    change_last next change =
        let from = holds.from in (
          length course.words.items - length start,
          omega (arith, from),
          record {
            word = change.word;
            known = change.known;
            other = λ same. change.other (same ∙ same_held);
            is = change.is ∙ sym (same_words change.word);
          },
        )

    pub change_parts : (next : List ℕ) → IsChangeBefore habits start (length course.words.items + 1) next
        → IsChangeBefore habits start (length course.words.items) next ⊎ IsChangeAfter habits course.words.items 0 next
    change_parts next (more, within, change) = go (cases_lt (length start + more) (length course.words.items))
      where
        go : (length start + more < length course.words.items) ⊎ (length course.words.items ≤ length start + more)
            → IsChangeBefore habits start (length course.words.items) next ⊎ IsChangeAfter habits course.words.items 0 next
        go (inl earlier) = inl (more, earlier, change)
        go (inr last) =
            let from = holds.from in
            let e : more ≡ length course.words.items - length start = omega (arith, from, last, within) in
            inr (record {
              word = change.word;
              known = change.known;
              other = λ same. change.other (same ∙ sym same_held);
              is = change.is ∙ ap (λ n. start ++ replicate n (along habits start).0.word ++ change.word ∷ []) e
                  ∙ same_words change.word;
            })

  change_earlier : (start : List ℕ) (end : ℕ) (next : List ℕ) → IsChangeBefore habits start end next
      → IsChangeBefore habits start (end + 1) next
  change_earlier start end next (more, within, change) = (more, omega (arith, within), change)

  pub change_none : (start next : List ℕ) → IsChangeBefore habits start (length start) next → ⊥
  change_none start next (more, within, change) = omega (arith, within)

  module _ (view : View) (start : List ℕ) (old : List Guess) where
    -- the changes in one frame more were offered
    pub changes_more : (course next : Course) (between new : List Guess) → IsCourse habits course → HoldsOn habits start course
        → next.words.items ≡ course.words.items ++ course.held.word ∷ []
        → AreOffered (worth_of_words habits view) view (IsChangeBefore habits start (length course.words.items)) old between
        → AreOffered (worth_of_words habits view) view (IsChangeAfter habits course.words.items 0) between new
        → AreOffered (worth_of_words habits view) view (IsChangeBefore habits start (length next.words.items)) old new
    changes_more course next between new is holds words before here =
        subst (λ end. AreOffered (worth_of_words habits view) view (IsChangeBefore habits start end) old new)
        (sym (ap length words ∙ length-append course.words.items (course.held.word ∷ [])))
        (offered_both (worth_of_words habits view) view (IsChangeBefore habits start (length course.words.items))
        (IsChangeAfter habits course.words.items 0) (IsChangeBefore habits start (length course.words.items + 1))
        old between new before here
        (change_earlier start (length course.words.items)) (change_last start course is holds)
        (change_parts start course is holds))

    -- those in all frames were
    pub changes_all : (end : ℕ) (new : List Guess) → view.unknown ≤ end → end ≤ max view.unknown (length start)
        → AreOffered (worth_of_words habits view) view (IsChangeBefore habits start end) old new
        → AreOffered (worth_of_words habits view) view (IsChange habits view start) old new
    changes_all end new from to before =
        offered_as (worth_of_words habits view) view (IsChangeBefore habits start end) (IsChange habits view start) old new before within later
      where
        within : (next : List ℕ) → IsChangeBefore habits start end next → IsChange habits view start next
        within next (more, early, change) = (more, omega (arith, early, to), change)

        later : (next : List ℕ) → IsChange habits view start next → IsChangeBefore habits start end next
        later next (more, early, change) = (more, omega (arith, early, from), change)
