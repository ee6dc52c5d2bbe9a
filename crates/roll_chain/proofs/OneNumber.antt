-- Two next epochs of one number come from epochs of one number that ended alike.
use Rattle.std.proofs.Common.{◌≡◌, ◌∙◌, ℕ, zero, suc, List, [], ◌∷◌, ◌++◌, length, refl, sym, ap, append_assoc, arith, Option, Some, None, Result}
use Rattle.std.specs.Prelude.{slice_index_or, IfSome}
use Rattle.std.specs.List.{AllByRecursion}
use Rattle.std.specs.Int.{w32, w64, to_be_bytes}
use Rattle.std.proofs.lemmas.List.Concat.{flat_map-cons}
use Rattle.roll_wire.specs.declared.datagram.Mark.{Mark}
use Rattle.roll_wire.specs.declared.datagram.Marked.{Marked}
use Rattle.roll_wire.specs.declared.fault.WireFault.{WireFault}
use Rattle.roll_wire.specs.Reading.{marked_at, masked_at, number_at, within_at}
use Rattle.roll_wire.specs.Spelling.{digits, long, mark, marks, mask, number, IsLong, IsMark, IsMarked, IsNumber}
use Rattle.roll_wire.proofs.Fields.{long_field, number_field, ok_is, IsField}
use Rattle.roll_wire.proofs.Groups.{marks_field}
use Rattle.roll_epoch.specs.Ids.{leaving_at, leavings}
use Rattle.roll_epoch.specs.Laws.{LeftAlike}
use Rattle.roll_epoch.specs.Successions.{next_owners, successor}
use Rattle.roll_epoch.specs.declared.marks.Ending.{Ending}
use Rattle.roll_epoch.specs.declared.terms.Terms.{Terms}
use Rattle.roll_epoch.proofs.NextLaws.{of_one_past_one_next}
use Rattle.roll_chain.specs.OneNumber.{OfOneNumberOneNext}

-- of one text, one field and one rest
one_field : {A : Type 0} (fits : A → Type 0) (text : A → List ℕ) (read : List ℕ → Result (A × List ℕ) WireFault)
    → IsField fits text read → (x y : A) (rest others : List ℕ) → fits x → fits y → text x ++ rest ≡ text y ++ others
    → (x ≡ y) × (rest ≡ others)
one_field {A} fits text read field x y rest others f g e =
    let both : (x, rest) ≡ (y, others) =
    ok_is (x, rest) (y, others) (sym (field.again x rest f) ∙ ap read e ∙ field.again y others g) in
    (ap (λ (p : A × List ℕ). p.0) both, ap (λ (p : A × List ℕ). p.1) both)

-- ---- a mark

-- the marks of which this is the only one
abbrev alone : Mark → List (Option Marked)
alone m =
    Some (record { frame = 0; mark = m }) ∷ None ∷ None ∷ None ∷ None ∷ None ∷ None ∷ None ∷ []

fits_alone : (m : Mark) → IsMark m
    → (length (alone m) ≡ 8) × AllByRecursion (λ o. IfSome o IsMarked) (alone m)
fits_alone m f = (refl, (((omega arith, f), (tt, (tt, (tt, (tt, (tt, (tt, (tt, tt))))))))))

abbrev first_of : List (Option Marked) → Mark → Mark
first_of [] d = d
first_of (None ∷ ms) d = d
first_of (Some m ∷ ms) d = m.mark

text_alone : (m : Mark) (rest : List ℕ) → marks (alone m) ++ rest ≡ 1 ∷ 0 ∷ (mark m ++ rest)
unfolding mask digits
text_alone m rest = append_assoc (1 ∷ 0 ∷ mark m) [] rest

one_mark : (m n : Mark) (rest others : List ℕ) → IsMark m → IsMark n → mark m ++ rest ≡ mark n ++ others
    → (m ≡ n) × (rest ≡ others)
one_mark m n rest others f g e =
    let texts : marks (alone m) ++ rest ≡ marks (alone n) ++ others =
    text_alone m rest ∙ ap (λ (bytes : List ℕ). 1 ∷ 0 ∷ bytes) e ∙ sym (text_alone n others) in
    let same = one_field (λ (ms : List (Option Marked)). (length ms ≡ 8) × AllByRecursion (λ o. IfSome o IsMarked) ms) marks
    (masked_at None (within_at marked_at)) marks_field (alone m) (alone n) rest others (fits_alone m f) (fits_alone n g) texts in
    (ap (λ (ms : List (Option Marked)). first_of ms m) same.0, same.1)

-- ---- where players left

low : (end : ℕ) (at : Option ℕ) → IsNumber end → IsNumber (leaving_at end at)
low end None h = h
low end (Some at) h = omega (arith, h)

-- a leaving, and those behind it
leavings_are : (end : ℕ) (x : Option ℕ) (xs : List (Option ℕ))
    → leavings end (x ∷ xs) ≡ number (leaving_at end x) ++ leavings end xs
leavings_are end x xs = flat_map-cons (λ (at : Option ℕ). to_be_bytes w32 (leaving_at end at)) x xs

not_none : (end : ℕ) (x : Option ℕ) (xs : List (Option ℕ)) → leavings end (x ∷ xs) ≡ [] → ⊥
not_none end x xs e = absurd (omega (arith, ap (λ (l : List ℕ). length l) (sym (leavings_are end x xs) ∙ e)))

left_same : (end : ℕ) (xs ys : List (Option ℕ)) → IsNumber end → leavings end xs ≡ leavings end ys → LeftAlike end xs ys
left_same end [] [] h e = record { many = refl; places = λ p. refl }
left_same end [] (y ∷ ys) h e = absurd (not_none end y ys (sym e))
left_same end (x ∷ xs) [] h e = absurd (not_none end x xs e)
left_same end (x ∷ xs) (y ∷ ys) h e =
    let both = one_field IsNumber number (number_at w32) number_field (leaving_at end x) (leaving_at end y)
    (leavings end xs) (leavings end ys) (low end x h) (low end y h)
    (sym (leavings_are end x xs) ∙ e ∙ leavings_are end y ys) in
    let others = left_same end xs ys h both.1 in
    record { many = ap suc others.many; places = places both.0 others }
  where
    places : leaving_at end x ≡ leaving_at end y → LeftAlike end xs ys
        → (p : ℕ) → leaving_at end (slice_index_or (x ∷ xs) p None) ≡ leaving_at end (slice_index_or (y ∷ ys) p None)
    places first others zero = first
    places first others (suc p) = others.places p

-- ---- the next epoch

-- it doesn't follow from whose word the mark was on
same_next : (terms : Terms) (e f : Ending) (left : List (Option ℕ)) → e.frame ≡ f.frame → e.mark ≡ f.mark
    → successor terms e left ≡ successor terms f left
unfolding successor next_owners
same_next terms e f left frames marks = λ k. successor terms (record { frame = frames k; player = 0; mark = marks k }) left

-- ---- the law

abbrev behind_frame : Ending → List (Option ℕ) → List ℕ
behind_frame e left = mark e.mark ++ leavings e.frame left

abbrev behind_id : Ending → List (Option ℕ) → List ℕ
behind_id e left = number e.frame ++ behind_frame e left

pub of_one_number_one_next : OfOneNumberOneNext
of_one_number_one_next one other e f left others said also apart same = record {
  id = first.0;
  frame = second.0;
  mark = third.0;
  places = alike;
  next = λ terms.
      of_one_past_one_next one e left others alike ∙ same_next one e f others second.0 third.0
      ∙ ap (λ (t : Terms). successor t f others) terms;
}
  where
    first : (one.id ≡ other.id) × (behind_id e left ≡ behind_id f others)
    first = one_field IsLong long (number_at w64) long_field one.id other.id (behind_id e left) (behind_id f others)
        said.id also.id (apart same)

    second : (e.frame ≡ f.frame) × (behind_frame e left ≡ behind_frame f others)
    second = one_field IsNumber number (number_at w32) number_field e.frame f.frame (behind_frame e left)
        (behind_frame f others) said.frame also.frame first.1

    third : (e.mark ≡ f.mark) × (leavings e.frame left ≡ leavings f.frame others)
    third = one_mark e.mark f.mark (leavings e.frame left) (leavings f.frame others) said.mark also.mark second.1

    alike : LeftAlike e.frame left others
    alike = left_same e.frame left others said.frame (third.1 ∙ ap (λ (end : ℕ). leavings end others) (sym second.0))
