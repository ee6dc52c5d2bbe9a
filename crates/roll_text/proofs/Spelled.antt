-- The first unreadable line where the readable texts are those of values, each of which has its lines.
use Rattle.std.proofs.Common.{◌≡◌, ℕ, ◌+◌, ◌<◌, ◌++◌, inl, inr, List, [], ◌∷◌, refl, sym, ap, ◌∙◌, arith, length, get_or, map}
use Rattle.std.specs.List.{AllByRecursion}
use Rattle.std.proofs.Math.Seq.{get_or-append_seam}
use Rattle.std.proofs.lemmas.List.{append-nil, length-append, length-map, map-append}
use Rattle.roll_text.specs.Lines.{Lacks, ended, text_of, lines_of}
use Rattle.roll_text.specs.Text.{IsUnreadableAt, Spells}
use Rattle.roll_text.proofs.LineTexts.{lines_of-ended, lines_of-last, lines_of-text_of, lines_of-whole, first_line, no_end, ended-injective, map-ended-injective}
use Rattle.roll_text.proofs.Unreadable.{bad_at, missing_at}

front-lacks : (xs ys all : List (List ℕ)) → all ≡ xs ++ ys → AllByRecursion (Lacks 10) all → AllByRecursion (Lacks 10) xs
front-lacks [] ys all e h = tt
front-lacks (x ∷ xs) ys [] e h = absurd (cc)
front-lacks (x ∷ xs) ys (a ∷ all) e h =
    let same : a ≡ x = cc in
    let rest : all ≡ xs ++ ys = cc in
    (rw (← same) h.0, front-lacks xs ys all rest h.1)

-- what follows ended lines, where all lines are ended
begins_ended : (done lines : List (List ℕ)) (first : List ℕ) (after : List (List ℕ)) → map ended lines ≡ map ended done ++ (first ∷ after)
    → (line : List ℕ) × (more : List (List ℕ)) × (first ≡ ended line) × (lines ≡ done ++ (line ∷ more))
begins_ended [] [] first after e = cc
begins_ended [] (x ∷ xs) first after e = (x, xs, cc, refl)
begins_ended (d ∷ done) [] first after e = cc
begins_ended (d ∷ done) (x ∷ xs) first after e =
    let same : x ≡ d = ended-injective x d (cc) in
    let rest = begins_ended done xs first after (cc) in
    (rest.0, rest.1, rest.2, ap (λ t. x ∷ t) rest.3 ∙ ap (λ t. t ∷ (done ++ (rest.0 ∷ rest.1))) same)

-- The lines `done` of the text were read, with which some value's lines begin; the rest of the text comes next, and the
-- number of its first line is given.
pub record IsAfter {X : Type 0} (Fits : X → Type 0) (lines : X → List (List ℕ)) (done : List (List ℕ)) (text rest : List ℕ) (line : ℕ) : Type 0 where
  pub whole : text ≡ text_of done ++ rest
  pub count : line ≡ length done + 1
  pub begins : (x : X) × (more : List (List ℕ)) × Fits x × (lines x ≡ done ++ more)

module _ {X : Type 0} (Fits : X → Type 0) (lines : X → List (List ℕ)) (lacking : (x : X) → Fits x → AllByRecursion (Lacks 10) (lines x)) where
  lines_of-spelled : (text : List ℕ) (spelled : Spells Fits lines text) → lines_of text ≡ map ended (lines spelled.0)
  lines_of-spelled text spelled = ap lines_of spelled.2 ∙ lines_of-whole (lines spelled.0) (lacking spelled.0 spelled.1)

  done-lacks : (done : List (List ℕ)) (text rest : List ℕ) (line : ℕ) → IsAfter Fits lines done text rest line → AllByRecursion (Lacks 10) done
  done-lacks done text rest line s = front-lacks done s.begins.1 (lines s.begins.0) s.begins.3 (lacking s.begins.0 s.begins.2)

  begins-lines : (done : List (List ℕ)) (text rest : List ℕ) (line : ℕ) (s : IsAfter Fits lines done text rest line)
      → lines_of (text_of (lines s.begins.0)) ≡ map ended done ++ map ended s.begins.1
  begins-lines done text rest line s = lines_of-whole (lines s.begins.0) (lacking s.begins.0 s.begins.2) ∙ ap (map ended) s.begins.3 ∙ map-append ended done s.begins.1

  -- a line with no end
  pub unended_line : (done : List (List ℕ)) (text rest : List ℕ) (line : ℕ) → IsAfter Fits lines done text rest line
      → Lacks 10 rest → 0 < length rest
      → IsUnreadableAt line (Spells Fits lines) text
  unended_line done text rest line s lacks some =
      bad_at (Spells Fits lines) (map ended done) text rest [] line
      (ap lines_of s.whole ∙ lines_of-text_of done rest (done-lacks done text rest line s) ∙ ap (λ t. map ended done ++ t) (lines_of-last rest lacks some))
      (omega (arith, length-map done ended, s.count))
      (text_of (lines s.begins.0)) (s.begins.0, s.begins.2, refl) (map ended s.begins.1) (begins-lines done text rest line s)
      (λ other after readable e.
      let begins = begins_ended done (lines readable.0) rest after (sym (lines_of-spelled other readable) ∙ e) in
      no_end rest begins.0 lacks begins.2)

  -- a line with which no value's lines go on
  pub bad_line : (done : List (List ℕ)) (text rest first after : List ℕ) (line : ℕ) → IsAfter Fits lines done text rest line
      → Lacks 10 first × (rest ≡ ended first ++ after)
      → ((y : X) (more : List (List ℕ)) → Fits y → lines y ≡ done ++ (first ∷ more) → ⊥)
      → IsUnreadableAt line (Spells Fits lines) text
  bad_line done text rest first after line s cut none =
      bad_at (Spells Fits lines) (map ended done) text (ended first) (lines_of after) line
      (ap lines_of s.whole ∙ lines_of-text_of done rest (done-lacks done text rest line s) ∙ ap (λ t. map ended done ++ t) (ap lines_of cut.1 ∙ lines_of-ended first after cut.0))
      (omega (arith, length-map done ended, s.count))
      (text_of (lines s.begins.0)) (s.begins.0, s.begins.2, refl) (map ended s.begins.1) (begins-lines done text rest line s)
      (λ other after readable e.
      let begins = begins_ended done (lines readable.0) (ended first) after (sym (lines_of-spelled other readable) ∙ e) in
      let same : begins.0 ≡ first = sym (ended-injective first begins.0 begins.2) in
      none readable.0 begins.1 readable.1 (begins.3 ∙ ap (λ t. done ++ (t ∷ begins.1)) same))

  -- the text ends where each value's lines go on
  pub missing_line : (done : List (List ℕ)) (text rest : List ℕ) (line : ℕ) → IsAfter Fits lines done text rest line
      → rest ≡ []
      → ((y : X) → Fits y → lines y ≡ done → ⊥)
      → IsUnreadableAt line (Spells Fits lines) text
  missing_line done text rest line s nothing none =
      missing_at (Spells Fits lines) (map ended done) text line
      (ap lines_of (s.whole ∙ ap (λ t. text_of done ++ t) nothing ∙ append-nil (text_of done)) ∙ lines_of-whole done (done-lacks done text rest line s))
      (omega (arith, length-map done ended, s.count))
      (text_of (lines s.begins.0)) (s.begins.0, s.begins.2, refl) (map ended s.begins.1) (begins-lines done text rest line s)
      (λ other readable e. none readable.0 readable.1 (map-ended-injective (lines readable.0) done (sym (lines_of-spelled other readable) ∙ e)))

  -- no line is left, with an end, where each value's lines go on
  pub no_line : (done : List (List ℕ)) (text rest : List ℕ) (line : ℕ) → IsAfter Fits lines done text rest line
      → Lacks 10 rest
      → ((y : X) → Fits y → lines y ≡ done → ⊥)
      → IsUnreadableAt line (Spells Fits lines) text
  no_line done text [] line s lacks none = missing_line done text [] line s refl none
  no_line done text (b ∷ bs) line s lacks none = unended_line done text (b ∷ bs) line s lacks (omega arith)

  -- something is left where no value's lines go on
  pub extra_line : (done : List (List ℕ)) (text rest : List ℕ) (line : ℕ) → IsAfter Fits lines done text rest line
      → 0 < length rest
      → ((y : X) (first : List ℕ) (more : List (List ℕ)) → Fits y → lines y ≡ done ++ (first ∷ more) → ⊥)
      → IsUnreadableAt line (Spells Fits lines) text
  extra_line done text rest line s some none = elim (first_line rest) [
    | inl h ↦ unended_line done text rest line s h some
    | inr h ↦ bad_line done text rest h.0 h.1 line s (h.2, h.3) (λ y more. none y h.0 more)
  ]

-- where lines are spelled from values, one each, the next line is some value's
pub next_spelled : {A : Type 0} (Fits : A → Type 0) (spelling : A → List ℕ) (values : List A) (done : List (List ℕ)) (first : List ℕ) (more : List (List ℕ))
    → AllByRecursion Fits values → map spelling values ≡ done ++ (first ∷ more) → (a : A) × Fits a × (first ≡ spelling a)
next_spelled Fits spelling [] [] first more h e = cc
next_spelled Fits spelling [] (d ∷ done) first more h e = cc
next_spelled Fits spelling (a ∷ values) [] first more h e = (a, h.0, cc)
next_spelled Fits spelling (a ∷ values) (d ∷ done) first more h e = next_spelled Fits spelling values done first more h.1 (cc)

-- the line that comes next has its place in the list
pub next_at : (lines done : List (List ℕ)) (first : List ℕ) (more : List (List ℕ)) → lines ≡ done ++ (first ∷ more) → (length done < length lines) × (get_or lines (length done) [] ≡ first)
next_at lines done first more e =
    let size : length lines ≡ length (done ++ (first ∷ more)) = ap length e in
    (omega (arith, length-append done (first ∷ more)), ap (λ t. get_or t (length done) []) e ∙ get_or-append_seam done first more [])
