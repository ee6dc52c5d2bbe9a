-- Texts of a head's line and a line for each item: where one goes wrong that is no such text.
use Rattle.std.proofs.Common.{◌≡◌, ℕ, ◌+◌, ◌<◌, ◌++◌, inl, inr, List, [], ◌∷◌, refl, sym, ap, ◌∙◌, arith, length, map, get_or, drop}
use Rattle.std.specs.List.{AllByRecursion}
use Rattle.std.proofs.lemmas.List.{append-nil, length-map}
use Rattle.roll_text.specs.Lines.{Lacks, ended, text_of}
use Rattle.roll_text.specs.Text.{IsUnreadableAt, Spells}
use Rattle.roll_text.proofs.LineTexts.{first_line}
use Rattle.roll_text.proofs.Spelled.{IsAfter, unended_line, bad_line, no_line, next_spelled}

-- values of a head and items: which fit, and what their lines are
pub record IsHeaded {H I X : Type 0} (IsHead : H → Type 0) (IsItem : H → I → Type 0) (head_line : H → List ℕ) (item_line : I → List ℕ) (Fits : X → Type 0) (head : X → H) (items : X → List I) (make : H → List I → X) : Type 0 where
  pub head_fits : (x : X) → Fits x → IsHead (head x)
  pub items_fit : (x : X) → Fits x → AllByRecursion (IsItem (head x)) (items x)
  pub made_fits : (h : H) (is : List I) → IsHead h → AllByRecursion (IsItem h) is → Fits (make h is)
  pub made_head : (h : H) (is : List I) → head (make h is) ≡ h
  pub made_items : (h : H) (is : List I) → items (make h is) ≡ is
  pub head_lacks : (h : H) → IsHead h → Lacks 10 (head_line h)
  pub item_lacks : (h : H) (i : I) → IsItem h i → Lacks 10 (item_line i)
  pub same_items : (a b : H) → IsHead a → IsHead b → head_line a ≡ head_line b → (i : I) → IsItem a i → IsItem b i
  pub least : H
  pub least_fits : IsHead least

module _ {H I X : Type 0} {IsHead : H → Type 0} {IsItem : H → I → Type 0} {head_line : H → List ℕ} {item_line : I → List ℕ} {Fits : X → Type 0} {head : X → H} {items : X → List I} {make : H → List I → X}
    (headed : IsHeaded IsHead IsItem head_line item_line Fits head items make) where
  abbrev all_lines : X → List (List ℕ)
  all_lines x = head_line (head x) ∷ map item_line (items x)

  items-lack : (h : H) (is : List I) → AllByRecursion (IsItem h) is → AllByRecursion (Lacks 10) (map item_line is)
  items-lack h [] each = tt
  items-lack h (i ∷ is) each = (headed.item_lacks h i each.0, items-lack h is each.1)

  pub lines-lack : (x : X) → Fits x → AllByRecursion (Lacks 10) (all_lines x)
  lines-lack x fits = (headed.head_lacks (head x) (headed.head_fits x fits), items-lack (head x) (items x) (headed.items_fit x fits))

  made_lines : (h : H) (is : List I) → all_lines (make h is) ≡ head_line h ∷ map item_line is
  made_lines h is = λ i. head_line (headed.made_head h is i) ∷ map item_line (headed.made_items h is i)

  -- nothing was read yet
  at_first : (text : List ℕ) (line : ℕ) → line ≡ 1 → IsAfter Fits all_lines [] text text line
  at_first text line one = record { whole = refl; count = one; begins = (make headed.least [], all_lines (make headed.least []), headed.made_fits headed.least [] headed.least_fits tt, refl) }

  -- a text whose first line has no end, or that has no line
  pub no_first : (text : List ℕ) (line : ℕ) → line ≡ 1 → Lacks 10 text → IsUnreadableAt line (Spells Fits all_lines) text
  no_first text line one lacks = no_line Fits all_lines lines-lack [] text text line (at_first text line one) lacks (λ other fits e. let n : length (all_lines other) ≡ 0 = ap length e in omega (arith, n))

  -- a first line that is no head's
  pub no_head : (text first rest : List ℕ) (line : ℕ) → line ≡ 1 → Lacks 10 first × (text ≡ ended first ++ rest) → ((h : H) → IsHead h → first ≡ head_line h → ⊥) → IsUnreadableAt line (Spells Fits all_lines) text
  no_head text first rest line one cut none =
      bad_line Fits all_lines lines-lack [] text text first rest line (at_first text line one) cut
      (λ other more fits e. none (head other) (headed.head_fits other fits) (ap (λ lines. get_or lines 0 []) (sym e)))

  -- the lines of a head and of items so far
  abbrev pub lines_so_far : H → List I → List (List ℕ)
  lines_so_far h is = head_line h ∷ map item_line is

  -- a head and items were read
  after_items : (h : H) (is : List I) (text rest : List ℕ) (line : ℕ) → IsHead h → AllByRecursion (IsItem h) is
      → text ≡ text_of (lines_so_far h is) ++ rest → line ≡ length is + 2 → IsAfter Fits all_lines (lines_so_far h is) text rest line
  after_items h is text rest line fits each whole count = record {
    whole = whole;
    count = omega (arith, length-map is item_line);
    begins = (make h is, [], headed.made_fits h is fits each, made_lines h is ∙ sym (append-nil (lines_so_far h is)));
  }

  -- these were read, and then comes a line with no end
  pub no_end_after : (h : H) (is : List I) (text rest : List ℕ) (line : ℕ) → IsHead h → AllByRecursion (IsItem h) is
      → text ≡ text_of (lines_so_far h is) ++ rest → line ≡ length is + 2 → 0 < length rest → Lacks 10 rest → IsUnreadableAt line (Spells Fits all_lines) text
  no_end_after h is text rest line fits each whole count some lacks =
      unended_line Fits all_lines lines-lack (lines_so_far h is) text rest line (after_items h is text rest line fits each whole count) lacks some

  -- these were read, and then comes a line that is no item's
  pub no_item : (h : H) (is : List I) (text rest front after : List ℕ) (line : ℕ) → IsHead h → AllByRecursion (IsItem h) is
      → text ≡ text_of (lines_so_far h is) ++ rest → line ≡ length is + 2 → Lacks 10 front × (rest ≡ ended front ++ after)
      → ((i : I) → IsItem h i → front ≡ item_line i → ⊥) → IsUnreadableAt line (Spells Fits all_lines) text
  no_item h is text rest front after line fits each whole count cut none =
      bad_line Fits all_lines lines-lack (lines_so_far h is) text rest front after line (after_items h is text rest line fits each whole count) cut
      (λ other more other_fits e.
      let next = next_spelled (IsItem (head other)) item_line (items other) (map item_line is) front more (headed.items_fit other other_fits) (ap (drop 1) e) in
      none next.0 (headed.same_items (head other) h (headed.head_fits other other_fits) fits (ap (λ lines. get_or lines 0 []) e) next.0 next.1) next.2)

  -- these were read, and then something comes with which no item's line begins
  pub no_item_next : (h : H) (is : List I) (text rest : List ℕ) (line : ℕ) → IsHead h → AllByRecursion (IsItem h) is
      → text ≡ text_of (lines_so_far h is) ++ rest → line ≡ length is + 2 → 0 < length rest
      → ((i : I) (after : List ℕ) → IsItem h i → rest ≡ ended (item_line i) ++ after → ⊥) → IsUnreadableAt line (Spells Fits all_lines) text
  no_item_next h is text rest line fits each whole count some none = elim (first_line rest) [
    | inl lacks ↦ no_end_after h is text rest line fits each whole count some lacks
    | inr cut ↦ no_item h is text rest cut.0 cut.1 line fits each whole count (cut.2, cut.3) (λ i is_item e. none i cut.1 is_item (cut.3 ∙ ap (λ t. ended t ++ cut.1) e))
  ]
