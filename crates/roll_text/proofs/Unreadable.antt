-- The first unreadable line.
use Rattle.std.proofs.Common.{◌≡◌, ℕ, ◌+◌, ◌-◌, ◌≤◌, ◌<◌, ◌++◌, List, [], ◌∷◌, refl, sym, ap, ◌∙◌, arith, append_assoc, length, min, take, drop}
use Rattle.std.proofs.Math.Seq.{take-append_seam, take-append-add}
use Rattle.std.proofs.lemmas.List.{take-append-drop, take_all, length-take, take-take}
use Rattle.roll_text.specs.Lines.{lines_of}
use Rattle.roll_text.specs.Text.{IsUnreadableAt}

front_of : (done after : List (List ℕ)) (n : ℕ) → length done ≡ n → take n (done ++ after) ≡ done
front_of done after n e = rw (← e) (take-append_seam done after)

-- after these lines no readable text has this line
pub bad_at : (IsReadable : List ℕ → Type 0) (done : List (List ℕ)) (text first : List ℕ) (more : List (List ℕ)) (line : ℕ)
    → lines_of text ≡ done ++ (first ∷ more) → line ≡ length done + 1
    → (other : List ℕ) → IsReadable other → (after : List (List ℕ)) → lines_of other ≡ done ++ after
    → ((other : List ℕ) (after : List (List ℕ)) → IsReadable other → lines_of other ≡ done ++ (first ∷ after) → ⊥)
    → IsUnreadableAt line IsReadable text
bad_at IsReadable done text first more line seen count witness readable after shape none =
    let known : length done ≡ line - 1 = omega arith in
    record {
      counted = omega arith;
      earlier = (witness, readable, ap (take (line - 1)) shape ∙ front_of done after (line - 1) known ∙ sym (ap (take (line - 1)) seen ∙ front_of done (first ∷ more) (line - 1) known));
      here = λ other fits e.
          let ours : take line (lines_of text) ≡ done ++ (first ∷ []) = ap (take line) seen ∙ rw count (take-append-add done (first ∷ more) 1) in
          let whole : lines_of other ≡ done ++ (first ∷ drop line (lines_of other)) = sym (take-append-drop line (lines_of other))
          ∙ ap (λ t. t ++ drop line (lines_of other)) (e ∙ ours) ∙ append_assoc done (first ∷ []) (drop line (lines_of other)) in
          none other (drop line (lines_of other)) fits whole;
    }

-- these lines are no readable text, and one goes on from them
pub missing_at : (IsReadable : List ℕ → Type 0) (done : List (List ℕ)) (text : List ℕ) (line : ℕ)
    → lines_of text ≡ done → line ≡ length done + 1
    → (other : List ℕ) → IsReadable other → (after : List (List ℕ)) → lines_of other ≡ done ++ after
    → ((other : List ℕ) → IsReadable other → lines_of other ≡ done → ⊥)
    → IsUnreadableAt line IsReadable text
missing_at IsReadable done text line seen count witness readable after shape none =
    let known : length done ≡ line - 1 = omega arith in
    record {
      counted = omega arith;
      earlier = (witness, readable, ap (take (line - 1)) shape ∙ front_of done after (line - 1) known ∙ sym (ap (take (line - 1)) seen ∙ take_all (line - 1) done (omega arith)));
      here = λ other fits e.
          let ours : take line (lines_of other) ≡ done = e ∙ ap (take line) seen ∙ take_all line done (omega arith) in
          let n : min line (length (lines_of other)) ≡ length done = sym (length-take line (lines_of other)) ∙ ap length ours in
          none other fits (sym (take_all line (lines_of other) (omega arith)) ∙ ours);
    }

fewer : (a b : ℕ) (xs ys : List (List ℕ)) → a ≤ b → take b xs ≡ take b ys → take a xs ≡ take a ys
fewer a b xs ys less e =
    sym (take-take a b xs less) ∙ ap (take a) e ∙ take-take a b ys less

-- texts that are readable together are unreadable at the same lines
pub IsUnreadableAt-same : (P Q : List ℕ → Type 0) (line : ℕ) (text : List ℕ) → ((other : List ℕ) → P other → Q other) → ((other : List ℕ) → Q other → P other)
    → IsUnreadableAt line P text → IsUnreadableAt line Q text
IsUnreadableAt-same P Q line text to back h = record {
  counted = h.counted;
  earlier = (h.earlier.0, to h.earlier.0 h.earlier.1, h.earlier.2);
  here = λ other readable e. h.here other (back other readable) e;
}

not_before : (IsReadable : List ℕ → Type 0) (a b : ℕ) (text : List ℕ) → IsUnreadableAt a IsReadable text → IsUnreadableAt b IsReadable text → a < b → ⊥
not_before IsReadable a b text h k less = h.here k.earlier.0 k.earlier.1 (fewer a (b - 1) (lines_of k.earlier.0) (lines_of text) (omega arith) k.earlier.2)

-- a text is unreadable at one line
pub IsUnreadableAt-unique : (IsReadable : List ℕ → Type 0) (a b : ℕ) (text : List ℕ) → IsUnreadableAt a IsReadable text → IsUnreadableAt b IsReadable text → a ≡ b
IsUnreadableAt-unique IsReadable a b text h k =
    let up = not_before IsReadable a b text h k in
    let down = not_before IsReadable b a text k h in
    grind (arith, up, down)

-- a readable text is unreadable nowhere
pub not_unreadable : (IsReadable : List ℕ → Type 0) (line : ℕ) (text : List ℕ) → IsReadable text → IsUnreadableAt line IsReadable text → ⊥
not_unreadable IsReadable line text readable h = h.here text readable refl
