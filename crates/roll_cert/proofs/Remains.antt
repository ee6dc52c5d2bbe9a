-- What the lines that are left of a claim's text can be, while it is read.
use Rattle.std.proofs.Common.{◌≡◌, ℕ, suc, ◌+◌, ◌-◌, ◌<◌, ◌≤◌, ◌^◌, ◌++◌, ◌⊎◌, inl, inr, List, [], ◌∷◌, refl, sym, ap, subst, ◌∙◌, arith, length, map, append_assoc}
use Rattle.std.specs.Prelude.{Result, Ok, Err, IfErr}
use Rattle.std.specs.Result.{IsErrAnd}
use Rattle.std.specs.Fmt.{decimal}
use Rattle.std.specs.List.{AllByRecursion}
use Rattle.std.proofs.lemmas.Fmt.{decimal_injective}
use Rattle.std.proofs.lemmas.List.{append-nil, append_cancel_left, length-append}
use Rattle.roll_frame.specs.declared.refusal.Refusal.{Refusal}
use Rattle.roll_frame.specs.declared.refusal.Refusal.TheVariants.{NoMemory, Unreadable}
use Rattle.roll_frame.specs.declared.claim.Claim.{Claim}
use Rattle.roll_text.specs.declared.streams.TheConstants.{TEXT_LIMIT}
use Rattle.roll_text.specs.Lines.{ended, text_of}
use Rattle.roll_text.specs.Text.{IsUnreadableAt}
use Rattle.roll_text.proofs.LineTexts.{first_line, text_of-next}
use Rattle.roll_text.proofs.Spelled.{IsAfter, bad_line, extra_line, no_line}
use Rattle.roll_cert.specs.Reading.{IsWithin, IsWrong, IsWrongAmong, StartsWith, StartsWithAll, StartsWithNone}
use Rattle.roll_cert.specs.Texts.{IsClaimText, IsSized, IsUnreadable, claim_lines, named}
use Rattle.roll_cert.proofs.Laid.{lines-lack}

-- a number after its name, and what the number leaves
abbrev pub Number : List ℕ → (ℕ → Type 0) → (ℕ → List (List ℕ) → Type 0) → List (List ℕ) → Type 0
Number name Fits next lines = (n : ℕ) × (more : List (List ℕ)) × Fits n × next n more × (lines ≡ named name n ∷ more)

-- the lines of so many values, and what comes after them
abbrev pub Each : {A : Type 0} → (A → Type 0) → (A → List ℕ) → (List (List ℕ) → Type 0) → ℕ → List (List ℕ) → Type 0
Each {A = A} Fits spelling next count lines = (values : List A) × (more : List (List ℕ)) × AllByRecursion Fits values × (length values ≡ count) × next more × (lines ≡ map spelling values ++ more)

abbrev pub Section : {A : Type 0} → List ℕ → ℕ → (A → Type 0) → (A → List ℕ) → (List (List ℕ) → Type 0) → List (List ℕ) → Type 0
Section name most Fits spelling next lines = Number name (IsWithin 0 most) (Each Fits spelling next) lines

-- some lines can be left
abbrev pub Possible : (List (List ℕ) → Type 0) → Type 0
Possible Left = (lines : List (List ℕ)) × Left lines

-- the refusal that was handed on
pub handed_on : {X : Type 0} (result : Result X Refusal) (why : Refusal) (P : Refusal → Type 0) → IsErrAnd result (λ error. error ≡ why) → P why → IfErr result P
handed_on (Ok x) why P h p = absurd h
handed_on (Err error) why P h p = subst P (sym h) p

-- Of the text the rest is left, whose first line has this number. The lines that can be left are those with which some
-- claim's lines go on from the lines that were read.
pub record IsLeft (Left : List (List ℕ) → Type 0) (text rest : List ℕ) (line : ℕ) : Type 0 where
  pub done : List (List ℕ)
  pub whole : text ≡ text_of done ++ rest
  pub count : line ≡ length done + 1
  pub claim : (more : List (List ℕ)) → Left more → (y : Claim) × IsSized y × (claim_lines y ≡ done ++ more)
  pub left : (y : Claim) (more : List (List ℕ)) → IsSized y → claim_lines y ≡ done ++ more → Left more
  pub possible : Possible Left

after : {Left : List (List ℕ) → Type 0} (text rest : List ℕ) (line : ℕ) (h : IsLeft Left text rest line) → IsAfter IsSized claim_lines h.done text rest line
after text rest line h =
    let y = h.claim h.possible.0 h.possible.1 in
    record { whole = h.whole; count = h.count; begins = (y.0, h.possible.0, y.1, y.2) }

-- the line that is left next is none of those that can be left
pub wrong_line : {A : Type 0} (Left : List (List ℕ) → Type 0) (Fits : A → Type 0) (spelling : A → List ℕ) (text rest : List ℕ) (line : ℕ) → IsLeft Left text rest line
    → ((lines : List (List ℕ)) → Left lines → (a : A) × (more : List (List ℕ)) × Fits a × (lines ≡ spelling a ∷ more))
    → StartsWithNone Fits spelling rest → IsUnreadableAt line IsClaimText text
wrong_line Left Fits spelling text rest line h first none = elim (first_line rest) [
  | inl lacks ↦
      no_line IsSized claim_lines lines-lack h.done text rest line (after text rest line h) lacks
      (λ y fits e. let found = first [] (h.left y [] fits (e ∙ sym (append-nil h.done))) in let e : [] ≡ spelling found.0 ∷ found.1 = found.3 in cc)
  | inr cut ↦
      bad_line IsSized claim_lines lines-lack h.done text rest cut.0 cut.1 line (after text rest line h) (cut.2, cut.3)
      (λ y more fits e.
      let found = first (cut.0 ∷ more) (h.left y (cut.0 ∷ more) fits e) in
      let e : cut.0 ∷ more ≡ spelling found.0 ∷ found.1 = found.3 in
      let same : cut.0 ≡ spelling found.0 = cc in
      none found.0 cut.1 found.2 (cut.3 ∙ ap (λ l. ended l ++ cut.1) same))
]

-- one line more was read
next_line : (Left Next : List (List ℕ) → Type 0) (text rest first more : List ℕ) (line : ℕ) → IsLeft Left text rest line → rest ≡ ended first ++ more
    → ((lines : List (List ℕ)) → Next lines → Left (first ∷ lines)) → ((lines : List (List ℕ)) → Left (first ∷ lines) → Next lines) → Possible Next → IsLeft Next text more (line + 1)
next_line Left Next text rest first more line h cut to from possible = record {
  done = h.done ++ (first ∷ []);
  whole = text_of-next text rest first more h.done h.whole cut;
  count = omega (arith, h.count, length-append h.done (first ∷ []));
  claim = λ lines next. let y = h.claim (first ∷ lines) (to lines next) in (y.0, y.1, y.2 ∙ sym (append_assoc h.done (first ∷ []) lines));
  left = λ y lines fits e. from lines (h.left y (first ∷ lines) fits (e ∙ append_assoc h.done (first ∷ []) lines));
  possible = possible;
}

-- what can be left is said in other words
said_as : (Left Same : List (List ℕ) → Type 0) (text rest : List ℕ) (line : ℕ) → IsLeft Left text rest line
    → ((lines : List (List ℕ)) → Same lines → Left lines) → ((lines : List (List ℕ)) → Left lines → Same lines) → IsLeft Same text rest line
said_as Left Same text rest line h to from = record {
  done = h.done;
  whole = h.whole;
  count = h.count;
  claim = λ lines same. h.claim lines (to lines same);
  left = λ y lines fits e. from lines (h.left y lines fits e);
  possible = (h.possible.0, from h.possible.0 h.possible.1);
}

-- what follows a number that was read
pub number_left : (name : List ℕ) (least most : ℕ) (next : ℕ → List (List ℕ) → Type 0) (n : ℕ) (lines : List (List ℕ)) → most < 2 ^ 32 → IsWithin least most n → Number name (IsWithin least most) next (named name n ∷ lines) → next n lines
number_left name least most next n lines small within (m, others, fits, left, e) =
    let texts : named name n ≡ named name m = cc in
    let same : m ≡ n = decimal_injective m n (omega (arith, fits, small)) (omega (arith, within, small)) (sym (append_cancel_left name (decimal n) (decimal m) texts)) in
    let rest : others ≡ lines = cc in
    let there : next n others = subst (λ (k : ℕ). next k others) same left in
    subst (λ (ls : List (List ℕ)). next n ls) rest there

-- a number was read
pub number_read : (name : List ℕ) (least most : ℕ) (next : ℕ → List (List ℕ) → Type 0) (text rest more : List ℕ) (line then n : ℕ) → most < 2 ^ 32 → IsLeft (Number name (IsWithin least most) next) text rest line
    → StartsWith (IsWithin least most) (named name) rest more n → then ≡ line + 1 → Possible (next n) → IsLeft (next n) text more then
number_read name least most next text rest more line then n small h s one possible =
    rw one (next_line (Number name (IsWithin least most) next) (next n) text rest (named name n) more line h s.spelled (λ lines left. (n, lines, s.fits, left, refl))
    (λ lines. number_left name least most next n lines small s.fits) possible)

-- the next line is no number that can be left
pub number_wrong : (name : List ℕ) (least most : ℕ) (next : ℕ → List (List ℕ) → Type 0) (text rest : List ℕ) (line : ℕ) (why : Refusal) → length text ≤ TEXT_LIMIT
    → IsLeft (Number name (IsWithin least most) next) text rest line → IsWrong (IsWithin least most) (named name) line rest why → IsUnreadable why text
number_wrong name least most next text rest line why short h wrong =
    (line, wrong.0, inr (short, wrong_line (Number name (IsWithin least most) next) (IsWithin least most) (named name) text rest line h (λ lines (n, more, fits, left, e). (n, more, fits, e)) wrong.1))

module _ {A : Type 0} (Fits : A → Type 0) (spelling : A → List ℕ) (next : List (List ℕ) → Type 0) where
  one_fewer : (count left : ℕ) (first : List ℕ) (lines : List (List ℕ)) → count ≡ suc left → Each Fits spelling next count (first ∷ lines) → Each Fits spelling next left lines
  one_fewer count left first lines e ([], others, fit, n, there, same) = absurd (omega (arith, n, e))
  one_fewer count left first lines e (w ∷ ws, others, fit, n, there, same) =
      let same : first ∷ lines ≡ spelling w ∷ (map spelling ws ++ others) = same in (ws, others, fit.1, omega (arith, n, e), there, cc)

  possible_fewer : (count left : ℕ) → count ≡ suc left → Possible (Each Fits spelling next count) → Possible (Each Fits spelling next left)
  possible_fewer count left e (lines, ([], others, fit, n, there, same)) = absurd (omega (arith, n, e))
  possible_fewer count left e (lines, (w ∷ ws, others, fit, n, there, same)) = (map spelling ws ++ others, (ws, others, fit.1, omega (arith, n, e), there, refl))

  -- so many lines of values were read, and some are left
  each_read : (values : List A) (count left : ℕ) (text rest more : List ℕ) (line : ℕ) → AllByRecursion Fits values → count ≡ length values + left → IsLeft (Each Fits spelling next count) text rest line
      → rest ≡ text_of (map spelling values) ++ more → IsLeft (Each Fits spelling next left) text more (line + length values)
  each_read [] count left text rest more line fit e h cut =
      let same : left ≡ count = omega (arith, e) in
      rw (same, ← cut) (subst (λ (l : ℕ). IsLeft (Each Fits spelling next count) text rest l) (omega arith) h)
  each_read (v ∷ vs) count left text rest more line fit e h cut =
      let fewer : count ≡ suc (length vs + left) = omega (arith, e) in
      let one = next_line (Each Fits spelling next count) (Each Fits spelling next (length vs + left)) text rest (spelling v) (text_of (map spelling vs) ++ more) line h
      (cut ∙ append_assoc (ended (spelling v)) (text_of (map spelling vs)) more)
      (λ lines (ws, others, fits, n, there, same). (v ∷ ws, others, (fit.0, fits), omega (arith, n, e), there, ap (λ t. spelling v ∷ t) same))
      (λ lines. one_fewer count (length vs + left) (spelling v) lines fewer)
      (possible_fewer count (length vs + left) fewer h.possible) in
      let all = each_read vs (length vs + left) left text (text_of (map spelling vs) ++ more) more (line + 1) fit.1 refl one refl in
      subst (λ (l : ℕ). IsLeft (Each Fits spelling next left) text more l) (omega arith) all

  -- all lines of values were read
  pub all_read : (count : ℕ) (text rest more : List ℕ) (line then : ℕ) (values : List A) → IsLeft (Each Fits spelling next count) text rest line → StartsWithAll Fits spelling count rest more values → then ≡ line + count → IsLeft next text more then
  all_read count text rest more line then values h s at =
      let read = each_read values count 0 text rest more line s.fit (omega (arith, s.counted)) h s.spelled in
      let said = said_as (Each Fits spelling next 0) next text more (line + length values) read (λ lines left. ([], lines, tt, refl, left, refl)) none_left in
      subst (λ (l : ℕ). IsLeft next text more l) (omega (arith, s.counted, at)) said
    where
      none_left : (lines : List (List ℕ)) → Each Fits spelling next 0 lines → next lines
      none_left lines ([], more, fit, none, left, e) = subst next (sym e) left
      none_left lines (v ∷ vs, more, fit, none, left, e) = absurd (omega (arith, none))

  -- memory was refused, or a line is no value's
  pub each_refused : (count : ℕ) (text rest : List ℕ) (line : ℕ) (why : Refusal) → length text ≤ TEXT_LIMIT → IsLeft (Each Fits spelling next count) text rest line
      → (why ≡ NoMemory) ⊎ IsWrongAmong Fits spelling count line rest why → (why ≡ NoMemory) ⊎ IsUnreadable why text
  each_refused count text rest line why short h (inl none) = inl none
  each_refused count text rest line why short h (inr wrong) =
      let read = each_read wrong.values count (suc (count - length wrong.values - 1)) text rest wrong.left line wrong.before.fit (omega (arith, wrong.few)) h wrong.before.spelled in
      inr (line + length wrong.values, wrong.named, inr (short, wrong_line (Each Fits spelling next (suc (count - length wrong.values - 1))) Fits spelling text wrong.left (line + length wrong.values) read (first (count - length wrong.values - 1)) wrong.none))
    where
      first : (left : ℕ) (lines : List (List ℕ)) → Each Fits spelling next (suc left) lines → (a : A) × (more : List (List ℕ)) × Fits a × (lines ≡ spelling a ∷ more)
      first left lines ([], others, fit, n, there, same) = absurd (omega (arith, n))
      first left lines (w ∷ ws, others, fit, n, there, same) = (w, map spelling ws ++ others, fit.0, same)

-- nothing is left, but something follows
pub too_much : (text rest : List ℕ) (line : ℕ) (why : Refusal) → length text ≤ TEXT_LIMIT → IsLeft (λ lines. lines ≡ []) text rest line → why ≡ Unreadable line → 1 ≤ length rest → IsUnreadable why text
too_much text rest line why short h named some = (
  line,
  named,
  inr (
    short,
    extra_line IsSized claim_lines lines-lack h.done text rest line (after text rest line h) (omega arith)
        (λ y first more fits e. let none : first ∷ more ≡ [] = h.left y (first ∷ more) fits e in cc),
  ),
)
