-- Lines that are no value's.
use Rattle.std.proofs.Common.{◌≡◌, ℕ, ◌<◌, ◌^◌, ◌==◌, ◌++◌, ◌⊎◌, inr, false, List, [], ◌∷◌, Option, Some, None, refl, sym, ap, ◌∙◌, arith, get_or}
use Rattle.std.specs.Prelude.{IfErr}
use Rattle.std.specs.Fmt.{decimal}
use Rattle.std.specs.List.{list_any}
use Rattle.std.specs.Option.{ok_or}
use Rattle.std.proofs.lemmas.Bool.{or_parts}
use Rattle.std.proofs.lemmas.List.Elements.{All-append, All-cons, All-nil}
use Rattle.roll_frame.specs.declared.refusal.Refusal.TheVariants.{NoMemory, Unreadable}
use Rattle.roll_text.specs.Lines.{Lacks, ended, lines_of}
use Rattle.roll_text.proofs.Joined.{decimal-lacks}
use Rattle.roll_text.proofs.LineTexts.{ended-injective, lines_of-ended}
use Rattle.roll_cert.specs.Reading.{IsWithin, IsWrong}
use Rattle.roll_cert.specs.Texts.{named}

-- two texts that are one begin with one line
pub same_first : (x y after more : List ℕ) → Lacks 10 x → Lacks 10 y → ended x ++ after ≡ ended y ++ more → x ≡ y
same_first x y after more h k e =
    ended-injective x y (ap (λ lines. get_or lines 0 []) (sym (lines_of-ended x after h) ∙ ap lines_of e ∙ lines_of-ended y more k))

-- a line that no value has was refused
pub not_read : {X A : Type 0} (Fits : A → Type 0) (spelling : A → List ℕ) → ((a : A) → Fits a → Lacks 10 (spelling a))
    → (read : Option X) (line text after : List ℕ) (next : ℕ) → Lacks 10 line → text ≡ ended line ++ after → (read ≡ None → (a : A) → Fits a → line ≡ spelling a → ⊥)
    → IfErr (ok_or read (Unreadable next)) (IsWrong Fits spelling next text)
not_read Fits spelling lacking (Some x) line text after next lacks cut none = tt
not_read Fits spelling lacking None line text after next lacks cut none = (refl, λ a more fits e. none refl a fits (same_first line (spelling a) after more lacks (lacking a fits) (sym cut ∙ e)))

-- the same where memory can be refused too
pub not_read_or : {X A : Type 0} (Fits : A → Type 0) (spelling : A → List ℕ) → ((a : A) → Fits a → Lacks 10 (spelling a))
    → (read : Option X) (line text after : List ℕ) (next : ℕ) → Lacks 10 line → text ≡ ended line ++ after → (read ≡ None → (a : A) → Fits a → line ≡ spelling a → ⊥)
    → IfErr (ok_or read (Unreadable next)) (λ why. (why ≡ NoMemory) ⊎ IsWrong Fits spelling next text why)
not_read_or Fits spelling lacking (Some x) line text after next lacks cut none = tt
not_read_or Fits spelling lacking None line text after next lacks cut none = inr (refl, λ a more fits e. none refl a fits (same_first line (spelling a) after more lacks (lacking a fits) (sym cut ∙ e)))

lacks_end : (name : List ℕ) → list_any (λ b. b == 10) name ≡ false → Lacks 10 name
lacks_end [] h = All-nil _
lacks_end (b ∷ bs) h = let parts = or_parts (b == 10) (list_any (λ b. b == 10) bs) h in All-cons (λ x. (x == 10) ≡ false) b bs parts.0 (lacks_end bs parts.1)

pub named-lacks : (name : List ℕ) (least most n : ℕ) → list_any (λ b. b == 10) name ≡ false → most < 2 ^ 32 → IsWithin least most n → Lacks 10 (named name n)
named-lacks name least most n h small fits = All-append (λ x. (x == 10) ≡ false) name (decimal n) (lacks_end name h) (decimal-lacks 10 n (omega arith) (omega (arith, fits)))
