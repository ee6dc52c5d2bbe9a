-- What is known of a text that was read or written in pieces.
use Rattle.std.proofs.Common.{◌≡◌, ℕ, ◌+◌, Result, Ok, Err, ◌≤◌, ◌<◌, ◌++◌, List, Option, Some, None, ap, sym, ◌∙◌, subst, arith, length}
use Rattle.std.specs.Prelude.{IfErr, IfSome}
use Rattle.std.specs.Io.KnownBytes.{Appends, Consumes, IsAtEnd}
use Rattle.std.specs.Result.{IsErrAnd}
use Rattle.roll_text.specs.Streams.{LosesAt}
use Rattle.roll_text.specs.declared.streams.ReadFault.{ReadFault}
use Rattle.roll_text.specs.declared.streams.ReadFault.TheVariants.{NoMemory}
use Rattle.roll_text.specs.declared.streams.TheConstants.{TEXT_LIMIT}
use Rattle.std.proofs.KnownBytes.{Appends-trans, Consumes-trans}
use Rattle.std.proofs.lemmas.List.{append-nil, length-append}

pub appends_more : (a b c : Option (List ℕ)) (x y z : List ℕ) → Appends a b x → Appends b c y → z ≡ x ++ y → Appends a c z
appends_more a b c x y z h k e = rw e (Appends-trans a b c x y h k)

pub consumes_more : (a b c : Option (List ℕ)) (x y z : List ℕ) → Consumes a b x → Consumes b c y → z ≡ x ++ y → Consumes a c z
consumes_more a b c x y z h k e = rw e (Consumes-trans a b c x y h k)

-- memory was refused after this many bytes
pub refused : {X : Type 0} (r : Result X ReadFault) (a b : Option (List ℕ)) (bytes : List ℕ) → IsErrAnd r (λ fault. fault ≡ NoMemory)
    → Consumes a b bytes → length bytes ≤ TEXT_LIMIT + 1 → IfErr r (λ fault. LosesAt fault a b)
refused (Ok x) a b bytes h taken size = absurd h
refused (Err fault) a b bytes h taken size = rw h (bytes, taken, size)

-- what was taken from a reader that is at its end is all that it had
pub whole_text : (a b : Option (List ℕ)) (text : List ℕ) → Consumes a b text → IsAtEnd b → IfSome a (λ known. text ≡ known)
whole_text None b text h end = tt
whole_text (Some known) None text h end = absurd h
whole_text (Some known) (Some rest) text h end = sym (h ∙ ap (λ t. text ++ t) end ∙ append-nil text)

-- a reader had at least what was taken from it
pub long_text : (a b : Option (List ℕ)) (text : List ℕ) (limit : ℕ) → Consumes a b text → limit < length text → IfSome a (λ known. limit < length known)
long_text None b text limit h long = tt
long_text (Some known) None text limit h long = absurd h
long_text (Some known) (Some rest) text limit h long = let n : length known ≡ length (text ++ rest) = ap length h in omega (arith, length-append text rest)

-- what holds of the text that was read holds of the known text
pub of_known : (P : List ℕ → Type 0) (known : Option (List ℕ)) (text : List ℕ) → IfSome known (λ k. text ≡ k) → P text → IfSome known P
of_known P None text h p = tt
of_known P (Some known) text h p = subst P h p
