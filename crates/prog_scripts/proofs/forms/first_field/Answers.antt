use Rattle.std.proofs.Common.{◌≡◌, ◌<◌, ◌==◌, ℕ, List, [], ◌∷◌, Option, Some, None, Bor, refl, sym, length, rules, tests, arith}
use Rattle.std.specs.List.{slice_index_or}
use Rattle.std.specs.Option.{unwrap_or}
use Rattle.std.proofs.lemmas.Iterator.{YieldsList}
use Rattle.std.proofs.lemmas.Iterator.Consumers.{YieldsList-turn, YieldsList-end}
use Rattle.std.proofs.lemmas.Iterator.Splits.{YieldsList-from_slice_split}
use Rattle.std.proofs.lemmas.List.Splits.{length-slice_split}
use Rattle.prog_scripts.proofs.forms.first_field.Goals as goal

first_read : (all : List (List ℕ)) (text : List ℕ) → (0 < length all) × (text ≡ slice_index_or all 0 text) → slice_index_or all 0 [] ≡ text
first_read [] text h = absurd (omega (arith, h.0))
first_read (x ∷ xs) text h = sym h.1

-- what an iterator gives first
first_given : {S : Type 0} {steps : S → Option (Bor (List ℕ)) → S → Type 0} {s : S} {all : List (List ℕ)} (r : Option (Bor (List ℕ))) (u : S) (d : Bor (List ℕ))
    → YieldsList steps (λ x. x.now) s all → 0 < length all → steps s r u → slice_index_or all 0 [] ≡ (unwrap_or r d).now
first_given {s = s} None u d road some step = absurd (omega (arith, some, (YieldsList-end road [] s refl None u refl step).1))
first_given {s = s} {all = all} (Some x) u d road some step = first_read all x.now (YieldsList-turn road [] s refl (Some x) u x refl step)

pub returns : goal.returns
returns c =
    rw c.unwrap_or.ensures (first_given c.next.result c.next.new.self c.args.line
    (YieldsList-from_slice_split _ (λ b. b == 32) c.args.line.now c.split.ensures.rest c.split.ensures.done c.split.ensures.closure (λ x r q k. search (rules, tests)))
    (omega (arith, length-slice_split (λ b. b == 32) c.args.line.now)) c.next.ensures.steps)
