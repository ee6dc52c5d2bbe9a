use Rattle.std.proofs.Common.{◌≡◌, ◌∙◌, ◌<◌, ◌==◌, ◌++◌, List, ap, refl, rules, tests, arith, length, map, Option, Some, None}
use Rattle.std.specs.Iterator.{Drains, YieldsThen}
use Rattle.std.proofs.lemmas.List.{length-map}
use Rattle.std.proofs.lemmas.Iterator.{YieldsList}
use Rattle.std.proofs.lemmas.Iterator.Consumers.{YieldsList-at, YieldsList-turn, YieldsList-end}
use Rattle.std.proofs.lemmas.Iterator.Splits.{YieldsList-from_slice_split}
use Rattle.roll_text.proofs.line.few_fields.Goals as goal

module _ {S A B : Type 0} {steps : S → Option A → S → Type 0} {v : A → B} {s t : S} {all : List B} (xs : List A) (same : t ≡ s) where
  drained : Drains steps t xs → YieldsList steps v s all → map v xs ≡ all
  drained d parts = (YieldsList-end (YieldsList-at same parts) xs d.1.0 d.1.1 None d.0 refl d.1.2).0

  one_more : (x : A) (u : S) → YieldsThen steps t xs (Some x) u → YieldsList steps v s all → length xs < length all
  one_more x u d parts = (YieldsList-turn (YieldsList-at same parts) xs d.0 d.1 (Some x) u x refl d.2).0

pub returns-in_default-clause-variant : goal.returns-in_default-clause-variant
returns-in_default-clause-variant g c =
    let more = c.in_default.ensures.one_more in
    let long = one_more more.1 more.4 more.2 more.3 more.5 (YieldsList-from_slice_split _ (λ b. b == c.args.separator) c.args.line.now c.split.ensures.rest c.split.ensures.done c.split.ensures.closure (λ x r q k. search (rules, tests))) in
    let held = more.6 ∙ ap (λ items. items ++ more.1) c.new-fields.ensures in
    (λ no. cc, λ few. absurd (omega (arith, few, long, ap length held, c.in_default.ensures.full)))

pub returns-clause-value : goal.returns-clause-value
returns-clause-value g c =
    let ran = c.in-Ok.ensures.ran in
    let held = ran.3 ∙ ap (λ items. items ++ ran.1) c.new-fields.ensures in
    ap (map (λ field. field.now)) held
    ∙ drained ran.1 ran.2 ran.4 (YieldsList-from_slice_split _ _ c.args.line.now c.split.ensures.rest c.split.ensures.done c.split.ensures.closure (λ x r q k. search (rules, tests)))

pub returns-clause-variant : goal.returns-clause-variant
returns-clause-variant g c =
    (λ yes. omega (arith, ap length (returns-clause-value g c), length-map c.extend.new.self.items (λ field. field.now), c.len.ensures.value, c.len.ensures.fits), λ few. refl)
