use Rattle.std.proofs.Common.{◌≡◌, ◌≢◌, ◌+◌, ◌∙◌, ℕ, List, arith, length, refl, sym}
use Rattle.std.specs.Prelude.{count_by, ◌==◌}
use Rattle.std.proofs.lemmas.Bool.{eq-eqb, ne_eqb}
use Rattle.roll_inputs.specs.Queues.{Known}
use Rattle.roll_inputs.specs.declared.remote_word.RemoteWord.{RemoteWord}
use Rattle.roll_inputs.proofs.Told.{next_found, next_missing}
use Rattle.roll_inputs.proofs.foretold.next_refusal.Goals as goal

pub returns-in_default : goal.returns-in_default
returns-in_default c = sym (next_missing c.args.queues.now c.args.before.now c.args.word c.in_default.ensures)

pub returns-then-is_local : goal.returns-then-is_local
returns-then-is_local c = sym (next_found c.args.queues.now c.args.before.now c.args.word c.in-Some.queue.now c.in-Some.ensures ∙ rw (sym c.is_local.ensures ∙ c.if-is_local.true) refl)

pub returns-then-is_gone : goal.returns-then-is_gone
returns-then-is_gone c =
    sym
    (next_found c.args.queues.now c.args.before.now c.args.word c.in-Some.queue.now c.in-Some.ensures
    ∙ rw (sym c.is_local.ensures ∙ c.if-is_local.false, sym c.is_gone.ensures ∙ c.if-is_gone.true) refl)

-- the frame of the next word
abbrev next : List RemoteWord → RemoteWord → Known → ℕ
next before word q = length q.player.words + count_by (λ v. v.player == word.player) before

pub returns-then-word-told : goal.returns-then-word-told
returns-then-word-told c =
    let other : next c.args.before.now c.args.word c.in-Some.queue.now ≢ c.args.word.frame = λ same. omega (arith, same, c.count-told.ensures, c.if-word-told.true) in
    sym
    (next_found c.args.queues.now c.args.before.now c.args.word c.in-Some.queue.now c.in-Some.ensures
    ∙ rw (sym c.is_local.ensures ∙ c.if-is_local.false, sym c.is_gone.ensures ∙ c.if-is_gone.false, ne_eqb _ _ other) refl)

pub returns-then-word-told-2 : goal.returns-then-word-told-2
returns-then-word-told-2 c =
    let other : next c.args.before.now c.args.word c.in-Some.queue.now ≢ c.args.word.frame =
    λ same. c.if-word-told-2.true (omega (arith, same, c.count-told.ensures, c.count_words.ensures, c.if-word-told.false)) in
    sym
    (next_found c.args.queues.now c.args.before.now c.args.word c.in-Some.queue.now c.in-Some.ensures
    ∙ rw (sym c.is_local.ensures ∙ c.if-is_local.false, sym c.is_gone.ensures ∙ c.if-is_gone.false, ne_eqb _ _ other) refl)

pub returns-else-word-told-2 : goal.returns-else-word-told-2
returns-else-word-told-2 c =
    let same : next c.args.before.now c.args.word c.in-Some.queue.now ≡ c.args.word.frame = omega (arith, c.if-word-told-2.false, c.count-told.ensures, c.count_words.ensures, c.if-word-told.false) in
    sym
    (next_found c.args.queues.now c.args.before.now c.args.word c.in-Some.queue.now c.in-Some.ensures
    ∙ rw (sym c.is_local.ensures ∙ c.if-is_local.false, sym c.is_gone.ensures ∙ c.if-is_gone.false, eq-eqb _ _ same) refl)
