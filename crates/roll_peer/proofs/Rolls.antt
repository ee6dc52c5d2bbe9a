-- A roll that was asked for.
use Rattle.roll_frame.specs.declared.reply.Reply.TheVariants.{Refused}
use Rattle.std.proofs.Common.{◌≡◌, ap, ◌+◌, List, inl, inr, Result, Ok, Err, None}
use Rattle.std.specs.Prelude.{IfErr, IfOk, OnOk}
use Rattle.roll_frame.specs.Timeline.{row_at}
use Rattle.roll_frame.specs.declared.refusal.Refusal.{Refusal}
use Rattle.roll_frame.specs.declared.refusal.Refusal.TheVariants.{NoMemory}
use Rattle.roll_frame.specs.declared.row.Cell.{Cell}
use Rattle.roll_session.specs.Changes.{advance_refusal, after_advance, after_sync, reached_by, sync_refusal, IsRollRefused}
use Rattle.roll_session.specs.Seen.{Seen, Step}
use Rattle.roll_session.specs.declared.event.Call.TheVariants.{Sync, Advance}
use Rattle.roll_session.specs.declared.event.Reached.{Reached}
use Rattle.roll_session.proofs.Changes.{advance_answered, sync_answered}
use Rattle.roll_peer.specs.Rolling.{RollsOnce}

module _ (step : Step) (old new : Seen) (is_told : Type 0) where
  pub synced : (result : Result (List Cell) Refusal) → OnOk result (sync_refusal old ≡ None) → IfOk result (λ row. row ≡ row_at old.core.players old.core.frame) → OnOk result (new ≡ after_sync old)
      → IfErr result (IsRollRefused (sync_refusal old) old new old.core.frame) → OnOk result (is_told → ⊥) → IfErr result (λ why. why ≡ NoMemory → is_told) → IfErr result (λ why. is_told → why ≡ NoMemory) → RollsOnce step old new is_told
  synced (Ok row) fine is rolled refused never told only =
      inr (record { call = Sync; is_roll = tt; said = _; answered = sync_answered step old new (Ok row) fine is rolled refused; short = λ e. absurd (cc e); only = λ e. absurd (never e) })
  synced (Err why) fine is rolled refused never told only =
      inr (record { call = Sync; is_roll = tt; said = _; answered = sync_answered step old new (Err why) fine is rolled refused; short = λ e. told (cc e); only = λ e. ap (λ r. Refused r) (only e) })

  pub advanced : (result : Result Reached Refusal) → OnOk result (advance_refusal old ≡ None) → IfOk result (λ reached. reached ≡ reached_by old.core) → OnOk result (new ≡ after_advance old)
      → IfErr result (IsRollRefused (advance_refusal old) old new (old.core.frame + 1)) → OnOk result (is_told → ⊥) → IfErr result (λ why. why ≡ NoMemory → is_told) → IfErr result (λ why. is_told → why ≡ NoMemory) → RollsOnce step old new is_told
  advanced (Ok reached) fine is rolled refused never told only =
      inr (record { call = Advance; is_roll = tt; said = _; answered = advance_answered step old new (Ok reached) fine is rolled refused; short = λ e. absurd (cc e); only = λ e. absurd (never e) })
  advanced (Err why) fine is rolled refused never told only =
      inr (record { call = Advance; is_roll = tt; said = _; answered = advance_answered step old new (Err why) fine is rolled refused; short = λ e. told (cc e); only = λ e. ap (λ r. Refused r) (only e) })

-- what is told is told in other words
pub rolls_told : (step : Step) (old new : Seen) (is_told is_said : Type 0) → (is_told → is_said) → (is_said → is_told) → RollsOnce step old new is_told → RollsOnce step old new is_said
rolls_told step old new is_told is_said f g (inl same) = inl same
rolls_told step old new is_told is_said f g (inr r) =
    inr (record { call = r.call; is_roll = r.is_roll; said = r.said; answered = r.answered; short = λ e. f (r.short e); only = λ e. r.only (g e) })
