-- What others say is heard, whatever is answered.
use Rattle.std.proofs.Common.{◌≡◌, List, [], ◌∷◌, map, refl, ap, subst, sym, inl, inr}
use Rattle.roll_frame.specs.declared.entry.Entry.{Entry}
use Rattle.roll_frame.specs.declared.entry.Entry.TheVariants.{Remote, Disconnect}
use Rattle.roll_frame.specs.declared.reply.Reply.{Reply}
use Rattle.roll_session.specs.Answered.{IsAnswered, IsCutShort, IsPlayed}
use Rattle.roll_session.specs.Others.{bare, AreSaid, Hears, IsOfOthers, Said}
use Rattle.roll_session.specs.Seen.{Seen, Step, plain}
use Rattle.roll_session.proofs.Copies.{played_bare}
use Rattle.roll_session.proofs.Headlines.{AreAsked}
use Rattle.roll_session.proofs.Turns.{IsAsked}
use Rattle.roll_session.proofs.Runs.{played_more, played_none}

pub hears_same : (step : Step) (old new : Seen) → bare old ≡ bare new → Hears step old new
hears_same step old new same =
    record { said = []; are_said = same }

never_cut : (old new : Seen) (entry : Entry) → IsOfOthers entry → IsCutShort old new entry → ⊥
never_cut old new (Remote player frame word) o cut = cut
never_cut old new (Disconnect player) o cut = cut
never_cut old new entry o cut = absurd o

pub hears_answered : (step : Step) (old new : Seen) (entry : Entry) (said : Reply) → IsOfOthers entry → IsAnswered step old new (plain entry) said → Hears step old new
hears_answered step old new entry said o (inl r) =
    record { said = record { entry = entry; after = new } ∷ []; are_said = (o, (played_bare step old new (plain entry ∷ []) r.played, refl)) }
hears_answered step old new entry said o (inr h) =
    elim h.1.left [
      | inl same ↦ hears_same step old new (ap bare (sym same.0))
      | inr cut ↦ absurd (never_cut old new entry o cut)
    ]

-- they are played, one after another
pub played_said : (step : Step) (old new : Seen) (said : List Said) → AreSaid step old said new → IsPlayed step (bare old) (bare new) (map (λ s. plain s.entry) said)
played_said step old new [] same = subst (λ (s : Seen). IsPlayed step (bare old) s []) same (played_none step (bare old))
played_said step old new (first ∷ more) a =
    played_more step (bare old) (bare first.after) (bare new) (plain first.entry ∷ []) (map (λ s. plain s.entry) more) a.1.0 (played_said step first.after new more a.1.1)

-- others ask for no roll
pub said_asked : (step : Step) (old new : Seen) (said : List Said) → AreSaid step old said new → AreAsked (map (λ s. plain s.entry) said)
said_asked step old new [] a = tt
said_asked step old new (first ∷ more) a = (one first.entry a.0, said_asked step first.after new more a.1.1)
  where
    one : (entry : Entry) → IsOfOthers entry → IsAsked entry
    one (Remote player frame word) o = tt
    one (Disconnect player) o = tt
    one entry o = absurd o
