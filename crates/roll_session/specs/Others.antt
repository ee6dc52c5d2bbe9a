-- What a session hears of others, beside the calls that its own program makes of it.
use Rattle.std.specs.Prelude.{◌≡◌, List, [], ◌∷◌, ◌++◌, refl}
use Rattle.std.proofs.Common.{◌∙◌, subst, sym}
use Rattle.roll_frame.specs.declared.entry.Entry.{Entry}
use Rattle.roll_frame.specs.declared.entry.Entry.TheVariants.{Remote, Disconnect}
use Rattle.roll_session.specs.Answered.{IsPlayed}
use Rattle.roll_session.specs.Seen.{Seen, Step, plain}

-- a session but for the copies that its game made, and for what is reserved: a guess has a copy made, and is no event; nor is
-- it one that room is made for events
abbrev pub bare : Seen → Seen
bare s = record s { counts = record s.counts { copies = 0 }; reserved = 0 }

-- a remote player's word, or that one leaves
abbrev pub IsOfOthers : Entry → Type 0
IsOfOthers (Remote player frame word) = Unit {0}
IsOfOthers (Disconnect player) = Unit {0}
IsOfOthers entry = ⊥

-- such an event, and the session after it
pub record Said : Type 0 where
  pub entry : Entry
  pub after : Seen

-- these came one after another, each accepted by the rules or refused, and nothing else happened to the session
abbrev pub AreSaid : Step → Seen → List Said → Seen → Type 0
AreSaid step old [] new = bare old ≡ bare new
AreSaid step old (said ∷ more) new =
    IsOfOthers said.entry
    × (IsPlayed step (bare old) (bare said.after) (plain said.entry ∷ [])
    × AreSaid step said.after more new)

-- a session heard some events of others, and nothing else happened to it
pub record Hears (step : Step) (old new : Seen) : Type 0 where
  pub said : List Said
  pub are_said : AreSaid step old said new

said_from : (step : Step) (old mid new : Seen) (said : List Said) → bare old ≡ bare mid → AreSaid step mid said new → AreSaid step old said new
said_from step old mid new [] same a = same ∙ a
said_from step old mid new (first ∷ more) same a =
    (a.0, (subst (λ (s : Seen). IsPlayed step s (bare first.after) (plain first.entry ∷ [])) (sym same) a.1.0, a.1.1))

said_more : (step : Step) (old mid new : Seen) (said more : List Said) → AreSaid step old said mid → AreSaid step mid more new → AreSaid step old (said ++ more) new
said_more step old mid new [] more a b = said_from step old mid new more a b
said_more step old mid new (first ∷ said) more a b =
    (a.0, (a.1.0, said_more step first.after mid new said more a.1.1 b))

pub hears_nothing : (step : Step) (s : Seen) → Hears step s s
hears_nothing step s = record { said = []; are_said = refl }

pub hears_more : (step : Step) (old mid new : Seen) → Hears step old mid → Hears step mid new → Hears step old new
hears_more step old mid new one two = record {
  said = one.said ++ two.said;
  are_said = said_more step old mid new one.said two.said one.are_said two.are_said;
}
