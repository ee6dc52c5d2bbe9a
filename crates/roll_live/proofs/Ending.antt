-- How a script that is played live ends.
use Rattle.std.proofs.Common.{◌≡◌, ◌≢◌, ◌⊎◌, ◌∙◌, ℕ, ◌++◌, List, refl, ap, sym, inl, inr, Option, Some, None}
use Rattle.std.specs.Prelude.{IfOk, IfSome, IsErrAnd, OnOk, Result, Ok, Err, ⊤, unwrap_or}
use Rattle.std.proofs.lemmas.Option.{IfSome_then}
use Rattle.roll_frame.specs.Games.{Game, Value}
use Rattle.roll_frame.specs.Settings.{start_refusal}
use Rattle.roll_frame.specs.declared.refusal.Refusal.{Refusal}
use Rattle.roll_frame.specs.declared.refusal.Refusal.TheVariants.{NoMemory as NoRoom}
use Rattle.roll_frame.specs.declared.settings.Settings.{Settings}
use Rattle.roll_game.specs.declared.counts.Counts.{Counts}
use Rattle.roll_session.specs.Seen.{Seen}
use Rattle.roll_text.specs.Lines.{ended}
use Rattle.prog_scripts.specs.Output.{Texts, refused_line}
use Rattle.prog_scripts.specs.Engines.{Plays}
use Rattle.prog_scripts.specs.declared.command.Command.{Command}
use Rattle.prog_scripts.specs.declared.fault.PlayFault.{PlayFault}
use Rattle.prog_scripts.specs.declared.fault.PlayFault.TheVariants.{Unreadable, NoMemory, Read, Write}
use Rattle.prog_scripts.specs.declared.ending.GameName.{GameName}
use Rattle.prog_scripts.proofs.Refused.{refused_so}
use Rattle.roll_session.specs.Started.{first_seen}
use Rattle.roll_live.specs.Lives.{FarOf, IsFault, IsOutput, IsUnreadable, WritesOf, WritesUnder}

-- a fault that is handed on names a line only where it is that of a line too far ahead
pub far_here : {Y : Type 0} (answer : Result Y PlayFault) (fault : PlayFault) (line at : ℕ) (Far : Type 0) → IsErrAnd answer (λ other. other ≡ fault) → answer ≡ Err (Unreadable line)
    → (fault ≡ NoMemory) ⊎ ((fault ≡ Unreadable at) × Far) → (line ≡ at) × Far
far_here answer fault line at Far h e p = go (rw e at h) p
  where
    go : Unreadable line ≡ fault → (fault ≡ NoMemory) ⊎ ((fault ≡ Unreadable at) × Far) → (line ≡ at) × Far
    go is (inl room) = let wrong : Unreadable line ≡ NoMemory = is ∙ room in absurd (cc wrong)
    go is (inr so) = (let same : Unreadable line ≡ Unreadable at = is ∙ so.0 in cc, so.1)

-- what is written where the session doesn't start
pub not_started : (texts : Texts) (game : Game) (settings : Settings) (commands : List Command) (why : Refusal) (out new : List ℕ) (r : Result ℕ PlayFault) → why ≡ unwrap_or (start_refusal settings) NoRoom
    → OnOk r (new ≡ out ++ ended (refused_line why)) → IfOk r (λ n. (n ≡ 1) × (why ≢ NoRoom)) → IfOk r (λ refused. (written : List ℕ) × WritesUnder texts game settings commands written refused × (new ≡ out ++ written))
not_started texts game settings commands why out new (Err fault) e w h = tt
not_started texts game settings commands why out new (Ok n) e w h = (ended (refused_line why), rw (refused_so (start_refusal settings) why e h.1) (refl, h.0), w)

-- a session that has just started, with the counts that it has
pub started_so : (s : Seen) (settings : Settings) (opening : Value) (counts : Counts) → s ≡ first_seen settings opening counts → s ≡ first_seen settings opening s.counts
started_so s settings opening counts e = e ∙ ap (first_seen settings opening) (sym (ap (λ (x : Seen). x.counts) e))

of_any : (known : Option (List ℕ)) → IfSome known (λ text. ⊤)
of_any None = tt
of_any (Some text) = tt

-- a fault of an engine that plays the game live is one of the game
pub is_fault : (game : GameName) (known old new : Option (List ℕ)) (result : Result ℕ PlayFault)
    (fault : PlayFault) → result ≡ Err fault
    → Plays (IsUnreadable (FarOf game)) (IsOutput (WritesOf game)) known old new result
    → IfSome known (λ text. IsFault game text old new fault)
is_fault game known old new result (Unreadable line) is h = h.unreadable line is
is_fault game known old new result NoMemory is h = of_any known
is_fault game known old new result Read is h = of_any known
is_fault game known old new result Write is h = IfSome_then known h.outputs (λ text out. out.cut is)
