-- The numbers of what is refused as a match is opened.
use Rattle.std.proofs.Common.{◌≡◌, ◌∙◌, inl, inr, sym}
use Rattle.std.specs.Prelude.{Bool, true, false, not, ℤ, pos, if◌then◌else◌}
use Rattle.roll_chain.specs.Chains.{settings_of}
use Rattle.roll_frame.specs.Codes.{code_of}
use Rattle.roll_frame.specs.declared.refusal.Refusal.{Refusal}
use Rattle.roll_frame.specs.declared.refusal.Refusal.TheVariants.{InvalidPlayer, PlayerOutOfRange, PredictionThreshold, PlayerDisconnected, TooManySpectators, InvalidRequest, LocalInputMissing, InputTwice, Gap, Conflict, QueueFull, FrameLimit, NoMemory as Exhausted, Stranger, TooFar, Late, Orphan, Dead, TreeFull, LogFull, QueueRefused, Stopped, NoPlan, Unreadable, Full, NoJob}
use Rattle.roll_member.specs.declared.join.JoinRefusal.TheVariants.{InvalidSeat, Players, Started}
use Rattle.roll_peer.specs.Settings.{seat_of}
use Rattle.roll_peer.specs.declared.refusal.OpenRefusal.{OpenRefusal}
use Rattle.roll_peer.specs.declared.refusal.OpenRefusal.TheVariants.{Delays, Join, NoDraw, NoMemory, NoNumber}
use Rattle.roll_peer.specs.declared.settings.MatchSettings.{MatchSettings}
use Rattle.fazgrond_c.specs.Matches.{IsWhyNeither}
use Rattle.fazgrond_c.specs.PeerKinds.{are_within, code_of_opening, is_counted}
use Rattle.fazgrond_c.specs.declared.match_settings.Fit.{Fit}

no_seat : (is_counted are_within : Bool) → pos (if not is_counted then 303 else (if are_within then 324 else 325)) ≡ pos 0 → ⊥
no_seat true true e = cc
no_seat true false e = cc
no_seat false are_within e = cc

-- no refusal has the number of what went well
pub not_opened : (settings : MatchSettings) (why : OpenRefusal) → pos (code_of_opening settings why) ≡ pos 0 → ⊥
not_opened settings (Join InvalidSeat) e = no_seat (is_counted (seat_of settings)) (are_within (seat_of settings)) e
not_opened settings (Join Players) e = cc
not_opened settings (Join Started) e = cc
not_opened settings NoDraw e = cc
not_opened settings NoNumber e = cc
not_opened settings Delays e = cc
not_opened settings NoMemory e = cc

no_refusal : (why : Refusal) → pos (code_of why) ≡ pos 0 → ⊥
no_refusal InvalidPlayer e = cc
no_refusal PlayerOutOfRange e = cc
no_refusal PredictionThreshold e = cc
no_refusal PlayerDisconnected e = cc
no_refusal TooManySpectators e = cc
no_refusal InvalidRequest e = cc
no_refusal LocalInputMissing e = cc
no_refusal InputTwice e = cc
no_refusal Gap e = cc
no_refusal Conflict e = cc
no_refusal QueueFull e = cc
no_refusal FrameLimit e = cc
no_refusal Exhausted e = cc
no_refusal Stranger e = cc
no_refusal TooFar e = cc
no_refusal Late e = cc
no_refusal Orphan e = cc
no_refusal Dead e = cc
no_refusal TreeFull e = cc
no_refusal LogFull e = cc
no_refusal QueueRefused e = cc
no_refusal Stopped e = cc
no_refusal NoPlan e = cc
no_refusal (Unreadable line) e = cc
no_refusal Full e = cc
no_refusal NoJob e = cc

-- nor has what is neither a session nor a match
pub nothing_opens : (fit : Fit) (code : ℤ) → IsWhyNeither fit code → code ≡ pos 0 → ⊥
nothing_opens fit code (inl it) e = no_refusal it.refusal (sym it.code_is ∙ e)
nothing_opens fit code (inr it) e = not_opened (settings_of fit.chain) it.refusal (sym it.code_is ∙ e)
