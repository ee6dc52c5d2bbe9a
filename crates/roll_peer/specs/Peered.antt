-- The network of a match at one machine, as its callers see it: what it knows of who has what and who is gone, and of which session;
-- its clock, what it knows of each machine and for how long each has held up the match, whether the match has begun, the events that
-- wait, the machines that were told to be gone, the digests of settled states and how they compare with each machine's, how far the machines are from one another, the
-- session's frame when it was polled last; whether it hears most of them; the marks of words that it knows, and which are void; of which players it told
-- that a machine knows another mark; when it
-- was opened, the hellos that came of no machine of the match, and whether it goes on from the epoch before. The session stands beside it.
use Rattle.std.specs.Prelude.{◌≡◌, ℕ, List, [], Bool, false, true, Option, Some, None, fold, replicate, slice_index_or, ⊤}
use Rattle.roll_member.specs.Beside.{Membership}
use Rattle.roll_member.specs.Joined.{join_refusal, IsJoinedAs, IsTied, Joined}
use Rattle.roll_mesh.specs.Machines.{leave}
use Rattle.roll_mesh.specs.Meshes.{stepped, Seated}
use Rattle.roll_mesh.specs.declared.limits.TheConstants.{MACHINE_LIMIT, PLAYER_LIMIT}
use Rattle.roll_session.specs.Seen.{Seen}
use Rattle.roll_wire.specs.declared.datagram.Marked.{Marked}
use Rattle.roll_contact.specs.Clocks.{first_clock}
use Rattle.roll_contact.specs.Contacts.{known_of, opened_contact}
use Rattle.roll_contact.specs.declared.clock.Clock.{Clock}
use Rattle.roll_contact.specs.declared.contact.Contact.{Contact}
use Rattle.roll_peer.specs.Comparisons.{no_comparison}
use Rattle.roll_peer.specs.Digests.{no_digests}
use Rattle.roll_peer.specs.Paces.{no_pace}
use Rattle.roll_peer.specs.Settings.{are_delayed_alike, first_moment, has_numbers, seat_of}
use Rattle.roll_peer.specs.Stalls.{first_stall}
use Rattle.roll_peer.specs.Strangers.{no_strangers}
use Rattle.roll_peer.specs.Waiting.{Waiting}
use Rattle.roll_peer.specs.declared.comparison.Comparison.{Comparison}
use Rattle.roll_peer.specs.declared.cut_off.CutOff.{CutOff}
use Rattle.roll_peer.specs.declared.digests.Digests.{Digests}
use Rattle.roll_peer.specs.declared.pace.Pace.{Pace}
use Rattle.roll_peer.specs.declared.refusal.OpenRefusal.{OpenRefusal}
use Rattle.roll_peer.specs.declared.refusal.OpenRefusal.TheVariants.{Delays, Join, NoDraw, NoMemory, NoNumber}
use Rattle.roll_peer.specs.declared.settings.MatchSettings.{MatchSettings}
use Rattle.roll_peer.specs.declared.stall.Stall.{Stall}
use Rattle.roll_peer.specs.declared.strangers.Strangers.{Strangers}

pub record Peered : Type 0 where
  pub member : Membership
  pub settings : MatchSettings
  pub clock : Clock
  pub contacts : List Contact
  pub stalls : List Stall
  pub running : Bool
  pub waiting : Waiting
  pub known_gone : List Bool
  pub digests : Digests
  pub comparisons : List Comparison
  pub pace : Pace
  pub frame : ℕ
  pub cut_off : CutOff
  pub marks : List (Option Marked)
  pub voids : List Bool
  pub disputes : List (Option ℕ)
  pub opened : ℕ
  pub strangers : Strangers
  pub follows : Bool

-- the session beside what is known of the others
abbrev pub beside : Seen → Peered → Joined
beside s peer = record { session = s; mesh = peer.member.mesh }

-- what is known of a machine
abbrev pub contact_at : Peered → ℕ → Contact
contact_at peer m = known_of peer.contacts m

-- for how long a machine has held up the match
abbrev pub stall_at : Peered → ℕ → Stall
stall_at peer m = slice_index_or peer.stalls m first_stall

-- how a machine's settled states compare with this one's
abbrev pub comparison_at : Peered → ℕ → Comparison
comparison_at peer m = slice_index_or peer.comparisons m no_comparison

-- it isn't known yet that this machine hears few of the others
abbrev pub first_cut_off : CutOff
first_cut_off = record { hears_most = true; since = None; is_over = false }

-- a mesh once its machine regards these as gone
abbrev pub without_all : List ℕ → Seated → Seated
without_all gone mesh = fold (λ before m. stepped (λ seat here. leave seat m here) before) mesh gone

-- how the network of any epoch of a match begins beside a session: it has taken its seat, regards these machines as gone, and knows no
-- marks
pub record BeginsAs (s : Seen) (settings : MatchSettings) (gone : List ℕ) (peer : Peered) : Type 0 where
  pub first : Seated
  pub joined : IsJoinedAs s (seat_of settings) (record { session = s; mesh = first })
  pub tied : IsTied s first
  pub accepted : join_refusal s (seat_of settings) ≡ None
  pub mesh : peer.member.mesh ≡ without_all gone first
  pub settings_are : peer.settings ≡ settings
  pub marks : peer.marks ≡ replicate PLAYER_LIMIT None

-- a network that was just opened beside a session: nothing was heard
pub record IsOpenedAs (s : Seen) (settings : MatchSettings) (peer : Peered) : Type 0 where
  pub member : IsJoinedAs s (seat_of settings) (beside s peer)
  pub limits : peer.member.limits ≡ s.settings
  pub settings_are : peer.settings ≡ settings
  pub clock : peer.clock ≡ first_clock (first_moment settings)
  pub contacts : peer.contacts ≡ replicate MACHINE_LIMIT opened_contact
  pub stalls : peer.stalls ≡ replicate MACHINE_LIMIT first_stall
  pub running : peer.running ≡ false
  pub waiting : peer.waiting ≡ record { events = []; lost = 0 }
  pub known_gone : peer.known_gone ≡ replicate MACHINE_LIMIT false
  pub digests : peer.digests ≡ no_digests
  pub comparisons : peer.comparisons ≡ replicate MACHINE_LIMIT no_comparison
  pub pace : peer.pace ≡ no_pace
  pub frame : peer.frame ≡ s.core.frame
  pub cut_off : peer.cut_off ≡ first_cut_off
  pub marks : peer.marks ≡ replicate PLAYER_LIMIT None
  pub voids : peer.voids ≡ replicate PLAYER_LIMIT false
  pub disputes : peer.disputes ≡ replicate MACHINE_LIMIT None
  pub opened : peer.opened ≡ first_moment settings
  pub strangers : peer.strangers ≡ no_strangers
  pub follows : peer.follows ≡ false

-- why it can't be opened
abbrev pub IsWhyNot : Seen → MatchSettings → OpenRefusal → Type 0
IsWhyNot s settings (Join why) = join_refusal s (seat_of settings) ≡ Some why
IsWhyNot s settings NoDraw = settings.draw ≡ 0
IsWhyNot s settings NoNumber = has_numbers settings ≡ false
IsWhyNot s settings Delays = are_delayed_alike s.settings settings ≡ false
IsWhyNot s settings NoMemory = ⊤
