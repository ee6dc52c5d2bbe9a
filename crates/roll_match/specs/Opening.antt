-- A match that was just opened.
use Rattle.std.specs.Prelude.{◌≡◌, ◌⊎◌, ℕ, [], None, if◌then◌else◌}
use Rattle.roll_chain.specs.Chains.{settings_of}
use Rattle.roll_chain.specs.Sharing.{parted_until, vacant}
use Rattle.roll_chain.specs.declared.chain.Chain.{Chain}
use Rattle.roll_mesh.specs.declared.limits.TheConstants.{MACHINE_LIMIT}
use Rattle.roll_peer.specs.Peered.{IsOpenedAs, IsWhyNot, Peered}
use Rattle.roll_peer.specs.declared.refusal.OpenRefusal.{OpenRefusal}
use Rattle.roll_peer.specs.declared.refusal.OpenRefusal.TheVariants.{NoMemory}
use Rattle.roll_relay.specs.Relaying.{opened_beside}
use Rattle.roll_session.specs.Seen.{Seen}
use Rattle.roll_match.specs.declared.going_out.TheConstants.{PLACES}
use Rattle.roll_match.specs.declared.one.Match.{Match}

-- a network once whoever owns no player in its epoch is regarded as gone, if the match goes on in epochs
abbrev pub left_out : Chain → Peered → Peered
left_out chain peer = if chain.base.takes_marks then parted_until (vacant chain.terms) MACHINE_LIMIT peer else peer

pub record IsOpenedIn (s : Seen) (chain : Chain) (peer : Peered) : Type 0 where
  pub first : Peered
  pub opened : IsOpenedAs s (settings_of chain) first
  pub peer_is : peer ≡ left_out chain first

-- nothing was heard, nothing waits, nothing is carried, there is no epoch before, this machine stays, and nothing goes out before a turn
-- begins
pub record IsOpened {S P E L : Type 0} (s : Seen) (chain : Chain) (turns : ℕ) (it : Match S P E L) : Type 0 where
  pub peer : IsOpenedIn s chain it.peer
  pub words : it.held.words.items ≡ []
  pub waited : it.held.waited.items ≡ []
  pub turns_are : it.held.turns ≡ turns
  pub relay : it.relay ≡ opened_beside it.peer
  pub epochs : it.epochs ≡ record { chain = chain; past = None }
  pub engine : it.engine ≡ None
  pub leaving : it.leaving ≡ None
  pub gone_out : it.gone_out ≡ PLACES

-- why it isn't
abbrev pub IsWhyClosed : Seen → Chain → OpenRefusal → Type 0
IsWhyClosed s chain why = IsWhyNot s (settings_of chain) why ⊎ (why ≡ NoMemory)
