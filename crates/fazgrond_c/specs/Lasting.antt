-- A peer is opened whose match goes on in epochs.
use Rattle.std.specs.Prelude.{◌≡◌, ◌≢◌, ◌⊎◌, ◌==◌, ◌&&◌, ◌||◌, ℕ, ℤ, pos, Bool, true, false, not, Option, Some, None, IfSome, slice_index}
use Rattle.std.specs.List.{list_all, range_with_len}
use Rattle.roll_chain.specs.Chains.{first_chain, settings_of}
use Rattle.roll_chain.specs.Sharing.{parted_until, vacant}
use Rattle.roll_chain.specs.declared.chain.Chain.{Chain}
use Rattle.roll_epoch.specs.Ends.{owner_of}
use Rattle.roll_epoch.specs.Inputs.{are_even}
use Rattle.roll_epoch.specs.declared.terms.Terms.{Terms}
use Rattle.roll_frame.specs.declared.settings.Settings.{Settings}
use Rattle.roll_member.specs.Joined.{join_refusal, IsTied}
use Rattle.roll_mesh.specs.declared.limits.TheConstants.{MACHINE_LIMIT, PLAYER_LIMIT}
use Rattle.roll_peer.specs.Peered.{IsOpenedAs, IsWhyNot, Peered}
use Rattle.roll_peer.specs.Settings.{has_numbers, seat_of}
use Rattle.roll_peer.specs.declared.refusal.OpenRefusal.{OpenRefusal}
use Rattle.roll_peer.specs.declared.settings.MatchSettings.{MatchSettings}
use Rattle.roll_relay.specs.Relaying.{opened_beside}
use Rattle.roll_session.specs.Seen.{Seen}
use Rattle.fazgrond_c.specs.EpochKinds.{AreTermsOf, IsEpochFaulty}
use Rattle.fazgrond_c.specs.Handles.{network_in, session_in, Opens}
use Rattle.fazgrond_c.specs.PeerKinds.{code_of_opening, AreMatched, HasNoRoom}
use Rattle.fazgrond_c.specs.Waiting.{IsHeldFor}
use Rattle.fazgrond_c.specs.declared.epoch_kinds.EpochIn.{EpochIn}
use Rattle.fazgrond_c.specs.declared.epoch_kinds.TheConstants.{EPOCH_SIZE}
use Rattle.fazgrond_c.specs.declared.network.Network.{Network}
use Rattle.fazgrond_c.specs.declared.open.Open.{Open}
use Rattle.fazgrond_c.specs.declared.peer_kinds.MatchIn.{MatchIn}
use Rattle.fazgrond_c.specs.declared.peer_kinds.TheConstants.{MATCH_SIZE}

-- whether a player is another machine's, or has the epoch's delay
abbrev pub is_delayed : Terms → Settings → (me : ℕ) → ℕ → Bool
is_delayed terms settings me p =
    not (owner_of terms.owners p == me) || (slice_index terms.delays p == slice_index settings.delays p)

abbrev pub are_delayed : Terms → Settings → (me : ℕ) → Bool
are_delayed terms settings me = list_all (is_delayed terms settings me) (range_with_len 0 PLAYER_LIMIT)

-- whether a session of a machine has the threshold of an epoch, and its own players' delays
abbrev pub is_played : Terms → Settings → (me : ℕ) → Bool
is_played terms settings me = (terms.threshold == settings.threshold) && are_delayed terms settings me

-- the match and the epoch that were given
pub record AreGivenBoth (given : MatchIn) (epoch : EpochIn) (base : MatchSettings) (terms : Terms) : Type 0 where
  pub matched : AreMatched given true base
  pub terms_are : AreTermsOf epoch terms

-- how a match goes on from this epoch beside a session
abbrev pub chain_in : MatchSettings → Terms → (comers : ℕ) → Seen → Chain
chain_in base terms comers s = first_chain true base s.settings.profile terms comers

-- a peer that was opened beside a session for this epoch, and regards as gone whoever owns no player in it
pub record IsOpenedWithout (chain : Chain) (s : Seen) (peer : Peered) : Type 0 where
  pub first : Peered
  pub opened : IsOpenedAs s (settings_of chain) first
  pub tied : IsTied s first.member.mesh
  pub without : peer ≡ parted_until (vacant chain.terms) MACHINE_LIMIT first

-- a peer of this match, opened beside a session for this epoch in which each input has one delay, that has heard nothing, nothing waits, and it carries nothing yet
pub record IsLasting (given : MatchIn) (epoch : EpochIn) (s : Seen) (network : Network) : Type 0 where
  pub base : MatchSettings
  pub terms : Terms
  pub are : AreGivenBoth given epoch base terms
  pub even : are_even terms ≡ true
  pub played : is_played terms s.settings base.me ≡ true
  pub accepted : join_refusal s (seat_of (settings_of (chain_in base terms given.comers s))) ≡ None
  pub drawn : base.draw ≢ 0
  pub numbered : has_numbers (settings_of (chain_in base terms given.comers s)) ≡ true
  pub opened : IsOpenedWithout (chain_in base terms given.comers s) s network.peer
  pub held : IsHeldFor given.held_turns network.held
  pub carrying : network.relay ≡ opened_beside network.peer
  pub epochs : network.epochs ≡ Some (record { chain = chain_in base terms given.comers s; past = None })

-- the session isn't one of this epoch
pub record IsUneven (given : MatchIn) (epoch : EpochIn) (s : Seen) : Type 0 where
  pub base : MatchSettings
  pub terms : Terms
  pub are : AreGivenBoth given epoch base terms
  pub other : is_played terms s.settings base.me ≡ false

-- words of one input have other delays than each other in the epoch
pub record IsUnlike (given : MatchIn) (epoch : EpochIn) : Type 0 where
  pub base : MatchSettings
  pub terms : Terms
  pub are : AreGivenBoth given epoch base terms
  pub unlike : are_even terms ≡ false

-- there is no such match, or the session can't take its seat in it
pub record IsUnopened (given : MatchIn) (epoch : EpochIn) (s : Seen) (code : ℤ) : Type 0 where
  pub base : MatchSettings
  pub terms : Terms
  pub are : AreGivenBoth given epoch base terms
  pub fault : OpenRefusal
  pub why : IsWhyNot s (settings_of (chain_in base terms given.comers s)) fault
  pub code_is : code ≡ pos (code_of_opening (settings_of (chain_in base terms given.comers s)) fault)

-- why no peer is opened beside a session: another version's match or epoch; numbers with no room where they belong, or of another
-- session; an input with two delays; what is no match for the session; or memory ran out
abbrev pub IsWhyNotLasting : MatchIn → EpochIn → Seen → ℤ → Type 0
IsWhyNotLasting given epoch s code =
    ((code ≡ pos 205) × ((given.size ≢ MATCH_SIZE) ⊎ (epoch.size ≢ EPOCH_SIZE)))
    ⊎ (((code ≡ pos 11) × (HasNoRoom given ⊎ (IsEpochFaulty epoch ⊎ IsUneven given epoch s)))
    ⊎ (((code ≡ pos 323) × IsUnlike given epoch) ⊎ (IsUnopened given epoch s code ⊎ (code ≡ pos 107))))

pub record OpensLasting (given : MatchIn) (epoch : EpochIn) (s : Seen) (old new : Option Open) (code : ℤ) : Type 0 where
  pub opens : Opens network_in (IsLasting given epoch s) old new code
  pub why : code ≢ pos 0 → IsWhyNotLasting given epoch s code

-- the same beside what a handle has open
pub record IsOpenedLasting (given : MatchIn) (epoch : EpochIn) (lent old new : Option Open) (code : ℤ) : Type 0 where
  pub alone : session_in lent ≡ None → (code ≡ pos 201) × (new ≡ old)
  pub beside : IfSome (session_in lent) (λ live. OpensLasting given epoch live.session.seen old new code)
