-- What a match that goes on in epochs has beside its network, and what its calls make of it.
use Rattle.std.specs.Prelude.{◌≡◌, ℕ, List, Bool, Option, Some, None, Result, Ok, Err, IsSomeAnd, MatchOption, option_map, if◌then◌else◌}
use Rattle.roll_carry.specs.Carrying.{Carrying}
use Rattle.roll_chain.specs.Chains.{is_past_over}
use Rattle.roll_chain.specs.Judging.{judged_until, IsOver}
use Rattle.roll_chain.specs.Seams.{opening_after}
use Rattle.roll_chain.specs.Sharing.{gone_in_either, heard_until, parted_until}
use Rattle.roll_epoch.specs.declared.marks.Ending.{Ending}
use Rattle.roll_mesh.specs.declared.limits.TheConstants.{MACHINE_LIMIT, PLAYER_LIMIT}
use Rattle.roll_peer.specs.Peered.{Peered}
use Rattle.roll_peer.specs.declared.received.Ignored.{Ignored}
use Rattle.roll_peer.specs.declared.received.Ignored.TheVariants.{NotSealed}
use Rattle.roll_peer.specs.declared.refusal.OtherSession.{OtherSession}
use Rattle.roll_requests.specs.Asked.{Asked}
use Rattle.roll_requests.specs.declared.request.Request.{Request}
use Rattle.roll_chain.specs.Again.{given_again, ArePlayed}
use Rattle.roll_chain.specs.Calls.{DeclinesCall, MakesCall}
use Rattle.roll_chain.specs.GoingOnElsewhere.{GoesOn, IsWhyNotGone}
use Rattle.roll_chain.specs.Pasts.{turned_past, Hears, IsNextOf, Sends}
use Rattle.roll_chain.specs.declared.epochs.Epochs.{Epochs}
use Rattle.roll_chain.specs.declared.past.Past.{Past}
use Rattle.roll_chain.specs.declared.seam_refusal.SeamRefusal.{SeamRefusal}
use Rattle.roll_session.specs.Gameless.{Bare}
use Rattle.roll_session.specs.Seen.{Seen, Step}

-- ---- a turn

-- what each of two networks of this machine knows of who is there, the other knows too
abbrev pub heard_in : {S : Type 0} → Epochs S → Past S → Peered → Peered
heard_in e past peer = heard_until e.chain.stays past.peer MACHINE_LIMIT peer

abbrev pub gone_in : {S : Type 0} → Epochs S → Past S → Peered → List Bool
gone_in e past peer = gone_in_either e.chain peer past.peer

abbrev pub shared_by : {S : Type 0} → Option (Past S) → Epochs S → Peered → Peered
shared_by None e peer = peer
shared_by (Some past) e peer = parted_until (gone_in e past peer) MACHINE_LIMIT (heard_in e past peer)

abbrev pub shared_peer : {S : Type 0} → Epochs S → Peered → Peered
shared_peer e peer = shared_by e.past e peer

abbrev pub shared_past : {S : Type 0} → Epochs S → Peered → Option (Past S)
shared_past {S} e peer =
    option_map {T = Past S} (λ past. record past { peer = parted_until (gone_in e past peer) MACHINE_LIMIT past.peer }) e.past

-- the epoch before is forgotten once nobody is in it any more; else a turn begins for what it carries
abbrev pub kept_past : {S : Type 0} → Epochs S → Peered → Option (Past S)
kept_past e peer = if is_past_over peer then None else option_map turned_past e.past

-- what is known and told is shared, and then the epoch before kept or forgotten
abbrev pub turned_in : {S : Type 0} → Epochs S → Peered → Epochs S
turned_in e peer = record e { past = kept_past (record e { past = shared_past e peer }) (shared_peer e peer) }

abbrev pub judged_in : {S : Type 0} → Epochs S → Peered → Peered
judged_in e peer = judged_until e.chain PLAYER_LIMIT peer

-- ---- the epoch before

-- it hears bytes, or there is none
abbrev pub HearsBefore : {S : Type 0} → (seen : S → Seen) → Step → (bytes : List ℕ) → (now : ℕ) → (old new : Epochs S) → Result Unit Ignored → Type 0
HearsBefore seen step bytes now old new said =
    (new.chain ≡ old.chain)
    × MatchOption old.past
    ((new.past ≡ None) × (said ≡ Err NotSealed))
    (λ past. IsSomeAnd new.past (λ later. Hears seen step bytes now past later said))

-- it sends to each machine
abbrev pub SendsBefore : {S : Type 0} → (seen : S → Seen) → (machine now : ℕ) → (old new : Epochs S) → Result (Option (List ℕ)) OtherSession → Type 0
SendsBefore seen machine now old new said =
    (new.chain ≡ old.chain)
    × MatchOption old.past
    ((new.past ≡ None) × (said ≡ Ok None))
    (λ past. IsSomeAnd new.past (λ later. Sends seen machine now past later said))

-- what goes out in it beside that
abbrev pub IsNextBefore : {S : Type 0} → (old new : Epochs S) → Option (ℕ × List ℕ) → Type 0
IsNextBefore old new said =
    (new.chain ≡ old.chain)
    × MatchOption old.past
    ((new.past ≡ None) × (said ≡ None))
    (λ past. IsSomeAnd new.past (λ later. IsNextOf past later said))

-- ---- the next epoch

-- nothing is changed
pub record IsUnmoved (old new : Epochs (Bare ℕ)) (peer next : Peered) (relay carrying : Carrying) (session started : Asked) : Type 0 where
  pub epochs : new ≡ old
  pub peer_is : next ≡ peer
  pub relay_is : carrying ≡ relay
  pub session_is : started ≡ session

-- this one is over, and the next one has begun; what own players gave past the end was given again, as far as that is taken
pub record HasGoneOn (old new : Epochs (Bare ℕ)) (peer next : Peered) (relay carrying : Carrying) (session after : Asked) (closing : List Request)
    : Type 0 where
  pub ending : Ending
  pub over : IsOver session.seen old.chain peer ending
  pub started : Asked
  pub past : Past (Bare ℕ)
  pub past_is : new.past ≡ Some past
  pub goes_on : GoesOn (opening_after session.seen old.chain peer ending) old.chain new.chain peer next relay carrying session started past closing
  pub all : Bool
  pub again : ArePlayed MakesCall DeclinesCall started (given_again new.chain.terms next.settings.me past.session.seen ending.frame) after all

-- or the next one doesn't open
pub record HasNotGoneOn (old : Epochs (Bare ℕ)) (peer : Peered) (session : Asked) (why : SeamRefusal) : Type 0 where
  pub ending : Ending
  pub over : IsOver session.seen old.chain peer ending
  pub refused : IsWhyNotGone (opening_after session.seen old.chain peer ending) old.chain session why

abbrev pub GoesOnIn : (old new : Epochs (Bare ℕ)) → (peer next : Peered) → (relay carrying : Carrying) → (session after : Asked)
    → Result (Option (List Request)) SeamRefusal → Type 0
GoesOnIn old new peer next relay carrying session after (Ok None) =
    IsUnmoved old new peer next relay carrying session after
    × ((e : Ending) → IsOver session.seen old.chain peer e → ⊥)
GoesOnIn old new peer next relay carrying session after (Ok (Some closing)) =
    HasGoneOn old new peer next relay carrying session after closing
GoesOnIn old new peer next relay carrying session after (Err why) =
    IsUnmoved old new peer next relay carrying session after × HasNotGoneOn old peer session why
