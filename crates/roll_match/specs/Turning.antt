-- What the start of a turn makes of a match, and of a session of any kind.
use Rattle.std.specs.Prelude.{◌≡◌, ◌⊎◌, ℕ, [], is_some, length, Bool, true, false, Option, Some, None, Result, Ok, Err}
use Rattle.roll_carry.specs.Carrying.{turned, Carrying}
use Rattle.roll_chain.specs.Judging.{IsOver}
use Rattle.roll_epoch.specs.declared.marks.Ending.{Ending}
use Rattle.roll_relay.specs.Heard.{beside, PollsHeld}
use Rattle.roll_relay.specs.Passing.{due_then, Does, Hand, Turn}
use Rattle.roll_relay.specs.Told.{are_next, roomier, told, IsHeldFault}
use Rattle.roll_relay.specs.Turns.{lessened}
use Rattle.roll_relay.specs.Waits.{Waits}
use Rattle.roll_relay.specs.declared.fault.HeldFault.{HeldFault}
use Rattle.roll_chain.specs.GoingOnHere.{IsWhyNotGone as IsWhyNotOnward}
use Rattle.roll_chain.specs.declared.onward_refusal.OnwardRefusal.{OnwardRefusal}
use Rattle.roll_chain.specs.declared.onward_refusal.OnwardRefusal.TheVariants.{NotOver, Session as NotStarted, Network as NotOpened}
use Rattle.roll_peer.specs.Peered.{Peered}
use Rattle.roll_peer.specs.Receiving.{moment_of}
use Rattle.roll_peer.specs.declared.refusal.PeerRefusal.{PeerRefusal}
use Rattle.roll_requests.specs.Asked.{Asked}
use Rattle.roll_chain.specs.Epochs.{judged_in, shared_peer, turned_in, HasNotGoneOn}
use Rattle.roll_chain.specs.declared.epochs.Epochs.{Epochs}
use Rattle.roll_chain.specs.declared.seam_refusal.SeamRefusal.{SeamRefusal}
use Rattle.roll_chain.specs.declared.seam_refusal.SeamRefusal.TheVariants.{JobsOut, Session, Network}
use Rattle.roll_session.specs.Gameless.{Bare}
use Rattle.roll_session.specs.Seen.{Seen, Step}
use Rattle.roll_match.specs.declared.one.Match.{Match}

-- ---- the seam, by the session's kind

-- what a session of a kind says of a match that has gone on
abbrev pub Goes : (S P L : Type 0) → Type 1
Goes S P L = (old new : Epochs P) → (peer next : Peered) → (relay carrying : Carrying) → (session after : S) → L → Type 0

-- and of one that hasn't: its epoch isn't over, or the next one doesn't open, and why
abbrev pub Stays : (S P : Type 0) → Type 1
Stays S P = (old : Epochs P) → Peered → S → Option SeamRefusal → Type 0

-- so it is of a session that has its game
abbrev pub StaysHere : {N : Type 0} → Step → Epochs (Bare N) → Peered → Seen → Option SeamRefusal → Type 0
StaysHere step old peer session None = IsWhyNotOnward step old.chain peer session NotOver
StaysHere step old peer session (Some JobsOut) = ⊥
StaysHere step old peer session (Some (Session why)) = IsWhyNotOnward step old.chain peer session (NotStarted why)
StaysHere step old peer session (Some (Network why)) = IsWhyNotOnward step old.chain peer session (NotOpened why)

abbrev pub why_over : OnwardRefusal → Option SeamRefusal
why_over NotOver = None
why_over (NotStarted why) = Some (Session why)
why_over (NotOpened why) = Some (Network why)

-- and of one whose game is elsewhere
abbrev pub StaysElsewhere : Epochs (Bare ℕ) → Peered → Asked → Option SeamRefusal → Type 0
StaysElsewhere old peer session None = (e : Ending) → IsOver session.seen old.chain peer e → ⊥
StaysElsewhere old peer session (Some why) = HasNotGoneOn old peer session why

-- either what the next session needs isn't there, or it is, and stays, and marks were judged
abbrev pub IsWhyHere : {S P E : Type 0} → Stays S P → Epochs P → (peer next : Peered) → S → (engine left : Option E) → Option SeamRefusal → Type 0
IsWhyHere stays old peer next session engine left why =
    ((engine ≡ None) × (left ≡ None) × (next ≡ peer) × (why ≡ None))
    ⊎ ((is_some engine ≡ true) × (is_some left ≡ true) × (next ≡ judged_in old peer) × stays old (judged_in old peer) session why)

module _ {S P E L : Type 0} where
  -- the next epoch has begun; or nothing is changed of session, epochs and what is carried
  abbrev pub GoesOnOrNot : Goes S P L → Stays S P → (old new : Epochs P) → (peer next : Peered) → (relay carrying : Carrying) → (session after : S)
      → (engine left : Option E) → Option L → Option SeamRefusal → Type 0
  GoesOnOrNot goes stays old new peer next relay carrying session after engine left None why =
      (new ≡ old) × (carrying ≡ relay) × (after ≡ session) × IsWhyHere stays old peer next session engine left why
  GoesOnOrNot goes stays old new peer next relay carrying session after engine left (Some last) why =
      (is_some engine ≡ true) × (left ≡ None) × (why ≡ None) × goes old new (judged_in old peer) next relay carrying session after last

  -- ---- a turn

  -- what is known of who is there is shared with the epoch before, which is let go once nobody is in it; and marks are judged
  abbrev pub shared : Match S P E L → Match S P E L
  shared it = record it {
    peer = judged_in it.epochs (shared_peer it.epochs it.peer);
    epochs = turned_in it.epochs it.peer;
  }

  -- the network polls beside what waits, or that has no room, and nothing is changed
  abbrev pub PollsHere : (seen : S → Seen) → (now : ℕ) → (before after : S) → (old new : Match S P E L) → Result (Result Unit PeerRefusal) HeldFault → Type 0
  PollsHere seen now before after old new (Ok said) =
      PollsHeld (beside (seen before) old.held.words.items old.peer) (beside (seen after) new.held.words.items new.peer) now said
      × (new ≡ record old { peer = new.peer; held = new.held })
  PollsHere seen now before after old new (Err why) =
      IsHeldFault (seen before) old.held.words.items why × (new ≡ old) × (after ≡ before)

  -- then a turn begins for what is carried, and all that goes out goes out anew
  pub record Begins (seen : S → Seen) (now : ℕ) (before after : S) (old new : Match S P E L) (said : Result (Result Unit PeerRefusal) HeldFault)
      : Type 0 where
    pub polled : Match S P E L
    pub polls : PollsHere seen now before after (shared old) polled said
    pub waits : Waits (seen before) (seen after) old.held polled.held
    pub rest : new ≡ record polled { relay = turned (moment_of polled.peer) polled.relay; moment = now; gone_out = 0 }

  -- the session is told what has waited for as many turns as it may, or there is no room for all that waits
  abbrev pub TellsDue : (seen : S → Seen) → (before after : S) → (old new : Match S P E L) → Result ℕ HeldFault → Type 0
  TellsDue seen before after old new (Ok count) =
      (count ≡ due_then old.held)
      × Does Turn (record { seen = seen before; held = old.held }) (record { seen = seen after; held = new.held })
      × (new ≡ record old { held = new.held })
  TellsDue seen before after old new (Err why) = IsHeldFault (seen before) old.held.words.items why × (after ≡ before) × (new ≡ old)

  -- the session is told the first so many that wait, or there is no room for all of them
  abbrev pub TellsFirst : (seen : S → Seen) → (count : ℕ) → (before after : S) → (old new : Match S P E L) → Result Unit HeldFault → Type 0
  TellsFirst seen count before after old new (Ok done) =
      (are_next (seen before) old.held.words.items ≡ true)
      × Does (Hand count) (record { seen = seen before; held = old.held }) (record { seen = seen after; held = new.held })
      × (new ≡ record old { held = new.held })
  TellsFirst seen count before after old new (Err why) = IsHeldFault (seen before) old.held.words.items why × (after ≡ before) × (new ≡ old)

  -- the session is told all that waits, or there is no room for it
  abbrev pub TellsAll : (seen : S → Seen) → (before after : S) → (old new : Match S P E L) → Result Unit HeldFault → Type 0
  TellsAll seen before after old new (Ok done) =
      (seen after ≡ told (roomier (length old.held.words.items) (seen before)) old.held.words.items)
      × (new.held.words.items ≡ []) × (new.held.waited.items ≡ lessened (length old.held.words.items) old.held.waited.items)
      × (new.held.turns ≡ old.held.turns) × (new ≡ record old { held = new.held })
  TellsAll seen before after old new (Err why) = IsHeldFault (seen before) old.held.words.items why × (after ≡ before) × (new ≡ old)

  -- if the epoch is over, the session is told all that waits
  abbrev pub Closes : (seen : S → Seen) → (before after : S) → (old new : Match S P E L) → (is_closed : Bool) → Type 0
  Closes seen before after old new true =
      ((e : Ending) × IsOver (seen before) old.epochs.chain old.peer e) × TellsAll seen before after old new (Ok tt)
  Closes seen before after old new false =
      (after ≡ before) × (new ≡ old)
      × (((e : Ending) → IsOver (seen before) old.epochs.chain old.peer e → ⊥) ⊎ ((why : HeldFault) × IsHeldFault (seen before) old.held.words.items why))

  -- and then the next epoch begins, if it can
  abbrev pub GoesOver : Goes S P L → Stays S P → (before after : S) → (old new : Match S P E L) → (is_closed : Bool) → Option L → Option SeamRefusal → Type 0
  GoesOver goes stays before after old new true last why =
      GoesOnOrNot goes stays old.epochs new.epochs old.peer new.peer old.relay new.relay before after old.engine new.engine last why
      × (new ≡ record old { epochs = new.epochs; peer = new.peer; relay = new.relay; engine = new.engine })
  GoesOver goes stays before after old new false last why = (after ≡ before) × (new ≡ old) × (last ≡ None) × (why ≡ None)

  pub record Ends (seen : S → Seen) (goes : Goes S P L) (stays : Stays S P) (before after : S) (old new : Match S P E L) (last : Option L)
      (why : Option SeamRefusal) : Type 0 where
    pub is_closed : Bool
    pub closed : Match S P E L
    pub told_all : S
    pub closes : Closes seen before told_all old closed is_closed
    pub goes_over : GoesOver goes stays told_all after closed new is_closed last why

  -- a turn: it begins, what is due is told, and the epoch ends if it is over
  pub record Turns (seen : S → Seen) (goes : Goes S P L) (stays : Stays S P) (now : ℕ) (before after : S) (old new : Match S P E L)
      (polled : Result (Result Unit PeerRefusal) HeldFault) (handed : Result ℕ HeldFault) (last : Option L) (why : Option SeamRefusal) : Type 0 where
    pub begun : Match S P E L
    pub due : Match S P E L
    pub heard : S
    pub told_due : S
    pub begins : Begins seen now before heard old begun polled
    pub tells : TellsDue seen heard told_due begun due handed
    pub ends : Ends seen goes stays told_due after due new last why
