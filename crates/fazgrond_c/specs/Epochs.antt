-- What a call of a peer whose match goes on in epochs comes to.
use Rattle.std.specs.Prelude.{◌≡◌, ◌≢◌, ◌⊎◌, ◌==◌, ◌&&◌, ℕ, ◌+◌, ◌-◌, ℤ, pos, Bool, List, [], Option, Some, None, option_map, IfSome, IfNone, IsSomeAnd, MatchOption, Result, Ok, Err, if◌then◌else◌}
use Rattle.roll_chain.specs.Chains.{has_stayed}
use Rattle.roll_chain.specs.Judging.{mark_fault, IsOver}
use Rattle.roll_epoch.specs.declared.faults.MarkFault.{MarkFault}
use Rattle.roll_epoch.specs.declared.marks.Ending.{Ending}
use Rattle.roll_mesh.specs.Machines.{owner_of}
use Rattle.roll_mesh.specs.declared.seat.Seat.{Seat}
use Rattle.roll_peer.specs.Marking.{is_numbered, IsMarkedAs, IsWhyUnmarked}
use Rattle.roll_peer.specs.declared.received.Ignored.{Ignored}
use Rattle.roll_peer.specs.declared.refusal.MarkRefusal.{MarkRefusal}
use Rattle.roll_peer.specs.declared.refusal.OtherSession.{OtherSession}
use Rattle.roll_relay.specs.Relaying.{IsNext}
use Rattle.roll_requests.specs.declared.request.Request.{Request}
use Rattle.roll_chain.specs.Epochs.{judged_in, shared_peer, turned_in, GoesOnIn, HearsBefore, SendsBefore, IsNextBefore as IsNextOfPast}
use Rattle.roll_chain.specs.declared.epochs.Epochs.{Epochs}
use Rattle.roll_chain.specs.declared.seam_refusal.SeamRefusal.{SeamRefusal}
use Rattle.roll_session.specs.Gameless.{still, Bare}
use Rattle.roll_session.specs.Seen.{Seen}
use Rattle.roll_wire.specs.declared.datagram.Mark.{Mark}
use Rattle.fazgrond_c.specs.EpochKinds.{epoch_out, IsMarkFaulty, IsMarkOf}
use Rattle.fazgrond_c.specs.PeerKinds.{code_of_mark, code_of_mark_fault, code_of_seam}
use Rattle.fazgrond_c.specs.Waiting.{AreHandedFirst}
use Rattle.fazgrond_c.specs.Jobs.{outside}
use Rattle.fazgrond_c.specs.Made.{closing_in}
use Rattle.roll_requests.specs.declared.job.TheConstants.{JOBS_OUT}
use Rattle.fazgrond_c.specs.Written.{code_of_receipt, AreSent}
use Rattle.fazgrond_c.specs.declared.epoch_kinds.EpochIn.{EpochIn}
use Rattle.fazgrond_c.specs.declared.epoch_kinds.MarkIn.{MarkIn}
use Rattle.fazgrond_c.specs.declared.epoch_kinds.TheConstants.{MARK_SIZE}
use Rattle.fazgrond_c.specs.declared.live.Live.{Live}
use Rattle.fazgrond_c.specs.declared.network.Network.{Network}

-- ---- a turn

-- a turn begins for the epochs of a match, if there are any
abbrev pub turned_with : Option (Epochs (Bare ℕ)) → Network → Network
turned_with None network = network
turned_with (Some e) network =
    record network { peer = judged_in e (shared_peer e network.peer); epochs = Some (turned_in e network.peer) }

abbrev pub epoch_turned : Network → Network
epoch_turned network = turned_with network.epochs network

-- ---- the epoch before

-- what is known of the players of a session that has ended
abbrev pub seen_of : Bare ℕ → Seen
seen_of e = e.seen

-- it hears bytes, or they aren't heard; without epochs they are sealed for nothing here
abbrev pub IsHeardBefore : (bytes : List ℕ) → (now : ℕ) → (old new : Option (Epochs (Bare ℕ))) → ℤ → Type 0
IsHeardBefore bytes now old new code = MatchOption old
    ((new ≡ None) × (code ≡ pos 301))
    (λ e. IsSomeAnd new (λ later. (result : Result Unit Ignored) × HearsBefore seen_of still bytes now e later result
    × (code ≡ code_of_receipt result)))

-- what goes out in it beside what is sent
abbrev pub IsNextBefore : (old new : Option (Epochs (Bare ℕ))) → Option (ℕ × List ℕ) → Type 0
IsNextBefore old new said = MatchOption old
    ((new ≡ None) × (said ≡ None))
    (λ e. IsSomeAnd new (λ later. IsNextOfPast e later said))

-- what goes out of this epoch, or else of the one before
pub record IsNextIn (old new : Network) (said : Option (ℕ × List ℕ)) : Type 0 where
  pub first : Option (ℕ × List ℕ)
  pub now : IsNext old.peer old.relay new.relay first
  pub some : IfSome first (λ it. (said ≡ Some it) × (new.epochs ≡ old.epochs))
  pub none : IfNone first (IsNextBefore old.epochs new.epochs said)
  pub rest : new ≡ record old { relay = new.relay; epochs = new.epochs }

-- what is to be sent in it to a machine is written, or there is nothing
pub record IsSentBefore (machine now : ℕ) (old new : Network) (before wrote : List ℕ) (had size : ℕ) (code : ℤ) : Type 0 where
  pub result : Result (Option (List ℕ)) OtherSession
  pub sent : MatchOption old.epochs
      ((new.epochs ≡ None) × (result ≡ Ok None))
      (λ e. IsSomeAnd new.epochs (λ later. SendsBefore seen_of machine now e later result))
  pub written : AreSent result before wrote had size code
  pub rest : new ≡ record old { epochs = new.epochs }

-- ---- how this epoch opened

abbrev pub epoch_in : Network → Option EpochIn
epoch_in network = option_map (λ e. epoch_out e.chain.terms) network.epochs

-- whether a machine is in it and was in the one before, as a number
abbrev pub stayed_in : (machine : ℕ) → Network → Option ℕ
stayed_in machine network = option_map (λ e. if has_stayed e.chain machine then 1 else 0) network.epochs

-- ---- marks

abbrev pub code_of_marking : Result ℕ MarkRefusal → ℤ
code_of_marking (Ok frame) = pos 0
code_of_marking (Err why) = pos (code_of_mark why)

-- a mark is put on a player's next word, or not
pub record IsMarked (player : ℕ) (mark : Mark) (s : Seen) (old new : Network) (code : ℤ) : Type 0 where
  pub result : Result ℕ MarkRefusal
  pub marked : (frame : ℕ) → result ≡ Ok frame → IsMarkedAs s old.peer new.peer player mark frame
  pub refused : (why : MarkRefusal) → result ≡ Err why → IsWhyUnmarked s old.peer player mark why × (new ≡ old)
  pub rest : new ≡ record old { peer = new.peer }
  pub code_is : code ≡ code_of_marking result

-- whether a player, counted from 1, is this machine's
abbrev pub is_own : ℕ → Seat → Bool
is_own player seat = is_numbered player && (owner_of seat (player - 1) == seat.me)

-- why a mark would be void, if the match goes on in epochs
abbrev pub fault_with : ℕ → Mark → Option (Epochs (Bare ℕ)) → Option MarkFault
fault_with player mark None = None
fault_with player mark (Some e) = mark_fault e.chain player mark

-- the same of a player of this machine alone
abbrev pub fault_in : ℕ → Mark → Network → Option MarkFault
fault_in player mark network =
    if is_own player network.peer.member.mesh.seat then fault_with player mark network.epochs else None

-- a mark that would be void isn't put anywhere
pub record IsVoidIn (player : ℕ) (given : MarkIn) (network : Network) (code : ℤ) : Type 0 where
  pub mark : Mark
  pub mark_is : IsMarkOf given mark
  pub fault : MarkFault
  pub found : fault_in player mark network ≡ Some fault
  pub code_is : code ≡ pos (code_of_mark_fault fault)

-- the session is told all words that wait, and then the mark that was given is put there; or it can't be told, and that is all
pub record IsMarkedTold (player : ℕ) (given : MarkIn) (old new : Network) (before after : Live) (code : ℤ) : Type 0 where
  pub mark : Mark
  pub mark_is : IsMarkOf given mark
  pub counts : fault_in player mark old ≡ None
  pub told : Network
  pub handed_code : ℤ
  pub handed : AreHandedFirst 4294967295 old told before after handed_code
  pub marks : ((handed_code ≡ pos 0) × IsMarked player mark after.session.seen told new code)
      ⊎ ((handed_code ≢ pos 0) × ((code ≡ handed_code) × (new ≡ told)))

-- a mark of another version, or with a number that fits nowhere, isn't put anywhere either
abbrev pub IsMarkedIn : (player : ℕ) → MarkIn → (old new : Network) → (before after : Live) → ℤ → Type 0
IsMarkedIn player given old new before after code =
    ((given.size ≢ MARK_SIZE) × ((code ≡ pos 205) × ((new ≡ old) × (after ≡ before))))
    ⊎ ((IsMarkFaulty given × ((code ≡ pos 11) × ((new ≡ old) × (after ≡ before))))
    ⊎ ((IsVoidIn player given old code × ((new ≡ old) × (after ≡ before)))
    ⊎ ((given.size ≡ MARK_SIZE) × IsMarkedTold player given old new before after code)))

-- ---- the next epoch

-- this epoch is over beside a session
abbrev pub IsOverIn : Network → Seen → Ending → Type 0
IsOverIn network s ending = IsSomeAnd network.epochs (λ e. IsOver s e.chain network.peer ending)

abbrev pub is_over_in : Network → Live → Type 0
is_over_in network live = (ending : Ending) × IsOverIn network live.session.seen ending

abbrev pub code_of_going : Result (Option (List Request)) SeamRefusal → ℤ
code_of_going (Ok None) = pos 203
code_of_going (Ok (Some closing)) = pos 0
code_of_going (Err why) = pos (code_of_seam why)

-- the last requests of the session that ended, if it has
abbrev pub closing_by : Result (Option (List Request)) SeamRefusal → Option (List Request) → Option (List Request)
closing_by (Ok None) before = before
closing_by (Ok (Some closing)) before = Some closing
closing_by (Err why) before = before

-- the numbers of the jobs that were out are used up
abbrev pub jobs_by : Result (Option (List Request)) SeamRefusal → (first : ℕ) → ℕ
jobs_by (Ok None) first = first
jobs_by (Ok (Some closing)) first = outside first JOBS_OUT
jobs_by (Err why) first = first

-- how many frames past the end were run again is written
abbrev pub frames_by : Result (Option (List Request)) SeamRefusal → (frame had : ℕ) → ℕ
frames_by (Ok None) frame had = had
frames_by (Ok (Some closing)) frame had = frame
frames_by (Err why) frame had = had

-- a match goes on in its next epoch, or it doesn't
pub record GoesOnWith (e : Epochs (Bare ℕ)) (old new : Network) (before after : Live) (had wrote : ℕ) (code : ℤ) : Type 0 where
  pub later : Epochs (Bare ℕ)
  pub later_is : new.epochs ≡ Some later
  pub result : Result (Option (List Request)) SeamRefusal
  pub goes : GoesOnIn e later (judged_in e old.peer) new.peer old.relay new.relay before.session after.session result
  pub held : new.held ≡ old.held
  pub rest : after ≡ record before {
    session = after.session;
    closing = closing_by result before.closing;
    first_job = jobs_by result before.first_job;
  }
  pub code_is : code ≡ code_of_going result
  pub written : wrote ≡ frames_by result after.session.seen.core.frame had

abbrev pub GoesOnFrom : (old new : Network) → (before after : Live) → (had wrote : ℕ) → ℤ → Type 0
GoesOnFrom old new before after had wrote code = MatchOption old.epochs
    ((code ≡ pos 203) × ((new ≡ old) × ((after ≡ before) × (wrote ≡ had))))
    (λ e. GoesOnWith e old new before after had wrote code)

-- nothing is done
pub record IsIdle (reason : ℕ) (old new : Network) (before after : Live) (had wrote : ℕ) (code : ℤ) : Type 0 where
  pub code_is : code ≡ pos reason
  pub network : new ≡ old
  pub live : after ≡ before
  pub same : wrote ≡ had

-- it is over, and the session was told all words that waited; or it wasn't, and that is all
pub record GoesOnTold (old new : Network) (before after : Live) (had wrote : ℕ) (code : ℤ) : Type 0 where
  pub told : Network
  pub knows : Live
  pub handed_code : ℤ
  pub handed : AreHandedFirst 4294967295 old told before knows handed_code
  pub goes : ((handed_code ≡ pos 0) × GoesOnFrom told new knows after had wrote code)
      ⊎ ((handed_code ≢ pos 0) × ((code ≡ handed_code) × ((new ≡ told) × ((after ≡ knows) × (wrote ≡ had)))))

-- this epoch isn't over, or it is, and the match goes on
abbrev pub GoesOnJudged : (old new : Network) → (before after : Live) → (had wrote : ℕ) → ℤ → Type 0
GoesOnJudged old new before after had wrote code =
    ((¬ is_over_in old before) × IsIdle 203 old new before after had wrote code)
    ⊎ (is_over_in old before × GoesOnTold old new before after had wrote code)

-- marks are judged
abbrev pub judged_with : Option (Epochs (Bare ℕ)) → Network → Network
judged_with None network = network
judged_with (Some e) network = record network { peer = judged_in e network.peer }

abbrev pub judged_network : Network → Network
judged_network network = judged_with network.epochs network

-- the last requests of the epoch before weren't taken yet; or it is seen whether this one is over, once marks are judged
abbrev pub GoesOnBeside : (old new : Network) → (before after : Live) → (had wrote : ℕ) → ℤ → Type 0
GoesOnBeside old new before after had wrote code =
    ((closing_in before ≢ []) × IsIdle 202 old new before after had wrote code)
    ⊎ ((closing_in before ≡ []) × GoesOnJudged (judged_network old) new before after had wrote code)
