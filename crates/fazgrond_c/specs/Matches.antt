-- What a call of the match that an open session plays comes to.
use Rattle.std.specs.Prelude.{◌≡◌, ◌≢◌, ◌⊎◌, ◌==◌, ◌&&◌, ◌||◌, ℕ, ◌+◌, ◌-◌, ◌*◌, ◌/◌, ℤ, pos, List, [], slice_get, slice_index, length, min, take, Bool, true, false, not, nat_lt, is_some, unwrap_or, ◌++◌, Option, Some, None, option_map, IfNone, IfSome, IsSome, IsSomeAnd, MatchOption, Result, Ok, Err, if◌then◌else◌}
use Rattle.roll_chain.specs.Chains.{has_stayed, settings_of}
use Rattle.roll_chain.specs.Epochs.{HasGoneOn}
use Rattle.roll_chain.specs.Seams.{each_machine}
use Rattle.roll_chain.specs.declared.seam_refusal.SeamRefusal.{SeamRefusal}
use Rattle.roll_epoch.specs.Seats.{machines_to, owners_with_absent}
use Rattle.roll_epoch.specs.declared.terms.Terms.{Terms}
use Rattle.roll_frame.specs.Codes.{code_of}
use Rattle.roll_frame.specs.Core.{settled}
use Rattle.roll_frame.specs.Settings.{start_refusal}
use Rattle.roll_frame.specs.declared.refusal.Refusal.{Refusal}
use Rattle.roll_match.specs.GoingOut.{GoesOut}
use Rattle.roll_match.specs.Hearing.{Hears}
use Rattle.roll_match.specs.Opening.{IsOpened, IsWhyClosed}
use Rattle.roll_match.specs.Pacing.{lead_of}
use Rattle.roll_match.specs.Telling.{putting_out, Marks}
use Rattle.roll_match.specs.Turning.{StaysElsewhere, TellsFirst, Turns}
use Rattle.roll_match.specs.declared.unheard.Unheard.{Unheard}
use Rattle.roll_match.specs.declared.unheard.Unheard.TheVariants.{Ignored as NotHeard, Held as NoRoom}
use Rattle.roll_match.specs.declared.unheard.Unmarked.{Unmarked}
use Rattle.roll_match.specs.declared.unheard.Unmarked.TheVariants.{Void, Refused, Held as Full}
use Rattle.roll_mesh.specs.Meshes.{leave_refusal}
use Rattle.roll_mesh.specs.declared.limits.TheConstants.{MACHINE_LIMIT, PLAYER_LIMIT}
use Rattle.roll_mesh.specs.declared.refusal.MeshRefusal.{MeshRefusal}
use Rattle.roll_peer.specs.Digests.{noted}
use Rattle.roll_peer.specs.Events.{popped}
use Rattle.roll_peer.specs.Marks.{each_player}
use Rattle.roll_peer.specs.Sending.{stats_of}
use Rattle.roll_peer.specs.declared.refusal.OpenRefusal.{OpenRefusal}
use Rattle.roll_peer.specs.declared.refusal.PeerRefusal.{PeerRefusal}
use Rattle.roll_relay.specs.Pressed.{is_pressed}
use Rattle.roll_relay.specs.Waits.{Waits}
use Rattle.roll_relay.specs.declared.fault.HeldFault.{HeldFault}
use Rattle.roll_requests.specs.Asked.{Asked}
use Rattle.roll_requests.specs.Made.{Keeps}
use Rattle.roll_requests.specs.declared.job.TheConstants.{JOBS_OUT}
use Rattle.roll_requests.specs.declared.request.Request.{Request}
use Rattle.roll_session.specs.Changes.{IsWhy}
use Rattle.roll_session.specs.Foretold.{guess_words_refusal_of, words_job_of}
use Rattle.roll_session.specs.Gameless.{still, Bare}
use Rattle.roll_session.specs.Seen.{Seen}
use Rattle.roll_wire.specs.declared.datagram.Mark.{Mark}
use Rattle.fazgrond_c.specs.EpochKinds.{IsMarkFaulty, IsMarkOf}
use Rattle.fazgrond_c.specs.Epochs.{seen_of}
use Rattle.fazgrond_c.specs.Handles.{session_in, IsNothing, Opens}
use Rattle.fazgrond_c.specs.Jobs.{outside, IsJobAsked}
use Rattle.fazgrond_c.specs.Made.{asked, IsStarted}
use Rattle.fazgrond_c.specs.MatchKinds.{fit_of, spread, unfit_out, words_of, IsUnfit}
use Rattle.fazgrond_c.specs.PeerKinds.{code_of_ignored, code_of_mark, code_of_mark_fault, code_of_mesh, code_of_opening, code_of_refusal, code_of_seam, event_out, stats_out}
use Rattle.fazgrond_c.specs.Peers.{code_unless}
use Rattle.fazgrond_c.specs.Playing.{frame_calls, own_before, CatchesUp, PlaysFrame}
use Rattle.fazgrond_c.specs.Waiting.{code_of_fault, AreListed, IsRerunBy}
use Rattle.fazgrond_c.specs.Written.{AreWritten}
use Rattle.fazgrond_c.specs.declared.epoch_kinds.MarkIn.{MarkIn}
use Rattle.fazgrond_c.specs.declared.epoch_kinds.TheConstants.{MARK_SIZE}
use Rattle.fazgrond_c.specs.declared.kinds.EntryOut.{EntryOut}
use Rattle.fazgrond_c.specs.declared.live.Live.{Live}
use Rattle.fazgrond_c.specs.declared.match_kinds.StayedOut.{StayedOut}
use Rattle.fazgrond_c.specs.declared.match_kinds.TurnOut.{TurnOut}
use Rattle.fazgrond_c.specs.declared.match_kinds.UnfitOut.{UnfitOut}
use Rattle.fazgrond_c.specs.declared.match_settings.Fit.{Fit}
use Rattle.fazgrond_c.specs.declared.match_settings.MatchSettingsIn.{MatchSettingsIn}
use Rattle.fazgrond_c.specs.declared.match_settings.TheConstants.{MATCH_SETTINGS_SIZE, NO_PLAYER}
use Rattle.fazgrond_c.specs.declared.match_settings.Unfit.{Unfit}
use Rattle.fazgrond_c.specs.declared.match_settings.Unfit.TheVariants.{Inputs}
use Rattle.fazgrond_c.specs.declared.match_turn.Begun.{Begun}
use Rattle.fazgrond_c.specs.declared.online.Online.{Online}
use Rattle.fazgrond_c.specs.declared.open.Open.{Open}
use Rattle.fazgrond_c.specs.declared.peer_kinds.EventOut.{EventOut}
use Rattle.fazgrond_c.specs.declared.peer_kinds.StatsOut.{StatsOut}
use Rattle.fazgrond_c.specs.declared.playing.Played.{Played}

-- ---- a session that plays a match

-- inputs and frames are as they were
abbrev pub IsLike : (old new : Online) → Type 0
IsLike old new = (new.input_size ≡ old.input_size) × (new.frame_time ≡ old.frame_time)

-- a call of it; if the session plays none, nothing is done
abbrev pub Does : (does : Asked → Asked → Online → Online → ℤ → Type 0) → (old new : Live) → (code : ℤ) → Type 0
Does does old new code = MatchOption old.network
    ((code ≡ pos 201) × (new ≡ old))
    (λ it. IsSomeAnd new.network (λ now.
    (new ≡ record old { session = new.session; network = new.network }) × does old.session new.session it now code))

-- the same of a call that may write something
abbrev pub DoesWriting : {T : Type 0} → (does : Asked → Asked → Online → Online → T → T → ℤ → Type 0) → (old new : Live) → (before after : T) → (code : ℤ)
    → Type 0
DoesWriting does old new before after code = MatchOption old.network
    ((code ≡ pos 201) × (new ≡ old) × (after ≡ before))
    (λ it. IsSomeAnd new.network (λ now.
    (new ≡ record old { session = new.session; network = new.network })
    × does old.session new.session it now before after code))

-- what is read of it and of its session, and written, or not
abbrev pub DoesRead : {T : Type 0} → (does : Asked → Online → T → T → ℤ → Type 0) → (live : Live) → (before after : T) → (code : ℤ) → Type 0
DoesRead does live before after code = MatchOption live.network
    ((code ≡ pos 201) × (after ≡ before))
    (λ it. does live.session it before after code)

-- ---- opening

-- of settings that don't fit: inputs that are too long together, or any other
abbrev pub are_too_long : Unfit → Bool
are_too_long (Inputs value) = true
are_too_long unfit = false

abbrev pub code_of_unfit : Unfit → ℕ
code_of_unfit unfit = if are_too_long unfit then 332 else 333

-- a session is open at its start, and plays a match that has just opened, both as these settings say
pub record IsMatched (fit : Fit) (live : Live) : Type 0 where
  pub session : IsStarted fit.session live.session
  pub advice : live.advice ≡ []
  pub closing : live.closing ≡ None
  pub first_job : live.first_job ≡ 0
  pub online : Online
  pub network : live.network ≡ Some online
  pub opened : IsOpened live.session.seen fit.chain fit.held_turns online.it
  pub input_size : online.input_size ≡ fit.input_size
  pub frame_time : online.frame_time ≡ fit.frame_time

abbrev pub nothing_unfit : UnfitOut
nothing_unfit = record { setting = 0; player = 0; value = 0 }

-- a setting doesn't fit
pub record IsOut (given : MatchSettingsIn) (why : UnfitOut) (code : ℤ) : Type 0 where
  pub unfit : Unfit
  pub is_unfit : IsUnfit given unfit
  pub code_is : code ≡ pos (code_of_unfit unfit)
  pub why_is : why ≡ unfit_out unfit

-- there is no such session
pub record HasNoSession (fit : Fit) (code : ℤ) : Type 0 where
  pub refusal : Refusal
  pub is_why : IsWhy (start_refusal fit.session) refusal
  pub code_is : code ≡ pos (code_of refusal)

-- or no such match
pub record HasNoMatch (fit : Fit) (code : ℤ) : Type 0 where
  pub seen : Seen
  pub refusal : OpenRefusal
  pub is_why : IsWhyClosed seen fit.chain refusal
  pub code_is : code ≡ pos (code_of_opening (settings_of fit.chain) refusal)

abbrev pub IsWhyNeither : Fit → (code : ℤ) → Type 0
IsWhyNeither fit code = HasNoSession fit code ⊎ HasNoMatch fit code

-- both open with settings that fit, or there is no such session, or no such match, or memory ran out
pub record IsOpenedFit (fit : Fit) (old new : Option Open) (code : ℤ) : Type 0 where
  pub opens : Opens session_in (IsMatched fit) old new code
  pub why : code ≢ pos 0 → IsWhyNeither fit code ⊎ (code ≡ pos 107)

-- a session is opened with the match that it plays; or the settings are another version's, or one of them doesn't fit, and nothing is
-- changed but that it is written which one
abbrev pub IsOpenedWith : MatchSettingsIn → (old new : Option Open) → (why : UnfitOut) → (code : ℤ) → Type 0
IsOpenedWith given old new why code =
    ((given.size ≢ MATCH_SETTINGS_SIZE) × (code ≡ pos 205) × (new ≡ old) × (why ≡ nothing_unfit))
    ⊎ ((IsOut given why code × (new ≡ old))
    ⊎ ((given.size ≡ MATCH_SETTINGS_SIZE) × IsOpenedFit (fit_of given) old new code × (why ≡ nothing_unfit)))

-- ---- hearing and sending

abbrev pub code_of_unheard : Unheard → ℕ
code_of_unheard (NotHeard why) = code_of_ignored why
code_of_unheard (NoRoom why) = code_of_fault why

abbrev pub code_of_hearing : Result Unit Unheard → ℤ
code_of_hearing (Ok done) = pos 0
code_of_hearing (Err why) = pos (code_of_unheard why)

-- bytes are heard, in this epoch or in the one before, or they aren't
pub record IsHeardIn (bytes : List ℕ) (now : ℕ) (before after : Asked) (old new : Online) (code : ℤ) : Type 0 where
  pub said : Result Unit Unheard
  pub hears : Hears still seen_of still bytes now before.seen after.seen old.it new.it said
  pub waits : Waits before.seen after.seen old.it.held new.it.held
  pub keeps : Keeps before after
  pub rest : IsLike old new
  pub code_is : code ≡ code_of_hearing said

-- the next datagram of this turn is written, and to which machine it goes; or there is no more
pub record IsNextOut (to : ℕ) (before after : Asked) (old new : Online) (had wrote : List ℕ) (was size : ℕ) (code : ℤ) : Type 0 where
  pub bytes : Option (List ℕ)
  pub goes : GoesOut seen_of before.seen after.seen old.it new.it (option_map (λ text. (to, text)) bytes)
  pub keeps : Keeps before after
  pub rest : IsLike old new
  pub written : AreWritten bytes had wrote was size code

abbrev pub GoesNext : (to : ℕ) → (old new : Live) → (had wrote : List ℕ) → (was size : ℕ) → (code : ℤ) → Type 0
GoesNext to old new had wrote was size code = MatchOption old.network
    (IsNothing 201 old new had wrote was size code)
    (λ it. IsSomeAnd new.network (λ now.
    (new ≡ record old { session = new.session; network = new.network })
    × IsNextOut to old.session new.session it now had wrote was size code))

-- ---- what is told

-- the oldest event is told, if one waits
pub record IsToldNext (before after : Asked) (old new : Online) (had wrote : EventOut) (code : ℤ) : Type 0 where
  pub session : after ≡ before
  pub popped_is : new.it ≡ record old.it { peer = record old.it.peer { waiting = popped old.it.peer.waiting } }
  pub rest : IsLike old new
  pub written : MatchOption (slice_get old.it.peer.waiting.events 0)
      ((code ≡ pos 203) × (wrote ≡ had))
      (λ event. (code ≡ pos 0) × (wrote ≡ event_out event))

-- this machine leaves
pub record IsLeft (why : ℕ) (before after : Asked) (old new : Online) (code : ℤ) : Type 0 where
  pub session : after ≡ before
  pub leaves : new.it ≡ record old.it { leaving = Some why }
  pub rest : IsLike old new
  pub code_is : code ≡ pos 0

-- another machine is gone from now on, or there is none of this number, and nothing is changed
pub record IsPutOutNow (machine : ℕ) (before after : Asked) (old new : Online) (code : ℤ) : Type 0 where
  pub session : after ≡ before
  pub why : Option MeshRefusal
  pub why_is : leave_refusal old.it.peer.member.mesh machine ≡ why
  pub left : IfNone why (new.it ≡ record old.it { peer = putting_out machine old.it.peer })
  pub unchanged : IsSome why → new.it ≡ old.it
  pub rest : IsLike old new
  pub code_is : code ≡ code_unless code_of_mesh why

-- the digest of the settled state is noted
pub record IsNotedNow (digest : ℕ) (before after : Asked) (old new : Online) (code : ℤ) : Type 0 where
  pub session : after ≡ before
  pub noted_is : new.it ≡ record old.it { peer = record old.it.peer { digests = noted (settled before.seen.core) digest old.it.peer.digests } }
  pub rest : IsLike old new
  pub code_is : code ≡ pos 0

-- ---- marks

-- which word of a row is the first of a player's input; of no player there is none
abbrev pub first_word : (words player : ℕ) → ℕ
first_word words player = if (player == 0) || nat_lt PLAYER_LIMIT player then 0 else (player - 1) * words + 1

-- a mark says the same of each word of an input
abbrev pub of_words : (words : ℕ) → MarkIn → MarkIn
of_words words given = record given { comes = spread given.comes words; delays = spread given.delays words }

abbrev pub code_of_unmarked : Unmarked → ℕ
code_of_unmarked (Void why) = code_of_mark_fault why
code_of_unmarked (Refused why) = code_of_mark why
code_of_unmarked (Full why) = code_of_fault why

abbrev pub code_of_marking : Result ℕ Unmarked → ℤ
code_of_marking (Ok frame) = pos 0
code_of_marking (Err why) = pos (code_of_unmarked why)

-- a mark is put on a player's next input, once the session was told all that waits, or not
pub record IsMarkedNow (player : ℕ) (given : MarkIn) (before after : Asked) (old new : Online) (code : ℤ) : Type 0 where
  pub mark : Mark
  pub mark_is : IsMarkOf (of_words (words_of old.input_size) given) mark
  pub said : Result ℕ Unmarked
  pub marks : Marks (λ s. s.seen) (first_word (words_of old.input_size) player) mark before after old.it new.it said
  pub keeps : Keeps before after
  pub rest : IsLike old new
  pub code_is : code ≡ code_of_marking said

-- a mark of another version, or with a number that fits nowhere, isn't put anywhere
abbrev pub IsMarkedThere : (player : ℕ) → MarkIn → (before after : Asked) → (old new : Online) → (code : ℤ) → Type 0
IsMarkedThere player given before after old new code =
    ((given.size ≢ MARK_SIZE) × (code ≡ pos 205) × (after ≡ before) × (new.it ≡ old.it) × IsLike old new)
    ⊎ ((IsMarkFaulty (of_words (words_of old.input_size) given) × (code ≡ pos 11) × (after ≡ before) × (new.it ≡ old.it) × IsLike old new)
    ⊎ ((given.size ≡ MARK_SIZE) × IsMarkedNow player given before after old new code))

-- ---- what is read

-- what was counted of a machine of the match
abbrev pub counted_of : Online → (machine : ℕ) → Option StatsOut
counted_of it machine =
    if nat_lt machine it.it.peer.settings.machines && nat_lt machine MACHINE_LIMIT
    then Some (stats_out (stats_of it.it.peer machine)) else None

abbrev pub IsCountedOf : (machine : ℕ) → (s : Asked) → Online → (before after : StatsOut) → (code : ℤ) → Type 0
IsCountedOf machine s it before after code = MatchOption (counted_of it machine)
    ((code ≡ pos 303) × (after ≡ before))
    (λ there. (code ≡ pos 0) × (after ≡ there))

-- what a player has of a list with something for each word of a row; past the last word it is nobody's
abbrev pub of_player : List ℕ → (words p : ℕ) → ℕ
of_player row words p = if nat_lt (p * words) PLAYER_LIMIT then slice_index row (p * words) else NO_PLAYER

abbrev pub stayed_at : Online → ℕ → ℕ
stayed_at it machine = if has_stayed it.it.epochs.chain machine then 1 else 0

-- how this epoch opened, and who was in the one before
abbrev pub stayed_out : Online → StayedOut
stayed_out it = record {
  epoch = it.it.epochs.chain.terms.id;
  base = it.it.epochs.chain.terms.base;
  machines = machines_to (owners_with_absent it.it.epochs.chain.terms.owners) PLAYER_LIMIT;
  threshold = it.it.epochs.chain.terms.threshold;
  owners = each_player (of_player it.it.epochs.chain.terms.owners (words_of it.input_size));
  delays = each_player (of_player it.it.epochs.chain.terms.delays (words_of it.input_size));
  stayed = each_machine (stayed_at it);
}

-- a match that doesn't go on in epochs has none
abbrev pub IsEpochIf : (lasts : Bool) → Online → (before after : StayedOut) → (code : ℤ) → Type 0
IsEpochIf true it before after code = (code ≡ pos 0) × (after ≡ stayed_out it)
IsEpochIf false it before after code = (code ≡ pos 203) × (after ≡ before)

abbrev pub IsEpochOf : (s : Asked) → Online → (before after : StayedOut) → (code : ℤ) → Type 0
IsEpochOf s it before after code = IsEpochIf it.it.epochs.chain.base.takes_marks it before after code

-- ---- inputs that wait

-- their words are written, as many as there is room for; a session that plays no match has none
abbrev pub AreListedOf : Live → (before after : List EntryOut) → (count : ℕ) → Type 0
AreListedOf live before after count = MatchOption live.network
    ((count ≡ 0) × (after ≡ before))
    (λ it. AreListed it.it.held.words.items before after count)

-- how many frames the session would run again, if it were told the first so many, is written
abbrev pub IsRerunOf : (count : ℕ) → (s : Asked) → Online → (before after : ℕ) → (code : ℤ) → Type 0
IsRerunOf count s it before after code = IsRerunBy s.seen (take count it.it.held.words.items) before after code

-- whether inputs wait for a session that would refuse an own one in its next frame without them
abbrev pub IsPressedNow : (s : Asked) → Online → (before after : ℕ) → (code : ℤ) → Type 0
IsPressedNow s it before after code =
    (code ≡ pos 0) × (after ≡ (if is_pressed s.seen it.it.held.words.items then 1 else 0))

-- a guess of all that wait
abbrev pub IsGuessedOf : (until : ℕ) → (old new : Live) → (before after : ℕ) → (code : ℤ) → Type 0
IsGuessedOf until old new before after code = MatchOption old.network
    ((code ≡ pos 201) × (new ≡ old) × (after ≡ before))
    (λ it. IsJobAsked (guess_words_refusal_of old.session.seen it.it.held.words.items until)
    (words_job_of still old.session.seen it.it.held.words.items until) old new before after code)

abbrev pub code_of_handing : Result Unit HeldFault → ℤ
code_of_handing (Ok done) = pos 0
code_of_handing (Err why) = pos (code_of_fault why)

-- the session is told the first so many
pub record IsHandedOver (count : ℕ) (before after : Asked) (old new : Online) (code : ℤ) : Type 0 where
  pub said : Result Unit HeldFault
  pub tells : TellsFirst (λ s. s.seen) count before after old.it new.it said
  pub keeps : Keeps before after
  pub rest : IsLike old new
  pub code_is : code ≡ code_of_handing said

-- ---- a turn

-- its code: why the network couldn't poll, or inputs that were due not be handed over, or the next epoch not begin
abbrev pub code_of_stay : Option SeamRefusal → ℤ
code_of_stay None = pos 0
code_of_stay (Some why) = pos (code_of_seam why)

abbrev pub code_of_due : Result ℕ HeldFault → Option SeamRefusal → ℤ
code_of_due (Ok count) stays = code_of_stay stays
code_of_due (Err why) stays = pos (code_of_fault why)

abbrev pub code_of_turn : Result (Result Unit PeerRefusal) HeldFault → Result ℕ HeldFault → Option SeamRefusal → ℤ
code_of_turn (Ok (Ok done)) handed stays = code_of_due handed stays
code_of_turn (Ok (Err why)) handed stays = pos (code_of_refusal why)
code_of_turn (Err why) handed stays = pos (code_of_fault why)

abbrev pub handed_in : Result ℕ HeldFault → ℕ
handed_in (Ok count) = min count 4294967295
handed_in (Err why) = 0

-- the last requests of an epoch that ended go ahead of the session's
abbrev pub closing_after : (last closing : Option (List Request)) → Option (List Request)
closing_after None closing = closing
closing_after (Some last) closing = Some last

-- and the numbers of its jobs are used up
abbrev pub first_after : (last : Option (List Request)) → ℕ → ℕ
first_after None first = first
first_after (Some last) first = outside first JOBS_OUT

-- the turn of the match itself, where the game has carried out all requests
pub record IsBegun (now : ℕ) (it mid : Online) (old new : Asked) (closing closed : Option (List Request)) (first next : ℕ) (said : Begun)
    : Type 0 where
  pub polled : Result (Result Unit PeerRefusal) HeldFault
  pub handed : Result ℕ HeldFault
  pub last : Option (List Request)
  pub stays : Option SeamRefusal
  pub turns : Turns (λ s. s.seen) HasGoneOn StaysElsewhere now old new (record it.it { engine = Some tt }) mid.it polled handed last stays
  pub rest : IsLike it mid
  pub closing_is : closed ≡ closing_after last closing
  pub first_is : next ≡ first_after last first
  pub said_is : said ≡ record { code = code_of_turn polled handed stays; handed = handed_in handed; has_gone_on = is_some last }

-- how many bytes the inputs of this machine's players have
abbrev pub size_of_inputs : Online → ℕ
size_of_inputs it =
    own_before it.it.peer.settings.owners it.it.peer.settings.me PLAYER_LIMIT / words_of it.input_size * it.input_size

-- whether a frame is due: no epoch ended, and the match runs
abbrev pub is_due : Online → Begun → Bool
is_due mid said = not said.has_gone_on && mid.it.peer.running

-- none is played, for a reason that has this code, and the session rolls back where that is due
abbrev pub PlaysNone : (code : ℤ) → (old new : Asked) → Played → Type 0
PlaysNone code old new played = (played ≡ record { has_played = false; waits_for = code }) × CatchesUp old new

-- there are no inputs, or they have another length, or a frame is played with them
abbrev pub PlaysBy : (none fit : Bool) → (inputs : List ℕ) → (mid : Online) → (old new : Asked) → Played → Type 0
PlaysBy true fit inputs mid old new played = PlaysNone (pos 0) old new played
PlaysBy false false inputs mid old new played = PlaysNone (pos 334) old new played
PlaysBy false true inputs mid old new played =
    PlaysFrame (frame_calls mid.it.peer.settings.owners mid.it.peer.settings.me mid.input_size inputs) old new played

abbrev pub PlaysWith : (inputs : List ℕ) → (mid : Online) → (old new : Asked) → Played → Type 0
PlaysWith inputs mid old new played =
    PlaysBy (length inputs == 0) (length inputs == size_of_inputs mid) inputs mid old new played

abbrev pub PlaysWhere : (due : Bool) → (inputs : List ℕ) → (mid : Online) → (old new : Asked) → Played → Type 0
PlaysWhere true inputs mid old new played = PlaysWith inputs mid old new played
PlaysWhere false inputs mid old new played = (played ≡ record { has_played = false; waits_for = pos 0 }) × (new ≡ old)

abbrev pub PlaysIfDue : (inputs : List ℕ) → (mid : Online) → (said : Begun) → (old new : Asked) → Played → Type 0
PlaysIfDue inputs mid said old new played = PlaysWhere (is_due mid said) inputs mid old new played

abbrev pub as_number : Bool → ℕ
as_number b = if b then 1 else 0

-- how long until the next turn, in microseconds: a frame, and a 32nd of it more for each half frame that this machine is ahead; none
-- where an epoch ended, so that its first frame isn't late
abbrev pub next_in : Online → Begun → ℕ
next_in mid said =
    if said.has_gone_on then 0 else mid.frame_time + mid.frame_time * lead_of mid.it.peer MACHINE_LIMIT / 32

abbrev pub turn_out : Online → Begun → Played → (closing : Option (List Request)) → Asked → TurnOut
turn_out mid said played closing s = record {
  is_running = as_number mid.it.peer.running;
  has_played = as_number played.has_played;
  has_gone_on = as_number said.has_gone_on;
  has_requests = if length (unwrap_or closing [] ++ s.requests) == 0 then 0 else 1;
  frame = s.seen.core.frame;
  handed = said.handed;
  failed = said.code;
  waits_for = played.waits_for;
  next_in = next_in mid said;
}

pub record TakesTurn (inputs : List ℕ) (now : ℕ) (it : Online) (old new : Live) (after : TurnOut) (code : ℤ) : Type 0 where
  pub mid : Online
  pub said : Begun
  pub between : Asked
  pub begins : IsBegun now it mid old.session between old.closing new.closing old.first_job new.first_job said
  pub played : Played
  pub plays : PlaysIfDue inputs mid said between new.session played
  pub rest : new ≡ record old { session = new.session; closing = new.closing; first_job = new.first_job; network = Some mid }
  pub told : after ≡ turn_out mid said played new.closing new.session
  pub code_is : code ≡ pos 0

-- a turn is taken; or requests are still to be taken, and nothing is done
abbrev pub TurnsWith : (inputs : List ℕ) → (now : ℕ) → (it : Online) → (old new : Live) → (before after : TurnOut) → (code : ℤ) → Type 0
TurnsWith inputs now it old new before after code =
    ((asked old ≢ []) × (code ≡ pos 202) × (new ≡ old) × (after ≡ before))
    ⊎ ((asked old ≡ []) × TakesTurn inputs now it old new after code)

abbrev pub MatchTurns : (inputs : List ℕ) → (now : ℕ) → (old new : Live) → (before after : TurnOut) → (code : ℤ) → Type 0
MatchTurns inputs now old new before after code = MatchOption old.network
    ((code ≡ pos 201) × (new ≡ old) × (after ≡ before))
    (λ it. TurnsWith inputs now it old new before after code)

-- ---- through a handle

-- what is read of the match that a session plays; it stays as it is
pub record IsReadIn {T : Type 0} (does : Asked → Online → T → T → ℤ → Type 0) (old new : Option Open) (before after : T) (code : ℤ) : Type 0 where
  pub kept : new ≡ old
  pub closed : session_in old ≡ None → (code ≡ pos 201) × (after ≡ before)
  pub read : IfSome (session_in old) (λ live. DoesRead does live before after code)

-- the words that wait for a session; a closed one has none
pub record AreListedIn (old new : Option Open) (before after : List EntryOut) (count : ℕ) : Type 0 where
  pub kept : new ≡ old
  pub closed : session_in old ≡ None → (count ≡ 0) × (after ≡ before)
  pub listed : IfSome (session_in old) (λ live. AreListedOf live before after count)
