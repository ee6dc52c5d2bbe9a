-- The replies to events and the log that they leave, by computation, with what a script's lines don't print.
use Rattle.std.proofs.Common.{◌≡◌, List, [], ◌∷◌, map, refl}
use Rattle.roll_frame.specs.Codes.{code_of, event_code_of}
use Rattle.roll_frame.specs.Core.{first_core}
use Rattle.roll_frame.specs.Events.{CoreEvent, replies_from, log_of}
use Rattle.roll_frame.specs.declared.entry.Entry.{Entry}
use Rattle.roll_frame.specs.declared.entry.Entry.TheVariants.{Local, Remote, Disconnect, Sync, Advance, Graft, Partial}
use Rattle.roll_frame.specs.declared.event.Event.TheVariants.{DisconnectedFromPeer, TimeSync}
use Rattle.roll_frame.specs.declared.refusal.Refusal.TheVariants.{InvalidPlayer, PlayerOutOfRange, PredictionThreshold, PlayerDisconnected, TooManySpectators, InvalidRequest, LocalInputMissing, InputTwice, Gap, Conflict, QueueFull, FrameLimit, NoMemory, Stranger, TooFar, Late, Orphan, Dead, TreeFull, LogFull, QueueRefused, Stopped, NoPlan, Unreadable, Full, NoJob}
use Rattle.roll_frame.specs.declared.reply.Reply.TheVariants.{Refused, Done, Taken, Repeated, Disconnected, Synchronized, Reached, Grafted}
use Rattle.roll_frame.specs.declared.row.Cell.TheVariants.{Word, Gone}
use Rattle.roll_frame.specs.declared.settings.Settings.{Settings}
use Rattle.test_rules.proofs.Scripts.{tally, path_of, row_of, full, two}

-- player 1's word 1 is predicted as 0
abbrev masked : Settings
masked = record (two 0 full) { masks = 2 ∷ full ∷ [] }

abbrev event : Entry → CoreEvent
event entry = record { entry = entry; value = [] }

-- a graft whose first state is the opening
abbrev grafted : CoreEvent
grafted = record { entry = Graft 7 (record { path = path_of 0 []; rows = record { items = row_of 1 3 ∷ row_of 1 4 ∷ [] } }); value = 0 ∷ [] }

abbrev events : List CoreEvent
events =
    event (Local 1 1) ∷ event Advance ∷ event (Local 1 1) ∷ event Advance ∷ event (Remote 2 0 3) ∷ event (Remote 2 0 3) ∷ event (Partial 2 3) ∷ event (Partial 2 1) ∷ event Sync ∷ grafted
    ∷ event (Local 2 5) ∷ event (Disconnect 2) ∷ event Sync ∷ event (Local 1 1) ∷ event Advance ∷ []

-- a synchronize replies with the row of the frame, not with the last one that was run: player 1's next word is predicted
-- as 0, and was 1. An advance replies with the new frame, the start and the cost
pub replies_to_events :
    replies_from masked tally (first_core masked) events
    ≡ Done ∷ Reached 1 0 1 ∷ Done ∷ Reached 2 1 1 ∷ Taken ∷ Repeated ∷ Refused InvalidRequest ∷ Refused NoMemory ∷ Synchronized (row_of 0 3) ∷ Grafted 1
    ∷ Refused InvalidPlayer ∷ Disconnected 2 ∷ Synchronized (Word 0 ∷ Gone ∷ []) ∷ Done ∷ Reached 3 2 1 ∷ []
replies_to_events = refl

-- the row of frame 1, where those of frames 0 to 2 are 1,3 and 0,4 and 0,5: neither the one before nor the one after
pub row_of_the_frame :
    replies_from masked tally (first_core masked) (event (Local 1 1) ∷ event Advance ∷ event (Remote 2 0 3) ∷ event (Remote 2 1 4) ∷ event (Remote 2 2 5) ∷ event Sync ∷ [])
    ≡ Done ∷ Reached 1 0 1 ∷ Taken ∷ Taken ∷ Taken ∷ Synchronized (row_of 0 4) ∷ []
row_of_the_frame = refl

-- the log has the accepted events in their order, a partial roll among them: none that was refused or repeated
pub log_of_events :
    log_of masked tally events
    ≡ Local 1 1 ∷ Advance ∷ Local 1 1 ∷ Advance ∷ Remote 2 0 3 ∷ Partial 2 1 ∷ Sync ∷ Graft 7 (record { path = path_of 0 []; rows = record { items = row_of 1 3 ∷ row_of 1 4 ∷ [] } })
    ∷ Disconnect 2 ∷ Sync ∷ Local 1 1 ∷ Advance ∷ []
log_of_events = refl

-- the number of each refusal, those of no script too, and of each event to the caller
pub numbers_of_refusals :
    map code_of (InvalidPlayer ∷ PlayerOutOfRange ∷ PredictionThreshold ∷ PlayerDisconnected ∷ TooManySpectators ∷ InvalidRequest ∷ [])
    ≡ 2 ∷ 3 ∷ 4 ∷ 9 ∷ 10 ∷ 11 ∷ []
numbers_of_refusals = refl

pub numbers_past_hundred :
    map code_of
    (LocalInputMissing ∷ InputTwice ∷ Gap ∷ Conflict ∷ QueueFull ∷ FrameLimit ∷ NoMemory ∷ Stranger ∷ TooFar ∷ Late
    ∷ Orphan ∷ Dead ∷ TreeFull ∷ LogFull ∷ QueueRefused ∷ Stopped ∷ NoPlan ∷ Unreadable 5 ∷ Full ∷ NoJob ∷ [])
    ≡ 101 ∷ 102 ∷ 103 ∷ 104 ∷ 105 ∷ 106 ∷ 107 ∷ 108 ∷ 109 ∷ 110 ∷ 111 ∷ 112 ∷ 113 ∷ 114 ∷ 115 ∷ 116 ∷ 117 ∷ 118 ∷ 119 ∷ 120 ∷ []
numbers_past_hundred = refl

pub numbers_of_events : event_code_of (DisconnectedFromPeer 2) ∷ event_code_of (TimeSync 3) ∷ [] ≡ 1004 ∷ 1005 ∷ []
numbers_of_events = refl
