-- The sentences for the numbers of answers and of events.
use Rattle.std.specs.Prelude.{ℕ, ℤ, pos, ◌+◌, ◌*◌, ◌==◌, nat_lt, List, [], codes, if◌then◌else◌}

-- what a session answers
abbrev pub session_text : ℕ → List ℕ
session_text number =
    if number == 0 then codes "done"
    else (if number == 2 then codes "no such player, or not this kind of player"
    else (if number == 3 then codes "the number of players is out of range"
    else (if number == 4 then codes "the prediction threshold is reached"
    else (if number == 9 then codes "the player is disconnected"
    else (if number == 11 then codes "invalid request"
    else (if number == 101 then codes "a local input is missing"
    else (if number == 102 then codes "the input was given already"
    else (if number == 103 then codes "an earlier input is missing"
    else (if number == 104 then codes "the input conflicts with a confirmed one"
    else (if number == 105 then codes "the input queue is full"
    else (if number == 106 then codes "the frame limit is reached"
    else (if number == 107 then codes "out of memory"
    else []))))))))))))

-- what a session answers of jobs and of what it keeps
abbrev pub job_text : ℕ → List ℕ
job_text number =
    if number == 108 then codes "the job's states are not of this session"
    else (if number == 109 then codes "the job goes over 24 frames past the settled one"
    else (if number == 110 then codes "the job comes too late: all its frames are settled"
    else (if number == 111 then codes "the state that the job was run from is not kept any more"
    else (if number == 112 then codes "the job's guess was wrong: another word has come"
    else (if number == 113 then codes "as many states are kept as jobs may fill"
    else (if number == 114 then codes "the log is full"
    else (if number == 117 then codes "there is no rollback to make a claim of"
    else (if number == 119 then codes "64 jobs are out"
    else (if number == 120 then codes "no such job"
    else [])))))))))

-- what a call through a handle answers
abbrev pub handle_text : ℕ → List ℕ
handle_text number =
    if number == 201 then codes "the handle is closed, or of another kind"
    else (if number == 202 then codes "requests are still to be taken"
    else (if number == 203 then codes "there is no such thing"
    else (if number == 204 then codes "the buffer is too short"
    else (if number == 205 then codes "the struct is of another version"
    else []))))

-- what becomes of packets
abbrev pub packet_text : ℕ → List ℕ
packet_text number =
    if number == 301 then codes "not of this match or opening, or changed on its way"
    else (if number == 302 then codes "no datagram of this version"
    else (if number == 303 then codes "no such machine"
    else (if number == 304 then codes "this machine itself"
    else (if number == 305 then codes "the machine is gone"
    else (if number == 306 then codes "the other end means another match"
    else (if number == 307 then codes "the packet has more words than there are"
    else (if number == 308 then codes "the line has ended"
    else (if number == 309 then codes "the other end didn't send it"
    else (if number == 310 then codes "no rows of this match's players"
    else (if number == 311 then codes "rows in between are missing"
    else (if number == 312 then codes "it speaks of machines or players that the match hasn't"
    else (if number == 313 then codes "the session isn't this match's"
    else (if number == 314 then codes "an ask for a taker, or a piece for a giver"
    else (if number == 315 then codes "of another state"
    else (if number == 316 then codes "the sender gave a wrong state"
    else (if number == 317 then codes "the pieces of another machine are taken for now"
    else (if number == 318 then codes "the state has no such piece"
    else (if number == 319 then codes "a piece of another length"
    else (if number == 320 then codes "a state of too many bytes"
    else (if number == 321 then codes "the match takes no marks"
    else (if number == 322 then codes "the player has a mark already"
    else (if number == 323 then codes "the words of an input have other delays than each other"
    else (if number == 324 then codes "the words of an input have two owners"
    else (if number == 325 then codes "too many words: all inputs have 8 at most together"
    else (if number == 326 then codes "there is no number with a machine: it is 0"
    else (if number == 327 then codes "the threshold of a mark is too great"
    else (if number == 328 then codes "a delay of a mark is over 8 frames"
    else (if number == 329 then codes "a mark gives a delay to a player of another machine"
    else (if number == 330 then codes "the ticket of a mark isn't that of its name"
    else (if number == 331 then codes "jobs are out: graft or forget them first"
    else (if number == 332 then codes "the inputs of all players have 32 bytes at most together, each rounded up to 4"
    else (if number == 333 then codes "a setting of the match is out of its range"
    else (if number == 334 then codes "the inputs of a turn have another length than the match's"
    else [])))))))))))))))))))))))))))))))))

-- what an event tells
abbrev pub event_text : ℕ → List ℕ
event_text number =
    if number == 1001 then codes "a machine was heard of, and the match isn't played with it yet"
    else (if number == 1002 then codes "this machine and another have heard each other"
    else (if number == 1003 then codes "the match begins"
    else (if number == 1004 then codes "the player is disconnected"
    else (if number == 1005 then codes "this machine is ahead, and should wait for the others"
    else (if number == 1006 then codes "a machine has been silent for a while"
    else (if number == 1007 then codes "a machine that was silent was heard again"
    else (if number == 1101 then codes "a machine is regarded as gone"
    else (if number == 1102 then codes "a machine has another state at a settled frame"
    else (if number == 1103 then codes "a machine means another match"
    else (if number == 1104 then codes "it is over here: another machine regards this one as gone, or it was cut off"
    else (if number == 1105 then codes "a machine was opened anew in the middle of the match"
    else (if number == 1106 then codes "a machine holds up the match"
    else (if number == 1107 then codes "something that a machine sealed was refused"
    else (if number == 1108 then codes "a machine hasn't come so far"
    else (if number == 1109 then codes "this machine hears too few of the others"
    else (if number == 1110 then codes "a machine hasn't come so far, and datagrams come that aren't of this match"
    else (if number == 1111 then codes "a machine knows another mark of a player"
    else [])))))))))))))))))

-- the sentence for a number, if there is one
abbrev pub text_of : ℕ → List ℕ
text_of number =
    if nat_lt number 108 then session_text number
    else (if nat_lt number 200 then job_text number
    else (if nat_lt number 300 then handle_text number
    else (if nat_lt number 1000 then packet_text number
    else event_text number)))

-- no number below 0 has one
abbrev pub sentence_of : ℤ → List ℕ
sentence_of (pos number) = text_of number
sentence_of code = []

-- the version of a library, as one number
abbrev pub version_of : (major minor patch : ℕ) → ℕ
version_of major minor patch = major * 65536 + (minor * 256 + patch)
