-- What the network of a match holds back from the session beside it, and what a call that asks for it comes to.
use Rattle.std.specs.Prelude.{◌≡◌, ℕ, ℤ, pos, List, [], ◌++◌, drop, length, map, min, take, Option, None, true, IfSome, MatchOption, Result, Ok, Err, IfErr, IfOk, OnErr, OnOk, if◌then◌else◌}
use Rattle.roll_frame.specs.Codes.{code_of}
use Rattle.roll_frame.specs.declared.entry.Entry.TheVariants.{Remote}
use Rattle.roll_relay.specs.Pressed.{is_pressed}
use Rattle.roll_relay.specs.Told.{are_next, roomier, told, IsHeldFault}
use Rattle.roll_relay.specs.Turns.{after_turn, due, lessened}
use Rattle.roll_relay.specs.declared.fault.HeldFault.{HeldFault}
use Rattle.roll_relay.specs.declared.fault.HeldFault.TheVariants.{OtherSession, Session}
use Rattle.roll_relay.specs.declared.held.Held.{Held}
use Rattle.roll_inputs.specs.declared.remote_word.RemoteWord.{RemoteWord}
use Rattle.roll_requests.specs.Made.{Keeps}
use Rattle.roll_session.specs.Foretold.{guess_words_refusal_of, rerun_of, words_job_of, words_refusal_of}
use Rattle.roll_session.specs.Gameless.{still}
use Rattle.roll_session.specs.Seen.{Seen}
use Rattle.fazgrond_c.specs.Handles.{network_in}
use Rattle.fazgrond_c.specs.Jobs.{IsJobAsked}
use Rattle.fazgrond_c.specs.Kinds.{entry_out}
use Rattle.fazgrond_c.specs.declared.kinds.EntryOut.{EntryOut}
use Rattle.fazgrond_c.specs.declared.live.Live.{Live}
use Rattle.fazgrond_c.specs.declared.network.Network.{Network}
use Rattle.fazgrond_c.specs.declared.open.Open.{Open}

-- words are held back for so many turns at most, and none waits
abbrev pub IsHeldFor : ℕ → Held → Type 0
IsHeldFor turns held = (held.turns ≡ turns) × ((held.words.items ≡ []) × (held.waited.items ≡ []))

-- the code of what a call of a session from which words are held back came to
abbrev pub code_of_fault : HeldFault → ℕ
code_of_fault OtherSession = 313
code_of_fault (Session why) = code_of why

abbrev pub code_if_told : {T : Type 0} → (T → ℤ) → Result T HeldFault → ℤ
code_if_told code (Ok said) = code said
code_if_told code (Err why) = pos (code_of_fault why)

-- ---- what is read

abbrev pub word_out : RemoteWord → EntryOut
word_out w = entry_out (Remote w.player w.frame w.word)

-- words are written to the front of a buffer, as many as there is room for
pub record AreListed (words : List RemoteWord) (before after : List EntryOut) (count : ℕ) : Type 0 where
  pub count_is : count ≡ min (length before) (length words)
  pub written : after ≡ map word_out (take count words) ++ drop count before

-- those that wait beside an open peer; a closed one has none
pub record AreListedBy (old new : Option Open) (before after : List EntryOut) (count : ℕ) : Type 0 where
  pub kept : new ≡ old
  pub closed : network_in old ≡ None → (count ≡ 0) × (after ≡ before)
  pub listed : IfSome (network_in old) (λ network. AreListed network.held.words.items before after count)

-- it is written how many frames a session would run again, if it were told these words; or they aren't its next ones, or none
abbrev pub IsRerunBy : Seen → List RemoteWord → (before after : ℕ) → ℤ → Type 0
IsRerunBy s words before after code = MatchOption (words_refusal_of s words)
    ((code ≡ pos 0) × (after ≡ rerun_of s words))
    (λ why. (code ≡ pos (code_of why)) × (after ≡ before))

-- the first so many that wait
abbrev pub IsRerun : ℕ → Network → Live → (before after : ℕ) → ℤ → Type 0
IsRerun count network live before after code = IsRerunBy live.session.seen (take count network.held.words.items) before after code

-- whether words wait for a session that would refuse local words in its next frame without them
abbrev pub IsPressed : Network → Live → (before after : ℕ) → ℤ → Type 0
IsPressed network live before after code =
    (code ≡ pos 0)
    × (after ≡ (if is_pressed live.session.seen network.held.words.items then 1 else 0))

-- ---- a guess of all words that wait

abbrev pub IsForetold : ℕ → (old new : Network) → (before after : Live) → (had wrote : ℕ) → ℤ → Type 0
IsForetold until old new before after had wrote code =
    let words = old.held.words.items in
    (new ≡ old)
    × IsJobAsked (guess_words_refusal_of before.session.seen words until)
    (words_job_of still before.session.seen words until) before after had wrote code

-- ---- handing over

-- a session is told the first so many words that wait, and the others go on waiting; or nothing is changed
pub record AreToldFirst (count : ℕ) (old new : Held) (before after : Live) (code : ℤ) : Type 0 where
  pub result : Result Unit HeldFault
  pub handed : OnOk result (after.session.seen
      ≡ told (roomier (length old.words.items) before.session.seen) (take count old.words.items))
  pub left : OnOk result (new.words.items ≡ drop count old.words.items)
  pub waited : OnOk result (new.waited.items ≡ lessened (min count (length old.words.items)) old.waited.items)
  pub accepted : OnOk result (are_next before.session.seen old.words.items ≡ true)
  pub refused : IfErr result (IsHeldFault before.session.seen old.words.items)
  pub unchanged : OnErr result ((new ≡ old) × (after ≡ before))
  pub turns : new.turns ≡ old.turns
  pub rest : after ≡ record before { session = after.session }
  pub keeps : Keeps before.session after.session
  pub code_is : code ≡ code_if_told (λ done. pos 0) result

abbrev pub AreHandedFirst : ℕ → (old new : Network) → (before after : Live) → ℤ → Type 0
AreHandedFirst count old new before after code =
    (new ≡ record old { held = new.held }) × AreToldFirst count old.held new.held before after code

-- the number of words that were handed over is written
abbrev pub count_in : Result ℕ HeldFault → ℕ → ℕ
count_in (Ok count) before = count
count_in (Err why) before = before

-- a turn is over: a session is told the words that have waited for as many turns as they may; or nothing is changed
pub record AreToldDue (old new : Held) (before after : Live) (had wrote : ℕ) (code : ℤ) : Type 0 where
  pub result : Result ℕ HeldFault
  pub are_due : IfOk result (λ count. count ≡ min (length old.words.items)
      (due old.turns (after_turn (length old.words.items) old.waited.items)))
  pub handed : IfOk result (λ count. after.session.seen
      ≡ told (roomier (length old.words.items) before.session.seen) (take count old.words.items))
  pub left : IfOk result (λ count. new.words.items ≡ drop count old.words.items)
  pub waited : IfOk result (λ count. new.waited.items
      ≡ lessened count (after_turn (length old.words.items) old.waited.items))
  pub refused : IfErr result (IsHeldFault before.session.seen old.words.items)
  pub unchanged : OnErr result ((new ≡ old) × (after ≡ before))
  pub turns : new.turns ≡ old.turns
  pub rest : after ≡ record before { session = after.session }
  pub keeps : Keeps before.session after.session
  pub code_is : code ≡ code_if_told (λ count. pos 0) result
  pub written : wrote ≡ count_in result had

abbrev pub AreHandedDue : (old new : Network) → (before after : Live) → (had wrote : ℕ) → ℤ → Type 0
AreHandedDue old new before after had wrote code =
    (new ≡ record old { held = new.held }) × AreToldDue old.held new.held before after had wrote code
