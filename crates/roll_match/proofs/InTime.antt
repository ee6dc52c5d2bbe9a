-- No input waits for more turns than it may.
use Rattle.std.proofs.Common.{◌≡◌, ◌∙◌, ◌⊎◌, ℕ, zero, suc, ◌+◌, ◌<◌, ◌≤◌, ◌/◌, ◌%◌, List, [], ◌∷◌, ◌++◌, Bool, true, false, cond, Option, Some, None, Result, Ok, Err, length, take, drop, min, ap, refl, sym, subst, inl, inr, arith}
use Rattle.std.specs.Prelude.{◌==◌, count_by, MatchOption}
use Rattle.std.specs.List.{fold, list_any, Contains}
use Rattle.std.proofs.lemmas.Bool.{cases_Bool, false≢true, or_cases, or_parts}
use Rattle.std.proofs.lemmas.List.{drop_all, take-append-drop, take_all}
use Rattle.std.proofs.lemmas.List.Elements.{Contains-append_cases, Contains-append_left}
use Rattle.roll_carry.specs.Carrying.{Carrying}
use Rattle.roll_frame.specs.declared.entry.Entry.{Entry}
use Rattle.roll_frame.specs.declared.entry.Entry.TheVariants.{Remote}
use Rattle.roll_relay.proofs.Passing.{no_word_waits_longer}
use Rattle.roll_relay.proofs.Waiting.{log_stays, words_told}
use Rattle.roll_relay.specs.Passing.{due_then, is_turn as is_turn_of_words, waited_then, AreDone, Deed, Does, HandsOver, Moment, Hand, Other, Turn}
use Rattle.roll_relay.specs.Told.{roomier, told}
use Rattle.roll_relay.specs.Turns.{lessened}
use Rattle.roll_relay.specs.Waits.{wait_on, AreTold, StillWait, Waits, WasTold}
use Rattle.roll_relay.specs.declared.fault.HeldFault.{HeldFault}
use Rattle.roll_relay.specs.declared.held.Held.{Held}
use Rattle.roll_chain.specs.declared.seam_refusal.SeamRefusal.{SeamRefusal}
use Rattle.roll_inputs.specs.declared.remote_word.RemoteWord.{RemoteWord}
use Rattle.roll_peer.specs.declared.refusal.OtherSession.{OtherSession}
use Rattle.roll_peer.specs.declared.refusal.PeerRefusal.{PeerRefusal}
use Rattle.roll_session.specs.Seen.{Seen, Step}
use Rattle.roll_wire.specs.declared.datagram.Mark.{Mark}
use Rattle.roll_match.specs.GoingOut.{Gives, GoesOut, IsBeside, IsBesideThen, LeavesFor, PlaysTo, SendsAt, SendsAtPlace, Skips}
use Rattle.roll_match.specs.InTime.{after_call, ends, is_turn, session_after, AreMade, Both, Call, Makes, NoInputWaitsLonger, Another, GivesNext, HandsOver as HandsSome, PutsMark, Receives, TakesTurn}
use Rattle.roll_match.specs.Telling.{Marks, MarksAfter, MarksTold}
use Rattle.roll_match.specs.Turning.{Begins, Closes, Goes, GoesOver, Stays, TellsAll, TellsDue, TellsFirst, Turns}
use Rattle.roll_match.specs.declared.going_out.TheConstants.{PLACES}
use Rattle.roll_match.specs.declared.one.Match.{Match}
use Rattle.roll_match.specs.declared.unheard.Unmarked.{Unmarked}
use Rattle.roll_match.specs.declared.unheard.Unmarked.TheVariants.{Void, Refused, Held as NoRoom}

-- ---- counts

counted : {X : Type 0} (p : X → Bool) (n : ℕ) (xs : List X) → fold (λ (a : ℕ) (x : X). a + cond (p x) 1 0) n xs ≡ n + count_by p xs
counted p n [] = omega arith
counted p n (x ∷ xs) = omega (arith, counted p (n + cond (p x) 1 0) xs, counted p (0 + cond (p x) 1 0) xs)

count_first : {X : Type 0} (p : X → Bool) (x : X) (xs : List X) → count_by p (x ∷ xs) ≡ cond (p x) 1 0 + count_by p xs
count_first p x xs = omega (arith, counted p (0 + cond (p x) 1 0) xs)

count_both : {X : Type 0} (p : X → Bool) (xs ys : List X) → count_by p (xs ++ ys) ≡ count_by p xs + count_by p ys
count_both p [] ys = omega arith
count_both p (x ∷ xs) ys = omega (arith, count_both p xs ys, count_first p x (xs ++ ys), count_first p x xs)

-- ---- what is done beside words that wait

-- so many turns were, and anything else
record Passed (turns : ℕ) (old new : Moment) : Type 0 where
  deeds : List Deed
  done : AreDone deeds old new
  count : count_by is_turn_of_words deeds ≡ turns

none : (a b : Moment) → b ≡ a → Passed 0 a b
none a b same = record { deeds = []; done = same; count = refl }

one : (deed : Deed) (a b : Moment) → Does deed a b → Passed (cond (is_turn_of_words deed) 1 0) a b
one deed a b does = record { deeds = deed ∷ []; done = (b, does, refl); count = omega (arith, count_first is_turn_of_words deed []) }

joined : (first more : List Deed) (a b c : Moment) → AreDone first a b → AreDone more b c → AreDone (first ++ more) a c
joined [] more a b c same done = subst (λ (m : Moment). AreDone more m c) same done
joined (deed ∷ first) more a b c it done = (it.0, it.1, joined first more it.0 b c it.2 done)

both : (m n all : ℕ) (a b c : Moment) → all ≡ m + n → Passed m a b → Passed n b c → Passed all a c
both m n all a b c sum first more = record {
  deeds = first.deeds ++ more.deeds;
  done = joined first.deeds more.deeds a b c first.done more.done;
  count = omega (arith, sum, count_both is_turn_of_words first.deeds more.deeds, first.count, more.count);
}

-- a word was told, or waits
abbrev IsThere : RemoteWord → Moment → Type 0
IsThere w m = WasTold m.seen w ⊎ Contains m.held.words.items w

handed : (count : ℕ) (waited : List ℕ) (a b : Moment) → HandsOver count waited a b → (w : RemoteWord) → IsThere w a → IsThere w b
handed count waited a b it w there = go there
  where
    words : List RemoteWord
    words = a.held.words.items

    entry : Entry
    entry = Remote w.player w.frame w.word

    roomy : Seen
    roomy = roomier (length words) a.seen

    told_now : Contains (told roomy (take count words)).log entry → WasTold b.seen w
    told_now is_told = subst (λ (log : List Entry). Contains log entry) (sym (ap (λ (s : Seen). s.log) it.told_are)) is_told

    sooner : Contains (take count words) w ⊎ Contains (drop count words) w → IsThere w b
    sooner (inl front) = inl (told_now (words_told roomy (take count words) w front))
    sooner (inr behind) = inr (subst (λ (ws : List RemoteWord). Contains ws w) (sym it.rest) behind)

    go : IsThere w a → IsThere w b
    go (inl is_told) = inl (told_now (log_stays roomy (take count words) entry is_told))
    go (inr waits) =
        sooner (Contains-append_cases (take count words) (drop count words) w
        (subst (λ (ws : List RemoteWord). Contains ws w) (sym (take-append-drop count words)) waits))

waited : (a b : Moment) → Waits a.seen b.seen a.held b.held → (w : RemoteWord) → IsThere w a → IsThere w b
waited a b it w (inl is_told) = inl (it.log (Remote w.player w.frame w.word) is_told)
waited a b it w (inr waits) = go it.which
  where
    go : StillWait a.held b.held ⊎ AreTold b.seen a.held b.held → IsThere w b
    go (inl still) =
        inr (subst (λ (ws : List RemoteWord). Contains ws w) (sym still.words_are) (Contains-append_left a.held.words.items still.later w waits))
    go (inr all) = inl (all.all_told w waits)

does_keep : (deed : Deed) (a b : Moment) → Does deed a b → (w : RemoteWord) → IsThere w a → IsThere w b
does_keep Turn a b it w there = handed (due_then a.held) (waited_then a.held) a b it w there
does_keep (Hand count) a b it w there = handed (min count (length a.held.words.items)) a.held.waited.items a b it w there
does_keep Other a b it w there = waited a b it w there

done_keep : (deeds : List Deed) (a b : Moment) → AreDone deeds a b → (w : RemoteWord) → IsThere w a → IsThere w b
done_keep [] a b same w there = subst (IsThere w) (sym same) there
done_keep (deed ∷ deeds) a b it w there = done_keep deeds it.0 b it.2 w (does_keep deed a it.0 it.1 w there)

-- ---- what goes out

module _ {S P E L : Type 0} (seen : P → Seen) where
  abbrev Quiet : (before after : Seen) → (old new : Match S P E L) → Type 0
  Quiet before after old new = (after.log ≡ before.log) × (new.held ≡ old.held)

  quiet : (before after : Seen) (old new : Match S P E L) → after.log ≡ before.log → new.held ≡ old.held → Quiet before after old new
  quiet before after old new log held = (log, held)

  gives : (machine : ℕ) (before after : Seen) (old new : Match S P E L) (said : Result (Result (Option (List ℕ)) OtherSession) HeldFault)
      → Gives machine before after old new said → Quiet before after old new
  gives machine before after old new (Ok said) it = (ap (λ (s : Seen). s.log) it.2, ap (λ (m : Match S P E L). m.held) it.1)
  gives machine before after old new (Err why) it = (ap (λ (s : Seen). s.log) it.2, ap (λ (m : Match S P E L). m.held) it.1)

  here : (machine : ℕ) (before after : Seen) (old new : Match S P E L) (sent : Option (List ℕ)) (leaving : Option ℕ)
      → MatchOption leaving (PlaysTo machine before after old new sent) (λ why. LeavesFor machine why before after old new sent)
      → Quiet before after old new
  here machine before after old new sent None it = gives machine before after old new it.said it.gives
  here machine before after old new sent (Some why) it = (ap (λ (s : Seen). s.log) it.session, ap (λ (m : Match S P E L). m.held) it.rest)

  at_place : (is_here : Bool) (machine : ℕ) (before after : Seen) (old new : Match S P E L) (sent : Option (List ℕ))
      → SendsAtPlace is_here seen machine before after old new sent → Quiet before after old new
  at_place true machine before after old new sent it = here machine before after old new sent old.leaving it
  at_place false machine before after old new sent it = (ap (λ (s : Seen). s.log) it.1, ap (λ (m : Match S P E L). m.held) it.0.rest)

  sends : (place : ℕ) (before after : Seen) (old new : Match S P E L) (sent : Option (List ℕ)) → SendsAt seen place before after old new sent
      → Quiet before after old new
  sends place before after old new sent it =
      at_place (place % 2 == 0) (place / 2) before after (record old { gone_out = place + 1 }) new sent it

  skips : (from count : ℕ) (before after : Seen) (old new : Match S P E L) → Skips seen from count before after old new
      → Quiet before after old new
  skips from zero before after old new it = (ap (λ (s : Seen). s.log) it.1, ap (λ (m : Match S P E L). m.held) it.0)
  skips from (suc n) before after old new it =
      let first = skips from n before it.1 old it.0 it.2 in
      let last = sends (from + n) it.1 after it.0 new None it.3 in
      (last.0 ∙ first.0, last.1 ∙ first.1)

  beside : (old new : Match S P E L) (relay : Carrying) (first said : Option (ℕ × List ℕ)) → IsBesideThen old new relay first said
      → new.held ≡ old.held
  beside old new relay (Some first) said it = ap (λ (m : Match S P E L). m.held) it.1
  beside old new relay None said it = ap (λ (m : Match S P E L). m.held) it.1

  goes_out : (before after : Seen) (old new : Match S P E L) (said : Option (ℕ × List ℕ)) → GoesOut seen before after old new said
      → Quiet before after old new
  goes_out before after old new said it = (last.0 ∙ first.0, last.1 ∙ first.1)
    where
      first : Quiet before it.middle old it.between
      first = skips old.gone_out it.count before it.middle old it.between it.skips

      go : ((old.gone_out + it.count < PLACES)
          × ((bytes : List ℕ) × SendsAt seen (old.gone_out + it.count) it.middle after it.between new (Some bytes)
          × (said ≡ Some ((old.gone_out + it.count) / 2, bytes))))
          ⊎ ((PLACES ≤ old.gone_out + it.count) × (after ≡ it.middle) × IsBeside it.between new said)
          → Quiet it.middle after it.between new
      go (inl sent) = sends (old.gone_out + it.count) it.middle after it.between new (Some sent.1.0) sent.1.1
      go (inr rest) = (ap (λ (s : Seen). s.log) rest.1, beside it.between new rest.2.relay rest.2.first said rest.2.then_is)

      last : Quiet it.middle after it.between new
      last = go it.then_is

-- ---- what each call does to what waits

-- a turn counts in which no error is answered
abbrev went_well : Result ℕ HeldFault → ℕ
went_well (Ok count) = 1
went_well (Err why) = 0

counts_so : {L : Type 0} (now : ℕ) (polled : Result (Result Unit PeerRefusal) HeldFault) (said : Result ℕ HeldFault) (last : Option L)
    (why : Option SeamRefusal)
    → went_well said ≡ cond (is_turn (TakesTurn now polled said last why)) 1 0
counts_so now polled (Ok count) last why = refl
counts_so now polled (Err fault) last why = refl

module _ {S P E L : Type 0} (step past : Step) (seen : S → Seen) (past_seen : P → Seen) (goes : Goes S P L) (stays : Stays S P) where
  abbrev moment : S → Match S P E L → Moment
  moment s it = record { seen = seen s; held = it.held }

  -- nothing is changed of the session, nor of what waits
  same : (s t : S) (old new : Match S P E L) → t ≡ s → new.held ≡ old.held → Passed 0 (moment s old) (moment t new)
  same s t old new session held = none (moment s old) (moment t new) (λ k. record { seen = seen (session k); held = held k })

  -- it is as if another match had been changed, from which no more waits
  held_as : (n : ℕ) (s t : S) (old mid new : Match S P E L) → new.held ≡ mid.held → Passed n (moment s old) (moment t mid) → Passed n (moment s old) (moment t new)
  held_as n s t old mid new held passed = subst (λ (h : Held). Passed n (moment s old) (record { seen = seen t; held = h })) (sym held) passed

  tells_all : (s t : S) (old new : Match S P E L) → TellsAll seen s t old new (Ok tt) → Passed 0 (moment s old) (moment t new)
  tells_all s t old new it = one (Hand (length words)) (moment s old) (moment t new) (record {
    told_are = it.0 ∙ ap (told (roomier (length words) (seen s))) (sym (take_all count words most));
    rest = it.1 ∙ sym (drop_all count words most);
    waited_is = it.2 ∙ ap (λ (n : ℕ). lessened n old.held.waited.items) (sym all);
    turns_are = it.3;
  })
    where
      words : List RemoteWord
      words = old.held.words.items

      count : ℕ
      count = min (length words) (length words)

      all : count ≡ length words
      all = omega arith

      most : length words ≤ count
      most = omega arith

  begins : (now : ℕ) (s t : S) (old new : Match S P E L) (said : _) → Begins seen now s t old new said → Passed 0 (moment s old) (moment t new)
  begins now s t old new said it =
      held_as 0 s t old it.polled new (ap (λ (m : Match S P E L). m.held) it.rest) (one Other (moment s old) (moment t it.polled) it.waits)

  tells_due : (s t : S) (old new : Match S P E L) (said : Result ℕ HeldFault) → TellsDue seen s t old new said
      → Passed (went_well said) (moment s old) (moment t new)
  tells_due s t old new (Ok count) it = one Turn (moment s old) (moment t new) it.1
  tells_due s t old new (Err why) it = same s t old new it.1 (ap (λ (m : Match S P E L). m.held) it.2)

  closes : (is_closed : Bool) (s t : S) (old new : Match S P E L) → Closes seen s t old new is_closed → Passed 0 (moment s old) (moment t new)
  closes true s t old new it = tells_all s t old new it.1
  closes false s t old new it = same s t old new it.0 (ap (λ (m : Match S P E L). m.held) it.1)

  stays_here : (is_closed : Bool) (s t : S) (old new : Match S P E L) (why : Option SeamRefusal) → GoesOver goes stays s t old new is_closed None why
      → Passed 0 (moment s old) (moment t new)
  stays_here true s t old new why it = same s t old new it.0.2 (ap (λ (m : Match S P E L). m.held) it.1)
  stays_here false s t old new why it = same s t old new it.0 (ap (λ (m : Match S P E L). m.held) it.1)

  marks_after : (player : ℕ) (mark : Mark) (s t : S) (old new : Match S P E L) (said : Result ℕ Unmarked)
      → MarksAfter seen player mark s t old new said → Passed 0 (moment s old) (moment t new)
  marks_after player mark s t old new said it = held_as 0 s t old it.told_all new (go said it.marks) (tells_all s t old it.told_all it.tells)
    where
      go : (said : Result ℕ Unmarked) → MarksTold (seen t) player mark it.told_all new said → new.held ≡ it.told_all.held
      go (Ok frame) marks = ap (λ (m : Match S P E L). m.held) marks.2
      go (Err (Refused why)) marks = ap (λ (m : Match S P E L). m.held) marks.1
      go (Err (Void why)) marks = absurd marks
      go (Err (NoRoom why)) marks = absurd marks

  marks : (player : ℕ) (mark : Mark) (s t : S) (old new : Match S P E L) (said : Result ℕ Unmarked)
      → Marks seen player mark s t old new said → Passed 0 (moment s old) (moment t new)
  marks player mark s t old new (Ok frame) it = marks_after player mark s t old new (Ok frame) it
  marks player mark s t old new (Err (Void why)) it = same s t old new it.1 (ap (λ (m : Match S P E L). m.held) it.2)
  marks player mark s t old new (Err (Refused why)) it = marks_after player mark s t old new (Err (Refused why)) it
  marks player mark s t old new (Err (NoRoom why)) it = same s t old new it.1.1 (ap (λ (m : Match S P E L). m.held) it.1.2)

  tells_first : (count : ℕ) (s t : S) (old new : Match S P E L) (said : Result Unit HeldFault) → TellsFirst seen count s t old new said
      → Passed 0 (moment s old) (moment t new)
  tells_first count s t old new (Ok done) it = one (Hand count) (moment s old) (moment t new) it.1
  tells_first count s t old new (Err why) it = same s t old new it.1 (ap (λ (m : Match S P E L). m.held) it.2)

  -- anything whose session keeps its log
  others : (s t : S) (old new : Match S P E L) → ((entry : Entry) → Contains (seen s).log entry → Contains (seen t).log entry)
      → new.held ≡ old.held → Passed 0 (moment s old) (moment t new)
  others s t old new log held = held_as 0 s t old old new held (one Other (moment s old) (moment t old) (wait_on (seen s) (seen t) old.held log))

  -- a turn as far as the session is told what is due
  due : (now : ℕ) (s t : S) (old new : Match S P E L) (polled : _) (handed : Result ℕ HeldFault) (last : Option L) (why : Option SeamRefusal)
      → (it : Turns seen goes stays now s t old new polled handed last why) → Passed (went_well handed) (moment s old) (moment it.told_due it.due)
  due now s t old new polled handed last why it =
      both 0 (went_well handed) (went_well handed) (moment s old) (moment it.heard it.begun) (moment it.told_due it.due) (omega arith)
      (begins now s it.heard old it.begun polled it.begins) (tells_due it.heard it.told_due it.begun it.due handed it.tells)

  -- and to its end, in which no epoch ends
  turns : (now : ℕ) (s t : S) (old new : Match S P E L) (polled : _) (handed : Result ℕ HeldFault) (why : Option SeamRefusal)
      → Turns seen goes stays now s t old new polled handed None why → Passed (went_well handed) (moment s old) (moment t new)
  turns now s t old new polled handed why it =
      both (went_well handed) 0 (went_well handed) (moment s old) (moment it.told_due it.due) (moment t new) (omega arith)
      (due now s t old new polled handed None why it)
      (both 0 0 0 (moment it.told_due it.due) (moment it.ends.told_all it.ends.closed) (moment t new) refl
      (closes it.ends.is_closed it.told_due it.ends.told_all it.due it.ends.closed it.ends.closes)
      (stays_here it.ends.is_closed it.ends.told_all t it.ends.closed new why it.ends.goes_over))

  abbrev both_at : Both S P E L → Moment
  both_at b = moment b.session b.it

  -- each call in which no epoch ends
  call_passes : (call : Call L) (old new : Both S P E L) → ends call ≡ false → Makes E step past seen past_seen goes stays call old new
      → Passed (cond (is_turn call) 1 0) (both_at old) (both_at new)
  call_passes (Receives bytes now said) old new on it = one Other (both_at old) (both_at new) it.1
  call_passes (TakesTurn now polled handed None why) old new on it =
      subst (λ (n : ℕ). Passed n (both_at old) (both_at new)) (counts_so now polled handed None why)
      (turns now old.session new.session old.it new.it polled handed why it)
  call_passes (TakesTurn now polled handed (Some last) why) old new on it = absurd (false≢true (sym on))
  call_passes (GivesNext said) old new on it =
      let out = goes_out past_seen (seen old.session) (seen new.session) old.it new.it said it in
      others old.session new.session old.it new.it (λ entry there. subst (λ (log : List Entry). Contains log entry) (sym out.0) there) out.1
  call_passes (PutsMark player mark said) old new on it = marks player mark old.session new.session old.it new.it said it
  call_passes (HandsSome count said) old new on it = tells_first count old.session new.session old.it new.it said it
  call_passes Another old new on it = others old.session new.session old.it new.it it.1 it.0

  -- ---- where an epoch ends

  abbrev MakesIt : Call L → (old new : Both S P E L) → Type 0
  MakesIt call old new = Makes E step past seen past_seen goes stays call old new

  told_where_closed : (w : RemoteWord) (is_closed : Bool) (s t after : S) (old mid new : Match S P E L) (last : L) (why : Option SeamRefusal)
      → Closes seen s t old mid is_closed → GoesOver goes stays t after mid new is_closed (Some last) why → IsThere w (moment s old)
      → WasTold (seen t) w
  told_where_closed w true s t after old mid new last why it over there = go (done_keep p.deeds (moment s old) (moment t mid) p.done w there)
    where
      p : Passed 0 (moment s old) (moment t mid)
      p = tells_all s t old mid it.1

      empty : Contains [] w → ⊥
      empty none = omega (arith, none.1)

      go : IsThere w (moment t mid) → WasTold (seen t) w
      go (inl is_told) = is_told
      go (inr waits) = absurd (empty (subst (λ (ws : List RemoteWord). Contains ws w) it.1.1 waits))
  told_where_closed w false s t after old mid new last why it over there = absurd (none_of over.2)
    where
      none_of : Some last ≡ None → ⊥
      none_of e = cc

  told_at_end : (w : RemoteWord) (call : Call L) (old next : Both S P E L) (it : MakesIt call old next) (later : Seen) → ends call ≡ true
      → IsThere w (both_at old) → WasTold (after_call E step past seen past_seen goes stays call old next it later) w
  told_at_end w (TakesTurn now polled handed (Some last) why) old next it later ended there =
      let p = due now old.session next.session old.it next.it polled handed (Some last) why it in
      told_where_closed w it.ends.is_closed it.told_due it.ends.told_all next.session it.due it.ends.closed next.it last why it.ends.closes
      it.ends.goes_over (done_keep p.deeds (both_at old) (moment it.told_due it.due) p.done w there)
  told_at_end w (TakesTurn now polled handed None why) old next it later ended there = absurd (false≢true ended)
  told_at_end w (Receives bytes now said) old next it later ended there = absurd (false≢true ended)
  told_at_end w (GivesNext said) old next it later ended there = absurd (false≢true ended)
  told_at_end w (PutsMark player mark said) old next it later ended there = absurd (false≢true ended)
  told_at_end w (HandsSome count said) old next it later ended there = absurd (false≢true ended)
  told_at_end w Another old next it later ended there = absurd (false≢true ended)

  -- in any other call it goes on
  goes_on : (call : Call L) (old next : Both S P E L) (it : MakesIt call old next) (later : Seen) → ends call ≡ false
      → after_call E step past seen past_seen goes stays call old next it later ≡ later
  goes_on (TakesTurn now polled handed (Some last) why) old next it later on = absurd (false≢true (sym on))
  goes_on (TakesTurn now polled handed None why) old next it later on = refl
  goes_on (Receives bytes now said) old next it later on = refl
  goes_on (GivesNext said) old next it later on = refl
  goes_on (PutsMark player mark said) old next it later on = refl
  goes_on (HandsSome count said) old next it later on = refl
  goes_on Another old next it later on = refl

  abbrev AreAllMade : List (Call L) → (old new : Both S P E L) → Type 0
  AreAllMade calls old new = AreMade E step past seen past_seen goes stays calls old new

  abbrev session_of : (calls : List (Call L)) → (old new : Both S P E L) → AreAllMade calls old new → Seen
  session_of calls old new made = session_after E step past seen past_seen goes stays calls old new made

  told_by_the_end : (w : RemoteWord) (calls : List (Call L)) (old new : Both S P E L) (made : AreAllMade calls old new)
      → list_any ends calls ≡ true → IsThere w (both_at old) → WasTold (session_of calls old new made) w
  told_by_the_end w [] old new made ended there = absurd (false≢true ended)
  told_by_the_end w (call ∷ more) old new made ended there = go (told_by_the_end w more made.0 new made.2) (cases_Bool (ends call))
    where
      rest : Seen
      rest = session_of more made.0 new made.2

      go : (list_any ends more ≡ true → IsThere w (both_at made.0) → WasTold rest w) → (ends call ≡ true) ⊎ (ends call ≡ false)
          → WasTold (after_call E step past seen past_seen goes stays call old made.0 made.1 rest) w
      go behind (inl here) = told_at_end w call old made.0 made.1 rest here there
      go behind (inr on) =
          let p = call_passes call old made.0 on made.1 in
          subst (λ (s : Seen). WasTold s w) (sym (goes_on call old made.0 made.1 rest on))
          (behind (later (or_cases (ends call) (list_any ends more) ended))
          (done_keep p.deeds (both_at old) (both_at made.0) p.done w there))
        where
          later : (ends call ≡ true) ⊎ (list_any ends more ≡ true) → list_any ends more ≡ true
          later (inl here) = absurd (false≢true (sym on ∙ here))
          later (inr there) = there

  -- ---- where none does

  record Within (calls : List (Call L)) (old new : Both S P E L) (made : AreAllMade calls old new) : Type 0 where
    passed : Passed (count_by is_turn calls) (both_at old) (both_at new)
    last : session_of calls old new made ≡ seen new.session

  within : (calls : List (Call L)) (old new : Both S P E L) (made : AreAllMade calls old new) → list_any ends calls ≡ false
      → Within calls old new made
  within [] old new made on = record { passed = none (both_at old) (both_at new) (ap both_at made); last = refl }
  within (call ∷ more) old new made on =
      let parts = or_parts (ends call) (list_any ends more) on in
      let rest = within more made.0 new made.2 parts.1 in
      record {
        passed = both (cond (is_turn call) 1 0) (count_by is_turn more) (count_by is_turn (call ∷ more)) (both_at old) (both_at made.0) (both_at new)
            (count_first is_turn call more) (call_passes call old made.0 parts.0 made.1) rest.passed;
        last = goes_on call old made.0 made.1 (session_of more made.0 new made.2) parts.0 ∙ rest.last;
      }

  pub no_input_waits_longer : NoInputWaitsLonger E step past seen past_seen goes stays
  no_input_waits_longer calls old new made least most enough w there = go (cases_Bool (list_any ends calls)) enough
    where
      go : (list_any ends calls ≡ true) ⊎ (list_any ends calls ≡ false)
          → (old.it.held.turns ≤ count_by is_turn calls) ⊎ (list_any ends calls ≡ true) → WasTold (session_of calls old new made) w
      go (inl ended) many = told_by_the_end w calls old new made ended (inr there)
      go (inr on) (inr ended) = absurd (false≢true (sym on ∙ ended))
      go (inr on) (inl many) =
          let it = within calls old new made on in
          subst (λ (s : Seen). WasTold s w) (sym it.last)
          (no_word_waits_longer it.passed.deeds (both_at old) (both_at new) least most it.passed.done (omega (arith, many, it.passed.count)) w there)
