-- No word waits for more turns than it may.
use Rattle.std.proofs.Common.{◌≡◌, ◌∙◌, ◌⊎◌, ℕ, zero, suc, ◌+◌, ◌-◌, ◌<◌, ◌≤◌, List, [], ◌∷◌, cond, length, get_or, take, drop, min, refl, ap, sym, subst, arith, inl, inr, length-append}
use Rattle.std.specs.Prelude.{count_by, slice_index_or}
use Rattle.std.specs.List.{fold, Contains}
use Rattle.std.proofs.Math.ListN.{get_or-map}
use Rattle.std.proofs.lemmas.Bool.{cases_lt}
use Rattle.std.proofs.lemmas.List.{get_or-drop, get_or-take, length-drop, length-take, take_all, take-append-le}
use Rattle.roll_frame.specs.declared.entry.Entry.{Entry}
use Rattle.roll_frame.specs.declared.entry.Entry.TheVariants.{Remote}
use Rattle.roll_inputs.specs.declared.remote_word.RemoteWord.{RemoteWord}
use Rattle.roll_session.specs.Seen.{Seen}
use Rattle.roll_relay.specs.Passing.{due_then, is_turn, waited_then, AreDone, Deed, Does, HandsOver, Moment, NoWordWaitsLonger, Hand, Other, Turn}
use Rattle.roll_relay.specs.Told.{roomier}
use Rattle.roll_relay.specs.Turns.{lessened}
use Rattle.roll_relay.specs.Waits.{AreTold, StillWait, WasTold}
use Rattle.roll_relay.proofs.Waiting.{log_stays, words_told}
use Rattle.roll_relay.specs.declared.held.TheConstants.{TURN_LIMIT}

-- ---- lists

in_front : (n : ℕ) (words : List RemoteWord) (w : RemoteWord) → Contains (take n words) w → Contains words w
in_front n words w there =
    let low : there.0 < min n (length words) = subst (λ (m : ℕ). there.0 < m) (length-take n words) there.1 in
    (there.0, omega (arith, low), sym (get_or-take n words there.0 w (omega (arith, low))) ∙ there.2)

parted : (n c : ℕ) (words : List RemoteWord) (w : RemoteWord) → Contains (take n words) w
    → Contains (take c words) w ⊎ Contains (take (n - c) (drop c words)) w
parted n c words w there = go (cases_lt there.0 c)
  where
    low : there.0 < min n (length words)
    low = subst (λ (m : ℕ). there.0 < m) (length-take n words) there.1

    is : get_or words there.0 w ≡ w
    is = sym (get_or-take n words there.0 w (omega (arith, low))) ∙ there.2

    go : (there.0 < c) ⊎ (c ≤ there.0) → Contains (take c words) w ⊎ Contains (take (n - c) (drop c words)) w
    go (inl l) =
        inl (
          there.0,
          subst (λ (m : ℕ). there.0 < m) (sym (length-take c words)) (omega (arith, l, low)),
          get_or-take c words there.0 w l ∙ is,
        )
    go (inr g) =
        let back : c + (there.0 - c) ≡ there.0 = omega (arith, g) in
        inr (
          there.0 - c,
          subst (λ (m : ℕ). there.0 - c < m)
              (sym (length-take (n - c) (drop c words) ∙ ap (min (n - c)) (length-drop c words))) (omega (arith, g, low)),
          get_or-take (n - c) (drop c words) (there.0 - c) w (omega (arith, g, low))
              ∙ get_or-drop c words (there.0 - c) w ∙ ap (λ (k : ℕ). get_or words k w) back ∙ is,
        )

at_lessened : (c : ℕ) (waited : List ℕ) (k : ℕ) → get_or (lessened c waited) k 0 ≡ get_or waited k 0 - c
at_lessened c waited k =
    let none : 0 - c ≡ 0 = omega arith in
    subst (λ (d : ℕ). get_or (lessened c waited) k d ≡ get_or waited k 0 - c) none (get_or-map (λ (n : ℕ). n - c) waited k 0)

count_from : (n : ℕ) (deeds : List Deed)
    → fold (λ (a : ℕ) (x : Deed). a + cond (is_turn x) 1 0) n deeds ≡ n + count_by is_turn deeds
count_from n [] = omega arith
count_from n (deed ∷ deeds) =
    omega (arith, count_from (n + cond (is_turn deed) 1 0) deeds, count_from (0 + cond (is_turn deed) 1 0) deeds)

one_turn : (deeds : List Deed) → count_by is_turn (Turn ∷ deeds) ≡ 1 + count_by is_turn deeds
one_turn deeds = count_from 1 deeds

-- ---- what was told stays told

hands_log : (count : ℕ) (waited : List ℕ) (a b : Moment) → HandsOver count waited a b → (entry : Entry)
    → Contains a.seen.log entry → Contains b.seen.log entry
hands_log count waited a b it entry there =
    subst (λ (log : List Entry). Contains log entry) (sym (ap (λ (s : Seen). s.log) it.told_are))
    (log_stays (roomier (length a.held.words.items) a.seen) (take count a.held.words.items) entry there)

keeps : (deed : Deed) (a b : Moment) → Does deed a b → (entry : Entry) → Contains a.seen.log entry → Contains b.seen.log entry
keeps Turn a b it entry there = hands_log (due_then a.held) (waited_then a.held) a b it entry there
keeps (Hand count) a b it entry there =
    hands_log (min count (length a.held.words.items)) a.held.waited.items a b it entry there
keeps Other a b it entry there = it.log entry there

same_turns : (deed : Deed) (a b : Moment) → Does deed a b → b.held.turns ≡ a.held.turns
same_turns Turn a b it = it.turns_are
same_turns (Hand count) a b it = it.turns_are
same_turns Other a b it = it.turns_are

module _ (first : List RemoteWord) where
  abbrev AllTold : Moment → Type 0
  AllTold m = (w : RemoteWord) → Contains first w → WasTold m.seen w

  all_on : (deeds : List Deed) (a b : Moment) → AreDone deeds a b → AllTold a → AllTold b
  all_on [] a b is all w there = subst (λ (m : Moment). WasTold m.seen w) (sym is) (all w there)
  all_on (deed ∷ deeds) a b it all w there =
      all_on deeds it.0 b it.2 (λ v is_in. keeps deed a it.0 it.1 (Remote v.player v.frame v.word) (all v is_in)) w there

  -- those of them that weren't told are among the first so many that wait
  abbrev Behind : (count : ℕ) → Moment → Type 0
  Behind count m = (w : RemoteWord) → Contains first w → WasTold m.seen w ⊎ Contains (take count m.held.words.items) w

  -- so it is after some turns, and those have waited for as many
  record Left (turns : ℕ) (m : Moment) : Type 0 where
    count : ℕ
    few : count ≤ length m.held.words.items
    since : (k : ℕ) → turns ≡ k + 1 → count ≤ slice_index_or m.held.waited.items k 0
    each : Behind count m

  behind_on : (c : ℕ) (waited : List ℕ) (a b : Moment) → HandsOver c waited a b → (n : ℕ) → Behind n a → Behind (n - c) b
  behind_on c waited a b it n each w there = go (each w there)
    where
      sooner : Contains (take c a.held.words.items) w ⊎ Contains (take (n - c) (drop c a.held.words.items)) w
          → WasTold b.seen w ⊎ Contains (take (n - c) b.held.words.items) w
      sooner (inl front) =
          inl (subst (λ (log : List Entry). Contains log (Remote w.player w.frame w.word)) (sym (ap (λ (s : Seen). s.log) it.told_are))
          (words_told (roomier (length a.held.words.items) a.seen) (take c a.held.words.items) w front))
      sooner (inr behind) =
          inr (subst (λ (ws : List RemoteWord). Contains (take (n - c) ws) w) (sym it.rest) behind)

      go : WasTold a.seen w ⊎ Contains (take n a.held.words.items) w
          → WasTold b.seen w ⊎ Contains (take (n - c) b.held.words.items) w
      go (inl told) = inl (hands_log c waited a b it (Remote w.player w.frame w.word) told)
      go (inr waits) = sooner (parted n c a.held.words.items w waits)

  handed : (c : ℕ) (waited : List ℕ) (turns : ℕ) (a b : Moment) → HandsOver c waited a b → (n : ℕ)
      → n ≤ length a.held.words.items → Behind n a
      → ((k : ℕ) → turns ≡ k + 1 → n ≤ slice_index_or waited k 0) → Left turns b
  handed c waited turns a b it n few each since = record {
    count = n - c;
    few = omega (arith, few, ap (λ (ws : List RemoteWord). length ws) it.rest, length-drop c a.held.words.items);
    since = λ k e. omega (arith, since k e, ap (λ (ns : List ℕ). get_or ns k 0) it.waited_is, at_lessened c waited k);
    each = behind_on c waited a b it n each;
  }

  -- ---- anything else

  others : (turns : ℕ) (a b : Moment) → Does Other a b → Left turns a → Left turns b
  others turns a b it l = go it.which
    where
      stays : (w : RemoteWord) → WasTold a.seen w → WasTold b.seen w
      stays w told = it.log (Remote w.player w.frame w.word) told

      go : StillWait a.held b.held ⊎ AreTold b.seen a.held b.held → Left turns b
      go (inl still) = record {
        count = l.count;
        few = omega (arith, l.few, ap (λ (ws : List RemoteWord). length ws) still.words_are, length-append a.held.words.items still.later);
        since = λ k e. omega (arith, l.since k e, ap (λ (ns : List ℕ). get_or ns k 0) still.waited_is);
        each = λ w there. on w (l.each w there);
      }
        where
          same : take l.count b.held.words.items ≡ take l.count a.held.words.items
          same = ap (take l.count) still.words_are ∙ take-append-le l.count a.held.words.items still.later l.few

          on : (w : RemoteWord) → WasTold a.seen w ⊎ Contains (take l.count a.held.words.items) w
              → WasTold b.seen w ⊎ Contains (take l.count b.held.words.items) w
          on w (inl told) = inl (stays w told)
          on w (inr waits) = inr (subst (λ (ws : List RemoteWord). Contains ws w) (sym same) waits)
      go (inr all) = record {
        count = 0;
        few = omega arith;
        since = λ k e. omega arith;
        each = λ w there. on w (l.each w there);
      }
        where
          on : (w : RemoteWord) → WasTold a.seen w ⊎ Contains (take l.count a.held.words.items) w
              → WasTold b.seen w ⊎ Contains (take 0 b.held.words.items) w
          on w (inl told) = inl (stays w told)
          on w (inr waits) = inl (all.all_told w (in_front l.count a.held.words.items w waits))

  -- ---- a turn

  older : (turns : ℕ) (a : Moment) → turns < TURN_LIMIT → (l : Left turns a) → (k : ℕ) → turns + 1 ≡ k + 1
      → l.count ≤ slice_index_or (waited_then a.held) k 0
  older turns a low l zero e = l.few
  older turns a low l (suc k) e =
      omega (
        arith,
        l.since k (omega (arith, e)),
        get_or-take (TURN_LIMIT - 1) a.held.waited.items k 0 (omega (arith, low, e)),
      )

  one_more : (turns : ℕ) (a b : Moment) → turns < TURN_LIMIT → Does Turn a b → Left turns a → Left (turns + 1) b
  one_more turns a b low it l =
      handed (due_then a.held) (waited_then a.held) (turns + 1) a b it l.count l.few l.each (older turns a low l)

  last : (turns : ℕ) (a b : Moment) → turns < TURN_LIMIT → a.held.turns ≡ turns + 1 → Does Turn a b → Left turns a → AllTold b
  last turns a b low is it l w there =
      go (behind_on (due_then a.held) (waited_then a.held) a b it l.count l.each w there)
    where
      place : a.held.turns - 1 ≡ turns
      place = omega (arith, is)

      enough : l.count ≤ slice_index_or (waited_then a.held) (a.held.turns - 1) 0
      enough = subst (λ (k : ℕ). l.count ≤ slice_index_or (waited_then a.held) k 0) (sym place) (older turns a low l turns refl)

      none : l.count - due_then a.held ≡ 0
      none = omega (arith, enough, l.few)

      go : WasTold b.seen w ⊎ Contains (take (l.count - due_then a.held) b.held.words.items) w → WasTold b.seen w
      go (inl told) = told
      go (inr waits) =
          let low : waits.0 < min (l.count - due_then a.held) (length b.held.words.items) =
          subst (λ (m : ℕ). waits.0 < m) (length-take (l.count - due_then a.held) b.held.words.items) waits.1 in
          absurd (omega (arith, low, none))

  -- ---- one after another

  passes : (deeds : List Deed) (a c : Moment) (done turns : ℕ) → a.held.turns ≡ turns → turns ≤ TURN_LIMIT → AreDone deeds a c
      → Left done a → done < turns → turns ≤ done + count_by is_turn deeds → AllTold c
  passes [] a c done turns are most it l low enough = absurd (omega (arith, low, enough))
  passes (Other ∷ deeds) a c done turns are most it l low enough =
      passes deeds it.0 c done turns (same_turns Other a it.0 it.1 ∙ are) most it.2 (others done a it.0 it.1 l) low enough
  passes (Hand count ∷ deeds) a c done turns are most it l low enough =
      passes deeds it.0 c done turns (same_turns (Hand count) a it.0 it.1 ∙ are) most it.2
      (handed (min count (length a.held.words.items)) a.held.waited.items done a it.0 it.1 l.count l.few l.each l.since) low enough
  passes (Turn ∷ deeds) a c done turns are most it l low enough =
      go (λ before. passes deeds it.0 c (done + 1) turns (same_turns Turn a it.0 it.1 ∙ are) most it.2
      (one_more done a it.0 (omega (arith, low, most)) it.1 l) before (omega (arith, enough, one_turn deeds)))
      (cases_lt (done + 1) turns)
    where
      go : (done + 1 < turns → AllTold c) → (done + 1 < turns) ⊎ (turns ≤ done + 1) → AllTold c
      go on (inl before) = on before
      go on (inr due) =
          all_on deeds it.0 c it.2
          (last done a it.0 (omega (arith, low, most)) (are ∙ omega (arith, low, due)) it.1 l)

pub no_word_waits_longer : NoWordWaitsLonger
no_word_waits_longer deeds old new least most it enough =
    passes old.held.words.items deeds old new 0 old.held.turns refl most it begins (omega (arith, least)) (omega (arith, enough))
  where
    begins : Left old.held.words.items 0 old
    begins = record {
      count = length old.held.words.items;
      few = omega arith;
      since = λ k e. absurd (omega (arith, e));
      each = λ w there. inr (subst (λ (ws : List RemoteWord). Contains ws w)
          (sym (take_all (length old.held.words.items) old.held.words.items (omega arith))) there);
    }
