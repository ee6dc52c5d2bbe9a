-- Words that are told one after another.
use Rattle.std.proofs.Common.{◌≡◌, ◌∙◌, ◌≢◌, ◌⊎◌, ℕ, zero, suc, ◌+◌, ◌-◌, ◌<◌, ◌≤◌, List, [], ◌∷◌, ◌++◌, length, get_or, take, refl, ap, sym, subst, arith, true, false, not, Bool, cond, inl, inr, Option, Some, None, Result, Ok, Err, max, min, eqb, append-nil, append_assoc, length-append}
use Rattle.std.specs.Prelude.{OnErr, OnOk, ◌==◌, ◌&&◌, is_none, nat_le, nat_lt, slice_get, slice_index, slice_set, if◌then◌else◌}
use Rattle.std.specs.Option.{option_map, option_map_or}
use Rattle.std.proofs.lemmas.Bool.{and_parts, leb-false, cases_Bool, cases_lt, false≢true, le-leb, le-ltb, lt-leb, lt-ltb, eq-eqb, eqb-true, ltb-true, not-true}
use Rattle.std.proofs.lemmas.List.{length-take, take_all, take_more}
use Rattle.std.proofs.lemmas.Option.{get_or_from_slice_get, slice_get_within, slice_get-get_or}
use Rattle.roll_mesh.proofs.Places.{all_below}
use Rattle.roll_frame.specs.Core.{settled}
use Rattle.roll_frame.specs.Inputs.{changed, is_repeated, of_player, player_at, remote_tests, with_words}
use Rattle.roll_frame.specs.Timeline.{Player}
use Rattle.roll_frame.specs.declared.entry.Entry.TheVariants.{Remote}
use Rattle.roll_frame.specs.declared.limits.TheConstants.{LOG_LIMIT, QUEUE_LIMIT}
use Rattle.roll_frame.specs.declared.refusal.Refusal.{Refusal}
use Rattle.roll_frame.specs.declared.refusal.Refusal.TheVariants.{LogFull}
use Rattle.roll_frame.specs.declared.settings.Settings.{Settings}
use Rattle.roll_frame.proofs.Refused.{all_fail, first_refusal-behind}
use Rattle.roll_inputs.proofs.Players.{at_changed, at_other, found, of_player_at}
use Rattle.roll_inputs.specs.declared.heard.Heard.{Heard}
use Rattle.roll_inputs.specs.declared.heard.Heard.TheVariants.{Taken, Repeated}
use Rattle.roll_inputs.specs.declared.remote_word.RemoteWord.{RemoteWord}
use Rattle.roll_member.proofs.Players.{length_changed}
use Rattle.roll_member.proofs.Taking.{heard_played, settled_on}
use Rattle.roll_session.proofs.Following.{follows_more}
use Rattle.roll_session.proofs.Runs.{played_more, played_none}
use Rattle.roll_session.specs.Answered.{with_entries, IsPlayed}
use Rattle.roll_session.specs.Changes.{remote_refusal, reserve_refusal, FitsLog, IsHeard, IsRefused}
use Rattle.roll_session.specs.Seen.{plain, FollowsLog, Seen, Step}
use Rattle.roll_relay.specs.Told.{after_word, are_next, as_told, asked_words, fits, Fits, is_next, is_next_at, roomless, Takes, told, words_among}

-- ---- one after another

pub told_more : (s : Seen) (words more : List RemoteWord) → told s (words ++ more) ≡ told (told s words) more
told_more s [] more = refl
told_more s (w ∷ words) more = told_more (after_word s w) words more

nothing : (o : Option Refusal) → is_none o ≡ true → o ≡ None
nothing None e = refl
nothing (Some why) e = absurd (false≢true e)

-- the first of several is taken, and then the others
pub first_takes : (s : Seen) (w : RemoteWord) (words : List RemoteWord) → Fits s (w ∷ words)
    → Takes s w × Fits (after_word s w) words
first_takes s w words f =
    let fresh = and_parts (not (is_repeated s.core.players w.player w.frame w.word))
    (is_none (remote_refusal s w.player w.frame) && fits (after_word s w) words) f in
    let taken = and_parts (is_none (remote_refusal s w.player w.frame)) (fits (after_word s w) words) fresh.1 in (
      record {
        fresh = not-true (is_repeated s.core.players w.player w.frame w.word) fresh.0;
        taken = nothing (remote_refusal s w.player w.frame) taken.0;
      },
      taken.1,
    )

pub takes_first : (s : Seen) (w : RemoteWord) (words : List RemoteWord) → Takes s w → Fits (after_word s w) words
    → Fits s (w ∷ words)
takes_first s w words t f = rw (t.fresh, t.taken) f

pub fits_more : (s : Seen) (words more : List RemoteWord) → Fits s words → Fits (told s words) more
    → Fits s (words ++ more)
fits_more s [] more f g = g
fits_more s (w ∷ words) more f g =
    let first = first_takes s w words f in
    takes_first s w (words ++ more) first.0 (fits_more (after_word s w) words more first.1 g)

pub fits_one : (s : Seen) (w : RemoteWord) → Takes s w → Fits s (w ∷ [])
fits_one s w t = takes_first s w [] t refl

-- ---- what stays

pub record Stays (s later : Seen) (events : ℕ) : Type 0 where
  pub settings : later.settings ≡ s.settings
  pub opening : later.opening ≡ s.opening
  pub frame : later.core.frame ≡ s.core.frame
  pub logged : later.core.logged ≡ s.core.logged + events
  pub reserved : later.reserved ≡ s.reserved - events

pub told_stays : (s : Seen) (words : List RemoteWord) → Stays s (told s words) (length words)
told_stays s [] = record { settings = refl; opening = refl; frame = refl; logged = omega arith; reserved = omega arith }
told_stays s (w ∷ words) =
    let on = told_stays (after_word s w) words in record {
      settings = on.settings;
      opening = on.opening;
      frame = on.frame;
      logged = omega (arith, on.logged);
      reserved = omega (arith, on.reserved);
    }

-- ---- the players

pub with_none : (o : Option Player) → option_map (with_words []) o ≡ o
with_none None = refl
with_none (Some x) = λ i. Some (record x { words = append-nil x.words i })

with_both : (first more : List ℕ) (o : Option Player)
    → option_map (with_words more) (option_map (with_words first) o) ≡ option_map (with_words (first ++ more)) o
with_both first more None = refl
with_both first more (Some x) = λ i. Some (record x { words = append_assoc x.words first more i })

changed_none : (change : Player → Player) (players : List Player) (p : ℕ) → player_at players p ≡ None
    → changed change players p ≡ players
changed_none change players p e =
    ap (λ o. option_map_or (λ player. slice_set players (p - 1) (change player)) o players) e

module _ (players : List Player) (p word q : ℕ) where
  abbrev more : Player → Player
  more = with_words (word ∷ [])

  abbrev IsChanged : Type 0
  IsChanged = player_at (changed more players p) q
      ≡ option_map (with_words (cond (p == q) (word ∷ []) [])) (player_at players q)

  changed_other : (x : Player) → player_at players p ≡ Some x → eqb p q ≡ false → IsChanged
  changed_other x e other =
      let apart : q ≢ p = λ f. false≢true (sym other ∙ eq-eqb p q (sym f)) in
      rw other (at_other more players p q x e apart ∙ sym (with_none (player_at players q)))

  changed_same : (x : Player) → player_at players p ≡ Some x → eqb p q ≡ true → IsChanged
  changed_same x e same =
      rw same (subst (λ n. player_at (changed more players p) n ≡ option_map more (player_at players n))
      (eqb-true p q same) (at_changed more players p x e ∙ sym (ap (option_map more) e)))

  changed_nobody : player_at players p ≡ None → (eqb p q ≡ true) ⊎ (eqb p q ≡ false) → IsChanged
  changed_nobody e (inl same) =
      let here : player_at players q ≡ None = ap (player_at players) (sym (eqb-true p q same)) ∙ e in
      ap (λ ps. player_at ps q) (changed_none more players p e) ∙ here
      ∙ sym (ap (option_map (with_words (cond (p == q) (word ∷ []) []))) here)
  changed_nobody e (inr other) =
      rw other (ap (λ ps. player_at ps q) (changed_none more players p e) ∙ sym (with_none (player_at players q)))

  changed_player : IsChanged
  changed_player = go (player_at players p) refl (cases_Bool (eqb p q))
    where
      go : (o : Option Player) → player_at players p ≡ o → (eqb p q ≡ true) ⊎ (eqb p q ≡ false) → IsChanged
      go None e which = changed_nobody e which
      go (Some x) e (inl same) = changed_same x e same
      go (Some x) e (inr other) = changed_other x e other

among_first : (w : RemoteWord) (words : List RemoteWord) (q : ℕ)
    → cond (w.player == q) (w.word ∷ []) [] ++ words_among words q ≡ words_among (w ∷ words) q
among_first w words q = go (cases_Bool (eqb w.player q))
  where
    go : (eqb w.player q ≡ true) ⊎ (eqb w.player q ≡ false)
        → cond (w.player == q) (w.word ∷ []) [] ++ words_among words q ≡ words_among (w ∷ words) q
    go (inl same) = rw same refl
    go (inr other) = rw other refl

pub among_more : (words more : List RemoteWord) (q : ℕ)
    → words_among (words ++ more) q ≡ words_among words q ++ words_among more q
among_more [] more q = refl
among_more (w ∷ words) more q =
    sym (among_first w (words ++ more) q)
    ∙ ap (λ ws. cond (w.player == q) (w.word ∷ []) [] ++ ws) (among_more words more q)
    ∙ sym (append_assoc (cond (w.player == q) (w.word ∷ []) []) (words_among words q) (words_among more q))
    ∙ ap (λ ws. ws ++ words_among more q) (among_first w words q)

pub player_told : (s : Seen) (words : List RemoteWord) (q : ℕ)
    → player_at (told s words).core.players q ≡ option_map (with_words (words_among words q)) (player_at s.core.players q)
player_told s [] q = sym (with_none (player_at s.core.players q))
player_told s (w ∷ words) q =
    player_told (after_word s w) words q
    ∙ ap (option_map (with_words (words_among words q))) (changed_player s.core.players w.player w.word q)
    ∙ with_both (cond (w.player == q) (w.word ∷ []) []) (words_among words q) (player_at s.core.players q)
    ∙ ap (λ ws. option_map (with_words ws) (player_at s.core.players q)) (among_first w words q)

changed_many : (change : Player → Player) (players : List Player) (p : ℕ)
    → length (changed change players p) ≡ length players
changed_many change players p = go (player_at players p) refl
  where
    go : (o : Option Player) → player_at players p ≡ o → length (changed change players p) ≡ length players
    go None e = ap (λ (ps : List Player). length ps) (changed_none change players p e)
    go (Some x) e = length_changed change players p x e

pub many_told : (s : Seen) (words : List RemoteWord) → length (told s words).core.players ≡ length s.core.players
many_told s [] = refl
many_told s (w ∷ words) =
    many_told (after_word s w) words ∙ changed_many (with_words (w.word ∷ [])) s.core.players w.player

take_got : (words : List RemoteWord) (k : ℕ) (w : RemoteWord) → slice_get words k ≡ Some w
    → take (suc k) words ≡ take k words ++ w ∷ []
take_got words k w e =
    let more : suc k ≡ k + 1 = omega arith in
    ap (λ n. take n words) more ∙ take_more words k w (slice_get_within words k w e)
    ∙ ap (λ (x : RemoteWord). take k words ++ x ∷ []) (get_or_from_slice_get words k w w e)

-- ---- told one by one

pub is_taken : (mid new : Seen) (w : RemoteWord) (heard : Heard) → Takes mid w
    → IsHeard mid new w.player w.frame w.word heard → new ≡ after_word mid w
is_taken mid new w Taken t b = b.2
is_taken mid new w Repeated t b = absurd (false≢true (sym t.fresh ∙ b.0))

-- who has room for a word takes it
pub not_refused : (mid new : Seen) (w : RemoteWord) (why : Refusal) → Takes mid w → 1 ≤ mid.reserved
    → IsRefused (remote_refusal mid w.player w.frame) mid new why → ⊥
not_refused mid new w why t some refused = omega (arith, some, refused.reserved t.taken)

module _ (d : RemoteWord) where
  pub takes_at : (s : Seen) (words : List RemoteWord) (k : ℕ) → k < length words → Fits s words
      → Takes (told s (take k words)) (get_or words k d)
  takes_at s [] k l f = absurd (omega (arith, l))
  takes_at s (w ∷ words) zero l f = (first_takes s w words f).0
  takes_at s (w ∷ words) (suc k) l f = takes_at (after_word s w) words k (omega (arith, l)) (first_takes s w words f).1

  pub told_at : (s : Seen) (words : List RemoteWord) (k : ℕ) → k < length words
      → told s (take (k + 1) words) ≡ after_word (told s (take k words)) (get_or words k d)
  told_at s words k l =
      ap (told s) (take_more words k d l) ∙ told_more s (take k words) (get_or words k d ∷ [])

  pub room_at : (s : Seen) (words : List RemoteWord) (k : ℕ) → k < length words → length words ≤ s.reserved
      → 1 ≤ (told s (take k words)).reserved
  room_at s words k l room =
      omega (arith, (told_stays s (take k words)).reserved, length-take k words, l, room)

  pub next_at_is : (s : Seen) (words : List RemoteWord) (k : ℕ) → k < length words
      → is_next_at s words k ≡ is_next s (take k words) (get_or words k d)
  next_at_is s words k l =
      ap (λ o. option_map_or (is_next s (take k words)) o false) (slice_get-get_or words k d l)

-- how many of the first words are a player's
pub count_more : (words : List RemoteWord) (k q : ℕ) (d : RemoteWord) → k < length words
    → length (words_among (take (k + 1) words) q)
    ≡ length (words_among (take k words) q) + cond ((get_or words k d).player == q) 1 0
count_more words k q d l =
    ap (λ ws. length (words_among ws q)) (take_more words k d l)
    ∙ ap (λ (ws : List ℕ). length ws) (among_more (take k words) (get_or words k d ∷ []) q)
    ∙ length-append (words_among (take k words) q) (words_among (get_or words k d ∷ []) q)
    ∙ go (cases_Bool (eqb (get_or words k d).player q))
  where
    go : (eqb (get_or words k d).player q ≡ true) ⊎ (eqb (get_or words k d).player q ≡ false)
        → length (words_among (take k words) q) + length (words_among (get_or words k d ∷ []) q)
        ≡ length (words_among (take k words) q) + cond ((get_or words k d).player == q) 1 0
    go (inl same) = rw same refl
    go (inr other) = rw other refl

-- where a player's word stands among those of that player
pub among_at : (words : List RemoteWord) (k q : ℕ) (d : RemoteWord) → k < length words → (get_or words k d).player ≡ q
    → slice_get (words_among words q) (length (words_among (take k words) q)) ≡ Some (get_or words k d).word
among_at [] k q d l e = absurd (omega (arith, l))
among_at (w ∷ words) zero q d l e = rw (eq-eqb w.player q e) refl
among_at (w ∷ words) (suc k) q d l e = go (among_at words k q d (omega (arith, l)) e) (cases_Bool (eqb w.player q))
  where
    go : slice_get (words_among words q) (length (words_among (take k words) q)) ≡ Some (get_or words k d).word
        → (eqb w.player q ≡ true) ⊎ (eqb w.player q ≡ false)
        → slice_get (words_among (w ∷ words) q) (length (words_among (w ∷ take k words) q)) ≡ Some (get_or words k d).word
    go rest (inl same) = rw same rest
    go rest (inr other) = rw other rest

-- whether a log is full
abbrev pub full_log : Seen → Option Refusal
full_log s = if nat_le s.settings.log s.core.logged then Some LogFull else None

-- ---- what they are to the session

module _ (step : Step) where
  follows_word : (s : Seen) (w : RemoteWord) → FollowsLog step s → Takes s w → FollowsLog step (after_word s w)
  follows_word s w f t =
      let played = heard_played step s (after_word s w) w.player w.frame w.word (t.fresh, t.taken, refl) in
      let after : after_word s w ≡ with_entries s (Remote w.player w.frame w.word ∷ []) s.counts =
      rw (t.fresh, t.taken) at played.seen in
      subst (FollowsLog step) (sym after)
      (follows_more step s f (plain (Remote w.player w.frame w.word)) s.counts (rw (t.fresh, t.taken) refl))

  pub follows_told : (s : Seen) (words : List RemoteWord) → FollowsLog step s → Fits s words
      → FollowsLog step (told s words)
  follows_told s [] f fits = f
  follows_told s (w ∷ words) f fits =
      let first = first_takes s w words fits in
      follows_told (after_word s w) words (follows_word s w f first.0) first.1

  pub played_told : (s : Seen) (words : List RemoteWord) → Fits s words
      → IsPlayed step s (told s words) (asked_words words)
  played_told s [] fits = played_none step s
  played_told s (w ∷ words) fits =
      let first = first_takes s w words fits in
      played_more step s (after_word s w) (told (after_word s w) words) (plain (Remote w.player w.frame w.word) ∷ [])
      (asked_words words)
      (heard_played step s (after_word s w) w.player w.frame w.word (first.0.fresh, first.0.taken, refl))
      (played_told (after_word s w) words first.1)

  -- the next word after others is refused for want of room in the log alone
  pub next_refusal : (s : Seen) (before : List RemoteWord) (w : RemoteWord) → FollowsLog step s → Fits s before
      → is_next s before w ≡ true
      → (is_repeated (told s before).core.players w.player w.frame w.word ≡ false)
      × (remote_refusal (told s before) w.player w.frame ≡ full_log (told s before))
  next_refusal s before w follows fits next =
      let later : Seen = told s before in
      let base : ℕ = settled later.core in
      let x = found (λ (player : Player). not player.local && (not player.gone
      && ((w.frame == length player.words + length (words_among before w.player))
      && nat_lt w.frame (settled s.core + QUEUE_LIMIT)))) s.core.players w.player next in
      let a = and_parts (not x.0.local) (not x.0.gone
      && ((w.frame == length x.0.words + length (words_among before w.player))
      && nat_lt w.frame (settled s.core + QUEUE_LIMIT))) x.2 in
      let b = and_parts (not x.0.gone) ((w.frame == length x.0.words + length (words_among before w.player))
      && nat_lt w.frame (settled s.core + QUEUE_LIMIT)) a.1 in
      let c = and_parts (w.frame == length x.0.words + length (words_among before w.player))
      (nat_lt w.frame (settled s.core + QUEUE_LIMIT)) b.1 in
      let local : x.0.local ≡ false = not-true x.0.local a.0 in
      let stays : x.0.gone ≡ false = not-true x.0.gone b.0 in
      let y : Player = with_words (words_among before w.player) x.0 in
      let there : player_at later.core.players w.player ≡ Some y =
      player_told s before w.player ∙ ap (option_map (with_words (words_among before w.player))) x.1 in
      let many : length y.words ≡ w.frame = omega (
        arith,
        length-append x.0.words (words_among before w.player),
        eqb-true w.frame (length x.0.words + length (words_among before w.player)) c.0,
      ) in
      let on = settled_on step s later (asked_words before) follows (played_told s before fits) in
      let kept = told_stays s before in
      let test = λ (check : Player → Bool). of_player_at check later.core.players w.player y there in
      let invalid : not (of_player (λ player. not player.local) later.core.players w.player) ≡ false =
      ap not (test (λ player. not player.local) ∙ ap not local) in
      let gone : of_player (λ player. player.gone) later.core.players w.player ≡ false =
      test (λ player. player.gone) ∙ stays in
      let past : nat_lt w.frame (length y.words) ≡ false = le-ltb w.frame (length y.words) (omega (arith, many)) in
      let conflict : of_player (λ player. nat_lt w.frame (length player.words)) later.core.players w.player ≡ false =
      test (λ player. nat_lt w.frame (length player.words)) ∙ past in
      let gap : of_player (λ player. nat_lt (length player.words) w.frame) later.core.players w.player ≡ false =
      test (λ player. nat_lt (length player.words) w.frame)
      ∙ le-ltb (length y.words) w.frame (omega (arith, many)) in
      let full : of_player (λ player. nat_le QUEUE_LIMIT (length player.words - base)) later.core.players w.player ≡ false =
      test (λ player. nat_le QUEUE_LIMIT (length player.words - base))
      ∙ lt-leb QUEUE_LIMIT (length y.words - base) (omega (
        arith,
        many,
        on,
        ltb-true w.frame (settled s.core + QUEUE_LIMIT) c.1,
      )) in (
        test (λ player. not player.local && (not player.gone && (nat_lt w.frame (length player.words)
            && (slice_index player.words w.frame == w.word)))) ∙ rw (local, stays, past) refl,
        first_refusal-behind (remote_tests later.core.players base w.player w.frame)
            ((nat_le later.settings.log later.core.logged, LogFull) ∷ [])
            (invalid, (gone, (conflict, (gap, (full, tt))))),
      )

  -- so it is taken once they are, where there is room
  pub next_taken : (s : Seen) (before : List RemoteWord) (w : RemoteWord) → FollowsLog step s → Fits s before
      → FitsLog s (length before + 1) → is_next s before w ≡ true → Takes (told s before) w
  next_taken s before w follows fits room next =
      let later : Seen = told s before in
      let kept = told_stays s before in
      let refused = next_refusal s before w follows fits next in
      let log : nat_le later.settings.log later.core.logged ≡ false =
      lt-leb later.settings.log later.core.logged (omega (
        arith,
        room,
        kept.logged,
        ap (λ (s : Settings). s.log) kept.settings,
      )) in
      record { fresh = refused.0; taken = refused.1 ∙ rw log refl }

  -- words each of which is the next one of its player are taken one after another
  module _ (s : Seen) (words : List RemoteWord) (follows : FollowsLog step s) (room : FitsLog s (length words))
      (all : are_next s words ≡ true) where
    next_at : (k : ℕ) → k < length words → is_next_at s words k ≡ true
    unfolding are_next
    next_at k l = all_below (is_next_at s words) (length words) k all l

    one_more : (k : ℕ) → k < length words → Fits s (take k words) → (o : Option RemoteWord) → slice_get words k ≡ o
        → option_map_or (is_next s (take k words)) o false ≡ true → Fits s (take (suc k) words)
    one_more k l before None e h = absurd (false≢true h)
    one_more k l before (Some w) e h =
        let so_far : length (take k words) ≡ k = omega (arith, length-take k words, l) in
        subst (Fits s) (sym (take_got words k w e))
        (fits_more s (take k words) (w ∷ []) before
        (fits_one (told s (take k words)) w
        (next_taken s (take k words) w follows before (omega (arith, room, so_far, l)) h)))

    upto : (k : ℕ) → k ≤ length words → Fits s (take k words)
    upto zero l = refl
    upto (suc k) l =
        one_more k (omega (arith, l)) (upto k (omega (arith, l))) (slice_get words k) refl (next_at k (omega (arith, l)))

    pub all_fit : Fits s words
    all_fit = subst (Fits s) (take_all (length words) words (omega arith)) (upto (length words) (omega arith))

-- the log has room for a word that is taken
pub room_for_one : (s : Seen) (w : RemoteWord) → Takes s w → s.core.logged + 1 ≤ s.settings.log
room_for_one s w t =
    let fails = all_fail (remote_tests s.core.players (settled s.core) w.player w.frame
    ++ (nat_le s.settings.log s.core.logged, LogFull) ∷ []) t.taken in
    omega (arith, leb-false s.settings.log s.core.logged fails.1.1.1.1.1.0)

-- ---- what is reserved

-- it changes nothing of which words are taken
room_told : (s : Seen) (words : List RemoteWord) (room : ℕ) → roomless (told (record s { reserved = room }) words) ≡ roomless (told s words)
room_told s [] room = refl
room_told s (w ∷ words) room = room_told (after_word s w) words (room - 1)

pub told_room : (s t : Seen) (words : List RemoteWord) → roomless s ≡ roomless t
    → roomless (told s words) ≡ roomless (told t words)
told_room s t words e =
    sym (room_told s words 0) ∙ ap (λ (x : Seen). roomless (told x words)) e ∙ room_told t words 0

pub takes_room : (s t : Seen) (w : RemoteWord) → roomless s ≡ roomless t → Takes s w → Takes t w
takes_room s t w e takes =
    let moved = subst (λ (x : Seen). Takes x w) e (record { fresh = takes.fresh; taken = takes.taken }) in
    record { fresh = moved.fresh; taken = moved.taken }

pub as_told_same : (s t : Seen) (words more : List RemoteWord) (room place : ℕ) → roomless s ≡ roomless t → words ≡ more
    → room ≡ place → as_told s words room ≡ as_told t more place
as_told_same s t words more room place e same here =
    ap (λ (x : Seen). record x { reserved = room }) (told_room s t words e)
    ∙ (λ i. as_told t (same i) (here i))

pub held_more : (s mid later : Seen) (words held : List RemoteWord) (w : RemoteWord) (room : ℕ)
    → roomless mid ≡ roomless s → told later held ≡ told mid words
    → as_told later (held ++ w ∷ []) (room - 1) ≡ after_word (as_told s words room) w
held_more s mid later words held w room e same =
    ap (λ (x : Seen). record x { reserved = room - 1 }) (told_more later held (w ∷ []) ∙ ap (λ (x : Seen). after_word x w) same)
    ∙ ap (λ (x : Seen). record (after_word x w) { reserved = room - 1 }) (told_room mid s words e)

-- there is no room for another word if there is none for them and it
pub full_same : (s : Seen) (words : List RemoteWord) → full_log (told s words) ≡ reserve_refusal s (length words + 1)
full_same s words = go (cases_lt s.settings.log (s.core.logged + (length words + 1)))
  where
    kept : Stays s (told s words) (length words)
    kept = told_stays s words

    most : (told s words).settings.log ≡ s.settings.log
    most = ap (λ (x : Settings). x.log) kept.settings

    go : (s.settings.log < s.core.logged + (length words + 1)) ⊎ (s.core.logged + (length words + 1) ≤ s.settings.log)
        → full_log (told s words) ≡ reserve_refusal s (length words + 1)
    go (inl l) =
        rw (
          le-leb (told s words).settings.log (told s words).core.logged (omega (arith, l, kept.logged, most)),
          lt-ltb s.settings.log (s.core.logged + (length words + 1)) l,
        ) refl
    go (inr l) =
        rw (
          lt-leb (told s words).settings.log (told s words).core.logged (omega (arith, l, kept.logged, most)),
          le-ltb s.settings.log (s.core.logged + (length words + 1)) l,
        ) refl

pub fits_room : (s : Seen) (words : List RemoteWord) (room : ℕ) → Fits s words → Fits (record s { reserved = room }) words
fits_room s [] room f = refl
fits_room s (w ∷ words) room f =
    let first = first_takes s w words f in
    takes_first (record s { reserved = room }) w words (record { fresh = first.0.fresh; taken = first.0.taken })
    (fits_room (after_word s w) words (room - 1) first.1)

pub fits_same : (s t : Seen) (words : List RemoteWord) → roomless s ≡ roomless t → Fits s words → Fits t words
fits_same s t words e f =
    fits_room (roomless t) words t.reserved (subst (λ (x : Seen). Fits x words) e (fits_room s words 0 f))

-- a session in which there may be room for more events than there was, and else nothing changed
pub record IsRoomier (s later : Seen) : Type 0 where
  pub same : roomless later ≡ roomless s
  pub more : s.reserved ≤ later.reserved

pub room_made : {X : Type 0} (seen : X → Seen) (old new : X) (result : Result Unit Refusal) (events : ℕ)
    → OnOk result (seen new ≡ record (seen old) { reserved = max (seen old).reserved events })
    → OnErr result (new ≡ old) → IsRoomier (seen old) (seen new)
room_made seen old new (Ok it) events made none = record {
  same = ap roomless made;
  more = omega (arith, ap (λ (x : Seen). x.reserved) made);
}
room_made seen old new (Err why) events made none = record {
  same = ap (λ x. roomless (seen x)) none;
  more = omega (arith, ap (λ x. (seen x).reserved) none);
}

-- the words still fit
pub record Stand (s : Seen) (words : List RemoteWord) (room : ℕ) : Type 0 where
  pub fits : Fits s words
  pub there : length words + room ≤ s.reserved
  pub log : FitsLog s (length words + room)

pub stand_on : (s later : Seen) (words : List RemoteWord) (room : ℕ) → IsRoomier s later → Stand s words room
    → Stand later words room
stand_on s later words room on stand = record {
  fits = fits_same s later words (sym on.same) stand.fits;
  there = omega (arith, stand.there, on.more);
  log = omega (
    arith,
    stand.log,
    ap (λ (x : Seen). x.core.logged) on.same,
    ap (λ (x : Seen). x.settings.log) on.same,
  );
}

-- there is room for events after words if there is for all of them
pub reserve_same : (s : Seen) (words : List RemoteWord) (events all : ℕ) → all ≡ min (length words + events) 4294967295
    → s.settings.log ≤ LOG_LIMIT → reserve_refusal (told s words) events ≡ reserve_refusal s all
reserve_same s words events all e few = go (cases_lt s.settings.log (s.core.logged + all))
  where
    kept : Stays s (told s words) (length words)
    kept = told_stays s words

    most : (told s words).settings.log ≡ s.settings.log
    most = ap (λ (x : Settings). x.log) kept.settings

    go : (s.settings.log < s.core.logged + all) ⊎ (s.core.logged + all ≤ s.settings.log)
        → reserve_refusal (told s words) events ≡ reserve_refusal s all
    go (inl l) =
        rw (
          lt-ltb (told s words).settings.log ((told s words).core.logged + events) (omega (arith, l, e, kept.logged, most)),
          lt-ltb s.settings.log (s.core.logged + all) l,
        ) refl
    go (inr l) =
        rw (
          le-ltb (told s words).settings.log ((told s words).core.logged + events) (omega (arith, l, e, few, kept.logged, most)),
          le-ltb s.settings.log (s.core.logged + all) l,
        ) refl
