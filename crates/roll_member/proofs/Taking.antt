-- Words that are taken one after another.
use Rattle.std.proofs.Common.{zero, suc, ◌-◌, drop, take, ◌≡◌, ◌⊎◌, ◌∙◌, ◌<◌, ◌≤◌, ℕ, ◌+◌, List, [], ◌∷◌, ◌++◌, length, refl, ap, sym, subst, arith, None, Bool, true, false, cond, inl, inr, Option, Ok, append-nil, append_assoc, length-append}
use Rattle.std.specs.Prelude.{not, nat_le, nat_lt, slice_index, slice_index_or, ◌==◌, ◌&&◌, if◌then◌else◌}
use Rattle.std.proofs.lemmas.Bool.{and_parts, cases_Bool, cases_eq, cases_lt, false≢true, le-ltb, leb-false, lt-leb, eq-eqb, ne_eqb, ltb-true, not-false}
use Rattle.std.proofs.lemmas.List.{length-drop, length-take, take-take}
use Rattle.roll_frame.specs.declared.refusal.Refusal.{Refusal}
use Rattle.roll_frame.proofs.Refused.{all_fail, first_refusal-behind}
use Rattle.roll_frame.specs.Core.{settled}
use Rattle.roll_frame.specs.Inputs.{is_repeated, of_player, changed, remote_tests, with_words}
use Rattle.roll_frame.specs.Timeline.{Player}
use Rattle.roll_frame.specs.Events.{CoreEvent}
use Rattle.roll_frame.specs.declared.limits.TheConstants.{QUEUE_LIMIT}
use Rattle.roll_frame.specs.declared.settings.Settings.{Settings}
use Rattle.roll_frame.specs.declared.entry.Entry.TheVariants.{Remote}
use Rattle.roll_frame.specs.declared.refusal.Refusal.TheVariants.{LogFull}
use Rattle.roll_inputs.proofs.Players.{found, of_player_at}
use Rattle.roll_inputs.specs.declared.heard.Heard.{Heard}
use Rattle.roll_inputs.specs.declared.heard.Heard.TheVariants.{Taken as HeardNow, Repeated as HeardBefore}
use Rattle.roll_mesh.proofs.Groups.{first_within}
use Rattle.roll_mesh.specs.Groups.{first_of, AreAlike}
use Rattle.roll_mesh.specs.Machines.{none_offered}
use Rattle.roll_mesh.specs.declared.limits.TheConstants.{PLAYER_LIMIT}
use Rattle.roll_mesh.specs.declared.packet.Offer.{Offer}
use Rattle.roll_laws.proofs.KeptPaths.{settled_never_falls}
use Rattle.roll_session.proofs.Changes.{remote_answered}
use Rattle.roll_session.proofs.Following.{ever_of}
use Rattle.roll_session.proofs.Runs.{played_more, played_none}
use Rattle.roll_session.specs.Answered.{IsAnswered, IsPlayed}
use Rattle.roll_session.specs.Calls.{heard_reply}
use Rattle.roll_session.specs.Changes.{after_remote, remote_refusal, IsHeard, IsRefused}
use Rattle.roll_session.specs.Headline.{words_of}
use Rattle.roll_session.specs.Seen.{plain, FollowsLog, Seen, Step}
use Rattle.roll_member.specs.Taking.{is_first, CanTake, IsLed, news, news_at, remotes, shares, Hearing, IsTaken, IsUsed, KeepsPlayers, TakesAll, TakesPlace}
use Rattle.roll_member.specs.declared.words.Took.{Took}
use Rattle.roll_member.proofs.Inputs.{first_before, first_is, no_first_before}
use Rattle.roll_member.proofs.Players.{length_changed, test_changed, words_at, words_changed, words_in}

remotes-append : (p first word : ℕ) (words : List ℕ)
    → remotes p first words ++ plain (Remote p (first + length words) word) ∷ []
    ≡ remotes p first (words ++ word ∷ [])
remotes-append p first word [] =
    let e : first + 0 ≡ first = omega arith in ap (λ f. plain (Remote p f word) ∷ []) e
remotes-append p first word (w ∷ words) =
    let e : first + length (w ∷ words) ≡ (first + 1) + length words = omega arith in
    ap (λ es. plain (Remote p first w) ∷ es)
    (ap (λ f. remotes p (first + 1) words ++ plain (Remote p f word) ∷ []) e
    ∙ remotes-append p (first + 1) word words)

pub keeps_none : (s : Seen) → KeepsPlayers s s
keeps_none s = record { local = λ p. refl; remote = λ p. refl; gone = λ p. refl; many = refl }

pub keeps_more : (old mid new : Seen) → KeepsPlayers old mid → KeepsPlayers mid new
    → KeepsPlayers old new
keeps_more old mid new a b = record {
  local = λ p. b.local p ∙ a.local p;
  remote = λ p. b.remote p ∙ a.remote p;
  gone = λ p. b.gone p ∙ a.gone p;
  many = b.many ∙ a.many;
}

used_one : (mid new : Seen) (p frame word : ℕ) → new ≡ after_remote mid p frame word
    → IsUsed mid new 1
used_one mid new p frame word e = subst (λ s. IsUsed mid s 1) (sym e)
    (record { settings = refl; logged = refl; reserved = refl })

used_more : (old mid new : Seen) (n all : ℕ) → all ≡ n + 1 → IsUsed old mid n → IsUsed mid new 1
    → IsUsed old new all
used_more old mid new n all e a b = record {
  settings = b.settings ∙ a.settings;
  logged = omega (arith, e, a.logged, b.logged);
  reserved = omega (arith, e, a.reserved, b.reserved);
}

none_of : (b : Bool) → cond {A = List ℕ} b [] [] ≡ []
none_of true = refl
none_of false = refl

-- words and one more of a player, and of the others
both_of : (b : Bool) (before words : List ℕ) (word : ℕ)
    → (before ++ cond b words []) ++ cond b (word ∷ []) [] ≡ before ++ cond b (words ++ word ∷ []) []
both_of true before words word = append_assoc before words (word ∷ [])
both_of false before words word = append-nil (before ++ [])

-- the next word is no repetition
fresh : (s : Seen) (p frame word : ℕ) → frame ≡ length (words_of s p)
    → is_repeated s.core.players p frame word ≡ true → ⊥
fresh s p frame word next again =
    let x = found (λ (player : Player). not player.local && (not player.gone &&
    (nat_lt frame (length player.words) && (slice_index player.words frame == word)))) s.core.players p
    again in
    let inner = and_parts (not x.0.local) (not x.0.gone && (nat_lt frame (length x.0.words) &&
    (slice_index x.0.words frame == word))) x.2 in
    let more = and_parts (not x.0.gone) (nat_lt frame (length x.0.words) &&
    (slice_index x.0.words frame == word)) inner.1 in
    let there = and_parts (nat_lt frame (length x.0.words)) (slice_index x.0.words frame == word) more.1 in
    let words : words_of s p ≡ x.0.words = ap words_in x.1 in
    omega (arith, next, ltb-true frame (length x.0.words) there.0, ap (λ (ws : List ℕ). length ws) words)

module _ (step : Step) where
  pub taken_none : (s : Seen) (p first : ℕ) → IsTaken step s s p first []
  taken_none s p first = record {
    played = played_none step s;
    words_are = λ q. rw (none_of (q == p)) (sym (append-nil (words_of s q)));
    players = keeps_none s;
    used = record { settings = refl; logged = omega arith; reserved = omega arith };
  }

  -- a word that is heard for the first time is played
  pub heard_played : (mid new : Seen) (p frame word : ℕ) → IsHeard mid new p frame word HeardNow
      → IsPlayed step mid new (plain (Remote p frame word) ∷ [])
  heard_played mid new p frame word b = go (remote_answered step mid new p frame word (Ok HeardNow) b tt tt)
    where
      go : IsAnswered step mid new (plain (Remote p frame word)) (heard_reply HeardNow)
          → IsPlayed step mid new (plain (Remote p frame word) ∷ [])
      go (inl r) = r.played
      go (inr h) = let e = h.0 in absurd (cc e)

  pub taken_more : (old mid new : Seen) (p first word : ℕ) (words : List ℕ) (heard : Heard)
      → first ≡ length (words_of old p) → IsTaken step old mid p first words
      → IsHeard mid new p (first + length words) word heard
      → IsTaken step old new p first (words ++ word ∷ [])
  taken_more old mid new p first word words HeardBefore next a b =
      let now : length (words_of mid p) ≡ length (words_of old p) + length words =
      ap (λ (ws : List ℕ). length ws) (a.words_are p ∙ rw (eq-eqb p p refl) refl)
      ∙ length-append (words_of old p) words in
      absurd (fresh mid p (first + length words) word (omega (arith, next, now)) b.0)
  taken_more old mid new p first word words HeardNow next a b =
      let frame : ℕ = first + length words in
      let fails = all_fail (remote_tests mid.core.players (settled mid.core) p frame ++ (nat_le mid.settings.log mid.core.logged, LogFull) ∷ []) b.1 in
      let x = found (λ (player : Player). not player.local) mid.core.players p (not-false _ fails.0) in
      let players : new.core.players ≡ changed (with_words (word ∷ [])) mid.core.players p =
      ap (λ (s : Seen). s.core.players) b.2 in
      record {
        played = subst (λ es. IsPlayed step old new es) (remotes-append p first word words)
            (played_more step old mid new (remotes p first words) (plain (Remote p frame word) ∷ [])
            a.played (heard_played mid new p frame word b));
        words_are = λ q. ap (λ ps. words_at ps q) players
            ∙ words_changed (with_words (word ∷ [])) (word ∷ []) mid.core.players p x.0 x.1 refl q
            ∙ ap (λ ws. ws ++ cond (q == p) (word ∷ []) []) (a.words_are q)
            ∙ both_of (q == p) (words_of old q) words word;
        players = keeps_more old mid new a.players (record {
          local = λ q. ap (λ ps. of_player (λ player. player.local) ps q) players
              ∙ test_changed (λ player. player.local) (with_words (word ∷ [])) mid.core.players p x.0 x.1
              refl q;
          remote = λ q. ap (λ ps. of_player (λ player. not player.local) ps q) players
              ∙ test_changed (λ player. not player.local) (with_words (word ∷ [])) mid.core.players p x.0
              x.1 refl q;
          gone = λ q. ap (λ ps. of_player (λ player. player.gone) ps q) players
              ∙ test_changed (λ player. player.gone) (with_words (word ∷ [])) mid.core.players p x.0 x.1
              refl q;
          many = ap (λ (ps : List Player). length ps) players
              ∙ length_changed (with_words (word ∷ [])) mid.core.players p x.0 x.1;
        });
        used = used_more old mid new (length words) (length (words ++ word ∷ []))
            (length-append words (word ∷ [])) a.used (used_one mid new p frame word b.2);
      }

  -- what is settled stays so
  pub settled_on : (s later : Seen) (events : List CoreEvent) → FollowsLog step s
      → IsPlayed step s later events → settled s.core ≤ settled later.core
  settled_on s later events f played =
      ever_of step s f (λ core after. settled core ≤ settled after) settled_never_falls events later.core
      played.core

  -- who has taken one more word says what it says of them all
  pub led_more : (old mid new : Seen) (p first word : ℕ) (words : List ℕ) (heard : Heard)
      → FollowsLog step mid → first ≡ length (words_of old p) → IsTaken step old mid p first words
      → IsHeard mid new p (first + length words) word heard
      → KeepsPlayers old new → IsLed new p first (length words + 1)
  led_more old mid new p first word words HeardBefore f next a b keeps =
      let now : length (words_of mid p) ≡ length (words_of old p) + length words =
      ap (λ (ws : List ℕ). length ws) (a.words_are p ∙ rw (eq-eqb p p refl) refl)
      ∙ length-append (words_of old p) words in
      absurd (fresh mid p (first + length words) word (omega (arith, next, now)) b.0)
  led_more old mid new p first word words HeardNow f next a b keeps =
      let frame : ℕ = first + length words in
      let base : ℕ = settled mid.core in
      let fails = all_fail (remote_tests mid.core.players base p frame ++ (nat_le mid.settings.log mid.core.logged, LogFull) ∷ []) b.1 in
      let remote : of_player (λ player. not player.local) mid.core.players p ≡ true = not-false _ fails.0 in
      let x = found (λ (player : Player). not player.local) mid.core.players p remote in
      let grown : length (words_of mid p) ≡ length (words_of old p) + length words =
      ap (λ (ws : List ℕ). length ws) (a.words_are p ∙ rw (eq-eqb p p refl) refl)
      ∙ length-append (words_of old p) words in
      let words_x : words_of mid p ≡ x.0.words = ap words_in x.1 in
      let many : length x.0.words ≡ frame = omega (
        arith,
        next,
        ap (λ (ws : List ℕ). length ws) words_x,
        grown,
      ) in
      let short : length x.0.words - base < QUEUE_LIMIT =
      leb-false QUEUE_LIMIT (length x.0.words - base)
      (sym (of_player_at (λ (player : Player). nat_le QUEUE_LIMIT (length player.words - base))
      mid.core.players p x.0 x.1) ∙ fails.1.1.1.1.0) in
      let on = settled_on mid new (plain (Remote p frame word) ∷ []) f
      (heard_played mid new p frame word b) in
      record {
        remote = λ some. keeps.remote p ∙ sym (a.players.remote p) ∙ remote;
        queue = λ some. omega (arith, many, short, on);
      }

  -- who says so of some words is refused none of them
  pub never_refused : (old mid new : Seen) (p first count : ℕ) (words : List ℕ) (why : Refusal)
      → FollowsLog step old → CanTake old p first count → IsTaken step old mid p first words
      → length words < count → IsRefused (remote_refusal mid p (first + length words)) mid new why → ⊥
  never_refused old mid new p first count words why f can a less refused =
      let frame : ℕ = first + length words in
      let base : ℕ = settled mid.core in
      let some : 1 ≤ count = omega (arith, less) in
      let remote : of_player (λ player. not player.local) mid.core.players p ≡ true =
      a.players.remote p ∙ can.led.remote some in
      let x = found (λ (player : Player). not player.local) mid.core.players p remote in
      let grown : length (words_of mid p) ≡ length (words_of old p) + length words =
      ap (λ (ws : List ℕ). length ws) (a.words_are p ∙ rw (eq-eqb p p refl) refl)
      ∙ length-append (words_of old p) words in
      let words_x : words_of mid p ≡ x.0.words = ap words_in x.1 in
      let many : length x.0.words ≡ frame = omega (
        arith,
        can.next some,
        ap (λ (ws : List ℕ). length ws) words_x,
        grown,
      ) in
      let on = settled_on old mid (remotes p first words) f a.played in
      let test = λ (check : Player → Bool). of_player_at check mid.core.players p x.0 x.1 in
      let invalid : not (of_player (λ player. not player.local) mid.core.players p) ≡ false =
      ap not remote in
      let gone : of_player (λ player. player.gone) mid.core.players p ≡ false =
      a.players.gone p ∙ can.stays some in
      let conflict : of_player (λ player. nat_lt frame (length player.words)) mid.core.players p ≡ false =
      test (λ player. nat_lt frame (length player.words))
      ∙ le-ltb frame (length x.0.words) (omega (arith, many)) in
      let gap : of_player (λ player. nat_lt (length player.words) frame) mid.core.players p ≡ false =
      test (λ player. nat_lt (length player.words) frame)
      ∙ le-ltb (length x.0.words) frame (omega (arith, many)) in
      let full : of_player (λ player. nat_le QUEUE_LIMIT (length player.words - base)) mid.core.players p ≡ false =
      test (λ player. nat_le QUEUE_LIMIT (length player.words - base))
      ∙ lt-leb QUEUE_LIMIT (length x.0.words - base) (omega (arith, many, less, can.led.queue some, on)) in
      let log : nat_le mid.settings.log mid.core.logged ≡ false =
      lt-leb mid.settings.log mid.core.logged (omega (
        arith,
        less,
        can.fits some,
        a.used.logged,
        ap (λ (s : Settings). s.log) a.used.settings,
      )) in
      let none : remote_refusal mid p frame ≡ None =
      first_refusal-behind (remote_tests mid.core.players base p frame)
      ((nat_le mid.settings.log mid.core.logged, LogFull) ∷ [])
      (invalid, (gone, (conflict, (gap, (full, tt))))) ∙ rw log refl in
      omega (arith, refused.reserved none, a.used.reserved, can.room, less)

-- ---- how the words are shared out

abbrev pub offered : List Offer → ℕ → ℕ
offered offers p =
    let offer = slice_index_or offers p none_offered in offer.end - offer.first

-- the words after those of the first so many players
abbrev pub remaining : ℕ → List Offer → List ℕ → List ℕ
remaining zero offers words = words
remaining (suc p) [] words = words
remaining (suc p) (offer ∷ offers) words =
    remaining p offers (drop (offer.end - offer.first) words)

pub share_at : (p : ℕ) (offers : List Offer) (words : List ℕ) → p < length offers
    → slice_index_or (shares offers words) p [] ≡ take (offered offers p) (remaining p offers words)
share_at p [] words lt = absurd (omega (arith, lt))
share_at zero (offer ∷ offers) words lt = refl
share_at (suc p) (offer ∷ offers) words lt =
    share_at p offers (drop (offer.end - offer.first) words) (omega (arith, lt))

pub remaining_next : (p : ℕ) (offers : List Offer) (words : List ℕ) → p < length offers
    → remaining (suc p) offers words ≡ drop (offered offers p) (remaining p offers words)
remaining_next p [] words lt = absurd (omega (arith, lt))
remaining_next zero (offer ∷ offers) words lt = refl
remaining_next (suc p) (offer ∷ offers) words lt =
    remaining_next p offers (drop (offer.end - offer.first) words) (omega (arith, lt))

-- ---- all players' words

apart : (p q : ℕ) → p < q → (q + 1 == p + 1) ≡ false
apart p q lt = ne_eqb (q + 1) (p + 1) (λ e. omega (arith, e, lt))

-- what is left of a player's words that were taken
pub record IsPlaced (h : Hearing) (p led : ℕ) (words : List ℕ) (old new : Seen) (took : Took) : Type 0 where
  pub players : KeepsPlayers old new
  pub words_are : (q : ℕ) → words_of new q
      ≡ words_of old q ++ (if q == p + 1 then take took.count words else [])
  pub few : took.count ≤ length words
  pub follows : is_first h.input p ≡ false → took.count ≡ led

pub placed : (step : Step) (h : Hearing) (p first led : ℕ) (words : List ℕ) (old new : Seen)
    (took : Took) → (is_first h.input p ≡ false → led ≤ length words)
    → TakesPlace step h.input p first led words old new took → IsPlaced h p led words old new took
placed step h p first led words old new took few t = go (cases_Bool (is_first h.input p))
  where
    go : (is_first h.input p ≡ true) ⊎ (is_first h.input p ≡ false)
        → IsPlaced h p led words old new took
    go (inl does) =
        let f = t.lead does in
        let count : took.count ≡ f.inner.count = ap (λ (o : Took). o.count) f.is in
        let within : f.inner.count ≤ f.frames = omega (arith, f.taken.few, length-take f.frames words) in
        let same : take f.inner.count (take f.frames words) ≡ take took.count words =
        take-take f.inner.count f.frames words within ∙ ap (λ n. take n words) (sym count) in
        record {
          players = record {
            local = f.taken.taken.players.local;
            remote = f.taken.taken.players.remote;
            gone = f.taken.taken.players.gone;
            many = f.taken.taken.players.many;
          };
          words_are = λ q. f.taken.taken.words_are q
              ∙ ap (λ ws. words_of old q ++ (if q == p + 1 then ws else [])) same;
          few = omega (arith, count, f.taken.few, length-take f.frames words);
          follows = λ isnt. absurd (false≢true (sym isnt ∙ does));
        }
    go (inr isnt) =
        let f = t.follow isnt in
        let count : took.count ≡ led = ap (λ (o : Took). o.count) f.1 in
        record {
          players = f.0.players;
          words_are = λ q. f.0.words_are q
              ∙ ap (λ n. words_of old q ++ (if q == p + 1 then take n words else [])) (sym count);
          few = omega (arith, count, few isnt);
          follows = λ e. count;
        }

-- the words of later players stay
pub later_words : (h : Hearing) (old mid new : Seen) (p led : ℕ) (words : List ℕ) (took : Took)
    → ((q : ℕ) → p ≤ q → words_of mid (q + 1) ≡ words_of old (q + 1))
    → IsPlaced h p led words mid new took
    → (q : ℕ) → p + 1 ≤ q → words_of new (q + 1) ≡ words_of old (q + 1)
later_words h old mid new p led words took before t q le =
    t.words_are (q + 1)
    ∙ rw (apart p q (omega (arith, le))) (append-nil (words_of mid (q + 1)))
    ∙ before q (omega (arith, le))

-- a player's new words, and as many of its input's first
pub record IsGiven (h : Hearing) (old new : Seen) (p : ℕ) : Type 0 where
  pub count : ℕ
  pub words_are : words_of new (p + 1) ≡ words_of old (p + 1) ++ take count (news_at h p)
  pub few : count ≤ length (news_at h p)
  pub first : length (words_of new (first_of h.input p + 1))
      ≡ length (words_of old (first_of h.input p + 1)) + count

-- what all that was taken leaves: new words of the first so many players, and the others' as they were
pub record IsFed (h : Hearing) (old : Seen) (places : ℕ) (new : Seen) (led : ℕ) : Type 0 where
  pub players : KeepsPlayers old new
  pub given : (p : ℕ) → p < places → IsGiven h old new p
  pub last : (p : ℕ) → places ≡ p + 1
      → length (words_of new (p + 1)) ≡ length (words_of old (p + 1)) + led
  pub later : (q : ℕ) → places ≤ q → words_of new (q + 1) ≡ words_of old (q + 1)

given_count : (h : Hearing) (old new : Seen) (p led : ℕ) (g : IsGiven h old new p)
    → length (words_of new (p + 1)) ≡ length (words_of old (p + 1)) + led → g.count ≡ led
given_count h old new p led g e = omega (
  arith,
  e,
  ap (λ (ws : List ℕ). length ws) g.words_are,
  length-append (words_of old (p + 1)) (take g.count (news_at h p)),
  length-take g.count (news_at h p),
  g.few,
)

module _ (step : Step) (h : Hearing) (old : Seen) (word : 1 ≤ h.input)
    (lengths : AreAlike h.input (λ p. length (news_at h p))) where
  given_later : (p q led : ℕ) (mid new : Seen) (took : Took) → q < p
      → IsPlaced h p led (news_at h p) mid new took → IsGiven h old mid q → IsGiven h old new q
  given_later p q led mid new took less t g = record {
    count = g.count;
    words_are = stays (q + 1) (ne_eqb (q + 1) (p + 1) (λ e. omega (arith, e, less))) ∙ g.words_are;
    few = g.few;
    first = ap (λ (ws : List ℕ). length ws) (stays (first_of h.input q + 1)
        (ne_eqb (first_of h.input q + 1) (p + 1)
        (λ e. omega (arith, e, less, first_within h.input q)))) ∙ g.first;
  }
    where
      stays : (r : ℕ) → (r == p + 1) ≡ false → words_of new r ≡ words_of mid r
      stays r other = t.words_are r ∙ rw other (append-nil (words_of mid r))

  -- the words of one more player
  given_now : (p led : ℕ) (mid new : Seen) (took : Took) → p < PLAYER_LIMIT
      → IsPlaced h p led (news_at h p) mid new took → IsFed h old p mid led
      → IsGiven h old new p × (length (words_of new (p + 1)) ≡ length (words_of old (p + 1)) + took.count)
  given_now p led mid new took lt t f = go (cases_Bool (is_first h.input p))
    where
      here : words_of new (p + 1) ≡ words_of old (p + 1) ++ take took.count (news_at h p)
      here = t.words_are (p + 1) ∙ rw (eq-eqb (p + 1) (p + 1) refl)
          (ap (λ ws. ws ++ take took.count (news_at h p)) (f.later p (omega arith)))

      long : length (words_of new (p + 1)) ≡ length (words_of old (p + 1)) + took.count
      long = ap (λ (ws : List ℕ). length ws) here
          ∙ omega (
            arith,
            length-append (words_of old (p + 1)) (take took.count (news_at h p)),
            length-take took.count (news_at h p),
            t.few,
          )

      before : (q : ℕ) → q + 1 ≡ p → is_first h.input p ≡ false
          → length (words_of new (first_of h.input p + 1))
          ≡ length (words_of old (first_of h.input p + 1)) + took.count
      before q is isnt =
          let l : q < p = omega (arith, is) in
          let g = f.given q l in
          let place : first_of h.input p ≡ first_of h.input q =
          ap (λ n. first_of h.input n) (sym is)
          ∙ first_before h.input q word (ap (λ n. is_first h.input n) is ∙ isnt) in
          let stays : words_of new (first_of h.input q + 1) ≡ words_of mid (first_of h.input q + 1) =
          t.words_are (first_of h.input q + 1)
          ∙ rw (ne_eqb (first_of h.input q + 1) (p + 1)
          (λ e. omega (arith, e, l, first_within h.input q)))
          (append-nil (words_of mid (first_of h.input q + 1))) in
          ap (λ n. length (words_of new (n + 1))) place
          ∙ ap (λ (ws : List ℕ). length ws) stays ∙ g.first
          ∙ ap (λ n. length (words_of old (first_of h.input q + 1)) + n)
          (given_count h old mid q led g (f.last q (sym is)) ∙ sym (t.follows isnt))
          ∙ ap (λ n. length (words_of old (n + 1)) + took.count) (sym place)

      first : (is_first h.input p ≡ true) ⊎ (is_first h.input p ≡ false)
          → length (words_of new (first_of h.input p + 1))
          ≡ length (words_of old (first_of h.input p + 1)) + took.count
      first (inl does) =
          let is = first_is h.input p does in
          ap (λ n. length (words_of new (n + 1))) is ∙ long
          ∙ ap (λ n. length (words_of old (n + 1)) + took.count) (sym is)
      first (inr isnt) = by (cases_eq p 0)
        where
          by : (p ≡ 0) ⊎ (p ≡ 0 → ⊥) → length (words_of new (first_of h.input p + 1))
              ≡ length (words_of old (first_of h.input p + 1)) + took.count
          by (inl e) = absurd (no_first_before h.input word (ap (λ n. is_first h.input n) (sym e) ∙ isnt))
          by (inr e) = before (p - 1) (omega arith) isnt

      go : (is_first h.input p ≡ true) ⊎ (is_first h.input p ≡ false)
          → IsGiven h old new p × (length (words_of new (p + 1)) ≡ length (words_of old (p + 1)) + took.count)
      go b = (
        record {
          count = took.count;
          words_are = here;
          few = t.few;
          first = first b;
        },
        long,
      )

  -- another word of an input has as many new words as the first
  led_few : (p led : ℕ) (mid : Seen) → p < PLAYER_LIMIT → IsFed h old p mid led
      → is_first h.input p ≡ false → led ≤ length (news_at h p)
  led_few p led mid lt f isnt = go (cases_eq p 0)
    where
      go : (p ≡ 0) ⊎ (p ≡ 0 → ⊥) → led ≤ length (news_at h p)
      go (inl e) = absurd (no_first_before h.input word (ap (λ n. is_first h.input n) (sym e) ∙ isnt))
      go (inr e) =
          let q : ℕ = p - 1 in
          let is : q + 1 ≡ p = omega arith in
          let l : q < p = omega (arith, is) in
          let g = f.given q l in
          let place : first_of h.input p ≡ first_of h.input q =
          ap (λ n. first_of h.input n) (sym is)
          ∙ first_before h.input q word (ap (λ n. is_first h.input n) is ∙ isnt) in
          let all : length (news_at h p) ≡ length (news_at h q) =
          lengths p lt ∙ ap (λ n. length (news_at h n)) place ∙ sym (lengths q (omega (arith, l, lt))) in
          omega (arith, all, g.few, given_count h old mid q led g (f.last q (sym is)))

  pub fed : (places : ℕ) (new : Seen) (led : ℕ) (why : Option Refusal) → places ≤ PLAYER_LIMIT
      → TakesAll step h old places new led why → IsFed h old places new led
  fed zero new led why most t = record {
    players = subst (KeepsPlayers old) (sym t.0) (keeps_none old);
    given = λ p lt. absurd (omega (arith, lt));
    last = λ p e. absurd (omega (arith, e));
    later = λ q le. ap (λ s. words_of s (q + 1)) t.0;
  }
  fed (suc p) new led why most t =
      let mid = t.0 in
      let f = fed p mid t.3 t.1 (omega (arith, most)) t.4 in
      let at = placed step h p (slice_index h.has p) t.3 (news_at h p) mid new t.2
      (led_few p t.3 mid (omega (arith, most)) f) t.5 in
      let now = given_now p t.3 mid new t.2 (omega (arith, most)) at f in
      record {
        players = keeps_more old mid new f.players at.players;
        given = λ q lt. one f at now.0 q (cases_lt q p) (omega (arith, lt));
        last = λ q e. let is : p ≡ q = omega (arith, e) in
            subst (λ n. length (words_of new (n + 1)) ≡ length (words_of old (n + 1)) + led) is
            (now.1 ∙ ap (λ n. length (words_of old (p + 1)) + n) (sym t.6));
        later = λ q le. later_words h old mid new p t.3 (news_at h p) t.2 f.later at q (omega (arith, le));
      }
    where
      one : IsFed h old p t.0 t.3 → IsPlaced h p t.3 (news_at h p) t.0 new t.2
          → IsGiven h old new p → (q : ℕ) → (q < p) ⊎ (p ≤ q) → q ≤ p → IsGiven h old new q
      one f at now q (inl before) le =
          given_later p q t.3 t.0 new t.2 before at (f.given q before)
      one f at now q (inr here) le =
          let same : q ≡ p = omega (arith, here, le) in
          subst (λ n. IsGiven h old new n) (sym same) now

-- there are no more new words than may be taken
pub news_length : (offer : Offer) (words : List ℕ) (has most : ℕ) → has ≤ most
    → length (news offer words has most) ≤ most - has
news_length offer words has most le =
    omega (
      arith,
      le,
      length-drop (has - offer.first) (take (most - offer.first) words),
      length-take (most - offer.first) words,
    )

-- so a player has no more words than may be taken
pub fed_few : (words before news : List ℕ) (count most : ℕ) → words ≡ before ++ take count news
    → length before ≤ most → length news ≤ most - length before
    → (length before ≤ length words) × (length words ≤ most)
fed_few words before news count most e low few =
    let len : length words ≡ length before + length (take count news) =
    ap (λ (ws : List ℕ). length ws) e ∙ length-append before (take count news) in
    (omega (arith, len), omega (arith, len, low, few, length-take count news))
