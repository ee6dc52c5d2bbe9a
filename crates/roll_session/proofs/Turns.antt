-- What is true of one turn of a session.
use Rattle.std.proofs.Common.{◌≡◌, ◌⊎◌, ◌∙◌, ℕ, zero, suc, ◌+◌, ◌-◌, ◌≤◌, List, [], ◌∷◌, ◌++◌, length, drop, take, length-append, refl, ap, sym, subst, Bool, cond, true, false, arith, inl, inr, Option, Some, None, append-nil}
use Rattle.std.specs.Prelude.{option_map, IsSomeAnd, MatchBool}
use Rattle.std.specs.Option.{option_map_or}
use Rattle.std.proofs.lemmas.Bool.{false≢true}
use Rattle.roll_frame.specs.Cells.{Rows}
use Rattle.roll_frame.specs.Claims.{claim_of}
use Rattle.roll_frame.specs.Core.{Core, Roll, cost, depth, rolled_paths, settled}
use Rattle.roll_frame.specs.Events.{CoreEvent, added_by, answer, applied, is_accepted, is_repeat, refusal, tests_of}
use Rattle.roll_frame.specs.Games.{Value}
use Rattle.roll_frame.specs.Paths.{contains, run}
use Rattle.roll_frame.specs.Timeline.{timeline}
use Rattle.roll_frame.specs.declared.entry.Entry.{Entry}
use Rattle.roll_frame.specs.declared.entry.Entry.TheVariants.{Local, Remote, Disconnect, Sync, Advance, Graft, Partial}
use Rattle.roll_frame.specs.declared.refusal.Refusal.{Refusal}
use Rattle.roll_frame.specs.declared.reply.Reply.{Reply}
use Rattle.roll_frame.specs.declared.reply.Reply.TheVariants.{Refused, Done, Taken, Repeated, Disconnected, Synchronized, Reached, Grafted}
use Rattle.roll_frame.specs.declared.settings.Settings.{Settings}
use Rattle.roll_frame.proofs.Refused.{AllFail}
use Rattle.roll_frame.proofs.Timelines.{length_timeline, timeline_none_given}
use Rattle.roll_game.specs.Counts.{rolled}
use Rattle.roll_game.specs.declared.counts.Counts.{Counts}
use Rattle.roll_laws.proofs.Accepted.{accepted_passes}
use Rattle.roll_laws.proofs.Fair.{IsFair, fair_is_right}
use Rattle.roll_laws.proofs.Fronts.{depth_is}
use Rattle.roll_laws.proofs.KeptPaths.{prefixes_are_saved}
use Rattle.roll_laws.proofs.Rolls.{next_is_fair, roll_of}
use Rattle.roll_laws.proofs.Saved.{has_in, in_has, in_left, in_right, take_timeline, In}
use Rattle.roll_laws.proofs.Sound.{sound_played, Sound}
use Rattle.roll_session.specs.Answered.{counts_by, with_entries, IsReplied}
use Rattle.roll_session.specs.Headline.{is_declined, is_rolled, last_claim, time_of, value_shown, words_in, words_of, IsCertificate, IsCertified, IsFewest, IsNext, IsSaved, LosesNothing, RunsFewest, ShowsSerialRun, TakesOnce, Turn}
use Rattle.roll_session.specs.Seen.{FollowsLog, IsLeast, Seen, Step, game_of}
use Rattle.roll_session.proofs.Following.{follows_more, law_of}
use Rattle.roll_session.proofs.Holding.{least_of}
use Rattle.roll_session.proofs.Runs.{none_added}
use Rattle.roll_session.proofs.Words.{remote_again, remote_next, words_applied, words_at}

-- what is asked for, and no roll that the game cuts short
abbrev pub IsAsked : Entry → Type 0
IsAsked (Local p word) = Unit {0}
IsAsked (Remote p frame word) = Unit {0}
IsAsked (Disconnect p) = Unit {0}
IsAsked Sync = Unit {0}
IsAsked Advance = Unit {0}
IsAsked (Graft ticket route) = Unit {0}
IsAsked (Partial to made) = ⊥

-- an event was accepted
pub record WasAccepted (step : Step) (old new : Seen) (event : CoreEvent) (said : Reply) : Type 0 where
  pub fits : is_accepted old.settings (game_of step old) old.core event ≡ true
  pub said_is : said ≡ answer old.core event.entry
  pub seen : new ≡ with_entries old (event.entry ∷ []) (counts_by old.core event.entry old.counts)
  pub core : new.core ≡ applied old.core event.entry

-- or it repeated a word, or was refused, and changed nothing
pub record WasDeclined (old new : Seen) (event : CoreEvent) (said : Reply) : Type 0 where
  pub why : ((said ≡ Repeated) × (is_repeat old.core event.entry ≡ true)) ⊎ ((why : Refusal) × (said ≡ Refused why))
  pub same : new ≡ old

pub came : (step : Step) (old new : Seen) (event : CoreEvent) (said : Reply) → IsReplied step old new event said → WasAccepted step old new event said ⊎ WasDeclined old new event said
came step old new event said r = go (is_repeat old.core event.entry) (refusal old.settings (game_of step old) old.core event) refl refl r.said_is
  where
    not_accepted : is_accepted old.settings (game_of step old) old.core event ≡ false → new ≡ old
    not_accepted e = (rw e at r.played.seen) ∙ sym (none_added old)

    accepted : is_accepted old.settings (game_of step old) old.core event ≡ true → said ≡ answer old.core event.entry → WasAccepted step old new event said
    accepted e h = record { fits = e; said_is = h; seen = rw e at r.played.seen; core = rw e at r.played.core }

    go : (b : Bool) (o : Option Refusal) → is_repeat old.core event.entry ≡ b → refusal old.settings (game_of step old) old.core event ≡ o → said ≡ cond b Repeated (option_map_or Refused o (answer old.core event.entry))
        → WasAccepted step old new event said ⊎ WasDeclined old new event said
    go true o e f h = inr (record { why = inl (h, e); same = not_accepted (rw e refl) })
    go false None e f h = inl (accepted (rw (e, f) refl) h)
    go false (Some why) e f h = inr (record { why = inr (why, h); same = not_accepted (rw (e, f) refl) })

-- a roll's reply is no refusal
pub declined_not_rolled : (said : Reply) → is_declined said ≡ true → is_rolled said ≡ true → ⊥
declined_not_rolled (Refused why) d r = false≢true r
declined_not_rolled Done d r = false≢true r
declined_not_rolled Taken d r = false≢true r
declined_not_rolled Repeated d r = false≢true r
declined_not_rolled (Disconnected p) d r = false≢true r
declined_not_rolled (Synchronized row) d r = false≢true d
declined_not_rolled (Reached frame from rerun) d r = false≢true d
declined_not_rolled (Grafted added) d r = false≢true r

-- the replies to accepted entries
shows : (step : Step) (opening : Value) (core : Core) (entry : Entry) → is_rolled (answer core entry) ≡ true → option_map (run step opening) (applied core entry).shown ≡ Some (run step opening (timeline (applied core entry).players (applied core entry).frame))
shows step opening core (Local p word) h = absurd (false≢true h)
shows step opening core (Remote p frame word) h = absurd (false≢true h)
shows step opening core (Disconnect p) h = absurd (false≢true h)
shows step opening core Sync h = refl
shows step opening core Advance h = ap (λ (q : Rows). Some (run step opening q)) (sym (timeline_none_given core.players (core.frame + 1)))
shows step opening core (Graft ticket route) h = absurd (false≢true h)
shows step opening core (Partial to made) h = absurd (false≢true h)

-- what an accepted entry leaves that is no roll
record IsLeft (core : Core) (entry : Entry) : Type 0 where
  shown : (applied core entry).shown ≡ core.shown
  last : (applied core entry).last ≡ core.last
  counts : (counts : Counts) → counts_by core entry counts ≡ counts

left_by : (core : Core) (entry : Entry) → IsAsked entry → is_rolled (answer core entry) ≡ false → IsLeft core entry
left_by core (Local p word) a h = record { shown = refl; last = refl; counts = λ c. refl }
left_by core (Remote p frame word) a h = record { shown = refl; last = refl; counts = λ c. refl }
left_by core (Disconnect p) a h = record { shown = refl; last = refl; counts = λ c. refl }
left_by core Sync a h = absurd (false≢true (sym h))
left_by core Advance a h = absurd (false≢true (sym h))
left_by core (Graft ticket route) a h = record { shown = refl; last = refl; counts = λ c. refl }
left_by core (Partial to made) a h = absurd a

not_declined : (core : Core) (entry : Entry) → IsAsked entry → is_declined (answer core entry) ≡ true → ⊥
not_declined core (Local p word) a h = false≢true h
not_declined core (Remote p frame word) a h = false≢true h
not_declined core (Disconnect p) a h = false≢true h
not_declined core Sync a h = false≢true h
not_declined core Advance a h = false≢true h
not_declined core (Graft ticket route) a h = false≢true h
not_declined core (Partial to made) a h = a

-- what an accepted roll does
record IsRolledBy (core : Core) (entry : Entry) (m : ℕ) : Type 0 where
  ever : (applied core entry).ever ≡ core.ever ++ rolled_paths core m (cost core m)
  low : core.frame ≤ m
  high : m ≤ core.frame + 1
  frame : (applied core entry).frame ≡ m
  time : timeline (applied core entry).players m ≡ timeline core.players m
  last : (applied core entry).last ≡ Some (roll_of core m)
  counts : (counts : Counts) → counts_by core entry counts ≡ rolled (cost core m) counts

roll_in : (core : Core) (entry : Entry) → is_rolled (answer core entry) ≡ true → (m : ℕ) × IsRolledBy core entry m
roll_in core (Local p word) h = absurd (false≢true h)
roll_in core (Remote p frame word) h = absurd (false≢true h)
roll_in core (Disconnect p) h = absurd (false≢true h)
roll_in core Sync h = (
  core.frame,
  record {
    ever = refl;
    low = omega arith;
    high = omega arith;
    frame = refl;
    time = refl;
    last = refl;
    counts = λ c. refl;
  },
)
roll_in core Advance h = (
  core.frame + 1,
  record {
    ever = refl;
    low = omega arith;
    high = omega arith;
    frame = refl;
    time = timeline_none_given core.players (core.frame + 1);
    last = refl;
    counts = λ c. refl;
  },
)
roll_in core (Graft ticket route) h = absurd (false≢true h)
roll_in core (Partial to made) h = absurd (false≢true h)

stays_saved : (core : Core) (entry : Entry) (path : Rows) → contains core.ever path ≡ true → contains (applied core entry).ever path ≡ true
stays_saved core entry path h = in_has (core.ever ++ added_by core entry) path (in_left path core.ever (added_by core entry) (has_in core.ever path h))

-- what holds of a roll, and of any other event
by_rolled : (b : Bool) {P Q : Type 0} → (b ≡ true → P) → (b ≡ false → Q) → MatchBool b P Q
by_rolled true p q = p refl
by_rolled false p q = q refl

shown_by : (b : Bool) {A : Type 0} (x y z : A) → (b ≡ true → x ≡ y) → (b ≡ false → x ≡ z) → x ≡ cond b y z
shown_by true x y z p q = p refl
shown_by false x y z p q = q refl

-- the end of a roll is saved
end_saved : (core : Core) (m : ℕ) → (depth core m ≤ m) × In (timeline core.players (depth core m)) core.ever → In (timeline core.players m) (core.ever ++ rolled_paths core m (cost core m))
end_saved core m d = go (cost core m) refl
  where
    go : (n : ℕ) → cost core m ≡ n → In (timeline core.players m) (core.ever ++ rolled_paths core m n)
    go zero e =
        let same : depth core m ≡ m = omega (arith, e, d.0) in
        in_left (timeline core.players m) core.ever [] (subst (λ k. In (timeline core.players k) core.ever) same d.1)
    go (suc n) e =
        let far : depth core m + suc n ≡ m = omega (arith, e, d.0) in
        let whole : timeline core.players m ≡ take (depth core m + suc n) (timeline core.players m) = sym (ap (λ k. take k (timeline core.players m)) far ∙ take_timeline core.players m m (omega arith)) in
        in_right (timeline core.players m) core.ever (rolled_paths core m (suc n))
        (in_right (timeline core.players m) (rolled_paths core m n) (take (depth core m + suc n) (timeline core.players m) ∷ []) (inl whole))

module _ (step : Step) (old new : Seen) (event : CoreEvent) (said : Reply) where
  abbrev pub turn_of : Turn
  turn_of = record { before = old; event = event; said = said; after = new }

  pub refused_declined : WasDeclined old new event said → is_declined said ≡ true
  refused_declined d = go d.why
    where
      go : ((said ≡ Repeated) × (is_repeat old.core event.entry ≡ true)) ⊎ ((why : Refusal) × (said ≡ Refused why)) → is_declined said ≡ true
      go (inl h) = rw h.0 refl
      go (inr h) = rw h.1 refl

  never_rolled : {A : Type 0} → WasDeclined old new event said → is_rolled said ≡ true → A
  never_rolled d h = absurd (declined_not_rolled said (refused_declined d) h)

  module _ (a : WasAccepted step old new event said) where
    same_settings : new.settings ≡ old.settings
    same_settings = ap (λ (s : Seen). s.settings) a.seen

    same_opening : new.opening ≡ old.opening
    same_opening = ap (λ (s : Seen). s.opening) a.seen

    rolls : is_rolled said ≡ true → is_rolled (answer old.core event.entry) ≡ true
    rolls h = subst (λ (r : Reply). is_rolled r ≡ true) a.said_is h

    left_alone : IsAsked event.entry → is_rolled said ≡ false → IsLeft old.core event.entry
    left_alone asked h = left_by old.core event.entry asked (subst (λ (r : Reply). is_rolled r ≡ false) a.said_is h)

    accepted_shows : IsAsked event.entry → ShowsSerialRun step turn_of
    accepted_shows asked = shown_by (is_rolled said) (value_shown step new) (Some (run step new.opening (time_of new))) (value_shown step old) rolled_to stays
      where
        rolled_to : is_rolled said ≡ true → value_shown step new ≡ Some (run step new.opening (time_of new))
        rolled_to h =
            subst (λ (c : Core). option_map (run step new.opening) c.shown ≡ Some (run step new.opening (timeline c.players c.frame))) (sym a.core)
            (shows step new.opening old.core event.entry (rolls h))

        stays : is_rolled said ≡ false → value_shown step new ≡ value_shown step old
        stays h =
            let shown = ap (λ (c : Core). c.shown) a.core ∙ (left_alone asked h).shown in
            λ i. option_map (run step (same_opening i)) (shown i)

    module _ (l : FollowsLog step old) where
      -- each first part of a path that is saved then is saved too
      fronts_saved : (path : Rows) (n : ℕ) → contains new.core.ever path ≡ true → contains new.core.ever (take n path) ≡ true
      fronts_saved =
          let after : Seen = with_entries old (event.entry ∷ []) (counts_by old.core event.entry old.counts) in
          let law = law_of step after (follows_more step old l event after.counts a.fits) (λ s core. (path : Rows) (n : ℕ) → contains core.ever path ≡ true → contains core.ever (take n path) ≡ true) prefixes_are_saved in
          subst (λ (s : Seen). (path : Rows) (n : ℕ) → contains s.core.ever path ≡ true → contains s.core.ever (take n path) ≡ true) (sym a.seen) law

      module _ (m : ℕ) (r : IsRolledBy old.core event.entry m) where
        time_is : time_of new ≡ timeline old.core.players m
        time_is = subst (λ (c : Core). timeline c.players c.frame ≡ timeline old.core.players m) (sym a.core) (ap (timeline (applied old.core event.entry).players) r.frame ∙ r.time)

        last_is : new.core.last ≡ Some (roll_of old.core m)
        last_is = ap (λ (c : Core). c.last) a.core ∙ r.last

        fair : IsFair old.settings.players (roll_of old.core m)
        fair = law_of step old l (λ s core. (k : ℕ) → core.frame ≤ k → k ≤ core.frame + 1 → IsFair s.players (roll_of core k)) next_is_fair m r.low r.high

        least : (k : ℕ) → IsLeast old.core k
        least k = subst (λ (c : Core). IsLeast c k) (sym l.core) (least_of old.settings (game_of step old) old.log l.log k)

        fewest_is : IsFewest turn_of (claim_of new.settings.players (roll_of old.core m))
        fewest_is =
            let core : Core = old.core in
            let long = length_timeline core.players m in
            let sound : Sound old.settings core = law_of step old l Sound sound_played in
            let d = depth_is core m sound.root in
            let frame : new.core.frame ≡ m = ap (λ (c : Core). c.frame) a.core ∙ r.frame in
            record {
              starts =
                  subst (λ (q : Rows). IsSaved old (take (depth core m) q)) (sym time_is)
                  (in_has core.ever (take (depth core m) (timeline core.players m)) (subst (λ (q : Rows). In q core.ever) (sym (take_timeline core.players (depth core m) m d.0)) d.1));
              longest = λ path rest i e.
                  let leads : path ++ rest ≡ timeline core.players m = e ∙ time_is in
                  let few : cost core m ≤ length rest = least m path rest (record { saved = i; leads = leads }) in
                  omega (arith, few, long, d.0, ap (λ (q : Rows). length q) leads, length-append path rest);
              advanced = ap (λ (s : Seen). s.counts) a.seen ∙ r.counts old.counts ∙ ap (λ k. rolled (k - depth core m) old.counts) (sym frame);
              saves = λ n.
                  subst (λ (q : Rows). IsSaved new (take n q)) (sym time_is)
                  (fronts_saved (timeline core.players m) n (subst (λ (c : Core). contains c.ever (timeline core.players m) ≡ true) (sym a.core) (subst (λ (ps : List Rows). contains ps (timeline core.players m) ≡ true) (sym r.ever) (in_has (core.ever ++ rolled_paths core m (cost core m)) (timeline core.players m) (end_saved core m d)))));
            }

        certificate_is : IsCertificate turn_of (claim_of new.settings.players (roll_of old.core m))
        certificate_is =
            let core : Core = old.core in
            subst (λ n. IsCertificate turn_of (claim_of n (roll_of core m))) (ap (λ (s : Settings). s.players) (sym same_settings)) (record {
              right = fair_is_right old.settings.players (roll_of core m) fair;
              players = refl;
              base = refl;
              time = ap (drop (settled core)) (sym time_is);
              lists = refl;
            })

      accepted_fewest : IsAsked event.entry → RunsFewest turn_of
      accepted_fewest asked = by_rolled (is_rolled said) rolled_to stays
        where
          rolled_to : is_rolled said ≡ true → IsSomeAnd (last_claim new) (IsFewest turn_of)
          rolled_to h =
              let r = roll_in old.core event.entry (rolls h) in
              subst (λ (o : Option Roll). IsSomeAnd (option_map (claim_of new.settings.players) o) (IsFewest turn_of)) (sym (last_is r.0 r.1)) (fewest_is r.0 r.1)

          stays : is_rolled said ≡ false → new.counts ≡ old.counts
          stays h = ap (λ (s : Seen). s.counts) a.seen ∙ (left_alone asked h).counts old.counts

      accepted_certified : IsAsked event.entry → IsCertified turn_of
      accepted_certified asked = by_rolled (is_rolled said) rolled_to stays
        where
          rolled_to : is_rolled said ≡ true → IsSomeAnd (last_claim new) (IsCertificate turn_of)
          rolled_to h =
              let r = roll_in old.core event.entry (rolls h) in
              subst (λ (o : Option Roll). IsSomeAnd (option_map (claim_of new.settings.players) o) (IsCertificate turn_of)) (sym (last_is r.0 r.1)) (certificate_is r.0 r.1)

          stays : is_rolled said ≡ false → last_claim new ≡ last_claim old
          stays h =
              let last = ap (λ (c : Core). c.last) a.core ∙ (left_alone asked h).last in
              λ i. option_map (claim_of (same_settings i).players) (last i)

    accepted_takes : TakesOnce turn_of
    accepted_takes =
        let fails = (accepted_passes old.settings (game_of step old) old.core event a.fits).0 in
        record {
          next = subst (λ (q : Reply). IsNext old event.entry q) (sym a.said_is) (heard event.entry fails);
          words = λ p.
              ap (λ (c : Core). words_at c.players p) a.core ∙ words_applied old.settings (game_of step old) old.core event fails p
              ∙ ap (λ (q : Reply). words_of old p ++ words_in event.entry q p) (sym a.said_is);
        }
      where
        heard : (entry : Entry) → AllFail (tests_of old.settings (game_of step old) old.core event.value entry) → IsNext old entry (answer old.core entry)
        heard (Local p word) f = tt
        heard (Remote p frame word) f = remote_next old.settings (game_of step old) old.core p frame word f
        heard (Disconnect p) f = tt
        heard Sync f = tt
        heard Advance f = tt
        heard (Graft ticket route) f = tt
        heard (Partial to made) f = tt

    accepted_loses : IsAsked event.entry → LosesNothing turn_of
    accepted_loses asked = record {
      refused = λ h. absurd (not_declined old.core event.entry asked (subst (λ (q : Reply). is_declined q ≡ true) a.said_is h));
      saved = λ path h. subst (λ (c : Core). contains c.ever path ≡ true) (sym a.core) (stays_saved old.core event.entry path h);
    }

  module _ (d : WasDeclined old new event said) where
    declined_loses : LosesNothing turn_of
    declined_loses = record { refused = λ h. d.same; saved = λ path h. subst (λ (s : Seen). contains s.core.ever path ≡ true) (sym d.same) h }

    declined_takes : TakesOnce turn_of
    declined_takes = go d.why
      where
        none : (q : Reply) → said ≡ q → ((p : ℕ) → words_in event.entry q p ≡ []) → IsNext old event.entry q → TakesOnce turn_of
        none q e nothing next = record {
          next = subst (λ (r : Reply). IsNext old event.entry r) (sym e) next;
          words = λ p.
              ap (λ (s : Seen). words_of s p) d.same ∙ sym (append-nil (words_of old p))
              ∙ ap (λ (ws : List ℕ). words_of old p ++ ws) (sym (ap (λ (r : Reply). words_in event.entry r p) e ∙ nothing p));
        }

        unheard : (entry : Entry) (why : Refusal) → IsNext old entry (Refused why)
        unheard (Local p word) why = tt
        unheard (Remote p frame word) why = tt
        unheard (Disconnect p) why = tt
        unheard Sync why = tt
        unheard Advance why = tt
        unheard (Graft ticket route) why = tt
        unheard (Partial to made) why = tt

        again : (entry : Entry) → is_repeat old.core entry ≡ true → IsNext old entry Repeated
        again (Local p word) h = tt
        again (Remote p frame word) h = remote_again old.core.players p frame word h
        again (Disconnect p) h = tt
        again Sync h = tt
        again Advance h = tt
        again (Graft ticket route) h = tt
        again (Partial to made) h = tt

        no_words : (entry : Entry) (why : Refusal) (p : ℕ) → words_in entry (Refused why) p ≡ []
        no_words (Local q word) why p = refl
        no_words (Remote q frame word) why p = refl
        no_words (Disconnect q) why p = refl
        no_words Sync why p = refl
        no_words Advance why p = refl
        no_words (Graft ticket route) why p = refl
        no_words (Partial to made) why p = refl

        none_again : (entry : Entry) (p : ℕ) → words_in entry Repeated p ≡ []
        none_again (Local q word) p = refl
        none_again (Remote q frame word) p = refl
        none_again (Disconnect q) p = refl
        none_again Sync p = refl
        none_again Advance p = refl
        none_again (Graft ticket route) p = refl
        none_again (Partial to made) p = refl

        go : ((said ≡ Repeated) × (is_repeat old.core event.entry ≡ true)) ⊎ ((why : Refusal) × (said ≡ Refused why)) → TakesOnce turn_of
        go (inl h) = none Repeated h.0 (none_again event.entry) (again event.entry h.1)
        go (inr h) = none (Refused h.0) h.1 (no_words event.entry h.0) (unheard event.entry h.0)

  -- all that is true of a turn
  pub record IsTurn : Type 0 where
    pub shown : ShowsSerialRun step turn_of
    pub fewest : RunsFewest turn_of
    pub certificate : IsCertified turn_of
    pub inputs : TakesOnce turn_of
    pub nothing_lost : LosesNothing turn_of

  pub turn_is : FollowsLog step old → IsAsked event.entry → IsReplied step old new event said → IsTurn
  turn_is l asked r = go (came step old new event said r)
    where
      go : WasAccepted step old new event said ⊎ WasDeclined old new event said → IsTurn
      go (inl a) = record {
        shown = accepted_shows a asked;
        fewest = accepted_fewest a l asked;
        certificate = accepted_certified a l asked;
        inputs = accepted_takes a;
        nothing_lost = accepted_loses a asked;
      }
      go (inr d) = record {
        shown = shown_by (is_rolled said) (value_shown step new) (Some (run step new.opening (time_of new))) (value_shown step old) (λ h. never_rolled d h) (λ h. ap (value_shown step) d.same);
        fewest = by_rolled (is_rolled said) (λ h. never_rolled d h) (λ h. ap (λ (s : Seen). s.counts) d.same);
        certificate = by_rolled (is_rolled said) (λ h. never_rolled d h) (λ h. ap last_claim d.same);
        inputs = declined_takes d;
        nothing_lost = declined_loses d;
      }
