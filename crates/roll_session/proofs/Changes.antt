-- What each call changes, and what is answered by the rules: each follows from the other.
use Rattle.std.proofs.Common.{◌≡◌, ◌∙◌, ◌⊎◌, ℕ, ◌+◌, ◌-◌, [], arith, ◌∷◌, ◌++◌, length, List, cond, append-nil, refl, sym, ap, subst, inl, inr, false, true, Bool, Some, None, Ok, Err, Option, Result}
use Rattle.std.specs.Prelude.{is_none, max, not, IfErr, IfOk, OnErr, OnOk}
use Rattle.std.proofs.lemmas.Bool.{and_parts, false≢true, not-true}
use Rattle.std.specs.Option.{option_map_or}
use Rattle.roll_branch.specs.Routed.{Routed}
use Rattle.roll_frame.specs.Events.{CoreEvent, answer, branch_of, is_repeat, refusal}
use Rattle.roll_frame.specs.Grafts.{new_paths}
use Rattle.roll_frame.specs.Inputs.{changed, is_repeated, with_given, with_gone, with_words}
use Rattle.roll_frame.specs.Timeline.{Player, row_at}
use Rattle.roll_frame.specs.declared.entry.Entry.{Entry}
use Rattle.roll_frame.specs.declared.entry.Entry.TheVariants.{Local, Remote, Disconnect, Sync, Advance}
use Rattle.roll_frame.specs.declared.refusal.Refusal.{Refusal}
use Rattle.roll_frame.specs.declared.refusal.Refusal.TheVariants.{NoMemory}
use Rattle.roll_frame.specs.declared.reply.Reply.{Reply}
use Rattle.roll_frame.specs.declared.reply.Reply.TheVariants.{Refused, Done, Repeated, Disconnected, Synchronized, Reached, Grafted as GraftedThere}
use Rattle.roll_frame.specs.declared.row.Cell.{Cell}
use Rattle.roll_inputs.specs.declared.heard.Heard.{Heard}
use Rattle.roll_inputs.specs.declared.heard.Heard.TheVariants.{Taken as HeardNow, Repeated as HeardBefore}
use Rattle.roll_session.specs.Answered.{counts_by, replied, with_entries, IsAnswered, IsCutShort, IsReplied}
use Rattle.roll_session.specs.Calls.{grafting, heard_reply}
use Rattle.roll_session.specs.Changes.{advance_refusal, after_advance, after_disconnect, after_graft, after_input, after_local, after_sync, disconnect_refusal, graft_refusal, local_refusal, remote_refusal, sync_refusal, IsHeard, IsPartial, IsRefused, IsRollRefused, reached_by}
use Rattle.roll_session.specs.Headline.{is_declined}
use Rattle.roll_session.specs.Seen.{Seen, Step, game_of, plain}
use Rattle.roll_session.specs.declared.event.Grafted.{Grafted as Grafts}
use Rattle.roll_session.specs.declared.event.Reached.{Reached as Steps}
use Rattle.roll_session.proofs.Runs.{none_added, replied_accepted, replied_refused, replied_repeated}
use Rattle.roll_session.proofs.Turns.{came, refused_declined, WasAccepted, WasDeclined}

-- an input adds no path
input_is : (s : Seen) (entry : Entry) (players : List Player)
    → record (after_input s entry players) { core = record (after_input s entry players).core { ever = s.core.ever ++ [] } }
    ≡ after_input s entry players
input_is s entry players =
    λ i. record (after_input s entry players) { core = record (after_input s entry players).core { ever = append-nil s.core.ever i } }

-- what is reserved for a branch goes with it
pub graft_reserved : (s : Seen) (branch : Routed) → after_graft (record s { reserved = max s.reserved 1 }) branch ≡ after_graft s branch
graft_reserved s branch =
    let same : max s.reserved 1 - 1 ≡ s.reserved - 1 = omega arith in
    λ i. record (after_graft s branch) { reserved = same i }

none_of : (o : Option Refusal) → is_none o ≡ true → o ≡ None
none_of None e = refl
none_of (Some why) e = absurd (false≢true e)

module _ (step : Step) (old new : Seen) (event : CoreEvent) where
  abbrev why_not : Option Refusal
  why_not = refusal old.settings (game_of step old) old.core event

  -- an event that isn't declined was accepted
  taken_of : (said : Reply) → is_declined said ≡ false → IsAnswered step old new event said
      → (is_repeat old.core event.entry ≡ false) × (why_not ≡ None)
      × (new ≡ with_entries old (event.entry ∷ []) (counts_by old.core event.entry old.counts))
  taken_of said d (inr h) = absurd (false≢true (sym (rw h.0 at d)))
  taken_of said d (inl r) = go (came step old new event said r)
    where
      go : WasAccepted step old new event said ⊎ WasDeclined old new event said → (is_repeat old.core event.entry ≡ false) × (why_not ≡ None) × (new ≡ with_entries old (event.entry ∷ []) (counts_by old.core event.entry old.counts))
      go (inl a) =
          let both = and_parts (not (is_repeat old.core event.entry)) (is_none why_not) a.fits in
          (not-true (is_repeat old.core event.entry) both.0, none_of why_not both.1, a.seen)
      go (inr w) = absurd (false≢true (sym d ∙ refused_declined step old new event said w))

  -- one that is refused changes nothing, unless the game refused in its roll
  refused_of : (why : Refusal) → ((w : Refusal) → answer old.core event.entry ≡ Refused w → ⊥) → IsAnswered step old new event (Refused why)
      → (is_repeat old.core event.entry ≡ false)
      × (IsRefused why_not old new why ⊎ ((why ≡ NoMemory) × (why_not ≡ None) × IsCutShort old new event.entry))
  refused_of why never (inl r) = go (is_repeat old.core event.entry) why_not refl refl r.said_is
    where
      go : (b : Bool) (o : Option Refusal) → is_repeat old.core event.entry ≡ b → why_not ≡ o → Refused why ≡ cond b Repeated (option_map_or Refused o (answer old.core event.entry))
          → (is_repeat old.core event.entry ≡ false) × (IsRefused why_not old new why ⊎ ((why ≡ NoMemory) × (why_not ≡ None) × IsCutShort old new event.entry))
      go true o e f h = absurd (cc h)
      go false None e f h = absurd (never why (sym h))
      go false (Some w) e f h = (
        e,
        inl (record {
          said = rw f (cc h);
          unchanged = (rw (e, f) at r.played.seen) ∙ sym (none_added old);
          reserved = λ n. absurd (let no : None ≡ Some w = sym n ∙ f in cc no);
        }),
      )
  refused_of why never (inr h) =
      let both = and_parts (not (is_repeat old.core event.entry)) (is_none why_not) h.1.accepted in
      (not-true (is_repeat old.core event.entry) both.0, go (cc h.0) (none_of why_not both.1) h.1.left)
    where
      go : why ≡ NoMemory → why_not ≡ None → ((new ≡ old) × (old.reserved ≡ 0)) ⊎ IsCutShort old new event.entry
          → IsRefused why_not old new why ⊎ ((why ≡ NoMemory) × (why_not ≡ None) × IsCutShort old new event.entry)
      go is none (inl left) = inl (record { said = rw none is; unchanged = left.0; reserved = λ e. left.1 })
      go is none (inr cut) = inr (is, none, cut)

  -- a refusal, and the answer that it is
  pub refused_answered : (why : Refusal) → is_repeat old.core event.entry ≡ false → IsRefused why_not old new why → IsAnswered step old new event (Refused why)
  refused_answered why fresh r = go why_not refl
    where
      go : (o : Option Refusal) → why_not ≡ o → IsAnswered step old new event (Refused why)
      go None e = inr (ap Refused (rw e at r.said), record { accepted = rw (fresh, e) refl; left = inl (r.unchanged, r.reserved e) })
      go (Some w) e =
          let same : why ≡ w = rw e at r.said in
          inl (subst (λ (s : Seen). IsReplied step old s event (Refused why)) (sym r.unchanged) (replied_refused step old event why fresh (e ∙ ap Some (sym same))))

  -- the same of an event that rolls
  pub roll_refused_answered : (to : ℕ) (why : Refusal) → is_repeat old.core event.entry ≡ false → (IsPartial old new to → IsCutShort old new event.entry) → IsRollRefused why_not old new to why
      → IsAnswered step old new event (Refused why)
  roll_refused_answered to why fresh cut (inl r) = refused_answered why fresh r
  roll_refused_answered to why fresh cut (inr h) = inr (ap Refused h.0, record { accepted = rw (fresh, h.1) refl; left = inr (cut h.2) })

module _ (step : Step) (old new : Seen) where
  -- a local word
  pub local_taken : (p word : ℕ) → IsAnswered step old new (plain (Local p word)) Done → (local_refusal old p ≡ None) × (new ≡ after_local old p word)
  local_taken p word a =
      let t = taken_of step old new (plain (Local p word)) Done refl a in
      (t.1, t.2 ∙ input_is old (Local p word) (changed (with_given word) old.core.players p))

  pub local_refused : (p word : ℕ) (why : Refusal) → IsAnswered step old new (plain (Local p word)) (Refused why) → IsRefused (local_refusal old p) old new why
  local_refused p word why a = elim (refused_of step old new (plain (Local p word)) why (λ w e. cc e) a).1 [ inl r ↦ r | inr h ↦ absurd h.2 ]

  pub local_answered : {X : Type 0} (p word : ℕ) (result : Result X Refusal) → OnOk result (local_refusal old p ≡ None) → OnOk result (new ≡ after_local old p word)
      → IfErr result (IsRefused (local_refusal old p) old new) → IsAnswered step old new (plain (Local p word)) (replied (λ done. Done) result)
  local_answered p word (Ok done) fine taken refused =
      inl (replied_accepted step old (plain (Local p word)) new refl fine (taken ∙ sym (input_is old (Local p word) (changed (with_given word) old.core.players p))))
  local_answered p word (Err why) fine taken refused = refused_answered step old new (plain (Local p word)) why refl refused

  -- a remote word
  pub remote_heard : (p frame word : ℕ) (heard : Heard) → IsAnswered step old new (plain (Remote p frame word)) (heard_reply heard) → IsHeard old new p frame word heard
  remote_heard p frame word HeardNow a =
      let t = taken_of step old new (plain (Remote p frame word)) (heard_reply HeardNow) refl a in
      (t.0, t.1, t.2 ∙ input_is old (Remote p frame word) (changed (with_words (word ∷ [])) old.core.players p))
  remote_heard p frame word HeardBefore (inr h) = absurd (cc h.0)
  remote_heard p frame word HeardBefore (inl r) = go (came step old new (plain (Remote p frame word)) Repeated r)
    where
      go : WasAccepted step old new (plain (Remote p frame word)) Repeated ⊎ WasDeclined old new (plain (Remote p frame word)) Repeated → IsHeard old new p frame word HeardBefore
      go (inl a) = let e = a.said_is in absurd (cc e)
      go (inr d) = elim d.why [ inl h ↦ (h.1, d.same) | inr h ↦ absurd (let e = h.1 in cc e) ]

  pub remote_refused : (p frame word : ℕ) (why : Refusal) → IsAnswered step old new (plain (Remote p frame word)) (Refused why)
      → (is_repeated old.core.players p frame word ≡ false) × IsRefused (remote_refusal old p frame) old new why
  remote_refused p frame word why a =
      let t = refused_of step old new (plain (Remote p frame word)) why (λ w e. cc e) a in
      (t.0, elim t.1 [ inl r ↦ r | inr h ↦ absurd h.2 ])

  -- both
  pub heard_of : (p frame word : ℕ) (result : Result Heard Refusal) → IsAnswered step old new (plain (Remote p frame word)) (replied heard_reply result)
      → IfOk result (IsHeard old new p frame word) × OnErr result (is_repeated old.core.players p frame word ≡ false)
      × IfErr result (IsRefused (remote_refusal old p frame) old new)
  heard_of p frame word (Ok heard) a = (remote_heard p frame word heard a, tt, tt)
  heard_of p frame word (Err why) a = let r = remote_refused p frame word why a in (tt, r.0, r.1)

  pub remote_answered : (p frame word : ℕ) (result : Result Heard Refusal) → IfOk result (IsHeard old new p frame word) → OnErr result (is_repeated old.core.players p frame word ≡ false)
      → IfErr result (IsRefused (remote_refusal old p frame) old new) → IsAnswered step old new (plain (Remote p frame word)) (replied heard_reply result)
  remote_answered p frame word (Ok HeardNow) heard new_word refused =
      inl (replied_accepted step old (plain (Remote p frame word)) new heard.0 heard.1 (heard.2 ∙ sym (input_is old (Remote p frame word) (changed (with_words (word ∷ [])) old.core.players p))))
  remote_answered p frame word (Ok HeardBefore) heard new_word refused =
      inl (subst (λ (s : Seen). IsReplied step old s (plain (Remote p frame word)) Repeated) (sym heard.1) (replied_repeated step old (plain (Remote p frame word)) heard.0))
  remote_answered p frame word (Err why) heard new_word refused = refused_answered step old new (plain (Remote p frame word)) why new_word refused

  -- a player who leaves
  pub disconnect_taken : (p : ℕ) → IsAnswered step old new (plain (Disconnect p)) (Disconnected p) → (disconnect_refusal old p ≡ None) × (new ≡ after_disconnect old p)
  disconnect_taken p a =
      let t = taken_of step old new (plain (Disconnect p)) (Disconnected p) refl a in
      (t.1, t.2 ∙ input_is old (Disconnect p) (changed with_gone old.core.players p))

  pub disconnect_refused : (p : ℕ) (why : Refusal) → IsAnswered step old new (plain (Disconnect p)) (Refused why) → IsRefused (disconnect_refusal old p) old new why
  disconnect_refused p why a = elim (refused_of step old new (plain (Disconnect p)) why (λ w e. cc e) a).1 [ inl r ↦ r | inr h ↦ absurd h.2 ]

  pub disconnect_answered : {X : Type 0} (p : ℕ) (result : Result X Refusal) → OnOk result (disconnect_refusal old p ≡ None) → OnOk result (new ≡ after_disconnect old p)
      → IfErr result (IsRefused (disconnect_refusal old p) old new) → IsAnswered step old new (plain (Disconnect p)) (replied (λ event. Disconnected p) result)
  disconnect_answered p (Ok event) fine taken refused =
      inl (replied_accepted step old (plain (Disconnect p)) new refl fine (taken ∙ sym (input_is old (Disconnect p) (changed with_gone old.core.players p))))
  disconnect_answered p (Err why) fine taken refused = refused_answered step old new (plain (Disconnect p)) why refl refused

  -- a roll to this frame
  pub sync_rolled : (row : List Cell) → IsAnswered step old new (plain Sync) (Synchronized row) → (sync_refusal old ≡ None) × (new ≡ after_sync old)
  sync_rolled row a = let t = taken_of step old new (plain Sync) (Synchronized row) refl a in (t.1, t.2)

  pub sync_refused : (why : Refusal) → IsAnswered step old new (plain Sync) (Refused why) → IsRollRefused (sync_refusal old) old new old.core.frame why
  sync_refused why a = (refused_of step old new (plain Sync) why (λ w e. cc e) a).1

  pub sync_answered : (result : Result (List Cell) Refusal) → OnOk result (sync_refusal old ≡ None) → IfOk result (λ row. row ≡ row_at old.core.players old.core.frame) → OnOk result (new ≡ after_sync old)
      → IfErr result (IsRollRefused (sync_refusal old) old new old.core.frame) → IsAnswered step old new (plain Sync) (replied (λ row. Synchronized row) result)
  sync_answered (Ok row) fine is rolled refused =
      inl (subst (λ (r : List Cell). IsReplied step old new (plain Sync) (Synchronized r)) (sym is) (replied_accepted step old (plain Sync) new refl fine rolled))
  sync_answered (Err why) fine is rolled refused = roll_refused_answered step old new (plain Sync) old.core.frame why refl (λ h. h) refused

  -- a roll to the next frame
  pub advance_rolled : (frame from rerun : ℕ) → IsAnswered step old new (plain Advance) (Reached frame from rerun) → (advance_refusal old ≡ None) × (new ≡ after_advance old)
  advance_rolled frame from rerun a = let t = taken_of step old new (plain Advance) (Reached frame from rerun) refl a in (t.1, t.2)

  pub advance_refused : (why : Refusal) → IsAnswered step old new (plain Advance) (Refused why) → IsRollRefused (advance_refusal old) old new (old.core.frame + 1) why
  advance_refused why a = (refused_of step old new (plain Advance) why (λ w e. cc e) a).1

  pub advance_answered : (result : Result Steps Refusal) → OnOk result (advance_refusal old ≡ None) → IfOk result (λ reached. reached ≡ reached_by old.core) → OnOk result (new ≡ after_advance old)
      → IfErr result (IsRollRefused (advance_refusal old) old new (old.core.frame + 1)) → IsAnswered step old new (plain Advance) (replied (λ reached. Reached reached.frame reached.from reached.rerun) result)
  advance_answered (Ok reached) fine is rolled refused =
      inl (subst (λ (r : Steps). IsReplied step old new (plain Advance) (Reached r.frame r.from r.rerun)) (sym is) (replied_accepted step old (plain Advance) new refl fine rolled))
  advance_answered (Err why) fine is rolled refused = roll_refused_answered step old new (plain Advance) (old.core.frame + 1) why refl (λ h. h) refused

  -- a branch, by its parts and as the rules have it
  pub graft_answered : (branch : Routed) (result : Result Grafts Refusal) → OnOk result (graft_refusal step old branch ≡ None) → IfOk result (λ g. g.added ≡ length (new_paths old.core (branch_of branch.route))) → OnOk result (new ≡ after_graft old branch)
      → IfErr result (IsRefused (graft_refusal step old branch) old new) → IsAnswered step old new (grafting branch) (replied (λ g. GraftedThere g.added) result)
  graft_answered branch (Ok g) fine added taken refused =
      inl (subst (λ n. IsReplied step old new (grafting branch) (GraftedThere n)) (sym added) (replied_accepted step old (grafting branch) new refl fine taken))
  graft_answered branch (Err why) fine added taken refused = refused_answered step old new (grafting branch) why refl refused
