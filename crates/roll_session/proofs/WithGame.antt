-- A session with its game, over the one without: what the rules say is the same, and the game's values stay.
use Rattle.std.proofs.Common.{◌≡◌, ◌∙◌, ◌⊎◌, ℕ, ◌+◌, ◌-◌, ◌≤◌, List, [], ◌∷◌, ◌++◌, append-nil, length, length-append, length-take, map, take, refl, ap, sym, subst, arith, Bool, true, false, inl, inr, Option, Some, None, Result, Ok, Err}
use Rattle.std.specs.Prelude.{◌&&◌, drop, is_none, nat_le, not, if◌then◌else◌, IfErr, IfOk, OnErr}
use Rattle.std.specs.Option.{option_map_or}
use Rattle.std.specs.List.{AllByRecursion}
use Rattle.std.proofs.lemmas.Bool.{cases_Bool}
use Rattle.std.proofs.lemmas.List.Elements.{All-cons, All-from_recursion, All-nil, recursion_from_All}
use Rattle.roll_branch.specs.Routed.{AreStates, Routed}
use Rattle.roll_frame.specs.Cells.{Rows}
use Rattle.roll_frame.specs.Core.{Core, cost, kept, settled}
use Rattle.roll_frame.specs.Events.{answer, applied, branch_of, is_accepted, is_repeat, refusal, replay}
use Rattle.roll_frame.specs.Games.{Game, Value}
use Rattle.roll_frame.specs.Grafts.{anchor, anchor_length, graft_tests, start_of as start_rows, Branch}
use Rattle.roll_frame.specs.Paths.{prefixes, run}
use Rattle.roll_frame.specs.Refusals.{first_refusal}
use Rattle.roll_frame.specs.Settings.{open_to_branches, start_refusal}
use Rattle.roll_frame.specs.Timeline.{timeline}
use Rattle.roll_frame.specs.declared.entry.Entry.{Entry}
use Rattle.roll_frame.specs.declared.entry.Entry.TheVariants.{Partial}
use Rattle.roll_frame.specs.declared.refusal.Refusal.{Refusal}
use Rattle.roll_frame.specs.declared.refusal.Refusal.TheVariants.{LogFull, Stranger}
use Rattle.roll_frame.specs.declared.reply.Reply.{Reply}
use Rattle.roll_frame.specs.declared.reply.Reply.TheVariants.{Refused, Repeated}
use Rattle.roll_frame.specs.declared.settings.Settings.{Settings}
use Rattle.roll_game.specs.declared.counts.Counts.{Counts}
use Rattle.roll_inputs.specs.Boards.{Inputs}
use Rattle.roll_inputs.specs.declared.heard.Heard.{Heard}
use Rattle.roll_inputs.specs.declared.heard.Heard.TheVariants.{Taken as HeardNow, Repeated as HeardBefore}
use Rattle.roll_laws.specs.Sessions.{IsLog}
use Rattle.roll_laws.proofs.Glue.{log_first, log_more}
use Rattle.roll_laws.proofs.Prefixes.{in_prefixes}
use Rattle.roll_laws.proofs.Saved.{In, in_either}
use Rattle.roll_tree.specs.SavedStates.{Saved, paths_of}
use Rattle.roll_session.specs.Answered.{counts_by, with_entries, IsAnswered, IsCutShort, IsPlayed}
use Rattle.roll_session.specs.Calls.{entry_of, event_of, grafting, IsAdmitted, IsAllowed, IsInput, IsRollTo}
use Rattle.roll_session.specs.Changes.{after_graft, after_partial, graft_refusal}
use Rattle.roll_session.specs.Gameless.{bare_branch, still, unroomed, with_game, Bare, HasGame, KeepsAll, KeepsGrafted, KeepsWorths}
use Rattle.roll_session.specs.Grafting.{ahead_of, branch_tests, start_of}
use Rattle.roll_session.specs.Guessing.{job_along}
use Rattle.roll_session.specs.Started.{first_seen}
use Rattle.roll_game.specs.Counts.{no_calls}
use Rattle.roll_session.specs.Held.{IsKept, IsSession, Shows, inputs_of, planned_of}
use Rattle.roll_session.specs.Saves.{HaveValues, IsRunTo, KeepsValues, GrowsBy, Standing, deepest_toward, rows_to, settled_by, settling, stepped_inputs}
use Rattle.roll_session.specs.Seen.{FollowsLog, Seen, Step, game_of}
use Rattle.roll_session.specs.Standing.{from_start, settled_rows}
use Rattle.roll_session.specs.declared.event.Call.{Call}
use Rattle.roll_session.specs.declared.event.Call.TheVariants.{Local as LocalCall, Remote as RemoteCall, Disconnect as DisconnectCall, Sync as SyncCall, Advance as AdvanceCall}
use Rattle.roll_session.proofs.Bares.{keeps_settled, no_run, stepped_rows}
use Rattle.roll_session.proofs.Entering.{not_full, partial_by, roll_cases}
use Rattle.roll_session.proofs.Grafting.{can_graft, is_taken}
use Rattle.roll_session.proofs.Guessing.{session_made}
use Rattle.roll_session.proofs.Judging.{graft_refused}
use Rattle.roll_session.proofs.Holding.{accepted, is_small, partial_accepted}
use Rattle.roll_session.proofs.NewStates.{rest_fits}
use Rattle.roll_session.proofs.Rows.{length-rows_from}
use Rattle.roll_session.proofs.Runs.{played_not}

-- no test of a call asks the game
same_refusal : (settings : Settings) (one other : Game) (core : Core) (call : Call) → refusal settings one core (event_of call) ≡ refusal settings other core (event_of call)
same_refusal settings one other core (LocalCall p word) = refl
same_refusal settings one other core (RemoteCall p f word) = refl
same_refusal settings one other core (DisconnectCall p) = refl
same_refusal settings one other core SyncCall = refl
same_refusal settings one other core AdvanceCall = refl

same_accepted : (settings : Settings) (one other : Game) (core : Core) (call : Call) → is_accepted settings one core (event_of call) ≡ is_accepted settings other core (event_of call)
same_accepted settings one other core call = ap (λ (o : Option Refusal). not (is_repeat core (entry_of call)) && is_none o) (same_refusal settings one other core call)

-- an input asks the game for nothing
input_counts : (core : Core) (call : Call) → IsInput call → (b : Bool) (counts : Counts) → (if b then counts_by core (entry_of call) counts else counts) ≡ counts
input_counts core call i false counts = refl
input_counts core (LocalCall p word) i true counts = refl
input_counts core (RemoteCall p f word) i true counts = refl
input_counts core (DisconnectCall p) i true counts = refl
input_counts core SyncCall i true counts = absurd i
input_counts core AdvanceCall i true counts = absurd i

never_cut : (old new : Seen) (call : Call) → IsInput call → IsCutShort old new (entry_of call) → ⊥
never_cut old new (LocalCall p word) i cut = cut
never_cut old new (RemoteCall p f word) i cut = cut
never_cut old new (DisconnectCall p) i cut = cut
never_cut old new SyncCall i cut = absurd i
never_cut old new AdvanceCall i cut = absurd i

module _ (step : Step) (opening : Value) (counts : Counts) where
  abbrev there : Seen → Seen
  there s = with_game opening counts s

  module _ (call : Call) where
    -- a call that the rules accept
    pub allowed_there : (s : Seen) → IsAllowed still s call → IsAllowed step (there s) call
    allowed_there s a = record { new = a.new; accepted = same_refusal s.settings (game_of step (there s)) (game_of still s) s.core call ∙ a.accepted }

    pub admitted_there : (old mid : Seen) (heard : Heard) → IsAdmitted still old mid call heard → IsAdmitted step (there old) (there mid) call heard
    admitted_there old mid HeardNow a = (allowed_there old a.0, ap there a.1)
    admitted_there old mid HeardBefore a = (a.0, ap there a.1)

    -- its reply
    said_there : (old : Seen) (said : Reply) → said ≡ (if is_repeat old.core (entry_of call) then Repeated else option_map_or Refused (refusal old.settings (game_of still old) old.core (event_of call)) (answer old.core (entry_of call)))
        → said ≡ (if is_repeat old.core (entry_of call) then Repeated else option_map_or Refused (refusal old.settings (game_of step (there old)) old.core (event_of call)) (answer old.core (entry_of call)))
    said_there old said e =
        e ∙ ap (λ (o : Option Refusal). if is_repeat old.core (entry_of call) then Repeated else option_map_or Refused o (answer old.core (entry_of call))) (same_refusal old.settings (game_of still old) (game_of step (there old)) old.core call)

    accepted_there : (old : Seen) → is_accepted old.settings (game_of still old) old.core (event_of call) ≡ is_accepted old.settings (game_of step (there old)) old.core (event_of call)
    accepted_there old = same_accepted old.settings (game_of still old) (game_of step (there old)) old.core call

    -- an input is answered as it is without the game
    pub answered_there : IsInput call → (old new : Seen) (said : Reply) → IsAnswered still old new (event_of call) said → IsAnswered step (there old) (there new) (event_of call) said
    answered_there input old new said (inl r) =
        let e = accepted_there old in
        inl (record {
          said_is = said_there old said r.said_is;
          played = record {
            seen = ap there r.played.seen ∙ (λ i. with_entries (there old) (if e i then entry_of call ∷ [] else []) (sym (input_counts old.core call input (e i) counts) i));
            core = r.played.core ∙ ap (λ (b : Bool). if b then applied old.core (entry_of call) else old.core) e;
          };
        })
    answered_there input old new said (inr h) =
        inr (h.0, record { accepted = sym (accepted_there old) ∙ h.1.accepted; left = go h.1.left })
      where
        go : ((new ≡ old) × (old.reserved ≡ 0)) ⊎ IsCutShort old new (entry_of call) → ((there new ≡ there old) × (old.reserved ≡ 0)) ⊎ IsCutShort (there old) (there new) (entry_of call)
        go (inl same) = inl (ap there same.0, same.1)
        go (inr cut) = absurd (never_cut old new call input cut)

    -- and so is any call that is refused, and changes nothing
    pub refused_there : (old new : Seen) (why : Refusal) → new ≡ old → IsAnswered still old new (event_of call) (Refused why) → IsAnswered step (there old) (there new) (event_of call) (Refused why)
    refused_there old new why same (inl r) = by (cases_Bool (is_accepted old.settings (game_of still old) old.core (event_of call)))
      where
        logged : is_accepted old.settings (game_of still old) old.core (event_of call) ≡ true → ⊥
        logged e =
            let one = ap (λ (s : Seen). length s.log) (sym same ∙ r.played.seen) ∙ ap (λ (b : Bool). length (old.log ++ (if b then entry_of call ∷ [] else []))) e in
            omega (arith, one, length-append old.log (entry_of call ∷ []))

        by : (is_accepted old.settings (game_of still old) old.core (event_of call) ≡ true) ⊎ (is_accepted old.settings (game_of still old) old.core (event_of call) ≡ false) → IsAnswered step (there old) (there new) (event_of call) (Refused why)
        by (inl e) = absurd (logged e)
        by (inr e) =
            inl (record {
              said_is = said_there old (Refused why) r.said_is;
              played = subst (λ (s : Seen). IsPlayed step (there old) (there s) (event_of call ∷ [])) (sym same) (played_not step (there old) (event_of call) (sym (accepted_there old) ∙ e));
            })
    refused_there old new why same (inr h) =
        inr (h.0, record { accepted = sym (accepted_there old) ∙ h.1.accepted; left = go h.1.left })
      where
        cut_logs : (to : ℕ) → (made : ℕ) (c : Counts) → new ≡ after_partial old to made c → ⊥
        cut_logs to made c e = omega (arith, ap (λ (s : Seen). s.core.logged) (sym same ∙ e))

        never : (call : Call) → IsCutShort old new (entry_of call) → ⊥
        never (LocalCall p word) cut = cut
        never (RemoteCall p f word) cut = cut
        never (DisconnectCall p) cut = cut
        never SyncCall cut = cut_logs old.core.frame cut.made new.counts cut.seen
        never AdvanceCall cut = cut_logs (old.core.frame + 1) cut.made new.counts cut.seen

        go : ((new ≡ old) × (old.reserved ≡ 0)) ⊎ IsCutShort old new (entry_of call) → ((there new ≡ there old) × (old.reserved ≡ 0)) ⊎ IsCutShort (there old) (there new) (entry_of call)
        go (inl nothing) = inl (ap there nothing.0, nothing.1)
        go (inr cut) = absurd (never call cut)

    pub all_refused_there : {N X : Type 0} (old new : Bare N) (result : Result X Refusal) → IfErr result (λ why. IsAnswered still old.seen new.seen (event_of call) (Refused why)) → OnErr result (new ≡ old) → IfErr result (λ why. IsAnswered step (there old.seen) (there new.seen) (event_of call) (Refused why))
    all_refused_there old new (Ok x) refused same = tt
    all_refused_there old new (Err why) refused same = refused_there old.seen new.seen why (ap (λ (s : Bare _). s.seen) same) refused

-- a test that doesn't hold in another's place
softer : (tests : List (Bool × Refusal)) (test : Bool) (why : Refusal) (more : List (Bool × Refusal)) → first_refusal (tests ++ (test, why) ∷ more) ≡ None → first_refusal (tests ++ (false, why) ∷ more) ≡ None
softer [] true why more e = absurd (cc e)
softer [] false why more e = e
softer ((true, first) ∷ tests) test why more e = absurd (cc e)
softer ((false, first) ∷ tests) test why more e = softer tests test why more e

-- a branch that is accepted with the game is so without it
pub graft_bare : (step : Step) (opening : Value) (counts : Counts) (s : Seen) (branch : Routed) → s.opening ≡ [] → graft_refusal step (with_game opening counts s) branch ≡ None → graft_refusal still s (bare_branch branch.ticket branch.route) ≡ None
graft_bare step opening counts s branch nothing fine =
    let route : Branch = branch_of branch.route in
    let most : ℕ = open_to_branches s.settings.profile in
    let tests : List (Bool × Refusal) = graft_tests (game_of step (with_game opening counts s)) most s.core branch.from route ++ (nat_le s.settings.log s.core.logged, LogFull) ∷ [] in
    rw (nothing, no_run (anchor s.core route), no_run (take (anchor_length s.core route - length (start_rows s.core route)) route.rows)) (softer (take 6 tests) _ Stranger (drop 7 tests) fine)

-- at the start
pub has_started : {S N : Type 0} {state_value : S → Value} {snapshot_value : N → Value} {step : Step} (s : Bare N) (opening : Value) (settings : Settings) (first : N) (state : S) → start_refusal settings ≡ None → s.seen ≡ first_seen settings [] no_calls
    → s.saves.tree.states ≡ record { name = s.saves.tree.root; path = []; snapshot = first } ∷ [] → s.saves.inputs ≡ inputs_of s.seen.settings s.seen.core → snapshot_value first ≡ opening → state_value state ≡ opening
    → HasGame state_value snapshot_value step opening s (Some state)
has_started {snapshot_value = snapshot_value} {step = step} s opening settings first state fine seen states inputs value shown = record {
  is_log = rw seen (log_first settings (record { opening = opening; step = step }) fine);
  values = rw (inputs, seen, states) (All-cons (λ (u : Saved _). snapshot_value u.snapshot ≡ run step opening u.path) (record { name = s.saves.tree.root; path = []; snapshot = first }) [] value (All-nil (λ (u : Saved _). snapshot_value u.snapshot ≡ run step opening u.path)));
  shows = rw seen shown;
}

module _ {S N : Type 0} {state_value : S → Value} {snapshot_value : N → Value} {step : Step} {opening : Value} (s : Bare N) {current : Option S} (h : HasGame state_value snapshot_value step opening s current) where
  abbrev game : Game
  game = record { opening = opening; step = step }

  -- an input was heard
  pub has_heard : (new : Bare N) (call : Call) (said : Reply) → IsInput call → FollowsLog still s.seen → IsAnswered still s.seen new.seen (event_of call) said → KeepsAll s.saves new.saves → new.seen.core.shown ≡ s.seen.core.shown → HasGame state_value snapshot_value step opening new current
  has_heard new call said input f a keeps shown = record {
    is_log = logged a;
    values = keeps snapshot_value step opening h.values;
    shows = rw shown h.shows;
  }
    where
      entered : (b : Bool) → is_accepted s.seen.settings game (replay s.seen.settings s.seen.log) (event_of call) ≡ b → IsLog s.seen.settings game (s.seen.log ++ (if b then entry_of call ∷ [] else []))
      entered true e = log_more s.seen.settings game s.seen.log (event_of call) h.is_log e
      entered false e = rw (append-nil s.seen.log) h.is_log

      logged : IsAnswered still s.seen new.seen (event_of call) said → IsLog new.seen.settings game new.seen.log
      logged (inl r) =
          let e = same_accepted s.seen.settings game (game_of still s.seen) (replay s.seen.settings s.seen.log) call in
          let there = subst (λ (c : Core). is_accepted s.seen.settings (game_of still s.seen) c (event_of call) ≡ is_accepted s.seen.settings (game_of still s.seen) s.seen.core (event_of call)) f.core refl in
          subst (λ (t : Seen). IsLog t.settings game t.log) (sym r.played.seen) (entered (is_accepted s.seen.settings (game_of still s.seen) s.seen.core (event_of call)) (e ∙ there))
      logged (inr e) = go e.1.left
        where
          go : ((new.seen ≡ s.seen) × (s.seen.reserved ≡ 0)) ⊎ IsCutShort s.seen new.seen (entry_of call) → IsLog new.seen.settings game new.seen.log
          go (inl same) = rw same.0 h.is_log
          go (inr cut) = absurd (never_cut s.seen new.seen call input cut)

  module _ (f : FollowsLog still s.seen) (inputs : s.saves.inputs ≡ inputs_of s.seen.settings s.seen.core) (kept_is : from_start (settled_rows s.seen.core) (paths_of s.saves.tree) ≡ kept s.seen.core) where
    -- all that the fields of a session keep
    pub session_of : IsSession state_value snapshot_value step opening s.seen.settings s.seen.log s.saves (planned_of s.seen.settings (replay s.seen.settings s.seen.log)) current
    session_of =
        let values : HaveValues snapshot_value step opening (settled_rows s.seen.core) s.saves.tree.states = rw inputs at h.values in
        let kept_here : IsKept snapshot_value step opening s.seen.settings s.seen.core s.saves = record { inputs = inputs; kept_is = kept_is; values = values } in
        record {
          is_log = h.is_log;
          kept = subst (λ (c : Core). IsKept snapshot_value step opening s.seen.settings c s.saves) f.core kept_here;
          shows = subst (λ (c : Core). Shows state_value step opening c.shown current) f.core h.shows;
          plan = refl;
          small = is_small s.seen.settings game s.seen.log h.is_log;
        }

    module _ (saves : Standing N) (same : unroomed saves ≡ s.saves) where
      -- a job that is made
      pub made_with_game : (rows : Rows) (job : Option Routed) (result : Result (Option Routed) Refusal) → job_along step opening s.saves rows ≡ job
          → IfOk result (λ made. (x : Value) → HaveValues snapshot_value step x (timeline saves.inputs.players saves.inputs.settled) saves.tree.states → made ≡ job_along step x saves rows)
          → IfOk result (λ made. made ≡ job)
      made_with_game rows job result is made =
          session_made session_of rows job result is
          (subst (λ (u : Standing N). IfOk result (λ made. (x : Value) → HaveValues snapshot_value step x (timeline u.inputs.players u.inputs.settled) u.tree.states → made ≡ job_along step x u rows)) same made)

      -- why a branch is refused
      pub graft_refused_there : (branch : Routed) (most : ℕ) (first : Option Refusal) → most ≡ open_to_branches s.seen.settings.profile
          → ((x : Value) → HaveValues snapshot_value step x (timeline saves.inputs.players saves.inputs.settled) saves.tree.states → first ≡ first_refusal (branch_tests step x most saves branch))
          → refusal s.seen.settings game s.seen.core (grafting branch) ≡ (if is_none first && nat_le s.seen.settings.log (length s.seen.log) then Some LogFull else first)
      graft_refused_there branch most first most_is judge =
          rw f.core
          (graft_refused session_of branch most first most_is
          (subst (λ (u : Standing N). (x : Value) → HaveValues snapshot_value step x (timeline u.inputs.players u.inputs.settled) u.tree.states → first ≡ first_refusal (branch_tests step x most u branch)) same judge))

    -- a roll was made
    pub has_rolled : (new : Bare N) (call : Call) (to : ℕ) (counts : Counts) (state : S) → IsRollTo s.seen.core call to → IsAllowed step (with_game opening counts s.seen) call → new.seen ≡ with_entries s.seen (entry_of call ∷ []) s.seen.counts
        → KeepsWorths snapshot_value step s.saves new.saves → IsRunTo snapshot_value step s.saves to (state_value state) → HasGame state_value snapshot_value step opening new (Some state)
    has_rolled new call to counts state is_to allowed entered keeps runs =
        let value : state_value state ≡ run step opening (timeline s.seen.core.players to) = runs opening h.values ∙ ap (λ (i : Inputs). run step opening (timeline i.players to)) inputs in
        record {
          is_log = rw entered (log_more s.seen.settings game s.seen.log (event_of call) h.is_log (rw (← f.core) (accepted s.seen.settings game s.seen.core (event_of call) allowed.new allowed.accepted)));
          values = keeps opening h.values;
          shows = rw entered
              (roll_cases (λ (e : Call). Shows state_value step opening (applied s.seen.core (entry_of e)).shown (Some state)) s.seen.core call to is_to
              (λ e. value ∙ ap (λ (n : ℕ). run step opening (timeline s.seen.core.players n)) e) (λ e. value ∙ ap (λ (n : ℕ). run step opening (timeline s.seen.core.players n)) e));
        }

    -- a roll that the game refused
    pub has_partly : (new : Bare N) (call : Call) (to made : ℕ) (counts : Counts) → IsRollTo s.seen.core call to → IsAllowed step (with_game opening counts s.seen) call → made ≤ cost s.seen.core to → new.seen ≡ after_partial s.seen to made s.seen.counts
        → KeepsWorths snapshot_value step s.saves new.saves → HasGame state_value snapshot_value step opening new None
    has_partly new call to made counts is_to allowed few cut keeps = record {
      is_log = rw cut
          (log_more s.seen.settings game s.seen.log (record { entry = Partial to made; value = [] }) h.is_log
          (accepted s.seen.settings game (replay s.seen.settings s.seen.log) (record { entry = Partial to made; value = [] }) refl
          (partial_accepted s.seen.settings game (replay s.seen.settings s.seen.log) to made (partial_by session_of call to made (rw f.core at is_to) (rw f.core at allowed.accepted) (rw f.core at few)) (not_full session_of (entry_of call) (rw f.core at allowed.accepted)))));
      values = keeps opening h.values;
      shows = rw cut tt;
    }

    -- a branch was taken in
    pub has_grafted : (new : Bare N) (branch : Routed) (counts : Counts) (states : List N) → graft_refusal step (with_game opening counts s.seen) branch ≡ None → new.seen ≡ after_graft s.seen (bare_branch branch.ticket branch.route)
        → AreStates snapshot_value step branch.from branch.route.rows.items states → KeepsGrafted s.saves new.saves branch.route states → HasGame state_value snapshot_value step opening new current
    has_grafted new branch counts states fine entered are keeps =
        let fine_here = rw f.core at fine in
        let g = can_graft session_of branch fine_here in
        let rows : settled_rows (replay s.seen.settings s.seen.log) ≡ timeline s.saves.inputs.players s.saves.inputs.settled = ap settled_rows (sym f.core) ∙ ap (λ (i : Inputs). timeline i.players i.settled) (sym inputs) in
        record {
          is_log = rw entered (log_more s.seen.settings game s.seen.log (grafting branch) h.is_log (is_taken session_of branch fine_here));
          values = keeps snapshot_value step opening h.values (λ frame d low high.
              let place : frame - start_of branch.route + 1 ≡ frame + 1 - start_of branch.route = omega (arith, g.low, low) in
              are.worth (frame - start_of branch.route) d (omega (arith, g.low, low, high, rest_fits s.saves branch.route, are.many))
              ∙ ap (λ n. run step branch.from (take n branch.route.rows.items)) place ∙ g.worth frame low
              ∙ ap (λ (q : Rows). run step opening (q ++ take (frame + 1 - s.saves.inputs.settled) (ahead_of s.saves.inputs branch.route))) rows);
          shows = rw entered h.shows;
        }

-- ---- a roll by the game that is at hand

-- rows lead to nothing where nothing is known
some_run : (x : Value) (rows : Rows) → 1 ≤ length rows → [] ≡ run still x rows
some_run x [] few = absurd (omega (arith, few))
some_run x (row ∷ rows) few = sym (no_run rows)

module _ {N : Type 0} where
  paths_held : (P : Rows → Type 0) (states : List (Saved N)) → AllByRecursion (λ u. P u.path) states → (q : Rows) → In q (map (λ u. u.path) states) → P q
  paths_held P [] all q i = absurd i
  paths_held P (u ∷ states) all q (inl e) = subst P (sym e) all.0
  paths_held P (u ∷ states) all q (inr i) = paths_held P states all.1 q i

  held_by_paths : (P : Rows → Type 0) (states : List (Saved N)) → ((q : Rows) → In q (map (λ u. u.path) states) → P q) → AllByRecursion (λ u. P u.path) states
  held_by_paths P [] f = tt
  held_by_paths P (u ∷ states) f = (f u.path (inl refl), held_by_paths P states (λ q i. f q (inr i)))

  -- each state more is worth nothing there
  pub still_grows : (old new : Standing N) (to n : ℕ) → n ≤ to - old.inputs.settled → GrowsBy old new to n → KeepsValues (λ u. []) still old new
  still_grows old new to n few grows = λ x all.
      let T : Rows = timeline old.inputs.players old.inputs.settled in
      let R : Rows = rows_to old.inputs to in
      let P : Rows → Type 0 = λ q. [] ≡ run still x (T ++ q) in
      let long : length R ≡ to - old.inputs.settled = length-rows_from old.inputs.players old.inputs.settled (to - old.inputs.settled) in
      let old_held = paths_held P old.tree.states (recursion_from_All _ old.tree.states all) in
      let new_held : (q : Rows) → In q (prefixes R (deepest_toward old to) n) → P q = λ q i.
      let r = in_prefixes q R (deepest_toward old to) n i in
      some_run x (T ++ q) (omega (arith, length-append T q, ap (λ (p : Rows). length p) r.3, length-take r.0 R, long, r.1, r.2, few)) in
      let held : (q : Rows) → In q (paths_of new.tree) → P q = λ q i.
      elim (in_either q (paths_of old.tree) (prefixes R (deepest_toward old to) n) (subst (In q) grows i)) [
        | inl one ↦ old_held q one
        | inr other ↦ new_held q other
      ] in
      All-from_recursion _ new.tree.states (held_by_paths P new.tree.states held)

  -- stepped on from and settled, all that is kept has its value
  pub keeps_rolled : (value : N → Value) (step : Step) (old after cut new : Standing N) (entry : Entry) → KeepsValues value step old after → after.inputs ≡ old.inputs → cut.inputs ≡ stepped_inputs after.inputs entry → cut.tree ≡ after.tree
      → new.inputs ≡ record cut.inputs { settled = cut.inputs.settled + settling cut } → new.tree.states ≡ settled_by cut (settling cut) → KeepsWorths value step old new
  keeps_rolled value step old after cut new entry kept same inputs tree after_inputs after_states = λ opening h.
      let rows : timeline cut.inputs.players cut.inputs.settled ≡ timeline old.inputs.players old.inputs.settled = ap (λ (i : Inputs). timeline i.players i.settled) inputs ∙ stepped_rows after.inputs entry ∙ ap (λ (i : Inputs). timeline i.players i.settled) same in
      keeps_settled cut new after_inputs after_states value step opening (rw (tree, rows) (kept opening h))
