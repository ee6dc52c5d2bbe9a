-- Turn after turn of a worker.
use Rattle.std.proofs.Common.{◌≡◌, ◌∙◌, ℕ, true, List, [], ◌∷◌, ◌++◌, length, map, refl, sym, ap, subst, append_assoc, append-nil, arith}
use Rattle.std.specs.List.{AllZip}
use Rattle.std.proofs.lemmas.List.{map-append, length-map}
use Rattle.std.proofs.lemmas.Slice.Zip.{all_zipped_more, AllZip-long}
use Rattle.roll_branch.specs.Ends.{Ends, IsAsked, is_grown}
use Rattle.roll_branch.specs.Routed.{Routed}
use Rattle.roll_branch.specs.declared.branch.Done.{Done}
use Rattle.roll_game.specs.declared.counts.Counts.{Counts}
use Rattle.roll_pool.specs.Crews.{places_in}
use Rattle.roll_pool.specs.Served.{Member, Run, AreRuns, Serves, HasServed, AreBack}
use Rattle.roll_pool.specs.Workers.{Seated}
use Rattle.roll_pool.specs.Works.{DidNone, DidOne, Stops, Works}
use Rattle.roll_pool.specs.declared.worker.Worked.{Worked}
use Rattle.roll_pool.specs.declared.worker.Worked.TheVariants.{Did, Empty, RingFull, Closed}

module _ {G S N : Type 0} where
  -- one run more
  runs_push : (before mid after : Counts) (runs : List (Run (Done G S N))) (run : Run (Done G S N)) → AreRuns before runs mid → Ends run.job run.done → IsAsked (is_grown run.done) (length run.job.route.rows.items) mid run.after → after ≡ run.after → AreRuns before (runs ++ run ∷ []) after
  runs_push before mid after [] run was ends asked is = (ends, subst (λ (c : Counts). IsAsked (is_grown run.done) (length run.job.route.rows.items) c run.after) was asked, is)
  runs_push before mid after (first ∷ runs) run was ends asked is = (was.0, was.1, runs_push first.after mid after runs run was.2 ends asked is)

  runs_same : (before mid after : Counts) (runs : List (Run (Done G S N))) → AreRuns before runs mid → after ≡ mid → AreRuns before runs after
  runs_same before mid after runs was same = subst (λ (c : Counts). AreRuns before runs c) (sym same) was

  pub serves_none : (m : Member (Done G S N)) → Serves m m
  serves_none m = record { runs = []; place = refl; jobs = sym (append-nil m.end.jobs); results = sym (append-nil m.end.results); asked = refl }

  serves_same : (old mid new : Member (Done G S N)) → Serves old mid → new.end.place ≡ mid.end.place → new.end.jobs ≡ mid.end.jobs → new.end.results ≡ mid.end.results → new.counts ≡ mid.counts → Serves old new
  serves_same old mid new s place jobs results counts = record {
    runs = s.runs;
    place = place ∙ s.place;
    jobs = jobs ∙ s.jobs;
    results = results ∙ s.results;
    asked = runs_same old.counts mid.counts new.counts s.runs s.asked counts;
  }

  did_more : (ticket : ℕ) (old mid new : Member (Done G S N)) → Serves old mid → DidOne ticket mid.end new.end mid.counts new.counts → Serves old new
  did_more ticket old mid new s d =
      let run : Run (Done G S N) = record { job = d.job; done = d.done; after = new.counts } in record {
        runs = s.runs ++ run ∷ [];
        place = ap (λ (e : Seated (Done G S N)). e.place) d.taken ∙ s.place;
        jobs = ap (λ (e : Seated (Done G S N)). e.jobs) d.taken ∙ ap (λ l. l ++ d.job ∷ []) s.jobs ∙ append_assoc old.end.jobs (map (λ (r : Run (Done G S N)). r.job) s.runs) (d.job ∷ [])
            ∙ ap (λ l. old.end.jobs ++ l) (sym (map-append (λ (r : Run (Done G S N)). r.job) s.runs (run ∷ [])));
        results = ap (λ (e : Seated (Done G S N)). e.results) d.taken ∙ ap (λ l. l ++ d.done ∷ []) s.results ∙ append_assoc old.end.results (map (λ (r : Run (Done G S N)). r.done) s.runs) (d.done ∷ [])
            ∙ ap (λ l. old.end.results ++ l) (sym (map-append (λ (r : Run (Done G S N)). r.done) s.runs (run ∷ [])));
        asked = runs_push old.counts mid.counts new.counts s.runs run s.asked d.ends d.asked refl;
      }

  none_more : (old mid new : Member (Done G S N)) → Serves old mid → DidNone mid.end new.end mid.counts new.counts → Serves old new
  none_more old mid new s d = serves_same old mid new s (ap (λ (e : Seated (Done G S N)). e.place) d.same) (ap (λ (e : Seated (Done G S N)). e.jobs) d.same) (ap (λ (e : Seated (Done G S N)). e.results) d.same) d.counts

  -- whatever a turn did
  pub serves_more : (worked : Worked) (old mid new : Member (Done G S N)) → Serves old mid → Works worked mid.end new.end mid.counts new.counts → Serves old new
  serves_more (Did ticket) old mid new s w = did_more ticket old mid new s w
  serves_more Empty old mid new s w = none_more old mid new s w
  serves_more RingFull old mid new s w = none_more old mid new s w.0
  serves_more Closed old mid new s w = serves_same old mid new s (ap (λ (e : Seated (Done G S N)). e.place) w.stopped) (ap (λ (e : Seated (Done G S N)). e.jobs) w.stopped) (ap (λ (e : Seated (Done G S N)). e.results) w.stopped) w.counts

  stops : (worked : Worked) (old new : Member (Done G S N)) → worked ≡ Closed → Works worked old.end new.end old.counts new.counts → new.end.stopped ≡ true
  stops worked old new is w =
      let s : Stops old.end new.end old.counts new.counts = subst (λ (x : Worked). Works x old.end new.end old.counts new.counts) is w in
      ap (λ (e : Seated (Done G S N)). e.stopped) s.stopped

  pub serves_until : (worked : Worked) (old mid new : Member (Done G S N)) → Serves old mid → worked ≡ Closed → Works worked mid.end new.end mid.counts new.counts → HasServed old new
  serves_until worked old mid new s is w = record { serves = serves_more worked old mid new s w; stopped = stops worked mid new is w }

  -- one worker more is back
  pub back_more : (crew : List (Member (Done G S N))) (ends : List (Seated (Done G S N))) (counts : List Counts) (member new : Member (Done G S N)) (ends' : List (Seated (Done G S N))) (counts' : List Counts)
      → AreBack crew ends counts → HasServed member new → ends' ≡ ends ++ new.end ∷ [] → counts' ≡ counts ++ new.counts ∷ [] → AreBack (crew ++ member ∷ []) ends' counts'
  back_more crew ends counts member new ends' counts' b served ends_is counts_is = record {
    back = b.back ++ new ∷ [];
    served = all_zipped_more HasServed crew b.back member new b.served served;
    ends_are = map-append (λ (m : Member (Done G S N)). m.end) b.back (new ∷ []) ∙ ap (λ l. l ++ new.end ∷ []) b.ends_are ∙ sym ends_is;
    counts_are = map-append (λ (m : Member (Done G S N)). m.counts) b.back (new ∷ []) ∙ ap (λ l. l ++ new.counts ∷ []) b.counts_are ∙ sym counts_is;
  }

  pub none_back : AreBack {G = G} {S = S} {N = N} [] [] []
  none_back = record { back = []; served = tt; ends_are = refl; counts_are = refl }

  -- those who are back have kept their places, and are as many
  pub back_places : (crew back : List (Member (Done G S N))) → AllZip HasServed crew back → map (λ e. e.place) (map (λ m. m.end) back) ≡ places_in crew
  back_places [] [] h = refl
  back_places [] (b ∷ back) h = absurd h
  back_places (m ∷ crew) [] h = absurd h
  back_places (m ∷ crew) (b ∷ back) h = λ i. h.0.serves.place i ∷ back_places crew back h.1 i

  pub places_back : (crew : List (Member (Done G S N))) (ends : List (Seated (Done G S N))) (counts : List Counts) → AreBack crew ends counts → map (λ e. e.place) ends ≡ places_in crew
  places_back crew ends counts b = ap (map (λ (e : Seated (Done G S N)). e.place)) (sym b.ends_are) ∙ back_places crew b.back b.served

  pub many_back : (crew : List (Member (Done G S N))) (ends : List (Seated (Done G S N))) (counts : List Counts) → AreBack crew ends counts → length counts ≡ length crew
  many_back crew ends counts b = ap length (sym b.counts_are) ∙ length-map b.back (λ (m : Member (Done G S N)). m.counts) ∙ AllZip-long HasServed crew b.back b.served

  place_ends : (crew : List (Member (Done G S N))) → map (λ e. e.place) (map (λ m. m.end) crew) ≡ places_in crew
  place_ends [] = refl
  place_ends (m ∷ crew) = ap (λ l. m.end.place ∷ l) (place_ends crew)

  -- with nobody left all are back
  pub all_back : (first rest crew : List (Member (Done G S N))) (ends : List (Seated (Done G S N))) (counts : List Counts) → first ++ rest ≡ crew → length rest ≡ 0 → AreBack first ends counts → AreBack crew ends counts
  all_back first [] crew ends counts is none b = subst (λ l. AreBack l ends counts) (sym (append-nil first) ∙ is) b
  all_back first (m ∷ rest) crew ends counts is none b = absurd (omega arith)

  pub all_placed : (crew : List (Member (Done G S N))) (rest ends : List (Seated (Done G S N))) → map (λ m. m.end) crew ++ rest ≡ ends → length rest ≡ 0 → places_in crew ≡ map (λ e. e.place) ends
  all_placed crew [] ends is none = sym (place_ends crew) ∙ ap (map (λ (e : Seated (Done G S N)). e.place)) (sym (append-nil (map (λ (m : Member (Done G S N)). m.end) crew)) ∙ is)
  all_placed crew (e ∷ rest) ends is none = absurd (omega arith)
