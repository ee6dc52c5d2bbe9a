-- A push along the rings of all spectators.
use Rattle.std.proofs.Common.{◌≡◌, ◌∙◌, ◌+◌, ◌*◌, ◌≤◌, ◌<◌, ℕ, List, ◌∷◌, length, take, drop, get_or, set, sym, ap, arith}
use Rattle.std.specs.Prelude.{sum_by}
use Rattle.std.specs.List.{AllZip}
use Rattle.std.proofs.lemmas.List.{drop-set-lt, drop_more, length-drop, take_more, take_more_set}
use Rattle.std.proofs.lemmas.List.Elements.{AllZip-push}
use Rattle.std.proofs.lemmas.List.Sums.{sum_by-set}
use Rattle.roll_frame.specs.Cells.{Rows}
use Rattle.roll_frame.specs.declared.limits.TheConstants.{FRAME_LIMIT}
use Rattle.roll_spectate.specs.Sent.{Fed, IsFed}

-- the first rings were pushed to, the others are as they were, and this many rows were sent
pub record IsSentTo (settled : Rows) (old now : List Fed) (index count : ℕ) : Type 0 where
  pub done : AllZip (IsFed settled) (take index old) (take index now)
  pub rest : drop index now ≡ drop index old
  pub sum : sum_by (λ f. length f.rows) now ≡ sum_by (λ f. length f.rows) old + count
  pub few : count ≤ index * FRAME_LIMIT

module _ (settled : Rows) (old now : List Fed) (index count : ℕ) (s : IsSentTo settled old now index count) (there : index < length old) (d : Fed) where
  lt : index < length now
  lt = omega (arith, there, length-drop index now, length-drop index old, ap length s.rest)

  -- the next ring is as it was, and so are those after it
  next : (get_or now index d ≡ get_or old index d) × (drop (index + 1) now ≡ drop (index + 1) old)
  next =
      let e : get_or now index d ∷ drop (index + 1) now ≡ get_or old index d ∷ drop (index + 1) old = sym (drop_more now index d lt) ∙ s.rest ∙ drop_more old index d there in
      (cc e, cc e)

  -- one ring more
  pub one_more : (new : Fed) (sent : ℕ) → IsFed settled (get_or now index d) new → length new.rows ≡ length (get_or now index d).rows + sent → sent ≤ FRAME_LIMIT → IsSentTo settled old (set now index new) (index + 1) (count + sent)
  one_more new sent pushed more small =
      record {
        done = rw (take_more old index d there) (rw (take_more_set now index new lt) (AllZip-push (IsFed settled) (take index old) (take index now) (get_or old index d) new s.done (rw (← next.0) pushed)));
        rest = drop-set-lt (index + 1) now index new (omega arith) ∙ next.1;
        sum = omega (arith, sum_by-set (λ (f : Fed). length f.rows) now index new d lt, s.sum, more);
        few = omega (arith, s.few, small);
      }
