-- The rows of a play are taken in one after the other.
use Rattle.std.proofs.Common.{◌≡◌, ◌∙◌, ◌≤◌, ◌<◌, ◌+◌, ◌-◌, ℕ, List, [], ◌∷◌, ◌++◌, length, take, get_or, map, sym, ap, arith, inl, inr, append_assoc, append-nil}
use Rattle.std.specs.List.{range_with_len}
use Rattle.std.proofs.lemmas.List.{get_or-drop, length-drop, take_more}
use Rattle.std.proofs.lemmas.List.FromFn.{get_or-map-range_with_len, length-map-range_with_len}
use Rattle.roll_frame.specs.Cells.{Rows}
use Rattle.roll_mesh.specs.declared.packet.Offer.{Offer}
use Rattle.roll_wire.specs.Spelling.{Turn}
use Rattle.roll_viewer.specs.Queued.{with_next, IsFull, Queued}
use Rattle.roll_viewer.specs.Rows.{first_row, news_in, row_count, row_in, AreTaken}

pub some_offers : (offers : List Offer) (i : ℕ) → i < row_count offers → 1 ≤ length offers
some_offers [] i l = absurd (omega arith)
some_offers (o ∷ offers) i l = omega arith

-- so many of a play's rows were gone through, and those that a viewer lacked were taken in
pub record AreTakenTo (players : ℕ) (t : Turn) (old now : Queued) (from index : ℕ) : Type 0 where
  pub waiting : now.waiting ≡ old.waiting ++ take (index - from) (news_in players t old.count)
  pub counted : now.count ≡ old.count + (index - from)
  pub begun : from ≤ index
  pub few : index - from ≤ length (news_in players t old.count)

module _ (players : ℕ) (t : Turn) (old : Queued) (from : ℕ) (e : from ≡ old.count - first_row t) where
  many : length (news_in players t old.count) ≡ row_count (take players t.head.offers) - from
  many = omega (
    arith,
    e,
    length-drop (old.count - first_row t) (map (row_in (take players t.head.offers) t.words) (range_with_len 0 (row_count (take players t.head.offers)))),
    length-map-range_with_len (row_in (take players t.head.offers) t.words) 0 (row_count (take players t.head.offers)),
  )

  news_at : (i : ℕ) → from ≤ i → i < row_count (take players t.head.offers)
      → get_or (news_in players t old.count) (i - from) [] ≡ row_in (take players t.head.offers) t.words i
  news_at i low l =
      let f : ℕ = old.count - first_row t in
      let n : ℕ = row_count (take players t.head.offers) in
      get_or-drop f (map (row_in (take players t.head.offers) t.words) (range_with_len 0 n)) (i - from) []
      ∙ get_or-map-range_with_len (row_in (take players t.head.offers) t.words) 0 n (f + (i - from)) i [] (omega (arith, e, low, l)) (omega (arith, e, low))

  -- one row more
  pub taken_more : (now new : Queued) (i : ℕ) → AreTakenTo players t old now from i → i < row_count (take players t.head.offers)
      → new ≡ with_next (row_in (take players t.head.offers) t.words i) now
      → AreTakenTo players t old new from (i + 1)
  taken_more now new i s l made =
      let news : Rows = news_in players t old.count in
      let inside : i - from < length news = omega (arith, many, l, s.begun) in
      let step : i + 1 - from ≡ (i - from) + 1 = omega (arith, s.begun) in
      let next : take (i + 1 - from) news ≡ take (i - from) news ++ row_in (take players t.head.offers) t.words i ∷ [] =
      ap (λ n. take n news) step ∙ take_more news (i - from) [] inside
      ∙ ap (λ r. take (i - from) news ++ r ∷ []) (news_at i s.begun l) in
      record {
        waiting = ap (λ (q : Queued). q.waiting) made
            ∙ ap (λ rs. rs ++ row_in (take players t.head.offers) t.words i ∷ []) s.waiting
            ∙ append_assoc old.waiting (take (i - from) news) (row_in (take players t.head.offers) t.words i ∷ [])
            ∙ ap (λ rs. old.waiting ++ rs) (sym next);
        counted = omega (arith, ap (λ (q : Queued). q.count) made, s.counted, step);
        begun = omega (arith, s.begun);
        few = omega (arith, many, l);
      }

  -- no more may wait
  pub taken_full : (now new : Queued) (i : ℕ) → AreTakenTo players t old now from i → i < row_count (take players t.head.offers)
      → new ≡ now → IsFull now → AreTaken players t old new (i - from)
  taken_full now new i s l same full = rw same (record {
    waiting = s.waiting;
    counted = s.counted;
    few = omega (arith, many, l, s.begun);
    all = inr full;
  })

  -- all were taken in
  pub taken_all : (now : Queued) (i end : ℕ) → AreTakenTo players t old now from i → end ≡ row_count (take players t.head.offers)
      → end ≤ i → AreTaken players t old now (end - from)
  taken_all now i end s is past =
      let news : Rows = news_in players t old.count in
      let n : length news ≡ end - from = omega (arith, many, is) in
      let same : i - from ≡ end - from = omega (arith, past, many, is, s.few) in
      record {
        waiting = s.waiting ∙ ap (λ k. old.waiting ++ take k news) same;
        counted = omega (arith, s.counted, same);
        few = omega (arith, n);
        all = inl (omega (arith, n));
      }

-- none was taken in yet
pub none_taken : (players : ℕ) (t : Turn) (old : Queued) (from : ℕ) → AreTakenTo players t old old from from
none_taken players t old from =
    let none : 0 ≡ from - from = omega arith in
    record {
      waiting = sym (append-nil old.waiting) ∙ ap (λ n. old.waiting ++ take n (news_in players t old.count)) none;
      counted = omega arith;
      begun = omega arith;
      few = omega arith;
    }
