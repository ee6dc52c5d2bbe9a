-- What a host tells are its settled rows.
use Rattle.std.proofs.Common.{◌≡◌, ◌∙◌, ◌≤◌, ◌<◌, ◌⊎◌, ℕ, ◌+◌, ◌-◌, ◌*◌, List, [], ◌∷◌, ◌++◌, length, get_or, map, take, drop, refl, sym, ap, arith, true, false, inl, inr, length-append}
use Rattle.std.specs.List.{range_with_len}
use Rattle.std.specs.Option.{option_map_or}
use Rattle.std.specs.Prelude.{nat_lt, sum_by, nat_le, ◌==◌, if◌then◌else◌}
use Rattle.std.proofs.lemmas.Bool.{and_from, cases_Bool, cases_lt, cond-false, cond-true, eq-eqb, le-leb, le-ltb, lt-ltb, ne_eqb}
use Rattle.std.proofs.lemmas.List.{drop_at, get_or-drop, get_or-take, length-drop, length-take, take_at}
use Rattle.std.proofs.lemmas.List.Sums.{sum_by-cons}
use Rattle.std.proofs.lemmas.List.FromFn.{fill_by_all, get_or-map-range_with_len, length-map-range_with_len}
use Rattle.std.proofs.lemmas.Option.{slice_get-get_or, slice_get_past}
use Rattle.roll_frame.specs.Timeline.{cell_at, row_at, timeline, Player}
use Rattle.roll_frame.specs.declared.row.Cell.{Cell}
use Rattle.roll_frame.specs.declared.row.Cell.TheVariants.{Gone, Word}
use Rattle.roll_frame.proofs.Timelines.{length_timeline, timeline_row}
use Rattle.roll_laws.proofs.Fronts.{AllReach, HasStaying}
use Rattle.roll_member.specs.Telling.{words_at}
use Rattle.roll_mesh.specs.declared.packet.Offer.{Offer}
use Rattle.roll_wire.specs.Spelling.{are_offers, is_offer}
use Rattle.roll_viewer.specs.Rows.{cell_in, first_of, row_count, row_in}
use Rattle.roll_viewer.specs.Telling.{span_of, words_in}

module _ (m had room : ℕ) (fits : room ≤ m - had) where
  -- as many words are told as are offered
  told_words : (p : Player) → length (words_at p.words (span_of m had room p)) ≡ (span_of m had room p).end - had
  told_words p = omega (
    arith,
    length-take ((span_of m had room p).end - had) (drop had p.words),
    length-drop had p.words,
  )

  cell_is : (p : Player) (i : ℕ) → i < room → (p.gone ≡ false → m ≤ length p.words)
      → cell_in i (words_at p.words (span_of m had room p)) ≡ cell_at (had + i) p
  cell_is p i l reach = go (cases_lt (had + i) (length p.words))
    where
      words : List ℕ
      words = words_at p.words (span_of m had room p)

      gone_is : (p.gone ≡ true) ⊎ (p.gone ≡ false) → length p.words ≤ had + i → Gone ≡ cell_at (had + i) p
      gone_is (inl e) g =
          sym (cond-false _ _ _ (le-ltb (had + i) (length p.words) g) ∙ cond-true _ _ _ e)
      gone_is (inr e) g =
          let far : m ≤ length p.words = reach e in
          absurd (omega (arith, far, g, l, fits))

      go : (had + i < length p.words) ⊎ (length p.words ≤ had + i) → cell_in i words ≡ cell_at (had + i) p
      go (inl here) =
          let inside : i < length words = omega (arith, told_words p, here, l, fits) in
          let at : get_or words i 0 ≡ get_or p.words (had + i) 0 =
          get_or-take ((span_of m had room p).end - had) (drop had p.words) i 0 (omega (arith, told_words p, inside))
          ∙ get_or-drop had p.words i 0 in
          ap (λ o. option_map_or (λ word. Word word) o Gone) (slice_get-get_or words i 0 inside)
          ∙ ap (λ word. Word word) at ∙ sym (cond-true _ _ _ (lt-ltb (had + i) (length p.words) here))
      go (inr past) =
          ap (λ o. option_map_or (λ word. Word word) o Gone)
          (slice_get_past words i (omega (arith, told_words p, past)))
          ∙ gone_is (cases_Bool p.gone) past

  -- the words are shared out again as they were told
  row_told : (ps : List Player) (more : List Offer) (i : ℕ) → i < room → AllReach m ps
      → row_in (map (span_of m had room) ps) (words_in ps (map (span_of m had room) ps ++ more)) i ≡ row_at ps (had + i)
  row_told [] more i l reach = refl
  row_told (p ∷ ps) more i l reach =
      let mine : List ℕ = words_at p.words (span_of m had room p) in
      let rest : List ℕ = words_in ps (map (span_of m had room) ps ++ more) in
      let count : ℕ = (span_of m had room p).end - had in
      let here : cell_in i (take count (mine ++ rest)) ≡ cell_at (had + i) p =
      ap (cell_in i) (take_at mine rest count (told_words p)) ∙ cell_is p i l reach.0 in
      let later : row_in (map (span_of m had room) ps) (drop count (mine ++ rest)) i ≡ row_at ps (had + i) =
      ap (λ ws. row_in (map (span_of m had room) ps) ws i) (drop_at mine rest count (told_words p))
      ∙ row_told ps more i l reach.1 in
      cc (here, later)

  -- some player has a word in each row, and no player has more
  count_most : (ps : List Player) → row_count (map (span_of m had room) ps) ≤ room
  count_most [] = omega arith
  count_most (p ∷ ps) = omega (arith, count_most ps)

  count_least : (ps : List Player) → AllReach m ps → HasStaying ps
      → room ≤ row_count (map (span_of m had room) ps)
  count_least [] reach stays = absurd stays
  count_least (p ∷ ps) reach (inl e) =
      let far : m ≤ length p.words = reach.0 e in omega (arith, far, fits)
  count_least (p ∷ ps) reach (inr s) = omega (arith, count_least ps reach.1 s)

  -- the rows of the timeline from a frame on
  time_rows : (ps : List Player) → take room (drop had (timeline ps m)) ≡ map (λ i. row_at ps (had + i)) (range_with_len 0 room)
  time_rows ps =
      let n : length (take room (drop had (timeline ps m))) ≡ room =
      omega (
        arith,
        fits,
        length-take room (drop had (timeline ps m)),
        length-drop had (timeline ps m),
        length_timeline ps m,
      ) in
      fill_by_all (λ i. row_at ps (had + i)) (take room (drop had (timeline ps m))) room [] n
      (λ i l. get_or-take room (drop had (timeline ps m)) i [] l ∙ get_or-drop had (timeline ps m) i []
      ∙ timeline_row ps m (had + i) [] (omega (arith, l, fits)))

  pub rows_told : (ps : List Player) (more : List Offer) → AllReach m ps → HasStaying ps
      → map (row_in (map (span_of m had room) ps) (words_in ps (map (span_of m had room) ps ++ more)))
      (range_with_len 0 (row_count (map (span_of m had room) ps)))
      ≡ take room (drop had (timeline ps m))
  rows_told ps more reach stays =
      let offers : List Offer = map (span_of m had room) ps in
      let row : ℕ → List Cell = row_in offers (words_in ps (offers ++ more)) in
      let count : row_count offers ≡ room = omega (arith, count_most ps, count_least ps reach stays) in
      ap (λ n. map row (range_with_len 0 n)) count
      ∙ fill_by_all (λ i. row_at ps (had + i)) (map row (range_with_len 0 room)) room []
      (length-map-range_with_len row 0 room)
      (λ i l. get_or-map-range_with_len row 0 room i i [] l (omega arith) ∙ row_told ps more i l reach)
      ∙ sym (time_rows ps)

  -- the words of all offers, and how many these are
  pub count_told : (ps : List Player) → sum_by (λ (o : Offer). o.end - o.first) (map (span_of m had room) ps)
      ≤ length ps * room
  count_told [] = omega arith
  count_told (p ∷ ps) =
      let first : (span_of m had room p).end - had ≤ room = omega arith in
      omega (arith, first, count_told ps, sum_by-cons (λ (o : Offer). o.end - o.first) (span_of m had room p) (map (span_of m had room) ps))

  pub words_told : (ps : List Player) (more : List Offer) → length (words_in ps (map (span_of m had room) ps ++ more))
      ≡ sum_by (λ (o : Offer). o.end - o.first) (map (span_of m had room) ps)
  words_told [] more = refl
  words_told (p ∷ ps) more =
      omega (
        arith,
        length-append (words_at p.words (span_of m had room p)) (words_in ps (map (span_of m had room) ps ++ more)),
        told_words p,
        words_told ps more,
        sum_by-cons (λ (o : Offer). o.end - o.first) (span_of m had room p) (map (span_of m had room) ps),
      )

  -- the first that has words begins at the first row
  first_had : (ps : List Player) (more : List Offer) → 1 ≤ row_count (map (span_of m had room) ps)
      → first_of (map (span_of m had room) ps ++ more) ≡ had
  first_had [] more some = absurd (omega (arith, some))
  first_had (p ∷ ps) more some =
      elim (cases_lt had (span_of m had room p).end) [
        | inl l ↦ cond-true _ _ _ (lt-ltb had (span_of m had room p).end l)
        | inr l ↦ cond-false _ _ _ (le-ltb had (span_of m had room p).end l) ∙ first_had ps more (omega (arith, l, some))
      ]

  -- and none has, if no rows are told
  first_none : (ps : List Player) (more : List Offer) → row_count (map (span_of m had room) ps) ≡ 0
      → first_of (map (span_of m had room) ps ++ more) ≡ first_of more
  first_none [] more none = refl
  first_none (p ∷ ps) more none =
      let l : (span_of m had room p).end ≤ had = omega (arith, none) in
      cond-false _ _ _ (le-ltb had (span_of m had room p).end l)
      ∙ first_none ps more (omega (arith, none))

  pub first_span : (ps : List Player) (more : List Offer) → AllReach m ps → HasStaying ps → first_of more ≡ 0
      → first_of (map (span_of m had room) ps ++ more) ≡ (if room == 0 then 0 else had)
  first_span ps more reach stays e = go (cases_lt 0 room)
    where
      count : row_count (map (span_of m had room) ps) ≡ room
      count = omega (arith, count_most ps, count_least ps reach stays)

      go : (0 < room) ⊎ (room ≤ 0) → first_of (map (span_of m had room) ps ++ more) ≡ (if room == 0 then 0 else had)
      go (inl l) =
          first_had ps more (omega (arith, count, l))
          ∙ sym (cond-false _ _ _ (ne_eqb room 0 (omega (arith, l))))
      go (inr l) =
          first_none ps more (omega (arith, count, l)) ∙ e
          ∙ sym (cond-true _ _ _ (eq-eqb room 0 (omega (arith, l))))

  pub forward : (ps : List Player) → room < 256 → are_offers (map (span_of m had room) ps) ≡ true
  forward [] small = refl
  forward (p ∷ ps) small =
      let o : Offer = span_of m had room p in
      and_from (is_offer o) (are_offers (map (span_of m had room) ps))
      (and_from (nat_le had o.end) (nat_lt (o.end - had) 256) (le-leb had o.end (omega arith)) (lt-ltb (o.end - had) 256 (omega (arith, small))))
      (forward ps small)
