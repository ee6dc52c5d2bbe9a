-- What a host told goes on from the rows that a viewer has.
use Rattle.std.proofs.Common.{◌≡◌, ◌∙◌, ◌≤◌, ◌<◌, ◌⊎◌, ◌+◌, ◌-◌, ℕ, zero, suc, List, [], ◌++◌, length, get_or, drop, take, refl, sym, ap, subst, arith, Bool, true, false, inl, inr, append-nil, length-append}
use Rattle.std.specs.Prelude.{◌==◌, if◌then◌else◌}
use Rattle.std.proofs.lemmas.Bool.{cases_lt, cond-false, ne_eqb}
use Rattle.std.proofs.lemmas.List.{get_or-append_right, get_or-drop, get_or-take, get_or_append_left, length-drop, length-take}
use Rattle.std.proofs.lemmas.List.FromFn.{fill_by_all}
use Rattle.roll_frame.specs.Cells.{Rows}
use Rattle.roll_frame.specs.Core.{Core, settled}
use Rattle.roll_frame.specs.Events.{replay}
use Rattle.roll_frame.specs.declared.row.Cell.{Cell}
use Rattle.roll_frame.specs.Games.{Game}
use Rattle.roll_frame.specs.declared.entry.Entry.{Entry}
use Rattle.roll_frame.specs.declared.settings.Settings.{Settings}
use Rattle.roll_frame.proofs.Timelines.{length_timeline}
use Rattle.roll_laws.specs.Sessions.{IsLog}
use Rattle.roll_session.specs.Standing.{settled_rows}
use Rattle.roll_spectate.specs.Sent.{IsFirstPart}
use Rattle.roll_spectate.proofs.Growing.{log_begins, sent_rows_stay}
use Rattle.roll_spectate.proofs.Parts.{part_itself}
use Rattle.roll_viewer.specs.Rows.{are_rows, first_row, rows_in}
use Rattle.roll_viewer.specs.Seeing.{TellsRows}
use Rattle.roll_viewer.specs.Telling.{room_after, told_to}
use Rattle.roll_viewer.proofs.Settled.{known_log, players_log, tells}

-- ---- first parts, row by row

part_by : (rows all : Rows) → length rows ≤ length all
    → ((j : ℕ) → j < length rows → get_or rows j [] ≡ get_or all j []) → IsFirstPart rows all
part_by rows all short same =
    let n : length (take (length rows) all) ≡ length rows = omega (arith, length-take (length rows) all, short) in
    fill_by_all (λ j. get_or all j []) rows (length rows) [] refl same
    ∙ sym (fill_by_all (λ j. get_or all j []) (take (length rows) all) (length rows) [] n
    (λ j l. get_or-take (length rows) all j [] l))

part_at : (rows all : Rows) → IsFirstPart rows all → (j : ℕ) → j < length rows
    → get_or rows j [] ≡ get_or all j []
part_at rows all e j l =
    ap (λ (q : Rows). get_or q j []) e ∙ get_or-take (length rows) all j [] l

pub part_short : (rows all : Rows) → IsFirstPart rows all → length rows ≤ length all
part_short rows all e =
    omega (arith, ap (λ (q : Rows). length q) e, length-take (length rows) all)

-- some rows of a first part, from no later than the end of another first part on, go on from that one
pub goes_on : (rows part all : Rows) (had room places : ℕ) → IsFirstPart rows all → IsFirstPart part all → had ≤ length rows
    → IsFirstPart (rows ++ take places (drop (length rows - had) (take room (drop had part)))) all
goes_on rows part all had room places first begins low =
    let n : ℕ = length rows in
    let told : Rows = take room (drop had part) in
    let news : Rows = drop (n - had) told in
    let more : Rows = take places news in
    let l1 = length-take room (drop had part) in
    let l2 = length-drop had part in
    let l3 = length-drop (n - had) told in
    let l4 = length-take places news in
    let l5 = length-append rows more in
    let s1 = part_short part all begins in
    let s2 = part_short rows all first in
    part_by (rows ++ more) all (omega (arith, l1, l2, l3, l4, l5, s1, s2, low))
    (λ j l. row j l (cases_lt j n))
  where
    row : (j : ℕ) → j < length (rows ++ take places (drop (length rows - had) (take room (drop had part)))) → (j < length rows) ⊎ (length rows ≤ j)
        → get_or (rows ++ take places (drop (length rows - had) (take room (drop had part)))) j [] ≡ get_or all j []
    row j l (inl here) =
        get_or_append_left rows (take places (drop (length rows - had) (take room (drop had part)))) [] j here
        ∙ part_at rows all first j here
    row j l (inr past) =
        let told : Rows = take room (drop had part) in
        let news : Rows = drop (length rows - had) told in
        let i : ℕ = j - length rows in
        let l1 = length-take room (drop had part) in
        let l2 = length-drop had part in
        let l3 = length-drop (length rows - had) told in
        let l4 = length-take places news in
        let l5 = length-append rows (take places news) in
        let at : had + ((length rows - had) + i) ≡ j = omega (arith, low, past) in
        get_or-append_right rows (take places news) (length rows) j [] refl past
        ∙ get_or-take places news i [] (omega (arith, l4, l5, l, past))
        ∙ get_or-drop (length rows - had) told i []
        ∙ get_or-take room (drop had part) ((length rows - had) + i) [] (omega (arith, l1, l3, l4, l5, l, past))
        ∙ get_or-drop had part ((length rows - had) + i) []
        ∙ ap (λ (m : ℕ). get_or part m []) at
        ∙ part_at part all begins j (omega (arith, l1, l2, l3, l4, l5, l, past, low))

none_more : (places n : ℕ) → take {A = List Cell} places (drop n []) ≡ []
none_more places zero = none_taken places
  where
    none_taken : (places : ℕ) → take {A = List Cell} places [] ≡ []
    none_taken zero = refl
    none_taken (suc p) = refl
none_more zero (suc n) = refl
none_more (suc p) (suc n) = refl

-- ---- what a host told at some time

module _ (settings : Settings) (game : Game) (log earlier later : List Entry) (parts : earlier ++ later ≡ log) (l : IsLog settings game log) where
  whole : IsLog settings game (earlier ++ later)
  whole = subst (IsLog settings game) (sym parts) l

  was_log : IsLog settings game earlier
  was_log = log_begins settings game earlier later whole

  -- its settled rows were the first of those that are settled now
  were_first : IsFirstPart (settled_rows (replay settings earlier)) (settled_rows (replay settings log))
  were_first =
      subst (λ (entries : List Entry). IsFirstPart (settled_rows (replay settings earlier)) (settled_rows (replay settings entries))) parts
      (sent_rows_stay settings game earlier later (settled_rows (replay settings earlier)) whole (part_itself (settled_rows (replay settings earlier))))

  module _ (had : ℕ) where
    is : TellsRows (replay settings earlier) had
    is = tells (replay settings earlier) had (known_log settings game earlier was_log)

    news : rows_in settings.players (told_to (replay settings earlier) had)
        ≡ take (room_after (replay settings earlier) had) (drop had (settled_rows (replay settings earlier)))
    news =
        ap (λ n. rows_in n (told_to (replay settings earlier) had)) (sym (players_log settings game earlier was_log)) ∙ is.rows

    pub first_if : 1 ≤ room_after (replay settings earlier) had → first_row (told_to (replay settings earlier) had) ≡ had
    first_if some =
        is.first ∙ cond-false _ _ _ (ne_eqb (room_after (replay settings earlier) had) 0 (omega (arith, some)))

    no_room : room_after (replay settings earlier) had ≤ 0
        → take (room_after (replay settings earlier) had) (drop had (settled_rows (replay settings earlier))) ≡ []
    no_room none =
        let zero_is : room_after (replay settings earlier) had ≡ 0 = omega (arith, none) in
        ap (λ n. take n (drop had (settled_rows (replay settings earlier)))) zero_is

    -- they are read as rows, which begin no later than those end that the host knows of
    pub told_rows : are_rows settings.players (told_to (replay settings earlier) had) ≡ true
    told_rows =
        ap (λ n. are_rows n (told_to (replay settings earlier) had)) (sym (players_log settings game earlier was_log)) ∙ is.are_rows

    pub told_first : (count : ℕ) → had ≤ count → first_row (told_to (replay settings earlier) had) ≤ count
    told_first count low = subst (λ (n : ℕ). n ≤ count) (sym is.first) (go (room_after (replay settings earlier) had == 0))
      where
        go : (b : Bool) → (if b then 0 else had) ≤ count
        go true = omega arith
        go false = low

    -- as many rows are told as there is room for
    pub many_told : length (rows_in settings.players (told_to (replay settings earlier) had)) ≡ room_after (replay settings earlier) had
    many_told =
        let core : Core = replay settings earlier in
        omega (
          arith,
          ap (λ (rows : Rows). length rows) news,
          length-take (room_after core had) (drop had (settled_rows core)),
          length-drop had (settled_rows core),
          length_timeline core.players (settled core),
        )

    -- rows that were the first are so with those that are told from where they end
    pub more_first : (rows : Rows) (places : ℕ) → first_row (told_to (replay settings earlier) had) ≤ length rows
        → IsFirstPart rows (settled_rows (replay settings log))
        → IsFirstPart (rows ++ take places (drop (length rows - first_row (told_to (replay settings earlier) had)) (rows_in settings.players (told_to (replay settings earlier) had)))) (settled_rows (replay settings log))
    more_first rows places reach first =
        elim (cases_lt 0 (room_after (replay settings earlier) had)) [
          | inl some ↦ (let at = first_if (omega (arith, some)) in
              subst (λ (n : ℕ). IsFirstPart (rows ++ take places (drop (length rows - n) (rows_in settings.players (told_to (replay settings earlier) had)))) (settled_rows (replay settings log)))
              (sym at)
              (subst (λ (more : Rows). IsFirstPart (rows ++ take places (drop (length rows - had) more)) (settled_rows (replay settings log)))
              (sym news)
              (goes_on rows (settled_rows (replay settings earlier)) (settled_rows (replay settings log)) had (room_after (replay settings earlier) had) places first were_first (omega (arith, at, reach)))))
          | inr none ↦ subst (λ (more : Rows). IsFirstPart (rows ++ take places (drop (length rows - first_row (told_to (replay settings earlier) had)) more)) (settled_rows (replay settings log)))
              (sym (news ∙ no_room none))
              (subst (λ (more : Rows). IsFirstPart (rows ++ more) (settled_rows (replay settings log)))
              (sym (none_more places (length rows - first_row (told_to (replay settings earlier) had))))
              (subst (λ (all : Rows). IsFirstPart all (settled_rows (replay settings log))) (sym (append-nil rows)) first))
        ]
