-- What is known of the settled rows of a session, and so of what a host tells of them.
use Rattle.std.proofs.Common.{◌≡◌, ◌∙◌, ◌++◌, ◌≤◌, ◌*◌, ◌/◌, ◌-◌, ℕ, zero, suc, List, [], ◌∷◌, length, map, max, replicate, take, drop, refl, sym, ap, subst, arith, true, false}
use Rattle.std.specs.List.{list_all, range_with_len}
use Rattle.std.specs.Prelude.{◌&&◌, ◌==◌, not, nat_le, if◌then◌else◌}
use Rattle.std.proofs.Math.Nat.{mul-div-le, mul-le-mul_left}
use Rattle.std.proofs.lemmas.Bool.{eq-eqb, le-leb}
use Rattle.std.proofs.lemmas.List.{length-map}
use Rattle.roll_frame.specs.Core.{Core, settled}
use Rattle.roll_frame.specs.Events.{replay}
use Rattle.roll_frame.specs.Games.{Game}
use Rattle.roll_frame.specs.Timeline.{front, Player}
use Rattle.roll_frame.specs.declared.entry.Entry.{Entry}
use Rattle.roll_frame.specs.declared.settings.Settings.{Settings}
use Rattle.roll_laws.specs.Sessions.{IsLog}
use Rattle.roll_laws.proofs.Bounds.{players_stay}
use Rattle.roll_laws.proofs.Fronts.{front_reach, settled_is, AllReach, HasStaying}
use Rattle.roll_laws.proofs.Glue.{always_holds}
use Rattle.roll_laws.proofs.Sound.{sound_played, staying, Sound}
use Rattle.roll_laws.proofs.Starts.{few_players}
use Rattle.roll_mesh.specs.Machines.{none_offered}
use Rattle.roll_mesh.specs.declared.limits.TheConstants.{PLAYER_LIMIT}
use Rattle.roll_mesh.specs.declared.packet.Offer.{Offer}
use Rattle.roll_wire.specs.Spelling.{are_offers, count_of, is_offer}
use Rattle.roll_wire.specs.declared.limits.TheConstants.{WORD_LIMIT}
use Rattle.roll_session.specs.Standing.{settled_rows}
use Rattle.roll_viewer.specs.Rows.{are_rows, first_of, first_row, has_words, is_said_once, row_count, row_in, rows_in}
use Rattle.roll_viewer.specs.Seeing.{TellsRows}
use Rattle.roll_viewer.specs.Telling.{has_by, has_of, offers_to, room_after, said_once, span_of, spans_to, told_to, words_in}
use Rattle.roll_viewer.proofs.Decoded.{count_told, first_span, forward, rows_told, words_told}
use Rattle.roll_viewer.proofs.Once.{count_said, first_said, forward_said, rest_said, rows_said, said_is_once, sum_said, take_said}
use Rattle.roll_viewer.proofs.Padding.{all_padded, front_padded, padded_is, rest_passes, sum_padded}

-- 1 to 8 players, of whom some are there to stay, and have words in all settled rows
pub record Known (core : Core) : Type 0 where
  pub few : length core.players ≤ PLAYER_LIMIT
  pub reach : AllReach (settled core) core.players
  pub stays : HasStaying core.players

reach_less : (m n : ℕ) (ps : List Player) → m ≤ n → AllReach n ps → AllReach m ps
reach_less m n [] l r = tt
reach_less m n (p ∷ ps) l r =
    ((λ e. (let far : n ≤ length p.words = r.0 e in omega (arith, far, l))), reach_less m n ps l r.1)

-- as many players as the settings say
pub players_log : (settings : Settings) (game : Game) (log : List Entry) → IsLog settings game log
    → length (replay settings log).players ≡ settings.players
players_log = always_holds (λ settings core. length core.players ≡ settings.players) players_stay

pub known_log : (settings : Settings) (game : Game) (log : List Entry) → IsLog settings game log
    → Known (replay settings log)
known_log settings game log l =
    let core : Core = replay settings log in
    let sound : Sound settings core = always_holds Sound sound_played settings game log l in
    let n : length core.players ≡ settings.players = players_log settings game log l in
    record {
      few = omega (arith, n, few_players settings l.starts);
      reach = reach_less (settled core) (front core.players) core.players
          (omega (arith, (settled_is core sound.root).0)) (front_reach core.players);
      stays = staying core.players sound.stays sound.has_local;
    }

some_players : (ps : List Player) → HasStaying ps → 1 ≤ length ps
some_players [] h = absurd h
some_players (p ∷ ps) h = omega arith

module _ (core : Core) (had : ℕ) (k : Known core) where
  room_is : room_after core had ≤ settled core - had
  room_is = omega arith

  fits : length core.players * room_after core had ≤ WORD_LIMIT
  fits =
      let some : 1 ≤ length core.players = some_players core.players k.stays in
      let n : max 1 (length core.players) ≡ length core.players = omega (arith, some) in
      let few : room_after core had ≤ WORD_LIMIT / length core.players =
      subst (λ (p : ℕ). room_after core had ≤ WORD_LIMIT / p) n (omega arith) in
      omega (
        arith,
        mul-le-mul_left (length core.players) few,
        mul-div-le WORD_LIMIT (length core.players),
      )

  small : room_after core had ≤ WORD_LIMIT
  small =
      let some : 1 ≤ length core.players = some_players core.players k.stays in
      omega (arith, mul-le-mul_left (room_after core had) some, fits)

  many : length (map (span_of (settled core) had (room_after core had)) core.players) ≤ PLAYER_LIMIT
  many = omega (arith, length-map core.players (span_of (settled core) had (room_after core had)), k.few)

  size : Offer → ℕ
  size o = o.end - o.first

  -- as many words as fit
  pub told_fits : count_of (spans_to core had) ≤ WORD_LIMIT
  told_fits =
      let each : List Offer = map (span_of (settled core) had (room_after core had)) core.players in
      let count : count_of (spans_to core had) ≡ count_of each =
      sum_padded (λ (o : Offer). o.end - o.first) none_offered each many refl in
      omega (
        arith,
        count,
        count_told (settled core) had (room_after core had) room_is core.players,
        fits,
      )

  spans_are : spans_to core had
      ≡ map (span_of (settled core) had (room_after core had)) core.players
      ++ take (PLAYER_LIMIT - length (map (span_of (settled core) had (room_after core had)) core.players)) (replicate PLAYER_LIMIT none_offered)
  spans_are =
      padded_is none_offered (map (span_of (settled core) had (room_after core had)) core.players) many

  -- and as many as are offered
  told_count : count_of (offers_to core had) ≡ length (words_in core.players (spans_to core had))
  told_count =
      let each : List Offer = map (span_of (settled core) had (room_after core had)) core.players in
      sum_said false (spans_to core had)
      ∙ sum_padded (λ (o : Offer). o.end - o.first) none_offered each many refl
      ∙ sym (ap (λ os. length (words_in core.players os)) spans_are
      ∙ words_told (settled core) had (room_after core had) room_is core.players
      (take (PLAYER_LIMIT - length each) (replicate PLAYER_LIMIT none_offered)))

  told_forward : are_offers (offers_to core had) ≡ true
  told_forward =
      forward_said false (spans_to core had)
      (all_padded is_offer none_offered (map (span_of (settled core) had (room_after core had)) core.players) many refl
      (forward (settled core) had (room_after core had) room_is core.players (omega (arith, small))))

  pub told_whole : (are_offers (offers_to core had)
      && (count_of (offers_to core had) == length (words_in core.players (spans_to core had)))
      && nat_le (length (words_in core.players (spans_to core had))) WORD_LIMIT) ≡ true
  told_whole =
      rw (
        told_forward,
        eq-eqb (count_of (offers_to core had)) (length (words_in core.players (spans_to core had))) told_count,
        le-leb (length (words_in core.players (spans_to core had))) WORD_LIMIT (omega (arith, told_count, told_fits, sum_said false (spans_to core had))),
      ) refl

  front_spans : take (length core.players) (spans_to core had)
      ≡ map (span_of (settled core) had (room_after core had)) core.players
  front_spans =
      ap (λ n. take n (spans_to core had)) (sym (length-map core.players (span_of (settled core) had (room_after core had))))
      ∙ front_padded none_offered (map (span_of (settled core) had (room_after core had)) core.players) many

  front_offers : take (length core.players) (offers_to core had)
      ≡ said_once false (map (span_of (settled core) had (room_after core had)) core.players)
  front_offers = take_said (length core.players) false (spans_to core had) ∙ ap (said_once false) front_spans

  none_first : (k n : ℕ) → first_of (take k (replicate n none_offered)) ≡ 0
  none_first zero n = refl
  none_first (suc k) zero = refl
  none_first (suc k) (suc n) = none_first k n

  first_is : first_row (told_to core had) ≡ (if room_after core had == 0 then 0 else had)
  unfolding told_to
  first_is =
      let each : List Offer = map (span_of (settled core) had (room_after core had)) core.players in
      first_said (spans_to core had)
      ∙ ap first_of spans_are
      ∙ first_span (settled core) had (room_after core had) room_is core.players
      (take (PLAYER_LIMIT - length each) (replicate PLAYER_LIMIT none_offered)) k.reach k.stays
      (none_first (PLAYER_LIMIT - length each) PLAYER_LIMIT)

  rest_offers : list_all (λ (o : Offer). not (has_words o)) (drop (length core.players) (offers_to core had)) ≡ true
  rest_offers =
      let each : List Offer = map (span_of (settled core) had (room_after core had)) core.players in
      rest_said (length core.players) false (spans_to core had)
      ∙ ap (λ n. list_all (λ (o : Offer). not (has_words o)) (drop n (spans_to core had))) (sym (length-map core.players (span_of (settled core) had (room_after core had))))
      ∙ rest_passes (λ (o : Offer). not (has_words o)) none_offered each many refl

  rest_has : list_all (λ (n : ℕ). n == 0) (drop (length core.players) (has_by core)) ≡ true
  rest_has =
      let n : length (map (has_of (settled core)) core.players) ≡ length core.players = length-map core.players (has_of (settled core)) in
      ap (λ n. list_all (λ (n : ℕ). n == 0) (drop n (has_by core))) (sym n)
      ∙ rest_passes (λ (n : ℕ). n == 0) 0 (map (has_of (settled core)) core.players) (omega (arith, n, k.few)) refl

  told_once : is_said_once (take (length core.players) (offers_to core had)) ≡ true
  told_once =
      ap is_said_once front_offers
      ∙ said_is_once (map (span_of (settled core) had (room_after core had)) core.players)

  told_are_rows : are_rows (length core.players) (told_to core had) ≡ true
  unfolding told_to
  told_are_rows = rw (rest_offers, rest_has, told_once) refl

  rows_are : rows_in (length core.players) (told_to core had) ≡ take (room_after core had) (drop had (settled_rows core))
  unfolding told_to
  rows_are =
      let each : List Offer = map (span_of (settled core) had (room_after core had)) core.players in
      let words : List ℕ = words_in core.players (spans_to core had) in
      let more : List Offer = take (PLAYER_LIMIT - length each) (replicate PLAYER_LIMIT none_offered) in
      ap (λ os. map (row_in os words) (range_with_len 0 (row_count os))) front_offers
      ∙ rows_said false each words (range_with_len 0 (row_count (said_once false each)))
      ∙ ap (λ n. map (row_in each words) (range_with_len 0 n)) (count_said false each)
      ∙ ap (λ os. map (row_in each (words_in core.players os)) (range_with_len 0 (row_count each))) spans_are
      ∙ rows_told (settled core) had (room_after core had) room_is core.players more k.reach k.stays

  pub tells : TellsRows core had
  tells = record { are_rows = told_are_rows; first = first_is; rows = rows_are }
