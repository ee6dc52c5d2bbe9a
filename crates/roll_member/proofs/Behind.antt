-- Another machine's player who has no more words than count keeps a session from settling more.
use Rattle.std.proofs.Common.{◌≡◌, ◌∙◌, ◌⊎◌, ℕ, zero, suc, ◌+◌, ◌<◌, ◌≤◌, List, [], ◌∷◌, get_or, length, refl, ap, sym, subst, arith, inl, inr, Bool, true, false, Option, Some, None}
use Rattle.std.specs.List.{list_all, range_with_len}
use Rattle.std.specs.Prelude.{is_none, is_some, min, nat_le, nat_lt, not, slice_index, slice_index_or, ◌==◌, ◌&&◌, if◌then◌else◌}
use Rattle.std.specs.Option.{option_map_or}
use Rattle.std.proofs.lemmas.Bool.{cases_Bool, false≢true, leb-false, ltb-true, not-false, not-true, or_parts}
use Rattle.roll_frame.proofs.Beginnings.{longest_within}
use Rattle.roll_frame.proofs.Timelines.{length_timeline}
use Rattle.roll_frame.specs.Core.{settled}
use Rattle.roll_frame.specs.Inputs.{of_player, player_at}
use Rattle.roll_frame.specs.Timeline.{front, timeline, Player}
use Rattle.roll_frame.specs.declared.refusal.Refusal.{Refusal}
use Rattle.roll_mesh.specs.Machines.{is_orphan, left_at, owner_of, taken, trimmed}
use Rattle.roll_mesh.specs.Meshes.{Seated}
use Rattle.roll_mesh.specs.declared.limits.TheConstants.{PLAYER_LIMIT}
use Rattle.roll_mesh.specs.declared.machine.Machine.{Machine}
use Rattle.roll_mesh.specs.declared.packet.Packet.{Packet}
use Rattle.roll_mesh.specs.declared.seat.Seat.{Seat}
use Rattle.roll_session.specs.Seen.{Seen, Step}
use Rattle.roll_member.specs.Joined.{count_of, is_awaited, is_gone_at, IsBehind, IsTied}
use Rattle.roll_member.specs.Taking.{are_full, counted_to, is_full, up_to}
use Rattle.roll_inputs.proofs.Players.{of_player_at}
use Rattle.roll_laws.proofs.Fronts.{front_reach, AllReach}
use Rattle.roll_member.proofs.Fair.{there_at}
use Rattle.roll_member.proofs.Known.{known_other}
use Rattle.roll_member.proofs.Tied.{counted_under, hear_left, taken_up, heard_up_to, up_to_at, IsHeardUpTo}

-- of a test that doesn't hold for all of these numbers, one for which it doesn't
fails_from : (test : ℕ → Bool) (a n : ℕ) → list_all test (range_with_len a n) ≡ false
    → (k : ℕ) × (k < a + n) × (test k ≡ false)
fails_from test a zero h = absurd (false≢true (sym h))
fails_from test a (suc n) h = go (cases_Bool (test a)) (fails_from test (a + 1) n)
  where
    go : (test a ≡ true) ⊎ (test a ≡ false)
        → (list_all test (range_with_len (a + 1) n) ≡ false → (k : ℕ) × (k < a + 1 + n) × (test k ≡ false))
        → (k : ℕ) × (k < a + suc n) × (test k ≡ false)
    go (inr fails) later = (a, omega arith, fails)
    go (inl holds) later =
        let more = later (rw holds at h) in
        (more.0, omega (arith, more.1), more.2)

-- what makes a player awaited
parts : (a b c : Bool) → (a && b && c) ≡ true → (a ≡ true) × (b ≡ true) × (c ≡ true)
parts true true true h = (refl, refl, refl)
parts true true false h = absurd (false≢true h)
parts true false c h = absurd (false≢true h)
parts false b c h = absurd (false≢true h)

awaited_parts : (seat : Seat) (machine : Machine) (p : ℕ) → is_awaited seat machine p ≡ true
    → (nat_lt (owner_of seat p) seat.machines ≡ true) × (not (owner_of seat p == seat.me) ≡ true)
    × (is_none (left_at machine p) ≡ true)
awaited_parts seat machine p h =
    parts (nat_lt (owner_of seat p) seat.machines) (not (owner_of seat p == seat.me)) (is_none (left_at machine p)) h

awaited_other : (seat : Seat) (machine : Machine) (p : ℕ) → is_awaited seat machine p ≡ true
    → (owner_of seat p == seat.me) ≡ false
awaited_other seat machine p h = not-true (owner_of seat p == seat.me) (awaited_parts seat machine p h).1

-- the machine has as many of its words as the session
count_at : (s : Seen) (mesh : Seated) (p : ℕ) → IsTied s mesh → p < PLAYER_LIMIT → is_awaited mesh.seat mesh.machine p ≡ true
    → slice_index mesh.machine.has p ≡ count_of s p
count_at s mesh p tied lt awaited =
    (tied.players p lt).count ∙ known_other s mesh.seat p (awaited_other mesh.seat mesh.machine p awaited)

-- a player whose words before the end aren't all there
not_full : (seat : Seat) (machine : Machine) (end : ℕ) (most : List ℕ) (p : ℕ) → is_full seat machine end most p ≡ false
    → (is_awaited seat machine p ≡ true) × (slice_index most p < end)
not_full seat machine end most p h =
    let h2 = or_parts (not (is_awaited seat machine p)) (nat_le end (slice_index most p)) h in
    (not-false (is_awaited seat machine p) h2.0, leb-false end (slice_index most p) h2.1)

some_short : (seat : Seat) (machine : Machine) (end : ℕ) (most : List ℕ) → are_full seat machine end most ≡ false
    → (p : ℕ) × (p < PLAYER_LIMIT) × (is_full seat machine end most p ≡ false)
unfolding are_full
some_short seat machine end most h = fails_from (is_full seat machine end most) 0 PLAYER_LIMIT h

module _ (step : Step) (s0 s1 : Seen) (mesh : Seated) (packet : Packet) (words : List (List ℕ)) (end : ℕ)
    (why : Option Refusal) (reached : List ℕ) (tied : IsTied s0 mesh)
    (heard : IsHeardUpTo step s0 s1 mesh packet words end why reached) where
  abbrev after : Seated
  after = heard_up_to step s0 s1 mesh packet words end why reached

  abbrev all : List ℕ
  all = (taken mesh.seat packet mesh.machine).has

  still : (p : ℕ) → is_awaited mesh.seat mesh.machine p ≡ true → is_awaited after.seat after.machine p ≡ true
  still p awaited =
      subst (λ (left : List (Option ℕ)). (nat_lt (owner_of mesh.seat p) mesh.seat.machines
      && not (owner_of mesh.seat p == mesh.seat.me) && is_none (slice_index_or left p None)) ≡ true)
      (sym (hear_left mesh.seat (trimmed reached packet) mesh.machine)) awaited

  reaches : (p : ℕ) → p < PLAYER_LIMIT → is_awaited mesh.seat mesh.machine p ≡ true
      → count_of s1 p ≤ slice_index (up_to mesh.seat mesh.machine end all) p
  reaches p lt awaited =
      omega (
        arith,
        count_at s1 after p heard.tied lt (still p awaited),
        ap (λ (ns : List ℕ). slice_index ns p) heard.has,
        heard.most p lt,
      )

  -- none of a player counts past the end, if no word before it is waited for
  capped : (full : Bool) (p : ℕ) → full ≡ true → counted_to mesh.seat mesh.machine.gone full end all p ≤ end
  capped full p e = rw e (go (is_orphan mesh.seat mesh.machine.gone p))
    where
      go : (b : Bool) → (if b && not true then slice_index all p else min end (slice_index all p)) ≤ end
      go true = omega arith
      go false = omega arith

  -- who is behind before a packet, or another one, is so after it
  pub behind_stays : IsBehind (record { session = s0; mesh = mesh }) end
      → IsBehind (record { session = s1; mesh = after }) end
  behind_stays b = go (cases_Bool (are_full mesh.seat mesh.machine end all))
    where
      there : (p : ℕ) (lt : p < PLAYER_LIMIT) → is_awaited mesh.seat mesh.machine p ≡ true
          → slice_index (up_to mesh.seat mesh.machine end all) p ≤ end
          → IsBehind (record { session = s1; mesh = after }) end
      there p lt awaited low = record {
        player = p;
        inside = lt;
        awaited = still p awaited;
        few = omega (arith, reaches p lt awaited, low);
      }

      go : (are_full mesh.seat mesh.machine end all ≡ true) ⊎ (are_full mesh.seat mesh.machine end all ≡ false)
          → IsBehind (record { session = s1; mesh = after }) end
      go (inl full) = there b.player b.inside b.awaited (omega (
        arith,
        up_to_at mesh.seat mesh.machine end all b.player b.inside,
        capped (are_full mesh.seat mesh.machine end all) b.player full,
        count_at s0 mesh b.player tied b.inside b.awaited,
        b.few,
      ))
      go (inr short) =
          let f = some_short mesh.seat mesh.machine end all short in
          let n = not_full mesh.seat mesh.machine end all f.0 f.2 in
          there f.0 f.1 n.0 (omega (
            arith,
            up_to_at mesh.seat mesh.machine end all f.0 f.1,
            counted_under mesh.seat mesh.machine.gone (are_full mesh.seat mesh.machine end all) end all f.0,
            taken_up mesh.seat packet mesh.machine f.0 (omega (arith, f.1, tied.sized)),
            n.1,
          ))

-- ---- what is settled

reach_at : (n : ℕ) (ps : List Player) (p : ℕ) (d : Player) → p < length ps → AllReach n ps
    → (get_or ps p d).gone ≡ false → n ≤ length (get_or ps p d).words
reach_at n [] p d l h stays = absurd (omega (arith, l))
reach_at n (x ∷ xs) zero d l h stays = h.0 stays
reach_at n (x ∷ xs) (suc p) d l h stays = reach_at n xs p d (omega (arith, l)) h.1 stays

-- the front is no further than the words of a player who stays
front_under : (players : List Player) (p : ℕ) → p < length players
    → of_player (λ player. player.gone) players (p + 1) ≡ false
    → front players ≤ length (option_map_or (λ player. player.words) (player_at players (p + 1)) [])
front_under [] p l stays = absurd (omega (arith, l))
front_under (x ∷ xs) p l stays =
    let there : player_at (x ∷ xs) (p + 1) ≡ Some (get_or (x ∷ xs) p x) = there_at (x ∷ xs) p x l in
    let gone : (get_or (x ∷ xs) p x).gone ≡ false =
    sym (of_player_at (λ player. player.gone) (x ∷ xs) (p + 1) (get_or (x ∷ xs) p x) there) ∙ stays in
    let words : length (option_map_or (λ player. player.words) (player_at (x ∷ xs) (p + 1)) [])
    ≡ length (get_or (x ∷ xs) p x).words =
    ap (λ o. length (option_map_or (λ (player : Player). player.words) o [])) there in
    omega (arith, words, reach_at (front (x ∷ xs)) (x ∷ xs) p x l (front_reach (x ∷ xs)) gone)

pub settles_no_more : (s : Seen) (mesh : Seated) (count : ℕ) → IsTied s mesh
    → IsBehind (record { session = s; mesh = mesh }) count → settled s.core ≤ count
settles_no_more s mesh count tied b =
    let p : ℕ = b.player in
    let t = tied.players p b.inside in
    let is = awaited_parts mesh.seat mesh.machine p b.awaited in
    let l : p < length s.core.players = ltb-true p (length s.core.players) (t.there ∙ is.0) in
    omega (
      arith,
      longest_within s.core.ever (timeline s.core.players (min (front s.core.players) s.core.frame)),
      length_timeline s.core.players (min (front s.core.players) s.core.frame),
      front_under s.core.players p l (stays (cases_Bool (is_gone_at s p)) t.gone is.2),
      b.few,
    )
  where
    stays : (is_gone_at s b.player ≡ true) ⊎ (is_gone_at s b.player ≡ false)
        → (is_gone_at s b.player ≡ true → is_some (left_at mesh.machine b.player) ≡ true)
        → is_none (left_at mesh.machine b.player) ≡ true → is_gone_at s b.player ≡ false
    stays (inr isnt) left none = isnt
    stays (inl gone) left none = absurd (go (left_at mesh.machine b.player) (left gone) none)
      where
        go : (o : Option ℕ) → is_some o ≡ true → is_none o ≡ true → ⊥
        go None some none = false≢true some
        go (Some n) some none = false≢true none
