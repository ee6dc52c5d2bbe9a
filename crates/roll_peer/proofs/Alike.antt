-- Machines that stay know the same rows.
use Rattle.std.proofs.Common.{◌≡◌, ◌∙◌, ◌⊎◌, ◌≢◌, ℕ, zero, suc, ◌+◌, ◌<◌, ◌≤◌, List, [], ◌∷◌, length, get_or, take, refl, ap, sym, subst, arith, true, false, inl, inr, Option, Some, None}
use Rattle.std.specs.Option.{option_map_or}
use Rattle.std.specs.Prelude.{◌==◌, is_some, nat_lt, slice_get, slice_index, slice_index_or}
use Rattle.std.proofs.lemmas.Bool.{and_parts, cases_eq, cases_order, false_from_ne_true, false≢true, le-ltb, lt-ltb, ne_eqb}
use Rattle.std.proofs.lemmas.List.{get_or-take}
use Rattle.std.proofs.lemmas.Option.{slice_get_within}
use Rattle.roll_frame.specs.Cells.{Rows}
use Rattle.roll_frame.specs.Core.{is_known, Core}
use Rattle.roll_frame.specs.Games.{Value}
use Rattle.roll_frame.specs.Paths.{run}
use Rattle.roll_frame.specs.Settings.{most_players}
use Rattle.roll_frame.specs.Timeline.{cell_at, row_at, timeline, Player}
use Rattle.roll_frame.specs.declared.profile.Profile.{Profile}
use Rattle.roll_frame.specs.declared.profile.Profile.TheVariants.{Ggpo, Wide}
use Rattle.roll_frame.specs.declared.row.Cell.TheVariants.{Word}
use Rattle.roll_laws.proofs.Bounds.{players_stay}
use Rattle.roll_laws.proofs.Glue.{always_holds}
use Rattle.roll_laws.proofs.Known.{cell_confirmed, cell_gone, known_cases}
use Rattle.roll_laws.proofs.Starts.{starts_are_small}
use Rattle.roll_mesh.proofs.Changes.{none_some, some_same}
use Rattle.roll_mesh.proofs.Handed.{count, counts_most, owned, Kept}
use Rattle.roll_mesh.proofs.Holders.{machine_of}
use Rattle.roll_mesh.proofs.Invariant.{IsClosed}
use Rattle.roll_mesh.proofs.Places.{at_place}
use Rattle.roll_mesh.specs.declared.limits.TheConstants.{PLAYER_LIMIT}
use Rattle.roll_mesh.specs.declared.machine.Machine.{Machine}
use Rattle.roll_mesh.specs.declared.seat.Seat.{Seat}
use Rattle.roll_mesh.specs.Laws.{has_at, is_gone, machine_at, owner_in}
use Rattle.roll_mesh.specs.Machines.{is_in, left_at, owner_of}
use Rattle.roll_mesh.specs.Words.{counts_of, holder_at, words_at, Holder}
use Rattle.roll_mesh.specs.Worlds.{Match}
use Rattle.roll_session.specs.Headline.{words_of}
use Rattle.roll_session.specs.Seen.{game_of, FollowsLog, Seen, Step}
use Rattle.roll_member.specs.Joined.{held, is_gone_at, words_known}
use Rattle.roll_member.proofs.Beside.{near_at, IsNearAt}
use Rattle.roll_member.proofs.Known.{known_other}
use Rattle.roll_peer.specs.Known.{is_row_known, IsKnownTo}
use Rattle.roll_peer.specs.OneMatch.{AreAlike, AreOne, IsHere, IsMachine, TwoPeersKnowOne, TwoPeersOneMatch}
use Rattle.roll_peer.specs.PeerWorlds.{PeerWorld}
use Rattle.roll_peer.specs.Peered.{beside}
use Rattle.roll_peer.specs.Requests.{Beside}
use Rattle.roll_peer.proofs.Known.{settled_known}
use Rattle.roll_peer.proofs.Later.{at_place as player_of}
use Rattle.roll_peer.proofs.Mirrors.{mirrors, stands_of, IsAt, IsMirrored, Mirrors}
use Rattle.roll_peer.proofs.Standing.{from_kept, sized_at}

-- ---- rows

known_of : (t : ℕ) (players : List Player) (place : ℕ) (x : Player) → is_row_known players t ≡ true → slice_get players place ≡ Some x
    → is_known t x ≡ true
known_of t [] place x known e = absurd (none_some x e)
known_of t (p ∷ ps) zero x known e =
    subst (λ (y : Player). is_known t y ≡ true) (some_same p x e) (and_parts (is_known t p) (is_row_known ps t) known).0
known_of t (p ∷ ps) (suc place) x known e = known_of t ps place x (and_parts (is_known t p) (is_row_known ps t) known).1 e

abbrev AreSameAt : ℕ → List Player → List Player → Type 0
AreSameAt t xs ys =
    (place : ℕ) (x y : Player) → slice_get xs place ≡ Some x → slice_get ys place ≡ Some y → cell_at t x ≡ cell_at t y

same_row : (t : ℕ) (xs ys : List Player) → length xs ≡ length ys → AreSameAt t xs ys → row_at xs t ≡ row_at ys t
same_row t [] [] n h = refl
same_row t [] (y ∷ ys) n h = absurd (omega (arith, n))
same_row t (x ∷ xs) [] n h = absurd (omega (arith, n))
same_row t (x ∷ xs) (y ∷ ys) n h =
    cc (h 0 x y refl refl, same_row t xs ys (omega (arith, n)) (λ place. h (suc place)))

same_time : (f : ℕ) (xs ys : List Player) → length xs ≡ length ys → ((t : ℕ) → t < f → AreSameAt t xs ys)
    → timeline xs f ≡ timeline ys f
same_time zero xs ys n h = refl
same_time (suc f) xs ys n h =
    cc (same_time f xs ys n (λ t l. h t (omega (arith, l))), same_row f xs ys n (h f (omega arith)))

-- games that are alike
same_run : (one other : Step) → AreAlike one other → (value : Value) (rows : Rows) → run one value rows ≡ run other value rows
same_run one other alike value [] = refl
same_run one other alike value (row ∷ rows) =
    same_run one other alike (one value row) rows ∙ ap (λ (v : Value). run other v rows) (alike value row)

-- ---- a session

few_players : (profile : Profile) → most_players profile ≤ 8
few_players Ggpo = omega arith
few_players Wide = omega arith

players_fit : (step : Step) (s : Seen) → FollowsLog step s → length s.core.players ≤ PLAYER_LIMIT
players_fit step s follows =
    let many = always_holds (λ settings core. length core.players ≡ settings.players) players_stay s.settings (game_of step s)
    s.log follows.log in
    omega (
      arith,
      ap (λ (core : Core). length core.players) follows.core,
      many,
      (starts_are_small s.settings follows.log.starts).few_players,
      few_players s.settings.profile,
    )

-- ---- a machine of a world

-- what is known of a machine's player
record IsPlayer (b : Beside) (p : ℕ) (x : Player) : Type 0 where
  at : slice_get b.session.core.players p ≡ Some x
  words : words_of b.session (p + 1) ≡ x.words
  gone : is_gone_at b.session p ≡ x.gone

player_is : (b : Beside) (p : ℕ) (x : Player) → slice_get b.session.core.players p ≡ Some x → IsPlayer b p x
player_is b p x e = record {
  at = e;
  words = ap (λ o. option_map_or (λ (player : Player). player.words) o []) (player_of b.session.core.players p ∙ e);
  gone = ap (λ o. option_map_or (λ (player : Player). player.gone) o false) (player_of b.session.core.players p ∙ e);
}

module _ (match : Match) (peers : PeerWorld) (m : Mirrors match peers) where
  kept : Kept match m.world
  kept = from_kept match m.world m.from

  module _ (step : Step) (i : ℕ) (b : Beside) (is : IsMachine step peers i b) where
    here : IsMirrored match m.world i b
    here = subst (λ (o : Option Beside). IsAt match m.world i o) is.is (m.each i)

    abbrev mesh : Machine
    mesh = b.peer.member.mesh.machine

    near : (p : ℕ) → p < PLAYER_LIMIT → IsNearAt b.session b.peer.member.mesh p
    near p l = near_at b.session b.peer.member.mesh is.own.near p l

    mesh_is : (holder_at m.world i).mesh ≡ mesh
    mesh_is = ap (λ (h : Holder). h.mesh) (sym here.holds)

    counts_is : machine_at (counts_of m.world) i ≡ mesh
    counts_is = machine_of m.world i ∙ mesh_is

    sized : length mesh.has ≡ PLAYER_LIMIT
    sized = sized_at match m.world i (held (beside b.session b.peer)) m.from here.inside
        (stands_of match m.world i m.from here.inside b here).comes

    count_is : (p : ℕ) → count m.world i p ≡ slice_index mesh.has p
    count_is p = ap (λ (machine : Machine). slice_index machine.has p) mesh_is

    owner_is : (p : ℕ) → owner_of b.peer.member.mesh.seat p ≡ owner_in match p
    owner_is p = ap (λ (seat : Seat). owner_of seat p) here.seat

    me_is : b.peer.member.mesh.seat.me ≡ i
    me_is = ap (λ (seat : Seat). seat.me) here.seat

    -- of another's player it has as many words as it counts
    others_count : (p : ℕ) → p < PLAYER_LIMIT → owner_in match p ≢ i
        → slice_index mesh.has p ≡ length (words_of b.session (p + 1))
    others_count p l other =
        let isnt : (owner_of b.peer.member.mesh.seat p == b.peer.member.mesh.seat.me) ≡ false =
        (λ k. owner_is p k == me_is k) ∙ ne_eqb (owner_in match p) i other in
        (near p l).all isnt ∙ known_other b.session b.peer.member.mesh.seat p isnt

    -- the words that it counts are those of the owner
    words_are : (p t : ℕ) → p < PLAYER_LIMIT → t < slice_index mesh.has p
        → get_or (words_of b.session (p + 1)) t 0 ≡ get_or (owned match m.world p) t 0
    words_are p t l below =
        let has : ℕ = slice_index mesh.has p in
        let held-is : words_at m.world i p ≡ take has (words_of b.session (p + 1)) =
        ap (λ (h : Holder). slice_index_or h.words p []) (sym here.holds)
        ∙ at_place (words_known (beside b.session b.peer)) mesh.has p [] (omega (arith, l, sized)) in
        let front-is : words_at m.world i p ≡ take has (owned match m.world p) =
        kept.front i p ∙ ap (λ n. take n (owned match m.world p)) (count_is p) in
        sym (get_or-take has (words_of b.session (p + 1)) t 0 below)
        ∙ ap (λ (ws : List ℕ). get_or ws t 0) (sym held-is ∙ front-is)
        ∙ get_or-take has (owned match m.world p) t 0 below

    counts_few : (p : ℕ) → slice_index mesh.has p ≤ length (owned match m.world p)
    counts_few p = omega (arith, count_is p, counts_most match m.world i p kept)

    -- who has left it
    closed : (p n : ℕ) → left_at mesh p ≡ Some n → IsClosed match (counts_of m.world) i p n
    closed p n e = kept.inv.closed i p n (ap (λ (machine : Machine). left_at machine p) counts_is ∙ e)

    gone_is : (k : ℕ) → is_gone (counts_of m.world) i k ≡ is_in mesh.gone k
    gone_is k = ap (λ (machine : Machine). is_in machine.gone k) counts_is

    has_is : (p : ℕ) → has_at (counts_of m.world) i p ≡ slice_index mesh.has p
    has_is p = ap (λ (machine : Machine). slice_index machine.has p) counts_is

  -- a player that has left a machine has as many words at each that this one doesn't regard as gone, and is neither's
  record IsLeftAt (i j p n : ℕ) (x y : Beside) : Type 0 where
    one : slice_index x.peer.member.mesh.machine.has p ≡ n
    other : slice_index y.peer.member.mesh.machine.has p ≡ n
    not_one : owner_in match p ≢ i
    not_other : owner_in match p ≢ j

  left_at_both : (here there : Step) (i j p n : ℕ) (x y : Beside) → IsMachine here peers i x → IsMachine there peers j y
      → IsHere x j
      → left_at x.peer.member.mesh.machine p ≡ Some n → IsLeftAt i j p n x y
  left_at_both one_step other_step i j p n x y is_x is_y stays left = record {
    one = sym (has_is one_step i x is_x p) ∙ c.has i (here one_step i x is_x).inside not_here;
    other = sym (has_is other_step j y is_y p) ∙ c.has j (here other_step j y is_y).inside not_there;
    not_one = λ e. false≢true (sym not_here ∙ ap c.among (sym e) ∙ c.orphan);
    not_other = λ e. false≢true (sym not_there ∙ ap c.among (sym e) ∙ c.orphan);
  }
    where
      c : IsClosed match (counts_of m.world) i p n
      c = closed one_step i x is_x p n left

      not_here : c.among i ≡ false
      not_here = false_from_ne_true (c.among i) (λ e. false≢true (sym (kept.inv.not_self i) ∙ c.gone i e))

      not_there : c.among j ≡ false
      not_there = false_from_ne_true (c.among j)
          (λ e. false≢true (sym stays ∙ sym (gone_is one_step i x is_x j) ∙ c.gone j e))

  module _ (one other : Step) (i j : ℕ) (a b : Beside) (is_a : IsMachine one peers i a) (is_b : IsMachine other peers j b)
      (here_a : IsHere a j) (here_b : IsHere b i) (apart : i ≢ j) where
    owner_many : (p : ℕ) → length (owned match m.world p) ≡ count m.world (owner_in match p) p
    owner_many p = kept.many p

    -- a word that both have is one that both count
    both_count : (p t : ℕ) → p < PLAYER_LIMIT → t < length (words_of a.session (p + 1)) → t < length (words_of b.session (p + 1))
        → (t < slice_index a.peer.member.mesh.machine.has p) × (t < slice_index b.peer.member.mesh.machine.has p)
    both_count p t l at_a at_b = go (cases_eq (owner_in match p) i) (cases_eq (owner_in match p) j)
      where
        has_a : ℕ
        has_a = slice_index a.peer.member.mesh.machine.has p

        has_b : ℕ
        has_b = slice_index b.peer.member.mesh.machine.has p

        go : (owner_in match p ≡ i) ⊎ (owner_in match p ≡ i → ⊥) → (owner_in match p ≡ j) ⊎ (owner_in match p ≡ j → ⊥)
            → (t < has_a) × (t < has_b)
        go (inl e) (inl f) = absurd (apart (sym e ∙ f))
        go (inl e) (inr f) =
            let below : t < has_b = omega (arith, at_b, others_count other j b is_b p l f) in
            let most : has_b ≤ has_a = omega (
              arith,
              counts_few other j b is_b p,
              owner_many p,
              ap (λ k. count m.world k p) e,
              count_is one i a is_a p,
            ) in
            (omega (arith, below, most), below)
        go (inr e) (inl f) =
            let below : t < has_a = omega (arith, at_a, others_count one i a is_a p l e) in
            let most : has_a ≤ has_b = omega (
              arith,
              counts_few one i a is_a p,
              owner_many p,
              ap (λ k. count m.world k p) f,
              count_is other j b is_b p,
            ) in
            (below, omega (arith, below, most))
        go (inr e) (inr f) =
            (omega (arith, at_a, others_count one i a is_a p l e), omega (arith, at_b, others_count other j b is_b p l f))

    -- who is gone at one has no word at the other from there on
    gone_at_both : (here there : Step) (k q p t : ℕ) (x y : Beside) → IsMachine here peers k x → IsMachine there peers q y
        → IsHere x q
        → p < PLAYER_LIMIT → is_gone_at x.session p ≡ true → length (words_of x.session (p + 1)) ≤ t
        → t < length (words_of y.session (p + 1)) → ⊥
    gone_at_both one_step other_step k q p t x y is_x is_y stays l gone past before =
        go (left_at x.peer.member.mesh.machine p) refl ((near one_step k x is_x p l).gone gone)
      where
        go : (o : Option ℕ) → left_at x.peer.member.mesh.machine p ≡ o → is_some o ≡ true → ⊥
        go None e some = false≢true some
        go (Some n) e some =
            let left = left_at_both one_step other_step k q p n x y is_x is_y stays e in
            not_less t n (omega (arith, past, left.one, others_count one_step k x is_x p l left.not_one))
            (omega (arith, before, left.other, others_count other_step q y is_y p l left.not_other))
          where
            not_less : (t n : ℕ) → n ≤ t → t < n → ⊥
            not_less t n u v = omega (arith, u, v)

    same_cell : (t p : ℕ) (x y : Player) → p < PLAYER_LIMIT → IsPlayer a p x → IsPlayer b p y → is_known t x ≡ true
        → is_known t y ≡ true
        → cell_at t x ≡ cell_at t y
    same_cell t p x y l is_x is_y known_x known_y = go (known_cases t x known_x) (known_cases t y known_y)
      where
        many_a : length (words_of a.session (p + 1)) ≡ length x.words
        many_a = ap (λ (ws : List ℕ). length ws) is_x.words

        many_b : length (words_of b.session (p + 1)) ≡ length y.words
        many_b = ap (λ (ws : List ℕ). length ws) is_y.words

        go : (t < length x.words) ⊎ ((length x.words ≤ t) × (x.gone ≡ true))
            → (t < length y.words) ⊎ ((length y.words ≤ t) × (y.gone ≡ true)) → cell_at t x ≡ cell_at t y
        go (inl u) (inl v) =
            let counts = both_count p t l (omega (arith, u, many_a)) (omega (arith, v, many_b)) in
            let same : get_or x.words t 0 ≡ get_or y.words t 0 =
            ap (λ (ws : List ℕ). get_or ws t 0) (sym is_x.words) ∙ words_are one i a is_a p t l counts.0
            ∙ sym (words_are other j b is_b p t l counts.1) ∙ ap (λ (ws : List ℕ). get_or ws t 0) is_y.words in
            cell_confirmed t x u ∙ ap Word same ∙ sym (cell_confirmed t y v)
        go (inl u) (inr v) = absurd (gone_at_both other one j i p t b a is_b is_a here_b l (is_y.gone ∙ v.1)
            (omega (arith, v.0, many_b)) (omega (arith, u, many_a)))
        go (inr u) (inl v) = absurd (gone_at_both one other i j p t a b is_a is_b here_a l (is_x.gone ∙ u.1)
            (omega (arith, u.0, many_a)) (omega (arith, v, many_b)))
        go (inr u) (inr v) = cell_gone t x u.0 u.1 ∙ sym (cell_gone t y v.0 v.1)

    same_many : length a.session.core.players ≡ length b.session.core.players
    same_many = go (cases_order (length a.session.core.players) (length b.session.core.players))
      where
        fits_a : length a.session.core.players ≤ PLAYER_LIMIT
        fits_a = players_fit one a.session is_a.follows

        fits_b : length b.session.core.players ≤ PLAYER_LIMIT
        fits_b = players_fit other b.session is_b.follows

        alike : (p : ℕ) → p < PLAYER_LIMIT → nat_lt p (length a.session.core.players) ≡ nat_lt p (length b.session.core.players)
        alike p l =
            (near one i a is_a p l).there
            ∙ ap (λ (seat : Seat). nat_lt (owner_of seat p) seat.machines) (here one i a is_a).seat
            ∙ ap (λ (seat : Seat). nat_lt (owner_of seat p) seat.machines) (sym (here other j b is_b).seat)
            ∙ sym (near other j b is_b p l).there

        many_a : ℕ
        many_a = length a.session.core.players

        many_b : ℕ
        many_b = length b.session.core.players

        go : (many_a ≡ many_b) ⊎ ((many_a < many_b) ⊎ (many_b < many_a)) → many_a ≡ many_b
        go (inl e) = e
        go (inr (inl less)) =
            absurd (false≢true (sym (le-ltb many_a many_a (omega arith)) ∙ alike many_a (omega (arith, less, fits_b))
            ∙ lt-ltb many_a many_b less))
        go (inr (inr more)) =
            absurd (false≢true (sym (le-ltb many_b many_b (omega arith)) ∙ sym (alike many_b (omega (arith, more, fits_a)))
            ∙ lt-ltb many_b many_a more))

    -- rows before a frame that are known at both
    known_rows : (f : ℕ) → IsKnownTo a.session f → IsKnownTo b.session f
        → timeline a.session.core.players f ≡ timeline b.session.core.players f
    known_rows f known_a known_b =
        same_time f a.session.core.players b.session.core.players same_many (λ t l. at t l)
      where
        at : (t : ℕ) → t < f → AreSameAt t a.session.core.players b.session.core.players
        at t l place x y e g =
            same_cell t place x y
            (omega (arith, slice_get_within a.session.core.players place x e, players_fit one a.session is_a.follows))
            (player_is a place x e) (player_is b place y g)
            (known_of t a.session.core.players place x (known_a t l) e)
            (known_of t b.session.core.players place y (known_b t l) g)

-- states are alike where the rows are
are_one : (one other : Step) (a b : Beside) (f : ℕ)
    → timeline a.session.core.players f ≡ timeline b.session.core.players f
    → ((p first second : ℕ) → left_at a.peer.member.mesh.machine p ≡ Some first
    → left_at b.peer.member.mesh.machine p ≡ Some second → first ≡ second) → AreOne one other a b f
are_one one other a b f rows left = record {
  rows = rows;
  states = λ alike opening. same_run one other alike a.session.opening (timeline a.session.core.players f)
      ∙ (λ k. run other (opening k) (rows k));
  left = left;
}

pub two_peers_know_one : TwoPeersKnowOne
two_peers_know_one match games peers i j a b played is_a is_b here_a here_b frame known_a known_b = go (cases_eq i j)
  where
    m : Mirrors match peers
    m = mirrors match games peers played

    go : (i ≡ j) ⊎ (i ≡ j → ⊥) → AreOne (games i) (games j) a b frame
    go (inl e) =
        let same : a ≡ b = some_same a b (sym is_a.is ∙ ap peers.machines e ∙ is_b.is) in
        are_one (games i) (games j) a b frame (ap (λ (x : Beside). timeline x.session.core.players frame) same)
        (λ p first second f s. some_same first second
        (sym f ∙ ap (λ (x : Beside). left_at x.peer.member.mesh.machine p) same ∙ s))
    go (inr apart) =
        are_one (games i) (games j) a b frame
        (known_rows match peers m (games i) (games j) i j a b is_a is_b here_a here_b apart frame known_a known_b)
        (λ p first second f s.
        sym (left_at_both match peers m (games i) (games j) i j p first a b is_a is_b here_a f).other
        ∙ (left_at_both match peers m (games j) (games i) j i p second b a is_b is_a here_b s).one)

-- what is settled is known
pub two_peers_one_match : TwoPeersOneMatch
two_peers_one_match match games peers i j a b played is_a is_b here_a here_b frame low_a low_b =
    two_peers_know_one match games peers i j a b played is_a is_b here_a here_b frame
    (λ t l. settled_known (games i) a.session is_a.follows t (omega (arith, l, low_a)))
    (λ t l. settled_known (games j) b.session is_b.follows t (omega (arith, l, low_b)))
