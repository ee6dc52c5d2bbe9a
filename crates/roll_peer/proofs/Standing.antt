-- A machine whose session and network hold what steps of the laws over words come to.
use Rattle.std.proofs.Common.{◌≡◌, ◌∙◌, ℕ, ◌+◌, ◌<◌, ◌≤◌, List, [], ◌++◌, length, take, refl, ap, sym, subst, arith, Bool, true, false, Some}
use Rattle.std.specs.Prelude.{◌==◌, if◌then◌else◌, is_none, slice_get, slice_index, slice_index_or, slice_set}
use Rattle.std.proofs.lemmas.Bool.{ne_eqb}
use Rattle.std.proofs.lemmas.List.{get_or-set_same, length-take, length-take-le, take-append-le}
use Rattle.roll_mesh.specs.declared.limits.TheConstants.{PLAYER_LIMIT}
use Rattle.roll_mesh.specs.declared.machine.Machine.{Machine}
use Rattle.roll_mesh.specs.declared.packet.Packet.{Packet}
use Rattle.roll_mesh.specs.declared.seat.Seat.{Seat}
use Rattle.roll_mesh.specs.Machines.{at_places, leave, left, owner_of}
use Rattle.roll_mesh.specs.Meshes.{leave_refusal, stepped, Seated}
use Rattle.roll_mesh.specs.Words.{hear_words, holder_at, no_holder, with_machine, words_after, words_after_all, words_changed, words_played, Hears, Holder, Leaves, LetsLeave, Parcel, WordStep, WordWorld}
use Rattle.roll_mesh.specs.Worlds.{Match, seat_of}
use Rattle.roll_mesh.proofs.Beginnings.{always_kept}
use Rattle.roll_mesh.proofs.Handed.{counts_most, holders_many, mesh_sized, Kept}
use Rattle.roll_mesh.proofs.Places.{at_place, filled, length_places}
use Rattle.roll_session.specs.Headline.{words_of}
use Rattle.roll_session.specs.Seen.{Seen, Step}
use Rattle.roll_member.specs.Beside.{caught_up, IsOf}
use Rattle.roll_member.specs.Hearing.{HearsPacket}
use Rattle.roll_member.specs.Joined.{held, known, words_known}
use Rattle.roll_member.specs.Leaving.{DisconnectsAll, Leaves as LeavesMesh}
use Rattle.roll_member.specs.declared.leaving.Left.{Left as WhoLeft}
use Rattle.roll_member.specs.declared.member.Taken.{Taken}
use Rattle.roll_member.proofs.Beside.{near_at, IsNearAt}
use Rattle.roll_member.proofs.Holding.{same_places}
use Rattle.roll_member.proofs.Known.{known_few}
use Rattle.roll_member.proofs.Tied.{left_held}
use Rattle.roll_peer.specs.Peered.{beside, Peered}
use Rattle.roll_peer.specs.Receiving.{meeting}
use Rattle.roll_peer.specs.Turning.{without}
use Rattle.roll_peer.proofs.Coming.{after_both, comes_by, gives_all, held_to, with_holder, Comes}

-- ---- what is held, by the words of a session

abbrev pub held_by : Seen → Seated → Holder
held_by s mesh = held (record { session = s; mesh = mesh })

pub holds : (s : Seen) (mesh : Seated) (machine : Machine) (count : ℕ → ℕ)
    → mesh.machine ≡ record machine { has = mesh.machine.has } → length mesh.machine.has ≡ length machine.has
    → ((k : ℕ) → k < length machine.has → slice_index mesh.machine.has k ≡ count k)
    → held_by s mesh ≡ held_to (λ p. words_of s (p + 1)) machine count
holds s mesh machine count e many h =
    let has : mesh.machine.has ≡ at_places count machine.has = filled count machine.has mesh.machine.has 0 many h in
    let machine-is : mesh.machine ≡ record machine { has = at_places count machine.has } =
    e ∙ ap (λ (ns : List ℕ). record machine { has = ns }) has in
    let words : at_places (words_known (record { session = s; mesh = mesh })) mesh.machine.has
    ≡ at_places (λ p. take (count p) (words_of s (p + 1))) machine.has =
    same_places (words_known (record { session = s; mesh = mesh })) (λ p. take (count p) (words_of s (p + 1)))
    mesh.machine.has machine.has many (λ k l. ap (λ n. take n (words_of s (k + 1))) (h k l)) in
    (λ i. record { mesh = machine-is i; words = words i })

-- ---- what follows for the machine of a played world

abbrev pub IsFrom : Match → WordWorld → Type 0
IsFrom match world = (steps : List WordStep) × (words_played match steps ≡ world)

pub from_more : (match : Match) (world : WordWorld) (steps : List WordStep) → IsFrom match world
    → IsFrom match (words_after_all match world steps)
from_more match world steps w = (
  w.0 ++ steps,
  after_both match _ w.0 steps ∙ ap (λ (x : WordWorld). words_after_all match x steps) w.1,
)

pub from_kept : (match : Match) (world : WordWorld) → IsFrom match world → Kept match world
from_kept match world w = subst (Kept match) w.1 (always_kept match w.0)

pub from_holder : (match : Match) (world : WordWorld) (i : ℕ) (holder : Holder) → IsFrom match world
    → Comes match world i holder → IsFrom match (with_holder world i holder)
from_holder match world i holder w c = subst (IsFrom match) c.1 (from_more match world c.0 w)

pub inside_of : (match : Match) (world : WordWorld) (i : ℕ) → IsFrom match world → i < match.machines
    → i < length world.holders
inside_of match world i w l = omega (arith, l, holders_many match world (from_kept match world w))

pub here_is : (world : WordWorld) (i : ℕ) (holder : Holder) → i < length world.holders
    → holder_at (with_holder world i holder) i ≡ holder
here_is world i holder l = get_or-set_same world.holders i holder no_holder l

-- as many counts as there can be players
pub sized_at : (match : Match) (world : WordWorld) (i : ℕ) (holder : Holder) → IsFrom match world → i < match.machines
    → Comes match world i holder → length holder.mesh.has ≡ PLAYER_LIMIT
sized_at match world i holder w l c =
    let later = from_holder match world i holder w c in
    subst (λ (h : Holder). length h.mesh.has ≡ PLAYER_LIMIT) (here_is world i holder (inside_of match world i w l))
    (mesh_sized match (with_holder world i holder) i (from_kept match (with_holder world i holder) later) l).has

-- a session has at least as many words as its machine counts
pub few_at : (match : Match) (world : WordWorld) (i : ℕ) (s : Seen) (mesh : Seated) → IsFrom match world → i < match.machines
    → Comes match world i (held_by s mesh) → (p : ℕ) → p < PLAYER_LIMIT
    → slice_index mesh.machine.has p ≤ length (words_of s (p + 1))
few_at match world i s mesh w l c p inside =
    let holder : Holder = held_by s mesh in
    let later : WordWorld = with_holder world i holder in
    let k = from_kept match later (from_holder match world i holder w c) in
    let here = here_is world i holder (inside_of match world i w l) in
    let count : slice_index (holder_at later i).mesh.has p ≡ slice_index mesh.machine.has p =
    ap (λ (h : Holder). slice_index h.mesh.has p) here in
    let words : slice_index_or (holder_at later i).words p [] ≡ take (slice_index mesh.machine.has p) (words_of s (p + 1)) =
    ap (λ (h : Holder). slice_index_or h.words p []) here
    ∙ at_place (words_known (record { session = s; mesh = mesh })) mesh.machine.has p []
    (omega (arith, inside, sized_at match world i holder w l c)) in
    omega (
      arith,
      count,
      ap (λ (ws : List ℕ). length ws) (sym words ∙ k.front i p),
      length-take-le (slice_index (holder_at later i).mesh.has p)
          (slice_index_or (holder_at later (owner_of (seat_of match 0) p)).words p [])
          (counts_most match later i p k),
      length-take (slice_index mesh.machine.has p) (words_of s (p + 1)),
    )

-- ---- a machine

-- its seat is the match's, and it comes to what it holds by steps of the world
pub record Stands (match : Match) (world : WordWorld) (i : ℕ) (s : Seen) (peer : Peered) : Type 0 where
  pub seat : peer.member.mesh.seat ≡ seat_of match i
  pub me : peer.settings.me ≡ i
  pub word : 1 ≤ match.words
  pub comes : Comes match world i (held (beside s peer))

module _ (match : Match) (world : WordWorld) (i : ℕ) (from : IsFrom match world) (there : i < match.machines) where
  inside : i < length world.holders
  inside = inside_of match world i from there

  -- what else a network has doesn't matter
  pub stands_as : (s : Seen) (old new : Peered) → new.member.mesh ≡ old.member.mesh → new.settings ≡ old.settings
      → Stands match world i s old → Stands match world i s new
  stands_as s old new same settings stands = record {
    seat = ap (λ (m : Seated). m.seat) same ∙ stands.seat;
    me = ap (λ x. x.me) settings ∙ stands.me;
    word = stands.word;
    comes = subst (λ (m : Seated). Comes match world i (held_by s m)) (sym same) stands.comes;
  }

  -- nor what else became of the session
  pub stands_on : (old new : Seen) (peer : Peered)
      → ((p : ℕ) → (more : List ℕ) × (words_of new (p + 1) ≡ words_of old (p + 1) ++ more))
      → Stands match world i old peer → Stands match world i new peer
  stands_on old new peer later stands = record {
    seat = stands.seat;
    me = stands.me;
    word = stands.word;
    comes = subst (λ (h : Holder). Comes match world i h) (sym same) stands.comes;
  }
    where
      mesh : Seated
      mesh = peer.member.mesh

      at : (p : ℕ) → p < length mesh.machine.has
          → words_known (record { session = new; mesh = mesh }) p ≡ words_known (record { session = old; mesh = mesh }) p
      at p l =
          let few = few_at match world i old mesh from there stands.comes p
          (omega (arith, l, sized_at match world i (held_by old mesh) from there stands.comes)) in
          ap (λ (ws : List ℕ). take (slice_index mesh.machine.has p) ws) (later p).1
          ∙ take-append-le (slice_index mesh.machine.has p) (words_of old (p + 1)) (later p).0 few

      same : held_by new mesh ≡ held_by old mesh
      same =
          ap (λ (ws : List (List ℕ)). record { mesh = mesh.machine; words = ws })
          (same_places (words_known (record { session = new; mesh = mesh })) (words_known (record { session = old; mesh = mesh }))
          mesh.machine.has mesh.machine.has refl at)

  -- it learns of the words that its session has of its own players: each is given
  pub stands_met : (s : Seen) (peer : Peered) → IsOf s peer.member → Stands match world i s peer
      → Stands match world i s (meeting s peer)
  stands_met s peer own stands = record {
    seat = stands.seat;
    me = stands.me;
    word = stands.word;
    comes = subst (λ (h : Holder). Comes match world i h) (sym now)
        (gives_all match world i (λ p. words_of s (p + 1)) mesh.machine inside (slice_index mesh.machine.has) (known s mesh.seat)
        (λ p l. (near p (below p l)).few)
        (λ p l. known_few s mesh.seat p (subst (λ (seat : Seat). 1 ≤ seat.words) (sym stands.seat) stands.word))
        (λ p l other. (near p (below p l)).all (ap (λ (seat : Seat). owner_of seat p == seat.me) stands.seat
        ∙ ne_eqb (owner_of (seat_of match i) p) i other))
        (subst (λ (h : Holder). Comes match world i h) before stands.comes));
  }
    where
      mesh : Seated
      mesh = peer.member.mesh

      sized : length mesh.machine.has ≡ PLAYER_LIMIT
      sized = sized_at match world i (held_by s mesh) from there stands.comes

      below : (p : ℕ) → p < length mesh.machine.has → p < PLAYER_LIMIT
      below p l = omega (arith, l, sized)

      near : (p : ℕ) → p < PLAYER_LIMIT → IsNearAt s mesh p
      near p l = near_at s mesh own.near p l

      before : held_by s mesh ≡ held_to (λ p. words_of s (p + 1)) mesh.machine (slice_index mesh.machine.has)
      before = holds s mesh mesh.machine (slice_index mesh.machine.has) refl refl (λ k l. refl)

      now : held_by s (caught_up s mesh) ≡ held_to (λ p. words_of s (p + 1)) mesh.machine (known s mesh.seat)
      now = holds s (caught_up s mesh) mesh.machine (known s mesh.seat) refl (length_places (known s mesh.seat) mesh.machine.has)
          (λ k l. at_place (known s mesh.seat) mesh.machine.has k 0 l)

  -- a machine is regarded as gone
  pub stands_left : (s : Seen) (peer : Peered) (m : ℕ) → Stands match world i s peer
      → Stands match world i s (record peer {
        member = record peer.member { mesh = stepped (λ seat here. leave seat m here) peer.member.mesh };
      })
  unfolding leave words_after
  stands_left s peer m stands = record {
    seat = stands.seat;
    me = stands.me;
    word = stands.word;
    comes = subst (λ (h : Holder). Comes match world i h) gone
        (comes_by match world i (held (beside s peer)) (Leaves i m) (with_machine (leave (seat_of match i) m)) inside
        refl stands.comes);
  }
    where
      mesh : Seated
      mesh = peer.member.mesh

      has : (seat : Seat) (machine : Machine) → (leave seat m machine).has ≡ machine.has
      has seat machine = go (m == seat.me)
        where
          go : (b : Bool) → (if b then machine else record machine { gone = slice_set machine.gone m true }).has ≡ machine.has
          go true = refl
          go false = refl

      gone : with_machine (leave (seat_of match i) m) (held_by s mesh) ≡ held_by s (stepped (λ seat here. leave seat m here) mesh)
      gone =
          ap (λ (seat : Seat). with_machine (leave seat m) (held_by s mesh)) (sym stands.seat)
          ∙ ap (λ (ws : List (List ℕ)). record { mesh = leave mesh.seat m mesh.machine; words = ws })
          (ap (λ (ns : List ℕ). at_places (λ p. take (slice_index ns p) (words_of s (p + 1))) ns)
          (sym (has mesh.seat mesh.machine)))

  pub stands_without : (s : Seen) (peer : Peered) (m : ℕ) → Stands match world i s peer
      → Stands match world i s (record peer { member = record peer.member { mesh = without m peer.member.mesh } })
  stands_without s peer m stands = go (is_none (leave_refusal peer.member.mesh m))
    where
      go : (b : Bool) → Stands match world i s (record peer {
        member = record peer.member {
          mesh = if b then stepped (λ seat machine. leave seat m machine) peer.member.mesh else peer.member.mesh;
        };
      })
      go true = stands_left s peer m stands
      go false = stands

  -- players leave, if they may
  pub stands_parted : (old new : Seen) (peer after : Peered) (who : WhoLeft) → LeavesMesh (beside old peer) (beside new after) who
      → after.settings ≡ peer.settings → Stands match world i old peer → Stands match world i new after
  unfolding words_after
  stands_parted old new peer after who leaves settings stands = record {
    seat = ap (λ (m : Seated). m.seat) leaves.mesh ∙ stands.seat;
    me = ap (λ x. x.me) settings ∙ stands.me;
    word = stands.word;
    comes = subst (λ (h : Holder). Comes match world i h) gone
        (comes_by match world i (held (beside old peer)) (LetsLeave i) (with_machine (left (seat_of match i))) inside
        refl stands.comes);
  }
    where
      mesh : Seated
      mesh = peer.member.mesh

      gone : with_machine (left (seat_of match i)) (held_by old mesh) ≡ held_by new after.member.mesh
      gone =
          ap (λ (seat : Seat). with_machine (left seat) (held_by old mesh)) (sym stands.seat)
          ∙ sym (left_held old new mesh who
          (subst (λ (m : Seated). DisconnectsAll old m.machine new who) leaves.mesh leaves.session))
          ∙ ap (λ (m : Seated). held_by new m) (sym leaves.mesh)

  -- a parcel is heard that was told
  pub stands_heard : (step : Step) (old new : Seen) (peer after : Peered) (packet : Packet) (words : List ℕ) (end : ℕ) (taken : Taken)
      → HearsPacket step (beside old peer) (beside new after) packet words end taken → after.settings ≡ peer.settings
      → (place : ℕ) (parcel : Parcel) → slice_get world.sent place ≡ Some parcel
      → held (beside new after) ≡ hear_words peer.member.mesh.seat after.member.mesh.machine.has parcel (held (beside old peer))
      → Stands match world i old peer → Stands match world i new after
  unfolding words_after
  stands_heard step old new peer after packet words end taken hears settings place parcel told heard stands = record {
    seat = ap (λ (m : Seated). m.seat) hears.mesh ∙ stands.seat;
    me = ap (λ x. x.me) settings ∙ stands.me;
    word = stands.word;
    comes = subst (λ (h : Holder). Comes match world i h) (sym now)
        (comes_by match world i (held (beside old peer)) (Hears i place most) (hear_words (seat_of match i) most parcel)
        inside step-is
        stands.comes);
  }
    where
      most : List ℕ
      most = after.member.mesh.machine.has

      now : held (beside new after) ≡ hear_words (seat_of match i) most parcel (held (beside old peer))
      now = heard ∙ ap (λ (seat : Seat). hear_words seat most parcel (held (beside old peer))) stands.seat

      step-is : words_after match (with_holder world i (held (beside old peer))) (Hears i place most)
          ≡ words_changed (with_holder world i (held (beside old peer))) i (hear_words (seat_of match i) most parcel)
      step-is = rw told refl
