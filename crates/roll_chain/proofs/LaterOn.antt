-- What becomes of the network of an epoch.
use Rattle.std.proofs.Common.{◌≡◌, ◌∙◌, ℕ, ◌<◌, ◌≤◌, List, ap, sym, subst, arith, Bool, Option, Some, None}
use Rattle.std.specs.Prelude.{if◌then◌else◌, slice_index}
use Rattle.roll_mesh.proofs.Handed.{count}
use Rattle.roll_mesh.specs.Machines.{left_at}
use Rattle.roll_mesh.specs.Words.{holder_at, Holder, WordWorld}
use Rattle.roll_mesh.specs.Worlds.{Match}
use Rattle.roll_mesh.specs.declared.limits.TheConstants.{PLAYER_LIMIT}
use Rattle.roll_mesh.specs.declared.machine.Machine.{Machine}
use Rattle.roll_peer.specs.MarkLaws.{mark_for}
use Rattle.roll_peer.specs.Marks.{mark_at}
use Rattle.roll_peer.specs.PeerWorlds.{AreSteps, IsPlayedTo, PeerWorld}
use Rattle.roll_peer.specs.Requests.{Beside}
use Rattle.roll_session.specs.Seen.{Step}
use Rattle.roll_wire.specs.declared.datagram.Marked.{Marked}
use Rattle.roll_chain.specs.Lasting.{IsLater, ItIsLater}
use Rattle.roll_peer.proofs.Mirrors.{mirrors, steps_mirror, IsAt, IsMirrored, Mirrors, MirrorsOn}
use Rattle.roll_peer.proofs.OneMark.{always_marked, has_few, known_by, steps_marked, AreMarked, AreMarkedOn}
use Rattle.roll_peer.proofs.Rising.{had_left, rise, stay}
use Rattle.roll_chain.proofs.Together.{mark_for_is, own_frame}

module _ (match : Match) (games : ℕ → Step) (world later : PeerWorld) (more : List PeerWorld) (played : IsPlayedTo match games world)
    (steps : AreSteps match games world more later) (i : ℕ) (a b : Beside) (is_a : world.machines i ≡ Some a) (is_b : later.machines i ≡ Some b)
  where
    m : Mirrors match world
    m = mirrors match games world played

    on : MirrorsOn match m.world later
    on = steps_mirror match games world more later m steps

    here_a : IsMirrored match m.world i a
    here_a = subst (λ (o : Option Beside). IsAt match m.world i o) is_a (m.each i)

    here_b : IsMirrored match on.mirrors.world i b
    here_b = subst (λ (o : Option Beside). IsAt match on.mirrors.world i o) is_b (on.mirrors.each i)

    mesh_a : (holder_at m.world i).mesh ≡ a.peer.member.mesh.machine
    mesh_a = ap (λ (h : Holder). h.mesh) (sym here_a.holds)

    mesh_b : (holder_at on.mirrors.world i).mesh ≡ b.peer.member.mesh.machine
    mesh_b = ap (λ (h : Holder). h.mesh) (sym here_b.holds)

    has_a : (p : ℕ) → count m.world i p ≡ slice_index a.peer.member.mesh.machine.has p
    has_a p = ap (λ (x : Machine). slice_index x.has p) mesh_a

    has_b : (p : ℕ) → count on.mirrors.world i p ≡ slice_index b.peer.member.mesh.machine.has p
    has_b p = ap (λ (x : Machine). slice_index x.has p) mesh_b

    rises : (p : ℕ) → slice_index a.peer.member.mesh.machine.has p ≤ slice_index b.peer.member.mesh.machine.has p
    rises p = omega (arith, rise match m.world m.from on.comes.0 i p, has_a p, has_b p, ap (λ (w : WordWorld). count w i p) on.comes.1)

    left : (p n : ℕ) → left_at a.peer.member.mesh.machine p ≡ Some n → left_at b.peer.member.mesh.machine p ≡ Some n
    left p n e =
        ap (λ (x : Machine). left_at x p) (sym mesh_b)
        ∙ ap (λ (w : WordWorld). left_at (holder_at w i).mesh p) (sym on.comes.1)
        ∙ stay match m.world m.from on.comes.0 i p n (ap (λ (x : Machine). left_at x p) mesh_a ∙ e)

    had : (p n : ℕ) → left_at a.peer.member.mesh.machine p ≡ Some n → slice_index a.peer.member.mesh.machine.has p ≡ n
    had p n e = sym (has_a p) ∙ had_left match m.world m.from i p n (ap (λ (x : Machine). left_at x p) mesh_a ∙ e)

    had_later : (p n : ℕ) → left_at b.peer.member.mesh.machine p ≡ Some n → slice_index b.peer.member.mesh.machine.has p ≡ n
    had_later p n e =
        sym (has_b p) ∙ had_left match on.mirrors.world on.mirrors.from i p n (ap (λ (x : Machine). left_at x p) mesh_b ∙ e)

    marked : AreMarked match world
    marked = always_marked match games world played

    marked_on : AreMarkedOn match world later m
    marked_on = steps_marked match games world more later m marked steps

    keeps : (p : ℕ) (k : Marked) → p < PLAYER_LIMIT → mark_at a.peer.marks p ≡ Some k → mark_at b.peer.marks p ≡ Some k
    keeps p k l e =
        ap (λ (o : Option Beside). known_by o p) (sym is_b)
        ∙ marked_on.keeps i p k l (ap (λ (o : Option Beside). known_by o p) is_a ∙ e)

    learns : (p : ℕ) (k : Marked) → p < PLAYER_LIMIT → k.frame < slice_index a.peer.member.mesh.machine.has p
        → mark_at b.peer.marks p ≡ Some k → mark_at a.peer.marks p ≡ Some k
    learns p k l lt e =
        mark_for_is (mark_at a.peer.marks p) k
        ((marked.each i a is_a).same p k.frame l lt
        ∙ sym (marked_on.still p k.frame l (omega (arith, lt, has_few match world m i a p is_a)))
        ∙ sym ((marked_on.marked.each i b is_b).same p k.frame l (omega (arith, lt, rises p)))
        ∙ ap (λ (o : Option Marked). mark_for o k.frame) e ∙ own)
      where
        own : mark_for (Some k) k.frame ≡ Some k.mark
        own = ap (λ (x : Bool). if x then Some k.mark else None) (own_frame k.frame)

    is_later : IsLater a.peer b.peer
    is_later = record {
      seat = here_b.seat ∙ sym here_a.seat;
      keeps = keeps;
      learns = learns;
      rises = λ p l. rises p;
      left = left;
      had = had;
      leaves = λ p n l e. omega (arith, rises p, had_later p n e);
    }

pub it_is_later : ItIsLater
it_is_later match games world later more i a b played steps is_a is_b =
    is_later match games world later more played steps i a b is_a is_b
