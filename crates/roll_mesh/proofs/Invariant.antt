-- What holds of a match after any steps, and that each step keeps it.
use Rattle.std.proofs.Common.{◌≡◌, ℕ, ◌+◌, ◌<◌, ◌≤◌, List, [], ◌∷◌, length, get_or, refl, sym, ◌∙◌, ap, Bool, true, false, arith, inl, inr, subst, Some, None}
use Rattle.std.specs.Prelude.{◌⊎◌, slice_index, replicate, if◌then◌else◌, ◌||◌, ◌==◌, min}
use Rattle.std.proofs.lemmas.Bool.{false≢true, cases_Bool, cases_lt}
use Rattle.std.proofs.lemmas.List.{get_or_past, get_or-replicate, length-replicate}
use Rattle.roll_mesh.specs.declared.machine.Machine.{Machine}
use Rattle.roll_mesh.specs.declared.packet.Offer.{Offer}
use Rattle.roll_mesh.specs.declared.packet.Packet.{Packet}
use Rattle.roll_mesh.specs.declared.packet.View.{View}
use Rattle.roll_mesh.specs.Laws.{no_machine, machine_at, has_at, is_gone, left_of, owner_in}
use Rattle.roll_mesh.specs.Machines.{at_places, is_in, told_by, left_at, offer_at, offer_of, tell, said_by}
use Rattle.roll_mesh.specs.Worlds.{Match, World, Step, seat_of, first_machine, first_world, after, after_all, played}
use Rattle.roll_mesh.proofs.Places.{at_place, past_places}
use Rattle.roll_mesh.proofs.Changes.{Sent, Gives, Tells, Agrees, Leaves, none_some}
use Rattle.roll_mesh.proofs.Moves.{Moves, Telling, step_moves}

-- a packet tells no more than its sender has and regards as gone by now, and offers no more than it
-- tells
pub record IsPast (world : World) (packet : Packet) : Type 0 where
  pub fenced : (m : ℕ) → is_in packet.view.gone m ≡ true → is_gone world packet.sender m ≡ true
  pub has : (p : ℕ) → slice_index packet.view.has p ≤ has_at world packet.sender p
  pub offered : (p : ℕ) → (offer_at packet p).end ≤ slice_index packet.view.has p

-- machine m told that it regards all of these as gone, and has at most n words of player p
pub record HasTold (sent : List Packet) (m : ℕ) (among : ℕ → Bool) (p n : ℕ) : Type 0 where
  pub packet : Packet
  pub was_sent : Sent packet sent
  pub by : packet.sender ≡ m
  pub fenced : (k : ℕ) → among k ≡ true → is_in packet.view.gone k ≡ true
  pub few : slice_index packet.view.has p ≤ n

-- some machines are gone, the owner of player p among them: machine i regards them so, and so does
-- each machine that isn't one of them, which has n words of player p
pub record IsClosed (match : Match) (world : World) (i p n : ℕ) : Type 0 where
  pub among : ℕ → Bool
  pub orphan : among (owner_in match p) ≡ true
  pub gone : (m : ℕ) → among m ≡ true → is_gone world i m ≡ true
  pub fenced : (j : ℕ) → j < match.machines → among j ≡ false → (m : ℕ) → among m ≡ true
      → is_gone world j m ≡ true
  pub has : (j : ℕ) → j < match.machines → among j ≡ false → has_at world j p ≡ n

-- if each machine that isn't one of these, and has more than n words of player p, told that it
-- regards them as gone and has at most n, no machine that isn't one of them has more than n
abbrev pub Guards : Match → World → Type 0
Guards match world =
    (among : ℕ → Bool) (p n : ℕ) → among (owner_in match p) ≡ true
    → ((m : ℕ) → among m ≡ false → n < has_at world m p → HasTold world.sent m among p n)
    → (i : ℕ) → among i ≡ false → has_at world i p ≤ n

pub record Invariant (match : Match) (world : World) : Type 0 where
  pub as_many : length world.machines ≡ match.machines
  pub not_self : (i : ℕ) → is_gone world i i ≡ false
  pub past : (packet : Packet) → Sent packet world.sent → IsPast world packet
  pub told : (i m : ℕ) (view : View) → told_by (machine_at world i) m ≡ Some view
      → Tells world.sent m view
  pub most : (i p : ℕ) → has_at world i p ≤ has_at world (owner_in match p) p
  pub guards : Guards match world
  pub closed : (i p n : ℕ) → left_of world i p ≡ Some n → IsClosed match world i p n

-- ---- a step of a machine

past_moves : (match : Match) (world later : World) → Invariant match world → Moves match world later
    → (packet : Packet) → Sent packet later.sent → IsPast later packet
past_moves match world later inv moves packet was =
    let old = inv.past packet (subst (Sent packet) moves.same_sent was) in
    record {
      fenced = λ m h. (moves.each packet.sender).grows m (old.fenced m h);
      has = λ p. omega (arith, old.has p, (moves.each packet.sender).rises p);
      offered = old.offered;
    }

told_moves : (match : Match) (world later : World) → Invariant match world → Moves match world later
    → (i m : ℕ) (view : View) → told_by (machine_at later i) m ≡ Some view → Tells later.sent m view
told_moves match world later inv moves i m view h =
    subst (λ (s : List Packet). Tells s m view) (sym moves.same_sent)
    (go ((moves.each i).told m view h))
  where
    go : (told_by (machine_at world i) m ≡ Some view) ⊎ Tells world.sent m view
        → Tells world.sent m view
    go (inl t) = inv.told i m view t
    go (inr t) = t

-- what a packet gives, its sender has
given : (match : Match) (world : World) (gone : List Bool) (p has : ℕ) → Invariant match world
    → (g : Gives match world.sent gone p has) → has ≤ has_at world g.packet.sender p
given match world gone p has inv g =
    let past = inv.past g.packet g.was_sent in
    omega (arith, g.offered, past.offered p, past.has p)

most_moves : (match : Match) (world later : World) → Invariant match world → Moves match world later
    → (i p : ℕ) → has_at later i p ≤ has_at later (owner_in match p) p
most_moves match world later inv moves i p = go ((moves.each i).limited p)
  where
    go : (has_at later i p ≤ has_at world i p)
        ⊎ ((owner_in match p ≡ i) ⊎ Gives match world.sent (machine_at world i).gone p
        (has_at later i p)) → has_at later i p ≤ has_at later (owner_in match p) p
    go (inl l) = omega (arith, l, inv.most i p, (moves.each (owner_in match p)).rises p)
    go (inr (inl e)) = subst (λ (o : ℕ). has_at later i p ≤ has_at later o p) (sym e) (omega arith)
    go (inr (inr g)) = omega (
      arith,
      given match world (machine_at world i).gone p
          (has_at later i p) inv g,
      inv.most g.packet.sender p,
      (moves.each (owner_in match p)).rises p,
    )

-- one of these is none of the others
not_both : (b : Bool) → b ≡ true → b ≡ false → ⊥
not_both b t f = false≢true (sym f ∙ t)

-- who isn't regarded as gone by a machine that regards all of these as gone, is none of them
pub is_outside : (among : ℕ → Bool) (world : World) (i s : ℕ)
    → ((m : ℕ) → among m ≡ true → is_gone world i m ≡ true) → is_gone world i s ≡ false
    → among s ≡ false
is_outside among world i s fenced listened = go (cases_Bool (among s))
  where
    go : (among s ≡ true) ⊎ (among s ≡ false) → among s ≡ false
    go (inl t) = absurd (not_both (is_gone world i s) (fenced s t) listened)
    go (inr f) = f

guards_moves : (match : Match) (world later : World) → Invariant match world
    → Moves match world later → Guards match later
guards_moves match world later inv moves among p n orphan told i out = go ((moves.each i).limited p)
  where
    told_before : (m : ℕ) → among m ≡ false → n < has_at later m p → HasTold world.sent m among p n
    told_before m o l = subst (λ (s : List Packet). HasTold s m among p n) moves.same_sent
        (told m o l)

    before : (m : ℕ) → among m ≡ false → has_at world m p ≤ n
    before = inv.guards among p n orphan (λ m o l. told_before m o
        (omega (arith, (moves.each m).rises p)))

    go : (has_at later i p ≤ has_at world i p)
        ⊎ ((owner_in match p ≡ i) ⊎ Gives match world.sent (machine_at world i).gone p
        (has_at later i p)) → has_at later i p ≤ n
    go (inl l) = omega (arith, l, before i out)
    go (inr (inl e)) = absurd (not_both (among i) (subst (λ (o : ℕ). among o ≡ true) e orphan) out)
    go (inr (inr g)) = split (cases_lt n (has_at later i p))
      where
        split : (n < has_at later i p) ⊎ (has_at later i p ≤ n) → has_at later i p ≤ n
        split (inr l) = l
        split (inl l) =
            let t = told_before i out l in
            let past = inv.past t.packet t.was_sent in
            let fenced : (m : ℕ) → among m ≡ true → is_gone world i m ≡ true =
            λ m a. subst (λ (s : ℕ). is_gone world s m ≡ true) t.by
            (past.fenced m (t.fenced m a)) in
            let outside = is_outside among world i g.packet.sender fenced g.listened in
            omega (
              arith,
              given match world (machine_at world i).gone p (has_at later i p) inv g,
              before g.packet.sender outside,
            )

-- no machine past the last one has words
pub none_past : (match : Match) (world : World) (i p : ℕ) → length world.machines ≡ match.machines
    → match.machines ≤ i → has_at world i p ≡ 0
none_past match world i p many past = ap (λ (m : Machine). slice_index m.has p)
    (get_or_past world.machines i no_machine (omega arith))

-- what is closed stays so
closed_moves : (match : Match) (world later : World) → Invariant match world
    → Moves match world later → (i p n : ℕ) → IsClosed match world i p n
    → IsClosed match later i p n
closed_moves match world later inv moves i p n c = record {
  among = c.among;
  orphan = c.orphan;
  gone = λ m a. (moves.each i).grows m (c.gone m a);
  fenced = λ j l o m a. (moves.each j).grows m (c.fenced j l o m a);
  has = λ j l o. has j l o ((moves.each j).limited p);
}
  where
    few : (s : ℕ) → c.among s ≡ false → (s < match.machines) ⊎ (match.machines ≤ s)
        → has_at world s p ≤ n
    few s o (inl l) = omega (arith, c.has s l o)
    few s o (inr g) = omega (arith, none_past match world s p inv.as_many g)

    has : (j : ℕ) → j < match.machines → c.among j ≡ false → (has_at later j p ≤ has_at world j p)
        ⊎ ((owner_in match p ≡ j) ⊎ Gives match world.sent (machine_at world j).gone p
        (has_at later j p)) → has_at later j p ≡ n
    has j l o (inl e) = omega (arith, e, c.has j l o, (moves.each j).rises p)
    has j l o (inr (inl e)) =
        absurd (not_both (c.among j) (subst (λ (k : ℕ). c.among k ≡ true) e c.orphan) o)
    has j l o (inr (inr g)) =
        let outside = is_outside c.among world j g.packet.sender (c.fenced j l o) g.listened in
        omega (
          arith,
          c.has j l o,
          (moves.each j).rises p,
          given match world (machine_at world j).gone p (has_at later j p) inv g,
          few g.packet.sender outside (cases_lt g.packet.sender match.machines),
        )

-- when a player leaves, it is closed
leaves_closed : (match : Match) (world : World) (i p n : ℕ) → length world.machines ≡ match.machines
    → ((packet : Packet) → Sent packet world.sent → IsPast world packet)
    → ((m : ℕ) (view : View) → told_by (machine_at world i) m ≡ Some view → Tells world.sent m view)
    → Guards match world → Leaves match i (machine_at world i) p n → IsClosed match world i p n
leaves_closed match world i p n many past told guards leaves = record {
  among = λ m. is_gone world i m;
  orphan = leaves.orphan;
  gone = λ m a. a;
  fenced = λ j l o. fenced j o (leaves.others j l);
  has = λ j l o. has j o (few j o) (leaves.others j l);
}
  where
    told_few : (m : ℕ) → is_gone world i m ≡ false → n < has_at world m p → (m ≡ i)
        ⊎ ((is_gone world i m ≡ true) ⊎ Agrees (machine_at world i).gone p n
        (told_by (machine_at world i) m)) → HasTold world.sent m (λ k. is_gone world i k) p n
    told_few m o l (inl e) = absurd (omega (arith, leaves.has, ap (λ (k : ℕ). has_at world k p) e))
    told_few m o l (inr (inl g)) = absurd (not_both (is_gone world i m) g o)
    told_few m o l (inr (inr a)) =
        let t = told m a.view a.last in
        record {
          packet = t.packet;
          was_sent = t.was_sent;
          by = t.by;
          fenced = λ k g. subst (λ (v : View). is_in v.gone k ≡ true) (sym t.said) (a.fenced k g);
          few = omega (arith, a.has, ap (λ (v : View). slice_index v.has p) t.said);
        }

    inside : (m : ℕ) → n < has_at world m p → (m < match.machines) ⊎ (match.machines ≤ m)
        → m < match.machines
    inside m l (inl s) = s
    inside m l (inr g) = absurd (omega (arith, none_past match world m p many g))

    few : (j : ℕ) → is_gone world i j ≡ false → has_at world j p ≤ n
    few = guards (λ m. is_gone world i m) p n leaves.orphan
        (λ m o l. told_few m o l (leaves.others m (inside m l (cases_lt m match.machines))))

    fenced : (j : ℕ) → is_gone world i j ≡ false → (j ≡ i)
        ⊎ ((is_gone world i j ≡ true) ⊎ Agrees (machine_at world i).gone p n
        (told_by (machine_at world i) j)) → (m : ℕ) → is_gone world i m ≡ true
        → is_gone world j m ≡ true
    fenced j o (inl e) m g = subst (λ (k : ℕ). is_gone world k m ≡ true) (sym e) g
    fenced j o (inr (inl a)) m g = absurd (not_both (is_gone world i j) a o)
    fenced j o (inr (inr a)) m g =
        let t = told j a.view a.last in
        subst (λ (k : ℕ). is_gone world k m ≡ true) t.by
        ((past t.packet t.was_sent).fenced m
        (subst (λ (v : View). is_in v.gone m ≡ true) (sym t.said) (a.fenced m g)))

    has : (j : ℕ) → is_gone world i j ≡ false → has_at world j p ≤ n → (j ≡ i)
        ⊎ ((is_gone world i j ≡ true) ⊎ Agrees (machine_at world i).gone p n
        (told_by (machine_at world i) j)) → has_at world j p ≡ n
    has j o l (inl e) = omega (arith, leaves.has, ap (λ (k : ℕ). has_at world k p) e)
    has j o l (inr (inl a)) = absurd (not_both (is_gone world i j) a o)
    has j o l (inr (inr a)) =
        let t = told j a.view a.last in
        omega (
          arith,
          l,
          a.has,
          ap (λ (v : View). slice_index v.has p) t.said,
          (past t.packet t.was_sent).has p,
          ap (λ (k : ℕ). has_at world k p) t.by,
        )

moves_keep : (match : Match) (world later : World) → Invariant match world → Moves match world later
    → Invariant match later
moves_keep match world later inv moves = record {
  as_many = moves.as_many ∙ inv.as_many;
  not_self = λ i. (moves.each i).unfenced (inv.not_self i);
  past = past_moves match world later inv moves;
  told = told_moves match world later inv moves;
  most = most_moves match world later inv moves;
  guards = guards_moves match world later inv moves;
  closed = λ i p n h. close i p n ((moves.each i).left p n h);
}
  where
    close : (i p n : ℕ) → (left_of world i p ≡ Some n) ⊎ Leaves match i (machine_at later i) p n
        → IsClosed match later i p n
    close i p n (inl h) = closed_moves match world later inv moves i p n (inv.closed i p n h)
    close i p n (inr l) =
        leaves_closed match later i p n (moves.as_many ∙ inv.as_many)
        (past_moves match world later inv moves) (told_moves match world later inv moves i)
        (guards_moves match world later inv moves) l

-- ---- one more packet

abbrev end_of : Offer → ℕ
end_of offer = offer.end

-- a machine offers no more than it has
offers_had : (match : Match) (i m : ℕ) (room : List ℕ) (machine : Machine) (p : ℕ)
    → (offer_of (seat_of match i) machine m room p).end ≤ slice_index machine.has p
unfolding offer_of
offers_had match i m room machine p = go ((owner_in match p == i) || is_in machine.gone
    (owner_in match p))
  where
    go : (b : Bool)
        → end_of (if b then record {
          first = min (said_by machine m p) (slice_index machine.has p);
          end = min (min (said_by machine m p) (slice_index machine.has p) + slice_index room p)
              (slice_index machine.has p);
        } else record { first = 0; end = 0 })
        ≤ slice_index machine.has p
    go true = omega arith
    go false = omega arith

pub tells_had : (match : Match) (i m : ℕ) (room : List ℕ) (machine : Machine) (p : ℕ)
    → (offer_at (tell (seat_of match i) m room machine) p).end ≤ slice_index machine.has p
unfolding tell
tells_had match i m room machine p = go (cases_lt p (length machine.has))
  where
    go : (p < length machine.has) ⊎ (length machine.has ≤ p)
        → (get_or (at_places (offer_of (seat_of match i) machine m room) machine.has) p
        (record { first = 0; end = 0 })).end ≤ slice_index machine.has p
    go (inl l) = rw (at_place (offer_of (seat_of match i) machine m room) machine.has p
        (record { first = 0; end = 0 }) l) (offers_had match i m room machine p)
    go (inr g) = rw (past_places (offer_of (seat_of match i) machine m room) machine.has p
        (record { first = 0; end = 0 }) g) (omega arith)

-- a packet that tells what its sender has and regards as gone
pub record IsNow (world : World) (packet : Packet) : Type 0 where
  pub gone : packet.view.gone ≡ (machine_at world packet.sender).gone
  pub has : packet.view.has ≡ (machine_at world packet.sender).has
  pub offered : (p : ℕ) → (offer_at packet p).end ≤ slice_index packet.view.has p

tells_now : (match : Match) (world : World) (i m : ℕ) (room : List ℕ)
    → IsNow world (tell (seat_of match i) m room (machine_at world i))
unfolding tell
tells_now match world i m room = record {
  gone = refl;
  has = refl;
  offered =
      tells_had match i m room (machine_at world i);
}

abbrev with_packet : World → Packet → World
with_packet world packet = record world { sent = packet ∷ world.sent }

packet_keeps : (match : Match) (world : World) (packet : Packet) → Invariant match world
    → IsNow world packet → Invariant match (with_packet world packet)
packet_keeps match world packet inv now = record {
  as_many = inv.as_many;
  not_self = inv.not_self;
  past = past;
  told = λ i m view h. later (inv.told i m view h);
  most = inv.most;
  guards = λ among p n orphan told. inv.guards among p n orphan
      (λ m o l. before among p n m l (told m o l));
  closed = λ i p n h. close (inv.closed i p n h);
}
  where
    past : (q : Packet) → (q ≡ packet) ⊎ Sent q world.sent → IsPast (with_packet world packet) q
    past q (inl e) = subst (IsPast (with_packet world packet)) (sym e) (record {
      fenced = λ m h. subst (λ (gone : List Bool). is_in gone m ≡ true) now.gone h;
      has = λ p. omega (arith, ap (λ (has : List ℕ). slice_index has p) now.has);
      offered = now.offered;
    })
    past q (inr s) = record {
      fenced = (inv.past q s).fenced;
      has = (inv.past q s).has;
      offered =
          (inv.past q s).offered;
    }

    later : {m : ℕ} {view : View} → Tells world.sent m view → Tells (packet ∷ world.sent) m view
    later t = record { packet = t.packet; was_sent = inr t.was_sent; by = t.by; said = t.said }

    close : {i p n : ℕ} → IsClosed match world i p n
        → IsClosed match (with_packet world packet) i p n
    close c = record {
      among = c.among;
      orphan = c.orphan;
      gone = c.gone;
      fenced = c.fenced;
      has =
          c.has;
    }

    before : (among : ℕ → Bool) (p n m : ℕ) → n < has_at world m p
        → HasTold (packet ∷ world.sent) m among p n → HasTold world.sent m among p n
    before among p n m l t = go t.was_sent
      where
        go : (t.packet ≡ packet) ⊎ Sent t.packet world.sent → HasTold world.sent m among p n
        go (inl e) =
            let has = ap (λ (h : List ℕ). slice_index h p) now.has in
            let told = ap (λ (q : Packet). slice_index q.view.has p) e in
            let who : has_at world packet.sender p ≡ has_at world m p =
            ap (λ (k : ℕ). has_at world k p) (sym (ap (λ (q : Packet). q.sender) e) ∙ t.by) in
            absurd (omega (arith, t.few, has, told, who))
        go (inr s) = record {
          packet = t.packet;
          was_sent = s;
          by = t.by;
          fenced = t.fenced;
          few =
              t.few;
        }

telling_keeps : (match : Match) (world later : World) → Invariant match world
    → Telling match world later → Invariant match later
telling_keeps match world later inv t =
    subst (Invariant match) (sym t.is)
    (packet_keeps match world (tell (seat_of match t.teller) t.to t.room
    (machine_at world t.teller)) inv (tells_now match world t.teller t.to t.room))

-- ---- any steps

step_keeps : (match : Match) (world : World) (step : Step) → Invariant match world
    → Invariant match (after match world step)
step_keeps match world step inv = go (step_moves match world step)
  where
    go : Moves match world (after match world step) ⊎ Telling match world (after match world step)
        → Invariant match (after match world step)
    go (inl m) = moves_keep match world (after match world step) inv m
    go (inr t) = telling_keeps match world (after match world step) inv t

pub steps_keep : (match : Match) (world : World) (steps : List Step) → Invariant match world
    → Invariant match (after_all match world steps)
steps_keep match world [] inv = inv
steps_keep match world (step ∷ steps) inv = steps_keep match (after match world step) steps
    (step_keeps match world step inv)

-- a list of one value, read anywhere
pub replicated : {X : Type 0} (n k : ℕ) (x : X) → get_or (replicate n x) k x ≡ x
replicated n k x = go (cases_lt k n)
  where
    go : (k < n) ⊎ (n ≤ k) → get_or (replicate n x) k x ≡ x
    go (inl l) = get_or-replicate n k x x l
    go (inr g) = get_or_past (replicate n x) k x (omega (arith, length-replicate n x))

-- a machine that knows nothing
pub record IsNew (machine : Machine) : Type 0 where
  pub has : (p : ℕ) → slice_index machine.has p ≡ 0
  pub gone : (m : ℕ) → is_in machine.gone m ≡ false
  pub told : (m : ℕ) → told_by machine m ≡ None
  pub left : (p : ℕ) → left_at machine p ≡ None

first_new : (match : Match) (i : ℕ) → IsNew (machine_at (first_world match) i)
first_new match i = go (cases_lt i match.machines)
  where
    go : (i < match.machines) ⊎ (match.machines ≤ i)
        → IsNew (get_or (replicate match.machines first_machine) i no_machine)
    go (inl l) =
        subst IsNew (sym (get_or-replicate match.machines i first_machine no_machine l))
        (record {
          has = λ p. replicated 8 p 0;
          gone = λ m. replicated 8 m false;
          told =
              λ m. replicated 8 m None;
          left = λ p. replicated 8 p None;
        })
    go (inr g) =
        subst IsNew (sym (get_or_past (replicate match.machines first_machine) i no_machine
        (omega (arith, length-replicate match.machines first_machine))))
        (record { has = λ p. refl; gone = λ m. refl; told = λ m. refl; left = λ p. refl })

first_kept : (match : Match) → Invariant match (first_world match)
first_kept match = record {
  as_many = length-replicate match.machines first_machine;
  not_self = λ i. (first_new match i).gone i;
  past = λ packet was. absurd was;
  told = λ i m view h. absurd (none_some view (sym ((first_new match i).told m) ∙ h));
  most = λ i p. omega (arith, (first_new match i).has p);
  guards = λ among p n orphan told i out. omega (arith, (first_new match i).has p);
  closed = λ i p n h. absurd (none_some n (sym ((first_new match i).left p) ∙ h));
}

pub always : (match : Match) (steps : List Step) → Invariant match (played match steps)
always match steps = steps_keep match (first_world match) steps (first_kept match)
