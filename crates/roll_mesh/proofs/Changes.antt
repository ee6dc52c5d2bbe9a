-- What a step of one machine may change.
use Rattle.std.proofs.Common.{◌≡◌, ℕ, ◌+◌, ◌<◌, ◌≤◌, List, [], ◌∷◌, length, get_or, set, refl, sym, ◌∙◌, ap, Bool, true, false, arith, inl, inr, subst, Option, Some, None}
use Rattle.std.specs.Bool.{beq}
use Rattle.std.specs.Option.{option_map_or}
use Rattle.std.specs.Prelude.{◌⊎◌, slice_index, not, ◌||◌, ◌==◌, if◌then◌else◌, ◌&&◌, nat_le, is_none, max}
use Rattle.std.proofs.lemmas.Bool.{false≢true, and_parts, or_cases, or_parts, or_left, cases_eq, cases_lt, eqb-true, eqb-false}
use Rattle.std.proofs.lemmas.List.{length-set, get_or-set_other, get_or_past}
use Rattle.roll_mesh.specs.declared.limits.TheConstants.{MACHINE_LIMIT, PLAYER_LIMIT}
use Rattle.roll_mesh.specs.declared.machine.Machine.{Machine}
use Rattle.roll_mesh.specs.declared.packet.Packet.{Packet}
use Rattle.roll_mesh.specs.declared.packet.View.{View}
use Rattle.roll_mesh.specs.declared.seat.Seat.{Seat}
use Rattle.roll_mesh.specs.Laws.{owner_in}
use Rattle.roll_mesh.specs.Machines.{at_places, at_all, is_in, is_same, same_gone, same_counts, is_fenced, is_believed, has_after, gone_after, told_after, is_news, agrees, may_leave, left_after, told_by, left_at, offer_at, give, leave, hear, taken, left}
use Rattle.roll_mesh.specs.Worlds.{Match, seat_of}
use Rattle.roll_mesh.proofs.Places.{length_places, at_place, past_places, is_inside, in_places, in_inside, all_below, at_each, set_keeps, set_or, one_more}

-- a packet that was sent
abbrev pub Sent : Packet → List Packet → Type 0
Sent packet [] = ⊥
Sent packet (p ∷ ps) = (packet ≡ p) ⊎ Sent packet ps

-- a packet from which a machine that regards these as gone may take so many words of player p
pub record Gives (match : Match) (sent : List Packet) (gone : List Bool) (p has : ℕ) : Type 0 where
  pub packet : Packet
  pub was_sent : Sent packet sent
  pub listened : is_in gone packet.sender ≡ false
  pub offered : has ≤ (offer_at packet p).end
  pub of_owner : (packet.sender ≡ owner_in match p)
      ⊎ (is_in packet.view.gone (owner_in match p) ≡ true)

-- a packet in which machine m told this view
pub record Tells (sent : List Packet) (m : ℕ) (view : View) : Type 0 where
  pub packet : Packet
  pub was_sent : Sent packet sent
  pub by : packet.sender ≡ m
  pub said : packet.view ≡ view

-- a view of a machine that has so many words of player p, and regards all of these as gone
pub record Agrees (gone : List Bool) (p n : ℕ) (told : Option View) : Type 0 where
  pub view : View
  pub last : told ≡ Some view
  pub fenced : (m : ℕ) → is_in gone m ≡ true → is_in view.gone m ≡ true
  pub has : slice_index view.has p ≡ n

-- player p leaves machine i, which has n of its words
pub record Leaves (match : Match) (i : ℕ) (machine : Machine) (p n : ℕ) : Type 0 where
  pub orphan : is_in machine.gone (owner_in match p) ≡ true
  pub has : slice_index machine.has p ≡ n
  pub others : (m : ℕ) → m < match.machines → (m ≡ i)
      ⊎ ((is_in machine.gone m ≡ true) ⊎ Agrees machine.gone p n (told_by machine m))

-- each of a machine's lists has a place for each player or machine
pub record Sized (machine : Machine) : Type 0 where
  pub has : length machine.has ≡ PLAYER_LIMIT
  pub gone : length machine.gone ≡ MACHINE_LIMIT
  pub told : length machine.told ≡ MACHINE_LIMIT
  pub left : length machine.left ≡ PLAYER_LIMIT

-- what a step of machine i may change, if these packets were sent
pub record Change (match : Match) (sent : List Packet) (i : ℕ) (old new : Machine) : Type 0 where
  pub grows : (m : ℕ) → is_in old.gone m ≡ true → is_in new.gone m ≡ true
  pub unfenced : is_in old.gone i ≡ false → is_in new.gone i ≡ false
  pub rises : (p : ℕ) → slice_index old.has p ≤ slice_index new.has p
  pub limited : (p : ℕ) → (slice_index new.has p ≤ slice_index old.has p)
      ⊎ ((owner_in match p ≡ i) ⊎ Gives match sent old.gone p (slice_index new.has p))
  pub told : (m : ℕ) (view : View) → told_by new m ≡ Some view → (told_by old m ≡ Some view)
      ⊎ Tells sent m view
  pub left : (p n : ℕ) → left_at new p ≡ Some n → (left_at old p ≡ Some n) ⊎ Leaves match i new p n
  pub stays : (p n : ℕ) → left_at old p ≡ Some n → left_at new p ≡ Some n
  pub sized : Sized old → Sized new

pub unchanged : (match : Match) (sent : List Packet) (i : ℕ) (machine : Machine)
    → Change match sent i machine machine
unchanged match sent i machine = record {
  grows = λ m h. h;
  unfenced = λ h. h;
  rises = λ p. omega arith;
  limited = λ p. inl (omega arith);
  told = λ m view h. inl h;
  left = λ p n h. inl h;
  stays = λ p n h. h;
  sized = λ s. s;
}

-- how many words of player p a machine has
abbrev counted : Machine → ℕ → ℕ
counted machine p = slice_index machine.has p

abbrev words : Machine → List ℕ
words machine = machine.has

-- ---- a word of one's own

pub give_changes : (match : Match) (sent : List Packet) (i p : ℕ) (machine : Machine)
    → Change match sent i machine (give (seat_of match i) p machine)
unfolding give
give_changes match sent i p machine = go (owner_in match p == i) refl
  where
    go : (b : Bool) → (owner_in match p == i) ≡ b
        → Change match sent i machine (if b then record machine
        { has = set machine.has p (get_or machine.has p 0 + 1) } else machine)
    go false e = unchanged match sent i machine
    go true e = record {
      grows = λ m h. h;
      unfenced = λ h. h;
      rises = λ q. one_more machine.has p q;
      limited = λ q. limit q (cases_eq q p);
      told = λ m view h. inl h;
      left = λ q n h. inl h;
      stays = λ q n h. h;
      sized = λ s. record {
        has = length-set machine.has p (get_or machine.has p 0 + 1) ∙ s.has;
        gone = s.gone;
        told = s.told;
        left = s.left;
      };
    }
      where
        limit : (q : ℕ) → (q ≡ p) ⊎ (q ≡ p → ⊥)
            → (get_or (set machine.has p (get_or machine.has p 0 + 1)) q 0 ≤ get_or machine.has q 0)
            ⊎ ((owner_in match q ≡ i) ⊎ Gives match sent machine.gone q
            (get_or (set machine.has p (get_or machine.has p 0 + 1)) q 0))
        limit q (inl s) = inr (inl (ap (owner_in match) s ∙ eqb-true (owner_in match p) i e))
        limit q (inr o) = inl
            (omega (arith, get_or-set_other machine.has p q (get_or machine.has p 0 + 1) 0 o))

-- that word is the only one
pub give_has : (match : Match) (i q p : ℕ) (machine : Machine)
    → (slice_index (give (seat_of match i) q machine).has p ≡ slice_index machine.has p)
    ⊎ ((p ≡ q) × (owner_in match q ≡ i))
unfolding give
give_has match i q p machine = go (owner_in match q == i) refl
  where
    go : (b : Bool) → (owner_in match q == i) ≡ b
        → (counted (if b then record machine {
          has = set machine.has q (get_or machine.has q 0 + 1);
        } else machine) p ≡ counted machine p) ⊎ ((p ≡ q) × (owner_in match q ≡ i))
    go false e = inl refl
    go true e = place (cases_eq p q)
      where
        place : (p ≡ q) ⊎ (p ≡ q → ⊥) → (get_or (set machine.has q (get_or machine.has q 0 + 1)) p 0
            ≡ get_or machine.has p 0) ⊎ ((p ≡ q) × (owner_in match q ≡ i))
        place (inl s) = inr (s, eqb-true (owner_in match q) i e)
        place (inr o) = inl (get_or-set_other machine.has q p (get_or machine.has q 0 + 1) 0 o)

-- ---- a machine is regarded as gone

pub leave_changes : (match : Match) (sent : List Packet) (i m : ℕ) (machine : Machine)
    → Change match sent i machine (leave (seat_of match i) m machine)
unfolding leave
leave_changes match sent i m machine = go (m == i) refl
  where
    go : (b : Bool) → (m == i) ≡ b → Change match sent i machine
        (if b then machine else record machine { gone = set machine.gone m true })
    go true e = unchanged match sent i machine
    go false e = record {
      grows = λ k h. set_keeps machine.gone m k h;
      unfenced = λ h. get_or-set_other machine.gone m i true false (λ s. eqb-false m i e (sym s))
          ∙ h;
      rises = λ p. omega arith;
      limited = λ p. inl (omega arith);
      told = λ k view h. inl h;
      left = λ p n h. inl h;
      stays = λ p n h. h;
      sized = λ s. record {
        has = s.has;
        gone = length-set machine.gone m true ∙ s.gone;
        told =
            s.told;
        left = s.left;
      };
    }

pub leave_has : (seat : Seat) (m : ℕ) (machine : Machine) → (leave seat m machine).has ≡ machine.has
unfolding leave
leave_has seat m machine = go (m == seat.me)
  where
    go : (b : Bool) → words (if b then machine else record machine
        { gone = set machine.gone m true }) ≡ machine.has
    go true = refl
    go false = refl

-- ---- players leave

same_has : (b : Bool) (m n : ℕ) → (not b || (m == n)) ≡ true → b ≡ true → n ≡ m
same_has true m n h e = sym (eqb-true m n h)
same_has false m n h e = absurd (false≢true e)

same_bit : (a b : Bool) → beq a b ≡ true → a ≡ true → b ≡ true
same_bit true true h e = refl
same_bit true false h e = absurd (false≢true h)
same_bit false b h e = absurd (false≢true e)

pub some_same : {X : Type 0} (x y : X) → Some x ≡ Some y → x ≡ y
some_same x y e = cc

pub none_some : {X : Type 0} (y : X) → None ≡ Some y → ⊥
none_some y e = cc

view_agrees : (match : Match) (i p : ℕ) (machine : Machine) (view : View)
    → is_same (seat_of match i) machine view ≡ true → p < length machine.left
    → is_in machine.gone (owner_in match p) ≡ true
    → ((m : ℕ) → is_in machine.gone m ≡ true → is_in view.gone m ≡ true)
    × (slice_index view.has p ≡ slice_index machine.has p)
unfolding same_gone same_counts
view_agrees match i p machine view h inside orphan =
    let both = and_parts (at_all (λ m. beq (is_in machine.gone m) (is_in view.gone m)) machine.gone)
    (at_all (λ q. not (is_in machine.gone (owner_in match q)) ||
    (slice_index machine.has q == slice_index view.has q)) machine.left) h in (
      λ m g. same_bit (is_in machine.gone m) (is_in view.gone m)
          (at_each (λ k. beq (is_in machine.gone k) (is_in view.gone k)) machine.gone m both.0
          (in_inside machine.gone m g)) g,
      same_has (is_in machine.gone (owner_in match p)) (slice_index machine.has p)
          (slice_index view.has p)
          (at_each (λ q. not (is_in machine.gone (owner_in match q)) ||
          (slice_index machine.has q == slice_index view.has q)) machine.left p both.1 inside)
          orphan,
    )

told_agrees : (match : Match) (i p m : ℕ) (machine : Machine) (told : Option View)
    → option_map_or (is_same (seat_of match i) machine) told false ≡ true → p < length machine.left
    → is_in machine.gone (owner_in match p) ≡ true
    → Agrees machine.gone p (slice_index machine.has p) told
told_agrees match i p m machine None h inside orphan = absurd (false≢true h)
told_agrees match i p m machine (Some view) h inside orphan =
    let both = view_agrees match i p machine view h inside orphan in
    record { view = view; last = refl; fenced = both.0; has = both.1 }

pub left_changes : (match : Match) (sent : List Packet) (i : ℕ) (machine : Machine)
    → Change match sent i machine (left (seat_of match i) machine)
unfolding left may_leave left_after
left_changes match sent i machine = go (may_leave (seat_of match i) machine) refl
  where
    go : (b : Bool) → may_leave (seat_of match i) machine ≡ b
        → Change match sent i machine (if b then record machine
        { left = at_places (left_after (seat_of match i) machine) machine.left } else machine)
    go false e = unchanged match sent i machine
    go true e = record {
      grows = λ m h. h;
      unfenced = λ h. h;
      rises = λ p. omega arith;
      limited = λ p. inl (omega arith);
      told = λ m view h. inl h;
      left = λ p n h. leaves p n h;
      stays = λ p n h. stay p n h;
      sized = λ s. record {
        has = s.has;
        gone = s.gone;
        told = s.told;
        left =
            length_places (left_after (seat_of match i) machine) machine.left ∙ s.left;
      };
    }
      where
        inside : (p n : ℕ) → get_or (at_places (left_after (seat_of match i) machine) machine.left)
            p None ≡ Some n → p < length machine.left
        inside p n h = in_places (left_after (seat_of match i) machine) machine.left p None
            (λ s. none_some n (sym s ∙ h))

        others : (p : ℕ) → p < length machine.left → is_in machine.gone (owner_in match p) ≡ true
            → (m : ℕ) → m < match.machines
            → (m ≡ i) ⊎ ((is_in machine.gone m ≡ true)
            ⊎ Agrees machine.gone p (slice_index machine.has p) (told_by machine m))
        others p in_left orphan m l = split (or_cases (is_fenced (seat_of match i) machine m)
            (option_map_or (is_same (seat_of match i) machine) (told_by machine m) false)
            (all_below (agrees (seat_of match i) machine) match.machines m e l))
          where
            split : (is_fenced (seat_of match i) machine m ≡ true)
                ⊎ (option_map_or (is_same (seat_of match i) machine) (told_by machine m) false
                ≡ true)
                → (m ≡ i) ⊎ ((is_in machine.gone m ≡ true)
                ⊎ Agrees machine.gone p (slice_index machine.has p) (told_by machine m))
            split (inr t) = inr (inr (told_agrees match i p m machine (told_by machine m) t in_left
                orphan))
            split (inl f) = fenced (or_cases (m == i) (is_in machine.gone m) f)
              where
                fenced : ((m == i) ≡ true) ⊎ (is_in machine.gone m ≡ true) → (m ≡ i)
                    ⊎ ((is_in machine.gone m ≡ true)
                    ⊎ Agrees machine.gone p (slice_index machine.has p) (told_by machine m))
                fenced (inl a) = inl (eqb-true m i a)
                fenced (inr g) = inr (inl g)

        leaves : (p n : ℕ) → get_or (at_places (left_after (seat_of match i) machine) machine.left)
            p None ≡ Some n
            → (left_at machine p ≡ Some n) ⊎ Leaves match i (record machine
            { left = at_places (left_after (seat_of match i) machine) machine.left }) p n
        leaves p n h = choose (is_none (left_at machine p) && is_in machine.gone (owner_in match p))
            refl (sym (at_place (left_after (seat_of match i) machine) machine.left p None
            (inside p n h)) ∙ h)
          where
            choose : (b : Bool) → (is_none (left_at machine p) && is_in machine.gone
                (owner_in match p)) ≡ b → (if b then Some (slice_index machine.has p) else left_at
                machine p) ≡ Some n
                → (left_at machine p ≡ Some n)
                ⊎ Leaves match i (record machine
                { left = at_places (left_after (seat_of match i) machine) machine.left }) p n
            choose false f s = inl s
            choose true f s =
                let orphan = (and_parts (is_none (left_at machine p))
                (is_in machine.gone (owner_in match p)) f).1 in
                let as_many = some_same (slice_index machine.has p) n s in
                inr (record {
                  orphan = orphan;
                  has = as_many;
                  others = subst (λ (k : ℕ). (m : ℕ) → m < match.machines → (m ≡ i)
                      ⊎ ((is_in machine.gone m ≡ true)
                      ⊎ Agrees machine.gone p k (told_by machine m))) as_many
                      (others p (inside p n h) orphan);
                })

        stay : (p n : ℕ) → left_at machine p ≡ Some n
            → get_or (at_places (left_after (seat_of match i) machine) machine.left) p None ≡ Some n
        stay p n h =
            let l : p < length machine.left =
            is_inside machine.left p None (λ s. none_some n (sym s ∙ h)) in
            at_place (left_after (seat_of match i) machine) machine.left p None l ∙ rw h refl

pub left_has : (seat : Seat) (machine : Machine) → (left seat machine).has ≡ machine.has
unfolding left
left_has seat machine = go (may_leave seat machine)
  where
    go : (b : Bool) → words
        (if b then record machine { left = at_places (left_after seat machine) machine.left } else
        machine) ≡ machine.has
    go true = refl
    go false = refl

-- ---- a packet

-- player p has as many words as before, or more that such a packet gives
abbrev pub Rises : Match → List Packet → List Bool → ℕ → ℕ → ℕ → Type 0
Rises match sent gone p old new = (old ≤ new) × ((new ≤ old) ⊎ Gives match sent gone p new)

believed : (match : Match) (i : ℕ) (gone : List Bool) (packet : Packet) (p : ℕ)
    → is_believed (seat_of match i) gone packet p ≡ true
    → (packet.sender ≡ owner_in match p) ⊎ (is_in packet.view.gone (owner_in match p) ≡ true)
unfolding is_believed
believed match i gone packet p h = go (or_cases (owner_in match p == packet.sender)
    (is_in gone (owner_in match p) && is_in packet.view.gone (owner_in match p)) h)
  where
    go : ((owner_in match p == packet.sender) ≡ true)
        ⊎ ((is_in gone (owner_in match p) && is_in packet.view.gone (owner_in match p)) ≡ true)
        → (packet.sender ≡ owner_in match p) ⊎ (is_in packet.view.gone (owner_in match p) ≡ true)
    go (inl s) = inl (sym (eqb-true (owner_in match p) packet.sender s))
    go (inr s) = inr (and_parts (is_in gone (owner_in match p))
        (is_in packet.view.gone (owner_in match p)) s).1

-- the words that are taken
counts : (match : Match) (sent : List Packet) (i : ℕ) (packet : Packet) (machine : Machine)
    (gone : List Bool) (p : ℕ) → Sent packet sent → is_in machine.gone packet.sender ≡ false
    → Rises match sent machine.gone p (slice_index machine.has p)
    (has_after (seat_of match i) gone machine packet p)
unfolding has_after
counts match sent i packet machine gone p was f =
    go (is_none (left_at machine p) && is_believed (seat_of match i) gone packet p && nat_le
    (offer_at packet p).first (slice_index machine.has p)) refl
  where
    go : (b : Bool) → (is_none (left_at machine p) && is_believed (seat_of match i) gone packet p &&
        nat_le (offer_at packet p).first (slice_index machine.has p)) ≡ b
        → Rises match sent machine.gone p (slice_index machine.has p)
        (if b then max (slice_index machine.has p) (offer_at packet p).end else slice_index
        machine.has p)
    go false e = (omega arith, inl (omega arith))
    go true e = (omega arith, more (cases_lt (slice_index machine.has p) (offer_at packet p).end))
      where
        more : (slice_index machine.has p < (offer_at packet p).end)
            ⊎ ((offer_at packet p).end ≤ slice_index machine.has p)
            → (max (slice_index machine.has p) (offer_at packet p).end ≤ slice_index machine.has p)
            ⊎ Gives match sent machine.gone p
            (max (slice_index machine.has p) (offer_at packet p).end)
        more (inr g) = inl (omega arith)
        more (inl l) =
            let first = and_parts (is_none (left_at machine p) && is_believed (seat_of match i) gone
            packet p) (nat_le (offer_at packet p).first (slice_index machine.has p)) e in
            let second = and_parts (is_none (left_at machine p))
            (is_believed (seat_of match i) gone packet p) first.0 in
            inr (record {
              packet = packet;
              was_sent = was;
              listened = f;
              offered =
                  omega arith;
              of_owner = believed match i gone packet p second.1;
            })

gone_grows : (match : Match) (i : ℕ) (packet : Packet) (machine : Machine) (m : ℕ)
    → is_in machine.gone m ≡ true → is_in (gone_after (seat_of match i) machine packet) m ≡ true
unfolding gone_after
gone_grows match i packet machine m h = go (is_in packet.view.gone i)
  where
    go : (b : Bool) → is_in (if b then machine.gone else at_places
        (λ k. is_in machine.gone k || is_in packet.view.gone k) machine.gone) m ≡ true
    go true = h
    go false = at_place (λ k. is_in machine.gone k || is_in packet.view.gone k) machine.gone m false
        (in_inside machine.gone m h) ∙ or_left (is_in machine.gone m) (is_in packet.view.gone m) h

pub gone_not_self : (match : Match) (i : ℕ) (packet : Packet) (machine : Machine)
    → is_in machine.gone i ≡ false → is_in (gone_after (seat_of match i) machine packet) i ≡ false
unfolding gone_after
gone_not_self match i packet machine h = go (is_in packet.view.gone i) refl
  where
    go : (b : Bool) → is_in packet.view.gone i ≡ b
        → is_in (if b then machine.gone else at_places
        (λ k. is_in machine.gone k || is_in packet.view.gone k) machine.gone) i ≡ false
    go true e = h
    go false e = place (cases_lt i (length machine.gone))
      where
        place : (i < length machine.gone) ⊎ (length machine.gone ≤ i)
            → is_in (at_places (λ k. is_in machine.gone k || is_in packet.view.gone k) machine.gone)
            i ≡ false
        place (inl l) = at_place (λ k. is_in machine.gone k || is_in packet.view.gone k)
            machine.gone i false l ∙ rw (h, e) refl
        place (inr g) = past_places (λ k. is_in machine.gone k || is_in packet.view.gone k)
            machine.gone i false g

pub taken_rises : (match : Match) (sent : List Packet) (i : ℕ) (packet : Packet) (machine : Machine)
    (p : ℕ) → Sent packet sent → is_in machine.gone packet.sender ≡ false
    → Rises match sent machine.gone p (slice_index machine.has p)
    (slice_index (taken (seat_of match i) packet machine).has p)
unfolding taken
taken_rises match sent i packet machine p was f = go (cases_lt p (length machine.has))
  where
    go : (p < length machine.has) ⊎ (length machine.has ≤ p)
        → Rises match sent machine.gone p (slice_index machine.has p)
        (get_or (at_places (has_after (seat_of match i)
        (gone_after (seat_of match i) machine packet) machine packet) machine.has) p 0)
    go (inl l) =
        rw (at_place (has_after (seat_of match i) (gone_after (seat_of match i) machine packet)
        machine packet) machine.has p 0 l)
        (counts match sent i packet machine (gone_after (seat_of match i) machine packet) p was f)
    go (inr g) =
        rw (
          past_places (has_after (seat_of match i) (gone_after (seat_of match i) machine packet)
              machine packet) machine.has p 0 g,
          get_or_past machine.has p 0 g,
        )
        (omega arith, inl (omega arith))

pub hear_rises : (match : Match) (sent : List Packet) (i : ℕ) (packet : Packet) (machine : Machine)
    (p : ℕ) → Sent packet sent
    → Rises match sent machine.gone p (slice_index machine.has p)
    (slice_index (hear (seat_of match i) packet machine).has p)
hear_rises match sent i packet machine p was =
    go (is_fenced (seat_of match i) machine packet.sender) refl
  where
    go : (b : Bool) → is_fenced (seat_of match i) machine packet.sender ≡ b
        → Rises match sent machine.gone p (counted machine p)
        (counted (if b then machine else taken (seat_of match i) packet machine) p)
    go true e = (omega arith, inl (omega arith))
    go false e = taken_rises match sent i packet machine p was
        (or_parts (packet.sender == i) (is_in machine.gone packet.sender) e).1

gone_length : (seat : Seat) (machine : Machine) (packet : Packet)
    → length (gone_after seat machine packet) ≡ length machine.gone
unfolding gone_after
gone_length seat machine packet = go (is_in packet.view.gone seat.me)
  where
    go : (b : Bool) → length (if b then machine.gone else at_places
        (λ m. is_in machine.gone m || is_in packet.view.gone m) machine.gone) ≡ length machine.gone
    go true = refl
    go false = length_places (λ m. is_in machine.gone m || is_in packet.view.gone m) machine.gone

told_length : (machine : Machine) (packet : Packet)
    → length (told_after machine packet) ≡ length machine.told
unfolding told_after
told_length machine packet = go (is_news machine packet)
  where
    go : (b : Bool) → length (if b then set machine.told packet.sender (Some packet.view) else
        machine.told) ≡ length machine.told
    go true = length-set machine.told packet.sender (Some packet.view)
    go false = refl

taken_sized : (seat : Seat) (packet : Packet) (machine : Machine) → Sized machine
    → Sized (taken seat packet machine)
unfolding taken
taken_sized seat packet machine s = record {
  has = length_places (has_after seat (gone_after seat machine packet) machine packet) machine.has
      ∙ s.has;
  gone = gone_length seat machine packet ∙ s.gone;
  told = told_length machine packet ∙ s.told;
  left = s.left;
}

pub hear_changes : (match : Match) (sent : List Packet) (i : ℕ) (packet : Packet)
    (machine : Machine) → Sent packet sent → Change match sent i machine
    (hear (seat_of match i) packet machine)
unfolding taken told_after
hear_changes match sent i packet machine was =
    go (is_fenced (seat_of match i) machine packet.sender) refl
  where
    go : (b : Bool) → is_fenced (seat_of match i) machine packet.sender ≡ b
        → Change match sent i machine (if b then machine else taken (seat_of match i) packet
        machine)
    go true e = unchanged match sent i machine
    go false e = record {
      grows = λ m h. gone_grows match i packet machine m h;
      unfenced = λ h. gone_not_self match i packet machine h;
      rises = λ p. (taken_rises match sent i packet machine p was listened).0;
      limited = λ p. limit p (taken_rises match sent i packet machine p was listened).1;
      told = λ m view h. tells m view (is_news machine packet) h;
      left = λ p n h. inl h;
      stays = λ p n h. h;
      sized = λ s. taken_sized (seat_of match i) packet machine s;
    }
      where
        listened : is_in machine.gone packet.sender ≡ false
        listened = (or_parts (packet.sender == i) (is_in machine.gone packet.sender) e).1

        limit : (p : ℕ) → (slice_index (taken (seat_of match i) packet machine).has p
            ≤ slice_index machine.has p) ⊎ Gives match sent machine.gone p
            (slice_index (taken (seat_of match i) packet machine).has p)
            → (slice_index (taken (seat_of match i) packet machine).has p
            ≤ slice_index machine.has p) ⊎ ((owner_in match p ≡ i)
            ⊎ Gives match sent machine.gone p
            (slice_index (taken (seat_of match i) packet machine).has p))
        limit p (inl l) = inl l
        limit p (inr g) = inr (inr g)

        tells : (m : ℕ) (view : View) (b : Bool)
            → get_or (if b then set machine.told packet.sender (Some packet.view) else machine.told)
            m None ≡ Some view → (told_by machine m ≡ Some view) ⊎ Tells sent m view
        tells m view false h = inl h
        tells m view true h = split (set_or machine.told packet.sender m (Some packet.view) None
            (Some view) h)
          where
            split : (told_by machine m ≡ Some view)
                ⊎ ((m ≡ packet.sender) × (Some packet.view ≡ Some view))
                → (told_by machine m ≡ Some view) ⊎ Tells sent m view
            split (inl t) = inl t
            split (inr t) = inr (record {
              packet = packet;
              was_sent = was;
              by = sym t.0;
              said =
                  some_same packet.view view t.1;
            })
