-- What machines get to know of each other by telling and hearing.
use Rattle.std.proofs.Common.{◌≡◌, ℕ, ◌<◌, ◌≤◌, List, length, get_or, set, refl, sym, ◌∙◌, ap, Bool, true, false, arith, subst, Option, Some, None}
use Rattle.std.specs.Option.{option_map_or}
use Rattle.std.specs.Prelude.{slice_index, ◌||◌, ◌&&◌, ◌==◌, if◌then◌else◌, max, nat_le, not}
use Rattle.std.proofs.lemmas.Bool.{and_from, or_right, ne_eqb, le-leb}
use Rattle.std.proofs.lemmas.List.{get_or_past, get_or-set_same, get_or-set_other}
use Rattle.roll_mesh.specs.declared.limits.TheConstants.{MACHINE_LIMIT, PLAYER_LIMIT}
use Rattle.roll_mesh.specs.declared.machine.Machine.{Machine}
use Rattle.roll_mesh.specs.declared.packet.Offer.{Offer}
use Rattle.roll_mesh.specs.declared.packet.Packet.{Packet}
use Rattle.roll_mesh.specs.declared.packet.View.{View}
use Rattle.roll_mesh.specs.Laws.{owner_in}
use Rattle.roll_mesh.specs.Machines.{is_in, told_by, left_at, said_by, offer_at, offer_of, none_offered, tell, hear, taken, told_after, gone_after, has_after, is_believed, is_news, covers, keeps, reaches}
use Rattle.roll_mesh.specs.Worlds.{Match, seat_of}
use Rattle.roll_mesh.proofs.Places.{at_place, all_places}
use Rattle.roll_mesh.proofs.Changes.{Sized}

-- the whole packet of a machine, for nobody: all words that it may offer
abbrev pub shout : Match → ℕ → Machine → Packet
shout match j machine = tell (seat_of match j) MACHINE_LIMIT machine.has machine

-- a machine may hear another: neither is the other, or regards it as gone
pub record MayHear (i j : ℕ) (a b : Machine) : Type 0 where
  pub apart : i ≡ j → ⊥
  pub listens : is_in a.gone j ≡ false
  pub here : is_in b.gone i ≡ false
  pub one : Sized a
  pub other : Sized b

hears : (match : Match) (i j : ℕ) (a b : Machine) → MayHear i j a b
    → hear (seat_of match i) (shout match j b) a ≡ taken (seat_of match i) (shout match j b) a
unfolding tell
hears match i j a b h = rw (ne_eqb j i (λ e. h.apart (sym e)), h.listens) refl

pub gone_then : (match : Match) (i j : ℕ) (a b : Machine) → MayHear i j a b → (m : ℕ)
    → m < MACHINE_LIMIT
    → is_in (hear (seat_of match i) (shout match j b) a).gone m ≡ (is_in a.gone m || is_in b.gone m)
unfolding tell taken gone_after
gone_then match i j a b h m l =
    ap (λ (c : Machine). is_in c.gone m) (hears match i j a b h)
    ∙ rw h.here (at_place (λ k. is_in a.gone k || is_in b.gone k) a.gone m false
    (omega (arith, h.one.gone)))

abbrev pub view_of : Machine → View
view_of b = record { gone = b.gone; has = b.has }

pub shout_view : (match : Match) (j : ℕ) (b : Machine) → (shout match j b).view ≡ view_of b
unfolding tell
shout_view match j b = refl

-- ---- the words that a machine hears

abbrev first_of : Offer → ℕ
first_of o = o.first

abbrev end_of : Offer → ℕ
end_of o = o.end

nobody_said : (b : Machine) (p : ℕ) → Sized b → said_by b MACHINE_LIMIT p ≡ 0
nobody_said b p s = ap (λ (told : Option View). option_map_or (λ view. slice_index view.has p) told
    0) (get_or_past b.told MACHINE_LIMIT None (omega (arith, s.told)))

-- all words of a player whose owner is gone are offered
whole_offer : (match : Match) (j : ℕ) (b : Machine) (p : ℕ) → Sized b
    → is_in b.gone (owner_in match p) ≡ true
    → (first_of (offer_of (seat_of match j) b MACHINE_LIMIT b.has p) ≡ 0)
    × (end_of (offer_of (seat_of match j) b MACHINE_LIMIT b.has p) ≡ slice_index b.has p)
unfolding offer_of
whole_offer match j b p s orphan =
    rw (or_right (owner_in match p == j) (is_in b.gone (owner_in match p)) orphan)
    (omega (arith, nobody_said b p s), omega (arith, nobody_said b p s))

offered : (match : Match) (j : ℕ) (b : Machine) (p : ℕ) → Sized b → p < PLAYER_LIMIT
    → offer_at (shout match j b) p ≡ offer_of (seat_of match j) b MACHINE_LIMIT b.has p
unfolding tell
offered match j b p s l = at_place (offer_of (seat_of match j) b MACHINE_LIMIT b.has) b.has p
    none_offered (omega (arith, s.has))

-- whether words are taken that are offered from the first one on, of a player whose owner
-- both regard as gone
taken_all : (match : Match) (i : ℕ) (gone : List Bool) (a : Machine) (packet : Packet) (p : ℕ)
    → left_at a p ≡ None → is_in gone (owner_in match p) ≡ true
    → is_in packet.view.gone (owner_in match p) ≡ true
    → first_of (offer_at packet p) ≡ 0 → has_after (seat_of match i) gone a packet p
    ≡ max (slice_index a.has p) (end_of (offer_at packet p))
unfolding has_after is_believed
taken_all match i gone a packet p left ours theirs first =
    let orphan :
    (is_in gone (owner_in match p) && is_in packet.view.gone (owner_in match p))
    ≡ true =
    and_from (is_in gone (owner_in match p)) (is_in packet.view.gone (owner_in match p)) ours
    theirs in
    let low : nat_le (offer_at packet p).first (slice_index a.has p) ≡ true =
    le-leb (offer_at packet p).first (slice_index a.has p) (omega (arith, first)) in
    rw (
      left,
      or_right (owner_in match p == packet.sender)
          (is_in gone (owner_in match p) && is_in packet.view.gone (owner_in match p)) orphan,
      low,
    )
    refl

pub has_then : (match : Match) (i j : ℕ) (a b : Machine) → MayHear i j a b → (p : ℕ)
    → p < PLAYER_LIMIT → owner_in match p < MACHINE_LIMIT → is_in b.gone (owner_in match p) ≡ true
    → left_at a p ≡ None
    → slice_index b.has p ≤ slice_index (hear (seat_of match i) (shout match j b) a).has p
unfolding taken
has_then match i j a b h p l lo orphan left =
    let whole = whole_offer match j b p h.other orphan in
    let same = offered match j b p h.other l in
    let gone : is_in (gone_after (seat_of match i) a (shout match j b)) (owner_in match p) ≡ true =
    sym (ap (λ (c : Machine). is_in c.gone (owner_in match p)) (hears match i j a b h))
    ∙ (gone_then match i j a b h (owner_in match p) lo
    ∙ or_right (is_in a.gone (owner_in match p)) (is_in b.gone (owner_in match p)) orphan)
    in
    let all = taken_all match i (gone_after (seat_of match i) a (shout match j b)) a
    (shout match j b) p left gone (subst (λ (v : View). is_in v.gone (owner_in match p) ≡ true)
    (sym (shout_view match j b)) orphan) (ap first_of same ∙ whole.0) in
    let new :
    slice_index (hear (seat_of match i) (shout match j b) a).has p
    ≡ max (slice_index a.has p) (end_of (offer_at (shout match j b) p)) =
    ap (λ (c : Machine). slice_index c.has p) (hears match i j a b h)
    ∙ (at_place (has_after (seat_of match i) (gone_after (seat_of match i) a (shout match j b))
    a (shout match j b)) a.has p 0 (omega (arith, h.one.has)) ∙ all) in
    omega (arith, new, ap end_of same, whole.1)

-- ---- what a machine is told

-- a view that says no less than the one before it is news
news : (match : Match) (j : ℕ) (a b : Machine)
    → ((view : View) → told_by a j ≡ Some view
    → ((m : ℕ) → is_in view.gone m ≡ true → is_in b.gone m ≡ true)
    × ((p : ℕ) → slice_index view.has p ≤ slice_index b.has p))
    → is_news a (shout match j b) ≡ true
unfolding tell keeps reaches
news match j a b past = go (told_by a j) refl
  where
    go : (told : Option View) → told_by a j ≡ told
        → option_map_or (λ old. covers old (view_of b)) told true ≡ true
    go None e = refl
    go (Some old) e =
        let h = past old e in
        and_from (keeps old.gone b.gone) (reaches old.has b.has)
        (sym (all_places (λ m. not (is_in old.gone m) || is_in b.gone m) old.gone (length old.gone)
        (omega arith) (λ m l. implied (is_in old.gone m) (is_in b.gone m) (h.0 m))))
        (sym (all_places (λ p. nat_le (slice_index old.has p) (slice_index b.has p)) old.has
        (length old.has) (omega arith) (λ p l. le-leb (slice_index old.has p)
        (slice_index b.has p) (h.1 p))))
      where
        implied : (x y : Bool) → (x ≡ true → y ≡ true) → (not x || y) ≡ true
        implied true y f = f refl
        implied false y f = refl

pub told_then : (match : Match) (i j : ℕ) (a b : Machine) → MayHear i j a b → j < MACHINE_LIMIT
    → ((view : View) → told_by a j ≡ Some view
    → ((m : ℕ) → is_in view.gone m ≡ true → is_in b.gone m ≡ true)
    × ((p : ℕ) → slice_index view.has p ≤ slice_index b.has p))
    → told_by (hear (seat_of match i) (shout match j b) a) j ≡ Some (view_of b)
unfolding taken told_after tell
told_then match i j a b h l past =
    ap (λ (c : Machine). told_by c j) (hears match i j a b h)
    ∙ rw (news match j a b past) (get_or-set_same a.told j (Some (view_of b)) None
    (omega (arith, h.one.told)))

pub told_others : (match : Match) (i j : ℕ) (a b : Machine) → MayHear i j a b → (m : ℕ)
    → (m ≡ j → ⊥) → told_by (hear (seat_of match i) (shout match j b) a) m ≡ told_by a m
unfolding taken told_after tell
told_others match i j a b h m o = ap (λ (c : Machine). told_by c m) (hears match i j a b h)
    ∙ go (is_news a (shout match j b))
  where
    go : (b' : Bool) → get_or (if b' then set a.told j (Some (view_of b)) else a.told) m None
        ≡ get_or a.told m None
    go true = get_or-set_other a.told j m (Some (view_of b)) None o
    go false = refl

pub left_then : (match : Match) (i j : ℕ) (a b : Machine) → MayHear i j a b → (p : ℕ)
    → left_at (hear (seat_of match i) (shout match j b) a) p ≡ left_at a p
unfolding taken
left_then match i j a b h p = ap (λ (c : Machine). left_at c p) (hears match i j a b h)
