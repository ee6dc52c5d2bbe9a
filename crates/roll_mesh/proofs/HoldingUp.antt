-- Who holds up a match.
use Rattle.std.proofs.Common.{◌≡◌, ◌∙◌, ◌≤◌, ◌+◌, ℕ, suc, List, Bool, true, false, Some, None, refl, arith}
use Rattle.std.specs.List.{list_all, range_with_len}
use Rattle.std.specs.Prelude.{◌==◌, ◌&&◌, ◌||◌, not, is_none, is_some, max, min, if◌then◌else◌, nat_lt, slice_index}
use Rattle.std.proofs.lemmas.Bool.{le-ltb, not_from_true, or_from}
use Rattle.roll_mesh.specs.HoldingUp.{are_clear, could_give, fewest_of, given_by, held_up_by, holds_up, is_clear, is_open_at, keeps_open, least_some, most_of, Waits, WaitersHoldUpNobody}
use Rattle.roll_mesh.specs.Machines.{is_fenced, left_at, owner_of, told_by}
use Rattle.roll_mesh.specs.declared.limits.TheConstants.{PLAYER_LIMIT}
use Rattle.roll_mesh.specs.declared.machine.Machine.{Machine}
use Rattle.roll_mesh.specs.declared.packet.View.{View}
use Rattle.roll_mesh.specs.declared.seat.Seat.{Seat}
use Rattle.roll_mesh.proofs.Places.{not_all_below}

after : (n : ℕ) → n + 1 ≡ suc n
after n = omega arith

pub most_none : (seat : Seat) (has : List ℕ) (m : ℕ) → most_of seat has m 0 ≡ 0
unfolding most_of
most_none seat has m = refl

pub most_next : (seat : Seat) (has : List ℕ) (m p : ℕ) → most_of seat has m (p + 1)
    ≡ (if owner_of seat p == m then max (slice_index has p) (most_of seat has m p) else most_of seat has m p)
unfolding most_of
most_next seat has m p = rw (after p) refl

pub fewest_none : (seat : Seat) (here : Machine) (m : ℕ) → fewest_of seat here m 0 ≡ None
unfolding fewest_of
fewest_none seat here m = refl

pub fewest_next : (seat : Seat) (here : Machine) (m p : ℕ) → fewest_of seat here m (p + 1)
    ≡ (if (owner_of seat p == m) && is_none (left_at here p)
    then Some (least_some (slice_index here.has p) (fewest_of seat here m p)) else fewest_of seat here m p)
unfolding fewest_of
fewest_next seat here m p = rw (after p) refl

pub holds_up_is : (seat : Seat) (here : Machine) (threshold m : ℕ) → holds_up seat here threshold m
    ≡ (if is_fenced seat here m then None else held_up_by seat here threshold m (told_by here m))
unfolding holds_up
holds_up_is seat here threshold m = refl

least : (m n : ℕ) → n ≤ m → min m n ≡ n
least m n le = omega (arith, le)

-- who waits is kept from its next word by the player it waits for
kept : (seat : Seat) (here : Machine) (threshold m : ℕ) (view : View) → (w : Waits seat here threshold m view)
    → keeps_open seat here threshold (given_by seat here m view) view.has w.player ≡ false
kept seat here threshold m view w =
    let own : ℕ = given_by seat here m view in
    let all : own ≡ most_of seat view.has m PLAYER_LIMIT = least (most_of seat here.has m PLAYER_LIMIT) (most_of seat view.has m PLAYER_LIMIT) w.came in
    let has : ℕ = slice_index view.has w.player in
    let more : nat_lt own (has + threshold) ≡ false = le-ltb own (has + threshold) (omega (arith, all, w.all_given)) in
    let here_still : is_some (left_at here w.player) ≡ false = rw w.stays refl in
    or_from (not (nat_lt (owner_of seat w.player) seat.machines)) (is_open_at here threshold own view.has w.player)
    (not_from_true (nat_lt (owner_of seat w.player) seat.machines) w.plays)
    (or_from (nat_lt own (has + threshold)) (is_some (left_at here w.player)) more here_still)

-- what the test says
pub could_is : (seat : Seat) (here : Machine) (threshold m : ℕ) (view : View) → could_give seat here threshold m view
    ≡ list_all (keeps_open seat here threshold (given_by seat here m view) view.has) (range_with_len 0 PLAYER_LIMIT)
unfolding could_give
could_is seat here threshold m view = refl

pub clear_is : (seat : Seat) (here : Machine) (threshold m : ℕ) (view : View) → are_clear seat here threshold m view
    ≡ list_all (is_clear seat here threshold m (given_by seat here m view) view.has) (range_with_len 0 PLAYER_LIMIT)
unfolding are_clear
clear_is seat here threshold m view = refl

pub not_or_left : (a b : Bool) → a ≡ true → not (a || b) ≡ false
not_or_left a b holds = rw holds refl

pub not_or_right : (a b : Bool) → b ≡ true → not (a || b) ≡ false
not_or_right true b holds = refl
not_or_right false b holds = rw holds refl

pub waiters_hold_up_nobody : WaitersHoldUpNobody
waiters_hold_up_nobody seat here threshold m view told w =
    let shut : could_give seat here threshold m view ≡ false =
    could_is seat here threshold m view ∙ (not_all_below (keeps_open seat here threshold (given_by seat here m view) view.has)
    PLAYER_LIMIT w.player w.is_player (kept seat here threshold m view w)) in
    holds_up_is seat here threshold m ∙ go (is_fenced seat here m) shut
  where
    go : (b : Bool) → could_give seat here threshold m view ≡ false
        → (if b then None else held_up_by seat here threshold m (told_by here m)) ≡ None
    go true shut = refl
    go false shut = rw (told, shut) refl
