-- The ships' turns, one after another.
use Rattle.std.proofs.Common.{◌≡◌, ℕ, ◌+◌, ◌<◌, ◌≤◌, List, [], ◌∷◌, ◌++◌, length, get_or, take, drop, set, refl, sym, ap, ◌∙◌, arith, append_assoc}
use Rattle.std.specs.Prelude.{map, filter, fold}
use Rattle.std.proofs.lemmas.List.{drop_more, take_more_set, drop-set-lt, take_all, drop_all, append-nil}
use Rattle.roll_frame.specs.declared.row.Cell.{Cell}
use Rattle.roll_duel.specs.declared.ship.Ship.{Ship}
use Rattle.roll_duel.specs.declared.bullet.Bullet.{Bullet}
use Rattle.roll_duel.specs.Ships.{word_at, pad_of, ship_after, bullets_after}
use Rattle.roll_duel.specs.Frame.{Field, behind, after_ships, after_bullets, frame_of}
use Rattle.roll_duel.specs.Bullets.{flown, struck, remains}

-- ships that had their turn, before the others
abbrev pub before : List Ship → Field → Field
before ships field = record { ships = ships ++ field.ships; bullets = field.bullets }

before_one : (done : List Ship) (s : Ship) (field : Field) → before done (behind s field) ≡ before (done ++ s ∷ []) field
before_one done s field = ap (λ (ships : List Ship). let f : Field = record { ships = ships; bullets = field.bullets } in f) (sym (append_assoc done (s ∷ []) field.ships))

pub turn_more : (row : List Cell) (i : ℕ) (ships : List Ship) (bullets bullets' : List Bullet) (s s' : Ship) (whole : Field) → i < length ships → s ≡ get_or ships i s → s' ≡ ship_after (pad_of (word_at row i)) bullets s → bullets' ≡ bullets_after (pad_of (word_at row i)) (i + 1) s bullets → whole ≡ before (take i ships) (after_ships row i (drop i ships) bullets) → whole ≡ before (take (i + 1) (set ships i s')) (after_ships row (i + 1) (drop (i + 1) (set ships i s')) bullets')
turn_more row i ships bullets bullets' s s' whole l is e f h =
    let rest : drop i ships ≡ s ∷ drop (i + 1) ships = drop_more ships i s l ∙ ap (λ (z : Ship). z ∷ drop (i + 1) ships) (sym is) in
    let others : drop (i + 1) (set ships i s') ≡ drop (i + 1) ships = drop-set-lt (i + 1) ships i s' (omega arith) in
    let step : after_ships row i (drop i ships) bullets ≡ behind s' (after_ships row (i + 1) (drop (i + 1) ships) bullets') =
    rw (rest, e, f) refl in
    rw (take_more_set ships i s' l, others) (h ∙ ap (before (take i ships)) step ∙ before_one (take i ships) s' (after_ships row (i + 1) (drop (i + 1) ships) bullets'))

pub turns_all : (row : List Cell) (ships : List Ship) (bullets : List Bullet) (n : ℕ) (whole : Field) → length ships ≤ n → whole ≡ before (take n ships) (after_ships row n (drop n ships) bullets) → whole ≡ record { ships = ships; bullets = bullets }
turns_all row ships bullets n whole l h =
    h ∙ rw (take_all n ships l, drop_all n ships l) (ap (λ (front : List Ship). let f : Field = record { ships = front; bullets = bullets } in f) (append-nil ships))

-- a frame from its three parts
pub frame_is : (row : List Cell) (old : Field) (ships : List Ship) (bullets flying : List Bullet) (ships' : List Ship) (bullets' : List Bullet) → after_ships row 0 old.ships old.bullets ≡ record { ships = ships; bullets = bullets } → flying ≡ map flown bullets → ships' ≡ fold (λ ships bullet. struck bullet 1 ships) ships flying → bullets' ≡ filter (remains ships) flying → frame_of old row ≡ record { ships = ships'; bullets = bullets' }
frame_is row old ships bullets flying ships' bullets' turns flight hits rest = ap after_bullets turns ∙ rw (rest, hits, flight) refl
