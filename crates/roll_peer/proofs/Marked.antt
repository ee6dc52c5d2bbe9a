-- The marks that a machine knows, hears and tells.
use Rattle.std.proofs.Common.{◌≡◌, ◌∙◌, ◌<◌, ℕ, zero, suc, List, [], ◌∷◌, ap, arith, length, refl, Bool, true, false, Option, Some, None}
use Rattle.std.specs.Option.{option_or}
use Rattle.std.specs.Prelude.{nat_le, nat_lt, ◌&&◌, if◌then◌else◌, slice_index, slice_index_or, slice_set}
use Rattle.std.proofs.lemmas.Bool.{and_from, and_parts}
use Rattle.std.proofs.lemmas.List.FromFn.{get_or-map-range_with_len, length-map-range_with_len}
use Rattle.roll_mesh.specs.Machines.{none_offered}
use Rattle.roll_mesh.specs.declared.limits.TheConstants.{PLAYER_LIMIT}
use Rattle.roll_mesh.specs.declared.packet.Offer.{Offer}
use Rattle.roll_wire.proofs.Wholes.{fits_whole, parts_of}
use Rattle.roll_wire.specs.Spelling.{are_spelled, is_spelled, Content, Greets, IsContent, Leaves, Plays}
use Rattle.roll_wire.specs.declared.datagram.Marked.{Marked}
use Rattle.roll_peer.specs.Marks.{each_player, if_offered, if_there, is_spelled_in, kept_with, mark_at, offered_at, offered_marks, told_mark, told_marks, told_with, unless_there}

-- ---- lists of marks

pub spelled_at : (ms : List (Option Marked)) (p : ℕ) → are_spelled ms ≡ true → is_spelled (mark_at ms p) ≡ true
spelled_at [] p h = refl
spelled_at (m ∷ ms) zero h = (and_parts (is_spelled m) (are_spelled ms) h).0
spelled_at (m ∷ ms) (suc p) h = spelled_at ms p (and_parts (is_spelled m) (are_spelled ms) h).1

spelled_all : (ms : List (Option Marked)) → ((p : ℕ) → p < length ms → is_spelled (mark_at ms p) ≡ true)
    → are_spelled ms ≡ true
spelled_all [] h = refl
spelled_all (m ∷ ms) h =
    and_from (is_spelled m) (are_spelled ms) (h 0 (omega arith)) (spelled_all ms (λ p l. h (suc p) (omega arith)))

pub spelled_set : (ms : List (Option Marked)) (p : ℕ) (m : Option Marked) → are_spelled ms ≡ true
    → is_spelled m ≡ true → are_spelled (slice_set ms p m) ≡ true
spelled_set [] p m h s = refl
spelled_set (first ∷ ms) zero m h s =
    and_from (is_spelled m) (are_spelled ms) s (and_parts (is_spelled first) (are_spelled ms) h).1
spelled_set (first ∷ ms) (suc p) m h s =
    let both = and_parts (is_spelled first) (are_spelled ms) h in
    and_from (is_spelled first) (are_spelled (slice_set ms p m)) both.0 (spelled_set ms p m both.1 s)

pub each_at : (f : ℕ → Option Marked) (p : ℕ) → p < PLAYER_LIMIT → mark_at (each_player f) p ≡ f p
each_at f p l = get_or-map-range_with_len f 0 PLAYER_LIMIT p p None l (omega arith)

each_spelled : (f : ℕ → Option Marked) → ((p : ℕ) → is_spelled (f p) ≡ true) → are_spelled (each_player f) ≡ true
each_spelled f h =
    spelled_all (each_player f) (λ p l.
    ap is_spelled (each_at f p (omega (arith, l, length-map-range_with_len f 0 PLAYER_LIMIT))) ∙ h p)

-- ---- a mark

either_spelled : (one other : Option Marked) → is_spelled one ≡ true → is_spelled other ≡ true
    → is_spelled (option_or one other) ≡ true
either_spelled None other h s = s
either_spelled (Some m) other h s = h

if_spelled : (b : Bool) (m : Marked) → is_spelled (Some m) ≡ true → is_spelled (if b then Some m else None) ≡ true
if_spelled true m h = h
if_spelled false m h = refl

unless_spelled : (b : Bool) (m : Marked) → is_spelled (Some m) ≡ true → is_spelled (if b then None else Some m) ≡ true
unless_spelled true m h = refl
unless_spelled false m h = h

there_spelled : (count : ℕ) (m : Option Marked) → is_spelled m ≡ true → is_spelled (if_there count m) ≡ true
there_spelled count None h = refl
there_spelled count (Some m) h = if_spelled (nat_lt m.frame count) m h

absent_spelled : (count : ℕ) (m : Option Marked) → is_spelled m ≡ true → is_spelled (unless_there count m) ≡ true
absent_spelled count None h = refl
absent_spelled count (Some m) h = unless_spelled (nat_lt m.frame count) m h

offered_spelled : (o : Offer) (m : Option Marked) → is_spelled m ≡ true → is_spelled (if_offered o m) ≡ true
offered_spelled o None h = refl
offered_spelled o (Some m) h = if_spelled (nat_le o.first m.frame && nat_lt m.frame o.end) m h

-- ---- of each player

pub told_spelled : (has : List ℕ) (known told : List (Option Marked)) → are_spelled known ≡ true
    → are_spelled told ≡ true → are_spelled (told_with has known told) ≡ true
told_spelled has known told k t =
    each_spelled (λ p. option_or (mark_at known p) (unless_there (slice_index has p) (mark_at told p))) (λ p.
    either_spelled (mark_at known p) (unless_there (slice_index has p) (mark_at told p)) (spelled_at known p k)
    (absent_spelled (slice_index has p) (mark_at told p) (spelled_at told p t)))

pub kept_spelled : (has : List ℕ) (known told : List (Option Marked)) → are_spelled known ≡ true
    → are_spelled told ≡ true → are_spelled (kept_with has known told) ≡ true
kept_spelled has known told k t =
    each_spelled (λ p. option_or (mark_at known p) (if_there (slice_index has p) (mark_at told p))) (λ p.
    either_spelled (mark_at known p) (if_there (slice_index has p) (mark_at told p)) (spelled_at known p k)
    (there_spelled (slice_index has p) (mark_at told p) (spelled_at told p t)))

pub offered_all_spelled : (offers : List Offer) (known : List (Option Marked)) → are_spelled known ≡ true
    → are_spelled (offered_marks offers known) ≡ true
offered_all_spelled offers known k =
    each_spelled (offered_at offers known) (λ p.
    offered_spelled (slice_index_or offers p none_offered) (mark_at known p) (spelled_at known p k))

pub told_all_spelled : (offers : List Offer) (has : List ℕ) (known : List (Option Marked)) → are_spelled known ≡ true
    → are_spelled (told_marks offers has known) ≡ true
told_all_spelled offers has known k =
    each_spelled (told_mark offers has known) (λ p.
    either_spelled (if_offered (slice_index_or offers p none_offered) (mark_at known p)) (if_there (slice_index has p) (mark_at known p))
    (offered_spelled (slice_index_or offers p none_offered) (mark_at known p) (spelled_at known p k))
    (there_spelled (slice_index has p) (mark_at known p) (spelled_at known p k)))

-- ---- what is read

pub spelled_in : (what : Content) → IsContent what → is_spelled_in what ≡ true
spelled_in (Greets hello) h = refl
spelled_in (Plays t) h = (parts_of t (fits_whole (Plays t) h)).spelled
spelled_in (Leaves why) h = refl
