-- A turn that has the words that it offers, and no more than fit, has a spelling.
use Rattle.std.proofs.Common.{◌≡◌, ℕ, suc, ◌-◌, ◌<◌, ◌^◌, Bool, true, List, [], ◌∷◌, ◌≤◌, length, get_or, refl, sym, arith}
use Rattle.std.specs.List.{AllByRecursion}
use Rattle.std.specs.Prelude.{Option, Some, None, IfSome, replicate, nat_le, nat_lt, ◌&&◌, ◌==◌, slice_index}
use Rattle.std.proofs.lemmas.Bool.{and_parts, and_from, eqb-true, eq-eqb, leb-true, le-leb, lt-ltb}
use Rattle.roll_mesh.specs.declared.limits.TheConstants.{PLAYER_LIMIT}
use Rattle.roll_mesh.specs.declared.packet.Offer.{Offer}
use Rattle.roll_wire.specs.declared.datagram.Marked.{Marked}
use Rattle.roll_wire.specs.declared.datagram.Newcomer.{Newcomer}
use Rattle.roll_wire.specs.declared.limits.TheConstants.{WORD_LIMIT}
use Rattle.roll_wire.specs.Spelling.{Content, Greets, Plays, Leaves, Turn, IsContent, IsHead, IsMarked, IsNewcomer, IsNumber, IsOffer, IsTurn, are_offers, are_spelled, count_of, has_players, is_offer, is_spelled, is_turn, is_whole}

all_numbers : (ws : List ℕ) → ((i : ℕ) → i < length ws → get_or ws i 0 < 2 ^ 32)
    → AllByRecursion IsNumber ws
all_numbers [] h = tt
all_numbers (w ∷ ws) h = (h 0 (omega arith), all_numbers ws (λ i l. h (suc i) (omega arith)))

in_order : (os : List Offer) → AllByRecursion IsOffer os → are_offers os ≡ true
in_order [] f = refl
in_order (o ∷ os) f =
    and_from (is_offer o) (are_offers os)
    (and_from (nat_le o.first o.end) (nat_lt (o.end - o.first) 256) (le-leb o.first o.end f.0.1.0)
    (lt-ltb (o.end - o.first) 256 f.0.1.1)) (in_order os f.1)

spelled : (ms : List (Option Marked)) → AllByRecursion (λ m. IfSome m IsMarked) ms
    → are_spelled ms ≡ true
spelled [] f = refl
spelled (m ∷ ms) f =
    and_from (is_spelled m) (are_spelled ms) (one m f.0) (spelled ms f.1)
  where
    one : (m : Option Marked) → IfSome m IsMarked → is_spelled m ≡ true
    one None f = refl
    one (Some m) f = comes m.mark.newcomer f.1.0
      where
        comes : (n : Option Newcomer) → IfSome n IsNewcomer → has_players n ≡ true
        comes None f = refl
        comes (Some n) f = f.0.1

abbrev are_and_count : Turn → Bool
are_and_count t = are_offers t.head.offers && (count_of t.head.offers == length t.words)

abbrev has_few : Turn → Bool
has_few t = are_and_count t && nat_le (length t.words) WORD_LIMIT

-- what a turn has that is one
pub record Parts (t : Turn) : Type 0 where
  pub offers : are_offers t.head.offers ≡ true
  pub count : count_of t.head.offers ≡ length t.words
  pub few : length t.words ≤ WORD_LIMIT
  pub spelled : are_spelled t.marks ≡ true

pub parts_of : (t : Turn) → is_turn t ≡ true → Parts t
parts_of t h =
    let whole = and_parts (has_few t) (are_spelled t.marks) h in
    let outer = and_parts (are_and_count t) (nat_le (length t.words) WORD_LIMIT) whole.0 in
    let inner = and_parts (are_offers t.head.offers) (count_of t.head.offers == length t.words)
    outer.0 in
    record {
      offers = inner.0;
      count = eqb-true (count_of t.head.offers) (length t.words) inner.1;
      few = leb-true (length t.words) WORD_LIMIT outer.1;
      spelled = whole.1;
    }

-- a turn without marks is one if its offers and its words are well
pub unmarked_whole : (offers : List Offer) (words : List ℕ)
    → (are_offers offers && (count_of offers == length words) && nat_le (length words) WORD_LIMIT) ≡ true
    → (are_offers offers && (count_of offers == length words) && nat_le (length words) WORD_LIMIT
    && are_spelled (replicate PLAYER_LIMIT None)) ≡ true
unmarked_whole offers words h =
    and_from (are_offers offers && (count_of offers == length words) && nat_le (length words) WORD_LIMIT)
    (are_spelled (replicate PLAYER_LIMIT None)) h refl

abbrev AreMarked : List (Option Marked) → Type 0
AreMarked ms = (length ms ≡ PLAYER_LIMIT) × AllByRecursion (λ m. IfSome m IsMarked) ms

pub turn_fits : (t : Turn) → IsHead t.head → AreMarked t.marks
    → ((i : ℕ) → slice_index t.words i < 2 ^ 32) → is_turn t ≡ true → IsTurn t
turn_fits t head marks numbers h =
    let p = parts_of t h in
    record {
      head = head;
      marks = marks;
      words = sym p.count;
      few = omega (arith, p.count, p.few);
      are_words = all_numbers t.words (λ i l. numbers i);
    }

pub fits_turn : (t : Turn) → IsTurn t → is_turn t ≡ true
fits_turn t f =
    and_from (has_few t) (are_spelled t.marks)
    (and_from (are_and_count t) (nat_le (length t.words) WORD_LIMIT)
    (and_from (are_offers t.head.offers) (count_of t.head.offers == length t.words)
    (in_order t.head.offers f.head.offers.1) (eq-eqb (count_of t.head.offers) (length t.words)
    (sym f.words)))
    (le-leb (length t.words) WORD_LIMIT (omega (arith, f.words, f.few))))
    (spelled t.marks f.marks.1)

pub fits_whole : (c : Content) → IsContent c → is_whole c ≡ true
fits_whole (Greets h) f = refl
fits_whole (Plays t) f = fits_turn t f
fits_whole (Leaves why) f = refl
