-- What a host says in a turn is heard by a viewer who believes its draw, and whose draw it believes.
use Rattle.std.proofs.Common.{◌≡◌, ◌∙◌, ◌≤◌, ◌+◌, ◌++◌, ℕ, List, length, get_or, take, drop, refl, sym, ap, arith, Bool, true, false, Option, Some, None, Ok}
use Rattle.std.specs.Prelude.{◌==◌, nat_le, nat_lt, slice_index_or, if◌then◌else◌}
use Rattle.std.proofs.lemmas.Bool.{and_from, eq-eqb, le-leb, le-ltb}
use Rattle.std.proofs.lemmas.List.{get_or-append_right, get_or-drop, length-take}
use Rattle.roll_contact.specs.Seals.{message_by, said_by, sealed, tag, unsealed}
use Rattle.roll_contact.specs.declared.key.Key.{Key}
use Rattle.roll_contact.proofs.Seals.{again, length-sealed, length-tag}
use Rattle.roll_frame.specs.Core.{Core}
use Rattle.roll_wire.specs.Reading.{is_unmarked}
use Rattle.roll_wire.specs.declared.datagram.Clocks.{Clocks}
use Rattle.roll_wire.specs.Spelling.{spelling, Fits, Plays, Turn}
use Rattle.roll_wire.specs.declared.limits.TheConstants.{DATAGRAM_LIMIT}
use Rattle.roll_wire.proofs.Messages.{unmarked_again}
use Rattle.roll_viewer.specs.Ends.{unread, Viewing}
use Rattle.roll_viewer.specs.Lines.{are_enough, came, key_of_both, message_of, opened, own_key, players_of, read, read_sealed, said, their_key}
use Rattle.roll_viewer.specs.Rows.{are_rows, first_row}
use Rattle.roll_viewer.specs.Seeing.{CanHear}
use Rattle.roll_viewer.specs.Telling.{told_to, with_clocks}
use Rattle.roll_viewer.specs.declared.line.Line.{Line}
use Rattle.roll_viewer.specs.declared.line.TheConstants.{KIND_AT, SENDER_AT}
use Rattle.roll_viewer.proofs.ReadBack.{has_number, long}

-- no word that a host tells has a mark
pub unmarked_told : (core : Core) (had number : ℕ) (clocks : Option Clocks)
    → is_unmarked (Plays (with_clocks number clocks (told_to core had))) ≡ true
unfolding told_to
unmarked_told core had number clocks = refl

module _ (key : Key) (sender : ℕ) (t : Turn) where
  abbrev text : List ℕ
  text = spelling (message_by key sender (Plays t))

  least : 14 ≤ length text
  least = omega arith

  -- what stands behind the tag stays as it was
  behind : (i : ℕ) → get_or (sealed key text) (12 + i) 0 ≡ get_or text (12 + i) 0
  behind i =
      let four : length (take 4 text) ≡ 4 = omega (arith, length-take 4 text, least) in
      get_or-append_right (take 4 text) (tag key text ++ drop 12 text) 4 (12 + i) 0 four (omega arith)
      ∙ ap (λ (n : ℕ). get_or (tag key text ++ drop 12 text) n 0) (omega arith)
      ∙ get_or-append_right (tag key text) (drop 12 text) 8 (8 + i) 0 (length-tag key text) (omega arith)
      ∙ ap (λ (n : ℕ). get_or (drop 12 text) n 0) (omega arith)
      ∙ get_or-drop 12 text i 0

  sender_there : get_or (sealed key text) 12 0 ≡ sender
  sender_there = behind 0

  kind_there : get_or (sealed key text) 13 0 ≡ 1
  kind_there = behind 1

module _ (from to : Line) (t : Turn) (bytes : List ℕ) (can : CanHear from to) where
  pub turn_opened : bytes ≡ said from from.settings.host (Plays t) → Fits (message_of from from.settings.host (Plays t))
      → length bytes ≤ DATAGRAM_LIMIT → is_unmarked (Plays t) ≡ true → opened to to.settings.host bytes ≡ Ok (Plays t)
  unfolding opened said said_by
  turn_opened is fits most none =
      let key : Key = own_key from in
      let words : List ℕ = spelling (message_by key from.settings.host (Plays t)) in
      let size : length bytes ≡ length words = ap (λ (bs : List ℕ). length bs) is ∙ length-sealed key words (long key from.settings.host (Plays t)) in
      let enough : are_enough bytes ≡ true =
      and_from (nat_le 14 (length bytes)) (nat_le (length bytes) DATAGRAM_LIMIT)
      (le-leb 14 (length bytes) (omega (arith, size, least key from.settings.host t)))
      (le-leb (length bytes) DATAGRAM_LIMIT most) in
      let of_host : (slice_index_or bytes SENDER_AT 0 == to.settings.host) ≡ true =
      eq-eqb (slice_index_or bytes SENDER_AT 0) to.settings.host
      (ap (λ (bs : List ℕ). get_or bs 12 0) is ∙ sender_there key from.settings.host t ∙ can.named) in
      let kind : slice_index_or bytes KIND_AT 0 ≡ 1 =
      ap (λ (bs : List ℕ). get_or bs 13 0) is ∙ kind_there key from.settings.host t in
      let by_key : their_key to (slice_index_or bytes KIND_AT 0) ≡ Some key =
      ap (their_key to) kind ∙ ap (λ (b : Bool). if b then Some (key_of_both to) else None) can.playing
      ∙ ap (λ (k : Key). Some k) (sym can.keys) in
      let opens : unsealed key bytes ≡ Some words =
      ap (unsealed key) is
      ∙ again key words (long key from.settings.host (Plays t)) (omega (arith, size, most)) (has_number key from.settings.host (Plays t)) in
      let came_is : came to to.settings.host bytes ≡ Ok words = rw (can.going_on, enough, of_host, by_key, opens) refl in
      ap read_sealed came_is ∙ ap read (unmarked_again (message_of from from.settings.host (Plays t)) fits none)

-- and it isn't refused
pub not_refused : (viewer : Viewing) (t : Turn) → are_rows (players_of viewer.line.settings) t ≡ true
    → first_row t ≤ viewer.rows.count → unread viewer t ≡ None
not_refused viewer t are reach =
    let no_gap : nat_lt viewer.rows.count (first_row t) ≡ false = le-ltb viewer.rows.count (first_row t) reach in
    rw (are, no_gap) refl
