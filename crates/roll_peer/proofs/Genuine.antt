-- What one machine says is what another reads, whichever key opens it.
use Rattle.std.proofs.Common.{◌≡◌, ◌∙◌, ◌<◌, ◌≤◌, ℕ, List, ◌++◌, length, get_or, take, drop, refl, sym, ap, arith, Option, Some, None, Result, Ok, Err, Bool}
use Rattle.std.specs.Int.{w64, from_be_bytes, to_be_bytes}
use Rattle.std.specs.Prelude.{◌^◌}
use Rattle.std.proofs.lemmas.List.{get_or-append_right, get_or-drop, length-take-le}
use Rattle.std.proofs.lemmas.Nat.{be_bytes_8}
use Rattle.roll_contact.specs.Seals.{message_by, named, said_by, sealed, tag, unsealed}
use Rattle.roll_contact.specs.declared.key.Key.{Key}
use Rattle.roll_contact.proofs.Seals.{length-tag, with_field-with_field}
use Rattle.roll_wire.specs.declared.fault.WireFault.{WireFault}
use Rattle.roll_wire.specs.Reading.{all_of}
use Rattle.roll_wire.specs.Spelling.{long, spelling, Content, Fits, Message}
use Rattle.roll_wire.proofs.Fields.{ok_is}
use Rattle.roll_wire.proofs.Messages.{all_again}
use Rattle.roll_peer.specs.Peered.{Peered}
use Rattle.roll_peer.specs.Receiving.{byte_at, key_of, open_by, opened, read, read_sealed, read_text, sender_of}
use Rattle.roll_peer.specs.declared.received.Ignored.{Ignored}
use Rattle.roll_peer.specs.declared.receiving.TheConstants.{KIND_AT}
use Rattle.roll_peer.proofs.Believed.{fits8, text_is, text_read}
use Rattle.roll_peer.proofs.Said.{opened_is}

-- ---- a number in 8 bytes

abbrev whole_of : ℕ → ℕ
whole_of number = from_be_bytes w64 (to_be_bytes w64 number)

whole_same : (number : ℕ) → long (whole_of number) ≡ long number
whole_same number = be_bytes_8 (to_be_bytes w64 number) (whole_of number) refl (fits8 number) refl

below_8 : (bytes : List ℕ) → ((i : ℕ) → get_or bytes i 0 < 256) → from_be_bytes w64 bytes < 2 ^ 64
below_8 bytes f = omega (arith, f 0, f 1, f 2, f 3, f 4, f 5, f 6, f 7)

-- ---- what is read

-- a message with another number in the place of its own
abbrev renamed : ℕ → Message → Message
renamed number m = record m { envelope = record m.envelope { match_number = number } }

named_is : (number : ℕ) (m : Message) → named number (spelling m) ≡ spelling (renamed number m)
named_is number m = refl

named_whole : (number : ℕ) (m : Message) → spelling (renamed (whole_of number) m) ≡ named number (spelling m)
named_whole number m = ap (λ (bytes : List ℕ). with_number bytes) (whole_same number)
  where
    with_number : List ℕ → List ℕ
    with_number bytes = take 4 (spelling m) ++ (bytes ++ drop 12 (spelling m))

spelled_long : (m : Message) → 12 ≤ length (spelling m)
spelled_long m = omega arith

renamed_fits : (number : ℕ) (m : Message) → Fits m → Fits (renamed (whole_of number) m)
renamed_fits number m fits = record {
  envelope = (below_8 (to_be_bytes w64 number) (fits8 number), fits.envelope.1);
  content = fits.content;
}

abbrev done : Content → Result Content Ignored
done what = Ok what

same : (a b : Content) → done a ≡ done b → a ≡ b
same a b e = cc

content_back : (takes_marks : Bool) (m : Message) (text : List ℕ) (found : Content) → Fits m → text ≡ spelling m
    → read (read_text takes_marks text) ≡ Ok found → found ≡ m.content
content_back takes_marks m text found fits is e = go (read_text takes_marks text) refl e
  where
    one : (n : Message) → all_of (spelling m) ≡ Ok n → n ≡ m
    one n e = ok_is n m (sym e ∙ all_again m fits)

    go : (r : Result Message WireFault) → read_text takes_marks text ≡ r → read r ≡ Ok found → found ≡ m.content
    go (Err fault) u e = absurd cc
    go (Ok n) u e =
        sym (same n.content found e)
        ∙ ap (λ (x : Message). x.content) (one n (sym (ap all_of is) ∙ text_read takes_marks text n u))

-- a key that opens what was said finds what was said
read_back : (takes_marks : Bool) (key other : Key) (sender : ℕ) (what found : Content) → Fits (message_by key sender what)
    → open_by takes_marks (Some other) (said_by key sender what) ≡ Ok found → found ≡ what
unfolding said_by
read_back takes_marks key other sender what found fits e = go (unsealed other (sealed key text)) refl e
  where
    m : Message
    m = message_by key sender what

    text : List ℕ
    text = spelling m

    go : (o : Option (List ℕ)) → unsealed other (sealed key text) ≡ o → read_sealed takes_marks o ≡ Ok found
        → found ≡ what
    go None u e = absurd cc
    go (Some opened_text) u e =
        let is = text_is other (sealed key text) opened_text u in
        let bytes : opened_text ≡ spelling (renamed (whole_of other.number) m) =
        is.1 ∙ with_field-with_field (tag key text) (to_be_bytes w64 other.number) text (length-tag key text) (spelled_long m)
        ∙ sym (named_whole other.number m) in
        content_back takes_marks (renamed (whole_of other.number) m) opened_text found (renamed_fits other.number m fits) bytes e

-- and bytes name who said them
pub sender_is : (key : Key) (sender : ℕ) (what : Content) → sender_of (said_by key sender what) ≡ sender
unfolding said_by
sender_is key sender what =
    let text : List ℕ = spelling (message_by key sender what) in
    get_or-append_right (take 4 text) (tag key text ++ drop 12 text) 4 12 0
    (length-take-le 4 text (omega (arith, spelled_long (message_by key sender what)))) (omega arith)
    ∙ get_or-append_right (tag key text) (drop 12 text) 8 8 0 (length-tag key text) (omega arith)
    ∙ get_or-drop 12 text 0 0

pub genuine : (peer : Peered) (key : Key) (sender : ℕ) (what found : Content) → Fits (message_by key sender what)
    → opened peer (said_by key sender what) ≡ Ok found → found ≡ what
genuine peer key sender what found fits e =
    go (key_of peer (sender_of bytes) (byte_at bytes KIND_AT)) (sym (opened_is peer bytes) ∙ e)
  where
    bytes : List ℕ
    bytes = said_by key sender what

    go : (o : Option Key) → open_by peer.settings.takes_marks o bytes ≡ Ok found → found ≡ what
    go None e = absurd cc
    go (Some other) e = read_back peer.settings.takes_marks key other sender what found fits e
