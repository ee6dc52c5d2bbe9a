-- What one end says is read by the other as it was said.
use Rattle.std.proofs.Common.{◌≡◌, ◌∙◌, ◌≤◌, ℕ, List, refl, sym, ap, arith, Bool, true, false, Option, Some, None, Result, Ok, Err, length}
use Rattle.std.specs.Prelude.{not, slice_index_or, ◌==◌, if◌then◌else◌}
use Rattle.std.proofs.lemmas.Option.{none-some}
use Rattle.roll_contact.specs.Contacts.{is_playing}
use Rattle.roll_contact.specs.Keys.{greeting_key}
use Rattle.roll_contact.specs.Seals.{is_sealed, message_by, named, said_by, sealed, unsealed, HasNumber}
use Rattle.roll_contact.specs.declared.key.Key.{Key}
use Rattle.roll_contact.proofs.Seals.{named-sealed}
use Rattle.roll_wire.specs.declared.fault.WireFault.{WireFault}
use Rattle.roll_wire.specs.Reading.{unmarked_of}
use Rattle.roll_wire.specs.Spelling.{spelling, Content, Fits, Greets, Leaves, Message, Plays}
use Rattle.roll_wire.proofs.Messages.{unmarked_back}
use Rattle.roll_viewer.specs.Lines.{are_enough, came, key_for, key_of_both, message_of, opened, or_not_sealed, read, read_sealed, said, their_key, unsealed_by}
use Rattle.roll_viewer.specs.declared.line.Line.{Line}
use Rattle.roll_viewer.specs.declared.line.TheConstants.{HELLO, KIND_AT, SENDER_AT}
use Rattle.roll_viewer.specs.declared.refusal.LineRefusal.{LineRefusal}
use Rattle.roll_viewer.specs.declared.refusal.LineRefusal.TheVariants.{Ended, NotSealed, Stranger}

-- ---- what was sealed

-- either end's keys have the line's number
number_of : (line : Line) (what : Content) → (key_for line what).number ≡ line.settings.number
number_of line (Greets h) = refl
number_of line (Plays t) = refl
number_of line (Leaves why) = refl

pub has_number : (key : Key) (sender : ℕ) (what : Content) → HasNumber key.number (spelling (message_by key sender what))
has_number key sender what = refl

pub long : (key : Key) (sender : ℕ) (what : Content) → 12 ≤ length (spelling (message_by key sender what))
long key sender what = omega arith

named_said : (line : Line) (sender : ℕ) (what : Content)
    → named line.settings.number (said line sender what) ≡ spelling (message_of line sender what)
unfolding said said_by
named_said line sender what =
    ap (λ (n : ℕ). named n (sealed (key_for line what) (spelling (message_of line sender what)))) (sym (number_of line what))
    ∙ named-sealed (key_for line what) (spelling (message_of line sender what))
    (long (key_for line what) sender what) (has_number (key_for line what) sender what)

-- ---- what is opened

key_is : (x y : Key) → Some x ≡ Some y → x ≡ y
key_is x y e = cc e

unsealed_is : (key : Key) (bytes text : List ℕ) → unsealed key bytes ≡ Some text → text ≡ named key.number bytes
unsealed_is key bytes text e = go (is_sealed key bytes) e
  where
    go : (b : Bool) → (if b then Some (named key.number bytes) else None) ≡ Some text → text ≡ named key.number bytes
    go true e = sym (cc e)
    go false e = absurd (none-some text e)

their_number : (line : Line) (kind : ℕ) (key : Key) → their_key line kind ≡ Some key → key.number ≡ line.settings.number
their_number line kind key e = go (kind == HELLO) e
  where
    both : (b : Bool) → (if b then Some (key_of_both line) else None) ≡ Some key → key.number ≡ line.settings.number
    both true e = ap (λ (k : Key). k.number) (sym (key_is (key_of_both line) key e))
    both false e = absurd (none-some key e)

    go : (b : Bool) → (if b then Some (greeting_key line.settings.number) else (if is_playing line.contact.stage then Some (key_of_both line) else None)) ≡ Some key → key.number ≡ line.settings.number
    go true e = ap (λ (k : Key). k.number) (sym (key_is (greeting_key line.settings.number) key e))
    go false e = both (is_playing line.contact.stage) e

text_is : (t text : List ℕ) → or_not_sealed (Some t) ≡ Ok text → t ≡ text
text_is t text e = cc e

came_is : (line : Line) (sender : ℕ) (bytes text : List ℕ) → came line sender bytes ≡ Ok text
    → text ≡ named line.settings.number bytes
came_is line sender bytes text e = ended line.ended e
  where
    by_key : (o : Option Key) → their_key line (slice_index_or bytes KIND_AT 0) ≡ o
        → or_not_sealed (unsealed_by o bytes) ≡ Ok text → text ≡ named line.settings.number bytes
    by_key None k e = absurd (cc e)
    by_key (Some key) k e = found (unsealed key bytes) refl e
      where
        found : (o : Option (List ℕ)) → unsealed key bytes ≡ o → or_not_sealed o ≡ Ok text → text ≡ named line.settings.number bytes
        found None u e = absurd (cc e)
        found (Some t) u e =
            sym (text_is t text e) ∙ unsealed_is key bytes t u
            ∙ ap (λ (n : ℕ). named n bytes) (their_number line (slice_index_or bytes KIND_AT 0) key k)

    sent_by : (b : Bool) → (if b then Err Stranger else or_not_sealed (unsealed_by (their_key line (slice_index_or bytes KIND_AT 0)) bytes)) ≡ Ok text
        → text ≡ named line.settings.number bytes
    sent_by true e = absurd (cc e)
    sent_by false e = by_key (their_key line (slice_index_or bytes KIND_AT 0)) refl e

    enough : (b : Bool) → (if b then Err NotSealed
        else (if not (slice_index_or bytes SENDER_AT 0 == sender) then Err Stranger
        else or_not_sealed (unsealed_by (their_key line (slice_index_or bytes KIND_AT 0)) bytes))) ≡ Ok text
        → text ≡ named line.settings.number bytes
    enough true e = absurd (cc e)
    enough false e = sent_by (not (slice_index_or bytes SENDER_AT 0 == sender)) e

    ended : (b : Bool) → (if b then Err Ended
        else (if not (are_enough bytes) then Err NotSealed
        else (if not (slice_index_or bytes SENDER_AT 0 == sender) then Err Stranger
        else or_not_sealed (unsealed_by (their_key line (slice_index_or bytes KIND_AT 0)) bytes)))) ≡ Ok text
        → text ≡ named line.settings.number bytes
    ended true e = absurd (cc e)
    ended false e = enough (not (are_enough bytes)) e

-- ---- both

abbrev content_is : Content → Result Content LineRefusal
content_is x = Ok x

content_back : (m : Message) (text : List ℕ) (found : Content) → Fits m → text ≡ spelling m
    → read (unmarked_of text) ≡ Ok found → found ≡ m.content
content_back m text found fits is e = go (unmarked_of text) refl e
  where
    same : (x y : Content) → content_is x ≡ content_is y → x ≡ y
    same x y e = cc e

    go : (r : Result Message WireFault) → unmarked_of text ≡ r → read r ≡ Ok found → found ≡ m.content
    go (Err fault) u e = absurd (cc e)
    go (Ok n) u e =
        sym (same n.content found e)
        ∙ ap (λ (x : Message). x.content) (unmarked_back m n fits (sym (ap unmarked_of is) ∙ u))

module _ (from to : Line) (sender named_as : ℕ) (what heard : Content) (bytes : List ℕ) where
  pub read_back : bytes ≡ said from sender what → Fits (message_of from sender what)
      → from.settings.number ≡ to.settings.number → opened to named_as bytes ≡ Ok heard → heard ≡ what
  unfolding opened
  read_back is fits same e = go (came to named_as bytes) refl e
    where
      go : (r : Result (List ℕ) LineRefusal) → came to named_as bytes ≡ r → read_sealed r ≡ Ok heard → heard ≡ what
      go (Err why) c e = absurd (cc e)
      go (Ok text) c e =
          let t : text ≡ spelling (message_of from sender what) =
          came_is to named_as bytes text c
          ∙ ap (λ (n : ℕ). named n bytes) (sym same) ∙ ap (named from.settings.number) is ∙ named_said from sender what in
          content_back (message_of from sender what) text heard fits t e
