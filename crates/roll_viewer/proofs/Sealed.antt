-- What bytes say is of the kind that their key is for.
use Rattle.std.proofs.Common.{◌≡◌, ◌∙◌, ◌≤◌, ℕ, List, ◌++◌, length, get_or, take, drop, refl, sym, ap, subst, arith, Bool, true, false, Option, Some, None}
use Rattle.std.specs.Prelude.{unwrap_or, if◌then◌else◌}
use Rattle.std.specs.Int.{w64, to_be_bytes}
use Rattle.std.proofs.lemmas.List.{get_or-append_right, get_or-drop, length-take}
use Rattle.std.proofs.lemmas.Option.{none-some}
use Rattle.roll_contact.specs.Contacts.{is_playing}
use Rattle.roll_contact.specs.Keys.{greeting_key}
use Rattle.roll_contact.specs.Seals.{named, IsSealed}
use Rattle.roll_contact.specs.declared.key.Key.{Key}
use Rattle.roll_wire.specs.Spelling.{spelling, Content, Greets, Leaves, Message, Plays}
use Rattle.roll_viewer.specs.Lines.{key_of_both, their_key, IsSealedFor, IsUnsealed}
use Rattle.roll_viewer.specs.declared.line.Line.{Line}

abbrev kind_of : Content → ℕ
kind_of (Greets h) = 0
kind_of (Plays t) = 1
kind_of (Leaves why) = 2

kind_said : (m : Message) → get_or (spelling m) 13 0 ≡ kind_of m.content
kind_said m = go m.content
  where
    go : (what : Content) → get_or (spelling (record { envelope = m.envelope; content = what })) 13 0 ≡ kind_of what
    go (Greets h) = refl
    go (Plays t) = refl
    go (Leaves why) = refl

-- the number stands before the kind
kind_named : (n : ℕ) (bytes : List ℕ) → 12 ≤ length bytes → get_or (named n bytes) 13 0 ≡ get_or bytes 13 0
kind_named n bytes least =
    let four : length (take 4 bytes) ≡ 4 = omega (arith, length-take 4 bytes, least) in
    get_or-append_right (take 4 bytes) (to_be_bytes w64 n ++ drop 12 bytes) 4 13 0 four (omega arith)
    ∙ get_or-append_right (to_be_bytes w64 n) (drop 12 bytes) 8 9 0 refl (omega arith)
    ∙ get_or-drop 12 bytes 1 0

key_is : (x y : Key) → Some x ≡ Some y → x ≡ y
key_is x y e = ap (λ (o : Option Key). unwrap_or o x) e

pub sealed_for : (line : Line) (bytes text : List ℕ) (m : Message) → IsUnsealed line bytes text
    → text ≡ spelling m → IsSealedFor line bytes m.content
sealed_for line bytes text m u e = go m.content kind
  where
    kind : get_or bytes 13 0 ≡ kind_of m.content
    kind =
        sym (kind_named u.key.number bytes u.is_sealed.least)
        ∙ ap (λ (ws : List ℕ). get_or ws 13 0) (sym u.text_is ∙ e) ∙ kind_said m

    both : (b : Bool) → is_playing line.contact.stage ≡ b
        → (if b then Some (key_of_both line) else None) ≡ Some u.key
        → (is_playing line.contact.stage ≡ true) × IsSealed (key_of_both line) bytes
    both true playing k = (playing, subst (λ (key : Key). IsSealed key bytes) (sym (key_is (key_of_both line) u.key k)) u.is_sealed)
    both false playing k = absurd (none-some u.key k)

    go : (what : Content) → get_or bytes 13 0 ≡ kind_of what → IsSealedFor line bytes what
    go (Greets h) k =
        subst (λ (key : Key). IsSealed key bytes)
        (sym (key_is (greeting_key line.settings.number) u.key (ap (their_key line) (sym k) ∙ u.is_key))) u.is_sealed
    go (Plays t) k = both (is_playing line.contact.stage) refl (ap (their_key line) (sym k) ∙ u.is_key)
    go (Leaves why) k = both (is_playing line.contact.stage) refl (ap (their_key line) (sym k) ∙ u.is_key)
