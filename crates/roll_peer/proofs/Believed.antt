-- What is heard was sealed for this opening.
use Rattle.std.proofs.Common.{◌≡◌, ◌∙◌, ◌<◌, ◌≤◌, ◌⊎◌, ◌-◌, ℕ, zero, suc, List, ◌++◌, length, get_or, take, drop, refl, sym, ap, subst, arith, Bool, true, false, Option, Some, None, Result, Ok, Err, inl, inr}
use Rattle.std.specs.Int.{w64, to_be_bytes}
use Rattle.std.specs.Prelude.{◌==◌, ◌&&◌, if◌then◌else◌, is_some, nat_le}
use Rattle.std.specs.Str.{bytes_eq}
use Rattle.std.proofs.lemmas.Bool.{and_parts, cases_lt, eqb-true, leb-true}
use Rattle.std.proofs.lemmas.List.{get_or-append_right, get_or-drop, get_or_append_left, length-take-le}
use Rattle.roll_contact.specs.Contacts.{is_playing}
use Rattle.roll_contact.specs.Keys.{greeting_key}
use Rattle.roll_contact.specs.Seals.{is_sealed, named, sealed, unsealed}
use Rattle.roll_contact.specs.declared.key.Key.{Key}
use Rattle.roll_mesh.proofs.Changes.{none_some}
use Rattle.roll_wire.specs.Reading.{all_of}
use Rattle.roll_wire.specs.declared.fault.WireFault.{WireFault}
use Rattle.roll_wire.specs.declared.limits.TheConstants.{DATAGRAM_LIMIT}
use Rattle.roll_wire.proofs.Fields.{IsBytes-drop, IsBytes-take}
use Rattle.roll_wire.specs.Spelling.{Content, Greets, Leaves, Message, Plays, spelling}
use Rattle.roll_wire.proofs.Messages.{all_takes, unmarked_is}
use Rattle.roll_peer.specs.Laws.{is_greeting, key_from, IsOfThisOpening, NothingElseIsHeard}
use Rattle.roll_peer.specs.Peered.{contact_at}
use Rattle.roll_peer.specs.Receiving.{byte_at, open_by, read, read_sealed, read_text, sender_of}
use Rattle.roll_peer.specs.Settings.{number_for}
use Rattle.roll_peer.specs.declared.receiving.TheConstants.{KIND_AT}
use Rattle.roll_peer.specs.declared.received.Ignored.{Ignored}
use Rattle.roll_peer.proofs.Said.{opened_is}

-- ---- the byte of the kind

abbrev ByteLike : List ℕ → Type 0
ByteLike bytes = (i : ℕ) → get_or bytes i 0 < 256

pub fits8 : (n i : ℕ) → get_or (to_be_bytes w64 n) i 0 < 256
fits8 n zero = omega arith
fits8 n (suc zero) = omega arith
fits8 n (suc (suc zero)) = omega arith
fits8 n (suc (suc (suc zero))) = omega arith
fits8 n (suc (suc (suc (suc zero)))) = omega arith
fits8 n (suc (suc (suc (suc (suc zero))))) = omega arith
fits8 n (suc (suc (suc (suc (suc (suc zero)))))) = omega arith
fits8 n (suc (suc (suc (suc (suc (suc (suc zero))))))) = omega arith
fits8 n (suc (suc (suc (suc (suc (suc (suc (suc i)))))))) = omega arith

both_fit : (xs ys : List ℕ) → ByteLike xs → ByteLike ys → ByteLike (xs ++ ys)
both_fit xs ys f g i = go (cases_lt i (length xs))
  where
    go : (i < length xs) ⊎ (length xs ≤ i) → get_or (xs ++ ys) i 0 < 256
    go (inl l) = rw (get_or_append_left xs ys 0 i l) (f i)
    go (inr l) = rw (get_or-append_right xs ys (length xs) i 0 refl l) (g (i - length xs))

named_fits : (number : ℕ) (bytes : List ℕ) → ByteLike bytes → ByteLike (named number bytes)
named_fits number bytes f =
    both_fit (take 4 bytes) (to_be_bytes w64 number ++ drop 12 bytes) (IsBytes-take 4 bytes f)
    (both_fit (to_be_bytes w64 number) (drop 12 bytes) (fits8 number) (IsBytes-drop 12 bytes f))

-- the number's place is before it
named_kind : (number : ℕ) (bytes : List ℕ) → 12 ≤ length bytes
    → get_or (named number bytes) 13 0 ≡ get_or bytes 13 0
named_kind number bytes long =
    get_or-append_right (take 4 bytes) (to_be_bytes w64 number ++ drop 12 bytes) 4 13 0
    (length-take-le 4 bytes (omega (arith, long))) (omega arith)
    ∙ get_or-append_right (to_be_bytes w64 number) (drop 12 bytes) 8 9 0 refl (omega arith)
    ∙ get_or-drop 12 bytes 1 0

abbrev kind_of : Content → ℕ
kind_of (Greets hello) = 0
kind_of (Plays t) = 1
kind_of (Leaves why) = 2

spelled_kind : (m : Message) → get_or (spelling m) 13 0 ≡ kind_of m.content
spelled_kind m = go m.content refl
  where
    go : (c : Content) → m.content ≡ c → get_or (spelling m) 13 0 ≡ kind_of m.content
    go (Greets hello) e = rw e refl
    go (Plays t) e = rw e refl
    go (Leaves why) e = rw e refl

-- ---- what is opened

pub text_is : (key : Key) (bytes text : List ℕ) → unsealed key bytes ≡ Some text
    → (12 ≤ length bytes) × (text ≡ named key.number bytes)
text_is key bytes text e = go (is_sealed key bytes) refl e
  where
    one : (a b : List ℕ) → Some a ≡ Some b → a ≡ b
    one a b e = cc

    go : (b : Bool) → is_sealed key bytes ≡ b
        → (if b then Some (named key.number bytes) else None) ≡ Some text
        → (12 ≤ length bytes) × (text ≡ named key.number bytes)
    go true s e = (
      leb-true 12 (length bytes) (and_parts (nat_le 12 (length bytes)) (nat_le (length bytes) DATAGRAM_LIMIT
          && bytes_eq (sealed key (named key.number bytes)) bytes) s).0,
      sym (one (named key.number bytes) text e),
    )
    go false s e = absurd (none_some text e)

abbrev done : Content → Result Content Ignored
done what = Ok what

same : (a b : Content) → done a ≡ done b → a ≡ b
same a b e = cc

-- whether marks are taken or not, a text is read as the datagram that it spells
pub text_read : (takes_marks : Bool) (text : List ℕ) (m : Message) → read_text takes_marks text ≡ Ok m → all_of text ≡ Ok m
text_read true text m e = e
text_read false text m e = unmarked_is text m e

read_kind : (takes_marks : Bool) (key : Key) (bytes text : List ℕ) (what : Content) → ByteLike bytes
    → unsealed key bytes ≡ Some text → read (read_text takes_marks text) ≡ Ok what
    → get_or bytes 13 0 ≡ kind_of what
read_kind takes_marks key bytes text what fits shown e = go (read_text takes_marks text) refl e
  where
    go : (r : Result Message WireFault) → read_text takes_marks text ≡ r → read r ≡ Ok what
        → get_or bytes 13 0 ≡ kind_of what
    go (Err fault) f e = absurd cc
    go (Ok m) f e =
        let is = text_is key bytes text shown in
        let fit : ByteLike text = subst ByteLike (sym is.1) (named_fits key.number bytes fits) in
        sym (named_kind key.number bytes is.0) ∙ ap (λ (t : List ℕ). get_or t 13 0) (sym is.1)
        ∙ ap (λ (t : List ℕ). get_or t 13 0) (all_takes text m fit (text_read takes_marks text m f)).1
        ∙ spelled_kind m ∙ ap kind_of (same m.content what e)

opened_kind : (takes_marks : Bool) (key : Key) (bytes : List ℕ) (what : Content) → ByteLike bytes
    → open_by takes_marks (Some key) bytes ≡ Ok what
    → (is_some (unsealed key bytes) ≡ true) × (get_or bytes 13 0 ≡ kind_of what)
opened_kind takes_marks key bytes what fits e = go (unsealed key bytes) refl e
  where
    go : (text : Option (List ℕ)) → unsealed key bytes ≡ text → read_sealed takes_marks text ≡ Ok what
        → (is_some (unsealed key bytes) ≡ true) × (get_or bytes 13 0 ≡ kind_of what)
    go None f e = absurd cc
    go (Some text) f e = (ap (λ o. is_some o) f, read_kind takes_marks key bytes text what fits f e)

not_zero : (what : Content) → is_greeting what ≡ false → kind_of what ≡ 0 → ⊥
not_zero (Greets hello) g e = absurd cc
not_zero (Plays t) g e = omega (arith, e)
not_zero (Leaves why) g e = omega (arith, e)

pub nothing_else_is_heard : NothingElseIsHeard
nothing_else_is_heard peer bytes what fits e plays =
    go (byte_at bytes KIND_AT == 0) refl (is_playing (contact_at peer (sender_of bytes)).stage) refl
    (sym (opened_is peer bytes) ∙ e)
  where
    go : (b : Bool) → (byte_at bytes KIND_AT == 0) ≡ b → (c : Bool)
        → is_playing (contact_at peer (sender_of bytes)).stage ≡ c
        → open_by peer.settings.takes_marks (if b then Some (greeting_key (number_for peer.settings (sender_of bytes)))
        else (if c then Some (key_from peer (sender_of bytes)) else None)) bytes ≡ Ok what
        → IsOfThisOpening peer bytes
    go true z c p e =
        let k = opened_kind peer.settings.takes_marks (greeting_key (number_for peer.settings (sender_of bytes))) bytes what fits e in
        absurd (not_zero what plays (sym k.1 ∙ eqb-true (byte_at bytes KIND_AT) 0 z))
    go false z true p e =
        record { playing = p; sealed = (opened_kind peer.settings.takes_marks (key_from peer (sender_of bytes)) bytes what fits e).0 }
    go false z false p e = absurd cc
