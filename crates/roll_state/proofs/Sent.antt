-- What a giver sends, and what is read of it.
use Rattle.std.proofs.Common.{◌≡◌, ℕ, ◌+◌, ◌*◌, ◌<◌, ◌≤◌, Bool, true, false, cond, List, ◌++◌, length, drop, Option, Some, None, Result, Ok, Err, refl, sym, ap, ◌∙◌, arith, length-append}
use Rattle.std.specs.Prelude.{nat_lt, option_and_then, option_map, slice_get}
use Rattle.std.proofs.lemmas.Bool.{ltb-true}
use Rattle.std.proofs.lemmas.List.{length-take}
use Rattle.std.proofs.lemmas.Option.{slice_get_within}
use Rattle.roll_contact.specs.Seals.{HasNumber, unsealed}
use Rattle.roll_contact.specs.declared.key.Key.{Key}
use Rattle.roll_contact.proofs.Seals.{again, length-sealed}
use Rattle.roll_wire.specs.Spelling.{number}
use Rattle.roll_wire.specs.declared.fault.WireFault.{WireFault}
use Rattle.roll_state.specs.Reading.{all_of}
use Rattle.roll_state.specs.declared.limits.TheConstants.{ASK_LIMIT, PIECE_LIMIT}
use Rattle.roll_state.specs.Crossing.{GiversSendWhatIsAsked, IsOfGiver}
use Rattle.roll_state.specs.Giving.{is_asked, part_at, reply, reply_read, reply_to, Giving}
use Rattle.roll_state.specs.Sealing.{message_by, opened, read, read_sealed, said_by}
use Rattle.roll_state.specs.Spelling.{spelling, Content, Fits, Gives, IsContent, Message, Part, Wants, Wish}
use Rattle.roll_state.specs.States.{count_of, piece_of}
use Rattle.roll_state.specs.declared.name.StateName.{StateName}
use Rattle.roll_state.specs.declared.refusal.StateRefusal.{StateRefusal}
use Rattle.roll_state.specs.declared.refusal.StateRefusal.TheVariants.{OtherState}
use Rattle.roll_state.proofs.Messages.{all_again, few_wanted}

-- ---- a seal

pub has_number : (key : Key) (sender : ℕ) (what : Content)
    → HasNumber key.number (spelling (message_by key sender what))
has_number key sender what = refl

pub long : (key : Key) (sender : ℕ) (what : Content)
    → 12 ≤ length (spelling (message_by key sender what))
long key sender what = omega arith

pub read_back : (key : Key) (sender : ℕ) (what : Content) → Fits (message_by key sender what)
    → length (spelling (message_by key sender what)) ≤ 1200
    → opened key (said_by key sender what) ≡ Ok (message_by key sender what)
unfolding opened said_by
read_back key sender what fits few =
    ap read_sealed (again key (spelling (message_by key sender what)) (long key sender what) few
    (has_number key sender what))
    ∙ ap read (all_again (message_by key sender what) fits)

-- ---- what was sent

-- the piece of a giver that was sent for a place of an ask
pub record IsSent (giver : Giving) (key : Key) (sender : ℕ) (asked : List ℕ) (index : ℕ)
    (bytes : List ℕ) : Type 0 where
  pub message : Message
  pub wish : Wish
  pub place : ℕ
  pub read : opened key asked ≡ Ok message
  pub wants : message.content ≡ Wants wish
  pub named : slice_get wish.places index ≡ Some place
  pub inside : place < count_of giver.name.length
  pub bytes_are : bytes ≡ said_by key sender
      (Gives (record { state = giver.name; place = place; bytes = piece_of giver.bytes place }))

module _ (giver : Giving) (key : Key) (sender : ℕ) (asked : List ℕ) (index : ℕ) (bytes : List ℕ) where
  abbrev bytes_of : Part → List ℕ
  bytes_of p = said_by key sender (Gives p)

  abbrev part_here : ℕ → Part
  part_here place = record {
    state = giver.name;
    place = place;
    bytes = piece_of giver.bytes place;
  }

  of_part : (m : Message) (w : Wish) (place : ℕ) → opened key asked ≡ Ok m → m.content ≡ Wants w
      → slice_get w.places index ≡ Some place → (b : Bool)
      → nat_lt place (count_of giver.name.length) ≡ b
      → option_map bytes_of (cond b (Some (part_here place)) None) ≡ Some bytes
      → IsSent giver key sender asked index bytes
  of_part m w place r k n true inside e = record {
    message = m;
    wish = w;
    place = place;
    read = r;
    wants = k;
    named = n;
    inside = ltb-true _ _ inside;
    bytes_are = sym (cc e);
  }
  of_part m w place r k n false inside e = absurd (cc e)

  of_place : (m : Message) (w : Wish) (place : Option ℕ) → opened key asked ≡ Ok m
      → m.content ≡ Wants w → slice_get w.places index ≡ place
      → option_map bytes_of (option_and_then (part_at giver) place) ≡ Some bytes
      → IsSent giver key sender asked index bytes
  of_place m w (Some place) r k n e =
      of_part m w place r k n (nat_lt place (count_of giver.name.length)) refl e
  of_place m w None r k n e = absurd (cc e)

  abbrev Bytes : Type 0
  Bytes = Option (List ℕ)

  abbrev refused : Result Bytes StateRefusal
  refused = Err OtherState

  of_wish : (m : Message) (w : Wish) (b : Bool) → opened key asked ≡ Ok m → m.content ≡ Wants w
      → cond b (Ok (option_map bytes_of (cond b
      (option_and_then (part_at giver) (slice_get w.places index)) None))) refused
      ≡ Ok (Some bytes)
      → IsSent giver key sender asked index bytes
  of_wish m w true r k e =
      let same : option_map bytes_of (option_and_then (part_at giver) (slice_get w.places index))
      ≡ Some bytes = cc e in
      of_place m w (slice_get w.places index) r k refl same
  of_wish m w false r k e = absurd (cc e)

  of_content : (m : Message) (what : Content) → opened key asked ≡ Ok m → m.content ≡ what
      → reply_to giver key sender index what ≡ Ok (Some bytes)
      → IsSent giver key sender asked index bytes
  of_content m (Gives p) r k e = absurd (cc e)
  of_content m (Wants w) r k e = of_wish m w (is_asked giver w.state) r k e

  of_read : (r : Result Message StateRefusal) → opened key asked ≡ r
      → reply_read giver key sender index r ≡ Ok (Some bytes)
      → IsSent giver key sender asked index bytes
  of_read (Ok m) is e = of_content m m.content is refl e
  of_read (Err why) is e = absurd (cc e)

  pub is_sent : reply giver key sender asked index ≡ Ok (Some bytes)
      → IsSent giver key sender asked index bytes
  is_sent e = of_read (opened key asked) refl e

-- ---- who has the key reads it

length-piece : (state : List ℕ) (place : ℕ) → length (piece_of state place) ≤ PIECE_LIMIT
length-piece state place = omega (arith, length-take PIECE_LIMIT (drop (PIECE_LIMIT * place) state))

length-part : (key : Key) (sender : ℕ) (p : Part) → length p.state.digest ≡ 32
    → length (spelling (message_by key sender (Gives p))) ≡ 66 + length p.bytes
length-part key sender p size =
    omega (arith, length-append p.state.digest (number p.place ++ p.bytes), size)

pub given_back : (state : List ℕ) (name : StateName) (key : Key) (bytes : List ℕ)
    (g : IsOfGiver state name key bytes) (s : IsSent g.giver key g.sender g.asked g.index bytes)
    → opened key bytes ≡ Ok (message_by key g.sender (Gives (record {
      state = g.giver.name;
      place = s.place;
      bytes = piece_of g.giver.bytes s.place;
    })))
given_back state name key bytes g s =
    let p : Part = record {
      state = g.giver.name;
      place = s.place;
      bytes = piece_of g.giver.bytes s.place;
    } in
    let small : length p.bytes ≤ PIECE_LIMIT = length-piece g.giver.bytes s.place in
    let content : IsContent (Gives p) =
    (g.fits, (omega (arith, s.inside, g.fits.1.1.0), small)) in
    let fits : Fits (message_by key g.sender (Gives p)) = record { envelope = g.from; content = content } in
    ap (opened key) s.bytes_are
    ∙ read_back key g.sender (Gives p) fits
    (omega (arith, length-part key g.sender p g.fits.1.1.1, small))

-- a place that is named is one of them
index_few : (places : List ℕ) (index place : ℕ) → slice_get places index ≡ Some place
    → length places ≤ ASK_LIMIT → index < ASK_LIMIT
index_few places index place e few =
    let inside : index < length places = slice_get_within places index place e in
    omega arith

few_text : (text : Option (List ℕ)) (m : Message) (w : Wish) → read_sealed text ≡ Ok m
    → m.content ≡ Wants w → length w.places ≤ ASK_LIMIT
few_text None m w e is = absurd (cc e)
few_text (Some text) m w e is = go (all_of text) refl e
  where
    go : (r : Result Message WireFault) → all_of text ≡ r → read r ≡ Ok m
        → length w.places ≤ ASK_LIMIT
    go (Ok n) a b =
        let one : n ≡ m = (cc b) in
        few_wanted text m w (a ∙ ap (λ (x : Message). Ok x) one) is
    go (Err fault) a b = absurd (cc b)

few_read : (key : Key) (asked : List ℕ) (m : Message) (w : Wish) → opened key asked ≡ Ok m
    → m.content ≡ Wants w → length w.places ≤ ASK_LIMIT
unfolding opened
few_read key asked m w e is = few_text (unsealed key asked) m w e is

pub is_answer : GiversSendWhatIsAsked
unfolding said_by
is_answer giver key sender asked index bytes size e =
    let s = is_sent giver key sender asked index bytes e in
    let p : Part = record {
      state = giver.name;
      place = s.place;
      bytes = piece_of giver.bytes s.place;
    } in
    record {
      envelope = s.message.envelope;
      wish = s.wish;
      place = s.place;
      read = s.read ∙ ap (λ (what : Content). Ok (record { envelope = s.message.envelope; content = what })) s.wants;
      named = s.named;
      bytes_are = s.bytes_are;
      few = index_few s.wish.places index s.place s.named
          (few_read key asked s.message s.wish s.read s.wants);
      short = omega (
        arith,
        ap length s.bytes_are,
        length-sealed key (spelling (message_by key sender (Gives p))) (long key sender (Gives p)),
        length-part key sender p size,
      );
    }
