-- The groups of fields that a datagram has.
use Rattle.std.proofs.Common.{◌≡◌, ℕ, ◌+◌, ◌-◌, ◌^◌, ◌≤◌, Bool, true, false, not, cond, eqb, ltb, List, [], ◌∷◌, ◌++◌, length, Option, Result, Ok, Err, refl, sym, ap, subst, ◌∙◌, arith}
use Rattle.std.specs.Prelude.{Some, None, is_some, IfSome}
use Rattle.std.specs.Int.{w32, w64}
use Rattle.std.specs.List.{flat_map, list_any, AllByRecursion}
use Rattle.std.proofs.lemmas.Bool.{eqb-true, lt-ltb, ltb-true}
use Rattle.roll_mesh.specs.declared.limits.TheConstants.{MACHINE_LIMIT, PLAYER_LIMIT}
use Rattle.roll_mesh.specs.declared.packet.Offer.{Offer}
use Rattle.roll_mesh.specs.declared.packet.View.{View}
use Rattle.roll_wire.specs.declared.datagram.Clocks.{Clocks}
use Rattle.roll_wire.specs.declared.datagram.Envelope.{Envelope}
use Rattle.roll_wire.specs.declared.datagram.Head.{Head}
use Rattle.roll_wire.specs.declared.datagram.Hello.{Hello}
use Rattle.roll_wire.specs.declared.datagram.Mark.{Mark}
use Rattle.roll_wire.specs.declared.datagram.Marked.{Marked}
use Rattle.roll_wire.specs.declared.datagram.Newcomer.{Newcomer}
use Rattle.roll_wire.specs.declared.datagram.Settled.{Settled}
use Rattle.roll_wire.specs.declared.fault.WireFault.{WireFault}
use Rattle.roll_wire.specs.declared.fault.WireFault.TheVariants.{Zero, TooFar}
use Rattle.roll_wire.specs.Spelling.{number, long, short, byte, mask, optional, masked, envelope, hello, clocks, view, settled, offer, head, is_counted, is_offered, newcomer, within, mark, marked, marks, IsByte, IsNumber, IsLong, IsOffer, IsEnvelope, IsHead, IsHello, IsClocks, IsSettled, IsNewcomer, IsMark, IsMarked}
use Rattle.roll_wire.specs.Reading.{◌>>=◌, number_at, byte_at, short_at, mask_at, optional_at, masked_at, repeated, envelope_at, hello_at, clocks_at, settled_at, bits, counted_at, offered, offer_at, no_offer, view_at, head_at, newcomer_at, within_at, mark_at, marked_at}
use Rattle.roll_wire.proofs.Fields.{IsBytes, IsField, IsMasked, Takes, Takes-then, bind_ok, guard_ok, ok_is, both_at, both_field, seen_at, seen_field, repeated_field, optional_field, masked_field, number_field, long_field, short_field, byte_field, mask_field}

-- one step after another, and another one
pub bind_assoc : {A B C : Type 0} (r : Result A WireFault) (f : A → Result B WireFault)
    (g : B → Result C WireFault) → ((r >>= f) >>= g) ≡ (r >>= λ x. f x >>= g)
bind_assoc (Ok x) f g = refl
bind_assoc (Err d) f g = refl

-- a reader that reads the same
same_field : {A : Type 0} (fits : A → Type 0) (text : A → List ℕ)
    (read other : List ℕ → Result (A × List ℕ) WireFault)
    → ((bytes : List ℕ) → read bytes ≡ other bytes) → IsField fits text other
    → IsField fits text read
same_field fits text read other same f = record {
  takes = λ bytes x rest b e. f.takes bytes x rest b (sym (same bytes) ∙ e);
  again = λ x rest h. same (text x ++ rest) ∙ f.again x rest h;
}

abbrev envelope_parts : List ℕ → Result ((ℕ × ℕ) × List ℕ) WireFault
envelope_parts = both_at (number_at w64) byte_at

abbrev envelope_of : ℕ × ℕ → Envelope
envelope_of x = record { match_number = x.0; sender = x.1 }

envelope_same : (bytes : List ℕ) → envelope_at bytes ≡ seen_at envelope_of envelope_parts bytes
unfolding envelope_at
envelope_same bytes = sym (simp bind_assoc)

pub envelope_field : IsField IsEnvelope envelope envelope_at
envelope_field =
    same_field IsEnvelope envelope envelope_at (seen_at envelope_of envelope_parts) envelope_same
    (seen_field envelope_of (λ e. (e.match_number, e.sender)) (λ x. IsLong x.0 × IsByte x.1)
    (λ x. long x.0 ++ byte x.1) envelope_parts (λ x. refl) (λ e. refl)
    (both_field IsLong long (number_at w64) IsByte byte byte_at long_field byte_field))

-- ---- a hello

abbrev AreBytes : List ℕ → Type 0
AreBytes ns = (length ns ≡ PLAYER_LIMIT) × AllByRecursion IsByte ns

abbrev Last : ℕ × ℕ → Type 0
Last x = IsNumber x.0 × IsByte x.1

abbrev last : ℕ × ℕ → List ℕ
last x = number x.0 ++ byte x.1

abbrev last_at : List ℕ → Result ((ℕ × ℕ) × List ℕ) WireFault
last_at = both_at (number_at w32) byte_at

last_field : IsField Last last last_at
last_field = both_field IsNumber number (number_at w32) IsByte byte byte_at number_field byte_field

abbrev Draws : ℕ × (ℕ × (ℕ × ℕ)) → Type 0
Draws x = IsLong x.0 × (IsLong x.1.0 × Last x.1.1)

abbrev draws : ℕ × (ℕ × (ℕ × ℕ)) → List ℕ
draws x = long x.0 ++ (long x.1.0 ++ last x.1.1)

abbrev draws_at : List ℕ → Result ((ℕ × (ℕ × (ℕ × ℕ))) × List ℕ) WireFault
draws_at = both_at (number_at w64) (both_at (number_at w64) last_at)

draws_field : IsField Draws draws draws_at
draws_field =
    both_field IsLong long (number_at w64) (λ x. IsLong x.0 × Last x.1) (λ x. long x.0 ++ last x.1)
    (both_at (number_at w64) last_at) long_field
    (both_field IsLong long (number_at w64) Last last last_at long_field last_field)

abbrev Digests : ℕ × (ℕ × (ℕ × (ℕ × (ℕ × ℕ)))) → Type 0
Digests x = IsLong x.0 × (IsLong x.1.0 × Draws x.1.1)

abbrev digests : ℕ × (ℕ × (ℕ × (ℕ × (ℕ × ℕ)))) → List ℕ
digests x = long x.0 ++ (long x.1.0 ++ draws x.1.1)

abbrev digests_at : List ℕ → Result ((ℕ × (ℕ × (ℕ × (ℕ × (ℕ × ℕ))))) × List ℕ) WireFault
digests_at = both_at (number_at w64) (both_at (number_at w64) draws_at)

digests_field : IsField Digests digests digests_at
digests_field =
    both_field IsLong long (number_at w64) (λ x. IsLong x.0 × Draws x.1) (λ x. long x.0 ++ draws x.1)
    (both_at (number_at w64) draws_at) long_field
    (both_field IsLong long (number_at w64) Draws draws draws_at long_field draws_field)

abbrev HelloParts : Type 0
HelloParts = ℕ × (ℕ × (List ℕ × (ℕ × (ℕ × (ℕ × (ℕ × (ℕ × ℕ)))))))

abbrev hello_parts : List ℕ → Result (HelloParts × List ℕ) WireFault
hello_parts = both_at byte_at (both_at byte_at
    (both_at (repeated byte_at PLAYER_LIMIT) digests_at))

abbrev hello_of : HelloParts → Hello
hello_of x = record {
  machines = x.0;
  words = x.1.0;
  owners = x.1.1.0;
  settings = x.1.1.1.0;
  opening = x.1.1.1.1.0;
  draw = x.1.1.1.1.1.0;
  echo = x.1.1.1.1.1.1.0;
  patience = x.1.1.1.1.1.1.1.0;
  abilities = x.1.1.1.1.1.1.1.1;
}

abbrev parts_of_hello : Hello → HelloParts
parts_of_hello h =
    (h.machines, (h.words, (h.owners, (h.settings, (h.opening, (h.draw, (h.echo, (h.patience, h.abilities))))))))

hello_same : (bytes : List ℕ) → hello_at bytes ≡ seen_at hello_of hello_parts bytes
unfolding hello_at
hello_same bytes = sym (simp bind_assoc)

pub hello_field : IsField IsHello hello hello_at
hello_field =
    same_field IsHello hello hello_at (seen_at hello_of hello_parts) hello_same
    (seen_field hello_of parts_of_hello
    (λ x. IsByte x.0 × (IsByte x.1.0 × (AreBytes x.1.1.0 × Digests x.1.1.1)))
    (λ x. byte x.0 ++ (byte x.1.0 ++ (flat_map byte x.1.1.0 ++ digests x.1.1.1))) hello_parts
    (λ x. refl) (λ h. refl)
    (both_field IsByte byte byte_at (λ x. IsByte x.0 × (AreBytes x.1.0 × Digests x.1.1))
    (λ x. byte x.0 ++ (flat_map byte x.1.0 ++ digests x.1.1))
    (both_at byte_at (both_at (repeated byte_at PLAYER_LIMIT) digests_at)) byte_field
    (both_field IsByte byte byte_at (λ x. AreBytes x.0 × Digests x.1)
    (λ x. flat_map byte x.0 ++ digests x.1)
    (both_at (repeated byte_at PLAYER_LIMIT) digests_at) byte_field
    (both_field AreBytes (λ ns. flat_map byte ns) (repeated byte_at PLAYER_LIMIT) Digests digests
    digests_at (repeated_field IsByte byte byte_at PLAYER_LIMIT byte_field) digests_field))))

-- ---- clocks

abbrev Two : ℕ × ℕ → Type 0
Two x = IsNumber x.0 × IsNumber x.1

abbrev two : ℕ × ℕ → List ℕ
two x = short x.0 ++ short x.1

abbrev two_at : List ℕ → Result ((ℕ × ℕ) × List ℕ) WireFault
two_at = both_at short_at short_at

two_field : IsField Two two two_at
two_field = both_field IsNumber short short_at IsNumber short short_at short_field short_field

abbrev Four : ℕ × (ℕ × (ℕ × ℕ)) → Type 0
Four x = IsNumber x.0 × (IsNumber x.1.0 × Two x.1.1)

abbrev four : ℕ × (ℕ × (ℕ × ℕ)) → List ℕ
four x = short x.0 ++ (short x.1.0 ++ two x.1.1)

abbrev four_at : List ℕ → Result ((ℕ × (ℕ × (ℕ × ℕ))) × List ℕ) WireFault
four_at = both_at short_at (both_at short_at two_at)

four_field : IsField Four four four_at
four_field =
    both_field IsNumber short short_at (λ x. IsNumber x.0 × Two x.1) (λ x. short x.0 ++ two x.1)
    (both_at short_at two_at) short_field
    (both_field IsNumber short short_at Two two two_at short_field two_field)

abbrev clocks_parts : List ℕ → Result ((ℕ × (ℕ × (ℕ × (ℕ × ℕ)))) × List ℕ) WireFault
clocks_parts = both_at short_at four_at

abbrev clocks_of : ℕ × (ℕ × (ℕ × (ℕ × ℕ))) → Clocks
clocks_of x = record {
  frame = x.0;
  heard_frame = x.1.0;
  clock = x.1.1.0;
  heard_clock = x.1.1.1.0;
  held = x.1.1.1.1;
}

clocks_same : (bytes : List ℕ) → clocks_at bytes ≡ seen_at clocks_of clocks_parts bytes
unfolding clocks_at
clocks_same bytes = sym (simp bind_assoc)

pub clocks_field : IsField IsClocks clocks clocks_at
clocks_field =
    same_field IsClocks clocks clocks_at (seen_at clocks_of clocks_parts) clocks_same
    (seen_field clocks_of
    (λ c. (c.frame, (c.heard_frame, (c.clock, (c.heard_clock, c.held)))))
    (λ x. IsNumber x.0 × Four x.1) (λ x. short x.0 ++ four x.1) clocks_parts (λ x. refl)
    (λ c. refl) (both_field IsNumber short short_at Four four four_at short_field four_field))

-- ---- a settled state

abbrev settled_of : ℕ × ℕ → Settled
settled_of x = record { frame = x.0; digest = x.1 }

settled_same : (bytes : List ℕ) → settled_at bytes ≡ seen_at settled_of
    (both_at short_at (number_at w64)) bytes
unfolding settled_at
settled_same bytes = sym (simp bind_assoc)

pub settled_field : IsField IsSettled settled settled_at
settled_field =
    same_field IsSettled settled settled_at (seen_at settled_of
    (both_at short_at (number_at w64))) settled_same
    (seen_field settled_of (λ s. (s.frame, s.digest)) (λ x. IsNumber x.0 × IsLong x.1)
    (λ x. short x.0 ++ long x.1) (both_at short_at (number_at w64)) (λ x. refl) (λ s. refl)
    (both_field IsNumber short short_at IsLong long (number_at w64) short_field long_field))

-- ---- a number of words, where there are some

counted_takes : (bytes : List ℕ) (n : ℕ) (rest : List ℕ) → IsBytes bytes
    → counted_at bytes ≡ Ok (n, rest) → Takes bytes (short n) rest
    × (IsNumber n × (is_counted n ≡ true))
unfolding counted_at
counted_takes bytes n rest b e =
    let p = bind_ok (short_at bytes) (λ count. cond (eqb count.0 0) (Err Zero) (Ok count)) (n, rest)
    e in
    let g = guard_ok (eqb p.0.0 0) Zero p.0 (n, rest) p.2 in
    let t = short_field.takes bytes p.0.0 p.0.1 b p.1 in
    subst (λ (x : ℕ × List ℕ). Takes bytes (short x.0) x.1
    × (IsNumber x.0 × (is_counted x.0 ≡ true))) g.1 (t.0, (t.1, ap not g.0))

true_if_not : (b : Bool) → not b ≡ false → b ≡ true
true_if_not true e = refl
true_if_not false e = absurd cc

false_if_not : (b : Bool) → not b ≡ true → b ≡ false
false_if_not true e = absurd cc
false_if_not false e = refl

counted_again : (n : ℕ) (rest : List ℕ) → IsNumber n × (is_counted n ≡ true)
    → counted_at (short n ++ rest) ≡ Ok (n, rest)
unfolding counted_at
counted_again n rest h = rw (short_field.again n rest h.0, false_if_not (eqb n 0) h.1) refl

counted_field : IsField (λ (n : ℕ). IsNumber n × (is_counted n ≡ true)) short counted_at
counted_field = record { takes = counted_takes; again = counted_again }

has_masked : IsMasked IsNumber is_counted 0
has_masked = record {
  fits_none = omega arith;
  none_not = refl;
  only_none = λ n h e. eqb-true n 0 (true_if_not (eqb n 0) e);
}

-- ---- an offer

abbrev made : ℕ → ℕ → Offer
made first end = record { first = first; end = end }

abbrev offer_parts : List ℕ → Result ((ℕ × ℕ) × List ℕ) WireFault
offer_parts = both_at short_at byte_at

parts_field : IsField (λ x. IsNumber x.0 × IsByte x.1) (λ x. short x.0 ++ byte x.1) offer_parts
parts_field = both_field IsNumber short short_at IsByte byte byte_at short_field byte_field

abbrev made_of : (ℕ × ℕ) × List ℕ → Result (Offer × List ℕ) WireFault
made_of x = offered x.0.0 (x.0.0 + x.0.1) x.1

offer_same : (bytes : List ℕ) → offer_at bytes ≡ (offer_parts bytes >>= made_of)
unfolding offer_at
offer_same bytes = sym (simp bind_assoc)

abbrev IsMade : Offer → Type 0
IsMade o = IsOffer o × (is_offered o ≡ true)

offer_takes : (bytes : List ℕ) (o : Offer) (rest : List ℕ) → IsBytes bytes
    → offer_at bytes ≡ Ok (o, rest) → Takes bytes (offer o) rest × IsMade o
offer_takes bytes o rest b e =
    let p = bind_ok (offer_parts bytes) made_of (o, rest) (sym (offer_same bytes) ∙ e) in
    let first : ℕ = p.0.0.0 in
    let count : ℕ = p.0.0.1 in
    let t = parts_field.takes bytes p.0.0 p.0.1 b p.1 in
    let far = inner_ok (ltb (first + count) (2 ^ 32)) TooFar
    (cond (eqb (first + count) 0) (Err Zero)
    (Ok (record { first = first; end = first + count }, p.0.1))) (o, rest) p.2 in
    let g = guard_ok (eqb (first + count) 0) Zero
    (record { first = first; end = first + count }, p.0.1) (o, rest) far.1 in
    let back : first + count - first ≡ count = omega arith in
    let below = ltb-true (first + count) (2 ^ 32) far.0 in
    subst (λ (x : Offer × List ℕ). Takes bytes (offer x.0) x.1 × IsMade x.0) g.1
    (rw back t.0, ((below, (omega arith, rw back t.1.1)), ap not g.0))
  where
    inner_ok : {A : Type 0} (b : Bool) (d : WireFault) (r : Result A WireFault) (y : A)
        → cond b r (Err d) ≡ Ok y → (b ≡ true) × (r ≡ Ok y)
    inner_ok true d r y e = (refl, e)
    inner_ok false d r y e = absurd cc

offer_again : (o : Offer) (rest : List ℕ) → IsMade o → offer_at (offer o ++ rest) ≡ Ok (o, rest)
offer_again o rest h =
    let count : ℕ = o.end - o.first in
    let order : o.first ≤ o.end = h.0.1.0 in
    let end : o.first + count ≡ o.end = omega arith in
    let far : ltb o.end (2 ^ 32) ≡ true = lt-ltb o.end (2 ^ 32) h.0.0 in
    let first_fits : IsNumber o.first = omega (arith, h.0.0) in
    offer_same (offer o ++ rest)
    ∙ rw (
      parts_field.again (o.first, count) rest (first_fits, h.0.1.1),
      end,
      far,
      false_if_not (eqb o.end 0) h.1,
    ) refl

offer_field : IsField IsMade offer offer_at
offer_field = record { takes = offer_takes; again = offer_again }

offers_masked : IsMasked IsOffer is_offered no_offer
offers_masked = record {
  fits_none = (omega arith, (omega arith, omega arith));
  none_not = refl;
  only_none = λ o h e. is_none o.first o.end (eqb-true o.end 0 (true_if_not (eqb o.end 0) e)) h.1.0;
}
  where
    is_none : (first end : ℕ) → end ≡ 0 → first ≤ end → made first end ≡ no_offer
    is_none first end e l =
        let f : first ≡ 0 = omega arith in
        rw (f, e) refl

-- ---- a view

abbrev AreCounts : List ℕ → Type 0
AreCounts ns = (length ns ≡ PLAYER_LIMIT) × AllByRecursion IsNumber ns

abbrev IsView : View → Type 0
IsView v = (length v.gone ≡ MACHINE_LIMIT) × AreCounts v.has

abbrev view_parts : List ℕ → Result ((List Bool × List ℕ) × List ℕ) WireFault
view_parts = both_at mask_at (masked_at 0 counted_at)

abbrev view_of : List Bool × List ℕ → View
view_of x = record { gone = x.0; has = x.1 }

view_same : (bytes : List ℕ) → view_at bytes ≡ seen_at view_of view_parts bytes
unfolding view_at
view_same bytes = sym (simp bind_assoc)

pub view_field : IsField IsView view view_at
view_field =
    same_field IsView view view_at (seen_at view_of view_parts) view_same
    (seen_field view_of (λ v. (v.gone, v.has)) (λ x. (length x.0 ≡ MACHINE_LIMIT) × AreCounts x.1)
    (λ x. byte (mask x.0) ++ masked is_counted short x.1) view_parts (λ x. refl) (λ v. refl)
    (both_field (λ bs. length bs ≡ MACHINE_LIMIT) (λ bs. byte (mask bs)) mask_at AreCounts
    (λ ns. masked is_counted short ns) (masked_at 0 counted_at) mask_field
    (masked_field IsNumber is_counted 0 short counted_at has_masked counted_field)))

-- ---- the head

abbrev AreOffers : List Offer → Type 0
AreOffers os = (length os ≡ PLAYER_LIMIT) × AllByRecursion IsOffer os

abbrev Parts : Type 0
Parts = Option Clocks × (View × (Option Settled × List Offer))

-- all but the number
abbrev ArePlain : Parts → Type 0
ArePlain x = IfSome x.0 IsClocks × (IsView x.1.0 × (IfSome x.1.1.0 IsSettled × AreOffers x.1.1.1))

abbrev plain : Parts → List ℕ
plain x = optional clocks x.0
    ++ (view x.1.0 ++ (optional settled x.1.1.0 ++ masked is_offered offer x.1.1.1))

abbrev plain_at : List ℕ → Result (Parts × List ℕ) WireFault
plain_at = both_at (optional_at clocks_at)
    (both_at view_at (both_at (optional_at settled_at) (masked_at no_offer offer_at)))

plain_field : IsField ArePlain plain plain_at
plain_field =
    both_field (λ c. IfSome c IsClocks) (λ c. optional clocks c) (optional_at clocks_at)
    (λ x. IsView x.0 × (IfSome x.1.0 IsSettled × AreOffers x.1.1))
    (λ x. view x.0 ++ (optional settled x.1.0 ++ masked is_offered offer x.1.1))
    (both_at view_at (both_at (optional_at settled_at) (masked_at no_offer offer_at)))
    (optional_field IsClocks clocks clocks_at clocks_field)
    (both_field IsView view view_at (λ x. IfSome x.0 IsSettled × AreOffers x.1)
    (λ x. optional settled x.0 ++ masked is_offered offer x.1)
    (both_at (optional_at settled_at) (masked_at no_offer offer_at)) view_field
    (both_field (λ s. IfSome s IsSettled) (λ s. optional settled s) (optional_at settled_at)
    AreOffers (λ os. masked is_offered offer os) (masked_at no_offer offer_at)
    (optional_field IsSettled settled settled_at settled_field)
    (masked_field IsOffer is_offered no_offer offer offer_at offers_masked offer_field)))

abbrev AreParts : Head → Type 0
AreParts h = IsNumber h.number × ArePlain (h.clocks, (h.view, (h.settled, h.offers)))

abbrev head_parts : List ℕ → Result ((ℕ × Parts) × List ℕ) WireFault
head_parts = both_at short_at plain_at

abbrev head_of : ℕ × Parts → Head
head_of x = record {
  number = x.0;
  clocks = x.1.0;
  view = x.1.1.0;
  settled = x.1.1.1.0;
  offers = x.1.1.1.1;
}

head_same : (bytes : List ℕ) → head_at bytes ≡ seen_at head_of head_parts bytes
unfolding head_at
head_same bytes = sym (simp bind_assoc)

parts_of_head : IsField AreParts head head_at
parts_of_head =
    same_field AreParts head head_at (seen_at head_of head_parts) head_same
    (seen_field head_of (λ h. (h.number, (h.clocks, (h.view, (h.settled, h.offers)))))
    (λ x. IsNumber x.0 × ArePlain x.1) (λ x. short x.0 ++ plain x.1) head_parts (λ x. refl)
    (λ h. refl) (both_field IsNumber short short_at ArePlain plain plain_at short_field plain_field))

pub head_field : IsField IsHead head head_at
head_field = record {
  takes = λ bytes h rest b e.
      let t = parts_of_head.takes bytes h rest b e in (
        t.0,
        record {
          number = t.1.0;
          clocks = t.1.1.0;
          gone = t.1.1.1.0.0;
          has = t.1.1.1.0.1;
          settled = t.1.1.1.1.0;
          offers = t.1.1.1.1.1;
        },
      );
  again = λ h rest f.
      parts_of_head.again h rest (f.number, (f.clocks, ((f.gone, f.has), (f.settled, f.offers))));
}

-- ---- marks

module _ {A : Type 0} (fits : A → Type 0) (text : A → List ℕ)
    (read : List ℕ → Result (A × List ℕ) WireFault) (f : IsField fits text read) where
  within_takes : (bytes : List ℕ) (x : Option A) (rest : List ℕ) → IsBytes bytes
      → within_at read bytes ≡ Ok (x, rest) → Takes bytes (within text x) rest
      × (IfSome x fits × (is_some x ≡ true))
  unfolding within_at
  within_takes bytes x rest b e =
      let p = bind_ok (read bytes) (λ y. Ok (Some y.0, y.1)) (x, rest) e in
      let t = f.takes bytes p.0.0 p.0.1 b p.1 in
      subst (λ (y : Option A × List ℕ). Takes bytes (within text y.0) y.1
      × (IfSome y.0 fits × (is_some y.0 ≡ true))) (ok_is (Some p.0.0, p.0.1) (x, rest) p.2)
      (t.0, (t.1, refl))

  within_again : (x : Option A) (rest : List ℕ) → IfSome x fits × (is_some x ≡ true)
      → within_at read (within text x ++ rest) ≡ Ok (x, rest)
  unfolding within_at
  within_again None rest h = absurd cc
  within_again (Some x) rest h = rw (f.again x rest h.0) refl

  within_field : IsField (λ (x : Option A). IfSome x fits × (is_some x ≡ true)) (within text)
      (within_at read)
  within_field = record { takes = within_takes; again = within_again }

  is_nothing : (x : Option A) → is_some x ≡ false → x ≡ None
  is_nothing None e = refl
  is_nothing (Some x) e = absurd cc

  within_masked : IsMasked (λ (x : Option A). IfSome x fits) is_some None
  within_masked = record {
    fits_none = tt;
    none_not = refl;
    only_none = λ x h e. is_nothing x e;
  }

  -- of each place what is there, if something is
  pub places_field : IsField (λ (xs : List (Option A)). (length xs ≡ 8)
      × AllByRecursion (λ x. IfSome x fits) xs) (λ (xs : List (Option A)). masked is_some (within text) xs)
      (masked_at None (within_at read))
  places_field = masked_field (λ (x : Option A). IfSome x fits) is_some None (within text)
      (within_at read) within_masked within_field

none_set : (bs : List Bool) → list_any (λ b. b) bs ≡ false → mask bs ≡ 0
unfolding mask
none_set [] e = refl
none_set (true ∷ bs) e = absurd cc
none_set (false ∷ bs) e = rw (none_set bs e) refl

abbrev coming : List Bool → ℕ × List ℕ → Result (Option Newcomer × List ℕ) WireFault
coming players ticket = Ok (Some (record { players = players; ticket = ticket.0 }), ticket.1)

abbrev comes : Bool → List Bool → List ℕ → Result (Option Newcomer × List ℕ) WireFault
comes any players then = cond any (number_at w64 then >>= coming players) (Ok (None, then))

abbrev Comes : List ℕ → Option Newcomer × List ℕ → Type 0
Comes bytes x = Takes bytes (newcomer x.0) x.1 × IfSome x.0 IsNewcomer

comes_takes : (bytes : List ℕ) (players : List Bool) (then : List ℕ) (x : Option Newcomer × List ℕ)
    (any : Bool) → list_any (λ b. b) players ≡ any → Takes bytes (byte (mask players)) then
    → length players ≡ 8 → comes any players then ≡ Ok x → Comes bytes x
comes_takes bytes players then x true some t len e =
    let q = bind_ok (number_at w64 then) (coming players) x e in
    let u = long_field.takes then q.0.0 q.0.1 t.rest_fits q.1 in
    let who : Newcomer = record { players = players; ticket = q.0.0 } in
    subst (Comes bytes) (ok_is (Some who, q.0.1) x q.2)
    (Takes-then bytes (byte (mask players)) then (long q.0.0) q.0.1 t u.0, ((len, some), u.1))
comes_takes bytes players then x false none t len e =
    subst (Comes bytes) (ok_is (None, then) x e)
    (subst (λ (n : ℕ). Takes bytes (byte n) then) (none_set players none) t, tt)

newcomer_takes : (bytes : List ℕ) (o : Option Newcomer) (rest : List ℕ) → IsBytes bytes
    → newcomer_at bytes ≡ Ok (o, rest) → Takes bytes (newcomer o) rest × IfSome o IsNewcomer
unfolding newcomer_at
newcomer_takes bytes o rest b e =
    let p = bind_ok (mask_at bytes) (λ m. comes (list_any (λ b. b) m.0) m.0 m.1) (o, rest) e in
    let t = mask_field.takes bytes p.0.0 p.0.1 b p.1 in
    comes_takes bytes p.0.0 p.0.1 (o, rest) (list_any (λ b. b) p.0.0) refl t.0 t.1 p.2

nobody_again : (rest : List ℕ) → newcomer_at (newcomer None ++ rest) ≡ Ok (None, rest)
unfolding newcomer_at mask_at byte_at bits
nobody_again rest = refl

newcomer_again : (o : Option Newcomer) (rest : List ℕ) → IfSome o IsNewcomer
    → newcomer_at (newcomer o ++ rest) ≡ Ok (o, rest)
unfolding newcomer_at
newcomer_again None rest h = nobody_again rest
newcomer_again (Some n) rest h =
    rw (
      mask_field.again n.players (long n.ticket ++ rest) h.0.0,
      h.0.1,
      long_field.again n.ticket rest h.1,
    ) refl

newcomer_field : IsField (λ (o : Option Newcomer). IfSome o IsNewcomer) newcomer newcomer_at
newcomer_field = record { takes = newcomer_takes; again = newcomer_again }

abbrev AreDelays : List (Option ℕ) → Type 0
AreDelays ds = (length ds ≡ PLAYER_LIMIT) × AllByRecursion (λ d. IfSome d IsByte) ds

abbrev delays_at : List ℕ → Result (List (Option ℕ) × List ℕ) WireFault
delays_at = masked_at None (within_at byte_at)

abbrev mark_parts : List ℕ → Result ((Option Newcomer × (List (Option ℕ) × ℕ)) × List ℕ) WireFault
mark_parts = both_at newcomer_at (both_at delays_at byte_at)

abbrev mark_of : Option Newcomer × (List (Option ℕ) × ℕ) → Mark
mark_of x = record { newcomer = x.0; delays = x.1.0; threshold = x.1.1 }

mark_same : (bytes : List ℕ) → mark_at bytes ≡ seen_at mark_of mark_parts bytes
unfolding mark_at
mark_same bytes = sym (simp bind_assoc)

mark_field : IsField IsMark mark mark_at
mark_field =
    same_field IsMark mark mark_at (seen_at mark_of mark_parts) mark_same
    (seen_field mark_of (λ m. (m.newcomer, (m.delays, m.threshold)))
    (λ x. IfSome x.0 IsNewcomer × (AreDelays x.1.0 × IsByte x.1.1))
    (λ x. newcomer x.0 ++ (masked is_some (within byte) x.1.0 ++ byte x.1.1)) mark_parts
    (λ x. refl) (λ m. refl)
    (both_field (λ o. IfSome o IsNewcomer) newcomer newcomer_at (λ x. AreDelays x.0 × IsByte x.1)
    (λ x. masked is_some (within byte) x.0 ++ byte x.1) (both_at delays_at byte_at) newcomer_field
    (both_field AreDelays (λ ds. masked is_some (within byte) ds) delays_at IsByte byte byte_at
    (places_field IsByte byte byte_at byte_field) byte_field)))

abbrev marked_parts : List ℕ → Result ((ℕ × Mark) × List ℕ) WireFault
marked_parts = both_at short_at mark_at

abbrev marked_of : ℕ × Mark → Marked
marked_of x = record { frame = x.0; mark = x.1 }

marked_same : (bytes : List ℕ) → marked_at bytes ≡ seen_at marked_of marked_parts bytes
unfolding marked_at
marked_same bytes = sym (simp bind_assoc)

marked_field : IsField IsMarked marked marked_at
marked_field =
    same_field IsMarked marked marked_at (seen_at marked_of marked_parts) marked_same
    (seen_field marked_of (λ m. (m.frame, m.mark)) (λ x. IsNumber x.0 × IsMark x.1)
    (λ x. short x.0 ++ mark x.1) marked_parts (λ x. refl) (λ m. refl)
    (both_field IsNumber short short_at IsMark mark mark_at short_field mark_field))

pub marks_field : IsField (λ (ms : List (Option Marked)). (length ms ≡ PLAYER_LIMIT)
    × AllByRecursion (λ m. IfSome m IsMarked) ms) marks (masked_at None (within_at marked_at))
marks_field = places_field IsMarked marked marked_at marked_field
