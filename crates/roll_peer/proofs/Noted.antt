-- What becomes of the mark of a player as a turn is heard, and of the words that there are.
use Rattle.std.proofs.Common.{◌≡◌, ◌∙◌, ◌⊎◌, ◌≢◌, ℕ, ◌<◌, ◌≤◌, List, length, get_or, max, refl, ap, sym, subst, arith, Bool, true, false, inl, inr, eq-eqb, Option, Some, None}
use Rattle.std.specs.Option.{option_or}
use Rattle.std.specs.Prelude.{◌==◌, ◌&&◌, if◌then◌else◌, is_none, nat_le, nat_lt, slice_index, slice_index_or}
use Rattle.std.proofs.Math.ListN.{get_or-map}
use Rattle.std.proofs.lemmas.Bool.{cases_eq, cases_lt, le-leb, le-ltb, leb-true, lt-ltb, ltb-true, ne_eqb}
use Rattle.std.proofs.lemmas.List.{get_or_past}
use Rattle.std.proofs.lemmas.List.FromFn.{length-map-range_with_len}
use Rattle.roll_mesh.proofs.Changes.{none_some, some_same}
use Rattle.roll_mesh.proofs.Places.{at_place, past_places}
use Rattle.roll_mesh.proofs.Trimmed.{trimmed_at, trimmed_end}
use Rattle.roll_mesh.specs.declared.limits.TheConstants.{PLAYER_LIMIT}
use Rattle.roll_mesh.specs.declared.machine.Machine.{Machine}
use Rattle.roll_mesh.specs.declared.packet.Offer.{Offer}
use Rattle.roll_mesh.specs.declared.packet.Packet.{Packet}
use Rattle.roll_mesh.specs.declared.seat.Seat.{Seat}
use Rattle.roll_mesh.specs.Machines.{at_places, gone_after, has_after, hear, is_believed, is_fenced, kept_offer, left_at, none_offered, offer_at, shortened, taken, trimmed}
use Rattle.roll_member.specs.Beside.{Membership}
use Rattle.roll_wire.specs.Spelling.{Turn}
use Rattle.roll_wire.specs.declared.datagram.Mark.{Mark}
use Rattle.roll_wire.specs.declared.datagram.Marked.{Marked}
use Rattle.roll_peer.specs.MarkLaws.{has_of, mark_for}
use Rattle.roll_peer.specs.Marks.{if_offered, if_offered_or_there, if_there, kept_at, mark_at, offered_at, offered_marks, told_at, told_mark, told_marks, unless_there}
use Rattle.roll_peer.specs.Peered.{Peered}
use Rattle.roll_peer.specs.Receiving.{marks_after, marks_told}
use Rattle.roll_peer.proofs.Marked.{each_at}

-- ---- the words of one mark

pub mark_other : (m : Marked) (frame : ℕ) → m.frame ≢ frame → mark_for (Some m) frame ≡ None
mark_other m frame apart = rw (ne_eqb m.frame frame apart) refl

pub mark_here : (m : Marked) → mark_for (Some m) m.frame ≡ Some m.mark
mark_here m = rw (eq-eqb m.frame m.frame refl) refl

-- of one word at most
only_one : (known : Option Marked) (f g : ℕ) (mark : Mark) → mark_for known f ≡ Some mark → f ≢ g → mark_for known g ≡ None
only_one None f g mark e apart = refl
only_one (Some m) f g mark e apart = go (cases_eq m.frame f)
  where
    go : (m.frame ≡ f) ⊎ (m.frame ≡ f → ⊥) → mark_for (Some m) g ≡ None
    go (inl same) = mark_other m g (λ h. apart (sym same ∙ h))
    go (inr not) = absurd (none_some mark (sym (mark_other m f not) ∙ e))

-- ---- a turn is heard

-- the mark that is known after a turn that told one, where there were so many words and then so many
abbrev pub noted : (old told : Option Marked) → (has later : ℕ) → Option Marked
noted old told has later = option_or old (if_there later (option_or old (unless_there has told)))

pub noted_is : (old : Peered) (member : Membership) (t : Turn) (p : ℕ) → p < PLAYER_LIMIT
    → mark_at (marks_after old member t) p
    ≡ noted (mark_at old.marks p) (mark_at (offered_marks t.head.offers t.marks) p) (has_of old p)
    (slice_index member.mesh.machine.has p)
noted_is old member t p l =
    each_at (kept_at member.mesh.machine.has old.marks (marks_told old t)) p l
    ∙ ap (λ o. option_or (mark_at old.marks p) (if_there (slice_index member.mesh.machine.has p) o))
    (each_at (told_at old.member.mesh.machine.has old.marks (offered_marks t.head.offers t.marks)) p l)

pub noted_many : (old : Peered) (member : Membership) (t : Turn) → length (marks_after old member t) ≡ PLAYER_LIMIT
noted_many old member t =
    length-map-range_with_len (kept_at member.mesh.machine.has old.marks (marks_told old t)) 0 PLAYER_LIMIT

-- of words that were there nothing new is known
pub noted_early : (old told : Option Marked) (has later f : ℕ) → f < has
    → mark_for (noted old told has later) f ≡ mark_for old f
noted_early (Some m) told has later f l = refl
noted_early None None has later f l = refl
noted_early None (Some n) has later f l = go (cases_lt n.frame has)
  where
    either : (b : Bool) → n.frame ≢ f → mark_for (option_or None (if b then Some n else None)) f ≡ None
    either true apart = mark_other n f apart
    either false apart = refl

    go : (n.frame < has) ⊎ (has ≤ n.frame) → mark_for (noted None (Some n) has later) f ≡ None
    go (inl early) = rw (lt-ltb n.frame has early) refl
    go (inr late) = rw (le-ltb n.frame has late) (either (nat_lt n.frame later) (λ e. omega (arith, e, l, late)))

-- of new ones what was told, if nothing was known
noted_new : (told : Option Marked) (has later f : ℕ) → has ≤ f → f < later
    → mark_for (noted None told has later) f ≡ mark_for told f
noted_new None has later f low l = refl
noted_new (Some n) has later f low l = go (cases_lt n.frame has) (cases_lt n.frame later)
  where
    go : (n.frame < has) ⊎ (has ≤ n.frame) → (n.frame < later) ⊎ (later ≤ n.frame)
        → mark_for (noted None (Some n) has later) f ≡ mark_for (Some n) f
    go (inl early) c = rw (lt-ltb n.frame has early) (sym (mark_other n f (λ e. omega (arith, e, early, low))))
    go (inr late) (inl there) = rw (le-ltb n.frame has late, lt-ltb n.frame later there) refl
    go (inr late) (inr past) =
        rw (le-ltb n.frame has late, le-ltb n.frame later past)
        (sym (mark_other n f (λ e. omega (arith, e, past, l))))

there_before : (told : Option Marked) (later : ℕ) (m : Marked) → if_there later told ≡ Some m → m.frame < later
there_before None later m e = absurd (none_some m e)
there_before (Some n) later m e = go (nat_lt n.frame later) refl e
  where
    go : (b : Bool) → nat_lt n.frame later ≡ b → (if b then Some n else None) ≡ Some m → m.frame < later
    go true lt e = omega (arith, ltb-true n.frame later lt, ap (λ (x : Marked). x.frame) (some_same n m e))
    go false lt e = absurd (none_some m e)

-- its word is there
pub noted_there : (old told : Option Marked) (has later : ℕ) (m : Marked) → noted old told has later ≡ Some m
    → (old ≡ Some m → m.frame < has) → has ≤ later → m.frame < later
noted_there (Some n) told has later m e was more = omega (arith, was e, more)
noted_there None told has later m e was more = there_before (unless_there has told) later m e

-- who knows the marks that another knows, and is told them, still does
pub noted_alike : (old told other : Option Marked) (has later f : ℕ)
    → ((g : ℕ) → g < has → mark_for old g ≡ mark_for other g)
    → ((m : Marked) → old ≡ Some m → m.frame < has)
    → (has ≤ f → mark_for told f ≡ mark_for other f)
    → f < later → mark_for (noted old told has later) f ≡ mark_for other f
noted_alike old told other has later f same there new l = go old (cases_lt f has) refl
  where
    go : (o : Option Marked) → (f < has) ⊎ (has ≤ f) → old ≡ o → mark_for (noted old told has later) f ≡ mark_for other f
    go o (inl early) e = noted_early old told has later f early ∙ same f early
    go None (inr late) e =
        ap (λ o. mark_for (noted o told has later) f) e ∙ noted_new told has later f late l ∙ new late
    go (Some m) (inr late) e =
        let apart : m.frame ≢ f = λ h. omega (arith, h, there m e, late) in
        ap (λ o. mark_for (noted o told has later) f) e ∙ mark_other m f apart
        ∙ sym (only_one other m.frame f m.mark
        (sym (same m.frame (there m e)) ∙ ap (λ o. mark_for o m.frame) e ∙ mark_here m) apart)

-- ---- an offer

abbrev pub IsIn : Offer → ℕ → Type 0
IsIn offer frame = (offer.first ≤ frame) × (frame < offer.end)

-- the mark of a word that is offered is told
told_as_known : (offer : Offer) (known : Option Marked) (f : ℕ) → IsIn offer f
    → mark_for (if_offered offer known) f ≡ mark_for known f
told_as_known offer None f inside = refl
told_as_known offer (Some m) f inside = go (cases_eq m.frame f)
  where
    either : (b : Bool) → m.frame ≢ f → mark_for (if b then Some m else None) f ≡ None
    either true apart = mark_other m f apart
    either false apart = refl

    go : (m.frame ≡ f) ⊎ (m.frame ≡ f → ⊥) → mark_for (if_offered offer (Some m)) f ≡ mark_for (Some m) f
    go (inl same) =
        rw (le-leb offer.first m.frame (omega (arith, same, inside.0)), lt-ltb m.frame offer.end (omega (arith, same, inside.1)))
        refl
    go (inr apart) =
        either (nat_le offer.first m.frame && nat_lt m.frame offer.end) apart ∙ sym (mark_other m f apart)

pub offered_alike : (offers : List Offer) (known : List (Option Marked)) (p f : ℕ) → p < PLAYER_LIMIT
    → IsIn (slice_index_or offers p none_offered) f
    → mark_for (mark_at (offered_marks offers known) p) f ≡ mark_for (mark_at known p) f
offered_alike offers known p f l inside =
    ap (λ o. mark_for o f) (each_at (offered_at offers known) p l)
    ∙ told_as_known (slice_index_or offers p none_offered) (mark_at known p) f inside

-- and still is if all are that are there
told_or_there : (offer : Offer) (count : ℕ) (known : Option Marked) (f : ℕ) → IsIn offer f
    → mark_for (if_offered_or_there offer count known) f ≡ mark_for known f
told_or_there offer count None f inside = refl
told_or_there offer count (Some m) f inside =
    either (nat_le offer.first m.frame && nat_lt m.frame offer.end) (told_as_known offer (Some m) f inside)
  where
    there : (b : Bool) → mark_for None f ≡ mark_for (Some m) f → mark_for (if b then Some m else None) f ≡ mark_for (Some m) f
    there true e = refl
    there false e = e

    either : (b : Bool) → mark_for (if b then Some m else None) f ≡ mark_for (Some m) f
        → mark_for (option_or (if b then Some m else None) (if_there count (Some m))) f ≡ mark_for (Some m) f
    either true e = refl
    either false e = there (nat_lt m.frame count) e

pub told_alike : (offers : List Offer) (has : List ℕ) (known : List (Option Marked)) (p f : ℕ) → p < PLAYER_LIMIT
    → IsIn (slice_index_or offers p none_offered) f
    → mark_for (mark_at (told_marks offers has known) p) f ≡ mark_for (mark_at known p) f
told_alike offers has known p f l inside =
    ap (λ o. mark_for o f) (each_at (told_mark offers has known) p l)
    ∙ told_or_there (slice_index_or offers p none_offered) (slice_index has p) (mark_at known p) f inside

kept_in : (offer : Offer) (f : ℕ) → IsIn (kept_offer offer) f → IsIn offer f
kept_in offer f = go (offer.first == offer.end)
  where
    go : (b : Bool) → IsIn (if b then none_offered else offer) f → IsIn offer f
    go true inside = absurd (omega (arith, inside.1))
    go false inside = inside

pub shortened_in : (packet : Packet) (p f : ℕ) → IsIn (offer_at (shortened packet) p) f → IsIn (offer_at packet p) f
shortened_in packet p f inside =
    let at : offer_at (shortened packet) p ≡ kept_offer (offer_at packet p) =
    get_or-map kept_offer packet.offers p none_offered in
    kept_in (offer_at packet p) f (subst (λ (o : Offer). IsIn o f) at inside)

-- ---- the words that there are once a packet was heard

-- as many as before, or words of an offer that begins among those that there were
abbrev GoesOn : Offer → ℕ → ℕ → Type 0
GoesOn offer old new = (new ≡ old) ⊎ ((offer.first ≤ old) × (old ≤ new) × (new ≤ offer.end))

count_goes_on : (offer : Offer) (has : ℕ) (b : Bool)
    → GoesOn offer has (if b && nat_le offer.first has then max has offer.end else has)
count_goes_on offer has false = inl refl
count_goes_on offer has true = go (nat_le offer.first has) refl (cases_lt has offer.end)
  where
    go : (b : Bool) → nat_le offer.first has ≡ b → (has < offer.end) ⊎ (offer.end ≤ has)
        → GoesOn offer has (if b then max has offer.end else has)
    go false e c = inl refl
    go true e (inl more) = inr (leb-true offer.first has e, omega arith, omega (arith, more))
    go true e (inr few) = inl (omega (arith, few))

taken_goes_on : (seat : Seat) (packet : Packet) (machine : Machine) (p : ℕ)
    → GoesOn (offer_at packet p) (slice_index machine.has p) (slice_index (taken seat packet machine).has p)
unfolding taken has_after
taken_goes_on seat packet machine p = go (cases_lt p (length machine.has))
  where
    after : ℕ → ℕ
    after = has_after seat (gone_after seat machine packet) machine packet

    go : (p < length machine.has) ⊎ (length machine.has ≤ p)
        → GoesOn (offer_at packet p) (slice_index machine.has p)
        (get_or (at_places (has_after seat (gone_after seat machine packet) machine packet) machine.has) p 0)
    go (inl l) =
        rw (at_place after machine.has p 0 l)
        (count_goes_on (offer_at packet p) (slice_index machine.has p)
        (is_none (left_at machine p) && is_believed seat (gone_after seat machine packet) packet p))
    go (inr g) = rw (past_places after machine.has p 0 g, get_or_past machine.has p 0 g) (inl refl)

hear_goes_on : (seat : Seat) (packet : Packet) (machine : Machine) (p : ℕ)
    → GoesOn (offer_at packet p) (slice_index machine.has p) (slice_index (hear seat packet machine).has p)
hear_goes_on seat packet machine p = go (is_fenced seat machine packet.sender)
  where
    go : (b : Bool) → GoesOn (offer_at packet p) (slice_index machine.has p)
        (slice_index (if b then machine else taken seat packet machine).has p)
    go true = inl refl
    go false = taken_goes_on seat packet machine p

module _ (seat : Seat) (most : List ℕ) (packet : Packet) (machine : Machine) (p : ℕ) where
  abbrev pub later : ℕ
  later = slice_index (hear seat (trimmed most packet) machine).has p

  pub heard_more : slice_index machine.has p ≤ later
  heard_more = go (hear_goes_on seat (trimmed most packet) machine p)
    where
      go : GoesOn (offer_at (trimmed most packet) p) (slice_index machine.has p) later → slice_index machine.has p ≤ later
      go (inl e) = omega (arith, e)
      go (inr g) = g.1

  -- new words were offered
  pub heard_in : (f : ℕ) → slice_index machine.has p ≤ f → f < later → IsIn (offer_at packet p) f
  heard_in f low l = go (hear_goes_on seat (trimmed most packet) machine p)
    where
      go : GoesOn (offer_at (trimmed most packet) p) (slice_index machine.has p) later → IsIn (offer_at packet p) f
      go (inl e) = absurd (omega (arith, e, low, l))
      go (inr g) = (
        omega (arith, g.0, low, ap (λ (o : Offer). o.first) (trimmed_at most packet p)),
        omega (arith, l, g.2, trimmed_end most packet p),
      )
