-- What keeps a session tied to its mesh.
use Rattle.std.proofs.Common.{◌≡◌, ◌∙◌, ◌⊎◌, ℕ, ◌+◌, ◌<◌, ◌≤◌, List, [], ◌∷◌, ◌++◌, drop, take, append-nil, cond, length-append, arith, length, refl, ap, sym, subst, Bool, true, false, Option, Some, None, Result, Ok, Err, inl, inr}
use Rattle.std.specs.Prelude.{is_none, is_some, not, nat_lt, ◌-◌, ◌||◌, OnOk, OnErr, max, nat_le, slice_index, slice_index_or, slice_set, ◌==◌, ◌&&◌, if◌then◌else◌}
use Rattle.roll_frame.specs.Inputs.{local_tests, of_player, player_at, with_given}
use Rattle.roll_frame.specs.Timeline.{Player}
use Rattle.roll_session.specs.Changes.{after_local, local_refusal}
use Rattle.roll_member.specs.Leaving.{DisconnectsAll}
use Rattle.roll_member.specs.declared.leaving.Left.{Left}
use Rattle.roll_member.proofs.Players.{length_changed, test_changed, words_changed}
use Rattle.std.specs.Bool.{beq}
use Rattle.roll_member.specs.declared.join.JoinRefusal.TheVariants.{InvalidSeat, Players, Started}
use Rattle.roll_mesh.specs.declared.limits.TheConstants.{INPUT_LIMIT, MACHINE_LIMIT, PLAYER_LIMIT}
use Rattle.roll_mesh.specs.declared.machine.Machine.{Machine}
use Rattle.roll_mesh.specs.declared.packet.Packet.{Packet}
use Rattle.roll_mesh.specs.declared.seat.Seat.{Seat}
use Rattle.roll_mesh.specs.Words.{give_word, hear_words, joined_words, with_machine, Holder}
use Rattle.roll_member.proofs.Holding.{same_places, taken_between}
use Rattle.roll_mesh.specs.Groups.{are_grouped, first_of, is_even, AreAlike, AreToldAlike}
use Rattle.roll_mesh.specs.Machines.{at_places, none_offered, give, gone_after, has_after, hear, is_believed, is_in, is_fenced, is_orphan, leave, left, left_after, left_at, may_leave, offer_at, owner_of, taken, told_by, trimmed}
use Rattle.roll_mesh.specs.Meshes.{heard_as, hear_refusal, is_had, is_seat, stepped, Seated}
use Rattle.roll_mesh.specs.declared.refusal.MeshRefusal.{MeshRefusal}
use Rattle.roll_mesh.specs.declared.refusal.MeshRefusal.TheVariants.{InvalidMachine, OwnMachine, MachineGone, Overstated, Uneven}
use Rattle.roll_mesh.proofs.Changes.{give_changes, gone_not_self, hear_changes, leave_changes, leave_has, none_some, left_changes, left_has, Change, Leaves}
use Rattle.roll_mesh.specs.Worlds.{first_machine, Match}
use Rattle.roll_member.proofs.Partings.{gone_only, locals_stay, many_stay, words_stay}
use Rattle.std.proofs.lemmas.List.FromFn.{get_or-map-range_with_len}
use Rattle.std.proofs.lemmas.Bool.{and_parts, cases_Bool, cases_eq, cases_lt, leb-true, lt-leb, eq-eqb, eqb-true, false≢true, ne_eqb, not-false, not-true}
use Rattle.std.proofs.lemmas.List.{length-drop, length-set, length-take, take_all, length-replicate, get_or-replicate, get_or_past, get_or-set_other, get_or-set_same}
use Rattle.roll_frame.proofs.Refused.{all_fail}
use Rattle.roll_frame.specs.declared.refusal.Refusal.TheVariants.{LogFull}
use Rattle.roll_inputs.proofs.Players.{found, is_at, IsAt}
use Rattle.roll_mesh.proofs.Places.{all_below, at_place, filled, length_places}
use Rattle.roll_mesh.proofs.Groups.{alone_alike, first_below, left_alike, owners_alike, views_alike}
use Rattle.roll_mesh.proofs.Trimmed.{heard_even, trimmed_even, trimmed_heard}
use Rattle.roll_session.specs.Headline.{words_of}
use Rattle.roll_session.specs.Seen.{Seen, Step}
use Rattle.roll_member.specs.Joined.{count_of, held, known, words_known, are_fresh, are_seated, is_fresh_at, is_gone_at, is_local_at, is_seated_at, join_refusal, AreCounts, IsTied, IsTiedAt, IsWhole}
use Rattle.roll_member.specs.Beside.{caught_up, IsSteady}
use Rattle.roll_member.specs.Taking.{counted_to, are_full, news_at, up_to, Hearing, IsFair, KeepsPlayers, TakesAll}
use Rattle.roll_member.proofs.Known.{known_alike, known_alone, known_other, known_stays}
use Rattle.roll_member.proofs.Taking.{fed, keeps_none, news_length, IsFed}
use Rattle.roll_frame.specs.declared.refusal.Refusal.{Refusal}

-- the match of a seat
abbrev pub match_of : Seat → Match
match_of seat = record { owners = seat.owners; machines = seat.machines; words = seat.words }

-- a step that keeps the players, and whom has left
pub tied_after : (old new : Seen) (mesh after : Seated) → IsTied old mesh → KeepsPlayers old new
    → is_in after.machine.gone after.seat.me ≡ false
    → length after.machine.has ≡ PLAYER_LIMIT → AreCounts new after.seat after.machine.has
    → after.seat ≡ mesh.seat → IsWhole after
    → after.machine.left ≡ mesh.machine.left
    → ((p n : ℕ) → p < PLAYER_LIMIT → left_at mesh.machine p ≡ Some n
    → slice_index after.machine.has p ≡ slice_index mesh.machine.has p) → IsTied new after
tied_after old new mesh after tied players here sized counts seat whole left keeps = record {
  here = here;
  sized = sized;
  whole = whole;
  players = λ p lt.
      let t = tied.players p lt in
      let at : left_at after.machine p ≡ left_at mesh.machine p = ap (λ l. left_at (record mesh.machine { left = l }) p) left in
      record {
        count = counts p lt;
        there = ap (λ n. nat_lt p n) players.many ∙ t.there
            ∙ ap (λ s. nat_lt (owner_of s p) s.machines) (sym seat);
        own = players.local (p + 1) ∙ t.own ∙ ap (λ s. owner_of s p == s.me) (sym seat);
        gone = λ h. ap (λ o. is_some o) at ∙ t.gone (sym (players.gone (p + 1)) ∙ h);
        stays = λ n h. let was = sym at ∙ h in keeps p n lt was ∙ t.stays n was;
        remote = λ h. players.local (p + 1) ∙ t.remote (sym (ap (λ o. is_some o) at) ∙ h);
      };
}

pub hear_left : (seat : Seat) (packet : Packet) (machine : Machine)
    → (hear seat packet machine).left ≡ machine.left
unfolding taken
hear_left seat packet machine = go (is_fenced seat machine packet.sender)
  where
    go : (b : Bool) → (if b then machine else taken seat packet machine).left ≡ machine.left
    go true = refl
    go false = refl

-- no words are taken of who has left
pub taken_left : (seat : Seat) (packet : Packet) (machine : Machine) (p n : ℕ)
    → p < length machine.has → left_at machine p ≡ Some n
    → slice_index (taken seat packet machine).has p ≡ slice_index machine.has p
unfolding taken has_after
taken_left seat packet machine p n lt h =
    at_place (has_after seat (gone_after seat machine packet) machine packet) machine.has p 0 lt
    ∙ rw h refl

-- no words are taken that begin later than with the next one
pub taken_late : (seat : Seat) (packet : Packet) (machine : Machine) (p : ℕ)
    → p < length machine.has → slice_index machine.has p < (offer_at packet p).first
    → slice_index (taken seat packet machine).has p ≡ slice_index machine.has p
unfolding taken has_after
taken_late seat packet machine p l less =
    at_place (has_after seat (gone_after seat machine packet) machine packet) machine.has p 0 l
    ∙ rw (lt-leb (offer_at packet p).first (slice_index machine.has p) less)
    (none (is_none (left_at machine p)) (is_believed seat (gone_after seat machine packet) packet p)
    (max (slice_index machine.has p) (offer_at packet p).end) (slice_index machine.has p))
  where
    none : (a b : Bool) (x y : ℕ) → (if a && b && false then x else y) ≡ y
    none true true x y = refl
    none true false x y = refl
    none false b x y = refl

-- hearing takes no word away
pub taken_up : (seat : Seat) (packet : Packet) (machine : Machine) (p : ℕ)
    → p < length machine.has
    → slice_index machine.has p ≤ slice_index (taken seat packet machine).has p
unfolding taken has_after
taken_up seat packet machine p lt =
    let has = slice_index machine.has p in
    let end = (offer_at packet p).end in
    let gone = gone_after seat machine packet in
    rw (at_place (has_after seat gone machine packet) machine.has p 0 lt)
    (go (is_none (left_at machine p) && is_believed seat gone packet p
    && nat_le (offer_at packet p).first has) has end)
  where
    go : (b : Bool) (has end : ℕ) → has ≤ (if b then max has end else has)
    go true has end = omega arith
    go false has end = omega arith

-- a packet that isn't refused is another machine's
sent_by_other : (mesh : Seated) (packet : Packet) → hear_refusal mesh packet ≡ None
    → (packet.sender == mesh.seat.me) ≡ false
sent_by_other mesh packet h = go (nat_le mesh.seat.machines packet.sender)
    (packet.sender == mesh.seat.me) (is_in mesh.machine.gone packet.sender) (is_had packet)
    (is_even mesh.seat packet) h
  where
    go : (a b c d f : Bool) → (if a then Some InvalidMachine else
        (if b then Some OwnMachine else (if c then Some MachineGone else
        (if not d then Some Overstated else (if f then None else Some Uneven))))) ≡ None → b ≡ false
    go false false c d f n = refl
    go false true c d f n = absurd (none_some OwnMachine (sym n))
    go true b c d f n = absurd (none_some InvalidMachine (sym n))

-- no words are taken of one's own
pub taken_own : (mesh : Seated) (packet : Packet) (p : ℕ) → p < length mesh.machine.has
    → is_in mesh.machine.gone mesh.seat.me ≡ false → hear_refusal mesh packet ≡ None
    → (owner_of mesh.seat p == mesh.seat.me) ≡ true
    → slice_index (taken mesh.seat packet mesh.machine).has p ≡ slice_index mesh.machine.has p
unfolding taken has_after is_believed
taken_own mesh packet p lt here fine mine =
    let seat : Seat = mesh.seat in
    let machine : Machine = mesh.machine in
    let gone : List Bool = gone_after seat machine packet in
    let me : owner_of seat p ≡ seat.me = eqb-true (owner_of seat p) seat.me mine in
    let still : is_in gone (owner_of seat p) ≡ false =
    ap (is_in gone) me ∙ gone_not_self (match_of seat) seat.me packet machine here in
    let other : (owner_of seat p == packet.sender) ≡ false =
    ne_eqb (owner_of seat p) packet.sender (λ e. false≢true (sym (sent_by_other mesh packet fine)
    ∙ eq-eqb packet.sender seat.me (sym e ∙ me))) in
    at_place (has_after seat gone machine packet) machine.has p 0 lt
    ∙ rw (other, still) (none (is_none (left_at machine p)) (is_orphan seat packet.view.gone p)
    (nat_le (offer_at packet p).first (slice_index machine.has p))
    (max (slice_index machine.has p) (offer_at packet p).end) (slice_index machine.has p))
  where
    none : (a b c : Bool) (x y : ℕ) → (if a && (false || (false && b)) && c then x else y) ≡ y
    none true b c x y = refl
    none false b c x y = refl

-- ---- what is alike of all words of an input

pub whole_with : (mesh : Seated) (has : List ℕ) → IsWhole mesh → AreAlike mesh.seat.words (slice_index has)
    → IsWhole (record mesh { machine = record mesh.machine { has = has } })
whole_with mesh has whole alike = record {
  word = whole.word;
  few = whole.few;
  grouped = whole.grouped;
  counts = alike;
  views = whole.views;
  parts = whole.parts;
  places = whole.places;
}

whole_heard : (mesh : Seated) (packet : Packet) → IsWhole mesh → is_even mesh.seat packet ≡ true
    → AreAlike mesh.seat.words (slice_index (hear mesh.seat packet mesh.machine).has)
    → IsWhole (stepped (λ seat machine. hear seat packet machine) mesh)
whole_heard mesh packet whole even alike = record {
  word = whole.word;
  few = whole.few;
  grouped = whole.grouped;
  counts = alike;
  views = go (is_fenced mesh.seat mesh.machine packet.sender);
  parts = λ p lt. at p ∙ (whole.parts p lt ∙ sym (at (first_of mesh.seat.words p)));
  places = ap (λ (l : List (Option ℕ)). length l) (hear_left mesh.seat packet mesh.machine) ∙ whole.places;
}
  where
    at : (p : ℕ) → left_at (hear mesh.seat packet mesh.machine) p ≡ left_at mesh.machine p
    at p = ap (λ l. left_at (record mesh.machine { left = l }) p) (hear_left mesh.seat packet mesh.machine)

    go : (b : Bool) → AreToldAlike mesh.seat.words
        (if b then mesh.machine else taken mesh.seat packet mesh.machine)
    go true = whole.views
    go false = views_alike mesh.seat mesh.machine packet whole.views even

whole_leave : (mesh : Seated) (m : ℕ) → IsWhole mesh
    → IsWhole (stepped (λ seat here. leave seat m here) mesh)
unfolding leave
whole_leave mesh m whole = go (m == mesh.seat.me)
  where
    go : (b : Bool) → IsWhole (record mesh {
      machine = if b then mesh.machine else record mesh.machine {
        gone = slice_set mesh.machine.gone m true;
      };
    })
    go true = whole
    go false = record {
      word = whole.word;
      few = whole.few;
      grouped = whole.grouped;
      counts = whole.counts;
      views = whole.views;
      parts = whole.parts;
      places = whole.places;
    }

left_same : (mesh : Seated) → IsWhole mesh → AreToldAlike mesh.seat.words (left mesh.seat mesh.machine)
    × (length (left mesh.seat mesh.machine).left ≡ PLAYER_LIMIT)
unfolding left
left_same mesh whole = go (may_leave mesh.seat mesh.machine)
  where
    go : (b : Bool) → AreToldAlike mesh.seat.words (if b then record mesh.machine {
      left = at_places (left_after mesh.seat mesh.machine) mesh.machine.left;
    } else mesh.machine) × (length (if b then record mesh.machine {
      left = at_places (left_after mesh.seat mesh.machine) mesh.machine.left;
    } else mesh.machine).left ≡ PLAYER_LIMIT)
    go true = (whole.views, length_places (left_after mesh.seat mesh.machine) mesh.machine.left ∙ whole.places)
    go false = (whole.views, whole.places)

whole_left : (mesh : Seated) → IsWhole mesh → IsWhole (stepped left mesh)
whole_left mesh whole = record {
  word = whole.word;
  few = whole.few;
  grouped = whole.grouped;
  counts = λ p lt. at p ∙ (whole.counts p lt ∙ sym (at (first_of mesh.seat.words p)));
  views = (left_same mesh whole).0;
  parts = left_alike mesh.seat mesh.machine whole.grouped (omega (arith, whole.places)) whole.counts
      whole.parts;
  places = (left_same mesh whole).1;
}
  where
    at : (p : ℕ) → slice_index (left mesh.seat mesh.machine).has p ≡ slice_index mesh.machine.has p
    at p = ap (λ ns. slice_index ns p) (left_has mesh.seat mesh.machine)

-- a holder that heard a packet, and has these words
heard_holder : (seat : Seat) (reached : List ℕ) (packet : Packet) (words : List (List ℕ))
    (holder : Holder) (now : List (List ℕ))
    → now ≡ at_places (λ p. joined_words (offer_at packet p).first (slice_index holder.mesh.has p)
    (slice_index (hear seat (trimmed reached packet) holder.mesh).has p) (slice_index_or words p [])
    (slice_index_or holder.words p [])) holder.mesh.has
    → record { mesh = hear seat (trimmed reached packet) holder.mesh; words = now }
    ≡ hear_words seat reached (record { packet = packet; words = words }) holder
unfolding hear_words
heard_holder seat reached packet words holder now e =
    ap (λ ws. record { mesh = hear seat (trimmed reached packet) holder.mesh; words = ws }) e

-- no fewer than there are, and no more than count
pub up_to_at : (seat : Seat) (machine : Machine) (end : ℕ) (most : List ℕ) (p : ℕ) → p < PLAYER_LIMIT
    → slice_index (up_to seat machine end most) p
    ≡ max (slice_index machine.has p) (counted_to seat machine.gone (are_full seat machine end most) end most p)
unfolding up_to
up_to_at seat machine end most p lt =
    get_or-map-range_with_len
    (λ p. max (slice_index machine.has p) (counted_to seat machine.gone (are_full seat machine end most) end most p)) 0
    PLAYER_LIMIT p p 0 lt (omega arith)

pub counted_under : (seat : Seat) (gone : List Bool) (full : Bool) (end : ℕ) (most : List ℕ) (p : ℕ)
    → counted_to seat gone full end most p ≤ slice_index most p
counted_under seat gone full end most p = go (cases_Bool (is_orphan seat gone p && not full))
  where
    go : ((is_orphan seat gone p && not full) ≡ true) ⊎ ((is_orphan seat gone p && not full) ≡ false)
        → counted_to seat gone full end most p ≤ slice_index most p
    go (inl past) = rw past (omega arith)
    go (inr isnt) = rw isnt (omega arith)

-- the mesh hears of a packet what the session took of it, and they stay tied
module _ (step : Step) (s0 s1 : Seen) (mesh : Seated) (packet : Packet) (words : List (List ℕ)) (end : ℕ)
    (why : Option Refusal) (reached : List ℕ) where
  abbrev pub heard_up_to : Seated
  heard_up_to = stepped (λ seat machine. hear seat (trimmed reached packet) machine) mesh

  pub record IsHeardUpTo : Type 0 where
    pub has : heard_up_to.machine.has ≡ reached
    pub alike : AreAlike mesh.seat.words (slice_index reached)
    pub most : (p : ℕ) → p < PLAYER_LIMIT → slice_index reached p
        ≤ slice_index (up_to mesh.seat mesh.machine end (taken mesh.seat packet mesh.machine).has) p
    pub tied : IsTied s1 heard_up_to
    pub held_is : held (record { session = s1; mesh = heard_up_to })
        ≡ hear_words mesh.seat reached (record { packet = packet; words = words })
        (held (record { session = s0; mesh = mesh }))

  pub heard_step : (led : ℕ) → IsTied s0 mesh → hear_refusal mesh packet ≡ None
      → length mesh.machine.has ≡ PLAYER_LIMIT → length reached ≡ PLAYER_LIMIT
      → IsFair (record {
        input = mesh.seat.words;
        offers = packet.offers;
        words = words;
        has = mesh.machine.has;
        most = up_to mesh.seat mesh.machine end (taken mesh.seat packet mesh.machine).has;
      }) s0
      → TakesAll step (record {
        input = mesh.seat.words;
        offers = packet.offers;
        words = words;
        has = mesh.machine.has;
        most = up_to mesh.seat mesh.machine end (taken mesh.seat packet mesh.machine).has;
      }) s0 PLAYER_LIMIT s1 led why → AreCounts s1 mesh.seat reached → IsHeardUpTo
  heard_step led tied fine sized many fair takes counts = record {
    has = has;
    alike = alike;
    most = λ p lt. (bounds p lt).1;
    tied = tied_after s0 s1 mesh heard_up_to tied f.players here (ap (λ (ns : List ℕ). length ns) has ∙ many)
        (λ p lt. ap (λ ns. slice_index ns p) has ∙ counts p lt) refl
        (whole_heard mesh (trimmed reached packet) tied.whole (trimmed_even mesh.seat reached packet alike
        (heard_even mesh packet fine)) (λ p lt. ap (λ ns. slice_index ns p) has ∙ (alike p lt
        ∙ ap (λ ns. slice_index ns (first_of mesh.seat.words p)) (sym has))))
        (hear_left mesh.seat (trimmed reached packet) mesh.machine)
        (λ p n lt left. ap (λ ns. slice_index ns p) has ∙ stays p n lt left);
    held_is = heard_holder mesh.seat reached packet words (held (record { session = s0; mesh = mesh }))
        (at_places (words_known (record { session = s1; mesh = heard_up_to })) heard_up_to.machine.has)
        (same_places (words_known (record { session = s1; mesh = heard_up_to }))
        (λ p. joined_words (offer_at packet p).first (slice_index mesh.machine.has p)
        (slice_index heard_up_to.machine.has p) (slice_index_or words p [])
        (slice_index_or (at_places (words_known (record { session = s0; mesh = mesh })) mesh.machine.has)
        p []))
        heard_up_to.machine.has mesh.machine.has
        (ap (λ (ns : List ℕ). length ns) has ∙ many ∙ sym sized) joined);
  }
    where
      here : is_in heard_up_to.machine.gone mesh.seat.me ≡ false
      here = (hear_changes (match_of mesh.seat) (trimmed reached packet ∷ []) mesh.seat.me
          (trimmed reached packet) mesh.machine (inl refl)).unfenced tied.here

      all : List ℕ
      all = (taken mesh.seat packet mesh.machine).has

      most : List ℕ
      most = up_to mesh.seat mesh.machine end all

      h : Hearing
      h = record {
        input = mesh.seat.words;
        offers = packet.offers;
        words = words;
        has = mesh.machine.has;
        most = most;
      }

      f : IsFed h s0 PLAYER_LIMIT s1 led
      f = fed step h s0 fair.word fair.lengths PLAYER_LIMIT s1 led why (omega arith) takes

      -- a player of another machine has just its new words more, and one of its own none
      other : (p : ℕ) (lt : p < PLAYER_LIMIT) → (owner_of mesh.seat p == mesh.seat.me) ≡ false
          → slice_index reached p ≡ slice_index mesh.machine.has p + (f.given p lt).count
      other p lt isnt =
          let g = f.given p lt in
          omega (
            arith,
            counts p lt ∙ known_other s1 mesh.seat p isnt,
            ap (λ (ws : List ℕ). length ws) g.words_are,
            length-append (words_of s0 (p + 1)) (take g.count (news_at h p)),
            length-take g.count (news_at h p),
            g.few,
            (tied.players p lt).count ∙ known_other s0 mesh.seat p isnt,
          )

      up : (p : ℕ) → p < PLAYER_LIMIT → slice_index mesh.machine.has p ≤ slice_index most p
      up p lt = omega (arith, up_to_at mesh.seat mesh.machine end all p lt)

      under : (p : ℕ) → p < PLAYER_LIMIT → slice_index most p ≤ slice_index all p
      under p lt =
          omega (
            arith,
            up_to_at mesh.seat mesh.machine end all p lt,
            counted_under mesh.seat mesh.machine.gone (are_full mesh.seat mesh.machine end all) end all p,
            taken_up mesh.seat packet mesh.machine p (omega (arith, lt, sized)),
          )

      short : (p : ℕ) → p < PLAYER_LIMIT
          → length (news_at h p) ≤ slice_index most p - slice_index mesh.machine.has p
      short p lt = news_length (slice_index_or packet.offers p none_offered) (slice_index_or words p [])
          (slice_index mesh.machine.has p) (slice_index most p) (up p lt)

      -- none of its own has more
      same_own : (p : ℕ) → (owner_of mesh.seat p == mesh.seat.me) ≡ true → count_of s1 p ≡ count_of s0 p
      same_own p mine = go (cases_lt p PLAYER_LIMIT)
        where
          go : (p < PLAYER_LIMIT) ⊎ (PLAYER_LIMIT ≤ p) → count_of s1 p ≡ count_of s0 p
          go (inr past) = ap (λ (ws : List ℕ). length ws) (f.later p past)
          go (inl lt) =
              let g = f.given p lt in
              omega (
                arith,
                ap (λ (ws : List ℕ). length ws) g.words_are,
                length-append (words_of s0 (p + 1)) (take g.count (news_at h p)),
                length-take g.count (news_at h p),
                short p lt,
                under p lt,
                taken_own mesh packet p (omega (arith, lt, sized)) tied.here fine mine,
              )

      own : (p : ℕ) (lt : p < PLAYER_LIMIT) → (owner_of mesh.seat p == mesh.seat.me) ≡ true
          → slice_index reached p ≡ slice_index mesh.machine.has p
      own p lt mine = counts p lt
          ∙ known_stays s0 s1 mesh.seat p tied.whole.word (same_own p mine)
          (λ does q is. owned q is (cases_lt q PLAYER_LIMIT))
          ∙ sym (tied.players p lt).count
        where
          owned : (q : ℕ) → first_of mesh.seat.words q ≡ first_of mesh.seat.words p
              → (q < PLAYER_LIMIT) ⊎ (PLAYER_LIMIT ≤ q) → count_of s1 q ≡ count_of s0 q
          owned q is (inr past) = ap (λ (ws : List ℕ). length ws) (f.later q past)
          owned q is (inl below) = same_own q
              (ap (λ o. o == mesh.seat.me) (owners_alike mesh.seat tied.whole.grouped q below
              ∙ ap (owner_of mesh.seat) is ∙ sym (owners_alike mesh.seat tied.whole.grouped p lt)) ∙ mine)

      bounds : (p : ℕ) → p < PLAYER_LIMIT → (slice_index mesh.machine.has p ≤ slice_index reached p)
          × (slice_index reached p ≤ slice_index most p)
      bounds p lt = go (cases_Bool (owner_of mesh.seat p == mesh.seat.me))
        where
          go : ((owner_of mesh.seat p == mesh.seat.me) ≡ true)
              ⊎ ((owner_of mesh.seat p == mesh.seat.me) ≡ false)
              → (slice_index mesh.machine.has p ≤ slice_index reached p)
              × (slice_index reached p ≤ slice_index most p)
          go (inl mine) = (omega (arith, own p lt mine), omega (arith, own p lt mine, up p lt))
          go (inr isnt) = (
            omega (arith, other p lt isnt),
            omega (arith, other p lt isnt, (f.given p lt).few, short p lt, up p lt),
          )

      alike : AreAlike mesh.seat.words (slice_index reached)
      alike p lt = go (cases_Bool (owner_of mesh.seat p == mesh.seat.me))
        where
          q : ℕ
          q = first_of mesh.seat.words p

          below : q < PLAYER_LIMIT
          below = first_below mesh.seat.words p lt

          same : (b : Bool) → (owner_of mesh.seat p == mesh.seat.me) ≡ b
              → (owner_of mesh.seat q == mesh.seat.me) ≡ b
          same b e = sym (ap (λ o. o == mesh.seat.me) (owners_alike mesh.seat tied.whole.grouped p lt)) ∙ e

          go : ((owner_of mesh.seat p == mesh.seat.me) ≡ true)
              ⊎ ((owner_of mesh.seat p == mesh.seat.me) ≡ false)
              → slice_index reached p ≡ slice_index reached q
          go (inl mine) = own p lt mine ∙ tied.whole.counts p lt ∙ sym (own q below (same true mine))
          go (inr isnt) =
              omega (
                arith,
                other p lt isnt,
                (f.given p lt).first,
                counts q below ∙ known_other s1 mesh.seat q (same false isnt),
                (tied.players q below).count ∙ known_other s0 mesh.seat q (same false isnt),
                tied.whole.counts p lt,
              )

      has : heard_up_to.machine.has ≡ reached
      has = trimmed_heard mesh reached packet fine (many ∙ sym sized)
          (λ p lt. (bounds p (omega (arith, lt, sized))).0)
          (λ p lt. let inside : p < PLAYER_LIMIT = omega (arith, lt, sized) in
          omega (arith, (bounds p inside).1, under p inside))

      before : (p : ℕ) → p < length mesh.machine.has
          → slice_index_or (at_places (words_known (record { session = s0; mesh = mesh }))
          mesh.machine.has) p [] ≡ take (slice_index mesh.machine.has p) (words_of s0 (p + 1))
      before p l = at_place (words_known (record { session = s0; mesh = mesh })) mesh.machine.has p [] l

      joined : (p : ℕ) → p < length mesh.machine.has
          → take (slice_index heard_up_to.machine.has p) (words_of s1 (p + 1))
          ≡ joined_words (offer_at packet p).first (slice_index mesh.machine.has p)
          (slice_index heard_up_to.machine.has p) (slice_index_or words p [])
          (slice_index_or (at_places (words_known (record { session = s0; mesh = mesh }))
          mesh.machine.has) p [])
      joined p l =
          let lt : p < PLAYER_LIMIT = omega (arith, l, sized) in
          rw (before p l) (go lt (cases_Bool (owner_of mesh.seat p == mesh.seat.me)))
        where
          first : ℕ
          first = (offer_at packet p).first

          offered : List ℕ
          offered = slice_index_or words p []

          reach : ℕ
          reach = slice_index heard_up_to.machine.has p

          start : ℕ
          start = slice_index mesh.machine.has p

          empty : (xs : List ℕ) → length xs ≡ 0 → xs ≡ []
          empty [] e = refl
          empty (x ∷ xs) e = absurd (omega (arith, e))

          go : p < PLAYER_LIMIT → ((owner_of mesh.seat p == mesh.seat.me) ≡ true)
              ⊎ ((owner_of mesh.seat p == mesh.seat.me) ≡ false)
              → take reach (words_of s1 (p + 1))
              ≡ joined_words first start reach offered (take start (words_of s0 (p + 1)))
          go lt (inl mine) =
              let g = f.given p lt in
              let still : reach ≡ start = ap (λ ns. slice_index ns p) has ∙ own p lt mine in
              let none : g.count ≡ 0 =
              omega (arith, g.few, short p lt, under p lt, taken_own mesh packet p l tied.here fine mine) in
              let same : words_of s1 (p + 1) ≡ words_of s0 (p + 1) =
              g.words_are ∙ ap (λ n. words_of s0 (p + 1) ++ take n (news_at h p)) none
              ∙ append-nil (words_of s0 (p + 1)) in
              let nothing : drop (start - first) (take (reach - first) offered) ≡ [] =
              empty (drop (start - first) (take (reach - first) offered))
              (omega (
                arith,
                still,
                length-drop (start - first) (take (reach - first) offered),
                length-take (reach - first) offered,
              )) in
              ap (λ n. take n (words_of s1 (p + 1))) still ∙ ap (λ ws. take start ws) same
              ∙ sym (append-nil (take start (words_of s0 (p + 1))))
              ∙ ap (λ ws. take start (words_of s0 (p + 1)) ++ ws) (sym nothing)
          go lt (inr isnt) =
              let g = f.given p lt in
              let was : start ≡ length (words_of s0 (p + 1)) =
              (tied.players p lt).count ∙ known_other s0 mesh.seat p isnt in
              let is : reach ≡ start + length (take g.count (news_at h p)) =
              omega (
                arith,
                ap (λ ns. slice_index ns p) has,
                other p lt isnt,
                length-take g.count (news_at h p),
                g.few,
              ) in
              let all : reach ≡ length (words_of s1 (p + 1)) =
              ap (λ ns. slice_index ns p) has ∙ counts p lt ∙ known_other s1 mesh.seat p isnt in
              take_all reach (words_of s1 (p + 1)) (omega (arith, all)) ∙ g.words_are
              ∙ ap (λ ws. words_of s0 (p + 1) ++ ws)
              (taken_between offered first start (slice_index most p) g.count
              (λ less. omega (arith, less, under p lt, taken_late mesh.seat packet mesh.machine p l less))
              ∙ ap (λ n. drop (start - first) (take (n - first) offered)) (sym is))
              ∙ ap (λ ws. ws ++ drop (start - first) (take (reach - first) offered))
              (sym (take_all start (words_of s0 (p + 1)) (omega (arith, was))))

      stays : (p n : ℕ) → p < PLAYER_LIMIT → left_at mesh.machine p ≡ Some n
          → slice_index reached p ≡ slice_index mesh.machine.has p
      stays p n lt left =
          let same = taken_left mesh.seat packet mesh.machine p n (omega (arith, lt, sized)) left in
          let b = bounds p lt in
          omega (arith, b.0, b.1, under p lt, same)

pub taken_length : (seat : Seat) (packet : Packet) (machine : Machine)
    → length (taken seat packet machine).has ≡ length machine.has
unfolding taken
taken_length seat packet machine =
    length_places (has_after seat (gone_after seat machine packet) machine packet) machine.has

pub same_heard : (mesh : Seated) (most : List ℕ) (packet : Packet)
    → heard_as mesh (trimmed most packet) ≡ heard_as mesh packet
unfolding trimmed
same_heard mesh most packet = refl

leave_left : (seat : Seat) (m : ℕ) (machine : Machine) → (leave seat m machine).left ≡ machine.left
unfolding leave
leave_left seat m machine = go (m == seat.me)
  where
    go : (b : Bool) → (if b then machine else record machine { gone = slice_set machine.gone m true }).left
        ≡ machine.left
    go true = refl
    go false = refl

-- a machine is regarded as gone, or isn't
pub leave_steady : (old new : Seated) (m : ℕ) (result : Result Unit MeshRefusal)
    → OnOk result (new ≡ stepped (λ seat here. leave seat m here) old) → OnErr result (new ≡ old)
    → IsSteady old → IsSteady new
leave_steady old new m (Err why) left same steady = subst IsSteady (sym same) steady
leave_steady old new m (Ok done) left same steady = subst IsSteady (sym left) (record {
  here = (leave_changes (match_of old.seat) [] old.seat.me m old.machine).unfenced steady.here;
  sized = ap (λ (ns : List ℕ). length ns) (leave_has old.seat m old.machine) ∙ steady.sized;
  whole = whole_leave old m steady.whole;
  players = λ p lt.
      let was = steady.players p lt in
      let at : left_at (leave old.seat m old.machine) p ≡ left_at old.machine p =
      ap (λ l. left_at (record old.machine { left = l }) p) (leave_left old.seat m old.machine) in
      record {
        stays = λ n h. ap (λ ns. slice_index ns p) (leave_has old.seat m old.machine)
            ∙ was.stays n (sym at ∙ h);
        remote = λ h. was.remote (sym (ap (λ o. is_some o) at) ∙ h);
      };
})

-- and a session stays tied to it
pub leave_tied : (s : Seen) (mesh : Seated) (m : ℕ) → IsTied s mesh
    → IsTied s (stepped (λ seat here. leave seat m here) mesh)
leave_tied s mesh m tied =
    tied_after s s mesh (stepped (λ seat here. leave seat m here) mesh) tied
    (keeps_none s)
    ((leave_changes (match_of mesh.seat) [] mesh.seat.me m mesh.machine).unfenced tied.here)
    (ap (λ (ns : List ℕ). length ns) (leave_has mesh.seat m mesh.machine) ∙ tied.sized)
    (λ p lt. ap (λ ns. slice_index ns p) (leave_has mesh.seat m mesh.machine) ∙ (tied.players p lt).count) refl
    (whole_leave mesh m tied.whole) (leave_left mesh.seat m mesh.machine)
    (λ p n lt h. ap (λ ns. slice_index ns p) (leave_has mesh.seat m mesh.machine))

-- a player, once the players of who is gone have left
left_tied : (old new : Seen) (mesh : Seated) (who : Left) → IsTied old mesh
    → DisconnectsAll old (left mesh.seat mesh.machine) new who → (p : ℕ) → p < PLAYER_LIMIT
    → IsTiedAt new (stepped left mesh) p
left_tied old new mesh who tied d p lt = record {
  count = ap (λ ns. slice_index ns p) (left_has mesh.seat mesh.machine) ∙ t.count
      ∙ sym (known_stays old new mesh.seat p tied.whole.word (counts_stay p) (λ mine q is. counts_stay q));
  there = ap (λ n. nat_lt p n) (many_stay old new after who d) ∙ t.there;
  own = locals_stay old new after who d p ∙ t.own;
  gone = λ h. was_gone (gone_only old new after who d p lt h);
  stays = λ n h. left_as n (change.left p n h);
  remote = λ h. found (left_at after p) refl h;
}
  where
    match : Match
    match = match_of mesh.seat

    after : Machine
    after = left mesh.seat mesh.machine

    counts_stay : (q : ℕ) → count_of new q ≡ count_of old q
    counts_stay q = ap (λ (ws : List ℕ). length ws) (words_stay old new after who d (q + 1))

    change : Change match [] mesh.seat.me mesh.machine after
    change = left_changes match [] mesh.seat.me mesh.machine

    t : IsTiedAt old mesh p
    t = tied.players p lt

    still : (o : Option ℕ) → left_at mesh.machine p ≡ o → is_some o ≡ true
        → is_some (left_at after p) ≡ true
    still None e h = absurd (false≢true h)
    still (Some n) e h = ap (λ o. is_some o) (change.stays p n e)

    was_gone : (is_gone_at old p ≡ true) ⊎ (is_some (left_at after p) ≡ true)
        → is_some (left_at after p) ≡ true
    was_gone (inl h) = still (left_at mesh.machine p) refl (t.gone h)
    was_gone (inr h) = h

    left_as : (n : ℕ) → (left_at mesh.machine p ≡ Some n) ⊎ Leaves match mesh.seat.me after p n
        → slice_index after.has p ≡ n
    left_as n (inl was) = ap (λ ns. slice_index ns p) (left_has mesh.seat mesh.machine) ∙ t.stays n was
    left_as n (inr now) = now.has

    others : (n : ℕ) → (left_at mesh.machine p ≡ Some n) ⊎ Leaves match mesh.seat.me after p n
        → is_local_at old p ≡ false
    others n (inl was) = t.remote (ap (λ o. is_some o) was)
    others n (inr now) =
        t.own ∙ ne_eqb (owner_of mesh.seat p) mesh.seat.me
        (λ e. false≢true (sym (change.unfenced tied.here) ∙ ap (λ m. is_in after.gone m) (sym e) ∙ now.orphan))

    found : (o : Option ℕ) → left_at after p ≡ o → is_some (left_at after p) ≡ true
        → is_local_at new p ≡ false
    found None e h = absurd (false≢true (sym (ap (λ o. is_some o) e) ∙ h))
    found (Some n) e h = locals_stay old new after who d p ∙ others n (change.left p n e)

-- the players of who is gone have left
pub leaves_tied : (old new : Seen) (mesh : Seated) (who : Left) → IsTied old mesh
    → DisconnectsAll old (left mesh.seat mesh.machine) new who → IsTied new (stepped left mesh)
leaves_tied old new mesh who tied d = record {
  here = (left_changes (match_of mesh.seat) [] mesh.seat.me mesh.machine).unfenced tied.here;
  sized = ap (λ (ns : List ℕ). length ns) (left_has mesh.seat mesh.machine) ∙ tied.sized;
  players = left_tied old new mesh who tied d;
  whole = whole_left mesh tied.whole;
}

-- ---- a word of one's own

give_left : (seat : Seat) (p : ℕ) (machine : Machine) → (give seat p machine).left ≡ machine.left
unfolding give
give_left seat p machine = go (owner_of seat p == seat.me)
  where
    go : (b : Bool) → (if b then record machine
        { has = slice_set machine.has p (slice_index machine.has p + 1) } else machine).left
        ≡ machine.left
    go true = refl
    go false = refl

give_own_has : (seat : Seat) (p : ℕ) (machine : Machine) → owner_of seat p ≡ seat.me
    → give seat p machine
    ≡ record machine { has = slice_set machine.has p (slice_index machine.has p + 1) }
unfolding give
give_own_has seat p machine own = rw (eq-eqb (owner_of seat p) seat.me own) refl

-- a holder that gave a word, and has these words
given_holder : (seat : Seat) (p word : ℕ) (holder : Holder) (now : List (List ℕ))
    → owner_of seat p ≡ seat.me
    → now ≡ slice_set holder.words p (slice_index_or holder.words p [] ++ word ∷ [])
    → record { mesh = give seat p holder.mesh; words = now } ≡ give_word seat p word holder
unfolding give_word
given_holder seat p word holder now own e =
    rw (eq-eqb (owner_of seat p) seat.me own)
    (ap (λ ws. record { mesh = give seat p holder.mesh; words = ws }) e)

-- a word of a local player is given, and the mesh is given it
module _ (s : Seen) (mesh : Seated) (player word : ℕ) where
  abbrev pub given_to : Seated
  given_to = stepped (λ seat machine. give seat (player - 1) machine) mesh

  pub record IsGivenBoth : Type 0 where
    pub some : 1 ≤ player
    pub within : player - 1 < PLAYER_LIMIT
    pub own : owner_of mesh.seat (player - 1) ≡ mesh.seat.me
    pub more : slice_index mesh.machine.has (player - 1)
        ≤ length (words_of (after_local s player word) (player - 1 + 1))
    pub is_given : record mesh {
      machine = record mesh.machine {
        has = slice_set mesh.machine.has (player - 1)
            (length (words_of (after_local s player word) (player - 1 + 1)));
      };
    } ≡ given_to
    pub tied : IsTied (after_local s player word) given_to
    pub held_is : held (record { session = after_local s player word; mesh = given_to })
        ≡ give_word mesh.seat (player - 1) word (held (record { session = s; mesh = mesh }))

  pub give_both : mesh.seat.words ≡ 1 → local_refusal s player ≡ None → IsTied s mesh
      → length s.core.players ≤ PLAYER_LIMIT → IsGivenBoth
  give_both alone fine tied few = record {
    some = at.some;
    within = within;
    own = own;
    more = omega (arith, count, one_more_word, words_here);
    is_given = ap (λ n. record mesh {
      machine = record mesh.machine
          { has = slice_set mesh.machine.has place n };
    }) (omega (arith, count, one_more_word, words_here))
        ∙ ap (λ m. record mesh { machine = m }) (sym (give_own_has mesh.seat place mesh.machine own));
    tied = tied_after s new mesh given_to tied players
        ((give_changes (match_of mesh.seat) [] mesh.seat.me place mesh.machine).unfenced tied.here)
        (ap (λ (m : Machine). length m.has) (give_own_has mesh.seat place mesh.machine own)
        ∙ length-set mesh.machine.has place (slice_index mesh.machine.has place + 1) ∙ tied.sized)
        counts refl given_whole (give_left mesh.seat place mesh.machine) keeps;
    held_is = given_holder mesh.seat place word (held (record { session = s; mesh = mesh }))
        (at_places (words_known (record { session = new; mesh = given_to })) given_to.machine.has) own
        (sym given_words);
  }
    where
      new : Seen
      new = after_local s player word

      place : ℕ
      place = player - 1

      fails : not (of_player (λ player. player.local) s.core.players player) ≡ false
      fails = (all_fail (local_tests s.core.players s.core.frame s.settings.threshold s.settings.limit player
          ++ (nat_le s.settings.log s.core.logged, LogFull) ∷ []) fine).0

      local : of_player (λ player. player.local) s.core.players player ≡ true
      local = not-false (of_player (λ player. player.local) s.core.players player) fails

      x : (x : Player) × (player_at s.core.players player ≡ Some x) × (x.local ≡ true)
      x = found (λ player. player.local) s.core.players player local

      at : IsAt s.core.players player x.0
      at = is_at s.core.players player x.0 x.1

      within : place < PLAYER_LIMIT
      within = omega (arith, at.within, few)

      number : place + 1 ≡ player
      number = omega (arith, at.some)

      t : IsTiedAt s mesh place
      t = tied.players place within

      is_local : is_local_at s place ≡ true
      is_local = ap (λ p. of_player (λ player. player.local) s.core.players p) number ∙ local

      own : owner_of mesh.seat place ≡ mesh.seat.me
      own = eqb-true (owner_of mesh.seat place) mesh.seat.me (sym t.own ∙ is_local)

      words : (q : ℕ) → words_of new q ≡ words_of s q ++ cond (q == player) (word ∷ []) []
      words q = words_changed (with_given word) (word ∷ []) s.core.players player x.0 x.1 refl q

      words_here : length (words_of new (place + 1)) ≡ length (words_of new player)
      words_here = ap (λ p. length (words_of new p)) number

      one_more_word : length (words_of new player) ≡ length (words_of s player) + 1
      one_more_word = ap (λ (ws : List ℕ). length ws) (words player ∙ rw (eq-eqb player player refl) refl)
          ∙ length-append (words_of s player) (word ∷ [])

      count : slice_index mesh.machine.has place ≡ length (words_of s player)
      count = t.count ∙ known_alone s mesh.seat place alone ∙ ap (λ p. length (words_of s p)) number

      given_whole : IsWhole given_to
      given_whole = subst (λ (m : Machine). IsWhole (record mesh { machine = m }))
          (sym (give_own_has mesh.seat place mesh.machine own))
          (whole_with mesh (slice_set mesh.machine.has place (slice_index mesh.machine.has place + 1))
          tied.whole (subst (λ w. AreAlike w (slice_index (slice_set mesh.machine.has place
          (slice_index mesh.machine.has place + 1)))) (sym alone)
          (alone_alike (slice_index (slice_set mesh.machine.has place
          (slice_index mesh.machine.has place + 1))))))

      players : KeepsPlayers s new
      players = record {
        local = λ q. test_changed (λ player. player.local) (with_given word) s.core.players player x.0 x.1 refl q;
        remote = λ q. test_changed (λ player. not player.local) (with_given word) s.core.players player x.0
            x.1 refl q;
        gone = λ q. test_changed (λ player. player.gone) (with_given word) s.core.players player x.0 x.1 refl q;
        many = length_changed (with_given word) s.core.players player x.0 x.1;
      }

      has_at : (p : ℕ) → slice_index given_to.machine.has p
          ≡ slice_index (slice_set mesh.machine.has place (slice_index mesh.machine.has place + 1)) p
      has_at p = ap (λ (m : Machine). slice_index m.has p) (give_own_has mesh.seat place mesh.machine own)

      other : (p : ℕ) → (p ≡ place → ⊥) → slice_index given_to.machine.has p ≡ slice_index mesh.machine.has p
      other p apart = has_at p
          ∙ get_or-set_other mesh.machine.has place p (slice_index mesh.machine.has place + 1) 0 apart

      counted : (p : ℕ) → p < PLAYER_LIMIT
          → slice_index given_to.machine.has p ≡ length (words_of new (p + 1))
      counted p lt = go (cases_eq p place)
        where
          go : (p ≡ place) ⊎ (p ≡ place → ⊥)
              → slice_index given_to.machine.has p ≡ length (words_of new (p + 1))
          go (inl same) =
              has_at p ∙ ap (λ k. slice_index (slice_set mesh.machine.has place
              (slice_index mesh.machine.has place + 1)) k) same
              ∙ get_or-set_same mesh.machine.has place (slice_index mesh.machine.has place + 1) 0
              (omega (arith, within, tied.sized))
              ∙ omega (arith, count, one_more_word, words_here)
              ∙ ap (λ k. length (words_of new (k + 1))) (sym same)
          go (inr apart) =
              let number_apart : (p + 1 == player) ≡ false =
              ne_eqb (p + 1) player (λ e. apart (omega (arith, e, number))) in
              other p apart ∙ (tied.players p lt).count ∙ known_alone s mesh.seat p alone
              ∙ ap (λ (ws : List ℕ). length ws)
              (sym (words (p + 1) ∙ rw number_apart (append-nil (words_of s (p + 1)))))

      counts : AreCounts new mesh.seat given_to.machine.has
      counts p lt = counted p lt ∙ sym (known_alone new mesh.seat p alone)

      olds : List (List ℕ)
      olds = at_places (words_known (record { session = s; mesh = mesh })) mesh.machine.has

      old_at : (p : ℕ) → p < length mesh.machine.has → slice_index_or olds p [] ≡ words_of s (p + 1)
      old_at p l = at_place (words_known (record { session = s; mesh = mesh })) mesh.machine.has p [] l
          ∙ take_all (slice_index mesh.machine.has p) (words_of s (p + 1))
          (omega (arith, (tied.players p (omega (arith, l, tied.sized))).count, known_alone s mesh.seat p alone))

      new_at : (p : ℕ) → p < length mesh.machine.has
          → words_known (record { session = new; mesh = given_to }) p ≡ words_of new (p + 1)
      new_at p l = take_all (slice_index given_to.machine.has p) (words_of new (p + 1))
          (omega (arith, counted p (omega (arith, l, tied.sized))))

      inside : place < length mesh.machine.has
      inside = omega (arith, within, tied.sized)

      last : List ℕ
      last = slice_index_or olds place [] ++ word ∷ []

      as_many : length given_to.machine.has ≡ length mesh.machine.has
      as_many = ap (λ (m : Machine). length m.has) (give_own_has mesh.seat place mesh.machine own)
          ∙ length-set mesh.machine.has place (slice_index mesh.machine.has place + 1)

      many_olds : length olds ≡ length mesh.machine.has
      many_olds = length_places (words_known (record { session = s; mesh = mesh })) mesh.machine.has

      given_words : slice_set olds place last
          ≡ at_places (words_known (record { session = new; mesh = given_to })) given_to.machine.has
      given_words = filled (words_known (record { session = new; mesh = given_to })) given_to.machine.has
          (slice_set olds place last) [] (length-set olds place last ∙ many_olds ∙ sym as_many)
          (λ k l. at k (omega (arith, l, as_many)) (cases_eq k place)
          ∙ sym (new_at k (omega (arith, l, as_many))))
        where
          at : (k : ℕ) → k < length mesh.machine.has → (k ≡ place) ⊎ (k ≡ place → ⊥)
              → slice_index_or (slice_set olds place last) k [] ≡ words_of new (k + 1)
          at k l (inl same) =
              ap (λ n. slice_index_or (slice_set olds place last) n []) same
              ∙ get_or-set_same olds place last [] (omega (arith, inside, many_olds))
              ∙ ap (λ ws. ws ++ word ∷ []) (old_at place inside)
              ∙ ap (λ n. words_of s n ++ word ∷ []) number
              ∙ sym (words player ∙ rw (eq-eqb player player refl) refl)
              ∙ ap (λ n. words_of new n) (sym number) ∙ ap (λ n. words_of new (n + 1)) (sym same)
          at k l (inr apart) =
              let number_apart : (k + 1 == player) ≡ false =
              ne_eqb (k + 1) player (λ e. apart (omega (arith, e, number))) in
              get_or-set_other olds place k last [] apart ∙ old_at k l
              ∙ sym (words (k + 1) ∙ rw number_apart (append-nil (words_of s (k + 1))))

      keeps : (p n : ℕ) → p < PLAYER_LIMIT → left_at mesh.machine p ≡ Some n
          → slice_index given_to.machine.has p ≡ slice_index mesh.machine.has p
      keeps p n lt h = other p (λ same. false≢true
          (sym ((tied.players p lt).remote (ap (λ o. is_some o) h)) ∙ ap (λ k. is_local_at s k) same ∙ is_local))

-- a mesh that catches up with a session that was given a word gives it
pub own_given : (s : Seen) (mesh : Seated) (player word : ℕ) → mesh.seat.words ≡ 1
    → local_refusal s player ≡ None
    → IsTied s mesh → length s.core.players ≤ PLAYER_LIMIT
    → held (record { session = after_local s player word; mesh = caught_up (after_local s player word) mesh })
    ≡ give_word mesh.seat (player - 1) word (held (record { session = s; mesh = mesh }))
own_given s mesh player word alone fine tied few =
    let new : Seen = after_local s player word in
    let both = give_both s mesh player word alone fine tied few in
    let count : ℕ → ℕ = known new mesh.seat in
    let many : length (given_to s mesh player word).machine.has ≡ length mesh.machine.has =
    both.tied.sized ∙ sym tied.sized in
    let same : (given_to s mesh player word).machine.has ≡ at_places count mesh.machine.has =
    filled count mesh.machine.has (given_to s mesh player word).machine.has 0 many
    (λ k l. (both.tied.players k (omega (arith, l, tied.sized))).count) in
    let has = ap (λ (m : Seated). m.machine.has) both.is_given in
    ap (λ (m : Seated). held (record { session = new; mesh = m }))
    (ap (λ (ns : List ℕ). record mesh { machine = record mesh.machine { has = ns } })
    (sym (has ∙ same)) ∙ both.is_given)
    ∙ both.held_is

-- ---- a session that takes its seat

none_gone : (m : ℕ) → is_in first_machine.gone m ≡ false
none_gone m = go (cases_lt m MACHINE_LIMIT)
  where
    go : (m < MACHINE_LIMIT) ⊎ (MACHINE_LIMIT ≤ m) → is_in first_machine.gone m ≡ false
    go (inl l) = get_or-replicate MACHINE_LIMIT m false false l
    go (inr g) = get_or_past first_machine.gone m false g

none_told : (m : ℕ) → told_by first_machine m ≡ None
none_told m = go (cases_lt m MACHINE_LIMIT)
  where
    go : (m < MACHINE_LIMIT) ⊎ (MACHINE_LIMIT ≤ m) → told_by first_machine m ≡ None
    go (inl l) = get_or-replicate MACHINE_LIMIT m None None l
    go (inr g) = get_or_past first_machine.told m None g

none_left : (p : ℕ) → left_at first_machine p ≡ None
none_left p = go (cases_lt p PLAYER_LIMIT)
  where
    go : (p < PLAYER_LIMIT) ⊎ (PLAYER_LIMIT ≤ p) → left_at first_machine p ≡ None
    go (inl l) = get_or-replicate PLAYER_LIMIT p None None l
    go (inr g) = get_or_past first_machine.left p None g

pub same_bools : (a b : Bool) → beq a b ≡ true → a ≡ b
same_bools true true e = refl
same_bools false false e = refl
same_bools true false e = absurd (false≢true e)
same_bools false true e = absurd (false≢true e)

-- what is asked of a session that takes its seat
pub seated_fine : (s : Seen) (seat : Seat) → join_refusal s seat ≡ None
    → (are_seated s seat ≡ true) × (are_fresh s ≡ true) × (is_seat seat ≡ true)
seated_fine s seat = go (is_seat seat) (are_seated s seat) (are_fresh s)
  where
    go : (a b c : Bool) → (if not a then Some InvalidSeat else (if not b then Some Players
        else (if not c then Some Started else None))) ≡ None → (b ≡ true) × (c ≡ true) × (a ≡ true)
    go true true true e = (refl, refl, refl)
    go true true false e = absurd (none_some Started (sym e))
    go true false c e = absurd (none_some Players (sym e))
    go false b c e = absurd (none_some InvalidSeat (sym e))

-- what a seat says of its inputs
pub record IsInputs (seat : Seat) : Type 0 where
  pub word : 1 ≤ seat.words
  pub few : seat.words ≤ INPUT_LIMIT
  pub grouped : are_grouped seat ≡ true

pub seat_inputs : (seat : Seat) → is_seat seat ≡ true → IsInputs seat
seat_inputs seat h =
    let last = and_parts (nat_le 2 seat.machines && nat_le seat.machines MACHINE_LIMIT
    && nat_lt seat.me seat.machines && nat_le 1 seat.words && nat_le seat.words INPUT_LIMIT)
    (are_grouped seat) h in
    let few = and_parts (nat_le 2 seat.machines && nat_le seat.machines MACHINE_LIMIT
    && nat_lt seat.me seat.machines && nat_le 1 seat.words) (nat_le seat.words INPUT_LIMIT) last.0 in
    let word = and_parts (nat_le 2 seat.machines && nat_le seat.machines MACHINE_LIMIT
    && nat_lt seat.me seat.machines) (nat_le 1 seat.words) few.0 in
    record {
      word = leb-true 1 seat.words word.1;
      few = leb-true seat.words INPUT_LIMIT few.1;
      grouped = last.1;
    }

pub joined_tied : (s : Seen) (seat : Seat) (has : List ℕ) → is_seat seat ≡ true
    → are_seated s seat ≡ true → are_fresh s ≡ true → length has ≡ PLAYER_LIMIT → AreCounts s seat has
    → IsTied s (record { seat = seat; machine = record first_machine { has = has } })
unfolding are_seated are_fresh
joined_tied s seat has fine seated fresh sized counts = record {
  here = none_gone seat.me;
  sized = sized;
  whole = record {
    word = inputs.word;
    few = inputs.few;
    grouped = inputs.grouped;
    counts = λ p lt. alike p lt (cases_Bool (owner_of seat p == seat.me));
    views = λ m view h. absurd (none_some view (sym (none_told m) ∙ h));
    parts = λ p lt. none_left p ∙ sym (none_left (first_of seat.words p));
    places = length-replicate {A = Option ℕ} PLAYER_LIMIT None;
  };
  players = λ p lt.
      let own = seated_at p lt in
      let new = and_parts (is_local_at s p || (length (words_of s (p + 1)) == 0)) (not (is_gone_at s p))
      (all_below (is_fresh_at s) PLAYER_LIMIT p fresh lt) in
      record {
        count = counts p lt;
        there = same_bools (nat_lt p (length s.core.players)) (nat_lt (owner_of seat p) seat.machines) own.1;
        own = same_bools (is_local_at s p) (owner_of seat p == seat.me) own.0;
        gone = λ h. absurd (false≢true (sym (not-true (is_gone_at s p) new.1) ∙ h));
        stays = λ n h. absurd (none_some n (sym (none_left p) ∙ h));
        remote = λ h. absurd (false≢true (ap (λ o. is_some o) (sym (none_left p)) ∙ h));
      };
}
  where
    inputs : IsInputs seat
    inputs = seat_inputs seat fine

    seated_at : (p : ℕ) → p < PLAYER_LIMIT
        → (beq (is_local_at s p) (owner_of seat p == seat.me) ≡ true)
        × (beq (nat_lt p (length s.core.players)) (nat_lt (owner_of seat p) seat.machines) ≡ true)
    seated_at p lt = and_parts (beq (is_local_at s p) (owner_of seat p == seat.me))
        (beq (nat_lt p (length s.core.players)) (nat_lt (owner_of seat p) seat.machines))
        (all_below (is_seated_at s seat) PLAYER_LIMIT p seated lt)

    -- another's player has no word yet
    no_word : (p : ℕ) → p < PLAYER_LIMIT → (owner_of seat p == seat.me) ≡ false
        → slice_index has p ≡ 0
    no_word p lt isnt =
        let new = and_parts (is_local_at s p || (length (words_of s (p + 1)) == 0)) (not (is_gone_at s p))
        (all_below (is_fresh_at s) PLAYER_LIMIT p fresh lt) in
        let away : is_local_at s p ≡ false =
        same_bools (is_local_at s p) (owner_of seat p == seat.me) (seated_at p lt).0 ∙ isnt in
        counts p lt ∙ known_other s seat p isnt ∙ eqb-true (length (words_of s (p + 1))) 0
        (sym (ap (λ b. b || (length (words_of s (p + 1)) == 0)) away) ∙ new.0)

    alike : (p : ℕ) → p < PLAYER_LIMIT → ((owner_of seat p == seat.me) ≡ true)
        ⊎ ((owner_of seat p == seat.me) ≡ false)
        → slice_index has p ≡ slice_index has (first_of seat.words p)
    alike p lt (inl mine) = counts p lt ∙ known_alike s seat p inputs.word inputs.grouped lt mine
        ∙ sym (counts (first_of seat.words p) (first_below seat.words p lt))
    alike p lt (inr isnt) =
        let also : (owner_of seat (first_of seat.words p) == seat.me) ≡ false =
        sym (ap (λ o. o == seat.me) (owners_alike seat inputs.grouped p lt)) ∙ isnt in
        no_word p lt isnt ∙ sym (no_word (first_of seat.words p) (first_below seat.words p lt) also)

-- the words stay where players leave
pub left_held : (old new : Seen) (mesh : Seated) (who : Left)
    → DisconnectsAll old (left mesh.seat mesh.machine) new who
    → held (record { session = new; mesh = stepped left mesh })
    ≡ with_machine (left mesh.seat) (held (record { session = old; mesh = mesh }))
left_held old new mesh who d =
    ap (λ ws. record { mesh = left mesh.seat mesh.machine; words = ws })
    (same_places (words_known (record { session = new; mesh = stepped left mesh }))
    (words_known (record { session = old; mesh = mesh }))
    (left mesh.seat mesh.machine).has mesh.machine.has
    (ap (λ (ns : List ℕ). length ns) (left_has mesh.seat mesh.machine))
    (λ k l. ap (λ ws. take (slice_index (left mesh.seat mesh.machine).has k) ws)
    (words_stay old new (left mesh.seat mesh.machine) who d (k + 1))
    ∙ ap (λ ns. take (slice_index ns k) (words_of old (k + 1))) (left_has mesh.seat mesh.machine)))
