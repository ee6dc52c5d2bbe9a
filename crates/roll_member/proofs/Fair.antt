-- What a session hears of a packet that has the same frames of all words of an input.
use Rattle.std.proofs.Common.{◌≡◌, ◌⊎◌, ◌∙◌, ℕ, zero, suc, ◌+◌, ◌-◌, ◌<◌, ◌≤◌, List, [], ◌∷◌, drop, get_or, length, min, take, refl, ap, sym, subst, arith, inl, inr, Bool, true, false, Option, Some, None}
use Rattle.std.specs.Prelude.{is_some, nat_le, nat_lt, not, slice_get, slice_index, slice_index_or, ◌==◌}
use Rattle.std.proofs.lemmas.Bool.{cases_Bool, eqb-true, false≢true, leb-true, lt-ltb, ltb-true, ne_eqb, not-true, not_from_false}
use Rattle.std.proofs.lemmas.List.{length-drop, length-take}
use Rattle.std.proofs.lemmas.List.Sums.{sum_by-cons}
use Rattle.std.proofs.lemmas.Option.{slice_get-get_or}
use Rattle.roll_frame.specs.Inputs.{of_player, player_at}
use Rattle.roll_frame.specs.Timeline.{Player}
use Rattle.roll_frame.specs.declared.refusal.Refusal.{Refusal}
use Rattle.roll_inputs.proofs.Players.{found, is_at, of_player_at}
use Rattle.roll_mesh.specs.declared.limits.TheConstants.{PLAYER_LIMIT}
use Rattle.roll_mesh.specs.declared.packet.Offer.{Offer}
use Rattle.roll_mesh.specs.declared.packet.Packet.{Packet}
use Rattle.roll_mesh.specs.Groups.{first_of, AreAlike}
use Rattle.roll_mesh.specs.Machines.{left_at, none_offered, offer_at, owner_of, taken}
use Rattle.roll_mesh.specs.Meshes.{hear_refusal, Seated}
use Rattle.roll_mesh.proofs.Groups.{alone_alike, evenly, first_below, owners_alike, taken_alike, Evenly}
use Rattle.roll_mesh.proofs.Trimmed.{heard_even}
use Rattle.roll_session.specs.Headline.{words_of}
use Rattle.roll_session.specs.Seen.{Seen, Step}
use Rattle.roll_wire.specs.Spelling.{count_of as offered_of}
use Rattle.roll_member.specs.Joined.{is_gone_at, is_local_at, AreCounts, IsTied}
use Rattle.roll_member.specs.Taking.{counted_to, are_full, news, news_at, shares, up_to, words_heard, Hearing, IsFair, TakesAll}
use Rattle.roll_member.proofs.Known.{known_other}
use Rattle.roll_member.proofs.Tied.{counted_under, heard_step, taken_left, taken_own, taken_up, up_to_at, IsHeardUpTo}
use Rattle.roll_member.proofs.Taking.{news_length}

abbrev size : Offer → ℕ
size offer = offer.end - offer.first

-- ---- the words of each player

share_length : (offers : List Offer) (words : List ℕ) (p : ℕ) → offered_of offers ≤ length words
    → length (slice_index_or (shares offers words) p []) ≡ size (slice_index_or offers p none_offered)
share_length [] words p many = refl
share_length (offer ∷ offers) words zero many =
    omega (arith, many, sum_by-cons size offer offers, length-take (size offer) words)
share_length (offer ∷ offers) words (suc p) many =
    share_length offers (drop (size offer) words) p
    (omega (arith, many, sum_by-cons size offer offers, length-drop (size offer) words))

share_none : (offers : List Offer) (words : List ℕ) (p : ℕ) → length words ≡ 0
    → length (slice_index_or (shares offers words) p []) ≡ 0
share_none [] words p none = refl
share_none (offer ∷ offers) words zero none = omega (arith, none, length-take (size offer) words)
share_none (offer ∷ offers) words (suc p) none =
    share_none offers (drop (size offer) words) p (omega (arith, none, length-drop (size offer) words))

news_long : (offer : Offer) (words : List ℕ) (has most : ℕ)
    → length (news offer words has most)
    ≡ min (most - offer.first) (length words) - (has - offer.first)
news_long offer words has most = omega (
  arith,
  length-drop (has - offer.first) (take (most - offer.first) words),
  length-take (most - offer.first) words,
)

-- ---- a player of another machine

pub there_at : (players : List Player) (p : ℕ) (d : Player) → p < length players
    → player_at players (p + 1) ≡ Some (get_or players p d)
there_at players p d lt =
    let place : p + 1 - 1 ≡ p = omega arith in
    rw (ne_eqb (p + 1) 0 (λ e. omega (arith, e)))
    (ap (λ n. slice_get players n) place ∙ slice_get-get_or players p d lt)

-- whoever is a word of a remote player's input is remote
remote_too : (s : Seen) (mesh : Seated) → IsTied s mesh → (p : ℕ) → p < PLAYER_LIMIT
    → of_player (λ player. not player.local) s.core.players (first_of mesh.seat.words p + 1) ≡ true
    → of_player (λ player. not player.local) s.core.players (p + 1) ≡ true
remote_too s mesh tied p lt first =
    let q : ℕ = first_of mesh.seat.words p in
    let below : q < PLAYER_LIMIT = first_below mesh.seat.words p lt in
    let x = found (λ player. not player.local) s.core.players (q + 1) first in
    let at = is_at s.core.players (q + 1) x.0 x.1 in
    let same : owner_of mesh.seat p ≡ owner_of mesh.seat q =
    owners_alike mesh.seat tied.whole.grouped p lt in
    let inside : q < length s.core.players = omega (arith, at.within) in
    let away : is_local_at s q ≡ false =
    of_player_at (λ player. player.local) s.core.players (q + 1) x.0 x.1 ∙ not-true x.0.local x.2 in
    let there : nat_lt p (length s.core.players) ≡ true =
    (tied.players p lt).there ∙ ap (λ o. nat_lt o mesh.seat.machines) same
    ∙ sym (tied.players q below).there ∙ lt-ltb q (length s.core.players) inside in
    let y : Player = get_or s.core.players p x.0 in
    let found_y : player_at s.core.players (p + 1) ≡ Some y =
    there_at s.core.players p x.0 (ltb-true p (length s.core.players) there) in
    let local : y.local ≡ false =
    sym (of_player_at (λ player. player.local) s.core.players (p + 1) y found_y)
    ∙ (tied.players p lt).own ∙ ap (λ o. o == mesh.seat.me) same
    ∙ sym (tied.players q below).own ∙ away in
    of_player_at (λ player. not player.local) s.core.players (p + 1) y found_y
    ∙ not_from_false y.local local

-- ---- a packet

module _ (s : Seen) (mesh : Seated) (packet : Packet) (words : List ℕ) (end : ℕ) where
  abbrev pub heard_of : Hearing
  heard_of = record {
    input = mesh.seat.words;
    offers = packet.offers;
    words = shares packet.offers (words_heard mesh.seat.words packet.offers words);
    has = mesh.machine.has;
    most = up_to mesh.seat mesh.machine end (taken mesh.seat packet mesh.machine).has;
  }

  pub fair_of : IsTied s mesh → hear_refusal mesh packet ≡ None → IsFair heard_of s
  fair_of tied fine = record {
    word = tied.whole.word;
    few = tied.whole.few;
    counts = tied.whole.counts;
    lengths = lengths (cases_Bool (mesh.seat.words == 1))
        (cases_Bool (nat_le (offered_of packet.offers) (length words)));
    next = λ p lt some. next p lt some (cases_Bool (owner_of mesh.seat p == mesh.seat.me));
    remote = remote_too s mesh tied;
    stays = λ p lt some. stays p lt some (cases_Bool (is_gone_at s (p)));
  }
    where
      has : List ℕ
      has = mesh.machine.has

      all_of : List ℕ
      all_of = (taken mesh.seat packet mesh.machine).has

      most : List ℕ
      most = up_to mesh.seat mesh.machine end all_of

      full : Bool
      full = are_full mesh.seat mesh.machine end all_of

      up : (p : ℕ) → p < PLAYER_LIMIT → slice_index has p ≤ slice_index most p
      up p lt = omega (arith, up_to_at mesh.seat mesh.machine end all_of p lt)

      under : (p : ℕ) → p < PLAYER_LIMIT → slice_index most p ≤ slice_index all_of p
      under p lt =
          omega (
            arith,
            up_to_at mesh.seat mesh.machine end all_of p lt,
            counted_under mesh.seat mesh.machine.gone full end all_of p,
            taken_up mesh.seat packet mesh.machine p (omega (arith, lt, tied.sized)),
          )

      short : (p : ℕ) → p < PLAYER_LIMIT
          → length (news_at heard_of p) ≤ slice_index most p - slice_index has p
      short p lt = news_length (slice_index_or packet.offers p none_offered)
          (slice_index_or heard_of.words p []) (slice_index has p) (slice_index most p) (up p lt)

      next : (p : ℕ) → p < PLAYER_LIMIT → 1 ≤ length (news_at heard_of p)
          → ((owner_of mesh.seat p == mesh.seat.me) ≡ true)
          ⊎ ((owner_of mesh.seat p == mesh.seat.me) ≡ false)
          → slice_index has p ≡ length (words_of s (p + 1))
      next p lt some (inl mine) = absurd (omega (
        arith,
        some,
        short p lt,
        under p lt,
        taken_own mesh packet p (omega (arith, lt, tied.sized)) tied.here fine mine,
      ))
      next p lt some (inr isnt) = (tied.players p lt).count ∙ known_other s mesh.seat p isnt

      stays : (p : ℕ) → p < PLAYER_LIMIT → 1 ≤ length (news_at heard_of p)
          → (is_gone_at s p ≡ true) ⊎ (is_gone_at s p ≡ false) → is_gone_at s p ≡ false
      stays p lt some (inr isnt) = isnt
      stays p lt some (inl gone) = go (left_at mesh.machine p) refl ((tied.players p lt).gone gone)
        where
          go : (o : Option ℕ) → left_at mesh.machine p ≡ o → is_some (left_at mesh.machine p) ≡ true
              → is_gone_at s p ≡ false
          go None e does = absurd (false≢true (sym (ap (λ o. is_some o) e) ∙ does))
          go (Some n) e does = absurd (omega (
            arith,
            some,
            short p lt,
            under p lt,
            taken_left mesh.seat packet mesh.machine p n (omega (arith, lt, tied.sized)) e,
          ))

      lengths : ((mesh.seat.words == 1) ≡ true) ⊎ ((mesh.seat.words == 1) ≡ false)
          → (nat_le (offered_of packet.offers) (length words) ≡ true)
          ⊎ (nat_le (offered_of packet.offers) (length words) ≡ false)
          → AreAlike mesh.seat.words (λ p. length (news_at heard_of p))
      lengths (inl one) b p lt =
          subst (λ w. AreAlike w (λ p. length (news_at heard_of p))) (sym (eqb-true mesh.seat.words 1 one))
          (alone_alike (λ p. length (news_at heard_of p))) p lt
      lengths (inr several) (inr less) p lt = none p ∙ sym (none (first_of mesh.seat.words p))
        where
          empty : words_heard mesh.seat.words packet.offers words ≡ []
          empty = rw (several, less) refl

          none : (q : ℕ) → length (news_at heard_of q) ≡ 0
          none q = omega (
            arith,
            news_long (slice_index_or packet.offers q none_offered) (slice_index_or heard_of.words q [])
                (slice_index has q) (slice_index most q),
            share_none packet.offers (words_heard mesh.seat.words packet.offers words) q
                (ap (λ (ws : List ℕ). length ws) empty),
          )
      lengths (inr several) (inl enough) p lt = all p ∙ alike ∙ sym (all q)
        where
          q : ℕ
          q = first_of mesh.seat.words p

          whole : words_heard mesh.seat.words packet.offers words ≡ words
          whole = rw (several, enough) refl

          size_at : (k : ℕ) → length (slice_index_or heard_of.words k []) ≡ size (offer_at packet k)
          size_at k = share_length packet.offers (words_heard mesh.seat.words packet.offers words) k
              (omega (
                arith,
                leb-true (offered_of packet.offers) (length words) enough,
                ap (λ (ws : List ℕ). length ws) whole,
              ))

          all : (k : ℕ) → length (news_at heard_of k)
              ≡ min (slice_index most k - (offer_at packet k).first)
              ((offer_at packet k).end - (offer_at packet k).first)
              - (slice_index has k - (offer_at packet k).first)
          all k = news_long (offer_at packet k) (slice_index_or heard_of.words k []) (slice_index has k)
              (slice_index most k)
              ∙ ap (λ n. min (slice_index most k - (offer_at packet k).first) n
              - (slice_index has k - (offer_at packet k).first)) (size_at k)

          even : Evenly mesh.seat packet
          even = evenly mesh.seat packet (heard_even mesh packet fine)

          all_alike : slice_index all_of p ≡ slice_index all_of q
          all_alike = taken_alike mesh.seat mesh.machine packet tied.whole.grouped (omega (arith, tied.sized))
              tied.whole.counts tied.whole.parts (heard_even mesh packet fine) p lt

          counted_alike : counted_to mesh.seat mesh.machine.gone full end all_of p
              ≡ counted_to mesh.seat mesh.machine.gone full end all_of q
          counted_alike = rw (owners_alike mesh.seat tied.whole.grouped p lt, all_alike) refl

          most_alike : slice_index most p ≡ slice_index most q
          most_alike = omega (
            arith,
            tied.whole.counts p lt,
            up_to_at mesh.seat mesh.machine end all_of p lt,
            up_to_at mesh.seat mesh.machine end all_of q (first_below mesh.seat.words p lt),
            counted_alike,
          )

          alike : min (slice_index most p - (offer_at packet p).first)
              ((offer_at packet p).end - (offer_at packet p).first)
              - (slice_index has p - (offer_at packet p).first)
              ≡ min (slice_index most q - (offer_at packet q).first)
              ((offer_at packet q).end - (offer_at packet q).first)
              - (slice_index has q - (offer_at packet q).first)
          alike = omega (
            arith,
            even.firsts p lt,
            even.ends p lt,
            tied.whole.counts p lt,
            most_alike,
          )

-- what the session took of it, the mesh hears
pub heard_all : (step : Step) (s new : Seen) (mesh : Seated) (packet : Packet) (words : List ℕ) (end : ℕ)
    (why : Option Refusal) (reached : List ℕ) (led : ℕ) → IsTied s mesh
    → hear_refusal mesh packet ≡ None → length reached ≡ PLAYER_LIMIT
    → TakesAll step (heard_of s mesh packet words end) s PLAYER_LIMIT new led why
    → AreCounts new mesh.seat reached
    → IsHeardUpTo step s new mesh packet
    (shares packet.offers (words_heard mesh.seat.words packet.offers words)) end why reached
heard_all step s new mesh packet words end why reached led tied fine many takes counts =
    heard_step step s new mesh packet
    (shares packet.offers (words_heard mesh.seat.words packet.offers words)) end why reached led tied fine
    tied.sized many (fair_of s mesh packet words end tied fine) takes counts
