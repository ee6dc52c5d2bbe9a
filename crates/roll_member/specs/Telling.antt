-- What a machine tells another, with its words.
use Rattle.std.specs.Prelude.{◌≡◌, ℕ, ◌+◌, ◌-◌, ◌*◌, ◌/◌, ◌≤◌, List, [], ◌∷◌, ◌++◌, length, map, min, nat_le, replicate, take, drop, true, ◌==◌, ◌&&◌, if◌then◌else◌}
use Rattle.roll_mesh.specs.declared.limits.TheConstants.{PLAYER_LIMIT}
use Rattle.roll_mesh.specs.declared.packet.Offer.{Offer}
use Rattle.roll_mesh.specs.declared.packet.Packet.{Packet}
use Rattle.roll_mesh.specs.Groups.{first_of, is_even}
use Rattle.roll_mesh.specs.Machines.{tell}
use Rattle.roll_mesh.specs.Meshes.{Seated}
use Rattle.roll_mesh.specs.Words.{tell_words}
use Rattle.roll_session.specs.Headline.{words_of}
use Rattle.roll_session.specs.Seen.{Seen}
use Rattle.roll_wire.specs.Spelling.{are_offers, count_of}
use Rattle.roll_wire.specs.declared.limits.TheConstants.{WORD_LIMIT}
use Rattle.roll_member.specs.Joined.{held, Joined}
use Rattle.roll_member.specs.Taking.{shares}

-- room for what is wanted of each from a place on, one after the other, until there is none left: for all words of an input as much
-- as its first word may have
abbrev pub rooms : (words place fits left : ℕ) → List ℕ → List ℕ
rooms words p fits left [] = []
rooms words p fits left (wanted ∷ more) =
    let now = min wanted (left / words) in
    if first_of words p == p then now ∷ rooms words (p + 1) now (left - now * words) more
    else fits ∷ rooms words (p + 1) fits left more

-- what a machine would tell another if there were room for as many words of each player as a packet has
abbrev pub wanted : Seated → ℕ → Packet
wanted mesh m = tell mesh.seat m (replicate PLAYER_LIMIT WORD_LIMIT) mesh.machine

abbrev pub room_for : Seated → ℕ → List ℕ
room_for mesh m =
    rooms mesh.seat.words 0 0 WORD_LIMIT (map (λ o. o.end - o.first) (wanted mesh m).offers)

-- how many words a machine hasn't said that it has: of each player, as many as a packet has room for, and no more
abbrev pub queued : Seated → ℕ → ℕ
queued mesh m = count_of (wanted mesh m).offers

-- an offer of words that there are
pub record IsOfferOf (words : List ℕ) (offer : Offer) : Type 0 where
  pub forward : offer.first ≤ offer.end
  pub there : offer.end ≤ length words

-- the words of an offer
abbrev pub words_at : List ℕ → Offer → List ℕ
words_at words offer = take (offer.end - offer.first) (drop offer.first words)

-- the words that are offered of the players from a place on
abbrev pub words_told : Seen → List Offer → ℕ → List ℕ
words_told s [] p = []
words_told s (offer ∷ offers) p =
    words_at (words_of s (p + 1)) offer ++ words_told s offers (p + 1)

-- what a member tells a machine: as many words as a packet has room for, and none that it hasn't, of each input all words of a frame or
-- none; it can be spelled
pub record IsTold (m : Joined) (machine : ℕ) (packet : Packet) (words : List ℕ) : Type 0 where
  pub packet_is : packet ≡ tell m.mesh.seat machine (room_for m.mesh machine) m.mesh.machine
  pub words_are : words ≡ words_told m.session packet.offers 0
  -- so it is what the laws over words have told
  pub parcel : record { packet = packet; words = shares packet.offers words }
      ≡ tell_words m.mesh.seat machine (room_for m.mesh machine) (held m)
  pub even : is_even m.mesh.seat packet ≡ true
  pub whole : (are_offers packet.offers && (count_of packet.offers == length words)
      && nat_le (length words) WORD_LIMIT) ≡ true
