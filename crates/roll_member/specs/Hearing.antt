-- A member hears a packet.
use Rattle.std.specs.Prelude.{◌≡◌, ℕ, List}
use Rattle.roll_mesh.specs.declared.limits.TheConstants.{PLAYER_LIMIT}
use Rattle.roll_mesh.specs.declared.packet.Packet.{Packet}
use Rattle.roll_mesh.specs.Machines.{hear, trimmed}
use Rattle.roll_mesh.specs.Meshes.{heard_as, stepped}
use Rattle.roll_mesh.specs.Words.{hear_words}
use Rattle.roll_session.specs.Seen.{Step}
use Rattle.roll_member.specs.Joined.{held, IsBehind, Joined}
use Rattle.roll_member.specs.Taking.{shares, up_to, words_heard, TakesAll}
use Rattle.roll_member.specs.declared.member.Taken.{Taken}

-- the words that the mesh believes were taken, player by player, as far as the session took them and none of a frame from the end on, but
-- for players whose owner is gone while words before the end are waited for; of each input all words of a frame or none; the mesh heard the
-- packet up to there
pub record HearsPacket (step : Step) (old new : Joined) (packet : Packet) (words : List ℕ) (end : ℕ)
    (taken : Taken) : Type 0 where
  pub led : ℕ
  pub session : TakesAll step (record {
    input = old.mesh.seat.words;
    offers = packet.offers;
    words = shares packet.offers (words_heard old.mesh.seat.words packet.offers words);
    has = old.mesh.machine.has;
    most = up_to old.mesh.seat old.mesh.machine end (hear old.mesh.seat packet old.mesh.machine).has;
  }) old.session PLAYER_LIMIT new.session led taken.refusal
  pub mesh : new.mesh
      ≡ stepped (λ seat machine. hear seat (trimmed new.mesh.machine.has packet) machine) old.mesh
  pub heard : taken.heard ≡ heard_as old.mesh packet
  -- if nothing past the end could be settled, nothing can be
  pub behind : IsBehind old end → IsBehind new end
  -- so it is a step of the laws over words
  pub step_is : held new
      ≡ hear_words old.mesh.seat new.mesh.machine.has (record {
        packet = packet;
        words = shares packet.offers (words_heard old.mesh.seat.words packet.offers words);
      }) (held old)
