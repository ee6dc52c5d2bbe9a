-- A session, and the network beside it, go on in the next epoch.
use Rattle.std.specs.Prelude.{◌≡◌, ◌<◌, ◌⊎◌, ℕ, List, []}
use Rattle.roll_carry.specs.Carrying.{Carrying}
use Rattle.roll_chain.specs.Chains.{settings_in}
use Rattle.roll_chain.specs.Seams.{followed_by}
use Rattle.roll_chain.specs.declared.chain.Chain.{Chain}
use Rattle.roll_chain.specs.declared.seam.Opening.{Opening}
use Rattle.roll_frame.specs.Settings.{start_refusal}
use Rattle.roll_frame.specs.declared.refusal.Refusal.{Refusal}
use Rattle.roll_frame.specs.declared.refusal.Refusal.TheVariants.{NoMemory}
use Rattle.roll_frame.specs.declared.settings.Settings.{Settings}
use Rattle.roll_game.specs.Counts.{no_calls}
use Rattle.roll_peer.specs.Following.{IsFollowedAs}
use Rattle.roll_peer.specs.Peered.{IsWhyNot, Peered}
use Rattle.roll_peer.specs.declared.refusal.OpenRefusal.TheVariants.{NoMemory as NoneLeft}
use Rattle.roll_relay.specs.Relaying.{opened_beside}
use Rattle.roll_requests.specs.Asked.{Asked, Leads}
use Rattle.roll_requests.specs.Ended.{end_refusal, IsEnded}
use Rattle.roll_requests.specs.declared.request.Request.{Request}
use Rattle.roll_session.specs.Gameless.{Bare}
use Rattle.roll_session.specs.Changes.{IsWhy}
use Rattle.roll_session.specs.Started.{first_seen}
use Rattle.slab.specs.Slab.{slab_len}
use Rattle.roll_chain.specs.declared.past.Past.{Past}
use Rattle.roll_chain.specs.declared.seam_refusal.SeamRefusal.{SeamRefusal}
use Rattle.roll_chain.specs.declared.seam_refusal.SeamRefusal.TheVariants.{JobsOut, Network, Session}

-- a session with these settings that has just started, and may use so many slots
pub record IsStartedAs (settings : Settings) (limit : ℕ) (e : Asked) : Type 0 where
  pub seen : e.seen ≡ first_seen settings [] no_calls
  pub at : e.at ≡ 0
  pub requests : e.requests ≡ []
  pub limit_is : e.limit ≡ limit
  pub jobs : e.jobs.slots ≡ []
  pub leads : Leads [] e

-- how the next epoch opens: its session starts, its network follows this one's, and opened so also what carries beside it; this one's
-- network, what it carried and its session, which had no job out and has ended by these last requests, are the epoch before
pub record GoesOn (o : Opening) (old new : Chain) (peer next : Peered) (relay carrying : Carrying) (session started : Asked)
    (past : Past (Bare ℕ)) (closing : List Request) : Type 0 where
  pub none_out : slab_len session.jobs ≡ 0
  pub starts : IsStartedAs o.settings session.limit started
  pub follows : IsFollowedAs started.seen (settings_in old o.terms) peer o.seating next
  pub chain : new ≡ followed_by old o
  pub carries : carrying ≡ opened_beside next
  pub ended : IsEnded session o.end past.session closing
  pub past_peer : past.peer ≡ peer
  pub past_relay : past.relay ≡ relay

-- ---- why not

-- the session of the next epoch doesn't start, or this one's can't end there
abbrev pub IsWhyNotStarted : Opening → Asked → Refusal → Type 0
IsWhyNotStarted o session why =
    IsWhy (start_refusal o.settings) why ⊎ IsWhy (end_refusal session.seen.core o.end) why

-- memory ran out
abbrev pub IsShort : SeamRefusal → Type 0
IsShort JobsOut = ⊥
IsShort (Session why) = why ≡ NoMemory
IsShort (Network why) = why ≡ NoneLeft

-- of these, or the network doesn't open beside a session that starts so
abbrev pub IsWhyNotOpened : Opening → Chain → Asked → SeamRefusal → Type 0
IsWhyNotOpened o chain session JobsOut = ⊥
IsWhyNotOpened o chain session (Session why) = IsWhyNotStarted o session why ⊎ (why ≡ NoMemory)
IsWhyNotOpened o chain session (Network why) =
    (why ≡ NoneLeft) ⊎ IsWhyNot (first_seen o.settings [] no_calls) (settings_in chain o.terms) why

-- jobs are out, and then nothing else is said
abbrev pub IsWhyNotGone : Opening → Chain → Asked → SeamRefusal → Type 0
IsWhyNotGone o chain session why =
    ((why ≡ JobsOut) × (0 < slab_len session.jobs))
    ⊎ ((slab_len session.jobs ≡ 0) × IsWhyNotOpened o chain session why)
