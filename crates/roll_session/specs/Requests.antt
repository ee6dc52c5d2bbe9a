-- Whole lists of requests.
use Rattle.std.specs.Prelude.{◌≡◌, List, ◌∷◌, ◌++◌, map, Bool, true, false}
use Rattle.roll_frame.specs.Events.{CoreEvent}
use Rattle.roll_frame.specs.declared.reply.Reply.{Reply}
use Rattle.roll_session.specs.Answered.{replies_to, IsPlayed, IsShort}
use Rattle.roll_session.specs.Calls.{asked}
use Rattle.roll_session.specs.Headline.{Headline}
use Rattle.roll_session.specs.Seen.{Step, Seen}
use Rattle.roll_session.specs.declared.event.Request.{Request}

module _ {G S N : Type 0} where
  abbrev pub all_asked : List (Request G S N) → List CoreEvent
  all_asked requests = map asked requests

  -- all but the last of these requests were done, and their replies added
  pub record IsDoneTo (step : Step) (old new : Seen) (requests left : List (Request G S N)) (first all : List Reply) : Type 0 where
    pub done : List (Request G S N)
    pub split : requests ≡ done ++ left
    pub played : IsPlayed step old new (all_asked done)
    pub replies : all ≡ first ++ replies_to step old (all_asked done)

  -- memory ran out for one of these requests, after those before it were done
  pub record IsEndedEarly (step : Step) (old new : Seen) (requests left : List (Request G S N)) (first all : List Reply) : Type 0 where
    pub before : Seen
    pub request : Request G S N
    pub done : IsDoneTo step old before requests (request ∷ left) first all
    pub short : IsShort step before new (asked request)

  -- memory ran out for one of these requests, after those before it were done
  pub record EndsShort (step : Step) (old new : Seen) (requests left : List (Request G S N))
      (replies : List Reply) : Type 0 where
    pub before : Seen
    pub done : List (Request G S N)
    pub request : Request G S N
    pub split : requests ≡ done ++ request ∷ left
    pub headline : Headline step old before (all_asked done) replies
    pub short : IsShort step before new (asked request)

  -- the headline of all requests; where memory ran out, of those before the one that it ran out for
  abbrev pub IsHeadline : Bool → Step → Seen → Seen → (requests left : List (Request G S N))
      → List Reply → Type 0
  IsHeadline true step old new requests left replies =
      Headline step old new (all_asked requests) replies
  IsHeadline false step old new requests left replies =
      EndsShort step old new requests left replies
