-- From epoch to epoch.
use Rattle.std.proofs.Common.{◌≡◌, ◌∙◌, ℕ, List, [], ◌∷◌, ap, refl, sym, subst}
use Rattle.roll_chain.proofs.AnyTime.{they_go_on_at_any_time}
use Rattle.roll_chain.specs.Seams.{next_terms}
use Rattle.roll_chain.specs.declared.chain.Chain.{Chain}
use Rattle.roll_epoch.specs.declared.marks.Ending.{Ending}
use Rattle.roll_frame.specs.Paths.{run}
use Rattle.roll_frame.specs.Timeline.{timeline}
use Rattle.roll_relay.proofs.OneMatch.{holders_are_one}
use Rattle.roll_relay.specs.OneMatch.{HoldsBack}
use Rattle.roll_mesh.specs.Worlds.{Match}
use Rattle.roll_chain.specs.States.{value_at}
use Rattle.roll_peer.proofs.Alike.{two_peers_know_one}
use Rattle.roll_peer.proofs.Openings.{what_opened_stays}
use Rattle.roll_peer.specs.Known.{IsKnownTo}
use Rattle.roll_peer.specs.OneMatch.{AreOne, IsMachine}
use Rattle.roll_peer.specs.PeerWorlds.{IsPlayedTo}
use Rattle.roll_session.specs.Seen.{Seen, Step}
use Rattle.roll_match.specs.Epochs.{Epochs}
use Rattle.roll_match.specs.OneMatch.{AreOneThrough, InEach, IsOneEpoch, OneMatch, OpenedAlike, Pair, StayTogether, WhatGoesOn}
use Rattle.roll_match.proofs.Ahead.{known_ahead, opening_ahead, rows_ahead}
use Rattle.roll_match.proofs.Each.{each_is_played}

at_first : (P : Pair → Type 0) (first : Pair) (more : List Pair) → InEach P first more → P first
at_first P first [] each = each
at_first P first (next ∷ more) each = each.0

module _ (games : ℕ → Step) (epochs : Epochs) (i j : ℕ) (matches : ℕ → Match) where
  abbrev Stay : Pair → List Pair → Type 0
  Stay first more = StayTogether games epochs i j matches first more

  abbrev AreThere : Pair → Type 0
  AreThere both = IsMachine (games i) (epochs both.number) i both.one.beside × IsMachine (games j) (epochs both.number) j both.other.beside

  abbrev Wait : Pair → Type 0
  Wait both =
      HoldsBack (games i) both.one.session both.one.words both.one.beside
      × HoldsBack (games j) both.other.session both.other.words both.other.beside

  in_epoch : (first : Pair) (more : List Pair) → Stay first more → (number : ℕ) → IsPlayedTo (matches number) games (epochs number)
  in_epoch first more stay number = each_is_played matches games epochs number stay.played

  -- the first epoch, whether it is the last one or not
  last_is : (now : Pair) → Stay now [] → IsOneEpoch games epochs i j now
  last_is now stay = record {
    opened = stay.opened;
    one = holders_are_one (matches now.number) games (epochs now.number) i j now.one.beside now.other.beside now.one.session now.other.session
        now.one.words now.other.words (in_epoch now [] stay now.number) stay.there.0 stay.there.1 stay.here.0 stay.here.1 stay.waits.0 stay.waits.1;
  }

  module _ (now next : Pair) (more : List Pair) (stay : Stay now (next ∷ more)) where
    played : IsPlayedTo (matches now.number) games (epochs now.number)
    played = in_epoch now (next ∷ more) stay now.number

    first_is : IsOneEpoch games epochs i j now
    first_is = record {
      opened = stay.opened;
      one = holders_are_one (matches now.number) games (epochs now.number) i j now.one.beside now.other.beside now.one.session now.other.session
          now.one.words now.other.words played stay.there.0.0 stay.there.0.1 stay.here.0.0 stay.here.0.1 stay.waits.0.0 stay.waits.0.1;
    }

    together : (now.one.end ≡ now.other.end)
        × (next_terms now.one.chain now.one.beside.peer now.one.end ≡ next_terms now.other.chain now.other.beside.peer now.other.end)
    together =
        they_go_on_at_any_time (matches now.number) games (epochs now.number) (epochs now.number) [] i j now.one.beside now.one.beside now.other.beside
        now.one.chain now.other.chain now.one.end now.other.end played refl
        (record {
          ends = record { is = stay.there.0.0.is; judged = stay.judged.0.0; ending = stay.over.0.0 };
          is = stay.there.0.0.is;
          voids = λ p m l at below. refl;
        })
        (record { is = stay.there.0.1.is; judged = stay.judged.0.1; ending = stay.over.0.1 })
        stay.here.0.0 stay.here.0.1 stay.opened.terms stay.opened.profile stay.opened.comers

    known_other : IsKnownTo now.other.session now.one.end.frame
    known_other = subst (λ (e : Ending). IsKnownTo now.other.session e.frame) (sym together.0) stay.known.0.1

    open_one : now.one.beside.session.opening ≡ now.one.session.opening
    open_one = opening_ahead (games i) now.one.session now.one.words now.one.beside stay.waits.0.0

    open_other : now.other.beside.session.opening ≡ now.other.session.opening
    open_other = opening_ahead (games j) now.other.session now.other.words now.other.beside stay.waits.0.1

    rows_one : timeline now.one.beside.session.core.players now.one.end.frame ≡ timeline now.one.session.core.players now.one.end.frame
    rows_one = rows_ahead (games i) now.one.session now.one.words now.one.beside stay.waits.0.0 now.one.end.frame stay.known.0.0

    rows_other : timeline now.other.beside.session.core.players now.one.end.frame ≡ timeline now.other.session.core.players now.one.end.frame
    rows_other = rows_ahead (games j) now.other.session now.other.words now.other.beside stay.waits.0.1 now.one.end.frame known_other

    known : AreOne (games i) (games j) now.one.beside now.other.beside now.one.end.frame
    known = two_peers_know_one (matches now.number) games (epochs now.number) i j now.one.beside now.other.beside played stay.there.0.0 stay.there.0.1
        stay.here.0.0 stay.here.0.1 now.one.end.frame
        (known_ahead (games i) now.one.session now.one.words now.one.beside stay.waits.0.0 now.one.end.frame stay.known.0.0)
        (known_ahead (games j) now.other.session now.other.words now.other.beside stay.waits.0.1 now.one.end.frame known_other)

    -- the sessions of the next epoch have the openings that they began with
    began_one : next.one.session.opening ≡ value_at (games i) now.one.session now.one.end.frame
    began_one =
        sym (opening_ahead (games i) next.one.session next.one.words next.one.beside (at_first Wait next more stay.waits.1).0)
        ∙ what_opened_stays (matches next.number) games (epochs next.number) i next.one.beside
        (value_at (games i) now.one.session now.one.end.frame) stay.began.0.0 (at_first AreThere next more stay.there.1).0.is

    began_other : next.other.session.opening ≡ value_at (games j) now.other.session now.other.end.frame
    began_other =
        sym (opening_ahead (games j) next.other.session next.other.words next.other.beside (at_first Wait next more stay.waits.1).1)
        ∙ what_opened_stays (matches next.number) games (epochs next.number) j next.other.beside
        (value_at (games j) now.other.session now.other.end.frame) stay.began.0.1 (at_first AreThere next more stay.there.1).1.is

    -- the next epoch opens alike
    next_alike : OpenedAlike games epochs i j next
    next_alike = record {
      terms = stay.next.0.0.terms ∙ together.1 ∙ sym stay.next.0.1.terms;
      profile = stay.next.0.0.profile ∙ stay.opened.profile ∙ sym stay.next.0.1.profile;
      comers = stay.next.0.0.comers ∙ stay.opened.comers ∙ sym stay.next.0.1.comers;
      opening = λ alike. began_one
          ∙ (λ k. run (games i) (sym open_one k) (sym rows_one k))
          ∙ known.states alike (open_one ∙ stay.opened.opening alike ∙ sym open_other)
          ∙ (λ k. run (games j) (open_other k) (rows_other k))
          ∙ ap (λ (e : Ending). value_at (games j) now.other.session e.frame) together.0 ∙ sym began_other;
    }

    -- and so all is supposed of the others
    others : Stay next more
    others = record {
      played = stay.played;
      opened = next_alike;
      there = stay.there.1;
      waits = stay.waits.1;
      here = stay.here.1;
      over = stay.over.1;
      judged = stay.judged.1;
      known = stay.known.1;
      began = stay.began.1;
      next = stay.next.1;
    }

  through : (now : Pair) (more : List Pair) → Stay now more → AreOneThrough games epochs i j now more
  through now [] stay = record { each = last_is now stay; ends = tt }
  through now (next ∷ more) stay =
      let rest = through next more (others now next more stay) in
      record {
        each = (first_is now next more stay, rest.each);
        ends = ((together now next more stay).0, rest.ends);
      }

pub one_match : OneMatch
one_match matches games epochs i j first more stay = through games epochs i j matches first more stay

pub what_goes_on : (N : Type 0) → WhatGoesOn N
what_goes_on N step old new peer next relay carrying session after gone = record {
  over = gone.over;
  known = gone.goes_on.starts.known;
  opening = ap (λ (s : Seen). s.opening) gone.goes_on.starts.start;
  begins = (_, _, gone.goes_on.follows.begins);
  next = record {
    terms = ap (λ (c : Chain). c.terms) gone.goes_on.chain;
    profile = ap (λ (c : Chain). c.profile) gone.goes_on.chain;
    comers = ap (λ (c : Chain). c.comers) gone.goes_on.chain;
  };
}
