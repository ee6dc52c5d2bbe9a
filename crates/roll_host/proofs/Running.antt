-- One request after others.
use Rattle.std.proofs.Common.{◌≡◌, ◌∙◌, ◌<◌, List, [], ◌∷◌, ◌++◌, length, map, drop, refl, ap, sym, subst, append-nil, append_assoc, length-append, arith, Some, Ok, Err}
use Rattle.std.specs.Prelude.{fold}
use Rattle.std.proofs.Math.Seq.{drop-append_seam}
use Rattle.std.proofs.lemmas.Grind.{flat_map-append, fold-append}
use Rattle.std.proofs.lemmas.List.{get_or_append_left, map-append}
use Rattle.std.proofs.lemmas.Option.{get_or_from_slice_get, slice_get-get_or, slice_get_within}
use Rattle.roll_branch.specs.declared.branch.Done.{Done}
use Rattle.roll_frame.specs.Events.{CoreEvent}
use Rattle.roll_link.specs.Rings.{Ring}
use Rattle.roll_session.proofs.Runs.{played_more, played_none}
use Rattle.roll_session.specs.Answered.{IsPlayed}
use Rattle.roll_session.specs.Seen.{Step}
use Rattle.roll_host.specs.Hosted.{Hosted}
use Rattle.roll_host.specs.Requests.{all_events, rings_after, AreExchanges, EndsOwn, Exchange, IsDone, IsDoneBy, IsDoneTo}
use Rattle.roll_session.specs.Others.{bare}
use Rattle.roll_host.specs.declared.request.HostReply.{HostReply}
use Rattle.roll_host.specs.declared.request.HostReply.TheVariants.{Session as Says, Pumped as HasPumped, Absorbed as HasAbsorbed, Speculated as HasSpeculated, LinkAdded, LinkEnded, LogReserved, Closed}
use Rattle.roll_host.specs.declared.request.HostRequest.{HostRequest}
use Rattle.roll_host.specs.declared.request.HostRequest.TheVariants.{Session as Asks, Pump, Absorb, Speculate, AddLink, EndLink, ReserveLog, Close}
use Rattle.roll_host.proofs.Standing.{done_stands}

module _ {G S N : Type 0} (step : Step) where
  exchanges_push : (old new : Hosted (Done G S N)) (all : List (Exchange G S N)) (one : Exchange G S N) (mid : Hosted (Done G S N)) → AreExchanges step old all mid → IsDoneBy step mid new one.request one.reply one.events → one.after ≡ new → AreExchanges step old (all ++ one ∷ []) new
  exchanges_push old new [] one mid same h after =
      (subst (λ (s : Hosted (Done G S N)). IsDoneBy step old s one.request one.reply one.events) (sym after) (subst (λ (s : Hosted (Done G S N)). IsDoneBy step s new one.request one.reply one.events) same h), sym after)
  exchanges_push old new (first ∷ more) one mid all h after = (all.0, exchanges_push first.after new more one mid all.1 h after)

  module _ (old : Hosted (Done G S N)) (requests : List (HostRequest G S N)) (first : List HostReply) where
    pub done_none : IsDoneTo step old old requests requests first first
    done_none = record { exchanges = []; split = refl; replies = sym (append-nil first); are_exchanges = refl; played = played_none step (bare old.session) }

    pub done_more : (mid new : Hosted (Done G S N)) (rest left : List (HostRequest G S N)) (all more : List HostReply) (request : HostRequest G S N) (reply : HostReply) → rest ≡ request ∷ left → more ≡ all ++ reply ∷ []
        → IsDoneTo step old mid requests rest first all → IsDone step mid new request reply → IsDoneTo step old new requests left first more
    done_more mid new rest left all more request reply popped added to one =
        let exchange : Exchange G S N = record { request = request; reply = reply; events = one.events; after = new } in
        let asked : List (HostRequest G S N) = map (λ (e : Exchange G S N). e.request) to.exchanges in
        let said : List HostReply = map (λ (e : Exchange G S N). e.reply) to.exchanges in
        let events : all_events (to.exchanges ++ exchange ∷ []) ≡ all_events to.exchanges ++ one.events =
        flat_map-append (λ (e : Exchange G S N). e.events) to.exchanges (exchange ∷ []) ∙ ap (λ (es : List CoreEvent). all_events to.exchanges ++ es) (append-nil one.events) in
        record {
          exchanges = to.exchanges ++ exchange ∷ [];
          split =
              to.split ∙ ap (λ (rs : List (HostRequest G S N)). asked ++ rs) popped ∙ sym (append_assoc asked (request ∷ []) left)
              ∙ ap (λ (rs : List (HostRequest G S N)). rs ++ left) (sym (map-append (λ (e : Exchange G S N). e.request) to.exchanges (exchange ∷ [])));
          replies =
              added ∙ ap (λ (rs : List HostReply). rs ++ reply ∷ []) to.replies ∙ append_assoc first said (reply ∷ [])
              ∙ ap (λ (rs : List HostReply). first ++ rs) (sym (map-append (λ (e : Exchange G S N). e.reply) to.exchanges (exchange ∷ [])));
          are_exchanges = exchanges_push old new to.exchanges exchange mid to.are_exchanges one.done refl;
          played = subst (IsPlayed step (bare old.session) (bare new.session)) (sym events) (played_more step (bare old.session) (bare mid.session) (bare new.session) (all_events to.exchanges) one.events to.played (done_stands step mid new request reply one.events one.done).played);
        }

-- the links after one more reply
pub rings_more : (rings : List Ring) (first said all more : List HostReply) (reply : HostReply) → all ≡ first ++ said → more ≡ all ++ reply ∷ [] → fold rings_after rings (drop (length first) more) ≡ rings_after (fold rings_after rings (drop (length first) all)) reply
rings_more rings first said all more reply told added =
    let was : drop (length first) all ≡ said = ap (drop (length first)) told ∙ drop-append_seam first said in
    let now : drop (length first) more ≡ said ++ reply ∷ [] =
    ap (drop (length first)) (added ∙ ap (λ (rs : List HostReply). rs ++ reply ∷ []) told ∙ append_assoc first said (reply ∷ [])) ∙ drop-append_seam first (said ++ reply ∷ []) in
    ap (fold rings_after rings) now ∙ fold-append rings_after rings said (reply ∷ []) ∙ ap (λ (rs : List HostReply). rings_after (fold rings_after rings rs) reply) (sym was)

-- a link that was there stays
module _ {G S N : Type 0} where
  stays_own : (rings more : List Ring) (request : HostRequest G S N) → EndsOwn rings request → EndsOwn (rings ++ more) request
  stays_own rings more (EndLink link finished) h =
      let inside : link < length rings = slice_get_within rings link finished.ring h in
      let longer : link < length (rings ++ more) = omega (arith, inside, length-append rings more) in
      slice_get-get_or (rings ++ more) link finished.ring longer ∙ ap Some (get_or_append_left rings more finished.ring link inside ∙ get_or_from_slice_get rings link finished.ring finished.ring h)
  stays_own rings more (Asks request) h = tt
  stays_own rings more Pump h = tt
  stays_own rings more Absorb h = tt
  stays_own rings more (Speculate player words until) h = tt
  stays_own rings more AddLink h = tt
  stays_own rings more (ReserveLog count) h = tt
  stays_own rings more Close h = tt

  pub own_after : (rings : List Ring) (reply : HostReply) (request : HostRequest G S N) → EndsOwn rings request → EndsOwn (rings_after rings reply) request
  own_after rings (LinkAdded (Ok sender)) request h = stays_own rings (sender.ring ∷ []) request h
  own_after rings (LinkAdded (Err why)) request h = h
  own_after rings (Says said) request h = h
  own_after rings (HasPumped pumped) request h = h
  own_after rings (HasAbsorbed absorbed) request h = h
  own_after rings (HasSpeculated said) request h = h
  own_after rings (LinkEnded count) request h = h
  own_after rings (LogReserved said) request h = h
  own_after rings Closed request h = h
