use Rattle.std.proofs.Common.{◌≡◌, ◌∙◌, ℕ, subst, Ok, Err}
use Rattle.std.specs.Prelude.{IfErr, IfOk, OnErr, Result}
use Rattle.roll_relay.specs.Heard.{beside, PollsHeld}
use Rattle.roll_relay.specs.Told.{IsHeldFault}
use Rattle.roll_relay.specs.declared.fault.HeldFault.{HeldFault}
use Rattle.roll_relay.specs.declared.held.Held.{Held}
use Rattle.roll_peer.specs.Peered.{Peered}
use Rattle.roll_peer.specs.declared.refusal.PeerRefusal.{PeerRefusal}
use Rattle.roll_chain.specs.declared.epochs.Epochs.{Epochs}
use Rattle.roll_session.specs.Seen.{Seen}
use Rattle.roll_match.specs.Turning.{shared, PollsHere}
use Rattle.roll_match.specs.declared.one.Match.{Match}
use Rattle.roll_match.proofs.one.Match.begin.Goals as goal

polls_here : {S P E L : Type 0} (seen : S → Seen) (now : ℕ) (s t : S) (old : Match S P E L) (peer next : Peered) (held : Held) (epochs : Epochs P)
    → peer ≡ (shared old).peer → epochs ≡ (shared old).epochs → (said : Result (Result Unit PeerRefusal) HeldFault)
    → IfOk said (PollsHeld (beside (seen s) old.held.words.items peer) (beside (seen t) held.words.items next) now)
    → IfErr said (IsHeldFault (seen s) old.held.words.items)
    → OnErr said ((held ≡ old.held) × (t ≡ s) × (next ≡ peer))
    → PollsHere seen now s t (shared old) (record old { peer = next; held = held; epochs = epochs }) said
polls_here seen now s t old peer next held epochs is_peer is_epochs (Ok said) polled refused unchanged = (
  subst (λ (p : Peered). PollsHeld (beside (seen s) old.held.words.items p) (beside (seen t) held.words.items next) now said) is_peer polled,
  (λ k. record old { peer = next; held = held; epochs = is_epochs k }),
)
polls_here seen now s t old peer next held epochs is_peer is_epochs (Err why) polled refused unchanged = (
  refused,
  (λ k. record old { peer = (unchanged.2 ∙ is_peer) k; held = unchanged.0 k; epochs = is_epochs k }),
  unchanged.1,
)

pub returns : goal.returns
returns g c =
    let polled = record c.args.self.now { peer = c.poll-said.new.peer; held = c.poll-said.new.self; epochs = c.turn.new.self } in
    record {
      polled = polled;
      polls = polls_here g.S.Networked.seen c.args.now c.args.session.now c.poll-said.new.session c.args.self.now c.turn.new.peer c.poll-said.new.peer
          c.poll-said.new.self c.turn.new.self c.turn.ensures.peer c.turn.ensures.epochs c.poll-said.result c.poll-said.ensures.polled
          c.poll-said.ensures.refused c.poll-said.ensures.unchanged;
      waits = c.poll-said.ensures.waits;
      rest = λ k. record polled { relay = c.turn-2.ensures k; moment = c.args.now; gone_out = 0 };
    }
