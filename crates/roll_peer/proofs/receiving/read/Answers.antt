use Rattle.std.proofs.Common.{◌≡◌, List, ℕ, Result, Ok, Err, true}
use Rattle.std.specs.Prelude.{IfOk}
use Rattle.roll_wire.specs.declared.datagram.Datagram.{Datagram}
use Rattle.roll_wire.specs.declared.fault.WireFault.{WireFault}
use Rattle.roll_wire.specs.Spelling.{content, message, spelling, Fits}
use Rattle.roll_peer.specs.Marks.{is_spelled_in}
use Rattle.roll_peer.proofs.Marked.{spelled_in}
use Rattle.roll_peer.proofs.receiving.read.Goals as goal

spelled_so : (r : Result Datagram WireFault) (text : List ℕ) → IfOk r (λ d. Fits (message d) × (text ≡ spelling (message d)))
    → IfOk r (λ d. is_spelled_in (content d.body) ≡ true)
spelled_so (Ok d) text h = spelled_in (content d.body) h.0.content
spelled_so (Err e) text h = tt

pub returns-then-takes_marks-clause-spelled : goal.returns-then-takes_marks-clause-spelled
returns-then-takes_marks-clause-spelled c = spelled_so c.decode.result c.args.text.now c.decode.ensures.found

pub returns-else-takes_marks-clause-spelled : goal.returns-else-takes_marks-clause-spelled
returns-else-takes_marks-clause-spelled c = spelled_so c.decode_unmarked.result c.args.text.now c.decode_unmarked.ensures.found
