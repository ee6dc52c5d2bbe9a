use Rattle.roll_peer.specs.declared.digests.TheConstants.{DIGEST_LIMIT}
use Rattle.roll_peer.proofs.Nearest.{nearest_lies, noted_reaches}
use Rattle.roll_peer.proofs.digests.Digests.nearest.Goals as goal

pub returns-clause-between : goal.returns-clause-between
returns-clause-between c = rw c.nearest_among.ensures (nearest_lies c.args.self.now c.args.from c.args.to DIGEST_LIMIT)

pub returns-clause-no_nearer : goal.returns-clause-no_nearer
returns-clause-no_nearer c =
    rw c.nearest_among.ensures (λ frame low up. noted_reaches c.args.self.now c.args.from c.args.to frame low up)
