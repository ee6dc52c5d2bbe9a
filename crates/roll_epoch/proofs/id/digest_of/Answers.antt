use Rattle.std.proofs.Common.{[], ◌++◌, ◌∙◌, ap, append_assoc}
use Rattle.sha2.specs.Sha256.{sha256}
use Rattle.roll_epoch.proofs.id.digest_of.Goals as goal

pub returns : goal.returns
returns c =
    let a = c.args.first.now in
    let b = c.args.second.now in
    let d = c.args.third.now in
    let e = c.args.fourth.now in
    c.finalize.ensures (((a ++ b) ++ d) ++ e)
    (c.update-4.ensures ((a ++ b) ++ d) (c.update-3.ensures (a ++ b) (c.update-2.ensures a (c.update.ensures [] c.new-hasher.ensures))))
    ∙ ap sha256 (append_assoc (a ++ b) d e ∙ append_assoc a b (d ++ e))
