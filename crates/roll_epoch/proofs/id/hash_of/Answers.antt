use Rattle.std.proofs.Common.{[], ◌++◌, ◌∙◌, ap}
use Rattle.sha2.specs.Sha256.{sha256}
use Rattle.roll_epoch.specs.Ids.{first_number}
use Rattle.roll_epoch.proofs.id.hash_of.Goals as goal

pub returns : goal.returns
returns c =
    c.first_number.ensures
    ∙ ap first_number (c.digest_of.ensures
    ∙ (λ k. sha256 (c.to_be_bytes.ensures k ++ (c.to_be_bytes-2.ensures k ++ ([] ++ [])))))
