use Rattle.std.proofs.Common.{◌≡◌, ◌++◌, List, ℕ, take, ap, ◌∙◌}
use Rattle.std.specs.Int.{w64, from_be_bytes}
use Rattle.sha2.specs.Sha256.{sha256}
use Rattle.roll_wire.specs.Spelling.{long}
use Rattle.roll_state.specs.Spelling.{digest_with, name}
use Rattle.roll_state.proofs.name.StateName.digest_with.Goals as goal

pub returns : goal.returns
unfolding digest_with
returns c =
    let text : c.deref.result.now ≡ long c.args.digest ++ name c.args.self.now =
    c.deref.ensures.0 ∙ c.put_name.ensures.items
    ∙ ap (λ (bs : List ℕ). bs ++ name c.args.self.now) (c.put_u64.ensures.items
    ∙ ap (λ (bs : List ℕ). bs ++ long c.args.digest) c.new-text.ensures) in
    c.first_number.ensures
    ∙ ap (λ (bs : List ℕ). from_be_bytes w64 (take 8 bs))
    (c.digest_of.ensures ∙ ap sha256 text)
