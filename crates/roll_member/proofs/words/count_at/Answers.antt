use Rattle.std.proofs.Common.{◌≡◌, ◌∙◌, ap, length, refl, Option, Some, None}
use Rattle.std.specs.Prelude.{unwrap_or}
use Rattle.std.specs.Option.{option_map}
use Rattle.roll_frame.specs.Timeline.{Player}
use Rattle.roll_member.proofs.Players.{words_in}
use Rattle.roll_member.proofs.words.count_at.Goals as goal

counted : (player : Option Player)
    → unwrap_or (option_map (λ (p : Player). length p.words) player) 0 ≡ length (words_in player)
counted None = refl
counted (Some player) = refl

pub returns : goal.returns
returns g c = c.unwrap_or.ensures ∙ ap (λ count. unwrap_or count 0) c.confirmed.ensures ∙ counted _
