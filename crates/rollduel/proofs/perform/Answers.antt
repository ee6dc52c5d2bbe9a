use Rattle.std.proofs.Common.{◌≡◌, ◌∙◌, ap, map, refl, Option, None, Some}
use Rattle.std.specs.Prelude.{option_map, string_bytes}
use Rattle.rollduel.specs.Requests.{Picture, picture_of, window_by}
use Rattle.rollduel.specs.declared.picture.PictureRequest.{PictureRequest}
use Rattle.rollduel.proofs.perform.Goals as goal

-- what a picture that is asked for is to show
window_of : (asked : Option PictureRequest) → option_map (λ (one : PictureRequest). one.window) asked ≡ option_map (λ (picture : Picture). picture.1) (picture_of asked)
window_of None = refl
window_of (Some asked) = refl

pub returns-in-Text-clause-shown_file : goal.returns-in-Text-clause-shown_file
returns-in-Text-clause-shown_file g c =
    let shows : c.sight_of-sight.result.window ≡ window_by (map string_bytes c.args.words.now) =
    ap (λ s. s.window) c.sight_of-sight.ensures ∙ window_of c.in_ok-line.line.picture ∙ ap (λ (o : Option Picture). option_map (λ (picture : Picture). picture.1) o) c.in_ok-line.ensures.picture in
    rw (← c.in_ok-line.ensures.request, c.in-Text.is, ← shows) c.answer-ending.ensures.shown_file

pub returns-in-Live-clause-live_file : goal.returns-in-Live-clause-live_file
returns-in-Live-clause-live_file g c = rw (← c.in_ok-line.ensures.request, c.in-Live.is) c.play_live-ending.ensures.file
