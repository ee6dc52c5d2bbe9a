use Rattle.std.proofs.Common.{◌≡◌, ◌++◌, rules}
use Rattle.std.specs.List.{flat_map}
use Rattle.std.specs.String.{string_bytes}
use Rattle.prog_picture.proofs.Texts.{two_more}
use Rattle.prog_picture.specs.Rolls.{roll_marks, roll_text}
use Rattle.prog_picture.specs.Views.{view_of}
use Rattle.prog_picture.proofs.drawing.draw.Goals as goal

pub returns : goal.returns
returns c =
    let scene = c.args.scene.now in
    let front = string_bytes c.in_ok-picture.picture in
    let end = string_bytes c.in_ok-end.end in
    let numbered = string_bytes c.push_rolls.new.out in
    let rolls = flat_map roll_text (roll_marks (view_of scene) scene.rolls.items) in
    let drawn : numbered ≡ front ++ rolls = search rules in
    let closed : string_bytes c.push_str.new.self ≡ numbered ++ end = search rules in
    record {
      before = front;
      after = end;
      whole = two_more front rolls end numbered (string_bytes c.push_str.new.self) drawn closed;
      none_before = c.in_ok-picture.ensures;
      none_after = c.in_ok-end.ensures;
    }
