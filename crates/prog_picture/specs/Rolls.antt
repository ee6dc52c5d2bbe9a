-- The rollbacks that a picture shows.
use Rattle.std.specs.Prelude.{◌≤◌, ◌-◌, ◌*◌, ◌%◌, ◌++◌, ◌&&◌, ℕ, Bool, EachIndex, List, codes, filter, map, nat_le, slice_index}
use Rattle.std.specs.Fmt.{decimal}
use Rattle.prog_picture.specs.Views.{x_of}
use Rattle.prog_picture.specs.declared.rolls.RollMark.{RollMark}
use Rattle.prog_picture.specs.declared.scene.Cause.{Cause}
use Rattle.prog_picture.specs.declared.scene.Cause.TheVariants.{Word, Leaving, Nothing}
use Rattle.prog_picture.specs.declared.scene.Roll.{Roll}
use Rattle.prog_picture.specs.declared.view.View.{View}

-- whether the frame that a rollback came to is shown, or follows the last one
abbrev pub is_shown : View → Roll → Bool
is_shown view roll = nat_le view.from roll.at && nat_le roll.at view.to

-- how many frames late, at this frame, came what made a rollback
abbrev pub late_of : ℕ → Cause → ℕ
late_of at (Word player frame) = at - frame
late_of at (Leaving player frame) = at - frame
late_of at Nothing = 0

-- the mark of a rollback: its numbers; how far its frames and GGPO's reach back; and a row of eight, by its frame
abbrev pub roll_mark : View → Roll → RollMark
roll_mark view roll = record {
  roll = roll;
  from = roll.at - roll.rerun;
  late = late_of roll.at roll.cause;
  rerun_x = x_of view (roll.at - roll.rerun);
  ggpo_x = x_of view (roll.at - roll.ggpo);
  end_x = x_of view roll.at;
  y = (roll.at % 8) * 12;
}

-- those of the rollbacks that are shown, each once, in their order
abbrev pub roll_marks : View → List Roll → List RollMark
roll_marks view rolls = map (roll_mark view) (filter (is_shown view) rolls)

-- none of the rollbacks ran more frames again
abbrev pub IsDeepest : List RollMark → ℕ → Type 0
IsDeepest marks most =
    let reruns = map (λ (mark : RollMark). mark.roll.rerun) marks in
    EachIndex reruns (λ k. slice_index reruns k ≤ most)

-- how many frames were run again, and from which on
abbrev pub numbers_text : RollMark → List ℕ
numbers_text mark =
    codes "<g><title>frame " ++ (decimal mark.roll.at ++ (codes ": " ++ (decimal mark.roll.rerun
    ++ (codes " run again, from " ++ (decimal mark.from ++ (codes " on; GGPO: " ++ decimal mark.roll.ggpo))))))

-- what made it: whose word, so many frames late, or who left
abbrev pub cause_of : ℕ → Cause → List ℕ
cause_of late (Word player frame) =
    codes ". Word of player " ++ (decimal player ++ (codes " for frame "
    ++ (decimal frame ++ (codes ", " ++ (decimal late ++ codes " late</title>")))))
cause_of late (Leaving player frame) =
    codes ". Player " ++ (decimal player ++ (codes " left, from frame " ++ (decimal frame ++ codes " on</title>")))
cause_of late Nothing = codes ". No word had changed</title>"

-- a bar of this style, from one place to another
abbrev pub bar_text : List ℕ → ℕ → ℕ → ℕ → List ℕ
bar_text style x y end =
    codes "<rect class=\"" ++ (style ++ (codes "\" x=\"" ++ (decimal x ++ (codes "\" y=\"" ++ (decimal y
    ++ (codes "\" width=\"" ++ (decimal (end - x) ++ codes "\" height=\"9\"/>")))))))

-- the element of a mark: its numbers, its cause, the frames that GGPO runs, and on them those that were run again
unfoldable pub roll_text : RollMark → List ℕ
roll_text mark =
    numbers_text mark ++ (cause_of mark.late mark.roll.cause ++ (bar_text (codes "o") mark.ggpo_x mark.y mark.end_x
    ++ (bar_text (codes "f") mark.rerun_x mark.y mark.end_x ++ codes "</g>\n")))
