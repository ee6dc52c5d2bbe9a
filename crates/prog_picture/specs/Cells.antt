-- The words that a picture shows.
use Rattle.std.specs.Prelude.{◌-◌, ◌&&◌, ℕ, Bool, false, true, List, Option, None, Some, nat_le, ◌==◌, if◌then◌else◌, slice_index_or}
use Rattle.std.specs.List.{filter_map, range_with_len}
use Rattle.std.specs.Option.{option_map}
use Rattle.prog_picture.specs.declared.cells.CellMark.{CellMark}
use Rattle.prog_picture.specs.declared.cells.Look.{Look}
use Rattle.prog_picture.specs.declared.cells.Look.TheVariants.{Known, Predicted, Wrong, Unheard}
use Rattle.prog_picture.specs.declared.cells.Run.{Run}
use Rattle.prog_picture.specs.declared.scene.Cell.{Cell}
use Rattle.prog_picture.specs.declared.view.View.{View}

-- what became of a word of a frame, which was shown so, and was heard in this frame, if it was: it was known when its frame
-- was first run; or it came late, and was shown so, or another was
abbrev pub look_at : ℕ → Cell → Option ℕ → Look
look_at frame cell None = Unheard
look_at frame cell (Some heard) = if nat_le heard frame then Known
    else (if cell.shown == cell.word then Predicted else Wrong)

abbrev pub look_of : CellMark → Look
look_of mark = look_at mark.frame mark.cell mark.cell.heard

abbrev pub is_known : Look → Bool
is_known Known = true
is_known look = false

-- whether a word goes on with a run: both were known in time, and are the same
abbrev pub goes_on : Run → CellMark → Bool
goes_on run mark =
    is_known (look_of run.first) && (is_known (look_of mark) && run.first.cell.word == mark.cell.word)

-- the word of a frame, unless none is known
abbrev pub mark_at : List (Option Cell) → ℕ → Option CellMark
mark_at cells frame =
    option_map (λ (cell : Cell). record { frame = frame; cell = cell }) (slice_index_or cells frame None)

-- those of the frames that are shown, in their order
abbrev pub cell_marks : View → List (Option Cell) → List CellMark
cell_marks view cells = filter_map (mark_at cells) (range_with_len view.from (view.to - view.from))
