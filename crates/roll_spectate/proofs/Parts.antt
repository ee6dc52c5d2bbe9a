-- First parts of the settled rows.
use Rattle.std.proofs.Common.{◌≡◌, ◌≤◌, ◌∙◌, ℕ, List, length, min, take, refl, sym, ap, ◌<◌, ◌++◌, ◌∷◌, [], suc, Some, Bool, true, false, arith}
use Rattle.std.specs.Prelude.{None, nat_lt, if◌then◌else◌}
use Rattle.std.proofs.lemmas.Bool.Decides.{nat_tests}
use Rattle.std.proofs.lemmas.Grind.{common_steps}
use Rattle.std.proofs.Math.Seq.{take-length}
use Rattle.std.proofs.lemmas.List.{length-take, take-append-le}
use Rattle.roll_frame.specs.Cells.{Rows}
use Rattle.roll_frame.specs.Core.{settled}
use Rattle.roll_frame.specs.Events.{replay}
use Rattle.roll_frame.specs.Games.{Game}
use Rattle.roll_frame.specs.Timeline.{Player, timeline, row_at}
use Rattle.roll_frame.specs.declared.row.Cell.{Cell}
use Rattle.roll_frame.specs.declared.entry.Entry.{Entry}
use Rattle.roll_frame.specs.declared.limits.TheConstants.{FRAME_LIMIT}
use Rattle.roll_frame.specs.declared.settings.Settings.{Settings}
use Rattle.roll_frame.proofs.Timelines.{length_timeline}
use Rattle.roll_laws.specs.Sessions.{IsLog}
use Rattle.roll_laws.proofs.Bounds.{frames_end}
use Rattle.roll_laws.proofs.Fronts.{settled_is}
use Rattle.roll_laws.proofs.Glue.{always_holds}
use Rattle.roll_laws.proofs.Saved.{take_timeline}
use Rattle.roll_laws.proofs.Sound.{Sound, sound_played}
use Rattle.roll_laws.proofs.Starts.{starts_are_small}
use Rattle.roll_spectate.specs.Sent.{IsFirstPart}

-- no more rows are settled than a session has frames
pub few_settled : (settings : Settings) (game : Game) (log : List Entry) → IsLog settings game log → settled (replay settings log) ≤ FRAME_LIMIT
few_settled settings game log l =
    let core = replay settings log in
    let low = (settled_is core (always_holds Sound sound_played settings game log l).root).0 in
    let frame : core.frame ≤ settings.limit = always_holds (λ settings core. core.frame ≤ settings.limit) frames_end settings game log l in
    let limit = (starts_are_small settings l.starts).few_frames in
    omega (arith, low, frame, limit)

-- a first part of the timeline is the timeline up to its length
pub part_is_time : (players : List Player) (m : ℕ) (rows : Rows) → IsFirstPart rows (timeline players m) → (rows ≡ timeline players (length rows)) × (length rows ≤ m)
part_is_time players m rows e =
    let n : length rows ≡ min (length rows) (length (timeline players m)) = ap length e ∙ length-take (length rows) (timeline players m) in
    let low : length rows ≤ m = omega (arith, n, length_timeline players m) in
    (e ∙ take_timeline players (length rows) m low, low)

pub time_is_part : (players : List Player) (m : ℕ) (rows : Rows) → rows ≡ timeline players (length rows) → length rows ≤ m → IsFirstPart rows (timeline players m)
time_is_part players m rows e l = e ∙ sym (take_timeline players (length rows) m l)

-- what is read of the settled rows: a row where one is, the one of its frame
pub row_read : (players : List Player) (m frame : ℕ) (row : List Cell) → Some row ≡ (if nat_lt frame m then Some (row_at players frame) else None) → (frame < m) × (row ≡ row_at players frame)
row_read players m frame row e = go (nat_lt frame m) refl e
  where
    go : (b : Bool) → nat_lt frame m ≡ b → Some row ≡ (if b then Some (row_at players frame) else None) → (frame < m) × (row ≡ row_at players frame)
    go true lt e = (grind (arith, nat_tests, lt), cc e)
    go false lt e = absurd (cc e)

pub none_read : (players : List Player) (m frame : ℕ) → None ≡ (if nat_lt frame m then Some (row_at players frame) else None) → m ≤ frame
none_read players m frame e = go (nat_lt frame m) refl e
  where
    go : (b : Bool) → nat_lt frame m ≡ b → None ≡ (if b then Some (row_at players frame) else None) → m ≤ frame
    go true lt e = absurd (cc e)
    go false lt e = grind (arith, nat_tests, lt)

-- one row more
pub one_longer : (rows : Rows) (row : List Cell) (new : Rows) → new ≡ rows ++ row ∷ [] → length new ≡ suc (length rows)
one_longer rows row new made = ap length made ∙ grind (arith, common_steps)

-- with the timeline's next row, a first part of it stays one
pub next_part : (players : List Player) (m : ℕ) (rows : Rows) (row : List Cell) (new : Rows) → length rows < m → row ≡ row_at players (length rows) → new ≡ rows ++ row ∷ [] → IsFirstPart rows (timeline players m) → IsFirstPart new (timeline players m)
next_part players m rows row new there is made first =
    let n : length new ≡ suc (length rows) = one_longer rows row new made in
    let e : rows ≡ timeline players (length rows) = (part_is_time players m rows first).0 in
    let time : new ≡ timeline players (length new) = rw n (rw made (ap (λ q. q ++ row ∷ []) e ∙ ap (λ r. timeline players (length rows) ++ r ∷ []) is)) in
    time_is_part players m new time (omega (arith, n, there))

-- a first part stays one where a row is added
pub part_more : (old rows : Rows) (row : List Cell) (new : Rows) → IsFirstPart old rows → new ≡ rows ++ row ∷ [] → IsFirstPart old new
part_more old rows row new e made =
    let n : length old ≡ min (length old) (length rows) = ap length e ∙ length-take (length old) rows in
    let low : length old ≤ length rows = omega (arith, n) in
    e ∙ sym (take-append-le (length old) rows (row ∷ []) low) ∙ ap (take (length old)) (sym made)

-- rows are a first part of themselves
pub part_itself : (rows : Rows) → IsFirstPart rows rows
part_itself rows = sym (take-length rows)
