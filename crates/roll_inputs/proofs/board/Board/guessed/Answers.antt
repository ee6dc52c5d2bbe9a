use Rattle.std.proofs.Common.{◌≡◌, ◌-◌, ◌<◌, ◌∙◌, ℕ, List, Some, ap, set, length, get_or, false, arith}
use Rattle.std.proofs.lemmas.List.{length-map, length-set}
use Rattle.roll_frame.specs.declared.row.Cell.{Cell}
use Rattle.roll_frame.specs.Inputs.{player_at, changed, with_words}
use Rattle.roll_frame.specs.Timeline.{Player, cell_at, row_at}
use Rattle.roll_inputs.specs.Boards.{Inputs, players_of}
use Rattle.roll_inputs.specs.Queues.{Known}
use Rattle.roll_inputs.proofs.Cells.{refilled}
use Rattle.roll_inputs.proofs.Players.{is_at, player_there, queue_is, row_changed}
use Rattle.roll_inputs.proofs.board.Board.guessed.Goals as goal

pub returns : goal.returns
returns c =
    let players : List Player = c.args.self.now.players in
    let queues : List Known = c.self.inside.queues.items in
    let p : ℕ = c.args.player in
    let t : ℕ = c.args.frame in
    let x = player_there players p (λ (y : Player). y.gone ≡ false) c.requires.there in
    let same : players_of queues ≡ players = ap (λ (b : Inputs). b.players) c.self.view_is in
    let at : player_at (players_of queues) p ≡ Some x.0 = ap (λ (ps : List Player). player_at ps p) same ∙ x.1 in
    let within : p - 1 < length queues = omega (arith, (is_at (players_of queues) p x.0 at).within, length-map queues (λ (q : Known). q.player)) in
    let place : c.from-place.result - 1 ≡ p - 1 = ap (λ (n : ℕ). n - 1) c.from-place.ensures in
    let found : c.index.result.now ≡ get_or queues (p - 1) c.index.result.now = c.index.ensures ∙ ap (λ (n : ℕ). get_or queues n c.index.result.now) place in
    let queue : c.index.result.now.player ≡ x.0 = queue_is queues p x.0 c.index.result.now at found within in
    let row : c.cells-cells.result.items ≡ row_at players t = c.cells-cells.ensures ∙ c.row.ensures in
    let cell : c.guessed.result ≡ cell_at t (with_words c.args.words.now x.0) = c.guessed.ensures ∙ ap (λ (y : Player). cell_at t (with_words c.args.words.now y)) queue in
    let written : set c.deref_mut.result.now (c.from-place.result - 1) c.guessed.result ≡ row_at (changed (with_words c.args.words.now) players p) t =
    rw (c.deref_mut.ensures.value, row, place, cell) (row_changed (with_words c.args.words.now) players p t x.0 x.1) in
    let long : length (set c.deref_mut.result.now (c.from-place.result - 1) c.guessed.result) ≡ length c.cells-cells.result.items =
    length-set c.deref_mut.result.now (c.from-place.result - 1) c.guessed.result ∙ ap (λ (cs : List Cell). length cs) c.deref_mut.ensures.value in
    c.from_cells.ensures ∙ c.as_slice.ensures.value ∙ refilled c.cells-cells.result.items (set c.deref_mut.result.now (c.from-place.result - 1) c.guessed.result) long ∙ written
