use Rattle.std.proofs.Common.{◌≡◌, ◌∙◌, ◌/◌, ◌*◌, ◌≤◌, ◌+◌, ◌++◌, ◌∷◌, [], arith, length, min, refl, sym, vec_capacity}
use Rattle.std.proofs.lemmas.List.{length-map}
use Rattle.roll_frame.specs.Words.{word_of}
use Rattle.roll_inputs.specs.Recorded.{rows_of}
use Rattle.roll_inputs.proofs.Recorded.{length_seen, players_seen, room_seen, row_added, still_full, words_room}
use Rattle.roll_inputs.proofs.record.Record.push.Goals as goal

pub append_words-requires : goal.append_words-requires
append_words-requires c =
    let i = c.self.inside in
    let one : length i.words.items + 1 * i.players ≤ vec_capacity i.words = words_room i c.args.self.now 1 c.self.invariant c.self.view_is (omega (arith, c.requires.room)) in
    rw c.words.ensures (omega (arith, one, c.requires.wide, length-map c.args.row.now word_of, players_seen i c.args.self.now c.self.view_is))

pub push_reserved-requires : goal.push_reserved-requires
push_reserved-requires c =
    let i = c.self.inside in
    omega (arith, c.requires.room, length_seen i c.args.self.now c.self.view_is, room_seen i c.args.self.now c.self.view_is, i.gone.ok)

pub invariant_of-self : goal.invariant_of-self
invariant_of-self c =
    let i = c.self.inside in
    let wide = c.requires.wide ∙ sym (players_seen i c.args.self.now c.self.view_is) in
    record {
      some = c.self.invariant.some;
      few = c.self.invariant.few;
      full = rw (c.push_reserved.ensures.items, c.append_words.ensures.items, c.words.ensures) (still_full i c.gone_bits.result c.args.row.now c.self.invariant wide);
    }

pub returns : goal.returns
returns c =
    let i = c.self.inside in
    let wide = c.requires.wide ∙ sym (players_seen i c.args.self.now c.self.view_is) in
    let rows : rows_of i.players c.push_reserved.new.self.items c.append_words.new.words.items ≡ rows_of i.players i.gone.items i.words.items ++ c.args.row.now ∷ [] =
    rw (c.push_reserved.ensures.items, c.append_words.ensures.items, c.words.ensures, c.gone_bits.ensures) (row_added i c.args.row.now c.self.invariant wide) in
    let room : min (vec_capacity c.push_reserved.new.self) (vec_capacity c.append_words.new.words / i.players) ≡ min (vec_capacity i.gone) (vec_capacity i.words / i.players) =
    rw (c.push_reserved.ensures.capacity, c.append_words.ensures.capacity) refl in
    rw (← c.self.view_is) (λ k. record { players = i.players; rows = rows k; room = room k })
