use Rattle.std.proofs.Common.{◌≡◌, ◌-◌, ◌<◌, ◌∙◌, ap, sym, arith, length, get_or}
use Rattle.roll_frame.specs.declared.limits.TheConstants.{TREE_LIMIT}
use Rattle.roll_frame.specs.Cells.{Rows}
use Rattle.roll_inputs.specs.Boards.{Inputs}
use Rattle.roll_session.specs.Grafting.{ahead_of, possible_to}
use Rattle.roll_session.proofs.NewStates.{hung_few, hung_fits, hung_more, hung_start, left_some, place_fits, rest_fits}
use Rattle.roll_session.proofs.Rolling.{if_some}
use Rattle.roll_session.proofs.place.add_new_states.Goals as goal

pub without_first-left-requires : goal.without_first-left-requires
without_first-left-requires g c =
    let old = c.args.saves.now in
    let route = c.args.route.now in
    omega (arith, c.of-place.ensures.kept, c.start_of.ensures.start, c.requires.many, c.requires.possible, rest_fits old route)

pub loop-frame-init : goal.loop-frame-init
loop-frame-init g c =
    let old = c.args.saves.now in
    let route = c.args.route.now in
    hung_start old route c.args.states.items c.of-place.result.kept_to c.of-place.ensures.kept c.requires.base c.requires.reached c.requires.from c.without_first-left.result.items c.of-place.result.node c.laws.ensures.base c.of-place.ensures.node (rw (sym c.start_of.ensures.start) c.without_first-left.ensures)

pub unwrap-snapshot-requires : goal.unwrap-snapshot-requires
unwrap-snapshot-requires g c =
    let old = c.args.saves.now in
    let route = c.args.route.now in
    let now = c.loop-frame.invariant in
    let high : c.loop-frame.frame < possible_to old.inputs route = omega (arith, c.of-place.ensures.possible, c.loop-frame-test.true) in
    omega (arith, left_some old route c.args.states.items c.of-place.result.kept_to c.of-place.ensures.kept c.requires.base c.requires.reached c.requires.from c.loop-frame.saves c.loop-frame.left.items c.loop-frame.frame c.loop-frame.at now high c.requires.many, c.loop-frame.left.ok.0)

pub bounds-deref-frame : goal.bounds-deref-frame
bounds-deref-frame g c =
    let old = c.args.saves.now in
    let route = c.args.route.now in
    let now = c.loop-frame.invariant in
    let high : c.loop-frame.frame < possible_to old.inputs route = omega (arith, c.of-place.ensures.possible, c.loop-frame-test.true) in
    omega (arith, place_fits old route c.args.states.items c.of-place.result.kept_to c.of-place.ensures.kept c.requires.base c.requires.reached c.requires.from c.loop-frame.saves c.loop-frame.left.items c.loop-frame.frame c.loop-frame.at now high, ap length (c.deref.ensures.0 ∙ c.of-place.ensures.ahead), c.settled-settled.ensures, ap (λ (i : Inputs). i.settled) c.board.ensures)

pub add_state-at-requires-clause-fits : goal.add_state-at-requires-clause-fits
add_state-at-requires-clause-fits g c =
    let old = c.args.saves.now in
    let route = c.args.route.now in
    let now = c.loop-frame.invariant in
    let high : c.loop-frame.frame < possible_to old.inputs route = omega (arith, c.of-place.ensures.possible, c.loop-frame-test.true) in
    let row : c.index-deref-frame.result ≡ get_or (ahead_of old.inputs route) (c.loop-frame.frame - old.inputs.settled) c.index-deref-frame.result =
    c.index-deref-frame.is ∙ ap (λ (rows : Rows). get_or rows (c.loop-frame.frame - c.settled-settled.result) c.index-deref-frame.result) (c.deref.ensures.0 ∙ c.of-place.ensures.ahead) ∙ ap (λ n. get_or (ahead_of old.inputs route) (c.loop-frame.frame - n) c.index-deref-frame.result) (c.settled-settled.ensures ∙ ap (λ (i : Inputs). i.settled) c.board.ensures) in
    hung_fits old route c.args.states.items c.of-place.result.kept_to c.of-place.ensures.kept c.requires.base c.requires.reached c.requires.from c.loop-frame.saves c.loop-frame.left.items c.loop-frame.frame c.loop-frame.at now high c.index-deref-frame.result row c.requires.near (omega (arith, c.laws.ensures.reached, c.laws.ensures.short))

pub add_state-at-requires-clause-few : goal.add_state-at-requires-clause-few
add_state-at-requires-clause-few g c =
    let old = c.args.saves.now in
    let route = c.args.route.now in
    let now = c.loop-frame.invariant in
    let high : c.loop-frame.frame < possible_to old.inputs route = omega (arith, c.of-place.ensures.possible, c.loop-frame-test.true) in
    hung_few old route c.args.states.items c.of-place.result.kept_to c.of-place.ensures.kept c.requires.base c.requires.reached c.requires.from c.loop-frame.saves c.loop-frame.left.items c.loop-frame.frame c.loop-frame.at now high TREE_LIMIT c.requires.fits

pub loop-frame-preserved : goal.loop-frame-preserved
loop-frame-preserved g c =
    let old = c.args.saves.now in
    let route = c.args.route.now in
    let now = c.loop-frame.invariant in
    let high : c.loop-frame.frame < possible_to old.inputs route = omega (arith, c.of-place.ensures.possible, c.loop-frame-test.true) in
    let row : c.index-deref-frame.result ≡ get_or (ahead_of old.inputs route) (c.loop-frame.frame - old.inputs.settled) c.index-deref-frame.result =
    c.index-deref-frame.is ∙ ap (λ (rows : Rows). get_or rows (c.loop-frame.frame - c.settled-settled.result) c.index-deref-frame.result) (c.deref.ensures.0 ∙ c.of-place.ensures.ahead) ∙ ap (λ n. get_or (ahead_of old.inputs route) (c.loop-frame.frame - n) c.index-deref-frame.result) (c.settled-settled.ensures ∙ ap (λ (i : Inputs). i.settled) c.board.ensures) in
    hung_more old route c.args.states.items c.of-place.result.kept_to c.of-place.ensures.kept c.requires.base c.requires.reached c.requires.from c.loop-frame.saves c.loop-frame.left.items c.loop-frame.frame c.loop-frame.at now high c.add_state-at.new.self c.pop_front.new.self.items c.add_state-at.result c.unwrap-snapshot.result c.index-deref-frame.result row (sym (if_some c.pop_front.result c.unwrap-snapshot.result (λ x. x ≡ get_or c.loop-frame.left.items 0 x) c.unwrap-snapshot.ensures c.pop_front.ensures.lookup)) c.pop_front.ensures.rest c.add_state-at.ensures.inputs c.add_state-at.ensures.room c.add_state-at.ensures.vacant c.add_state-at.ensures.added
