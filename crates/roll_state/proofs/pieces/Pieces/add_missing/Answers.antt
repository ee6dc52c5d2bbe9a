use Rattle.std.proofs.Common.{◌≡◌, ◌<◌, ◌≤◌, ℕ, List, Bool, not, length, true, false, ap, sym, ◌∙◌, arith}
use Rattle.roll_state.specs.Taking.{is_missing, is_there, Held}
use Rattle.roll_state.proofs.Asking.{added, adds, is_full, passes}
use Rattle.roll_state.proofs.pieces.Pieces.add_missing.Goals as goal
use Rattle.roll_state.proofs.pieces.Pieces.add_missing.Goals.{then-len-most+then-not-is_there, else-len-most, else-len-most-via-then-len-most+else-not-is_there, else-len-most-via-else-len-most}

missing_as : (held : Held) (place : ℕ) (found : Bool) (b : Bool) → found ≡ is_there held place
    → found ≡ b → is_missing held.from place ≡ not b
missing_as held place found b e h = ap not (sym e ∙ h)

pub loop-place-preserved : goal.loop-place-preserved
loop-place-preserved c =
    let held : Held = c.args.self.now in
    let first : List ℕ = c.args.places.now.items in
    let places : List ℕ = c.loop-place.places.items in
    let place : ℕ = c.loop-place.place in
    let here : place < c.args.end = c.loop-place-test.true in
    elim c.if-len-most.branch [
      | then-len-most+then-not-is_there w ↦
          let h : is_missing held.from place ≡ true =
          missing_as held place w.is_there.result false w.is_there.ensures w.if-not-is_there.true in
          let room : length places < c.args.most = omega (arith, w.if-len-most.true, c.len.ensures.value) in
          rw (w.places-is, w.push.ensures.items)
          (adds held.from c.args.most first places c.args.start place c.args.end here room h
          c.loop-place.invariant)
      | else-len-most w ↦ rw w.places-is (elim w.else-len-most.branch [
        | else-len-most-via-then-len-most+else-not-is_there v ↦
            let h : is_missing held.from place ≡ false =
            missing_as held place v.is_there.result true v.is_there.ensures
            v.if-not-is_there.false in
            passes held.from c.args.most first places c.args.start place c.args.end here h
            c.loop-place.invariant
        | else-len-most-via-else-len-most v ↦
            let full : c.args.most ≤ length places =
            omega (arith, v.if-len-most.false, c.len.ensures.value) in
            is_full held.from c.args.most first places c.args.start place c.args.end full
            c.loop-place.invariant
      ])
    ]

pub returns : goal.returns
returns c =
    added c.args.self.now.from c.args.most c.args.places.now.items c.loop-place.places.items
    c.args.start c.loop-place.place c.args.end c.loop-place-test.false c.loop-place.invariant
