use Rattle.std.proofs.Common.{◌≡◌, ◌∙◌, sym, ap, arith, length, refl, Some}
use Rattle.prog_scripts.specs.Headers.{mask_count}
use Rattle.prog_scripts.proofs.Headings.{same_values}
use Rattle.prog_scripts.proofs.header.from_values.Goals as goal
use Rattle.prog_scripts.proofs.header.from_values.Goals.{then-not-is_player-via-then-not-is_player, then-not-is_player-via-else-not-is_player+then-not-is_rising, then-len-players-via-then-len-players, then-len-players-via-else-len-players+then-len-masks_wanted}

pub returns-then-not-is_player-clause-complete : goal.returns-then-not-is_player-clause-complete
returns-then-not-is_player-clause-complete c = λ setup fits v p l d m t.
    let local = rw c.in-Some-2.is at c.in_ok-local.ensures in
    let delays = rw c.in-Some-3.is at c.in_ok-delays.ensures in
    let masks = rw c.in-Some-4.is at c.in_ok-masks.ensures in
    let same = same_values setup fits c.in-Some.players c.in-Some-number.threshold c.in-Some-2.local.items c.in-Some-3.delays.items c.in-Some-4.masks.items
    c.in-Some.ensures.0 c.in-Some-number.ensures.0 local.0 delays.0 masks.0
    (sym c.in-Some.ensures.1 ∙ p) (sym local.1 ∙ l) (sym delays.1 ∙ d) (sym masks.1 ∙ m) (sym c.in-Some-number.ensures.1 ∙ t) in
    elim c.then-not-is_player.branch [
      | then-not-is_player-via-then-not-is_player w ↦ let player = c.is_player.ensures.1 (omega (arith, fits.players, same.same_players), omega (arith, fits.players, same.same_players)) in absurd (cc (player, w.if-not-is_player.true))
      | then-not-is_player-via-else-not-is_player+then-not-is_rising w ↦ let rising = w.is_rising.ensures.1 (rw (w.deref.ensures.value, same.same_local) fits.rising) in absurd (cc (rising, w.if-not-is_rising.true))
    ]

pub returns-then-len-players-clause-complete : goal.returns-then-len-players-clause-complete
returns-then-len-players-clause-complete c = λ setup fits v p l d m t.
    let local = rw c.in-Some-2.is at c.in_ok-local.ensures in
    let delays = rw c.in-Some-3.is at c.in_ok-delays.ensures in
    let masks = rw c.in-Some-4.is at c.in_ok-masks.ensures in
    let same = same_values setup fits c.in-Some.players c.in-Some-number.threshold c.in-Some-2.local.items c.in-Some-3.delays.items c.in-Some-4.masks.items
    c.in-Some.ensures.0 c.in-Some-number.ensures.0 local.0 delays.0 masks.0
    (sym c.in-Some.ensures.1 ∙ p) (sym local.1 ∙ l) (sym delays.1 ∙ d) (sym masks.1 ∙ m) (sym c.in-Some-number.ensures.1 ∙ t) in
    elim c.then-len-players.branch [
      | then-len-players-via-then-len-players w ↦
          let n : length c.in-Some-3.delays.items ≡ setup.players = ap length same.same_delays ∙ fits.each in absurd (w.if-len-players.true (omega (arith, c.len.ensures, c.in-Some-3.delays.ok.0, same.same_players)))
      | then-len-players-via-else-len-players+then-len-masks_wanted w ↦
          let n : length c.in-Some-4.masks.items ≡ mask_count c.args.version c.in-Some.players = ap length same.same_masks ∙ fits.masked ∙ rw (v, same.same_players) refl in
          absurd (w.if-len-masks_wanted.true (omega (arith, n, w.len-else-len-players.ensures, w.masks_wanted.ensures, c.in-Some-4.masks.ok.0)))
    ]

pub returns-clause-complete : goal.returns-clause-complete
returns-clause-complete c = λ setup fits v p l d m t.
    let local = rw c.in-Some-2.is at c.in_ok-local.ensures in
    let delays = rw c.in-Some-3.is at c.in_ok-delays.ensures in
    let masks = rw c.in-Some-4.is at c.in_ok-masks.ensures in
    let same = same_values setup fits c.in-Some.players c.in-Some-number.threshold c.in-Some-2.local.items c.in-Some-3.delays.items c.in-Some-4.masks.items
    c.in-Some.ensures.0 c.in-Some-number.ensures.0 local.0 delays.0 masks.0
    (sym c.in-Some.ensures.1 ∙ p) (sym local.1 ∙ l) (sym delays.1 ∙ d) (sym masks.1 ∙ m) (sym c.in-Some-number.ensures.1 ∙ t) in
    λ i. Some (record {
      version = v i;
      players = same.same_players i;
      local = same.same_local i;
      delays = same.same_delays i;
      masks = same.same_masks i;
      threshold = same.same_threshold i;
    })
