use Rattle.std.proofs.Common.{◌≡◌, ◌∙◌, None, Some, refl, sym, true}
use Rattle.std.specs.Int.{is_in_range}
use Rattle.roll_frame.specs.Settings.{most_players}
use Rattle.roll_frame.proofs.Faults.{faults_found, remote_of}
use Rattle.roll_frame.proofs.settings.Settings.fault.Goals as goal

pub returns-in-Some-long_delay : goal.returns-in-Some-long_delay
returns-in-Some-long_delay c =
    let s = c.args.self.now in
    let within : true ≡ is_in_range 1 (most_players s.profile) s.players = sym c.if-not-is_within.false ∙ (rw (c.from.ensures, c.player_limit.ensures, c.from-players.ensures) at c.is_within.ensures) in
    let local = sym c.if-not-has_local.false ∙ c.has_local.ensures in
    faults_found s true true None (Some c.in-Some-long_delay.player) (remote_of s) within local (sym c.in_default.is ∙ c.outsider.ensures.first) (rw c.in_default.is at c.outsider.ensures.some) c.in-Some-long_delay.ensures refl

pub returns-in-Some-remote_delay : goal.returns-in-Some-remote_delay
returns-in-Some-remote_delay c =
    let s = c.args.self.now in
    let within : true ≡ is_in_range 1 (most_players s.profile) s.players = sym c.if-not-is_within.false ∙ (rw (c.from.ensures, c.player_limit.ensures, c.from-players.ensures) at c.is_within.ensures) in
    let local = sym c.if-not-has_local.false ∙ c.has_local.ensures in
    faults_found s true true None None (Some c.in-Some-remote_delay.player) within local (sym c.in_default.is ∙ c.outsider.ensures.first) (rw c.in_default.is at c.outsider.ensures.some) (sym c.in_default-long_delay.is ∙ c.long_delay.ensures)
    c.in-Some-remote_delay.ensures

pub returns-in_default-remote_delay : goal.returns-in_default-remote_delay
returns-in_default-remote_delay c =
    let s = c.args.self.now in
    let within : true ≡ is_in_range 1 (most_players s.profile) s.players = sym c.if-not-is_within.false ∙ (rw (c.from.ensures, c.player_limit.ensures, c.from-players.ensures) at c.is_within.ensures) in
    let local = sym c.if-not-has_local.false ∙ c.has_local.ensures in
    c.limit_fault.ensures
    ∙ faults_found s true true None None None within local (sym c.in_default.is ∙ c.outsider.ensures.first) (rw c.in_default.is at c.outsider.ensures.some) (sym c.in_default-long_delay.is ∙ c.long_delay.ensures)
    (sym c.in_default-remote_delay.is ∙ c.remote_delay.ensures)
