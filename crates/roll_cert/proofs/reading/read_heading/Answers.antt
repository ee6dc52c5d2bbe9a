use Rattle.std.proofs.Common.{◌≤◌, refl, arith, codes, length}
use Rattle.roll_frame.specs.declared.limits.TheConstants.{FRAME_LIMIT}
use Rattle.roll_text.specs.declared.streams.TheConstants.{TEXT_LIMIT}
use Rattle.roll_cert.specs.Reading.{IsWithin}
use Rattle.roll_cert.specs.Texts.{IsUnreadable}
use Rattle.roll_cert.proofs.Begun.{Base, From, Players, Time, at_first, possible_base, possible_from, possible_players}
use Rattle.roll_cert.proofs.Remains.{IsLeft, Number, handed_on, number_read, number_wrong}
use Rattle.roll_cert.proofs.reading.read_heading.Goals as goal

pub returns-in_err-version-clause-err : goal.returns-in_err-version-clause-err
returns-in_err-version-clause-err c =
    let s0 = at_first c.args.lines.now.rest.now c.args.lines.now.rest.now c.args.lines.now.next refl c.requires in
    let short : length c.args.lines.now.rest.now ≤ TEXT_LIMIT = omega (arith, c.args.lines.now.short, c.requires) in
    handed_on c.from_residual.result c.in_err-version.field-0.0 (λ why. IsUnreadable why c.args.lines.now.rest.now) c.from_residual.ensures.1 (number_wrong (codes "rollcert ") 1 2 Players c.args.lines.now.rest.now c.args.lines.now.rest.now c.args.lines.now.next c.in_err-version.field-0.0 short s0 c.in_err-version.ensures.err)

pub returns-in_err-players-clause-err : goal.returns-in_err-players-clause-err
returns-in_err-players-clause-err c =
    let s0 = at_first c.args.lines.now.rest.now c.args.lines.now.rest.now c.args.lines.now.next refl c.requires in
    let s1 = number_read (codes "rollcert ") 1 2 Players c.args.lines.now.rest.now c.args.lines.now.rest.now c.number.new.self.rest.now c.args.lines.now.next c.number.new.self.next c.in_ok-version.version (omega arith) s0 c.in_ok-version.ensures.ok c.in_ok-version.ensures.next (possible_players c.in_ok-version.version) in
    let p1 : IsLeft (Number (codes "players ") (IsWithin c.least_players.result c.most_players.result) Base) c.args.lines.now.rest.now c.number.new.self.rest.now c.number.new.self.next = rw (c.least_players.ensures, c.most_players.ensures) s1 in
    let short : length c.args.lines.now.rest.now ≤ TEXT_LIMIT = omega (arith, c.args.lines.now.short, c.requires) in
    handed_on c.from_residual-in_err-players.result c.in_err-players.field-0.0 (λ why. IsUnreadable why c.args.lines.now.rest.now) c.from_residual-in_err-players.ensures.1 (number_wrong (codes "players ") c.least_players.result c.most_players.result Base c.args.lines.now.rest.now c.number.new.self.rest.now c.number.new.self.next c.in_err-players.field-0.0 short p1 c.in_err-players.ensures.err)

pub returns-in_err-base-clause-err : goal.returns-in_err-base-clause-err
returns-in_err-base-clause-err c =
    let s0 = at_first c.args.lines.now.rest.now c.args.lines.now.rest.now c.args.lines.now.next refl c.requires in
    let s1 = number_read (codes "rollcert ") 1 2 Players c.args.lines.now.rest.now c.args.lines.now.rest.now c.number.new.self.rest.now c.args.lines.now.next c.number.new.self.next c.in_ok-version.version (omega arith) s0 c.in_ok-version.ensures.ok c.in_ok-version.ensures.next (possible_players c.in_ok-version.version) in
    let p1 : IsLeft (Number (codes "players ") (IsWithin c.least_players.result c.most_players.result) Base) c.args.lines.now.rest.now c.number.new.self.rest.now c.number.new.self.next = rw (c.least_players.ensures, c.most_players.ensures) s1 in
    let s2 = number_read (codes "players ") c.least_players.result c.most_players.result Base c.args.lines.now.rest.now c.number.new.self.rest.now c.number-2.new.self.rest.now c.number.new.self.next c.number-2.new.self.next c.in_ok-players.players (omega (arith, c.most_players.type_inv)) p1 c.in_ok-players.ensures.ok c.in_ok-players.ensures.next (possible_base c.in_ok-players.players) in
    let short : length c.args.lines.now.rest.now ≤ TEXT_LIMIT = omega (arith, c.args.lines.now.short, c.requires) in
    handed_on c.from_residual-in_err-base.result c.in_err-base.field-0.0 (λ why. IsUnreadable why c.args.lines.now.rest.now) c.from_residual-in_err-base.ensures.1 (number_wrong (codes "base ") 0 FRAME_LIMIT (From c.in_ok-players.players) c.args.lines.now.rest.now c.number-2.new.self.rest.now c.number-2.new.self.next c.in_err-base.field-0.0 short s2 c.in_err-base.ensures.err)

pub returns-in_err-from-clause-err : goal.returns-in_err-from-clause-err
returns-in_err-from-clause-err c =
    let s0 = at_first c.args.lines.now.rest.now c.args.lines.now.rest.now c.args.lines.now.next refl c.requires in
    let s1 = number_read (codes "rollcert ") 1 2 Players c.args.lines.now.rest.now c.args.lines.now.rest.now c.number.new.self.rest.now c.args.lines.now.next c.number.new.self.next c.in_ok-version.version (omega arith) s0 c.in_ok-version.ensures.ok c.in_ok-version.ensures.next (possible_players c.in_ok-version.version) in
    let p1 : IsLeft (Number (codes "players ") (IsWithin c.least_players.result c.most_players.result) Base) c.args.lines.now.rest.now c.number.new.self.rest.now c.number.new.self.next = rw (c.least_players.ensures, c.most_players.ensures) s1 in
    let s2 = number_read (codes "players ") c.least_players.result c.most_players.result Base c.args.lines.now.rest.now c.number.new.self.rest.now c.number-2.new.self.rest.now c.number.new.self.next c.number-2.new.self.next c.in_ok-players.players (omega (arith, c.most_players.type_inv)) p1 c.in_ok-players.ensures.ok c.in_ok-players.ensures.next (possible_base c.in_ok-players.players) in
    let s3 = number_read (codes "base ") 0 FRAME_LIMIT (From c.in_ok-players.players) c.args.lines.now.rest.now c.number-2.new.self.rest.now c.number-3.new.self.rest.now c.number-2.new.self.next c.number-3.new.self.next c.in_ok-base.base (omega arith) s2 c.in_ok-base.ensures.ok c.in_ok-base.ensures.next (possible_from c.in_ok-players.players c.in_ok-base.base) in
    let short : length c.args.lines.now.rest.now ≤ TEXT_LIMIT = omega (arith, c.args.lines.now.short, c.requires) in
    handed_on c.from_residual-in_err-from.result c.in_err-from.field-0.0 (λ why. IsUnreadable why c.args.lines.now.rest.now) c.from_residual-in_err-from.ensures.1 (number_wrong (codes "from ") 0 4294967295 (λ from. Time c.in_ok-players.players c.in_ok-base.base) c.args.lines.now.rest.now c.number-3.new.self.rest.now c.number-3.new.self.next c.in_err-from.field-0.0 short s3 c.in_err-from.ensures.err)
