-- Two sessions with words held back that have the same parts are the same.
use mathlib.Core.HLevel.{is_prop→PathP}
use native.Mathlib.Bridge.{le_prop}
use Rattle.std.proofs.Common.{◌≡◌, ◌+◌, ◌≤◌, length}
use Rattle.std.proofs.Props.{props}
use Rattle.roll_session.specs.Changes.{FitsLog}
use Rattle.roll_session.specs.declared.networked.Networked as networked
use Rattle.roll_relay.specs.Told.{Fits}
use Rattle.roll_relay.specs.declared.session.HeldSession.{HeldSession}

pub same_held : {X : Type 0} {N : networked.Ghosts X} (a b : HeldSession X N) → a.session ≡ b.session → a.held ≡ b.held
    → a.reserved ≡ b.reserved → a ≡ b
same_held {N = N} a b session held reserved = λ i. record {
  session = session i;
  held = held i;
  reserved = reserved i;
  fits = is_prop→PathP (λ j. Fits (N.seen (session j).now) (held j).now.words.items) (λ j. hlevel props) a.fits b.fits i;
  room = is_prop→PathP (λ j. length (held j).now.words.items + reserved j ≤ (N.seen (session j).now).reserved) (λ j x y. le_prop x y) a.room b.room i;
  log = is_prop→PathP (λ j. FitsLog (N.seen (session j).now) (length (held j).now.words.items + reserved j)) (λ j x y. le_prop x y) a.log b.log i;
}
