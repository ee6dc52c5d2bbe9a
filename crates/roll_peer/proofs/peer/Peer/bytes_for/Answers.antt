use Rattle.std.proofs.Common.{◌∙◌, refl, sym}
use Rattle.roll_wire.specs.Spelling.{turn, Greets, Plays}
use Rattle.roll_peer.proofs.peer.Peer.bytes_for.Goals as goal

pub returns-then-says_hello-clause-sent : goal.returns-then-says_hello-clause-sent
returns-then-says_hello-clause-sent g c = record {
  content = Greets c.hello-hello.result;
  fits = (
    rw (← c.self.view_is, ← c.from.ensures) (sym c.says_hello.ensures ∙ c.if-says_hello.true),
    rw (← c.self.view_is, c.hello-hello.ensures, c.terms.ensures, c.opening.ensures, c.hello_echo.ensures, c.from.ensures) refl,
  );
  spelled = c.sealed_for.ensures.fits;
  text = c.sealed_for.ensures.said;
}

pub returns-else-says_hello-clause-sent : goal.returns-else-says_hello-clause-sent
returns-else-says_hello-clause-sent g c = record {
  content = Plays (turn c.play_for-play.result);
  fits = (
    rw (← c.self.view_is, ← c.from.ensures) (sym c.says_hello.ensures ∙ c.if-says_hello.false),
    c.play_for-play.ensures.told,
  );
  spelled = c.sealed_for-else-says_hello.ensures.fits;
  text = c.sealed_for-else-says_hello.ensures.said;
}
