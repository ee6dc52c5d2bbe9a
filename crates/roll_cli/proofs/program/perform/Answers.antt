use Rattle.roll_cli.proofs.program.perform.Goals as goal

pub returns-in-Certify-clause-plays : goal.returns-in-Certify-clause-plays
returns-in-Certify-clause-plays g c = rw c.in-Certify.is c.certify.ensures.plays
