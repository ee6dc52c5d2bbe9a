use Rattle.rollduel.proofs.EndingLemmas.{ends_refused, refused_out, unpictured_refused, unpictured_saved}
use Rattle.rollduel.proofs.run_words.Goals as goal

pub returns-in_default-clause-refused : goal.returns-in_default-clause-refused
returns-in_default-clause-refused g c = refused_out _ _ c.from.ensures

pub returns-in-Ok-perform-clause-unpictured : goal.returns-in-Ok-perform-clause-unpictured
returns-in-Ok-perform-clause-unpictured g c = λ none.
    unpictured_saved _ c.in-Ok-perform.done c.save.result _ _ _ c.save.ensures.saved c.in-Ok-perform.ensures.unpictured

pub returns-clause-refused : goal.returns-clause-refused
returns-clause-refused g c = ends_refused _ c.in-Err.error c.print.result c.in-Err.ensures.kinds c.print.ensures

pub returns-clause-unpictured : goal.returns-clause-unpictured
returns-clause-unpictured g c = unpictured_refused _ _ c.in-Err.error c.print.result c.in-Err.ensures.kinds c.print.ensures
