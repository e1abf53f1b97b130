use Rattle.text_fields.proofs.Cuts.{found_nowhere, cut_at}
use Rattle.text_fields.proofs.cutting.cut.Goals as goal

pub returns-in-None : goal.returns-in-None
returns-in-None c = found_nowhere _ _ c.in-None.ensures

pub returns-in-Some : goal.returns-in-Some
returns-in-Some c = cut_at _ _ _ c.in-Some.ensures.0.high c.in-Some.ensures.0.before c.in-Some.ensures.1
