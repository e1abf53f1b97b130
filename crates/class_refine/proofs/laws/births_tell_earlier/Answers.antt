use Rattle.class_refine.proofs.EarlierLemmas.{births_tell}
use Rattle.class_refine.proofs.laws.births_tell_earlier.Goals as goal

pub returns : goal.returns
returns c = births_tell
