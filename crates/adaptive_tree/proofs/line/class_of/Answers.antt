use Rattle.adaptive_tree.proofs.FormLemmas.{no_class, class_is}
use Rattle.adaptive_tree.proofs.line.class_of.Goals as goal

pub returns-in_err-class : goal.returns-in_err-class
returns-in_err-class c = rw c.from_residual.ensures (no_class c.args.field.now c.in_err-class.ensures)

pub returns : goal.returns
returns c = class_is c.args.field.now c.in_ok-class.class c.in_ok-class.ensures.0 c.in_ok-class.ensures.1
