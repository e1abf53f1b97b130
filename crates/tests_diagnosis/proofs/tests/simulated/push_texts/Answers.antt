use Rattle.std.proofs.Common.{◌∙◌, List, Bool, length, ap, arith}
use Rattle.sim_listing.specs.VectorTexts.{VectorTexts}
use Rattle.tests_diagnosis.proofs.tests.simulated.push_texts.Goals as goal

pub loop-number-init : goal.loop-number-init
loop-number-init c = ap (λ (t : VectorTexts). t.vectors) c.in_ok-texts.ensures

pub push_text-requires : goal.push_text-requires
push_text-requires c = omega (arith, ap (length {A = List Bool}) c.loop-number.invariant)

pub loop-number-preserved : goal.loop-number-preserved
loop-number-preserved c = c.in_ok-push_text.ensures.vectors ∙ c.loop-number.invariant
