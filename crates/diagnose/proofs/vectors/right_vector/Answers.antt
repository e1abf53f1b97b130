use Rattle.diagnose.proofs.VectorLemmas.{refuse_wide_vector}
use Rattle.diagnose.proofs.vectors.right_vector.Goals as goal

pub returns-then-digits-sources : goal.returns-then-digits-sources
returns-then-digits-sources c = λ before.
    refuse_wide_vector c.args.sources before c.args.rest.now c.in-Some.digits.now c.in-Some.after.now c.in-Some.ensures c.if-digits-sources.true
