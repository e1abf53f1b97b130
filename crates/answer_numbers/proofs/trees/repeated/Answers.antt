use Rattle.std.proofs.Common.{length, ap, arith}
use Rattle.answer_numbers.proofs.RootLemmas.{repeated_more}
use Rattle.answer_numbers.proofs.trees.repeated.Goals as goal

pub loop-time-init : goal.loop-time-init
loop-time-init c = record { count = omega (arith, ap length c.in_ok-all.ensures.items); each = λ k h. absurd (omega (arith, h)) }

pub loop-time-preserved : goal.loop-time-preserved
loop-time-preserved c = repeated_more c.loop-time.invariant c.in_ok-extend_from_slice.ensures.items
