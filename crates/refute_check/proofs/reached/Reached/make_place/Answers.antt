use Rattle.std.proofs.Common.{refl}
use Rattle.refute_check.proofs.ReachedLemmas.{reached_place}
use Rattle.refute_check.proofs.reached.Reached.make_place.Goals as goal

pub loop-lit-preserved : goal.loop-lit-preserved
loop-lit-preserved c = λ clause is. reached_place c.loop-lit.self (record { marks = c.push.new.self; listed = c.loop-lit.self.listed }) clause c.in_ok-push.ensures.items refl (c.loop-lit.invariant clause is)
