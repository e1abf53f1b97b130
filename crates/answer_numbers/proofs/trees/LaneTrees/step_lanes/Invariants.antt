use Rattle.std.proofs.Common.{◌*◌}
use Rattle.answer_numbers.specs.Trees.{AreGrown}
use Rattle.answer_numbers.proofs.GrownLemmas.{lanes_done}
use Rattle.answer_numbers.proofs.trees.LaneTrees.step_lanes.Given as goal

abbrev pub invariant-loop-at : goal.invariant-loop-at
invariant-loop-at l = AreGrown l.position (lanes_done (l.place * l.initial.self.lanes) l.lanes (l.at * 64)) l.initial.self l.self
