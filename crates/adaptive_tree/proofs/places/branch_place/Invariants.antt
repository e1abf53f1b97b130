use Rattle.text_fields.specs.Fields.{digit_bits}
use Rattle.adaptive_tree.specs.Places.{HasBranchesAt}
use Rattle.adaptive_tree.proofs.PlaceLemmas.{AreLeft}
use Rattle.adaptive_tree.proofs.places.branch_place.Given as goal

abbrev pub invariant-loop-left : goal.invariant-loop-left
invariant-loop-left l = (given : HasBranchesAt l.steps l.first l.count) → AreLeft l.steps l.at l.left (digit_bits l.digits) given.branches

abbrev pub decreases-loop-left : goal.decreases-loop-left
decreases-loop-left l = l.left
