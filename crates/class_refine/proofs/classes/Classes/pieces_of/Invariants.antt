use Rattle.std.proofs.Common.{List, Bool}
use Rattle.std.specs.BTreeMap.{get}
use Rattle.class_refine.specs.Leavers.{AreLeavers}
use Rattle.class_refine.proofs.LeaverTurns.{list_order, AreSoFar}
use Rattle.class_refine.proofs.classes.Classes.pieces_of.Given as goal

abbrev pub invariant-loop-leaver : goal.invariant-loop-leaver
invariant-loop-leaver l = (row : List (List Bool)) → AreLeavers l.self row l.leavers l.positions → AreSoFar l.self row l.leavers l.positions l.leaver-index l.pieces.groups.items l.pieces.parents.items (get list_order l.begun)
