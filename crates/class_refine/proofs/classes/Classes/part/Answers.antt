use Rattle.std.specs.Prelude.{Bool, List}
use Rattle.std.proofs.lemmas.Result.{IfOk-weaker}
use Rattle.class_refine.specs.Leavers.{AreLeavers}
use Rattle.class_refine.specs.Steps.{AreLeaving, HasCut}
use Rattle.class_refine.proofs.classes.Classes.part.Goals as goal

pub returns-clause-cut : goal.returns-clause-cut
returns-clause-cut c =
    let old = c.args.self.now in
    let new = c.cut_off.new.self in
    let pieces = c.in_ok-pieces.pieces in
    IfOk-weaker c.cut_off.result (λ added. (row : List (List Bool)) → AreLeaving old row pieces.groups.items pieces.parents.items → HasCut old new row added)
    (λ added. (row : List (List Bool)) → AreLeavers old row c.args.leavers.now c.args.positions.now → HasCut old new row added) (λ added all row are. all row (c.in_ok-pieces.ensures row are)) c.cut_off.ensures.cut
