use Rattle.std.proofs.Common.{◌≡◌, ℕ, List, subst, arith, filter, flat_map}
use Rattle.std.specs.List.{range_with_len}
use Rattle.net_model.specs.ClassTable.{class_count, members, begins_class, new_lowest}
use Rattle.class_refine.specs.Steps.{ArePieces}
use Rattle.class_refine.proofs.Ranges.{parts_more}
use Rattle.class_refine.proofs.classes.Classes.pieces.Goals as goal

pub loop-class-preserved : goal.loop-class-preserved
loop-class-preserved c =
    let part : ℕ → List ℕ = λ class. filter (begins_class c.args.self.now c.args.answers.now) (members c.args.self.now class) in
    rw (parts_more part c.loop-class.class) (c.in_ok-add_pieces.ensures _ c.loop-class.invariant)

pub returns : goal.returns
unfolding new_lowest
returns c =
    let t = c.args.self.now in
    let row = c.args.answers.now in
    let all : c.loop-class.class ≡ class_count t = omega (arith, c.loop-class-test.false, c.loop-class.auto.class-end, c.count-class-end.ensures.value) in
    subst (λ n. ArePieces t row (flat_map (λ class. filter (begins_class t row) (members t class)) (range_with_len 0 n)) c.loop-class.pieces.groups.items c.loop-class.pieces.parents.items) all c.loop-class.invariant
