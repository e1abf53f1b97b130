use Rattle.std.specs.Prelude.{filter, flat_map, take}
use Rattle.net_model.specs.ClassTable.{members, begins_class}
use Rattle.class_refine.specs.Steps.{ArePieces}
use Rattle.class_refine.proofs.classes.Classes.pieces_in.Given as goal

abbrev pub invariant-loop-class : goal.invariant-loop-class
invariant-loop-class l =
    ArePieces l.self l.answers (flat_map (λ class. filter (begins_class l.self l.answers) (members l.self class)) (take l.class-index l.classes)) l.pieces.groups.items l.pieces.parents.items
