use Rattle.std.proofs.Common.{◌∙◌, refl, ap}
use Rattle.std.specs.Prelude.{slice_get}
use Rattle.fault_collapse.proofs.Numbers.{stem_listed}
use Rattle.fault_collapse.proofs.roots.stem_number.Goals as goal

pub unwrap-requires : goal.unwrap-requires
unwrap-requires c =
    let at = stem_listed c.args.circuit.now c.args.line c.args.bit c.requires.line in
    rw ((c.number_of.ensures at.0).1 (ap (λ xs. slice_get xs at.0) c.requires.faults ∙ at.1)) refl
