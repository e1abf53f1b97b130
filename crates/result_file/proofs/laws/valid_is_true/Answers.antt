use Rattle.std.proofs.Common.{◌∙◌, refl, ap}
use Rattle.result_records.specs.Spelling.{text_of}
use Rattle.result_file.proofs.ValidTrue.{valid_true}
use Rattle.result_file.proofs.SoundLemmas.{sound_circuit, sound_tables}
use Rattle.result_file.proofs.laws.valid_is_true.Goals as goal

pub returns-clause-records : goal.returns-clause-records
returns-clause-records c = λ circuit records is valid.
    valid_true circuit
    (sound_circuit circuit is c.same_root_equal.ensures c.covering_is_equal.ensures c.leaves_are_closed.ensures c.full_tree_is_covered.ensures)
    (sound_tables circuit c.named_separates_faults.ensures) records valid

pub returns-clause-file : goal.returns-clause-file
returns-clause-file c = λ circuit file is valid.
    let sound = sound_circuit circuit is c.same_root_equal.ensures c.covering_is_equal.ensures c.leaves_are_closed.ensures c.full_tree_is_covered.ensures in
    let told = valid_true circuit sound (sound_tables circuit c.named_separates_faults.ensures) valid.records valid.valid in
    (told.0.budgets, record { stated = told.0; text = valid.text ∙ ap text_of told.1; budgets_are = refl; is_true = told.2 })
