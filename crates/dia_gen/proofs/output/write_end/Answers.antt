use Rattle.std.proofs.Common.{◌≡◌, ◌∙◌, [], ◌∷◌, ◌++◌, length, sym}
use Rattle.std.proofs.lemmas.Result.{err_from_is_err_and}
use Rattle.text_fields.specs.Fields.{Text}
use Rattle.result_records.specs.Spelling.{text_of}
use Rattle.result_records.specs.declared.record.Record.TheVariants.{End}
use Rattle.result_file.proofs.SoundLemmas.{sound_circuit}
use Rattle.result_file.proofs.Truth.{AreSound}
use Rattle.class_refine.proofs.PatternTables.{table_numbers}
use Rattle.dia_gen.specs.Marked.{AreMarkedBelow}
use Rattle.dia_gen.specs.Made.{IsMadeFrom}
use Rattle.dia_gen.proofs.EndLemmas.{lines_then, all_written, lines, classes, members, classes_broken, members_broken, end_broken, last_broken, summary_with, whole_made}
use Rattle.dia_gen.proofs.Written.{made_closed}
use Rattle.dia_gen.proofs.output.write_end.Given as given
use Rattle.dia_gen.proofs.output.write_end.Goals as goal
use Rattle.dia_gen.proofs.output.write_end.Goals.{After-count_marks-marked}

pub returns-in_err-write_classes-clause-err : goal.returns-in_err-write_classes-clause-err
returns-in_err-write_classes-clause-err g c =
    let p = err_from_is_err_and c.from_residual.result c.from_residual.ensures.1 in
    rw (p.1, p.2) (classes_broken c.requires.1.0 c.requires.1.1 (rw c.classes-classes.ensures.value at c.in_err-write_classes.ensures))

pub write_members-requires-clause-numbers : goal.write_members-requires-clause-numbers
write_members-requires-clause-numbers g c = rw c.classes-classes.ensures.value (c.numbers-numbers.ensures.value ∙ sym (table_numbers c.requires.1.0.is.keeper.table))

pub write_members-requires-clause-whole : goal.write_members-requires-clause-whole
write_members-requires-clause-whole g c = rw c.classes-classes.ensures.value c.requires.1.0.is.marks.whole

pub write_members-requires-clause-marked : goal.write_members-requires-clause-marked
write_members-requires-clause-marked g c = rw c.classes-classes.ensures.value c.requires.1.1

pub returns-in_err-write_members-clause-err : goal.returns-in_err-write_members-clause-err
returns-in_err-write_members-clause-err g c =
    let p = err_from_is_err_and c.from_residual-in_err-write_members.result c.from_residual-in_err-write_members.ensures.1 in
    let first = lines_then (lines c.requires.1.0 c.requires.1.1) (classes c.requires.1.0 c.requires.1.1) c.requires.1.0.written (rw c.classes-classes.ensures.value at c.in_ok-write_classes.ensures) in
    rw (p.1, p.2) (members_broken c.requires.1.0 c.requires.1.1 first (rw c.classes-classes.ensures.value at c.in_err-write_members.ensures))

pub returns-in_err-add_line-clause-err : goal.returns-in_err-add_line-clause-err
returns-in_err-add_line-clause-err g c =
    let p = err_from_is_err_and c.from_residual-in_err-add_line.result c.from_residual-in_err-add_line.ensures.1 in
    let first = lines_then (lines c.requires.1.0 c.requires.1.1) (classes c.requires.1.0 c.requires.1.1) c.requires.1.0.written (rw c.classes-classes.ensures.value at c.in_ok-write_classes.ensures) in
    let second = lines_then (lines c.requires.1.0 c.requires.1.1 ++ classes c.requires.1.0 c.requires.1.1) (members c.requires.1.0 c.requires.1.1) first (rw c.classes-classes.ensures.value at c.in_ok-write_members.ensures) in
    rw (p.1, p.2) (end_broken c.requires.1.0 c.requires.1.1 second c.in_err-add_line.ensures)

pub returns-in_err-write_out-clause-err : goal.returns-in_err-write_out-clause-err
returns-in_err-write_out-clause-err g c =
    let d = c.requires.1.0 in
    let all = c.requires.1.1 in
    let p = err_from_is_err_and c.from_residual-in_err-write_out.result c.from_residual-in_err-write_out.ensures.1 in
    let first = lines_then (lines d all) (classes d all) d.written (rw c.classes-classes.ensures.value at c.in_ok-write_classes.ensures) in
    let second = lines_then (lines d all ++ classes d all) (members d all) first (rw c.classes-classes.ensures.value at c.in_ok-write_members.ensures) in
    let third = lines_then (lines d all ++ classes d all ++ members d all) (End ∷ []) second c.in_ok-add_line.ensures in
    rw (p.1, p.2) (last_broken d all third c.in_err-write_out.ensures.gathers)

pub count_marks-marked-requires-clause-numbers : goal.count_marks-marked-requires-clause-numbers
count_marks-marked-requires-clause-numbers g c = rw c.classes-classes.ensures.value (c.numbers-numbers.ensures.value ∙ sym (table_numbers c.requires.1.0.is.keeper.table))

-- ---- what was made

abbrev file : (g : given.Over) (c : After-count_marks-marked g) → Text
file g c = text_of (lines c.requires.1.0 c.requires.1.1 ++ classes c.requires.1.0 c.requires.1.1 ++ members c.requires.1.0 c.requires.1.1 ++ End ∷ [])

sound : (g : given.Over) (c : After-count_marks-marked g) → AreSound c.args.setting.now.circuit
sound g c = sound_circuit c.args.setting.now.circuit c.requires.1.0.is.keeper.circuit c.same_root_equal.ensures c.covering_is_equal.ensures c.leaves_are_closed.ensures c.full_tree_is_covered.ensures

made : (g : given.Over) (c : After-count_marks-marked g)
    → IsMadeFrom c.args.setting.now.circuit c.args.setting.now.vectors c.args.setting.now.budgets (summary_with c.args.draft.now.keeper.kept.table c.count_marks-marked.result) (file g c)
made g c =
    let d = c.requires.1.0 in
    let t = c.args.draft.now.keeper.kept.table in
    let numbers : c.numbers-numbers.result ≡ length t.class_of = c.numbers-numbers.ensures.value ∙ sym (table_numbers d.is.keeper.table) in
    let counted : AreMarkedBelow t c.args.draft.now.marks (length t.class_of) c.count_marks-marked.result = rw (c.classes-classes.ensures.value, numbers) at c.count_marks-marked.ensures in
    whole_made d c.requires.1.1 (sound g c) c.count_marks-marked.result counted c.named_separates_faults.ensures

pub returns-clause-ok : goal.returns-clause-ok
returns-clause-ok g c =
    let d = c.requires.1.0 in
    let all = c.requires.1.1 in
    let at = (goal.at.returns-clause-ok g c).After-count_marks-marked in
    let numbers : c.numbers-numbers.result ≡ length c.args.draft.now.keeper.kept.table.class_of = c.numbers-numbers.ensures.value ∙ sym (table_numbers d.is.keeper.table) in
    let first = lines_then (lines d all) (classes d all) d.written (rw c.classes-classes.ensures.value at c.in_ok-write_classes.ensures) in
    let second = lines_then (lines d all ++ classes d all) (members d all) first (rw c.classes-classes.ensures.value at c.in_ok-write_members.ensures) in (
      file g at,
      rw (numbers, c.patterns.ensures.value, c.count.ensures.value, c.classes-classes.ensures.value) (made g at),
      all_written (lines_then (lines d all ++ classes d all ++ members d all) (End ∷ []) second c.in_ok-add_line.ensures) c.in_ok-write_out.ensures.gathers c.in_ok-write_out.ensures.empty,
    )

pub returns-clause-complete : goal.returns-clause-complete
returns-clause-complete g c = let at = (goal.at.returns-clause-complete g c).After-count_marks-marked in made_closed {file = file g at} (sound g at) (made g at)
