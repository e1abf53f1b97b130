use Rattle.std.proofs.Common.{◌≡◌, ◌∙◌, List, None, Some, refl, ap, sym}
use Rattle.std.specs.Prelude.{Option, filter_map, length}
use Rattle.bench_reader.specs.declared.statement.Statement.{Statement}
use Rattle.bench_reader.specs.declared.statement.Word.{Word}
use Rattle.bench_reader.specs.Drivers.{driven_word, missing_driver, repeated_word, fault_by, driver_fault}
use Rattle.bench_reader.proofs.NumberLemmas.{unmarked_is}
use Rattle.bench_reader.proofs.drivers.fault_of.Goals as goal

-- if no name is driven twice, the fault of the drivers is the first use without a driver
fault_without : (ss : List Statement) (missing : Option Word) → repeated_word (filter_map driven_word ss) ≡ None → missing_driver ss ≡ missing → driver_fault ss ≡ fault_by None missing
fault_without ss missing once is = ap (λ o. fault_by o (missing_driver ss)) once ∙ ap (fault_by None) is

pub returns-in_err-word : goal.returns-in_err-word
returns-in_err-word c =
    let ss = c.args.statements.now in
    let count = length c.args.marks.now in
    let once = sym (rw c.requires.driven at c.in_default.ensures.repeated) in
    let marks = rw c.requires.driven at (c.in_default.ensures.marked refl) in
    let missing = sym (unmarked_is count ss c.mark_words.new.marks c.requires.numbered marks) ∙ (sym c.first_unmarked.ensures ∙ c.in_err-word.was) in
    c.from_residual.ensures ∙ sym (fault_without ss None once missing)

pub returns : goal.returns
returns c =
    let ss = c.args.statements.now in
    let count = length c.args.marks.now in
    let once = sym (rw c.requires.driven at c.in_default.ensures.repeated) in
    let marks = rw c.requires.driven at (c.in_default.ensures.marked refl) in
    let missing = sym (unmarked_is count ss c.mark_words.new.marks c.requires.numbered marks) ∙ (sym c.first_unmarked.ensures ∙ c.in_ok-word.was) in
    sym (fault_without ss (Some c.in_ok-word.word) once missing)
