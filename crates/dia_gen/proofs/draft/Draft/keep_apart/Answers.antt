use Rattle.std.proofs.Common.{sym, subst}
use Rattle.std.proofs.lemmas.Bool.{both_ways}
use Rattle.std.proofs.lemmas.Result.{err_from_is_err_and}
use Rattle.net_model.specs.Circuit.{Circuit}
use Rattle.kept_vectors.specs.Keeper.{SeparatesMember}
use Rattle.dia_gen.proofs.DraftSteps.{draft_broken, more_classes, marks_stay, some_added, pattern_written, inside_kept, looked_apart}
use Rattle.dia_gen.proofs.draft.Draft.keep_apart.Goals as goal

pub keep_apart-requires : goal.keep_apart-requires
keep_apart-requires g c = inside_kept c.requires.1.0.is c.args.member c.requires.1.1

pub write_last-requires : goal.write_last-requires
write_last-requires g c =
    let is = c.requires.1.0.is in
    let one = c.in-Ok-true.ensures.apart c.in-Ok-true.field-0-test in
    some_added is c.args.member c.requires.1.1 one.0 (looked_apart is c.args.member c.requires.1.1 one.0 one.1 one.2) c.keep_apart.new.self one.3 c.vectors.result.now c.vectors.ensures.value

pub returns-in_err-write_last-in-Ok-true-clause-err : goal.returns-in_err-write_last-in-Ok-true-clause-err
returns-in_err-write_last-in-Ok-true-clause-err g c =
    let d = c.requires.1.0 in
    let one = c.in-Ok-true.ensures.apart c.in-Ok-true.field-0-test in
    let apart = looked_apart d.is c.args.member c.requires.1.1 one.0 one.1 one.2 in
    let p = err_from_is_err_and c.from_residual.result c.from_residual.ensures.1 in
    rw (p.1, p.2) (pattern_written d.is c.args.member c.requires.1.1 one.0 apart c.keep_apart.new.self one.3 c.in-Ok-true.ensures.circuit c.in-Ok-true.ensures.looked d.written c.vectors.result.now c.vectors.ensures.value _ c.in_err-write_last-in-Ok-true.ensures).1

pub returns-in_ok-write_last-in-Ok-true-clause-draft : goal.returns-in_ok-write_last-in-Ok-true-clause-draft
returns-in_ok-write_last-in-Ok-true-clause-draft g c =
    let d = c.requires.1.0 in
    let one = c.in-Ok-true.ensures.apart c.in-Ok-true.field-0-test in
    let apart = looked_apart d.is c.args.member c.requires.1.1 one.0 one.1 one.2 in
    (pattern_written d.is c.args.member c.requires.1.1 one.0 apart c.keep_apart.new.self one.3 c.in-Ok-true.ensures.circuit c.in-Ok-true.ensures.looked d.written c.vectors.result.now c.vectors.ensures.value _ c.in_ok-write_last-in-Ok-true.ensures).0

pub returns-in_ok-write_last-in-Ok-true-clause-more : goal.returns-in_ok-write_last-in-Ok-true-clause-more
returns-in_ok-write_last-in-Ok-true-clause-more g c = λ _.
    let is = c.requires.1.0.is in
    let one = c.in-Ok-true.ensures.apart c.in-Ok-true.field-0-test in
    more_classes is c.args.member c.requires.1.1 one.0 (looked_apart is c.args.member c.requires.1.1 one.0 one.1 one.2) c.keep_apart.new.self one.3

pub returns-in_ok-write_last-in-Ok-true-clause-stay : goal.returns-in_ok-write_last-in-Ok-true-clause-stay
returns-in_ok-write_last-in-Ok-true-clause-stay g c = λ _.
    let is = c.requires.1.0.is in
    let one = c.in-Ok-true.ensures.apart c.in-Ok-true.field-0-test in
    marks_stay is c.args.member c.requires.1.1 one.0 (looked_apart is c.args.member c.requires.1.1 one.0 one.1 one.2) c.keep_apart.new.self one.3

pub returns-in-Ok-false-clause-none : goal.returns-in-Ok-false-clause-none
returns-in-Ok-false-clause-none g c = λ _ v there separates.
    c.in-Ok-false.ensures.none (both_ways c.in-Ok-false.field-0 c.in-Ok-false.field-0-test) v there
    (subst (λ (circuit : Circuit). SeparatesMember circuit c.args.self.now.keeper.kept.table c.args.member v) (sym c.requires.1.0.is.circuit) separates)

pub returns-in-Err-clause-err : goal.returns-in-Err-clause-err
returns-in-Err-clause-err g c = draft_broken c.requires.1.0
