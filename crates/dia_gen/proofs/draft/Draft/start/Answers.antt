use Rattle.std.proofs.lemmas.Result.{err_from_is_err_and}
use Rattle.dia_gen.proofs.BeginLemmas.{head_broken, patterns_broken, draft_started}
use Rattle.dia_gen.proofs.draft.Draft.start.Goals as goal

pub returns-in_err-add_head-clause-err : goal.returns-in_err-add_head-clause-err
returns-in_err-add_head-clause-err g c =
    let p = err_from_is_err_and c.from_residual.result c.from_residual.ensures.1 in
    rw (p.1, p.2) (head_broken c.requires c.in_err-add_head.ensures)

pub returns-in_err-write_patterns-clause-err : goal.returns-in_err-write_patterns-clause-err
returns-in_err-write_patterns-clause-err g c =
    let p = err_from_is_err_and c.from_residual-in_err-write_patterns.result c.from_residual-in_err-write_patterns.ensures.1 in
    rw (p.1, p.2) (patterns_broken c.requires c.vectors.ensures.keeper c.in_ok-add_head.ensures (rw c.vectors.ensures.value at c.in_err-write_patterns.ensures))

pub returns-clause-draft : goal.returns-clause-draft
returns-clause-draft g c = draft_started c.requires c.vectors.ensures.keeper c.in_ok-add_head.ensures (rw c.vectors.ensures.value at c.in_ok-write_patterns.ensures)
