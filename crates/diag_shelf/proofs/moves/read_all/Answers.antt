use Rattle.std.proofs.Common.{◌∙◌, sym}
use Rattle.diag_shelf.proofs.Steps.{facts_same, facts_after_read, read_done, read_failed, reads_more}
use Rattle.diag_shelf.proofs.moves.read_all.Goals as goal

pub returns-in_err-open_file-clause-call : goal.returns-in_err-open_file-clause-call
returns-in_err-open_file-clause-call g c = read_failed _ _ _ _ _ (facts_same _) c.in_err-open_file.ensures.call c.from_residual.ensures.1

pub returns-in_err-read_rest-clause-call : goal.returns-in_err-read_rest-clause-call
returns-in_err-read_rest-clause-call g c =
    read_failed _ _ _ _ _ (facts_after_read _ _ _ _ (facts_same _) c.in_ok-open_file.ensures.call) c.in_err-read_rest.ensures.call c.from_residual-in_err-read_rest.ensures.1

pub returns-clause-call : goal.returns-clause-call
returns-clause-call g c =
    read_done _ _ _ (facts_after_read _ _ _ _ (facts_after_read _ _ _ _ (facts_same _) c.in_ok-open_file.ensures.call) c.in_ok-read_rest.ensures.call)

pub returns-clause-bytes : goal.returns-clause-bytes
returns-clause-bytes g c = λ told.
    let opened = c.in_ok-open_file.ensures in
    let all = c.in_ok-read_rest.ensures.bytes (opened.call.tells ∙ told) in
    (all.0, sym (opened.opened told).rest ∙ all.1, all.2)

pub returns-clause-others : goal.returns-clause-others
returns-clause-others g c = λ told.
    let opened = c.in_ok-open_file.ensures in
    reads_more (opened.opened told).only (c.in_ok-read_rest.ensures.others (opened.call.tells ∙ told))
