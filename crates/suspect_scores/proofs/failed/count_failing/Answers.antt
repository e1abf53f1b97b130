use Rattle.std.proofs.Common.{◌∙◌}
use Rattle.suspect_scores.proofs.FailedLemmas.{failing_rows}
use Rattle.suspect_scores.proofs.failed.count_failing.Goals as goal

pub returns : goal.returns
returns c = λ setting lines table is are. c.count_rows.ensures ∙ failing_rows table lines c.args.logged.now.marks (is.marks_are table are)
