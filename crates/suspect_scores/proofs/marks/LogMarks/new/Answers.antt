use Rattle.std.proofs.Common.{◌∙◌}
use Rattle.dict_rows.proofs.RowLemmas.{zeros_begun}
use Rattle.suspect_scores.proofs.marks.LogMarks.new.Goals as goal

pub mark_all-requires-clause-begun : goal.mark_all-requires-clause-begun
mark_all-requires-clause-begun c =
    let lines = c.patterns.ensures.value ∙ c.requires.lines in
    record {
      frees = zeros_begun _ _ _ _ _ c.in_ok-zeros.ensures lines c.positions.ensures.value;
      wrongs = zeros_begun _ _ _ _ _ c.in_ok-zeros-2.ensures lines c.positions.ensures.value;
      rights = zeros_begun _ _ _ _ _ c.in_ok-zeros-3.ensures lines c.positions.ensures.value;
    }
