use Rattle.std.proofs.Common.{[]}
use Rattle.std.proofs.lemmas.Bool.Decides.{Decides-eqb}
use Rattle.std.proofs.lemmas.Slice.Eq.{slice_eq-Decides}
use Rattle.net_model.proofs.RowLemmas.{same_by_words}
use Rattle.net_model.proofs.rows.AnswerRows.same_rows.Goals as goal

pub returns : goal.returns
returns c =
    let test = slice_eq-Decides Decides-eqb c.row_words.result.now c.row_words-2.result.now c.eq.result c.eq.ensures in
    let same = same_by_words c.row_words.ensures.packed c.row_words-2.ensures.packed (c.row_words-2.ensures.one_width c.args.a [] c.requires.a) in
    (λ t. same.0 (test.0 t), λ e. test.1 (same.1 e))
