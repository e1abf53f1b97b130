use Rattle.std.proofs.Common.{subst, Vec, Global}
use Rattle.std.specs.Prelude.{All, IfOk}
use Rattle.std.proofs.lemmas.Result.{IfOk-weaker}
use Rattle.pair_miter.specs.declared.split.Copies.{Copies}
use Rattle.pair_miter.specs.MiterView.{Miter}
use Rattle.pair_miter.specs.SplitLines.{AreSplitLines, AreVariables}
use Rattle.pair_miter.specs.Variables.{variable_count}
use Rattle.pair_miter.proofs.SplitLemmas.{split_within}
use Rattle.pair_miter.proofs.miter.Miter.split_lines.Goals as goal

pub returns-clause-inside : goal.returns-clause-inside
returns-clause-inside c =
    let q = c.self.inside.numbering in
    subst (λ (p : Miter). IfOk c.split_lines.result (λ lines. All (AreVariables (variable_count p.circuit p.f p.g)) lines.items)) c.self.view_is
    (IfOk-weaker c.split_lines.result
    (λ (lines : Vec Copies Global). AreSplitLines q.circuit q.f q.g lines.items)
    (λ (lines : Vec Copies Global). All (AreVariables (variable_count q.circuit q.f q.g)) lines.items)
    (λ lines is. split_within q.circuit q.f q.g c.self.invariant.circuit lines.items is)
    c.split_lines.ensures)
