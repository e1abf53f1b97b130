use Rattle.std.proofs.Common.{◌∙◌, length, ap, arith}
use Rattle.scan_cut.specs.Cut.{source_names}
use Rattle.scan_cut.proofs.FitLemmas.{few_parts, line_count_is}
use Rattle.scan_cut.proofs.TableLemmas.{lines_are}
use Rattle.scan_cut.proofs.parts.collect_parts.Goals as goal

pub overflow_cast-sources : goal.overflow_cast-sources
overflow_cast-sources c =
    let n = c.args.statements.now in
    let same = c.as_slice-list.ensures.statements in
    let names = c.in_ok-line_names.ensures in
    omega (arith, few_parts n c.as_slice-list.ensures.driven, line_count_is n.statements, ap length (names ∙ ap source_names same), c.len-sources.ensures, c.in_ok-line_names.line_names.ok.0)

pub parts_of-requires-clause-sources : goal.parts_of-requires-clause-sources
parts_of-requires-clause-sources c = c.len-sources.ensures ∙ c.in_ok-line_names.line_names.ok.0 ∙ ap length (c.in_ok-line_names.ensures ∙ ap source_names c.as_slice-list.ensures.statements)

pub parts_of-requires-clause-numbers : goal.parts_of-requires-clause-numbers
parts_of-requires-clause-numbers c =
    lines_are c.args.statements.now.statements _ _ _ _ c.as_slice-list.ensures.statements c.in_ok-line_names.ensures c.in_ok-add_gate_names.ensures c.as_slice.ensures.value
