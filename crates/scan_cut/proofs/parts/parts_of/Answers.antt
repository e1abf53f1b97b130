use Rattle.std.proofs.Common.{◌≡◌, ◌∙◌, length, ap, arith}
use Rattle.scan_cut.specs.Cut.{line_names, position_names, cut_circuit, cut_design}
use Rattle.scan_cut.specs.Lines.{AreLines}
use Rattle.scan_cut.proofs.NameLemmas.{lines_once, lines_named}
use Rattle.scan_cut.proofs.FitLemmas.{few_parts, fits, used_lines}
use Rattle.scan_cut.proofs.TableLemmas.{names_found, gates_found, gates_within, positions_within, positions_are_lines}
use Rattle.scan_cut.proofs.parts.parts_of.Goals as goal

pub lines_by_name-requires-clause-few : goal.lines_by_name-requires-clause-few
lines_by_name-requires-clause-few c = omega (arith, few_parts c.args.statements.now c.as_slice-list.ensures.driven, ap length c.requires.numbers)

pub lines_by_name-requires-clause-named : goal.lines_by_name-requires-clause-named
lines_by_name-requires-clause-named c =
    let n = c.args.statements.now in
    rw (c.requires.numbers, c.names_len.ensures) (lines_named (length n.names) n.statements c.as_slice-list.ensures.driven.named)

pub lines_by_name-requires-clause-once : goal.lines_by_name-requires-clause-once
lines_by_name-requires-clause-once c = rw c.requires.numbers (lines_once c.args.statements.now.statements c.as_slice-list.ensures.driven.once)

pub gates-requires : goal.gates-requires
gates-requires c =
    let n = c.args.statements.now in
    let long : length c.as_slice-lines.result.now ≡ length n.names = ap length c.as_slice-lines.ensures.value ∙ c.in_ok-table.ensures.whole ∙ c.names_len.ensures in
    rw (c.as_slice-list.ensures.statements, long) (gates_within n c.as_slice-list.ensures.driven)

pub looked_up-requires : goal.looked_up-requires
looked_up-requires c =
    let n = c.args.statements.now in
    let long : length c.as_slice-lines.result.now ≡ length n.names = ap length c.as_slice-lines.ensures.value ∙ c.in_ok-table.ensures.whole ∙ c.names_len.ensures in
    rw (c.as_slice.ensures.value, c.in_ok-positions.ensures, c.as_slice-list.ensures.statements, long) (positions_within n c.as_slice-list.ensures.driven)

pub names-requires-clause-few : goal.names-requires-clause-few
names-requires-clause-few c = omega (arith, few_parts c.args.statements.now c.as_slice-list.ensures.driven, ap length c.requires.numbers)

pub names-requires-clause-named : goal.names-requires-clause-named
names-requires-clause-named c =
    let n = c.args.statements.now in
    rw c.requires.numbers (lines_named (length n.names) n.statements c.as_slice-list.ensures.driven.named)

pub returns : goal.returns
unfolding cut_circuit cut_design
returns c =
    let n = c.args.statements.now in
    let o = c.as_slice-list.ensures.driven in
    let same = c.as_slice-list.ensures.statements in
    let lines = c.in_ok-table.table.items in
    let table : AreLines (length n.names) (line_names n.statements) lines = rw (← c.requires.numbers, ← c.names_len.ensures) c.in_ok-table.ensures in
    record {
      sources = c.requires.sources;
      gates = rw (same, c.as_slice-lines.ensures.value) at c.in_ok-gates.ensures ∙ gates_found n.statements (length n.names) lines table n.statements (used_lines n o);
      positions =
          rw (c.as_slice-lines.ensures.value, c.as_slice.ensures.value, c.in_ok-positions.ensures, same) at c.in_ok-looked_up.ensures
          ∙ names_found n.statements (length n.names) lines table (position_names n.statements) (positions_are_lines n o);
      names = rw c.requires.numbers at c.in_ok-names.ensures;
      fits = fits n o;
    }
