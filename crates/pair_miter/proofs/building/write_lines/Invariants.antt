use Rattle.std.proofs.Common.{◌≡◌, ◌+◌, take}
use Rattle.std.specs.Prelude.{flat_map, sum_by}
use Rattle.pair_miter.specs.Adds.{Adds}
use Rattle.pair_miter.specs.Miter.{line_clauses, tidy}
use Rattle.pair_miter.specs.Variables.{first_helper, line_helpers}
use Rattle.pair_miter.specs.declared.side.Side.TheVariants.{First}
use Rattle.pair_miter.proofs.building.write_lines.Given as goal

abbrev pub invariant-loop-line : goal.invariant-loop-line
invariant-loop-line l =
    let p = l.numbering in
    record {
      adds : Adds l.fn.pool l.pool (tidy (flat_map (line_clauses p.circuit p.f p.g) (take l.line-index l.line-items)));
      helper : l.writer.helper ≡ first_helper p.circuit p.f p.g First 0 + sum_by (line_helpers p.circuit p.f p.g) (take l.line-index l.line-items);
      variables : l.writer.tidier ≡ l.fn.writer.tidier;
    }
