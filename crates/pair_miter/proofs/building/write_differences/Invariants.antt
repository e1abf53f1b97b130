use Rattle.std.proofs.Common.{◌≡◌, ◌+◌, take}
use Rattle.std.specs.Prelude.{flat_map, map}
use Rattle.pair_miter.specs.Adds.{Adds}
use Rattle.pair_miter.specs.Miter.{difference_clauses, tidy}
use Rattle.pair_miter.specs.Variables.{difference_variable}
use Rattle.pair_miter.proofs.Differences.{difference_literal}
use Rattle.pair_miter.proofs.building.write_differences.Given as goal

abbrev pub invariant-loop-position : goal.invariant-loop-position
invariant-loop-position l =
    let p = l.numbering in
    record {
      adds : Adds l.fn.pool l.pool (tidy (flat_map (difference_clauses p.circuit p.f p.g) (take l.position-index l.position-items)));
      last : l.differences.items ≡ map (difference_literal p.circuit p.f p.g) (take l.position-index l.position-items);
      difference : l.difference ≡ difference_variable p.circuit p.f p.g 0 + l.position-index;
      variables : l.writer.tidier ≡ l.fn.writer.tidier;
    }
