use Rattle.std.proofs.Common.{take, arith, length-take}
use Rattle.std.specs.Prelude.{◌==◌}
use Rattle.std.proofs.lemmas.List.Sums.{count_by-le-length}
use Rattle.bench_reader.specs.declared.reading.TheConstants.{NETLIST_LIMIT}
use Rattle.bench_reader.proofs.reading.limit_place.Goals as goal

pub slice_bounds-feeds-end : goal.slice_bounds-feeds-end
slice_bounds-feeds-end c = simp length-take (omega arith)

pub overflow_cast-result-2 : goal.overflow_cast-result-2
overflow_cast-result-2 c = omega (arith, c.feeds.ensures, count_by-le-length (λ b. b == 10) (take NETLIST_LIMIT c.args.bytes.now), length-take NETLIST_LIMIT c.args.bytes.now)

pub overflow_add-result : goal.overflow_add-result
overflow_add-result c = omega (arith, c.feeds.ensures, count_by-le-length (λ b. b == 10) (take NETLIST_LIMIT c.args.bytes.now), length-take NETLIST_LIMIT c.args.bytes.now)
