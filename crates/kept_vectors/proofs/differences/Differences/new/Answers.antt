use Rattle.std.proofs.Common.{rules, ◌∙◌, sym, ap, arith}
use Rattle.net_model.specs.Circuit.{line_count}
use Rattle.kept_vectors.proofs.RootLemmas.{forest_roots}
use Rattle.kept_vectors.proofs.differences.Differences.new.Goals as goal

pub new-requires-clause-count : goal.new-requires-clause-count
new-requires-clause-count c = rw c.roots-roots.ensures (c.numbers-numbers.ensures.value ∙ sym (forest_roots c.forest.ensures).whole)

pub new-requires-clause-within : goal.new-requires-clause-within
new-requires-clause-within c = rw c.roots-roots.ensures (λ k d h. let are = forest_roots c.forest.ensures in omega (arith, are.within k d h, are.whole))

pub returns : goal.returns
returns c =
    let value = c.circuit-circuit.ensures.value in
    record {
      lines = c.lines-lines.ensures.value ∙ ap line_count value;
      heads = c.in_ok-new-2.ensures ∙ value;
      sim = c.in_ok-new-3.ensures.circuit ∙ value;
      needs = search (rules, arith, c.in_ok-vec.ensures.items, c.lines-lines.ensures.value, c.positions.ensures.value, value);
      shown = search (rules, arith);
      turns = search (rules, arith);
      roots = rw (c.in_ok-new.ensures.roots, c.roots-roots.ensures) (forest_roots c.forest.ensures);
      chains = c.in_ok-new.ensures.chains;
    }
