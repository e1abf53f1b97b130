use Rattle.std.proofs.Common.{◌≡◌, ◌∙◌, length, replicate, refl, ap, rules, arith}
use Rattle.std.proofs.lemmas.List.FromFn.{length-range_with_len}
use Rattle.answer_numbers.specs.declared.trees.Node.{Node}
use Rattle.answer_numbers.specs.Trees.{no_node}
use Rattle.answer_numbers.proofs.RootLemmas.{roots_are}
use Rattle.answer_numbers.proofs.trees.LaneTrees.new.Goals as goal

pub repeated-requires-clause-long : goal.repeated-requires-clause-long
repeated-requires-clause-long c = omega (arith, c.as_slice.ensures.len, c.in_ok-row.row.ok.0, ap length c.in_ok-row.ensures, length-range_with_len 0 c.args.lanes, c.requires.lanes)

pub returns : goal.returns
returns c =
    let made : c.in_ok-nodes.nodes.items ≡ replicate {A = Node} c.args.lanes no_node = search rules in
    roots_are c.args.lanes c.args.places (omega (arith, c.requires.lanes)) _ refl made c.as_slice.result.now (c.as_slice.ensures.value ∙ c.in_ok-row.ensures) (record { count = c.in_ok-stands.ensures.count; each = c.in_ok-stands.ensures.each })
