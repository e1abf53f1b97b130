use Rattle.std.proofs.Common.{arith}
use Rattle.answer_numbers.proofs.ItemLemmas.{ends_long, lists_none, found_nothing}
use Rattle.answer_numbers.proofs.differences.PositionLists.new.Goals as goal

pub returns-clause-count : goal.returns-clause-count
returns-clause-count c = ends_long c.args.positions c.in_ok-numbers_below.field-0.items c.new.result.items c.in_ok-numbers_below.ensures c.new.ensures.items

pub returns-clause-lists : goal.returns-clause-lists
returns-clause-lists c = lists_none c.args.positions c.in_ok-numbers_below.field-0.items c.new.result.items c.in_ok-numbers_below.ensures c.new.ensures.items (omega arith)

pub returns-clause-none : goal.returns-clause-none
returns-clause-none c = λ position place h.
    found_nothing c.args.positions c.in_ok-numbers_below.field-0.items c.new.result.items c.in_ok-numbers_below.ensures c.new.ensures.items position place
    (omega (arith, h, ends_long c.args.positions c.in_ok-numbers_below.field-0.items c.new.result.items c.in_ok-numbers_below.ensures c.new.ensures.items))
