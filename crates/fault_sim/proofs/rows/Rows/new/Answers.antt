use Rattle.std.proofs.Common.{◌<◌, ◌∙◌, length, subst, sym, ap, arith}
use Rattle.std.specs.Prelude.{All}
use Rattle.std.proofs.lemmas.List.{length-replicate}
use Rattle.std.proofs.lemmas.List.Elements.{All-nil}
use Rattle.fault_sim.specs.Rows.{AreFalseBut}
use Rattle.fault_sim.proofs.RowsLemmas.{false_rows}
use Rattle.fault_sim.proofs.rows.Rows.new.Goals as goal

pub invariant_of-result : goal.invariant_of-result
invariant_of-result c =
    let rows = c.in_ok-rows.rows.items in
    let none = sym c.in_ok-with_capacity.ensures.items in
    record {
      within = subst (All (λ k. k < length rows)) none (All-nil (λ k. k < length rows));
      others = subst (λ listed. AreFalseBut listed rows) none (false_rows rows c.args.count c.all.result (c.in_ok-rows.ensures.items_if_clones_equal (λ y e. e)) c.all.ensures);
    }

pub returns-clause-clear : goal.returns-clause-clear
returns-clause-clear c = false_rows c.in_ok-rows.rows.items c.args.count c.all.result (c.in_ok-rows.ensures.items_if_clones_equal (λ y e. e)) c.all.ensures

pub returns-clause-count : goal.returns-clause-count
returns-clause-count c = ap length (c.in_ok-rows.ensures.items_if_clones_equal (λ y e. e)) ∙ length-replicate c.args.count c.all.result

pub returns-clause-room : goal.returns-clause-room
returns-clause-room c = omega (arith, c.in_ok-with_capacity.ensures.exact)
