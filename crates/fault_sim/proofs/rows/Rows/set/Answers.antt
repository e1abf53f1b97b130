use Rattle.std.proofs.Common.{◌<◌, length, subst, sym, set, arith, ap}
use Rattle.std.specs.Prelude.{All}
use Rattle.std.proofs.lemmas.List.Elements.{All-push}
use Rattle.fault_sim.specs.Rows.{Rows, AreFalseBut}
use Rattle.fault_sim.proofs.RowsLemmas.{within_set, false_but_more}
use Rattle.fault_sim.proofs.rows.Rows.set.Goals as goal

pub invariant_of-self : goal.invariant_of-self
invariant_of-self c =
    let rows = c.self.inside.rows.items in
    let at = c.args.at in
    let row = c.args.row in
    let inside : at < length rows = omega (arith, c.requires.within, ap (λ (r : Rows). length r.rows) c.self.view_is) in
    record {
      within = subst (All (λ k. k < length (set rows at row))) (sym c.push_reserved.ensures.items)
          (within_set rows at row _ (All-push (λ k. k < length rows) c.self.inside.listed.items at c.self.invariant.within inside));
      others = subst (λ listed. AreFalseBut listed (set rows at row)) (sym c.push_reserved.ensures.items)
          (false_but_more rows at row c.self.inside.listed.items c.self.invariant.others);
    }
