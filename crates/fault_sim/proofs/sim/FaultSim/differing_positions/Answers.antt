use Rattle.std.proofs.Common.{◌≡◌, ◌<◌, ◌∙◌, [], length, get_or, sym, ap, subst, arith, inl, inr}
use Rattle.std.proofs.lemmas.List.Elements.{All-contains}
use Rattle.std.specs.Prelude.{Contains}
use Rattle.net_model.specs.Answer.{bit_at}
use Rattle.net_model.proofs.Elements.{true_false}
use Rattle.fault_sim.specs.Rows.{IsTrueSomewhere}
use Rattle.fault_sim.specs.FaultSim.{FaultSim, lanes_at}
use Rattle.net_model.proofs.LoopLaws.{contains_or_not}
use Rattle.fault_sim.proofs.sim.FaultSim.differing_positions.Goals as goal

pub returns-clause-exactly : goal.returns-clause-exactly
returns-clause-exactly c = λ position h.
    let rows = c.self.inside.positions.rows in
    let listed = c.self.inside.positions.listed in
    let row_is : get_or rows position [] ≡ lanes_at c.args.self.now position = ap (λ (s : FaultSim). lanes_at s position) c.self.view_is in
    let inside : position < length rows = omega (arith, c.self.invariant.positions_whole, ap (λ (s : FaultSim). length s.circuit.positions) c.self.view_is) in (
      λ has. subst IsTrueSomewhere row_is
          (All-contains (λ at. IsTrueSomewhere (get_or rows at [])) listed position c.self.invariant.positions_some (subst (λ ls. Contains ls position) c.listed.ensures.value has)),
      λ (lane, within, t). elim (contains_or_not listed position) [
        | inl has ↦ subst (λ ls. Contains ls position) (sym c.listed.ensures.value) has
        | inr none ↦ absurd (true_false (bit_at (lanes_at c.args.self.now position) lane) t (sym (ap (λ row. bit_at row lane) row_is) ∙ c.listed.ensures.others position inside none lane within))
      ],
    )
