use Rattle.std.proofs.Common.{◌<◌, ◌∙◌, [], ℕ, length, get_or, arith, sym, ap, subst}
use Rattle.std.specs.Prelude.{All, AllPairs}
use Rattle.std.proofs.lemmas.List.Elements.{All-nil}
use Rattle.std.proofs.lemmas.List.{get_or_default}
use Rattle.fault_sim.specs.Rows.{IsFalse, IsTrueSomewhere}
use Rattle.net_model.proofs.Elements.{none_in}
use Rattle.fault_sim.proofs.sim.FaultSim.new.Goals as goal

pub invariant_of-result : goal.invariant_of-result
invariant_of-result c =
    let circuit = c.args.circuit.now in
    let lines = c.lines-lines.ensures.value in
    let positions = ap (length {A = ℕ}) c.positions-positions.ensures.value in
    let rows = c.in_ok-new-4.field-0.rows in
    let listed = c.in_ok-new-4.ensures.listed in
    record {
      circuit = c.lines-lines.ensures.circuit;
      none_waits = c.in_ok-new.ensures.none;
      none_marked = c.in_ok-new-2.ensures.none;
      queue_room = omega (arith, c.in_ok-new.ensures.room);
      marks_room = omega (arith, c.in_ok-new-2.ensures.room);
      lines_whole = c.in_ok-new-3.ensures.count ∙ lines;
      lines_room = omega (arith, c.in_ok-new-3.ensures.room);
      positions_whole = c.in_ok-new-4.ensures.count ∙ positions;
      positions_room = omega (arith, c.in_ok-new-4.ensures.room);
      positions_some = subst (All (λ at. IsTrueSomewhere (get_or rows at []))) (sym listed) (All-nil (λ at. IsTrueSomewhere (get_or rows at [])));
      positions_ascending = subst (AllPairs ◌<◌) (sym listed) (λ i j d before h. absurd (omega arith));
    }

pub returns-clause-same : goal.returns-clause-same
returns-clause-same c = λ k d h.
    let rows = c.in_ok-new-4.field-0.rows in
    subst IsFalse (get_or_default rows k [] d h) (c.in_ok-new-4.ensures.clear k h (none_in k))
