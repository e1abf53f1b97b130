use Rattle.std.proofs.Common.{◌+◌, ◌<◌, List, Bool, length, sym, ap, subst, arith}
use Rattle.std.proofs.lemmas.Result.{IfOk-from_err}
use Rattle.net_model.proofs.Listed.{some_number}
use Rattle.table_dicts.specs.declared.pattern_sim.PatternSim.{PatternSim}
use Rattle.table_dicts.specs.Blocks.{kept_width}
use Rattle.table_dicts.proofs.ColumnLemmas.{HasLanesBegun, lanes_more}
use Rattle.table_dicts.proofs.free_block.FreeBlock.new.Goals as goal

pub inject-requires-clause-number : goal.inject-requires-clause-number
inject-requires-clause-number c = some_number c.args.pattern_sim.now.good.circuit

pub lanes-column-requires : goal.lanes-column-requires
lanes-column-requires c =
    let same = ap (λ (pattern_sim : PatternSim). length pattern_sim.good.circuit.positions) c.inject.ensures.kept in
    record {
      run = c.inject.ensures.run;
      position = subst (λ n. c.loop-position.position < kept_width c.args.kept n) (sym same) (omega (arith, c.loop-position-test.true, c.requires.width));
      differ = c.inject.ensures.differ;
    }

pub returns-in_err-push-clause-width : goal.returns-in_err-push-clause-width
returns-in_err-push-clause-width c = IfOk-from_err c.from_residual-in_err-push.result _ c.from_residual-in_err-push.ensures.0

pub returns-in_err-answers-clause-width : goal.returns-in_err-answers-clause-width
returns-in_err-answers-clause-width c = IfOk-from_err c.from_residual-in_err-answers.result _ c.from_residual-in_err-answers.ensures.0

pub loop-position-preserved : goal.loop-position-preserved
loop-position-preserved c =
    subst (λ (lanes : List (List Bool)). HasLanesBegun c.args.width lanes c.correct.new.table (c.loop-position.position + 1)) (sym c.in_ok-push.ensures.items)
    (lanes_more c.loop-position.invariant c.correct.ensures (omega (arith, c.loop-position-test.true)))
