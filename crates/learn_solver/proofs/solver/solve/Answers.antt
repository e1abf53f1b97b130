use Rattle.std.proofs.Common.{◌∙◌, [], length, ap, sym, subst, arith}
use Rattle.std.specs.Prelude.{All}
use Rattle.clause_pool.specs.Clauses.{BeginsWith}
use Rattle.clause_pool.specs.Proper.{IsProper}
use Rattle.clause_pool.proofs.Numbered.{begins_itself}
use Rattle.learn_solver.specs.Learning.{IsLearning}
use Rattle.learn_solver.specs.Search.{miter_clauses}
use Rattle.learn_solver.specs.Solved.{HasLearned}
use Rattle.net_model.proofs.Errors.{on_error}
use Rattle.learn_solver.proofs.Solving.{learned_within, learning_none}
use Rattle.learn_solver.proofs.solver.solve.Goals as goal

pub begin-requires-clause-proper : goal.begin-requires-clause-proper
begin-requires-clause-proper c = subst (All (IsProper c.variables.result)) (sym c.requires.clauses) c.variables.ensures.proper

pub run-requires-clause-search : goal.run-requires-clause-search
run-requires-clause-search c =
    let first = miter_clauses c.args.miter.now in
    let e = c.in_ok-search.ensures in
    record {
      prepared = e.prepared;
      variables = e.variables ∙ c.variables.ensures.value;
      learning = subst (IsLearning first c.args.pool.now.clauses) (sym e.none) (subst (λ cs. IsLearning first cs []) (sym c.requires.clauses) (learning_none first));
      few = omega (arith, ap length e.none);
      begins = subst (λ cs. BeginsWith cs first) (sym c.requires.clauses) (begins_itself first);
    }

pub returns-in_err-search-clause-err : goal.returns-in_err-search-clause-err
returns-in_err-search-clause-err c =
    let first = miter_clauses c.args.miter.now in
    on_error c.from_residual.result (subst (HasLearned first c.args.conflicts) (sym c.requires.clauses) (learned_within first first [] c.args.conflicts (learning_none first) (omega arith)))
