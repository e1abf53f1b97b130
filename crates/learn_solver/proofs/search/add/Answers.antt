use Rattle.std.proofs.Common.{◌≡◌, ◌∙◌, ◌∷◌, ◌++◌, [], length, ap, inr, sym, subst}
use Rattle.std.proofs.lemmas.List.{length_push}
use Rattle.learn_solver.specs.Learning.{IsLearning}
use Rattle.net_model.proofs.Errors.{on_error}
use Rattle.learn_solver.proofs.Solving.{learned_at_most, learning_more}
use Rattle.learn_solver.proofs.search.add.Goals as goal

pub returns-clause-learned : goal.returns-clause-learned
returns-clause-learned c =
    let old = c.args.search.now in
    let pool = c.args.pool.now.clauses in
    let chain = c.args.chain in
    let clause = c.args.clause.now in
    let e = c.in_ok-take_in.ensures in
    let chains : c.push.new.self.items ≡ old.chains.items ++ chain ∷ [] = c.in_ok-push.ensures.items ∙ ap (λ cs. cs ++ chain ∷ []) e.chains in
    record {
      prepared = record { ready = e.prepared.ready; decider = e.prepared.decider; clear = e.prepared.clear };
      variables = e.variables;
      count = ap length chains ∙ length_push old.chains.items chain;
      learning = λ first learning.
          subst (λ cs. IsLearning first cs c.push.new.self.items) (sym e.added)
          (subst (IsLearning first (pool ++ clause ∷ [])) (sym chains) (learning_more first pool old.chains.items learning chain clause c.requires.ends c.requires.fresh));
    }

pub returns-in_err-take_in-clause-err : goal.returns-in_err-take_in-clause-err
returns-in_err-take_in-clause-err c = on_error c.from_residual.result (λ first conflicts learning few.
    learned_at_most first c.args.pool.now.clauses c.args.search.now.chains.items learning c.args.chain c.args.clause.now c.requires.ends c.requires.fresh c.take_in.new.pool.clauses c.in_err-take_in.ensures.err conflicts few)

pub returns-in_err-push-clause-err : goal.returns-in_err-push-clause-err
returns-in_err-push-clause-err c = on_error c.from_residual-in_err-push.result (λ first conflicts learning few.
    learned_at_most first c.args.pool.now.clauses c.args.search.now.chains.items learning c.args.chain c.args.clause.now c.requires.ends c.requires.fresh c.take_in.new.pool.clauses (inr c.in_ok-take_in.ensures.added) conflicts few)
