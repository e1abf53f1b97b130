use Rattle.std.proofs.Common.{◌≤◌, ◌+◌, ◌++◌, ◌∷◌, [], ℕ, List, length, length-append, refl, sym, arith}
use Rattle.clause_pool.specs.Clauses.{Clause}
use Rattle.pair_miter.specs.ChainView.{ChainView}
use Rattle.pair_miter.specs.Log.{IsRefutation}
use Rattle.pair_miter.specs.Miter.{miter}
use Rattle.pair_miter.proofs.LogEnds.{log_long}
use Rattle.learn_solver.specs.Solved.{HasRefutation}
use Rattle.dia_gen.proofs.pair.solve_pair.Goals as goal

pub solve-requires-clause-few : goal.solve-requires-clause-few
solve-requires-clause-few c = rw c.requires.clauses (omega (arith, c.clause_count-count.ensures.value, c.clause_count-count.ensures.below, c.requires.limit))

refutation_long : (clauses : List Clause) (limit : ℕ) (log : List ChainView) → IsRefutation clauses limit log → length log ≤ limit + 1
refutation_long clauses limit log r = omega (arith, log_long clauses log (r.ends ++ [] ∷ []) r.are, length-append r.ends ([] ∷ []), r.few)

pub trim-requires : goal.trim-requires
trim-requires c =
    let m = c.args.miter.now in
    let r : IsRefutation (miter m.circuit m.f m.g) c.args.conflicts c.in-Refuted.log = (rw c.in-Refuted.is at c.in_ok-solved.ensures.solved).refutation in
    omega (arith, c.clause_count-count.ensures.below, c.requires.limit, refutation_long (miter m.circuit m.f m.g) c.args.conflicts c.in-Refuted.log r)

pub returns-in_ok-trim-in-Refuted-clause-solved : goal.returns-in_ok-trim-in-Refuted-clause-solved
returns-in_ok-trim-in-Refuted-clause-solved c =
    let m = c.args.miter.now in
    let all = miter m.circuit m.f m.g in
    let h : HasRefutation all c.args.conflicts c.solve.new.pool.clauses c.in-Refuted.log = rw c.in-Refuted.is at c.in_ok-solved.ensures.solved in
    let r = c.in_ok-trim-in-Refuted.ensures.refutes all c.args.conflicts (sym c.clause_count-count.ensures.value) h.refutation in
    record {
      clauses = all ++ r.ends;
      is = record { refutation = r; bare = c.in_ok-trim-in-Refuted.ensures.bare h.bare; alike = record { long = refl; each = λ k below l. (λ has. has, λ has. has) } };
    }
