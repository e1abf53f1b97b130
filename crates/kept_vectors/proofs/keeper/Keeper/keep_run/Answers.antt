use Rattle.std.proofs.Common.{◌≡◌, ◌∙◌, ℕ, Bool, true, List, [], length, get_or, refl, sym, ap, subst}
use Rattle.std.specs.Prelude.{All}
use Rattle.std.proofs.lemmas.Bool.{false≢true}
use Rattle.std.proofs.lemmas.Result.{err_from_is_err_and}
use Rattle.net_model.specs.PatternRows.{SplitsClass}
use Rattle.word_sim.specs.Block.{Block}
use Rattle.kept_vectors.specs.Kept.{KeepsRun}
use Rattle.kept_vectors.specs.Keeper.{Keeper, keeper_with, IsKeeper}
use Rattle.kept_vectors.specs.Scan.{kept_now, HasJudged, IsScanEnd}
use Rattle.kept_vectors.proofs.RootLemmas.{keeper_together}
use Rattle.class_refine.proofs.PatternTables.{table_numbers}
use Rattle.kept_vectors.proofs.JudgeLemmas.{keeper_judged, run_judged, splits_none}
use Rattle.kept_vectors.proofs.keeper.Keeper.keep_run.Goals as goal
use Rattle.kept_vectors.proofs.keeper.Keeper.keep_run.Goals.{After-judge}

-- ---- facts of the steps

vectors_are : (c : After-judge) → c.fill.new.block.vectors ≡ c.args.vectors.now
vectors_are c = ap (λ (b : Block). b.vectors) c.fill.ensures

widths : (c : After-judge) → All (λ v. length v ≡ c.self.inside.scan.good.circuit.sources) c.fill.new.block.vectors
widths c = rw (vectors_are c) (λ k d below. c.requires.widths k d below ∙ ap (λ (k : Keeper). k.circuit.sources) (sym c.self.view_is))

keeper : (c : After-judge) (count : ℕ) → HasJudged c.self.inside.scan.good.circuit c.fill.new.block.vectors true count (kept_now c.self.inside.kept) (kept_now c.judge.new.kept) → IsKeeper (keeper_with c.self.inside.scan.good.circuit (kept_now c.judge.new.kept))
keeper c count judged = keeper_judged judged c.self.invariant.keeper (widths c)

run : (c : After-judge) (count : ℕ) → HasJudged c.self.inside.scan.good.circuit c.fill.new.block.vectors true count (kept_now c.self.inside.kept) (kept_now c.judge.new.kept) → KeepsRun c.args.self.now.circuit c.args.vectors.now count c.args.self.now.kept (kept_now c.judge.new.kept)
run c count judged =
    subst (λ (k : Keeper). KeepsRun k.circuit c.args.vectors.now count k.kept (kept_now c.judge.new.kept)) c.self.view_is
    (subst (λ (vs : List (List Bool)). KeepsRun c.self.inside.scan.good.circuit vs count (kept_now c.self.inside.kept) (kept_now c.judge.new.kept)) (vectors_are c) (run_judged judged c.self.invariant.keeper (widths c) refl))

-- ---- answers

pub fill-requires-clause-widths : goal.fill-requires-clause-widths
fill-requires-clause-widths c = λ k d below. c.requires.widths k d below ∙ ap (λ (k : Keeper). k.circuit.sources) (sym c.self.view_is) ∙ sym c.self.invariant.scan.block

pub judge-requires-clause-together : goal.judge-requires-clause-together
judge-requires-clause-together c = keeper_together c.self.invariant.keeper c.self.inside.scan.differences.units.roots.now c.self.invariant.scan.differences.roots

pub judge-requires-clause-numbers : goal.judge-requires-clause-numbers
judge-requires-clause-numbers c = table_numbers c.self.invariant.keeper.table

pub invariant_of-self : goal.invariant_of-self
invariant_of-self c =
    let some = c.in_err-count.ensures.err in
    record {
      scan = c.judge.ensures.scan;
      keeper = rw c.judge.ensures.circuit (keeper ((goal.at.invariant_of-self c).After-judge) some.0 some.2);
      stream = rw c.judge.ensures.circuit c.self.invariant.stream;
      stands = λ is. absurd (false≢true is);
    }

pub invariant_of-self-2 : goal.invariant_of-self-2
invariant_of-self-2 c = record {
  scan = c.judge.ensures.scan;
  keeper = rw c.judge.ensures.circuit (keeper ((goal.at.invariant_of-self-2 c).After-judge) c.in_ok-count.count c.in_ok-count.ensures.ok);
  stream = rw c.judge.ensures.circuit c.self.invariant.stream;
  stands = λ is. absurd (false≢true is);
}

pub returns-in_err-count-clause-err : goal.returns-in_err-count-clause-err
returns-in_err-count-clause-err c =
    let p = err_from_is_err_and c.from_residual.result c.from_residual.ensures.1 in
    let some = c.in_err-count.ensures.err in
    rw p.1 (some.0, rw (vectors_are ((goal.at.returns-in_err-count-clause-err c).After-judge)) at some.1, run ((goal.at.returns-in_err-count-clause-err c).After-judge) some.0 some.2)

pub returns-clause-ok : goal.returns-clause-ok
returns-clause-ok c = run ((goal.at.returns-clause-ok c).After-judge) c.in_ok-count.count c.in_ok-count.ensures.ok

pub returns-clause-stops : goal.returns-clause-stops
returns-clause-stops c = λ below splits.
    let at = (goal.at.returns-clause-stops c).After-judge in
    let count = c.in_ok-count.count in
    let circuit = c.self.inside.scan.good.circuit in
    let new = kept_now c.judge.new.kept in
    let v = get_or c.args.vectors.now count [] in
    let ended = subst (λ (vs : List (List Bool)). IsScanEnd circuit vs true count new) (vectors_are at) c.in_ok-count.ensures.ended in
    splits_none circuit new v (keeper at count c.in_ok-count.ensures.ok) (ended.stops below) (subst (λ (k : Keeper). SplitsClass k.circuit new.vectors v) (sym c.self.view_is) splits)
