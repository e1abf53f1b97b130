use Rattle.std.proofs.Common.{◌+◌, ◌∙◌, true, refl, sym, ap, subst, arith, IsTrue, inl, inr}
use Rattle.std.proofs.lemmas.Bool.{false≢true}
use Rattle.std.proofs.lemmas.Result.{err_from_is_err_and}
use Rattle.kept_vectors.specs.declared.scan.Scan.{Scan}
use Rattle.kept_vectors.specs.Kept.{KeptSoFar}
use Rattle.kept_vectors.specs.Scan.{kept_now, HasJudged}
use Rattle.kept_vectors.proofs.JudgeLemmas.{judged_none, judged_more}
use Rattle.kept_vectors.proofs.scan.Scan.judge_lanes.Goals as goal
use Rattle.kept_vectors.proofs.scan.Scan.judge_lanes.Goals.{else-run-via-then-run+else-not-splits, else-run-via-else-run}

pub loop-lane-init : goal.loop-lane-init
loop-lane-init c = record { scan = c.requires.scan; same = refl; told = c.requires.told; waits = c.requires.waits; judged = judged_none c.args.self.now.good.circuit c.args.self.now.block.vectors c.args.run (kept_now c.args.kept.now) }

pub judge_lane-requires-clause-told : goal.judge_lane-requires-clause-told
judge_lane-requires-clause-told c = rw c.loop-lane.invariant.same c.loop-lane.invariant.told

pub judge_lane-requires-clause-waits : goal.judge_lane-requires-clause-waits
judge_lane-requires-clause-waits c = rw (c.loop-lane.invariant.same, c.live-live.ensures.value) c.loop-lane.invariant.waits

pub loop-lane-preserved : goal.loop-lane-preserved
loop-lane-preserved c =
    let must : IsTrue c.args.run → IsTrue c.in_ok-splits.splits =
    elim c.else-run.branch [
      | else-run-via-then-run+else-not-splits w ↦ λ is. w.if-not-splits.false
      | else-run-via-else-run w ↦ λ is. absurd (false≢true (sym w.if-run.false ∙ is))
    ] in
    let same = c.loop-lane.invariant.same in
    let new = c.judge_lane.new.self in
    record {
      scan = c.judge_lane.ensures.scan;
      same = c.judge_lane.ensures.same ∙ ap (λ (s : Scan). record s { waiting = new.waiting; leaving = new.leaving }) same;
      told = rw same at c.in_ok-splits.ensures.told;
      waits = rw (same, c.live-live.ensures.value) at c.in_ok-splits.ensures.waits;
      judged = judged_more c.args.self.now.good c.args.self.now.block.vectors c.args.run c.in_ok-splits.splits c.loop-lane.lane c.requires.told.ran (let h = c.loop-lane-test.true in omega (arith, h, c.live-live.ensures.value)) c.loop-lane.invariant.judged (rw same at c.in_ok-splits.ensures.ok) (rw same at c.in_ok-splits.ensures.offered) must;
    }

pub returns-in_err-splits-clause-err : goal.returns-in_err-splits-clause-err
returns-in_err-splits-clause-err c =
    let p = err_from_is_err_and c.from_residual.result c.from_residual.ensures.1 in
    let good = c.args.self.now.good in
    let vectors = c.args.self.now.block.vectors in
    let lane = c.loop-lane.lane in
    let run = c.args.run in
    let first = kept_now c.args.kept.now in
    let judged = c.loop-lane.invariant.judged in
    rw p.1 (elim (rw c.loop-lane.invariant.same at c.in_err-splits.ensures.err) [
      | inl same ↦ (lane, omega (arith, c.loop-lane-test.true, c.live-live.ensures.value), subst (λ (k : KeptSoFar). HasJudged good.circuit vectors run lane first k) (sym same) judged)
      | inr more ↦ (
        lane + 1,
        omega (arith, more.0, c.live-live.ensures.value),
        judged_more good vectors run true lane c.requires.told.ran (omega (arith, c.loop-lane-test.true, c.live-live.ensures.value)) judged more.1 more.2 (λ is. refl),
      )
    ])
