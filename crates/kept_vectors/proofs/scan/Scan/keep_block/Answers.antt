use Rattle.std.proofs.Common.{sym, subst, arith, true≢false}
use Rattle.std.proofs.lemmas.List.{take_all}
use Rattle.std.proofs.lemmas.Result.{err_from_is_err_and}
use Rattle.kept_vectors.specs.Kept.{Keeps}
use Rattle.kept_vectors.specs.Scan.{kept_now}
use Rattle.kept_vectors.proofs.JudgeLemmas.{first_judged}
use Rattle.kept_vectors.proofs.scan.Scan.keep_block.Goals as goal

pub returns-in_err-judge-clause-err : goal.returns-in_err-judge-clause-err
returns-in_err-judge-clause-err c =
    let p = err_from_is_err_and c.from_residual.result c.from_residual.ensures.1 in
    let some = c.in_err-judge.ensures.err in
    rw p.1 (first_judged some.2 some.1)

pub returns-clause-ok : goal.returns-clause-ok
returns-clause-ok c =
    let vectors = c.args.self.now.block.vectors in
    let all = take_all c.in_ok-judge.field-0 vectors (omega (arith, c.in_ok-judge.ensures.ended.all (λ is. absurd (true≢false (sym is))))) in
    subst (λ vs. Keeps c.args.self.now.good.circuit vs (kept_now c.args.kept.now) (kept_now c.judge.new.kept)) all c.in_ok-judge.ensures.ok.keeps
