use Rattle.std.proofs.Common.{◌≡◌, ◌∙◌, ℕ, length, ap, subst}
use Rattle.std.proofs.lemmas.Result.{IfOk-weaker, IfErr-weaker}
use Rattle.net_model.specs.Circuit.{Circuit}
use Rattle.kept_vectors.proofs.KeepLemmas.{table_patterns}
use Rattle.ranked_diag.specs.PartialLog.{ArePartial}
use Rattle.run_steps.proofs.Judged.{accepted_as, over_as}
use Rattle.run_steps.proofs.SuspectLemmas.{log_at, refused_at}
use Rattle.run_steps.proofs.log_reads.read_log_at.Goals as goal

pub returns-clause-lines : goal.returns-clause-lines
returns-clause-lines g c =
    let many : c.patterns-patterns.result ≡ length c.args.checked.now.patterns = c.patterns-patterns.ensures.value ∙ table_patterns c.requires in
    let wide : length c.positions.result.now ≡ length c.args.subject.now.positions = ap length c.positions.ensures.value ∙ ap (λ (k : Circuit). length k.positions) c.circuit.ensures.value in
    IfOk-weaker c.read_partial_log.result _ _ (λ partial are. subst (λ (n : ℕ). ArePartial n (length c.args.subject.now.positions) partial) many (subst (λ (n : ℕ). ArePartial c.patterns-patterns.result n partial) wide are)) c.read_partial_log.ensures.lines

pub returns-clause-ok : goal.returns-clause-ok
returns-clause-ok g c =
    let many : c.patterns-patterns.result ≡ length c.args.checked.now.patterns = c.patterns-patterns.ensures.value ∙ table_patterns c.requires in
    let wide : length c.positions.result.now ≡ length c.args.subject.now.positions = ap length c.positions.ensures.value ∙ ap (λ (k : Circuit). length k.positions) c.circuit.ensures.value in
    IfOk-weaker c.read_partial_log.result _ _ (λ partial was records is. accepted_as (λ bytes log. log_at is many wide log) was) c.read_partial_log.ensures.ok

pub returns-clause-err : goal.returns-clause-err
returns-clause-err g c =
    let many : c.patterns-patterns.result ≡ length c.args.checked.now.patterns = c.patterns-patterns.ensures.value ∙ table_patterns c.requires in
    let wide : length c.positions.result.now ≡ length c.args.subject.now.positions = ap length c.positions.ensures.value ∙ ap (λ (k : Circuit). length k.positions) c.circuit.ensures.value in
    IfErr-weaker c.read_partial_log.result _ _ (λ why over records is. over_as (λ bytes console refused. refused_at is many wide refused) over) c.read_partial_log.ensures.err
