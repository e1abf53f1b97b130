use Rattle.std.proofs.Common.{rules}
use Rattle.std.proofs.lemmas.Result.{IfOk-weaker, IfErr-weaker}
use Rattle.diagnose.specs.Lines.{TellsLogFault}
use Rattle.diagnose.specs.VectorText.{IsVectorList, VectorsRefused}
use Rattle.run_steps.proofs.ReadLemmas.{list_read, lines_read, refused_vectors, few_vectors}
use Rattle.run_steps.proofs.Judged.{accepted_by, over_by}
use Rattle.run_steps.proofs.logs.read_vector_list.Goals as goal

pub returns-clause-wide : goal.returns-clause-wide
returns-clause-wide g c = IfOk-weaker c.read_judged.result _ _ (λ x some. let told = some.answered in let is : IsVectorList c.sources-sources.result some.bytes.now x = search rules in (rw c.sources-sources.ensures.value at is).wide) c.read_judged.ensures.judged

pub returns-clause-few : goal.returns-clause-few
returns-clause-few g c = IfOk-weaker c.read_judged.result _ _ (λ x some. let told = some.answered in let is : IsVectorList c.sources-sources.result some.bytes.now x = search rules in few_vectors is) c.read_judged.ensures.judged

pub returns-clause-ok : goal.returns-clause-ok
returns-clause-ok g c = IfOk-weaker c.read_judged.result _ _ (λ x. accepted_by (λ bytes told. let is : IsVectorList c.sources-sources.result bytes.now x = search rules in (λ all read. list_read c.args.circuit.now read (rw c.sources-sources.ensures.value at is)))) c.read_judged.ensures.ok

pub returns-clause-err : goal.returns-clause-err
returns-clause-err g c = IfErr-weaker c.read_judged.result _ _ (λ why. over_by (λ bytes fault told. let rule : TellsLogFault (VectorsRefused c.sources-sources.result bytes.now) fault.fault = search rules in (λ all console read. refused_vectors (λ kind line. lines_read read) fault.fault (rw c.sources-sources.ensures.value at rule)))) c.read_judged.ensures.err
