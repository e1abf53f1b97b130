use Rattle.std.proofs.Common.{rules}
use Rattle.std.proofs.lemmas.Result.{IfOk-weaker, IfErr-weaker}
use Rattle.dict_file.specs.Reading.{IsRefusedBy, TellsDictFault}
use Rattle.run_steps.specs.Dictionaries.{IsDictionaryFile}
use Rattle.run_steps.proofs.ReadLemmas.{dictionary_read, refused_dictionary_read}
use Rattle.run_steps.proofs.Judged.{accepted_by, over_by}
use Rattle.run_steps.proofs.dictionaries.read_dictionary.Goals as goal

pub returns-clause-spelled : goal.returns-clause-spelled
returns-clause-spelled g c = IfOk-weaker c.read_judged.result _ _ (λ x some. let told = some.answered in let is : IsDictionaryFile some.bytes.now x = search rules in is.1.has) c.read_judged.ensures.judged

pub returns-clause-ok : goal.returns-clause-ok
returns-clause-ok g c = IfOk-weaker c.read_judged.result _ _ (λ x. accepted_by (λ bytes told. let is : IsDictionaryFile bytes.now x = search rules in (λ all read. dictionary_read read is))) c.read_judged.ensures.ok

pub returns-clause-err : goal.returns-clause-err
returns-clause-err g c = IfErr-weaker c.read_judged.result _ _ (λ why. over_by (λ bytes fault told. let rule : TellsDictFault (IsRefusedBy bytes.now) fault = search rules in (λ all console read. refused_dictionary_read fault read rule))) c.read_judged.ensures.err
