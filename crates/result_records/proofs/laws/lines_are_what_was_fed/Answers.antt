use Rattle.std.specs.Prelude.{[]}
use Rattle.result_records.proofs.HeldLemmas.{all_given, lines_alike}
use Rattle.result_records.proofs.laws.lines_are_what_was_fed.Goals as goal

pub returns-clause-all : goal.returns-clause-all
returns-clause-all c = λ events held lead. all_given [] events held lead

pub returns-clause-alike : goal.returns-clause-alike
returns-clause-alike c = lines_alike
