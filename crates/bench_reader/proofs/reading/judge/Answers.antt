use Rattle.std.proofs.Common.{◌∙◌, sym}
use Rattle.bench_reader.proofs.ReadLemmas.{driver_refused}
use Rattle.bench_reader.proofs.reading.judge.Goals as goal

pub returns-in-Some-clause-refused : goal.returns-in-Some-clause-refused
returns-in-Some-clause-refused c = λ text parsed. driver_refused text c.args.parsed.now parsed c.in-Some.kind c.in-Some.place (sym c.in_ok-kind.ensures ∙ c.in-Some.is)

pub returns-in-None-clause-ok : goal.returns-in-None-clause-ok
returns-in-None-clause-ok c = sym c.in_ok-kind.ensures ∙ c.in-None.is
