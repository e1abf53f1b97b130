use Rattle.std.proofs.Common.{arith}
use Rattle.std.proofs.lemmas.Result.{IfErr-weaker}
use Rattle.bench_reader.specs.Stops.{IsGrammarFault, IsTextFault}
use Rattle.bench_reader.proofs.ReadLemmas.{text_fault, long_text}
use Rattle.bench_reader.proofs.reading.parse_short.Goals as goal

pub returns-then-bytes-gt-NETLIST_LIMIT-clause-refused : goal.returns-then-bytes-gt-NETLIST_LIMIT-clause-refused
returns-then-bytes-gt-NETLIST_LIMIT-clause-refused c = long_text c.args.bytes.now c.limit_place.result (omega arith) c.limit_place.ensures

pub returns-clause-refused : goal.returns-clause-refused
returns-clause-refused c =
    let text = c.args.bytes.now in
    IfErr-weaker c.parse.result (IsGrammarFault text) (IsTextFault text) (λ fault. text_fault text fault (omega arith)) c.parse.ensures.refused
