use Rattle.std.proofs.Common.{ap}
use Rattle.std.specs.Prelude.{map}
use Rattle.std.proofs.lemmas.List.{nil_from_length}
use Rattle.bench_reader.proofs.Positions.{text_of}
use Rattle.bench_reader.proofs.parsing.parse.Goals as goal

pub add_statements-requires-clause-no_names : goal.add_statements-requires-clause-no_names
add_statements-requires-clause-no_names c = ap (λ ks. map text_of ks) (nil_from_length c.new-names.result.keys c.new-names.ensures.len)
