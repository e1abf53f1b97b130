use Rattle.std.proofs.Common.{◌∙◌, sym, ap}
use Rattle.bench_reader.specs.Reading.{netlist_of}
use Rattle.bench_reader.proofs.LawLemmas.{same_phrases}
use Rattle.bench_reader.proofs.laws.one_netlist.Goals as goal

pub returns : goal.returns
returns c = λ text one other m n. m.netlist_is ∙ ap (netlist_of text) (same_phrases text m.phrases n.phrases m.is_text n.is_text) ∙ sym n.netlist_is
