use Rattle.std.proofs.Common.{rules, tests}
use Rattle.std.specs.Prelude.{map}
use Rattle.std.proofs.lemmas.Iterator.{YieldsList-from_slice, YieldsList-from_map}
use Rattle.std.proofs.lemmas.Iterator.Adapters.{items_from_extend}
use Rattle.std.proofs.lemmas.Iterator.Consumers.{YieldsList-at, YieldsList-from_filter_map}
use Rattle.scan_cut.specs.Cut.{gate_driven_word, gate_words}
use Rattle.scan_cut.proofs.lines.add_gate_names.Goals as goal

pub returns : goal.returns
returns c =
    let h = items_from_extend {all = map (λ word. word.name) (gate_words c.args.statements.now)} c.extend.result c.extend.ensures.ran
    (YieldsList-from_map _ (λ word. word.name)
    (YieldsList-at c.map.ensures.source (YieldsList-from_filter_map _ gate_driven_word (YieldsList-from_slice c.args.statements.now (cc)) c.filter_map.ensures.closure (λ x r q k. search (rules, tests))))
    c.map.ensures.closure (λ x r q k. search (rules, tests))) in
    search rules
