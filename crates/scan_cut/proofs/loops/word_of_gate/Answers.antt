use Rattle.std.proofs.Common.{rules, tests, sym, ◌∙◌}
use Rattle.std.proofs.lemmas.Iterator.{YieldsList-from_slice}
use Rattle.std.proofs.lemmas.Iterator.Consumers.{nth_from_yields_List, YieldsList-from_filter_map}
use Rattle.std.proofs.lemmas.Iterator.Adapters.{option_map_id}
use Rattle.scan_cut.specs.Cut.{gate_driven_word}
use Rattle.scan_cut.proofs.loops.word_of_gate.Goals as goal

pub returns : goal.returns
returns c =
    sym (option_map_id c.nth.result)
    ∙ nth_from_yields_List c.nth.result _ c.args.gate c.nth.ensures.ran (YieldsList-from_filter_map _ gate_driven_word (YieldsList-from_slice c.args.statements.now (cc)) c.filter_map.ensures.closure (λ x r q k. search (rules, tests)))
