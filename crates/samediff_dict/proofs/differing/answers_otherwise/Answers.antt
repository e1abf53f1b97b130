use Rattle.std.proofs.Common.{◌∙◌, not, eqb, get_or, sym, ap}
use Rattle.samediff_dict.proofs.DifferingLemmas.{class_entry_at}
use Rattle.samediff_dict.proofs.differing.answers_otherwise.Goals as goal

pub returns : goal.returns
returns c =
    let chosen = c.args.chosen.now in
    let pattern = c.args.pattern in
    sym (class_entry_at c.args.patterns.now chosen c.requires.numbers.count c.args.class pattern c.index-patterns-pattern.result c.requires.pattern
    ∙ ap (λ number. not (eqb number (get_or chosen pattern 0))) (sym c.get-number.ensures))
