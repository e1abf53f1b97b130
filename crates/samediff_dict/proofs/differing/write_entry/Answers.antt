use Rattle.std.proofs.Common.{rules, ◌∙◌, sym}
use Rattle.dict_rows.proofs.BlockWordLemmas.{tested_row}
use Rattle.samediff_dict.specs.Copied.{class_entry}
use Rattle.samediff_dict.proofs.DifferingLemmas.{length-class_entry}
use Rattle.samediff_dict.proofs.differing.write_entry.Goals as goal

pub returns : goal.returns
returns c =
    let patterns = c.args.patterns.now in
    let chosen = c.args.chosen.now in
    let class = c.args.class in
    tested_row (class_entry patterns chosen class) c.write_row.ensures (c.requires.width ∙ sym (length-class_entry patterns chosen c.requires.numbers.count class)) (λ pattern bit h answered. search rules)
