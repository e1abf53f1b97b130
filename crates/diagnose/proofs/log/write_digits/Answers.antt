use Rattle.std.proofs.Common.{rules, ◌≡◌, ◌∙◌, eqb, false, get_or, sym, arith}
use Rattle.std.proofs.lemmas.List.{length-map, get_or-map}
use Rattle.dict_rows.proofs.BlockWordLemmas.{tested_row}
use Rattle.text_fields.specs.Fields.{digit_bits}
use Rattle.diagnose.proofs.RowLemmas.{row_set}
use Rattle.diagnose.proofs.log.write_digits.Goals as goal

pub returns : goal.returns
returns c =
    let digits = c.args.digits.now in
    let same = length-map digits (λ b. eqb b 49) in
    row_set (tested_row (digit_bits digits) c.write_row.ensures (c.requires.width ∙ sym same) (λ at bit h answered.
    let told : bit ≡ eqb (get_or digits at 0) 49 = search rules in
    told ∙ sym (get_or-map (λ b. eqb b 49) digits at 0 false (omega (arith, h, same))))) c.requires.row
