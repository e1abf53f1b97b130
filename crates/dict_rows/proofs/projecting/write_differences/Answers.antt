use Rattle.std.proofs.Common.{rules, ◌≡◌, ◌∙◌, not, sym, arith}
use Rattle.net_model.specs.ClassTable.{same_bits}
use Rattle.net_model.specs.Rows.{row_at}
use Rattle.dict_rows.specs.AnswerTable.{answer_to}
use Rattle.dict_rows.specs.Entries.{same_diff_entry}
use Rattle.dict_rows.proofs.RowLemmas.{width_at}
use Rattle.dict_rows.proofs.BlockWordLemmas.{tested_row}
use Rattle.dict_rows.proofs.EntryLemmas.{length-entry, entry_bit}
use Rattle.dict_rows.proofs.projecting.write_differences.Goals as goal

pub returns : goal.returns
returns c =
    let t = c.args.table.now in
    let baselines = c.args.baselines.now in
    let number = c.args.number in
    let long = length-entry t baselines c.requires.baselines number in
    tested_row (same_diff_entry t.rows baselines number) c.write_row.ensures (width_at c.requires.shape number c.requires.number ∙ sym long) (λ pattern bit h answered.
    let told : bit ≡ not (same_bits (answer_to t pattern number) (row_at baselines pattern)) = search rules in
    told ∙ entry_bit t baselines c.requires.baselines pattern number (omega (arith, h, long)))
