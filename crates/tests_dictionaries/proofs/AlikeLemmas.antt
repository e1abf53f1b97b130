-- Numbers that answer as the lowest member of their class answer alike.
use Rattle.std.proofs.Common.{◌≡◌, ◌∙◌, ℕ, ◌<◌, length, sym, ap, arith}
use Rattle.net_model.specs.ClassTable.{ClassTable, representative}
use Rattle.net_model.proofs.Copies.{same_bits_same_list}
use Rattle.dict_rows.specs.AnswerTable.{Answers, IsTable, answer_to, answer_bit}
use Rattle.samediff_dict.specs.Numbered.{AnswerAlike}
use Rattle.tests_dictionaries.specs.Leads.{AnswerAsLeads}

pub leads_alike : (t : ClassTable) (table : Answers) → length t.class_of ≡ table.numbers → ((pattern : ℕ) → pattern < length table.rows → AnswerAsLeads t table pattern table.numbers) → AnswerAlike t table
leads_alike t table same leads = record {
  numbers = same;
  each = λ pattern m n hp hm hn one. leads pattern hp m hm ∙ (ap (λ class. answer_to table pattern (representative t class)) one ∙ sym (leads pattern hp n hn));
}

-- two answers with the same bits are the same
pub same_answer : (table : Answers) (pattern left right : ℕ) → IsTable table → pattern < length table.rows → left < table.numbers → right < table.numbers
    → ((k : ℕ) → k < table.positions → answer_bit table pattern left k ≡ answer_bit table pattern right k) → answer_to table pattern left ≡ answer_to table pattern right
same_answer table pattern left right is hp hl hr same =
    let wide = is.positions pattern left hp hl in
    same_bits_same_list (answer_to table pattern left) (answer_to table pattern right) (wide ∙ sym (is.positions pattern right hp hr)) (λ k h. same k (omega (arith, h, wide)))
