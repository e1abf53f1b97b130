use Rattle.std.proofs.Common.{◌∙◌, List, [], ◌∷◌, sym, ap}
use Rattle.std.specs.Prelude.{codes}
use Rattle.text_fields.specs.Fields.{Text}
use Rattle.result_records.proofs.AnswerLemmas.{three_texts}
use Rattle.result_records.proofs.read.read_member.Goals as goal

pub returns-in-Some-Some : goal.returns-in-Some-Some
returns-in-Some-Some c =
    let texts = three_texts (λ f. f.now) c.args.rest.now _ c.in-len3.len_at_least c.in-len3.len_below in
    let numbers = c.in-Some-Some.ensures in
    let mark = c.in-Some-Some.ensures' in
    ((numbers.0, numbers.1), ap (λ (xs : List Text). codes "member" ∷ xs) ((λ i. numbers.2 i ∷ numbers.3 i ∷ mark i ∷ []) ∙ sym texts))
