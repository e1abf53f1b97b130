use Rattle.std.proofs.Common.{◌∙◌, List, [], ◌∷◌, get_or, sym, ap}
use Rattle.text_fields.specs.Fields.{Text}
use Rattle.result_records.proofs.AnswerLemmas.{three_texts}
use Rattle.result_records.proofs.read.three_numbers.Goals as goal

pub returns-in_err-first : goal.returns-in_err-first
returns-in_err-first c = rw c.from_residual.ensures (λ first second third small_1 small_2 small_3 e.
    let texts = e ∙ three_texts (λ f. f.now) c.args.parts.now _ c.in-len3.len_at_least c.in-len3.len_below in
    c.in_err-first.ensures first second small_1 small_2 (ap (λ (xs : List Text). get_or xs 0 []) texts) (ap (λ (xs : List Text). get_or xs 1 []) texts))

pub returns-in_err-number_of : goal.returns-in_err-number_of
returns-in_err-number_of c = rw c.from_residual-in_err-number_of.ensures (λ first second third small_1 small_2 small_3 e.
    let texts = e ∙ three_texts (λ f. f.now) c.args.parts.now _ c.in-len3.len_at_least c.in-len3.len_below in
    c.in_err-number_of.ensures third small_3 (ap (λ (xs : List Text). get_or xs 2 []) texts))

pub returns : goal.returns
returns c =
    let texts = three_texts (λ f. f.now) c.args.parts.now _ c.in-len3.len_at_least c.in-len3.len_below in
    let two = c.in_ok-first.ensures in
    let last = c.in_ok-number_of.ensures in
    (two.0, two.1, last.0, (λ i. two.2 i ∷ two.3 i ∷ last.1 i ∷ []) ∙ sym texts)
