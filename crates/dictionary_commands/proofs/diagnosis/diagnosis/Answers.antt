use Rattle.std.proofs.Common.{◌≡◌, ◌++◌, ◌∙◌, ℕ, List, ap, ap₂, length, arith}
use Rattle.std.specs.List.{flat_map}
use Rattle.dict_rows.specs.Dictionary.{listed_numbers}
use Rattle.dictionary_commands.specs.Texts.{numbers_text, number_line, listed_text}
use Rattle.dictionary_commands.proofs.diagnosis.diagnosis.Goals as goal

pub returns : goal.returns
unfolding numbers_text
returns c =
    let listed = listed_numbers c.args.dict.now c.args.observed.now in
    let numbers : c.deref.result.now ≡ listed = c.deref.ensures.value ∙ c.in_ok-numbers.ensures in
    let count : c.len.result ≡ length listed = omega (arith, c.len.ensures, c.in_ok-numbers.numbers.ok.0, ap length c.in_ok-numbers.ensures) in
    c.in_ok-extend_from_slice.ensures.items
    ∙ ap₂ (λ (xs ys : List ℕ). xs ++ ys) (c.in_ok-push_numbers.ensures ∙ ap₂ (λ (xs ns : List ℕ). xs ++ flat_map number_line ns) c.new-text.ensures.items numbers)
    (c.as_bytes.ensures.value ∙ (c.in_ok-count.ensures ∙ ap listed_text count))
