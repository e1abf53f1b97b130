use Rattle.std.proofs.Common.{◌≡◌, ◌∷◌, lit<}
use Rattle.std.proofs.lemmas.Str.Pattern.{strip_prefix_char}
use Rattle.text_fields.specs.Fields.{Text}
use Rattle.result_records.proofs.AnswerLemmas.{negative_read, positive_read}
use Rattle.result_records.proofs.words.literal_of.Goals as goal

pub returns-in-Some : goal.returns-in-Some
returns-in-Some c =
    let cut = strip_prefix_char 45 c.args.field.now c.strip_prefix.result c.strip_prefix.ensures.cases (lit< tt) in
    let dash : c.args.field.now ≡ 45 ∷ c.in-Some.digits.now = rw c.in-Some.is at cut in
    negative_read c.args.field.now c.in-Some.digits.now c.literal_with.result dash c.literal_with.ensures

pub returns-in-None : goal.returns-in-None
returns-in-None c =
    let cut = strip_prefix_char 45 c.args.field.now c.strip_prefix.result c.strip_prefix.ensures.cases (lit< tt) in
    let none : (rest : Text) → c.args.field.now ≡ 45 ∷ rest → ⊥ = rw c.in-None.is at cut in
    positive_read c.args.field.now c.literal_with-in-None.result none c.literal_with-in-None.ensures
