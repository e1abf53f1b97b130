use Rattle.std.proofs.Common.{◌≡◌, ◌∙◌, ◌∷◌, ◌++◌, List, ℕ, map, ap, ap₂, sym, subst}
use Rattle.std.specs.Prelude.{codes, decimal, OnOk}
use Rattle.std.specs.Option.{option_to_list}
use Rattle.std.specs.String.{string_bytes}
use Rattle.std.proofs.lemmas.List.{append_assoc}
use Rattle.clause_pool.specs.Literal.{Literal}
use Rattle.text_fields.specs.Fields.{Text}
use Rattle.result_records.specs.Spelling.{behind_blanks, literal_field}
use Rattle.result_records.proofs.TreeLines.{steps_text, blanks_of_chain}
use Rattle.result_records.proofs.write_log.push_chain.Goals as goal

pub returns : goal.returns
returns c =
    let chain = c.args.chain.now in
    let names = behind_blanks (map literal_field (option_to_list chain.fresh_at)) in
    let number = 32 ∷ decimal chain.start in
    let mark = 32 ∷ codes ";" in
    let text = string_bytes c.args.text.now in
    let fresh : string_bytes c.push_fresh.new.text ≡ string_bytes c.push_str.new.self ++ names = rw c.at.ensures at c.in_ok-push_fresh.ensures in
    let start : string_bytes c.push_number.new.text ≡ string_bytes c.push_fresh.new.text ++ number = rw c.start.ensures at c.in_ok-push_number.ensures in
    let begun : string_bytes c.push_number.new.text ≡ text ++ mark ++ names ++ number =
    start ∙ ap (λ (t : Text). t ++ number) (fresh ∙ ap (λ (t : Text). t ++ names) c.in_ok-push_str.ensures.bytes) in
    let grouped : text ++ mark ++ names ++ number ++ steps_text chain.steps ≡ text ++ (mark ++ (names ++ (number ++ steps_text chain.steps))) = simp append_assoc in
    subst (λ (t : Text). OnOk c.push_steps.result (string_bytes c.push_steps.new.text ≡ t))
    (ap₂ (λ (a : Text) (steps : List (Literal × ℕ)). a ++ steps_text steps) begun c.steps.ensures ∙ grouped ∙ ap (λ (t : Text). text ++ t) (sym (blanks_of_chain chain)))
    c.push_steps.ensures
