use Rattle.std.proofs.Common.{◌∙◌, ◌++◌, ◌∷◌, [], ℕ, List, length, sym, ap, append_assoc}
use Rattle.std.specs.String.{string_bytes}
use Rattle.result_records.specs.declared.record.Record.TheVariants.{Head, Budget}
use Rattle.result_records.specs.Spelling.{text_of}
use Rattle.result_records.proofs.RecordLists.{text-append}
use Rattle.result_file.proofs.tables.push_head.Goals as goal

pub returns : goal.returns
returns c =
    let old = string_bytes c.args.text.now in
    let head = Head c.args.circuit.now.sources (length c.args.circuit.now.positions) c.args.numbers in
    let budget = Budget c.args.budgets in
    let first = rw (c.sources.ensures.value, c.positions.ensures.value) at c.in_ok-push_line.ensures.ok in
    c.in_ok-push_line-2.ensures.ok ∙ ap (λ (t : List ℕ). t ++ text_of (budget ∷ [])) first ∙ append_assoc old (text_of (head ∷ [])) (text_of (budget ∷ []))
    ∙ ap (λ (t : List ℕ). old ++ t) (sym (text-append (head ∷ []) (budget ∷ [])))
