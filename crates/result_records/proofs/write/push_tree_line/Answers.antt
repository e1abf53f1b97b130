use Rattle.std.proofs.Common.{◌∙◌, List, ℕ, ◌++◌, ◌∷◌, [], ap, lit<}
use Rattle.std.specs.String.{string_bytes}
use Rattle.result_records.proofs.write.push_tree_line.Goals as goal

pub returns : goal.returns
returns c =
    c.in_ok-push.ensures.bytes ∙ ap (λ (xs : List ℕ). string_bytes c.push_tree_fields.new.text ++ xs) (c.in_ok-push.ensures.ascii (lit< tt))
    ∙ ap (λ (xs : List ℕ). xs ++ 10 ∷ []) c.in_ok-push_tree_fields.ensures
