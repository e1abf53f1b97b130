use Rattle.std.proofs.Common.{◌≡◌, ◌∙◌, List, ℕ, ◌++◌, ◌∷◌, ap, sym}
use Rattle.std.specs.Prelude.{codes, decimal, flat_map}
use Rattle.std.specs.String.{string_bytes}
use Rattle.std.proofs.lemmas.List.{append_assoc}
use Rattle.result_records.specs.Spelling.{token_field}
use Rattle.result_records.proofs.TreeLines.{tree_fields}
use Rattle.result_records.proofs.write.push_tree_fields.Goals as goal

pub returns : goal.returns
returns c =
    let old = string_bytes c.args.text.now in
    let member = decimal c.args.member in
    let partner = decimal c.args.partner in
    let kind = c.args.kind.now in
    let tokens = flat_map (λ token. 32 ∷ token_field token) c.args.tree.now in
    let first = codes "same" ++ 32 ∷ member ++ 32 ∷ partner ++ 32 ∷ kind in
    let head : string_bytes c.push_kind.new.text ≡ old ++ first = rw c.in_ok-push_kind.ensures (simp append_assoc) in
    c.in_ok-push_tree.ensures ∙ ap (λ (xs : List ℕ). xs ++ tokens) head ∙ append_assoc old first tokens
    ∙ ap (λ (xs : List ℕ). old ++ xs) (sym (tree_fields (codes "same") member partner kind c.args.tree.now))
