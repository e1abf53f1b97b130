use Rattle.std.proofs.Common.{◌≡◌, ◌∙◌, List, ℕ, ◌++◌, ◌∷◌, [], map, ap, sym, lit<}
use Rattle.std.specs.Prelude.{codes, decimal, flat_map}
use Rattle.std.specs.String.{string_bytes}
use Rattle.std.specs.List.{join_with_byte}
use Rattle.std.proofs.lemmas.List.{append_assoc}
use Rattle.result_records.specs.Spelling.{token_field, chain_fields, evidence_fields, log_fields, behind_blanks}
use Rattle.result_records.proofs.TreeLines.{join_append, blanks_of_log}
use Rattle.result_records.proofs.write.push_log_line.Goals as goal

pub returns : goal.returns
returns c =
    let old = string_bytes c.args.text.now in
    let tree = c.args.tree.now in
    let log = c.args.log.now in
    let words = decimal c.args.member ∷ decimal c.args.partner ∷ c.args.kind.now ∷ map token_field tree in
    let chains = flat_map (λ chain. behind_blanks (codes ";" ∷ chain_fields chain)) log in
    let fields : join_with_byte 32 (codes "same" ∷ decimal c.args.member ∷ decimal c.args.partner ∷ c.args.kind.now ∷ evidence_fields tree log) ≡ join_with_byte 32 (codes "same" ∷ words) ++ chains =
    join_append (codes "same") words (log_fields log) ∙ ap (λ (xs : List ℕ). join_with_byte 32 (codes "same" ∷ words) ++ xs) (blanks_of_log log) in
    let line : string_bytes c.push_log.new.text ≡ old ++ join_with_byte 32 (codes "same" ∷ decimal c.args.member ∷ decimal c.args.partner ∷ c.args.kind.now ∷ evidence_fields tree log) =
    c.in_ok-push_log.ensures ∙ ap (λ (xs : List ℕ). xs ++ chains) c.in_ok-push_tree_fields.ensures ∙ append_assoc old (join_with_byte 32 (codes "same" ∷ words)) chains
    ∙ ap (λ (xs : List ℕ). old ++ xs) (sym fields) in
    c.in_ok-push.ensures.bytes ∙ ap (λ (xs : List ℕ). string_bytes c.push_log.new.text ++ xs) (c.in_ok-push.ensures.ascii (lit< tt)) ∙ ap (λ (xs : List ℕ). xs ++ 10 ∷ []) line
