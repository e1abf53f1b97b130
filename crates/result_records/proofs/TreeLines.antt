-- The line of evidence with a tree: fields in a row, each token and each field of a chain after a blank.
use Rattle.std.proofs.Common.{◌≡◌, ◌∙◌, ℕ, List, [], ◌∷◌, ◌++◌, map, refl, sym, ap}
use Rattle.std.specs.Prelude.{flat_map, codes, decimal}
use Rattle.std.specs.Option.{option_to_list}
use Rattle.std.specs.List.{join_with_byte}
use Rattle.std.proofs.lemmas.List.{append_assoc, append-nil}
use Rattle.std.proofs.lemmas.List.Concat.{flat_map-append}
use Rattle.clause_pool.specs.Literal.{Literal}
use Rattle.pair_sets.specs.declared.tree.Token.{Token}
use Rattle.pair_miter.specs.ChainView.{ChainView}
use Rattle.text_fields.specs.Fields.{Text}
use Rattle.result_records.specs.Spelling.{behind_blanks, token_field, literal_field, step_fields, chain_fields, log_fields}

-- a first field, and each later one after the byte
join_is : (x : Text) (xs : List Text) → join_with_byte 32 (x ∷ xs) ≡ x ++ behind_blanks xs
join_is x [] = sym (append-nil x)
join_is x (y ∷ xs) = ap (λ (rest : Text). x ++ 32 ∷ rest) (join_is y xs)

pub blanks_append : (xs ys : List Text) → behind_blanks (xs ++ ys) ≡ behind_blanks xs ++ behind_blanks ys
blanks_append xs ys = flat_map-append (λ (text : Text). 32 ∷ text) xs ys

pub blanks_of_tree : (tree : List Token) → behind_blanks (map token_field tree) ≡ flat_map (λ token. 32 ∷ token_field token) tree
blanks_of_tree [] = refl
blanks_of_tree (token ∷ tree) = ap (λ (rest : Text). 32 ∷ token_field token ++ rest) (blanks_of_tree tree)

-- the steps of a chain, a blank before each field
abbrev pub steps_text : List (Literal × ℕ) → Text
steps_text steps = flat_map (λ step. (32 ∷ literal_field step.0) ++ 32 ∷ decimal step.1) steps

blanks_of_steps : (steps : List (Literal × ℕ)) → behind_blanks (flat_map step_fields steps) ≡ steps_text steps
blanks_of_steps [] = refl
blanks_of_steps (step ∷ steps) =
    let first = 32 ∷ literal_field step.0 in
    let second = 32 ∷ decimal step.1 in
    ap (λ (rest : Text). first ++ (second ++ rest)) (blanks_of_steps steps) ∙ sym (append_assoc first second (steps_text steps))

-- a chain, after the field that begins it
pub blanks_of_chain : (chain : ChainView)
    → behind_blanks (codes ";" ∷ chain_fields chain) ≡ (32 ∷ codes ";") ++ (behind_blanks (map literal_field (option_to_list chain.fresh_at)) ++ ((32 ∷ decimal chain.start) ++ steps_text chain.steps))
blanks_of_chain chain =
    let names = map literal_field (option_to_list chain.fresh_at) in
    ap (λ (rest : Text). (32 ∷ codes ";") ++ rest)
    (blanks_append names (decimal chain.start ∷ flat_map step_fields chain.steps) ∙ ap (λ (rest : Text). behind_blanks names ++ ((32 ∷ decimal chain.start) ++ rest)) (blanks_of_steps chain.steps))

abbrev chain_text : ChainView → Text
chain_text chain = behind_blanks (codes ";" ∷ chain_fields chain)

pub blanks_of_log : (log : List ChainView) → behind_blanks (log_fields log) ≡ flat_map chain_text log
blanks_of_log [] = refl
blanks_of_log (chain ∷ log) = blanks_append (codes ";" ∷ chain_fields chain) (log_fields log) ∙ ap (λ (rest : Text). chain_text chain ++ rest) (blanks_of_log log)

-- fields after others
pub join_append : (x : Text) (xs ys : List Text) → join_with_byte 32 (x ∷ xs ++ ys) ≡ join_with_byte 32 (x ∷ xs) ++ behind_blanks ys
join_append x xs ys =
    join_is x (xs ++ ys) ∙ ap (λ (rest : Text). x ++ rest) (blanks_append xs ys) ∙ sym (append_assoc x (behind_blanks xs) (behind_blanks ys))
    ∙ ap (λ (text : Text). text ++ behind_blanks ys) (sym (join_is x xs))

-- the fields up to a kind, and further ones
pub line_fields : (x y z kind : Text) (rest : List Text) → join_with_byte 32 (x ∷ y ∷ z ∷ kind ∷ rest) ≡ (x ++ 32 ∷ y ++ 32 ∷ z ++ 32 ∷ kind) ++ behind_blanks rest
line_fields x y z kind rest =
    let later = behind_blanks rest in
    let last : join_with_byte 32 (kind ∷ rest) ≡ kind ++ later = join_is kind rest in
    let grouped : x ++ 32 ∷ (y ++ 32 ∷ (z ++ 32 ∷ (kind ++ later))) ≡ (x ++ 32 ∷ y ++ 32 ∷ z ++ 32 ∷ kind) ++ later = simp append_assoc in
    rw last grouped

pub tree_fields : (x y z kind : Text) (tree : List Token)
    → join_with_byte 32 (x ∷ y ∷ z ∷ kind ∷ map token_field tree) ≡ (x ++ 32 ∷ y ++ 32 ∷ z ++ 32 ∷ kind) ++ flat_map (λ token. 32 ∷ token_field token) tree
tree_fields x y z kind tree = line_fields x y z kind (map token_field tree) ∙ ap (λ (rest : Text). (x ++ 32 ∷ y ++ 32 ∷ z ++ 32 ∷ kind) ++ rest) (blanks_of_tree tree)
