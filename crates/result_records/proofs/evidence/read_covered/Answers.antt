use Rattle.std.proofs.Common.{List, ◌∷◌, map}
use Rattle.std.specs.Prelude.{codes}
use Rattle.std.proofs.lemmas.Result.{err_from_is_err_and}
use Rattle.pair_sets.specs.declared.tree.Token.{Token}
use Rattle.result_records.specs.Spelling.{token_field, proof_fields, HasTreeSpelling, HasProofSpelling}
use Rattle.result_records.proofs.ReadLemmas.{refuses_covered}
use Rattle.result_records.proofs.AnswerLemmas.{turned}
use Rattle.result_records.proofs.evidence.read_covered.Goals as goal

pub returns-in_err-read_tree : goal.returns-in_err-read_tree
returns-in_err-read_tree c =
    let texts = map (λ f. f.now) c.args.fields.now in
    let p = err_from_is_err_and c.from_residual.result c.from_residual.ensures.1 in
    rw (p.1, p.2) (turned HasTreeSpelling (λ (tree : List Token). map token_field tree) texts HasProofSpelling proof_fields (codes "T" ∷ texts) c.in_err-read_tree.field-0.0 c.in_err-read_tree.ensures (refuses_covered texts))
