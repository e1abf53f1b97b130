use Rattle.std.proofs.Common.{◌∷◌, true, map}
use Rattle.std.specs.Prelude.{codes}
use Rattle.std.proofs.lemmas.Result.{err_from_is_err_and}
use Rattle.result_records.proofs.ReadLemmas.{refuses_spent}
use Rattle.result_records.proofs.AnswerLemmas.{unread}
use Rattle.result_records.proofs.evidence.read_spent.Goals as goal

pub returns-in_err-tree : goal.returns-in_err-tree
returns-in_err-tree c =
    let texts = map (λ f. f.now) c.args.fields.now in
    let p = err_from_is_err_and c.from_residual.result c.from_residual.ensures.1 in
    rw (p.1, p.2) (unread true texts (codes "O" ∷ texts) c.in_err-tree.field-0.0 c.in_err-tree.ensures (refuses_spent texts))
