use Rattle.std.proofs.Common.{◌≡◌, ◌∙◌, [], ◌∷◌, false, map, length, sym, ap}
use Rattle.std.specs.Prelude.{codes}
use Rattle.std.proofs.lemmas.Result.{err_from_is_err_and}
use Rattle.std.proofs.lemmas.Bool.{eqb-true}
use Rattle.std.proofs.lemmas.List.{nil_from_length}
use Rattle.result_records.proofs.OnceLemmas.{evidence_once}
use Rattle.result_records.proofs.ReadLemmas.{refuses_refuted}
use Rattle.result_records.proofs.AnswerLemmas.{unread}
use Rattle.result_records.proofs.evidence.read_refuted.Goals as goal

pub returns-in_err-tree : goal.returns-in_err-tree
returns-in_err-tree c =
    let texts = map (λ f. f.now) c.args.fields.now in
    let p = err_from_is_err_and c.from_residual.result c.from_residual.ensures.1 in
    rw (p.1, p.2)
    (unread false texts (codes "R" ∷ texts) c.in_err-tree.field-0.0 c.in_err-tree.ensures (λ never. refuses_refuted texts (λ tree log spelled refutation. never tree log spelled refutation.1)))

pub returns-then-is_empty : goal.returns-then-is_empty
returns-then-is_empty c =
    let texts = map (λ f. f.now) c.args.fields.now in
    let read = c.in_ok-tree.ensures in
    let none : c.in_ok-tree.log ≡ [] = nil_from_length c.in_ok-tree.log (sym (ap length c.as_slice.ensures) ∙ eqb-true (length c.as_slice.result.now) 0 (sym c.if-is_empty.ensures)) in
    refuses_refuted texts (λ tree log spelled refutation e.
    let same = evidence_once false tree c.in_ok-tree.tree log c.in_ok-tree.log spelled read.0.0 refutation.1 read.0.1 (e ∙ sym read.1) in
    refutation.0 (same.1 ∙ none))
