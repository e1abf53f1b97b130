use Rattle.std.proofs.Common.{◌≡◌, ◌∷◌, map, ap}
use Rattle.result_records.proofs.AnswerLemmas.{clauses_read}
use Rattle.result_records.proofs.evidence.read_clauses.Goals as goal

pub returns : goal.returns
returns c =
    let steps = map (λ f. f.now) c.in-Some.steps.now in
    let field = c.in-Some.start.now.now in
    let fields : map (λ f. f.now) c.args.fields.now ≡ field ∷ steps = ap (map (λ f. f.now)) c.in-Some.ensures.cases.0 in
    rw fields
    (clauses_read c.in-Some-number_of.start c.args.at field steps c.read_steps.result c.in-Some-number_of.ensures.0 c.requires c.in-Some-number_of.ensures.1 (rw c.new.ensures at c.read_steps.ensures))
