use Rattle.std.proofs.Common.{◌≡◌, ◌∷◌, true, map, ap}
use Rattle.result_records.proofs.AnswerLemmas.{fresh_read}
use Rattle.result_records.proofs.evidence.read_chain.Goals as goal

pub returns : goal.returns
returns c =
    let clauses = map (λ f. f.now) c.in-Some.clauses.now in
    let field = c.in-Some.at.now.now in
    let fields : map (λ f. f.now) c.args.fields.now ≡ field ∷ clauses = ap (map (λ f. f.now)) c.in-Some.ensures.cases.0 in
    let is : c.args.fresh ≡ true = c.if-not-fresh.false in
    rw (fields, is) (fresh_read c.in-Some-literal_of.at field clauses c.read_clauses-2.result c.in-Some-literal_of.ensures.0 c.in-Some-literal_of.ensures.1 c.read_clauses-2.ensures)
