use Rattle.std.proofs.Common.{◌∙◌, List, ◌++◌, ◌-◌, length, map, take, drop, take-append-drop, sym, ap, ap₂}
use Rattle.std.specs.Prelude.{All}
use Rattle.std.proofs.lemmas.List.{map-append, take-map, drop-map, take_rest}
use Rattle.std.proofs.lemmas.Result.{err_from_is_err_and}
use Rattle.pair_sets.specs.declared.tree.Token.{Token}
use Rattle.pair_miter.specs.ChainView.{ChainView}
use Rattle.text_fields.specs.Fields.{Text}
use Rattle.result_records.specs.Spelling.{token_field, evidence_fields, log_fields, HasTreeSpelling}
use Rattle.result_records.specs.Reading.{IsChainOf}
use Rattle.result_records.proofs.SoFarLemmas.{chain_end_of, parts_of}
use Rattle.result_records.proofs.AnswerLemmas.{turned}
use Rattle.result_records.proofs.evidence.read_tree_and_log.Goals as goal

pub returns-in_err-tree : goal.returns-in_err-tree
returns-in_err-tree c =
    let texts = map (λ f. f.now) c.args.fields.now in
    let n = c.first_mark-end.result in
    let is = chain_end_of (λ f. f.now) c.args.fields.now n c.first_mark-end.ensures.within c.first_mark-end.ensures.before c.first_mark-end.ensures.at in
    let p = err_from_is_err_and c.from_residual.result c.from_residual.ensures.1 in
    rw (p.1, p.2)
    (turned HasTreeSpelling (λ (tree : List Token). map token_field tree) (map (λ f. f.now) (take n c.args.fields.now))
    (λ (both : List Token × List ChainView). HasTreeSpelling both.0 × All (IsChainOf c.args.fresh) both.1) (λ both. evidence_fields both.0 both.1) texts c.in_err-tree.field-0.0 c.in_err-tree.ensures
    (λ never both spelled e. never both.0 spelled.0 ((parts_of c.args.fresh texts n is both.0 both.1 spelled.0 spelled.1 e).0 ∙ take-map (λ f. f.now) n c.args.fields.now)))

pub returns-in_err-log : goal.returns-in_err-log
returns-in_err-log c =
    let texts = map (λ f. f.now) c.args.fields.now in
    let n = c.first_mark-end.result in
    let is = chain_end_of (λ f. f.now) c.args.fields.now n c.first_mark-end.ensures.within c.first_mark-end.ensures.before c.first_mark-end.ensures.at in
    let p = err_from_is_err_and c.from_residual-in_err-log.result c.from_residual-in_err-log.ensures.1 in
    rw (p.1, p.2)
    (turned (All (IsChainOf c.args.fresh)) log_fields (map (λ f. f.now) (take (length c.args.fields.now - n) (drop n c.args.fields.now)))
    (λ (both : List Token × List ChainView). HasTreeSpelling both.0 × All (IsChainOf c.args.fresh) both.1) (λ both. evidence_fields both.0 both.1) texts c.in_err-log.field-0.0 c.in_err-log.ensures
    (λ never both spelled e. never both.1 spelled.1 ((parts_of c.args.fresh texts n is both.0 both.1 spelled.0 spelled.1 e).1 ∙ drop-map (λ f. f.now) n c.args.fields.now ∙ ap (map (λ f. f.now)) (sym (take_rest c.args.fields.now n)))))

pub returns : goal.returns
returns c =
    let fields = c.args.fields.now in
    let n = c.first_mark-end.result in
    let tree = c.in_ok-tree.ensures in
    let log = c.in_ok-log.ensures in
    ((tree.0, log.0), ap₂ (λ (first second : List Text). first ++ second) tree.1 (log.1 ∙ ap (map (λ f. f.now)) (take_rest fields n)) ∙ sym (map-append (λ f. f.now) (take n fields) (drop n fields)) ∙ ap (map (λ f. f.now)) (take-append-drop n fields))
