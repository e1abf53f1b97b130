use Rattle.std.proofs.Common.{◌∙◌, ◌<◌, [], map, length, sym, arith}
use Rattle.std.specs.Prelude.{All}
use Rattle.std.proofs.lemmas.Bool.{not-true, not-false}
use Rattle.std.specs.Cmp.Lexicographic.{same_text, other_text}
use Rattle.std.proofs.lemmas.List.{get_or-map, length-map}
use Rattle.std.proofs.lemmas.Result.{err_from_is_err_and}
use Rattle.result_records.specs.Spelling.{chain_fields, log_fields}
use Rattle.result_records.specs.Reading.{IsChainOf}
use Rattle.result_records.proofs.SoFarLemmas.{chain_begins, chain_cut, refused_mark, refused_chain, log_more}
use Rattle.result_records.proofs.AnswerLemmas.{turned}
use Rattle.result_records.proofs.evidence.read_log.Goals as goal

pub returns-then-ne : goal.returns-then-ne
returns-then-ne c = λ log all e.
    let fields = c.args.fields.now in
    let at = c.loop-at.at in
    let texts = map (λ f. f.now) fields in
    let below : at < length texts = omega (arith, c.loop-at-test.true, length-map fields (λ f. f.now)) in
    refused_mark c.args.fresh texts at c.loop-at.log c.loop-at.invariant below (λ is. other_text _ _ (sym (not-true _ (sym c.if-ne.ensures))) (sym (get_or-map (λ f. f.now) fields at _ [] c.loop-at-test.true) ∙ is)) (log, all, e)

pub returns-in_err-chain : goal.returns-in_err-chain
returns-in_err-chain c =
    let fields = c.args.fields.now in
    let at = c.loop-at.at in
    let first = c.first_mark.ensures in
    let texts = map (λ f. f.now) fields in
    let mark = get_or-map (λ f. f.now) fields at _ [] c.loop-at-test.true ∙ same_text _ _ (sym (not-false _ (sym c.if-ne.ensures))) in
    let begins = chain_begins (λ f. f.now) fields at c.first_mark.result c.loop-at-test.true mark first.within first.before first.at in
    let cut = chain_cut (λ f. f.now) fields at c.first_mark.result in
    let p = err_from_is_err_and c.from_residual.result c.from_residual.ensures.1 in
    rw (p.1, p.2)
    (turned (IsChainOf c.args.fresh) chain_fields _ (All (IsChainOf c.args.fresh)) log_fields texts c.in_err-chain.field-0.0 c.in_err-chain.ensures
    (λ never log all e. refused_chain c.args.fresh texts at c.loop-at.log c.loop-at.invariant c.first_mark.result begins (λ chain one spelled. never chain one (spelled ∙ sym cut)) (log, all, e)))

pub loop-at-preserved : goal.loop-at-preserved
loop-at-preserved c =
    let fields = c.args.fields.now in
    let at = c.loop-at.at in
    let first = c.first_mark.ensures in
    let mark = get_or-map (λ f. f.now) fields at _ [] c.loop-at-test.true ∙ same_text _ _ (sym (not-false _ (sym c.if-ne.ensures))) in
    let begins = chain_begins (λ f. f.now) fields at c.first_mark.result c.loop-at-test.true mark first.within first.before first.at in
    let cut = chain_cut (λ f. f.now) fields at c.first_mark.result in
    rw c.in_ok-push.ensures.ok
    (log_more c.args.fresh (map (λ f. f.now) fields) at c.loop-at.log c.loop-at.invariant c.first_mark.result begins c.in_ok-chain.chain c.in_ok-chain.ensures.0 (c.in_ok-chain.ensures.1 ∙ cut))
