use Rattle.std.proofs.Common.{◌≡◌, ◌∙◌, ◌+◌, ◌++◌, ◌∷◌, ℕ, Bool, [], List, length, get_or, map, refl, sym, ap, subst, arith}
use Rattle.std.proofs.lemmas.List.{length_push, get_or_append_left}
use Rattle.dict_rows.specs.AnswerTable.{answer_to}
use Rattle.dict_rows.proofs.RowLemmas.{zeros_begun}
use Rattle.samediff_dict.specs.declared.numbering.Candidates.{Candidates}
use Rattle.samediff_dict.specs.Numbered.{AreNumbersOf}
use Rattle.samediff_dict.proofs.CandidateLemmas.{added_push}
use Rattle.samediff_dict.proofs.numbering.add_candidates.Goals as goal

pub loop-pattern-init : goal.loop-pattern-init
loop-pattern-init c = record {
  shape = (zeros_begun (length c.args.leads.now) c.positions.result (length c.args.leads.now) c.args.table.now.positions (λ row. []) c.in_ok-rows.ensures refl c.positions.ensures.value).are;
  count = omega arith;
  before = λ k d h. refl;
  added = λ pattern d h. absurd (omega (arith, h));
}

pub candidates_at-requires : goal.candidates_at-requires
candidates_at-requires c = record {
  known = c.requires.known;
  few = c.requires.few;
  pattern = omega (arith, c.patterns-pattern-end.ensures.value);
  shape = c.loop-pattern.invariant.shape;
}

pub loop-pattern-preserved : goal.loop-pattern-preserved
loop-pattern-preserved c =
    let table = c.args.table.now in
    let leads = c.args.leads.now in
    let pattern = c.loop-pattern.pattern in
    let so_far = c.loop-pattern.invariant in
    let next = c.in_ok-next.next in
    let before = c.loop-pattern.patterns.items in
    let old = c.args.patterns.now.items in
    let answers : ℕ → List (List Bool) = λ p. map (answer_to table p) leads in
    let items : c.push.new.self.items ≡ before ++ next ∷ [] = c.in_ok-push.ensures.items in
    record {
      shape = c.in_ok-next.ensures.shape;
      count = omega (arith, ap length items, length_push before next, so_far.count);
      before = λ k d h. ap (λ (ps : List Candidates). get_or ps k d) items ∙ (get_or_append_left before (next ∷ []) d k (omega (arith, h, so_far.count)) ∙ so_far.before k d h);
      added = λ p d h. subst (λ (ps : List Candidates). AreNumbersOf (answers p) (get_or ps (length old + p) d)) (sym items)
          (added_push (λ q one. AreNumbersOf (answers q) one) (length old) before next pattern so_far.count so_far.added c.in_ok-next.ensures.numbers p d h);
    }

pub returns : goal.returns
returns c =
    let all = c.loop-pattern.invariant in
    record {
      count = omega (arith, all.count, c.patterns-pattern-end.ensures.value);
      before = all.before;
      added = λ pattern d h. all.added pattern d (omega (arith, h, c.patterns-pattern-end.ensures.value));
    }
