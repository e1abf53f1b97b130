use Rattle.std.proofs.Common.{◌≡◌, ◌∙◌, ◌+◌, ◌++◌, ◌∷◌, [], List, length, get_or, refl, sym, ap, subst, arith}
use Rattle.std.proofs.lemmas.List.{length_push, get_or_append_left}
use Rattle.answer_numbers.specs.AnswerNumbers.{vector_in}
use Rattle.samediff_dict.specs.declared.numbering.Candidates.{Candidates}
use Rattle.samediff_dict.specs.Numbered.{AreLeadCandidates}
use Rattle.samediff_dict.proofs.CandidateLemmas.{added_push}
use Rattle.samediff_dict.proofs.numbering.add_lanes.Goals as goal

pub loop-lane-init : goal.loop-lane-init
loop-lane-init c = record { count = omega arith; before = λ k d h. refl; added = λ lane d h. absurd (omega (arith, h)) }

pub loop-lane-preserved : goal.loop-lane-preserved
loop-lane-preserved c =
    let n = c.args.numbers.now in
    let lane = c.loop-lane.lane in
    let so_far = c.loop-lane.invariant in
    let next = c.in_ok-next.next in
    let before = c.loop-lane.patterns.items in
    let old = c.args.patterns.now.items in
    let items : c.push.new.self.items ≡ before ++ next ∷ [] = c.in_ok-push.ensures.items in
    record {
      count = omega (arith, ap length items, length_push before next, so_far.count);
      before = λ k d h. ap (λ (ps : List Candidates). get_or ps k d) items ∙ (get_or_append_left before (next ∷ []) d k (omega (arith, h, so_far.count)) ∙ so_far.before k d h);
      added = λ p d h. subst (λ (ps : List Candidates). AreLeadCandidates n.circuit n.leads (vector_in n p) (get_or ps (length old + p) d)) (sym items)
          (added_push (λ q one. AreLeadCandidates n.circuit n.leads (vector_in n q) one) (length old) before next lane so_far.count so_far.added c.in_ok-next.ensures p d h);
    }
