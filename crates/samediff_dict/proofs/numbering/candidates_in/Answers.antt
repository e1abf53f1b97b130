use Rattle.std.proofs.Common.{◌≡◌, ◌++◌, ◌∷◌, ℕ, [], List, length, get_or, sym, ap, subst, arith}
use Rattle.std.proofs.lemmas.List.{length_push}
use Rattle.answer_numbers.specs.AnswerNumbers.{IsAnswerNumber}
use Rattle.samediff_dict.proofs.CandidateLemmas.{each_push}
use Rattle.samediff_dict.proofs.numbering.candidates_in.Goals as goal

pub loop-place-init : goal.loop-place-init
loop-place-init c = record { count = ap length c.in_ok-own.ensures; each = λ place d h. absurd (omega (arith, h)) }

pub loop-place-preserved : goal.loop-place-preserved
loop-place-preserved c =
    let n = c.args.numbers.now in
    let so_far = c.loop-place.invariant in
    let before = c.loop-place.own in
    let number = c.number.result in
    let items : c.push.new.self ≡ before ++ number ∷ [] = c.in_ok-push.ensures.ok in
    record {
      count = omega (arith, ap length items, length_push before number, so_far.count);
      each = λ place d h. subst (λ (xs : List ℕ). IsAnswerNumber n c.args.lane place (get_or xs place d)) (sym items) (each_push (λ p own. IsAnswerNumber n c.args.lane p own) before number c.loop-place.place so_far.count so_far.each c.number.ensures place d h);
    }

pub returns : goal.returns
returns c =
    let all = c.loop-place.invariant in
    record {
      count_is = c.count.ensures;
      one_each = omega (arith, all.count, c.requires.leads);
      each = λ place h. all.each place 0 (omega (arith, h, c.requires.leads));
    }
