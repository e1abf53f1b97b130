use Rattle.std.proofs.Common.{◌≡◌, ◌≢◌, ◌∙◌, ℕ, ◌+◌, Bool, List, [], ◌∷◌, ◌++◌, length, get_or, sym, ap, subst, arith}
use Rattle.std.proofs.lemmas.List.{length-append}
use Rattle.net_model.proofs.OneAnswer.{one_answer}
use Rattle.answer_numbers.specs.AnswerNumbers.{vector_in, lead_fault}
use Rattle.adaptive_planner.specs.CircuitNumbers.{AreFirstPlaces, answer_list}
use Rattle.adaptive_planner.proofs.LaneLemmas.{list_long, list_at, list_answers, place_new, place_old}
use Rattle.adaptive_planner.proofs.circuit_numbers.LaneNumbers.add.Goals as goal

pub returns-in_ok-push-2 : goal.returns-in_ok-push-2
returns-in_ok-push-2 c =
    let n = c.args.source.now in
    let found = c.args.self.now in
    let number = c.number-number.result in
    let items = c.in_ok-push.ensures.items in
    let many : number ≡ length found.answers.items = omega (arith, c.if-number-len.true, c.len.ensures, found.answers.ok.0) in
    record {
      count = ap length items ∙ (length-append found.numbers.items (number ∷ []) ∙ ap (λ k. k + 1) c.requires.numbers.count);
      places = λ answer so.
          let all = answer_list (length n.leads) answer in
          let long = list_long n.circuit n.leads (vector_in n c.args.lane) answer so in
          let is = c.number-number.ensures all (list_answers n.circuit n.leads (vector_in n c.args.lane) answer so) in
          let pushed : c.in_ok-answer_over.field-0 ≡ get_or all c.args.place [] =
          one_answer n.circuit c.requires.circuit (lead_fault n.circuit n.leads c.args.place) (vector_in n c.args.lane) c.in_ok-answer_over.field-0 (answer c.args.place) c.in_ok-answer_over.ensures (so c.args.place c.requires.place)
          ∙ sym (list_at n.circuit n.leads (vector_in n c.args.lane) answer so c.args.place c.requires.place) in
          let more = place_new all c.args.place number (omega (arith, long, c.requires.place)) is found.numbers.items found.answers.items c.requires.numbers.count (c.requires.numbers.places answer so) many in
          subst (λ (ns : List ℕ). AreFirstPlaces all (c.args.place + 1) ns c.push-then-number-len.new.self.items) (sym items)
          (subst (λ (rows : List (List Bool)). AreFirstPlaces all (c.args.place + 1) (found.numbers.items ++ number ∷ []) rows)
          (sym (c.in_ok-push-2.ensures.items ∙ ap (λ (a : List Bool). found.answers.items ++ a ∷ []) pushed)) more);
    }

pub returns-else-number-len : goal.returns-else-number-len
returns-else-number-len c =
    let n = c.args.source.now in
    let found = c.args.self.now in
    let number = c.number-number.result in
    let items = c.in_ok-push.ensures.items in
    let other : number ≢ length found.answers.items = λ e. c.if-number-len.false (e ∙ sym (c.len.ensures ∙ found.answers.ok.0)) in
    record {
      count = ap length items ∙ (length-append found.numbers.items (number ∷ []) ∙ ap (λ k. k + 1) c.requires.numbers.count);
      places = λ answer so.
          let all = answer_list (length n.leads) answer in
          let long = list_long n.circuit n.leads (vector_in n c.args.lane) answer so in
          let is = c.number-number.ensures all (list_answers n.circuit n.leads (vector_in n c.args.lane) answer so) in
          let more = place_old all c.args.place number (omega (arith, long, c.requires.place)) is found.numbers.items found.answers.items c.requires.numbers.count (c.requires.numbers.places answer so) other in
          subst (λ (ns : List ℕ). AreFirstPlaces all (c.args.place + 1) ns found.answers.items) (sym items) more;
    }
