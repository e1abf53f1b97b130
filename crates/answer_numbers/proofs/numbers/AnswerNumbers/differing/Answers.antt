use Rattle.std.proofs.Common.{◌≡◌, ◌∙◌, ◌<◌, ◌≤◌, ℕ, Bool, false, List, [], length, get_or, sym, ap, subst, arith}
use Rattle.std.proofs.lemmas.List.{get_or_read}
use Rattle.net_model.specs.Answer.{bit_at}
use Rattle.word_sim.specs.declared.lanes.TheConstants.{LANES}
use Rattle.word_sim.specs.GoodSim.{vectors_of}
use Rattle.answer_numbers.specs.AnswerNumbers.{DiffersFromFree}
use Rattle.answer_numbers.proofs.FieldLemmas.{moved, place_listed}
use Rattle.answer_numbers.proofs.numbers.AnswerNumbers.differing.Goals as goal

pub returns-clause-live : goal.returns-clause-live
returns-clause-live c =
    let a = c.self.inside in
    let n = c.in-Some.numbered in
    let place = c.args.place in
    let differing = (c.self.invariant.numbers n c.in-Some.is).differing in
    let hp = place_listed a n c.in-Some.is c.args.self.now c.self.view_is place c.requires.place in
    let row : c.index.result.now ≡ get_or n.differing.items place [] = get_or_read n.differing.items place c.index.result.now (omega (arith, hp, differing.one_each)) c.index.ensures [] in
    moved a n c.in-Some.is c.args.self.now c.self.view_is (λ k ls vs. (lane : ℕ) → lane < length vs → DiffersFromFree k ls (get_or vs lane []) place (bit_at c.index.result.now lane))
    (λ lane h. subst (λ (r : List Bool). DiffersFromFree a.good.circuit a.leads.now (get_or (vectors_of a.good) lane []) place (bit_at r lane)) (sym row) (differing.live place lane hp h))

pub returns-clause-past : goal.returns-clause-past
returns-clause-past c =
    let a = c.self.inside in
    let n = c.in-Some.numbered in
    let place = c.args.place in
    let differing = (c.self.invariant.numbers n c.in-Some.is).differing in
    let hp = place_listed a n c.in-Some.is c.args.self.now c.self.view_is place c.requires.place in
    let row : c.index.result.now ≡ get_or n.differing.items place [] = get_or_read n.differing.items place c.index.result.now (omega (arith, hp, differing.one_each)) c.index.ensures [] in
    moved a n c.in-Some.is c.args.self.now c.self.view_is (λ k ls vs. (lane : ℕ) → length vs ≤ lane → lane < LANES → bit_at c.index.result.now lane ≡ false)
    (λ lane h l. ap (λ (r : List Bool). bit_at r lane) row ∙ differing.past place lane hp h l)
