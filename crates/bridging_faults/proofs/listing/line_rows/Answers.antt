use Rattle.std.proofs.Common.{◌≡◌, ◌∙◌, [], length, refl, ap, subst, arith}
use Rattle.net_model.specs.Circuit.{IsCircuit, line_count}
use Rattle.dict_rows.proofs.RowLemmas.{zeros_begun}
use Rattle.bridging_faults.proofs.SimulatedLemmas.{logged_many, rows_known}
use Rattle.bridging_faults.proofs.listing.line_rows.Goals as goal

pub simulate-requires-clause-good : goal.simulate-requires-clause-good
simulate-requires-clause-good c =
    let lines = c.lines-lines.ensures.value ∙ ap line_count c.circuit.ensures.value in
    let many : c.len.result ≡ length c.args.logged.now.patterns.items = omega (arith, c.len.ensures, c.args.logged.now.patterns.ok.0) in
    (zeros_begun c.lines-lines.result c.len.result (line_count c.args.setting.now.subject.now) (length c.args.logged.now.patterns.items) (λ k. []) c.in_ok-good.ensures lines many).are

pub simulate-requires-clause-turned : goal.simulate-requires-clause-turned
simulate-requires-clause-turned c =
    let lines = c.lines-lines.ensures.value ∙ ap line_count c.circuit.ensures.value in
    let many : c.len-2.result ≡ length c.args.logged.now.patterns.items = omega (arith, c.len-2.ensures, c.args.logged.now.patterns.ok.0) in
    (zeros_begun c.lines-lines.result c.len-2.result (line_count c.args.setting.now.subject.now) (length c.args.logged.now.patterns.items) (λ k. []) c.in_ok-turned.ensures lines many).are

pub returns-clause-shape : goal.returns-clause-shape
returns-clause-shape c =
    let marks = c.requires.marks in
    let goods = c.in_ok-simulate.ensures.good.are in
    let turneds = c.in_ok-simulate.ensures.turned.are in
    record {
      same_count = omega (arith, goods.count_is, turneds.count_is);
      good_wide = λ k d h. omega (arith, goods.width_is k d h, c.in_ok-free.ensures.count, marks.wrongs.count_is);
      turned_wide = λ k d h. omega (arith, turneds.width_is k d h, c.in_ok-free.ensures.count, marks.wrongs.count_is);
    }

pub returns-clause-lines : goal.returns-clause-lines
returns-clause-lines c = c.in_ok-simulate.ensures.good.are.count_is

pub returns-clause-logged : goal.returns-clause-logged
returns-clause-logged c = λ lines is.
    let s = c.args.setting.now in
    let w : IsCircuit s.subject.now = subst IsCircuit c.circuit.ensures.value c.circuit.ensures.circuit in
    omega (arith, c.in_ok-free.ensures.count, c.requires.marks.wrongs.count_is, logged_many s lines c.args.logged.now is w)

pub returns-clause-few : goal.returns-clause-few
returns-clause-few c =
    let answered = c.requires in
    omega (arith, c.in_ok-free.ensures.count, answered.marks.wrongs.count_is, answered.answerable.few)

pub returns-clause-rows : goal.returns-clause-rows
returns-clause-rows c = λ lines is.
    let s = c.args.setting.now in
    let logged = c.args.logged.now in
    let w : IsCircuit s.subject.now = subst IsCircuit c.circuit.ensures.value c.circuit.ensures.circuit in
    let many = logged_many s lines logged is w in
    rows_known s lines logged is w _ (length logged.patterns.items) refl c.in_ok-simulate.ensures.good c.in_ok-simulate.ensures.turned
    (λ k h. c.in_ok-free.ensures.passes k (omega (arith, h, many, is.answered.marks.wrongs.count_is)))
