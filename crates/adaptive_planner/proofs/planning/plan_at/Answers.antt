use Rattle.std.proofs.Common.{◌≡◌, ◌∙◌, ℕ, ◌<◌, List, length, map, sym, ap, subst, arith}
use Rattle.std.specs.Prelude.{All}
use Rattle.std.specs.List.{range_with_len}
use Rattle.net_model.specs.Circuit.{Circuit, IsCircuit}
use Rattle.net_model.specs.ClassTable.{class_count, representative}
use Rattle.net_model.specs.FaultList.{fault_count}
use Rattle.class_refine.proofs.PatternTables.{table_numbers}
use Rattle.dict_rows.specs.AnswerTable.{Answers, AreAnswers}
use Rattle.table_dicts.proofs.FailLemmas.{patterns_are}
use Rattle.adaptive_planner.specs.Laws.{CanBePlanned}
use Rattle.adaptive_planner.specs.Numbering.{AreNumbersOfTable}
use Rattle.adaptive_planner.proofs.PlannedRight.{plans_are_good}
use Rattle.adaptive_planner.proofs.BlockNumberLemmas.{numbers_of_answers}
use Rattle.adaptive_planner.proofs.CircuitPlanLemmas.{some_table, some_table_is, can_be_planned}
use Rattle.adaptive_planner.proofs.PlanLemmas.{told_apart, plan_is}
use Rattle.adaptive_planner.proofs.planning.plan_at.Goals as goal
use Rattle.adaptive_planner.proofs.planning.plan_at.Goals.{After-count}

pub numbers_of_leads-requires-clause-known : goal.numbers_of_leads-requires-clause-known
numbers_of_leads-requires-clause-known c =
    subst (λ (leads : List ℕ). All (λ lead. lead < fault_count c.args.setting.now.subject.now) leads) (sym c.as_slice-2.ensures.value)
    (subst (λ n. All (λ lead. lead < n) c.in_ok-leads.leads.items) (table_numbers c.requires.classes) c.in_ok-leads.ensures.within)

module _ (c : After-count) where
  stands : IsCircuit c.args.setting.now.subject.now
  stands = subst IsCircuit c.circuit.ensures.value c.circuit.ensures.circuit

  positions_are : length c.positions.result.now ≡ length c.args.setting.now.subject.now.positions
  positions_are = ap length (c.positions.ensures.value ∙ ap (λ (k : Circuit). k.positions) c.circuit.ensures.value)

module _ (c : After-count) (t : Answers) (are : AreAnswers c.args.setting.now.subject.now c.args.setting.now.patterns.now t) where
  known : All (λ lead. lead < fault_count c.args.setting.now.subject.now) c.as_slice-2.result.now
  known =
      subst (λ (leads : List ℕ). All (λ lead. lead < fault_count c.args.setting.now.subject.now) leads) (sym c.as_slice-2.ensures.value)
      (subst (λ n. All (λ lead. lead < n) c.in_ok-leads.leads.items) (table_numbers c.requires.classes) c.in_ok-leads.ensures.within)

  of : AreNumbersOfTable c.args.setting.now.classes.now t c.in_ok-numbers.numbers
  of =
      let s = c.args.setting.now in
      let lowest : c.as_slice-2.result.now ≡ map (representative s.classes.now) (range_with_len 0 (class_count s.classes.now)) = c.as_slice-2.ensures.value ∙ c.in_ok-leads.ensures.lowest in
      numbers_of_answers s.subject.now s.patterns.now s.classes.now c.as_slice-2.result.now lowest known t are c.in_ok-numbers.numbers c.in_ok-numbers.ensures

  can : CanBePlanned c.args.setting.now.classes.now t
  can =
      let s = c.args.setting.now in
      can_be_planned s.subject.now (stands c) s.patterns.now s.classes.now c.requires.classes c.in_ok-leads.ensures.whole c.requires.answerable.few (omega (arith, (stands c).small)) (omega (arith, c.count.ensures.value, c.count.type_inv)) t are

-- the answers that the classes come from
abbrev own : After-count → Answers
own c = some_table c.args.setting.now.subject.now (stands c) c.args.setting.now.patterns.now c.args.setting.now.classes.now c.requires.classes

own_are : (c : After-count) → AreAnswers c.args.setting.now.subject.now c.args.setting.now.patterns.now (own c)
own_are c = some_table_is c.args.setting.now.subject.now (stands c) c.args.setting.now.patterns.now c.args.setting.now.classes.now c.requires.classes

pub steps_of-requires-clause-told : goal.steps_of-requires-clause-told
steps_of-requires-clause-told c = let d = (goal.at.steps_of-requires-clause-told c).After-count in told_apart c.args.setting.now.classes.now (own d) c.in_ok-numbers.numbers (of d (own d) (own_are d)) (can d (own d) (own_are d))

pub returns-clause-planned : goal.returns-clause-planned
returns-clause-planned c = λ t are.
    let d = (goal.at.returns-clause-planned c).After-count in
    let s = c.args.setting.now in
    plan_is s.classes.now t c.in_ok-numbers.numbers (of d t are) _ (positions_are d ∙ sym are.positions) (ap length c.as_slice.ensures ∙ sym (patterns_are s.subject.now s.patterns.now t are)) c.count.ensures.value
    (c.in_ok-steps_of.ensures s.classes.now t (of d t are))

pub returns-clause-good : goal.returns-clause-good
returns-clause-good c = λ t are.
    let d = (goal.at.returns-clause-good c).After-count in
    let s = c.args.setting.now in
    plans_are_good s.classes.now t _ (can d t are)
    (plan_is s.classes.now t c.in_ok-numbers.numbers (of d t are) _ (positions_are d ∙ sym are.positions) (ap length c.as_slice.ensures ∙ sym (patterns_are s.subject.now s.patterns.now t are)) c.count.ensures.value
    (c.in_ok-steps_of.ensures s.classes.now t (of d t are)))

pub returns-clause-well_formed : goal.returns-clause-well_formed
returns-clause-well_formed c =
    let d = (goal.at.returns-clause-well_formed c).After-count in
    let s = c.args.setting.now in
    let t = own d in
    let are = own_are d in
    (plans_are_good s.classes.now t _ (can d t are)
    (plan_is s.classes.now t c.in_ok-numbers.numbers (of d t are) _ (positions_are d ∙ sym are.positions) (ap length c.as_slice.ensures ∙ sym (patterns_are s.subject.now s.patterns.now t are)) c.count.ensures.value
    (c.in_ok-steps_of.ensures s.classes.now t (of d t are)))).well_formed
