-- The plan of the steps.
use Rattle.std.proofs.Common.{◌≡◌, ◌∙◌, ℕ, ◌<◌, length, sym, subst, arith}
use Rattle.std.specs.List.{range_with_len}
use Rattle.std.proofs.lemmas.Bool.{eqb-false}
use Rattle.net_model.specs.ClassTable.{ClassTable, class_count}
use Rattle.dict_rows.specs.AnswerTable.{Answers}
use Rattle.adaptive_planner.specs.declared.class_numbers.ClassNumbers.{ClassNumbers}
use Rattle.adaptive_tree.specs.declared.steps.Plan.{Plan}
use Rattle.adaptive_planner.specs.Laws.{CanBePlanned}
use Rattle.adaptive_planner.specs.Planned.{IsPlanned, IsPlan}
use Rattle.adaptive_planner.specs.Numbering.{AreAllTold, ArePairTold, AreNumbersOfTable, class_number}
use Rattle.adaptive_planner.specs.Planning.{AreNodeSteps}
use Rattle.adaptive_planner.proofs.SomePlan.{Differ, classes_differ}
use Rattle.adaptive_planner.proofs.BranchLemmas.{alike_is}

module _ (t : ClassTable) (table : Answers) (c : ClassNumbers) (are : AreNumbersOfTable t table c) where
  differ_told : (x y : ℕ) → x < length c.own.items → y < length c.own.items → Differ t table x y → ArePairTold c x y
  differ_told x y low high d = record {
    pattern = d.pattern;
    within = omega (arith, d.within, are.patterns);
    differ = eqb-false (class_number c d.pattern x) (class_number c d.pattern y) (sym (alike_is t table c are d.pattern d.within x y low high) ∙ d.unlike_at);
  }

  pub told_apart : CanBePlanned t table → AreAllTold c
  told_apart can = record {
    class = omega (arith, are.classes, can.whole.patterns);
    apart = λ x y low high other. differ_told x y low high (classes_differ t table can x y (omega (arith, low, are.classes)) (omega (arith, high, are.classes)) other);
  }

  pub plan_is : (plan : Plan) → plan.positions ≡ table.positions → plan.patterns ≡ length table.rows → plan.classes ≡ class_count t → AreNodeSteps t table c (range_with_len 0 (length c.own.items)) plan.steps → IsPlan t table plan
  plan_is plan positions patterns classes steps = record {
    positions_are = positions;
    patterns_are = patterns;
    classes_are = classes;
    node = steps.0;
    planned = subst (λ n. IsPlanned t table (range_with_len 0 n) steps.0) are.classes steps.1;
    steps_are = steps.2;
  }
