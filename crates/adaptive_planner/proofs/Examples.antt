-- The plans of three small tables.
use Rattle.std.proofs.Common.{◌≡◌, ℕ, refl, lit<, arith}
use Rattle.std.specs.Prelude.{true, false, [], ◌∷◌, None, Some}
use Rattle.net_model.specs.ClassTable.{ClassTable, class_table, representative}
use Rattle.net_model.proofs.Examples.{and_rows}
use Rattle.net_model.proofs.Opened.{opened}
use Rattle.dict_rows.specs.AnswerTable.{Answers}
use Rattle.adaptive_tree.specs.PlanNode.{Branches, leaf, ask}
use Rattle.adaptive_tree.proofs.Examples.{and_node, and_plan, none_set, all_set, three_bits, triple_node, triple_plan, empty_plan}
use Rattle.adaptive_planner.specs.Planned.{IsPlan, IsPlanned}
use Rattle.adaptive_planner.proofs.MostTests.{parts_most}

-- ---- INPUT(a) INPUT(b) OUTPUT(z) z=AND(a,b), with the patterns 00, 10, 01 and 11

abbrev and_answers : Answers
and_answers = record { numbers = 7; positions = 1; rows = and_rows }

abbrev and_classes : ClassTable
and_classes = record { class_of = 0 ∷ 4 ∷ 3 ∷ 4 ∷ 2 ∷ 4 ∷ 1 ∷ []; births = None ∷ Some (0, 0) ∷ Some (0, 1) ∷ Some (0, 2) ∷ Some (0, 3) ∷ []; patterns = 4 }

and_classes_are : class_table 7 and_rows ≡ and_classes
unfolding opened
and_classes_are = refl

and_is_plan : IsPlan and_classes and_answers and_plan
unfolding representative
and_is_plan = record {
  positions_are = refl;
  patterns_are = refl;
  classes_are = refl;
  node = and_node;
  steps_are = refl;
  planned = (
    lit< tt,
    parts_most and_classes and_answers (0 ∷ 1 ∷ 2 ∷ 3 ∷ 4 ∷ []) 1 (lit< tt) refl refl,
    (
      refl,
      (
        lit< tt,
        parts_most and_classes and_answers (0 ∷ 3 ∷ 4 ∷ []) 2 (lit< tt) refl refl,
        (
          refl,
          (lit< tt, parts_most and_classes and_answers (0 ∷ 4 ∷ []) 3 (lit< tt) refl refl, (refl, refl, (refl, refl, tt))),
          (refl, refl, tt),
        ),
      ),
      (refl, (lit< tt, parts_most and_classes and_answers (1 ∷ 2 ∷ []) 0 (lit< tt) refl refl, (refl, refl, (refl, refl, tt))), tt),
    ),
  );
}

-- a plan that asks pattern 0 first isn't the plan, whatever follows: pattern 0 splits four pairs, and pattern 1 six
not_in_order : (branches : Branches) → ¬ IsPlanned and_classes and_answers (0 ∷ 1 ∷ 2 ∷ 3 ∷ 4 ∷ []) (ask 0 branches)
unfolding representative
not_in_order branches planned = omega (arith, planned.1.most 1 (lit< tt))

-- ---- INPUT(a) OUTPUT(a) OUTPUT(a) OUTPUT(a), with the patterns 0 and 1

abbrev triple_answers : Answers
triple_answers = record {
  numbers = 9;
  positions = 3;
  rows = (none_set ∷ none_set ∷ all_set ∷ none_set ∷ three_bits true false false ∷ none_set ∷ three_bits false true false ∷ none_set ∷ three_bits false false true ∷ [])
      ∷ (all_set ∷ none_set ∷ all_set ∷ three_bits false true true ∷ all_set ∷ three_bits true false true ∷ all_set ∷ three_bits true true false ∷ all_set ∷ []) ∷ [];
}

abbrev triple_classes : ClassTable
triple_classes = record {
  class_of = 0 ∷ 5 ∷ 1 ∷ 6 ∷ 2 ∷ 7 ∷ 3 ∷ 8 ∷ 4 ∷ [];
  births = None ∷ Some (0, 0) ∷ Some (0, 0) ∷ Some (0, 0) ∷ Some (0, 0) ∷ Some (0, 1) ∷ Some (0, 1) ∷ Some (0, 1) ∷ Some (0, 1) ∷ [];
  patterns = 2;
}

triple_classes_are : class_table 9 triple_answers.rows ≡ triple_classes
unfolding opened
triple_classes_are = refl

triple_is_plan : IsPlan triple_classes triple_answers triple_plan
unfolding representative
triple_is_plan = record {
  positions_are = refl;
  patterns_are = refl;
  classes_are = refl;
  node = triple_node;
  steps_are = refl;
  planned = (
    lit< tt,
    parts_most triple_classes triple_answers (0 ∷ 1 ∷ 2 ∷ 3 ∷ 4 ∷ 5 ∷ 6 ∷ 7 ∷ 8 ∷ []) 0 (lit< tt) refl refl,
    (
      refl,
      (lit< tt, parts_most triple_classes triple_answers (0 ∷ 5 ∷ 6 ∷ 7 ∷ 8 ∷ []) 1 (lit< tt) refl refl, (refl, refl, (refl, refl, (refl, refl, (refl, refl, (refl, refl, tt)))))),
      (refl, refl, (refl, refl, (refl, refl, (refl, refl, tt)))),
    ),
  );
}

-- ---- the empty netlist

abbrev empty_answers : Answers
empty_answers = record { numbers = 1; positions = 0; rows = [] }

abbrev empty_classes : ClassTable
empty_classes = record { class_of = 0 ∷ []; births = None ∷ []; patterns = 0 }

empty_is_plan : IsPlan empty_classes empty_answers empty_plan
empty_is_plan = record { positions_are = refl; patterns_are = refl; classes_are = refl; node = leaf 0; steps_are = refl; planned = refl }
