-- The classes of a circuit's patterns can be planned.
use Rattle.std.proofs.Common.{◌≡◌, ◌∙◌, ◌↔◌, ℕ, ◌<◌, ◌^◌, Bool, List, length, refl, sym, subst, arith}
use Rattle.net_model.specs.Circuit.{Circuit, IsCircuit}
use Rattle.net_model.specs.ClassTable.{ClassTable, class_count, class_at, class_table}
use Rattle.net_model.specs.FaultList.{fault_count}
use Rattle.net_model.specs.PatternRows.{IsTableOf}
use Rattle.net_model.proofs.OneAnswer.{one_table}
use Rattle.class_refine.specs.Fields.{IsWhole}
use Rattle.class_refine.proofs.PatternTables.{table_numbers}
use Rattle.dict_rows.specs.AnswerTable.{Answers, AreAnswers, answer_to}
use Rattle.table_dicts.proofs.ClassLemmas.{together_where_alike}
use Rattle.table_dicts.proofs.FailLemmas.{patterns_are, is_table}
use Rattle.adaptive_planner.specs.Laws.{CanBePlanned}
use Rattle.adaptive_planner.specs.Planned.{IsToldApart}

module _ (c : Circuit) (is : IsCircuit c) (patterns : List (List Bool)) (t : ClassTable) (of : IsTableOf c patterns t) where
  -- there are answers
  abbrev pub some_table : Answers
  some_table = record { numbers = fault_count c; positions = length c.positions; rows = of.rows }

  pub some_table_is : AreAnswers c patterns some_table
  some_table_is = record { numbers = refl; positions = refl; rows = of.answers }

  module _ (table : Answers) (are : AreAnswers c patterns table) where
    table_is : t ≡ class_table (fault_count c) table.rows
    table_is = let own : IsTableOf c patterns (class_table (fault_count c) table.rows) = record { rows = table.rows; answers = are.rows; table = refl } in one_table c is of own

    -- any answers of the circuit tell the classes apart
    pub told_by_answers : IsToldApart t table
    told_by_answers = record {
      numbers = table_numbers of ∙ sym are.numbers;
      same = λ m n hm hn.
          subst (λ (u : ClassTable). (class_at u m ≡ class_at u n) ↔ ((p : ℕ) → p < length table.rows → answer_to table p m ≡ answer_to table p n)) (sym table_is)
          (together_where_alike (fault_count c) m n table.rows (omega (arith, hm, are.numbers)) (omega (arith, hn, are.numbers)));
    }

  module _ (whole : IsWhole t) (few : length patterns < 2 ^ 32) (positions : length c.positions < 2 ^ 32) (classes : class_count t < 2 ^ 32) (table : Answers) (are : AreAnswers c patterns table) where
    pub can_be_planned : CanBePlanned t table
    can_be_planned = record {
      whole = whole;
      table_is = is_table c patterns table are;
      apart = told_by_answers table are;
      patterns = omega (arith, patterns_are c patterns table are, few);
      positions = omega (arith, are.positions, positions);
      classes = classes;
    }
