-- The classes of a list of vectors that ends with those of a log.
use Rattle.std.proofs.Common.{◌≡◌, ◌∙◌, ℕ, ◌<◌, Bool, List, [], ◌++◌, length, get_or, sym, subst, arith}
use Rattle.std.proofs.lemmas.List.Elements.{Contains-get_or, Contains-append_right}
use Rattle.net_model.specs.Circuit.{Circuit, IsCircuit}
use Rattle.net_model.specs.FaultList.{fault_count}
use Rattle.net_model.specs.ClassTable.{ClassTable}
use Rattle.net_model.proofs.Listed.{some_number}
use Rattle.class_refine.specs.Fields.{IsWhole}
use Rattle.kept_vectors.specs.Laws.{IsPartedBy}
use Rattle.dict_rows.specs.AnswerTable.{Answers, AreAnswers, answer_to}
use Rattle.table_dicts.proofs.FailLemmas.{is_table, patterns_are, answer_is}
use Rattle.suspect_scores.specs.Laws.{AreAlikeIn}

-- Classes that vectors make together with others before them are alike in the answers to these vectors.
abbrev pub PartedAreAlike : Type 0
PartedAreAlike = (c : Circuit) (before vectors : List (List Bool)) (t : ClassTable) (table : Answers) → IsCircuit c → IsPartedBy c (before ++ vectors) t → IsWhole t → AreAnswers c vectors table → AreAlikeIn t table

pub parted_are_alike : PartedAreAlike
parted_are_alike c before vectors t table is parted whole are =
    let numbers : length t.class_of ≡ table.numbers = parted.numbers ∙ sym are.numbers in
    record {
      table_is = is_table c vectors table are;
      some = subst (λ n. 0 < n) (sym are.numbers) (some_number c);
      numbers = numbers;
      classes = λ n h. whole.classes n (omega (arith, h, numbers));
      inhabited = λ class h. let n = whole.inhabited class h in (n.0, omega (arith, n.1, numbers), n.2);
      alike = λ m n hm hn class pattern low.
          let inside : pattern < length vectors = omega (arith, low, patterns_are c vectors table are) in
          let m_below : m < fault_count c = omega (arith, hm, are.numbers) in
          let n_below : n < fault_count c = omega (arith, hn, are.numbers) in
          let vector = get_or vectors pattern [] in
          (parted.together m n m_below n_below).0 class vector (answer_to table pattern m) (answer_to table pattern n) (Contains-append_right before vectors vector (Contains-get_or vectors pattern [] inside)) (answer_is c vectors table are pattern m inside m_below)
          (answer_is c vectors table are pattern n inside n_below);
    }
