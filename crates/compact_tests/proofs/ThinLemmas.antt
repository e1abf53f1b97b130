-- What is left of a result has the classes of the result, and each of its patterns is needed.
use Rattle.std.proofs.Common.{◌≡◌, ◌∙◌, ℕ, zero, suc, Bool, true, false, cond, eqb, List, [], ◌∷◌, ◌++◌, length, map, Option, refl, sym, ap, subst, arith}
use Rattle.std.specs.Prelude.{remove, zip}
use Rattle.std.specs.List.{AllByRecursion, enumerate_from}
use Rattle.std.proofs.lemmas.List.{append-nil, map-id, length-map}
use Rattle.std.proofs.lemmas.List.Elements.{filter_map-append}
use Rattle.net_model.specs.Circuit.{Circuit, IsCircuit}
use Rattle.net_model.specs.FaultList.{fault_count}
use Rattle.net_model.specs.ClassTable.{ClassTable, class_table}
use Rattle.net_model.specs.PatternRows.{IsAnswerRow, AreAnswerRows, IsTableOf}
use Rattle.net_model.proofs.Listed.{some_number}
use Rattle.net_model.proofs.OneAnswer.{one_table}
use Rattle.result_records.specs.declared.record.Mark.{Mark}
use Rattle.result_records.specs.declared.record.Evidence.{Evidence}
use Rattle.result_records.specs.declared.record.Record.{Record}
use Rattle.result_records.specs.declared.record.Record.TheVariants.{Head, Budget, Pattern, Same, Class, Member, End}
use Rattle.result_records.specs.Marks.{pattern_of, patterns_in, evidence_in}
use Rattle.result_file.specs.Meaning.{StatedResult, stated_records, class_records, member_records}
use Rattle.result_records.proofs.RecordLists.{read_all, read_kept}
use Rattle.compact_tests.specs.Remaining.{Answered, answered_vectors, answered_rows, classes_by, with_needed, remaining_behind, remaining}
use Rattle.compact_tests.specs.ThinResult.{needed_evidence, result_with, thin_result, IsThin}
use Rattle.compact_tests.specs.Compacted.{HaveSameClasses, AreAllNeeded}
use Rattle.compact_tests.proofs.RemainingLemmas.{remaining_keep_classes, remaining_are_needed}

-- ---- the patterns of a stated result

abbrev pub class_record : ℕ × Option (ℕ × ℕ) → Record
class_record x = Class x.0 x.1

abbrev pub member_record : ℕ × (ℕ × Mark) → Record
member_record x = Member x.0 x.1.0 x.1.1

pub stated_patterns : (c : Circuit) (s : StatedResult) → patterns_in (stated_records c s) ≡ patterns_in s.body
stated_patterns c s =
    let heads = Head c.sources (length c.positions) (fault_count c) ∷ Budget s.budgets ∷ s.body in
    filter_map-append pattern_of (heads ++ class_records s.births ++ member_records s.members) (End ∷ []) ∙ append-nil (patterns_in (heads ++ class_records s.births ++ member_records s.members))
    ∙ read_kept member_record (heads ++ class_records s.births) pattern_of (λ x. refl) (enumerate_from 0 s.members) ∙ read_kept class_record heads pattern_of (λ x. refl) (enumerate_from 0 s.births)

body_patterns : (patterns : List (List Bool)) (evidence : List Evidence) → patterns_in (map Pattern patterns ++ map Same evidence) ≡ patterns
body_patterns patterns evidence = read_kept Same (map Pattern patterns) pattern_of (λ e. refl) evidence ∙ read_all Pattern pattern_of (λ v. v) (λ v. refl) patterns ∙ map-id patterns

pub thin_patterns : (c : Circuit) (rows : List (List (List Bool))) (records : List Record) → patterns_in (stated_records c (thin_result (fault_count c) rows records)) ≡ answered_vectors (remaining (fault_count c) (zip (patterns_in records) rows))
unfolding thin_result
thin_patterns c rows records =
    let patterns = remaining (fault_count c) (zip (patterns_in records) rows) in
    let t = class_table (fault_count c) (answered_rows patterns) in
    stated_patterns c (result_with records t (answered_vectors patterns)) ∙ body_patterns (answered_vectors patterns) (needed_evidence t (evidence_in records))

-- ---- answers to parts of the patterns

module _ (c : Circuit) where
  abbrev pub AreAnswered : List Answered → Type 0
  AreAnswered patterns = AllByRecursion (λ p. IsAnswerRow c p.0 p.1) patterns

  pub answered : (patterns : List (List Bool)) (rows : List (List (List Bool))) → AreAnswerRows c patterns rows → AreAnswered (zip patterns rows)
  answered [] [] a = tt
  answered [] (row ∷ rows) a = absurd a
  answered (v ∷ patterns) [] a = absurd a
  answered (v ∷ patterns) (row ∷ rows) a = (a.0, answered patterns rows a.1)

  pub answers_of : (patterns : List Answered) → AreAnswered patterns → AreAnswerRows c (answered_vectors patterns) (answered_rows patterns)
  answers_of [] a = tt
  answers_of (p ∷ patterns) a = (a.0, answers_of patterns a.1)

  pub zipped_vectors : (patterns : List (List Bool)) (rows : List (List (List Bool))) → AreAnswerRows c patterns rows → answered_vectors (zip patterns rows) ≡ patterns
  zipped_vectors [] [] a = refl
  zipped_vectors [] (row ∷ rows) a = absurd a
  zipped_vectors (v ∷ patterns) [] a = absurd a
  zipped_vectors (v ∷ patterns) (row ∷ rows) a = ap (λ (vs : List (List Bool)). v ∷ vs) (zipped_vectors patterns rows a.1)

  answered_behind : (classes : ℕ) (before patterns : List Answered) → AreAnswered patterns → AreAnswered (remaining_behind (fault_count c) classes before patterns)
  answered_behind classes before [] a = tt
  answered_behind classes before (pattern ∷ patterns) a = one_more (remaining_behind (fault_count c) classes (before ++ pattern ∷ []) patterns) (answered_behind classes (before ++ pattern ∷ []) patterns a.1)
    where
      one_more : (behind : List Answered) → AreAnswered behind → AreAnswered (with_needed (fault_count c) classes before pattern behind)
      one_more behind rest = by (eqb (classes_by (fault_count c) (before ++ behind)) classes)
        where
          by : (b : Bool) → AreAnswered (cond b behind (pattern ∷ behind))
          by true = rest
          by false = (a.0, rest)

  pub answered_remaining : (patterns : List Answered) → AreAnswered patterns → AreAnswered (remaining (fault_count c) patterns)
  unfolding remaining
  answered_remaining patterns a = answered_behind (classes_by (fault_count c) patterns) [] patterns a

  answered_without : (patterns : List Answered) (at : ℕ) → AreAnswered patterns → AreAnswered (remove patterns at)
  answered_without [] zero a = tt
  answered_without [] (suc at) a = tt
  answered_without (p ∷ patterns) zero a = a.1
  answered_without (p ∷ patterns) (suc at) a = (a.0, answered_without patterns at a.1)

vectors_without : (patterns : List Answered) (at : ℕ) → answered_vectors (remove patterns at) ≡ remove (answered_vectors patterns) at
vectors_without [] zero = refl
vectors_without [] (suc at) = refl
vectors_without (p ∷ patterns) zero = refl
vectors_without (p ∷ patterns) (suc at) = ap (λ (vs : List (List Bool)). p.0 ∷ vs) (vectors_without patterns at)

-- ---- tables

module _ (c : Circuit) (circuit : IsCircuit c) where
  -- The table of answered patterns.
  pub table_by : (patterns : List Answered) → AreAnswered c patterns → (t : ClassTable) → IsTableOf c (answered_vectors patterns) t → t ≡ class_table (fault_count c) (answered_rows patterns)
  table_by patterns a t of = one_table c circuit of (record { rows = answered_rows patterns; answers = answers_of c patterns a; table = refl })

  module _ (patterns : List Answered) (a : AreAnswered c patterns) where
    abbrev left : List Answered
    left = remaining (fault_count c) patterns

    pub left_classes : (t new : ClassTable) → IsTableOf c (answered_vectors patterns) t → IsTableOf c (answered_vectors left) new → HaveSameClasses t new
    left_classes t new of new_of =
        rw (table_by patterns a t of, table_by left (answered_remaining c patterns a) new new_of) (remaining_keep_classes (fault_count c) patterns (some_number c))

    pub left_needed : AreAllNeeded c (answered_vectors left)
    left_needed at t without h of without_of =
        let all : t ≡ class_table (fault_count c) (answered_rows left) = table_by left (answered_remaining c patterns a) t of in
        let fewer : without ≡ class_table (fault_count c) (answered_rows (remove left at)) =
        table_by (remove left at) (answered_without c left at (answered_remaining c patterns a)) without (subst (λ (vs : List (List Bool)). IsTableOf c vs without) (sym (vectors_without left at)) without_of) in
        rw (all, fewer) (remaining_are_needed (fault_count c) patterns (some_number c) at (omega (arith, h, length-map left (λ (p : Answered). p.0))))

  -- ---- what is left of records

  module _ (records thin : List Record) (is : IsThin c records thin) where
    abbrev all : List Answered
    all = zip (patterns_in records) is.rows

    thin_vectors : patterns_in thin ≡ answered_vectors (remaining (fault_count c) all)
    thin_vectors = ap patterns_in is.thin_is ∙ thin_patterns c is.rows records

    pub thin_classes : (t new : ClassTable) → IsTableOf c (patterns_in records) t → IsTableOf c (patterns_in thin) new → HaveSameClasses t new
    thin_classes t new of new_of =
        left_classes all (answered c (patterns_in records) is.rows is.answers) t new
        (subst (λ (vs : List (List Bool)). IsTableOf c vs t) (sym (zipped_vectors c (patterns_in records) is.rows is.answers)) of) (subst (λ (vs : List (List Bool)). IsTableOf c vs new) thin_vectors new_of)

    pub thin_needed : AreAllNeeded c (patterns_in thin)
    thin_needed = subst (AreAllNeeded c) (sym thin_vectors) (left_needed all (answered c (patterns_in records) is.rows is.answers))
