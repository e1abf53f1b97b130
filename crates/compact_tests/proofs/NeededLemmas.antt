-- A pattern remains exactly if two classes answer alike to the patterns before it and to those that remain after it.
use Rattle.std.proofs.Common.{◌≡◌, ◌≢◌, ◌∙◌, ℕ, ◌+◌, ◌<◌, inl, inr, Bool, List, [], ◌∷◌, ◌++◌, length, take, drop, get_or, cond, sym, ap, subst, arith}
use Rattle.std.proofs.lemmas.Bool.{eq-eqb, ne_eqb, cases_eq}
use Rattle.std.proofs.lemmas.List.{take_more, drop_more, take-append-drop}
use Rattle.net_model.specs.ClassTable.{ClassTable, class_table, class_at, representative}
use Rattle.class_refine.proofs.Pieces.{lead_is}
use Rattle.compact_tests.specs.Remaining.{Answered, answered_rows, classes_by, with_needed, remaining_behind}
use Rattle.compact_tests.specs.Thinning.{HaveSameAnswers, remaining_from}
use Rattle.compact_tests.proofs.TableLemmas.{IsCoarser, filled-table, numbers-table, alike, together, fewer_classes, as_many}
use Rattle.compact_tests.proofs.RemainingLemmas.{Alike, alike_both, alike_first, alike_second, part_alike}

-- Two classes of all patterns are one class of the patterns before a place, and answer alike to those that remain after
-- it.
pub record IsAlikePair (numbers : ℕ) (all : List Answered) (place a b : ℕ) : Type 0 where
  pub first_in : a < classes_by numbers all
  pub second_in : b < classes_by numbers all
  pub apart : a ≢ b
  pub before : class_at (class_table numbers (answered_rows (take place all))) (representative (class_table numbers (answered_rows all)) a) ≡ class_at (class_table numbers (answered_rows (take place all))) (representative (class_table numbers (answered_rows all)) b)
  pub behind : HaveSameAnswers (answered_rows (remaining_from numbers all (place + 1))) (representative (class_table numbers (answered_rows all)) a) (representative (class_table numbers (answered_rows all)) b)

module _ (numbers : ℕ) (some : 0 < numbers) (all : List Answered) where
  abbrev t : ClassTable
  t = class_table numbers (answered_rows all)

  -- The lowest number of a class.
  pub lead : (a : ℕ) → a < classes_by numbers all → (representative t a < numbers) × (class_at t (representative t a) ≡ a)
  lead a h =
      let n = (filled-table numbers (answered_rows all) some).inhabited a h in
      let l = lead_is t [] n.0 n.1 in
      subst (λ c. (representative t c < numbers) × (class_at t (representative t c) ≡ c)) n.2 (omega (arith, l.0, numbers-table numbers (answered_rows all)), l.1)

  module _ (place : ℕ) (within : place < length all) where
    abbrev pattern : Answered
    pattern = get_or all place ([], [])

    abbrev before : List Answered
    before = take place all

    abbrev behind : List Answered
    behind = remaining_from numbers all (place + 1)

    abbrev fewer : List Answered
    fewer = before ++ behind

    step : remaining_from numbers all place ≡ with_needed numbers (classes_by numbers all) before pattern behind
    step =
        ap (remaining_behind numbers (classes_by numbers all) before) (drop_more all place ([], []) within)
        ∙ ap (λ (first : List Answered). with_needed numbers (classes_by numbers all) before pattern (remaining_behind numbers (classes_by numbers all) first (drop (place + 1) all))) (sym (take_more all place ([], []) within))

    -- Numbers that answer alike to all patterns answer alike to fewer.
    coarser : IsCoarser numbers (answered_rows fewer) (answered_rows all)
    coarser m n hm hn same =
        let first : Alike before m n = alike_first m n before (drop place all) (subst (λ (ps : List Answered). Alike ps m n) (sym (take-append-drop place all)) same) in
        let rest : Alike (drop (place + 1) all) m n = alike_second m n (take (place + 1) all) (drop (place + 1) all) (subst (λ (ps : List Answered). Alike ps m n) (sym (take-append-drop (place + 1) all)) same) in
        alike_both m n before behind first (part_alike numbers (classes_by numbers all) m n (take (place + 1) all) (drop (place + 1) all) rest)

    pair_fewer : (a b : ℕ) → IsAlikePair numbers all place a b → classes_by numbers fewer ≢ classes_by numbers all
    pair_fewer a b pair count =
        let la = lead a pair.first_in in
        let lb = lead b pair.second_in in
        let same = as_many numbers (answered_rows fewer) (answered_rows all) coarser some count in
        let both = alike_both (representative t a) (representative t b) before behind (alike (representative t a) (representative t b) numbers (answered_rows before) la.0 lb.0 pair.before) pair.behind in
        let one = together (representative t a) (representative t b) numbers (answered_rows fewer) la.0 lb.0 both in
        let size = numbers-table numbers (answered_rows all) in
        pair.apart (sym la.1 ∙ ((same.together (representative t a) (representative t b) (omega (arith, la.0, size)) (omega (arith, lb.0, size))).0 one ∙ lb.1))

    -- If there is such a pair, the pattern remains.
    pub pair_remains : (a b : ℕ) → IsAlikePair numbers all place a b → remaining_from numbers all place ≡ pattern ∷ behind
    pair_remains a b pair = step ∙ ap (λ (b : Bool). cond b behind (pattern ∷ behind)) (ne_eqb (classes_by numbers fewer) (classes_by numbers all) (pair_fewer a b pair))

    module _ (none : (a b : ℕ) → IsAlikePair numbers all place a b → ⊥) where
      none_coarser : IsCoarser numbers (answered_rows all) (answered_rows fewer)
      none_coarser m n hm hn same =
          let a = class_at t m in
          let b = class_at t n in
          let coarse = class_table numbers (answered_rows fewer) in
          let size = numbers-table numbers (answered_rows all) in
          let ha : a < classes_by numbers all = (filled-table numbers (answered_rows all) some).sound.classes m (omega (arith, hm, size)) in
          let hb : b < classes_by numbers all = (filled-table numbers (answered_rows all) some).sound.classes n (omega (arith, hn, size)) in
          let la = lead a ha in
          let lb = lead b hb in
          let to_m : class_at coarse (representative t a) ≡ class_at coarse m =
          together (representative t a) m numbers (answered_rows fewer) la.0 hm (coarser (representative t a) m la.0 hm (alike (representative t a) m numbers (answered_rows all) la.0 hm la.1)) in
          let to_n : class_at coarse (representative t b) ≡ class_at coarse n =
          together (representative t b) n numbers (answered_rows fewer) lb.0 hn (coarser (representative t b) n lb.0 hn (alike (representative t b) n numbers (answered_rows all) lb.0 hn lb.1)) in
          let both : Alike fewer (representative t a) (representative t b) =
          alike (representative t a) (representative t b) numbers (answered_rows fewer) la.0 lb.0 (to_m ∙ (together m n numbers (answered_rows fewer) hm hn same ∙ sym to_n)) in
          elim (cases_eq a b) [
            | inl is ↦ alike m n numbers (answered_rows all) hm hn is
            | inr apart ↦
                absurd (none a b (record {
                  first_in = ha;
                  second_in = hb;
                  apart = apart;
                  before = together (representative t a) (representative t b) numbers (answered_rows before) la.0 lb.0 (alike_first (representative t a) (representative t b) before behind both);
                  behind = alike_second (representative t a) (representative t b) before behind both;
                }))
          ]

      -- If there is none, the pattern is left out.
      pub none_remains : remaining_from numbers all place ≡ behind
      none_remains =
          let count : classes_by numbers fewer ≡ classes_by numbers all =
          omega (arith, fewer_classes numbers (answered_rows fewer) (answered_rows all) coarser some, fewer_classes numbers (answered_rows all) (answered_rows fewer) none_coarser some) in
          step ∙ ap (λ (b : Bool). cond b behind (pattern ∷ behind)) (eq-eqb (classes_by numbers fewer) (classes_by numbers all) count)
