-- Classes that are those of the answers: each number has one and each one a number, and those of one class answer alike.
use Rattle.std.proofs.Common.{◌≡◌, ◌∙◌, ℕ, ◌-◌, ◌<◌, Bool, List, [], ◌∷◌, length, get_or, fold, sym, ap, subst, arith, inl, inr}
use Rattle.std.proofs.lemmas.Bool.{cases_lt}
use Rattle.std.proofs.lemmas.List.{length-replicate, get_or-replicate}
use Rattle.net_model.specs.ClassTable.{ClassTable, class_count, class_at, representative, class_after, new_lowest, refined_table, first_table}
use Rattle.class_refine.proofs.Names.{numbers_after}
use Rattle.class_refine.proofs.Pieces.{IsSound, lead_is, lead_stays, new_lowest-All, lowest_moves}
use Rattle.class_refine.proofs.Refined.{sound-first, sound-refined, numbers-refined, count-refined, class-refined}
use Rattle.dict_rows.specs.AnswerTable.{Answers}
use Rattle.table_dicts.proofs.ClassLemmas.{together_where_alike}
use Rattle.suspect_scores.specs.Laws.{IsClassed, HaveOneAnswer, ClassedAreAlike, MembersScoreAlike}
use Rattle.suspect_scores.proofs.ScoreLemmas.{alike_score_alike}

-- Each number has a class, and each class a number.
record IsFilled (t : ClassTable) : Type 0 where
  sound : IsSound t
  some : 0 < length t.class_of
  inhabited : (class : ℕ) → class < class_count t → (n : ℕ) × (n < length t.class_of) × (class_at t n ≡ class)

filled-first : (numbers : ℕ) → 0 < numbers → IsFilled (first_table numbers)
filled-first numbers some =
    let long = length-replicate {A = ℕ} numbers 0 in
    record { sound = sound-first numbers; some = omega (arith, long, some); inhabited = λ class h. (0, omega (arith, long, some), omega (arith, get_or-replicate {A = ℕ} numbers 0 0 0 some, h)) }

filled-refined : (t : ClassTable) (row : List (List Bool)) → IsFilled t → IsFilled (refined_table t row)
filled-refined t row w =
    let stays : (n class : ℕ) → n < length t.class_of → class_after t row n ≡ class → (m : ℕ) × (m < length (refined_table t row).class_of) × (class_at (refined_table t row) m ≡ class) =
    λ n class inside is. (n, omega (arith, inside, numbers-refined t row), class-refined t row n inside ∙ is) in
    record {
      sound = sound-refined t row w.sound;
      some = omega (arith, numbers-refined t row, w.some);
      inhabited = λ class h. elim (cases_lt class (class_count t)) [
        | inl old ↦ let n = w.inhabited class old in stays (representative t (class_at t n.0)) class (lead_is t row n.0 n.1).0 (lead_stays t row w.sound n.0 n.1 ∙ n.2)
        | inr new ↦
            let k = class - class_count t in
            let within : k < length (new_lowest t row) = omega (arith, new, h, count-refined t row) in
            stays (get_or (new_lowest t row) k 0) class (new_lowest-All t row k 0 within).inside (lowest_moves t row w.sound k within ∙ omega (arith, new))
      ];
    }

filled-fold : (rows : List (List (List Bool))) (t : ClassTable) → IsFilled t → IsFilled (fold refined_table t rows)
filled-fold [] t w = w
filled-fold (row ∷ rows) t w = filled-fold rows (refined_table t row) (filled-refined t row w)

pub classed_are_alike : ClassedAreAlike
classed_are_alike t table classed =
    let filled : IsFilled t = subst IsFilled (sym classed.classes_are) (filled-fold table.rows (first_table table.numbers) (filled-first table.numbers classed.some)) in
    let numbers : length t.class_of ≡ table.numbers = ap (λ (u : ClassTable). length u.class_of) classed.classes_are ∙ (numbers_after table.rows _ ∙ length-replicate table.numbers 0) in
    record {
      table_is = classed.table_is;
      some = classed.some;
      numbers = numbers;
      classes = λ n h. filled.sound.classes n (omega (arith, h, numbers));
      inhabited = λ class h. let n = filled.inhabited class h in (n.0, omega (arith, n.1, numbers), n.2);
      alike = λ m n hm hn same. (together_where_alike table.numbers m n table.rows hm hn).0 (subst (λ (u : ClassTable). class_at u m ≡ class_at u n) classed.classes_are same);
    }

-- numbers that answer alike are of one class
pub class_alike : (t : ClassTable) (table : Answers) → IsClassed t table → (m n : ℕ) → m < table.numbers → n < table.numbers → HaveOneAnswer table m n → class_at t m ≡ class_at t n
class_alike t table classed m n hm hn same = subst (λ (u : ClassTable). class_at u m ≡ class_at u n) (sym classed.classes_are) ((together_where_alike table.numbers m n table.rows hm hn).1 same)

pub members_score_alike : MembersScoreAlike
members_score_alike t table lines number classed h = alike_score_alike t table lines number (classed_are_alike t table classed) h
