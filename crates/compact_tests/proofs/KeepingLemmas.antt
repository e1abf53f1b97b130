-- The classes of the kept patterns, with one pattern more.
use Rattle.std.proofs.Common.{◌≡◌, ◌∙◌, ◌↔◌, ℕ, zero, suc, ◌+◌, ◌<◌, inl, inr, Bool, false, List, [], ◌∷◌, length, take, get_or, replicate, refl, sym, ap, subst, arith}
use Rattle.std.specs.Prelude.{All, Contains}
use Rattle.std.proofs.lemmas.Bool.{cases_eq}
use Rattle.std.proofs.lemmas.List.{get_or_default, get_or-replicate, length-replicate, length-map}
use Rattle.std.proofs.lemmas.List.Elements.{All-nil, All-cons, All-head, All-tail}
use Rattle.net_model.specs.Circuit.{Circuit, IsCircuit}
use Rattle.net_model.specs.FaultList.{fault_count}
use Rattle.net_model.specs.Rows.{row_at}
use Rattle.net_model.specs.ClassTable.{ClassTable, class_table, first_table, class_at, answer_at, representative, refined_table, SplitBy}
use Rattle.net_model.specs.PatternRows.{AreAnswerRows}
use Rattle.net_model.proofs.OneAnswer.{one_table, one_rows}
use Rattle.class_refine.specs.Fields.{IsWhole}
use Rattle.class_refine.specs.Laws.{IsRefinement}
use Rattle.class_refine.specs.Steps.{HasCut}
use Rattle.class_refine.proofs.Pieces.{lead_is}
use Rattle.class_refine.proofs.Refined.{representative-member}
use Rattle.class_refine.proofs.Refinement.{refined_is, same_refinement}
use Rattle.kept_vectors.specs.Kept.{IsFiner, SplitInTurn}
use Rattle.answer_numbers.specs.AnswerNumbers.{AnswerNumbers}
use Rattle.compact_tests.specs.Remaining.{Answered, answered_rows}
use Rattle.compact_tests.specs.Mixed.{ListsMixed}
use Rattle.compact_tests.specs.Numbered.{AreClassRows, AreMemberRows}
use Rattle.compact_tests.specs.Thinning.{HaveSameAnswers, IsNumbered, IsAnswered, patterns_at}
use Rattle.compact_tests.specs.Keeping.{vectors_at, AreNeededOf}
use Rattle.compact_tests.proofs.NumberLemmas.{same_answers, same_rows, same_behind}
use Rattle.compact_tests.proofs.SplitLemmas.{table_more}
use Rattle.compact_tests.proofs.TableLemmas.{numbers-table, alike}
use Rattle.compact_tests.proofs.SimulatedLemmas.{answer_row_at, as_many_rows, as_many_answered}
use Rattle.compact_tests.proofs.ThinValid.{map_item}

-- Rows that distinguish the same numbers of each class make one table.
pub same_cut : (t : ClassTable) (row other : List (List Bool)) → IsWhole t → ((m n : ℕ) → m < length t.class_of → n < length t.class_of → class_at t m ≡ class_at t n → (answer_at t row m ≡ answer_at t row n) ↔ (answer_at t other m ≡ answer_at t other n))
    → refined_table t row ≡ refined_table t other
same_cut t row other w alike =
    let is = refined_is t row w in
    let moved : IsRefinement t other (refined_table t row) = record {
      numbers = is.numbers;
      together = λ m n hm hn. (
        λ e. let both = (is.together m n hm hn).0 e in (both.0, (alike m n hm hn both.0).0 both.1),
        λ both. (is.together m n hm hn).1 (both.0, (alike m n hm hn both.0).1 both.1),
      );
      leads = is.leads;
      stay = λ n h e. let lead = representative-member t w (class_at t n) (w.classes n h) in is.stay n h ((alike n (representative t (class_at t n)) h lead.0 (sym lead.1)).1 e);
      leave = λ n h ne. let lead = representative-member t w (class_at t n) (w.classes n h) in is.leave n h (λ e. ne ((alike n (representative t (class_at t n)) h lead.0 (sym lead.1)).0 e));
      inhabited = is.inhabited;
      ordered = is.ordered;
      old_births = is.old_births;
      new_births = is.new_births;
      patterns = is.patterns;
    } in
    same_refinement t other w (refined_table t row) (refined_table t other) moved (refined_is t other w)

pub row_of : (all : List Answered) (pattern : ℕ) → get_or (answered_rows all) pattern [] ≡ (get_or all pattern ([], [])).1
row_of all pattern = map_item (λ (p : Answered). p.1) all pattern ([], [])

module _ (n : AnswerNumbers) (lane : ℕ) (t groups : ClassTable) (listed : List ℕ) (rows : List (List Bool)) (kept : List Answered) (pattern : ℕ) (finer : IsFiner groups t) (mixed : ListsMixed t groups listed) (are : AreMemberRows n lane t listed (length listed) rows) (needed : AreNeededOf t kept)
    (numbered : IsNumbered n lane listed t kept pattern) where
  abbrev row : List (List Bool)
  row = (get_or kept pattern ([], [])).1

  class_alike : (a b : ℕ) → a < length t.class_of → b < length t.class_of → class_at t a ≡ class_at t b → get_or row a [] ≡ get_or row b []
  class_alike a b ha hb same =
      subst (λ (r : List (List Bool)). get_or r a [] ≡ get_or r b []) (row_of kept pattern) (needed.alike a b ha hb same pattern [] (omega (arith, numbered.within, length-map kept (λ (p : Answered). p.1))))

  own_answer : (a place : ℕ) → a < length t.class_of → place < length listed → get_or listed place 0 ≡ class_at t a → row_at numbered.answers place ≡ get_or row a []
  own_answer a place ha h is =
      let lead = lead_is t [] a ha in
      numbered.own place h ∙ (ap (λ (c : ℕ). get_or row (representative t c) []) is ∙ class_alike (representative t (class_at t a)) a lead.0 ha lead.1)

  -- The rows distinguish the numbers of each group as the answers do.
  part_alike : (a b : ℕ) → a < length groups.class_of → b < length groups.class_of → class_at groups a ≡ class_at groups b → (row_at rows a ≡ row_at rows b) ↔ (get_or row a [] ≡ get_or row b [])
  part_alike a b ga gb together =
      let ha : a < length t.class_of = omega (arith, ga, finer.numbers) in
      let hb : b < length t.class_of = omega (arith, gb, finer.numbers) in
      let wide : (m : ℕ) → m < length t.class_of → length (row_at rows m) ≡ 32 = λ m h. are.rows_are.widths m (omega (arith, h, are.rows_are.count_is)) in
      elim (cases_eq (class_at t a) (class_at t b)) [
        | inl e ↦ ((λ same. class_alike a b ha hb e), (λ same. are.rows_are.alike a b ha hb e))
        | inr ne ↦
            let x : Contains listed (class_at t a) = mixed.all a b ha hb ne together in
            let y : Contains listed (class_at t b) = mixed.all b a hb ha (λ e. ne (sym e)) (sym together) in
            let at_x : get_or listed x.0 0 ≡ class_at t a = get_or_default listed x.0 0 (class_at t a) x.1 ∙ x.2 in
            let at_y : get_or listed y.0 0 ≡ class_at t b = get_or_default listed y.0 0 (class_at t b) y.1 ∙ y.2 in
            let row_a = are.each x.0 a x.1 ha (sym at_x) in
            let row_b = are.each y.0 b y.1 hb (sym at_y) in
            let own_a = own_answer a x.0 ha x.1 at_x in
            let own_b = own_answer b y.0 hb y.1 at_y in (
              (λ e. sym own_a ∙ (same_answers n lane rows numbered.answers numbered.are a b x.0 y.0 row_a row_b (wide a ha) (wide b hb) e ∙ own_b)),
              (λ e. same_rows n lane rows numbered.answers numbered.are a b x.0 y.0 row_a row_b (wide a ha) (wide b hb) (own_a ∙ (e ∙ sym own_b))),
            )
      ]

  pub kept_more : (new : ClassTable) (added : ℕ) → IsWhole groups → HasCut groups new rows added → groups ≡ class_table (length t.class_of) (take pattern (answered_rows kept)) → new ≡ class_table (length t.class_of) (take (pattern + 1) (answered_rows kept))
  kept_more new added whole cut is =
      let numbers = length t.class_of in
      let split : SplitBy groups row = subst (λ (u : ClassTable). SplitBy u row) (sym is) (needed.splits pattern numbered.within) in
      let splits : SplitBy groups rows = record {
        first = split.first;
        second = split.second;
        first_below = split.first_below;
        second_below = split.second_below;
        together = split.together;
        differ = λ e. split.differ ((part_alike split.first split.second split.first_below split.second_below split.together).0 e);
      } in
      let more : class_table numbers (take (pattern + 1) (answered_rows kept)) ≡ refined_table (class_table numbers (take pattern (answered_rows kept))) row =
      table_more numbers (answered_rows kept) pattern (omega (arith, numbered.within, length-map kept (λ (p : Answered). p.1))) ∙ ap (refined_table (class_table numbers (take pattern (answered_rows kept)))) (row_of kept pattern) in
      cut.refined (cut.splits.1 splits) ∙ (same_cut groups rows row whole part_alike ∙ (ap (λ (u : ClassTable). refined_table u row) is ∙ sym more))

pub still_finer : (t old new : ClassTable) (rows : List (List Bool)) (added : ℕ) → IsWhole old → HasCut old new rows added → length new.class_of ≡ length old.class_of → IsFiner old t → AreClassRows t rows → IsFiner new t
still_finer t old new rows added whole cut size finer are = record {
  numbers = finer.numbers ∙ sym size;
  together = λ m n hm hn same.
      let im : m < length old.class_of = omega (arith, hm, size) in
      let i : n < length old.class_of = omega (arith, hn, size) in
      same_behind old new rows added whole cut m n im i (finer.together m n im i same) (are.alike m n (omega (arith, im, finer.numbers)) (omega (arith, i, finer.numbers)) same);
}

pub class_rows_none : (t : ClassTable) (rows : List (List Bool)) → rows ≡ replicate (length t.class_of) (replicate 32 false) → AreClassRows t rows
class_rows_none t rows are =
    let count = length t.class_of in
    let blank : (m : ℕ) → m < count → row_at rows m ≡ replicate 32 false = λ m h. ap (λ (rs : List (List Bool)). row_at rs m) are ∙ get_or-replicate {A = List Bool} count m (replicate 32 false) [] h in
    let many : length rows ≡ count = ap length are ∙ length-replicate {A = List Bool} count (replicate 32 false) in record {
      count_is = many;
      widths = λ row h. ap length (blank row (omega (arith, h, many))) ∙ length-replicate {A = Bool} 32 false;
      alike = λ m n hm hn same. blank m hm ∙ sym (blank n hn);
    }

pub finer_first : (t kept : ClassTable) (numbers : ℕ) → kept ≡ first_table numbers → numbers ≡ length t.class_of → IsFiner kept t
finer_first t kept numbers is size =
    let long : length kept.class_of ≡ numbers = ap (λ (u : ClassTable). length u.class_of) is ∙ length-replicate {A = ℕ} numbers 0 in
    let zero_class : (m : ℕ) → m < length kept.class_of → class_at kept m ≡ 0 = λ m h. ap (λ (u : ClassTable). class_at u m) is ∙ get_or-replicate {A = ℕ} numbers m 0 0 (omega (arith, h, long)) in
    record { numbers = omega (arith, long, size); together = λ m n hm hn same. zero_class m hm ∙ sym (zero_class n hn) }

-- ---- the patterns at places

first_answers : (c : Circuit) (vectors : List (List Bool)) (rows : List (List (List Bool))) → AreAnswerRows c vectors rows → (k : ℕ) → AreAnswerRows c (take k vectors) (take k rows)
first_answers c vectors rows a zero = tt
first_answers c [] [] a (suc k) = tt
first_answers c [] (r ∷ rows) a (suc k) = absurd a
first_answers c (v ∷ vectors) [] a (suc k) = absurd a
first_answers c (v ∷ vectors) (r ∷ rows) a (suc k) = (a.0, first_answers c vectors rows a.1 k)

pub place_answers : (c : Circuit) (patterns : List (List Bool)) (all : List Answered) → AreAnswerRows c patterns (answered_rows all) → (places : List ℕ) → All (λ place. place < length patterns) places → AreAnswerRows c (vectors_at patterns places) (answered_rows (patterns_at all places))
place_answers c patterns all answers [] within = tt
place_answers c patterns all answers (place ∷ places) within = (
  answer_row_at c patterns all answers place (All-head (λ place. place < length patterns) place places within),
  place_answers c patterns all answers places (All-tail (λ place. place < length patterns) place places within),
)

place_alike : (all : List Answered) (m n : ℕ) → HaveSameAnswers (answered_rows all) m n → (places : List ℕ) → All (λ place. place < length all) places → HaveSameAnswers (answered_rows (patterns_at all places)) m n
place_alike all m n same [] within = All-nil (λ row. get_or row m [] ≡ get_or row n [])
place_alike all m n same (place ∷ places) within =
    let inside : place < length all = All-head (λ place. place < length all) place places within in
    All-cons (λ row. get_or row m [] ≡ get_or row n []) (get_or all place ([], [])).1 (answered_rows (patterns_at all places))
    (subst (λ (r : List (List Bool)). get_or r m [] ≡ get_or r n []) (row_of all place) (same place [] (omega (arith, inside, length-map all (λ (p : Answered). p.1)))))
    (place_alike all m n same places (All-tail (λ place. place < length all) place places within))

-- The patterns at places are needed if each splits a class of those before it.
pub places_needed : (c : Circuit) → IsCircuit c → (patterns : List (List Bool)) (t : ClassTable) (all : List Answered) → IsAnswered c patterns t all → (places : List ℕ) → All (λ place. place < length patterns) places → SplitInTurn c (vectors_at patterns places) → AreNeededOf t (patterns_at all places)
places_needed c circuit patterns t all answered places within turn =
    let numbers = fault_count c in
    let size : length t.class_of ≡ numbers = ap (λ (u : ClassTable). length u.class_of) answered.table ∙ numbers-table numbers (answered_rows all) in
    let kept = patterns_at all places in
    let vectors = vectors_at patterns places in
    let answers = place_answers c patterns all answered.answers places within in
    let many = as_many_answered c patterns t all answered in
    record {
      alike = λ m n hm hn same.
          place_alike all m n
          (alike m n numbers (answered_rows all) (omega (arith, hm, size)) (omega (arith, hn, size)) (subst (λ (u : ClassTable). class_at u m ≡ class_at u n) answered.table same)) places
          (λ k d h. omega (arith, within k d h, many));
      splits = λ k h.
          let inside : k < length vectors = omega (arith, h, as_many_rows c vectors kept answers) in
          let split = turn.splits k inside in
          let before : split.t ≡ class_table numbers (take k (answered_rows kept)) = one_table c circuit split.table (record { rows = take k (answered_rows kept); answers = first_answers c vectors (answered_rows kept) answers k; table = refl }) in
          let row : split.row ≡ (get_or kept k ([], [])).1 =
          ap (λ (rs : List (List (List Bool))). get_or rs 0 []) (one_rows c circuit (get_or vectors k [] ∷ []) (split.row ∷ []) ((get_or kept k ([], [])).1 ∷ []) (split.answers, tt) (answer_row_at c vectors kept answers k inside, tt)) in
          subst (λ (count : ℕ). SplitBy (class_table count (take k (answered_rows kept))) (get_or kept k ([], [])).1) (sym size) (subst (λ (r : List (List Bool)). SplitBy (class_table numbers (take k (answered_rows kept))) r) row (subst (λ (u : ClassTable). SplitBy u split.row) before split.split));
    }
