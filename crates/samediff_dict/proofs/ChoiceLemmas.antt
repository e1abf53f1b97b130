-- What the steps of the choice need of the classes and of their candidates.
use Rattle.std.proofs.Common.{◌≡◌, ◌∙◌, ℕ, zero, suc, ◌+◌, ◌-◌, ◌*◌, ◌<◌, ◌≤◌, Bool, cond, eqb, List, [], ◌∷◌, ◌++◌, Some, None, length, get_or, set, take, fold, refl, sym, ap, subst, arith, inl, inr}
use Rattle.std.specs.Option.{option_map_or}
use Rattle.std.proofs.lemmas.Bool.{cases_lt, lt-ltb, le-ltb}
use Rattle.std.proofs.lemmas.List.{ext_get_or, get_or-map, length-map, get_or_append_left, get_or_push, length_push, length-set, take_all}
use Rattle.net_model.specs.ClassTable.{ClassTable, class_count, class_at, representative, same_bits}
use Rattle.class_refine.specs.Fields.{IsWhole}
use Rattle.class_refine.proofs.Pieces.{representative_lowest}
use Rattle.dict_rows.specs.AnswerTable.{answer_in}
use Rattle.dict_rows.specs.Entries.{free_baselines}
use Rattle.samediff_dict.specs.declared.numbering.Candidates.{Candidates}
use Rattle.samediff_dict.specs.declared.partition.Partition.{Partition}
use Rattle.samediff_dict.specs.Chosen.{candidates, pairs_apart, with_next, greedy_baselines, better_baselines, improvement, improved_baselines, chosen_baselines}
use Rattle.samediff_dict.specs.PlaceGroups.{AreBelow, IsFirstMost, gain_at}
use Rattle.samediff_dict.specs.Partition.{IsPartition, TogetherAt, are_together}
use Rattle.samediff_dict.specs.Numbered.{AreCandidates, AreChosen, HasBaselines, AlikeFrom, answers_base, baselines_at}
use Rattle.samediff_dict.proofs.CandidateLemmas.{code_is, candidate, length-baselines, base_at, chosen_push, chosen_set}
use Rattle.samediff_dict.proofs.ImproveLemmas.{improves, score-few, improved_enough}
use Rattle.samediff_dict.proofs.GreedyLemmas.{greedy_more}
use Rattle.samediff_dict.proofs.StepLemmas.{partition_where, cut_is, alike_none, alike_where, from_last, with_last}

-- number 0 is the lowest number of its class
pub first_leads : (t : ClassTable) → IsWhole t → representative t (class_at t 0) ≡ 0
first_leads t whole = omega (arith, (representative_lowest t 0 whole.some).within)

-- the candidate that number 0 answers
pub free_candidate : (t : ClassTable) (rows : List (List (List Bool))) (pattern : ℕ) (c : Candidates) → IsWhole t → AreCandidates t (get_or rows pattern []) c
    → candidate t rows pattern (get_or c.numbers (class_at t 0) 0) ≡ answer_in (get_or rows pattern []) 0
free_candidate t rows pattern c whole are = are.own (class_at t 0) (whole.classes 0 whole.some) ∙ ap (answer_in (get_or rows pattern [])) (first_leads t whole)

-- each number is below the count of candidates
pub numbers_within : {t : ClassTable} {row : List (List Bool)} {c : Candidates} {numbers : List ℕ} → AreCandidates t row c → numbers ≡ c.numbers → AreBelow numbers c.count
numbers_within {c = c} are same = subst (λ (xs : List ℕ). AreBelow xs c.count) (sym same) (λ class h. omega (arith, are.within class (omega (arith, h, are.one_each)), are.count_is))

pub some_candidate : (t : ClassTable) (row : List (List Bool)) (c : Candidates) → IsWhole t → AreCandidates t row c → 0 < length (candidates t row)
some_candidate t row c whole are = omega (arith, are.within (class_at t 0) (whole.classes 0 whole.some))

-- the baselines are the fault-free ones if each of them is
pub all_free : (t : ClassTable) (rows : List (List (List Bool))) (chosen : List ℕ) (done : ℕ) → length chosen ≡ done → length rows ≤ done → done ≤ length rows
    → ((pattern : ℕ) → pattern < done → get_or (baselines_at t rows chosen) pattern [] ≡ answer_in (get_or rows pattern []) 0) → baselines_at t rows chosen ≡ free_baselines rows
all_free t rows chosen done long over within free =
    ext_get_or [] (baselines_at t rows chosen) (free_baselines rows) (omega (arith, length-baselines t rows chosen, long, over, within, length-map rows (λ row. answer_in row 0)))
    (λ q h. let inside : q < done = omega (arith, h, length-baselines t rows chosen, long) in
    free q inside ∙ sym (get_or-map (λ row. answer_in row 0) rows q [] [] (omega (arith, inside, within))))

pub free_more : (t : ClassTable) (rows : List (List (List Bool))) (chosen : List ℕ) (code done : ℕ) → length chosen ≡ done
    → ((pattern : ℕ) → pattern < done → get_or (baselines_at t rows chosen) pattern [] ≡ answer_in (get_or rows pattern []) 0) → candidate t rows done code ≡ answer_in (get_or rows done []) 0
    → (pattern : ℕ) → pattern < done + 1 → get_or (baselines_at t rows (chosen ++ code ∷ [])) pattern [] ≡ answer_in (get_or rows pattern []) 0
free_more t rows chosen code done long free here pattern h =
    base_at t rows (chosen ++ code ∷ []) pattern (omega (arith, h, length_push chosen code, long)) ∙ elim (cases_lt pattern done) [
      | inl low ↦ ap (candidate t rows pattern) (get_or_append_left chosen (code ∷ []) 0 pattern (omega (arith, low, long))) ∙ (sym (base_at t rows chosen pattern (omega (arith, low, long))) ∙ free pattern low)
      | inr over ↦
          let e : done ≡ pattern = omega (arith, h, over) in
          subst (λ p. candidate t rows p (get_or (chosen ++ code ∷ []) p 0) ≡ answer_in (get_or rows p []) 0) e
          (ap (candidate t rows done) (get_or_push chosen code 0 done long) ∙ here)
    ]

-- ---- partitions by the baselines of some patterns, cut by one pattern more

module _ (t : ClassTable) (rows : List (List (List Bool))) where
  -- whether a class answers the chosen candidate of a pattern, by its number
  pub base_is : (chosen : List ℕ) (pattern : ℕ) (c : Candidates) → pattern < length chosen → AreChosen t rows chosen → AreCandidates t (get_or rows pattern []) c
      → (class : ℕ) → class < class_count t → eqb (get_or c.numbers class 0) (get_or chosen pattern 0) ≡ answers_base t rows (baselines_at t rows chosen) pattern class
  base_is chosen pattern c h are_chosen are class hc =
      code_is t (get_or rows pattern []) c are class (get_or chosen pattern 0) hc (are_chosen pattern h)
      ∙ ap (same_bits (answer_in (get_or rows pattern []) (representative t class))) (sym (base_at t rows chosen pattern h))

  -- the next pattern
  pub cut_last : (chosen : List ℕ) (pattern : ℕ) (c : Candidates) (p cut : Partition) (m : ℕ) → pattern < length chosen → AreChosen t rows chosen → AreCandidates t (get_or rows pattern []) c
      → IsPartition (class_count t) (AlikeFrom t rows (baselines_at t rows chosen) 0 pattern) p → IsPartition m (TogetherAt p c.numbers (get_or chosen pattern 0)) cut → m ≡ class_count t
      → IsPartition (class_count t) (AlikeFrom t rows (baselines_at t rows chosen) 0 (pattern + 1)) cut
  cut_last chosen pattern c p cut m h are_chosen are before is e =
      let bs = baselines_at t rows chosen in
      cut_is c.numbers (AlikeFrom t rows bs 0 pattern) (AlikeFrom t rows bs 0 (pattern + 1)) (get_or chosen pattern 0) (answers_base t rows bs pattern) before is e
      (base_is chosen pattern c h are_chosen are) (from_last t rows bs pattern) (with_last t rows bs pattern)

  -- one more baseline doesn't change the earlier ones
  base_was : (chosen : List ℕ) (answer q : ℕ) → q < length chosen → get_or (baselines_at t rows (chosen ++ answer ∷ [])) q [] ≡ get_or (baselines_at t rows chosen) q []
  base_was chosen answer q h =
      base_at t rows (chosen ++ answer ∷ []) q (omega (arith, h, length_push chosen answer))
      ∙ (ap (candidate t rows q) (get_or_append_left chosen (answer ∷ []) 0 q h) ∙ sym (base_at t rows chosen q h))

  -- the next pattern, with the baseline that it gets
  pub cut_added : (chosen : List ℕ) (best pattern : ℕ) (c : Candidates) (p cut : Partition) (m : ℕ) → length chosen ≡ pattern → AreChosen t rows (chosen ++ best ∷ []) → AreCandidates t (get_or rows pattern []) c
      → IsPartition (class_count t) (AlikeFrom t rows (baselines_at t rows chosen) 0 pattern) p → IsPartition m (TogetherAt p c.numbers best) cut → m ≡ class_count t
      → IsPartition (class_count t) (AlikeFrom t rows (baselines_at t rows (chosen ++ best ∷ [])) 0 (pattern + 1)) cut
  cut_added chosen best pattern c p cut m long are_chosen are before is e =
      let more = chosen ++ best ∷ [] in
      let was : (q class : ℕ) → 0 ≤ q → q < pattern → answers_base t rows (baselines_at t rows more) q class ≡ answers_base t rows (baselines_at t rows chosen) q class = λ q class from below.
      ap (same_bits (answer_in (get_or rows q []) (representative t class))) (base_was chosen best q (omega (arith, below, long))) in
      let before' = partition_where (AlikeFrom t rows (baselines_at t rows chosen) 0 pattern) (AlikeFrom t rows (baselines_at t rows more) 0 pattern) before
      (λ low high hl hh a. alike_where t rows rows (baselines_at t rows more) (baselines_at t rows chosen) 0 pattern (λ q class from below. sym (was q class from below)) low high a)
      (λ low high hl hh a. alike_where t rows rows (baselines_at t rows chosen) (baselines_at t rows more) 0 pattern was low high a) in
      cut_last more pattern c p cut m (omega (arith, length_push chosen best, long)) are_chosen are before'
      (subst (λ b. IsPartition m (TogetherAt p c.numbers b) cut) (sym (get_or_push chosen best 0 pattern long)) is) e

pub whole_is : (t : ClassTable) (rows : List (List (List Bool))) (baselines : List (List Bool)) (at m : ℕ) (p : Partition) → IsPartition m (λ _ _. Unit {0}) p → m ≡ class_count t
    → IsPartition (class_count t) (AlikeFrom t rows baselines at at) p
whole_is t rows baselines at m p is e = partition_where (λ _ _. Unit {0}) (AlikeFrom t rows baselines at at) (subst (λ k. IsPartition k (λ _ _. Unit {0}) p) e is)
    (λ low high hl hh a. tt) (λ low high hl hh a. alike_none t rows baselines at low high)

-- ---- the first step so far

pub record IsGreedyTo (t : ClassTable) (rows : List (List (List Bool))) (chosen : List ℕ) (pattern : ℕ) (p : Partition) : Type 0 where
  pub one_each : length chosen ≡ pattern
  pub chosen_are : AreChosen t rows chosen
  pub so_far : baselines_at t rows chosen ≡ fold (with_next t rows) [] (take pattern rows)
  pub before_is : IsPartition (class_count t) (AlikeFrom t rows (baselines_at t rows chosen) 0 pattern) p

pub greedy_step : (t : ClassTable) (rows : List (List (List Bool))) (chosen new : List ℕ) (pattern : ℕ) (p cut : Partition) (numbers : List ℕ) (m best : ℕ) (c : Candidates) → IsGreedyTo t rows chosen pattern p → pattern < length rows
    → AreCandidates t (get_or rows pattern []) c → numbers ≡ c.numbers → IsFirstMost (gain_at (are_together p) numbers) c.count best → IsPartition m (TogetherAt p numbers best) cut → m ≡ class_count t
    → new ≡ chosen ++ best ∷ [] → IsGreedyTo t rows new (pattern + 1) cut
greedy_step t rows chosen new pattern p cut numbers m best c so_far h are same most is e more =
    let most' : IsFirstMost (gain_at (are_together p) c.numbers) (length (candidates t (get_or rows pattern []))) best =
    subst (λ k. IsFirstMost (gain_at (are_together p) c.numbers) k best) are.count_is (subst (λ (ys : List ℕ). IsFirstMost (gain_at (are_together p) ys) c.count best) same most) in
    let chosen_are : AreChosen t rows (chosen ++ best ∷ []) = chosen_push t rows chosen best so_far.chosen_are (subst (λ q. best < length (candidates t (get_or rows q []))) (sym so_far.one_each) most'.within) in
    subst (λ (xs : List ℕ). IsGreedyTo t rows xs (pattern + 1) cut) (sym more) (record {
      one_each = omega (arith, length_push chosen best, so_far.one_each);
      chosen_are = chosen_are;
      so_far = greedy_more t rows chosen pattern so_far.one_each h p c best so_far.before_is are most' so_far.so_far;
      before_is = cut_added t rows chosen best pattern c p cut m so_far.one_each chosen_are are so_far.before_is (subst (λ (ys : List ℕ). IsPartition m (TogetherAt p ys best) cut) same is) e;
    })

pub greedy_done : (t : ClassTable) (rows : List (List (List Bool))) (chosen : List ℕ) (pattern : ℕ) (p : Partition) → IsGreedyTo t rows chosen pattern p → pattern ≡ length rows → HasBaselines t rows chosen (greedy_baselines t rows)
unfolding greedy_baselines
greedy_done t rows chosen pattern p is all = record {
  one_each = is.one_each ∙ all;
  chosen_are = is.chosen_are;
  baselines_are = is.so_far ∙ ap (fold (with_next t rows) []) (take_all pattern rows (omega (arith, all)));
}

-- ---- the fault-free answers so far

pub record AreFreeTo (t : ClassTable) (rows : List (List (List Bool))) (chosen : List ℕ) (pattern : ℕ) : Type 0 where
  pub one_each : length chosen ≡ pattern
  pub chosen_are : AreChosen t rows chosen
  pub free : (q : ℕ) → q < pattern → get_or (baselines_at t rows chosen) q [] ≡ answer_in (get_or rows q []) 0

pub free_step : (t : ClassTable) (rows : List (List (List Bool))) (chosen new : List ℕ) (pattern code : ℕ) (c : Candidates) → IsWhole t → AreFreeTo t rows chosen pattern
    → AreCandidates t (get_or rows pattern []) c → code ≡ get_or c.numbers (class_at t 0) 0 → new ≡ chosen ++ code ∷ [] → AreFreeTo t rows new (pattern + 1)
free_step t rows chosen new pattern code c whole so_far are is more =
    let known : code < length (candidates t (get_or rows pattern [])) = omega (arith, is, are.within (class_at t 0) (whole.classes 0 whole.some)) in
    subst (λ (xs : List ℕ). AreFreeTo t rows xs (pattern + 1)) (sym more) (record {
      one_each = omega (arith, length_push chosen code, so_far.one_each);
      chosen_are = chosen_push t rows chosen code so_far.chosen_are (subst (λ q. code < length (candidates t (get_or rows q []))) (sym so_far.one_each) known);
      free = free_more t rows chosen code pattern so_far.one_each so_far.free (ap (candidate t rows pattern) is ∙ free_candidate t rows pattern c whole are);
    })

pub free_done : (t : ClassTable) (rows : List (List (List Bool))) (chosen : List ℕ) (pattern : ℕ) → AreFreeTo t rows chosen pattern → pattern ≡ length rows → HasBaselines t rows chosen (free_baselines rows)
free_done t rows chosen pattern is all = record {
  one_each = is.one_each ∙ all;
  chosen_are = is.chosen_are;
  baselines_are = all_free t rows chosen pattern is.one_each (omega (arith, all)) (omega (arith, all)) is.free;
}

-- ---- the better of the two

pub better_free : (t : ClassTable) (rows : List (List (List Bool))) (chosen : List ℕ) → pairs_apart t rows (greedy_baselines t rows) < pairs_apart t rows (free_baselines rows) → HasBaselines t rows chosen (free_baselines rows) → HasBaselines t rows chosen (better_baselines t rows)
unfolding better_baselines
better_free t rows chosen less has = record {
  one_each = has.one_each;
  chosen_are = has.chosen_are;
  baselines_are = has.baselines_are ∙ sym (ap (λ b. cond b (free_baselines rows) (greedy_baselines t rows)) (lt-ltb (pairs_apart t rows (greedy_baselines t rows)) (pairs_apart t rows (free_baselines rows)) less));
}

pub better_greedy : (t : ClassTable) (rows : List (List (List Bool))) (chosen : List ℕ) → pairs_apart t rows (free_baselines rows) ≤ pairs_apart t rows (greedy_baselines t rows) → HasBaselines t rows chosen (greedy_baselines t rows) → HasBaselines t rows chosen (better_baselines t rows)
unfolding better_baselines
better_greedy t rows chosen many has = record {
  one_each = has.one_each;
  chosen_are = has.chosen_are;
  baselines_are = has.baselines_are ∙ sym (ap (λ b. cond b (free_baselines rows) (greedy_baselines t rows)) (le-ltb (pairs_apart t rows (greedy_baselines t rows)) (pairs_apart t rows (free_baselines rows)) many));
}

-- ---- replacements as long as one keeps more pairs apart

pub record IsReplacing (t : ClassTable) (rows : List (List (List Bool))) (chosen : List ℕ) : Type 0 where
  pub one_each : length chosen ≡ length rows
  pub chosen_are : AreChosen t rows chosen
  pub left : chosen_baselines t rows ≡ improved_baselines t rows (class_count t * class_count t) (baselines_at t rows chosen)

pub replacing_none : (t : ClassTable) (rows : List (List (List Bool))) (chosen : List ℕ) → HasBaselines t rows chosen (better_baselines t rows) → IsReplacing t rows chosen
unfolding chosen_baselines
replacing_none t rows chosen has = record {
  one_each = has.one_each;
  chosen_are = has.chosen_are;
  left = ap (improved_baselines t rows (class_count t * class_count t)) (sym has.baselines_are);
}

one_left : (t : ClassTable) (rows : List (List (List Bool))) (n : ℕ) (baselines other : List (List Bool)) → improvement t rows baselines ≡ Some other → improved_baselines t rows (suc n) baselines ≡ improved_baselines t rows n other
one_left t rows n baselines other e = ap (λ o. option_map_or (improved_baselines t rows n) o baselines) e

more_left : (t : ClassTable) (rows : List (List (List Bool))) (n : ℕ) (baselines other : List (List Bool)) → improvement t rows baselines ≡ Some other → class_count t * class_count t ≡ n → improved_baselines t rows n baselines ≡ improved_baselines t rows n other
more_left t rows zero baselines other e all = absurd (omega (arith, improves t rows baselines other e, score-few t rows other, all))
more_left t rows (suc n) baselines other e all =
    one_left t rows n baselines other e ∙ improved_enough t rows n (suc n) other (omega (arith, improves t rows baselines other e, all)) (omega (arith, all))

pub replacing_step : (t : ClassTable) (rows : List (List (List Bool))) (chosen : List ℕ) (pattern answer : ℕ) → IsReplacing t rows chosen → pattern < length chosen → answer < length (candidates t (get_or rows pattern []))
    → improvement t rows (baselines_at t rows chosen) ≡ Some (baselines_at t rows (set chosen pattern answer)) → IsReplacing t rows (set chosen pattern answer)
replacing_step t rows chosen pattern answer so_far hp ha e = record {
  one_each = length-set chosen pattern answer ∙ so_far.one_each;
  chosen_are = chosen_set t rows chosen pattern answer so_far.chosen_are hp ha;
  left = so_far.left ∙ more_left t rows (class_count t * class_count t) (baselines_at t rows chosen) (baselines_at t rows (set chosen pattern answer)) e refl;
}

stays_done : (t : ClassTable) (rows : List (List (List Bool))) (n : ℕ) (baselines : List (List Bool)) → improvement t rows baselines ≡ None → improved_baselines t rows n baselines ≡ baselines
stays_done t rows zero baselines e = refl
stays_done t rows (suc n) baselines e = ap (λ o. option_map_or (improved_baselines t rows n) o baselines) e

pub replacing_done : (t : ClassTable) (rows : List (List (List Bool))) (chosen : List ℕ) → IsReplacing t rows chosen → improvement t rows (baselines_at t rows chosen) ≡ None → HasBaselines t rows chosen (chosen_baselines t rows)
replacing_done t rows chosen is none = record {
  one_each = is.one_each;
  chosen_are = is.chosen_are;
  baselines_are = sym (is.left ∙ stays_done t rows (class_count t * class_count t) (baselines_at t rows chosen) none);
}

-- each replacement leaves fewer pairs together
pub fewer_left : (t : ClassTable) (rows : List (List (List Bool))) (baselines other : List (List Bool)) → improvement t rows baselines ≡ Some other
    → class_count t * class_count t - pairs_apart t rows other < class_count t * class_count t - pairs_apart t rows baselines
fewer_left t rows baselines other e = omega (arith, improves t rows baselines other e, score-few t rows other)
