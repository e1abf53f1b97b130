-- Partitions by some of the patterns, and what a candidate of one pattern adds to them.
use Rattle.std.proofs.Common.{◌≡◌, ◌∙◌, ℕ, ◌+◌, ◌<◌, ◌≤◌, Bool, eqb, List, [], ◌∷◌, ◌++◌, length, get_or, set, take, sym, ap, subst, arith, inl, inr, Decides}
use Rattle.std.proofs.lemmas.Bool.{cases_lt, cases_order}
use Rattle.std.proofs.lemmas.List.{length-set, length_push, length-take-le, get_or-take, get_or_append_left, get_or_push, get_or-set_same, get_or-set_other}
use Rattle.net_model.specs.ClassTable.{ClassTable, class_count, representative, same_bits}
use Rattle.dict_rows.specs.AnswerTable.{answer_in}
use Rattle.samediff_dict.specs.declared.partition.Partition.{Partition}
use Rattle.samediff_dict.specs.Chosen.{pairs_apart}
use Rattle.samediff_dict.specs.PlaceGroups.{gain_at}
use Rattle.samediff_dict.specs.Partition.{are_together, TogetherAt, IsPartition, pairs_between}
use Rattle.samediff_dict.specs.Numbered.{answers_base, AlikeFrom}
use Rattle.samediff_dict.proofs.ToldLemmas.{together_decides, apart_by_gain}

-- ---- partitions of what is together by partitions of the parts

pub partition_where : {n : ℕ} {p : Partition} (before after : ℕ → ℕ → Type 0) → IsPartition n before p → ((low high : ℕ) → low < n → high < n → after low high → before low high)
    → ((low high : ℕ) → low < n → high < n → before low high → after low high) → IsPartition n after p
partition_where before after is into out = record {
  listed = is.listed;
  same = λ low high hl hh a. is.same low high hl hh (into low high hl hh a);
  together_are = λ low high hl hh e. out low high hl hh (is.together_are low high hl hh e);
}

pub cut_is : {n m : ℕ} {p cut : Partition} (answers : List ℕ) (before after : ℕ → ℕ → Type 0) (answer : ℕ) (here : ℕ → Bool) → IsPartition n before p → IsPartition m (TogetherAt p answers answer) cut → m ≡ n
    → ((class : ℕ) → class < n → eqb (get_or answers class 0) answer ≡ here class)
    → ((low high : ℕ) → after low high → before low high × (here low ≡ here high)) → ((low high : ℕ) → before low high × (here low ≡ here high) → after low high) → IsPartition n after cut
cut_is {n} {m} {p} {cut} answers before after answer here one is e same into out = partition_where (TogetherAt p answers answer) after (subst (λ k. IsPartition k (TogetherAt p answers answer) cut) e is)
    (λ low high hl hh a. let w = into low high a in (one.same low high hl hh w.0, same low hl ∙ (w.1 ∙ sym (same high hh))))
    (λ low high hl hh a. out low high (one.together_are low high hl hh a.0, sym (same low hl) ∙ (a.1 ∙ same high hh)))

-- ---- patterns in a range

module _ (t : ClassTable) (rows : List (List (List Bool))) where
  module _ (baselines : List (List Bool)) where
    pub alike_none : (at low high : ℕ) → AlikeFrom t rows baselines at at low high
    alike_none at low high q from below = absurd (omega (arith, from, below))

    -- the last pattern of a range
    pub from_last : (end low high : ℕ) → AlikeFrom t rows baselines 0 (end + 1) low high → AlikeFrom t rows baselines 0 end low high × (answers_base t rows baselines end low ≡ answers_base t rows baselines end high)
    from_last end low high a = (λ q from below. a q from (omega (arith, below)), a end (omega arith) (omega arith))

    pub with_last : (end low high : ℕ) → AlikeFrom t rows baselines 0 end low high × (answers_base t rows baselines end low ≡ answers_base t rows baselines end high) → AlikeFrom t rows baselines 0 (end + 1) low high
    with_last end low high a q from below = elim (cases_lt q end) [
      | inl less ↦ a.0 q from less
      | inr over ↦ let e : end ≡ q = omega (arith, over, below) in subst (λ p. answers_base t rows baselines p low ≡ answers_base t rows baselines p high) e a.1
    ]

  -- other baselines, the same in the range
  pub alike_where : (rows' : List (List (List Bool))) (baselines other : List (List Bool)) (first end : ℕ)
      → ((q class : ℕ) → first ≤ q → q < end → answers_base t rows' other q class ≡ answers_base t rows baselines q class)
      → (low high : ℕ) → AlikeFrom t rows baselines first end low high → AlikeFrom t rows' other first end low high
  alike_where rows' baselines other first end same low high a q from below = same q low from below ∙ (a q from below ∙ sym (same q high from below))

  -- ---- what a candidate adds

  -- One baseline is replaced: by a test of what is alike in the others, before it and after it.
  pub replaced_apart : (baselines : List (List Bool)) → length baselines ≡ length rows → (pattern : ℕ) → pattern < length rows → (together : ℕ → ℕ → Bool) (answers : List ℕ) (answer : ℕ) (base : List Bool)
      → ((low high : ℕ) → low < class_count t → high < class_count t → Decides (together low high) (AlikeFrom t rows baselines 0 pattern low high × AlikeFrom t rows baselines (pattern + 1) (length rows) low high)) → length answers ≡ class_count t
      → ((class : ℕ) → class < class_count t → eqb (get_or answers class 0) answer ≡ same_bits (answer_in (get_or rows pattern []) (representative t class)) base)
      → pairs_apart t rows (set baselines pattern base) ≡ pairs_between (class_count t) together + gain_at together answers answer
  replaced_apart baselines long pattern h together answers answer base decides many codes =
      let other = set baselines pattern base in
      let beside : (q class : ℕ) → (q ≡ pattern → ⊥) → answers_base t rows other q class ≡ answers_base t rows baselines q class = λ q class ne.
      ap (same_bits (answer_in (get_or rows q []) (representative t class))) (get_or-set_other baselines pattern q base [] ne) in
      let here : (class : ℕ) → answers_base t rows other pattern class ≡ same_bits (answer_in (get_or rows pattern []) (representative t class)) base = λ class.
      ap (same_bits (answer_in (get_or rows pattern []) (representative t class))) (get_or-set_same baselines pattern base [] (omega (arith, h, long))) in
      apart_by_gain t rows other (length-set baselines pattern base ∙ long) together (λ low high. AlikeFrom t rows baselines 0 pattern low high × AlikeFrom t rows baselines (pattern + 1) (length rows) low high)
      answers answer pattern decides many
      (λ class hc. codes class hc ∙ sym (here class))
      (λ low high hl hh a. (
        (
          λ q from below. sym (beside q low (λ e. omega (arith, e, below))) ∙ (a q from (omega (arith, below, h)) ∙ beside q high (λ e. omega (arith, e, below))),
          λ q from below. sym (beside q low (λ e. omega (arith, e, from))) ∙ (a q (omega arith) below ∙ beside q high (λ e. omega (arith, e, from))),
        ),
        a pattern (omega arith) h,
      ))
      (λ low high hl hh a q from below. elim (cases_order q pattern) [
        | inl e ↦ subst (λ p. answers_base t rows other p low ≡ answers_base t rows other p high) (sym e) a.1
        | inr rest ↦ elim rest [
          | inl less ↦ beside q low (λ e. omega (arith, e, less)) ∙ (a.0.0 q from less ∙ sym (beside q high (λ e. omega (arith, e, less))))
          | inr more ↦ beside q low (λ e. omega (arith, e, more)) ∙ (a.0.1 q (omega (arith, more)) below ∙ sym (beside q high (λ e. omega (arith, e, more))))
        ]
      ])

  -- One baseline is added: by the classes that are alike in those so far.
  pub added_apart : (baselines : List (List Bool)) (pattern : ℕ) → length baselines ≡ pattern → pattern < length rows → (p : Partition) (answers : List ℕ) (answer : ℕ) (base : List Bool)
      → IsPartition (class_count t) (AlikeFrom t rows baselines 0 pattern) p → length answers ≡ class_count t
      → ((class : ℕ) → class < class_count t → eqb (get_or answers class 0) answer ≡ same_bits (answer_in (get_or rows pattern []) (representative t class)) base)
      → pairs_apart t (take (pattern + 1) rows) (baselines ++ base ∷ []) ≡ pairs_between (class_count t) (are_together p) + gain_at (are_together p) answers answer
  added_apart baselines pattern long h p answers answer base is many codes =
      let other = baselines ++ base ∷ [] in
      let rows' = take (pattern + 1) rows in
      let few : length rows' ≡ pattern + 1 = length-take-le (pattern + 1) rows (omega (arith, h)) in
      let beside : (q class : ℕ) → q < pattern → answers_base t rows' other q class ≡ answers_base t rows baselines q class = λ q class l. λ i.
      same_bits (answer_in (get_or-take (pattern + 1) rows q [] (let l' : q < pattern + 1 = omega (arith, l) in l') i) (representative t class)) (get_or_append_left baselines (base ∷ []) [] q (let l' : q < length baselines = omega (arith, l, long) in l') i) in
      let here : (class : ℕ) → answers_base t rows' other pattern class ≡ same_bits (answer_in (get_or rows pattern []) (representative t class)) base = λ class. λ i.
      same_bits (answer_in (get_or-take (pattern + 1) rows pattern [] (let l' : pattern < pattern + 1 = omega arith in l') i) (representative t class)) (get_or_push baselines base [] pattern long i) in
      apart_by_gain t rows' other (omega (arith, length_push baselines base, long, few)) (are_together p) (AlikeFrom t rows baselines 0 pattern)
      answers answer pattern (λ low high hl hh. together_decides is low high hl hh) many
      (λ class hc. codes class hc ∙ sym (here class))
      (λ low high hl hh a. (
        λ q from below. sym (beside q low below) ∙ (a q from (omega (arith, below, few)) ∙ beside q high below),
        a pattern (omega arith) (omega (arith, few)),
      ))
      (λ low high hl hh a q from below. elim (cases_lt q pattern) [
        | inl less ↦ beside q low less ∙ (a.0 q from less ∙ sym (beside q high less))
        | inr over ↦ let e : pattern ≡ q = omega (arith, over, below, few) in subst (λ p. answers_base t rows' other p low ≡ answers_base t rows' other p high) e a.1
      ])
