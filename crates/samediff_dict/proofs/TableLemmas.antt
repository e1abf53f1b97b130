-- The table of gains in the third step: what it is counted and repaired by, and the search in it.
use Rattle.std.proofs.Common.{◌≡◌, ◌∙◌, ℕ, ◌+◌, ◌<◌, ◌≤◌, Bool, true, false, eqb, List, [], length, get_or, set, replicate, map, Some, None, sym, ap, subst, arith, inl, inr, Decides, slice_index}
use Rattle.std.proofs.lemmas.Bool.{cases_lt}
use Rattle.std.proofs.lemmas.List.{get_or-map, length-map, get_or-replicate, length-replicate}
use Rattle.std.proofs.lemmas.List.FromFn.{length-map-range_with_len}
use Rattle.net_model.specs.ClassTable.{ClassTable, class_count, representative}
use Rattle.dict_rows.specs.AnswerTable.{answer_in}
use Rattle.samediff_dict.specs.declared.numbering.Candidates.{Candidates}
use Rattle.samediff_dict.specs.declared.choosing.BaselineChoice.{BaselineChoice}
use Rattle.samediff_dict.specs.Chosen.{candidates, improvement}
use Rattle.samediff_dict.specs.PlaceGroups.{AreGains, IsFirstAbove, NoneAbove, gain_at}
use Rattle.samediff_dict.specs.Numbered.{AreCandidates, AlikeFrom, answers_base, baselines_at, class_answers}
use Rattle.samediff_dict.specs.Choice.{IsChoice, IsChosen}
use Rattle.samediff_dict.specs.GainTable.{HaveGains, candidates_in, alike_at, alike_but}
use Rattle.answer_numbers.proofs.DistinctLemmas.{distinct-few}
use Rattle.samediff_dict.proofs.CandidateLemmas.{none, length-baselines, base_at, baselines_set}
use Rattle.samediff_dict.proofs.ToldLemmas.{same_beq, beq_same}
use Rattle.samediff_dict.proofs.ChoiceLemmas.{base_is}
use Rattle.samediff_dict.proofs.AlikeLemmas.{but_decides, gain_nothing}
use Rattle.samediff_dict.proofs.SearchLemmas.{NoneBefore, none_at_all, none_here, found_at}

-- ---- no pairs yet

pub no_gains : (patterns : List Candidates) → HaveGains patterns (λ _ _ _. false) (map (λ c. replicate {A = ℕ} c.count 0) patterns)
no_gains patterns =
    let zeros : Candidates → List ℕ = λ c. replicate {A = ℕ} c.count 0 in
    record {
      count_is = length-map patterns zeros;
      gains = record {
        each = λ q from below.
            let c = candidates_in patterns q in
            let row : get_or (map zeros patterns) q [] ≡ zeros c = get_or-map zeros patterns q none [] below in
            subst (λ (xs : List ℕ). AreGains (λ (_ _ : ℕ). false) c.numbers c.count xs) (sym row) (record {
              count_is = length-replicate {A = ℕ} c.count 0;
              each = λ answer h. get_or-replicate {A = ℕ} c.count answer 0 0 h ∙ sym (gain_nothing c.numbers answer);
            });
      };
    }

-- a pattern has no more candidates than there are classes
pub candidates_few : (t : ClassTable) (row : List (List Bool)) → length (candidates t row) ≤ class_count t
unfolding candidates
candidates_few t row = omega (arith, distinct-few (class_answers t row), length-map-range_with_len (λ class. answer_in row (representative t class)) 0 (class_count t))

module _ (rows : List (List (List Bool))) (c : BaselineChoice) (choice : IsChoice rows c) (chosen : List ℕ) (chosen_is : IsChosen rows c chosen) where
  known : (pattern : ℕ) → pattern < length rows → AreCandidates c.classes.now (get_or rows pattern []) (candidates_in c.patterns.now pattern)
  known pattern h = choice.numbered.each pattern none h

  -- ---- alike by numbers is alike by answers

  module _ (pattern : ℕ) (h : pattern < length rows) (low high : ℕ) (hl : low < class_count c.classes.now) (hh : high < class_count c.classes.now) where
    side : (class : ℕ) → class < class_count c.classes.now → eqb (get_or (candidates_in c.patterns.now pattern).numbers class 0) (get_or chosen pattern 0) ≡ answers_base c.classes.now rows (baselines_at c.classes.now rows chosen) pattern class
    side class hc = base_is c.classes.now rows chosen pattern (candidates_in c.patterns.now pattern) (omega (arith, h, chosen_is.one_each)) chosen_is.chosen_are (known pattern h) class hc

    abbrev is_base : ℕ → Bool
    is_base class = eqb (get_or (candidates_in c.patterns.now pattern).numbers class 0) (get_or chosen pattern 0)

    same_answers : alike_at c.patterns.now chosen pattern low high ≡ true → answers_base c.classes.now rows (baselines_at c.classes.now rows chosen) pattern low ≡ answers_base c.classes.now rows (baselines_at c.classes.now rows chosen) pattern high
    same_answers so = sym (side low hl) ∙ (same_beq (is_base low) (is_base high) so ∙ side high hh)

    same_numbers : answers_base c.classes.now rows (baselines_at c.classes.now rows chosen) pattern low ≡ answers_base c.classes.now rows (baselines_at c.classes.now rows chosen) pattern high → alike_at c.patterns.now chosen pattern low high ≡ true
    same_numbers e = beq_same (is_base low) (is_base high) (side low hl ∙ (e ∙ sym (side high hh)))

  but_alike : (pattern : ℕ) → pattern < length rows → (low high : ℕ) → low < class_count c.classes.now → high < class_count c.classes.now
      → Decides (alike_but c.patterns.now chosen pattern low high) (AlikeFrom c.classes.now rows (baselines_at c.classes.now rows chosen) 0 pattern low high × AlikeFrom c.classes.now rows (baselines_at c.classes.now rows chosen) (pattern + 1) (length rows) low high)
  but_alike pattern h low high hl hh =
      let but = but_decides c.patterns.now chosen pattern low high in
      let long = chosen_is.one_each in (
        λ so.
            let alike = but.0 so in (
              λ q from below.
                  let inside : q < length rows = omega (arith, below, h) in
                  same_answers q inside low high hl hh (alike q (omega (arith, inside, long)) (λ e. omega (arith, e, below))),
              λ q from below. same_answers q below low high hl hh (alike q (omega (arith, below, long)) (λ e. omega (arith, e, from))),
            ),
        λ both. but.1 (λ q below ne.
            let inside : q < length rows = omega (arith, below, long) in
            elim (cases_lt q pattern) [
              | inl less ↦ same_numbers q inside low high hl hh (both.0 q (omega arith) less)
              | inr over ↦ same_numbers q inside low high hl hh (both.1 q (omega (arith, over, ne)) inside)
            ]),
      )

  -- ---- the search so far

  pub search_done : (pattern : ℕ) → NoneBefore c.classes.now rows (baselines_at c.classes.now rows chosen) pattern → length chosen ≤ pattern → improvement c.classes.now rows (baselines_at c.classes.now rows chosen) ≡ None
  search_done pattern none over = none_at_all c.classes.now rows (baselines_at c.classes.now rows chosen) pattern (omega (arith, over, chosen_is.one_each)) none

  module _ (table : List (List ℕ)) (gains : HaveGains c.patterns.now (alike_but c.patterns.now chosen) table) (pattern : ℕ) (h : pattern < length chosen) (row : List ℕ) (row_is : row ≡ get_or table pattern []) where
    abbrev t : ClassTable
    t = c.classes.now

    abbrev bases : List (List Bool)
    bases = baselines_at t rows chosen

    abbrev one : Candidates
    one = candidates_in c.patterns.now pattern

    abbrev current : ℕ
    current = get_or chosen pattern 0

    abbrev gain : ℕ → ℕ
    gain = gain_at (alike_but c.patterns.now chosen pattern) one.numbers

    inside : pattern < length rows
    inside = omega (arith, h, chosen_is.one_each)

    are : AreGains (alike_but c.patterns.now chosen pattern) (candidates_in c.patterns.now pattern).numbers (candidates_in c.patterns.now pattern).count row
    are = subst (λ (xs : List ℕ). AreGains (alike_but c.patterns.now chosen pattern) one.numbers one.count xs) (sym row_is) (gains.gains.each pattern (omega arith) (omega (arith, inside, choice.numbered.count)))

    pub row_long : length row ≡ length (candidates c.classes.now (get_or rows pattern []))
    row_long = are.count_is ∙ (known pattern inside).count_is

    at : (answer : ℕ) → answer < length (candidates c.classes.now (get_or rows pattern [])) → get_or row answer 0 ≡ gain_at (alike_but c.patterns.now chosen pattern) (candidates_in c.patterns.now pattern).numbers answer
    at answer ha = are.each answer (omega (arith, ha, (known pattern inside).count_is))

    long : length (baselines_at c.classes.now rows chosen) ≡ length rows
    long = length-baselines t rows chosen ∙ chosen_is.one_each

    pub search_more : NoneBefore c.classes.now rows (baselines_at c.classes.now rows chosen) pattern → NoneAbove (slice_index row) (length row) (get_or chosen pattern 0) → NoneBefore c.classes.now rows (baselines_at c.classes.now rows chosen) (pattern + 1)
    search_more none_before none =
        none_here t rows bases long pattern inside (alike_but c.patterns.now chosen pattern) one current (but_alike pattern inside) (known pattern inside) (chosen_is.chosen_are pattern h) (base_at t rows chosen pattern h) none_before
        (λ other ho. omega (arith, none other (omega (arith, ho, row_long)), at other ho, at current (chosen_is.chosen_are pattern h)))

    pub search_found : (answer : ℕ) → NoneBefore c.classes.now rows (baselines_at c.classes.now rows chosen) pattern → IsFirstAbove (slice_index row) (length row) (get_or chosen pattern 0) answer
        → (answer < length (candidates c.classes.now (get_or rows pattern []))) × (improvement c.classes.now rows (baselines_at c.classes.now rows chosen) ≡ Some (baselines_at c.classes.now rows (set chosen pattern answer)))
    search_found answer none_before first =
        let ha : answer < length (candidates t (get_or rows pattern [])) = omega (arith, first.within, row_long) in
        let own : IsFirstAbove (gain_at (alike_but c.patterns.now chosen pattern) (candidates_in c.patterns.now pattern).numbers) (length (candidates t (get_or rows pattern []))) current answer = record {
          within = ha;
          above = omega (arith, first.above, at answer ha, at current (chosen_is.chosen_are pattern h));
          first = λ other less. omega (arith, first.first other less, at other (omega (arith, less, ha)), at current (chosen_is.chosen_are pattern h));
        } in (
          ha,
          found_at t rows bases long pattern inside (alike_but c.patterns.now chosen pattern) one current (but_alike pattern inside) (known pattern inside) (chosen_is.chosen_are pattern h) (base_at t rows chosen pattern h) answer none_before own
              ∙ ap Some (sym (baselines_set t rows chosen pattern answer h)),
        )
