-- The descent over halves of the patterns: its partitions, and the gains that they count or repair.
use Rattle.std.proofs.Common.{◌≡◌, ◌≢◌, ◌∙◌, ℕ, ◌+◌, ◌<◌, ◌≤◌, Bool, true, false, List, [], length, get_or, set, Option, None, Some, Result, Ok, Err, refl, sym, ap, subst, arith, inl, inr}
use Rattle.std.specs.Cmp.Derive.{one_truth}
use Rattle.std.proofs.lemmas.Bool.{cases_eq, cases_lt, cases_Bool, eqb-true, eq-eqb, false_from_ne_true, both_ways}
use Rattle.std.proofs.lemmas.List.{length-set, get_or-set_same, get_or-set_other, get_or_default}
use Rattle.std.specs.Prelude.{MatchOption, IfOk}
use Rattle.std.proofs.lemmas.Option.{MatchOption-at_none, MatchOption-at_some}
use Rattle.samediff_dict.specs.declared.numbering.Candidates.{Candidates}
use Rattle.samediff_dict.specs.declared.partition.Partition.{Partition}
use Rattle.samediff_dict.specs.declared.moved.Move.{Move}
use Rattle.samediff_dict.specs.declared.descending.Descent.{Descent}
use Rattle.samediff_dict.specs.PlaceGroups.{AreGains}
use Rattle.samediff_dict.specs.Partition.{group_in, are_together, IsListed}
use Rattle.samediff_dict.specs.Moved.{AreGainsAfter, AreGainsBefore, AreMovedWithin, HasMixedOf, is_mixed, same_side}
use Rattle.samediff_dict.specs.GainTable.{AreGainsIn, KeepsRowsOutside, candidates_in, alike_at, alike_but}
use Rattle.samediff_dict.specs.Descent.{CanDescend, IsDescentStep, AreAlikeIn, AreAlikeOutside, HasAlike, IsNarrowed, is_counted, numbers_at, together_after, together_before, together_of_new, together_of_old}
use Rattle.samediff_dict.proofs.CandidateLemmas.{none as no_candidates}
use Rattle.samediff_dict.proofs.AlikeLemmas.{AreAlikeBut, but_decides, but_where, alike_itself, alike_other, alike_there, sides_stay, gains_same, none_together}

-- ---- rows of gains

module _ (patterns : List Candidates) (together : ℕ → ℕ → ℕ → Bool) where
  gains_one : (pattern : ℕ) (rows : List (List ℕ)) → AreGains (together pattern) (candidates_in patterns pattern).numbers (candidates_in patterns pattern).count (get_or rows pattern []) → AreGainsIn patterns together pattern (pattern + 1) rows
  gains_one pattern rows are = record {
    each = λ q from below.
        let e : pattern ≡ q = omega (arith, from, below) in
        subst (λ k. AreGains (together k) (candidates_in patterns k).numbers (candidates_in patterns k).count (get_or rows k [])) e are;
  }

  pub gains_part : {first end : ℕ} {rows : List (List ℕ)} (from to : ℕ) → first ≤ from → to ≤ end → AreGainsIn patterns together first end rows → AreGainsIn patterns together from to rows
  gains_part from to low high are = record { each = λ q over below. are.each q (omega (arith, low, over)) (omega (arith, high, below)) }

  row_kept : (q : ℕ) (old new : List (List ℕ)) → get_or new q [] ≡ get_or old q [] → AreGains (together q) (candidates_in patterns q).numbers (candidates_in patterns q).count (get_or old q [])
      → AreGains (together q) (candidates_in patterns q).numbers (candidates_in patterns q).count (get_or new q [])
  row_kept q old new same are = subst (λ (row : List ℕ). AreGains (together q) (candidates_in patterns q).numbers (candidates_in patterns q).count row) (sym same) are

  pub gains_behind : {first end from to : ℕ} {old new : List (List ℕ)} → to ≤ first → KeepsRowsOutside from to old new → AreGainsIn patterns together first end old → AreGainsIn patterns together first end new
  gains_behind {old = old} {new = new} high kept are = record { each = λ q over below. row_kept q old new (kept.behind q (omega (arith, over, high))) (are.each q over below) }

pub row_set : (pattern : ℕ) (rows : List (List ℕ)) (row : List ℕ) → KeepsRowsOutside pattern (pattern + 1) rows (set rows pattern row)
row_set pattern rows row = record {
  long = length-set rows pattern row;
  before = λ q h. get_or-set_other rows pattern q row [] (λ e. omega (arith, e, h));
  behind = λ q h. get_or-set_other rows pattern q row [] (λ e. omega (arith, e, h));
}

module _ (d : Descent) where
  -- ---- patterns in a range

  alike_join : (first mid end low high : ℕ) → AreAlikeIn d first mid low high → AreAlikeIn d mid end low high → AreAlikeIn d first end low high
  alike_join first mid end low high one two q from below ne = elim (cases_lt q mid) [ inl less ↦ one q from less ne | inr over ↦ two q over below ne ]

  alike_part : (first end from to low high : ℕ) → first ≤ from → to ≤ end → AreAlikeIn d first end low high → AreAlikeIn d from to low high
  alike_part first end from to low high less more alike q over below ne = alike q (omega (arith, less, over)) (omega (arith, more, below)) ne

  pub itself : (first end low high : ℕ) → low ≡ high → AreAlikeIn d first end low high
  itself first end low high e q from below ne = subst (λ k. alike_at d.patterns.now d.chosen.now q low k ≡ true) e (alike_itself d.patterns.now d.chosen.now q low)

  -- ---- partitions

  pub narrowed_more : {first end : ℕ} {whole part rest : Partition} (mid : ℕ) → first ≤ mid → mid ≤ end → IsNarrowed d first mid whole part → IsNarrowed d mid end part rest → IsNarrowed d first end whole rest
  narrowed_more {first} {end} mid low_mid mid_high one two = record {
    listed = two.listed;
    within = λ low high hl hh e.
        let b = two.within low high hl hh e in
        let a = one.within low high hl hh b.0 in (a.0, alike_join first mid end low high a.1 b.1);
    counted = λ low high hl hh both so.
        two.counted low high hl hh (
          one.counted low high hl hh (both.0, alike_part first end first mid low high (omega arith) mid_high both.1) so,
          alike_part first end mid end low high low_mid (omega arith) both.1,
        ) so;
  }

  pub narrowed_empty : {first end : ℕ} {whole part : Partition} (mid : ℕ) → mid ≤ end → IsNarrowed d first mid whole part → length part.classes.items ≡ 0 → IsNarrowed d first end whole part
  narrowed_empty {first} {end} {whole} {part} mid mid_high is empty = record {
    listed = is.listed;
    within = λ low high hl hh e. elim (cases_eq low high) [
      | inl same ↦ (ap (group_in whole) same, itself first end low high same)
      | inr ne ↦ absurd (both_ways (are_together part low high) (none_together is.listed empty low high ne) (eq-eqb (group_in part low) (group_in part high) e))
    ];
    counted = λ low high hl hh both so. is.counted low high hl hh (both.0, alike_part first end first mid low high (omega arith) mid_high both.1) so;
  }

  pub left_alike : {first end : ℕ} {part rest : Partition} (mid : ℕ) → first ≤ mid → mid ≤ end → end ≤ length d.patterns.now → HasAlike d first end part → IsNarrowed d mid end part rest → HasAlike d first mid rest
  left_alike {first} {end} mid low_mid mid_high within has is =
      let n = length d.patterns.now in
      record {
        listed = is.listed;
        within = λ low high hl hh e.
            let b = is.within low high hl hh e in
            let a = has.within low high hl hh b.0 in (a.0, alike_join mid end n low high b.1 a.1);
        counted = λ low high hl hh both so.
            is.counted low high hl hh (
              has.counted low high hl hh (both.0, alike_part mid n end n low high mid_high (omega arith) both.1) so,
              alike_part mid n mid end low high (omega arith) within both.1,
            ) so;
      }

  pub right_alike : {first end : ℕ} {part rest : Partition} (mid : ℕ) → first ≤ mid → mid ≤ end → HasAlike d first end part → IsNarrowed d first mid part rest → HasAlike d mid end rest
  right_alike {first} {end} mid low_mid mid_high has is = record {
    listed = is.listed;
    within = λ low high hl hh e.
        let b = is.within low high hl hh e in
        let a = has.within low high hl hh b.0 in (alike_join 0 first mid low high a.0 b.1, a.1);
    counted = λ low high hl hh both so.
        is.counted low high hl hh (
          has.counted low high hl hh (alike_part 0 mid 0 first low high (omega arith) low_mid both.0, both.1) so,
          alike_part 0 mid first mid low high (omega arith) (omega arith) both.0,
        ) so;
  }

  -- groups with no pair that counts are left out, and there is no other pattern
  pub mixed_narrows : {part rest : Partition} {m : ℕ} (first end : ℕ) (step : Move) → d.step ≡ Some step → ((q : ℕ) → first ≤ q → q < end → q ≡ d.out) → m ≡ d.count → IsListed m rest → HasMixedOf m part rest step.numbers.now step.old step.new
      → IsNarrowed d first end part rest
  mixed_narrows {part} {rest} first end step at none count listed has =
      let own : HasMixedOf d.count part rest step.numbers.now step.old step.new = subst (λ n. HasMixedOf n part rest step.numbers.now step.old step.new) count has in
      record {
        listed = subst (λ n. IsListed n rest) count listed;
        within = λ low high hl hh e. (own.within low high hl hh e, λ q from below ne. absurd (ne (none q from below)));
        counted = λ low high hl hh both so. own.mixed low high hl hh both.0 (sym (ap (λ o. is_counted o low high) at) ∙ so);
      }

  -- ---- pairs that are not counted

  -- if two classes are not together in the partition, the replacement changes nothing for them
  module _ (can : CanDescend d) {part : Partition} (first end pattern : ℕ) (has : HasAlike d first end part) (from : first ≤ pattern) (below : pattern < end) (within : end ≤ length d.patterns.now)
      (low high : ℕ) (hl : low < d.count) (hh : high < d.count) (apart : are_together part low high ≡ false) where
    not_alike : is_counted d.step low high ≡ true → AreAlikeOutside d first end low high → ⊥
    not_alike so alike = both_ways (are_together part low high) apart (eq-eqb (group_in part low) (group_in part high) (has.counted low high hl hh alike so))

    alike_outside : AreAlikeBut d.patterns.now d.chosen.now pattern low high → AreAlikeOutside d first end low high
    alike_outside alike = (
      λ q h less ne. alike q (omega (arith, less, from, below, within, can.one_chosen)) (λ e. omega (arith, e, less, from)),
      λ q more h ne. alike q (omega (arith, h, can.one_chosen)) (λ e. omega (arith, e, more, below)),
    )

    -- also by the new number
    new_outside : (new : ℕ) → AreAlikeBut d.patterns.now (set d.chosen.now d.out new) pattern low high → AreAlikeOutside d first end low high
    new_outside new alike =
        let long = length-set d.chosen.now d.out new in (
          λ q h less ne. sym (alike_other d.patterns.now d.chosen.now d.out new q low high ne) ∙ alike q (omega (arith, less, from, below, within, can.one_chosen, long)) (λ e. omega (arith, e, less, from)),
          λ q more h ne. sym (alike_other d.patterns.now d.chosen.now d.out new q low high ne) ∙ alike q (omega (arith, h, can.one_chosen, long)) (λ e. omega (arith, e, more, below)),
        )

    kept_at : (o : Option Move) → d.step ≡ o → together_after d.patterns.now d.chosen.now d.out o pattern low high ≡ together_before d.patterns.now d.chosen.now o pattern low high
    kept_at None e = false_from_ne_true (alike_but d.patterns.now d.chosen.now pattern low high)
        (λ so. not_alike (ap (λ o. is_counted o low high) e) (alike_outside ((but_decides d.patterns.now d.chosen.now pattern low high).0 so)))
    kept_at (Some step) e =
        let bases = d.patterns.now in
        let chosen = d.chosen.now in
        let new = set chosen d.out step.new in
        let is : IsDescentStep d step = MatchOption-at_some (d.out ≡ length d.patterns.now) (IsDescentStep d) step e can.step_is in
        elim (cases_Bool (is_mixed step.numbers.now step.old step.new low high)) [
          | inl mixed ↦
              let counted : is_counted d.step low high ≡ true = ap (λ o. is_counted o low high) e ∙ mixed in
              false_from_ne_true (alike_but bases new pattern low high) (λ so. not_alike counted (new_outside step.new ((but_decides bases new pattern low high).0 so)))
              ∙ sym (false_from_ne_true (alike_but bases chosen pattern low high) (λ so. not_alike counted (alike_outside ((but_decides bases chosen pattern low high).0 so))))
          | inr pure ↦ but_where bases chosen new pattern low high (length-set chosen d.out step.new)
              (λ q h ne. elim (cases_eq q d.out) [
                | inl same ↦
                    let sides : same_side step.numbers.now step.new low high ≡ same_side step.numbers.now step.old low high = sides_stay step.numbers.now step.old step.new low high pure in
                    let at : alike_at bases new d.out low high ≡ alike_at bases chosen d.out low high =
                    alike_there bases chosen d.out step.new low high (omega (arith, is.within, can.one_chosen))
                    ∙ (ap (λ (xs : List ℕ). same_side xs step.new low high) (sym is.numbers_are) ∙ (sides ∙ (λ i. same_side (is.numbers_are i) (is.old_is i) low high))) in
                    subst (λ k. alike_at bases new k low high ≡ alike_at bases chosen k low high) (sym same) at
                | inr other ↦ alike_other bases chosen d.out step.new q low high other
              ])
        ]

    kept : together_of_new d pattern low high ≡ together_of_old d pattern low high
    kept = kept_at d.step refl

  -- if no class is listed there is nothing to do
  pub gains_stay : (can : CanDescend d) {part : Partition} (first end : ℕ) → HasAlike d first end part → end ≤ length d.patterns.now → length part.classes.items ≡ 0 → (rows : List (List ℕ))
      → AreGainsIn d.patterns.now (together_of_old d) first end rows → AreGainsIn d.patterns.now (together_of_new d) first end rows
  gains_stay can {part} first end has within empty rows are = record {
    each = λ q from below.
        let many = can.one_each q (omega (arith, below, within)) in
        gains_same (together_of_old d q) (together_of_new d q) (are.each q from below) (λ low high l h.
        let hh : high < d.count = omega (arith, h, many) in
        sym (kept can first end q has from below within low high (omega (arith, l, hh)) hh (none_together has.listed empty low high (λ e. omega (arith, e, l)))));
  }

  -- ---- the pattern that is left out

  out_at : (can : CanDescend d) (o : Option Move) → MatchOption o (d.out ≡ length d.patterns.now) (IsDescentStep d) → d.out < length d.patterns.now → (low high : ℕ)
      → together_after d.patterns.now d.chosen.now d.out o d.out low high ≡ together_before d.patterns.now d.chosen.now o d.out low high
  out_at can None is within low high = absurd (omega (arith, is, within))
  out_at can (Some step) is within low high = but_where d.patterns.now d.chosen.now (set d.chosen.now d.out step.new) d.out low high (length-set d.chosen.now d.out step.new) (λ q h ne. alike_other d.patterns.now d.chosen.now d.out step.new q low high ne)

  pub out_stays : CanDescend d → (pattern : ℕ) → pattern ≡ d.out → pattern < length d.patterns.now → (rows : List (List ℕ)) → AreGainsIn d.patterns.now (together_of_old d) pattern (pattern + 1) rows
      → AreGainsIn d.patterns.now (together_of_new d) pattern (pattern + 1) rows
  out_stays can pattern same within rows are =
      let at : (low high : ℕ) → together_of_new d pattern low high ≡ together_of_old d pattern low high =
      λ low high. subst (λ q. together_of_new d q low high ≡ together_of_old d q low high) (sym same) (out_at can d.step can.step_is (omega (arith, same, within)) low high) in
      gains_one d.patterns.now (together_of_new d) pattern rows (gains_same (together_of_old d pattern) (together_of_new d pattern) (are.each pattern (omega arith) (omega arith)) (λ low high l h. sym (at low high)))

  -- ---- one pattern

  module _ (can : CanDescend d) {part : Partition} (pattern : ℕ) (within : pattern < length d.patterns.now) (has : HasAlike d pattern (pattern + 1) part) where
    beside : (low high : ℕ) → AreAlikeOutside d pattern (pattern + 1) low high → (q : ℕ) → q < length d.patterns.now → q ≢ pattern → q ≢ d.out → alike_at d.patterns.now d.chosen.now q low high ≡ true
    beside low high alike q h ne other = elim (cases_lt q pattern) [ inl less ↦ alike.0 q (omega arith) less other | inr over ↦ alike.1 q (omega (arith, over, ne)) h other ]

    -- all pairs are counted
    all_counted : d.step ≡ None → (low high : ℕ) → low < d.count → high < d.count → are_together part low high ≡ alike_but d.patterns.now d.chosen.now pattern low high
    all_counted none low high hl hh =
        let but = but_decides d.patterns.now d.chosen.now pattern low high in
        let out : d.out ≡ length d.patterns.now = MatchOption-at_none (d.out ≡ length d.patterns.now) (IsDescentStep d) none can.step_is in
        one_truth (are_together part low high) (alike_but d.patterns.now d.chosen.now pattern low high)
        (λ so. but.1 (λ q h ne. beside low high (has.within low high hl hh (eqb-true (group_in part low) (group_in part high) so)) q (omega (arith, h, can.one_chosen)) ne (λ e. omega (arith, e, h, out, can.one_chosen))))
        (λ so.
        let alike = but.0 so in
        eq-eqb (group_in part low) (group_in part high) (has.counted low high hl hh (
          λ q from less ne. alike q (omega (arith, less, within, can.one_chosen)) (λ e. omega (arith, e, less)),
          λ q from less ne. alike q (omega (arith, less, can.one_chosen)) (λ e. omega (arith, e, from)),
        ) (ap (λ o. is_counted o low high) none)))

    module _ (step : Move) (at : d.step ≡ Some step) (stays : pattern ≢ d.out) where
      step_is : IsDescentStep d step
      step_is = MatchOption-at_some (d.out ≡ length d.patterns.now) (IsDescentStep d) step at can.step_is

      -- two classes of one group are together exactly if they are on the same side at the pattern that is left out
      by_out : (chosen : List ℕ) → length chosen ≡ length d.patterns.now → ((q low high : ℕ) → q ≢ d.out → alike_at d.patterns.now chosen q low high ≡ alike_at d.patterns.now d.chosen.now q low high)
          → (low high : ℕ) → low < d.count → high < d.count → are_together part low high ≡ true → alike_but d.patterns.now chosen pattern low high ≡ alike_at d.patterns.now chosen d.out low high
      by_out chosen long same low high hl hh so =
          let but = but_decides d.patterns.now chosen pattern low high in
          let alike = has.within low high hl hh (eqb-true (group_in part low) (group_in part high) so) in
          one_truth (alike_but d.patterns.now chosen pattern low high) (alike_at d.patterns.now chosen d.out low high)
          (λ yes. but.0 yes d.out (omega (arith, step_is.within, long)) (λ e. stays (sym e)))
          (λ yes. but.1 (λ q h ne. elim (cases_eq q d.out) [
            | inl e ↦ subst (λ k. alike_at d.patterns.now chosen k low high ≡ true) (sym e) yes
            | inr other ↦ same q low high other ∙ beside low high alike q (omega (arith, h, long)) ne other
          ]))

      are_moved : AreMovedWithin d.count part step.numbers.now step.old step.new (alike_but d.patterns.now d.chosen.now pattern) (alike_but d.patterns.now (set d.chosen.now d.out step.new) pattern)
      are_moved =
          let new = set d.chosen.now d.out step.new in
          let long = length-set d.chosen.now d.out step.new in
          record {
            was = λ low high l h so.
                by_out d.chosen.now can.one_chosen (λ q i j ne. refl) low high (omega (arith, l, h)) h so ∙ sym (λ i. same_side (step_is.numbers_are i) (step_is.old_is i) low high);
            is = λ low high l h so.
                by_out new (long ∙ can.one_chosen) (λ q i j ne. alike_other d.patterns.now d.chosen.now d.out step.new q i j ne) low high (omega (arith, l, h)) h so
                ∙ (alike_there d.patterns.now d.chosen.now d.out step.new low high (omega (arith, step_is.within, can.one_chosen)) ∙ ap (λ (xs : List ℕ). same_side xs step.new low high) (sym step_is.numbers_are));
            others = λ low high l h apart.
                let same = kept can pattern (pattern + 1) pattern has (omega arith) (omega arith) (omega (arith, within)) low high (omega (arith, l, h)) h apart in
                sym (ap (λ o. together_after d.patterns.now d.chosen.now d.out o pattern low high) at) ∙ (same ∙ ap (λ o. together_before d.patterns.now d.chosen.now o pattern low high) at);
          }

  -- the row of one pattern, as counted
  pub row_counted : CanDescend d → {part : Partition} (pattern : ℕ) → pattern < length d.patterns.now → HasAlike d pattern (pattern + 1) part → d.step ≡ None → (numbers gains : List ℕ) (any : Candidates) (rows new : List (List ℕ))
      → numbers ≡ numbers_at d pattern → AreGains (are_together part) numbers (get_or d.patterns.now pattern any).count gains → pattern < length rows → new ≡ set rows pattern gains
      → AreGainsIn d.patterns.now (together_of_new d) pattern (pattern + 1) new
  row_counted can {part} pattern within has none numbers gains any rows new are counted inside changed =
      let own : get_or d.patterns.now pattern any ≡ candidates_in d.patterns.now pattern = get_or_default d.patterns.now pattern any no_candidates within in
      let row : get_or new pattern [] ≡ gains = ap (λ (xs : List (List ℕ)). get_or xs pattern []) changed ∙ get_or-set_same rows pattern gains [] inside in
      let here : AreGains (are_together part) (numbers_at d pattern) (candidates_in d.patterns.now pattern).count (get_or new pattern []) =
      subst (λ (xs : List ℕ). AreGains (are_together part) (numbers_at d pattern) (candidates_in d.patterns.now pattern).count xs) (sym row)
      (subst (λ (c : Candidates). AreGains (are_together part) (numbers_at d pattern) c.count gains) own (subst (λ (xs : List ℕ). AreGains (are_together part) xs (get_or d.patterns.now pattern any).count gains) are counted)) in
      let many = can.one_each pattern within in
      gains_one d.patterns.now (together_of_new d) pattern new
      (gains_same (are_together part) (together_of_new d pattern) here
      (λ low high l h.
      let hh : high < d.count = omega (arith, h, many) in
      all_counted can pattern within has none low high (omega (arith, l, hh)) hh ∙ sym (ap (λ o. together_after d.patterns.now d.chosen.now d.out o pattern low high) none)))

  -- as repaired
  module _ (can : CanDescend d) {part : Partition} (pattern : ℕ) (within : pattern < length d.patterns.now) (has : HasAlike d pattern (pattern + 1) part) (step : Move) (at : d.step ≡ Some step) (stays : pattern ≢ d.out)
      (numbers : List ℕ) (are : numbers ≡ numbers_at d pattern) (rows : List (List ℕ)) (gains : AreGainsIn d.patterns.now (together_of_old d) pattern (pattern + 1) rows) where
    many : length numbers ≡ d.count
    many = ap length are ∙ can.one_each pattern within

    moved : AreMovedWithin (length numbers) part step.numbers.now step.old step.new (alike_but d.patterns.now d.chosen.now pattern) (alike_but d.patterns.now (set d.chosen.now d.out step.new) pattern)
    moved = subst (λ n. AreMovedWithin n part step.numbers.now step.old step.new (alike_but d.patterns.now d.chosen.now pattern) (alike_but d.patterns.now (set d.chosen.now d.out step.new) pattern)) (sym many) (are_moved can pattern within has step at stays)

    row_was : AreGains (together_of_old d pattern) (numbers_at d pattern) (candidates_in d.patterns.now pattern).count (get_or rows pattern [])
    row_was = gains.each pattern (omega arith) (omega arith)

    was : AreGains (alike_but d.patterns.now d.chosen.now pattern) numbers (length (get_or rows pattern [])) (get_or rows pattern [])
    was =
        subst (λ n. AreGains (alike_but d.patterns.now d.chosen.now pattern) numbers n (get_or rows pattern [])) (sym row_was.count_is)
        (subst (λ (xs : List ℕ). AreGains (alike_but d.patterns.now d.chosen.now pattern) xs (candidates_in d.patterns.now pattern).count (get_or rows pattern [])) (sym are)
        (subst (λ o. AreGains (together_before d.patterns.now d.chosen.now o pattern) (numbers_at d pattern) (candidates_in d.patterns.now pattern).count (get_or rows pattern [])) at row_was))

    pub row_before : AreGainsBefore part step.numbers.now step.old step.new numbers (get_or rows pattern [])
    row_before = record {
      before = alike_but d.patterns.now d.chosen.now pattern;
      after = alike_but d.patterns.now (set d.chosen.now d.out step.new) pattern;
      moved = moved;
      are = was;
    }

    pub row_repaired : (new : List (List ℕ)) → AreGainsAfter part step.numbers.now step.old step.new numbers (get_or rows pattern []) (get_or new pattern []) → AreGainsIn d.patterns.now (together_of_new d) pattern (pattern + 1) new
    row_repaired new repaired =
        let now : AreGains (alike_but d.patterns.now (set d.chosen.now d.out step.new) pattern) numbers (length (get_or rows pattern [])) (get_or new pattern []) =
        repaired (alike_but d.patterns.now d.chosen.now pattern) (alike_but d.patterns.now (set d.chosen.now d.out step.new) pattern) moved was in
        gains_one d.patterns.now (together_of_new d) pattern new
        (subst (λ o. AreGains (together_after d.patterns.now d.chosen.now d.out o pattern) (numbers_at d pattern) (candidates_in d.patterns.now pattern).count (get_or new pattern [])) (sym at)
        (subst (λ n. AreGains (alike_but d.patterns.now (set d.chosen.now d.out step.new) pattern) (numbers_at d pattern) n (get_or new pattern [])) row_was.count_is
        (subst (λ (xs : List ℕ). AreGains (alike_but d.patterns.now (set d.chosen.now d.out step.new) pattern) xs (length (get_or rows pattern [])) (get_or new pattern [])) are now)))

-- two facts of one result give a third
pub if_ok_both : {X Y : Type 0} (r : Result X Y) (P Q R : X → Type 0) → ((x : X) → P x → Q x → R x) → IfOk r P → IfOk r Q → IfOk r R
if_ok_both (Ok x) P Q R both p q = both x p q
if_ok_both (Err e) P Q R both p q = q
