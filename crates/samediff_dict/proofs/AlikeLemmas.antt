-- Classes that are alike at each pattern except one, and gains by the same pairs.
use Rattle.std.proofs.Common.{◌≡◌, ◌≢◌, ◌∙◌, ℕ, ◌+◌, ◌<◌, Bool, true, false, not, eqb, ◌&&◌, ◌||◌, List, length, get_or, set, refl, sym, ap, subst, arith, inl, inr, Decides}
use Rattle.std.specs.Bool.{beq}
use Rattle.std.specs.List.{range_with_len}
use Rattle.std.specs.Cmp.Derive.{one_truth}
use Rattle.std.proofs.lemmas.Bool.{cases_eq, eqb-true, eq-eqb, and_parts, or_cases, or_left, or_right, false_from_ne_true}
use Rattle.std.proofs.lemmas.List.{get_or-set_same, get_or-set_other}
use Rattle.std.proofs.lemmas.List.FromFn.{length-range_with_len, get_or-range_with_len}
use Rattle.std.proofs.lemmas.List.Sums.{AllPass-from_list_all, list_all-from_AllPass}
use Rattle.net_model.proofs.Listed.{All-range_with_len}
use Rattle.samediff_dict.specs.declared.numbering.Candidates.{Candidates}
use Rattle.samediff_dict.specs.declared.partition.Partition.{Partition}
use Rattle.samediff_dict.specs.PlaceGroups.{AreGains, gain_at, tells_apart}
use Rattle.samediff_dict.specs.Partition.{group_in, are_together, IsListed}
use Rattle.samediff_dict.specs.Moved.{same_side, is_mixed}
use Rattle.samediff_dict.specs.GainTable.{candidates_in, alike_at, alike_but}
use Rattle.samediff_dict.proofs.PairLemmas.{one_if, sum_to, sum_to-zero, pairs_are}
use Rattle.samediff_dict.proofs.GainLemmas.{gains_where}
use Rattle.samediff_dict.proofs.ToldLemmas.{beq_same}
use Rattle.samediff_dict.proofs.ListedLemmas.{placed}
use Rattle.samediff_dict.proofs.MovedLemmas.{gain_same}

-- ---- alike at each pattern except one

module _ (patterns : List Candidates) where
  -- Two classes are alike at each pattern except one.
  abbrev pub AreAlikeBut : List ℕ → ℕ → ℕ → ℕ → Type 0
  AreAlikeBut chosen pattern low high = (other : ℕ) → other < length chosen → other ≢ pattern → alike_at patterns chosen other low high ≡ true

  pub but_decides : (chosen : List ℕ) (pattern low high : ℕ) → Decides (alike_but patterns chosen pattern low high) (AreAlikeBut chosen pattern low high)
  unfolding alike_but
  but_decides chosen pattern low high =
      let test : ℕ → Bool = λ other. eqb other pattern || alike_at patterns chosen other low high in
      let n = length chosen in (
        λ so other h ne.
            let at : 0 + other ≡ other = omega arith in
            let own : test other ≡ true = subst (λ k. test k ≡ true) (get_or-range_with_len 0 n other 0 h ∙ at) (AllPass-from_list_all test (range_with_len 0 n) so other 0 (omega (arith, h, length-range_with_len 0 n))) in
            elim (or_cases (eqb other pattern) (alike_at patterns chosen other low high) own) [ inl e ↦ absurd (ne (eqb-true other pattern e)) | inr there ↦ there ],
        λ alike. list_all-from_AllPass test (range_with_len 0 n)
            (All-range_with_len (λ other. test other ≡ true) 0 n
            (λ other from below. elim (cases_eq other pattern) [
              | inl e ↦ or_left (eqb other pattern) (alike_at patterns chosen other low high) (eq-eqb other pattern e)
              | inr ne ↦ or_right (eqb other pattern) (alike_at patterns chosen other low high) (alike other (omega (arith, below)) ne)
            ])),
      )

  pub alike_itself : (chosen : List ℕ) (pattern class : ℕ) → alike_at patterns chosen pattern class class ≡ true
  alike_itself chosen pattern class =
      let it = eqb (get_or (candidates_in patterns pattern).numbers class 0) (get_or chosen pattern 0) in
      beq_same it it refl

  -- other chosen numbers by which two classes are alike at the same patterns
  pub but_where : (chosen other : List ℕ) (pattern low high : ℕ) → length other ≡ length chosen
      → ((q : ℕ) → q < length chosen → q ≢ pattern → alike_at patterns other q low high ≡ alike_at patterns chosen q low high) → alike_but patterns other pattern low high ≡ alike_but patterns chosen pattern low high
  but_where chosen other pattern low high long same =
      let new = but_decides other pattern low high in
      let old = but_decides chosen pattern low high in
      one_truth (alike_but patterns other pattern low high) (alike_but patterns chosen pattern low high)
      (λ so. old.1 (λ q h ne. sym (same q h ne) ∙ new.0 so q (omega (arith, h, long)) ne))
      (λ so. new.1 (λ q h ne. let inside : q < length chosen = omega (arith, h, long) in same q inside ne ∙ old.0 so q inside ne))

  -- a replaced number changes nothing at the other patterns
  pub alike_other : (chosen : List ℕ) (out new pattern low high : ℕ) → pattern ≢ out → alike_at patterns (set chosen out new) pattern low high ≡ alike_at patterns chosen pattern low high
  alike_other chosen out new pattern low high ne = ap (λ number. same_side (candidates_in patterns pattern).numbers number low high) (get_or-set_other chosen out pattern new 0 ne)

  pub alike_there : (chosen : List ℕ) (out new low high : ℕ) → out < length chosen → alike_at patterns (set chosen out new) out low high ≡ same_side (candidates_in patterns out).numbers new low high
  alike_there chosen out new low high h = ap (λ number. same_side (candidates_in patterns out).numbers number low high) (get_or-set_same chosen out new 0 h)

-- ---- a number in place of another

stay : (a b c d : Bool) → (a && b) ≡ false → (c && d) ≡ false → not (beq (a || b) (c || d)) ≡ false → beq a c ≡ beq b d
stay true true c d h k e = absurd (cc)
stay a b true true h k e = absurd (cc)
stay true false true false h k e = refl
stay true false false true h k e = refl
stay true false false false h k e = absurd (cc)
stay false true true false h k e = refl
stay false true false true h k e = refl
stay false true false false h k e = absurd (cc)
stay false false true false h k e = absurd (cc)
stay false false false true h k e = absurd (cc)
stay false false false false h k e = refl

not_both : (number old new : ℕ) → old ≢ new → (eqb number old && eqb number new) ≡ false
not_both number old new ne = false_from_ne_true (eqb number old && eqb number new) (λ so. let both = and_parts (eqb number old) (eqb number new) so in ne (sym (eqb-true number old both.0) ∙ eqb-true number new both.1))

-- two classes that are both moved, or both not, are on the same side after as before
pub sides_stay : (numbers : List ℕ) (old new low high : ℕ) → is_mixed numbers old new low high ≡ false → same_side numbers new low high ≡ same_side numbers old low high
sides_stay numbers old new low high e = elim (cases_eq old new) [
  | inl same ↦ ap (λ number. same_side numbers number low high) (sym same)
  | inr ne ↦
      let l = get_or numbers low 0 in
      let h = get_or numbers high 0 in
      sym (stay (eqb l old) (eqb l new) (eqb h old) (eqb h new) (not_both l old new ne) (not_both h old new ne) e)
]

-- ---- gains by the same pairs

pub gains_same : (together other : ℕ → ℕ → Bool) {answers gains : List ℕ} {candidates : ℕ} → AreGains together answers candidates gains → ((low high : ℕ) → low < high → high < length answers → together low high ≡ other low high)
    → AreGains other answers candidates gains
gains_same together other {answers} are same = gains_where are (λ answer. gain_same together other answers answer same)

pub gain_nothing : (answers : List ℕ) (answer : ℕ) → gain_at (λ _ _. false) answers answer ≡ 0
unfolding gain_at
gain_nothing answers answer =
    let test = tells_apart (λ (_ _ : ℕ). false) answers answer in
    pairs_are (length answers) test ∙ sum_to-zero (λ high. sum_to (λ low. one_if (test low high)) high) (length answers) (λ high h. sum_to-zero (λ low. one_if (test low high)) high (λ low l. refl))

-- no two classes are together if none is listed
pub none_together : {n : ℕ} {p : Partition} → IsListed n p → length p.classes.items ≡ 0 → (low high : ℕ) → low ≢ high → are_together p low high ≡ false
none_together {n} {p} listed empty low high ne =
    false_from_ne_true (are_together p low high) (λ so. let at = placed listed low high ne (eqb-true (group_in p low) (group_in p high) so) in omega (arith, at.low_within, empty))
