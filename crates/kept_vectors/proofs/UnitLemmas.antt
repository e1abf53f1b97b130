-- The numbers of units, along their chains.
use Rattle.std.proofs.Common.{◌≡◌, ◌∙◌, ℕ, zero, suc, ◌+◌, ◌<◌, ◌≤◌, List, [], ◌∷◌, ◌++◌, length, get_or, set, sym, ap, subst, arith, inl, inr}
use Rattle.std.specs.Prelude.{All, Contains}
use Rattle.std.proofs.lemmas.Bool.{cases_eq, cases_lt}
use Rattle.std.proofs.lemmas.List.{get_or-set_same, get_or-set_other}
use Rattle.std.proofs.lemmas.List.Elements.{Contains-append_left, Contains-append_right, Contains-append_cases, Contains-push_cases}
use Rattle.kept_vectors.specs.Units.{IsNextWith, AreChains, AreOfUnits}

-- ---- one number more, from the last back

module _ (roots firsts nexts : List ℕ) (k : ℕ) (inside : k < length roots) (firsts_are : length firsts ≡ length roots) (nexts_are : length nexts ≡ length roots) (within : All (λ root. root < length roots) roots) (are : AreChains roots (k + 1) firsts nexts) where
  abbrev root_here : ℕ
  root_here = get_or roots k 0

  root_inside : get_or roots k 0 < length roots
  root_inside = within k 0 inside

  first_more : (root : ℕ) → root < length roots → IsNextWith roots root k (get_or (set firsts (get_or roots k 0) k) root 0)
  first_more root h = elim (cases_eq root (get_or roots k 0)) [
    | inl same ↦
        let at : get_or (set firsts (get_or roots k 0) k) root 0 ≡ k = ap (λ (r : ℕ). get_or (set firsts (get_or roots k 0) k) r 0) same ∙ get_or-set_same firsts (get_or roots k 0) k 0 (omega (arith, root_inside, firsts_are)) in
        rw at (record { low = omega arith; within = omega (arith, inside); has = λ less. sym same; none = λ n low less. absurd (omega (arith, low, less)) })
    | inr ne ↦
        let old = are.first root h in
        rw (get_or-set_other firsts (get_or roots k 0) root k 0 ne) (record {
          low = omega (arith, old.low);
          within = old.within;
          has = old.has;
          none = λ n low less e. elim (cases_eq n k) [
            | inl is ↦ ne (sym e ∙ ap (λ (j : ℕ). get_or roots j 0) is)
            | inr other ↦ old.none n (omega (arith, low, other)) less e
          ];
        })
  ]

  next_more : (n : ℕ) → k ≤ n → n < length roots → IsNextWith roots (get_or roots n 0) (n + 1) (get_or (set nexts k (get_or firsts (get_or roots k 0) 0)) n 0)
  next_more n low h = elim (cases_eq n k) [
    | inl is ↦
        let at : get_or (set nexts k (get_or firsts (get_or roots k 0) 0)) k 0 ≡ get_or firsts (get_or roots k 0) 0 = get_or-set_same nexts k (get_or firsts (get_or roots k 0) 0) 0 (omega (arith, inside, nexts_are)) in
        let here : IsNextWith roots (get_or roots k 0) (k + 1) (get_or (set nexts k (get_or firsts (get_or roots k 0) 0)) k 0) = rw at (are.first (get_or roots k 0) root_inside) in
        subst (λ (j : ℕ). IsNextWith roots (get_or roots j 0) (j + 1) (get_or (set nexts k (get_or firsts (get_or roots k 0) 0)) j 0)) (sym is) here
    | inr ne ↦ rw (get_or-set_other nexts k n (get_or firsts (get_or roots k 0) 0) 0 ne) (are.next n (omega (arith, low, ne)) h)
  ]

  pub chains_more : AreChains roots k (set firsts (get_or roots k 0) k) (set nexts k (get_or firsts (get_or roots k 0) 0))
  chains_more = record { first = first_more; next = next_more }

-- after the last number there is none
pub chains_none : (roots firsts nexts : List ℕ) → ((root : ℕ) → root < length roots → get_or firsts root 0 ≡ length roots) → AreChains roots (length roots) firsts nexts
chains_none roots firsts nexts ends = record {
  first = λ root h. let is = ends root h in record { low = omega (arith, is); within = omega (arith, is); has = λ less. absurd (omega (arith, is, less)); none = λ n low less. absurd (omega (arith, is, low, less)) };
  next = λ n low h. absurd (omega (arith, low, h));
}

-- ---- along a chain

-- The place is a number with this root, or the count of all numbers, and the numbers with this root before it are
-- listed.
pub record AreListedBelow (roots : List ℕ) (root at : ℕ) (numbers : List ℕ) : Type 0 where
  pub has : at < length roots → get_or roots at 0 ≡ root
  pub all : (n : ℕ) → n < at → n < length roots → get_or roots n 0 ≡ root → Contains numbers n
  pub only : (n : ℕ) → Contains numbers n → (n < length roots) × (get_or roots n 0 ≡ root)

pub listed_first : (roots : List ℕ) (root at : ℕ) → IsNextWith roots root 0 at → AreListedBelow roots root at []
listed_first roots root at is = record { has = is.has; all = λ n less h e. absurd (is.none n (omega arith) less e); only = λ n (k, h, e). absurd (omega (arith, h)) }

pub listed_more : (roots : List ℕ) (root at next : ℕ) (numbers : List ℕ) → at < length roots → AreListedBelow roots root at numbers → IsNextWith roots (get_or roots at 0) (at + 1) next → AreListedBelow roots root next (numbers ++ at ∷ [])
listed_more roots root at next numbers inside so_far is =
    let own : get_or roots at 0 ≡ root = so_far.has inside in
    record {
      has = λ h. is.has h ∙ own;
      all = λ n less h e. elim (cases_lt n at) [
        | inl low ↦ Contains-append_left numbers (at ∷ []) n (so_far.all n low h e)
        | inr over ↦ elim (cases_eq n at) [
          | inl same ↦ Contains-append_right numbers (at ∷ []) n (0, omega arith, sym same)
          | inr ne ↦ absurd (is.none n (omega (arith, over, ne)) less (e ∙ sym own))
        ]
      ];
      only = λ n has. elim (Contains-push_cases numbers at n has) [
        | inl before ↦ so_far.only n before
        | inr same ↦ subst (λ (m : ℕ). (m < length roots) × (get_or roots m 0 ≡ root)) same (inside, own)
      ];
    }

pub listed_all : (roots : List ℕ) (root at : ℕ) (numbers : List ℕ) → length roots ≤ at → AreListedBelow roots root at numbers → AreOfUnits roots (root ∷ []) numbers
listed_all roots root at numbers over so_far = record {
  all = all_by;
  only = λ n has. let one = so_far.only n has in (one.0, (0, omega arith, sym one.1));
}
  where
    only_one : (x y : ℕ) → Contains (x ∷ []) y → x ≡ y
    only_one x y (zero, h, is) = is
    only_one x y (suc k, h, is) = absurd (omega (arith, h))

    all_by : (n : ℕ) → n < length roots → Contains (root ∷ []) (get_or roots n 0) → Contains numbers n
    all_by n h has = so_far.all n (omega (arith, h, over)) h (sym (only_one root (get_or roots n 0) has))

-- ---- of several units

pub of_none : (roots : List ℕ) → AreOfUnits roots [] []
of_none roots = record { all = λ n h (k, less, e). absurd (omega (arith, less)); only = λ n (k, less, e). absurd (omega (arith, less)) }

pub of_more : (roots units more numbers others : List ℕ) → AreOfUnits roots units numbers → AreOfUnits roots more others → AreOfUnits roots (units ++ more) (numbers ++ others)
of_more roots units more numbers others one two = record {
  all = λ n h has. elim (Contains-append_cases units more (get_or roots n 0) has) [
    | inl first ↦ Contains-append_left numbers others n (one.all n h first)
    | inr second ↦ Contains-append_right numbers others n (two.all n h second)
  ];
  only = λ n has. elim (Contains-append_cases numbers others n has) [
    | inl first ↦ let is = one.only n first in (is.0, Contains-append_left units more (get_or roots n 0) is.1)
    | inr second ↦ let is = two.only n second in (is.0, Contains-append_right units more (get_or roots n 0) is.1)
  ];
}
