-- The gains of all candidates together: how many others of its group answer otherwise than a place.
use Rattle.std.proofs.Common.{◌≡◌, ◌∙◌, ℕ, ◌+◌, ◌<◌, ◌≤◌, Bool, true, false, not, cond, eqb, ◌&&◌, List, length, get_or, slice_index, set, refl, sym, ap, subst, arith, inl, inr}
use Rattle.std.proofs.lemmas.Bool.{cases_eq, eqb-true, eq-eqb, ne_eqb, and_parts, and_from}
use Rattle.std.proofs.lemmas.List.{get_or-set_same, get_or-set_other}
use Rattle.std.specs.Cmp.Derive.{one_truth}
use Rattle.samediff_dict.specs.PlaceGroups.{AreGroups, InBoth, IsTallyOf, AreGains, IsFirstMost, gain_at, in_one, size_to, tells_apart}
use Rattle.samediff_dict.proofs.PairLemmas.{sum_to, sum_to_more, sum_to_where, sum_to_both, sum_to-few, sum_by-range, one_if, one_if-one, pairs_are, others_of, gain_by_place}

pub size_is : (group_of : List ℕ) (n group : ℕ) → size_to group_of n group ≡ sum_to (λ place. one_if (eqb (get_or group_of place 0) group)) n
size_is group_of n group = sum_by-range (λ place. one_if (eqb (get_or group_of place 0) group)) n

split : (g k c : Bool) → c ≡ (g && k) → one_if g ≡ one_if c + one_if (g && not k)
split true true c e = subst (λ x. 1 ≡ one_if x + 0) (sym e) refl
split true false c e = subst (λ x. 1 ≡ one_if x + 1) (sym e) refl
split false k c e = subst (λ x. 0 ≡ one_if x + 0) (sym e) refl

module _ (groups answers cells : List ℕ) (count cell_count : ℕ) (sizes alike : List ℕ) (together cell_together : ℕ)
    (is : AreGroups (length answers) (InBoth groups answers) cells cell_count) (long : length answers ≡ length groups)
    (all : IsTallyOf groups count sizes together) (parts : IsTallyOf cells cell_count alike cell_together) where
  abbrev n : ℕ
  n = length answers

  same_cell : (other place : ℕ) → other < length answers → place < length answers
      → eqb (get_or cells other 0) (get_or cells place 0) ≡ (eqb (get_or groups other 0) (get_or groups place 0) && eqb (get_or answers other 0) (get_or answers place 0))
  same_cell other place ho hc =
      let g = eqb (get_or groups other 0) (get_or groups place 0) in
      let k = eqb (get_or answers other 0) (get_or answers place 0) in
      one_truth (eqb (get_or cells other 0) (get_or cells place 0)) (g && k)
      (λ so. let both = is.together_are other place ho hc (eqb-true (get_or cells other 0) (get_or cells place 0) so) in and_from g k (eq-eqb (get_or groups other 0) (get_or groups place 0) both.0) (eq-eqb (get_or answers other 0) (get_or answers place 0) both.1))
      (λ so. let both = and_parts g k so in eq-eqb (get_or cells other 0) (get_or cells place 0) (is.same other place ho hc (eqb-true (get_or groups other 0) (get_or groups place 0) both.0, eqb-true (get_or answers other 0) (get_or answers place 0) both.1)))

  pub size_split : (place : ℕ) → place < length answers → get_or groups place 0 < count
      → get_or sizes (get_or groups place 0) 0 ≡ get_or alike (get_or cells place 0) 0 + others_of groups answers (length answers) place
  size_split place h known =
      let g : ℕ → Bool = λ other. eqb (get_or groups other 0) (get_or groups place 0) in
      let k : ℕ → Bool = λ other. eqb (get_or answers other 0) (get_or answers place 0) in
      let c : ℕ → Bool = λ other. eqb (get_or cells other 0) (get_or cells place 0) in
      let whole : get_or sizes (get_or groups place 0) 0 ≡ sum_to (λ other. one_if (g other)) (length answers) =
      all.sizes_are (get_or groups place 0) known ∙ (size_is groups (length groups) (get_or groups place 0) ∙ ap (sum_to (λ other. one_if (g other))) (sym long)) in
      let part : get_or alike (get_or cells place 0) 0 ≡ sum_to (λ other. one_if (c other)) (length answers) =
      parts.sizes_are (get_or cells place 0) (is.within place (omega (arith, h, is.one_each))) ∙ (size_is cells (length cells) (get_or cells place 0) ∙ ap (sum_to (λ other. one_if (c other))) is.one_each) in
      whole
      ∙ (sum_to_where (λ other. one_if (g other)) (λ other. one_if (c other) + one_if (g other && not (k other))) (length answers) (λ other ho. split (g other) (k other) (c other) (same_cell other place ho h))
      ∙ (sum_to_both (λ other. one_if (c other)) (λ other. one_if (g other && not (k other))) (length answers)
      ∙ ap (λ s. s + others_of groups answers (length answers) place) (sym part)))

pub others-few : (groups answers : List ℕ) (n place : ℕ) → others_of groups answers n place ≤ n
others-few groups answers n place =
    let f : ℕ → ℕ = λ other. one_if (eqb (get_or groups other 0) (get_or groups place 0) && not (eqb (get_or answers other 0) (get_or answers place 0))) in
    omega (arith, sum_to-few f 1 n (λ other h. one_if-one (eqb (get_or groups other 0) (get_or groups place 0) && not (eqb (get_or answers other 0) (get_or answers place 0)))))

-- ---- place by place

-- what the first places add to a candidate
abbrev pub gain_to : List ℕ → List ℕ → ℕ → ℕ → ℕ
gain_to groups answers done answer = sum_to (λ place. cond (eqb (get_or answers place 0) answer) (others_of groups answers (length answers) place) 0) done

pub gain_all : (groups answers : List ℕ) (answer : ℕ) → gain_to groups answers (length answers) answer ≡ gain_at (in_one groups) answers answer
unfolding gain_at
gain_all groups answers answer = gain_by_place groups answers (length answers) answer ∙ sym (pairs_are (length answers) (tells_apart (in_one groups) answers answer))

module _ (groups answers gains : List ℕ) (candidates place others : ℕ) (places : length gains ≡ candidates) (known : get_or answers place 0 < candidates)
    (is : others ≡ others_of groups answers (length answers) place) where
  pub gains_more : ((answer : ℕ) → answer < candidates → get_or gains answer 0 ≡ gain_to groups answers place answer) → (sum : ℕ) → sum ≡ get_or gains (get_or answers place 0) 0 + others
      → (answer : ℕ) → answer < candidates → get_or (set gains (get_or answers place 0) sum) answer 0 ≡ gain_to groups answers (place + 1) answer
  gains_more so_far sum added answer h =
      let it = get_or answers place 0 in
      let term : ℕ → ℕ = λ c. cond (eqb (get_or answers c 0) answer) (others_of groups answers (length answers) c) 0 in
      let more : gain_to groups answers (place + 1) answer ≡ gain_to groups answers place answer + term place = sum_to_more term place in
      elim (cases_eq answer it) [
        | inl e ↦
            let so : term place ≡ others = ap (λ b. cond b (others_of groups answers (length answers) place) 0) (eq-eqb it answer (sym e)) ∙ sym is in
            ap (λ a. get_or (set gains it sum) a 0) e ∙ (get_or-set_same gains it sum 0 (omega (arith, places, known)) ∙ (added ∙ (ap (λ a. get_or gains a 0 + others) (sym e) ∙ omega (arith, so_far answer h, more, so))))
        | inr ne ↦
            let not_so : term place ≡ 0 = ap (λ b. cond b (others_of groups answers (length answers) place) 0) (ne_eqb it answer (λ e. ne (sym e))) in
            get_or-set_other gains it answer sum 0 ne ∙ omega (arith, so_far answer h, more, not_so)
      ]

  pub gains_bound : (limit step : ℕ) → others ≤ step → ((answer : ℕ) → answer < candidates → get_or gains answer 0 ≤ limit) → (sum : ℕ) → sum ≡ get_or gains (get_or answers place 0) 0 + others
      → (answer : ℕ) → answer < candidates → get_or (set gains (get_or answers place 0) sum) answer 0 ≤ limit + step
  gains_bound limit step few bound sum added answer h =
      let it = get_or answers place 0 in
      elim (cases_eq answer it) [
        | inl e ↦
            let here : get_or (set gains it sum) answer 0 ≡ sum = ap (λ a. get_or (set gains it sum) a 0) e ∙ get_or-set_same gains it sum 0 (omega (arith, places, known)) in
            omega (arith, here, added, few, bound it known)
        | inr ne ↦ omega (arith, get_or-set_other gains it answer sum 0 ne, bound answer h)
      ]

-- ---- the best by its gain

pub gains_where : {together other : ℕ → ℕ → Bool} {answers own gains : List ℕ} {candidates : ℕ} → AreGains together own candidates gains → ((answer : ℕ) → gain_at together own answer ≡ gain_at other answers answer) → AreGains other answers candidates gains
gains_where are same = record { count_is = are.count_is; each = λ answer h. are.each answer h ∙ same answer }

module _ (together : ℕ → ℕ → Bool) (answers gains items : List ℕ) (candidates : ℕ) (are : AreGains together answers candidates gains) (same : items ≡ gains) where
  item_is : (answer : ℕ) → answer < candidates → get_or items answer 0 ≡ gain_at together answers answer
  item_is answer h = ap (λ (xs : List ℕ). get_or xs answer 0) same ∙ are.each answer h

  pub long_is : length items ≡ candidates
  long_is = ap length same ∙ are.count_is

  pub most_is : (best : ℕ) → IsFirstMost (slice_index items) (length items) best → IsFirstMost (gain_at together answers) candidates best
  most_is best is =
      let h : best < candidates = omega (arith, is.within, long_is) in
      record {
        within = h;
        most = λ other ho. omega (arith, is.most other (omega (arith, ho, long_is)), item_is other ho, item_is best h);
        first = λ other less. omega (arith, is.first other less, item_is other (omega (arith, less, h)), item_is best h);
      }
