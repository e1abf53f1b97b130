-- Numbers of classes, with those of one more pattern.
use Rattle.std.proofs.Common.{◌≡◌, ◌∙◌, ℕ, suc, ◌+◌, ◌<◌, ◌≤◌, ◌^◌, refl, ap, sym, subst, arith, cond, inl, inr, get_or, take, replicate}
use Rattle.std.specs.Prelude.{Bool, true, false, ◌==◌, if◌then◌else◌, List, [], ◌∷◌, ◌++◌, length, find, Option, None, Some, unwrap_or, slice_index, slice_index_or, All, ◌⊎◌}
use Rattle.std.proofs.Math.Seq.{get_or-append_seam}
use Rattle.std.proofs.lemmas.Bool.{eqb-true, ne_eqb}
use Rattle.std.proofs.lemmas.Grind.{get_or_default_zero}
use Rattle.std.proofs.lemmas.List.{get_or_append_left, get_or-append-add, get_or-replicate, length-append, length-replicate, take-append-le, take_all}
use Rattle.std.proofs.lemmas.List.Elements.{All-take}
use Rattle.adaptive_planner.specs.declared.class_numbers.ClassNumbers.{ClassNumbers}
use Rattle.adaptive_planner.specs.Numbering.{AreClassNumbers, AreOwnNumbers, AreNumbersTo, AreRowNumbers, HasPattern, AddsPattern, number_for, class_number, own_numbers, own_after, numbered_bits}
use Rattle.adaptive_planner.proofs.CountLemmas.{number_for-other, number_for-here}

-- ---- what is found

pub find_alike : (p q : ℕ → Bool) (xs : List ℕ) → All (λ x. p x ≡ q x) xs → find p xs ≡ find q xs
find_alike p q [] alike = refl
find_alike p q (x ∷ xs) alike =
    ap (λ b. cond b (Some x) (find p xs)) (alike 0 x (omega arith)) ∙ ap (λ (o : Option ℕ). cond (q x) (Some x) o) (find_alike p q xs (λ k d h. alike (suc k) d (omega (arith, h))))

pub find_nothing : (p : ℕ → Bool) (xs : List ℕ) → All (λ x. p x ≡ false) xs → find p xs ≡ None
find_nothing p [] none = refl
find_nothing p (x ∷ xs) none = ap (λ b. cond b (Some x) (find p xs)) (none 0 x (omega arith)) ∙ find_nothing p xs (λ k d h. none (suc k) d (omega (arith, h)))

found_below : (p : ℕ → Bool) (limit : ℕ) (xs : List ℕ) → 0 < limit → All (λ x. x < limit) xs → unwrap_or (find p xs) 0 < limit
found_below p limit [] some below = some
found_below p limit (x ∷ xs) some below = by_case (p x) (found_below p limit xs some (λ k d h. below (suc k) d (omega (arith, h))))
  where
    by_case : (b : Bool) → unwrap_or (find p xs) 0 < limit → unwrap_or (cond b (Some x) (find p xs)) 0 < limit
    by_case true later = below 0 x (omega arith)
    by_case false later = later

-- ---- the numbers of a class

pub own_below : (patterns : List ℕ) (limit : ℕ) (own : List ℕ) → AreOwnNumbers patterns limit own → All (λ n. n < length patterns) own
own_below patterns limit own are k d h = omega (arith, get_or_default_zero own k d h, are.known k h)

own_within : (patterns : List ℕ) (limit : ℕ) (own : List ℕ) → AreOwnNumbers patterns limit own → All (λ n. slice_index patterns n < limit) own
own_within patterns limit own are k d h = subst (λ n. slice_index patterns n < limit) (sym (get_or_default_zero own k d h)) (are.within k h)

own_wider : (patterns more : List ℕ) (limit : ℕ) (own : List ℕ) → ((n : ℕ) → n < length patterns → slice_index more n ≡ slice_index patterns n) → length patterns ≤ length more → AreOwnNumbers patterns limit own → AreOwnNumbers more (limit + 1) own
own_wider patterns more limit own same long are = record {
  some = are.some;
  known = λ k h. omega (arith, are.known k h, long);
  within = λ k h. omega (arith, same (slice_index own k) (are.known k h), are.within k h);
  once = λ k h.
      let pattern = same (slice_index own k) (are.known k h) in
      ap (λ p. find (λ n. slice_index more n == p) (take k own)) pattern
      ∙ (find_alike (λ n. slice_index more n == slice_index patterns (slice_index own k)) (λ n. slice_index patterns n == slice_index patterns (slice_index own k)) (take k own)
      (λ j d l. ap (λ p. p == slice_index patterns (slice_index own k)) (same (get_or (take k own) j d) (All-take (λ n. n < length patterns) k own (own_below patterns limit own are) j d l)))
      ∙ are.once k h);
}

last_or_below : (k n : ℕ) → k < n + 1 → (k ≡ n) ⊎ (k < n)
last_or_below k n low = grind (arith, low)

module _ (patterns : List ℕ) (limit : ℕ) (own : List ℕ) (n : ℕ) (are : AreOwnNumbers patterns limit own) (some : 0 < n) (known : n < length patterns) (within : slice_index patterns n < limit) (once : find (λ m. slice_index patterns m == slice_index patterns n) own ≡ None) where
  at_last : get_or (own ++ n ∷ []) (length own) 0 ≡ n
  at_last = get_or-append_seam own n [] 0

  at_front : (k : ℕ) → k < length own → get_or (own ++ n ∷ []) k 0 ≡ get_or own k 0
  at_front k h = get_or_append_left own (n ∷ []) 0 k h

  place : (k : ℕ) → k < length (own ++ n ∷ []) → (k ≡ length own) ⊎ (k < length own)
  place k h = last_or_below k (length own) (omega (arith, h, length-append own (n ∷ [])))

  each : (P : ℕ → Type 0) → ((k : ℕ) → k < length own → P (get_or own k 0)) → P n → (k : ℕ) → (k ≡ length own) ⊎ (k < length own) → P (get_or (own ++ n ∷ []) k 0)
  each P front last k (inl e) = subst (λ j. P (get_or (own ++ n ∷ []) j 0)) (sym e) (subst P (sym at_last) last)
  each P front last k (inr h) = subst P (sym (at_front k h)) (front k h)

  once_at : (k : ℕ) → (k ≡ length own) ⊎ (k < length own) → find (λ m. slice_index patterns m == slice_index patterns (get_or (own ++ n ∷ []) k 0)) (take k (own ++ n ∷ [])) ≡ None
  once_at k (inl e) =
      subst (λ j. find (λ m. slice_index patterns m == slice_index patterns (get_or (own ++ n ∷ []) j 0)) (take j (own ++ n ∷ [])) ≡ None) (sym e)
      (ap (λ v. find (λ m. slice_index patterns m == slice_index patterns v) (take (length own) (own ++ n ∷ []))) at_last
      ∙ (ap (find (λ m. slice_index patterns m == slice_index patterns n)) (take-append-le (length own) own (n ∷ []) (omega arith) ∙ take_all (length own) own (omega arith)) ∙ once))
  once_at k (inr h) =
      ap (λ v. find (λ m. slice_index patterns m == slice_index patterns v) (take k (own ++ n ∷ []))) (at_front k h)
      ∙ (ap (find (λ m. slice_index patterns m == slice_index patterns (get_or own k 0))) (take-append-le k own (n ∷ []) (omega (arith, h))) ∙ are.once k h)

  own_push : AreOwnNumbers patterns limit (own ++ n ∷ [])
  own_push = record {
    some = λ k h. each (λ m. 0 < m) are.some some k (place k h);
    known = λ k h. each (λ m. m < length patterns) are.known known k (place k h);
    within = λ k h. each (λ m. slice_index patterns m < limit) are.within within k (place k h);
    once = λ k h. once_at k (place k h);
  }

-- ---- one more pattern

module _ (old new : ClassNumbers) (numbers : List ℕ) (added : List (List Bool)) (are : AreClassNumbers old) (has : HasPattern numbers added old new) where
  abbrev base : ℕ
  base = length old.patterns.items

  abbrev last : ℕ
  last = length old.firsts.items

  pattern_old : (n : ℕ) → n < base → slice_index new.patterns.items n ≡ slice_index old.patterns.items n
  pattern_old n h = ap (λ (ps : List ℕ). get_or ps n 0) has.patterns ∙ get_or_append_left old.patterns.items (replicate (length added) last) 0 n h

  pattern_new : (j : ℕ) → j < length added → slice_index new.patterns.items (base + j) ≡ last
  pattern_new j h = ap (λ (ps : List ℕ). get_or ps (base + j) 0) has.patterns ∙ (get_or-append-add old.patterns.items (replicate (length added) last) j 0 ∙ get_or-replicate (length added) j last 0 h)

  longer : length new.patterns.items ≡ base + length added
  longer = ap length has.patterns ∙ (length-append old.patterns.items (replicate (length added) last) ∙ ap (λ k. base + k) (length-replicate (length added) last))

  more_firsts : length new.firsts.items ≡ last + 1
  more_firsts = ap length has.firsts ∙ length-append old.firsts.items (base ∷ [])

  more_answers : length new.answers.items ≡ base + length added
  more_answers = ap length has.answers ∙ (length-append old.answers.items added ∙ ap (λ k. k + length added) are.answers)

  first_old : (p : ℕ) → p < last → slice_index new.firsts.items p ≡ slice_index old.firsts.items p
  first_old p h = ap (λ (fs : List ℕ). get_or fs p 0) has.firsts ∙ get_or_append_left old.firsts.items (base ∷ []) 0 p h

  first_new : slice_index new.firsts.items last ≡ base
  first_new = ap (λ (fs : List ℕ). get_or fs last 0) has.firsts ∙ get_or-append_seam old.firsts.items base [] 0

  answer_old : (n : ℕ) → n < base → slice_index_or new.answers.items n [] ≡ slice_index_or old.answers.items n []
  answer_old n h = ap (λ (rows : List (List Bool)). get_or rows n []) has.answers ∙ get_or_append_left old.answers.items added [] n (omega (arith, h, are.answers))

  answer_new : (j : ℕ) → slice_index_or new.answers.items (base + j) [] ≡ slice_index_or added j []
  answer_new j =
      ap (λ (rows : List (List Bool)). get_or rows (base + j) []) has.answers
      ∙ (ap (λ k. get_or (old.answers.items ++ added) (k + j) []) (sym are.answers) ∙ get_or-append-add old.answers.items added j [])

  module _ (own : List ℕ) (own_are : AreOwnNumbers old.patterns.items last own) where
    find_as_before : (p : ℕ) → find (λ n. slice_index new.patterns.items n == p) own ≡ find (λ n. slice_index old.patterns.items n == p) own
    find_as_before p =
        find_alike (λ n. slice_index new.patterns.items n == p) (λ n. slice_index old.patterns.items n == p) own
        (λ k d h. ap (λ q. q == p) (pattern_old (get_or own k d) (own_below old.patterns.items last own own_are k d h)))

    none_here : find (λ n. slice_index new.patterns.items n == last) own ≡ None
    none_here =
        find_as_before last
        ∙ find_nothing (λ n. slice_index old.patterns.items n == last) own (λ k d h. ne_eqb (slice_index old.patterns.items (get_or own k d)) last (λ e. omega (arith, e, own_within old.patterns.items last own own_are k d h)))

    module _ (number : ℕ) (inside : number < length added) where
      own_is : (b : Bool) → number == 0 ≡ b → AreOwnNumbers new.patterns.items (last + 1) (cond b own (own ++ (base + number) ∷ []))
      own_is true e = own_wider old.patterns.items new.patterns.items last own pattern_old (omega (arith, longer)) own_are
      own_is false e =
          own_push new.patterns.items (last + 1) own (base + number) (own_wider old.patterns.items new.patterns.items last own pattern_old (omega (arith, longer)) own_are) (omega (arith, are.some)) (omega (arith, longer, inside))
          (omega (arith, pattern_new number inside))
          (ap (λ p. find (λ n. slice_index new.patterns.items n == p) own) (pattern_new number inside) ∙ none_here)

      before_by : (b : Bool) (p : ℕ) → p < last → number_for new.patterns.items p (cond b own (own ++ (base + number) ∷ [])) ≡ number_for old.patterns.items p own
      before_by true p low = ap (λ (o : Option ℕ). unwrap_or o 0) (find_as_before p)
      before_by false p low =
          number_for-other new.patterns.items p (base + number) own (λ e. omega (arith, e, pattern_new number inside, low)) ∙ ap (λ (o : Option ℕ). unwrap_or o 0) (find_as_before p)

      here_by : (b : Bool) → number_for new.patterns.items last (cond b own (own ++ (base + number) ∷ [])) ≡ cond b 0 (base + number)
      here_by true = ap (λ (o : Option ℕ). unwrap_or o 0) none_here
      here_by false = number_for-here new.patterns.items last (base + number) own (pattern_new number inside) none_here

  module _ (one_each : length numbers ≡ length old.own.items) (within : All (λ number. number < length added) numbers) where
    module _ (class : ℕ) (low : class < length old.own.items) where
      abbrev number : ℕ
      number = slice_index numbers class

      inside : number < length added
      inside = within class 0 (omega (arith, low, one_each))

      own_new : own_numbers new class ≡ own_after base number (own_numbers old class)
      own_new = has.own.more class (omega (arith, low, one_each))

      own_are_new : AreOwnNumbers new.patterns.items (last + 1) (own_numbers new class)
      own_are_new = subst (AreOwnNumbers new.patterns.items (last + 1)) (sym own_new) (own_is (own_numbers old class) (are.own class low) number inside (number == 0) refl)

      number_before : (p : ℕ) → p < last → class_number new p class ≡ class_number old p class
      number_before p h = ap (number_for new.patterns.items p) own_new ∙ before_by (own_numbers old class) (are.own class low) number inside (number == 0) p h

      number_here : class_number new last class ≡ (if number == 0 then 0 else base + number)
      number_here = ap (number_for new.patterns.items last) own_new ∙ here_by (own_numbers old class) (are.own class low) number inside (number == 0)

      number_low : (p : ℕ) → class_number old p class < base
      number_low p = found_below (λ n. slice_index old.patterns.items n == p) base (own_numbers old class) are.some (own_below old.patterns.items last (own_numbers old class) (are.own class low))

      bits_by : (p n : ℕ) (b : Bool) → p < last → n < base → slice_index_or new.answers.items (cond b (slice_index new.firsts.items p) n) [] ≡ slice_index_or old.answers.items (cond b (slice_index old.firsts.items p) n) []
      bits_by p n true low_p low_n = ap (λ k. slice_index_or new.answers.items k []) (first_old p low_p) ∙ answer_old (slice_index old.firsts.items p) (omega (arith, are.firsts p low_p, are.answers))
      bits_by p n false low_p low_n = answer_old n low_n

      bits_before : (p : ℕ) → p < last → numbered_bits new p (class_number new p class) ≡ numbered_bits old p (class_number old p class)
      bits_before p h = ap (numbered_bits new p) (number_before p h) ∙ bits_by p (class_number old p class) (class_number old p class == 0) h (number_low p)

      here_bits : (b : Bool) → number == 0 ≡ b → numbered_bits new last (cond b 0 (base + number)) ≡ slice_index_or added number []
      here_bits true e =
          ap (λ k. slice_index_or new.answers.items k []) (first_new ∙ (let same : base ≡ base + 0 = omega arith in same)) ∙ (answer_new 0 ∙ ap (λ k. slice_index_or added k []) (sym (eqb-true number 0 e)))
      here_bits false e =
          ap (λ b. slice_index_or new.answers.items (cond b (slice_index new.firsts.items last) (base + number)) []) (ne_eqb (base + number) 0 (λ z. omega (arith, z, are.some))) ∙ answer_new number

      bits_here : numbered_bits new last (class_number new last class) ≡ slice_index_or added number []
      bits_here = ap (numbered_bits new last) number_here ∙ here_bits (number == 0) refl

    module _ (few : base + length added < 2 ^ 32) (few_patterns : last + 1 < 2 ^ 32) (some : 0 < length numbers) where
      numbers_new : AreClassNumbers new
      numbers_new = record {
        some = omega (arith, longer, are.some);
        answers = more_answers ∙ sym longer;
        firsts = λ p h. first_low p (last_or_below p last (omega (arith, h, more_firsts)));
        few_patterns = omega (arith, more_firsts, few_patterns);
        few_numbers = omega (arith, longer, few);
        few_classes = omega (arith, has.own.count, are.few_classes);
        own = λ class h. subst (λ k. AreOwnNumbers new.patterns.items k (own_numbers new class)) (sym more_firsts) (own_are_new class (omega (arith, h, has.own.count)));
      }
        where
          first_low : (p : ℕ) → (p ≡ last) ⊎ (p < last) → slice_index new.firsts.items p < length new.answers.items
          first_low p (inl e) = let inside_first : 0 < length added = omega (arith, inside 0 (omega (arith, some, one_each))) in omega (arith, ap (slice_index new.firsts.items) e, first_new, more_answers, inside_first)
          first_low p (inr h) = omega (arith, first_old p h, are.firsts p h, are.answers, more_answers)

      module _ (answer : ℕ → ℕ → List Bool) (count : ℕ) (to : AreNumbersTo answer last count old) (rows : AreRowNumbers (answer last) count numbers added) where
        bits_at : (p class : ℕ) → (p ≡ last) ⊎ (p < last) → class < count → numbered_bits new p (class_number new p class) ≡ answer p class
        bits_at p class (inl e) h = subst (λ q. numbered_bits new q (class_number new q class) ≡ answer q class) (sym e) (bits_here class (omega (arith, h, to.classes)) ∙ rows.own class h)
        bits_at p class (inr l) h = bits_before class (omega (arith, h, to.classes)) p l ∙ to.bits p class l h

        same_at : (p one other : ℕ) → (p ≡ last) ⊎ (p < last) → one < count → other < count → answer p one ≡ answer p other → class_number new p one ≡ class_number new p other
        same_at p one other (inl e) h g alike =
            let number_same : slice_index numbers one ≡ slice_index numbers other = rows.same one other h g (subst (λ q. answer q one ≡ answer q other) e alike) in
            subst (λ q. class_number new q one ≡ class_number new q other) (sym e)
            (number_here one (omega (arith, h, to.classes)) ∙ (ap (λ k. if k == 0 then 0 else base + k) number_same ∙ sym (number_here other (omega (arith, g, to.classes)))))
        same_at p one other (inr l) h g alike =
            number_before one (omega (arith, h, to.classes)) p l ∙ (to.same p one other l h g alike ∙ sym (number_before other (omega (arith, g, to.classes)) p l))

        numbers_to : AreNumbersTo answer (last + 1) count new
        numbers_to = record {
          patterns = more_firsts;
          classes = has.own.count ∙ to.classes;
          bits = λ p class h g. bits_at p class (last_or_below p last h) g;
          same = λ p one other h g i alike. same_at p one other (last_or_below p last h) g i alike;
        }

      pub adds_pattern : AddsPattern numbers added old new
      adds_pattern = record { are = numbers_new; count = more_firsts; classes = has.own.count; to = numbers_to }

-- ---- the same answers

pub numbers_alike : (f g : ℕ → ℕ → List Bool) (patterns count : ℕ) (c : ClassNumbers) → ((p class : ℕ) → p < patterns → class < count → f p class ≡ g p class) → AreNumbersTo f patterns count c → AreNumbersTo g patterns count c
numbers_alike f g patterns count c same are = record {
  patterns = are.patterns;
  classes = are.classes;
  bits = λ p class h l. are.bits p class h l ∙ same p class h l;
  same = λ p one other h l m alike. are.same p one other h l m (same p one h l ∙ (alike ∙ sym (same p other h m)));
}
