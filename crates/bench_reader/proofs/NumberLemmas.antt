-- The first word that repeats a number, and the first that isn't marked.
use Rattle.std.proofs.Common.{◌≡◌, ◌≢◌, ◌∙◌, ℕ, zero, suc, ◌+◌, ◌<◌, inl, inr, Bool, true, false, not, List, [], ◌∷◌, ◌++◌, length, get_or, take, drop, refl, sym, ap, arith, length-take, get_or-take}
use Rattle.std.specs.Prelude.{map, filter_map, flat_map, find, All, AllPairs, Contains, ◌==◌, Option, None, Some, option_map, slice_index_or}
use Rattle.std.specs.List.{enumerate_from}
use Rattle.std.specs.Option.{option_or}
use Rattle.std.proofs.lemmas.List.{take_more, take-append-drop, append-nil, map-append, length-map, get_or-map}
use Rattle.std.proofs.lemmas.List.Elements.{All-nil, All-cons, All-head, All-tail, All-map, All-weaker}
use Rattle.std.proofs.lemmas.List.Folds.{find-append, list_any_at}
use Rattle.std.proofs.lemmas.Grind.{flat_map-append}
use Rattle.std.proofs.lemmas.Bool.{cases_Bool, eq-eqb, eqb-true, not-false, or_cases}
use Rattle.net_model.proofs.Copies.{later}
use Rattle.net_model.proofs.Listed.{All-flat_map}
use Rattle.net_model.proofs.Elements.{true_false}
use Rattle.bench_reader.specs.declared.statement.Word.{Word}
use Rattle.bench_reader.specs.declared.statement.Statement.{Statement}
use Rattle.bench_reader.specs.declared.statement.Statement.TheVariants.{Input, Output, Drive, Flop}
use Rattle.bench_reader.specs.Driven.{driven_numbers, used_numbers}
use Rattle.bench_reader.specs.Drivers.{driven_word, used_words, has_number, repeated_word, second_driver, missing_driver, AreNumbered, AreMarksOfWords, unmarked}

-- ---- the first word that repeats a number

find_first : (p : ℕ × Word → Bool) (words : List Word) (n i : ℕ) (d : Word) → i < length words → ((j : ℕ) → j < i → p (n + j, get_or words j d) ≡ false) → p (n + i, get_or words i d) ≡ true
    → option_map (λ x. x.1) (find p (enumerate_from n words)) ≡ Some (get_or words i d)
find_first p [] n i d h miss on = absurd (omega arith)
find_first p (w ∷ ws) n zero d h miss on =
    let e : n + 0 ≡ n = omega arith in
    let here : p (n, w) ≡ true = ap (λ k. p (k, w)) (sym e) ∙ on in
    rw here refl
find_first p (w ∷ ws) n (suc i) d h miss on =
    let e : n + 0 ≡ n = omega arith in
    let here : p (n, w) ≡ false = ap (λ k. p (k, w)) (sym e) ∙ miss 0 (omega arith) in
    let at : (j : ℕ) → n + 1 + j ≡ n + suc j = λ j. omega arith in
    rw here (find_first p ws (n + 1) i d (omega arith) (λ j lt. ap (λ k. p (k, get_or ws j d)) (at j) ∙ miss (suc j) (omega arith)) (ap (λ k. p (k, get_or ws i d)) (at i) ∙ on))

pub find_none : {X : Type 0} (p : ℕ × X → Bool) (words : List X) (n : ℕ) (d : X) → ((j : ℕ) → j < length words → p (n + j, get_or words j d) ≡ false) → option_map (λ x. x.1) (find p (enumerate_from n words)) ≡ None
find_none p [] n d miss = refl
find_none p (w ∷ ws) n d miss =
    let e : n + 0 ≡ n = omega arith in
    let here : p (n, w) ≡ false = ap (λ k. p (k, w)) (sym e) ∙ miss 0 (omega arith) in
    let at : (j : ℕ) → n + 1 + j ≡ n + suc j = λ j. omega arith in
    rw here (find_none p ws (n + 1) d (λ j lt. ap (λ k. p (k, get_or ws j d)) (at j) ∙ miss (suc j) (omega arith)))

module _ (words : List Word) (d : Word) where
  repeats : ℕ × Word → Bool
  repeats x = has_number (take x.0 words) x.1.name

  repeats_at : (j : ℕ) (b : Bool) → has_number (take j words) (get_or words j d).name ≡ b → repeats (0 + j, get_or words j d) ≡ b
  unfolding repeats
  repeats_at j b is = let e : 0 + j ≡ j = omega arith in rw e is

  pub repeated_is : (i : ℕ) → i < length words → ((k : ℕ) → k < i → has_number (take k words) (get_or words k d).name ≡ false) → has_number (take i words) (get_or words i d).name ≡ true
      → repeated_word words ≡ Some (get_or words i d)
  unfolding repeated_word repeats
  repeated_is i h fresh again = find_first repeats words 0 i d h (λ j lt. repeats_at j false (fresh j lt)) (let e : 0 + i ≡ i = omega arith in ap (λ k. repeats (k, get_or words i d)) e ∙ again)

  pub repeated_none : ((k : ℕ) → k < length words → has_number (take k words) (get_or words k d).name ≡ false) → repeated_word words ≡ None
  unfolding repeated_word repeats
  repeated_none fresh = find_none repeats words 0 d (λ j lt. repeats_at j false (fresh j lt))

-- ---- the first use that isn't marked

module _ (marks : List Bool) (ss : List Statement) (i : ℕ) (s : Statement) (h : i < length ss) (is : s ≡ get_or ss i s) (before : unmarked marks (flat_map used_words (take i ss)) ≡ None) where
  uses_more : flat_map used_words (take (i + 1) ss) ≡ flat_map used_words (take i ss) ++ used_words s
  uses_more =
      ap (flat_map used_words) (take_more ss i s h) ∙ flat_map-append used_words (take i ss) (get_or ss i s ∷ [])
      ∙ ap (λ xs. flat_map used_words (take i ss) ++ xs) (append-nil (used_words (get_or ss i s))) ∙ ap (λ t. flat_map used_words (take i ss) ++ used_words t) (sym is)

  pub uses_so_far : unmarked marks (flat_map used_words (take (i + 1) ss)) ≡ unmarked marks (used_words s)
  uses_so_far =
      ap (unmarked marks) uses_more ∙ find-append (λ word. not (slice_index_or marks word.name false)) (flat_map used_words (take i ss)) (used_words s) ∙ ap (λ o. option_or o (unmarked marks (used_words s))) before

  pub first_use : (w : Word) → unmarked marks (used_words s) ≡ Some w → unmarked marks (flat_map used_words ss) ≡ Some w
  first_use w found =
      let parts : flat_map used_words ss ≡ flat_map used_words (take (i + 1) ss) ++ flat_map used_words (drop (i + 1) ss) =
      ap (flat_map used_words) (sym (take-append-drop (i + 1) ss)) ∙ flat_map-append used_words (take (i + 1) ss) (drop (i + 1) ss) in
      ap (unmarked marks) parts ∙ find-append (λ word. not (slice_index_or marks word.name false)) (flat_map used_words (take (i + 1) ss)) (flat_map used_words (drop (i + 1) ss))
      ∙ ap (λ o. option_or o (unmarked marks (flat_map used_words (drop (i + 1) ss)))) (uses_so_far ∙ found)

-- ---- marks say which names are driven

same_finds : (p q : Word → Bool) (words : List Word) → All (λ word. p word ≡ q word) words → find p words ≡ find q words
same_finds p q [] same = refl
same_finds p q (w ∷ ws) same =
    rw (All-head (λ (word : Word). p word ≡ q word) w ws same, same_finds p q ws (All-tail (λ (word : Word). p word ≡ q word) w ws same)) refl

pub unmarked_is : (count : ℕ) (ss : List Statement) (marks : List Bool) → AreNumbered count ss → AreMarksOfWords count (filter_map driven_word ss) marks → unmarked marks (flat_map used_words ss) ≡ missing_driver ss
unfolding missing_driver
unmarked_is count ss marks numbered are =
    same_finds (λ word. not (slice_index_or marks word.name false)) (λ word. not (has_number (filter_map driven_word ss) word.name)) (flat_map used_words ss)
    (All-weaker (λ (word : Word). word.name < count) (λ (word : Word). not (slice_index_or marks word.name false) ≡ not (has_number (filter_map driven_word ss) word.name)) (λ word h. ap not (are.each word.name h)) (flat_map used_words ss)
    (All-flat_map (λ (word : Word). word.name < count) used_words ss numbered.used))

-- ---- if nothing is wrong with the drivers

missed_first : (p : ℕ × Word → Bool) (w : Word) (ws : List Word) (n : ℕ) → option_map (λ x. x.1) (find p (enumerate_from n (w ∷ ws))) ≡ None
    → (p (n, w) ≡ false) × (option_map (λ x. x.1) (find p (enumerate_from (n + 1) ws)) ≡ None)
missed_first p w ws n none =
    elim (cases_Bool (p (n, w))) [
      | inl on ↦ absurd (let e : ◌≡◌ {A = Option Word} (Some w) None = (let here : option_map (λ x. x.1) (find p (enumerate_from n (w ∷ ws))) ≡ Some w = rw on refl in sym here ∙ none) in cc)
      | inr off ↦ (off, (let here : option_map (λ x. x.1) (find p (enumerate_from n (w ∷ ws))) ≡ option_map (λ x. x.1) (find p (enumerate_from (n + 1) ws)) = rw off refl in sym here ∙ none))
    ]

missed : (p : ℕ × Word → Bool) (words : List Word) (n : ℕ) (d : Word) → option_map (λ x. x.1) (find p (enumerate_from n words)) ≡ None → (j : ℕ) → j < length words → p (n + j, get_or words j d) ≡ false
missed p [] n d none j h = absurd (omega arith)
missed p (w ∷ ws) n d none zero h = let e : n + 0 ≡ n = omega arith in rw e (missed_first p w ws n none).0
missed p (w ∷ ws) n d none (suc j) h = let e : n + suc j ≡ n + 1 + j = omega arith in rw e (missed p ws (n + 1) d (missed_first p w ws n none).1 j (omega (arith, h)))

-- words have different numbers if none repeats a number
pub numbers_differ : (words : List Word) → repeated_word words ≡ None → AllPairs (λ a b. a ≢ b) (map (λ word. word.name) words)
unfolding repeated_word
numbers_differ words none i j x lt h same =
    let below : j < length words = omega (arith, h, length-map words (λ (word : Word). word.name)) in
    let d : Word = record { name = x; place = record { byte = 0; line = 0 } } in
    let name : (k : ℕ) → k < length words → get_or (map (λ (word : Word). word.name) words) k x ≡ (get_or words k d).name = λ k le. get_or-map (λ (word : Word). word.name) words k d x le in
    let fresh : has_number (take (0 + j) words) (get_or words j d).name ≡ false = missed (λ x. has_number (take x.0 words) x.1.name) words 0 d none j below in
    let e : 0 + j ≡ j = omega arith in
    let fresh_at : has_number (take j words) (get_or words j d).name ≡ false = ap (λ k. has_number (take k words) (get_or words j d).name) (sym e) ∙ fresh in
    let within : i < length (take j words) = omega (arith, length-take j words, below, lt) in
    let here : get_or (take j words) i d ≡ get_or words i d = get_or-take j words i d lt in
    let equal : (get_or (take j words) i d).name ≡ (get_or words j d).name = ap (λ (w : Word). w.name) here ∙ (sym (name i (omega (arith, lt, below))) ∙ (same ∙ name j below)) in
    let again : has_number (take j words) (get_or words j d).name ≡ true = list_any_at (λ word. word.name == (get_or words j d).name) (take j words) i d within (eq-eqb (get_or (take j words) i d).name (get_or words j d).name equal) in
    true_false (has_number (take j words) (get_or words j d).name) again fresh_at

numbers_driven : (ss : List Statement) → driven_numbers ss ≡ map (λ word. word.name) (filter_map driven_word ss)
numbers_driven [] = refl
numbers_driven (Input n ∷ ss) = ap (λ ns. n.name ∷ ns) (numbers_driven ss)
numbers_driven (Output n ∷ ss) = numbers_driven ss
numbers_driven (Drive n kind pins ∷ ss) = ap (λ ns. n.name ∷ ns) (numbers_driven ss)
numbers_driven (Flop q d ∷ ss) = ap (λ ns. q.name ∷ ns) (numbers_driven ss)

numbers_used : (ss : List Statement) → flat_map used_numbers ss ≡ map (λ word. word.name) (flat_map used_words ss)
numbers_used [] = refl
numbers_used (Input n ∷ ss) = numbers_used ss
numbers_used (Output n ∷ ss) = ap (λ ns. n.name ∷ ns) (numbers_used ss)
numbers_used (Drive n kind pins ∷ ss) = ap (λ ns. map (λ (word : Word). word.name) pins ++ ns) (numbers_used ss) ∙ sym (map-append (λ (word : Word). word.name) pins (flat_map used_words ss))
numbers_used (Flop q d ∷ ss) = ap (λ ns. d.name ∷ ns) (numbers_used ss)

has_named : (words : List Word) (number : ℕ) → has_number words number ≡ true → Contains (map (λ word. word.name) words) number
has_named [] number t = absurd (let e : ◌≡◌ {A = Bool} false true = t in cc)
has_named (w ∷ ws) number t =
    elim (or_cases (w.name == number) (has_number ws number) t) [
      | inl here ↦ (0, omega arith, eqb-true w.name number here)
      | inr there ↦ later w.name (map (λ word. word.name) ws) number (has_named ws number there)
    ]

-- if nothing is found, each fails the test
none_passes : (p : Word → Bool) (words : List Word) → find p words ≡ None → All (λ word. p word ≡ false) words
none_passes p [] none = All-nil (λ (word : Word). p word ≡ false)
none_passes p (w ∷ ws) none =
    elim (cases_Bool (p w)) [
      | inl on ↦ absurd (let e : ◌≡◌ {A = Option Word} (Some w) None = (let here : find p (w ∷ ws) ≡ Some w = rw on refl in sym here ∙ none) in cc)
      | inr off ↦ All-cons (λ (word : Word). p word ≡ false) w ws off (none_passes p ws (let here : find p (w ∷ ws) ≡ find p ws = rw off refl in sym here ∙ none))
    ]

module _ (ss : List Statement) where
  pub drivers_once : second_driver ss ≡ None → AllPairs (λ a b. a ≢ b) (driven_numbers ss)
  drivers_once none = rw (numbers_driven ss) (numbers_differ (filter_map driven_word ss) none)

  pub drivers_named : (count : ℕ) → AreNumbered count ss → All (λ number. number < count) (driven_numbers ss)
  drivers_named count are = rw (numbers_driven ss) (All-map (λ number. number < count) (λ (word : Word). word.name) (filter_map driven_word ss) are.driven)

  pub uses_driven : missing_driver ss ≡ None → All (Contains (driven_numbers ss)) (flat_map used_numbers ss)
  unfolding missing_driver
  uses_driven none =
      let each = none_passes (λ word. not (has_number (filter_map driven_word ss) word.name)) (flat_map used_words ss) none in
      rw (numbers_used ss, numbers_driven ss)
      (All-map (Contains (map (λ word. word.name) (filter_map driven_word ss))) (λ (word : Word). word.name) (flat_map used_words ss)
      (All-weaker (λ (word : Word). not (has_number (filter_map driven_word ss) word.name) ≡ false) (λ (word : Word). Contains (map (λ w. w.name) (filter_map driven_word ss)) word.name)
      (λ word off. has_named (filter_map driven_word ss) word.name (not-false (has_number (filter_map driven_word ss) word.name) off)) (flat_map used_words ss) each))
