-- The words of statements, by the names of the phrases from which they are read.
use Rattle.std.proofs.Common.{◌≡◌, ◌∙◌, ℕ, zero, suc, ◌+◌, ◌<◌, inl, inr, Bool, true, false, not, List, [], ◌∷◌, ◌++◌, length, get_or, take, drop, refl, sym, subst, ap, arith}
use Rattle.std.specs.Prelude.{map, filter, filter_map, flat_map, find, All, Contains, IsTrue, option_map, nat_lt, ◌==◌}
use Rattle.std.specs.List.{enumerate_from, position_or_len}
use Rattle.std.specs.Str.{bytes_eq}
use Rattle.std.proofs.lemmas.Bool.{cases_Bool, cases_lt, eq-eqb, eqb-true, lt-ltb}
use Rattle.std.proofs.lemmas.List.{get_or_default, take-map, map-append, take-append-drop}
use Rattle.std.proofs.lemmas.List.Elements.{All-nil, All-cons, All-head, All-tail, Contains-append_left, Contains-append_right, Contains-append_cases}
use Rattle.std.proofs.lemmas.List.Sums.{passes_at_first, fails_before_first}
use Rattle.std.proofs.lemmas.Slice.Eq.{bytes_eq-Decides}
use Rattle.net_model.proofs.Copies.{later}
use Rattle.net_model.proofs.Elements.{true_false}
use Rattle.text_fields.specs.Fields.{Text}
use Rattle.bench_reader.specs.declared.statement.Word.{Word}
use Rattle.bench_reader.specs.Tokens.{Token}
use Rattle.bench_reader.specs.Grammar.{Named, gate_driver, flip_flop_driver, Phrase, input_phrase, output_phrase, gate_phrase, has_right_pins, phrase_names}
use Rattle.bench_reader.specs.Reading.{distinct_names, names_of, is_among, driven_names, all_used_names, driven_twice, undriven, named_word, name_number, first_word, statement_with, ArePhrases}
use Rattle.bench_reader.specs.Drivers.{driven_word, used_words, has_number, repeated_word}
use Rattle.bench_reader.proofs.NameLemmas.{same_text}

-- ---- equal texts

same_bytes : (a b : Text) → bytes_eq a b ≡ true → a ≡ b
same_bytes a b t = (bytes_eq-Decides a b).0 t

-- ---- each name of the phrases has a number

kept_other : (text other : Text) (xs : List Text) → Contains xs other → bytes_eq text other ≡ false → Contains (filter (λ x. not (bytes_eq text x)) xs) other
kept_other text other [] (k, h, e) off = absurd (omega (arith, h))
kept_other text other (x ∷ xs) (zero, h, e) off =
    let kept : not (bytes_eq text x) ≡ true = ap (λ y. not (bytes_eq text y)) e ∙ ap not off in
    rw kept (0, omega arith, e)
kept_other text other (x ∷ xs) (suc k, h, e) off =
    let rest = kept_other text other xs (k, omega (arith, h), e) off in
    elim (cases_Bool (bytes_eq text x)) [
      | inl on ↦ rw on rest
      | inr differs ↦ rw differs (later x (filter (λ y. not (bytes_eq text y)) xs) other rest)
    ]

has_distinct : (xs : List Text) (text : Text) → Contains xs text → Contains (distinct_names xs) text
has_distinct [] text (k, h, e) = absurd (omega (arith, h))
has_distinct (x ∷ xs) text (zero, h, e) = (0, omega arith, e)
has_distinct (x ∷ xs) text (suc k, h, e) =
    elim (cases_Bool (bytes_eq x text)) [
      | inl on ↦ (0, omega arith, same_bytes x text on)
      | inr off ↦ later x (filter (λ other. not (bytes_eq x other)) (distinct_names xs)) text (kept_other x text (distinct_names xs) (has_distinct xs text (k, omega (arith, h), e)) off)
    ]

first_place : (names : List Text) (text : Text) → Contains names text → position_or_len (bytes_eq text) names < length names
first_place names text (k, h, e) =
    elim (cases_lt (position_or_len (bytes_eq text) names) (length names)) [
      | inl below ↦ below
      | inr past ↦ true_false (bytes_eq text (get_or names k text)) (ap (bytes_eq text) e ∙ same_text text) (fails_before_first (bytes_eq text) names k text (omega (arith, past, h)))
    ]

-- a text that is a name has the number of its place
pub number_is : (names : List Text) (text : Text) → Contains names text → (name_number names text < length names) × (get_or names (name_number names text) text ≡ text)
number_is names text m =
    let place = position_or_len (bytes_eq text) names in
    let h = first_place names text m in
    let t : nat_lt place (length names) ≡ true = lt-ltb place (length names) h in
    let here : get_or names place text ≡ text = sym (same_bytes text (get_or names place text) (passes_at_first (bytes_eq text) names text h)) in
    rw t (h, here)

-- two names have one number exactly if they are one text
same_number : (names : List Text) (a b : Text) → Contains names a → Contains names b → (name_number names a == name_number names b) ≡ bytes_eq a b
same_number names a b ma mb =
    let na = number_is names a ma in
    let nb = number_is names b mb in
    elim (cases_Bool (bytes_eq a b)) [
      | inl on ↦ eq-eqb (name_number names a) (name_number names b) (ap (name_number names) (same_bytes a b on)) ∙ sym on
      | inr off ↦ elim (cases_Bool (name_number names a == name_number names b)) [
        | inr differs ↦ differs ∙ sym off
        | inl on ↦
            let e = eqb-true (name_number names a) (name_number names b) on in
            let same : a ≡ b = sym na.1 ∙ (get_or_default names (name_number names a) a b na.0 ∙ (ap (λ k. get_or names k b) e ∙ nb.1)) in
            true_false (bytes_eq a b) (ap (bytes_eq a) (sym same) ∙ same_text a) off
      ]
    ]

-- ---- the words of names

module _ (text : Text) (names : List Text) where
  abbrev pub word : Named → Word
  word n = named_word text names n

  -- names that have numbers
  abbrev pub Known : List Named → Type 0
  Known ns = (n : Named) → Contains ns n → Contains names n.0

  same_among : (ns : List Named) → Known ns → (n : Named) → Contains names n.0 → has_number (map word ns) (word n).name ≡ is_among ns n.0
  same_among [] known n m = refl
  same_among (x ∷ xs) known n m =
      let here : ((word x).name == (word n).name) ≡ bytes_eq x.0 n.0 = same_number names x.0 n.0 (known x (0, omega arith, refl)) m in
      let rest = same_among xs (λ y k. known y (later x xs y k)) n m in
      rw (here, rest) refl

  find_along : (p : ℕ × Word → Bool) (q : ℕ × Named → Bool) (k : ℕ) (ns : List Named) → ((j : ℕ) (n : Named) → Contains ns n → p (j, word n) ≡ q (j, n))
      → option_map (λ x. x.1) (find p (enumerate_from k (map word ns))) ≡ option_map word (option_map (λ x. x.1) (find q (enumerate_from k ns)))
  find_along p q k [] same = refl
  find_along p q k (n ∷ ns) same =
      let rest = find_along p q (k + 1) ns (λ j x m. same j x (later n ns x m)) in
      let here = same k n (0, omega arith, refl) in
      elim (cases_Bool (q (k, n))) [
        | inl on ↦ rw (on, here ∙ on) refl
        | inr off ↦ rw (off, here ∙ off) rest
      ]

  find_same : (p : Word → Bool) (q : Named → Bool) (ns : List Named) → ((n : Named) → Contains ns n → p (word n) ≡ q n) → find p (map word ns) ≡ option_map word (find q ns)
  find_same p q [] same = refl
  find_same p q (n ∷ ns) same =
      let rest = find_same p q ns (λ x m. same x (later n ns x m)) in
      let here = same n (0, omega arith, refl) in
      elim (cases_Bool (q n)) [
        | inl on ↦ rw (on, here ∙ on) refl
        | inr off ↦ rw (off, here ∙ off) rest
      ]

  -- ---- the words of statements

  pub words_driven : (phrases : List Phrase) → filter_map driven_word (map (statement_with word) phrases) ≡ map word (driven_names phrases)
  words_driven [] = refl
  words_driven (input_phrase n ∷ ps) = ap (λ ws. word n ∷ ws) (words_driven ps)
  words_driven (output_phrase n ∷ ps) = words_driven ps
  words_driven (gate_phrase n (gate_driver kind) at pins ∷ ps) = ap (λ ws. word n ∷ ws) (words_driven ps)
  words_driven (gate_phrase n flip_flop_driver at pins ∷ ps) = ap (λ ws. word n ∷ ws) (words_driven ps)

  -- a flip-flop has one pin, so its data word is that of its names
  data_word : (n : Named) (pins : List Named) → length pins ≡ 1 → first_word word pins n ∷ [] ≡ map word pins
  data_word n [] e = absurd (omega (arith, e))
  data_word n (pin ∷ []) e = refl
  data_word n (pin ∷ other ∷ pins) e = absurd (omega (arith, e))

  pub words_used : (phrases : List Phrase) → All (λ phrase. IsTrue (has_right_pins phrase)) phrases → flat_map used_words (map (statement_with word) phrases) ≡ map word (all_used_names phrases)
  words_used [] right = refl
  words_used (input_phrase n ∷ ps) right = words_used ps (All-tail (λ (p : Phrase). IsTrue (has_right_pins p)) (input_phrase n) ps right)
  words_used (output_phrase n ∷ ps) right = ap (λ ws. word n ∷ ws) (words_used ps (All-tail (λ (p : Phrase). IsTrue (has_right_pins p)) (output_phrase n) ps right))
  words_used (gate_phrase n (gate_driver kind) at pins ∷ ps) right =
      let rest = words_used ps (All-tail (λ (p : Phrase). IsTrue (has_right_pins p)) (gate_phrase n (gate_driver kind) at pins) ps right) in
      ap (λ ws. map word pins ++ ws) rest ∙ sym (map-append word pins (all_used_names ps))
  words_used (gate_phrase n flip_flop_driver at pins ∷ ps) right =
      let rest = words_used ps (All-tail (λ (p : Phrase). IsTrue (has_right_pins p)) (gate_phrase n flip_flop_driver at pins) ps right) in
      let one : length pins ≡ 1 = eqb-true (length pins) 1 (All-head (λ (p : Phrase). IsTrue (has_right_pins p)) (gate_phrase n flip_flop_driver at pins) ps right) in
      ap (λ ws. ws ++ flat_map used_words (map (statement_with word) ps)) (data_word n pins one) ∙ ap (λ ws. map word pins ++ ws) rest ∙ sym (map-append word pins (all_used_names ps))

pub right_pins : (groups : List (List Token)) (phrases : List Phrase) → ArePhrases groups phrases → All (λ phrase. IsTrue (has_right_pins phrase)) phrases
right_pins [] [] each = All-nil (λ (p : Phrase). IsTrue (has_right_pins p))
right_pins [] (p ∷ ps) each = absurd each
right_pins (g ∷ gs) [] each = absurd each
right_pins (g ∷ gs) (p ∷ ps) each = All-cons (λ (p : Phrase). IsTrue (has_right_pins p)) p ps each.0.1 (right_pins gs ps each.1)

-- ---- the names of phrases are numbered

has_text : (ns : List Named) (n : Named) → Contains ns n → Contains (map (λ n. n.0) ns) n.0
has_text [] n (k, h, e) = absurd (omega (arith, h))
has_text (x ∷ xs) n (zero, h, e) = (0, omega arith, ap (λ (y : Named). y.0) e)
has_text (x ∷ xs) n (suc k, h, e) = later x.0 (map (λ y. y.0) xs) n.0 (has_text xs n (k, omega (arith, h), e))

driven_among : (ps : List Phrase) (n : Named) → Contains (driven_names ps) n → Contains (flat_map phrase_names ps) n
driven_among [] n (k, h, e) = absurd (omega (arith, h))
driven_among (input_phrase x ∷ ps) n (zero, h, e) = (0, omega arith, e)
driven_among (input_phrase x ∷ ps) n (suc k, h, e) = later x (flat_map phrase_names ps) n (driven_among ps n (k, omega (arith, h), e))
driven_among (output_phrase x ∷ ps) n m = later x (flat_map phrase_names ps) n (driven_among ps n m)
driven_among (gate_phrase x driver at pins ∷ ps) n (zero, h, e) = (0, omega arith, e)
driven_among (gate_phrase x driver at pins ∷ ps) n (suc k, h, e) =
    later x (pins ++ flat_map phrase_names ps) n (Contains-append_right pins (flat_map phrase_names ps) n (driven_among ps n (k, omega (arith, h), e)))

used_among : (ps : List Phrase) (n : Named) → Contains (all_used_names ps) n → Contains (flat_map phrase_names ps) n
used_among [] n (k, h, e) = absurd (omega (arith, h))
used_among (input_phrase x ∷ ps) n m = later x (flat_map phrase_names ps) n (used_among ps n m)
used_among (output_phrase x ∷ ps) n (zero, h, e) = (0, omega arith, e)
used_among (output_phrase x ∷ ps) n (suc k, h, e) = later x (flat_map phrase_names ps) n (used_among ps n (k, omega (arith, h), e))
used_among (gate_phrase x driver at pins ∷ ps) n m =
    elim (Contains-append_cases pins (all_used_names ps) n m) [
      | inl here ↦ later x (pins ++ flat_map phrase_names ps) n (Contains-append_left pins (flat_map phrase_names ps) n here)
      | inr there ↦ later x (pins ++ flat_map phrase_names ps) n (Contains-append_right pins (flat_map phrase_names ps) n (used_among ps n there))
    ]

module _ (ps : List Phrase) where
  pub named : (n : Named) → Contains (flat_map phrase_names ps) n → Contains (names_of ps) n.0
  unfolding names_of
  named n m = has_distinct (map (λ n. n.0) (flat_map phrase_names ps)) n.0 (has_text (flat_map phrase_names ps) n m)

  pub driven_known : (n : Named) → Contains (driven_names ps) n → Contains (names_of ps) n.0
  driven_known n m = named n (driven_among ps n m)

  pub used_known : (n : Named) → Contains (all_used_names ps) n → Contains (names_of ps) n.0
  used_known n m = named n (used_among ps n m)

-- ---- what is found

take_has : {X : Type 0} (xs : List X) (j : ℕ) (x : X) → Contains (take j xs) x → Contains xs x
take_has xs j x m = subst (λ ys. Contains ys x) (take-append-drop j xs) (Contains-append_left (take j xs) (drop j xs) x m)

module _ (text : Text) (ps : List Phrase) where
  pub second_is : (ws : List Word) → ws ≡ map (word text (names_of ps)) (driven_names ps) → repeated_word ws ≡ option_map (word text (names_of ps)) (driven_twice ps)
  unfolding repeated_word driven_twice
  second_is ws is =
      let names = names_of ps in
      let ns = driven_names ps in
      let same : (j : ℕ) (n : Named) → Contains ns n → has_number (take j (map (word text names) ns)) (word text names n).name ≡ is_among (take j ns) n.0 =
      λ j n m. ap (λ (us : List Word). has_number us (word text names n).name) (take-map (word text names) j ns) ∙ same_among text names (take j ns) (λ x k. driven_known ps x (take_has ns j x k)) n (driven_known ps n m) in
      rw is (find_along text names (λ x. has_number (take x.0 (map (word text names) ns)) x.1.name) (λ x. is_among (take x.0 ns) x.1.0) 0 ns same)

  pub missing_is : (ws us : List Word) → ws ≡ map (word text (names_of ps)) (driven_names ps) → us ≡ map (word text (names_of ps)) (all_used_names ps)
      → find (λ w. not (has_number ws w.name)) us ≡ option_map (word text (names_of ps)) (undriven ps)
  unfolding undriven
  missing_is ws us is used =
      let names = names_of ps in
      rw (is, used)
      (find_same text names (λ w. not (has_number (map (word text names) (driven_names ps)) w.name)) (λ n. not (is_among (driven_names ps) n.0)) (all_used_names ps)
      (λ n m. ap not (same_among text names (driven_names ps) (driven_known ps) n (used_known ps n m))))
