-- The names of lines: the driven names, each once.
use Rattle.std.proofs.Common.{◌≡◌, ◌≢◌, ◌∙◌, ℕ, zero, suc, ◌+◌, ◌<◌, ◌≤◌, inl, inr, true, false, List, [], ◌∷◌, ◌++◌, length, get_or, eqb, refl, sym, ap, arith}
use Rattle.std.specs.Prelude.{map, filter_map, All, AllPairs, Contains, nat_lt, ◌==◌}
use Rattle.std.specs.List.{position_or_len}
use Rattle.std.proofs.lemmas.Bool.{cases_eq, cases_lt, eq-eqb, eqb-true, ne_eqb, lt-ltb}
use Rattle.std.proofs.lemmas.List.{get_or_default}
use Rattle.std.proofs.lemmas.List.Elements.{All-from_get_or, All-contains}
use Rattle.std.proofs.lemmas.List.Sums.{sum_by-cons, sum_by-append, passes_at_first, fails_before_first}
use Rattle.net_model.specs.Topological.{count_of}
use Rattle.net_model.proofs.Elements.{true_false}
use Rattle.net_model.proofs.OpenPins.{count_if, count_has, has_count}
use Rattle.bench_reader.specs.declared.statement.Word.{Word}
use Rattle.bench_reader.specs.declared.statement.Statement.{Statement}
use Rattle.bench_reader.specs.declared.statement.Statement.TheVariants.{Input, Output, Drive, Flop}
use Rattle.bench_reader.specs.Driven.{driven_numbers}
use Rattle.scan_cut.specs.Cut.{input_of, flop_output, gate_words, line_names, line_of_name}

-- ---- how often a name occurs in a list

-- a list without equal elements has each number at most once
pub distinct_counts : (xs : List ℕ) → AllPairs (λ a b. a ≢ b) xs → (x : ℕ) → count_of x xs ≤ 1
distinct_counts [] a x = omega arith
distinct_counts (y ∷ ys) a x =
    let rest = distinct_counts ys (λ i j d lt h. a (suc i) (suc j) d (omega arith) (omega arith)) x in
    let more = sum_by-cons (λ z. count_if (eqb z x) 1) y ys in
    elim (cases_lt 0 (count_of x ys)) [
      | inl has ↦
          let m = count_has x ys has in
          let ne : y ≢ x = λ e. a 0 (suc m.0) x (omega arith) (omega (arith, m.1)) (e ∙ sym m.2) in
          omega (arith, rest, more, ap (λ b. count_if b 1) (different y x ne))
      | inr none ↦ elim (cases_eq y x) [
        | inl e ↦ omega (arith, none, more, ap (λ b. count_if b 1) (eq-eqb y x e))
        | inr ne ↦ omega (arith, none, more, ap (λ b. count_if b 1) (different y x ne))
      ]
    ]
  where
    different : (y x : ℕ) → y ≢ x → eqb y x ≡ false
    different y x ne = ne_eqb y x ne

pub counts_distinct : (xs : List ℕ) → ((x : ℕ) → count_of x xs ≤ 1) → AllPairs (λ a b. a ≢ b) xs
counts_distinct [] few i j d lt h = absurd (omega arith)
counts_distinct (y ∷ ys) few i zero d lt h = absurd (omega arith)
counts_distinct (y ∷ ys) few zero (suc j) d lt h = λ e.
    let has : 0 < count_of y ys = has_count y ys (j, omega arith, get_or_default ys j y d (omega arith) ∙ sym e) in
    omega (arith, has, few y, sum_by-cons (λ z. count_if (eqb z y) 1) y ys, ap (λ b. count_if b 1) (eq-eqb y y refl))
counts_distinct (y ∷ ys) few (suc i) (suc j) d lt h =
    counts_distinct ys (λ x. omega (arith, few x, sum_by-cons (λ z. count_if (eqb z x) 1) y ys)) i j d (omega arith) (omega arith)

-- ---- the names of lines

parts_count : (x : ℕ) (ss : List Statement)
    → count_of x (filter_map input_of ss) + count_of x (filter_map flop_output ss) + count_of x (map (λ word. word.name) (gate_words ss)) ≡ count_of x (driven_numbers ss)
parts_count x [] = refl
parts_count x (Input n ∷ ss) =
    omega (arith, parts_count x ss, sum_by-cons (λ z. count_if (eqb z x) 1) n.name (filter_map input_of ss), sum_by-cons (λ z. count_if (eqb z x) 1) n.name (driven_numbers ss))
parts_count x (Output n ∷ ss) = parts_count x ss
parts_count x (Drive n kind pins ∷ ss) =
    omega (arith, parts_count x ss, sum_by-cons (λ z. count_if (eqb z x) 1) n.name (map (λ (word : Word). word.name) (gate_words ss)), sum_by-cons (λ z. count_if (eqb z x) 1) n.name (driven_numbers ss))
parts_count x (Flop q d ∷ ss) =
    omega (arith, parts_count x ss, sum_by-cons (λ z. count_if (eqb z x) 1) q.name (filter_map flop_output ss), sum_by-cons (λ z. count_if (eqb z x) 1) q.name (driven_numbers ss))

-- a name is the name of a line as often as it is driven
same_count : (x : ℕ) (ss : List Statement) → count_of x (line_names ss) ≡ count_of x (driven_numbers ss)
unfolding line_names
same_count x ss =
    omega (
      arith,
      parts_count x ss,
      sum_by-append (λ z. count_if (eqb z x) 1) (filter_map input_of ss ++ filter_map flop_output ss) (map (λ (word : Word). word.name) (gate_words ss)),
      sum_by-append (λ z. count_if (eqb z x) 1) (filter_map input_of ss) (filter_map flop_output ss),
    )

pub lines_once : (ss : List Statement) → AllPairs (λ a b. a ≢ b) (driven_numbers ss) → AllPairs (λ a b. a ≢ b) (line_names ss)
lines_once ss once = counts_distinct (line_names ss) (λ x. omega (arith, same_count x ss, distinct_counts (driven_numbers ss) once x))

pub line_from_driven : (ss : List Statement) (x : ℕ) → Contains (driven_numbers ss) x → Contains (line_names ss) x
line_from_driven ss x m = count_has x (line_names ss) (omega (arith, same_count x ss, has_count x (driven_numbers ss) m))

pub lines_named : (n : ℕ) (ss : List Statement) → All (λ x. x < n) (driven_numbers ss) → All (λ x. x < n) (line_names ss)
lines_named n ss named =
    All-from_get_or (λ x. x < n) (line_names ss) 0
    (λ k h.
    let x = get_or (line_names ss) k 0 in
    let m = has_count x (line_names ss) (k, h, get_or_default (line_names ss) k x 0 h) in
    All-contains (λ y. y < n) (driven_numbers ss) x named (count_has x (driven_numbers ss) (omega (arith, m, same_count x ss))))

-- ---- the line of a name

first_place : (xs : List ℕ) (x : ℕ) → Contains xs x → position_or_len (λ other. other == x) xs < length xs
first_place xs x (k, h, e) =
    elim (cases_lt (position_or_len (λ other. other == x) xs) (length xs)) [
      | inl below ↦ below
      | inr past ↦ true_false (get_or xs k 0 == x) (eq-eqb (get_or xs k 0) x (get_or_default xs k 0 x h ∙ e)) (fails_before_first (λ other. other == x) xs k 0 (omega (arith, past, h)))
    ]

-- the line of a name is a line and has this name
pub line_is : (ss : List Statement) (x : ℕ) → Contains (line_names ss) x → (line_of_name ss x < length (line_names ss)) × (get_or (line_names ss) (line_of_name ss x) 0 ≡ x)
line_is ss x m =
    let place = position_or_len (λ other. other == x) (line_names ss) in
    let h = first_place (line_names ss) x m in
    let t : nat_lt place (length (line_names ss)) ≡ true = lt-ltb place (length (line_names ss)) h in
    let here : get_or (line_names ss) place 0 ≡ x = eqb-true (get_or (line_names ss) place 0) x (passes_at_first (λ other. other == x) (line_names ss) 0 h) in
    rw t (h, here)
