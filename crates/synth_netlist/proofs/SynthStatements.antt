-- The statements of the netlist of a number, and that they are right together.
use Rattle.std.proofs.Common.{◌≡◌, ◌≢◌, ◌∙◌, ℕ, zero, suc, ◌+◌, ◌*◌, ◌/◌, ◌%◌, ◌^◌, ◌<◌, ◌≤◌, true, List, [], ◌∷◌, ◌++◌, length, map, refl, sym, subst, ap, ap₂, arith, append_assoc, length-append, Some}
use Rattle.std.specs.Prelude.{codes, decimal, flat_map, filter_map, slice_index_or, All, AllPairs, Contains, IsTrue, ◌==◌, if◌then◌else◌}
use Rattle.std.specs.List.{range_with_len, list_all}
use Rattle.std.proofs.lemmas.Bool.Decides.{nat_tests}
use Rattle.std.proofs.lemmas.List.{append-nil, length-map}
use Rattle.std.proofs.lemmas.List.FromFn.{get_or-map-range_with_len, length-range_with_len}
use Rattle.std.proofs.lemmas.List.Folds.{list_all-append}
use Rattle.std.proofs.lemmas.List.Elements.{All-nil, All-cons, All-head, All-tail, All-append, filter_map-append}
use Rattle.std.proofs.lemmas.Grind.{flat_map-append}
use Rattle.std.proofs.lemmas.Fmt.{decimal_digit, decimal_injective, decimal_by_steps, length-decimal-le}
use Rattle.net_model.specs.declared.gate.Kind.{Kind}
use Rattle.net_model.specs.declared.gate.Kind.TheVariants.{And, Nand, Or, Nor, Xor, Xnor}
use Rattle.net_model.proofs.Listed.{All-flat_map, All-range_with_len}
use Rattle.net_model.proofs.Elements.{Contains-map}
use Rattle.net_model.proofs.Orders.{Contains-range}
use Rattle.bench_reader.specs.declared.reading.TheConstants.{NETLIST_LIMIT}
use Rattle.bench_reader.specs.Tokens.{is_name_byte}
use Rattle.bench_reader.specs.Grammar.{gate_driver, driver_of, takes}
use Rattle.bench_reader.specs.Spelled.{Written, written_input, written_output, written_gate, written_driven, written_used, HasRightWord, AreRightTogether, IsRun, HasRuns, written_line}
use Rattle.synth_netlist.specs.Synth.{signal, input_line, output_line, gate_line, output_from, cell_words, gate_word, ports_text, p_gate, q_gate, s_gate, c_gate, numbered_cell, synth_text, statements_of_cell, synth_statements}

-- ---- names: the carry into the first cell, then six of each cell

-- the letter of a signal at a place in a cell
abbrev letter : ℕ → ℕ
letter zero = 99
letter (suc zero) = 120
letter (suc (suc zero)) = 121
letter (suc (suc (suc zero))) = 112
letter (suc (suc (suc (suc zero)))) = 113
letter (suc (suc (suc (suc (suc place))))) = 115

place_of_letter : ℕ → ℕ
place_of_letter b = if b == 99 then 0 else if b == 120 then 1 else if b == 121 then 2 else if b == 112 then 3 else if b == 113 then 4 else 5

place_back : (place : ℕ) → place < 6 → place_of_letter (letter place) ≡ place
unfolding place_of_letter
place_back zero h = refl
place_back (suc zero) h = refl
place_back (suc (suc zero)) h = refl
place_back (suc (suc (suc zero))) h = refl
place_back (suc (suc (suc (suc zero)))) h = refl
place_back (suc (suc (suc (suc (suc zero))))) h = refl
place_back (suc (suc (suc (suc (suc (suc place)))))) h = absurd (omega arith)

-- the name of a place
pub name_at : ℕ → List ℕ
name_at k = letter (k % 6) ∷ decimal (k / 6)

heads : {x y : ℕ} {xs ys : List ℕ} → ◌≡◌ {A = List ℕ} (x ∷ xs) (y ∷ ys) → (x ≡ y) × (xs ≡ ys)
heads e = (cc, cc)

one_name : (j k : ℕ) → j < 2 ^ 62 → k < 2 ^ 62 → name_at j ≡ name_at k → j ≡ k
unfolding name_at
one_name j k hj hk e =
    let parts = heads e in
    let place : j % 6 ≡ k % 6 = sym (place_back (j % 6) (omega arith)) ∙ ap place_of_letter parts.0 ∙ place_back (k % 6) (omega arith) in
    let cell : j / 6 ≡ k / 6 = decimal_injective (j / 6) (k / 6) (omega (arith, hj)) (omega (arith, hk)) parts.1 in
    omega (arith, place, cell)

module _ (cell : ℕ) where
  at_cell : (place : ℕ) → place < 6 → name_at (6 * cell + place) ≡ letter place ∷ decimal cell
  unfolding name_at
  at_cell place h =
      let p : (6 * cell + place) % 6 ≡ place = omega (arith, h) in
      let c : (6 * cell + place) / 6 ≡ cell = omega (arith, h) in
      rw (p, c) refl

  -- the letter of a place is that of its signal
  pub signal_is : (place : ℕ) → place < 6 → name_at (6 * cell + place) ≡ signal (letter place ∷ []) cell
  unfolding signal
  signal_is place h = at_cell place h

-- ---- statements

abbrev pub cells : ℕ → List ℕ → List Written
cells n numbers = flat_map (statements_of_cell n) numbers

-- ---- the text is theirs

cell_lines : (n cell : ℕ) → numbered_cell n cell ≡ flat_map written_line (statements_of_cell n cell)
unfolding ports_text p_gate q_gate s_gate c_gate input_line output_line gate_line
cell_lines n cell = simp (append_assoc, append-nil) refl

cells_lines : (n : ℕ) (numbers : List ℕ) → flat_map (numbered_cell n) numbers ≡ flat_map written_line (cells n numbers)
cells_lines n [] = refl
cells_lines n (cell ∷ numbers) = ap₂ (λ (xs ys : List ℕ). xs ++ ys) (cell_lines n cell) (cells_lines n numbers) ∙ sym (flat_map-append written_line (statements_of_cell n cell) (cells n numbers))

pub synth_lines : (n : ℕ) → synth_text n ≡ flat_map written_line (synth_statements n)
unfolding synth_text input_line output_line
synth_lines n =
    let last = written_output (signal (codes "c") n) in
    ap (λ (t : List ℕ). written_line (written_input (codes "c0")) ++ t)
    (ap₂ (λ (xs ys : List ℕ). xs ++ ys) (cells_lines n (range_with_len 0 n)) (sym (append-nil (written_line last))) ∙ sym (flat_map-append written_line (cells n (range_with_len 0 n)) (last ∷ [])))

-- ---- words

-- the word of a gate is that of a kind which takes two pins
abbrev pub IsGateWord : List ℕ → Type 0
IsGateWord word = (kind : Kind) × (driver_of word ≡ Some (gate_driver kind)) × IsTrue (takes (gate_driver kind) 2) × IsRun word × (length word ≤ 4)

listed_word : (r : ℕ) → r < 8 → IsGateWord (slice_index_or cell_words r [])
unfolding driver_of is_name_byte
listed_word zero h = (And, refl, refl, (omega arith, refl), omega arith)
listed_word (suc zero) h = (Nand, refl, refl, (omega arith, refl), omega arith)
listed_word (suc (suc zero)) h = (Or, refl, refl, (omega arith, refl), omega arith)
listed_word (suc (suc (suc zero))) h = (Nor, refl, refl, (omega arith, refl), omega arith)
listed_word (suc (suc (suc (suc zero)))) h = (Xor, refl, refl, (omega arith, refl), omega arith)
listed_word (suc (suc (suc (suc (suc zero))))) h = (Xnor, refl, refl, (omega arith, refl), omega arith)
listed_word (suc (suc (suc (suc (suc (suc zero)))))) h = (Nand, refl, refl, (omega arith, refl), omega arith)
listed_word (suc (suc (suc (suc (suc (suc (suc zero))))))) h = (Nor, refl, refl, (omega arith, refl), omega arith)
listed_word (suc (suc (suc (suc (suc (suc (suc (suc r)))))))) h = absurd (omega arith)

pub is_gate_word : (output gate : ℕ) → IsGateWord (gate_word output gate)
unfolding gate_word
is_gate_word output gate = listed_word (output / 2 ^ (3 * gate) % 8) (omega arith)

-- ---- each name has a place

-- the name of one of the places up to the carry out of the last cell
abbrev pub Placed : ℕ → List ℕ → Type 0
Placed n name = (k : ℕ) × (k < 6 * n + 1) × (name_at k ≡ name)

placed : (n cell place : ℕ) → place < 6 → 6 * cell + place < 6 * n + 1 → Placed n (signal (letter place ∷ []) cell)
placed n cell place small within = (6 * cell + place, within, signal_is cell place small)

pub first_carry : signal (codes "c") 0 ≡ codes "c0"
unfolding signal
first_carry = ap (λ (ds : List ℕ). 99 ∷ ds) (decimal_digit 0 (omega arith))

first_is : name_at 0 ≡ codes "c0"
first_is = signal_is 0 0 (omega arith) ∙ first_carry

digit_run : (d : ℕ) → d < 10 → is_name_byte (48 + d) ≡ true
unfolding is_name_byte
digit_run d h = grind (arith, nat_tests)

decimal_run : (k : ℕ) → k < 2 ^ 64 → list_all is_name_byte (decimal k) ≡ true
decimal_run =
    decimal_by_steps (λ k ds. list_all is_name_byte ds ≡ true) (λ k h. rw (digit_run k h) refl)
    (λ k ds h all. list_all-append is_name_byte ds ((48 + k % 10) ∷ []) ∙ rw (all, digit_run (k % 10) (omega arith)) refl)

letter_run : (place : ℕ) → is_name_byte (letter place) ≡ true
unfolding is_name_byte
letter_run zero = refl
letter_run (suc zero) = refl
letter_run (suc (suc zero)) = refl
letter_run (suc (suc (suc zero))) = refl
letter_run (suc (suc (suc (suc zero)))) = refl
letter_run (suc (suc (suc (suc (suc place))))) = refl

-- a name is a run of at most five bytes
pub record IsShortRun (name : List ℕ) : Type 0 where
  pub run : IsRun name
  pub short : length name ≤ 5

short_run : (n : ℕ) (name : List ℕ) → n ≤ 2000 → Placed n name → IsShortRun name
unfolding name_at
short_run n name h (k, below, is) =
    let cell : k / 6 < 10 ^ 4 = omega (arith, h, below) in
    let small : k / 6 < 2 ^ 64 = omega (arith, h, below) in
    let digits : length (decimal (k / 6)) ≤ 4 = length-decimal-le 4 (k / 6) (omega arith) cell small in
    let here : IsShortRun (name_at k) = record { run = (omega arith, rw (letter_run (k % 6), decimal_run (k / 6) small) refl); short = omega (arith, digits) } in
    subst (λ (t : List ℕ). IsShortRun t) is here

-- ---- what holds of all statements

all_seven : (P : Written → Type 0) (a b c d e f g : Written) → P a → P b → P c → P d → P e → P f → P g → All P (a ∷ b ∷ c ∷ d ∷ e ∷ f ∷ g ∷ [])
all_seven P a b c d e f g pa pb pc pd pe pf pg =
    All-cons P a (b ∷ c ∷ d ∷ e ∷ f ∷ g ∷ []) pa (All-cons P b (c ∷ d ∷ e ∷ f ∷ g ∷ []) pb (All-cons P c (d ∷ e ∷ f ∷ g ∷ []) pc
    (All-cons P d (e ∷ f ∷ g ∷ []) pd (All-cons P e (f ∷ g ∷ []) pe (All-cons P f (g ∷ []) pf (All-cons P g [] pg (All-nil P)))))))

-- `P` holds of inputs, outputs and gates with two pins whose names have places.
pub record HoldsOf (n : ℕ) (P : Written → Type 0) : Type 0 where
  pub input : (name : List ℕ) → Placed n name → P (written_input name)
  pub output : (name : List ℕ) → Placed n name → P (written_output name)
  pub gate : (name word first second : List ℕ) → IsGateWord word → Placed n name → Placed n first → Placed n second → P (written_gate name word (first ∷ second ∷ []))

module _ (n : ℕ) (P : Written → Type 0) (holds : HoldsOf n P) where
  each_cell : (cell : ℕ) → cell < n → All P (statements_of_cell n cell)
  each_cell cell h =
      let o = output_from n cell in
      let at = λ (place : ℕ) (small : place < 6). placed n cell place small (omega (arith, h, small)) in
      let c = at 0 (omega arith) in
      let x = at 1 (omega arith) in
      let y = at 2 (omega arith) in
      let p = at 3 (omega arith) in
      let q = at 4 (omega arith) in
      let s = at 5 (omega arith) in
      let next = placed n (cell + 1) 0 (omega arith) (omega (arith, h)) in
      all_seven P _ _ _ _ _ _ _ (holds.input _ x) (holds.input _ y) (holds.output _ s) (holds.gate _ _ _ _ (is_gate_word o 0) p x y) (holds.gate _ _ _ _ (is_gate_word o 1) q x c)
      (holds.gate _ _ _ _ (is_gate_word o 2) s p q) (holds.gate _ _ _ _ (is_gate_word o 3) next p c)

  pub all_statements : All P (synth_statements n)
  all_statements =
      let last = written_output (signal (codes "c") n) in
      let inner = cells n (range_with_len 0 n) in
      All-cons P (written_input (codes "c0")) (inner ++ last ∷ []) (holds.input (codes "c0") (0, omega arith, first_is))
      (All-append P inner (last ∷ [])
      (All-flat_map P (statements_of_cell n) (range_with_len 0 n) (All-range_with_len (λ cell. All P (statements_of_cell n cell)) 0 n (λ cell low h. each_cell cell (omega (arith, h)))))
      (All-cons P last [] (holds.output (signal (codes "c") n) (placed n n 0 (omega arith) (omega arith))) (All-nil P)))

-- ---- the names that are driven

six : {x y p q s c x' y' p' q' s' c' : List ℕ} {xs ys : List (List ℕ)} → x ≡ x' → y ≡ y' → p ≡ p' → q ≡ q' → s ≡ s' → c ≡ c' → xs ≡ ys → x ∷ y ∷ p ∷ q ∷ s ∷ c ∷ xs ≡ x' ∷ y' ∷ p' ∷ q' ∷ s' ∷ c' ∷ ys
six e1 e2 e3 e4 e5 e6 e7 = rw (e1, e2, e3, e4, e5, e6, e7) refl

places_of_cell : (a m : ℕ) → map name_at (range_with_len (6 * a + 1) (6 * suc m))
    ≡ signal (codes "x") a ∷ signal (codes "y") a ∷ signal (codes "p") a ∷ signal (codes "q") a ∷ signal (codes "s") a ∷ signal (codes "c") (a + 1) ∷ map name_at (range_with_len (6 * (a + 1) + 1) (6 * m))
places_of_cell a m =
    let more : 6 * suc m ≡ suc (suc (suc (suc (suc (suc (6 * m)))))) = omega arith in
    ap (λ k. map name_at (range_with_len (6 * a + 1) k)) more
    ∙ six (signal_is a 1 (omega arith)) (ap name_at (omega arith) ∙ signal_is a 2 (omega arith)) (ap name_at (omega arith) ∙ signal_is a 3 (omega arith)) (ap name_at (omega arith) ∙ signal_is a 4 (omega arith)) (ap name_at (omega arith) ∙ signal_is a 5 (omega arith))
    (ap name_at (omega arith) ∙ signal_is (a + 1) 0 (omega arith))
    (ap (λ k. map name_at (range_with_len k (6 * m))) (omega arith))

driven_in_cells : (n a m : ℕ) → filter_map written_driven (cells n (range_with_len a m)) ≡ map name_at (range_with_len (6 * a + 1) (6 * m))
driven_in_cells n a zero = refl
driven_in_cells n a (suc m) = six refl refl refl refl refl refl (driven_in_cells n (a + 1) m) ∙ sym (places_of_cell a m)

abbrev all_places : ℕ → List (List ℕ)
all_places n = map name_at (range_with_len 0 (6 * n + 1))

driven_are : (n : ℕ) → filter_map written_driven (synth_statements n) ≡ all_places n
driven_are n =
    let inner = cells n (range_with_len 0 n) in
    let one_more : 6 * n + 1 ≡ suc (6 * n) = omega arith in
    ap (λ (ts : List (List ℕ)). codes "c0" ∷ ts) (filter_map-append written_driven inner (written_output (signal (codes "c") n) ∷ []) ∙ append-nil (filter_map written_driven inner) ∙ driven_in_cells n 0 n)
    ∙ ap (λ (t : List ℕ). t ∷ map name_at (range_with_len 1 (6 * n))) (sym first_is)
    ∙ ap (λ k. map name_at (range_with_len 0 k)) (sym one_more)

places_differ : (n : ℕ) → n ≤ 2000 → AllPairs (λ a b. a ≢ b) (all_places n)
places_differ n small i j d lt h e =
    let below : j < 6 * n + 1 = omega (arith, h, length-map (range_with_len 0 (6 * n + 1)) name_at, length-range_with_len 0 (6 * n + 1)) in
    let at_i = get_or-map-range_with_len name_at 0 (6 * n + 1) i i d (omega (arith, lt, below)) (omega arith) in
    let at_j = get_or-map-range_with_len name_at 0 (6 * n + 1) j j d below (omega arith) in
    let same : i ≡ j = one_name i j (omega (arith, lt, below, small)) (omega (arith, below, small)) (sym at_i ∙ e ∙ at_j) in
    omega (arith, same, lt)

placed_driven : (n : ℕ) (name : List ℕ) → Placed n name → Contains (all_places n) name
placed_driven n name (k, below, is) =
    subst (λ (t : List ℕ). Contains (all_places n) t) is (Contains-map name_at (range_with_len 0 (6 * n + 1)) k (Contains-range 0 (6 * n + 1) k (omega arith) (omega (arith, below))))

-- ---- they are right together

both : {X : Type 0} (P : X → Type 0) (a b : X) → P a → P b → All P (a ∷ b ∷ [])
both P a b pa pb = All-cons P a (b ∷ []) pa (All-cons P b [] pb (All-nil P))

right_words : (n : ℕ) → HoldsOf n HasRightWord
right_words n = record { input = λ name at. tt; output = λ name at. tt; gate = λ name word first second is at fa sa. (gate_driver is.0, is.1, is.2) }

uses_driven : (n : ℕ) → HoldsOf n (λ w. All (Contains (all_places n)) (written_used w))
uses_driven n = record {
  input = λ name at. All-nil (Contains (all_places n));
  output = λ name at. All-cons (Contains (all_places n)) name [] (placed_driven n name at) (All-nil (Contains (all_places n)));
  gate = λ name word first second is at fa sa. both (Contains (all_places n)) first second (placed_driven n first fa) (placed_driven n second sa);
}

pub are_right : (n : ℕ) → n ≤ 2000 → AreRightTogether (synth_statements n)
are_right n small = record {
  words = all_statements n HasRightWord (right_words n);
  once = subst (λ (ts : List (List ℕ)). AllPairs (λ a b. a ≢ b) ts) (sym (driven_are n)) (places_differ n small);
  driven =
      subst (λ (ts : List (List ℕ)). All (Contains ts) (flat_map written_used (synth_statements n))) (sym (driven_are n))
      (All-flat_map (Contains (all_places n)) written_used (synth_statements n) (all_statements n (λ w. All (Contains (all_places n)) (written_used w)) (uses_driven n)));
}

pub have_runs : (n : ℕ) → n ≤ 2000 → All HasRuns (synth_statements n)
have_runs n small = all_statements n HasRuns (record {
  input = λ name at. (short_run n name small at).run;
  output = λ name at. (short_run n name small at).run;
  gate = λ name word first second is at fa sa. ((short_run n name small at).run, is.3, both IsRun first second (short_run n first small fa).run (short_run n second small sa).run);
})

-- ---- the text is short

abbrev IsShortLine : Written → Type 0
IsShortLine w = length (written_line w) ≤ 30

short_lines : (n : ℕ) → n ≤ 2000 → HoldsOf n IsShortLine
short_lines n small = record {
  input = λ name at. omega (arith, (short_run n name small at).short, length-append name (codes ")\n"));
  output = λ name at. omega (arith, (short_run n name small at).short, length-append name (codes ")\n"));
  gate = λ name word first second is at fa sa.
      omega (
        arith,
        (short_run n name small at).short,
        (short_run n first small fa).short,
        (short_run n second small sa).short,
        is.4,
        length-append name (codes "=" ++ (word ++ (codes "(" ++ (first ++ (codes "," ++ (second ++ codes ")\n")))))),
        length-append word (codes "(" ++ (first ++ (codes "," ++ (second ++ codes ")\n")))),
        length-append first (codes "," ++ (second ++ codes ")\n")),
        length-append second (codes ")\n"),
      );
}

lines_length : (ws : List Written) → All IsShortLine ws → length (flat_map written_line ws) ≤ 30 * length ws
lines_length [] all = omega arith
lines_length (w ∷ ws) all = omega (arith, length-append (written_line w) (flat_map written_line ws), All-head IsShortLine w ws all, lines_length ws (All-tail IsShortLine w ws all))

cells_length : (n a m : ℕ) → length (cells n (range_with_len a m)) ≡ 7 * m
cells_length n a zero = refl
cells_length n a (suc m) = omega (arith, cells_length n (a + 1) m)

pub text_is_short : (n : ℕ) → n ≤ 2000 → length (synth_text n) ≤ NETLIST_LIMIT
text_is_short n small =
    let ws = synth_statements n in
    omega (
      arith,
      small,
      ap length (synth_lines n),
      lines_length ws (all_statements n IsShortLine (short_lines n small)),
      length-append (cells n (range_with_len 0 n)) (written_output (signal (codes "c") n) ∷ []),
      cells_length n 0 n,
    )
