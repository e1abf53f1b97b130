-- The gates of the netlist of a number read what is known before them.
use Rattle.std.proofs.Common.{◌≡◌, ◌∙◌, ℕ, zero, suc, ◌+◌, ◌<◌, ◌≤◌, List, [], ◌∷◌, ◌++◌, map, refl, sym, subst, ap, ap₂, arith, Option, None, Some}
use Rattle.std.specs.Prelude.{codes, filter_map, All, Contains}
use Rattle.std.specs.List.{AllZip, range_with_len}
use Rattle.std.proofs.lemmas.List.{append-nil, map-append}
use Rattle.std.proofs.lemmas.List.Elements.{All-nil, All-cons, All-head, All-tail, All-map, All-weaker, Contains-append_left, Contains-append_right}
use Rattle.net_model.specs.declared.gate.Kind.{Kind}
use Rattle.net_model.proofs.Copies.{later}
use Rattle.net_model.proofs.Elements.{Contains-map, Contains-flat_map, none_in}
use Rattle.net_model.proofs.Orders.{Contains-range}
use Rattle.bench_reader.specs.declared.statement.Statement.{Statement}
use Rattle.bench_reader.specs.declared.statement.Statement.TheVariants.{Input, Output, Drive, Flop}
use Rattle.bench_reader.specs.Grammar.{gate_driver, driver_of}
use Rattle.bench_reader.specs.Reading.{name_number}
use Rattle.bench_reader.specs.Spelled.{Written, written_input, written_output, written_gate, ReadsAs}
use Rattle.scan_cut.specs.Cut.{input_of, flop_output, source_names}
use Rattle.scan_cut.specs.Laws.{ReadsKnown, AreOrdered}
use Rattle.scan_cut.proofs.FitLemmas.{each_word}
use Rattle.synth_netlist.specs.Synth.{signal, statements_of_cell, synth_statements}
use Rattle.synth_netlist.proofs.SynthStatements.{first_carry, all_statements, cells}

-- ---- written statements, and those that they read as

abbrev pub input_name : Written → Option (List ℕ)
input_name (written_input n) = Some n
input_name (written_output n) = None
input_name (written_gate n word pins) = None

abbrev pub inputs : List Written → List (List ℕ)
inputs ws = filter_map input_name ws

-- each gate reads names that are known: these, and those that the gates before it drive
abbrev pub KnownBefore : List (List ℕ) → List Written → Type 0
KnownBefore known [] = Unit {0}
KnownBefore known (written_input n ∷ ws) = KnownBefore known ws
KnownBefore known (written_output n ∷ ws) = KnownBefore known ws
KnownBefore known (written_gate n word pins ∷ ws) = All (Contains known) pins × KnownBefore (known ++ n ∷ []) ws

-- the word of the gate isn't that of a flip-flop
abbrev pub HasKind : Written → Type 0
HasKind (written_input n) = Unit {0}
HasKind (written_output n) = Unit {0}
HasKind (written_gate n word pins) = (kind : Kind) × (driver_of word ≡ Some (gate_driver kind))

module _ (names : List (List ℕ)) where
  abbrev pub numbers : List (List ℕ) → List ℕ
  numbers texts = map (name_number names) texts

  known_numbers : (known pins : List (List ℕ)) → All (Contains known) pins → All (Contains (numbers known)) (numbers pins)
  known_numbers known pins all =
      All-map (Contains (numbers known)) (name_number names) pins (All-weaker (Contains known) (λ t. Contains (numbers known) (name_number names t)) (λ t has. Contains-map (name_number names) known t has) pins all)

  pub reads_known : (ws : List Written) (ss : List Statement) (known : List (List ℕ)) → AllZip (ReadsAs names) ws ss → All HasKind ws → KnownBefore known ws → ReadsKnown (numbers known) ss
  reads_known [] [] known a kinds k = tt
  reads_known [] (s ∷ ss) known a kinds k = absurd a
  reads_known (w ∷ ws) [] known a kinds k = absurd a
  reads_known (written_input n ∷ ws) (Input q ∷ ss) known a kinds k = reads_known ws ss known a.1 (All-tail HasKind (written_input n) ws kinds) k
  reads_known (written_input n ∷ ws) (Output q ∷ ss) known a kinds k = absurd a.0
  reads_known (written_input n ∷ ws) (Drive q kind ps ∷ ss) known a kinds k = absurd a.0
  reads_known (written_input n ∷ ws) (Flop q d ∷ ss) known a kinds k = absurd a.0
  reads_known (written_output n ∷ ws) (Output q ∷ ss) known a kinds k = reads_known ws ss known a.1 (All-tail HasKind (written_output n) ws kinds) k
  reads_known (written_output n ∷ ws) (Input q ∷ ss) known a kinds k = absurd a.0
  reads_known (written_output n ∷ ws) (Drive q kind ps ∷ ss) known a kinds k = absurd a.0
  reads_known (written_output n ∷ ws) (Flop q d ∷ ss) known a kinds k = absurd a.0
  reads_known (written_gate n word pins ∷ ws) (Input q ∷ ss) known a kinds k = absurd a.0
  reads_known (written_gate n word pins ∷ ws) (Output q ∷ ss) known a kinds k = absurd a.0
  reads_known (written_gate n word pins ∷ ws) (Drive q kind ps ∷ ss) known a kinds k =
      let longer : numbers (known ++ n ∷ []) ≡ numbers known ++ q.name ∷ [] = map-append (name_number names) known (n ∷ []) ∙ ap (λ (x : ℕ). numbers known ++ x ∷ []) (sym a.0.1) in (
        each_word (Contains (numbers known)) ps (subst (λ (xs : List ℕ). All (Contains (numbers known)) xs) (sym a.0.2) (known_numbers known pins k.0)),
        subst (λ (xs : List ℕ). ReadsKnown xs ss) longer (reads_known ws ss (known ++ n ∷ []) a.1 (All-tail HasKind (written_gate n word pins) ws kinds) k.1),
      )
  reads_known (written_gate n word pins ∷ ws) (Flop q d ∷ ss) known a kinds k =
      let kind = All-head HasKind (written_gate n word pins) ws kinds in
      absurd (let e = sym a.0.0 ∙ kind.1 in cc)

  sources_are : (ws : List Written) (ss : List Statement) → AllZip (ReadsAs names) ws ss → All HasKind ws → (filter_map input_of ss ≡ numbers (inputs ws)) × (filter_map flop_output ss ≡ [])
  sources_are [] [] a kinds = (refl, refl)
  sources_are [] (s ∷ ss) a kinds = absurd a
  sources_are (w ∷ ws) [] a kinds = absurd a
  sources_are (written_input n ∷ ws) (Input q ∷ ss) a kinds =
      let rest = sources_are ws ss a.1 (All-tail HasKind (written_input n) ws kinds) in
      (ap₂ (λ (x : ℕ) (xs : List ℕ). x ∷ xs) a.0 rest.0, rest.1)
  sources_are (written_input n ∷ ws) (Output q ∷ ss) a kinds = absurd a.0
  sources_are (written_input n ∷ ws) (Drive q kind ps ∷ ss) a kinds = absurd a.0
  sources_are (written_input n ∷ ws) (Flop q d ∷ ss) a kinds = absurd a.0
  sources_are (written_output n ∷ ws) (Output q ∷ ss) a kinds = sources_are ws ss a.1 (All-tail HasKind (written_output n) ws kinds)
  sources_are (written_output n ∷ ws) (Input q ∷ ss) a kinds = absurd a.0
  sources_are (written_output n ∷ ws) (Drive q kind ps ∷ ss) a kinds = absurd a.0
  sources_are (written_output n ∷ ws) (Flop q d ∷ ss) a kinds = absurd a.0
  sources_are (written_gate n word pins ∷ ws) (Input q ∷ ss) a kinds = absurd a.0
  sources_are (written_gate n word pins ∷ ws) (Output q ∷ ss) a kinds = absurd a.0
  sources_are (written_gate n word pins ∷ ws) (Drive q kind ps ∷ ss) a kinds = sources_are ws ss a.1 (All-tail HasKind (written_gate n word pins) ws kinds)
  sources_are (written_gate n word pins ∷ ws) (Flop q d ∷ ss) a kinds =
      let kind = All-head HasKind (written_gate n word pins) ws kinds in
      absurd (let e = sym a.0.0 ∙ kind.1 in cc)

  pub are_ordered : (ws : List Written) (ss : List Statement) → AllZip (ReadsAs names) ws ss → All HasKind ws → KnownBefore (inputs ws) ws → AreOrdered ss
  are_ordered ws ss a kinds k =
      let e = sources_are ws ss a kinds in
      let sources : source_names ss ≡ numbers (inputs ws) = ap₂ (λ (xs ys : List ℕ). xs ++ ys) e.0 e.1 ∙ append-nil (numbers (inputs ws)) in
      rw sources (reads_known ws ss (inputs ws) a kinds k)

-- ---- the netlist of a number

both : (known : List (List ℕ)) (a b : List ℕ) → Contains known a → Contains known b → All (Contains known) (a ∷ b ∷ [])
both known a b pa pb = All-cons (Contains known) a (b ∷ []) pa (All-cons (Contains known) b [] pb (All-nil (Contains known)))

-- a name that is known stays known, and the one that is added is known
kept : (known : List (List ℕ)) (a b : List ℕ) → Contains known a → Contains (known ++ b ∷ []) a
kept known a b has = Contains-append_left known (b ∷ []) a has

added : (known : List (List ℕ)) (b : List ℕ) → Contains (known ++ b ∷ []) b
added known b = Contains-append_right known (b ∷ []) b (0, omega arith, refl)

module _ (n : ℕ) where
  abbrev last : Written
  last = written_output (signal (codes "c") n)

  -- the inputs of each cell
  AreInputs : List (List ℕ) → Type 0
  AreInputs known = (cell : ℕ) → cell < n → Contains known (signal (codes "x") cell) × Contains known (signal (codes "y") cell)

  cells_known : (a m : ℕ) (known : List (List ℕ)) → a + m ≤ n → AreInputs known → Contains known (signal (codes "c") a) → KnownBefore known (cells n (range_with_len a m) ++ last ∷ [])
  unfolding AreInputs
  cells_known a zero known within has carry = tt
  cells_known a (suc m) known within has carry =
      let x = signal (codes "x") a in
      let y = signal (codes "y") a in
      let c = signal (codes "c") a in
      let p = signal (codes "p") a in
      let q = signal (codes "q") a in
      let s = signal (codes "s") a in
      let next = signal (codes "c") (a + 1) in
      let ins = has a (omega arith) in
      let k1 = known ++ p ∷ [] in
      let k2 = k1 ++ q ∷ [] in
      let k3 = k2 ++ s ∷ [] in
      let grown : (t : List ℕ) → Contains known t → Contains (k3 ++ next ∷ []) t = λ t here. kept k3 t next (kept k2 t s (kept k1 t q (kept known t p here))) in (
        both known x y ins.0 ins.1,
        (
          both k1 x c (kept known x p ins.0) (kept known c p carry),
          (
            both k2 p q (kept k1 p q (added known p)) (added k1 q),
            (
              both k3 p c (kept k2 p s (kept k1 p q (added known p))) (kept k2 c s (kept k1 c q (kept known c p carry))),
              cells_known (a + 1) m (k3 ++ next ∷ []) (omega arith) (λ cell h. let i = has cell h in (grown (signal (codes "x") cell) i.0, grown (signal (codes "y") cell) i.1)) (added k3 next),
            ),
          ),
        ),
      )

  statement_in : (cell : ℕ) → cell < n → (w : Written) → Contains (statements_of_cell n cell) w → Contains (synth_statements n) w
  statement_in cell h w has =
      later (written_input (codes "c0")) (cells n (range_with_len 0 n) ++ last ∷ []) w
      (Contains-append_left (cells n (range_with_len 0 n)) (last ∷ []) w (Contains-flat_map (statements_of_cell n) (range_with_len 0 n) cell w (Contains-range 0 n cell (omega arith) (omega (arith, h))) has))

  input_in : (ws : List Written) (name : List ℕ) → Contains ws (written_input name) → Contains (inputs ws) name
  input_in [] name has = absurd (none_in (written_input name) has)
  input_in (w ∷ ws) name (zero, h, e) = subst (λ (v : Written). Contains (inputs (v ∷ ws)) name) (sym e) (0, omega arith, refl)
  input_in (w ∷ ws) name (suc k, h, e) = by w (input_in ws name (k, omega (arith, h), e))
    where
      by : (v : Written) → Contains (inputs ws) name → Contains (inputs (v ∷ ws)) name
      by (written_input m) has = later m (inputs ws) name has
      by (written_output m) has = has
      by (written_gate m word pins) has = has

  pub synth_known : KnownBefore (inputs (synth_statements n)) (synth_statements n)
  unfolding AreInputs
  synth_known =
      let ws = synth_statements n in
      cells_known 0 n (inputs ws) (omega arith)
      (λ cell h. (input_in ws (signal (codes "x") cell) (statement_in cell h (written_input (signal (codes "x") cell)) (0, omega arith, refl)), input_in ws (signal (codes "y") cell) (statement_in cell h (written_input (signal (codes "y") cell)) (1, omega arith, refl))))
      (subst (λ (t : List ℕ). Contains (inputs ws) t) (sym first_carry) (0, omega arith, refl))

  pub have_kinds : All HasKind (synth_statements n)
  have_kinds = all_statements n HasKind (record { input = λ name at. tt; output = λ name at. tt; gate = λ name word first second is at fa sa. (is.0, is.1) })
