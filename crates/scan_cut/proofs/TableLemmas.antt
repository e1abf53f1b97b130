-- The parts of the cut by the table of lines.
use Rattle.std.proofs.Common.{◌≡◌, ◌∙◌, ℕ, ◌<◌, List, [], ◌∷◌, ◌++◌, length, get_or, refl, sym, ap}
use Rattle.std.specs.Prelude.{map, filter_map, flat_map, All, Contains}
use Rattle.std.proofs.lemmas.List.Elements.{All-head, All-tail, All-weaker, All-contains}
use Rattle.net_model.proofs.Elements.{All-left, All-right}
use Rattle.bench_reader.specs.declared.statement.Word.{Word}
use Rattle.bench_reader.specs.declared.statement.Statement.{Statement}
use Rattle.bench_reader.specs.declared.statement.Statement.TheVariants.{Input, Output, Drive, Flop}
use Rattle.bench_reader.specs.Netlist.{Netlist}
use Rattle.bench_reader.specs.Driven.{driven_numbers, used_numbers, IsDriven}
use Rattle.bench_reader.proofs.AllLemmas.{All-parts}
use Rattle.scan_cut.specs.Cut.{source_names, gate_words, line_names, line_of_name, gate_of, position_names}
use Rattle.scan_cut.specs.Lines.{AreLines, looked_up_gate}
use Rattle.scan_cut.proofs.NameLemmas.{line_is}
use Rattle.scan_cut.proofs.FitLemmas.{positions_used, used_lines}

-- the names of lines, while they are collected
pub lines_are : (ss list : List Statement) (sources names slice : List ℕ) → list ≡ ss → sources ≡ source_names list → names ≡ sources ++ map (λ word. word.name) (gate_words list) → slice ≡ names → slice ≡ line_names ss
unfolding line_names
lines_are ss list sources names slice same first more is =
    is ∙ more ∙ ap (λ xs. xs ++ map (λ (word : Word). word.name) (gate_words list)) first ∙ ap (λ l. source_names l ++ map (λ (word : Word). word.name) (gate_words l)) same

module _ (whole : List Statement) (count : ℕ) (lines : List ℕ) (are : AreLines count (line_names whole) lines) where
  -- the table has the line of each name of a line
  found : (name : ℕ) → Contains (line_names whole) name → get_or lines name 0 ≡ line_of_name whole name
  found name m =
      let is = line_is whole name m in
      ap (λ x. get_or lines x 0) (sym is.1) ∙ are.each (line_of_name whole name) is.0

  pub names_found : (names : List ℕ) → All (Contains (line_names whole)) names → map (λ name. get_or lines name 0) names ≡ map (line_of_name whole) names
  names_found [] a = refl
  names_found (name ∷ names) a =
      rw (found name (All-head (Contains (line_names whole)) name names a), names_found names (All-tail (Contains (line_names whole)) name names a)) refl

  pins_found : (pins : List Word) → All (Contains (line_names whole)) (map (λ pin. pin.name) pins) → map (λ pin. get_or lines pin.name 0) pins ≡ map (λ pin. line_of_name whole pin.name) pins
  pins_found [] a = refl
  pins_found (pin ∷ pins) a =
      let rest : List ℕ = map (λ (p : Word). p.name) pins in
      rw (found pin.name (All-head (Contains (line_names whole)) pin.name rest a), pins_found pins (All-tail (Contains (line_names whole)) pin.name rest a)) refl

  pub gates_found : (ss : List Statement) → All (Contains (line_names whole)) (flat_map used_numbers ss) → filter_map (looked_up_gate lines) ss ≡ filter_map (gate_of whole) ss
  gates_found [] a = refl
  gates_found (Input n ∷ ss) a = gates_found ss a
  gates_found (Output n ∷ ss) a = gates_found ss (All-tail (Contains (line_names whole)) n.name (flat_map used_numbers ss) a)
  gates_found (Drive n kind pins ∷ ss) a =
      let here = All-left (Contains (line_names whole)) (map (λ pin. pin.name) pins) (flat_map used_numbers ss) a in
      let rest = All-right (Contains (line_names whole)) (map (λ pin. pin.name) pins) (flat_map used_numbers ss) a in
      rw (pins_found pins here, gates_found ss rest) refl
  gates_found (Flop q d ∷ ss) a = gates_found ss (All-tail (Contains (line_names whole)) d.name (flat_map used_numbers ss) a)

-- ---- all names that are used are in the table

module _ (n : Netlist) (o : IsDriven n) where
  used_within : All (λ name. name < length n.names) (flat_map used_numbers n.statements)
  used_within =
      All-weaker (Contains (driven_numbers n.statements)) (λ name. name < length n.names) (λ name m. All-contains (λ x. x < length n.names) (driven_numbers n.statements) name o.named m) (flat_map used_numbers n.statements) o.used

  pub gates_within : All (λ s. All (λ name. name < length n.names) (used_numbers s)) n.statements
  gates_within = All-parts (λ name. name < length n.names) used_numbers n.statements used_within

  pub positions_within : All (λ name. name < length n.names) (position_names n.statements)
  positions_within = positions_used (λ name. name < length n.names) n.statements used_within

  pub positions_are_lines : All (Contains (line_names n.statements)) (position_names n.statements)
  positions_are_lines = positions_used (Contains (line_names n.statements)) n.statements (used_lines n o)
