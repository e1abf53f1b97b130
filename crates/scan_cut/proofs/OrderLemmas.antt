-- If each gate reads what is known before it, each reads lower lines.
use Rattle.std.proofs.Common.{◌≡◌, ◌∙◌, ℕ, zero, suc, ◌+◌, ◌-◌, ◌<◌, ◌≤◌, Bool, true, false, List, [], ◌∷◌, ◌++◌, length, get_or, refl, sym, subst, arith, append_assoc, length-append, Option, None, Some}
use Rattle.std.specs.Prelude.{map, filter_map, All, Contains, slice_get, nat_lt, ◌==◌, if◌then◌else◌}
use Rattle.std.specs.List.{list_any}
use Rattle.std.specs.Option.{option_map_or}
use Rattle.std.proofs.lemmas.Bool.{eq-eqb}
use Rattle.std.proofs.lemmas.Bool.Decides.{nat_tests}
use Rattle.std.proofs.lemmas.List.Elements.{All-nil, All-cons, All-head, All-tail, All-contains}
use Rattle.std.proofs.lemmas.List.Folds.{list_any_at}
use Rattle.net_model.specs.declared.gate.Gate.{Gate}
use Rattle.net_model.specs.Circuit.{Circuit, Reaches, directly, onward, Feeds}
use Rattle.net_model.proofs.Elements.{none_in}
use Rattle.bench_reader.specs.declared.statement.Word.{Word}
use Rattle.bench_reader.specs.declared.statement.Statement.{Statement}
use Rattle.bench_reader.specs.declared.statement.Statement.TheVariants.{Input, Output, Drive, Flop}
use Rattle.bench_reader.specs.Netlist.{Netlist}
use Rattle.bench_reader.proofs.Positions.{number_stays, placed}
use Rattle.scan_cut.specs.Cut.{source_names, gate_words, line_names, line_of_name, gate_of, cut_circuit}
use Rattle.scan_cut.specs.Laws.{ReadsKnown, AreOrdered}

module _ (whole : List Statement) where
  -- the line of a name that is a name of the first lines is one of these lines
  line_among : (known more : List ℕ) (name : ℕ) → line_names whole ≡ known ++ more → Contains known name → line_of_name whole name < length known
  line_among known more name e (k, h, at) =
      let p : ℕ → Bool = λ other. other == name in
      let has : list_any p known ≡ true = list_any_at p known k name h (eq-eqb (get_or known k name) name at) in
      let stays = number_stays p known more has in
      let place = placed p (known ++ more) stays.1 in
      rw e (omega (arith, place.0, stays.0, (placed p known has).1))

  pins_among : (known more : List ℕ) (pins : List Word) → line_names whole ≡ known ++ more → All (λ pin. Contains known pin.name) pins → All (λ line. line < length known) (map (λ pin. line_of_name whole pin.name) pins)
  pins_among known more [] e each = All-nil (λ line. line < length known)
  pins_among known more (pin ∷ pins) e each =
      All-cons (λ line. line < length known) (line_of_name whole pin.name) (map (λ p. line_of_name whole p.name) pins) (line_among known more pin.name e (All-head (λ (p : Word). Contains known p.name) pin pins each))
      (pins_among known more pins e (All-tail (λ (p : Word). Contains known p.name) pin pins each))

  -- the pins of each gate are lines before its own
  gates_low : (ss : List Statement) (known : List ℕ) → line_names whole ≡ known ++ map (λ word. word.name) (gate_words ss) → ReadsKnown known ss → (i : ℕ) (gate : Gate) → slice_get (filter_map (gate_of whole) ss) i ≡ Some gate
      → All (λ pin. pin < length known + i) gate.pins
  gates_low [] known e reads i gate is = absurd (cc)
  gates_low (Input n ∷ ss) known e reads i gate is = gates_low ss known e reads i gate is
  gates_low (Output n ∷ ss) known e reads i gate is = gates_low ss known e reads i gate is
  gates_low (Flop q d ∷ ss) known e reads i gate is = gates_low ss known e reads i gate is
  gates_low (Drive n kind pins ∷ ss) known e reads zero gate is =
      let lines : List ℕ = map (λ pin. line_of_name whole pin.name) pins in
      let here : record { kind = kind; pins = lines } ≡ gate = cc in
      let end : length known + 0 ≡ length known = omega arith in
      subst (λ (g : Gate). All (λ pin. pin < length known + 0) g.pins) here (rw end (pins_among known (n.name ∷ map (λ word. word.name) (gate_words ss)) pins e reads.0))
  gates_low (Drive n kind pins ∷ ss) known e reads (suc i) gate is =
      let longer : length (known ++ n.name ∷ []) + i ≡ length known + suc i = omega (arith, length-append known (n.name ∷ [])) in
      subst (λ (k : ℕ). All (λ pin. pin < k) gate.pins) longer
      (gates_low ss (known ++ n.name ∷ []) (e ∙ sym (append_assoc known (n.name ∷ []) (map (λ word. word.name) (gate_words ss)))) reads.1 i gate is)

module _ (c : Circuit) (low : (i : ℕ) (gate : Gate) → slice_get c.gates i ≡ Some gate → All (λ pin. pin < c.sources + i) gate.pins) where
  feeds_up : (line reader : ℕ) → Feeds c line reader → line < reader
  feeds_up line reader feeds = by (nat_lt reader c.sources) refl (slice_get c.gates (reader - c.sources)) refl feeds
    where
      by : (below : Bool) → nat_lt reader c.sources ≡ below → (o : Option Gate) → slice_get c.gates (reader - c.sources) ≡ o → Contains (option_map_or (λ gate. gate.pins) (if below then None else o) []) line → line < reader
      by true e o f has = absurd (none_in line has)
      by false e None f has = absurd (none_in line has)
      by false e (Some gate) f has =
          let above : c.sources ≤ reader = grind (arith, nat_tests) in
          let lower = All-contains (λ pin. pin < c.sources + (reader - c.sources)) gate.pins line (low (reader - c.sources) gate f) has in
          omega (arith, above, lower)

  reaches_up : {line reader : ℕ} → Reaches c line reader → line < reader
  reaches_up {line} {reader} (directly feeds) = feeds_up line reader feeds
  reaches_up {line} {reader} (onward {between = between} reaches feeds) = omega (arith, reaches_up reaches, feeds_up between reader feeds)

pub ordered_has_no_loop : (n : Netlist) (line : ℕ) → AreOrdered n.statements → Reaches (cut_circuit n) line line → ⊥
unfolding cut_circuit line_names
ordered_has_no_loop n line ordered reaches =
    omega (arith, reaches_up (cut_circuit n) (λ i gate is. gates_low n.statements n.statements (source_names n.statements) refl ordered i gate is) reaches)
