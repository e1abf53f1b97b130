-- Lines that are settled: before the first event, and after one.
use Rattle.std.proofs.Common.{◌≡◌, ◌≢◌, ℕ, ◌<◌, List, [], length, get_or, set, refl, sym, ◌∙◌, ap, subst, arith, inl, inr}
use Rattle.std.specs.Prelude.{Bool, true, false, IsTrue, ◌↔◌, Contains}
use Rattle.std.proofs.lemmas.Bool.{cases_eq, false_from_ne_true}
use Rattle.std.proofs.lemmas.List.{get_or-set_same, get_or-set_other, get_or_default, length-set, ext_get_or}
use Rattle.net_model.specs.declared.fault.Fault.TheVariants.{Free}
use Rattle.net_model.specs.Circuit.{Circuit, IsCircuit, line_count, gate_at, Feeds}
use Rattle.net_model.specs.Answer.{bit_at, driven_bit, line_bit}
use Rattle.net_model.proofs.Copies.{same_driven, pins_inside}
use Rattle.net_model.proofs.Orders.{order_has, reader_is_gate}
use Rattle.net_model.proofs.SetSoFar.{fits_from}
use Rattle.net_model.proofs.Elements.{true_false, none_in}
use Rattle.word_sim.specs.declared.lanes.TheConstants.{LANES}
use Rattle.word_sim.specs.GoodSim.{GoodSim}
use Rattle.event_queue.specs.Pending.{is_pending, IsIdle}
use Rattle.fault_sim.specs.Rows.{IsFalse, AreFalseBut}
use Rattle.net_model.specs.Wiring.{Wiring, IsWiring}
use Rattle.net_model.specs.Gate.{inverted}
use Rattle.fault_heads.specs.Turned.{vector_at, IsFreeLane, IsFalsePast}
use Rattle.fault_sim.specs.TurnedLines.{turned_bits, IsSettled}
use Rattle.fault_sim.specs.Events.{AreFalsePast}
use Rattle.fault_sim.proofs.TurnedLemmas.{length-turned, turned_at}

-- ---- bits

pub inverted_false : (a b : Bool) → inverted a b ≡ false → a ≡ b
inverted_false true true e = refl
inverted_false true false e = e
inverted_false false true e = sym e
inverted_false false false e = refl

pub inverted_none : (a b : Bool) → b ≡ false → inverted a b ≡ a
inverted_none true true e = sym e
inverted_none true false e = refl
inverted_none false true e = e
inverted_none false false e = refl

-- no lane has 1
pub none_true : (row : List Bool) (some : Bool) → IsTrue some ↔ ((lane : ℕ) × (lane < LANES) × IsTrue (bit_at row lane)) → some ≡ false → IsFalse row
none_true row some iff e lane h = false_from_ne_true (bit_at row lane) (λ t. true_false some (iff.1 (lane, h, t)) e)

-- ---- the right side of an equation

-- it stays if the lines that the gate reads stay
stays : (c : Circuit) (v x y : List Bool) (line : ℕ) → ((read : ℕ) → Feeds c read line → bit_at x read ≡ bit_at y read) → driven_bit c Free v x line ≡ driven_bit c Free v y line
unfolding driven_bit
stays c v x y line h = same_driven c Free Free v x y line (gate_at c line) (λ pin. refl) h

-- the bit of a line without a fault
pub free_driven : (c : Circuit) (v bits : List Bool) (line : ℕ) → line_bit c Free v bits line ≡ driven_bit c Free v bits line
unfolding line_bit
free_driven c v bits line = refl

-- ---- before the first event

module _ (good : GoodSim) (rows : List (List Bool)) (width : length rows ≡ line_count good.circuit) (clear : AreFalseBut [] rows) where
  pub same_bits : (lane : ℕ) (free : List Bool) → IsFreeLane good lane free → turned_bits free rows lane ≡ free
  same_bits lane free at =
      ext_get_or false (turned_bits free rows lane) free (length-turned free rows lane ∙ width ∙ sym at.agrees.whole)
      (λ line h.
      let inside : line < length rows = subst (λ n. line < n) (length-turned free rows lane) h in
      turned_at free rows lane line inside ∙ inverted_none (bit_at free line) (bit_at (get_or rows line []) lane) (clear line inside (none_in line) lane at.within))

  pub settled_start : (line : ℕ) → line < line_count good.circuit → IsSettled good rows line
  settled_start line inside lane free at =
      let c = good.circuit in
      let v = vector_at good lane in
      let same = same_bits lane free at in
      ap (λ bits. bit_at bits line) same ∙ at.agrees.each line inside ∙ free_driven c v free line ∙ ap (λ bits. driven_bit c Free v bits line) (sym same)

-- ---- one line gets a row

module _ (good : GoodSim) (is : IsCircuit good.circuit) (rows : List (List Bool)) (line : ℕ) (row : List Bool) (width : length rows ≡ line_count good.circuit) (inside : line < length rows) where
  other_bits : (lane : ℕ) (free : List Bool) (k : ℕ) → k < line_count good.circuit → k ≢ line → bit_at (turned_bits free (set rows line row) lane) k ≡ bit_at (turned_bits free rows lane) k
  other_bits lane free k h ne =
      let new = set rows line row in
      let before : k < length rows = omega (arith, width) in
      let there : k < length new = omega (arith, length-set rows line row) in
      turned_at free new lane k there ∙ ap (λ r. inverted (bit_at free k) (bit_at r lane)) (get_or-set_other rows line k row [] ne) ∙ sym (turned_at free rows lane k before)

  -- the line itself, whose gate doesn't read it
  pub settled_here : ((lane : ℕ) (free : List Bool) → IsFreeLane good lane free → inverted (bit_at free line) (bit_at row lane) ≡ driven_bit good.circuit Free (vector_at good lane) (turned_bits free rows lane) line)
      → IsSettled good (set rows line row) line
  settled_here change lane free at =
      let new = set rows line row in
      let there : line < length new = omega (arith, length-set rows line row) in
      turned_at free new lane line there ∙ ap (λ r. inverted (bit_at free line) (bit_at r lane)) (get_or-set_same rows line row [] inside) ∙ change lane free at
      ∙ stays good.circuit (vector_at good lane) (turned_bits free rows lane) (turned_bits free new lane) line
      (λ read m. sym (other_bits lane free read (pins_inside good.circuit is line read m)
      (λ own. let rises = is.acyclic.rises line line (subst (λ r. Feeds good.circuit r line) own m) in omega (arith, rises))))

  -- a line whose gate doesn't read it
  pub settled_apart : (l : ℕ) → l < line_count good.circuit → l ≢ line → (Feeds good.circuit line l → ⊥) → IsSettled good rows l → IsSettled good (set rows line row) l
  settled_apart l within ne unread settled lane free at =
      other_bits lane free l within ne ∙ settled lane free at
      ∙ stays good.circuit (vector_at good lane) (turned_bits free rows lane) (turned_bits free (set rows line row) lane) l
      (λ read m. sym (other_bits lane free read (pins_inside good.circuit is l read m) (λ own. unread (subst (λ r. Feeds good.circuit r l) own m))))

-- a line that keeps its row is settled if the row is what its gate gives
pub settled_same : (good : GoodSim) (rows : List (List Bool)) (line : ℕ) (row : List Bool) → line < length rows
    → ((lane : ℕ) (free : List Bool) → IsFreeLane good lane free → inverted (bit_at free line) (bit_at row lane) ≡ driven_bit good.circuit Free (vector_at good lane) (turned_bits free rows lane) line)
    → ((lane : ℕ) → lane < LANES → bit_at (get_or rows line []) lane ≡ bit_at row lane) → IsSettled good rows line
settled_same good rows line row inside change same lane free at = turned_at free rows lane line inside ∙ ap (inverted (bit_at free line)) (same lane at.within) ∙ change lane free at

-- if all readers of a line wait, a gate that doesn't wait doesn't read it
pub idle_unread : (c : Circuit) (w : Wiring) → IsWiring c w → (queue : List Bool) (line : ℕ) → ((n : ℕ) → Contains (get_or w.readers line []) n → is_pending queue n ≡ true) → (l : ℕ) → IsIdle w.order queue l → Feeds c line l → ⊥
idle_unread c w wired queue line woken l idle feeds =
    let order = w.order in
    let gate = reader_is_gate c line l feeds in
    let found = order_has c (fits_from c wired.circuit) order wired.order l gate.0 gate.1 in
    let place = found.0 in
    let there : get_or order place 0 ≡ l = get_or_default order place 0 l found.1 ∙ found.2 in
    true_false (is_pending queue place) (woken place (wired.readers.all line place found.1 (subst (λ r. Feeds c line r) (sym there) feeds))) (idle place found.1 there)

pub past_set : (good : GoodSim) (rows : List (List Bool)) (line : ℕ) (row : List Bool) → AreFalsePast good rows → IsFalsePast good row → AreFalsePast good (set rows line row)
past_set good rows line row was here k inside =
    let old : k < length rows = omega (arith, length-set rows line row) in
    elim (cases_eq k line) [
      | inl same ↦
          let P : ℕ → Type 0 = λ j. IsFalsePast good (get_or (set rows line row) j []) in
          subst P (sym same) (subst (IsFalsePast good) (sym (get_or-set_same rows line row [] (subst (λ j. j < length rows) same old))) here)
      | inr ne ↦ subst (IsFalsePast good) (sym (get_or-set_other rows line k row [] ne)) (was k old)
    ]
