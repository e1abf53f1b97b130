-- The pairs of two faults, computed from those of the circuit without faults: they differ on split lines only, and are
-- complete once no gate waits.
use Rattle.std.proofs.Common.{◌≡◌, ◌≢◌, ℕ, zero, suc, ◌<◌, List, [], length, get_or, set, refl, sym, ◌∙◌, ap, subst, arith, inl, inr}
use Rattle.std.specs.Prelude.{Bool, true, false, Option, None, Some, ◌==◌, ◌||◌}
use Rattle.std.specs.Cmp.{both_ways}
use Rattle.std.specs.Option.{option_map_or}
use Rattle.std.proofs.lemmas.Bool.{cases_eq, cases_lt, eq-eqb, ne_eqb, or_from, or_left, or_right, or_parts}
use Rattle.std.proofs.lemmas.List.{get_or-set_same, get_or-set_other, get_or_past}
use Rattle.net_model.specs.declared.gate.Gate.{Gate}
use Rattle.net_model.specs.declared.fault.Fault.{Fault}
use Rattle.net_model.specs.declared.fault.Fault.TheVariants.{Free}
use Rattle.net_model.specs.Circuit.{Circuit, IsCircuit, line_count, gate_at, Feeds}
use Rattle.net_model.specs.Answer.{bit_at}
use Rattle.net_model.specs.Scope.{first_changed, is_split, leads_to, reaches_line}
use Rattle.net_model.specs.Wiring.{Wiring, IsWiring}
use Rattle.net_model.proofs.Copies.{pins_inside, same_readings}
use Rattle.net_model.proofs.Elements.{true_false}
use Rattle.net_model.proofs.ScopeLaws.{leads_here, marked_split, none_split, split_is_closed}
use Rattle.fault_list.specs.Scope.{AreMarksOfTest, is_first_changed, begins_at}
use Rattle.event_queue.specs.Pending.{is_pending, IsEmpty, IsLowest, IsIdle}
use Rattle.event_queue.proofs.Marks.{lowest_left}
use Rattle.pair_sets.specs.PairSet.{PairSet, forced_pairs, gate_pairs}
use Rattle.pair_sets.specs.CubeState.{set_at, source_pairs, seen_pairs, line_pairs, ArePairSets}
use Rattle.pair_sets.specs.Events.{AreWoken, WakesReaders}
use Rattle.pair_sets.specs.Spread.{IsSpread}
use Rattle.pair_sets.proofs.EventLemmas.{woken_waits, idle_before, settled_line}
use Rattle.pair_sets.proofs.Elsewhere.{StickNothing, stick_nothing}
use Rattle.pair_sets.proofs.SeenLemmas.{pin_set, same_line_pairs}

-- ---- faults elsewhere

module _ (c : Circuit) (f g : Fault) (sets : List PairSet) (line : ℕ) (nothing : StickNothing f g line) where
  unstuck_driven : (o : Option Gate) → option_map_or (λ gate. gate_pairs gate.kind (seen_pairs f g sets line gate.pins)) o (source_pairs [] line) ≡ option_map_or (λ gate. gate_pairs gate.kind (seen_pairs Free Free sets line gate.pins)) o (source_pairs [] line)
  unstuck_driven None = refl
  unstuck_driven (Some gate) =
      ap (gate_pairs gate.kind)
      (same_readings (pin_set f g sets line) (pin_set Free Free sets line) gate.pins (λ place read m. λ i. forced_pairs (nothing.first_pins place i) (nothing.second_pins place i) (set_at sets read)))

  -- a line at which the faults stick nothing has the pairs that it has without faults
  unstuck_line : line_pairs c f g [] sets line ≡ line_pairs c Free Free [] sets line
  unfolding line_pairs
  unstuck_line = λ i. forced_pairs (nothing.first_stem i) (nothing.second_stem i) (unstuck_driven (gate_at c line) i)

unsplit_each : (c : Circuit) (f g : Fault) (line : ℕ) → is_split c f g line ≡ false → (is_split c f Free line ≡ false) × (is_split c g Free line ≡ false)
unfolding is_split reaches_line
unsplit_each c f g line e =
    let both = or_parts (reaches_line c f line) (reaches_line c g line) e in
    (or_from (reaches_line c f line) false both.0 refl, or_from (reaches_line c g line) false both.1 refl)

module _ (c : Circuit) (w : IsCircuit c) (f g : Fault) (x y : List PairSet) (are : ArePairSets c f g [] x) (base : ArePairSets c Free Free [] y) where
  unsplit_below : (n line : ℕ) → w.acyclic.rank line < n → line < line_count c → is_split c f g line ≡ false → set_at x line ≡ set_at y line
  unsplit_below zero line h inside e = absurd (omega arith)
  unsplit_below (suc n) line h inside e =
      let each = unsplit_each c f g line e in
      let first = split_is_closed c w.acyclic f Free in
      let second = split_is_closed c w.acyclic g Free in
      let nothing : StickNothing f g line = record {
        first_stem = first.stems line each.0;
        second_stem = second.stems line each.1;
        first_pins = first.pins line each.0;
        second_pins = second.pins line each.1;
      } in
      are.each line inside ∙ unstuck_line c f g x line nothing
      ∙ same_line_pairs c Free Free [] x y line (λ read m. unsplit_below n read (let lower : w.acyclic.rank read < w.acyclic.rank line = w.acyclic.rises read line m in omega arith) (pins_inside c w line read m) ((split_is_closed c w.acyclic f g).onward read line m e))
      ∙ sym (base.each line inside)

  -- a line that isn't split has the pairs that it has without faults
  pub unsplit_same : (line : ℕ) → line < line_count c → is_split c f g line ≡ false → set_at x line ≡ set_at y line
  unsplit_same line inside e = unsplit_below (suc (w.acyclic.rank line)) line (omega arith) inside e

-- ---- split lines

pub none_marked : (c : Circuit) (marks : List Bool) → AreMarksOfTest (is_split c Free Free) (line_count c) marks → (line : ℕ) → bit_at marks line ≡ false
none_marked c marks are line = elim (cases_lt line (line_count c)) [
  | inl below ↦ are.each line below ∙ none_split c Free Free line refl refl
  | inr past ↦ get_or_past marks line false (omega (arith, past, are.whole))
]

reached_first : (c : Circuit) (line : ℕ) (first : Option ℕ) → option_map_or (λ from. from == line) first false ≡ true → option_map_or (λ from. leads_to c from line) first false ≡ true
unfolding leads_to
reached_first c line None e = e
reached_first c line (Some from) e = leads_here c (length c.gates) from line e

-- the first line that one of two faults changes is split
pub split_first : (c : Circuit) (f g : Fault) (line : ℕ) → is_first_changed f line ≡ true → is_split c f g line ≡ true
unfolding is_split reaches_line
split_first c f g line e = or_left (reaches_line c f line) (reaches_line c g line) (reached_first c line (first_changed f) e)

pub split_second : (c : Circuit) (f g : Fault) (line : ℕ) → is_first_changed g line ≡ true → is_split c f g line ≡ true
unfolding is_split reaches_line
split_second c f g line e = or_right (reaches_line c f line) (reaches_line c g line) (reached_first c line (first_changed g) e)

-- a line whose gate reads a split line is split
split_onward : (c : Circuit) → IsCircuit c → (f g : Fault) (read line : ℕ) → Feeds c read line → is_split c f g read ≡ true → is_split c f g line ≡ true
split_onward c w f g read line m e = by (is_split c f g line) refl
  where
    by : (b : Bool) → is_split c f g line ≡ b → b ≡ true
    by true t = refl
    by false t = true_false (is_split c f g read) e ((split_is_closed c w.acyclic f g).onward read line m t)

-- ---- while gates wait

module _ (c : Circuit) (w : IsCircuit c) (f g : Fault) (wiring : Wiring) (wired : IsWiring c wiring) (queue marks : List Bool) (sets : List PairSet) where
  -- at first all lines are right except the first changed ones
  pub spread_none : ArePairSets c Free Free [] sets → IsEmpty queue → ((line : ℕ) → bit_at marks line ≡ false)
      → IsSpread c f g wiring.order (λ l. is_first_changed f l || (is_first_changed g l || false)) queue marks sets
  spread_none are none unmarked = record {
    settled = λ l h other idle.
        let first = or_parts (is_first_changed f l) (is_first_changed g l || false) other in
        let second = or_parts (is_first_changed g l) false first.1 in
        let nothing = stick_nothing f g l (or_from (is_first_changed f l) (is_first_changed g l) first.0 second.0) in
        are.each l h ∙ sym (unstuck_line c f g sets l nothing);
    begun = λ l t other.
        let first = or_parts (is_first_changed f l) (is_first_changed g l || false) other in
        let second = or_parts (is_first_changed g l) false first.1 in
        true_false (begins_at f g l) t (or_from (is_first_changed f l) (is_first_changed g l) first.0 second.0);
    onward = λ read reader m feeds other idle. true_false (bit_at marks read) m (unmarked read);
    split = λ l m. true_false (bit_at marks l) m (unmarked l);
    waiting = λ place t. true_false (is_pending queue place) t (none place);
  }

  module _ (line : ℕ) (but : ℕ → Bool) (spread : IsSpread c f g wiring.order (λ l. line == l || but l) queue marks sets) where
    excepted : (l : ℕ) → l ≢ line → but l ≡ false → (line == l || but l) ≡ false
    excepted l ne e = or_from (line == l) (but l) (ne_eqb line l (λ same. ne (sym same))) e

    -- one line more is right
    pub spread_more : (more : List Bool) → line < length sets → line < length marks → is_split c f g line ≡ true → AreWoken c wiring.order line queue more
        → IsSpread c f g wiring.order but more (set marks line true) (set sets line (line_pairs c f g [] sets line))
    spread_more more inside within split woken =
        let order = wiring.order in
        let pairs = line_pairs c f g [] sets line in
        let wakes : WakesReaders c order line (set_at sets line) pairs queue more = record { others = woken.others; readers = inr woken.readers } in
        let before : (l : ℕ) → IsIdle order more l → IsIdle order queue l = idle_before order queue more woken.others.kept in
        let here : bit_at (set marks line true) line ≡ true = get_or-set_same marks line true false within in
        let stays : (l : ℕ) → l ≢ line → bit_at marks l ≡ true → bit_at (set marks line true) l ≡ true = λ l ne m. get_or-set_other marks line l true false ne ∙ m in
        record {
          settled = λ l h free idle.
              settled_line c f g w sets line pairs inside (λ above. refl) wiring wired queue more wakes l (λ same. refl) (λ ne was. spread.settled l h (excepted l ne free) was) idle;
          begun = λ l t free. elim (cases_eq l line) [
            | inl same ↦ subst (λ k. bit_at (set marks line true) k ≡ true) (sym same) here
            | inr ne ↦ stays l ne (spread.begun l t (excepted l ne free))
          ];
          onward = λ read reader m feeds free idle. elim (cases_eq reader line) [
            | inl same ↦ subst (λ k. bit_at (set marks line true) k ≡ true) (sym same) here
            | inr ne ↦ elim (cases_eq read line) [
              | inl own ↦ absurd (woken_waits c w wiring wired line more woken.readers reader (subst (λ r. Feeds c r reader) own feeds) idle)
              | inr apart ↦ stays reader ne (spread.onward read reader (sym (get_or-set_other marks line read true false apart) ∙ m) feeds (excepted reader ne free) (before reader idle))
            ]
          ];
          split = λ l m. elim (cases_eq l line) [
            | inl same ↦ subst (λ k. is_split c f g k ≡ true) (sym same) split
            | inr ne ↦ spread.split l (sym (get_or-set_other marks line l true false ne) ∙ m)
          ];
          waiting = λ place t. elim (woken.others.only place t) [
            | inl was ↦ spread.waiting place was
            | inr (h, feeds) ↦ split_onward c w f g line (get_or order place 0) feeds split
          ];
        }

  module _ (spread : IsSpread c f g wiring.order (λ l. false) queue marks sets) where
    -- the gate that is taken next is the only one that isn't right
    pub spread_taken : (taken : List Bool) (place line : ℕ) → line ≡ get_or wiring.order place 0 → IsLowest queue taken place → IsSpread c f g wiring.order (λ l. line == l || false) taken marks sets
    spread_taken taken place line at lowest =
        let order = wiring.order in
        let was_idle : (l : ℕ) → (line == l || false) ≡ false → IsIdle order taken l → IsIdle order queue l =
        λ l other idle p h e.
        let apart : p ≢ place = λ same. true_false (line == l) (eq-eqb line l (at ∙ ap (λ k. get_or order k 0) (sym same) ∙ e)) (or_parts (line == l) false other).0 in
        sym (lowest.others p apart) ∙ idle p h e in
        record {
          settled = λ l h other idle. spread.settled l h refl (was_idle l other idle);
          begun = λ l t other. spread.begun l t refl;
          onward = λ read reader m feeds other idle. spread.onward read reader m feeds refl (was_idle reader other idle);
          split = spread.split;
          waiting = λ p t. spread.waiting p (lowest_left queue taken place lowest p t).1;
        }

    module _ (none : IsEmpty queue) where
      marked_first : (h : Fault) → ((l : ℕ) → is_first_changed h l ≡ true → begins_at f g l ≡ true) → (from : ℕ) → first_changed h ≡ Some from → bit_at marks from ≡ true
      marked_first h begins from e = spread.begun from (begins from (ap (λ o. option_map_or (λ l. l == from) o false) e ∙ eq-eqb from from refl)) refl

      marked : (line : ℕ) → is_split c f g line ≡ true → bit_at marks line ≡ true
      marked = marked_split c marks (λ read reader m feeds. spread.onward read reader m feeds refl (λ place h e. none place)) f g
          (marked_first f (λ l e. or_left (is_first_changed f l) (is_first_changed g l) e))
          (marked_first g (λ l e. or_right (is_first_changed f l) (is_first_changed g l) e))

      -- if no gate waits, exactly the split lines are marked
      pub spread_marks : length marks ≡ line_count c → AreMarksOfTest (is_split c f g) (line_count c) marks
      spread_marks whole = record {
        whole = whole;
        each = λ line h. both_ways (bit_at marks line) (is_split c f g line) (spread.split line) (marked line);
      }

      -- if no gate waits, each line has its pairs
      pub spread_sets : length sets ≡ line_count c → ArePairSets c f g [] sets
      spread_sets whole = record {
        whole = whole;
        each = λ line h. spread.settled line h refl (λ place k e. none place);
      }
