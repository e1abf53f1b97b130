-- Lines that are settled: after one event, and once no gate waits.
use Rattle.std.proofs.Common.{◌≡◌, ◌≢◌, ℕ, ◌+◌, ◌<◌, ◌≤◌, List, [], length, get_or, set, refl, sym, ◌∙◌, ap, subst, arith, inl, inr}
use Rattle.std.specs.Prelude.{◌⊎◌, Bool, true, false, All, Contains}
use Rattle.std.proofs.lemmas.List.Elements.{Contains-get_or}
use Rattle.std.proofs.lemmas.Bool.{cases_eq, false_from_ne_true}
use Rattle.std.proofs.lemmas.List.{get_or-set_same, get_or-set_other, get_or_default}
use Rattle.net_model.specs.declared.fault.Fault.{Fault}
use Rattle.net_model.specs.Circuit.{Circuit, IsCircuit, line_count, Feeds}
use Rattle.net_model.proofs.Orders.{order_has, order_only, reader_is_gate}
use Rattle.net_model.proofs.SetSoFar.{fits_from}
use Rattle.net_model.proofs.Places.{later_place}
use Rattle.net_model.proofs.Elements.{true_false}
use Rattle.pair_sets.specs.PairSet.{PairSet, free_pairs, IsWithin}
use Rattle.pair_sets.specs.CubeState.{set_at}
use Rattle.event_queue.specs.Pending.{is_pending, IsLowest, IsIdle}
use Rattle.event_queue.proofs.Marks.{lowest_left, pending_within}
use Rattle.net_model.specs.Wiring.{Wiring, IsWiring}
use Rattle.pair_sets.specs.Events.{gate_line_pairs, ArePairsSettled, AreLoose, ReadersWait, WakesOnly, AreWoken, WakesReaders}
use Rattle.pair_sets.proofs.PairLemmas.{within_same, within_more}
use Rattle.pair_sets.proofs.SeenLemmas.{same_line_pairs, fewer_line_pairs}

-- ---- gates that wait

-- no reader of a line whose readers wait is idle
pub woken_waits : (c : Circuit) → IsCircuit c → (wiring : Wiring) → IsWiring c wiring → (line : ℕ) (more : List Bool)
    → ReadersWait c wiring.order line more → (l : ℕ) → Feeds c line l → IsIdle wiring.order more l → ⊥
woken_waits c w wiring wired line more woken l feeds idle =
    let order = wiring.order in
    let gate = reader_is_gate c line l feeds in
    let found = order_has c (fits_from c w) order wired.order l gate.0 gate.1 in
    let place = found.0 in
    let there : get_or order place 0 ≡ l = get_or_default order place 0 l found.1 ∙ found.2 in
    true_false (is_pending more place) (woken place found.1 (subst (Feeds c line) (sym there) feeds)) (idle place found.1 there)

-- if the gates that waited still do, an idle gate was idle before
pub idle_before : (order : List ℕ) (queue more : List Bool) → ((place : ℕ) → is_pending queue place ≡ true → is_pending more place ≡ true) → (l : ℕ) → IsIdle order more l → IsIdle order queue l
idle_before order queue more kept l idle = λ place h e. false_from_ne_true (is_pending queue place) (λ t. true_false (is_pending more place) (kept place t) (idle place h e))

-- the readers of a line are places of the order
pub readers_within : (c : Circuit) (wiring : Wiring) → IsWiring c wiring → (line : ℕ) (readers : List ℕ) → readers ≡ get_or wiring.readers line [] → All (λ place. place < length wiring.order) readers
readers_within c wiring wired line readers are = λ k d h.
    wired.readers.below line (get_or readers k d) (subst (λ us. Contains us (get_or readers k d)) are (Contains-get_or readers k d h))

-- if the readers of a line are added to the queue, they are woken
pub readers_woken : (c : Circuit) (wiring : Wiring) → IsWiring c wiring → (line : ℕ) (readers : List ℕ) → readers ≡ get_or wiring.readers line [] → (queue more : List Bool)
    → ((place : ℕ) → is_pending queue place ≡ true → is_pending more place ≡ true) → ((place : ℕ) → is_pending more place ≡ true → (is_pending queue place ≡ true) ⊎ Contains readers place)
    → ((place : ℕ) → Contains readers place → is_pending more place ≡ true) → AreWoken c wiring.order line queue more
readers_woken c wiring wired line readers are queue more kept only here =
    let users = wired.readers in
    record {
      others = record {
        kept = kept;
        only = λ place t. elim (only place t) [
          | inl was ↦ inl was
          | inr woken ↦
              let has = subst (λ us. Contains us place) are woken in
              inr (users.below line place has, users.only line place has)
        ];
      };
      readers = λ place h feeds. here place (subst (λ us. Contains us place) (sym are) (users.all line place h feeds));
    }

-- ---- one line is settled

module _ (c : Circuit) (f g : Fault) (w : IsCircuit c) (sets : List PairSet) (line : ℕ) (pairs : PairSet) (inside : line < length sets)
    (right : c.sources ≤ line → pairs ≡ gate_line_pairs c f g sets line) where
  here : set_at (set sets line pairs) line ≡ pairs
  here = get_or-set_same sets line pairs free_pairs inside

  other : (l : ℕ) → l ≢ line → set_at (set sets line pairs) l ≡ set_at sets l
  other l ne = get_or-set_other sets line l pairs free_pairs ne

  pub fewer_after : IsWithin pairs (set_at sets line) → (l : ℕ) → IsWithin (set_at (set sets line pairs) l) (set_at sets l)
  fewer_after fewer l = elim (cases_eq l line) [
    | inl same ↦
        let P : ℕ → Type 0 = λ k. IsWithin (set_at (set sets line pairs) k) (set_at sets k) in
        subst P (sym same) (subst (λ s. IsWithin s (set_at sets line)) (sym here) fewer)
    | inr ne ↦ within_same (set_at (set sets line pairs) l) (set_at sets l) (other l ne)
  ]

  pub loose_after : IsWithin pairs (set_at sets line) → AreLoose c f g sets → AreLoose c f g (set sets line pairs)
  loose_after fewer loose l above below =
      let new = set sets line pairs in
      let narrow : IsWithin (gate_line_pairs c f g new l) (gate_line_pairs c f g sets l) = fewer_line_pairs c f g [] new sets l (λ read m. fewer_after fewer read) in
      elim (cases_eq l line) [
        | inl same ↦
            let P : ℕ → Type 0 = λ k. IsWithin (gate_line_pairs c f g new l) (set_at new k) in
            let at : gate_line_pairs c f g sets l ≡ set_at new line = ap (gate_line_pairs c f g sets) same ∙ sym (right (subst (λ n. c.sources ≤ n) same above)) ∙ sym here in
            subst P (sym same) (subst (IsWithin (gate_line_pairs c f g new l)) at narrow)
        | inr ne ↦
            within_more (gate_line_pairs c f g new l) (gate_line_pairs c f g sets l) (set_at new l) narrow
            (subst (IsWithin (gate_line_pairs c f g sets l)) (sym (other l ne)) (loose l above below))
      ]

  -- its own gate reads other lines
  not_own : (l read : ℕ) → l ≡ line → Feeds c read l → read ≢ line
  not_own l read same m own =
      let rises : w.acyclic.rank read < w.acyclic.rank l = w.acyclic.rises read l m in
      let equal : w.acyclic.rank read ≡ w.acyclic.rank l = ap w.acyclic.rank (own ∙ sym same) in
      omega arith

  module _ (wiring : Wiring) (wired : IsWiring c wiring) (queue more : List Bool) where
    -- what an idle line reads has stayed, or is the line itself
    reads_stay : WakesReaders c wiring.order line (set_at sets line) pairs queue more → (l : ℕ) → IsIdle wiring.order more l → (read : ℕ) → Feeds c read l → set_at sets read ≡ set_at (set sets line pairs) read
    reads_stay wakes l idle read m = elim (cases_eq read line) [
      | inl own ↦ elim wakes.readers [
        | inl same ↦
            let P : ℕ → Type 0 = λ k. set_at sets k ≡ set_at (set sets line pairs) k in
            subst P (sym own) (same ∙ sym here)
        | inr woken ↦ absurd (woken_waits c w wiring wired line more woken l (subst (λ r. Feeds c r l) own m) idle)
      ]
      | inr ne ↦ sym (other read ne)
    ]

    pub settled_line : WakesReaders c wiring.order line (set_at sets line) pairs queue more
        → (l : ℕ) → (l ≡ line → pairs ≡ gate_line_pairs c f g sets line) → (l ≢ line → IsIdle wiring.order queue l → set_at sets l ≡ gate_line_pairs c f g sets l)
        → IsIdle wiring.order more l → set_at (set sets line pairs) l ≡ gate_line_pairs c f g (set sets line pairs) l
    settled_line wakes l own settled idle =
        let new = set sets line pairs in
        elim (cases_eq l line) [
          | inl same ↦
              let P : ℕ → Type 0 = λ k. set_at new k ≡ gate_line_pairs c f g new k in
              subst P (sym same) (here ∙ own same ∙ same_line_pairs c f g [] sets new line (λ read m. sym (other read (not_own line read refl m))))
          | inr ne ↦ other l ne ∙ settled ne (idle_before wiring.order queue more wakes.others.kept l idle) ∙ same_line_pairs c f g [] sets new l (reads_stay wakes l idle)
        ]

    pub settled_after : WakesReaders c wiring.order line (set_at sets line) pairs queue more
        → ((l : ℕ) → c.sources ≤ l → l < line_count c → l ≢ line → IsIdle wiring.order queue l → set_at sets l ≡ gate_line_pairs c f g sets l)
        → ArePairsSettled c f g wiring.order more (set sets line pairs)
    settled_after wakes settled l above below idle = settled_line wakes l (λ same. right (subst (λ n. c.sources ≤ n) same above)) (settled l above below) idle

-- ---- along the order

-- the line of the gate at a place
pub ordered_line : (c : Circuit) (wiring : Wiring) → IsWiring c wiring → (order : List ℕ) → order ≡ wiring.order → (place : ℕ) → place < length wiring.order
    → (c.sources ≤ get_or order place 0) × (get_or order place 0 < line_count c) × (get_or order place 0 ≡ get_or wiring.order place 0)
ordered_line c wiring wired order e place h =
    let is : get_or order place 0 ≡ get_or wiring.order place 0 = ap (λ o. get_or o place 0) e in
    let range = order_only c (fits_from c wired.circuit) wiring.order wired.order place h in
    (subst (λ l. c.sources ≤ l) (sym is) range.0, subst (λ l. l < line_count c) (sym is) range.1, is)

-- the line of a gate that waits
pub waiting_line : (c : Circuit) (wiring : Wiring) → IsWiring c wiring → (order : List ℕ) → order ≡ wiring.order → (queue : List Bool) → length queue ≡ length wiring.order → (place : ℕ) → is_pending queue place ≡ true
    → (c.sources ≤ get_or order place 0) × (get_or order place 0 < line_count c) × (get_or order place 0 ≡ get_or wiring.order place 0)
waiting_line c wiring wired order e queue room place waits = ordered_line c wiring wired order e place (omega (arith, pending_within queue place waits, room))

-- once a gate is taken and the readers of its line wait, no place up to its own waits
pub none_before : (c : Circuit) (wiring : Wiring) → IsWiring c wiring → (place line : ℕ) (queue taken more : List Bool) → place < length wiring.order → line ≡ get_or wiring.order place 0
    → IsLowest queue taken place → WakesOnly c wiring.order line taken more → (p : ℕ) → p < place + 1 → is_pending more p ≡ false
none_before c wiring wired place line queue taken more within at lowest wakes p h =
    false_from_ne_true (is_pending more p)
    (λ t.
    let later : place < p = elim (wakes.only p t) [
      | inl was ↦ (lowest_left queue taken place lowest p was).0
      | inr (inside, feeds) ↦ later_place c wiring wired place p within inside (subst (λ l. Feeds c l (get_or wiring.order p 0)) at feeds)
    ] in
    omega arith)
