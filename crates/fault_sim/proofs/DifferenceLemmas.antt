-- Where the answers differ, from what the positions show.
use Rattle.std.proofs.Common.{◌≡◌, ◌≢◌, ℕ, ◌<◌, ◌≤◌, List, [], length, get_or, refl, sym, ◌∙◌, ap, subst, arith, inl, inr}
use Rattle.std.specs.Prelude.{Bool, true, false, not, Option, Some, None, IsTrue, ◌&&◌, ◌==◌, ◌↔◌, unwrap_or, nat_lt}
use Rattle.std.specs.Bool.{then_some}
use Rattle.std.proofs.lemmas.Bool.{false≢true, cases_eq, ne_eqb, eq-eqb}
use Rattle.std.proofs.lemmas.Bool.Decides.{nat_tests}
use Rattle.net_model.specs.declared.fault.Site.TheVariants.{Stem}
use Rattle.net_model.specs.declared.fault.Fault.{Fault}
use Rattle.net_model.specs.declared.fault.Fault.TheVariants.{Free, Stuck}
use Rattle.net_model.specs.Gate.{inverted}
use Rattle.net_model.specs.Circuit.{Circuit, IsCircuit, line_count}
use Rattle.net_model.specs.Fault.{stuck_position}
use Rattle.net_model.specs.Answer.{bit_at, driven_bit, line_bit, IsAnswer, shown_bits, Agrees}
use Rattle.net_model.proofs.Copies.{Agrees-unique}
use Rattle.word_sim.specs.declared.lanes.TheConstants.{LANES}
use Rattle.word_sim.specs.GoodSim.{GoodSim, vectors_of}
use Rattle.fault_heads.specs.declared.head.Head.{Head}
use Rattle.fault_heads.specs.declared.head.Head.TheVariants as head
use Rattle.fault_heads.specs.Turned.{vector_at, IsFreeLane, IsLive, IsFalsePast, turned_if, TurnsHead}
use Rattle.fault_heads.proofs.SeenPins.{seen_at}
use Rattle.fault_heads.proofs.Turning.{stuck_here, untouched}
use Rattle.fault_sim.specs.Rows.{IsFalse}
use Rattle.fault_sim.specs.TurnedLines.{turned_bits}
use Rattle.fault_sim.specs.Events.{AreOthersSettled, AreFalsePast, IsSameRow, row_shown}
use Rattle.fault_sim.specs.FaultSim.{IsDifference, AreDifferences, AreTurnedDifferences}
use Rattle.fault_sim.proofs.TurnedLemmas.{length-turned, turned_at}
use Rattle.fault_sim.proofs.SettledLemmas.{inverted_none, free_driven}

-- ---- bits

inverted_differs : (bit turn : Bool) → IsTrue turn ↔ (inverted bit turn ≢ bit)
inverted_differs true true = (λ t e. false≢true e, λ ne. refl)
inverted_differs true false = (λ t e. false≢true t, λ ne. absurd (ne refl))
inverted_differs false true = (λ t e. false≢true (sym e), λ ne. refl)
inverted_differs false false = (λ t e. false≢true t, λ ne. absurd (ne refl))

inverted_one : (a b : Bool) → b ≡ true → inverted a b ≡ not a
inverted_one true true e = refl
inverted_one true false e = absurd (false≢true e)
inverted_one false true e = refl
inverted_one false false e = absurd (false≢true e)

and_true : (a b : Bool) → b ≡ true → (a && b) ≡ a
and_true true true e = refl
and_true true false e = e
and_true false b e = refl

and_false : (a b : Bool) → b ≡ false → (a && b) ≡ false
and_false true b e = e
and_false false b e = refl

same_test : (n : ℕ) → (n == n) ≡ true
same_test n = eq-eqb n n refl

-- ---- in one lane

-- what an answer has at a position
answer_at : (c : Circuit) → IsCircuit c → (f : Fault) (v answer bits : List Bool) → IsAnswer c f v answer → Agrees c f v bits → (position : ℕ) → position < length c.positions
    → bit_at answer position ≡ unwrap_or (stuck_position f position) (bit_at bits (get_or c.positions position 0))
answer_at c is f v answer bits a agrees position h =
    ap (λ xs. bit_at xs position) (a.shows ∙ ap (shown_bits c f) (Agrees-unique c is f v a.bits bits a.agrees agrees))
    ∙ seen_at (stuck_position f) bits c.positions position h

-- the answers differ at a position exactly if what it shows is turned
difference_is : (c : Circuit) → IsCircuit c → (f : Fault) (v bits free : List Bool) → Agrees c f v bits → Agrees c Free v free → (position : ℕ) → position < length c.positions → (bit : Bool)
    → unwrap_or (stuck_position f position) (bit_at bits (get_or c.positions position 0)) ≡ inverted (bit_at free (get_or c.positions position 0)) bit → IsDifference c f v position bit
difference_is c is f v bits free faulty plain position h bit turns answer without a b =
    let line = get_or c.positions position 0 in
    let turned : inverted (bit_at free line) bit ≡ bit_at answer position = sym turns ∙ sym (answer_at c is f v answer bits a faulty position h) in
    let same : bit_at without position ≡ bit_at free line = answer_at c is Free v without free b plain position h in
    let P : Bool → Bool → Type 0 = λ x y. IsTrue bit ↔ (x ≢ y) in
    subst (λ y. P (bit_at answer position) y) (sym same) (subst (λ x. P x (bit_at free line)) turned (inverted_differs (bit_at free line) bit))

-- a valuation agrees under a stuck stem if the stem's line has the stuck bit and all other lines have what gates give
-- them
agrees_stem : (c : Circuit) (v bits : List Bool) (head : ℕ) (value : Bool) → length bits ≡ line_count c → bit_at bits head ≡ value
    → ((line : ℕ) → line < line_count c → line ≢ head → bit_at bits line ≡ driven_bit c Free v bits line) → Agrees c (Stuck (Stem head) value) v bits
agrees_stem c v bits head value whole here others =
    let f = Stuck (Stem head) value in
    record {
      whole = whole;
      each = λ line inside. elim (cases_eq line head) [
        | inl same ↦ subst (λ k. bit_at bits k ≡ line_bit c f v bits k) (sym same) (here ∙ sym (stuck_here c value v bits head))
        | inr ne ↦
            let apart : ◌≡◌ {A = Option ℕ} (Some head) (Some line) → ⊥ = λ e. let same : head ≡ line = cc in ne (sym same) in
            others line inside ne ∙ sym (untouched c f v bits line apart ∙ free_driven c v bits line)
      ];
    }

-- ---- a line that is turned

module _ (good : GoodSim) (is : IsCircuit good.circuit) (at : ℕ) (lines : List (List Bool)) (width : length lines ≡ line_count good.circuit) (inside : at < length lines) (settled : AreOthersSettled good at lines) where
  agrees_turned : (lane : ℕ) (free : List Bool) → IsFreeLane good lane free → (turned : Bool) → bit_at (get_or lines at []) lane ≡ turned
      → Agrees good.circuit (turned_if good.circuit free (head.Line at) turned) (vector_at good lane) (turned_bits free lines lane)
  agrees_turned lane free lives true e =
      agrees_stem good.circuit (vector_at good lane) (turned_bits free lines lane) at (not (bit_at free at)) (length-turned free lines lane ∙ width)
      (turned_at free lines lane at inside ∙ inverted_one (bit_at free at) (bit_at (get_or lines at []) lane) e)
      (λ line below ne. settled line below ne lane free lives)
  agrees_turned lane free lives false e =
      let c = good.circuit in
      let v = vector_at good lane in
      let bits = turned_bits free lines lane in
      let own = bit_at free at in
      let kept : Agrees c (Stuck (Stem at) own) v bits =
      agrees_stem c v bits at own (length-turned free lines lane ∙ width)
      (turned_at free lines lane at inside ∙ inverted_none (bit_at free at) (bit_at (get_or lines at []) lane) e)
      (λ line below ne. settled line below ne lane free lives) in
      let plain : Agrees c (Stuck (Stem at) own) v free = agrees_stem c v free at own lives.agrees.whole refl (λ line below ne. lives.agrees.each line below ∙ free_driven c v free line) in
      subst (Agrees c Free v) (Agrees-unique c is (Stuck (Stem at) own) v free bits plain kept) lives.agrees

shows_line : (c : Circuit) (free : List Bool) (at position : ℕ) (turned : Bool) → stuck_position (turned_if c free (head.Line at) turned) position ≡ None
shows_line c free at position true = refl
shows_line c free at position false = refl

pub line_differences : (good : GoodSim) → IsCircuit good.circuit → (at : ℕ) (lanes : List Bool) (lines rows : List (List Bool)) → length lines ≡ line_count good.circuit → at < line_count good.circuit
    → AreOthersSettled good at lines → AreFalsePast good lines → ((lane : ℕ) → lane < LANES → lane < length (vectors_of good) → bit_at (get_or lines at []) lane ≡ bit_at lanes lane)
    → length rows ≡ length good.circuit.positions → ((position : ℕ) → position < length good.circuit.positions → IsSameRow (get_or rows position []) (row_shown good.circuit.positions lines position))
    → AreTurnedDifferences good (head.Line at) lanes rows
line_differences good is at lanes lines rows width low settled past turned whole shown =
    let c = good.circuit in
    let line_in : (position : ℕ) → position < length c.positions → get_or c.positions position 0 < length lines = λ position h. omega (arith, width, is.positions position 0 h) in
    record {
      whole = whole;
      live = λ position lane free h lives.
          let bit = bit_at lanes lane in
          let f = turned_if c free (head.Line at) bit in
          let bits = turned_bits free lines lane in
          let line = get_or c.positions position 0 in
          difference_is c is f (vector_at good lane) bits free
          (agrees_turned good is at lines width (omega (arith, width)) settled lane free lives bit (turned lane lives.within lives.live)) lives.agrees position h (bit_at (get_or rows position []) lane)
          (ap (λ o. unwrap_or o (bit_at bits line)) (shows_line c free at position bit) ∙ turned_at free lines lane line (line_in position h) ∙ ap (inverted (bit_at free line)) (sym (shown position h lane lives.within)));
      past = λ position lane h above within. shown position h lane within ∙ past (get_or c.positions position 0) (line_in position h) lane above within;
    }

-- ---- a position that is turned

agrees_position : (c : Circuit) (v free bits : List Bool) (at : ℕ) (turned : Bool) → Agrees c Free v bits → Agrees c (turned_if c free (head.Position at) turned) v bits
unfolding line_bit driven_bit
agrees_position c v free bits at true agrees = record { whole = agrees.whole; each = λ line h. agrees.each line h }
agrees_position c v free bits at false agrees = agrees

shows_itself : (c : Circuit) (free : List Bool) (at : ℕ) (turned : Bool) → unwrap_or (stuck_position (turned_if c free (head.Position at) turned) at) (bit_at free (get_or c.positions at 0)) ≡ inverted (bit_at free (get_or c.positions at 0)) turned
shows_itself c free at true =
    let bit = bit_at free (get_or c.positions at 0) in
    ap (λ b. unwrap_or (then_some b (not bit)) bit) (same_test at) ∙ sym (inverted_one bit true refl)
shows_itself c free at false = sym (inverted_none (bit_at free (get_or c.positions at 0)) false refl)

shows_other : (c : Circuit) (free : List Bool) (at position : ℕ) (turned : Bool) → position ≢ at → stuck_position (turned_if c free (head.Position at) turned) position ≡ None
shows_other c free at position true ne = ap (λ b. then_some b (not (bit_at free (get_or c.positions at 0)))) (ne_eqb at position (λ e. ne (sym e)))
shows_other c free at position false ne = refl

pub position_differences : (good : GoodSim) → IsCircuit good.circuit → (at : ℕ) (lanes : List Bool) (rows : List (List Bool)) → IsFalsePast good (get_or rows at [])
    → ((lane : ℕ) → lane < LANES → lane < length (vectors_of good) → bit_at (get_or rows at []) lane ≡ bit_at lanes lane)
    → length rows ≡ length good.circuit.positions → ((position : ℕ) → position < length rows → position ≢ at → IsFalse (get_or rows position [])) → AreTurnedDifferences good (head.Position at) lanes rows
position_differences good is at lanes rows past turned whole others =
    let c = good.circuit in
    record {
      whole = whole;
      live = λ position lane free h lives.
          let v = vector_at good lane in
          let bit = bit_at lanes lane in
          let f = turned_if c free (head.Position at) bit in
          let shows : unwrap_or (stuck_position f position) (bit_at free (get_or c.positions position 0)) ≡ inverted (bit_at free (get_or c.positions position 0)) (bit_at (get_or rows position []) lane) =
          elim (cases_eq position at) [
            | inl same ↦ subst (λ k. unwrap_or (stuck_position f k) (bit_at free (get_or c.positions k 0)) ≡ inverted (bit_at free (get_or c.positions k 0)) (bit_at (get_or rows k []) lane)) (sym same)
                (shows_itself c free at bit ∙ ap (inverted (bit_at free (get_or c.positions at 0))) (sym (turned lane lives.within lives.live)))
            | inr ne ↦
                let line = get_or c.positions position 0 in
                ap (λ o. unwrap_or o (bit_at free line)) (shows_other c free at position bit ne)
                ∙ sym (inverted_none (bit_at free line) (bit_at (get_or rows position []) lane) (others position (omega (arith, whole)) ne lane lives.within))
          ] in
          difference_is c is f v free free (agrees_position c v free free at bit lives.agrees) lives.agrees position h (bit_at (get_or rows position []) lane) shows;
      past = λ position lane h above within. elim (cases_eq position at) [
        | inl same ↦ subst (λ k. bit_at (get_or rows k []) lane ≡ false) (sym same) (past lane above within)
        | inr ne ↦ others position (omega (arith, whole)) ne lane within
      ];
    }

-- ---- nothing is turned

pub no_differences : (good : GoodSim) → IsCircuit good.circuit → (at : Head) (lanes : List Bool) (rows : List (List Bool)) → ((lane : ℕ) → lane < LANES → lane < length (vectors_of good) → bit_at lanes lane ≡ false)
    → length rows ≡ length good.circuit.positions → ((position : ℕ) → position < length rows → IsFalse (get_or rows position [])) → AreTurnedDifferences good at lanes rows
no_differences good is at lanes rows unasked whole none =
    let c = good.circuit in
    record {
      whole = whole;
      live = λ position lane free h lives.
          let v = vector_at good lane in
          let line = get_or c.positions position 0 in
          let bit = bit_at (get_or rows position []) lane in
          subst (λ b. IsDifference c (turned_if c free at b) v position bit) (sym (unasked lane lives.within lives.live))
          (difference_is c is Free v free free lives.agrees lives.agrees position h bit (sym (inverted_none (bit_at free line) bit (none position (omega (arith, whole)) lane lives.within))));
      past = λ position lane h above within. none position (omega (arith, whole)) lane within;
    }

-- ---- lanes that are given and have a vector

module _ (good : GoodSim) (lanes live turned : List Bool) (lives : IsLive good live) (both : (lane : ℕ) → lane < LANES → bit_at turned lane ≡ (bit_at lanes lane && bit_at live lane)) where
  pub asked_live : (lane : ℕ) → lane < LANES → lane < length (vectors_of good) → bit_at turned lane ≡ bit_at lanes lane
  asked_live lane within below =
      let test : nat_lt lane (length (vectors_of good)) ≡ true = grind (arith, nat_tests) in
      both lane within ∙ and_true (bit_at lanes lane) (bit_at live lane) (lives lane within ∙ test)

  pub asked_past : IsFalsePast good turned
  asked_past lane above within =
      let test : nat_lt lane (length (vectors_of good)) ≡ false = grind (arith, nat_tests) in
      both lane within ∙ and_false (bit_at lanes lane) (bit_at live lane) (lives lane within ∙ test)

-- ---- a fault, by what it turns

pub fault_differences : (good : GoodSim) (f : Fault) (at : Head) (lanes : List Bool) (rows : List (List Bool)) → length (vectors_of good) ≤ LANES → TurnsHead good f at lanes → AreTurnedDifferences good at lanes rows
    → AreDifferences good.circuit f (vectors_of good) rows
fault_differences good f at lanes rows few turns turned = record {
  whole = turned.whole;
  live = λ position lane h below answer without a b.
      let lives : IsFreeLane good lane b.bits = record { within = omega (arith, below, few); live = below; agrees = b.agrees } in
      turned.live position lane b.bits h lives answer without (turns lane b.bits answer lives a) b;
  past = turned.past;
}

pub free_differences : (c : Circuit) → IsCircuit c → (vectors rows : List (List Bool)) → length rows ≡ length c.positions → ((position : ℕ) → position < length rows → IsFalse (get_or rows position []))
    → length vectors ≤ LANES → AreDifferences c Free vectors rows
free_differences c is vectors rows whole none few = record {
  whole = whole;
  live = λ position lane h below answer without a b.
      let v = get_or vectors lane [] in
      let line = get_or c.positions position 0 in
      let bit = bit_at (get_or rows position []) lane in
      let within : lane < LANES = omega (arith, below, few) in
      difference_is c is Free v b.bits b.bits b.agrees b.agrees position h bit (sym (inverted_none (bit_at b.bits line) bit (none position (omega (arith, whole, h)) lane within))) answer without a b;
  past = λ position lane h above within. none position (omega (arith, whole, h)) lane within;
}
