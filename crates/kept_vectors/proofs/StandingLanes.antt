-- A lane of a standing block: the numbers that its vector separates, those that wait there, and what stays right after
-- it is kept.
use Rattle.std.proofs.Common.{◌≡◌, ◌↔◌, ◌∙◌, ℕ, ◌+◌, ◌<◌, ◌⊎◌, Bool, true, false, List, [], ◌∷◌, length, get_or, refl, sym, ap, subst, arith, inl, inr}
use Rattle.std.specs.Prelude.{Contains}
use Rattle.std.proofs.lemmas.Bool.{cases_Bool, false≢true}
use Rattle.std.proofs.lemmas.List.{get_or_default}
use Rattle.std.proofs.lemmas.List.Elements.{Contains-get_or}
use Rattle.net_model.specs.Circuit.{IsCircuit}
use Rattle.net_model.specs.Answer.{bit_at, IsAnswer, Separates}
use Rattle.net_model.specs.FaultList.{fault_count, fault_numbered}
use Rattle.net_model.specs.ClassTable.{ClassTable, class_at, representative, refined_table, cuts_class}
use Rattle.net_model.proofs.OneAnswer.{one_answer}
use Rattle.class_refine.specs.Fields.{IsWhole}
use Rattle.class_refine.proofs.PatternTables.{answer_exists, row_exists}
use Rattle.class_refine.proofs.Refined.{representative-member}
use Rattle.class_refine.proofs.Refinement.{refined_is}
use Rattle.word_sim.specs.Block.{IsBlock}
use Rattle.word_sim.specs.declared.lanes.TheConstants.{LANES}
use Rattle.word_sim.specs.GoodSim.{GoodSim, vectors_of}
use Rattle.fault_heads.specs.Turned.{vector_at}
use Rattle.kept_vectors.specs.declared.scan.Scan.{Scan}
use Rattle.kept_vectors.specs.Kept.{KeptSoFar, with_vector, Keeps, IsFiner}
use Rattle.kept_vectors.specs.Keeper.{SeparatesMember}
use Rattle.kept_vectors.specs.Notes.{Noted, AreAlikeAt, AreAsked}
use Rattle.kept_vectors.specs.Scan.{IsScan}
use Rattle.kept_vectors.specs.Standing.{AreRowsBut, IsStanding}
use Rattle.kept_vectors.specs.Units.{IsUnit}
use Rattle.kept_vectors.specs.Waits.{IsLed, LeavesFirst, AreWaiting}
use Rattle.kept_vectors.proofs.KeepLemmas.{ran_vectors, whole_after}
use Rattle.kept_vectors.proofs.LeaveLemmas.{alike_in_row}

-- ---- answers to the vector of a lane

module _ (good : GoodSim) (is : IsCircuit good.circuit) (lane : ℕ) where
  -- if a number answers as a second and as a third, these two answer alike
  alike_by : (k m n : ℕ) → AreAlikeAt good lane k m → AreAlikeAt good lane k n → AreAlikeAt good lane m n
  alike_by k m n one two first second a b =
      let own = answer_exists good.circuit is (fault_numbered good.circuit k) (vector_at good lane) in
      sym (one own.0 first own.1 a) ∙ two own.0 second own.1 b

  -- if a number answers as another, this one answers as the first
  alike_back : (m n : ℕ) → AreAlikeAt good lane m n → AreAlikeAt good lane n m
  alike_back m n alike first second a b = sym (alike second first b a)

  -- the vector separates two numbers that don't answer alike
  apart_at : (m n : ℕ) → length (vector_at good lane) ≡ good.circuit.sources → (AreAlikeAt good lane n m → ⊥) → Separates good.circuit (vector_at good lane) (fault_numbered good.circuit m) (fault_numbered good.circuit n)
  apart_at m n width apart =
      let c = good.circuit in
      let v = vector_at good lane in
      let one = answer_exists c is (fault_numbered c m) v in
      let other = answer_exists c is (fault_numbered c n) v in
      record {
        width = width;
        first = one.0;
        second = other.0;
        first_is = one.1;
        second_is = other.1;
        differ = λ same. apart (λ first second a b.
            one_answer c is (fault_numbered c n) v first other.0 a other.1 ∙ (sym same ∙ one_answer c is (fault_numbered c m) v one.0 second one.1 b));
      }

-- ---- the numbers that stay in their classes

module _ (good : GoodSim) (is : IsCircuit good.circuit) (old : KeptSoFar) (whole : IsWhole old.table) (numbers : length old.table.class_of ≡ fault_count good.circuit) (lane : ℕ) (live : lane < length (vectors_of good)) where
  lead_by : (row : List (List Bool)) → (n : ℕ) → n < length old.table.class_of → (b : Bool) → cuts_class old.table row ≡ b → get_or row n [] ≡ get_or row (representative old.table (class_at old.table n)) []
      → representative (with_vector old (vector_at good lane, row)).table (class_at (with_vector old (vector_at good lane, row)).table n) ≡ representative old.table (class_at old.table n)
  lead_by row n h false cuts same = rw cuts refl
  lead_by row n h true cuts same =
      let t = old.table in
      let refined = refined_is t row whole in
      rw cuts (ap (representative (refined_table t row)) (refined.stay n h same) ∙ (refined.leads (class_at t n) (whole.classes n h)).1)

  -- a number that answers as its representative keeps it after the vector came
  pub lead_keeps : (new : KeptSoFar) → Keeps good.circuit (vector_at good lane ∷ []) old new → (n : ℕ) → n < length old.table.class_of → IsLed good old.table lane n
      → representative new.table (class_at new.table n) ≡ representative old.table (class_at old.table n)
  lead_keeps new keeps n h led =
      let t = old.table in
      let v = vector_at good lane in
      let lead = representative-member t whole (class_at t n) (whole.classes n h) in
      let row = row_exists good.circuit is v in
      let same = alike_in_row good is t whole numbers lane live row.0 row.1 n (representative t (class_at t n)) h lead.0 led in
      subst (λ (k : KeptSoFar). representative k.table (class_at k.table n) ≡ representative t (class_at t n)) (sym (keeps.by_rows (row.0 ∷ []) (row.1, tt))) (lead_by row.0 n h (cuts_class t row.0) refl same)

-- what was asked for a table is asked for one in which more numbers are apart
pub asked_later : {good : GoodSim} {noted : Noted} {t u : ClassTable} {asked : List ℕ} → IsFiner t u → AreAsked good noted t asked → AreAsked good noted u asked
asked_later {t = t} {u = u} finer are =
    let numbers = finer.numbers in
    let same : (m n : ℕ) → m < length u.class_of → n < length u.class_of → class_at u m ≡ class_at u n → (m < length t.class_of) × (class_at t m ≡ class_at t n) =
    λ m n hm hn e. (omega (arith, hm, numbers), finer.together m n (omega (arith, hm, numbers)) (omega (arith, hn, numbers)) e) in
    record {
      mates = λ k d h.
          let one = are.mates k d h in
          let inside : get_or _ k d < length u.class_of = omega (arith, one.0, numbers) in
          (inside, λ other less e. let old = same other _ less inside e in one.1 other old.0 old.1);
      others = λ n h. elim (are.others n (omega (arith, h, numbers))) [
        | inl both ↦ inl (both.0, λ other less e. let old = same other n less h e in both.1 other old.0 old.1)
        | inr alike ↦ inr (λ other lane less e live. let old = same other n less h e in alike other lane old.0 old.1 live)
      ];
    }

-- ---- the rows of a standing block

module _ {s : Scan} {t : ClassTable} (stands : IsStanding s t) where
  -- a unit that leaves its class was asked
  unit_asked : (n lane : ℕ) → n < length t.class_of → IsUnit s.differences.units.roots.now n → lane < length (vectors_of s.good) → (IsLed s.good t lane n → ⊥) → Contains s.differences.numbers.items n
  unit_asked n lane h unit live leaves = elim (stands.asked.others n h) [
    | inl both ↦ both.0 unit
    | inr alike ↦
        let lead = representative-member t stands.told.whole (class_at t n) (stands.told.whole.classes n h) in
        absurd (leaves (alike (representative t (class_at t n)) lane lead.0 lead.1 live))
  ]

  -- a number whose row has the lane leaves its class there
  leaves_by_row : (n lane : ℕ) → n < length t.class_of → IsUnit s.differences.units.roots.now n ⊎ Contains s.differences.numbers.items n → lane < length (vectors_of s.good) → bit_at (get_or s.rows.items n []) lane ≡ true → IsLed s.good t lane n → ⊥
  leaves_by_row n lane h one live on led = false≢true (sym ((stands.rows.right n h one lane live).1 led) ∙ on)

module _ {s : Scan} {t : ClassTable} (scan : IsScan s) (stands : IsStanding s t) (block : IsBlock s.block) where
  pub live_lane : (lane : ℕ) → lane < length s.block.vectors → lane < length (vectors_of s.good)
  live_lane lane h = omega (arith, h, ap length (ran_vectors s.good s.block.vectors stands.told.ran))

  vector_is : (lane : ℕ) → vector_at s.good lane ≡ get_or s.block.vectors lane []
  vector_is lane = ap (λ (vs : List (List Bool)). get_or vs lane []) (ran_vectors s.good s.block.vectors stands.told.ran)

  module _ (member : ℕ) (inside : member < fault_count s.good.circuit) where
    abbrev root : ℕ
    root = get_or s.differences.units.roots.now member 0

    below : member < length t.class_of
    below = omega (arith, inside, stands.told.numbers)

    -- there is a row for the unit
    pub unit_below : get_or s.differences.units.roots.now member 0 < length s.rows.items
    unit_below = omega (arith, (stands.told.units member below).below, stands.rows.count)

    -- the unit's row tells in which lanes the member answers otherwise than its representative
    led_unit : (lane : ℕ) → lane < length s.block.vectors → (bit_at (get_or s.rows.items root []) lane ≡ false) ↔ IsLed s.good t lane member
    led_unit lane live =
        let is = stands.told.circuit in
        let one = stands.told.units member below in
        let known = live_lane lane live in
        let row = stands.rows.right root one.below (inl one.itself) lane known in
        let as_unit = one.alike lane known in
        let Alike : ℕ → ℕ → Type 0 = AreAlikeAt s.good lane in
        let lead : representative t (class_at t root) ≡ representative t (class_at t member) = ap (representative t) one.together in (
          λ off. alike_by s.good is lane root member _ (alike_back s.good is lane member root as_unit) (subst (Alike root) lead (row.0 off)),
          λ led. row.1 (subst (Alike root) (sym lead) (alike_by s.good is lane member root _ as_unit led)),
        )

    -- if it has no lane, no vector of the block separates them
    pub none_separates : ((lane : ℕ) → lane < length s.block.vectors → bit_at (get_or s.rows.items root []) lane ≡ false) → (v : List Bool) → Contains s.block.vectors v → SeparatesMember s.good.circuit t member v → ⊥
    none_separates off v (lane, live, is) apart =
        let led = (led_unit lane live).0 (off lane live) in
        let here : vector_at s.good lane ≡ v = vector_is lane ∙ get_or_default s.block.vectors lane [] v live ∙ is in
        apart.differ (sym (led apart.second apart.first (subst (λ (x : List Bool). IsAnswer s.good.circuit (fault_numbered s.good.circuit member) x apart.second) (sym here) apart.second_is)
        (subst (λ (x : List Bool). IsAnswer s.good.circuit (fault_numbered s.good.circuit (representative t (class_at t member))) x apart.first) (sym here) apart.first_is)))

    -- the vector of a lane that it has separates them
    pub lane_separates : (lane : ℕ) → lane < length s.block.vectors → bit_at (get_or s.rows.items root []) lane ≡ true
        → Contains s.block.vectors (vector_at s.good lane) × SeparatesMember s.good.circuit t member (vector_at s.good lane)
    lane_separates lane live on =
        let here = vector_is lane in
        let width : length (vector_at s.good lane) ≡ s.good.circuit.sources = ap length here ∙ (block.widths lane [] live ∙ scan.block) in (
          subst (Contains s.block.vectors) (sym here) (Contains-get_or s.block.vectors lane [] live),
          apart_at s.good stands.told.circuit lane (representative t (class_at t member)) member width (λ led. false≢true (sym ((led_unit lane live).1 led) ∙ on)),
        )

  -- the numbers whose rows have the lane wait there
  pub waits_there : (lane : ℕ) → lane < length s.block.vectors → (lists : List (List ℕ)) → length lists ≡ LANES
      → ((n : ℕ) → Contains (get_or lists lane []) n → Contains s.differences.numbers.items n × (bit_at (get_or s.rows.items n []) lane ≡ true))
      → ((n : ℕ) → Contains s.differences.numbers.items n → bit_at (get_or s.rows.items n []) lane ≡ true → Contains (get_or lists lane []) n)
      → AreWaiting s.good s.differences.units.roots.now t lane (lane + 1) lists []
  waits_there lane live lists count right all = record {
    count = count;
    right = λ n at low high has.
        let e : lane ≡ at = omega (arith, low, high) in
        let has_here = subst (λ (k : ℕ). Contains (get_or lists k []) n) (sym e) has in
        let both = right n has_here in
        let h = asked_below n both.0 in
        subst (λ (k : ℕ). LeavesFirst s.good t lane k n) e (record {
          number = h;
          differs = leaves_by_row stands n lane h (inr both.0) (live_lane lane live) both.1;
          before = λ earlier from less. absurd (omega (arith, from, less));
        });
    all = λ n at unit low high first.
        let e : lane ≡ at = omega (arith, low, high) in
        let leaves = subst (λ (k : ℕ). IsLed s.good t k n → ⊥) (sym e) first.differs in
        let asked = unit_asked stands n lane first.number unit (live_lane lane live) leaves in
        inl (subst (λ (k : ℕ). Contains (get_or lists k []) n) e (elim (cases_Bool (bit_at (get_or s.rows.items n []) lane)) [
          | inl on ↦ all n asked on
          | inr off ↦ absurd (leaves ((stands.rows.right n first.number (inl unit) lane (live_lane lane live)).0 off))
        ]));
  }
    where
      asked_below : (n : ℕ) → Contains s.differences.numbers.items n → n < length t.class_of
      asked_below n (k, h, e) = subst (λ (m : ℕ). m < length t.class_of) e (stands.asked.mates k n h).0

-- after the vector of a lane was kept, the rows of the numbers that stayed are right
module _ {s : Scan} {old new : KeptSoFar} (stands : IsStanding s old.table) (lane : ℕ) (live : lane < length (vectors_of s.good)) (keeps : Keeps s.good.circuit (vector_at s.good lane ∷ []) old new) where
  pub finer_there : IsFiner old.table new.table
  finer_there = (whole_after s.good.circuit stands.told.circuit (vector_at s.good lane ∷ []) old new stands.told.whole keeps).1

  pub rows_left : AreRowsBut s.good s.differences.units.roots.now new.table s.differences.numbers.items (λ n. (bit_at (get_or s.rows.items n []) lane ≡ true) × Contains s.differences.numbers.items n) s.rows.items
  rows_left = record {
    count = stands.rows.count ∙ sym finer_there.numbers;
    right = λ n h one.
        let t = old.table in
        let inside : n < length t.class_of = omega (arith, h, finer_there.numbers) in
        let row = stands.rows.right n inside one in
        elim (cases_Bool (bit_at (get_or s.rows.items n []) lane)) [
          | inr off ↦
              let lead = lead_keeps s.good stands.told.circuit old stands.told.whole stands.told.numbers lane live new keeps n inside ((row lane live).0 off) in
              inl (λ at here. subst (λ (r : ℕ). (bit_at (get_or s.rows.items n []) at ≡ false) ↔ AreAlikeAt s.good at n r) (sym lead) (row at here))
          | inl on ↦
              let leaves = leaves_by_row stands n lane inside one live on in
              elim one [ inr has ↦ inr (on, has) | inl unit ↦ inr (on, unit_asked stands n lane inside unit live leaves) ]
        ];
  }
