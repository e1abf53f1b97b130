-- The numbers that leave their classes at a lane, and those that wait after it.
use Rattle.std.proofs.Common.{◌≡◌, ◌↔◌, ℕ, zero, suc, ◌+◌, ◌<◌, ◌≤◌, ◌⊎◌, Bool, true, eqb, cond, List, [], ◌∷◌, ◌++◌, length, get_or, map, filter, refl, sym, ap, subst, ◌∙◌, arith, inl, inr}
use Rattle.std.specs.Prelude.{All, Contains}
use Rattle.std.specs.List.{AllPairs}
use Rattle.std.proofs.lemmas.Bool.{cases_Bool, cases_eq, eqb-true, eq-eqb, and_parts, and_from, or_cases, or_left, or_right, false≢true}
use Rattle.std.specs.Cmp.Derive.{one_truth}
use Rattle.std.proofs.lemmas.List.{length-map, get_or-map}
use Rattle.std.proofs.lemmas.List.Elements.{Contains-get_or}
use Rattle.std.proofs.lemmas.List.Kept.{AllPairs-filter}
use Rattle.net_model.specs.Circuit.{IsCircuit}
use Rattle.net_model.specs.FaultList.{fault_count, fault_numbered}
use Rattle.net_model.specs.Answer.{bit_at, IsAnswer}
use Rattle.net_model.specs.ClassTable.{ClassTable, class_at, representative, answer_at, stay_together, refined_table, SplitBy}
use Rattle.net_model.specs.PatternRows.{IsAnswerRow}
use Rattle.net_model.proofs.OneAnswer.{one_answer}
use Rattle.net_model.proofs.Elements.{true_false}
use Rattle.class_refine.proofs.Pieces.{stays, staying}
use Rattle.class_refine.specs.Fields.{IsWhole}
use Rattle.class_refine.specs.Laws.{ComesBefore, IsRefinement}
use Rattle.class_refine.specs.declared.leaver.Leaver.{Leaver}
use Rattle.class_refine.specs.Leavers.{told, LeavesClass, AreLeavers}
use Rattle.class_refine.specs.Steps.{HasCut}
use Rattle.kept_vectors.specs.Kept.{KeptSoFar, with_vector}
use Rattle.class_refine.proofs.Ranges.{same_ordered}
use Rattle.class_refine.proofs.Refined.{representative-member, sound_from, split_adds, cuts_from}
use Rattle.word_sim.specs.GoodSim.{GoodSim, vectors_of}
use Rattle.fault_heads.specs.Turned.{vector_at}
use Rattle.kept_vectors.specs.declared.notes.Note.{Note}
use Rattle.kept_vectors.specs.Notes.{has_lane, is_noted, lane_positions, AreAscending, AreNotedAlike, AreAlikeAt, HasUnit, AreMatesNoted, AreMatesAlike, Noted, number_notes}
use Rattle.kept_vectors.specs.Units.{AreOfUnits}
use Rattle.kept_vectors.specs.Waits.{IsLed, LeavesFirst, AreWaiting}
use Rattle.class_refine.proofs.PatternTables.{answer_in_row}
use Rattle.kept_vectors.proofs.NoteLemmas.{alike_by_notes}

no_member : (n : ℕ) → Contains [] n → ⊥
no_member n (k, h, is) = omega (arith, h)

-- ---- what is noted in a lane, as positions

module _ (lane position : ℕ) where
  listed_noted : (notes : List Note) → Contains (lane_positions notes lane) position → is_noted notes lane position ≡ true
  listed_noted [] (k, h, is) = absurd (omega (arith, h))
  listed_noted (n ∷ notes) has = elim (cases_Bool (bit_at n.lanes lane)) [
    | inr off ↦ or_right (has_lane lane position n) (is_noted notes lane position) (listed_noted notes (rw off at has))
    | inl on ↦ first_or (listed_noted notes) (rw on at has) on
  ]
    where
      first_or : (Contains (lane_positions notes lane) position → is_noted notes lane position ≡ true) → Contains (n.position ∷ lane_positions notes lane) position → bit_at n.lanes lane ≡ true → is_noted (n ∷ notes) lane position ≡ true
      first_or rest (zero, h, is) on = or_left (has_lane lane position n) (is_noted notes lane position) (and_from (eqb n.position position) (bit_at n.lanes lane) (eq-eqb n.position position is) on)
      first_or rest (suc k, h, is) on = or_right (has_lane lane position n) (is_noted notes lane position) (rest (k, omega (arith, h), is))

  noted_listed : (notes : List Note) → is_noted notes lane position ≡ true → Contains (lane_positions notes lane) position
  noted_listed [] e = absurd (false≢true e)
  noted_listed (n ∷ notes) e = elim (or_cases (has_lane lane position n) (is_noted notes lane position) e) [
    | inl here ↦
        let both = and_parts (eqb n.position position) (bit_at n.lanes lane) here in
        rw both.1 (0, omega arith, eqb-true n.position position both.0)
    | inr later ↦
        let has = noted_listed notes later in
        elim (cases_Bool (bit_at n.lanes lane)) [ inl on ↦ rw on (suc has.0, omega (arith, has.1), has.2) | inr off ↦ rw off has ]
  ]

positions_ascend : (lane : ℕ) (notes : List Note) → AreAscending notes → AllPairs (λ x y. x < y) (lane_positions notes lane)
positions_ascend lane notes up i j d less below =
    let with_lane = filter (λ (n : Note). bit_at n.lanes lane) notes in
    let f : Note → ℕ = λ n. n.position in
    let h : j < length with_lane = omega (arith, below, length-map with_lane f) in
    let note : Note = record { position = 0; lanes = [] } in
    rw (get_or-map f with_lane i note d (omega (arith, less, h)), get_or-map f with_lane j note d h) (AllPairs-filter (λ (a b : Note). a.position < b.position) (λ n. bit_at n.lanes lane) notes up i j note less h)

-- two lists of positions are the same exactly if the same is noted
pub same_positions : (lane : ℕ) (one other : List Note) → AreAscending one → AreAscending other → (lane_positions one lane ≡ lane_positions other lane) ↔ AreNotedAlike lane one other
same_positions lane one other up up_too = (
  λ same position. one_truth (is_noted one lane position) (is_noted other lane position)
      (λ e. listed_noted lane position other (subst (λ ps. Contains ps position) same (noted_listed lane position one e)))
      (λ e. listed_noted lane position one (subst (λ ps. Contains ps position) (sym same) (noted_listed lane position other e))),
  λ same. same_ordered (λ x y. x < y) (λ x y less more. omega (arith, less, more)) (lane_positions one lane) (lane_positions other lane) (positions_ascend lane one up) (positions_ascend lane other up_too)
      (λ x has. noted_listed lane x other (sym (same x) ∙ listed_noted lane x one has)) (λ x has. noted_listed lane x one (same x ∙ listed_noted lane x other has)),
)

-- ---- answers in a row

module _ (good : GoodSim) (is : IsCircuit good.circuit) (t : ClassTable) (whole : IsWhole t) (numbers : length t.class_of ≡ fault_count good.circuit) (lane : ℕ) (live : lane < length (vectors_of good))
    (row : List (List Bool)) (answers : IsAnswerRow good.circuit (vector_at good lane) row) where
  in_row : (n : ℕ) → n < length t.class_of → IsAnswer good.circuit (fault_numbered good.circuit n) (vector_at good lane) (answer_at t row n)
  in_row n h = answer_in_row good.circuit (vector_at good lane) row answers n (omega (arith, h, numbers))

  pub alike_in_row : (m n : ℕ) → m < length t.class_of → n < length t.class_of → AreAlikeAt good lane m n → answer_at t row m ≡ answer_at t row n
  alike_in_row m n hm hn alike = alike (answer_at t row m) (answer_at t row n) (in_row m hm) (in_row n hn)

  alike_from_row : (m n : ℕ) → m < length t.class_of → n < length t.class_of → answer_at t row m ≡ answer_at t row n → AreAlikeAt good lane m n
  alike_from_row m n hm hn e first second a b =
      one_answer good.circuit is (fault_numbered good.circuit m) (vector_at good lane) first (answer_at t row m) a (in_row m hm) ∙ (e ∙ one_answer good.circuit is (fault_numbered good.circuit n) (vector_at good lane) (answer_at t row n) second (in_row n hn) b)

  lead_below : (n : ℕ) → n < length t.class_of → (representative t (class_at t n) < length t.class_of) × (class_at t (representative t (class_at t n)) ≡ class_at t n)
  lead_below n h = representative-member t whole (class_at t n) (whole.classes n h)

  -- a number that leaves its class leaves it first here
  pub first_here : (n : ℕ) → LeavesClass t row n → LeavesFirst good t lane lane n
  first_here n leaves = record {
    number = leaves.below;
    differs = λ led. leaves.differs (alike_in_row n (representative t (class_at t n)) leaves.below ((lead_below n leaves.below).0) led);
    before = λ earlier low less. absurd (omega (arith, low, less));
  }

  pub leaves_here : (n from : ℕ) → LeavesFirst good t from lane n → LeavesClass t row n
  leaves_here n from first = record {
    below = first.number;
    differs = λ e. first.differs (alike_from_row n (representative t (class_at t n)) first.number ((lead_below n first.number).0) e);
  }

  -- a number answers as its representative, or leaves its class
  stays_or_leaves : (n : ℕ) → n < length t.class_of → (answer_at t row n ≡ answer_at t row (representative t (class_at t n))) ⊎ LeavesClass t row n
  stays_or_leaves n h =
      let lead = representative t (class_at t n) in
      elim (cases_Bool (stay_together t row n lead)) [
        | inl passes ↦ inl (stays t row n lead passes).1
        | inr fails ↦ inr (record { below = h; differs = λ e. true_false (stay_together t row n lead) (staying t row n lead (sym ((lead_below n h).1)) e) fails })
      ]

  -- if two numbers of a class answer alike and one leaves it, so does the other
  leaves_also : (m n : ℕ) → n < length t.class_of → class_at t m ≡ class_at t n → answer_at t row m ≡ answer_at t row n → LeavesClass t row m → LeavesClass t row n
  leaves_also m n h class answer leaves = record {
    below = h;
    differs = λ e. leaves.differs (answer ∙ (e ∙ ap (λ (k : ℕ). answer_at t row (representative t k)) (sym class)));
  }

  module _ (roots : List ℕ) (n : ℕ) (h : n < length t.class_of) (unit : HasUnit good roots t n) where
    same_answer : answer_at t row (get_or roots n 0) ≡ answer_at t row n
    same_answer = sym (alike_in_row n (get_or roots n 0) h unit.below (unit.alike lane live))

    leaves_as_root : LeavesFirst good t lane lane (get_or roots n 0) → LeavesFirst good t lane lane n
    leaves_as_root first = first_here n (leaves_also (get_or roots n 0) n h unit.together same_answer (leaves_here (get_or roots n 0) lane first))

    root_leaves : LeavesFirst good t lane lane n → LeavesFirst good t lane lane (get_or roots n 0)
    root_leaves first = first_here (get_or roots n 0) (leaves_also n (get_or roots n 0) unit.below (sym unit.together) (sym same_answer) (leaves_here n lane first))

  -- ---- the leavers of a lane

  module _ (roots : List ℕ) (roots_are : length roots ≡ length t.class_of) (units : (n : ℕ) → n < length t.class_of → HasUnit good roots t n) (lists : List (List ℕ)) (limit : ℕ) (below : lane < limit)
      (waits : AreWaiting good roots t lane limit lists []) (ns : List ℕ) (are : AreOfUnits roots (get_or lists lane []) ns) where
    pub some_leaves : (n : ℕ) → Contains ns n → LeavesFirst good t lane lane n
    some_leaves n has =
        let by_root = are.only n has in
        let h : n < length t.class_of = omega (arith, by_root.0, roots_are) in
        leaves_as_root roots n h (units n h) (waits.right (get_or roots n 0) lane (omega arith) below by_root.1)

    pub all_leave : (n : ℕ) → LeavesFirst good t lane lane n → Contains ns n
    all_leave n first =
        let unit = units n first.number in
        elim (waits.all (get_or roots n 0) lane unit.itself (omega arith) below (root_leaves roots n first.number unit first)) [
          | inl has ↦ are.all n (omega (arith, first.number, roots_are)) has
          | inr (k, h, e) ↦ absurd (omega (arith, h))
        ]

    module _ (noted : Noted) (mates_or : (n : ℕ) → n < length t.class_of → AreMatesNoted good noted t n ⊎ AreMatesAlike good t n) where
      -- all numbers of a leaver's class are noted
      pub mates_of : (n : ℕ) → LeavesFirst good t lane lane n → AreMatesNoted good noted t n
      mates_of n first = elim (mates_or n first.number) [
        | inl mates ↦ mates
        | inr alike ↦ let lead = lead_below n first.number in absurd (first.differs (alike (representative t (class_at t n)) lane lead.0 lead.1 live))
      ]

      module _ (leavers : List Leaver) (positions : List ℕ) (ordered : AllPairs (ComesBefore t) ns) (numbers_are : map (λ (l : Leaver). l.number) leavers ≡ ns)
          (parts : All (λ (l : Leaver). (l.start ≤ l.end) × (l.end ≤ length positions)) leavers)
          (tells : All (λ (l : Leaver). told positions l ≡ lane_positions (number_notes noted l.number lane) lane) leavers) where
        number_at : (k : ℕ) (d : Leaver) → k < length leavers → get_or ns k 0 ≡ (get_or leavers k d).number
        number_at k d h = ap (λ (xs : List ℕ). get_or xs k 0) (sym numbers_are) ∙ get_or-map (λ (l : Leaver). l.number) leavers k d 0 h

        count : length ns ≡ length leavers
        count = ap length (sym numbers_are) ∙ length-map leavers (λ (l : Leaver). l.number)

        leaver_first : (k : ℕ) (d : Leaver) → k < length leavers → LeavesFirst good t lane lane (get_or leavers k d).number
        leaver_first k d h = some_leaves (get_or leavers k d).number (subst (Contains ns) (number_at k d h) (Contains-get_or ns k 0 (omega (arith, h, count))))

        pub are_leavers : AreLeavers t row leavers positions
        are_leavers = record {
          parts = parts;
          ordered = λ i j d less h. let hi : i < length leavers = omega (arith, less, h) in
              subst (λ n. ComesBefore t n (get_or leavers j d).number) (number_at i d hi) (subst (ComesBefore t (get_or ns i 0)) (number_at j d h) (ordered i j 0 less (omega (arith, h, count))));
          only = λ k d h. leaves_here (get_or leavers k d).number lane (leaver_first k d h);
          all = λ n leaves. subst (λ xs. Contains xs n) (sym numbers_are) (all_leave n (first_here n leaves));
          alike = λ i j d less h same.
              let hi : i < length leavers = omega (arith, less, h) in
              let a = (get_or leavers i d).number in
              let b = (get_or leavers j d).number in
              let first = leaver_first i d hi in
              let second = leaver_first j d h in
              let mates = mates_of a first in
              let one = (mates a first.number refl).report lane live in
              let other = (mates b second.number (sym same)).report lane live in
              let by_notes = alike_by_notes good is a b lane (number_notes noted a lane) (number_notes noted b lane) one other in
              let by_positions = same_positions lane (number_notes noted a lane) (number_notes noted b lane) one.ascend other.ascend in (
                λ e. alike_in_row a b first.number second.number (by_notes.0 (by_positions.0 (sym (tells i d hi) ∙ (e ∙ tells j d h)))),
                λ e. tells i d hi ∙ (by_positions.1 (by_notes.1 (alike_from_row a b first.number second.number e)) ∙ sym (tells j d h)),
              );
        }

  -- ---- after the lane

  module _ (roots : List ℕ) (lists : List (List ℕ)) (limit : ℕ) (below : lane < limit) (waits : AreWaiting good roots t lane limit lists []) (left : List ℕ) (leave : (n : ℕ) → LeavesClass t row n → Contains left n) where
    -- if numbers left, those that stayed wait where they did
    pub waits_behind : (u : ClassTable) → IsRefinement t row u → AreWaiting good roots u (lane + 1) limit lists left
    waits_behind u refined =
        let led_now : (n other : ℕ) → n < length t.class_of → answer_at t row n ≡ answer_at t row (representative t (class_at t n)) → representative u (class_at u n) ≡ representative t (class_at t n) =
        λ n other h e. ap (representative u) (refined.stay n h e) ∙ (refined.leads (class_at t n) (whole.classes n h)).1 in
        record {
          count = waits.count;
          right = λ n other low h has.
              let first = waits.right n other (omega (arith, low)) h has in
              let led = first.before lane (omega arith) (omega (arith, low)) in
              let lead = led_now n other first.number (alike_in_row n (representative t (class_at t n)) first.number ((lead_below n first.number).0) led) in
              record {
                number = omega (arith, first.number, refined.numbers);
                differs = λ now. first.differs (subst (AreAlikeAt good other n) lead now);
                before = λ earlier from less. subst (AreAlikeAt good earlier n) (sym lead) (first.before earlier (omega (arith, from)) less);
              };
          all = λ n other unit low h first.
              let inside : n < length t.class_of = omega (arith, first.number, refined.numbers) in
              elim (stays_or_leaves n inside) [
                | inr leaves ↦ inr (leave n leaves)
                | inl e ↦
                    let lead = led_now n other inside e in
                    let here : IsLed good t lane n = alike_from_row n (representative t (class_at t n)) inside ((lead_below n inside).0) e in
                    elim (waits.all n other unit (omega (arith, low)) h (record {
                      number = inside;
                      differs = λ now. first.differs (subst (AreAlikeAt good other n) (sym lead) now);
                      before = λ earlier from less. elim (cases_eq earlier lane) [
                        | inl same ↦ subst (λ (k : ℕ). IsLed good t k n) (sym same) here
                        | inr ne ↦ subst (AreAlikeAt good earlier n) lead (first.before earlier (omega (arith, from, ne)) less)
                      ];
                    })) [ inl has ↦ inl has | inr (k, l, x) ↦ absurd (omega (arith, l)) ]
              ];
        }

    -- if none left, they wait where they did
    pub waits_on : left ≡ [] → AreWaiting good roots t (lane + 1) limit lists []
    waits_on none = record {
      count = waits.count;
      right = λ n other low h has.
          let first = waits.right n other (omega (arith, low)) h has in
          record { number = first.number; differs = first.differs; before = λ earlier from less. first.before earlier (omega (arith, from)) less };
      all = λ n other unit low h first. elim (stays_or_leaves n first.number) [
        | inr leaves ↦ absurd (no_member n (subst (λ xs. Contains xs n) none (leave n leaves)))
        | inl e ↦
            let here : IsLed good t lane n = alike_from_row n (representative t (class_at t n)) first.number ((lead_below n first.number).0) e in
            waits.all n other unit (omega (arith, low)) h (record {
              number = first.number;
              differs = first.differs;
              before = λ earlier from less. elim (cases_eq earlier lane) [
                | inl same ↦ subst (λ (k : ℕ). IsLed good t k n) (sym same) here
                | inr ne ↦ first.before earlier (omega (arith, from, ne)) less
              ];
            })
      ];
    }

    -- if none left, all members of a class answer alike
    pub alike_there : left ≡ [] → (m n : ℕ) → m < length t.class_of → n < length t.class_of → class_at t m ≡ class_at t n → AreAlikeAt good lane m n
    alike_there none m n hm hn same =
        let stays : (k : ℕ) → k < length t.class_of → answer_at t row k ≡ answer_at t row (representative t (class_at t k)) =
        λ k h. elim (stays_or_leaves k h) [ inl e ↦ e | inr leaves ↦ absurd (no_member k (subst (λ xs. Contains xs k) none (leave k leaves))) ] in
        alike_from_row m n hm hn (stays m hm ∙ (ap (λ (c : ℕ). answer_at t row (representative t c)) same ∙ sym (stays n hn)))

-- ---- the cut

split_of : (t : ClassTable) (row : List (List Bool)) (leavers : List Leaver) (positions : List ℕ) → IsWhole t → 0 < length leavers → AreLeavers t row leavers positions → SplitBy t row
split_of t row leavers positions whole some are =
    let none : Leaver = record { number = 0; start = 0; end = 0 } in
    let leaves = are.only 0 none some in
    let n = (get_or leavers 0 none).number in
    let lead = representative-member t whole (class_at t n) (whole.classes n leaves.below) in
    record { first = n; second = representative t (class_at t n); first_below = leaves.below; second_below = lead.0; together = sym lead.1; differ = leaves.differs }

-- a vector at which numbers leave their classes is kept
pub cut_by : (old : KeptSoFar) (v : List Bool) (row : List (List Bool)) (leavers : List Leaver) (positions : List ℕ) (new : ClassTable) (added : ℕ) → IsWhole old.table → 0 < length leavers → AreLeavers old.table row leavers positions → HasCut old.table new row added
    → record { vectors = old.vectors ++ v ∷ []; table = new } ≡ with_vector old (v, row)
cut_by old v row leavers positions new added whole some are cut =
    let t = old.table in
    let adds = cut.splits.1 (split_of t row leavers positions whole some are) in
    let after : KeptSoFar = record { vectors = old.vectors ++ v ∷ []; table = refined_table t row } in
    (λ i. record { vectors = old.vectors ++ v ∷ []; table = cut.refined adds i }) ∙ ap (λ (b : Bool). cond b after old) (sym (cut.cuts.0 adds))

-- what is kept of it
pub cut_table : (old : KeptSoFar) (v : List Bool) (row : List (List Bool)) (leavers : List Leaver) (positions : List ℕ) → IsWhole old.table → 0 < length leavers → AreLeavers old.table row leavers positions
    → with_vector old (v, row) ≡ record { vectors = old.vectors ++ v ∷ []; table = refined_table old.table row }
cut_table old v row leavers positions whole some are =
    let after : KeptSoFar = record { vectors = old.vectors ++ v ∷ []; table = refined_table old.table row } in
    ap (λ (b : Bool). cond b after old) (cuts_from old.table row (split_adds old.table row (sound_from old.table whole) (split_of old.table row leavers positions whole some are)))
