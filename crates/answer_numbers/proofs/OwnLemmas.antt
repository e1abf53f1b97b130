-- What the trees of all places and the numbers of their nodes say of the answers.
use Rattle.std.proofs.Common.{◌≡◌, ◌≢◌, ◌∙◌, ℕ, ◌+◌, ◌*◌, ◌/◌, ◌%◌, ◌<◌, ◌≤◌, Bool, not, cond, ltb, ◌&&◌, List, [], length, get_or, map, refl, sym, ap, subst, arith, inl, inr, IsTrue, ◌↔◌, All}
use Rattle.std.specs.List.{range_with_len}
use Rattle.std.proofs.lemmas.Bool.{cases_lt, lt-ltb}
use Rattle.std.proofs.lemmas.List.FromFn.{fill_by_all}
use Rattle.std.proofs.lemmas.Nat.{div-mul-add, mod-mul-add, mul-add-lt, mul-le}
use Rattle.std.proofs.Math.Nat.{mul_comm}
use Rattle.net_model.specs.declared.fault.Fault.TheVariants.{Free}
use Rattle.net_model.specs.Circuit.{Circuit, IsCircuit}
use Rattle.net_model.specs.Answer.{bit_at, IsAnswer}
use Rattle.net_model.specs.Rows.{row_at}
use Rattle.net_model.proofs.Copies.{same_bits_same_list}
use Rattle.word_sim.specs.declared.lanes.TheConstants.{LANES}
use Rattle.answer_numbers.specs.declared.differences.PositionLists.{PositionLists}
use Rattle.answer_numbers.specs.declared.node_numbers.NodeNumbers.{NodeNumbers}
use Rattle.answer_numbers.specs.declared.numbers.Compared.{Compared}
use Rattle.answer_numbers.specs.declared.numbers.Numbered.{Numbered}
use Rattle.answer_numbers.specs.declared.trees.LaneTrees.{LaneTrees}
use Rattle.answer_numbers.specs.Distinct.{distinct_answers}
use Rattle.answer_numbers.specs.AnswerNumbers.{lead_fault, AreLeadAnswers}
use Rattle.answer_numbers.specs.Compared.{AreCompared, AreDiffering, AreLeadNumbers, HasOwnWay}
use Rattle.answer_numbers.specs.Differences.{differs_at}
use Rattle.answer_numbers.specs.Growing.{AreWholeTrees, passing_below}
use Rattle.answer_numbers.specs.NodeNumbers.{stand_of, IsPlaceOf, HaveOwnLanes, AreToldBy, ArePlacesOf, AreNumberedTo}
use Rattle.answer_numbers.specs.Trees.{Way, way_with, way_of, turned}
use Rattle.answer_numbers.proofs.WayLemmas.{way_apart}
use Rattle.answer_numbers.proofs.FreeLemmas.{answer_exists, length-answer, same_answers, bit_by, turn_by, passing_low, passing-same, same_tests, length-turned, turned_at}

module _ (lists : PositionLists) (places limit : ℕ) (t : LaneTrees) (whole : AreWholeTrees lists t.lanes places limit t) where
  -- whether a place differs in a lane at a position
  abbrev pub test_of : ℕ → ℕ → ℕ → Bool
  test_of place lane position = differs_at lists place position lane

  module _ (place lane : ℕ) (known : place < places) (inside : lane < t.lanes) where
    pub cell_inside : place * t.lanes + lane < places * t.lanes
    cell_inside = mul-add-lt' place t.lanes lane places inside known
      where
        mul-add-lt' : (p w l n : ℕ) → l < w → p < n → p * w + l < n * w
        mul-add-lt' p w l n h k = omega (arith, mul-add-lt p w l n k h, mul_comm w n)

    pub own_way : way_of t.lanes t.nodes.items (stand_of t place lane) ≡ way_with (passing_below (test_of place lane) limit) lane
    own_way =
        let cell = place * t.lanes + lane in
        let place_is : cell / t.lanes ≡ place = div-mul-add place t.lanes lane inside in
        let lane_is : cell % t.lanes ≡ lane = mod-mul-add place t.lanes lane inside in
        whole.ways cell cell_inside ∙ (λ i. way_with (passing_below (λ position. differs_at lists (place_is i) position (lane_is i)) limit) (lane_is i))

    pub stand_in : stand_of t place lane < length t.nodes.items
    stand_in = whole.trees.within (place * t.lanes + lane) (omega (arith, cell_inside, whole.cells))

  -- a place that has cells is one of them
  known_place : (place lane : ℕ) → IsPlaceOf t place → lane < t.lanes → place < places
  known_place place lane is h = elim (cases_lt place places) [
    | inl low ↦ low
    | inr high ↦ let rows : places * t.lanes ≤ place * t.lanes = mul-le places t.lanes place t.lanes high (omega arith) in absurd (omega (arith, rows, is, whole.cells, h))
  ]

  pub own_lanes : HaveOwnLanes t
  own_lanes = record {
    within = λ place lane is l. stand_in place lane (known_place place lane is l) l;
    apart = λ p q l k ip iq hl hk e. ap (λ (way : Way). way.lane) (sym (own_way p l (known_place p l ip hl) hl) ∙ (ap (way_of t.lanes t.nodes.items) e ∙ own_way q k (known_place q k iq hk) hk));
  }

module _ (c : Circuit) (is : IsCircuit c) (leads : List ℕ) (vectors : List (List Bool)) (compared : Compared) (are : AreCompared c leads vectors (length leads) compared) (t : LaneTrees)
    (whole : AreWholeTrees compared.lists t.lanes (length leads) (length c.positions) t) (lanes : t.lanes ≡ length vectors) where
  abbrev differs : ℕ → ℕ → ℕ → Bool
  differs = test_of compared.lists (length leads) (length c.positions) t whole

  abbrev stand : ℕ → ℕ → ℕ
  stand place lane = stand_of t place lane

  module _ (lane : ℕ) (inside : lane < length vectors) where
    abbrev v : List Bool
    v = get_or vectors lane []

    in_trees : lane < t.lanes
    in_trees = omega (arith, inside, lanes)

    own : (place : ℕ) → place < length leads → way_of t.lanes t.nodes.items (stand place lane) ≡ way_with (passing_below (differs place lane) (length c.positions)) lane
    own place h = own_way compared.lists (length leads) (length c.positions) t whole place lane h in_trees

    -- answers by the nodes at which their places are
    module _ (answers : List (List Bool)) (given : AreLeadAnswers c leads v answers) where
      abbrev answer_of : ℕ → List Bool
      answer_of place = row_at answers place

      free : (answer : List Bool) × IsAnswer c Free v answer
      free = answer_exists c is Free v

      says : (place position : ℕ) → place < length leads → position < length c.positions → IsTrue (differs place lane position) ↔ (bit_at (answer_of place) position ≢ bit_at free.0 position)
      says place position h l = are.live place position lane h l inside (answer_of place) free.0 (given.each place h) free.1

      same_node : (p q : ℕ) → p < length leads → q < length leads → answer_of p ≡ answer_of q → stand p lane ≡ stand q lane
      same_node p q hp hq e =
          let tests : (k : ℕ) → k < length c.positions → differs p lane k ≡ differs q lane k = λ k h.
          turn_by (differs p lane k) (differs q lane k) (bit_at (answer_of p) k) (bit_at free.0 k) (says p k hp h) (subst (λ (a : List Bool). IsTrue (differs q lane k) ↔ (bit_at a k ≢ bit_at free.0 k)) (sym e) (says q k hq h)) in
          let lists = passing-same (differs p lane) (differs q lane) (length c.positions) tests in
          way_apart t.lanes t.nodes.items (length c.positions) whole.trees.forest (stand p lane) (stand q lane)
          (stand_in compared.lists (length leads) (length c.positions) t whole p lane hp in_trees) (stand_in compared.lists (length leads) (length c.positions) t whole q lane hq in_trees)
          (own p hp ∙ (ap (λ (xs : List ℕ). way_with xs lane) lists ∙ sym (own q hq)))

      same_answer : (p q : ℕ) → p < length leads → q < length leads → stand p lane ≡ stand q lane → answer_of p ≡ answer_of q
      same_answer p q hp hq e =
          let ways : passing_below (differs p lane) (length c.positions) ≡ passing_below (differs q lane) (length c.positions) =
          ap (λ (way : Way). way.positions) (sym (own p hp) ∙ (ap (way_of t.lanes t.nodes.items) e ∙ own q hq)) in
          same_answers (given.each p hp) (given.each q hq) (λ k h.
          bit_by (differs p lane k) (bit_at (answer_of p) k) (bit_at free.0 k) (says p k hp h)
          ∙ (ap (λ b. cond b (not (bit_at free.0 k)) (bit_at free.0 k)) (same_tests (differs p lane) (differs q lane) (length c.positions) ways k h)
          ∙ sym (bit_by (differs q lane k) (bit_at (answer_of q) k) (bit_at free.0 k) (says q k hq h))))

      told : AreToldBy (λ place. stand place lane) (length leads) answer_of
      told p q hp hq = (same_node p q hp hq, same_answer p q hp hq)

      all_answers : map answer_of (range_with_len 0 (length leads)) ≡ answers
      all_answers = sym (fill_by_all answer_of answers (length leads) [] given.one_each (λ k h. refl))

      module _ (n : NodeNumbers) (numbered : AreNumberedTo t (λ l. length leads) n) where
        placed : ArePlacesOf (λ place. stand place lane) (length leads) n.numbers.items (get_or n.counts.items lane 0) answer_of
        placed = (numbered.each lane in_trees).places answer_of told

        pub count_is : get_or n.counts.items lane 0 ≡ length (distinct_answers answers)
        count_is = placed.count_is ∙ ap (λ (xs : List (List Bool)). length (distinct_answers xs)) all_answers

        pub number_own : (place : ℕ) → place < length leads → row_at (distinct_answers answers) (get_or n.numbers.items (stand place lane) 0) ≡ row_at answers place
        number_own place h = ap (λ (xs : List (List Bool)). row_at (distinct_answers xs) (get_or n.numbers.items (stand place lane) 0)) (sym all_answers) ∙ placed.own place h

        pub number_below : (place : ℕ) → place < length leads → get_or n.numbers.items (stand place lane) 0 < length (distinct_answers answers)
        number_below place h = omega (arith, (numbered.each lane in_trees).below place h, count_is)

-- the numbers of what the leads answer
module _ (c : Circuit) (is : IsCircuit c) (leads : List ℕ) (vectors : List (List Bool)) (compared : Compared) (are : AreCompared c leads vectors (length leads) compared) (made : Numbered)
    (whole : AreWholeTrees compared.lists made.trees.lanes (length leads) (length c.positions) made.trees) (lanes : made.trees.lanes ≡ length vectors) (numbered : AreNumberedTo made.trees (λ l. length leads) made.numbers) where
  pub numbers_are : length vectors ≤ LANES → made.differing.items ≡ compared.differing.items → AreLeadNumbers c leads vectors made
  numbers_are few same = record {
    few = few;
    lanes = lanes;
    cells = whole.cells ∙ ap (λ k. length leads * k) lanes;
    trees = whole.trees;
    nodes = numbered.nodes;
    counts = numbered.lanes ∙ lanes;
    differing = subst (AreDiffering c leads vectors (length leads)) (sym same) are.differing;
    number = λ lane place h l answers given. record {
      within = number_below c is leads vectors compared are made.trees whole lanes lane h answers given made.numbers numbered place l;
      own = number_own c is leads vectors compared are made.trees whole lanes lane h answers given made.numbers numbered place l;
    };
    count = λ lane h answers given. count_is c is leads vectors compared are made.trees whole lanes lane h answers given made.numbers numbered;
    way = λ lane place h l. record {
      differs = test_of compared.lists (length leads) (length c.positions) made.trees whole place lane;
      way = ap (λ (way : Way). way.positions) (own_way compared.lists (length leads) (length c.positions) made.trees whole place lane l (omega (arith, h, lanes)));
      right = λ position b. are.live place position lane l b h;
    };
  }

-- ---- an answer that is read back

module _ (c : Circuit) (is : IsCircuit c) (leads : List ℕ) (vectors : List (List Bool)) (n : Numbered) (place lane : ℕ) (has : HasOwnWay c leads vectors n place lane) (free : List Bool)
    (of : IsAnswer c Free (get_or vectors lane []) free) where
  abbrev on_way : List ℕ
  on_way = (way_of n.trees.lanes n.trees.nodes.items (stand_of n.trees place lane)).positions

  pub way_within : All (λ position. position < length free) on_way
  way_within =
      subst (λ k. All (λ position. position < k) on_way) (sym (length-answer of)) (subst (All (λ position. position < length c.positions)) (sym has.way) (passing_low has.differs (length c.positions)))

  turned_is : (answer : List Bool) → IsAnswer c (lead_fault c leads place) (get_or vectors lane []) answer → turned on_way free ≡ answer
  turned_is answer given =
      let xs = passing_below has.differs (length c.positions) in
      let long : length (turned xs free) ≡ length c.positions = length-turned xs free ∙ length-answer of in
      ap (λ (ys : List ℕ). turned ys free) has.way ∙ same_bits_same_list (turned xs free) answer (long ∙ sym (length-answer given)) (λ k h.
      let low : k < length c.positions = omega (arith, h, long) in
      let turn : (ltb k (length c.positions) && has.differs k) ≡ has.differs k = ap (λ b. b && has.differs k) (lt-ltb k (length c.positions) low) in
      turned_at has.differs (length c.positions) k free (omega (arith, length-answer of))
      ∙ (ap (λ b. cond b (not (bit_at free k)) (bit_at free k)) turn ∙ sym (bit_by (has.differs k) (bit_at answer k) (bit_at free k) (has.right k low answer free given of))))

  pub read_back : IsAnswer c (lead_fault c leads place) (get_or vectors lane []) (turned on_way free)
  read_back =
      let some = answer_exists c is (lead_fault c leads place) (get_or vectors lane []) in
      subst (IsAnswer c (lead_fault c leads place) (get_or vectors lane [])) (sym (turned_is some.0 some.1)) some.1
