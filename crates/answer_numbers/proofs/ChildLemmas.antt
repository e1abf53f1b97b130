-- A node below another: one that is there, and one that is made.
use Rattle.std.proofs.Common.{◌≡◌, ◌≢◌, ◌∙◌, ℕ, ◌+◌, ◌<◌, ◌≤◌, ◌^◌, ◌⊎◌, List, [], ◌∷◌, ◌++◌, eqb, length, get_or, set, refl, sym, ap, subst, arith, inl, inr}
use Rattle.std.proofs.lemmas.Bool.{cases_lt, cases_eq, cond-true, cond-false, eq-eqb, ne_eqb}
use Rattle.std.proofs.lemmas.List.{length_push, length-set, get_or_append_left, get_or_push, get_or-set_same, get_or-set_other}
use Rattle.answer_numbers.specs.declared.trees.Node.{Node}
use Rattle.answer_numbers.specs.declared.trees.LaneTrees.{LaneTrees}
use Rattle.answer_numbers.specs.Trees.{longer_way, no_node, node_at, way_of, way_at, IsForest, IsLastChild, AreTrees, HasChild, AreGrown}
use Rattle.answer_numbers.proofs.WayLemmas.{above_at, position_at, way-node, way-same}

abbrev turn_at : List Node → ℕ → ℕ
turn_at nodes n = (node_at nodes n).turn

abbrev child_at : List Node → ℕ → ℕ
child_at nodes n = (node_at nodes n).child

module _ (lanes : ℕ) (nodes : List Node) (node position : ℕ) (forest : IsForest lanes (position + 1) nodes) (known_node : node < length nodes) where
  -- the node below that is there already
  pub there : turn_at nodes node ≡ position + 1 → (child_at nodes node < length nodes) × (way_of lanes nodes (child_at nodes node) ≡ longer_way position (way_of lanes nodes node))
  there turn =
      let last = forest.last node known_node (omega (arith, turn)) in
      let own : position_at nodes (child_at nodes node) ≡ position = omega (arith, last.position, turn) in (
        last.within,
        way-node lanes nodes forest.lower (child_at nodes node) last.node last.within ∙ (λ i. longer_way (own i) (way_of lanes nodes (last.above i))),
      )

  -- the node above with the new node below it, and the new node
  abbrev pub with_child : Node
  with_child = record { above = above_at nodes node; position = position_at nodes node; turn = position + 1; child = length nodes }

  abbrev pub new_node : Node
  new_node = record { above = node; position = position; turn = 0; child = 0 }

  abbrev pub grown_nodes : List Node
  grown_nodes = set (nodes ++ new_node ∷ []) node with_child

  long : length grown_nodes ≡ length nodes + 1
  long = length-set (nodes ++ new_node ∷ []) node with_child ∙ length_push nodes new_node

  at_own : node_at grown_nodes node ≡ with_child
  at_own = get_or-set_same (nodes ++ new_node ∷ []) node with_child no_node (omega (arith, known_node, length_push nodes new_node))

  at_new : node_at grown_nodes (length nodes) ≡ new_node
  at_new =
      let ne : length nodes ≢ node = λ e. omega (arith, e, known_node) in
      get_or-set_other (nodes ++ new_node ∷ []) node (length nodes) with_child no_node ne ∙ get_or_push nodes new_node no_node (length nodes) refl

  at_other : (n : ℕ) → n < length nodes → n ≢ node → node_at grown_nodes n ≡ node_at nodes n
  at_other n h ne = get_or-set_other (nodes ++ new_node ∷ []) node n with_child no_node ne ∙ get_or_append_left nodes (new_node ∷ []) no_node n h

  aboves : (n : ℕ) → n < length nodes → above_at grown_nodes n ≡ above_at nodes n
  aboves n h = elim (cases_eq n node) [
    | inl e ↦ ap (above_at grown_nodes) e ∙ (ap (λ (x : Node). x.above) at_own ∙ ap (above_at nodes) (sym e))
    | inr ne ↦ ap (λ (x : Node). x.above) (at_other n h ne)
  ]

  positions : (n : ℕ) → n < length nodes → position_at grown_nodes n ≡ position_at nodes n
  positions n h = elim (cases_eq n node) [
    | inl e ↦ ap (position_at grown_nodes) e ∙ (ap (λ (x : Node). x.position) at_own ∙ ap (position_at nodes) (sym e))
    | inr ne ↦ ap (λ (x : Node). x.position) (at_other n h ne)
  ]

  -- a number below the new count is an old one or that of the new node
  which : (n : ℕ) → n < length grown_nodes → (n < length nodes) ⊎ (n ≡ length nodes)
  which n h = elim (cases_lt n (length nodes)) [
    | inl old ↦ inl old
    | inr past ↦ inr (omega (arith, h, long, past))
  ]

  new_above : (n : ℕ) → n ≡ length nodes → above_at grown_nodes n ≡ node
  new_above n e = ap (above_at grown_nodes) e ∙ ap (λ (x : Node). x.above) at_new

  new_position : (n : ℕ) → n ≡ length nodes → position_at grown_nodes n ≡ position
  new_position n e = ap (position_at grown_nodes) e ∙ ap (λ (x : Node). x.position) at_new

  own_turn : turn_at grown_nodes node ≡ position + 1
  own_turn = ap (λ (x : Node). x.turn) at_own

  module _ (turn : turn_at nodes node ≢ position + 1) where
    -- no other node is below for the position
    none_yet : (n : ℕ) → lanes ≤ n → n < length nodes → above_at nodes n ≡ node → position_at nodes n ≡ position → ⊥
    none_yet n on h a p =
        let some : position_at nodes n < turn_at nodes node = subst (λ k. position_at nodes n < turn_at nodes k) a (forest.known n on h) in
        let low : turn_at nodes node ≤ position + 1 = forest.low node known_node in
        turn (omega (arith, some, low, p))

    grown_apart : (m n : ℕ) → lanes ≤ m → m < length grown_nodes → lanes ≤ n → n < length grown_nodes → above_at grown_nodes m ≡ above_at grown_nodes n → position_at grown_nodes m ≡ position_at grown_nodes n → m ≡ n
    grown_apart m n om hm on hn a p = elim (which m hm) [
      | inl old ↦ elim (which n hn) [
        | inl kept ↦ forest.apart m n om old on kept (sym (aboves m old) ∙ (a ∙ aboves n kept)) (sym (positions m old) ∙ (p ∙ positions n kept))
        | inr new ↦ absurd (none_yet m om old (sym (aboves m old) ∙ (a ∙ new_above n new)) (sym (positions m old) ∙ (p ∙ new_position n new)))
      ]
      | inr new ↦ elim (which n hn) [
        | inl kept ↦ absurd (none_yet n on kept (sym (aboves n kept) ∙ (sym a ∙ new_above m new)) (sym (positions n kept) ∙ (sym p ∙ new_position m new)))
        | inr also ↦ new ∙ sym also
      ]
    ]

    grown_lower : (n : ℕ) → lanes ≤ n → n < length grown_nodes → above_at grown_nodes n < n
    grown_lower n on h = elim (which n h) [
      | inl old ↦ omega (arith, aboves n old, forest.lower n on old)
      | inr new ↦ omega (arith, new_above n new, new, known_node)
    ]

    -- a node below, given by equations
    last_as : (n c t : ℕ) → child_at grown_nodes n ≡ c → turn_at grown_nodes n ≡ t → lanes ≤ c → c < length grown_nodes → above_at grown_nodes c ≡ n → position_at grown_nodes c + 1 ≡ t → IsLastChild lanes grown_nodes n
    last_as n c t child turns past inside above own = record {
      node = subst (λ k. lanes ≤ k) (sym child) past;
      within = subst (λ k. k < length grown_nodes) (sym child) inside;
      above = ap (above_at grown_nodes) child ∙ above;
      position = ap (λ k. position_at grown_nodes k + 1) child ∙ (own ∙ sym turns);
    }

    grown_last : (n : ℕ) → n < length grown_nodes → 0 < turn_at grown_nodes n → IsLastChild lanes grown_nodes n
    grown_last n h some = elim (which n h) [
      | inl old ↦ elim (cases_eq n node) [
        | inl e ↦ last_as n (length nodes) (position + 1) (ap (child_at grown_nodes) e ∙ ap (λ (x : Node). x.child) at_own) (ap (turn_at grown_nodes) e ∙ own_turn) forest.roots (omega (arith, long))
            (new_above (length nodes) refl ∙ sym e) (omega (arith, new_position (length nodes) refl))
        | inr ne ↦
            let same = at_other n old ne in
            let last = forest.last n old (omega (arith, some, ap (λ (x : Node). x.turn) same)) in
            last_as n (child_at nodes n) (turn_at nodes n) (ap (λ (x : Node). x.child) same) (ap (λ (x : Node). x.turn) same) last.node (omega (arith, last.within, long))
            (aboves (child_at nodes n) last.within ∙ last.above) (omega (arith, positions (child_at nodes n) last.within, last.position))
      ]
      | inr new ↦ absurd (omega (arith, some, ap (turn_at grown_nodes) new, ap (λ (x : Node). x.turn) at_new))
    ]

    -- turns only rise
    turn_kept : (n : ℕ) → n < length nodes → turn_at nodes n ≤ turn_at grown_nodes n
    turn_kept n h = elim (cases_eq n node) [
      | inl e ↦ omega (arith, ap (turn_at grown_nodes) e, own_turn, ap (turn_at nodes) e, forest.low node known_node)
      | inr ne ↦ omega (arith, ap (λ (x : Node). x.turn) (at_other n h ne))
    ]

    grown_known : (n : ℕ) → lanes ≤ n → n < length grown_nodes → position_at grown_nodes n < turn_at grown_nodes (above_at grown_nodes n)
    grown_known n on h = elim (which n h) [
      | inl old ↦
          let low : above_at nodes n < n = forest.lower n on old in
          omega (arith, positions n old, forest.known n on old, turn_kept (above_at nodes n) (omega (arith, low, old)), ap (turn_at grown_nodes) (aboves n old))
      | inr new ↦ omega (arith, new_position n new, ap (turn_at grown_nodes) (new_above n new), own_turn)
    ]

    grown_low : (n : ℕ) → n < length grown_nodes → turn_at grown_nodes n ≤ position + 1
    grown_low n h = elim (which n h) [
      | inl old ↦ elim (cases_eq n node) [
        | inl e ↦ omega (arith, ap (turn_at grown_nodes) e, own_turn)
        | inr ne ↦ omega (arith, ap (λ (x : Node). x.turn) (at_other n old ne), forest.low n old)
      ]
      | inr new ↦ omega (arith, ap (turn_at grown_nodes) new, ap (λ (x : Node). x.turn) at_new)
    ]

    pub grown_forest : length nodes + 1 < 2 ^ 32 → IsForest lanes (position + 1) grown_nodes
    grown_forest few = record {
      roots = omega (arith, forest.roots, long);
      few = omega (arith, few, long);
      lower = grown_lower;
      apart = grown_apart;
      last = grown_last;
      known = grown_known;
      low = grown_low;
    }

    pub ways_kept : (n : ℕ) → n < length nodes → way_of lanes grown_nodes n ≡ way_of lanes nodes n
    ways_kept n h = way-same lanes nodes forest.lower grown_nodes aboves positions n h

    pub new_way : way_of lanes grown_nodes (length nodes) ≡ longer_way position (way_of lanes nodes node)
    new_way =
        let own = new_position (length nodes) refl in
        let above = new_above (length nodes) refl in
        way-node lanes grown_nodes grown_lower (length nodes) forest.roots (omega (arith, long))
        ∙ ((λ i. longer_way (own i) (way_of lanes grown_nodes (above i))) ∙ ap (longer_way position) (ways_kept node known_node))

    pub grown_long : length grown_nodes ≡ length nodes + 1
    grown_long = long

-- ---- in trees

same_ways : (old new : LaneTrees) → new.nodes.items ≡ old.nodes.items → (n : ℕ) → way_of old.lanes new.nodes.items n ≡ way_of old.lanes old.nodes.items n
same_ways old new e n = ap (λ (xs : List Node). way_of old.lanes xs n) e

-- the node below is there already
pub child_there : (old new : LaneTrees) (node position : ℕ) (above : Node) → IsForest old.lanes (position + 1) old.nodes.items → node < length old.nodes.items → above ≡ node_at old.nodes.items node → above.turn ≡ position + 1
    → new.lanes ≡ old.lanes → new.nodes.items ≡ old.nodes.items → new.stands.items ≡ old.stands.items → HasChild node position old new above.child
child_there old new node position above forest known own turn lanes nodes stands =
    let xs = old.nodes.items in
    let has = there old.lanes xs node position forest known (ap (λ (x : Node). x.turn) (sym own) ∙ turn) in
    let child : above.child ≡ child_at xs node = ap (λ (x : Node). x.child) own in
    record {
      lanes = lanes;
      stands = stands;
      more = omega (arith, ap length nodes);
      forest = subst (IsForest old.lanes (position + 1)) (sym nodes) forest;
      within = omega (arith, ap length nodes, child, has.0);
      here = same_ways old new nodes above.child ∙ (ap (way_of old.lanes xs) child ∙ has.1);
      others = λ n h. same_ways old new nodes n;
    }

-- the node below is made
pub child_made : (old new : LaneTrees) (node position child : ℕ) (forest : IsForest old.lanes (position + 1) old.nodes.items) (known : node < length old.nodes.items) → turn_at old.nodes.items node ≢ position + 1
    → length old.nodes.items + 1 < 2 ^ 32 → new.lanes ≡ old.lanes → new.stands.items ≡ old.stands.items → new.nodes.items ≡ grown_nodes old.lanes old.nodes.items node position forest known → child ≡ length old.nodes.items
    → HasChild node position old new child
child_made old new node position child forest known turn few lanes stands nodes last =
    let xs = old.nodes.items in
    let ys = grown_nodes old.lanes xs node position forest known in
    let long : length ys ≡ length xs + 1 = grown_long old.lanes xs node position forest known turn in
    record {
      lanes = lanes;
      stands = stands;
      more = omega (arith, ap length nodes, long);
      forest = subst (IsForest old.lanes (position + 1)) (sym nodes) (grown_forest old.lanes xs node position forest known turn few);
      within = omega (arith, ap length nodes, long, last);
      here = (λ i. way_of old.lanes (nodes i) (last i)) ∙ new_way old.lanes xs node position forest known turn;
      others = λ n h. ap (λ (zs : List Node). way_of old.lanes zs n) nodes ∙ ways_kept old.lanes xs node position forest known turn n h;
    }

-- a cell goes to the node below
pub stepped : (old mid new : LaneTrees) (node position cell child : ℕ) → AreTrees (position + 1) old → cell < length old.stands.items → node ≡ get_or old.stands.items cell 0 → HasChild node position old mid child
    → new.lanes ≡ mid.lanes → new.nodes.items ≡ mid.nodes.items → new.stands.items ≡ set mid.stands.items cell child → AreGrown position (λ other. eqb other cell) old new
stepped old mid new node position cell child trees inside stood has lanes nodes stands =
    let own : new.lanes ≡ old.lanes = lanes ∙ has.lanes in
    let cells : new.stands.items ≡ set old.stands.items cell child = stands ∙ ap (λ (xs : List ℕ). set xs cell child) has.stands in
    let here : get_or new.stands.items cell 0 ≡ child = ap (λ (xs : List ℕ). get_or xs cell 0) cells ∙ get_or-set_same old.stands.items cell child 0 inside in
    let others : (k : ℕ) → k ≢ cell → get_or new.stands.items k 0 ≡ get_or old.stands.items k 0 = λ k ne. ap (λ (xs : List ℕ). get_or xs k 0) cells ∙ get_or-set_other old.stands.items cell k child 0 ne in
    let long : length new.stands.items ≡ length old.stands.items = ap length cells ∙ length-set old.stands.items cell child in
    let way : (n : ℕ) → way_of new.lanes new.nodes.items n ≡ way_of old.lanes mid.nodes.items n = λ n. λ i. way_of (own i) (nodes i) n in
    record {
      lanes = own;
      cells = long;
      trees = record {
        forest = subst (λ l. IsForest l (position + 1) new.nodes.items) (sym own) (subst (IsForest old.lanes (position + 1)) (sym nodes) has.forest);
        within = λ k h. elim (cases_eq k cell) [
          | inl e ↦ omega (arith, ap (λ j. get_or new.stands.items j 0) e, here, has.within, ap length nodes)
          | inr ne ↦ omega (arith, others k ne, trees.within k (omega (arith, h, long)), has.more, ap length nodes)
        ];
      };
      ways = λ k h. elim (cases_eq k cell) [
        | inl e ↦
            ap (λ j. way_at new j) e
            ∙ (way (get_or new.stands.items cell 0) ∙ (ap (way_of old.lanes mid.nodes.items) here ∙ (has.here ∙ (ap (λ n. longer_way position (way_of old.lanes old.nodes.items n)) stood
            ∙ (ap (λ j. longer_way position (way_at old j)) (sym e) ∙ sym (cond-true (eqb k cell) (longer_way position (way_at old k)) (way_at old k) (eq-eqb k cell e)))))))
        | inr ne ↦
            way (get_or new.stands.items k 0) ∙ (ap (way_of old.lanes mid.nodes.items) (others k ne) ∙ (has.others (get_or old.stands.items k 0) (trees.within k h)
            ∙ sym (cond-false (eqb k cell) (longer_way position (way_at old k)) (way_at old k) (ne_eqb k cell ne))))
      ];
    }
