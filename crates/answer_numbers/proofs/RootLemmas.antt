-- Trees of their roots alone, and the way up from a node.
use Rattle.std.proofs.Common.{◌≡◌, ◌∙◌, ℕ, ◌+◌, ◌-◌, ◌*◌, ◌%◌, ◌<◌, ◌≤◌, ◌^◌, Bool, not, List, ◌∷◌, ◌++◌, length, get_or, set, replicate, sym, ap, subst, arith, inl, inr, All}
use Rattle.std.specs.List.{range_with_len}
use Rattle.std.proofs.lemmas.Bool.{cases_lt}
use Rattle.std.proofs.lemmas.List.{length-append, length-replicate, get_or_append_left, get_or-append_right}
use Rattle.std.proofs.lemmas.List.Elements.{All-head, All-tail}
use Rattle.std.proofs.lemmas.List.FromFn.{length-range_with_len, get_or-range_with_len}
use Rattle.std.proofs.lemmas.Nat.{mod-mul-add, mod_below}
use Rattle.net_model.specs.Answer.{bit_at}
use Rattle.net_model.proofs.Elements.{get_or-replicate_anywhere}
use Rattle.answer_numbers.specs.declared.trees.Node.{Node}
use Rattle.answer_numbers.specs.declared.trees.LaneTrees.{LaneTrees}
use Rattle.answer_numbers.specs.Trees.{Way, no_node, node_at, way_of, IsForest, AreBareTrees, turned}
use Rattle.answer_numbers.proofs.WayLemmas.{way-root, way-node}

-- ---- a list, one time more

-- The list is the row, `times` times.
pub record IsRepeated (row : List ℕ) (times : ℕ) (all : List ℕ) : Type 0 where
  pub count : length all ≡ times * length row
  pub each : (k : ℕ) → k < times * length row → get_or all k 0 ≡ get_or row (k % length row) 0

pub repeated_more : {row : List ℕ} {times : ℕ} {all more : List ℕ} → IsRepeated row times all → more ≡ all ++ row → IsRepeated row (times + 1) more
repeated_more {row} {times} {all} {more} are e = subst (IsRepeated row (times + 1)) (sym e) (record {
  count = omega (arith, length-append all row, are.count);
  each = λ k h. elim (cases_lt k (times * length row)) [
    | inl low ↦ get_or_append_left all row 0 k (omega (arith, low, are.count)) ∙ are.each k low
    | inr high ↦
        let past : k - times * length row < length row = omega (arith, h, high) in
        let join : times * length row + (k - times * length row) ≡ k = omega (arith, high) in
        get_or-append_right all row (times * length row) k 0 are.count high
        ∙ ap (λ j. get_or row j 0) (sym (mod-mul-add times (length row) (k - times * length row) past) ∙ ap (λ j. j % length row) join)
  ];
})

-- ---- no nodes except the roots

module _ (lanes places : ℕ) (few : lanes < 2 ^ 32) (t : LaneTrees) (lanes_are : t.lanes ≡ lanes) (nodes : t.nodes.items ≡ replicate lanes no_node) (row : List ℕ) (begin : row ≡ range_with_len 0 lanes)
    (are : IsRepeated row places t.stands.items) where
  node_is : (n : ℕ) → node_at t.nodes.items n ≡ no_node
  node_is n = ap (λ (xs : List Node). node_at xs n) nodes ∙ get_or-replicate_anywhere lanes n no_node

  long : length t.nodes.items ≡ lanes
  long = ap length nodes ∙ length-replicate lanes no_node

  row_long : length row ≡ lanes
  row_long = ap length begin ∙ length-range_with_len 0 lanes

  row_at : (lane : ℕ) → lane < lanes → get_or row lane 0 ≡ lane
  row_at lane h = ap (λ (xs : List ℕ). get_or xs lane 0) begin ∙ (get_or-range_with_len 0 lanes lane 0 h ∙ omega arith)

  count : length t.stands.items ≡ places * lanes
  count = are.count ∙ ap (λ k. places * k) row_long

  some_lane : (cell : ℕ) → cell < places * lanes → 0 < lanes
  some_lane cell h = elim (cases_lt 0 lanes) [
    | inl some ↦ some
    | inr none ↦ let zero_is : lanes ≡ 0 = omega (arith, none) in absurd (omega (arith, h, ap (λ k. places * k) zero_is))
  ]

  stand_is : (cell : ℕ) → cell < places * lanes → get_or t.stands.items cell 0 ≡ cell % lanes
  stand_is cell h =
      are.each cell (omega (arith, h, ap (λ k. places * k) row_long))
      ∙ (ap (λ k. get_or row (cell % k) 0) row_long ∙ row_at (cell % lanes) (mod_below cell lanes (some_lane cell h)))

  forest : IsForest lanes 0 t.nodes.items
  forest = record {
    roots = omega (arith, long);
    few = omega (arith, long, few);
    lower = λ n past below. absurd (omega (arith, past, below, long));
    apart = λ m n past below. absurd (omega (arith, past, below, long));
    last = λ n below some. absurd (omega (arith, some, ap (λ (x : Node). x.turn) (node_is n)));
    known = λ n past below. absurd (omega (arith, past, below, long));
    low = λ n below. omega (arith, ap (λ (x : Node). x.turn) (node_is n));
  }

  pub roots_are : AreBareTrees lanes places t
  roots_are = record {
    lanes_are = lanes_are;
    cells = count;
    trees = record {
      forest = subst (λ l. IsForest l 0 t.nodes.items) (sym lanes_are) forest;
      within = λ cell h.
          let inside : cell < places * lanes = omega (arith, h, count) in
          omega (arith, stand_is cell inside, mod_below cell lanes (some_lane cell inside), long);
    };
    ways = λ cell h.
        (λ i. way_of (lanes_are i) t.nodes.items (stand_is cell h i)) ∙ way-root lanes t.nodes.items (cell % lanes) (mod_below cell lanes (some_lane cell h));
  }

-- ---- one node up

module _ (lanes : ℕ) (nodes : List Node) (lower : (n : ℕ) → lanes ≤ n → n < length nodes → (node_at nodes n).above < n) (at : ℕ) (past : lanes ≤ at) (inside : at < length nodes) (own : Node) (own_is : own ≡ node_at nodes at) where
  up : (way_of lanes nodes at).positions ≡ own.position ∷ (way_of lanes nodes own.above).positions
  up = ap (λ (way : Way). way.positions) (way-node lanes nodes lower at past inside) ∙ ap (λ (x : Node). x.position ∷ (way_of lanes nodes x.above).positions) (sym own_is)

  pub above_lower : own.above < at
  above_lower = omega (arith, ap (λ (x : Node). x.above) own_is, lower at past inside)

  pub position_within : (limit : ℕ) → All (λ position. position < limit) (way_of lanes nodes at).positions → own.position < limit
  position_within limit all = All-head (λ position. position < limit) own.position (way_of lanes nodes own.above).positions (subst (All (λ position. position < limit)) up all)

  pub rest_within : (limit : ℕ) → All (λ position. position < limit) (way_of lanes nodes at).positions → All (λ position. position < limit) (way_of lanes nodes own.above).positions
  rest_within limit all = All-tail (λ position. position < limit) own.position (way_of lanes nodes own.above).positions (subst (All (λ position. position < limit)) up all)

  pub turned_up : (bits : List Bool) → turned (way_of lanes nodes own.above).positions (set bits own.position (not (bit_at bits own.position))) ≡ turned (way_of lanes nodes at).positions bits
  turned_up bits = sym (ap (λ (xs : List ℕ). turned xs bits) up)
