-- The pairs of a circuit without faults, along an order of the gates.
use Rattle.std.proofs.Common.{◌≡◌, ◌≢◌, ℕ, ◌+◌, ◌<◌, ◌≤◌, List, [], length, take, get_or, set, sym, ◌∙◌, ap, subst, arith, inl, inr}
use Rattle.std.specs.Prelude.{Some, Contains, replicate, slice_get}
use Rattle.std.proofs.lemmas.Bool.{cases_eq, cases_lt}
use Rattle.std.proofs.lemmas.List.{get_or-set_same, get_or-set_other, get_or-take, get_or-replicate, get_or_past, length-replicate, length-set, length-take, take_more, take_all}
use Rattle.std.proofs.lemmas.List.Elements.{Contains-push_cases}
use Rattle.std.proofs.lemmas.Option.{slice_get-get_or}
use Rattle.net_model.specs.declared.fault.Fault.TheVariants.{Free}
use Rattle.net_model.specs.Circuit.{Circuit, IsCircuit, line_count, Feeds}
use Rattle.net_model.specs.Order.{IsOrder}
use Rattle.net_model.proofs.Orders.{order_has, order_only, reader_is_gate}
use Rattle.net_model.proofs.SetSoFar.{fits_from}
use Rattle.pair_sets.specs.PairSet.{PairSet, free_pairs}
use Rattle.pair_sets.specs.CubeState.{set_at, line_pairs, ArePairSets}
use Rattle.pair_sets.proofs.GateLemmas.{free_is}
use Rattle.pair_sets.proofs.SeenLemmas.{same_line_pairs, source_line_pairs}

-- the pairs of a line without faults
abbrev pub base_line : Circuit → List PairSet → ℕ → PairSet
base_line c sets line = line_pairs c Free Free [] sets line

-- The sources and the first `i` gates have their pairs.
pub record BaseSoFar (c : Circuit) (order : List ℕ) (i : ℕ) (sets : List PairSet) : Type 0 where
  pub whole : length sets ≡ line_count c
  pub sources : (line : ℕ) → line < c.sources → set_at sets line ≡ base_line c sets line
  pub gates : (line : ℕ) → Contains (take i order) line → set_at sets line ≡ base_line c sets line

pub free_everywhere : (count line : ℕ) → set_at (replicate count free_pairs) line ≡ free_pairs
free_everywhere count line = elim (cases_lt line count) [
  | inl below ↦ get_or-replicate count line free_pairs free_pairs below
  | inr past ↦ get_or_past (replicate count free_pairs) line free_pairs (omega (arith, past, length-replicate count free_pairs))
]

module _ (c : Circuit) (w : IsCircuit c) (order : List ℕ) (is : IsOrder c order) where
  pub base_none : (sets : List PairSet) → length sets ≡ line_count c → ((line : ℕ) → set_at sets line ≡ free_pairs) → BaseSoFar c order 0 sets
  base_none sets whole free = record {
    whole = whole;
    sources = λ line h. free line ∙ free_is free_pairs ∙ sym (source_line_pairs c Free Free [] sets line h);
    gates = λ line m. absurd (omega (arith, m.1));
  }

  -- no gate before place `i` reads the line of the gate there
  reads_earlier : (i line read : ℕ) → i < length order → Contains (take i order) line → Feeds c read line → read ≢ get_or order i 0
  reads_earlier i line read h (k, below, at) m same =
      let before : k < i = omega (arith, below, length-take i order) in
      let there : slice_get order k ≡ Some line = slice_get-get_or order k line (omega (arith, before, h)) ∙ ap Some (sym (get_or-take i order k line before) ∙ at) in
      let later : i < k =
      is.sorted k i (get_or order i 0) line there (subst (λ r. Feeds c r line) same m) (order_only c (fits_from c w) order is i h).0 (slice_get-get_or order i 0 h) in
      omega arith

  pub base_more : (i : ℕ) (sets : List PairSet) (pairs : PairSet) → i < length order → pairs ≡ base_line c sets (get_or order i 0) → BaseSoFar c order i sets → BaseSoFar c order (i + 1) (set sets (get_or order i 0) pairs)
  base_more i sets pairs h right so_far =
      let line = get_or order i 0 in
      let new = set sets line pairs in
      let range = order_only c (fits_from c w) order is i h in
      let inside : line < length sets = omega (arith, so_far.whole, range.1) in
      let stays : (l : ℕ) → ((read : ℕ) → Feeds c read l → read ≢ line) → base_line c sets l ≡ base_line c new l =
      λ l apart. same_line_pairs c Free Free [] sets new l (λ read m. sym (get_or-set_other sets line read pairs free_pairs (apart read m))) in
      let not_own : (read : ℕ) → Feeds c read line → read ≢ line =
      λ read m same. let rises : w.acyclic.rank line < w.acyclic.rank line = subst (λ r. w.acyclic.rank r < w.acyclic.rank line) same (w.acyclic.rises read line m) in omega arith in
      record {
        whole = length-set sets line pairs ∙ so_far.whole;
        sources = λ l k.
            get_or-set_other sets line l pairs free_pairs (let ne : l ≢ line = omega (arith, k, range.0) in ne) ∙ so_far.sources l k
            ∙ stays l (λ read m same. let above = (reader_is_gate c read l m).0 in omega (arith, k, above));
        gates = λ l has. elim (cases_eq l line) [
          | inl same ↦
              let P : ℕ → Type 0 = λ k. set_at new k ≡ base_line c new k in
              subst P (sym same) (get_or-set_same sets line pairs free_pairs inside ∙ right ∙ stays line not_own)
          | inr ne ↦ elim (Contains-push_cases (take i order) line l (subst (λ xs. Contains xs l) (take_more order i 0 h) has)) [
            | inl earlier ↦ get_or-set_other sets line l pairs free_pairs ne ∙ so_far.gates l earlier ∙ stays l (λ read m. reads_earlier i l read h earlier m)
            | inr here ↦ absurd (ne (sym here))
          ]
        ];
      }

  pub base_all : (i : ℕ) (sets : List PairSet) → length order ≤ i → BaseSoFar c order i sets → ArePairSets c Free Free [] sets
  base_all i sets h so_far = record {
    whole = so_far.whole;
    each = λ line k. elim (cases_lt line c.sources) [
      | inl source ↦ so_far.sources line source
      | inr gate ↦ so_far.gates line (subst (λ xs. Contains xs line) (sym (take_all i order h)) (order_has c (fits_from c w) order is line gate k))
    ];
  }
