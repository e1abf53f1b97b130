-- The sites of the lines so far, and of one line more.
use Rattle.std.proofs.Common.{◌≡◌, ◌∙◌, ℕ, suc, ◌+◌, ◌*◌, ◌<◌, ◌≤◌, true, false, List, [], ◌∷◌, ◌++◌, length, get_or, map, refl, sym, ap, arith, append_assoc}
use Rattle.std.specs.Prelude.{flat_map, nat_le, Some, slice_get}
use Rattle.std.specs.List.{range_with_len}
use Rattle.std.proofs.lemmas.Bool.Decides.{nat_tests}
use Rattle.std.proofs.lemmas.List.{flat_map_more}
use Rattle.std.proofs.lemmas.List.FromFn.{get_or-map-range_with_len}
use Rattle.net_model.specs.declared.fault.Site.{Site}
use Rattle.net_model.specs.declared.fault.Site.TheVariants.{Stem}
use Rattle.net_model.specs.declared.fault.Fault.TheVariants.{Stuck}
use Rattle.net_model.specs.Circuit.{Circuit, line_count, all_lines}
use Rattle.net_model.specs.FaultList.{destinations, branches, sites_of_line, faults}
use Rattle.net_model.specs.Fault.{IsFaultOf}
use Rattle.net_model.proofs.Listed.{listed}
use Rattle.fault_list.proofs.Stuck.{stuck_of}
use Rattle.net_model.proofs.Copies.{All-at}
use Rattle.net_model.proofs.Orders.{range_with_len_more}

module _ (c : Circuit) where
  -- the destinations of a line, among those of all lines
  pub destinations_at : (line : ℕ) (all : List (List Site)) → line < line_count c → all ≡ map (destinations c) (all_lines c) → get_or all line [] ≡ destinations c line
  destinations_at line all h e = ap (λ xs. get_or xs line []) e ∙ get_or-map-range_with_len (destinations c) 0 (line_count c) line line [] h (omega arith)

  pub branches-many : (line : ℕ) → 2 ≤ length (destinations c line) → branches c line ≡ destinations c line
  unfolding branches
  branches-many line h = let test : nat_le 2 (length (destinations c line)) ≡ true = grind (arith, nat_tests) in rw test

  pub branches-few : (line : ℕ) → length (destinations c line) < 2 → branches c line ≡ []
  unfolding branches
  branches-few line h = let test : nat_le 2 (length (destinations c line)) ≡ false = grind (arith, nat_tests) in rw test

  pub sites_more : (line : ℕ) (so_far more : List Site) → so_far ≡ flat_map (sites_of_line c) (range_with_len 0 line) → more ≡ branches c line
      → (so_far ++ Stem line ∷ []) ++ more ≡ flat_map (sites_of_line c) (range_with_len 0 (line + 1))
  sites_more line so_far more e m =
      append_assoc so_far (Stem line ∷ []) more
      ∙ ((λ i. e i ++ Stem line ∷ m i)
      ∙ (flat_map_more (sites_of_line c) [] (range_with_len 0 line) line
      ∙ ap (flat_map (sites_of_line c)) (sym (range_with_len_more 0 (line + 1) line line refl (omega arith)))))

  -- a site of the list is in the circuit
  pub site_stands : (place : ℕ) (site : Site) → slice_get (flat_map (sites_of_line c) (all_lines c)) place ≡ Some site → IsFaultOf c (Stuck site false)
  unfolding faults
  site_stands place site there =
      All-at (IsFaultOf c) (faults c) (suc (2 * place + 0)) (Stuck site false) (listed c) (stuck_of (flat_map (sites_of_line c) (all_lines c)) place site false there)
