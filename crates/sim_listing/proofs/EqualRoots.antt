-- The roots of a circuit's faults.
use Rattle.std.proofs.Common.{◌≡◌, ◌∙◌, ℕ, ◌<◌, List, length, get_or, refl, ap, arith}
use Rattle.std.specs.Prelude.{◌==◌}
use Rattle.std.proofs.lemmas.Bool.{eq-eqb}
use Rattle.net_model.specs.Circuit.{Circuit}
use Rattle.fault_collapse.specs.Forest.{Forest, IsForestOf, root_of}
use Rattle.fault_collapse.proofs.Settled.{same_equal}
use Rattle.table_dicts.proofs.RootLemmas.{settled}
use Rattle.sim_listing.specs.RootPlaces.{AreRootPlaces}
use Rattle.sim_listing.specs.LaneAnswers.{AreEqualRoots}

pub equal_roots : (c : Circuit) (forest : Forest) (roots places : List ℕ) → IsForestOf c forest → AreRootPlaces forest.roots roots places → AreEqualRoots c roots places
equal_roots c forest roots places of found = record {
  circuit = of.circuit;
  known = λ k d h. omega (arith, found.known k d h, of.roots.whole);
  one_each = found.one_each ∙ of.roots.whole;
  few_roots = omega (arith, found.few, (settled of).few);
  few = omega (arith, (settled of).few, found.one_each);
  within = λ number h. found.within number (omega (arith, h, found.one_each));
  equal = λ number h.
      let inside : number < length forest.roots = omega (arith, h, found.one_each) in
      let lead = get_or roots (get_or places number 0) 0 in
      let known : lead < length forest.roots = found.known (get_or places number 0) 0 (found.within number inside) in
      let same : root_of forest lead ≡ root_of forest number = ap (root_of forest) (found.own number inside) ∙ (settled of).last number inside in
      same_equal c forest of lead number known inside (root_of forest lead == root_of forest number) refl (eq-eqb (root_of forest lead) (root_of forest number) same);
}
