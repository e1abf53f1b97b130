use Rattle.std.proofs.Common.{◌≡◌, ℕ, length, ◌<◌, List, get_or, refl, sym, subst, ◌∙◌, arith, inr}
use Rattle.std.specs.Prelude.{Contains}
use Rattle.std.proofs.lemmas.Bool.{false≢true}
use Rattle.std.proofs.lemmas.Grind.{get_or_default_zero}
use Rattle.std.proofs.lemmas.List.Elements.{All-contains}
use Rattle.net_model.specs.FaultList.{fault_count}
use Rattle.kept_vectors.specs.Notes.{IsNumberAsked, IsUnitAsked}
use Rattle.kept_vectors.proofs.NoteLemmas.{alike_by_roots}
use Rattle.kept_vectors.specs.Units.{IsUnit}
use Rattle.kept_vectors.proofs.GroupLemmas.{IsKnownSoFar, group_known, known_none, known_unit, known_other}
use Rattle.kept_vectors.proofs.differences.Differences.ask_class.Goals as goal
use Rattle.kept_vectors.proofs.differences.Differences.ask_class.Goals.{then-has+in_ok-ask, else-has}

-- all members have the root of the first
one_root : (group roots : List ℕ) (m : ℕ) → ((k : ℕ) → k < length group → get_or roots (get_or group k 0) 0 ≡ get_or roots (get_or group 0 0) 0) → Contains group m → get_or roots m 0 ≡ get_or roots (get_or group 0 0) 0
one_root group roots m same (k, h, is) = subst (λ n. get_or roots n 0 ≡ get_or roots (get_or group 0 0) 0) (sym (get_or_default_zero group k m h) ∙ is) (same k h)

pub returns-then-have_one_root-clause-asked : goal.returns-then-have_one_root-clause-asked
returns-then-have_one_root-clause-asked c =
    let good = c.args.good.now in
    let group = c.args.group.now in
    let roots = c.args.self.now.units.roots.now in
    let run = c.requires.run in
    let same = c.have_one_root.ensures c.if-have_one_root.true in
    inr (
      refl,
      λ m n lane hm hn live.
          alike_by_roots good run.circuit roots c.requires.of.roots run.widths m n lane (All-contains (λ k. k < fault_count good.circuit) group m c.requires.inside hm) (All-contains (λ k. k < fault_count good.circuit) group n c.requires.inside hn)
          (one_root group roots m same hm ∙ sym (one_root group roots n same hn)) live,
    )

pub loop-number-init : goal.loop-number-init
loop-number-init c = record {
  of = c.requires.of;
  ways = c.requires.ways;
  later = λ n asked. asked;
  units = refl;
  known = known_none c.args.self.now.units.roots.now (IsNumberAsked c.args.good.now c.args.self.now.needs.items c.args.self.now.turns.items) c.args.group.now c.args.self.now.numbers.items;
}

pub loop-number-preserved : goal.loop-number-preserved
loop-number-preserved c =
    let good = c.args.good.now in
    let so_far = c.loop-number.invariant in
    elim c.if-has.branch [
      | then-has+in_ok-ask w ↦
          let made = w.in_ok-ask.ensures in
          rw w.self-is (record {
            of = made.of;
            ways = made.ways;
            later = λ n asked. made.later n (so_far.later n asked);
            units = made.units ∙ so_far.units;
            known = known_unit so_far.known made.later c.loop-number-test.true w.ask.new.self.numbers.items made.numbers made.asked;
          })
      | else-has w ↦
          let none : IsUnit c.args.self.now.units.roots.now (get_or c.args.group.now c.loop-number.number-index 0) → ⊥ =
          λ unit. false≢true (sym w.if-has.false ∙ c.has.ensures.1 (subst (λ (rs : List ℕ). IsUnit rs (get_or c.args.group.now c.loop-number.number-index 0)) (sym so_far.units) unit)) in
          rw w.self-is (record {
            of = so_far.of;
            ways = so_far.ways;
            later = so_far.later;
            units = so_far.units;
            known = known_other so_far.known (λ n asked. asked) c.loop-number-test.true c.loop-number.self.numbers.items refl none;
          })
    ]

pub returns-clause-asked : goal.returns-clause-asked
returns-clause-asked c =
    let good = c.args.good.now in
    let group = c.args.group.now in
    let now = c.loop-number.self in
    let roots = now.units.roots.now in
    let so_far = c.loop-number.invariant in
    let same : c.args.self.now.units.roots.now ≡ roots = sym so_far.units in
    let closed : (n : ℕ) → Contains group n → Contains group (get_or roots n 0) = subst (λ (rs : List ℕ). (n : ℕ) → Contains group n → Contains group (get_or rs n 0)) same c.requires.units in
    let known = subst (λ (rs : List ℕ). IsKnownSoFar rs (IsNumberAsked good now.needs.items now.turns.items) group c.loop-number.number-index c.args.self.now.numbers.items now.numbers.items) same so_far.known in
    group_known good {IsRootKnown = IsUnitAsked good now} known (omega (arith, c.loop-number-test.false)) (λ n has.
    let h : n < fault_count good.circuit = All-contains (λ k. k < fault_count good.circuit) group n c.requires.inside has in
    let inside : n < length roots = omega (arith, h, so_far.of.roots.whole) in
    (closed n has, so_far.of.roots.itself n h, λ asked. (inside, asked)))
