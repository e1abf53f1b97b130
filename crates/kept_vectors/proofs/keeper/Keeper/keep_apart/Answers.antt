use Rattle.std.proofs.Common.{◌≡◌, ◌∷◌, ℕ, Bool, true, false, List, [], refl, sym, ap, subst, arith}
use Rattle.std.specs.Prelude.{Result, Ok, Err, IfOk, OnErr, IsTrue, Contains, if◌then◌else◌}
use Rattle.std.proofs.lemmas.Bool.{false≢true}
use Rattle.net_model.specs.Circuit.{Circuit}
use Rattle.kept_vectors.specs.Kept.{KeptSoFar, Keeps}
use Rattle.kept_vectors.specs.Keeper.{Keeper, IsKeeperOf, SeparatesMember}
use Rattle.kept_vectors.specs.Scan.{kept_now}
use Rattle.kept_vectors.proofs.KeepLemmas.{keeper_after}
use Rattle.kept_vectors.proofs.keeper.Keeper.keep_apart.Goals as goal
use Rattle.kept_vectors.proofs.keeper.Keeper.keep_apart.Goals.{After-keep_apart}

-- what is kept for a number is a vector of the block, or nothing
keeper_after_apart : {E : Type 0} {c : Circuit} {old new : KeptSoFar} (vectors : List (List Bool)) (member : ℕ) → IsKeeperOf c old → (r : Result Bool E)
    → IfOk r (λ apart. IsTrue apart → (v : List Bool) × Contains vectors v × SeparatesMember c old.table member v × Keeps c (v ∷ []) old new) → IfOk r (λ apart. ¬ IsTrue apart → new ≡ old) → OnErr r (new ≡ old) → IsKeeperOf c new
keeper_after_apart {E} {c} {old} {new} vectors member is (Ok true) apart same err =
    let one = apart refl in
    keeper_after c (one.0 ∷ []) old new is (λ k d below. let e : k ≡ 0 = omega arith in rw e one.2.width) one.3
keeper_after_apart {E} {c} {old} {new} vectors member is (Ok false) apart same err = rw (same false≢true) is
keeper_after_apart {E} {c} {old} {new} vectors member is (Err e) apart same err = rw err is

looked : (c : After-keep_apart) → c.self.inside.scan.block.vectors ≡ (if c.self.inside.stands then c.self.inside.scan.block.vectors else [])
looked c = ap (λ (b : Bool). if b then c.self.inside.scan.block.vectors else []) (sym c.if-not-self.false)

pub invariant_of-self : goal.invariant_of-self
invariant_of-self c =
    let apart = c.keep_apart.ensures in
    record {
      scan = apart.scan;
      keeper = rw apart.circuit (keeper_after_apart c.self.inside.scan.block.vectors c.args.member c.self.invariant.keeper c.keep_apart.result apart.apart apart.same apart.err);
      stream = rw apart.circuit c.self.invariant.stream;
      stands = λ is. apart.stands;
    }

pub returns-clause-apart : goal.returns-clause-apart
returns-clause-apart c =
    let new = kept_now c.keep_apart.new.kept in
    let member = c.args.member in
    let e = looked (goal.at.returns-clause-apart c).After-keep_apart in
    subst (λ (k : Keeper). IfOk c.keep_apart.result (λ apart. IsTrue apart → (v : List Bool) × Contains k.looked v × SeparatesMember k.circuit k.kept.table member v × Keeps k.circuit (v ∷ []) k.kept new)) c.self.view_is
    (subst (λ (vs : List (List Bool)). IfOk c.keep_apart.result (λ apart. IsTrue apart → (v : List Bool) × Contains vs v × SeparatesMember c.self.inside.scan.good.circuit c.self.inside.kept.classes member v × Keeps c.self.inside.scan.good.circuit (v ∷ []) (kept_now c.self.inside.kept) new)) e c.keep_apart.ensures.apart)

pub returns-clause-none : goal.returns-clause-none
returns-clause-none c =
    let member = c.args.member in
    let e = looked (goal.at.returns-clause-none c).After-keep_apart in
    subst (λ (k : Keeper). IfOk c.keep_apart.result (λ apart. ¬ IsTrue apart → (v : List Bool) → Contains k.looked v → SeparatesMember k.circuit k.kept.table member v → ⊥)) c.self.view_is
    (subst (λ (vs : List (List Bool)). IfOk c.keep_apart.result (λ apart. ¬ IsTrue apart → (v : List Bool) → Contains vs v → SeparatesMember c.self.inside.scan.good.circuit c.self.inside.kept.classes member v → ⊥)) e c.keep_apart.ensures.none)
