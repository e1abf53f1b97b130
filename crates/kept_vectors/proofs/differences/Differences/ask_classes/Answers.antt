use Rattle.std.proofs.Common.{◌≡◌, ◌∙◌, ◌<◌, ℕ, List, length, get_or, sym, subst, arith}
use Rattle.std.specs.Prelude.{Contains}
use Rattle.std.proofs.lemmas.List.Elements.{All-contains}
use Rattle.net_model.specs.ClassTable.{class_at, members}
use Rattle.class_refine.proofs.Pieces.{members-All, members-contains}
use Rattle.kept_vectors.specs.Notes.{IsNumberAsked, IsUnitAsked}
use Rattle.kept_vectors.proofs.GroupLemmas.{AreKnownBelow, below_more}
use Rattle.kept_vectors.proofs.differences.Differences.ask_classes.Goals as goal

pub ask_class-requires-clause-inside : goal.ask_class-requires-clause-inside
ask_class-requires-clause-inside c =
    rw c.members.ensures (λ k d h. let all = members-All c.args.classes.now c.loop-class.class k d h in omega (arith, all.0, c.requires.numbers))

-- a class has the root of each of its numbers
pub ask_class-requires-clause-units : goal.ask_class-requires-clause-units
ask_class-requires-clause-units c =
    let t = c.args.classes.now in
    let class = c.loop-class.class in
    let roots = c.loop-class.self.units.roots.now in
    rw c.members.ensures (λ n has.
    let is = All-contains (λ m. (m < length t.class_of) × (class_at t m ≡ class)) (members t class) n (members-All t class) has in
    let root = get_or roots n 0 in
    let below : root < length t.class_of = omega (arith, c.loop-class.invariant.of.roots.within n 0 (omega (arith, is.0, c.requires.numbers, c.loop-class.invariant.of.roots.whole)), c.requires.numbers) in
    let together : class_at t root ≡ class_at t n = subst (λ (rs : List ℕ). class_at t (get_or rs n 0) ≡ class_at t n) (sym c.loop-class.invariant.units) (c.requires.together n is.0) in
    subst (λ (k : ℕ). Contains (members t k) root) (together ∙ is.1) (members-contains t root below))

pub loop-class-preserved : goal.loop-class-preserved
loop-class-preserved c =
    let good = c.args.good.now in
    let old = c.loop-class.self in
    let new = c.ask_class.new.self in
    let roots = c.ask_class.ensures.units in
    let later : (n : ℕ) → IsUnitAsked good old n → IsUnitAsked good new n =
    λ n was. (subst (λ (rs : List ℕ). n < length rs) (sym roots) was.0, c.in_ok-ask_class.ensures.later (get_or new.units.roots.now n 0) (subst (λ (rs : List ℕ). IsNumberAsked good old.needs.items old.turns.items (get_or rs n 0)) (sym roots) was.1)) in
    record {
      of = c.ask_class.ensures.of;
      ways = c.ask_class.ensures.ways;
      units = roots ∙ c.loop-class.invariant.units;
      known = below_more good new.units.roots.now c.args.classes.now c.loop-class.class (IsUnitAsked good old) (IsUnitAsked good new) old.numbers.items new.numbers.items later
          (rw c.members.ensures at c.in_ok-ask_class.ensures.asked)
          (subst (λ (rs : List ℕ). AreKnownBelow good rs (IsUnitAsked good old) c.args.classes.now c.loop-class.class old.numbers.items) (sym roots) c.loop-class.invariant.known);
    }

pub returns-clause-asked : goal.returns-clause-asked
returns-clause-asked c = record {
  mates = c.loop-class.invariant.known.mates;
  others = λ n h. c.loop-class.invariant.known.known n h (omega (arith, c.requires.whole.classes n h, c.count-class-end.ensures.value, c.loop-class-test.false));
}
