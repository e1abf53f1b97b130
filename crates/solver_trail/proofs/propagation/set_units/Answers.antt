use Rattle.std.proofs.Common.{◌≡◌, ◌∙◌, ◌+◌, ◌<◌, ◌++◌, inl, inr, ℕ, List, length, get_or, sym, ap, subst, arith}
use Rattle.std.specs.Prelude.{◌≤◌, None, Some, Contains, slice_get}
use Rattle.std.proofs.lemmas.Bool.{cases_eq}
use Rattle.std.proofs.lemmas.List.{get_or_default}
use Rattle.std.proofs.lemmas.List.Elements.{All-contains, Contains-get_or, Contains-append_left}
use Rattle.std.proofs.lemmas.Option.{get_or_from_slice_get, slice_get_cases}
use Rattle.clause_pool.specs.Literal.{Literal, opposite}
use Rattle.clause_pool.specs.Clauses.{Clause, numbered_clause}
use Rattle.clause_pool.specs.Partial.{IsSatisfied}
use Rattle.clause_pool.specs.Proper.{IsVariable}
use Rattle.clause_pool.proofs.Numbered.{same_clause}
use Rattle.solver_trail.specs.Assignment.{Assignment, Propagates, IsValueOf, assigned_literals}
use Rattle.solver_trail.specs.Trail.{IsFalseClause}
use Rattle.solver_trail.specs.Propagation.{numbers_attached}
use Rattle.solver_trail.proofs.Forced.{IsForced, IsUnit, propagates_none, propagates_two, propagates_forced, held_forced, held_more, reasons_forced, single_unit, undetermined_unset}
use Rattle.solver_trail.proofs.propagation.set_units.Goals as goal
use Rattle.solver_trail.proofs.propagation.set_units.Goals.{In-Some, in-Some-true, in-None-value_of}

pub loop-number-init : goal.loop-number-init
loop-number-init c = record { step = propagates_none c.args.set.now; trail = c.requires.trail; reasons = c.requires.reasons; units = λ j clause less. absurd (omega arith) }

-- ---- the clause in hand

-- the number of one of the first clauses is attached
number_attached : (short long items : List ℕ) (k : ℕ) → items ≡ short → k < length items → Contains (short ++ long) (get_or items k 0)
number_attached short long items k read less =
    subst (λ ns. Contains (short ++ long) (get_or ns k 0)) (sym read) (Contains-append_left short long (get_or short k 0) (Contains-get_or short k 0 (omega (arith, less, ap length read))))

pub get-requires : goal.get-requires
get-requires c =
    let attached = c.args.attached.now in
    let is_in = number_attached attached.short.items attached.long.items c.deref-number-items.result.now c.loop-number.number-index c.deref-number-items.ensures.value c.loop-number-test.true in
    let b = All-contains (λ number. (0 < number) × (number ≤ length c.args.pool.now.clauses)) (numbers_attached attached) (get_or c.deref-number-items.result.now c.loop-number.number-index 0) c.requires.attached.numbered is_in in
    record { from = b.0; below = b.1 }

single : (c : In-Some) → IsUnit c.loop-number.set c.get.result.now c.in-Some.lit.now
single c =
    let attached = c.args.attached.now in
    let items = c.deref-number-items.result.now in
    let number = get_or items c.loop-number.number-index 0 in
    let read = c.deref-number-items.ensures.value in
    let is_in : Contains attached.short.items number = subst (λ ns. Contains ns number) read (Contains-get_or items c.loop-number.number-index 0 c.loop-number-test.true) in
    single_unit c.loop-number.set c.get.result.now c.in-Some.lit.now (c.requires.short number c.get.result.now is_in c.get.ensures) (sym c.in-Some.ensures.value)

variable : (c : In-Some) → c.in-Some.lit.now.variable ≤ c.loop-number.set.variables
variable c =
    let attached = c.args.attached.now in
    let items = c.deref-number-items.result.now in
    let number = get_or items c.loop-number.number-index 0 in
    let is_in = number_attached attached.short.items attached.long.items items c.loop-number.number-index c.deref-number-items.ensures.value c.loop-number-test.true in
    let inside = (c.requires.attached.proper number c.get.result.now is_in c.get.ensures).inside in
    let b = All-contains (λ (l : Literal). IsVariable c.args.set.now.variables l.variable) c.get.result.now c.in-Some.lit.now inside (single c).inside in
    omega (arith, b.1, c.loop-number.invariant.step.variables)

pub value_of-requires : goal.value_of-requires
value_of-requires c = variable (goal.at.value_of-requires c).In-Some

pub put-requires-clause-inside : goal.put-requires-clause-inside
put-requires-clause-inside c = variable (goal.at.put-requires-clause-inside c).In-Some

pub put-requires-clause-level : goal.put-requires-clause-level
put-requires-clause-level c = c.level-level.ensures.level ∙ sym c.loop-number.invariant.step.level

-- a clause of no literal is false
none_false : (assigned_literals : List Literal) (clause : Clause) → slice_get clause 0 ≡ None → IsFalseClause assigned_literals clause
none_false assigned_literals clause none = elim (slice_get_cases clause 0).1 [
  | inl some ↦ absurd (let e = sym some.2 ∙ none in cc)
  | inr short ↦ λ k d less. absurd (omega (arith, less, short.0))
]

-- a clause of one false literal is false
single_false : (assigned_literals : List Literal) (clause : Clause) (l : Literal) → length clause < 2 → slice_get clause 0 ≡ Some l → Contains assigned_literals (opposite l) → IsFalseClause assigned_literals clause
single_false assigned_literals clause l short first is_false = λ k d less.
    let zero : k ≡ 0 = omega (arith, less, short) in
    let is : get_or clause k d ≡ l = ap (λ n. get_or clause n d) zero ∙ get_or_from_slice_get clause 0 l d first in
    subst (λ m. Contains assigned_literals (opposite m)) (sym is) is_false

pub returns-in-None-clause-conflict : goal.returns-in-None-clause-conflict
returns-in-None-clause-conflict c =
    let attached = c.args.attached.now in
    let k = c.loop-number.number-index in
    let items = c.deref-number-items.result.now in (
      number_attached attached.short.items attached.long.items items k c.deref-number-items.ensures.value c.loop-number-test.true,
      λ clause e.
          subst (IsFalseClause (assigned_literals c.loop-number.set)) (same_clause c.args.pool.now.clauses (get_or items k 0) c.get.result.now clause c.get.ensures e)
          (none_false (assigned_literals c.loop-number.set) c.get.result.now (sym c.in-None.ensures.value)),
    )

pub returns-in-Some-false-clause-conflict : goal.returns-in-Some-false-clause-conflict
returns-in-Some-false-clause-conflict c =
    let attached = c.args.attached.now in
    let k = c.loop-number.number-index in
    let items = c.deref-number-items.result.now in
    let number = get_or items k 0 in
    let set = c.loop-number.set in
    let read = c.deref-number-items.ensures.value in
    let is_in : Contains attached.short.items number = subst (λ ns. Contains ns number) read (Contains-get_or items k 0 c.loop-number-test.true) in
    let is_false = subst (λ sign. IsValueOf set c.in-Some.lit.now (Some sign)) c.in-Some-false.field-0-test c.in-Some-false.ensures.value in (
      number_attached attached.short.items attached.long.items items k read c.loop-number-test.true,
      λ clause e.
          subst (IsFalseClause (assigned_literals set)) (same_clause c.args.pool.now.clauses number c.get.result.now clause c.get.ensures e)
          (single_false (assigned_literals set) c.get.result.now c.in-Some.lit.now (c.requires.short number c.get.result.now is_in c.get.ensures) (sym c.in-Some.ensures.value) is_false),
    )

pub put-requires-clause-unset : goal.put-requires-clause-unset
put-requires-clause-unset c = undetermined_unset c.loop-number.set c.in-Some.lit.now c.in-None-value_of.ensures.value

-- the clause in hand is satisfied too
units_more : {a b : Assignment} → Propagates a b → (short : List ℕ) (clauses : List Clause) (k : ℕ) (clause : Clause) (l : Literal)
    → numbered_clause clauses (get_or short k 0) ≡ Some clause → Contains clause l → Contains (assigned_literals b) l
    → ((j : ℕ) (c : Clause) → j < k → numbered_clause clauses (get_or short j 0) ≡ Some c → IsSatisfied (assigned_literals a) c) → (j : ℕ) (c : Clause) → j < k + 1
    → numbered_clause clauses (get_or short j 0) ≡ Some c → IsSatisfied (assigned_literals b) c
units_more {b = b} step short clauses k clause l found inside now units j c less e = elim (cases_eq j k) [
  | inl same ↦
      let there : numbered_clause clauses (get_or short k 0) ≡ Some c = ap (λ n. numbered_clause clauses (get_or short n 0)) (sym same) ∙ e in
      subst (IsSatisfied (assigned_literals b)) (same_clause clauses (get_or short k 0) clause c found there) (record { literal = l; inside = inside; is_held = now })
  | inr ne ↦ let s = units j c (omega arith) e in record { literal = s.literal; inside = s.inside; is_held = held_more step s.literal s.is_held }
]

pub loop-number-preserved : goal.loop-number-preserved
loop-number-preserved c =
    let h = c.loop-number.invariant in
    let a = c.loop-number.set in
    let short = c.args.attached.now.short.items in
    let clauses = c.args.pool.now.clauses in
    let k = c.loop-number.number-index in
    let clause = c.get.result.now in
    let l = c.in-Some.lit.now in
    let first : slice_get clause 0 ≡ Some l = sym c.in-Some.ensures.value in
    let read = c.deref-number-items.ensures.value in
    let found : numbered_clause clauses (get_or short k 0) ≡ Some clause = ap (λ ns. numbered_clause clauses (get_or ns k 0)) (sym read) ∙ c.get.ensures in
    let within : k < length short = omega (arith, c.loop-number-test.true, ap length read) in
    let is_in = Contains-get_or short k 0 within in
    let unit = single_unit a clause l (c.requires.short (get_or short k 0) clause is_in found) first in
    elim c.match-value_of.branch [
      | in-Some-true w ↦
          let there = subst (λ sign. IsValueOf a l (Some sign)) w.in-Some-true.field-0-test w.in-Some-true.ensures.value in
          rw w.set-is (record { step = h.step; trail = h.trail; reasons = h.reasons; units = units_more (propagates_none a) short clauses k clause l found unit.inside there h.units })
      | in-None-value_of w ↦
          let f : IsForced a w.put.new.self l c.level-level.result (get_or c.deref-number-items.result.now k 0) = record { present = c.level-level.ensures.level ∙ sym h.step.level; is = w.put.ensures.literals } in
          let step = propagates_forced f in
          let in_numbers = subst (λ ns. Contains (short ++ c.args.attached.now.long.items) (get_or ns k 0)) (sym read) (Contains-append_left short c.args.attached.now.long.items (get_or short k 0) is_in) in
          rw w.set-is (record {
            step = propagates_two h.step step;
            trail = w.put.ensures.trail;
            reasons = reasons_forced f h.reasons in_numbers c.get.ensures unit;
            units = units_more step short clauses k clause l found unit.inside (held_forced f) h.units;
          })
    ]

pub returns-clause-units : goal.returns-clause-units
returns-clause-units c = λ none number clause is_in e.
    let short = c.args.attached.now.short.items in
    let before : is_in.0 < c.loop-number.number-index = (let less = is_in.1 in omega (arith, c.loop-number-test.false, ap length c.deref-number-items.ensures.value)) in
    c.loop-number.invariant.units is_in.0 clause before (ap (numbered_clause c.args.pool.now.clauses) (get_or_default short is_in.0 0 number is_in.1 ∙ is_in.2) ∙ e)
