use Rattle.std.proofs.Common.{◌≡◌, ◌≢◌, ◌∙◌, ◌+◌, ◌<◌, ℕ, List, get_or, length, refl, sym, ap, subst, arith}
use Rattle.std.specs.Prelude.{All, Bool, [], Option, Some}
use Rattle.clause_pool.specs.Literal.{Literal}
use Rattle.clause_pool.specs.Clauses.{Clause, numbered_clause}
use Rattle.clause_pool.proofs.Numbered.{all_at_number, numbered_in, numbered_at, same_clause}
use Rattle.refute_check.specs.Closure.{IsStep}
use Rattle.refute_check.specs.Held.{IsQuietAt, IsUnitAt, satisfied}
use Rattle.refute_check.specs.Index.{IsClauseNumber}
use Rattle.refute_check.specs.Propagation.{nothing, one}
use Rattle.refute_check.proofs.HeldLemmas.{hold, hold_holds}
use Rattle.refute_check.proofs.ClosureLemmas.{no_step, not_false, not_at, unit_step, unit_within}
use Rattle.refute_check.proofs.freshness.settle.Goals as goal

is_clause : (clauses : List Clause) (number k : ℕ) (clause : Clause) → IsClauseNumber (length clauses) number → numbered_clause clauses number ≡ Some clause → number ≡ k + 1 → clause ≡ get_or clauses k []
is_clause clauses number k clause is named e =
    same_clause clauses (k + 1) clause (get_or clauses k []) (ap (numbered_clause clauses) (sym e) ∙ named) (numbered_at clauses k [] (omega (arith, is.1, e)))

unit_at : {values : List (Option Bool)} {clause : Clause} {unit : Literal} {at : Literal → Literal} → ((d : Literal) → IsUnitAt values clause (at d)) → unit ≡ at unit → IsUnitAt values clause unit
unit_at {values = values} {clause = clause} {unit = unit} told is = subst (IsUnitAt values clause) (sym is) (told unit)

within : (clauses : List Clause) (number : ℕ) {clause : Clause} {values : List (Option Bool)} {unit : Literal} → All (All (λ (l : Literal). l.variable < length values)) clauses → numbered_clause clauses number ≡ Some clause
    → IsUnitAt values clause unit → unit.variable < length values
within clauses number {clause = clause} {values = values} {unit = unit} all named is = unit_within clauses clause unit values values all (numbered_in clauses number clause named) is refl

pub look-requires : goal.look-requires
look-requires c = all_at_number (All (λ (l : Literal). l.variable < length c.args.held.now.values.items)) c.args.pool.now.clauses c.args.number c.get-clause.result.now c.requires.pool c.get-clause.ensures

pub returns-in-Quiet-clause-more : goal.returns-in-Quiet-clause-more
returns-in-Quiet-clause-more c = nothing refl

pub returns-in-Quiet-clause-step : goal.returns-in-Quiet-clause-step
returns-in-Quiet-clause-step c = λ t. no_step c.args.pool.now.clauses c.args.at c.args.held.now.values.items c.requires.at

pub returns-in-Quiet-clause-quiet : goal.returns-in-Quiet-clause-quiet
returns-in-Quiet-clause-quiet c = λ t k e.
    subst (IsQuietAt c.args.held.now.values.items) (is_clause c.args.pool.now.clauses c.args.number k c.get-clause.result.now c.requires.number c.get-clause.ensures e) c.in-Quiet.ensures

pub returns-in-False-clause-more : goal.returns-in-False-clause-more
returns-in-False-clause-more c = nothing refl

pub returns-in-False-clause-none : goal.returns-in-False-clause-none
returns-in-False-clause-none c = λ f set closure.
    let clauses = c.args.pool.now.clauses in
    not_false clauses c.args.at c.args.held.now.values.items set closure c.get-clause.result.now (numbered_in clauses c.args.number c.get-clause.result.now c.get-clause.ensures) c.in-False.ensures

pub returns-then-variable-clause-more : goal.returns-then-variable-clause-more
returns-then-variable-clause-more c = nothing refl

pub returns-then-variable-clause-none : goal.returns-then-variable-clause-none
returns-then-variable-clause-none c = λ f set closure.
    let clauses = c.args.pool.now.clauses in
    let clause = c.get-clause.result.now in
    let same = sym c.variable.ensures.value ∙ (c.if-variable.true ∙ c.variable-in-Unit.ensures.value) in
    not_at clauses c.args.at c.args.held.now.values.items set closure clause (numbered_in clauses c.args.number clause c.get-clause.ensures) c.index-clause-place.result (unit_at c.in-Unit.ensures.1 c.index-clause-place.is) same

pub hold-requires-clause-within : goal.hold-requires-clause-within
hold-requires-clause-within c = within c.args.pool.now.clauses c.args.number c.requires.pool c.get-clause.ensures (unit_at c.in-Unit.ensures.1 c.index-clause-place.is)

pub hold-requires-clause-undetermined : goal.hold-requires-clause-undetermined
hold-requires-clause-undetermined c = (unit_at c.in-Unit.ensures.1 c.index-clause-place.is).is_open

pub returns-else-variable-clause-more : goal.returns-else-variable-clause-more
returns-else-variable-clause-more c = one c.index-clause-place.result (within c.args.pool.now.clauses c.args.number c.requires.pool c.get-clause.ensures (unit_at c.in-Unit.ensures.1 c.index-clause-place.is)) (unit_at c.in-Unit.ensures.1 c.index-clause-place.is).is_open c.hold.ensures.values c.hold.ensures.trail

pub returns-else-variable-clause-step : goal.returns-else-variable-clause-step
returns-else-variable-clause-step c = λ t.
    let clauses = c.args.pool.now.clauses in
    let clause = c.get-clause.result.now in
    let values = c.args.held.now.values.items in
    let unit = c.index-clause-place.result in
    let apart : unit.variable ≢ c.args.at.variable = λ e. c.if-variable.false (c.variable.ensures.value ∙ (e ∙ sym c.variable-in-Unit.ensures.value)) in
    subst (IsStep clauses c.args.at values) (sym c.hold.ensures.values)
    (unit_step clauses c.args.at values clause unit (numbered_in clauses c.args.number clause c.get-clause.ensures) (unit_at c.in-Unit.ensures.1 c.index-clause-place.is) c.requires.at (within c.args.pool.now.clauses c.args.number c.requires.pool c.get-clause.ensures (unit_at c.in-Unit.ensures.1 c.index-clause-place.is)) apart)

pub returns-else-variable-clause-quiet : goal.returns-else-variable-clause-quiet
returns-else-variable-clause-quiet c = λ t k e.
    let values = c.args.held.now.values.items in
    let unit = c.index-clause-place.result in
    let inside = (unit_at c.in-Unit.ensures.1 c.index-clause-place.is).inside in
    let holds = hold_holds values unit (within c.args.pool.now.clauses c.args.number c.requires.pool c.get-clause.ensures (unit_at c.in-Unit.ensures.1 c.index-clause-place.is)) in
    subst (λ vs. IsQuietAt vs (get_or c.args.pool.now.clauses k [])) (sym c.hold.ensures.values)
    (subst (IsQuietAt (hold values unit)) (is_clause c.args.pool.now.clauses c.args.number k c.get-clause.result.now c.requires.number c.get-clause.ensures e) (satisfied unit inside holds))
