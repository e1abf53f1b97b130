use Rattle.std.proofs.Common.{[], arith}
use Rattle.std.specs.Prelude.{slice_index_or}
use Rattle.std.proofs.lemmas.Result.{on_ok_weaker}
use Rattle.class_refine.proofs.PatternTables.{table_numbers}
use Rattle.kept_vectors.specs.Cube.{IsOfCube}
use Rattle.dia_gen.proofs.AheadSteps.{draft_looked}
use Rattle.dia_gen.proofs.draft.Draft.look_ahead.Goals as goal

pub overflow_add-member : goal.overflow_add-member
overflow_add-member c =
    let is = c.requires.draft.2.is in
    omega (arith, c.requires.lowest.inside, is.few, table_numbers is.keeper.table)

pub add_ahead-requires-clause-numbers : goal.add_ahead-requires-clause-numbers
add_ahead-requires-clause-numbers c = rw c.classes-classes.ensures.value (table_numbers c.requires.draft.2.is.keeper.table)

pub returns-clause-draft : goal.returns-clause-draft
returns-clause-draft c =
    on_ok_weaker c.look.result
    (λ one start now draft.
    let first : IsOfCube (slice_index_or c.push.new.self.items 0 []) one.0 = c.in_ok-add_ahead.ensures.narrowed one.0 (rw c.as_slice.ensures.value at one.2) in
    let of : IsOfCube c.args.cube.items one.0 = rw (c.in_ok-push.ensures.items, c.new-cubes.ensures.items, c.new.ensures) at first in
    draft_looked c.requires.apart c.add_ahead.new.space c.in_ok-add_ahead.ensures.space c.look.new.self c.look.ensures.circuit c.look.ensures.kept one.0 of start now draft)
    c.look.ensures.looked
