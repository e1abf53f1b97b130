use Rattle.std.proofs.Common.{refl, inl, inr}
use Rattle.class_refine.proofs.PatternTables.{table_numbers}
use Rattle.listing_commands.specs.Applied.{IsExpectedAt}
use Rattle.run_steps.proofs.CheckedLemmas.{checked_table}
use Rattle.run_steps.proofs.Followed.{ends_at_file, goes_on, no_memory_after}
use Rattle.run_steps.proofs.PlanEnds.{three_read, makes_follows}
use Rattle.listing_commands.proofs.applied.expect_for.Goals as goal

pub returns-in_err-checked : goal.returns-in_err-checked
returns-in_err-checked g c = ends_at_file three_read (inr (inr (inl refl))) c.from_residual.result c.from_residual.ensures.1 c.in_err-checked.ensures.err

pub returns-in_err-list : goal.returns-in_err-list
returns-in_err-list g c =
    let read = c.in_ok-checked.ensures.ok in
    goes_on read.2 (g.met.S.Shelf.sure_tells _) (ends_at_file three_read (inr (inr (inr (inl refl)))) c.from_residual-in_err-list.result c.from_residual-in_err-list.ensures.1 (rw c.circuit.ensures.value at c.in_err-list.ensures.err))

pub expected_of-requires : goal.expected_of-requires
expected_of-requires g c = record {
  answerable = record { widths = rw c.circuit.ensures.value at c.in_ok-list.ensures.wide; few = c.in_ok-list.ensures.few };
  numbers = table_numbers (checked_table c.in_ok-checked.ensures.ok.1);
}

pub returns-in_err-made : goal.returns-in_err-made
returns-in_err-made g c =
    let read = c.in_ok-checked.ensures.ok in
    goes_on read.2 (g.met.S.Shelf.sure_tells _) (no_memory_after (rw c.circuit.ensures.value at c.in_ok-list.ensures.ok) three_read c.from_residual-in_err-made.result c.from_residual-in_err-made.ensures.1 (g.met.S.Shelf.sure_tells _))

pub returns : goal.returns
returns g c =
    let circuit = c.args.subject.now in
    let list = c.in_ok-list.list in
    let read = c.in_ok-checked.ensures.ok in
    let made : IsExpectedAt circuit list c.deref.result.now c.as_bytes.result.now = rw (← c.deref.ensures.value, ← c.as_bytes.ensures.value) at c.in_ok-made.ensures in
    goes_on read.2 (g.met.S.Shelf.sure_tells _) (goes_on (rw c.circuit.ensures.value at c.in_ok-list.ensures.ok) (g.met.S.Shelf.sure_tells _) (makes_follows (IsExpectedAt circuit list) three_read.breaks (inl refl) (inl refl) made c.save.ensures))
