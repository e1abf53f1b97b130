use Rattle.std.proofs.Common.{refl, inl, inr}
use Rattle.run_steps.proofs.CheckedLemmas.{checked_widths}
use Rattle.run_steps.proofs.Followed.{ends_at_file, goes_on}
use Rattle.run_steps.proofs.PlanEnds.{three_read}
use Rattle.listing_commands.proofs.applied.cover_for.Goals as goal

pub returns-in_err-checked : goal.returns-in_err-checked
returns-in_err-checked g c = ends_at_file three_read (inr (inr (inl refl))) c.from_residual.result c.from_residual.ensures.1 c.in_err-checked.ensures.err

pub returns-in_err-list : goal.returns-in_err-list
returns-in_err-list g c =
    let read = c.in_ok-checked.ensures.ok in
    goes_on read.2 (g.met.S.Shelf.sure_tells _) (ends_at_file three_read (inr (inr (inr (inl refl)))) c.from_residual-in_err-list.result c.from_residual-in_err-list.ensures.1 (rw c.circuit.ensures.value at c.in_err-list.ensures.err))

pub cover_of-requires-clause-patterns : goal.cover_of-requires-clause-patterns
cover_of-requires-clause-patterns g c = checked_widths c.in_ok-checked.ensures.ok.1

pub cover_of-requires-clause-list : goal.cover_of-requires-clause-list
cover_of-requires-clause-list g c = record { widths = rw c.circuit.ensures.value at c.in_ok-list.ensures.wide; few = c.in_ok-list.ensures.few }

pub returns : goal.returns
returns g c =
    let read = c.in_ok-checked.ensures.ok in
    goes_on read.2 (g.met.S.Shelf.sure_tells _) (goes_on (rw c.circuit.ensures.value at c.in_ok-list.ensures.ok) (g.met.S.Shelf.sure_tells _) (c.cover_of.ensures read.0 read.1))
