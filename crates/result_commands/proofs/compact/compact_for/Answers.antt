use Rattle.std.proofs.Common.{◌∙◌, refl, inl, inr}
use Rattle.result_commands.specs.Compactions.{IsMadeThin}
use Rattle.run_steps.proofs.Followed.{ends_at_file, goes_on, no_memory_after}
use Rattle.run_steps.proofs.PlanEnds.{two_read, makes_follows}
use Rattle.result_commands.proofs.compact.compact_for.Goals as goal

pub returns-in_err-whole : goal.returns-in_err-whole
returns-in_err-whole g c = ends_at_file two_read (inr (inr (inl refl))) c.from_residual.result c.from_residual.ensures.1 c.in_err-whole.ensures.err

pub compact_subject-requires : goal.compact_subject-requires
compact_subject-requires g c = rw c.deref.ensures.value c.in_ok-whole.ensures.accepted

pub returns-in_err-thin : goal.returns-in_err-thin
returns-in_err-thin g c =
    no_memory_after c.in_ok-whole.ensures.ok two_read c.from_residual-in_err-thin.result c.from_residual-in_err-thin.ensures.1 (g.met.S.Shelf.sure_tells _)

pub returns-in_err-text : goal.returns-in_err-text
returns-in_err-text g c =
    no_memory_after c.in_ok-whole.ensures.ok two_read c.from_residual-in_err-text.result c.from_residual-in_err-text.ensures.1 (g.met.S.Shelf.sure_tells _)

pub returns : goal.returns
returns g c =
    let circuit = c.args.subject.now in
    let bytes = c.in_ok-whole.whole.bytes.items in
    let is : IsMadeThin circuit bytes c.as_slice.result.now c.as_bytes.result.now = record { thin = c.in_ok-thin.thin; compacted = rw c.deref.ensures.value at c.in_ok-thin.ensures; file_is = c.as_slice.ensures; text_is = c.as_bytes.ensures.value ∙ c.in_ok-text.ensures } in
    goes_on c.in_ok-whole.ensures.ok (g.met.S.Shelf.sure_tells _) (makes_follows (IsMadeThin circuit bytes) two_read.breaks (inl refl) (inl refl) is c.save.ensures)
