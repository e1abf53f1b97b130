use Rattle.std.proofs.Common.{refl, inl, inr}
use Rattle.result_records.specs.Spelling.{text_of}
use Rattle.listing_commands.specs.Applied.{IsSuspectsAt}
use Rattle.run_steps.proofs.Followed.{ends_at_file, goes_on, no_memory_after}
use Rattle.run_steps.proofs.PlanEnds.{three_read, says_follows}
use Rattle.listing_commands.proofs.applied.suspects_of.Goals as goal

pub read_log_of-requires : goal.read_log_of-requires
read_log_of-requires g c = rw c.as_slice.ensures c.requires.list.few

pub joined_classes-requires-clause-list : goal.joined_classes-requires-clause-list
joined_classes-requires-clause-list g c = c.requires.list.widths

pub returns-in_err-classes : goal.returns-in_err-classes
returns-in_err-classes g c = λ records accepted.
    no_memory_after (rw (c.circuit.ensures.value, c.as_slice.ensures) at c.in_ok-partial.ensures.ok) three_read c.from_residual-in_err-classes.result c.from_residual-in_err-classes.ensures.1 (g.met.S.Shelf.sure_tells _)

pub text_at-requires-clause-scored : goal.text_at-requires-clause-scored
text_at-requires-clause-scored g c = record { answerable = c.requires.list; numbers = c.in_ok-classes.ensures.numbers }

pub text_at-requires-clause-alike : goal.text_at-requires-clause-alike
text_at-requires-clause-alike g c = c.in_ok-classes.ensures.alike

pub text_at-requires-clause-partial : goal.text_at-requires-clause-partial
text_at-requires-clause-partial g c = rw (c.circuit.ensures.value, c.as_slice.ensures) at c.in_ok-partial.ensures.lines

pub returns-in_err-partial : goal.returns-in_err-partial
returns-in_err-partial g c = λ records accepted.
    ends_at_file three_read (inr (inr (inr (inl refl)))) c.from_residual.result c.from_residual.ensures.1 (rw (c.circuit.ensures.value, c.as_slice.ensures) at c.in_err-partial.ensures.err)

pub returns-in_err-text : goal.returns-in_err-text
returns-in_err-text g c = λ records accepted.
    no_memory_after (rw (c.circuit.ensures.value, c.as_slice.ensures) at c.in_ok-partial.ensures.ok) three_read c.from_residual-in_err-text.result c.from_residual-in_err-text.ensures.1 (g.met.S.Shelf.sure_tells _)

pub returns : goal.returns
returns g c = λ records accepted.
    let circuit = c.args.subject.now in
    let file = text_of records in
    let list = c.args.list.now in
    let lines = c.in_ok-partial.partial in
    let listed = rw (← c.as_bytes.ensures.value) at c.in_ok-text.ensures in
    let is : IsSuspectsAt circuit file list lines c.args.most c.as_bytes.result.now = record { classes = c.in_ok-classes.classes; classes_are = c.in_ok-classes.ensures.are records accepted; are = listed } in
    goes_on (rw (c.circuit.ensures.value, c.as_slice.ensures) at c.in_ok-partial.ensures.ok) (g.met.S.Shelf.sure_tells _) (says_follows (IsSuspectsAt circuit file list lines c.args.most) three_read.breaks (inl refl) is c.say.ensures)
