use Rattle.std.proofs.Common.{◌∙◌, refl, ap, inl, inr}
use Rattle.result_records.specs.Spelling.{text_of}
use Rattle.result_commands.specs.Texts.{valid_text}
use Rattle.result_commands.specs.Checked.{IsValidText}
use Rattle.run_steps.proofs.Followed.{ends_at_file, goes_on, no_memory_after}
use Rattle.run_steps.proofs.PlanEnds.{two_read, says_follows}
use Rattle.result_commands.proofs.check.check_for.Goals as goal

pub returns-in_err-checked : goal.returns-in_err-checked
returns-in_err-checked g c = ends_at_file two_read (inr (inr (inl refl))) c.from_residual.result c.from_residual.ensures.1 c.in_err-checked.ensures.err

pub returns-in_err-text : goal.returns-in_err-text
returns-in_err-text g c =
    no_memory_after c.in_ok-checked.ensures.ok.2 two_read c.from_residual-in_err-text.result c.from_residual-in_err-text.ensures.1 (g.met.S.Shelf.sure_tells _)

pub returns : goal.returns
returns g c =
    let circuit = c.args.subject.now in
    let read = c.in_ok-checked.ensures.ok in
    let text = c.as_bytes.ensures.value ∙ c.in_ok-text.ensures in
    let is : IsValidText circuit (text_of read.0) c.as_bytes.result.now = record { records = read.0; spelled = refl; valid = read.1.valid; text_is = text ∙ ap valid_text read.1.summary } in
    goes_on read.2 (g.met.S.Shelf.sure_tells _) (says_follows (IsValidText circuit (text_of read.0)) two_read.breaks (inl refl) is c.say.ensures)
