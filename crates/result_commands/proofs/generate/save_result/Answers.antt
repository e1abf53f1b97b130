use Rattle.std.proofs.Common.{ap, Err, refl, sym, ◌∙◌, length}
use Rattle.std.proofs.Math.Nat.{le_refl}
use Rattle.std.proofs.lemmas.List.{take_all}
use Rattle.run_steps.specs.Ending.{done, write_fault}
use Rattle.run_steps.proofs.HandedOn.{well_of, fault_of, handed_on}
use Rattle.run_steps.proofs.Runs.{ends_silent, handed_ends}
use Rattle.result_commands.proofs.Generated.{cut_result, saves_none, saves_cut, saves_whole}
use Rattle.result_commands.specs.Texts.{summary_text}
use Rattle.result_commands.specs.Plans.{IsGenerated}
use Rattle.result_commands.proofs.generate.save_result.Goals as goal

pub returns-in_err-map_err : goal.returns-in_err-map_err
returns-in_err-map_err g c =
    let f = fault_of write_fault c.create_file.result _ c.in_err-map_err.ensures.cases refl in
    saves_none (rw f.1 at c.create_file.ensures.call) (rw f.1 at c.create_file.ensures.err) (λ s e. c.create_file.ensures.sure s (f.1 ∙ ap Err e))
    (handed_on c.from_residual.result c.from_residual.ensures.1 ∙ ap Err f.2)

pub returns-in_err-summary : goal.returns-in_err-summary
returns-in_err-summary g c =
    let made = well_of write_fault c.create_file.result _ c.in_ok-map_err.ensures.cases refl in
    let f = fault_of write_fault c.generate.result _ c.in_err-summary.ensures.cases refl in
    saves_cut (g.met.S.Shelf.sure_tells _) (rw made at c.create_file.ensures.call) (rw made at c.create_file.ensures.created) (rw f.1 at c.generate.ensures.call)
    (λ told.
    let w = rw f.1 at c.generate.ensures.err in
    (w.0, cut_result w.0 w.1 (refl, (length w.0, le_refl (length w.0), sym (take_all (length w.0) w.0 (le_refl (length w.0))))), w.2 told))
    (λ s e. absurd (c.generate.ensures.never s (f.1 ∙ ap Err e)))
    (handed_on c.from_residual-in_err-summary.result c.from_residual-in_err-summary.ensures.1 ∙ ap Err f.2)

pub returns-in_err-text : goal.returns-in_err-text
returns-in_err-text g c =
    let made = well_of write_fault c.create_file.result _ c.in_ok-map_err.ensures.cases refl in
    let wrote = well_of write_fault c.generate.result _ c.in_ok-summary.ensures.cases refl in
    let w = rw wrote at c.generate.ensures.written in
    let text = summary_text c.in_ok-summary.summary in
    let is : IsGenerated c.args.circuit.now c.args.budgets w.0 text = record { summary = c.in_ok-summary.summary; made = w.1; text_is = refl } in
    saves_whole text (rw made at c.create_file.ensures.call) (rw made at c.create_file.ensures.created) (rw wrote at c.generate.ensures.call) is w.2
    (handed_ends c.from_residual-in_err-text.result c.from_residual-in_err-text.ensures.1 (ends_silent {meant = done} tt))

pub returns : goal.returns
returns g c =
    let made = well_of write_fault c.create_file.result _ c.in_ok-map_err.ensures.cases refl in
    let wrote = well_of write_fault c.generate.result _ c.in_ok-summary.ensures.cases refl in
    let w = rw wrote at c.generate.ensures.written in
    let text = summary_text c.in_ok-summary.summary in
    let is : IsGenerated c.args.circuit.now c.args.budgets w.0 text = record { summary = c.in_ok-summary.summary; made = w.1; text_is = refl } in
    saves_whole text (rw made at c.create_file.ensures.call) (rw made at c.create_file.ensures.created) (rw wrote at c.generate.ensures.call) is w.2
    (rw (c.as_bytes.ensures.value, c.in_ok-text.ensures) at c.say.ensures)
