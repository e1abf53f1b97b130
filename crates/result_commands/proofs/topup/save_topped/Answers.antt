use Rattle.std.proofs.Common.{ap, Err, refl, sym, ◌∙◌, length}
use Rattle.std.proofs.Math.Nat.{le_refl}
use Rattle.std.proofs.lemmas.List.{take_all}
use Rattle.run_steps.specs.Ending.{done, write_fault}
use Rattle.run_steps.proofs.HandedOn.{well_of, fault_of, handed_on}
use Rattle.run_steps.proofs.Runs.{ends_silent, handed_ends}
use Rattle.result_commands.proofs.Generated.{cut_result, saves_none, saves_cut, saves_whole}
use Rattle.result_commands.specs.Texts.{kept_text}
use Rattle.result_commands.specs.Plans.{IsToppedUpFile}
use Rattle.result_commands.proofs.topup.save_topped.Goals as goal

pub returns-in_err-map_err : goal.returns-in_err-map_err
returns-in_err-map_err g c =
    let f = fault_of write_fault c.create_file.result _ c.in_err-map_err.ensures.cases refl in
    saves_none (rw f.1 at c.create_file.ensures.call) (rw f.1 at c.create_file.ensures.err) (λ s e. c.create_file.ensures.sure s (f.1 ∙ ap Err e))
    (handed_on c.from_residual.result c.from_residual.ensures.1 ∙ ap Err f.2)

pub returns-in_err-topped : goal.returns-in_err-topped
returns-in_err-topped g c =
    let made = well_of write_fault c.create_file.result _ c.in_ok-map_err.ensures.cases refl in
    let f = fault_of write_fault c.top_up.result _ c.in_err-topped.ensures.cases refl in
    saves_cut (g.met.S.Shelf.sure_tells _) (rw made at c.create_file.ensures.call) (rw made at c.create_file.ensures.created) (rw f.1 at c.top_up.ensures.call)
    (λ told.
    let w = rw f.1 at c.top_up.ensures.err in
    (w.0, cut_result w.0 w.1 (refl, (length w.0, le_refl (length w.0), sym (take_all (length w.0) w.0 (le_refl (length w.0))))), w.2 told))
    (λ s e. absurd (c.top_up.ensures.never s (f.1 ∙ ap Err e)))
    (handed_on c.from_residual-in_err-topped.result c.from_residual-in_err-topped.ensures.1 ∙ ap Err f.2)

pub returns-in_err-text : goal.returns-in_err-text
returns-in_err-text g c =
    let made = well_of write_fault c.create_file.result _ c.in_ok-map_err.ensures.cases refl in
    let wrote = well_of write_fault c.top_up.result _ c.in_ok-topped.ensures.cases refl in
    let w = rw wrote at c.top_up.ensures.written in
    let topped = c.in_ok-topped.topped in
    let text = kept_text topped.summary topped.kept (length c.args.list.now) in
    let is : IsToppedUpFile c.args.circuit.now c.args.list.now c.args.budgets w.0 text = record { topped = topped; is = w.1; text_is = refl } in
    saves_whole text (rw made at c.create_file.ensures.call) (rw made at c.create_file.ensures.created) (rw wrote at c.top_up.ensures.call) is w.2
    (handed_ends c.from_residual-in_err-text.result c.from_residual-in_err-text.ensures.1 (ends_silent {meant = done} tt))

pub returns : goal.returns
returns g c =
    let made = well_of write_fault c.create_file.result _ c.in_ok-map_err.ensures.cases refl in
    let wrote = well_of write_fault c.top_up.result _ c.in_ok-topped.ensures.cases refl in
    let w = rw wrote at c.top_up.ensures.written in
    let topped = c.in_ok-topped.topped in
    let text = kept_text topped.summary topped.kept (length c.args.list.now) in
    let is : IsToppedUpFile c.args.circuit.now c.args.list.now c.args.budgets w.0 text = record { topped = topped; is = w.1; text_is = refl } in
    saves_whole text (rw made at c.create_file.ensures.call) (rw made at c.create_file.ensures.created) (rw wrote at c.top_up.ensures.call) is w.2
    (rw (c.as_bytes.ensures.value, c.in_ok-text.ensures) at c.say.ensures)
