use Rattle.std.proofs.Common.{ap, Err, [], refl, take, ◌∙◌}
use Rattle.dia_gen.proofs.Written.{nothing_cut}
use Rattle.run_steps.specs.Ending.{write_fault}
use Rattle.run_steps.proofs.HandedOn.{well_of, fault_of, handed_on}
use Rattle.run_steps.proofs.Runs.{ends_after}
use Rattle.result_commands.proofs.Generated.{result_after, cut_result, saves_none, saves_cut}
use Rattle.result_commands.proofs.synth.save_both.Goals as goal

pub returns-in_err-map_err : goal.returns-in_err-map_err
returns-in_err-map_err g c =
    let f = fault_of write_fault c.create_file.result _ c.in_err-map_err.ensures.cases refl in
    saves_none (rw f.1 at c.create_file.ensures.call) (rw f.1 at c.create_file.ensures.err) (λ s e. c.create_file.ensures.sure s (f.1 ∙ ap Err e))
    (handed_on c.from_residual.result c.from_residual.ensures.1 ∙ ap Err f.2)

pub returns : goal.returns
returns g c =
    let made = well_of write_fault c.create_file.result _ c.in_ok-map_err.ensures.cases refl in
    let wrote = well_of write_fault c.write_all.result _ c.in_ok-map_err-2.ensures.cases refl in
    let saves = c.save_result.ensures in
    let create = rw made at c.create_file.ensures.call in
    let write = rw wrote at c.write_all.ensures.call in
    record {
      file = saves.file;
      text = saves.text;
      ends = ends_after (λ told m t part. result_after c.args.bench.now c.args.text.now m t part) create (rw made at c.create_file.ensures.created) write (rw wrote at c.write_all.ensures.written) saves.ends;
      made = saves.made;
    }

pub returns-in_err-map_err-2 : goal.returns-in_err-map_err-2
returns-in_err-map_err-2 g c =
    let made = well_of write_fault c.create_file.result _ c.in_ok-map_err.ensures.cases refl in
    let f = fault_of write_fault c.write_all.result _ c.in_err-map_err-2.ensures.cases refl in
    saves_cut (g.met.S.Shelf.sure_tells _) (rw made at c.create_file.ensures.call) (rw made at c.create_file.ensures.created) (rw f.1 at c.write_all.ensures.call)
    (λ told.
    let w = (rw f.1 at c.write_all.ensures.err) told in
    (take w.0 c.args.text.now, cut_result [] nothing_cut (refl, (w.0, w.1, refl)), w.2))
    (λ s e. c.write_all.ensures.sure s (f.1 ∙ ap Err e))
    (handed_on c.from_residual-in_err-map_err-2.result c.from_residual-in_err-map_err-2.ensures.1 ∙ ap Err f.2)
