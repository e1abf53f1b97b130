use Rattle.std.proofs.Common.{ℕ, ◌+◌, Err, ap, ◌∙◌, subst, sym}
use Rattle.std.specs.Prelude.{drop}
use Rattle.std.specs.Option.{option_map}
use Rattle.std.specs.FinMap.{get}
use Rattle.diag_shelf.specs.Calls.{read_of}
use Rattle.run_steps.specs.declared.ending.RunFault.{RunFault}
use Rattle.run_steps.specs.Ending.{read_fault}
use Rattle.run_steps.specs.Steps.{CouldNotRead}
use Rattle.run_steps.proofs.HandedOn.{well_of, fault_of, ok_by, err_by}
use Rattle.run_steps.proofs.Followed.{facts_read, fault_read}
use Rattle.run_steps.proofs.ends.read_file.Goals as goal

pub returns-clause-ok : goal.returns-clause-ok
returns-clause-ok g c = ok_by c.map_err.result (λ bytes is.
    let r = well_of read_fault c.read_all.result c.map_err.result c.map_err.ensures.cases is in
    let limit = c.limit_of.ensures in
    record {
      facts = facts_read (rw r at c.read_all.ensures.call);
      only = c.read_all.ensures.others;
      held = λ told. let h = (rw r at c.read_all.ensures.bytes) told in (h.0, h.1, h.2 ∙ ap (λ (n : ℕ). read_of n h.0) limit);
      left = λ told. let read = (rw r at c.read_all.ensures.read) told in read.rest ∙ ap (λ (n : ℕ). option_map (drop (n + 1)) (get (g.S.Shelf.state c.args.shelf.now).world.files c.args.name.now)) limit;
    })

pub returns-clause-bound : goal.returns-clause-bound
returns-clause-bound g c = ok_by c.map_err.result (λ bytes is.
    let r = well_of read_fault c.read_all.result c.map_err.result c.map_err.ensures.cases is in
    rw c.limit_of.ensures at (rw r at c.read_all.ensures.bound))

pub returns-clause-err : goal.returns-clause-err
returns-clause-err g c = err_by c.map_err.result (λ why is.
    let f = fault_of read_fault c.read_all.result c.map_err.result c.map_err.ensures.cases is in
    let state = g.S.Shelf.state in
    subst (λ (w : RunFault). CouldNotRead c.args.name.now w (state c.args.shelf.now) (state c.read_all.new.shelf)) (sym f.2)
    (fault_read f.0 (rw f.1 at c.read_all.ensures.call) c.read_all.ensures.others (λ s e. c.read_all.ensures.sure s (f.1 ∙ ap Err e))))
