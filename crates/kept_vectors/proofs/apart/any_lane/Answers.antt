use Rattle.std.proofs.Common.{◌||◌, List, ap, sym, ◌∙◌, arith}
use Rattle.kept_vectors.specs.declared.notes.Note.{Note}
use Rattle.net_model.specs.Answer.{bit_at}
use Rattle.kept_vectors.specs.Notes.{is_noted}
use Rattle.kept_vectors.proofs.ApartLemmas.{and_then, step_end, ended}
use Rattle.kept_vectors.proofs.apart.any_lane.Goals as goal

pub loop-at-init : goal.loop-at-init
loop-at-init c lane h = (λ same. (c.all-lanes.ensures lane h, same), λ same. same.1)

pub loop-at-preserved : goal.loop-at-preserved
loop-at-preserved c lane h =
    and_then (c.loop-at.invariant lane h) (step_end lane c.args.notes.now c.loop-at.at c.index-notes-at.result c.loop-at.lanes c.or-lanes.result c.requires.ascend c.loop-at-test.true c.index-notes-at.is (c.or-lanes.ensures lane h ∙ ap (λ (n : Note). bit_at c.loop-at.lanes lane || bit_at n.lanes lane) (sym c.index-notes-at.is)))

pub returns : goal.returns
returns c lane h =
    let none = ended c.args.notes.now c.loop-at.at (omega (arith, c.loop-at-test.false, c.requires.from)) in
    let all = c.loop-at.invariant lane h in
    (λ off. all.1 (off, λ position. ap (λ (ns : List Note). is_noted ns lane position) none), λ same. (all.0 same).0)
