use Rattle.std.proofs.Common.{◌∙◌}
use Rattle.kept_vectors.specs.Notes.{noted_by}
use Rattle.kept_vectors.proofs.WaitLemmas.{none_wait}
use Rattle.kept_vectors.proofs.waiting.Waiting.wait_all.Goals as goal

pub wait-requires-clause-waits : goal.wait-requires-clause-waits
wait-requires-clause-waits c =
    let d = c.args.differences.now in
    rw c.as_slice-numbers.ensures.value
    (none_wait c.args.good.now c.args.classes.now c.requires.whole c.args.from c.args.live c.clear.new.self.lanes.items d.numbers.items (noted_by d) c.clear.ensures.empty (c.clear.ensures.count ∙ c.requires.lanes) c.requires.few c.requires.live c.requires.asked)
