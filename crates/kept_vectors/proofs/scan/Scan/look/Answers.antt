use Rattle.std.proofs.Common.{◌≡◌, ◌≤◌, length, ap, arith}
use Rattle.word_sim.specs.declared.lanes.TheConstants.{LANES}
use Rattle.word_sim.specs.GoodSim.{vectors_of}
use Rattle.kept_vectors.specs.Notes.{noted_by}
use Rattle.kept_vectors.proofs.KeepLemmas.{ran_vectors}
use Rattle.kept_vectors.proofs.StandingLemmas.{rows_empty}
use Rattle.kept_vectors.proofs.scan.Scan.look.Goals as goal

pub find_rows-requires-clause-left : goal.find_rows-requires-clause-left
find_rows-requires-clause-left c =
    let now = c.note.new.self in
    let t = c.args.classes.now in
    let told = c.in_ok-note.ensures.told in
    let rows = c.clear_rows.new.rows in
    let was = ap length c.as_mut_slice-rows.ensures.value in
    let few : length (vectors_of now.good) ≤ LANES = omega (arith, ap length (ran_vectors now.good c.args.self.now.block.vectors told.ran), c.requires.block.few) in
    let count : length rows ≡ length t.class_of = omega (arith, c.clear_rows.ensures.count, was, c.note.ensures.scan.rows, told.numbers) in
    rows_empty now.good (noted_by now.differences) t now.differences.numbers.items rows told.whole few count c.in_ok-note.ensures.asked (λ n lane h live. c.clear_rows.ensures.none n lane (omega (arith, h, c.clear_rows.ensures.count)) live)
