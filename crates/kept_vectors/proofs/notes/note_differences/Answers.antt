use Rattle.std.proofs.Common.{ℕ, ◌++◌, map, ap, ◌∙◌, arith}
use Rattle.std.specs.Prelude.{List}
use Rattle.std.proofs.lemmas.List.{take_all}
use Rattle.kept_vectors.proofs.NoteLemmas.{note_at, notes_of}
use Rattle.kept_vectors.proofs.notes.note_differences.Goals as goal

pub returns : goal.returns
returns c =
    let sim = c.args.sim.now in
    let listed = c.differing_positions-position-items.result.now in
    let ensures = c.differing_positions-position-items.ensures in (
      map (note_at sim) listed,
      c.loop-position.invariant ∙ ap (λ (ps : List ℕ). c.args.notes.now.items ++ map (note_at sim) ps) (take_all c.loop-position.position-index listed (omega (arith, c.loop-position-test.false))),
      notes_of sim listed ensures.within ensures.ascending ensures.exactly,
    )
