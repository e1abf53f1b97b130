use Rattle.std.specs.Prelude.{◌≡◌, take}
use Rattle.suspect_scores.specs.Marks.{logged_vectors}
use Rattle.suspect_scores.proofs.logged.logged_patterns.Given as goal

abbrev pub invariant-loop-at : goal.invariant-loop-at
invariant-loop-at l = l.logged.items ≡ logged_vectors l.patterns (take l.at l.partial)
