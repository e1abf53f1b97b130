use Rattle.std.specs.Prelude.{take}
use Rattle.ranked_diag.specs.SeenWords.{IsSeenToo}
use Rattle.ranked_diag.proofs.seen_words.SeenWords.see.Given as goal

abbrev pub invariant-loop-at : goal.invariant-loop-at
invariant-loop-at l = IsSeenToo l.initial.self l.self l.place (take l.at l.seen)
