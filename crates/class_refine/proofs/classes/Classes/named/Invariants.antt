use Rattle.class_refine.proofs.Names.{NamedAlso}
use Rattle.class_refine.proofs.classes.Classes.named.Given as goal

abbrev pub invariant-search : goal.invariant-search
invariant-search l = NamedAlso l.self l.i l.j l.low l.high

abbrev pub decreases-search : goal.decreases-search
decreases-search l = l.high
