use Rattle.std.proofs.Common.{◌∙◌}
use Rattle.distinguish_search.proofs.pair_search.search.Goals as goal

pub returns-in-Apart : goal.returns-in-Apart
returns-in-Apart c =
    let v = c.in_ok-vector_of-in-Apart in
    let all = rw (c.in-Apart.is, c.in_ok-sim.ensures) at c.in_ok-cube.ensures.found in
    all.each v.field-0 ((rw c.deref.ensures.value at v.ensures.width) ∙ all.width) (rw c.deref.ensures.value at v.ensures.bits)
