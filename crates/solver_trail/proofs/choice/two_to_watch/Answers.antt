use Rattle.std.proofs.Common.{◌≡◌, ◌∙◌, get_or, sym, ap}
use Rattle.std.proofs.lemmas.List.{get_or_default}
use Rattle.clause_pool.specs.Literal.{Literal}
use Rattle.clause_pool.proofs.ProperLemmas.{places_apart}
use Rattle.solver_trail.proofs.choice.two_to_watch.Goals as goal

pub returns : goal.returns
returns c =
    let clause = c.args.clause.now in
    let i = c.last_false-first.result in
    let j = c.last_false-second.result in
    let l = c.index-clause-first.result in
    let m = c.index-clause-second.result in
    let first = c.last_false-first.ensures.inside in
    let second = c.last_false-second.ensures.inside in
    let l_is : get_or clause i m ≡ l = get_or_default clause i m l first ∙ sym c.index-clause-first.is in
    let ne = places_apart clause i j m c.requires.once first second (λ e. c.last_false-second.ensures.apart (sym e)) in
    record {
      first = (i, first, sym c.index-clause-first.is);
      second = (j, second, sym c.index-clause-second.is);
      apart = λ e. ne (ap (λ (x : Literal). x.variable) l_is ∙ (e ∙ ap (λ (x : Literal). x.variable) c.index-clause-second.is));
    }
