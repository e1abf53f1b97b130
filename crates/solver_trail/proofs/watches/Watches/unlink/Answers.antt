use Rattle.std.proofs.Common.{◌≡◌, ◌∙◌, ◌<◌, length, get_or, refl, sym, ap, subst, arith}
use Rattle.std.specs.Prelude.{None, IfSome, set}
use Rattle.std.proofs.lemmas.List.{get_or-map, length-map, map-set, set-get_or}
use Rattle.clause_pool.specs.Literal.{pos_literal}
use Rattle.solver_trail.specs.declared.watches.Watch.{Watch}
use Rattle.solver_trail.specs.Watches.{next_watches, watched_literals}
use Rattle.solver_trail.proofs.watches.Watches.unlink.Goals as goal

pub returns-in-Some : goal.returns-in-Some
returns-in-Some c =
    let w = c.args.self.now in
    let items = w.watches.items in
    let literal = λ (x : Watch). x.literal in
    let next = λ (x : Watch). x.next in
    let before = c.in-Some.before in
    let at = c.args.at in
    let old = c.index_mut.result.now in
    let past = c.index.result.now in
    let x : Watch = record { literal = old.literal; next = past.next } in
    let there : before < length (watched_literals w) = subst (λ o. IfSome o (λ at. at < length (watched_literals w))) c.in-Some.is c.requires.last in
    let before_within : before < length items = omega (arith, there, length-map items literal) in
    let at_within : at < length items = omega (arith, c.requires.at, length-map items literal) in
    let old_is : old.literal ≡ get_or (watched_literals w) before (pos_literal 0) = ap literal c.index_mut.ensures.value ∙ sym (get_or-map literal items before old (pos_literal 0) before_within) in
    let past_is : past.next ≡ get_or (next_watches w) at None = ap next c.index.ensures ∙ sym (get_or-map next items at past None at_within) in
    rw c.in-Some.is (record {
      literals = map-set literal items before x ∙ (ap (set (watched_literals w) before) old_is ∙ set-get_or (watched_literals w) before (pos_literal 0));
      firsts = refl;
      nexts = map-set next items before x ∙ ap (set (next_watches w) before) past_is;
    })
