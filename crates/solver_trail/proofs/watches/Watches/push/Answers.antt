use Rattle.std.proofs.Common.{◌≡◌, ◌∙◌, ◌+◌, ◌<◌, ◌^◌, [], ◌∷◌, ◌++◌, length, sym, ap, subst, arith}
use Rattle.std.specs.Prelude.{None, map, set}
use Rattle.std.proofs.lemmas.List.{get_or_push, length_push, length-map, map_push, set-get_or}
use Rattle.clause_pool.specs.Literal.{pos_literal}
use Rattle.solver_trail.specs.declared.watches.Watch.{Watch}
use Rattle.solver_trail.specs.Watches.{AreWatchesListed, next_watches, watched_literals}
use Rattle.solver_trail.proofs.Lists.{pushed_listed, linked_listed}
use Rattle.solver_trail.proofs.watches.Watches.push.Goals as goal
use Rattle.solver_trail.proofs.watches.Watches.push.Goals.{After-link}

at_end : (c : After-link) → c.len-at.result ≡ length (watched_literals c.args.self.now)
at_end c = let w = c.args.self.now in c.len-at.ensures ∙ (w.watches.ok.0 ∙ sym (length-map w.watches.items (λ (x : Watch). x.literal)))

literals_are : (c : After-link) → map (λ (x : Watch). x.literal) c.push_reserved.new.self.items ≡ watched_literals c.args.self.now ++ c.args.lit ∷ []
literals_are c =
    let literal = λ (x : Watch). x.literal in
    ap (map literal) c.push_reserved.ensures.items ∙ map_push literal c.args.self.now.watches.items (record { literal = c.args.lit; next = c.none.result })

nexts_are : (c : After-link) → map (λ (x : Watch). x.next) c.push_reserved.new.self.items ≡ next_watches c.args.self.now ++ None ∷ []
nexts_are c =
    let next = λ (x : Watch). x.next in
    ap (map next) c.push_reserved.ensures.items
    ∙ (map_push next c.args.self.now.watches.items (record { literal = c.args.lit; next = c.none.result }) ∙ ap (λ o. next_watches c.args.self.now ++ o ∷ []) c.none.ensures)

pub returns-clause-literals : goal.returns-clause-literals
returns-clause-literals c =
    let d = (goal.at.returns-clause-literals c).After-link in
    let all = watched_literals c.args.self.now ++ c.args.lit ∷ [] in
    let last = get_or_push (watched_literals c.args.self.now) c.args.lit (pos_literal 0) c.len-at.result (sym (at_end d)) in
    c.link.ensures.linked.literals
    ∙ (ap (λ ls. set ls c.len-at.result c.args.lit) (literals_are d) ∙ subst (λ l. set all c.len-at.result l ≡ all) last (set-get_or all c.len-at.result (pos_literal 0)))

pub returns-clause-listed : goal.returns-clause-listed
returns-clause-listed c =
    let d = (goal.at.returns-clause-listed c).After-link in
    let w = c.args.self.now in
    let r = c.link.ensures.linked in
    let all = watched_literals w ++ c.args.lit ∷ [] in
    let within : c.len-at.result < length all = omega (arith, at_end d, length_push (watched_literals w) c.args.lit) in
    let room : length (watched_literals w) + 1 < 2 ^ 32 = omega (arith, at_end d, c.len-at.ensures, c.requires.few) in
    let pushed = subst (λ n. AreWatchesListed w.firsts.items (next_watches w ++ None ∷ []) all (n ∷ [])) (sym (at_end d)) (pushed_listed c.requires.listed c.args.lit room) in
    rw (r.firsts, r.nexts, r.literals, nexts_are d, literals_are d) (linked_listed all c.len-at.result within c.args.lit pushed (λ none. none) c.requires.lit)
