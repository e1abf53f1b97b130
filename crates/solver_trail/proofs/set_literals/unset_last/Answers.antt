use Rattle.std.proofs.Common.{◌≡◌, ◌∙◌, ◌-◌, ◌+◌, [], ◌∷◌, ◌++◌, length, take, ap, arith}
use Rattle.std.proofs.lemmas.List.{take-map, length_push}
use Rattle.solver_trail.specs.declared.set_literals.SetLiteral.{SetLiteral}
use Rattle.solver_trail.specs.Assignment.{literals_of}
use Rattle.solver_trail.proofs.Held.{length-literals_of}
use Rattle.solver_trail.proofs.BackTo.{unset_last_placed}
use Rattle.solver_trail.proofs.set_literals.unset_last.Goals as goal

pub returns-in-Some-clause-placed : goal.returns-in-Some-clause-placed
returns-in-Some-clause-placed c =
    let p = c.requires.placed in
    let old = c.args.entries.now.items in
    let ys = c.pop.new.self.items in
    let last = c.in-Some.last in
    let is : old ≡ ys ++ last ∷ [] = c.in-Some.ensures.items in
    let size : length old ≡ length ys + 1 = ap length is ∙ length_push ys last in
    let count : length c.args.literals.now.items ≡ length old = ap length p.same ∙ length-literals_of old in
    let left : c.args.literals.now.len - 1 ≡ length old - 1 = omega (arith, count, c.args.literals.now.ok.0) in
    let rest : c.pop-in-Some.new.self.items ≡ literals_of (take (length old - 1) old) =
    c.pop-in-Some.ensures.rest ∙ (ap (λ n. take n c.args.literals.now.items) left ∙ (ap (take (length old - 1)) p.same ∙ take-map (λ (s : SetLiteral). s.literal) (length old - 1) old)) in
    let front : c.pop.new.self.items ≡ take (length old - 1) old = c.pop.ensures.rest ∙ ap (λ n. take n old) (let e : c.args.entries.now.len - 1 ≡ length old - 1 = omega (arith, c.args.entries.now.ok.0) in e) in
    let there = unset_last_placed ys last p is in
    rw (rest, ← front, c.variable.ensures.value) there
