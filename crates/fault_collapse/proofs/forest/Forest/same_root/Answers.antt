use Rattle.std.proofs.Common.{◌≡◌, ◌∙◌, ◌<◌, ℕ, List, eqb, length, get_or, ap, arith}
use Rattle.std.proofs.lemmas.List.{get_or_read}
use Rattle.fault_collapse.specs.Forest.{Forest, number_count, root_of}
use Rattle.fault_collapse.proofs.Settled.{same_roots, same_equal}
use Rattle.fault_collapse.proofs.forest.Forest.same_root.Goals as goal

-- a root that is read is that of the value
root_read : (roots : List ℕ) (forest : Forest) (number read : ℕ) → roots ≡ forest.roots → number < number_count forest → read ≡ get_or roots number read → read ≡ root_of forest number
root_read roots forest number read same within e =
    let inside : number < length roots = omega (arith, within, ap length same) in
    get_or_read roots number read inside e 0 ∙ ap (λ xs. get_or xs number 0) same

pub returns-clause-roots : goal.returns-clause-roots
returns-clause-roots c = λ circuit is.
    let first = root_read c.self.inside.roots.items c.args.self.now c.args.a c.index.result.now (ap (λ (f : Forest). f.roots) c.self.view_is) c.requires.first c.index.ensures in
    let second = root_read c.self.inside.roots.items c.args.self.now c.args.b c.index-2.result.now (ap (λ (f : Forest). f.roots) c.self.view_is) c.requires.second c.index-2.ensures in
    same_roots circuit c.args.self.now is c.args.a c.args.b c.requires.first c.requires.second (eqb c.index.result.now c.index-2.result.now) (λ i. eqb (first i) (second i))

pub returns-clause-equal : goal.returns-clause-equal
returns-clause-equal c = λ circuit is.
    let first = root_read c.self.inside.roots.items c.args.self.now c.args.a c.index.result.now (ap (λ (f : Forest). f.roots) c.self.view_is) c.requires.first c.index.ensures in
    let second = root_read c.self.inside.roots.items c.args.self.now c.args.b c.index-2.result.now (ap (λ (f : Forest). f.roots) c.self.view_is) c.requires.second c.index-2.ensures in
    same_equal circuit c.args.self.now is c.args.a c.args.b c.requires.first c.requires.second (eqb c.index.result.now c.index-2.result.now) (λ i. eqb (first i) (second i))
