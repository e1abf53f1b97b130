use Rattle.std.proofs.Common.{◌≡◌, ◌∙◌, ◌<◌, ◌-◌, ℕ, length, sym, ap, subst, arith}
use Rattle.std.proofs.lemmas.List.{get_or_read}
use Rattle.std.proofs.lemmas.List.Sums.{length-filter, count_by-le-length}
use Rattle.std.proofs.lemmas.List.FromFn.{length-range_with_len}
use Rattle.std.specs.Prelude.{filter, ◌==◌}
use Rattle.std.specs.List.{list_any, range_with_len}
use Rattle.fault_collapse.specs.Forest.{Forest, number_count, root_of}
use Rattle.fault_collapse.specs.ForestFields.{AreForestFields}
use Rattle.fault_collapse.proofs.Settled.{one_more, no_more}
use Rattle.fault_collapse.proofs.forest.Forest.root_count.Goals as goal
use Rattle.fault_collapse.proofs.forest.Forest.root_count.Goals.{then-index-number, else-index-number}

pub overflow_add-count : goal.overflow_add-count
overflow_add-count c =
    let is_root = λ (number : ℕ). list_any (λ root. root == number) c.args.self.now.roots in
    omega (arith, c.loop-number.invariant, length-filter is_root (range_with_len 1 (c.loop-number.number - 1)), count_by-le-length is_root (range_with_len 1 (c.loop-number.number - 1)), length-range_with_len 1 (c.loop-number.number - 1), c.len-number-end.ensures, c.loop-number-test.true, c.self.invariant.few)

pub loop-number-preserved : goal.loop-number-preserved
loop-number-preserved c =
    let forest = c.args.self.now in
    let number = c.loop-number.number in
    let is : AreForestFields forest = subst AreForestFields c.self.view_is c.self.invariant in
    let inside : number < length c.self.inside.roots.items = omega (arith, c.len-number-end.ensures, c.loop-number-test.true) in
    let within : number < number_count forest = omega (arith, inside, ap number_count c.self.view_is) in
    let read : c.index.result.now ≡ root_of forest number = get_or_read c.self.inside.roots.items number c.index.result.now inside c.index.ensures 0 ∙ ap (λ (f : Forest). root_of f number) c.self.view_is in
    elim c.if-index-number.branch [
      | then-index-number w ↦ w.count-is ∙ one_more forest is number within c.loop-number.count c.loop-number.auto.number c.loop-number.invariant (sym read ∙ w.if-index-number.true)
      | else-index-number w ↦ w.count-is ∙ no_more forest is number within c.loop-number.count c.loop-number.auto.number c.loop-number.invariant (λ same. w.if-index-number.false (read ∙ same))
    ]

pub returns : goal.returns
returns c =
    let forest = c.args.self.now in
    let all : c.loop-number.number ≡ number_count forest = omega (arith, c.len-number-end.ensures, ap number_count c.self.view_is, c.self.invariant.free) in
    c.loop-number.invariant ∙ ap (λ n. length (filter (λ number. list_any (λ root. root == number) forest.roots) (range_with_len 1 (n - 1)))) all
