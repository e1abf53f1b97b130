use Rattle.std.proofs.Common.{◌∙◌, ap, arith}
use Rattle.net_model.specs.ClassTable.{ClassTable, class_at}
use Rattle.net_model.proofs.Elements.{get_or-replicate_anywhere}
use Rattle.compact_tests.proofs.ThinningLemmas.{thinned_begun}
use Rattle.compact_tests.proofs.thinning.Thinning.new.Goals as goal

pub returns-clause-begun : goal.returns-clause-begun
returns-clause-begun c = λ numbers all table.
    thinned_begun numbers c.args.classes.now all (record { classes = c.args.classes; earlier = c.loop-class.earlier; groups = c.in_ok-groups.groups; shared = c.in_ok-shared.shared; marks = c.in_ok-vec.field-0; needed = c.new-2.result }) table
    (λ class h. c.loop-class.invariant.each class 0 (omega (arith, h, c.count-count.ensures.value, c.loop-class-test.false)))
    (λ class h. ap (λ (t : ClassTable). class_at t class) c.in_ok-groups.ensures ∙ get_or-replicate_anywhere c.count-count.result class 0) c.new-2.ensures.items
