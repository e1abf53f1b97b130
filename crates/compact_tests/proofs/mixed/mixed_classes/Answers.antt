use Rattle.std.proofs.Common.{◌≡◌, ◌∙◌, ℕ, Bool, Vec, Global, length, sym, ap, arith}
use Rattle.std.specs.List.{range_with_len}
use Rattle.std.proofs.lemmas.List.FromFn.{length-range_with_len}
use Rattle.net_model.proofs.Elements.{length-filter-le}
use Rattle.net_model.specs.ClassTable.{class_at, representative}
use Rattle.compact_tests.specs.Mixed.{exceeds_class}
use Rattle.compact_tests.proofs.SharingLemmas.{passes_more, fails_more}
use Rattle.compact_tests.proofs.mixed.mixed_classes.Goals.{then-is_mixed+in_ok-push, else-is_mixed}
use Rattle.compact_tests.proofs.mixed.mixed_classes.Goals as goal

pub loop-class-preserved : goal.loop-class-preserved
loop-class-preserved c =
    let t = c.args.classes.now in
    let groups = c.args.groups.now in
    let test : ℕ → Bool = λ class. exceeds_class t groups (class_at groups (representative t class)) in
    let own = c.loop-class.class in
    let old = c.loop-class.mixed.items in
    let new = c.if-is_mixed.mixed.items in
    let is : c.is_mixed.result ≡ test own = c.is_mixed.ensures ∙ ap (exceeds_class t groups) (c.class_of.ensures.value ∙ ap (class_at groups) c.representative.ensures.value) in
    elim c.if-is_mixed.branch [
      | then-is_mixed+in_ok-push w ↦ passes_more test own old new c.loop-class.invariant (sym is ∙ w.if-is_mixed.true) (ap (λ (v : Vec ℕ Global). v.items) w.mixed-is ∙ w.in_ok-push.ensures.items)
      | else-is_mixed w ↦ fails_more test own old new c.loop-class.invariant (sym is ∙ w.if-is_mixed.false) (ap (λ (v : Vec ℕ Global). v.items) w.mixed-is)
    ]

pub returns-clause-few : goal.returns-clause-few
returns-clause-few c =
    let t = c.args.classes.now in
    let groups = c.args.groups.now in
    let last = c.loop-class.class in
    let test : ℕ → Bool = λ class. exceeds_class t groups (class_at groups (representative t class)) in
    omega (arith, ap length c.loop-class.invariant, length-filter-le test (range_with_len 0 last), length-range_with_len 0 last, c.loop-class.auto, c.count-class-end.type_inv)
