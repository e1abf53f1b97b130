use Rattle.std.proofs.Common.{◌∙◌, ℕ, Bool, Vec, Global, sym, ap}
use Rattle.compact_tests.specs.Mixed.{exceeds_class}
use Rattle.compact_tests.proofs.SharingLemmas.{passes_more, fails_more}
use Rattle.compact_tests.proofs.mixed.mixed_groups.Goals.{then-is_mixed+in_ok-push, else-is_mixed}
use Rattle.compact_tests.proofs.mixed.mixed_groups.Goals as goal

pub loop-group-preserved : goal.loop-group-preserved
loop-group-preserved c =
    let test : ℕ → Bool = exceeds_class c.args.classes.now c.args.groups.now in
    let own = c.loop-group.group in
    let old = c.loop-group.mixed.items in
    let new = c.if-is_mixed.mixed.items in
    elim c.if-is_mixed.branch [
      | then-is_mixed+in_ok-push w ↦ passes_more test own old new c.loop-group.invariant (sym c.is_mixed.ensures ∙ w.if-is_mixed.true) (ap (λ (v : Vec ℕ Global). v.items) w.mixed-is ∙ w.in_ok-push.ensures.items)
      | else-is_mixed w ↦ fails_more test own old new c.loop-group.invariant (sym c.is_mixed.ensures ∙ w.if-is_mixed.false) (ap (λ (v : Vec ℕ Global). v.items) w.mixed-is)
    ]
