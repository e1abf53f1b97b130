use Rattle.std.proofs.Common.{◌∙◌, ℕ, Bool, Vec, Global, sym, ap}
use Rattle.compact_tests.specs.Sharing.{has_two}
use Rattle.compact_tests.proofs.SharingLemmas.{passes_more, fails_more}
use Rattle.compact_tests.proofs.sharing.shared_groups.Goals.{then-is_group+in_ok-push, else-is_group}
use Rattle.compact_tests.proofs.sharing.shared_groups.Goals as goal

pub loop-group-preserved : goal.loop-group-preserved
loop-group-preserved c =
    let test : ℕ → Bool = has_two c.args.groups.now in
    let own = c.loop-group.group in
    let old = c.loop-group.shared.items in
    let new = c.if-is_group.shared.items in
    elim c.if-is_group.branch [
      | then-is_group+in_ok-push w ↦ passes_more test own old new c.loop-group.invariant (sym c.is_group.ensures ∙ w.if-is_group.true) (ap (λ (v : Vec ℕ Global). v.items) w.shared-is ∙ w.in_ok-push.ensures.items)
      | else-is_group w ↦ fails_more test own old new c.loop-group.invariant (sym c.is_group.ensures ∙ w.if-is_group.false) (ap (λ (v : Vec ℕ Global). v.items) w.shared-is)
    ]
