use Rattle.std.proofs.Common.{◌∙◌, ℕ, Bool, Vec, Global, sym, ap}
use Rattle.net_model.specs.ClassTable.{class_at}
use Rattle.compact_tests.specs.Sharing.{has_two}
use Rattle.compact_tests.proofs.SharingLemmas.{passes_more, fails_more}
use Rattle.compact_tests.proofs.sharing.sharing_numbers.Goals.{then-is_group+in_ok-push, else-is_group}
use Rattle.compact_tests.proofs.sharing.sharing_numbers.Goals as goal

pub loop-number-preserved : goal.loop-number-preserved
loop-number-preserved c =
    let test : ℕ → Bool = λ number. has_two c.args.groups.now (class_at c.args.groups.now number) in
    let own = c.loop-number.number in
    let old = c.loop-number.sharing.items in
    let new = c.if-is_group.sharing.items in
    elim c.if-is_group.branch [
      | then-is_group+in_ok-push w ↦ passes_more test own old new c.loop-number.invariant (ap (has_two c.args.groups.now) (sym c.class_of.ensures.value) ∙ sym c.is_group.ensures ∙ w.if-is_group.true) (ap (λ (v : Vec ℕ Global). v.items) w.sharing-is ∙ w.in_ok-push.ensures.items)
      | else-is_group w ↦ fails_more test own old new c.loop-number.invariant (ap (has_two c.args.groups.now) (sym c.class_of.ensures.value) ∙ sym c.is_group.ensures ∙ w.if-is_group.false) (ap (λ (v : Vec ℕ Global). v.items) w.sharing-is)
    ]
