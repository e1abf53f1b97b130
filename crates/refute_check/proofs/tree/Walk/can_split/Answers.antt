use Rattle.std.proofs.Common.{sym, ◌∙◌, ap, arith}
use Rattle.std.specs.Prelude.{not, ◌==◌}
use Rattle.std.specs.List.{list_any}
use Rattle.std.proofs.lemmas.Bool.Decides.{nat_tests}
use Rattle.std.proofs.lemmas.Bool.{not-true}
use Rattle.net_model.proofs.Elements.{true_false}
use Rattle.refute_check.proofs.WalkLemmas.{IsFree, split_right, split_free}
use Rattle.refute_check.proofs.tree.Walk.can_split.Goals as goal
use Rattle.refute_check.proofs.tree.Walk.can_split.Goals.{then-source-self, else-source-self, then-relevant, else-relevant}

pub returns-then-not-is_on_path : goal.returns-then-not-is_on_path
returns-then-not-is_on_path c =
    let walk = c.args.self.now in
    let source = c.args.source in
    let test = c.if-not-is_on_path.true in
    let free : IsFree walk c.requires source =
    elim c.if-relevant.branch [
      | then-relevant w ↦ elim c.if-source-self.branch [
        | then-source-self v ↦ record {
          inside = v.if-source-self.true;
          relevant = sym v.relevant.ensures ∙ sym v.value-is ∙ w.if-relevant.true;
          free = ap (list_any (λ half. half.0 == source)) (sym w.as_slice.ensures.value) ∙ sym w.is_on_path.ensures ∙ not-true w.is_on_path.result (sym w.value-is ∙ test);
        }
        | else-source-self v ↦ absurd (grind (arith, nat_tests))
      ]
      | else-relevant w ↦ true_false c.if-source-self.value (sym w.value-is ∙ test) w.if-relevant.false
    ] in (
      λ t. split_right walk c.requires source free (c.is_undecided.ensures.0 t),
      λ right. c.is_undecided.ensures.1 right.3,
    )

pub returns-else-not-is_on_path : goal.returns-else-not-is_on_path
returns-else-not-is_on_path c =
    let walk = c.args.self.now in
    let source = c.args.source in
    let test = c.if-not-is_on_path.false in (
      λ t. true_false c.if-relevant.value t test,
      λ right.
          let free = split_free walk c.requires source right in
          elim c.if-relevant.branch [
            | then-relevant w ↦ w.value-is ∙ ap not (w.is_on_path.ensures ∙ ap (list_any (λ half. half.0 == source)) w.as_slice.ensures.value ∙ free.free)
            | else-relevant w ↦ elim c.if-source-self.branch [
              | then-source-self v ↦ true_false c.if-source-self.value (v.value-is ∙ v.relevant.ensures ∙ free.relevant) w.if-relevant.false
              | else-source-self v ↦ absurd (omega (arith, free.inside, v.if-source-self.false))
            ]
          ],
    )
