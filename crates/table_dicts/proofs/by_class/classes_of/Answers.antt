use Rattle.std.proofs.Common.{◌≡◌, ◌∙◌, ◌<◌, ◌++◌, ◌∷◌, [], ℕ, List, map, sym, ap, subst, arith}
use Rattle.std.specs.Prelude.{All}
use Rattle.std.proofs.lemmas.List.{map_more, take_all}
use Rattle.std.proofs.lemmas.List.Elements.{All-push}
use Rattle.net_model.specs.ClassTable.{class_at, class_count}
use Rattle.table_dicts.proofs.by_class.classes_of.Goals as goal

pub loop-number-preserved : goal.loop-number-preserved
loop-number-preserved c =
    let t = c.args.classes.now in
    let old = c.loop-number.list.items in
    let class = c.class_of.result in
    let pushed : c.push.new.self.items ≡ old ++ class ∷ [] = c.in_ok-push.ensures.items in
    let Known : List ℕ → Type 0 = λ classes. All (λ class. class < class_count t) classes in
    record {
      classes = pushed ∙ (λ i. c.loop-number.invariant.classes i ++ c.class_of.ensures.value i ∷ []) ∙ sym (map_more (class_at t) c.args.numbers.now c.loop-number.number-index 0 (omega arith));
      within = subst Known (sym pushed) (All-push (λ class. class < class_count t) old class c.loop-number.invariant.within c.class_of.ensures.within);
    }

pub loop-number-init : goal.loop-number-init
loop-number-init c = record {
  classes = c.in_ok-list.ensures.items;
  within = subst (λ (xs : List ℕ). All (λ class. class < class_count c.args.classes.now) xs) (sym c.in_ok-list.ensures.items) (λ k d h. absurd (omega (arith, h)));
}

pub class_of-requires : goal.class_of-requires
class_of-requires c = c.requires c.loop-number.number-index 0 (omega arith)

pub returns-clause-classes : goal.returns-clause-classes
returns-clause-classes c =
    c.loop-number.invariant.classes ∙ ap (λ (ns : List ℕ). map (class_at c.args.classes.now) ns) (take_all c.loop-number.number-index c.args.numbers.now (omega (arith, c.loop-number-test.false)))

pub returns-clause-within : goal.returns-clause-within
returns-clause-within c = c.loop-number.invariant.within
