use Rattle.std.proofs.Common.{◌≡◌, ◌∙◌, ℕ, [], length, get_or, sym, subst, arith, inl, inr, Contains}
use Rattle.std.proofs.lemmas.Bool.{cases_eq}
use Rattle.std.proofs.lemmas.List.{get_or_default}
use Rattle.std.proofs.lemmas.List.Elements.{All-contains, Contains-get_or}
use Rattle.std.proofs.lemmas.List.FromFn.{fill_by_all}
use Rattle.class_refine.proofs.moving.enter_classes.Goals as goal

pub loop-class-preserved : goal.loop-class-preserved
loop-class-preserved c after is =
    let at = c.loop-class.class in
    let groups = c.args.groups.now in
    let new = c.enter_class.new.class_of in
    let so_far = c.loop-class.invariant after is in
    let group : c.as_slice.result.now ≡ get_or groups at [] = c.as_slice.ensures ∙ (c.index-groups-class.is ∙ get_or_default groups at c.index-groups-class.result [] c.loop-class-test.true) in
    let here : (n : ℕ) → Contains c.as_slice.result.now n → get_or new n 0 ≡ after n = λ n has.
    All-contains (λ m. get_or new m 0 ≡ at) c.as_slice.result.now n c.enter_class.ensures.entered has
    ∙ sym (All-contains (λ m. after m ≡ at) (get_or groups at []) n (is.moved at c.loop-class.auto.class c.loop-class-test.true) (subst (λ g. Contains g n) group has)) in
    record {
      entered = λ class from below k d l.
          let n = get_or (get_or groups class []) k d in
          elim (cases_eq class at) [
            | inl same ↦ here n (subst (λ g. Contains g n) (sym group) (subst (λ j. Contains (get_or groups j []) n) same (Contains-get_or (get_or groups class []) k d l)))
            | inr ne ↦ grind (arith, c.enter_class.ensures.others n, here n, so_far.entered class from (omega (arith, below, ne)) k d l)
          ];
      others = λ n. grind (arith, c.enter_class.ensures.others n, so_far.others n, here n);
    }

pub returns : goal.returns
returns c after is =
    let so_far = c.loop-class.invariant after is in
    fill_by_all after c.loop-class.class_of (length c.args.class_of.now) 0 c.loop-class.auto.class_of
    (λ n h. elim (is.others n h) [
      | inl stays ↦ grind (arith, so_far.others n, stays)
      | inr w ↦ All-contains (λ m. get_or c.loop-class.class_of m 0 ≡ after m) (get_or c.args.groups.now w.0 []) n (so_far.entered w.0 w.1 (omega (arith, w.2, c.loop-class-test.false))) w.3
    ])
