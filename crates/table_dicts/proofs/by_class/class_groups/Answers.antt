use Rattle.std.proofs.Common.{◌≡◌, ◌∙◌, ◌<◌, cond, eqb, length, set, subst, arith}
use Rattle.std.proofs.lemmas.List.{with_items_is}
use Rattle.net_model.specs.ClassTable.{class_at, representative}
use Rattle.dict_rows.specs.Grouped.{AreFirstsOf}
use Rattle.table_dicts.proofs.ClassGroupLemmas.{noted_with, Comes, comes}
use Rattle.table_dicts.proofs.by_class.class_groups.Goals as goal
use Rattle.table_dicts.proofs.by_class.class_groups.Goals.{After-group_of-group}

pub returns : goal.returns
returns c = λ rows are.
    let all : c.loop-number.number ≡ c.args.numbers = omega arith in
    subst (λ n. AreFirstsOf rows n c.loop-number.sorted.groups c.loop-number.sorted.firsts.items) all (c.loop-number.invariant.sorted rows are)

-- The number is put into its group.
module _ (c : After-group_of-group) where
  inside : c.loop-number.number < length c.args.classes.now.class_of
  inside = omega (arith, c.requires)

  next_is : c.len-next.result ≡ length c.loop-number.sorted.firsts.items
  next_is = c.len-next.ensures ∙ c.loop-number.sorted.firsts.ok.0

  turned : Comes c.args.classes.now c.count.ensures.whole c.loop-number.number inside c.loop-number.sorted.groups c.loop-number.sorted.firsts.items c.loop-number.noted.items c.loop-number.invariant c.group_of-group.result c.group_of-group.new.noted
  turned =
      let t = c.args.classes.now in
      let i = c.loop-number.number in
      let before : c.as_mut_slice.result.now ≡ c.loop-number.noted.items = c.as_mut_slice.ensures.value in
      let is : c.group_of-group.new.noted ≡ noted_with t c.loop-number.noted.items i (length c.loop-number.sorted.firsts.items) =
      c.group_of-group.ensures.noted ∙ (λ k. cond (eqb (representative t (class_at t i)) i) (set (before k) (class_at t i) (next_is k)) (before k)) in
      comes t c.count.ensures.whole i inside c.loop-number.sorted.groups c.loop-number.sorted.firsts.items c.loop-number.noted.items c.loop-number.invariant c.group_of-group.result c.group_of-group.new.noted is c.group_of-group.ensures.group

pub put-requires : goal.put-requires
put-requires c = (turned (goal.at.put-requires c).After-group_of-group).within

pub loop-number-preserved : goal.loop-number-preserved
loop-number-preserved c =
    let at = (goal.at.loop-number-preserved c).After-group_of-group in
    let held = with_items_is c.loop-number.noted c.group_of-group.new.noted (omega (arith, c.group_of-group.auto.noted, c.as_mut_slice.ensures.len)) in
    rw (c.in_ok-put.ensures.groups, c.in_ok-put.ensures.firsts, held) (turned at).begun
