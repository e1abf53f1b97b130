use Rattle.std.proofs.Common.{◌≡◌, ◌<◌, ℕ, List, length, get_or, sym, ap, subst, arith}
use Rattle.std.proofs.lemmas.List.{get_or_default, with_items_is}
use Rattle.std.specs.Prelude.{All}
use Rattle.table_dicts.specs.ByRoot.{AreGroupsByRoot}
use Rattle.table_dicts.proofs.RootLemmas.{root_more}
use Rattle.table_dicts.proofs.by_root.root_groups.Goals as goal

pub group_with-group-requires-clause-root : goal.group_with-group-requires-clause-root
group_with-group-requires-clause-root c = omega (arith, c.requires.inside c.loop-number.number 0 c.loop-number-test.true, c.loop-number.invariant.places, ap length c.as_mut_slice.ensures.value)

pub loop-number-preserved : goal.loop-number-preserved
loop-number-preserved c =
    let roots = c.args.roots.now in
    let i = c.loop-number.number in
    let group = c.group_with-group.result in
    let firsts = c.loop-number.sorted.firsts.items in
    let same = c.as_slice-firsts.ensures.value in
    let known = subst (λ (fs : List ℕ). group < length fs → get_or roots (get_or fs group 0) 0 ≡ get_or roots i 0) same c.group_with-group.ensures.known in
    let held = with_items_is c.loop-number.noted c.group_with-group.new.noted (omega (arith, c.group_with-group.auto.noted, c.as_mut_slice.ensures.len)) in
    rw (c.in_ok-put.ensures.groups, c.in_ok-put.ensures.firsts, held) (record {
      groups = root_more roots i c.loop-number.sorted.groups firsts c.loop-number.invariant.groups group (omega (arith, c.group_with-group.ensures.within, ap length same)) known;
      places = omega (arith, c.group_with-group.auto.noted, ap length c.as_mut_slice.ensures.value, c.loop-number.invariant.places);
    })

pub group_with-group-requires-clause-firsts : goal.group_with-group-requires-clause-firsts
group_with-group-requires-clause-firsts c =
    let firsts = c.loop-number.sorted.firsts.items in
    subst (λ (fs : List ℕ). All (λ first. first < length c.args.roots.now) fs) (sym c.as_slice-firsts.ensures.value)
    (λ k d h. omega (arith, get_or_default firsts k d 0 h, c.loop-number.invariant.groups.inside k h, c.loop-number-test.true))

pub returns : goal.returns
returns c =
    let all : c.loop-number.number ≡ length c.args.roots.now = omega arith in
    subst (λ n. AreGroupsByRoot c.args.roots.now n c.loop-number.sorted.groups c.loop-number.sorted.firsts.items) all c.loop-number.invariant.groups
