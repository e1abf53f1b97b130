use Rattle.std.proofs.Common.{◌≡◌, ◌∙◌, ◌<◌, ◌+◌, ◌++◌, Bool, List, length, map, refl, ap, subst, arith, Some}
use Rattle.std.specs.List.{range_with_len}
use Rattle.std.specs.Vec.{with_items}
use Rattle.std.proofs.lemmas.List.{with_items_is, length-map}
use Rattle.std.proofs.lemmas.Result.{IfOk-from_err}
use Rattle.net_model.specs.ClassTable.{ClassTable, class_at, class_count, new_lowest, class_after, refined_table}
use Rattle.class_refine.specs.Fields.{HasGroups, table_with}
use Rattle.class_refine.specs.Steps.{piece_of, AreLeaving}
use Rattle.class_refine.proofs.Refined.{few_classes, count-refined}
use Rattle.class_refine.proofs.Cut.{AreJoined, Adds, few_joined, joined, joined_inside, parents_inside, moves, table_after, kept_after, adds}
use Rattle.class_refine.proofs.classes.Classes.cut_off.Goals as goal
use Rattle.class_refine.proofs.classes.Classes.cut_off.Goals.{After-len-added, In_ok-append, After-enter_classes}

-- ---- facts of the steps

-- the pieces leave their classes by a row
abbrev Leave : After-len-added → List (List Bool) → Type 0
Leave c row = AreLeaving c.args.self.now row c.args.pieces.now.groups.items c.args.pieces.now.parents.items

added : (c : After-len-added) (row : List (List Bool)) → Leave c row → c.len-added.result ≡ length (new_lowest c.args.self.now row)
added c row are =
    let t = c.args.self.now in
    omega (arith, c.len-added.ensures, c.args.pieces.now.groups.ok.0, ap length are.groups_are, length-map (new_lowest t row) (piece_of t row))

adding : (c : After-len-added) (row : List (List Bool)) → Leave c row → Adds c.args.self.now row c.len-added.result
adding c row are =
    let kept : HasGroups c.args.self.now c.self.inside.members.items = subst (λ t. HasGroups t c.self.inside.members.items) c.self.view_is c.self.invariant in
    adds c.args.self.now row c.len-added.result kept.whole (added c row are)

groups : (c : In_ok-append) (row : List (List Bool)) → AreLeaving c.args.self.now row c.args.pieces.now.groups.items c.args.pieces.now.parents.items → AreJoined c.args.self.now row c.append.new.self.items
groups c row are =
    let old = c.self.inside.members.items in
    rw c.in_ok-append.ensures.items
    (joined c.args.self.now row old c.args.pieces.now.groups.items c.args.pieces.now.parents.items (subst (λ t. HasGroups t old) c.self.view_is c.self.invariant) are)

table : (c : After-enter_classes) (row : List (List Bool)) → AreLeaving c.args.self.now row c.args.pieces.now.groups.items c.args.pieces.now.parents.items → AreJoined c.args.self.now row c.append.new.self.items
    → table_with (with_items c.self.inside.class_of c.enter_classes.new.class_of).items c.add_births.new.births.items (c.self.inside.patterns + 1) ≡ refined_table c.args.self.now row
table c row leave are =
    let t = c.args.self.now in
    let i = c.self.inside in
    let before : c.as_mut_slice.result.now ≡ t.class_of = c.as_mut_slice.ensures.value ∙ ap (λ (t : ClassTable). t.class_of) c.self.view_is in
    let first : c.len-count.result ≡ class_count t = omega (arith, c.len-count.ensures, i.births.ok.0, ap (λ (t : ClassTable). class_count t) c.self.view_is) in
    let entered = c.enter_classes.ensures (class_after t row) (rw (before, c.as_slice.ensures.value, first) (moves t row c.append.new.self.items are)) in
    let held = with_items_is i.class_of c.enter_classes.new.class_of (omega (arith, c.enter_classes.auto.class_of, c.as_mut_slice.ensures.len)) in
    let births : c.add_births.new.births.items ≡ t.births ++ map (λ parent. Some (parent, i.patterns)) c.as_slice-parents.result.now =
    rw (c.add_births.ensures, c.in_ok-reserve.ensures.items) (ap (λ (t : ClassTable). t.births ++ map (λ parent. Some (parent, i.patterns)) c.as_slice-parents.result.now) c.self.view_is) in
    table_after t row _ c.as_slice-parents.result.now c.add_births.new.births.items i.patterns (held ∙ (entered ∙ ap (λ xs. map (class_after t row) (range_with_len 0 (length xs))) before))
    (c.as_slice-parents.ensures.value ∙ leave.parents_are) births (ap (λ (t : ClassTable). t.patterns) c.self.view_is)

-- ---- the goals

pub returns-then-added-eq0-clause-cut : goal.returns-then-added-eq0-clause-cut
returns-then-added-eq0-clause-cut c row leave =
    let at = (goal.at.returns-then-added-eq0-clause-cut c).After-len-added in
    let adds = rw c.if-added-eq0.true at (adding at row leave) in
    record { count = rw c.if-added-eq0.true at (added at row leave); cuts = adds.cuts; splits = adds.splits; refined = λ some. absurd (omega (arith, some)); unchanged = λ none. refl }

pub enter_classes-requires-clause-few : goal.enter_classes-requires-clause-few
enter_classes-requires-clause-few c =
    let row = c.requires.0 in
    rw c.as_slice.ensures.value (few_joined c.args.self.now row c.append.new.self.items (groups ((goal.at.enter_classes-requires-clause-few c).In_ok-append) row c.requires.1))

pub enter_classes-requires-clause-inside : goal.enter_classes-requires-clause-inside
enter_classes-requires-clause-inside c =
    let row = c.requires.0 in
    let before = c.as_mut_slice.ensures.value ∙ ap (λ (t : ClassTable). t.class_of) c.self.view_is in
    rw (before, c.as_slice.ensures.value) (joined_inside c.args.self.now row c.append.new.self.items (groups ((goal.at.enter_classes-requires-clause-inside c).In_ok-append) row c.requires.1))

pub keep_members-requires : goal.keep_members-requires
keep_members-requires c =
    let row = c.requires.0 in
    rw c.as_mut_slice-2.ensures.value
    (parents_inside c.args.self.now row c.append.new.self.items (groups ((goal.at.keep_members-requires c).In_ok-append) row c.requires.1) c.as_slice-parents.result.now
    (c.as_slice-parents.ensures.value ∙ c.requires.1.parents_are))

pub overflow_add-self : goal.overflow_add-self
overflow_add-self c = let w = c.self.invariant in omega (arith, few_classes _ w.whole, w.whole.patterns, w.small)

pub overflow_cast-result : goal.overflow_cast-result
overflow_cast-result c =
    let at = goal.at.overflow_cast-result c in
    let row = c.requires.0 in
    let are = groups at.In_ok-append row c.requires.1 in
    omega (arith, added at.After-len-added row c.requires.1, few_joined c.args.self.now row c.append.new.self.items are, are.count, count-refined c.args.self.now row)

pub invariant_of-self-2 : goal.invariant_of-self-2
invariant_of-self-2 c =
    let at = goal.at.invariant_of-self-2 c in
    let t = c.args.self.now in
    let row = c.requires.0 in
    let are = groups at.In_ok-append row c.requires.1 in
    let now = table at.After-enter_classes row c.requires.1 are in
    let some : 0 < length (new_lowest t row) = omega (arith, added at.After-len-added row c.requires.1, c.if-added-eq0.false) in
    let left = with_items_is c.append.new.self c.keep_members.new.groups (omega (arith, c.keep_members.auto.groups, c.as_mut_slice-2.ensures.len)) in
    let class_of : c.as_slice-2.result.now ≡ (refined_table t row).class_of = c.as_slice-2.ensures.value ∙ ap (λ (t : ClassTable). t.class_of) now in
    rw (now, left)
    (kept_after t row c.append.new.self.items are c.keep_members.new.groups c.as_slice-parents.result.now some (c.as_slice-parents.ensures.value ∙ c.requires.1.parents_are)
    (c.keep_members.auto.groups ∙ ap length c.as_mut_slice-2.ensures.value) (rw (class_of, c.as_mut_slice-2.ensures.value) at c.keep_members.ensures))

pub returns-clause-cut : goal.returns-clause-cut
returns-clause-cut c row leave =
    let at = goal.at.returns-clause-cut c in
    let adds = adding at.After-len-added row leave in
    record {
      count = added at.After-len-added row leave;
      cuts = adds.cuts;
      splits = adds.splits;
      refined = λ some. table at.After-enter_classes row leave (groups at.In_ok-append row leave);
      unchanged = λ none. absurd (omega (arith, none, c.if-added-eq0.false));
    }

-- ---- out of memory

pub invariant_of-self : goal.invariant_of-self
invariant_of-self c = rw c.in_err-reserve.ensures.items c.self.invariant

pub invariant_of-self-in_err-append : goal.invariant_of-self-in_err-append
invariant_of-self-in_err-append c = rw (c.in_ok-reserve.ensures.items, c.in_err-append.ensures.items) c.self.invariant

pub returns-in_err-reserve-clause-cut : goal.returns-in_err-reserve-clause-cut
returns-in_err-reserve-clause-cut c = IfOk-from_err c.from_residual.result _ c.from_residual.ensures.0

pub returns-in_err-append-clause-cut : goal.returns-in_err-append-clause-cut
returns-in_err-append-clause-cut c = IfOk-from_err c.from_residual-in_err-append.result _ c.from_residual-in_err-append.ensures.0

pub add_births-requires : goal.add_births-requires
add_births-requires c =
    let t = c.args.self.now in
    let row = c.requires.0 in
    omega (arith, c.in_ok-reserve.ensures.ok, ap length (c.as_slice-parents.ensures.value ∙ c.requires.1.parents_are), length-map (new_lowest t row) (class_at t), added ((goal.at.add_births-requires c).After-len-added) row c.requires.1)

pub returns-in_err-reserve-clause-numbers : goal.returns-in_err-reserve-clause-numbers
returns-in_err-reserve-clause-numbers c = ap (λ (t : ClassTable). length t.class_of) c.self.view_is

pub returns-in_err-append-clause-numbers : goal.returns-in_err-append-clause-numbers
returns-in_err-append-clause-numbers c = ap (λ (t : ClassTable). length t.class_of) c.self.view_is

pub returns-clause-numbers : goal.returns-clause-numbers
returns-clause-numbers c =
    let old = c.self.inside.class_of in
    let new = c.enter_classes.new.class_of in
    let same = c.enter_classes.auto.class_of ∙ ap length c.as_mut_slice.ensures.value in
    ap length (with_items_is old new (omega (arith, c.enter_classes.auto.class_of, c.as_mut_slice.ensures.len))) ∙ same ∙ ap (λ (t : ClassTable). length t.class_of) c.self.view_is
