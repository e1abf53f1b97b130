use Rattle.std.proofs.Common.{◌≡◌, ◌∙◌, ◌+◌, ◌<◌, ℕ, List, [], ◌∷◌, ◌++◌, length, refl, subst, sym, None, rules, arith, inl, inr}
use Rattle.std.specs.BTreeMap.{get}
use Rattle.std.proofs.lemmas.Bool.{cases_Bool}
use Rattle.class_refine.proofs.Leaving.{AreNoted}
use Rattle.dict_rows.specs.Grouped.{words_order, AreFirstsOf}
use Rattle.dict_rows.proofs.GroupLemmas.{firsts_none, few_firsts, Turn, turn, first_turn}
use Rattle.dict_rows.proofs.grouping.sort.Goals as goal
use Rattle.dict_rows.proofs.grouping.sort.Goals.{In_ok-group}

pub loop-row-init : goal.loop-row-init
loop-row-init c =
    let groups = c.new-sorted.ensures.groups in
    let firsts = c.new-sorted.ensures.firsts in
    let rows = c.args.rows.now in
    let noted : AreNoted rows [] (get words_order c.new-begun.result) = record { at = λ q. let none : get words_order c.new-begun.result q ≡ None = search rules in rw none (λ k d h. absurd (omega (arith, h))) } in
    record {
      firsts = subst (λ (gs : List ℕ). AreFirstsOf rows 0 gs c.new-sorted.result.firsts.items) (sym groups) (subst (AreFirstsOf rows 0 []) (sym firsts) (firsts_none rows));
      noted = subst (λ (fs : List ℕ). AreNoted rows fs (get words_order c.new-begun.result)) (sym firsts) noted;
    }

pub overflow_cast-next : goal.overflow_cast-next
overflow_cast-next c = omega (arith, few_firsts c.loop-row.invariant.firsts, c.requires)

inside : (c : In_ok-group) → c.loop-row.row < length c.args.rows.now
inside c = omega arith

turned : (c : In_ok-group) → Turn c.args.rows.now c.loop-row.row (inside c) c.loop-row.sorted.groups c.loop-row.sorted.firsts.items c.loop-row.invariant.firsts c.in_ok-group.group (get words_order c.group_with.new.begun)
turned c =
    let rows = c.args.rows.now in
    let groups = c.loop-row.sorted.groups in
    let firsts = c.loop-row.sorted.firsts.items in
    let are = c.loop-row.invariant.firsts in
    let old = get words_order c.loop-row.begun in
    let new = get words_order c.group_with.new.begun in
    let group = c.in_ok-group.ensures.group in
    let noted = c.in_ok-group.ensures.noted in
    elim (cases_Bool c.equals_first-first.result) [
      | inl again ↦
          let first : c.in_ok-group.group ≡ 0 = rw again at group in
          let same = c.equals_first-first.ensures.0 again in
          subst (λ g. Turn rows c.loop-row.row (inside c) groups firsts are g new) (sym first) (first_turn rows c.loop-row.row (inside c) groups firsts are c.loop-row.invariant.noted same.0 same.1 (λ q. rw again at noted q))
      | inr other ↦
          turn rows c.loop-row.row (inside c) groups firsts are old new c.row_words.result c.row_words.ensures.packed (λ n h. c.row_words.ensures.one_width n [] h) c.loop-row.invariant.noted
          (old c.row_words.result) c.len-next.result c.in_ok-group.group refl (c.len-next.ensures ∙ c.loop-row.sorted.firsts.ok.0) (rw other at group) (λ q. rw other at noted q)
    ]

pub put-requires : goal.put-requires
put-requires c = let at = (goal.at.put-requires c).In_ok-group in (turned at).within

pub loop-row-preserved : goal.loop-row-preserved
loop-row-preserved c =
    let at = (goal.at.loop-row-preserved c).In_ok-group in
    let done = turned at in
    let rows = c.args.rows.now in
    record {
      firsts = subst (λ (groups : List ℕ). AreFirstsOf rows (c.loop-row.row + 1) groups c.put.new.self.firsts.items) (sym c.in_ok-put.ensures.groups)
          (subst (AreFirstsOf rows (c.loop-row.row + 1) (c.loop-row.sorted.groups ++ c.in_ok-group.group ∷ [])) (sym c.in_ok-put.ensures.firsts) done.firsts_are);
      noted = subst (λ (firsts : List ℕ). AreNoted rows firsts (get words_order c.group_with.new.begun)) (sym c.in_ok-put.ensures.firsts) done.noted_are;
    }

pub returns : goal.returns
returns c =
    let all : c.loop-row.row ≡ length c.args.rows.now = omega arith in
    subst (λ n. AreFirstsOf c.args.rows.now n c.loop-row.sorted.groups c.loop-row.sorted.firsts.items) all c.loop-row.invariant.firsts
