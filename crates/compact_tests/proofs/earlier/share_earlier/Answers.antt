use Rattle.std.proofs.Common.{◌≡◌, ◌≢◌, ◌∙◌, ℕ, ◌<◌, inl, inr, List, length, get_or, refl, sym, ap, subst, arith}
use Rattle.std.specs.Prelude.{Contains}
use Rattle.std.proofs.lemmas.Bool.{cases_eq, both_ways, false≢true}
use Rattle.std.proofs.lemmas.List.{get_or_default}
use Rattle.net_model.specs.ClassTable.{ClassTable, class_at, class_count, members}
use Rattle.class_refine.proofs.Pieces.{members-All}
use Rattle.compact_tests.specs.Earlier.{HasRepeat, ShareEarlier}
use Rattle.compact_tests.specs.Sharing.{has_two, shared_groups as all_shared}
use Rattle.compact_tests.proofs.RepeatLemmas.{repeat_shares, share_repeats}
use Rattle.compact_tests.proofs.SharingLemmas.{classes_where, shared_contains}
use Rattle.compact_tests.proofs.earlier.share_earlier.Goals as goal

pub members-requires : goal.members-requires
members-requires c =
    let groups = c.args.groups.now in
    let k = c.loop-group.group-index in
    let inside : k < length (all_shared groups) = omega (arith, c.loop-group-test.true, ap length c.requires.shared) in
    omega (arith, (classes_where groups (has_two groups)).within k 0 inside, ap (λ (gs : List ℕ). get_or gs k 0) c.requires.shared)

pub repeats-requires-clause-group : goal.repeats-requires-clause-group
repeats-requires-clause-group c = λ k d h.
    let groups = c.args.groups.now in
    let group = get_or c.args.shared.now c.loop-group.group-index 0 in
    let inside : k < length (members groups group) = omega (arith, h, ap length c.members.ensures) in
    omega (arith, ap (λ (ms : List ℕ). get_or ms k d) c.members.ensures, (members-All groups group k d inside).0, c.requires.numbers)

pub returns-then-repeats-clause-value : goal.returns-then-repeats-clause-value
returns-then-repeats-clause-value c = (
  (λ t. repeat_shares c.args.groups.now c.args.earlier.now c.requires.numbers (get_or c.args.shared.now c.loop-group.group-index 0) (subst (λ (ms : List ℕ). HasRepeat ms c.args.earlier.now) c.members.ensures (c.repeats.ensures.value.0 c.if-repeats.true))),
  (λ s. refl),
)

pub loop-group-preserved : goal.loop-group-preserved
loop-group-preserved c = record {
  unmarked = c.repeats.ensures.unmarked;
  none = λ s k h.
      let groups = c.args.groups.now in
      let at = c.loop-group.group-index in
      let group = get_or c.args.shared.now at 0 in
      elim (cases_eq k at) [
        | inl e ↦ λ here.
            let own : class_at groups s.first ≡ group = sym here ∙ ap (λ (j : ℕ). get_or c.args.shared.now j 0) e in
            let again : HasRepeat c.members.result.now c.args.earlier.now =
            subst (λ (ms : List ℕ). HasRepeat ms c.args.earlier.now) (sym c.members.ensures) (subst (λ (g : ℕ). HasRepeat (members groups g) c.args.earlier.now) own (share_repeats groups c.args.earlier.now c.requires.numbers s)) in
            absurd (both_ways c.repeats.result c.if-repeats.false (c.repeats.ensures.value.1 again))
        | inr ne ↦ c.loop-group.invariant.none s k (omega (arith, h, ne))
      ];
}

-- Two numbers that share a class are in a group of two or more.
none_left : (groups : ClassTable) (earlier shared : List ℕ) → shared ≡ all_shared groups → length groups.class_of ≡ length earlier → ((n : ℕ) → n < length groups.class_of → class_at groups n < class_count groups)
    → ((s : ShareEarlier groups earlier) (k : ℕ) → k < length shared → get_or shared k 0 ≢ class_at groups s.first) → ShareEarlier groups earlier → ⊥
none_left groups earlier shared are long known none s =
    let ha : s.first < length groups.class_of = omega (arith, s.order, s.within, long) in
    let hb : s.second < length groups.class_of = omega (arith, s.within, long) in
    let other : s.first ≢ s.second = λ e. absurd (omega (arith, e, s.order)) in
    let has : Contains shared (class_at groups s.first) = subst (λ (gs : List ℕ). Contains gs (class_at groups s.first)) (sym are) (shared_contains groups s.first s.second ha hb other s.together (known s.first ha)) in
    none s has.0 has.1 (get_or_default shared has.0 0 (class_at groups s.first) has.1 ∙ has.2)

pub returns-clause-value : goal.returns-clause-value
returns-clause-value c = (
  (λ t. absurd (false≢true t)),
  (λ s. absurd (none_left c.args.groups.now c.args.earlier.now c.args.shared.now c.requires.shared c.requires.numbers c.requires.whole.classes (λ s k h. c.loop-group.invariant.none s k (omega (arith, h, c.loop-group-test.false))) s)),
)
