-- What a candidate in place of another changes: the gains of the other patterns, and the groups that can change.
use Rattle.std.proofs.Common.{◌≡◌, ◌≢◌, ◌∙◌, ℕ, ◌+◌, ◌*◌, ◌^◌, ◌<◌, ◌≤◌, Bool, true, false, not, cond, eqb, ◌&&◌, ◌||◌, List, length, get_or, set, refl, sym, ap, subst, arith, inl, inr}
use Rattle.std.specs.Prelude.{AllPairs, Contains, filter}
use Rattle.std.specs.Bool.{beq}
use Rattle.std.specs.List.{range_with_len}
use Rattle.std.specs.Cmp.Derive.{one_truth}
use Rattle.std.proofs.Math.Nat.{mul-le-mul_left}
use Rattle.std.proofs.lemmas.Bool.{cases_eq, eqb-true, eq-eqb, and_parts, and_from}
use Rattle.net_model.proofs.Elements.{true_false}
use Rattle.std.proofs.lemmas.List.{length-set, get_or-set_same, get_or-set_other}
use Rattle.samediff_dict.specs.declared.partition.Partition.{Partition}
use Rattle.samediff_dict.specs.Moved.{same_side, is_moved, is_mixed, side_at, has_both_sides, AreMovedWithin, HasMixedOf, AreSides, AreMixedPlaces, AreAtPlaces}
use Rattle.samediff_dict.specs.Partition.{group_in, are_together, AreTogether, TogetherAt, IsListed, IsPartition}
use Rattle.samediff_dict.specs.PlaceGroups.{AreBelow, AreGains, gain_at, tells_apart}
use Rattle.samediff_dict.proofs.CutLemmas.{ArePicked, at_place, picked_listed}
use Rattle.samediff_dict.proofs.GainLemmas.{gains_where}
use Rattle.samediff_dict.proofs.ListedLemmas.{group_at, placed}
use Rattle.samediff_dict.proofs.PairLemmas.{sum_to, sum_to_where, sum_to_both, one_if, pairs_to, pairs_are, pairs_same}
use Rattle.samediff_dict.proofs.SharingLemmas.{filter_ascends, filter_below, filter-contains}
use Rattle.samediff_dict.proofs.TallyLemmas.{pairs_all}
use Rattle.samediff_dict.proofs.ToldLemmas.{same_beq, beq_same}

-- ---- pairs that pass two tests

pairs_sum : (n : ℕ) (p q : ℕ → ℕ → Bool) → pairs_to n p + pairs_to n q ≡ sum_to (λ high. sum_to (λ low. one_if (p low high) + one_if (q low high)) high) n
pairs_sum n p q =
    sym (sum_to_both (λ high. sum_to (λ low. one_if (p low high)) high) (λ high. sum_to (λ low. one_if (q low high)) high) n)
    ∙ sum_to_where (λ high. sum_to (λ low. one_if (p low high)) high + sum_to (λ low. one_if (q low high)) high) (λ high. sum_to (λ low. one_if (p low high) + one_if (q low high)) high) n
    (λ high h. sym (sum_to_both (λ low. one_if (p low high)) (λ low. one_if (q low high)) high))

-- if each pair passes as many of two tests as of two others
pub pairs_exchanged : (n : ℕ) (p q r s : ℕ → ℕ → Bool) → ((low high : ℕ) → low < high → high < n → one_if (p low high) + one_if (q low high) ≡ one_if (r low high) + one_if (s low high))
    → pairs_to n p + pairs_to n q ≡ pairs_to n r + pairs_to n s
pairs_exchanged n p q r s same =
    pairs_sum n p q
    ∙ (sum_to_where (λ high. sum_to (λ low. one_if (p low high) + one_if (q low high)) high) (λ high. sum_to (λ low. one_if (r low high) + one_if (s low high)) high) n
    (λ high h. sum_to_where (λ low. one_if (p low high) + one_if (q low high)) (λ low. one_if (r low high) + one_if (s low high)) high (λ low l. same low high l h))
    ∙ sym (pairs_sum n r s))

-- ---- gains

-- whether two classes are together and both have a number, or neither has
abbrev pub together_at : Partition → List ℕ → ℕ → ℕ → ℕ → Bool
together_at p numbers number low high = are_together p low high && same_side numbers number low high

pub gain_same : (together other : ℕ → ℕ → Bool) (answers : List ℕ) (answer : ℕ) → ((low high : ℕ) → low < high → high < length answers → together low high ≡ other low high) → gain_at together answers answer ≡ gain_at other answers answer
unfolding gain_at
gain_same together other answers answer same =
    let n = length answers in
    pairs_are n (tells_apart together answers answer)
    ∙ (pairs_same n (tells_apart together answers answer) (tells_apart other answers answer) (λ low high l h. ap (λ b. b && not (beq (eqb (get_or answers low 0) answer) (eqb (get_or answers high 0) answer))) (same low high l h))
    ∙ sym (pairs_are n (tells_apart other answers answer)))

-- the gains after a cut
pub gain_cut : (p : Partition) {r : Partition} (numbers answers : List ℕ) (number : ℕ) → length numbers ≡ length answers → IsPartition (length numbers) (TogetherAt p numbers number) r
    → (answer : ℕ) → gain_at (are_together r) answers answer ≡ gain_at (together_at p numbers number) answers answer
gain_cut p {r} numbers answers number long is answer =
    gain_same (are_together r) (together_at p numbers number) answers answer
    (λ low high l h.
    let hl : low < length numbers = omega (arith, l, h, long) in
    let hh : high < length numbers = omega (arith, h, long) in
    let a = eqb (get_or numbers low 0) number in
    let b = eqb (get_or numbers high 0) number in
    one_truth (are_together r low high) (together_at p numbers number low high)
    (λ so. let both = is.together_are low high hl hh (eqb-true (group_in r low) (group_in r high) so) in and_from (are_together p low high) (beq a b) (eq-eqb (group_in p low) (group_in p high) both.0) (beq_same a b both.1))
    (λ so. let both = and_parts (are_together p low high) (beq a b) so in eq-eqb (group_in r low) (group_in r high) (is.same low high hl hh (eqb-true (group_in p low) (group_in p high) both.0, same_beq a b both.1))))

pub gains_cut : (p : Partition) {r : Partition} (numbers answers : List ℕ) (number : ℕ) → length numbers ≡ length answers → IsPartition (length numbers) (TogetherAt p numbers number) r
    → {candidates : ℕ} {gains : List ℕ} → AreGains (are_together r) answers candidates gains → AreGains (together_at p numbers number) answers candidates gains
gains_cut p numbers answers number long is are = gains_where are (gain_cut p numbers answers number long is)

-- a pair that is within is counted after and by the old number as it is before and by the new one
exchanged : (within old new before after apart : Bool) → (within ≡ true → before ≡ old) → (within ≡ true → after ≡ new) → (within ≡ false → after ≡ before)
    → one_if (after && apart) + one_if ((within && old) && apart) ≡ one_if (before && apart) + one_if ((within && new) && apart)
exchanged true old new before after apart was is others = omega (arith, ap (λ b. one_if (b && apart)) (was refl), ap (λ b. one_if (b && apart)) (is refl))
exchanged false old new before after apart was is others = omega (arith, ap (λ b. one_if (b && apart)) (others refl))

pub gain_moved : {p : Partition} {numbers : List ℕ} {old new : ℕ} {before after : ℕ → ℕ → Bool} (answers : List ℕ) → AreMovedWithin (length answers) p numbers old new before after
    → (answer : ℕ) → gain_at after answers answer + gain_at (together_at p numbers old) answers answer ≡ gain_at before answers answer + gain_at (together_at p numbers new) answers answer
unfolding gain_at
gain_moved {p} {numbers} {old} {new} {before} {after} answers are answer =
    let n = length answers in
    let apart : (ℕ → ℕ → Bool) → ℕ → ℕ → Bool = λ together. tells_apart together answers answer in
    let each : (low high : ℕ) → low < high → high < n
    → one_if (apart after low high) + one_if (apart (together_at p numbers old) low high) ≡ one_if (apart before low high) + one_if (apart (together_at p numbers new) low high) =
    λ low high l h. exchanged (are_together p low high) (same_side numbers old low high) (same_side numbers new low high) (before low high) (after low high)
    (not (beq (eqb (get_or answers low 0) answer) (eqb (get_or answers high 0) answer))) (are.was low high l h) (are.is low high l h) (are.others low high l h) in
    omega (
      arith,
      pairs_are n (apart after),
      pairs_are n (apart (together_at p numbers old)),
      pairs_are n (apart before),
      pairs_are n (apart (together_at p numbers new)),
      pairs_exchanged n (apart after) (apart (together_at p numbers old)) (apart before) (apart (together_at p numbers new)) each,
    )

gain_few : (together : ℕ → ℕ → Bool) (answers : List ℕ) (answer : ℕ) → 2 * gain_at together answers answer + length answers ≤ length answers * length answers
unfolding gain_at
gain_few together answers answer =
    let n = length answers in
    omega (arith, pairs_are n (tells_apart together answers answer), pairs_all (tells_apart together answers answer) n)

-- the sum of two gains fits for fewer than 2^32 classes
pub gains_fit : (together other : ℕ → ℕ → Bool) (answers : List ℕ) (answer : ℕ) → length answers < 2 ^ 32 → gain_at together answers answer + gain_at other answers answer < 2 ^ 64
gains_fit together other answers answer few =
    let n = length answers in
    let most : n ≤ 2 ^ 32 = omega (arith, few) in
    omega (arith, gain_few together answers answer, gain_few other answers answer, mul-le-mul_left n most, few)

-- the gains are repaired by those over the pairs that are together by the new number, and by the old one
module _ (p : Partition) (numbers : List ℕ) (old new : ℕ) (answers gains more fewer : List ℕ) (more_are : AreGains (together_at p numbers new) answers (length gains) more) (fewer_are : AreGains (together_at p numbers old) answers (length gains) fewer) where
  pub more_fits : {before : ℕ → ℕ → Bool} → AreGains before answers (length gains) gains → length answers < 2 ^ 32 → (answer : ℕ) → answer < length gains → get_or gains answer 0 + get_or more answer 0 < 2 ^ 64
  more_fits {before} are few answer h = omega (arith, are.each answer h, more_are.each answer h, gains_fit before (together_at p numbers new) answers answer few)

  pub fewer_there : {before after : ℕ → ℕ → Bool} → AreMovedWithin (length answers) p numbers old new before after → AreGains before answers (length gains) gains
      → (answer : ℕ) → answer < length gains → get_or fewer answer 0 ≤ get_or gains answer 0 + get_or more answer 0
  fewer_there moved are answer h = omega (arith, are.each answer h, more_are.each answer h, fewer_are.each answer h, gain_moved answers moved answer)

  pub repaired : {before after : ℕ → ℕ → Bool} → AreMovedWithin (length answers) p numbers old new before after → AreGains before answers (length gains) gains
      → (now : List ℕ) → length now ≡ length gains → ((answer : ℕ) → answer < length gains → get_or now answer 0 + get_or fewer answer 0 ≡ get_or gains answer 0 + get_or more answer 0) → AreGains after answers (length gains) now
  repaired moved are now long each = record {
    count_is = long;
    each = λ answer h. omega (arith, each answer h, are.each answer h, more_are.each answer h, fewer_are.each answer h, gain_moved answers moved answer);
  }

-- ---- both sides of a group

pub side-few : (moved : Bool) → cond moved 0 1 < 2
side-few true = omega arith
side-few false = omega arith

pub sides_more : {groups numbers : List ℕ} {count old new place : ℕ} {sides : List Bool} → AreSides groups count numbers old new place sides
    → (side : ℕ) → side ≡ side_at groups numbers old new place → side < length sides → AreSides groups count numbers old new (place + 1) (set sides side true)
sides_more {groups} {numbers} {count} {old} {new} {place} {sides} are side is inside = record {
  long = length-set sides side true ∙ are.long;
  marked = λ k h.
      let own = side_at groups numbers old new k in
      elim (cases_eq own side) [
        | inl e ↦ ap (λ s. get_or (set sides side true) s false) e ∙ get_or-set_same sides side true false inside
        | inr ne ↦
            let other : k ≢ place = λ e. ne (ap (side_at groups numbers old new) e ∙ sym is) in
            get_or-set_other sides side own true false ne ∙ are.marked k (omega (arith, h, other))
      ];
}

both_marked : (flag : ℕ → Bool) (group : ℕ) (moved other : Bool) → not (beq moved other) ≡ true → flag (2 * group + cond moved 0 1) ≡ true → flag (2 * group + cond other 0 1) ≡ true → (flag (2 * group) && flag (2 * group + 1)) ≡ true
both_marked flag group true true mixed one two = true_false false mixed refl
both_marked flag group true false mixed one two = let e : 2 * group ≡ 2 * group + 0 = omega arith in and_from (flag (2 * group)) (flag (2 * group + 1)) (ap flag e ∙ one) two
both_marked flag group false true mixed one two = let e : 2 * group ≡ 2 * group + 0 = omega arith in and_from (flag (2 * group)) (flag (2 * group + 1)) (ap flag e ∙ two) one
both_marked flag group false false mixed one two = true_false false mixed refl

pub mixed_places : {groups numbers : List ℕ} {count old new : ℕ} {sides : List Bool} → AreSides groups count numbers old new (length groups) sides
    → (places : List ℕ) → places ≡ filter (has_both_sides groups sides) (range_with_len 0 (length groups)) → AreMixedPlaces groups numbers old new places
mixed_places {groups} {numbers} {count} {old} {new} {sides} are places is =
    let test = has_both_sides groups sides in
    let flag : ℕ → Bool = λ side. get_or sides side false in
    let moved = is_moved numbers old new in
    record {
      ascending = subst (λ (xs : List ℕ). AllPairs (λ (low high : ℕ). low < high) xs) (sym is) (filter_ascends test (length groups));
      below = subst (λ (xs : List ℕ). AreBelow xs (length groups)) (sym is) (λ k h. filter_below test (length groups) k 0 h);
      complete = λ low high hl hh same mixed.
          let one : flag (2 * get_or groups low 0 + cond (moved low) 0 1) ≡ true = are.marked low hl in
          let two : flag (2 * get_or groups low 0 + cond (moved high) 0 1) ≡ true = ap (λ group. flag (2 * group + cond (moved high) 0 1)) same ∙ are.marked high hh in
          let so : test low ≡ true = both_marked flag (get_or groups low 0) (moved low) (moved high) mixed one two in
          let also : test high ≡ true = ap (λ group. flag (2 * group) && flag (2 * group + 1)) (sym same) ∙ so in
          let found : (k : ℕ) → k < length groups → test k ≡ true → Contains places k = λ k h passes. subst (λ (xs : List ℕ). Contains xs k) (sym is) (filter-contains test (length groups) k h passes) in
          (found low hl so, found high hh also);
    }

-- ---- the groups with a mixed pair

not_itself : (a b : Bool) → not (beq a b) ≡ true → a ≢ b
not_itself true true mixed e = true_false false mixed refl
not_itself true false mixed e = true_false true refl e
not_itself false true mixed e = true_false false e refl
not_itself false false mixed e = true_false false mixed refl

module _ (numbers : List ℕ) (old new : ℕ) {p part : Partition} (listed : IsListed (length numbers) p) (own : List ℕ) (own_are : (k : ℕ) → k < length p.classes.items → get_or own k 0 ≡ get_or numbers (get_or p.classes.items k 0) 0)
    (places : List ℕ) (chosen : AreMixedPlaces p.groups.group_of.items own old new places) (are : AreAtPlaces p places part) where
  place_within : (k : ℕ) → k < length places → get_or places k 0 < length p.classes.items
  place_within k h = omega (arith, chosen.below k h, listed.one_each)

  picked : ArePicked p part places
  picked = record {
    ascending = chosen.ascending;
    within = place_within;
    long = are.long;
    groups_long = are.groups_long;
    classes_are = are.classes_are;
    groups_within = λ k h. let hk : k < length places = omega (arith, h, are.groups_long) in omega (arith, are.groups_are k hk, are.count_is, listed.within (get_or places k 0) (chosen.below k hk));
  }

  pub mixed_listed : IsListed (length numbers) part
  mixed_listed = picked_listed listed picked

  -- the group that a class of the part has in the whole
  whole_group : (k class : ℕ) → k < length places → get_or part.classes.items k 0 ≡ class → group_in p class ≡ get_or p.groups.group_of.items (get_or places k 0) 0
  whole_group k class h is = sym (ap (group_in p) (sym (are.classes_are k h) ∙ is)) ∙ group_at listed (get_or places k 0) (place_within k h)

  in_whole : (low high : ℕ) → AreTogether part low high → AreTogether p low high
  in_whole low high together = elim (cases_eq low high) [
    | inl e ↦ ap (group_in p) e
    | inr ne ↦
        let at = placed mixed_listed low high ne together in
        let hi : at.low_at < length places = omega (arith, at.low_within, are.long) in
        let hj : at.high_at < length places = omega (arith, at.high_within, are.long) in
        whole_group at.low_at low hi at.low_is ∙ (sym (are.groups_are at.low_at hi) ∙ (at.same ∙ (are.groups_are at.high_at hj ∙ sym (whole_group at.high_at high hj at.high_is))))
  ]

  own_moved : (k class : ℕ) → k < length p.classes.items → get_or p.classes.items k 0 ≡ class → is_moved own old new k ≡ is_moved numbers old new class
  own_moved k class h is = ap (λ number. eqb number old || eqb number new) (own_are k h) ∙ ap (is_moved numbers old new) is

  -- the group in the part of a class whose place is among them
  part_group : (i class : ℕ) → get_or p.classes.items i 0 ≡ class → Contains places i → group_in part class ≡ get_or p.groups.group_of.items i 0
  part_group i class is there =
      let at = at_place places i there in
      let here : get_or part.classes.items at.0 0 ≡ class = are.classes_are at.0 at.1 ∙ (ap (λ k. get_or p.classes.items k 0) at.2 ∙ is) in
      sym (ap (group_in part) here) ∙ (group_at mixed_listed at.0 (omega (arith, at.1, are.long)) ∙ (are.groups_are at.0 at.1 ∙ ap (λ k. get_or p.groups.group_of.items k 0) at.2))

  kept : (low high : ℕ) → AreTogether p low high → is_mixed numbers old new low high ≡ true → AreTogether part low high
  kept low high together mixed =
      let ne : low ≢ high = λ e. not_itself (is_moved numbers old new low) (is_moved numbers old new high) mixed (ap (is_moved numbers old new) e) in
      let at = placed listed low high ne together in
      let so : is_mixed own old new at.low_at at.high_at ≡ true = (λ i. not (beq (own_moved at.low_at low at.low_within at.low_is i) (own_moved at.high_at high at.high_within at.high_is i))) ∙ mixed in
      let there = chosen.complete at.low_at at.high_at (omega (arith, at.low_within, listed.one_each)) (omega (arith, at.high_within, listed.one_each)) at.same so in
      part_group at.low_at low at.low_is there.0 ∙ (at.same ∙ sym (part_group at.high_at high at.high_is there.1))

  pub has_mixed : HasMixedOf (length numbers) p part numbers old new
  has_mixed = record { within = λ low high hl hh. in_whole low high; mixed = λ low high hl hh. kept low high }
