-- Partitions of some of the classes of another, as after a cut.
use Rattle.std.proofs.Common.{◌≡◌, ◌≢◌, ◌∙◌, ℕ, ◌+◌, ◌<◌, true, not, eqb, List, length, get_or, replicate, refl, sym, ap, subst, arith, ◌*◌}
use Rattle.std.specs.Prelude.{AllPairs, Contains, filter}
use Rattle.std.specs.List.{range_with_len}
use Rattle.std.proofs.lemmas.List.{get_or_default, get_or-replicate, length-replicate}
use Rattle.std.proofs.lemmas.List.FromFn.{get_or-range_with_len, length-range_with_len}
use Rattle.class_refine.proofs.Ranges.{range_ascends}
use Rattle.samediff_dict.specs.declared.partition.Partition.{Partition}
use Rattle.samediff_dict.specs.PlaceGroups.{AreBelow, AreGroups, HaveOrLackNumber, HaveSameNumber, InBoth, InBothAt, in_one, is_shared, pairs_where}
use Rattle.samediff_dict.specs.Partition.{AreKeysOf, AreTogether, group_in, are_together, IsListed, IsPartition, pairs_between}
use Rattle.samediff_dict.proofs.CellLemmas.{carried}
use Rattle.samediff_dict.proofs.PairLemmas.{pairs_to, pairs_are}
use Rattle.samediff_dict.proofs.TallyLemmas.{pairs_all}
use Rattle.samediff_dict.proofs.SharingLemmas.{filter_ascends, filter_below, filter-contains, shared_with}
use Rattle.samediff_dict.proofs.ListedLemmas.{group_at, placed, partition_by, together_placed}

-- a number of a list at a place that is read with 0
pub at_place : (xs : List ℕ) (x : ℕ) → Contains xs x → (k : ℕ) × (k < length xs) × (get_or xs k 0 ≡ x)
at_place xs x (k, h, e) = (k, h, get_or_default xs k 0 x h ∙ e)

-- The listed classes are those at some places of another partition's list, each with a group below the count.
pub record ArePicked (p r : Partition) (places : List ℕ) : Type 0 where
  pub ascending : AllPairs (λ low high. low < high) places
  pub within : AreBelow places (length p.classes.items)
  pub long : length r.classes.items ≡ length places
  pub groups_long : length r.groups.group_of.items ≡ length places
  pub classes_are : (k : ℕ) → k < length places → get_or r.classes.items k 0 ≡ get_or p.classes.items (get_or places k 0) 0
  pub groups_within : AreBelow r.groups.group_of.items r.groups.count

pub picked_listed : {n : ℕ} {p r : Partition} {places : List ℕ} → IsListed n p → ArePicked p r places → IsListed n r
picked_listed {n} {p} {r} {places} listed are = record {
  one_each = are.groups_long ∙ sym are.long;
  ascending = λ i j d l h.
      let hi : i < length places = omega (arith, l, h, are.long) in
      let hj : j < length places = omega (arith, h, are.long) in
      let low : get_or r.classes.items i d ≡ get_or p.classes.items (get_or places i 0) 0 = get_or_default r.classes.items i d 0 (omega (arith, l, h)) ∙ are.classes_are i hi in
      let high : get_or r.classes.items j d ≡ get_or p.classes.items (get_or places j 0) 0 = get_or_default r.classes.items j d 0 h ∙ are.classes_are j hj in
      omega (arith, low, high, listed.ascending (get_or places i 0) (get_or places j 0) 0 (are.ascending i j 0 l hj) (are.within j hj));
  below = λ k h. let hk : k < length places = omega (arith, h, are.long) in omega (arith, are.classes_are k hk, listed.below (get_or places k 0) (are.within k hk));
  within = are.groups_within;
}

-- ---- all classes in one group

pub whole_partition : (n : ℕ) {p : Partition} → p.classes.items ≡ range_with_len 0 n → p.groups.group_of.items ≡ replicate n 0 → p.groups.count ≡ 1 → IsPartition n (λ _ _. Unit {0}) p
whole_partition n {p} classes groups count =
    let long : length p.classes.items ≡ n = ap length classes ∙ length-range_with_len 0 n in
    let groups_long : length p.groups.group_of.items ≡ n = ap length groups ∙ length-replicate {A = ℕ} n 0 in
    let group : (k : ℕ) → k < n → get_or p.groups.group_of.items k 0 ≡ 0 = λ k h. ap (λ (xs : List ℕ). get_or xs k 0) groups ∙ get_or-replicate {A = ℕ} n k 0 0 h in
    let at : (k : ℕ) → k < n → get_or p.classes.items k 0 ≡ k = λ k h. ap (λ (xs : List ℕ). get_or xs k 0) classes ∙ (get_or-range_with_len 0 n k 0 h ∙ omega arith) in
    let listed : IsListed n p = record {
      one_each = groups_long ∙ sym long;
      ascending = subst (λ (xs : List ℕ). AllPairs (λ (low high : ℕ). low < high) xs) (sym classes) (range_ascends n);
      below = λ k h. let hk : k < n = omega (arith, h, long) in omega (arith, at k hk, hk);
      within = λ k h. let hk : k < n = omega (arith, h, groups_long) in omega (arith, group k hk, count);
    } in
    partition_by listed (λ _ _. Unit {0}) (λ class. tt)
    (λ low high hl hh ne both. record {
      low_at = low;
      high_at = high;
      low_within = omega (arith, hl, long);
      high_within = omega (arith, hh, long);
      low_is = at low hl;
      high_is = at high hh;
      same = group low hl ∙ sym (group high hh);
    })
    (λ i j hi hj e. tt)

-- ---- how many pairs are apart

pub apart_is : {n : ℕ} {p : Partition} → IsListed n p → (together : ℕ) → together ≡ pairs_where (length p.groups.group_of.items) (in_one p.groups.group_of.items) → 2 * (together + pairs_between n (are_together p)) + n ≡ n * n
unfolding pairs_between
apart_is {n} {p} listed together is =
    let same : together ≡ pairs_to n (are_together p) =
    is ∙ (ap (λ k. pairs_where k (in_one p.groups.group_of.items)) listed.one_each ∙ (pairs_are (length p.classes.items) (in_one p.groups.group_of.items) ∙ sym (together_placed listed))) in
    let others : pairs_where n (λ low high. not (are_together p low high)) ≡ pairs_to n (λ low high. not (are_together p low high)) = pairs_are n (λ low high. not (are_together p low high)) in
    omega (arith, same, others, pairs_all (are_together p) n)

-- ---- after a cut

-- groups of places by another relation
pub groups_where : {n count : ℕ} {R S : ℕ → ℕ → Type 0} {parts : List ℕ} → AreGroups n R parts count → ((i j : ℕ) → i < n → j < n → S i j → R i j) → ((i j : ℕ) → i < n → j < n → R i j → S i j) → AreGroups n S parts count
groups_where cut into out = record {
  one_each = cut.one_each;
  within = cut.within;
  same = λ i j hi hj s. cut.same i j hi hj (into i j hi hj s);
  together_are = λ i j hi hj e. out i j hi hj (cut.together_are i j hi hj e);
}

-- The groups are cut by a relation of the classes, and the places of those that aren't alone are kept.
module _ {n : ℕ} {p : Partition} (listed : IsListed n p) (alike : ℕ → ℕ → Type 0) (itself : (class : ℕ) → alike class class) (parts : List ℕ) (count : ℕ)
    (cut : AreGroups (length p.classes.items) (λ i j. HaveSameNumber p.groups.group_of.items i j × alike (get_or p.classes.items i 0) (get_or p.classes.items j 0)) parts count)
    (places : List ℕ) (are : places ≡ filter (is_shared parts) (range_with_len 0 (length parts))) where
  place_within : (k : ℕ) → k < length places → get_or places k 0 < length p.classes.items
  place_within k h =
      let below : get_or places k 0 < length parts = subst (λ (xs : List ℕ). (j : ℕ) → j < length xs → get_or xs j 0 < length parts) (sym are) (λ j l. filter_below (is_shared parts) (length parts) j 0 l) k h in
      omega (arith, below, cut.one_each)

  module _ {r : Partition} (long : length r.classes.items ≡ length places) (groups_long : length r.groups.group_of.items ≡ length places)
      (classes_are : (k : ℕ) → k < length places → get_or r.classes.items k 0 ≡ get_or p.classes.items (get_or places k 0) 0)
      (groups_are : (k : ℕ) → k < length places → get_or r.groups.group_of.items k 0 ≡ get_or parts (get_or places k 0) 0) (count_is : r.groups.count ≡ count) where
    picked : ArePicked p r places
    picked = record {
      ascending = subst (λ (xs : List ℕ). AllPairs (λ (low high : ℕ). low < high) xs) (sym are) (filter_ascends (is_shared parts) (length parts));
      within = place_within;
      long = long;
      groups_long = groups_long;
      classes_are = classes_are;
      groups_within = λ k h.
          let hk : k < length places = omega (arith, h, groups_long) in
          omega (arith, groups_are k hk, count_is, cut.within (get_or places k 0) (omega (arith, place_within k hk, cut.one_each)));
    }

    pub parted : IsPartition n (λ low high. AreTogether p low high × alike low high) r
    parted = partition_by (picked_listed listed picked) (λ low high. AreTogether p low high × alike low high) (λ class. (refl, itself class))
        (λ low high hl hh ne both.
        let at = placed listed low high ne both.0 in
        let i = at.low_at in
        let j = at.high_at in
        let other : i ≢ j = λ e. ne (sym at.low_is ∙ (ap (λ k. get_or p.classes.items k 0) e ∙ at.high_is)) in
        let hi : i < length parts = omega (arith, at.low_within, cut.one_each) in
        let hj : j < length parts = omega (arith, at.high_within, cut.one_each) in
        let one : get_or parts i 0 ≡ get_or parts j 0 = cut.same i j at.low_within at.high_within (at.same, carried alike (sym at.low_is) (sym at.high_is) both.1) in
        let found : (k : ℕ) → k < length parts → is_shared parts k ≡ true → (m : ℕ) × (m < length places) × (get_or places m 0 ≡ k) = λ k h so.
        at_place places k (subst (λ (xs : List ℕ). Contains xs k) (sym are) (filter-contains (is_shared parts) (length parts) k h so)) in
        let a = found i hi (shared_with parts i j other hi hj one) in
        let b = found j hj (shared_with parts j i (λ e. other (sym e)) hj hi (sym one)) in
        record {
          low_at = a.0;
          high_at = b.0;
          low_within = omega (arith, a.1, long);
          high_within = omega (arith, b.1, long);
          low_is = classes_are a.0 a.1 ∙ (ap (λ k. get_or p.classes.items k 0) a.2 ∙ at.low_is);
          high_is = classes_are b.0 b.1 ∙ (ap (λ k. get_or p.classes.items k 0) b.2 ∙ at.high_is);
          same = groups_are a.0 a.1 ∙ (ap (λ k. get_or parts k 0) a.2 ∙ (one ∙ sym (groups_are b.0 b.1 ∙ ap (λ k. get_or parts k 0) b.2)));
        })
        (λ i j hi hj e.
        let li : i < length places = omega (arith, hi, long) in
        let lj : j < length places = omega (arith, hj, long) in
        let a = get_or places i 0 in
        let b = get_or places j 0 in
        let ha = place_within i li in
        let hb = place_within j lj in
        let both = cut.together_are a b ha hb (sym (groups_are i li) ∙ (e ∙ groups_are j lj)) in (
          ap (group_in p) (classes_are i li) ∙ (group_at listed a ha ∙ (both.0 ∙ (sym (group_at listed b hb) ∙ sym (ap (group_in p) (classes_are j lj))))),
          carried alike (sym (classes_are i li)) (sym (classes_are j lj)) both.1,
        ))

-- by one number of a list
pub cut_at_number : (numbers : List ℕ) (number : ℕ) (p : Partition) (own : List ℕ) → length own ≡ length p.classes.items → ((k : ℕ) → k < length p.classes.items → get_or own k 0 ≡ get_or numbers (get_or p.classes.items k 0) 0)
    → (parts : List ℕ) (count : ℕ) → AreGroups (length own) (InBothAt p.groups.group_of.items own number) parts count
    → AreGroups (length p.classes.items) (λ i j. HaveSameNumber p.groups.group_of.items i j × HaveOrLackNumber numbers number (get_or p.classes.items i 0) (get_or p.classes.items j 0)) parts count
cut_at_number numbers number p own long own_are parts count cut =
    let one : AreGroups (length p.classes.items) (InBothAt p.groups.group_of.items own number) parts count = subst (λ n. AreGroups n (InBothAt p.groups.group_of.items own number) parts count) long cut in
    let is : (k : ℕ) → k < length p.classes.items → eqb (get_or own k 0) number ≡ eqb (get_or numbers (get_or p.classes.items k 0) 0) number = λ k h. ap (λ m. eqb m number) (own_are k h) in
    groups_where one (λ i j hi hj s. (s.0, is i hi ∙ (s.1 ∙ sym (is j hj)))) (λ i j hi hj s. (s.0, sym (is i hi) ∙ (s.1 ∙ is j hj)))

-- by keys
pub cut_by_keys : (key : ℕ → ℕ) (p : Partition) (keys : List ℕ) → AreKeysOf key p.classes.items keys → (parts : List ℕ) (count : ℕ) → AreGroups (length keys) (InBoth p.groups.group_of.items keys) parts count
    → AreGroups (length p.classes.items) (λ i j. HaveSameNumber p.groups.group_of.items i j × (key (get_or p.classes.items i 0) ≡ key (get_or p.classes.items j 0))) parts count
cut_by_keys key p keys of parts count cut =
    let one : AreGroups (length p.classes.items) (InBoth p.groups.group_of.items keys) parts count = subst (λ n. AreGroups n (InBoth p.groups.group_of.items keys) parts count) of.one_each cut in
    groups_where one (λ i j hi hj s. (s.0, of.each i hi ∙ (s.1 ∙ sym (of.each j hj)))) (λ i j hi hj s. (s.0, sym (of.each i hi) ∙ (s.1 ∙ of.each j hj)))
