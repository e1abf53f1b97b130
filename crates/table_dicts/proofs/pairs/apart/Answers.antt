use Rattle.std.proofs.Common.{◌≡◌, ◌∙◌, ◌<◌, ◌+◌, ◌-◌, ℕ, List, length, get_or, set, replicate, sym, ap, refl, arith}
use Rattle.std.proofs.lemmas.List.{length-replicate, get_or-replicate, length-set, with_items_is}
use Rattle.net_model.specs.ClassTable.{class_count, representative}
use Rattle.dict_rows.specs.Dictionary.{entry_of}
use Rattle.table_dicts.proofs.ApartLemmas.{alike_to, apart_to, apart_all, apart_more, alike_within, group_known, counted, alike_after}
use Rattle.table_dicts.proofs.pairs.apart.Goals as goal
use Rattle.table_dicts.proofs.pairs.apart.Goals.{After-as_mut_slice}

pub loop-class-init : goal.loop-class-init
loop-class-init c =
    let count : c.rows.result ≡ length c.args.dict.now.entries = c.rows.ensures in
    let made : c.in_ok-alike.alike.items ≡ replicate {A = ℕ} c.rows.result 0 = c.in_ok-alike.ensures.items_if_clones_equal (λ y e. e) in
    record {
      places = ap length made ∙ (length-replicate c.rows.result 0 ∙ count);
      alike = λ group h. ap (λ (xs : List ℕ). get_or xs group 0) made ∙ get_or-replicate c.rows.result group 0 0 (omega (arith, h, count));
      count = refl;
      bound = omega arith;
    }

-- The class, its group, and how many of the classes before it are in that group.
module _ (c : After-as_mut_slice) where
  inside : c.loop-class.class < class_count c.args.classes.now
  inside = omega (arith, c.count-class-end.ensures.value)

  abbrev group : ℕ
  group = get_or c.args.dict.now.groups (representative c.args.classes.now c.loop-class.class) 0

  known : group < length c.args.dict.now.entries
  known =
      let d = c.args.dict.now in
      group_known c.args.classes.now c.count-class-end.ensures.whole d.numbers d.groups d.entries c.requires.grouped c.requires.numbers c.loop-class.class inside c.loop-class.class inside

  named : get_or c.as_slice-groups.result.now c.representative.result 0 ≡ group
  named = λ i. get_or (c.as_slice-groups.ensures i) (c.representative.ensures.value i) 0

  before : get_or c.as_mut_slice.result.now (get_or c.as_slice-groups.result.now c.representative.result 0) 0 ≡ alike_to c.args.classes.now c.args.dict.now.groups c.loop-class.class group
  before = (λ i. get_or (c.as_mut_slice.ensures.value i) (named i) 0) ∙ c.loop-class.invariant.alike group known

pub count_one-before-requires-clause-group : goal.count_one-before-requires-clause-group
count_one-before-requires-clause-group c =
    let at = (goal.at.count_one-before-requires-clause-group c).After-as_mut_slice in
    omega (arith, named at, known at, c.loop-class.invariant.places, ap length c.as_mut_slice.ensures.value)

pub count_one-before-requires-clause-few : goal.count_one-before-requires-clause-few
count_one-before-requires-clause-few c =
    let at = (goal.at.count_one-before-requires-clause-few c).After-as_mut_slice in
    omega (arith, before at, alike_within c.args.classes.now c.args.dict.now.groups c.loop-class.class (group at), c.count-class-end.type_inv)

pub overflow_sub-class : goal.overflow_sub-class
overflow_sub-class c =
    let at = (goal.at.overflow_sub-class c).After-as_mut_slice in
    omega (arith, c.count_one-before.ensures.before, before at, alike_within c.args.classes.now c.args.dict.now.groups c.loop-class.class (group at))

pub loop-class-preserved : goal.loop-class-preserved
loop-class-preserved c =
    let at = (goal.at.loop-class-preserved c).After-as_mut_slice in
    let t = c.args.classes.now in
    let d = c.args.dict.now in
    let class = c.loop-class.class in
    let whole = c.count-class-end.ensures.whole in
    let is = c.requires.grouped in
    let so_far = c.loop-class.invariant in
    let alike = c.loop-class.alike.items in
    let new = c.count_one-before.new.sizes in
    let one_more : new ≡ set alike (group at) (get_or alike (group at) 0 + 1) =
    c.count_one-before.ensures.counted ∙ (λ i. set (c.as_mut_slice.ensures.value i) (named at i) (get_or (c.as_mut_slice.ensures.value i) (named at i) 0 + 1)) in
    let added : c.from-count.result ≡ class - alike_to t d.groups class (group at) = c.from-count.ensures ∙ ap (λ n. class - n) (c.count_one-before.ensures.before ∙ before at) in
    let pairs = counted t whole d.numbers d.groups d.entries is c.requires.numbers class (inside at) in
    let after = alike_after t whole d.numbers d.groups d.entries is c.requires.numbers class (inside at) alike (get_or alike (group at) 0 + 1) so_far.places so_far.alike refl in
    let held = with_items_is c.loop-class.alike new (omega (arith, c.count_one-before.auto.sizes, c.as_mut_slice.ensures.len)) in
    rw held (record {
      places = ap length one_more ∙ (length-set alike (group at) (get_or alike (group at) 0 + 1) ∙ so_far.places);
      alike = λ k h. ap (λ (xs : List ℕ). get_or xs k 0) one_more ∙ after k h;
      count = (λ i. so_far.count i + (added ∙ pairs) i) ∙ sym (apart_more t (entry_of d) class);
      bound = omega (arith, so_far.bound, added, c.count-class-end.type_inv);
    })

pub returns : goal.returns
returns c =
    let all : c.loop-class.class ≡ class_count c.args.classes.now = omega (arith, c.count-class-end.ensures.value) in
    c.loop-class.invariant.count ∙ (ap (apart_to c.args.classes.now (entry_of c.args.dict.now)) all ∙ apart_all c.args.classes.now (entry_of c.args.dict.now))
