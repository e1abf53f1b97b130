use Rattle.std.proofs.Common.{◌≡◌, ◌∙◌, ◌<◌, ◌++◌, ◌∷◌, [], ℕ, List, length, get_or, map, sym, ap, arith}
use Rattle.std.specs.List.{range_with_len}
use Rattle.std.proofs.lemmas.List.FromFn.{map-range_with_len_more, length-map-range_with_len, get_or-map-range_with_len}
use Rattle.net_model.specs.ClassTable.{class_count, representative}
use Rattle.class_refine.proofs.Refined.{representative-member}
use Rattle.table_dicts.proofs.by_class.representatives.Goals as goal

pub loop-class-preserved : goal.loop-class-preserved
loop-class-preserved c =
    let lowest = representative c.args.classes.now in
    let class = c.loop-class.class in
    let pushed : c.push.new.self.items ≡ map lowest (range_with_len 0 class) ++ lowest class ∷ [] = c.in_ok-push.ensures.items ∙ (λ i. c.loop-class.invariant i ++ c.representative.ensures.value i ∷ []) in
    pushed ∙ sym (map-range_with_len_more lowest 0 class class (omega arith))

pub returns-clause-lowest : goal.returns-clause-lowest
returns-clause-lowest c =
    let all : c.loop-class.class ≡ class_count c.args.classes.now = omega (arith, c.count-count.ensures.value) in
    c.loop-class.invariant ∙ ap (λ n. map (representative c.args.classes.now) (range_with_len 0 n)) all

pub returns-clause-within : goal.returns-clause-within
returns-clause-within c = λ k d h.
    let t = c.args.classes.now in
    let lowest = representative t in
    let items = c.loop-class.invariant in
    let long : length c.loop-class.lowest.items ≡ c.loop-class.class = ap length items ∙ length-map-range_with_len lowest 0 c.loop-class.class in
    let below : k < class_count t = omega (arith, h, long, c.count-count.ensures.value) in
    let is : get_or c.loop-class.lowest.items k d ≡ lowest k = ap (λ (ns : List ℕ). get_or ns k d) items ∙ get_or-map-range_with_len lowest 0 c.loop-class.class k k d (omega (arith, h, long)) (omega arith) in
    omega (arith, is, (representative-member t c.count-count.ensures.whole k below).0)

pub returns-clause-few : goal.returns-clause-few
returns-clause-few c =
    omega (arith, ap length c.loop-class.invariant, length-map-range_with_len (representative c.args.classes.now) 0 c.loop-class.class, c.count-count.type_inv)
