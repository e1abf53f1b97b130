use Rattle.std.proofs.Common.{◌≡◌, ◌∙◌, ◌*◌, ◌+◌, ◌-◌, ◌<◌, ◌^◌, ℕ, List, length, get_or, map, ap, sym, arith}
use Rattle.std.specs.Prelude.{count_by, filter, ◌==◌}
use Rattle.std.proofs.lemmas.List.{get_or_read}
use Rattle.adaptive_planner.specs.Numbering.{class_number}
use Rattle.adaptive_planner.specs.Counting.{unequal_pairs, not_first}
use Rattle.adaptive_planner.proofs.PairLemmas.{pairs_split, zeros_and_others, few_pairs}
use Rattle.adaptive_planner.proofs.CountLemmas.{pattern_numbers-set, length-numbers, square_fits}
use Rattle.adaptive_planner.proofs.counting.AnswerCounts.parted.Goals as goal
use Rattle.adaptive_planner.proofs.counting.AnswerCounts.parted.Goals.{After-from-others}

-- the numbers of the set
abbrev own : After-from-others → List ℕ
own c = map (class_number c.args.numbers.now c.args.pattern) c.args.set.now

others_are : (c : After-from-others) → c.from-others.result ≡ count_by not_first (own c)
others_are c =
    let counted = c.requires.counted in
    let low : c.args.pattern < length c.args.self.now.others.items = omega (arith, counted.room.others, c.requires.pattern) in
    c.from-others.ensures
    ∙ (get_or_read c.args.self.now.others.items c.args.pattern c.index.result.now low c.index.ensures 0
    ∙ (counted.counted.others_is c.args.pattern c.requires.pattern ∙ ap (count_by not_first) (pattern_numbers-set c.args.numbers.now c.args.pattern c.args.set.now)))

many : (c : After-from-others) → length (own c) ≡ length c.args.set.now
many c = length-numbers c.args.numbers.now c.args.pattern c.args.set.now

pub overflow_sub-result : goal.overflow_sub-result
overflow_sub-result c = let e = others_are c in omega (arith, e, many c, zeros_and_others (own c))

apart_is : (c : After-from-others) (x : ℕ) → x ≡ get_or c.args.self.now.apart.items c.args.pattern x → x ≡ unequal_pairs (filter not_first (own c))
apart_is c x e =
    let counted = c.requires.counted in
    let low : c.args.pattern < length c.args.self.now.apart.items = omega (arith, counted.room.apart, c.requires.pattern) in
    get_or_read c.args.self.now.apart.items c.args.pattern x low e 0
    ∙ (counted.counted.apart_is c.args.pattern c.requires.pattern ∙ ap (λ (ks : List ℕ). unequal_pairs (filter not_first ks)) (pattern_numbers-set c.args.numbers.now c.args.pattern c.args.set.now))

sum_is : (c : After-from-others) (x : ℕ) → x ≡ get_or c.args.self.now.apart.items c.args.pattern x → c.from-others.result * (length c.args.set.now - c.from-others.result) + x ≡ unequal_pairs (own c)
sum_is c x e =
    let others = others_are c in
    let apart = apart_is c x e in
    let zeros : length c.args.set.now - count_by not_first (own c) ≡ count_by (λ n. n == 0) (own c) = omega (arith, many c, zeros_and_others (own c)) in
    (λ i. others i * (length c.args.set.now - others i) + apart i)
    ∙ (ap (λ n. count_by not_first (own c) * n + unequal_pairs (filter not_first (own c))) zeros ∙ sym (pairs_split (own c)))

pub overflow_add-result : goal.overflow_add-result
overflow_add-result c =
    let d = (goal.at.overflow_add-result c).After-from-others in
    let sum = sum_is d c.index-2.result.now c.index-2.ensures in
    let fits : unequal_pairs (own d) < 2 ^ 64 = square_fits (length (own d)) (unequal_pairs (own d)) (few_pairs (own d)) (omega (arith, many d, c.requires.few)) in
    omega (arith, sum, fits)

pub returns : goal.returns
returns c = sum_is ((goal.at.returns c).After-from-others) c.index-2.result.now c.index-2.ensures
