use Rattle.std.proofs.Common.{◌≡◌, ◌∙◌, ℕ, ◌+◌, ◌-◌, ◌<◌, ◌≤◌, ◌^◌, List, [], ◌∷◌, ◌++◌, length, get_or, set, take, sym, ap, subst, arith}
use Rattle.std.specs.Prelude.{slice_index, find, None, ◌==◌}
use Rattle.std.proofs.lemmas.List.{get_or_read, length-set, take_more}
use Rattle.adaptive_planner.specs.Numbering.{AreOwnNumbers}
use Rattle.adaptive_planner.specs.Counting.{AreListsCounted, set_lists}
use Rattle.adaptive_planner.proofs.CountLemmas.{fewer_often, few_others, few_apart, counted_more_by, few_lists, own_are}
use Rattle.adaptive_planner.proofs.counting.AnswerCounts.add.Goals as goal
use Rattle.adaptive_planner.proofs.counting.AnswerCounts.add.Goals.{After-index-others}

abbrev patterns : After-index-others → List ℕ
patterns c = c.args.numbers.now.patterns.items

abbrev limit : After-index-others → ℕ
limit c = length c.args.numbers.now.firsts.items

abbrev own : After-index-others → List ℕ
own c = c.own-own.result.now

abbrev at : After-index-others → ℕ
at c = c.loop-number.number-index

abbrev number : After-index-others → ℕ
number c = get_or (own c) (at c) 0

abbrev lists : After-index-others → List (List ℕ)
lists c = set_lists c.args.numbers.now (take c.args.at c.args.set.now)

low : (c : After-index-others) → at c < length (own c)
low c = omega arith

are : (c : After-index-others) → AreOwnNumbers (patterns c) (limit c) (own c)
are c = own_are c.args.numbers.now c.args.set.now c.args.at (own c) c.requires.numbers c.requires.set c.requires.at c.own-own.ensures

few : (c : After-index-others) → length (lists c) + 1 < 2 ^ 32
few c = few_lists c.args.numbers.now c.args.set.now c.args.at c.requires.at c.requires.few

pattern_is : (c : After-index-others) → c.index.result.now ≡ get_or (patterns c) (number c) 0
pattern_is c = get_or_read (patterns c) (number c) c.index.result.now ((are c).known (at c) (low c)) c.index.ensures 0

often_is : (c : After-index-others) → c.index-often.result.now ≡ get_or c.loop-number.self.often.items (number c) 0
often_is c = get_or_read c.loop-number.self.often.items (number c) c.index-often.result.now (omega (arith, (are c).known (at c) (low c), c.loop-number.invariant.room.often)) c.index-often.ensures 0

others_is : (c : After-index-others) → c.index-others.result.now ≡ get_or c.loop-number.self.others.items (get_or (patterns c) (number c) 0) 0
others_is c =
    get_or_read c.loop-number.self.others.items c.index.result.now c.index-others.result.now (omega (arith, pattern_is c, (are c).within (at c) (low c), c.loop-number.invariant.room.others)) c.index-others.ensures 0
    ∙ ap (λ (p : ℕ). get_or c.loop-number.self.others.items p 0) (pattern_is c)

abbrev some : (c : After-index-others) → 0 < number c
some c = (are c).some (at c) (low c)

abbrev known : (c : After-index-others) → number c < length (patterns c)
known c = (are c).known (at c) (low c)

abbrev within : (c : After-index-others) → get_or (patterns c) (number c) 0 < limit c
within c = (are c).within (at c) (low c)

abbrev once : (c : After-index-others) → find (λ n. slice_index (patterns c) n == slice_index (patterns c) (number c)) (take (at c) (own c)) ≡ None
once c = (are c).once (at c) (low c)

module _ (c : After-index-others) where
  abbrev often : List ℕ
  often = c.loop-number.self.often.items

  abbrev others : List ℕ
  others = c.loop-number.self.others.items

  abbrev apart : List ℕ
  apart = c.loop-number.self.apart.items

  fewer : c.index-often.result.now ≤ c.index-others.result.now
  fewer = omega (arith, often_is c, others_is c, fewer_often (patterns c) (limit c) (lists c) (take (at c) (own c)) (number c) (some c) (known c) (once c) often others apart (few c) (within c) c.loop-number.invariant.counted)

  small : c.index-others.result.now + 1 < 2 ^ 32
  small = omega (arith, others_is c, few_others (patterns c) (limit c) (lists c) (take (at c) (own c)) (number c) (some c) (known c) (once c) often others apart (few c) (within c) c.loop-number.invariant.counted)

  apart_is : (x : ℕ) → x ≡ get_or apart c.index.result.now x → x ≡ get_or apart (get_or (patterns c) (number c) 0) 0
  apart_is x e =
      get_or_read apart c.index.result.now x (omega (arith, pattern_is c, within c, c.loop-number.invariant.room.apart)) e 0
      ∙ ap (λ (p : ℕ). get_or apart p 0) (pattern_is c)

  fits : (x d : ℕ) → x ≡ get_or apart c.index.result.now x → d ≡ c.index-others.result.now - c.index-often.result.now → x + d < 2 ^ 64
  fits x d e f =
      omega (
        arith,
        apart_is x e,
        f,
        often_is c,
        others_is c,
        few_apart (patterns c) (limit c) (lists c) (take (at c) (own c)) (number c) (some c) (known c) (once c) often others apart (few c) (within c) c.loop-number.invariant.counted,
      )

  counted : (x d : ℕ) → x ≡ get_or apart c.index.result.now x → d ≡ c.index-others.result.now - c.index-often.result.now
      → AreListsCounted (patterns c) (limit c) (lists c ++ take (at c + 1) (own c) ∷ []) (set often (number c) (c.index-often.result.now + 1)) (set others c.index.result.now (c.index-others.result.now + 1)) (set apart c.index.result.now (x + d))
  counted x d e f =
      subst (λ (list : List ℕ). AreListsCounted (patterns c) (limit c) (lists c ++ list ∷ []) (set often (number c) (c.index-often.result.now + 1)) (set others c.index.result.now (c.index-others.result.now + 1)) (set apart c.index.result.now (x + d)))
      (sym (take_more (own c) (at c) 0 (low c)))
      (counted_more_by (patterns c) (limit c) (lists c) (take (at c) (own c)) (number c) (some c) (known c) (once c) often others apart (few c) (within c) c.loop-number.invariant.counted
      c.index.result.now c.index-often.result.now c.index-others.result.now (x + d) (pattern_is c) (often_is c) (others_is c) (λ i. apart_is x e i + f i)
      (omega (arith, known c, c.loop-number.invariant.room.often)) (omega (arith, within c, c.loop-number.invariant.room.others)) (omega (arith, within c, c.loop-number.invariant.room.apart)))

pub overflow_sub-others : goal.overflow_sub-others
overflow_sub-others c = fewer ((goal.at.overflow_sub-others c).After-index-others)

pub overflow_add-index_mut : goal.overflow_add-index_mut
overflow_add-index_mut c = let low = fits ((goal.at.overflow_add-index_mut c).After-index-others) c.index_mut.result.now c.from.result c.index_mut.ensures.value c.from.ensures in omega (arith, low)

pub overflow_add-others : goal.overflow_add-others
overflow_add-others c = let low = small ((goal.at.overflow_add-others c).After-index-others) in omega (arith, low)

pub overflow_add-often : goal.overflow_add-often
overflow_add-often c = let d = (goal.at.overflow_add-often c).After-index-others in let low = small d in let less = fewer d in omega (arith, low, less)

pub loop-number-preserved : goal.loop-number-preserved
loop-number-preserved c =
    let d = (goal.at.loop-number-preserved c).After-index-others in
    let room = c.loop-number.invariant.room in
    record {
      room = record {
        often = length-set c.loop-number.self.often.items (number d) (c.index-often.result.now + 1) ∙ room.often;
        others = length-set c.loop-number.self.others.items c.index.result.now (c.index-others.result.now + 1) ∙ room.others;
        apart = length-set c.loop-number.self.apart.items c.index.result.now (c.index_mut.result.now + c.from.result) ∙ room.apart;
      };
      counted = counted d c.index_mut.result.now c.from.result c.index_mut.ensures.value c.from.ensures;
    }
