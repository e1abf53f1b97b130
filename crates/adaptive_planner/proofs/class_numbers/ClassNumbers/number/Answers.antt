use Rattle.std.proofs.Common.{◌≡◌, ◌∙◌, ℕ, ◌<◌, List, length, get_or, sym, ap, arith}
use Rattle.std.specs.Prelude.{Bool, Option, find, unwrap_or, ◌==◌, slice_index}
use Rattle.std.proofs.lemmas.Bool.{eq-eqb, ne_eqb}
use Rattle.std.proofs.lemmas.List.{get_or_read}
use Rattle.adaptive_planner.specs.Numbering.{own_numbers, AreOwnNumbers}
use Rattle.adaptive_planner.proofs.FindLemmas.{found_at, none_more}
use Rattle.adaptive_planner.proofs.class_numbers.ClassNumbers.number.Goals as goal

known_in : (patterns : List ℕ) (limit : ℕ) (own other : List ℕ) (k : ℕ) → own ≡ other → AreOwnNumbers patterns limit other → k < length own → get_or own k 0 < length patterns
known_in patterns limit own other k same are low = omega (arith, ap (λ (xs : List ℕ). get_or xs k 0) same, are.known k (omega (arith, low, ap length same)))

pub returns-then-index-pattern-clause-value : goal.returns-then-index-pattern-clause-value
returns-then-index-pattern-clause-value c =
    let patterns = c.args.self.now.patterns.items in
    let own = c.own-own.result.now in
    let k = c.loop-number.number-index in
    let test : ℕ → Bool = λ n. slice_index patterns n == c.args.pattern in
    let low : k < length own = omega arith in
    let known : get_or own k 0 < length patterns = known_in patterns (length c.args.self.now.firsts.items) own (own_numbers c.args.self.now c.args.class) k c.own-own.ensures (c.requires.numbers.own c.args.class c.requires.class) low in
    let read : c.index.result.now ≡ get_or patterns (get_or own k 0) 0 = get_or_read patterns (get_or own k 0) c.index.result.now known c.index.ensures 0 in
    let found = found_at test own k low c.loop-number.invariant (eq-eqb (slice_index patterns (get_or own k 0)) c.args.pattern (sym read ∙ c.if-index-pattern.true)) in
    sym (ap (λ (o : Option ℕ). unwrap_or o 0) found) ∙ ap (λ (xs : List ℕ). unwrap_or (find test xs) 0) c.own-own.ensures

pub loop-number-preserved : goal.loop-number-preserved
loop-number-preserved c =
    let patterns = c.args.self.now.patterns.items in
    let own = c.own-own.result.now in
    let k = c.loop-number.number-index in
    let test : ℕ → Bool = λ n. slice_index patterns n == c.args.pattern in
    let low : k < length own = omega arith in
    let known : get_or own k 0 < length patterns = known_in patterns (length c.args.self.now.firsts.items) own (own_numbers c.args.self.now c.args.class) k c.own-own.ensures (c.requires.numbers.own c.args.class c.requires.class) low in
    let read : c.index.result.now ≡ get_or patterns (get_or own k 0) 0 = get_or_read patterns (get_or own k 0) c.index.result.now known c.index.ensures 0 in
    none_more test own k low c.loop-number.invariant (ne_eqb (slice_index patterns (get_or own k 0)) c.args.pattern (λ e. c.if-index-pattern.false (read ∙ e)))
