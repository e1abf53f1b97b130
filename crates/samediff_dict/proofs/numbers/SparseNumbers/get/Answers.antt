use Rattle.std.proofs.Common.{◌≡◌, ◌∙◌, ℕ, ◌+◌, ◌/◌, ◌%◌, ◌^◌, ◌<◌, count_ones, get_or, length, sym, ap, arith}
use Rattle.std.specs.Int.{bit_at}
use Rattle.std.proofs.lemmas.List.{get_or_read}
use Rattle.std.proofs.lemmas.Nat.Bits.{bit_at-lt, shr_and_one}
use Rattle.samediff_dict.specs.Sparse.{marks_before}
use Rattle.samediff_dict.proofs.SparseLemmas.{list_length, list_number, marked_inside, marked_number, unmarked_number, marks_before_is}
use Rattle.samediff_dict.proofs.numbers.SparseNumbers.get.Goals as goal

one_of : (b x : ℕ) → b < 2 → (x ≡ 0 → ⊥) → x ≡ b → b ≡ 1
one_of b x h ne e = omega arith

pub index-word-requires : goal.index-word-requires
index-word-requires c =
    let a = c.self.inside in
    omega (arith, c.requires, list_length a.marks.items a.before.items a.others.items c.args.self.now a.len c.self.view_is, c.self.invariant.enough, a.marks.ok.0)

pub returns-then-word-bit-eq0 : goal.returns-then-word-bit-eq0
returns-then-word-bit-eq0 c =
    let a = c.self.inside in
    let place = c.args.place in
    let marks = a.marks.items in
    let below : place < a.len = omega (arith, c.requires, list_length marks a.before.items a.others.items c.args.self.now a.len c.self.view_is) in
    let inside : place / 64 < length marks = omega (arith, below, c.self.invariant.enough) in
    let word : c.index-word.result.now ≡ get_or marks (place / 64) 0 = get_or_read marks (place / 64) c.index-word.result.now inside c.index-word.ensures 0 in
    let digit : bit_at (get_or marks (place / 64) 0) (place % 64) ≡ 0 = ap (λ w. bit_at w (place % 64)) (sym word) ∙ sym (shr_and_one c.index-word.result.now (place % 64)) ∙ c.if-word-bit-eq0.true in
    sym (unmarked_number marks a.before.items a.others.items place digit) ∙ sym (list_number marks a.before.items a.others.items c.args.self.now a.len place c.self.view_is below)

pub index-requires : goal.index-requires
index-requires c =
    let a = c.self.inside in
    omega (arith, c.requires, list_length a.marks.items a.before.items a.others.items c.args.self.now a.len c.self.view_is, c.self.invariant.enough, c.self.invariant.counts, a.before.ok.0)

pub index-requires-2 : goal.index-requires-2
index-requires-2 c =
    let a = c.self.inside in
    let place = c.args.place in
    let marks = a.marks.items in
    let before = a.before.items in
    let below : place < a.len = omega (arith, c.requires, list_length marks before a.others.items c.args.self.now a.len c.self.view_is) in
    let inside : place / 64 < length marks = omega (arith, below, c.self.invariant.enough) in
    let word : c.index-word.result.now ≡ get_or marks (place / 64) 0 = get_or_read marks (place / 64) c.index-word.result.now inside c.index-word.ensures 0 in
    let first : c.index.result.now ≡ get_or before (place / 64) 0 = get_or_read before (place / 64) c.index.result.now (omega (arith, inside, c.self.invariant.counts)) c.index.ensures 0 in
    let digit : bit_at (get_or marks (place / 64) 0) (place % 64) ≡ 1 =
    ap (λ w. bit_at w (place % 64)) (sym word) ∙ one_of (bit_at c.index-word.result.now (place % 64)) _ (bit_at-lt c.index-word.result.now (place % 64)) c.if-word-bit-eq0.false (shr_and_one c.index-word.result.now (place % 64)) in
    let ones : c.ones_below.result ≡ count_ones (get_or marks (place / 64) 0 % 2 ^ (place % 64)) = c.ones_below.ensures ∙ ap (λ w. count_ones (w % 2 ^ (place % 64))) word in
    omega (arith, first, ones, marks_before_is marks before place, marked_inside marks before a.others.items a.len place c.self.invariant below digit, a.others.ok.0)

pub returns : goal.returns
returns c =
    let a = c.self.inside in
    let place = c.args.place in
    let marks = a.marks.items in
    let before = a.before.items in
    let others = a.others.items in
    let below : place < a.len = omega (arith, c.requires, list_length marks before others c.args.self.now a.len c.self.view_is) in
    let inside : place / 64 < length marks = omega (arith, below, c.self.invariant.enough) in
    let word : c.index-word.result.now ≡ get_or marks (place / 64) 0 = get_or_read marks (place / 64) c.index-word.result.now inside c.index-word.ensures 0 in
    let first : c.index.result.now ≡ get_or before (place / 64) 0 = get_or_read before (place / 64) c.index.result.now (omega (arith, inside, c.self.invariant.counts)) c.index.ensures 0 in
    let digit : bit_at (get_or marks (place / 64) 0) (place % 64) ≡ 1 =
    ap (λ w. bit_at w (place % 64)) (sym word) ∙ one_of (bit_at c.index-word.result.now (place % 64)) _ (bit_at-lt c.index-word.result.now (place % 64)) c.if-word-bit-eq0.false (shr_and_one c.index-word.result.now (place % 64)) in
    let ones : c.ones_below.result ≡ count_ones (get_or marks (place / 64) 0 % 2 ^ (place % 64)) = c.ones_below.ensures ∙ ap (λ w. count_ones (w % 2 ^ (place % 64))) word in
    let at : c.index.result.now + c.ones_below.result ≡ marks_before marks before place = omega (arith, first, ones, marks_before_is marks before place) in
    let some : c.index.result.now + c.ones_below.result < length others = omega (arith, at, marked_inside marks before others a.len place c.self.invariant below digit) in
    get_or_read others (c.index.result.now + c.ones_below.result) c.index-2.result.now some c.index-2.ensures 0
    ∙ ap (λ k. get_or others k 0) at
    ∙ sym (marked_number marks before others place digit)
    ∙ sym (list_number marks before others c.args.self.now a.len place c.self.view_is below)
