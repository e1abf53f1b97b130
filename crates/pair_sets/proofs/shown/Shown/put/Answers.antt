use mir.Val.{bool_byte}
use Rattle.std.proofs.Common.{◌<◌, ◌+◌, ◌-◌, ◌∙◌, length, set, sym, ap, arith, not}
use Rattle.std.proofs.lemmas.List.Sums.{count_by-le-length}
use Rattle.pair_sets.specs.PairSet.{only_equal, only_unequal}
use Rattle.pair_sets.proofs.Bytes.{byte_one, counted_less, counted_set}
use Rattle.pair_sets.proofs.shown.Shown.put.Goals as goal

pub overflow_add-self : goal.overflow_add-self
overflow_add-self c =
    let pairs = c.self.inside.pairs in
    omega (arith, c.self.invariant.unlike, count_by-le-length (λ s. not (only_equal s)) pairs.items, pairs.ok.0, pairs.ok.1, pairs.small, c.from-3.ensures, byte_one (not c.only_equal-2.result))

pub overflow_add-self-2 : goal.overflow_add-self-2
overflow_add-self-2 c =
    let pairs = c.self.inside.pairs in
    omega (arith, c.self.invariant.apart, count_by-le-length only_unequal pairs.items, pairs.ok.0, pairs.ok.1, pairs.small, c.from-4.ensures, byte_one c.only_unequal-2.result)

pub overflow_sub-self : goal.overflow_sub-self
overflow_sub-self c =
    let pairs = c.self.inside.pairs.items in
    let was = c.index-was.result.now in
    let inside : c.args.place < length pairs = omega (arith, ap length c.self.view_is, c.requires) in
    let counted = counted_less (λ s. not (only_equal s)) pairs c.args.place was inside c.index-was.ensures (c.from.ensures ∙ ap (λ b. bool_byte (not b)) c.only_equal.ensures) in
    omega (arith, c.self.invariant.unlike, counted)

pub overflow_sub-self-2 : goal.overflow_sub-self-2
overflow_sub-self-2 c =
    let pairs = c.self.inside.pairs.items in
    let was = c.index-was.result.now in
    let inside : c.args.place < length pairs = omega (arith, ap length c.self.view_is, c.requires) in
    let counted = counted_less only_unequal pairs c.args.place was inside c.index-was.ensures (c.from-2.ensures ∙ ap bool_byte c.only_unequal.ensures) in
    omega (arith, c.self.invariant.apart, counted)

pub index-was-requires : goal.index-was-requires
index-was-requires c = omega (arith, ap length c.self.view_is, c.requires, c.self.inside.pairs.ok.0)

pub invariant_of-self : goal.invariant_of-self
invariant_of-self c =
    let pairs = c.self.inside.pairs.items in
    let was = c.index-was.result.now in
    let inside : c.args.place < length pairs = omega (arith, ap length c.self.view_is, c.requires) in
    record {
      unlike =
          ap (λ n. n - c.from.result + c.from-3.result) c.self.invariant.unlike
          ∙ sym (counted_set (λ s. not (only_equal s)) pairs c.args.place was inside c.index-was.ensures (c.from.ensures ∙ ap (λ b. bool_byte (not b)) c.only_equal.ensures) c.args.pairs (c.from-3.ensures ∙ ap (λ b. bool_byte (not b)) c.only_equal-2.ensures));
      apart =
          ap (λ n. n - c.from-2.result + c.from-4.result) c.self.invariant.apart
          ∙ sym (counted_set only_unequal pairs c.args.place was inside c.index-was.ensures (c.from-2.ensures ∙ ap bool_byte c.only_unequal.ensures) c.args.pairs (c.from-4.ensures ∙ ap bool_byte c.only_unequal-2.ensures));
    }

pub returns : goal.returns
returns c = ap (λ xs. set xs c.args.place c.args.pairs) c.self.view_is

pub index_mut-requires : goal.index_mut-requires
index_mut-requires c = omega (arith, ap length c.self.view_is, c.requires, c.self.inside.pairs.ok.0)
