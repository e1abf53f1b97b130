use Rattle.std.proofs.Common.{◌*◌, ◌-◌, arith}
use Rattle.net_model.proofs.RowLemmas.{place_in}
use Rattle.net_model.proofs.WordLemmas.{HasLowBits, is_word_set, are_words-word}
use Rattle.net_model.proofs.rows.AnswerRows.set_word.Goals as goal

pub overflow_mul-place : goal.overflow_mul-place
overflow_mul-place c = omega (arith, (place_in _ _ _ c.self.inside.words.items _ _ _ c.self.invariant c.self.view_is c.requires.row c.requires.word).within, c.self.inside.words.ok.0, c.self.inside.words.small)

pub overflow_add-place : goal.overflow_add-place
overflow_add-place c = omega (arith, (place_in _ _ _ c.self.inside.words.items _ _ _ c.self.invariant c.self.view_is c.requires.row c.requires.word).within, c.self.inside.words.ok.0, c.self.inside.words.small)

pub overflow_mul-word : goal.overflow_mul-word
overflow_mul-word c = omega (arith, (place_in _ _ _ c.self.inside.words.items _ _ _ c.self.invariant c.self.view_is c.requires.row c.requires.word).at_in, c.self.ranges)

pub overflow_sub-self-inside : goal.overflow_sub-self-inside
overflow_sub-self-inside c = omega (arith, (place_in _ _ _ c.self.inside.words.items _ _ _ c.self.invariant c.self.view_is c.requires.row c.requires.word).at_in)

pub index_mut-requires : goal.index_mut-requires
index_mut-requires c = omega (arith, (place_in _ _ _ c.self.inside.words.items _ _ _ c.self.invariant c.self.view_is c.requires.row c.requires.word).within, c.self.inside.words.ok.0)

low_bits : (c : goal.After-self-1) → HasLowBits (c.self.inside.width - c.args.word * 64) c.args.bits c.low_bits.result
low_bits c = record { fits = c.low_bits.type_inv; low = c.low_bits.ensures }

pub invariant_of-self : goal.invariant_of-self
invariant_of-self c =
    let i = c.self.inside in
    let p = place_in _ _ _ i.words.items _ _ _ c.self.invariant c.self.view_is c.requires.row c.requires.word in
    are_words-word i.stride i.width i.rows i.words.items c.args.row c.args.word c.args.bits c.low_bits.result c.self.invariant p (low_bits c)

pub returns : goal.returns
returns c =
    let i = c.self.inside in
    let p = place_in _ _ _ i.words.items _ _ _ c.self.invariant c.self.view_is c.requires.row c.requires.word in
    rw (← c.self.view_is) (is_word_set i.stride i.width i.rows i.words.items c.args.row c.args.word c.args.bits c.low_bits.result c.self.invariant p (low_bits c))
