use Rattle.std.proofs.Common.{◌≡◌, ◌∙◌, true, false, refl, sym}
use Rattle.std.specs.Prelude.{codes}
use Rattle.bench_reader.specs.Grammar.{observed_phrase, is_word}
use Rattle.bench_reader.proofs.word.port_of.Goals as goal

pub returns-then-same_word : goal.returns-then-same_word
unfolding observed_phrase
returns-then-same_word c = λ n.
    let t1 : is_word (codes "INPUT") c.args.word.now ≡ true = rw c.as_slice.ensures at (sym c.same_word.ensures ∙ c.if-same_word.true) in
    rw t1 refl

pub returns-then-same_word-2 : goal.returns-then-same_word-2
unfolding observed_phrase
returns-then-same_word-2 c = λ n.
    let t1 : is_word (codes "INPUT") c.args.word.now ≡ false = rw c.as_slice.ensures at (sym c.same_word.ensures ∙ c.if-same_word.false) in
    let t2 : is_word (codes "OUTPUT") c.args.word.now ≡ true = rw c.as_slice-2.ensures at (sym c.same_word-2.ensures ∙ c.if-same_word-2.true) in
    rw (t1, t2) refl

pub returns : goal.returns
unfolding observed_phrase
returns c = λ n.
    let t1 : is_word (codes "INPUT") c.args.word.now ≡ false = rw c.as_slice.ensures at (sym c.same_word.ensures ∙ c.if-same_word.false) in
    let t2 : is_word (codes "OUTPUT") c.args.word.now ≡ false = rw c.as_slice-2.ensures at (sym c.same_word-2.ensures ∙ c.if-same_word-2.false) in
    rw (t1, t2) refl
