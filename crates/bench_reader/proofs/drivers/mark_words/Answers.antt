use Rattle.std.proofs.Common.{◌∙◌, ◌<◌, false, length, get_or, refl, sym, ap, arith}
use Rattle.std.proofs.lemmas.List.{get_or-replicate}
use Rattle.std.proofs.lemmas.List.Elements.{All-get_or}
use Rattle.bench_reader.specs.declared.statement.Word.{Word}
use Rattle.bench_reader.proofs.NumberLemmas.{repeated_is, repeated_none}
use Rattle.bench_reader.proofs.drivers.mark_words.Goals as goal

-- a word that is in no text
abbrev nowhere : Word
nowhere = record { name = 0; place = record { byte = 0; line = 0 } }

pub returns-then-marks-word-clause-repeated : goal.returns-then-marks-word-clause-repeated
returns-then-marks-word-clause-repeated c =
    let words = c.args.words.now in
    let i = c.loop-word.word-index in
    let below : (get_or words i nowhere).name < length c.args.marks.now = All-get_or (λ (word : Word). word.name < length c.args.marks.now) words i nowhere c.loop-word-test.true c.requires.numbered in
    let again = sym (c.loop-word.invariant.marked.each (get_or words i nowhere).name below) ∙ c.if-marks-word.true in
    sym (repeated_is words nowhere i c.loop-word-test.true (λ k lt. c.loop-word.invariant.fresh k nowhere lt) again)

pub returns-clause-repeated : goal.returns-clause-repeated
returns-clause-repeated c = sym (repeated_none c.args.words.now nowhere (λ k lt. c.loop-word.invariant.fresh k nowhere (omega (arith, lt, c.loop-word-test.false))))

pub loop-word-init : goal.loop-word-init
loop-word-init c =
    let marks = c.args.marks.now in
    record {
      marked = record { whole = refl; each = λ number h. ap (λ xs. get_or xs number false) c.requires.clear ∙ get_or-replicate (length marks) number false false h };
      fresh = λ k d h. absurd (omega (arith, h));
    }
