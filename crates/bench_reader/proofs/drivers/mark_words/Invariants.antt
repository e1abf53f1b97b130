use Rattle.std.proofs.Common.{◌≡◌, ℕ, ◌<◌, false, length, get_or, take}
use Rattle.bench_reader.specs.declared.statement.Word.{Word}
use Rattle.bench_reader.specs.Drivers.{has_number, AreMarksOfWords}
use Rattle.bench_reader.proofs.drivers.mark_words.Given as goal

abbrev pub invariant-loop-word : goal.invariant-loop-word
invariant-loop-word l = record {
  marked : AreMarksOfWords (length l.fn.marks) (take l.word-index l.words) l.marks;
  fresh : (k : ℕ) (d : Word) → k < l.word-index → has_number (take k l.words) (get_or l.words k d).name ≡ false;
}
