use Rattle.std.proofs.Common.{◌≡◌, ◌<◌, ◌^◌, ℕ, true}
use Rattle.net_model.specs.Rows.{bit_of}
use Rattle.answer_numbers.specs.Trees.{AreGrown}
use Rattle.answer_numbers.proofs.GrownLemmas.{word_done}
use Rattle.answer_numbers.proofs.trees.LaneTrees.step_word.Given as goal

abbrev pub invariant-loop-left : goal.invariant-loop-left
invariant-loop-left l = record {
  small : l.left < 2 ^ 64;
  among : (k : ℕ) → k < 64 → bit_of l.left k ≡ true → bit_of l.word k ≡ true;
  grown : AreGrown l.position (word_done l.first l.word l.left) l.initial.self l.self;
}

abbrev pub decreases-loop-left : goal.decreases-loop-left
decreases-loop-left l = l.left
