use Rattle.std.proofs.Common.{◌≡◌, ℕ, ◌<◌, length, get_or}
use Rattle.answer_numbers.specs.AnswerNumbers.{IsAnswerNumber}
use Rattle.samediff_dict.proofs.numbering.candidates_in.Given as goal

abbrev pub invariant-loop-place : goal.invariant-loop-place
invariant-loop-place l = record {
  count : length l.own ≡ l.place;
  each : (place d : ℕ) → place < l.place → IsAnswerNumber l.numbers l.lane place (get_or l.own place d);
}
