use Rattle.std.specs.Prelude.{◌≡◌, take}
use Rattle.std.specs.String.{string_bytes}
use Rattle.dict_rows.specs.Entries.{answers_of}
use Rattle.diagnose.specs.Lines.{lines_from}
use Rattle.diagnose.specs.LogText.{log_line}
use Rattle.suspect_scores.proofs.expecting.log_text.Given as goal

abbrev pub invariant-loop-pattern : goal.invariant-loop-pattern
invariant-loop-pattern l = string_bytes l.text ≡ lines_from log_line 0 (take l.pattern (answers_of l.free.rows 0))
