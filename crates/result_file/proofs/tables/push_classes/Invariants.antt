use Rattle.std.proofs.Common.{◌≡◌, ◌++◌, take}
use Rattle.std.specs.String.{string_bytes}
use Rattle.result_records.specs.Spelling.{text_of}
use Rattle.result_file.specs.Meaning.{class_records}
use Rattle.result_file.proofs.tables.push_classes.Given as goal

abbrev pub invariant-loop-class : goal.invariant-loop-class
invariant-loop-class l = string_bytes l.text ≡ string_bytes l.initial.text ++ text_of (take l.class (class_records l.classes.births))
