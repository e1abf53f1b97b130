use Rattle.dict_file.proofs.LoadLemmas.{IsRowLoading}
use Rattle.dict_file.proofs.row_bytes.load_row.Given as goal

abbrev pub invariant-loop-word : goal.invariant-loop-word
invariant-loop-word l = IsRowLoading l.initial.loaded l.loaded l.row l.word l.bytes l.start
