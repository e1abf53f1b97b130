-- The lines of the console that say why words or a file are refused.
use Rattle.std.specs.Prelude.{ℕ, List, ◌∷◌, ◌++◌, codes, decimal, flat_map, Option, Some, None}
use Rattle.net_model.specs.Ascii.{space}
use Rattle.bench_reader.specs.declared.fault.Place.{Place}
use Rattle.bench_reader.specs.declared.fault.NetKind.{NetKind}
use Rattle.bench_reader.specs.declared.fault.NetKind.TheVariants.{BadByte, Expected, UnknownGate, WrongPins, DrivenTwice, Undriven, TooLong}
use Rattle.evidence_rules.specs.declared.refusal.RefusalKind.{RefusalKind}
use Rattle.evidence_rules.specs.declared.refusal.RefusalKind.TheVariants as why
use Rattle.evidence_rules.specs.declared.refusal.Refusal.{Refusal}
use Rattle.result_file.specs.declared.fault.ResultKind.{ResultKind}
use Rattle.result_file.specs.declared.fault.ResultKind.TheVariants as result
use Rattle.result_file.specs.declared.fault.ResultFault.{ResultFault}
use Rattle.dict_file.specs.declared.fault.DictFault.{DictFault}
use Rattle.dict_file.specs.declared.fault.DictFault.TheVariants as dict
use Rattle.diagnose.specs.declared.fault.LogKind.{LogKind}
use Rattle.diagnose.specs.declared.fault.LogKind.TheVariants as log
use Rattle.adaptive_tree.specs.declared.fault.PlanKind.{PlanKind}
use Rattle.adaptive_tree.specs.declared.fault.PlanKind.TheVariants as plan
use Rattle.text_fields.specs.Fields.{Text}

abbrev pub kind_name : NetKind → Text
kind_name BadByte = codes "BadByte"
kind_name Expected = codes "Expected"
kind_name UnknownGate = codes "UnknownGate"
kind_name WrongPins = codes "WrongPins"
kind_name DrivenTwice = codes "DrivenTwice"
kind_name Undriven = codes "Undriven"
kind_name TooLong = codes "TooLong"

-- The line that says why a netlist's text is refused.
unfoldable pub refusal_text : NetKind → Place → Text
refusal_text kind place = codes "netlist: " ++ (kind_name kind ++ (codes " at byte " ++ (decimal place.byte ++ (codes ", line " ++ (decimal place.line ++ codes "\n")))))

-- The beginning of the line that refuses a loop of gates: where the walk along it begins.
unfoldable pub loop_start : Place → Text
loop_start place = codes "netlist: Loop at byte " ++ (decimal place.byte ++ (codes ", line " ++ (decimal place.line ++ codes ":")))

abbrev pub after_blank : Text → Text
after_blank name = space ∷ name

-- The line that refuses a loop of gates: where the walk along it begins, and the names along it.
unfoldable pub loop_text : Place → List Text → Text
loop_text place names = loop_start place ++ flat_map after_blank names ++ codes "\n"

-- ---- refused results

abbrev pub evidence_rule : RefusalKind → Text
evidence_rule why.NoSuchClause = codes "NoSuchClause"
evidence_rule why.NoPivot = codes "NoPivot"
evidence_rule why.NotEmpty = codes "NotEmpty"
evidence_rule why.EmptyEarly = codes "EmptyEarly"
evidence_rule why.NotFresh = codes "NotFresh"
evidence_rule why.LeafOpen = codes "LeafOpen"
evidence_rule why.BadTree = codes "BadTree"
evidence_rule why.WrongCount = codes "WrongCount"

-- The rule that evidence breaks, and at which step.
unfoldable pub evidence_text : Refusal → Text
evidence_text refusal = codes "Evidence " ++ (evidence_rule refusal.kind ++ (codes " at step " ++ (decimal refusal.step ++ codes ", ")))

-- The rule that a result breaks.
abbrev pub result_rule : ResultKind → Text
result_rule result.Syntax = codes "Syntax at "
result_rule result.Head = codes "Head at "
result_rule result.Order = codes "Order at "
result_rule result.Pattern = codes "Pattern at "
result_rule result.Member = codes "Member at "
result_rule result.Roots = codes "Roots at "
result_rule (result.Evidence refusal) = evidence_text refusal
result_rule result.Table = codes "Table at "
result_rule result.TooLong = codes "TooLong at "

-- The line that says why a result is refused.
unfoldable pub result_text : ResultFault → Text
result_text fault = codes "result: " ++ (result_rule fault.kind ++ (codes "line " ++ (decimal fault.line ++ codes "\n")))

-- ---- words

-- The line that says that the words aren't understood.
unfoldable pub not_understood_text : Text
not_understood_text = codes "words: not understood\n"

-- ---- dictionaries

-- The rule that a dictionary breaks, and at which byte; none if memory was missing.
abbrev pub dictionary_rule : DictFault → Option (Text × ℕ)
dictionary_rule dict.Magic = Some (codes "Magic", 0)
dictionary_rule dict.Version = Some (codes "Version", 4)
dictionary_rule dict.Kind = Some (codes "Kind", 6)
dictionary_rule (dict.Short byte) = Some (codes "Short", byte)
dictionary_rule (dict.Value byte) = Some (codes "Value", byte)
dictionary_rule (dict.Trailing byte) = Some (codes "Trailing", byte)
dictionary_rule (dict.TooLong byte) = Some (codes "TooLong", byte)
dictionary_rule dict.NoMemory = None

-- The line that says why a dictionary is refused.
unfoldable pub dictionary_text : Text → ℕ → Text
dictionary_text rule byte = codes "dictionary: " ++ (rule ++ (codes " at byte " ++ (decimal byte ++ codes "\n")))

-- ---- logs and lists of vectors

abbrev pub log_rule : LogKind → Text
log_rule log.Syntax = codes "Syntax"
log_rule log.Order = codes "Order"
log_rule log.Width = codes "Width"
log_rule log.Missing = codes "Missing"
log_rule log.TooLong = codes "TooLong"

-- The line that says why a log or a list of vectors is refused.
unfoldable pub log_text : LogKind → ℕ → Text
log_text kind line = codes "log: " ++ (log_rule kind ++ (codes " at line " ++ (decimal line ++ codes "\n")))

-- The line that says why a list of vectors is refused, in a command that may read a log too.
unfoldable pub vectors_text : LogKind → ℕ → Text
vectors_text kind line = codes "vectors: " ++ (log_rule kind ++ (codes " at line " ++ (decimal line ++ codes "\n")))

-- ---- adaptive plans

abbrev pub plan_rule : PlanKind → Text
plan_rule plan.Syntax = codes "Syntax"
plan_rule plan.Order = codes "Order"
plan_rule plan.Value = codes "Value"
plan_rule plan.TooLong = codes "TooLong"

-- The line that says why an adaptive plan is refused.
unfoldable pub plan_fault_text : PlanKind → ℕ → Text
plan_fault_text kind line = codes "plan: " ++ (plan_rule kind ++ (codes " at line " ++ (decimal line ++ codes "\n")))
