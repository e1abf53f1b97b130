-- What was read of a file is all of it, or one byte more than the limit; what holds of the bytes that were read holds
-- of the file.
use Rattle.std.proofs.Common.{◌≡◌, ◌≢◌, ℕ, ◌+◌, ◌≤◌, ◌<◌, Bool, List, [], ◌∷◌, Option, Some, None, length, length-append, length-take, refl, sym, ap, subst, ◌∙◌, inl, inr, arith, zero-le}
use Rattle.std.specs.Prelude.{◌==◌, ◌^◌}
use Rattle.std.specs.List.{count_by}
use Rattle.std.specs.Option.{option_map}
use Rattle.std.proofs.lemmas.Bool.{cases_lt}
use Rattle.std.proofs.lemmas.List.{take_all, take-take}
use Rattle.diag_shelf.specs.Calls.{read_of}
use Rattle.net_model.specs.Circuit.{Circuit}
use Rattle.dict_rows.specs.declared.dict.Dict.{Dict}
use Rattle.dict_file.specs.declared.fault.DictFault.{DictFault}
use Rattle.dict_file.specs.declared.fault.DictFault.TheVariants.{NoMemory}
use Rattle.dict_file.specs.Spelling.{IsFileOf}
use Rattle.dict_file.specs.Reading.{IsRefusedBy, TellsDictFault}
use Rattle.diagnose.specs.declared.fault.LogKind.{LogKind}
use Rattle.diagnose.specs.declared.fault.LogFault.{LogFault}
use Rattle.diagnose.specs.declared.fault.LogFault.TheVariants as log
use Rattle.diagnose.specs.Lines.{LineForm, RestRule, LinesRefused, TellsLogFault, too_long, at_line, line_number, lines_from}
use Rattle.diagnose.specs.VectorText.{IsVectorList, VectorsRefused, listed_vector}
use Rattle.ranked_diag.specs.PartialLog as partial
use Rattle.adaptive_tree.specs.declared.fault.PlanKind.{PlanKind}
use Rattle.adaptive_tree.specs.declared.fault.PlanFault.{PlanFault}
use Rattle.adaptive_tree.specs.declared.fault.PlanFault.TheVariants as plan_fault
use Rattle.adaptive_tree.specs.declared.outcome.Outcome.{Outcome as WalkOutcome}
use Rattle.adaptive_tree.specs.declared.steps.Plan.{Plan as AdaptivePlan}
use Rattle.adaptive_tree.specs.WellFormed.{IsTextOf}
use Rattle.adaptive_tree.specs.Refusal as plan
use Rattle.adaptive_tree.specs.AnswerLog as walk
use Rattle.text_fields.specs.Fields.{Text}
use Rattle.dict_file.specs.declared.reading.TheConstants.{DICTIONARY_LIMIT}
use Rattle.diagnose.specs.declared.lines.TheConstants.{TEXT_LIMIT}
use Rattle.run_steps.specs.Texts.{dictionary_rule, dictionary_text}
use Rattle.run_steps.specs.Steps.{dictionary_fault_text, log_fault_text, list_fault_text, adaptive_fault_text}
use Rattle.run_steps.specs.Dictionaries.{IsDictionaryFile, IsRefusedDictionary}
use Rattle.run_steps.specs.Logs.{IsRefusedBySome, IsLogFor, IsLogTo, IsListFor, IsRefusedVectors}
use Rattle.run_steps.specs.AdaptivePlans.{IsAdaptivePlanFile, IsRefusedPlan}

pub read_whole : (limit : ℕ) (all : List ℕ) → length all ≤ limit → read_of limit all ≡ all
read_whole limit all h = take_all (limit + 1) all (omega arith)

pub long_read : (limit : ℕ) (all bytes : Text) → bytes ≡ read_of limit all → limit < length all → length bytes ≤ limit → ⊥
long_read limit all bytes e long short = omega (arith, short, ap length e, length-take (limit + 1) all)

-- What holds of the bytes that were read holds of the file, if that follows for a file beyond the limit.
pub read_as_file : {limit : ℕ} {all bytes : Text} (Said : Text → Type 0) → bytes ≡ read_of limit all → (limit < length all → Said bytes → Said all) → Said bytes → Said all
read_as_file {limit} {all} {bytes} Said e beyond is = elim (cases_lt limit (length all)) [
  | inl long ↦ beyond long is
  | inr short ↦ subst Said (e ∙ read_whole limit all short) is
]

-- It also does if it holds only of bytes within the limit.
pub said_of_file : {limit : ℕ} {all bytes : Text} (Said : Text → Type 0) → (Said bytes → length bytes ≤ limit) → bytes ≡ read_of limit all → Said bytes → Said all
said_of_file {limit} {all} {bytes} Said few e is = read_as_file Said e (λ long said. absurd (long_read limit all bytes e long (few said))) is

pub some_text : {a b : Text} → Some a ≡ Some b → b ≡ a
some_text e = cc

-- ---- dictionaries

pub dictionary_read : {all bytes : Text} {d : Dict} → bytes ≡ read_of DICTIONARY_LIMIT all → IsDictionaryFile bytes d → IsDictionaryFile all d
dictionary_read {all} {bytes} {d} e is = said_of_file (IsFileOf d) (λ (file : IsFileOf d bytes). file.1.short) e is

refused_long : {all bytes : Text} {fault : DictFault} → bytes ≡ read_of DICTIONARY_LIMIT all → DICTIONARY_LIMIT < length all → IsRefusedBy bytes fault → IsRefusedBy all fault
refused_long {all} {bytes} {fault} e long is = elim is.refused [
  | inl over ↦ record { refused = inl (λ short. omega (arith, long, short), over.1) }
  | inr rest ↦ absurd (long_read DICTIONARY_LIMIT all bytes e long rest.0)
]

-- A fault that has a rule isn't that memory is missing.
ruled : (fault : DictFault) {place : Text × ℕ} → dictionary_rule fault ≡ Some place → fault ≢ NoMemory
ruled fault {place} is none = let bad : Some place ≡ None = sym is ∙ ap dictionary_rule none in absurd (cc)

placed : (o : Option (Text × ℕ)) {console : Text} → option_map (λ place. dictionary_text place.0 place.1) o ≡ Some console → (place : Text × ℕ) × (o ≡ Some place) × (console ≡ dictionary_text place.0 place.1)
placed (Some place) {console} e = (place, refl, some_text e)
placed None {console} e = absurd (cc)

pub refused_dictionary_read : {all bytes console : Text} (fault : DictFault) → bytes ≡ read_of DICTIONARY_LIMIT all → TellsDictFault (IsRefusedBy bytes) fault → dictionary_fault_text fault ≡ Some console → IsRefusedDictionary all console
refused_dictionary_read {all} {bytes} {console} fault e told is =
    let at = placed (dictionary_rule fault) is in
    record { fault = fault; refused = read_as_file (λ (b : Text). IsRefusedBy b fault) e (refused_long e) (told (ruled fault at.1)); place = at.0; rule_is = at.1; console_is = at.2 }

-- ---- texts of lines

-- The line of the byte at the limit is the same in the bytes that were read and in the file.
line_read : (limit : ℕ) (all : Text) {bytes : Text} → bytes ≡ read_of limit all → line_number bytes limit ≡ line_number all limit
line_read limit all {bytes} e = ap (λ (t : Text). line_number t limit) e ∙ ap (λ (t : Text). count_by (λ b. b == 10) t + 1) (take-take limit (limit + 1) all (omega arith))

pub lines_read : {line : LineForm} {width : ℕ} {Rest : RestRule} {all bytes : Text} {kind : LogKind} {number : ℕ} → bytes ≡ read_of TEXT_LIMIT all → LinesRefused line width Rest bytes kind number → LinesRefused line width Rest all kind number
lines_read {line} {width} {Rest} {all} {bytes} {kind} {number} e refused = read_as_file (λ (b : Text). LinesRefused line width Rest b kind number) e (λ long is. elim is [
  | too_long over is at ↦ too_long long is (at ∙ line_read TEXT_LIMIT all e)
  | at_line rows rest short begins wrong at ↦ absurd (long_read TEXT_LIMIT all bytes e long short)
]) refused

pub partial_lines_read : {patterns positions : ℕ} {all bytes : Text} {kind : LogKind} {number : ℕ} → bytes ≡ read_of TEXT_LIMIT all → partial.PartialRefused patterns positions bytes kind number → partial.PartialRefused patterns positions all kind number
partial_lines_read {patterns} {positions} {all} {bytes} {kind} {number} e refused = read_as_file (λ (b : Text). partial.PartialRefused patterns positions b kind number) e (λ long is. elim is [
  | partial.too_long over is at ↦ partial.too_long long is (at ∙ line_read TEXT_LIMIT all e)
  | partial.at_line before rest short are begins wrong at ↦ absurd (long_read TEXT_LIMIT all bytes e long short)
]) refused

pub walk_lines_read : {adaptive : AdaptivePlan} {all bytes : Text} {kind : LogKind} {number : ℕ} → bytes ≡ read_of TEXT_LIMIT all → walk.WalkRefused adaptive bytes kind number → walk.WalkRefused adaptive all kind number
walk_lines_read {adaptive} {all} {bytes} {kind} {number} e refused = read_as_file (λ (b : Text). walk.WalkRefused adaptive b kind number) e (λ long is. elim is [
  | walk.too_long over is at ↦ walk.too_long long is (at ∙ line_read TEXT_LIMIT all e)
  | walk.at_line root before rest short right is refusal at ↦ absurd (long_read TEXT_LIMIT all bytes e long short)
]) refused

plan_lines_read : {all bytes : Text} {kind : PlanKind} {number : ℕ} → bytes ≡ read_of TEXT_LIMIT all → plan.PlanRefused bytes kind number → plan.PlanRefused all kind number
plan_lines_read {all} {bytes} {kind} {number} e refused = read_as_file (λ (b : Text). plan.PlanRefused b kind number) e (λ long is. elim is [
  | plan.too_long over is at ↦ plan.too_long long is (at ∙ line_read TEXT_LIMIT all e)
  | plan.at_line before rest short right is refusal at ↦ absurd (long_read TEXT_LIMIT all bytes e long short)
]) refused

-- A fault of a log or a list of vectors that has a text is a refusal with this text.
pub refused_by_some : {Told Refused : LogKind → ℕ → Type 0} {console : Text} → ((kind : LogKind) (number : ℕ) → Told kind number → Refused kind number) → (fault : LogFault) → TellsLogFault Told fault → log_fault_text fault ≡ Some console → IsRefusedBySome Refused console
refused_by_some {Told} {Refused} {console} law (log.At kind line) told is = record { kind = kind; line = line; refused = law kind line told; console_is = some_text is }
refused_by_some {Told} {Refused} {console} law log.NoMemory told is = absurd (cc)

-- The same for a list of vectors in a command that may read a log too.
pub refused_vectors : {c : Circuit} {all console : Text} {Told : LogKind → ℕ → Type 0} → ((kind : LogKind) (number : ℕ) → Told kind number → VectorsRefused c.sources all kind number) → (fault : LogFault) → TellsLogFault Told fault → list_fault_text fault ≡ Some console → IsRefusedVectors c all console
refused_vectors {c} {all} {console} {Told} law (log.At kind line) told is = record { kind = kind; line = line; refused = law kind line told; console_is = some_text is }
refused_vectors {c} {all} {console} {Told} law log.NoMemory told is = absurd (cc)

-- The same for an adaptive plan.
pub refused_plan_read : {all bytes console : Text} (fault : PlanFault) → bytes ≡ read_of TEXT_LIMIT all → plan.TellsPlanFault (plan.PlanRefused bytes) fault → adaptive_fault_text fault ≡ Some console → IsRefusedPlan all console
refused_plan_read {all} {bytes} {console} (plan_fault.At kind line) e told is = record { kind = kind; line = line; refused = plan_lines_read e told; console_is = some_text is }
refused_plan_read {all} {bytes} {console} plan_fault.NoMemory e told is = absurd (cc)

pub plan_read : {all bytes : Text} {adaptive : AdaptivePlan} → bytes ≡ read_of TEXT_LIMIT all → IsAdaptivePlanFile bytes adaptive → IsAdaptivePlanFile all adaptive
plan_read {all} {bytes} {adaptive} e is = said_of_file (IsTextOf adaptive) (λ (file : IsTextOf adaptive bytes). file.short) e is

pub log_read : (d : Dict) {all bytes : Text} {observed : List (List Bool)} → bytes ≡ read_of TEXT_LIMIT all → IsLogFor d bytes observed → IsLogFor d all observed
log_read d {all} {bytes} {observed} e is = said_of_file (λ (b : Text). IsLogFor d b observed) (λ (log : IsLogFor d bytes observed). log.short) e is

pub partial_read : (patterns positions : ℕ) {all bytes : Text} {lines : List partial.Line} → bytes ≡ read_of TEXT_LIMIT all → partial.IsPartialLog patterns positions bytes lines → partial.IsPartialLog patterns positions all lines
partial_read patterns positions {all} {bytes} {lines} e is = said_of_file (λ (b : Text). partial.IsPartialLog patterns positions b lines) (λ (log : partial.IsPartialLog patterns positions bytes lines). log.short) e is

pub walk_read : (adaptive : AdaptivePlan) {all bytes : Text} {outcome : WalkOutcome} → bytes ≡ read_of TEXT_LIMIT all → IsLogTo adaptive bytes outcome → IsLogTo adaptive all outcome
walk_read adaptive {all} {bytes} {outcome} e is = said_of_file (λ (b : Text). IsLogTo adaptive b outcome) (λ (log : IsLogTo adaptive bytes outcome). log.short) e is

pub list_read : (c : Circuit) {all bytes : Text} {vectors : List (List Bool)} → bytes ≡ read_of TEXT_LIMIT all → IsListFor c bytes vectors → IsListFor c all vectors
list_read c {all} {bytes} {vectors} e is = said_of_file (λ (b : Text). IsListFor c b vectors) (λ (list : IsListFor c bytes vectors). list.short) e is

-- Each row has at least one byte.
row_bytes : (line : LineForm) (n : ℕ) (rows : List (List Bool)) → length rows ≤ length (lines_from line n rows)
row_bytes line n [] = zero-le
row_bytes line n (row ∷ rows) = omega (arith, length-append (line n row) (10 ∷ lines_from line (n + 1) rows), row_bytes line (n + 1) rows)

-- A list that is no longer than the limit has few vectors.
pub few_vectors : {sources : ℕ} {bytes : Text} {vectors : List (List Bool)} → IsVectorList sources bytes vectors → length vectors < 2 ^ 32
few_vectors {sources} {bytes} {vectors} is = omega (arith, is.short, ap length is.text_is, row_bytes listed_vector 0 vectors)
