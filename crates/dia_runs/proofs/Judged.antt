-- No file is both accepted and refused, and none is read as two things or refused with two texts.
use Rattle.std.proofs.Common.{◌≡◌, ℕ, ◌-◌, ◌<◌, ◌≤◌, ◌^◌, Bool, List, [], length, map, ap, ap₂, subst, ◌∙◌, arith, sym}
use Rattle.std.specs.Prelude.{Some, slice_get, slice_index_or}
use Rattle.std.proofs.lemmas.Option.{same_Some}
use Rattle.net_model.specs.declared.circuit.Design.{Design}
use Rattle.net_model.specs.Circuit.{Circuit, IsCircuit}
use Rattle.net_model.specs.Laws.{NoneReachesItself, WalkReachesItself, OneWalk}
use Rattle.bench_reader.specs.declared.fault.Place.{Place}
use Rattle.bench_reader.specs.declared.fault.NetKind.{NetKind}
use Rattle.bench_reader.specs.Reading.{place_of}
use Rattle.bench_reader.specs.Netlist.{Netlist}
use Rattle.bench_reader.specs.Laws.{NeverAcceptedAndRefused, OneNetlist, OneRefusal}
use Rattle.scan_cut.specs.Cut.{cut_circuit, cut_design, gate_words, source_names, IsNetlistLoop}
use Rattle.bench_reader.specs.declared.statement.Word.{Word}
use Rattle.diagnose.specs.declared.fault.LogKind.{LogKind}
use Rattle.run_steps.specs.Texts.{refusal_text, loop_text, result_text, dictionary_rule, dictionary_text, log_text, vectors_text, plan_fault_text}
use Rattle.synth_netlist.proofs.LoopWalks.{walk_first}
use Rattle.text_fields.specs.Fields.{Text}
use Rattle.request_words.specs.Request.{Request, gen, top_up, check, make_dict, convert, diagnose, list_faults, simulate, synth, compact, rank, adapt, follow, expect, suspects, cover, bridges, expect_at, suspects_at, cover_at, bridges_at}
use Rattle.run_steps.specs.Netlists.{IsDesign, IsRefused, by_text, by_loop}
use Rattle.run_steps.specs.Results.{IsResult, IsRefusedResult}
use Rattle.run_steps.specs.Dictionaries.{IsDictionaryFile, IsRefusedDictionary}
use Rattle.run_steps.specs.Logs.{IsRefusedBySome, IsLogFor, IsRefusedLog, IsPartialFor, IsRefusedPartialOf, IsRefusedPartial, IsLogTo, IsRefusedWalk, IsListFor, IsRefusedList, IsRefusedVectors}
use Rattle.run_steps.specs.AdaptivePlans.{IsAdaptivePlanFile, IsRefusedPlan}
use Rattle.run_steps.specs.ResultLogs.{IsLogAt, IsRefusedAt}
use Rattle.dict_rows.specs.declared.dict.Dict.{Dict}
use Rattle.dict_file.specs.Laws.{RefusedIsWrong, OneDictionary, OneFault}
use Rattle.diagnose.specs.Laws.{RefusedTesterLogIsWrong, OneTesterLogRefusal, OneLogReading, RefusedListIsWrong, OneListRefusal, OneListReading}
use Rattle.ranked_diag.specs.PartialLog.{Line, IsPartialLog}
use Rattle.ranked_diag.specs.Laws.{RefusedPartialIsWrong, OnePartialRefusal, OnePartialReading}
use Rattle.adaptive_tree.specs.declared.outcome.Outcome.{Outcome as WalkOutcome}
use Rattle.adaptive_tree.specs.declared.steps.Plan.{Plan as AdaptivePlan}
use Rattle.adaptive_tree.specs.WellFormed.{IsWellFormed}
use Rattle.adaptive_tree.specs.Laws.{RefusedPlanIsWrong, OnePlanRefusal, OnePlanReading, RefusedWalkIsWrong, OneWalkRefusal, OneOutcome}
use Rattle.run_steps.specs.Outcome.{Outcome}
use Rattle.dia_runs.specs.Requests.{plan_of}
use Rattle.run_steps.specs.Plan.{IsClearFile, IsClear}
use Rattle.result_file.specs.Refusal.{FileRefused}
use Rattle.result_records.specs.Laws.{OneSpelling, SpellingIsLine}
use Rattle.result_file.specs.Laws.{RefusedFileIsWrong, OneFileRefusal}
use Rattle.fault_collapse.specs.Laws.{SameRootEqual}
use Rattle.pair_sets.specs.Laws.{CoveringEqual, LeavesClosed, SpendingBounded}
use Rattle.run_steps.proofs.ReadLemmas.{few_vectors}
use Rattle.dia_runs.proofs.ResultLogs.{log_is_clear}
use Rattle.result_file.proofs.Truth.{AreSound}
use Rattle.result_file.proofs.SoundLemmas.{sound_circuit}

-- The laws by which no file is both accepted and refused.
pub record HasLaws : Type 0 where
  pub text : NeverAcceptedAndRefused
  pub one : OneNetlist
  pub none : NoneReachesItself
  pub walk : WalkReachesItself
  pub results : RefusedFileIsWrong
  pub one_spelling : OneSpelling
  pub one_line : SpellingIsLine
  pub dictionaries : RefusedIsWrong
  pub one_dictionary : OneDictionary
  pub logs : RefusedTesterLogIsWrong
  pub one_log : OneLogReading
  pub partial_logs : RefusedPartialIsWrong
  pub one_partial : OnePartialReading
  pub plans : RefusedPlanIsWrong
  pub one_plan : OnePlanReading
  pub walks : RefusedWalkIsWrong
  pub one_walk : OneOutcome
  pub lists : RefusedListIsWrong
  pub one_list : OneListReading
  -- The laws by which no file is refused with two texts.
  pub refusal : OneRefusal
  pub loop_walk : OneWalk
  pub result_refusal : OneFileRefusal
  pub dictionary_fault : OneFault
  pub log_refusal : OneTesterLogRefusal
  pub partial_refusal : OnePartialRefusal
  pub plan_refusal : OnePlanRefusal
  pub walk_refusal : OneWalkRefusal
  pub list_refusal : OneListRefusal

pub accepted_not_refused : HasLaws → {bytes console : Text} {design : Design} → IsDesign bytes design → IsRefused bytes console → ⊥
accepted_not_refused laws {bytes} {console} {design} is (by_text kind byte refused text) = laws.text bytes is.netlist (kind, byte) is.accepted refused
accepted_not_refused laws {bytes} {console} {design} is (by_loop netlist place names accepted loops text) =
    let same : is.netlist ≡ netlist = laws.one bytes is.netlist netlist is.accepted accepted in
    let circuit : IsCircuit (cut_circuit netlist) = subst (λ (n : Netlist). IsCircuit (cut_circuit n)) same is.circuit in
    let first = walk_first loops.is_walk in
    laws.none (cut_circuit netlist) first.0 circuit (laws.walk (cut_circuit netlist) loops.walk first.0 loops.is_walk first.1)

one_design : HasLaws → {bytes : Text} {design other : Design} → IsDesign bytes design → IsDesign bytes other → design ≡ other
one_design laws {bytes} {design} {other} is also = is.cut ∙ ap cut_design (laws.one bytes is.netlist also.netlist is.accepted also.accepted) ∙ sym also.cut

pub circuit_of : {bytes : Text} {design : Design} → IsDesign bytes design → IsCircuit design.circuit
unfolding cut_design
circuit_of {bytes} {design} is = subst (λ (d : Design). IsCircuit d.circuit) (sym is.cut) is.circuit

-- ---- no file is refused with two texts

-- A loop of a netlist has one walk, and so one place and one list of names.
one_loop : HasLaws → {n : Netlist} {place other : Place} {names others : List Text} → IsNetlistLoop n place names → IsNetlistLoop n other others → (place ≡ other) × (names ≡ others)
one_loop laws {n} {place} {other} {names} {others} one two =
    let walk : one.walk ≡ two.walk = laws.loop_walk (cut_circuit n) one.walk two.walk one.is_walk two.is_walk in
    let first : one.first ≡ two.first =
    same_Some one.first two.first (sym one.first_is ∙ ap (λ (w : List ℕ). slice_get (gate_words n.statements) (slice_index_or w 0 0 - length (source_names n.statements))) walk ∙ two.first_is) in
    (one.place_is ∙ ap (λ (w : Word). w.place) first ∙ sym two.place_is, one.names_are ∙ ap (λ (w : List ℕ). map (λ line. slice_index_or (cut_design n).names line []) w) walk ∙ sym two.names_are)

one_netlist_refusal : HasLaws → {bytes console other : Text} → IsRefused bytes console → IsRefused bytes other → console ≡ other
one_netlist_refusal laws {bytes} {console} {other} (by_text kind byte refused is) (by_text also at wrong said) =
    is ∙ ap (λ (r : NetKind × ℕ). refusal_text r.0 (place_of bytes r.1)) (laws.refusal bytes (kind, byte) (also, at) refused wrong) ∙ sym said
one_netlist_refusal laws {bytes} {console} {other} (by_text kind byte refused is) (by_loop netlist place names accepted loops said) = absurd (laws.text bytes netlist (kind, byte) accepted refused)
one_netlist_refusal laws {bytes} {console} {other} (by_loop netlist place names accepted loops is) (by_text also at wrong said) = absurd (laws.text bytes netlist (also, at) accepted wrong)
one_netlist_refusal laws {bytes} {console} {other} (by_loop netlist place names accepted loops is) (by_loop netlist' place' names' accepted' loops' said) =
    let same : netlist' ≡ netlist = laws.one bytes netlist' netlist accepted' accepted in
    let once : (place ≡ place') × (names ≡ names') = one_loop laws loops (subst (λ (n : Netlist). IsNetlistLoop n place' names') same loops') in
    is ∙ ap₂ loop_text once.0 once.1 ∙ sym said

-- A log or a list of vectors is refused with one text.
said_once : {Refused : LogKind → ℕ → Type 0} {console other : Text} → ((kind also : LogKind) (line number : ℕ) → Refused kind line → Refused also number → (kind ≡ also) × (line ≡ number)) → IsRefusedBySome Refused console → IsRefusedBySome Refused other → console ≡ other
said_once {Refused} {console} {other} once one two =
    let same : (one.kind ≡ two.kind) × (one.line ≡ two.line) = once one.kind two.kind one.line two.line one.refused two.refused in
    one.console_is ∙ ap₂ log_text same.0 same.1 ∙ sym two.console_is

one_dictionary_refusal : HasLaws → {bytes console other : Text} → IsRefusedDictionary bytes console → IsRefusedDictionary bytes other → console ≡ other
one_dictionary_refusal laws {bytes} {console} {other} one two =
    let fault : one.fault ≡ two.fault = laws.dictionary_fault bytes one.fault two.fault one.refused two.refused in
    let place : one.place ≡ two.place = same_Some one.place two.place (sym one.rule_is ∙ ap dictionary_rule fault ∙ two.rule_is) in
    one.console_is ∙ ap (λ (p : Text × ℕ). dictionary_text p.0 p.1) place ∙ sym two.console_is

one_plan_refusal : HasLaws → {bytes console other : Text} → IsRefusedPlan bytes console → IsRefusedPlan bytes other → console ≡ other
one_plan_refusal laws {bytes} {console} {other} one two =
    let same : (one.kind ≡ two.kind) × (one.line ≡ two.line) = laws.plan_refusal bytes one.kind two.kind one.line two.line one.refused two.refused in
    one.console_is ∙ ap₂ plan_fault_text same.0 same.1 ∙ sym two.console_is

-- ---- no file is read as two things

clear_netlist : HasLaws → IsClearFile Design IsRefused IsDesign
clear_netlist laws = record { apart = λ bytes console design is refused. accepted_not_refused laws is refused; once = λ bytes x y is also. one_design laws is also; one_refusal = λ bytes console other. one_netlist_refusal laws }

clear_result : HasLaws → {c : Circuit} → IsCircuit c → IsClearFile Text (IsRefusedResult c) (IsResult c)
clear_result laws {c} circuit = record {
  apart = λ bytes console file is refused. laws.results c file refused.fault circuit (subst (λ (b : Text). FileRefused c b refused.fault) is.same refused.refused) is.valid;
  once = λ bytes x y is also. sym is.same ∙ also.same;
  one_refusal = λ bytes console other one two. one.console_is ∙ ap result_text (laws.result_refusal c bytes one.fault two.fault circuit one.refused two.refused) ∙ sym two.console_is;
}

clear_dictionary : HasLaws → IsClearFile Dict IsRefusedDictionary IsDictionaryFile
clear_dictionary laws = record {
  apart = λ bytes console d is refused. laws.dictionaries bytes d refused.fault refused.refused is;
  once = λ bytes d e is also. (laws.one_dictionary bytes is.0 also.0 d e is.1 also.1).1;
  one_refusal = λ bytes console other. one_dictionary_refusal laws;
}

clear_log : HasLaws → (d : Dict) → d.patterns ≤ 67108864 → IsClearFile (List (List Bool)) (IsRefusedLog d) (IsLogFor d)
clear_log laws d few = record {
  apart = λ bytes console rows is refused. laws.logs d.patterns d.positions bytes rows refused.kind refused.line (omega (arith, few)) refused.refused is;
  once = λ bytes x y is also. laws.one_log d.patterns d.positions bytes x y is also;
  one_refusal = λ bytes console other. said_once (λ kind also line number. laws.log_refusal d.patterns d.positions bytes kind also line number (omega (arith, few)));
}

clear_partial_of : HasLaws → (patterns positions : ℕ) → patterns < 2 ^ 32 → IsClearFile (List Line) (IsRefusedPartialOf patterns positions) (IsPartialLog patterns positions)
clear_partial_of laws patterns positions few = record {
  apart = λ bytes console lines is refused. laws.partial_logs patterns positions bytes lines refused.kind refused.line few refused.refused is;
  once = λ bytes x y is also. laws.one_partial patterns positions bytes x y few is also;
  one_refusal = λ bytes console other. said_once (λ kind also line number. laws.partial_refusal patterns positions bytes kind also line number few);
}

clear_partial : HasLaws → (d : Dict) → d.patterns ≤ 67108864 → IsClearFile (List Line) (IsRefusedPartial d) (IsPartialFor d)
clear_partial laws d few = clear_partial_of laws d.patterns d.positions (omega (arith, few))

-- A partial log of a list of vectors.
clear_log_of : HasLaws → (c : Circuit) {bytes : Text} {list : List (List Bool)} → IsListFor c bytes list → IsClearFile (List Line) (IsRefusedPartialOf (length list) (length c.positions)) (IsPartialLog (length list) (length c.positions))
clear_log_of laws c {bytes} {list} read = clear_partial_of laws (length list) (length c.positions) (few_vectors read)

clear_log_at : HasLaws → {c : Circuit} → IsCircuit c → (result : Text) → IsClearFile (List Line) (IsRefusedAt c result) (IsLogAt c result)
clear_log_at laws {c} circuit result = log_is_clear laws.one_spelling laws.one_line laws.partial_logs laws.one_partial laws.partial_refusal c circuit result

clear_plan : HasLaws → IsClearFile AdaptivePlan IsRefusedPlan IsAdaptivePlanFile
clear_plan laws = record {
  apart = λ bytes console plan is refused. laws.plans bytes plan refused.kind refused.line refused.refused is;
  once = λ bytes plan other is also. laws.one_plan bytes plan other is also;
  one_refusal = λ bytes console other. one_plan_refusal laws;
}

clear_walk : HasLaws → (plan : AdaptivePlan) → IsWellFormed plan → IsClearFile WalkOutcome (IsRefusedWalk plan) (IsLogTo plan)
clear_walk laws plan formed = record {
  apart = λ bytes console outcome is refused. laws.walks plan bytes outcome refused.kind refused.line formed refused.refused is;
  once = λ bytes x y is also. laws.one_walk plan bytes x y formed is also;
  one_refusal = λ bytes console other. said_once (λ kind also line number. laws.walk_refusal plan bytes kind also line number formed);
}

clear_list : HasLaws → (c : Circuit) → IsClearFile (List (List Bool)) (IsRefusedList c) (IsListFor c)
clear_list laws c = record {
  apart = λ bytes console vectors is refused. laws.lists c.sources bytes vectors refused.kind refused.line refused.refused is;
  once = λ bytes x y is also. laws.one_list c.sources bytes x y is also;
  one_refusal = λ bytes console other. said_once (λ kind also line number. laws.list_refusal c.sources bytes kind also line number);
}

-- A list of vectors in a command that may read a log too.
clear_vectors : HasLaws → (c : Circuit) → IsClearFile (List (List Bool)) (IsRefusedVectors c) (IsListFor c)
clear_vectors laws c = record {
  apart = λ bytes console vectors is refused. laws.lists c.sources bytes vectors refused.kind refused.line refused.refused is;
  once = λ bytes x y is also. laws.one_list c.sources bytes x y is also;
  one_refusal = λ bytes console other one two.
      let same : (one.kind ≡ two.kind) × (one.line ≡ two.line) = laws.list_refusal c.sources bytes one.kind two.kind one.line two.line one.refused two.refused in
      one.console_is ∙ ap₂ vectors_text same.0 same.1 ∙ sym two.console_is;
}

ending_is : {o p : Outcome} → o ≡ p → o.ending ≡ p.ending
ending_is {o} {p} e = ap (λ (q : Outcome). q.ending) e

pub clear : HasLaws → (request : Request) → IsClear (plan_of (Some request))
clear laws (gen bench result budgets) = (clear_netlist laws, λ bytes design is o made. ending_is made.outcome)
clear laws (top_up bench vectors result budgets) = (clear_netlist laws, λ bytes design is. (clear_vectors laws design.circuit, λ bytes list read o made. ending_is made.outcome))
clear laws (check bench result) = (clear_netlist laws, λ bytes design is. (clear_result laws (circuit_of is), λ bytes file valid o says. ending_is says.2))
clear laws (make_dict kind bench result dict) = (clear_netlist laws, λ bytes design is. (clear_result laws (circuit_of is), λ bytes file valid o made. ending_is made.3))
clear laws (convert old new) = (clear_dictionary laws, λ bytes d is o made. ending_is made.3)
clear laws (diagnose dict log) = (clear_dictionary laws, λ bytes d is. (clear_log laws d is.1.has.patterns, λ bytes rows read o says. ending_is says.2))
clear laws (list_faults bench) = (clear_netlist laws, λ bytes design is o says. ending_is says.2)
clear laws (simulate bench vectors) = (clear_netlist laws, λ bytes design is. (clear_list laws design.circuit, λ bytes list read o says. ending_is says.2))
clear laws (synth n bench result) = λ o both. ending_is both.2.outcome
clear laws (compact bench result new) = (clear_netlist laws, λ bytes design is. (clear_result laws (circuit_of is), λ bytes file valid o made. ending_is made.3))
clear laws (rank dict log within) = (clear_dictionary laws, λ bytes d is. (clear_partial laws d is.1.has.patterns, λ bytes lines read o says. ending_is says.2))
clear laws (adapt bench result plan) = (clear_netlist laws, λ bytes design is. (clear_result laws (circuit_of is), λ bytes file valid o made. ending_is made.3))
clear laws (expect bench result log) = (clear_netlist laws, λ bytes design is. (clear_result laws (circuit_of is), λ bytes file valid o made. ending_is made.3))
clear laws (suspects bench result log most) = (clear_netlist laws, λ bytes design is. (clear_result laws (circuit_of is), λ bytes file valid. (clear_log_at laws (circuit_of is) file, λ bytes lines read o says. ending_is says.2)))
clear laws (cover bench result log) = (clear_netlist laws, λ bytes design is. (clear_result laws (circuit_of is), λ bytes file valid. (clear_log_at laws (circuit_of is) file, λ bytes lines read o says. ending_is says.2)))
clear laws (bridges bench result log most within) = (clear_netlist laws, λ bytes design is. (clear_result laws (circuit_of is), λ bytes file valid. (clear_log_at laws (circuit_of is) file, λ bytes lines read o says. ending_is says.2)))
clear laws (expect_at bench result log vectors) = (clear_netlist laws, λ bytes design is. (clear_result laws (circuit_of is), λ bytes file valid. (clear_vectors laws design.circuit, λ bytes list read o made. ending_is made.3)))
clear laws (suspects_at bench result log most vectors) =
    (clear_netlist laws, λ bytes design is. (clear_result laws (circuit_of is), λ bytes file valid. (clear_vectors laws design.circuit, λ bytes list read. (clear_log_of laws design.circuit read, λ bytes lines also o says. ending_is says.2))))
clear laws (cover_at bench result log vectors) =
    (clear_netlist laws, λ bytes design is. (clear_result laws (circuit_of is), λ bytes file valid. (clear_vectors laws design.circuit, λ bytes list read. (clear_log_of laws design.circuit read, λ bytes lines also o says. ending_is says.2))))
clear laws (bridges_at bench result log most within vectors) =
    (clear_netlist laws, λ bytes design is. (clear_result laws (circuit_of is), λ bytes file valid. (clear_vectors laws design.circuit, λ bytes list read. (clear_log_of laws design.circuit read, λ bytes lines also o says. ending_is says.2))))
clear laws (follow plan log) = (clear_plan laws, λ bytes adaptive is. (clear_walk laws adaptive is.well_formed, λ bytes outcome read o says. ending_is says.2))

-- ---- what evidence means

-- The laws by which evidence is sound.
pub record EvidenceLaws : Type 0 where
  pub roots : SameRootEqual
  pub covering : CoveringEqual
  pub leaves : LeavesClosed
  pub bounded : SpendingBounded

pub sound_design : EvidenceLaws → {bytes : Text} {design : Design} → IsDesign bytes design → AreSound design.circuit
unfolding cut_design
sound_design laws {bytes} {design} is =
    subst (λ (d : Design). AreSound d.circuit) (sym is.cut) (sound_circuit (cut_circuit is.netlist) is.circuit laws.roots laws.covering laws.leaves laws.bounded)
