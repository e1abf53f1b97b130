-- The plans of the commands about dictionaries and adaptive plans.
use Rattle.text_fields.specs.Fields.{Text}
use Rattle.dictionary_commands.specs.Dictionaries.{IsMadeDictionary, IsConverted, IsDiagnosis}
use Rattle.dictionary_commands.specs.AdaptivePlans.{IsOutcomeText, IsMadePlan}
use Rattle.dictionary_commands.specs.Rankings.{IsRankText}
use Rattle.run_steps.specs.Plan.{Plan}
use Rattle.run_steps.specs.Plans.{with_netlist, with_result, with_dictionary, with_log, with_partial, with_adaptive_plan, with_walk, says, makes_file}
use Rattle.request_words.specs.declared.request.EntryKind.{EntryKind}
use Rattle.std.specs.Prelude.{ℕ}

-- `dict`: reads a netlist and a result, and makes the dictionary of this kind at the result's patterns.
abbrev pub dict_plan : EntryKind → Text → Text → Text → Plan
dict_plan kind bench result dict = with_netlist bench (λ design. with_result result design.circuit (λ file. makes_file dict (IsMadeDictionary design.circuit kind file)))

-- `convert`: reads a dictionary, and makes version 2 of it.
abbrev pub convert_plan : Text → Text → Plan
convert_plan old new = with_dictionary old (λ d. makes_file new (IsConverted d))

-- `diagnose`: reads a dictionary and a log, and prints the numbers whose entry is that of the log.
abbrev pub diagnose_plan : Text → Text → Plan
diagnose_plan dict log = with_dictionary dict (λ d. with_log log d (λ observed. says (IsDiagnosis d observed)))

-- `rank`: reads a dictionary and a partial log, and prints the numbers that the log contradicts least.
abbrev pub rank_plan : Text → Text → ℕ → Plan
rank_plan dict log within = with_dictionary dict (λ d. with_partial log d (λ lines. says (IsRankText d lines within)))

-- `adapt`: reads a netlist and a result, and makes the adaptive plan for the classes of the result's patterns.
abbrev pub adapt_plan : Text → Text → Text → Plan
adapt_plan bench result plan = with_netlist bench (λ design. with_result result design.circuit (λ file. makes_file plan (IsMadePlan design.circuit file)))

-- `follow`: reads an adaptive plan and a log of answers to it, and prints where the log leads in the plan.
abbrev pub follow_plan : Text → Text → Plan
follow_plan plan log = with_adaptive_plan plan (λ adaptive. with_walk log adaptive (λ outcome. says (IsOutcomeText outcome)))
