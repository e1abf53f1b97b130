use Rattle.dia_runs.proofs.Judged.{HasLaws, clear}
use Rattle.dia_runs.proofs.commands.files_are_judged_once.Goals as goal

pub returns : goal.returns
returns c =
    let laws : HasLaws = record {
      results = c.file_is_refused_once.ensures.wrong;
      one_spelling = c.record_is_spelled_once.ensures.once;
      one_line = c.record_is_spelled_once.ensures.line;
      text = c.never_accepted_and_refused.ensures;
      walk = c.walk_reaches_itself.ensures;
      one = c.one_netlist.ensures;
      none = c.none_reaches_itself.ensures;
      dictionaries = c.dictionary_is_read_once.ensures.wrong;
      one_dictionary = c.dictionary_is_read_once.ensures.dictionary;
      logs = c.log_is_read_once.ensures.wrong;
      one_log = c.log_is_read_once.ensures.reading;
      partial_logs = c.partial_log_is_read_once.ensures.wrong;
      one_partial = c.partial_log_is_read_once.ensures.reading;
      plans = c.plan_is_read_once.ensures.wrong;
      one_plan = c.plan_is_read_once.ensures.reading;
      walks = c.walk_is_read_once.ensures.wrong;
      one_walk = c.walk_is_read_once.ensures.outcome;
      lists = c.list_is_read_once.ensures.wrong;
      one_list = c.list_is_read_once.ensures.reading;
      refusal = c.one_refusal.ensures;
      loop_walk = c.one_walk.ensures;
      result_refusal = c.file_is_refused_once.ensures.once;
      dictionary_fault = c.dictionary_is_read_once.ensures.fault;
      log_refusal = c.log_is_read_once.ensures.refusal;
      partial_refusal = c.partial_log_is_read_once.ensures.refusal;
      plan_refusal = c.plan_is_read_once.ensures.refusal;
      walk_refusal = c.walk_is_read_once.ensures.refusal;
      list_refusal = c.list_is_read_once.ensures.refusal;
    } in
    clear laws
