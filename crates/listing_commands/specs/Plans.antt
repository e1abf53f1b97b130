-- The plans of the commands that list faults, answers, suspects, covers or bridges, or write the log of a good chip.
use Rattle.sim_listing.specs.SimText.{IsSimText}
use Rattle.text_fields.specs.Fields.{Text}
use Rattle.listing_commands.specs.Applied.{IsExpectedAt, IsSuspectsAt, IsCoverAt, IsBridgesAt}
use Rattle.listing_commands.specs.Bridges.{IsBridgesText}
use Rattle.listing_commands.specs.Faults.{IsFaultsText}
use Rattle.listing_commands.specs.Suspects.{IsExpectedLog, IsSuspectsText, IsCoverText}
use Rattle.run_steps.specs.Plan.{Plan}
use Rattle.run_steps.specs.Plans.{with_netlist, with_vectors, with_list, with_result, with_log_at, with_log_of, says, makes_file}
use Rattle.std.specs.Prelude.{ℕ}

-- `faults`: reads a netlist, and prints the faults of its circuit.
abbrev pub faults_plan : Text → Plan
faults_plan bench = with_netlist bench (λ design. says (IsFaultsText design))

-- `sim`: reads a netlist and a list of vectors, and prints the circuit's answers to them.
abbrev pub sim_plan : Text → Text → Plan
sim_plan bench vectors = with_netlist bench (λ design. with_vectors vectors design.circuit (λ list. says (IsSimText design.circuit list)))

-- `expect`: reads a netlist and a result, and makes the log that a good chip gives to the result's patterns.
abbrev pub expect_plan : Text → Text → Text → Plan
expect_plan bench result log = with_netlist bench (λ design. with_result result design.circuit (λ file. makes_file log (IsExpectedLog design.circuit file)))

-- `suspects`: reads a netlist, a result and a log, and prints the classes that explain the log best, at most `most` of
-- them.
abbrev pub suspects_plan : Text → Text → Text → ℕ → Plan
suspects_plan bench result log most = with_netlist bench (λ design. with_result result design.circuit (λ file. with_log_at log design.circuit file (λ lines. says (IsSuspectsText design.circuit file lines most))))

-- `cover`: reads a netlist, a result and a log, and prints classes that together explain the log.
abbrev pub cover_plan : Text → Text → Text → Plan
cover_plan bench result log = with_netlist bench (λ design. with_result result design.circuit (λ file. with_log_at log design.circuit file (λ lines. says (IsCoverText design.circuit file lines))))

-- `bridges`: reads a netlist, a result and a log, and prints the shorts of two lines that explain the log best, at most
-- `most` of them.
abbrev pub bridges_plan : Text → Text → Text → ℕ → ℕ → Plan
bridges_plan bench result log most within = with_netlist bench (λ design. with_result result design.circuit (λ file. with_log_at log design.circuit file (λ lines. says (IsBridgesText design.circuit design.names file lines within most))))

-- ---- with vectors that were applied

-- `expect` with vectors that were applied: reads a netlist, a result and a list of vectors, and makes the log that a
-- good chip gives to the vectors.
abbrev pub expect_at_plan : Text → Text → Text → Text → Plan
expect_at_plan bench result log vectors = with_netlist bench (λ design. with_result result design.circuit (λ file. with_list vectors design.circuit (λ list. makes_file log (IsExpectedAt design.circuit list))))

-- `suspects` with vectors that were applied: reads a netlist, a result, a list of vectors and a log of these, and
-- prints the classes that explain the log best, at most `most` of them.
abbrev pub suspects_at_plan : Text → Text → Text → ℕ → Text → Plan
suspects_at_plan bench result log most vectors = with_netlist bench (λ design. with_result result design.circuit (λ file. with_list vectors design.circuit (λ list. with_log_of log design.circuit list (λ lines. says (IsSuspectsAt design.circuit file list lines most)))))

-- `cover` with vectors that were applied: reads a netlist, a result, a list of vectors and a log of these, and prints
-- classes that together explain the log.
abbrev pub cover_at_plan : Text → Text → Text → Text → Plan
cover_at_plan bench result log vectors = with_netlist bench (λ design. with_result result design.circuit (λ file. with_list vectors design.circuit (λ list. with_log_of log design.circuit list (λ lines. says (IsCoverAt design.circuit file list lines)))))

-- `bridges` with vectors that were applied: reads a netlist, a result, a list of vectors and a log of these, and prints
-- the shorts of two lines that explain the log best, at most `most` of them.
abbrev pub bridges_at_plan : Text → Text → Text → ℕ → ℕ → Text → Plan
bridges_at_plan bench result log most within vectors = with_netlist bench (λ design. with_result result design.circuit (λ file. with_list vectors design.circuit (λ list. with_log_of log design.circuit list (λ lines. says (IsBridgesAt design.circuit design.names file list lines within most)))))
