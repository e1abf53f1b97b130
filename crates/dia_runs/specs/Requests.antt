-- What each request reads, does and makes, and how a run of it may end.
use Rattle.std.specs.Prelude.{List, [], ◌∷◌, Option, Some, None}
use Rattle.text_fields.specs.Fields.{Text}
use Rattle.request_words.specs.Request.{Request, gen, top_up, check, make_dict, convert, diagnose, list_faults, simulate, synth, compact, rank, adapt, follow, expect, suspects, cover, bridges, expect_at, suspects_at, cover_at, bridges_at}
use Rattle.run_steps.specs.Plan.{Plan}
use Rattle.diag_shelf.specs.World.{State}
use Rattle.run_steps.specs.Ending.{Ending}
use Rattle.run_steps.specs.Plans.{words_plan, words_endings}
use Rattle.run_steps.specs.Ran.{Follows, written_endings, netlist_endings, list_endings, result_endings, result_log_endings, dictionary_endings, dictionary_log_endings, walk_endings}
use Rattle.result_commands.specs.Plans.{gen_plan, top_up_plan, check_plan, compact_plan, synth_plan}
use Rattle.dictionary_commands.specs.Plans.{dict_plan, convert_plan, diagnose_plan, rank_plan, adapt_plan, follow_plan}
use Rattle.listing_commands.specs.Plans.{faults_plan, sim_plan, expect_plan, suspects_plan, cover_plan, bridges_plan, expect_at_plan, suspects_at_plan, cover_at_plan, bridges_at_plan}

-- The names that a run of the request may create.
abbrev pub outputs_of : Option Request → List Text
outputs_of None = []
outputs_of (Some (gen bench result budgets)) = result ∷ []
outputs_of (Some (top_up bench vectors result budgets)) = result ∷ []
outputs_of (Some (check bench result)) = []
outputs_of (Some (make_dict kind bench result dict)) = dict ∷ []
outputs_of (Some (convert old new)) = new ∷ []
outputs_of (Some (diagnose dict log)) = []
outputs_of (Some (list_faults bench)) = []
outputs_of (Some (simulate bench vectors)) = []
outputs_of (Some (synth n bench result)) = bench ∷ result ∷ []
outputs_of (Some (compact bench result new)) = new ∷ []
outputs_of (Some (rank dict log within)) = []
outputs_of (Some (adapt bench result plan)) = plan ∷ []
outputs_of (Some (follow plan log)) = []
outputs_of (Some (expect bench result log)) = log ∷ []
outputs_of (Some (suspects bench result log most)) = []
outputs_of (Some (cover bench result log)) = []
outputs_of (Some (bridges bench result log most within)) = []
outputs_of (Some (expect_at bench result log vectors)) = log ∷ []
outputs_of (Some (suspects_at bench result log most vectors)) = []
outputs_of (Some (cover_at bench result log vectors)) = []
outputs_of (Some (bridges_at bench result log most within vectors)) = []

-- The plan of the request, or of words that ask for nothing.
abbrev pub plan_of : Option Request → Plan
plan_of None = words_plan
plan_of (Some (gen bench result budgets)) = gen_plan bench result budgets
plan_of (Some (top_up bench vectors result budgets)) = top_up_plan bench vectors result budgets
plan_of (Some (check bench result)) = check_plan bench result
plan_of (Some (make_dict kind bench result dict)) = dict_plan kind bench result dict
plan_of (Some (convert old new)) = convert_plan old new
plan_of (Some (diagnose dict log)) = diagnose_plan dict log
plan_of (Some (list_faults bench)) = faults_plan bench
plan_of (Some (simulate bench vectors)) = sim_plan bench vectors
plan_of (Some (synth n bench result)) = synth_plan n bench result
plan_of (Some (compact bench result new)) = compact_plan bench result new
plan_of (Some (rank dict log within)) = rank_plan dict log within
plan_of (Some (adapt bench result plan)) = adapt_plan bench result plan
plan_of (Some (follow plan log)) = follow_plan plan log
plan_of (Some (expect bench result log)) = expect_plan bench result log
plan_of (Some (suspects bench result log most)) = suspects_plan bench result log most
plan_of (Some (cover bench result log)) = cover_plan bench result log
plan_of (Some (bridges bench result log most within)) = bridges_plan bench result log most within
plan_of (Some (expect_at bench result log vectors)) = expect_at_plan bench result log vectors
plan_of (Some (suspects_at bench result log most vectors)) = suspects_at_plan bench result log most vectors
plan_of (Some (cover_at bench result log vectors)) = cover_at_plan bench result log vectors
plan_of (Some (bridges_at bench result log most within vectors)) = bridges_at_plan bench result log most within vectors

-- The endings that a run of the request, or of words that ask for nothing, may have.
abbrev pub endings_of : Option Request → List Ending
endings_of None = words_endings
endings_of (Some (gen bench result budgets)) = netlist_endings
endings_of (Some (top_up bench vectors result budgets)) = list_endings
endings_of (Some (check bench result)) = result_endings
endings_of (Some (make_dict kind bench result dict)) = result_endings
endings_of (Some (convert old new)) = dictionary_endings
endings_of (Some (diagnose dict log)) = dictionary_log_endings
endings_of (Some (list_faults bench)) = netlist_endings
endings_of (Some (simulate bench vectors)) = list_endings
endings_of (Some (synth n bench result)) = written_endings
endings_of (Some (compact bench result new)) = result_endings
endings_of (Some (rank dict log within)) = dictionary_log_endings
endings_of (Some (adapt bench result plan)) = result_endings
endings_of (Some (follow plan log)) = walk_endings
endings_of (Some (expect bench result log)) = result_endings
endings_of (Some (suspects bench result log most)) = result_log_endings
endings_of (Some (cover bench result log)) = result_log_endings
endings_of (Some (bridges bench result log most within)) = result_log_endings
endings_of (Some (expect_at bench result log vectors)) = result_log_endings
endings_of (Some (suspects_at bench result log most vectors)) = result_log_endings
endings_of (Some (cover_at bench result log vectors)) = result_log_endings
endings_of (Some (bridges_at bench result log most within vectors)) = result_log_endings

-- The run followed the plan of its request, with the endings and outputs of that request.
abbrev pub Ran : Option Request → Ending → State → State → Type 0
Ran request ending old new = Follows (plan_of request) (endings_of request) (outputs_of request) ending old new
