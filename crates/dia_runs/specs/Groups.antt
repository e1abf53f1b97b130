-- The kinds of requests, by the crate of their commands.
use Rattle.std.specs.Prelude.{⊤}
use Rattle.request_words.specs.declared.request.Request.{Request}
use Rattle.request_words.specs.declared.request.Request.TheVariants.{Gen, TopUp, Check, MakeDict, Convert, Diagnose, ListFaults, Simulate, Synth, Compact, Rank, Adapt, Follow, Expect, Suspects, Cover, Bridges, ExpectAt, SuspectsAt, CoverAt, BridgesAt}

-- The request makes or checks a result, or leaves out patterns of one.
abbrev pub IsOfResults : Request → Type 0
IsOfResults (Gen bench result budgets) = ⊤
IsOfResults (TopUp bench vectors result budgets) = ⊤
IsOfResults (Check bench result) = ⊤
IsOfResults (Compact bench result new) = ⊤
IsOfResults (Synth n bench result) = ⊤
IsOfResults (MakeDict kind bench result dict) = ⊥
IsOfResults (Convert old new) = ⊥
IsOfResults (Diagnose dict log) = ⊥
IsOfResults (Rank dict log within) = ⊥
IsOfResults (Adapt bench result plan) = ⊥
IsOfResults (Follow plan log) = ⊥
IsOfResults (ListFaults bench) = ⊥
IsOfResults (Simulate bench vectors) = ⊥
IsOfResults (Expect bench result log) = ⊥
IsOfResults (Suspects bench result log most) = ⊥
IsOfResults (Cover bench result log) = ⊥
IsOfResults (Bridges bench result log most within) = ⊥
IsOfResults (ExpectAt bench result log vectors) = ⊥
IsOfResults (SuspectsAt bench result log most vectors) = ⊥
IsOfResults (CoverAt bench result log vectors) = ⊥
IsOfResults (BridgesAt bench result log most within vectors) = ⊥

-- The request is about a dictionary or an adaptive plan.
abbrev pub IsOfDictionaries : Request → Type 0
IsOfDictionaries (Gen bench result budgets) = ⊥
IsOfDictionaries (TopUp bench vectors result budgets) = ⊥
IsOfDictionaries (Check bench result) = ⊥
IsOfDictionaries (Compact bench result new) = ⊥
IsOfDictionaries (Synth n bench result) = ⊥
IsOfDictionaries (MakeDict kind bench result dict) = ⊤
IsOfDictionaries (Convert old new) = ⊤
IsOfDictionaries (Diagnose dict log) = ⊤
IsOfDictionaries (Rank dict log within) = ⊤
IsOfDictionaries (Adapt bench result plan) = ⊤
IsOfDictionaries (Follow plan log) = ⊤
IsOfDictionaries (ListFaults bench) = ⊥
IsOfDictionaries (Simulate bench vectors) = ⊥
IsOfDictionaries (Expect bench result log) = ⊥
IsOfDictionaries (Suspects bench result log most) = ⊥
IsOfDictionaries (Cover bench result log) = ⊥
IsOfDictionaries (Bridges bench result log most within) = ⊥
IsOfDictionaries (ExpectAt bench result log vectors) = ⊥
IsOfDictionaries (SuspectsAt bench result log most vectors) = ⊥
IsOfDictionaries (CoverAt bench result log vectors) = ⊥
IsOfDictionaries (BridgesAt bench result log most within vectors) = ⊥

-- The request lists something of a netlist, a list of vectors or a result, or writes the log of a good chip, and no
-- list of vectors was applied.
abbrev pub IsOfListings : Request → Type 0
IsOfListings (Gen bench result budgets) = ⊥
IsOfListings (TopUp bench vectors result budgets) = ⊥
IsOfListings (Check bench result) = ⊥
IsOfListings (Compact bench result new) = ⊥
IsOfListings (Synth n bench result) = ⊥
IsOfListings (MakeDict kind bench result dict) = ⊥
IsOfListings (Convert old new) = ⊥
IsOfListings (Diagnose dict log) = ⊥
IsOfListings (Rank dict log within) = ⊥
IsOfListings (Adapt bench result plan) = ⊥
IsOfListings (Follow plan log) = ⊥
IsOfListings (ListFaults bench) = ⊤
IsOfListings (Simulate bench vectors) = ⊤
IsOfListings (Expect bench result log) = ⊤
IsOfListings (Suspects bench result log most) = ⊤
IsOfListings (Cover bench result log) = ⊤
IsOfListings (Bridges bench result log most within) = ⊤
IsOfListings (ExpectAt bench result log vectors) = ⊥
IsOfListings (SuspectsAt bench result log most vectors) = ⊥
IsOfListings (CoverAt bench result log vectors) = ⊥
IsOfListings (BridgesAt bench result log most within vectors) = ⊥
