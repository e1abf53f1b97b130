-- Laws: what is refused isn't in the format, it is refused by at most one rule at one line, and a text has at most one
-- reading.
use Rattle.std.specs.Prelude.{◌≡◌, ℕ, ◌<◌, ◌^◌, Bool, List}
use Rattle.diagnose.specs.declared.fault.LogKind.{LogKind}
use Rattle.text_fields.specs.Fields.{Text}
use Rattle.diagnose.specs.LogText.{IsLog, TesterLogRefused}
use Rattle.diagnose.specs.VectorText.{IsVectorList, VectorsRefused}

-- if there are fewer than 2^32 patterns, a refused log isn't the log of any rows
abbrev pub RefusedTesterLogIsWrong : Type 0
RefusedTesterLogIsWrong = (patterns positions : ℕ) (text : Text) (observed : List (List Bool)) (kind : LogKind) (line : ℕ) → patterns < 2 ^ 32 → TesterLogRefused patterns positions text kind line → ¬ IsLog patterns positions text observed

-- if there are fewer than 2^32 patterns, a log is refused by at most one rule at one line
abbrev pub OneTesterLogRefusal : Type 0
OneTesterLogRefusal = (patterns positions : ℕ) (text : Text) (kind other : LogKind) (line number : ℕ) → patterns < 2 ^ 32 → TesterLogRefused patterns positions text kind line → TesterLogRefused patterns positions text other number → (kind ≡ other) × (line ≡ number)

-- a text is the log of at most one list of rows
abbrev pub OneLogReading : Type 0
OneLogReading = (patterns positions : ℕ) (text : Text) (rows others : List (List Bool)) → IsLog patterns positions text rows → IsLog patterns positions text others → rows ≡ others

-- a refused list isn't the list of any vectors
abbrev pub RefusedListIsWrong : Type 0
RefusedListIsWrong = (sources : ℕ) (text : Text) (vectors : List (List Bool)) (kind : LogKind) (line : ℕ) → VectorsRefused sources text kind line → ¬ IsVectorList sources text vectors

-- a list is refused by at most one rule at one line
abbrev pub OneListRefusal : Type 0
OneListRefusal = (sources : ℕ) (text : Text) (kind other : LogKind) (line number : ℕ) → VectorsRefused sources text kind line → VectorsRefused sources text other number → (kind ≡ other) × (line ≡ number)

-- a text is the list of at most one list of vectors
abbrev pub OneListReading : Type 0
OneListReading = (sources : ℕ) (text : Text) (vectors others : List (List Bool)) → IsVectorList sources text vectors → IsVectorList sources text others → vectors ≡ others
