-- How a record is written: its fields, separated by one blank each.
use Rattle.std.specs.Prelude.{◌≡◌, ◌≢◌, ℕ, ◌<◌, ◌^◌, List, [], ◌∷◌, ◌++◌, map, flat_map, codes, decimal, Option, None, Some, IsSome, if◌then◌else◌, All, ⊤}
use Rattle.std.specs.Option.{option_to_list}
use Rattle.std.specs.List.{join_with_byte}
use Rattle.net_model.specs.Ascii.{line_feed, space}
use Rattle.net_model.specs.BitText.{bits_text}
use Rattle.text_fields.specs.Fields.{Text, IsNumber}
use Rattle.clause_pool.specs.Literal.{Literal}
use Rattle.pair_miter.specs.ChainView.{ChainView}
use Rattle.pair_sets.specs.declared.tree.Token.{Token}
use Rattle.pair_sets.specs.declared.tree.Token.TheVariants.{Split, Closed, Rest}
use Rattle.result_records.specs.declared.record.Mark.{Mark}
use Rattle.result_records.specs.declared.record.Mark.TheVariants as mark
use Rattle.result_records.specs.declared.record.Proof.{Proof}
use Rattle.result_records.specs.declared.record.Proof.TheVariants as proof
use Rattle.result_records.specs.declared.record.Record.{Record}
use Rattle.result_records.specs.declared.record.Record.TheVariants.{Head, Budget, Pattern, Same, Class, Member, End}

-- ---- fields

-- The field of a token: the source of a split, a point for a closed leaf, a question mark for an open one.
abbrev pub token_field : Token → Text
token_field (Split source) = decimal source
token_field Closed = codes "."
token_field Rest = codes "?"

-- The field of a literal: the number of its variable, with a dash before it if the literal is negative.
abbrev pub literal_field : Literal → Text
literal_field l = (if l.positive then [] else codes "-") ++ decimal l.variable

-- The fields of a step: its pivot, and the number of the clause that is resolved with.
abbrev pub step_fields : Literal × ℕ → List Text
step_fields step = literal_field step.0 ∷ decimal step.1 ∷ []

-- The fields of the clauses of a chain.
abbrev pub clause_fields : ChainView → List Text
clause_fields chain = decimal chain.start ∷ flat_map step_fields chain.steps

-- The fields of a chain: the literal at which it is fresh, if it names one, and its clauses.
abbrev pub chain_fields : ChainView → List Text
chain_fields chain = map literal_field (option_to_list chain.fresh_at) ++ clause_fields chain

-- The fields of a log: each chain after a field of its own.
abbrev pub log_fields : List ChainView → List Text
log_fields log = flat_map (λ chain. codes ";" ∷ chain_fields chain) log

-- The fields of a tree and a log.
abbrev pub evidence_fields : List Token → List ChainView → List Text
evidence_fields tree log = map token_field tree ++ log_fields log

-- The fields of a proof: the letter of its kind, its tree and its log.
abbrev pub proof_fields : Proof → List Text
proof_fields proof.Collapse = codes "C" ∷ []
proof_fields (proof.Covered tree) = codes "T" ∷ map token_field tree
proof_fields (proof.Refuted tree log) = codes "R" ∷ evidence_fields tree log
proof_fields (proof.Spent tree log) = codes "O" ∷ evidence_fields tree log

-- The fields of a birth: the parent and the pattern, or two dashes for none.
abbrev pub birth_fields : Option (ℕ × ℕ) → List Text
birth_fields None = codes "-" ∷ codes "-" ∷ []
birth_fields (Some birth) = decimal birth.0 ∷ decimal birth.1 ∷ []

-- The field of a mark.
abbrev pub mark_field : Mark → Text
mark_field mark.Rep = codes "rep"
mark_field mark.Equal = codes "equal"
mark_field mark.Spent = codes "open"

-- The fields of a record.
abbrev pub fields : Record → List Text
fields (Head sources positions numbers) = codes "diatest" ∷ codes "1" ∷ decimal sources ∷ decimal positions ∷ decimal numbers ∷ []
fields (Budget budgets) = codes "budget" ∷ decimal budgets.blocks ∷ decimal budgets.cubes ∷ decimal budgets.conflicts ∷ []
fields (Pattern bits) = codes "pattern" ∷ bits_text bits ∷ []
fields (Same evidence) = codes "same" ∷ decimal evidence.member ∷ decimal evidence.partner ∷ proof_fields evidence.proof
fields (Class number birth) = codes "class" ∷ decimal number ∷ birth_fields birth
fields (Member number class mark) = codes "member" ∷ decimal number ∷ decimal class ∷ mark_field mark ∷ []
fields End = codes "end" ∷ []

-- The fields as text, a blank before each.
abbrev pub behind_blanks : List Text → Text
behind_blanks texts = flat_map (λ text. space ∷ text) texts

-- The record as text: its fields with one blank between two, without an LF.
unfoldable pub spelling : Record → Text
spelling r = join_with_byte space (fields r)

-- The records as text: each on a line, with its LF.
abbrev pub text_of : List Record → Text
text_of records = flat_map (λ r. spelling r ++ line_feed ∷ []) records

-- ---- which records can be written

-- The source of a split is within its range.
abbrev pub HasTokenSpelling : Token → Type 0
HasTokenSpelling (Split source) = IsNumber source
HasTokenSpelling Closed = ⊤
HasTokenSpelling Rest = ⊤

-- The tree has a token, and each token can be written.
pub record HasTreeSpelling (tree : List Token) : Type 0 where
  pub nonempty : tree ≢ []
  pub each : All HasTokenSpelling tree

-- The number is that of a variable.
abbrev pub IsVariableNumber : ℕ → Type 0
IsVariableNumber n = (0 < n) × (n < 2 ^ 31)

-- The literal's variable is within its range.
abbrev pub IsLiteral : Literal → Type 0
IsLiteral l = IsVariableNumber l.variable

-- The pivot and the number of the clause are within their ranges.
abbrev pub HasStepSpelling : Literal × ℕ → Type 0
HasStepSpelling step = IsLiteral step.0 × IsNumber step.1

-- The literal, if there is one, is within its range.
abbrev pub HasLiteralSpelling : Option Literal → Type 0
HasLiteralSpelling None = ⊤
HasLiteralSpelling (Some l) = IsLiteral l

-- The numbers and literals of the chain are within their ranges.
pub record HasChainSpelling (chain : ChainView) : Type 0 where
  pub start : IsNumber chain.start
  pub fresh_at : HasLiteralSpelling chain.fresh_at
  pub steps : All HasStepSpelling chain.steps

-- The chain can be written and names no literal at which it is fresh, as in a refutation.
abbrev pub IsPlainChain : ChainView → Type 0
IsPlainChain chain = HasChainSpelling chain × (chain.fresh_at ≡ None)

-- The chain can be written and names a literal at which it is fresh, as in a spent log.
abbrev pub IsFreshChain : ChainView → Type 0
IsFreshChain chain = HasChainSpelling chain × IsSome chain.fresh_at

-- A refutation has a chain, and each of its chains can be written. A spent log may have no chain.
abbrev pub HasRefutationSpelling : List ChainView → Type 0
HasRefutationSpelling log = (log ≢ []) × All IsPlainChain log

-- The tree and the log of the proof can be written.
abbrev pub HasProofSpelling : Proof → Type 0
HasProofSpelling proof.Collapse = ⊤
HasProofSpelling (proof.Covered tree) = HasTreeSpelling tree
HasProofSpelling (proof.Refuted tree log) = HasTreeSpelling tree × HasRefutationSpelling log
HasProofSpelling (proof.Spent tree log) = HasTreeSpelling tree × All IsFreshChain log

-- The numbers of the birth, if there is one, are within their ranges.
abbrev pub HasBirthSpelling : Option (ℕ × ℕ) → Type 0
HasBirthSpelling None = ⊤
HasBirthSpelling (Some birth) = IsNumber birth.0 × IsNumber birth.1

-- The record can be written: its numbers and literals are within their ranges, a tree has a token and a refutation a
-- chain, and the chains of a spent log name literals, those of a refutation don't.
abbrev pub HasSpelling : Record → Type 0
HasSpelling (Head sources positions numbers) = IsNumber sources × IsNumber positions × IsNumber numbers
HasSpelling (Budget budgets) = IsNumber budgets.blocks × IsNumber budgets.cubes × IsNumber budgets.conflicts
HasSpelling (Pattern bits) = ⊤
HasSpelling (Same evidence) = IsNumber evidence.member × IsNumber evidence.partner × HasProofSpelling evidence.proof
HasSpelling (Class number birth) = IsNumber number × HasBirthSpelling birth
HasSpelling (Member number class mark) = IsNumber number × IsNumber class
HasSpelling End = ⊤

-- The text is the spelling of no record that can be written.
abbrev pub IsNoSpelling : Text → Type 0
IsNoSpelling text = (r : Record) → HasSpelling r → spelling r ≢ text
