-- What a reader returns, from what the readers of its parts return.
use Rattle.std.proofs.Common.{◌≡◌, ◌≢◌, ◌∙◌, ℕ, ◌-◌, ◌<◌, ◌≤◌, Bool, true, false, List, [], ◌∷◌, ◌++◌, map, length, take, drop, get_or, Option, Some, None, Result, Ok, Err, refl, sym, ap, arith, if◌then◌else◌}
use Rattle.std.specs.Prelude.{All, ◌==◌, flat_map, codes, decimal, IfOk, IsErrOf, IsSome, MatchOption}
use Rattle.std.specs.Option.{option_to_list}
use Rattle.std.specs.List.{slice_split}
use Rattle.std.proofs.lemmas.List.{take_all}
use Rattle.clause_pool.specs.Literal.{Literal}
use Rattle.pair_sets.specs.declared.tree.Token.{Token}
use Rattle.pair_miter.specs.ChainView.{ChainView}
use Rattle.result_records.specs.declared.record.Proof.{Proof}
use Rattle.result_records.specs.declared.record.Record.{Record}
use Rattle.result_records.specs.declared.fault.RecordFault.{RecordFault}
use Rattle.result_records.specs.declared.fault.RecordFault.TheVariants.{Syntax, NoMemory}
use Rattle.text_fields.specs.Fields.{Text, IsNumber}
use Rattle.result_records.specs.Spelling.{fields, spelling, literal_field, step_fields, clause_fields, chain_fields, evidence_fields, proof_fields, HasTreeSpelling, HasProofSpelling, IsVariableNumber, IsLiteral, HasStepSpelling, HasLiteralSpelling, HasChainSpelling, IsFreshChain, HasSpelling, IsNoSpelling}
use Rattle.result_records.specs.Reading.{Reads, IsChainOf}
use Rattle.text_fields.proofs.Cuts.{tails}
use Rattle.text_fields.proofs.NumberLemmas.{first_byte, first_digit, number_once}
use Rattle.result_records.proofs.OnceLemmas.{literal_once}
use Rattle.result_records.proofs.ReadLemmas.{spelled_by, fields_by}

-- a fault that is passed on
pub turned : {X Y Z W : Type 0} (P : X → Type 0) (f : X → Y) (y : Y) (Q : Z → Type 0) (g : Z → W) (w : W) (fault : RecordFault) → Reads P f y (Err fault)
    → (((x : X) → P x → f x ≡ y → ⊥) → (z : Z) → Q z → g z ≡ w → ⊥) → Reads Q g w (Err fault)
turned P f y Q g w Syntax reads turn = turn reads
turned P f y Q g w NoMemory reads turn = tt

-- fields of a tree and a log that can't be read, after the letter of their kind
pub unread : (fresh : Bool) (texts all : List Text) (fault : RecordFault) → Reads (λ (both : List Token × List ChainView). HasTreeSpelling both.0 × All (IsChainOf fresh) both.1) (λ both. evidence_fields both.0 both.1) texts (Err fault)
    → (((tree : List Token) (log : List ChainView) → HasTreeSpelling tree → All (IsChainOf fresh) log → evidence_fields tree log ≡ texts → ⊥) → (p : Proof) → HasProofSpelling p → proof_fields p ≡ all → ⊥) → Reads HasProofSpelling proof_fields all (Err fault)
unread fresh texts all fault reads turn =
    turned (λ (both : List Token × List ChainView). HasTreeSpelling both.0 × All (IsChainOf fresh) both.1) (λ both. evidence_fields both.0 both.1) texts HasProofSpelling proof_fields all fault reads
    (λ never. turn (λ tree log spelled each. never (tree, log) (spelled, each)))

-- three items
pub three_texts : {B : Type 0} (now : B → Text) (xs : List B) (d : B) → 3 ≤ length xs → length xs < 4 → map now xs ≡ now (get_or xs 0 d) ∷ now (get_or xs 1 d) ∷ now (get_or xs 2 d) ∷ []
three_texts now [] d low high = absurd (omega (arith, low))
three_texts now (x ∷ []) d low high = absurd (omega (arith, low))
three_texts now (x ∷ y ∷ []) d low high = absurd (omega (arith, low))
three_texts now (x ∷ y ∷ z ∷ []) d low high = refl
three_texts now (x ∷ y ∷ z ∷ w ∷ more) d low high = absurd (omega (arith, high))

-- two items, and those after them
pub two_texts : {B : Type 0} (now : B → Text) (xs : List B) (d : B) → 2 ≤ length xs → map now xs ≡ now (get_or xs 0 d) ∷ now (get_or xs 1 d) ∷ drop 2 (map now xs)
two_texts now [] d low = absurd (omega (arith, low))
two_texts now (x ∷ []) d low = absurd (omega (arith, low))
two_texts now (x ∷ y ∷ xs) d low = refl

pub behind_two : {B : Type 0} (now : B → Text) (xs : List B) → 2 ≤ length xs → map now (take (length xs - 2) (drop 2 xs)) ≡ drop 2 (map now xs)
behind_two now [] low = absurd (omega (arith, low))
behind_two now (x ∷ []) low = absurd (omega (arith, low))
behind_two now (x ∷ y ∷ xs) low = ap (map now) (take_all (length (x ∷ y ∷ xs) - 2) xs (omega arith))

-- ---- literals

no_negative : (positive : Bool) (n : ℕ) (digits : Text) → IsVariableNumber n → ((m : ℕ) → IsVariableNumber m → decimal m ≡ digits → ⊥) → literal_field (record { variable = n; positive = positive }) ≡ 45 ∷ digits → ⊥
no_negative true n digits small never e = omega (arith, first_digit n (omega (arith, small.1)), ap first_byte e)
no_negative false n digits small never e = never n small (tails e).1

negative_none : (field digits : Text) → field ≡ 45 ∷ digits → ((m : ℕ) → IsVariableNumber m → decimal m ≡ digits → ⊥) → (l : Literal) → IsLiteral l → literal_field l ≡ field → ⊥
negative_none field digits is never l small e = no_negative l.positive l.variable digits small never (e ∙ is)

no_positive : (positive : Bool) (n : ℕ) (field : Text) → IsVariableNumber n → ((rest : Text) → field ≡ 45 ∷ rest → ⊥) → ((m : ℕ) → IsVariableNumber m → decimal m ≡ field → ⊥) → literal_field (record { variable = n; positive = positive }) ≡ field → ⊥
no_positive true n field small dash never e = never n small e
no_positive false n field small dash never e = dash (decimal n) (sym e)

positive_none : (field : Text) → ((rest : Text) → field ≡ 45 ∷ rest → ⊥) → ((m : ℕ) → IsVariableNumber m → decimal m ≡ field → ⊥) → (l : Literal) → IsLiteral l → literal_field l ≡ field → ⊥
positive_none field dash never l small e = no_positive l.positive l.variable field small dash never e

-- what is read after a dash, and what is read without one
abbrev pub LiteralWith : Bool → Text → Option Literal → Type 0
LiteralWith positive digits r = MatchOption r ((n : ℕ) → IsVariableNumber n → decimal n ≢ digits) (λ l. IsVariableNumber l.variable × (decimal l.variable ≡ digits) × (l.positive ≡ positive))

abbrev pub LiteralOf : Text → Option Literal → Type 0
LiteralOf field r = MatchOption r ((l : Literal) → IsLiteral l → literal_field l ≢ field) (λ l. IsLiteral l × (literal_field l ≡ field))

spelled_as : (positive : Bool) (digits : Text) (l : Literal) → decimal l.variable ≡ digits → l.positive ≡ positive → literal_field l ≡ (if positive then [] else codes "-") ++ digits
spelled_as positive digits l is sign = ap (λ (b : Bool). (if b then [] else codes "-") ++ decimal l.variable) sign ∙ ap (λ (text : Text). (if positive then [] else codes "-") ++ text) is

pub negative_read : (field digits : Text) (r : Option Literal) → field ≡ 45 ∷ digits → LiteralWith false digits r → LiteralOf field r
negative_read field digits (Some l) is read = (read.0, spelled_as false digits l read.1 read.2 ∙ sym is)
negative_read field digits None is never = negative_none field digits is never

pub positive_read : (field : Text) (r : Option Literal) → ((rest : Text) → field ≡ 45 ∷ rest → ⊥) → LiteralWith true field r → LiteralOf field r
positive_read field (Some l) dash read = (read.0, spelled_as true field l read.1 read.2)
positive_read field None dash never = positive_none field dash never

-- ---- chains

-- The chain has this start and literal, and its steps can be written.
abbrev pub IsStepped : ℕ → Option Literal → ChainView → Type 0
IsStepped start at other = All HasStepSpelling other.steps × (other.start ≡ start) × (other.fresh_at ≡ at)

pub clauses_read : (start : ℕ) (at : Option Literal) (field : Text) (texts : List Text) (r : Result ChainView RecordFault) → IsNumber start → HasLiteralSpelling at → decimal start ≡ field
    → Reads (IsStepped start at) (λ (other : ChainView). flat_map step_fields other.steps) texts r → Reads (λ (chain : ChainView). HasChainSpelling chain × (chain.fresh_at ≡ at)) clause_fields (field ∷ texts) r
clauses_read start at field texts (Ok chain) small literal is reads =
    ((record { start = rw reads.0.1 small; fresh_at = rw reads.0.2 literal; steps = reads.0.0 }, reads.0.2), (λ i. ap decimal reads.0.1 i ∷ reads.1 i) ∙ ap (λ (text : Text). text ∷ texts) is)
clauses_read start at field texts (Err Syntax) small literal is reads = λ chain spelled e.
    reads chain (spelled.0.steps, number_once chain.start start spelled.0.start small ((tails e).0 ∙ sym is), spelled.1) (tails e).1
clauses_read start at field texts (Err NoMemory) small literal is reads = tt

fresh_by : (at : Literal) (field : Text) (texts : List Text) (o : Option Literal) (clauses : List Text) → IsLiteral at → literal_field at ≡ field → HasLiteralSpelling o → IsSome o
    → map literal_field (option_to_list o) ++ clauses ≡ field ∷ texts → (o ≡ Some at) × (clauses ≡ texts)
fresh_by at field texts None clauses small is spelled some e = absurd (cc)
fresh_by at field texts (Some l) clauses small is spelled some e = (ap (λ (k : Literal). Some k) (literal_once l at spelled small ((tails e).0 ∙ sym is)), (tails e).1)

pub fresh_read : (at : Literal) (field : Text) (texts : List Text) (r : Result ChainView RecordFault) → IsLiteral at → literal_field at ≡ field
    → Reads (λ (chain : ChainView). HasChainSpelling chain × (chain.fresh_at ≡ Some at)) clause_fields texts r → Reads IsFreshChain chain_fields (field ∷ texts) r
fresh_read at field texts (Ok chain) small is reads =
    ((reads.0.0, rw reads.0.1 refl), ap (λ (o : Option Literal). map literal_field (option_to_list o) ++ clause_fields chain) reads.0.1 ∙ (λ i. is i ∷ reads.1 i))
fresh_read at field texts (Err Syntax) small is reads = λ chain spelled e.
    let parts = fresh_by at field texts chain.fresh_at (clause_fields chain) small is spelled.0.fresh_at spelled.1 e in
    reads chain (spelled.0, parts.0) parts.1
fresh_read at field texts (Err NoMemory) small is reads = tt

-- ---- lines

pub record_read : (line : Text) (texts : List Text) → texts ≡ slice_split (λ b. b == 32) line → (r : Result Record RecordFault) → Reads HasSpelling fields texts r → IfOk r (λ r. HasSpelling r × (spelling r ≡ line))
record_read line texts cut (Ok r) reads = (reads.0, spelled_by r line (reads.1 ∙ cut))
record_read line texts cut (Err fault) reads = tt

pub record_refused : (line : Text) (texts : List Text) → texts ≡ slice_split (λ b. b == 32) line → (r : Result Record RecordFault) → Reads HasSpelling fields texts r → IsErrOf r Syntax → IsNoSpelling line
record_refused line texts cut (Ok r) reads err = absurd (cc)
record_refused line texts cut (Err Syntax) reads err = λ r small e. reads r small (fields_by r line small e ∙ sym cut)
record_refused line texts cut (Err NoMemory) reads err = absurd (cc)
