-- What has one spelling is the same.
use Rattle.std.proofs.Common.{◌≡◌, ◌∙◌, ℕ, Bool, true, false, List, [], ◌∷◌, ◌++◌, map, get_or, Option, Some, None, refl, sym, ap, ap₂, arith}
use Rattle.std.specs.Prelude.{All, ◌==◌, flat_map, codes, decimal, IsSome}
use Rattle.std.specs.Option.{option_to_list}
use Rattle.std.specs.List.{slice_split}
use Rattle.std.proofs.lemmas.Bool.{eqb-false}
use Rattle.std.proofs.lemmas.List.Elements.{All-nil, All-cons, All-head, All-tail, All-map, All-weaker}
use Rattle.clause_pool.specs.Literal.{Literal}
use Rattle.pair_sets.specs.declared.tree.Token.{Token}
use Rattle.pair_sets.specs.declared.tree.Token.TheVariants.{Split, Closed, Rest}
use Rattle.pair_miter.specs.ChainView.{ChainView}
use Rattle.result_records.specs.declared.record.Mark.{Mark}
use Rattle.result_records.specs.declared.record.Mark.TheVariants as mark
use Rattle.result_records.specs.declared.record.Proof.{Proof}
use Rattle.result_records.specs.declared.record.Proof.TheVariants as proof
use Rattle.result_records.specs.declared.record.Record.{Record}
use Rattle.result_records.specs.declared.record.Record.TheVariants.{Head, Budget, Pattern, Same, Class, Member, End}
use Rattle.text_fields.specs.Fields.{Text, IsNumber}
use Rattle.result_records.specs.Spelling.{fields, spelling, token_field, literal_field, step_fields, clause_fields, chain_fields, log_fields, evidence_fields, proof_fields, birth_fields, mark_field, IsLiteral, HasTokenSpelling, HasStepSpelling, HasLiteralSpelling, HasChainSpelling, HasTreeSpelling, HasProofSpelling, HasBirthSpelling, HasSpelling}
use Rattle.result_records.specs.Reading.{IsChainOf}
use Rattle.text_fields.proofs.BitLemmas.{bits_once}
use Rattle.text_fields.proofs.Cuts.{Begins, kinds_cut_once, tails}
use Rattle.result_records.proofs.FieldLemmas.{parted_spelling}
use Rattle.text_fields.proofs.NumberLemmas.{first_byte, first_digit, number_once}

-- the first byte of the first field
abbrev pub lead_byte : List Text → ℕ
lead_byte texts = first_byte (get_or texts 0 [])

-- ---- literals

signed : (positive other : Bool) (m n : ℕ) → IsNumber m → IsNumber n → literal_field (record { variable = m; positive = positive }) ≡ literal_field (record { variable = n; positive = other }) → (m ≡ n) × (positive ≡ other)
signed true true m n low high e = (number_once m n low high e, refl)
signed false false m n low high e = (number_once m n low high (tails e).1, refl)
signed true false m n low high e = absurd (omega (arith, first_digit m low, ap first_byte e))
signed false true m n low high e = absurd (omega (arith, first_digit n high, ap first_byte e))

pub literal_once : (l m : Literal) → IsLiteral l → IsLiteral m → literal_field l ≡ literal_field m → l ≡ m
literal_once l m low high e =
    let same = signed l.positive m.positive l.variable m.variable (omega (arith, low.1)) (omega (arith, high.1)) e in
    λ i. record { variable = same.0 i; positive = same.1 i }

-- ---- fields that begin no chain

abbrev pub IsUnmarked : Text → Type 0
IsUnmarked text = text ≡ codes ";" → ⊥

abbrev pub IsMark : Text → Type 0
IsMark text = text ≡ codes ";"

by_first : (text : Text) → (first_byte text ≡ 59 → ⊥) → IsUnmarked text
by_first text other e = other (ap first_byte e)

number_unmarked : (n : ℕ) → IsNumber n → IsUnmarked (decimal n)
number_unmarked n small = by_first (decimal n) (λ e. omega (arith, e, first_digit n small))

literal_by : (positive : Bool) (n : ℕ) → IsNumber n → IsUnmarked (literal_field (record { variable = n; positive = positive }))
literal_by true n small = number_unmarked n small
literal_by false n small = by_first (45 ∷ decimal n) (eqb-false 45 59 refl)

literal_unmarked : (l : Literal) → IsLiteral l → IsUnmarked (literal_field l)
literal_unmarked l small = literal_by l.positive l.variable (omega (arith, small.1))

pub token_unmarked : (token : Token) → HasTokenSpelling token → IsUnmarked (token_field token)
token_unmarked (Split source) small = number_unmarked source small
token_unmarked Closed small = by_first (codes ".") (eqb-false 46 59 refl)
token_unmarked Rest small = by_first (codes "?") (eqb-false 63 59 refl)

pub tree_unmarked : (tree : List Token) → All HasTokenSpelling tree → All IsUnmarked (map token_field tree)
tree_unmarked tree spelled = All-map IsUnmarked token_field tree (All-weaker HasTokenSpelling (λ token. IsUnmarked (token_field token)) token_unmarked tree spelled)

steps_unmarked : (steps : List (Literal × ℕ)) → All HasStepSpelling steps → All IsUnmarked (flat_map step_fields steps)
steps_unmarked [] all = All-nil IsUnmarked
steps_unmarked (step ∷ steps) all =
    let one = All-head HasStepSpelling step steps all in
    All-cons IsUnmarked (literal_field step.0) (decimal step.1 ∷ flat_map step_fields steps) (literal_unmarked step.0 one.0)
    (All-cons IsUnmarked (decimal step.1) (flat_map step_fields steps) (number_unmarked step.1 one.1) (steps_unmarked steps (All-tail HasStepSpelling step steps all)))

clauses_unmarked : (chain : ChainView) → HasChainSpelling chain → All IsUnmarked (clause_fields chain)
clauses_unmarked chain spelled = All-cons IsUnmarked (decimal chain.start) (flat_map step_fields chain.steps) (number_unmarked chain.start spelled.start) (steps_unmarked chain.steps spelled.steps)

-- ---- chains

pub fields_at : (at : Option Literal) (clauses : List Text) → HasLiteralSpelling at → All IsUnmarked clauses → All IsUnmarked (map literal_field (option_to_list at) ++ clauses)
fields_at None clauses small all = all
fields_at (Some l) clauses small all = All-cons IsUnmarked (literal_field l) clauses (literal_unmarked l small) all

pub chain_unmarked : (chain : ChainView) → HasChainSpelling chain → All IsUnmarked (chain_fields chain)
chain_unmarked chain spelled = fields_at chain.fresh_at (clause_fields chain) spelled.fresh_at (clauses_unmarked chain spelled)

steps_once : (steps others : List (Literal × ℕ)) → All HasStepSpelling steps → All HasStepSpelling others → flat_map step_fields steps ≡ flat_map step_fields others → steps ≡ others
steps_once [] [] first second e = refl
steps_once [] (other ∷ others) first second e = absurd (cc)
steps_once (step ∷ steps) [] first second e = absurd (cc)
steps_once (step ∷ steps) (other ∷ others) first second e =
    let one = All-head HasStepSpelling step steps first in
    let two = All-head HasStepSpelling other others second in
    let l = literal_once step.0 other.0 one.0 two.0 (tails e).0 in
    let n = number_once step.1 other.1 one.1 two.1 (tails (tails e).1).0 in
    let rest = steps_once steps others (All-tail HasStepSpelling step steps first) (All-tail HasStepSpelling other others second) (tails (tails e).1).1 in
    λ i. (l i, n i) ∷ rest i

clauses_once : (chain other : ChainView) → HasChainSpelling chain → HasChainSpelling other → clause_fields chain ≡ clause_fields other → (chain.start ≡ other.start) × (chain.steps ≡ other.steps)
clauses_once chain other first second e =
    (number_once chain.start other.start first.start second.start (tails e).0, steps_once chain.steps other.steps first.steps second.steps (tails e).1)

chain_by : (at at' : Option Literal) (chain other : ChainView) → HasLiteralSpelling at → HasLiteralSpelling at' → IsSome at → IsSome at' → HasChainSpelling chain → HasChainSpelling other
    → map literal_field (option_to_list at) ++ clause_fields chain ≡ map literal_field (option_to_list at') ++ clause_fields other → (at ≡ at') × (clause_fields chain ≡ clause_fields other)
chain_by None at' chain other low high some some' first second e = absurd (cc)
chain_by (Some l) None chain other low high some some' first second e = absurd (cc)
chain_by (Some l) (Some m) chain other low high some some' first second e = (ap (λ (k : Literal). Some k) (literal_once l m low high (tails e).0), (tails e).1)

pub chain_once : (fresh : Bool) (chain other : ChainView) → IsChainOf fresh chain → IsChainOf fresh other → chain_fields chain ≡ chain_fields other → chain ≡ other
chain_once true chain other first second e =
    let parts = chain_by chain.fresh_at other.fresh_at chain other first.0.fresh_at second.0.fresh_at first.1 second.1 first.0 second.0 e in
    let same = clauses_once chain other first.0 second.0 parts.1 in
    λ i. record { start = same.0 i; fresh_at = parts.0 i; steps = same.1 i }
chain_once false chain other first second e =
    let plain : clause_fields chain ≡ clause_fields other = ap (λ (at : Option Literal). map literal_field (option_to_list at) ++ clause_fields chain) (sym first.1) ∙ e ∙ ap (λ (at : Option Literal). map literal_field (option_to_list at) ++ clause_fields other) second.1 in
    let same = clauses_once chain other first.0 second.0 plain in
    let at = first.1 ∙ sym second.1 in
    λ i. record { start = same.0 i; fresh_at = at i; steps = same.1 i }

pub spelled_chain : (fresh : Bool) (chain : ChainView) → IsChainOf fresh chain → HasChainSpelling chain
spelled_chain true chain is = is.0
spelled_chain false chain is = is.0

pub begins_chain : (log : List ChainView) → Begins IsUnmarked IsMark (log_fields log)
begins_chain [] = tt
begins_chain (chain ∷ log) = refl

-- the fields up to the next chain
pub cut_chain : (xs ys us vs : List Text) → All IsUnmarked xs → All IsUnmarked ys → Begins IsUnmarked IsMark us → Begins IsUnmarked IsMark vs → xs ++ us ≡ ys ++ vs → (xs ≡ ys) × (us ≡ vs)
cut_chain xs ys us vs first second = kinds_cut_once IsUnmarked IsMark (λ text unmarked is. unmarked is) xs ys us vs first second

log_once : (fresh : Bool) (log others : List ChainView) → All (IsChainOf fresh) log → All (IsChainOf fresh) others → log_fields log ≡ log_fields others → log ≡ others
log_once fresh [] [] first second e = refl
log_once fresh [] (other ∷ others) first second e = absurd (cc)
log_once fresh (chain ∷ log) [] first second e = absurd (cc)
log_once fresh (chain ∷ log) (other ∷ others) first second e =
    let one = All-head (IsChainOf fresh) chain log first in
    let two = All-head (IsChainOf fresh) other others second in
    let parts = cut_chain (chain_fields chain) (chain_fields other) (log_fields log) (log_fields others) (chain_unmarked chain (spelled_chain fresh chain one)) (chain_unmarked other (spelled_chain fresh other two)) (begins_chain log) (begins_chain others) (tails e).1 in
    ap₂ (λ (x : ChainView) (xs : List ChainView). x ∷ xs) (chain_once fresh chain other one two parts.0) (log_once fresh log others (All-tail (IsChainOf fresh) chain log first) (All-tail (IsChainOf fresh) other others second) parts.1)

-- ---- trees

pub token_once : (token other : Token) → HasTokenSpelling token → HasTokenSpelling other → token_field token ≡ token_field other → token ≡ other
token_once (Split m) (Split n) low high e = ap (λ (k : ℕ). Split k) (number_once m n low high e)
token_once (Split m) Closed low high e = absurd (omega (arith, first_digit m low, ap first_byte e))
token_once (Split m) Rest low high e = absurd (omega (arith, first_digit m low, ap first_byte e))
token_once Closed (Split n) low high e = absurd (omega (arith, first_digit n high, ap first_byte e))
token_once Closed Closed low high e = refl
token_once Closed Rest low high e = absurd (eqb-false 46 63 refl (ap first_byte e))
token_once Rest (Split n) low high e = absurd (omega (arith, first_digit n high, ap first_byte e))
token_once Rest Closed low high e = absurd (eqb-false 63 46 refl (ap first_byte e))
token_once Rest Rest low high e = refl

tree_once : (tree other : List Token) → All HasTokenSpelling tree → All HasTokenSpelling other → map token_field tree ≡ map token_field other → tree ≡ other
tree_once [] [] first second e = refl
tree_once [] (y ∷ ys) first second e = absurd (cc)
tree_once (x ∷ xs) [] first second e = absurd (cc)
tree_once (x ∷ xs) (y ∷ ys) first second e =
    ap₂ (λ (t : Token) (ts : List Token). t ∷ ts) (token_once x y (All-head HasTokenSpelling x xs first) (All-head HasTokenSpelling y ys second) (tails e).0)
    (tree_once xs ys (All-tail HasTokenSpelling x xs first) (All-tail HasTokenSpelling y ys second) (tails e).1)

pub evidence_once : (fresh : Bool) (tree other : List Token) (log others : List ChainView) → HasTreeSpelling tree → HasTreeSpelling other → All (IsChainOf fresh) log → All (IsChainOf fresh) others
    → evidence_fields tree log ≡ evidence_fields other others → (tree ≡ other) × (log ≡ others)
evidence_once fresh tree other log others first second one two e =
    let parts = cut_chain (map token_field tree) (map token_field other) (log_fields log) (log_fields others) (tree_unmarked tree first.each) (tree_unmarked other second.each) (begins_chain log) (begins_chain others) e in
    (tree_once tree other first.each second.each parts.0, log_once fresh log others one two parts.1)

-- ---- proofs

-- the letter of a kind
abbrev pub proof_byte : Proof → ℕ
proof_byte proof.Collapse = 67
proof_byte (proof.Covered tree) = 84
proof_byte (proof.Refuted tree log) = 82
proof_byte (proof.Spent tree log) = 79

proof_once : (p q : Proof) → HasProofSpelling p → HasProofSpelling q → proof_fields p ≡ proof_fields q → p ≡ q
proof_once proof.Collapse proof.Collapse first second e = refl
proof_once (proof.Covered tree) (proof.Covered other) first second e = ap (λ (t : List Token). proof.Covered t) (tree_once tree other first.each second.each (tails e).1)
proof_once (proof.Refuted tree log) (proof.Refuted other others) first second e =
    let same = evidence_once false tree other log others first.0 second.0 first.1.1 second.1.1 (tails e).1 in
    ap₂ (λ (t : List Token) (chains : List ChainView). proof.Refuted t chains) same.0 same.1
proof_once (proof.Spent tree log) (proof.Spent other others) first second e =
    let same = evidence_once true tree other log others first.0 second.0 first.1 second.1 (tails e).1 in
    ap₂ (λ (t : List Token) (chains : List ChainView). proof.Spent t chains) same.0 same.1
proof_once p q first second e = absurd (eqb-false (proof_byte p) (proof_byte q) refl (ap lead_byte e))

-- ---- records

birth_once : (birth other : Option (ℕ × ℕ)) → HasBirthSpelling birth → HasBirthSpelling other → birth_fields birth ≡ birth_fields other → birth ≡ other
birth_once None None first second e = refl
birth_once None (Some other) first second e = absurd (omega (arith, first_digit other.0 second.0, ap lead_byte e))
birth_once (Some birth) None first second e = absurd (omega (arith, first_digit birth.0 first.0, ap lead_byte e))
birth_once (Some birth) (Some other) first second e =
    let parent = number_once birth.0 other.0 first.0 second.0 (tails e).0 in
    let pattern = number_once birth.1 other.1 first.1 second.1 (tails (tails e).1).0 in
    λ i. Some (parent i, pattern i)

abbrev mark_byte : Mark → ℕ
mark_byte mark.Rep = 114
mark_byte mark.Equal = 101
mark_byte mark.Spent = 111

pub mark_once : (m other : Mark) → mark_field m ≡ mark_field other → m ≡ other
mark_once mark.Rep mark.Rep e = refl
mark_once mark.Equal mark.Equal e = refl
mark_once mark.Spent mark.Spent e = refl
mark_once m other e = absurd (eqb-false (mark_byte m) (mark_byte other) refl (ap first_byte e))

-- the first byte of a record of each kind
abbrev pub kind_byte : Record → ℕ
kind_byte (Head sources positions numbers) = 100
kind_byte (Budget budgets) = 98
kind_byte (Pattern bits) = 112
kind_byte (Same evidence) = 115
kind_byte (Class number birth) = 99
kind_byte (Member number class m) = 109
kind_byte End = 101

pub fields_once : (r other : Record) → HasSpelling r → HasSpelling other → fields r ≡ fields other → r ≡ other
fields_once (Head a b c) (Head x y z) first second e =
    let rest = (tails (tails e).1).1 in
    let s = number_once a x first.0 second.0 (tails rest).0 in
    let p = number_once b y first.1 second.1 (tails (tails rest).1).0 in
    let n = number_once c z first.2 second.2 (tails (tails (tails rest).1).1).0 in
    λ i. Head (s i) (p i) (n i)
fields_once (Budget b) (Budget x) first second e =
    let rest = (tails e).1 in
    let blocks = number_once b.blocks x.blocks first.0 second.0 (tails rest).0 in
    let cubes = number_once b.cubes x.cubes first.1 second.1 (tails (tails rest).1).0 in
    let conflicts = number_once b.conflicts x.conflicts first.2 second.2 (tails (tails (tails rest).1).1).0 in
    λ i. Budget (record { blocks = blocks i; cubes = cubes i; conflicts = conflicts i })
fields_once (Pattern bits) (Pattern others) first second e = ap (λ (vs : List Bool). Pattern vs) (bits_once bits others (tails (tails e).1).0)
fields_once (Same a) (Same b) first second e =
    let rest = (tails e).1 in
    let member = number_once a.member b.member first.0 second.0 (tails rest).0 in
    let partner = number_once a.partner b.partner first.1 second.1 (tails (tails rest).1).0 in
    let p = proof_once a.proof b.proof first.2 second.2 (tails (tails rest).1).1 in
    λ i. Same (record { member = member i; partner = partner i; proof = p i })
fields_once (Class n birth) (Class m other) first second e =
    let rest = (tails e).1 in
    ap₂ (λ (k : ℕ) (b : Option (ℕ × ℕ)). Class k b) (number_once n m first.0 second.0 (tails rest).0) (birth_once birth other first.1 second.1 (tails rest).1)
fields_once (Member n class m) (Member n' class' m') first second e =
    let rest = (tails e).1 in
    let number = number_once n n' first.0 second.0 (tails rest).0 in
    let class_is = number_once class class' first.1 second.1 (tails (tails rest).1).0 in
    let mark_is = mark_once m m' (tails (tails (tails rest).1).1).0 in
    λ i. Member (number i) (class_is i) (mark_is i)
fields_once End End first second e = refl
fields_once r other first second e = absurd (eqb-false (kind_byte r) (kind_byte other) refl (ap lead_byte e))

pub spelling_once : (r other : Record) → HasSpelling r → HasSpelling other → spelling r ≡ spelling other → r ≡ other
spelling_once r other first second e = fields_once r other first second (sym (parted_spelling r first) ∙ ap (λ (text : Text). slice_split (λ b. b == 32) text) e ∙ parted_spelling other second)
