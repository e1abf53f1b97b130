-- The bytes of fields, and fields that are split at blanks again.
use Rattle.std.proofs.Common.{◌≡◌, ◌∙◌, ℕ, ◌<◌, ◌≤◌, Bool, true, false, ◌&&◌, List, [], ◌∷◌, ◌++◌, map, get_or, Option, Some, None, refl, ap, arith, lit<, lit≤}
use Rattle.std.specs.Prelude.{All, Contains, ◌==◌, flat_map, codes, decimal}
use Rattle.std.specs.Option.{option_to_list}
use Rattle.std.specs.List.{slice_split, join_with_byte, AllByRecursion}
use Rattle.std.proofs.Math.Dec.{ltb, leb}
use Rattle.std.proofs.lemmas.Bool.{and_parts, ltb-true, leb-true, ne_eqb}
use Rattle.std.proofs.lemmas.List.Splits.{slice_split_none, slice_split_at}
use Rattle.std.proofs.lemmas.List.Elements.{All-nil, All-cons, All-head, All-tail, All-append, All-map, All-weaker, All-contains}
use Rattle.net_model.specs.BitText.{bit_digit, bits_text}
use Rattle.clause_pool.specs.Literal.{Literal}
use Rattle.pair_sets.specs.declared.tree.Token.{Token}
use Rattle.pair_sets.specs.declared.tree.Token.TheVariants.{Split, Closed, Rest}
use Rattle.pair_miter.specs.ChainView.{ChainView}
use Rattle.result_records.specs.declared.record.Mark.{Mark}
use Rattle.result_records.specs.declared.record.Mark.TheVariants as mark
use Rattle.result_records.specs.declared.record.Proof.{Proof}
use Rattle.result_records.specs.declared.record.Proof.TheVariants as proof
use Rattle.result_records.specs.declared.record.Record.{Record}
use Rattle.result_records.specs.declared.record.Record.TheVariants.{Head, Budget, Pattern, Same, Class, Member, End}
use Rattle.text_fields.specs.Fields.{Text, IsNumber}
use Rattle.result_records.specs.Spelling.{fields, spelling, token_field, literal_field, step_fields, clause_fields, chain_fields, log_fields, proof_fields, birth_fields, mark_field, IsLiteral, HasTokenSpelling, HasStepSpelling, HasLiteralSpelling, HasChainSpelling, IsPlainChain, IsFreshChain, HasProofSpelling, HasBirthSpelling, HasSpelling}
use Rattle.text_fields.proofs.NumberLemmas.{IsDecimalDigit, number_digits}

-- A byte is a visible character of ASCII.
abbrev pub IsVisible : ℕ → Type 0
IsVisible b = (33 ≤ b) × (b < 127)

-- A field has only visible bytes.
abbrev pub IsField : Text → Type 0
IsField field = All IsVisible field

abbrev all_visible : Text → Bool
all_visible [] = true
all_visible (b ∷ bs) = (leb 33 b && ltb b 127) && all_visible bs

visible : (bs : Text) → all_visible bs ≡ true → IsField bs
visible [] h = All-nil IsVisible
visible (b ∷ bs) h =
    let parts = and_parts (leb 33 b && ltb b 127) (all_visible bs) h in
    let both = and_parts (leb 33 b) (ltb b 127) parts.0 in
    All-cons IsVisible b bs (leb-true 33 b both.0, ltb-true b 127 both.1) (visible bs parts.1)

-- ---- the fields of records

pub number_field : (n : ℕ) → IsNumber n → IsField (decimal n)
number_field n small = All-weaker IsDecimalDigit IsVisible (λ b digit. (omega (arith, digit.0), omega (arith, digit.1))) (decimal n) (number_digits n small)

literal_by : (positive : Bool) (n : ℕ) → IsNumber n → IsField (literal_field (record { variable = n; positive = positive }))
literal_by true n small = number_field n small
literal_by false n small = All-cons IsVisible 45 (decimal n) (lit≤ tt, lit< tt) (number_field n small)

pub literal_is_field : (l : Literal) → IsLiteral l → IsField (literal_field l)
literal_is_field l small = literal_by l.positive l.variable (omega (arith, small.1))

pub token_is_field : (token : Token) → HasTokenSpelling token → IsField (token_field token)
token_is_field (Split source) small = number_field source small
token_is_field Closed small = visible (codes ".") refl
token_is_field Rest small = visible (codes "?") refl

abbrev AreFields : List Text → Type 0
AreFields texts = AllByRecursion IsField texts

joined : (xs ys : List Text) → AreFields xs → AreFields ys → AreFields (xs ++ ys)
joined [] ys first second = second
joined (x ∷ xs) ys first second = (first.0, joined xs ys first.1 second)

-- fields of each item of a list
each_field : {X : Type 0} (P : X → Type 0) (f : X → List Text) → ((x : X) → P x → AreFields (f x)) → (xs : List X) → All P xs → AreFields (flat_map f xs)
each_field P f one [] all = tt
each_field P f one (x ∷ xs) all = joined (f x) (flat_map f xs) (one x (All-head P x xs all)) (each_field P f one xs (All-tail P x xs all))

fresh_fields : (at : Option Literal) → HasLiteralSpelling at → AreFields (map literal_field (option_to_list at))
fresh_fields None small = tt
fresh_fields (Some l) small = (literal_is_field l small, tt)

clauses_are_fields : (chain : ChainView) → HasChainSpelling chain → AreFields (clause_fields chain)
clauses_are_fields chain spelled =
    (number_field chain.start spelled.start, each_field HasStepSpelling step_fields (λ step small. (literal_is_field step.0 small.0, (number_field step.1 small.1, tt))) chain.steps spelled.steps)

chain_is_fields : (chain : ChainView) → HasChainSpelling chain → AreFields (chain_fields chain)
chain_is_fields chain spelled = joined (map literal_field (option_to_list chain.fresh_at)) (clause_fields chain) (fresh_fields chain.fresh_at spelled.fresh_at) (clauses_are_fields chain spelled)

tree_is_fields : (tree : List Token) → All HasTokenSpelling tree → AreFields (map token_field tree)
tree_is_fields [] spelled = tt
tree_is_fields (token ∷ tree) spelled = (token_is_field token (All-head HasTokenSpelling token tree spelled), tree_is_fields tree (All-tail HasTokenSpelling token tree spelled))

log_is_fields : (P : ChainView → Type 0) → ((chain : ChainView) → P chain → HasChainSpelling chain) → (log : List ChainView) → All P log → AreFields (log_fields log)
log_is_fields P spelled log all = each_field P (λ chain. codes ";" ∷ chain_fields chain) (λ chain is. (visible (codes ";") refl, chain_is_fields chain (spelled chain is))) log all

proof_is_fields : (p : Proof) → HasProofSpelling p → AreFields (proof_fields p)
proof_is_fields proof.Collapse spelled = (visible (codes "C") refl, tt)
proof_is_fields (proof.Covered tree) spelled = (visible (codes "T") refl, tree_is_fields tree spelled.each)
proof_is_fields (proof.Refuted tree log) spelled =
    (visible (codes "R") refl, joined (map token_field tree) (log_fields log) (tree_is_fields tree spelled.0.each) (log_is_fields IsPlainChain (λ chain is. is.0) log spelled.1.1))
proof_is_fields (proof.Spent tree log) spelled =
    (visible (codes "O") refl, joined (map token_field tree) (log_fields log) (tree_is_fields tree spelled.0.each) (log_is_fields IsFreshChain (λ chain is. is.0) log spelled.1))

birth_is_fields : (birth : Option (ℕ × ℕ)) → HasBirthSpelling birth → AreFields (birth_fields birth)
birth_is_fields None small = (visible (codes "-") refl, (visible (codes "-") refl, tt))
birth_is_fields (Some birth) small = (number_field birth.0 small.0, (number_field birth.1 small.1, tt))

mark_is_field : (m : Mark) → IsField (mark_field m)
mark_is_field mark.Rep = visible (codes "rep") refl
mark_is_field mark.Equal = visible (codes "equal") refl
mark_is_field mark.Spent = visible (codes "open") refl

digit_visible : (bit : Bool) → IsVisible (bit_digit bit)
digit_visible true = (lit≤ tt, lit< tt)
digit_visible false = (lit≤ tt, lit< tt)

bits_are_field : (bits : List Bool) → IsField (bits_text bits)
bits_are_field [] = visible (codes "-") refl
bits_are_field (bit ∷ bits) = All-map IsVisible bit_digit (bit ∷ bits) (λ k d below. digit_visible (get_or (bit ∷ bits) k d))

fields_are_fields : (r : Record) → HasSpelling r → AreFields (fields r)
fields_are_fields (Head sources positions numbers) small =
    (visible (codes "diatest") refl, (visible (codes "1") refl, (number_field sources small.0, (number_field positions small.1, (number_field numbers small.2, tt)))))
fields_are_fields (Budget budgets) small =
    (visible (codes "budget") refl, (number_field budgets.blocks small.0, (number_field budgets.cubes small.1, (number_field budgets.conflicts small.2, tt))))
fields_are_fields (Pattern bits) small = (visible (codes "pattern") refl, (bits_are_field bits, tt))
fields_are_fields (Same evidence) small =
    (visible (codes "same") refl, (number_field evidence.member small.0, (number_field evidence.partner small.1, proof_is_fields evidence.proof small.2)))
fields_are_fields (Class number birth) small = (visible (codes "class") refl, (number_field number small.0, birth_is_fields birth small.1))
fields_are_fields (Member number class m) small = (visible (codes "member") refl, (number_field number small.0, (number_field class small.1, (mark_is_field m, tt))))
fields_are_fields End small = (visible (codes "end") refl, tt)

-- ---- fields that are joined by blanks are split at blanks again

unparted : (field : Text) → IsField field → All (λ b. (b == 32) ≡ false) field
unparted field is = All-weaker IsVisible (λ b. (b == 32) ≡ false) (λ b there. ne_eqb b 32 (λ e. omega (arith, there.0))) field is

parted : (xs : List Text) → AreFields xs → (xs ≡ [] → ⊥) → slice_split (λ b. b == 32) (join_with_byte 32 xs) ≡ xs
parted [] are some = absurd (some refl)
parted (x ∷ []) are some = slice_split_none (λ b. b == 32) x (unparted x are.0)
parted (x ∷ y ∷ ys) are some =
    slice_split_at (λ b. b == 32) x 32 (join_with_byte 32 (y ∷ ys)) (unparted x are.0) refl
    ∙ ap (λ (parts : List Text). x ∷ parts) (parted (y ∷ ys) are.1 (λ e. cc))

has_word : (r : Record) → fields r ≡ [] → ⊥
has_word End e = cc
has_word r e = cc

-- a spelling gives back its fields
pub parted_spelling : (r : Record) → HasSpelling r → slice_split (λ b. b == 32) (spelling r) ≡ fields r
unfolding spelling
parted_spelling r small = parted (fields r) (fields_are_fields r small) (has_word r)

-- ---- the bytes of a line

-- A byte of a line of text is visible or a blank.
abbrev pub IsLineByte : ℕ → Type 0
IsLineByte b = (32 ≤ b) × (b < 127)

joined_bytes : (xs : List Text) → AreFields xs → All IsLineByte (join_with_byte 32 xs)
joined_bytes [] are = All-nil IsLineByte
joined_bytes (x ∷ []) are = All-weaker IsVisible IsLineByte (λ b there. (omega (arith, there.0), there.1)) x are.0
joined_bytes (x ∷ y ∷ ys) are =
    All-append IsLineByte x (32 ∷ join_with_byte 32 (y ∷ ys))
    (All-weaker IsVisible IsLineByte (λ b there. (omega (arith, there.0), there.1)) x are.0)
    (All-cons IsLineByte 32 (join_with_byte 32 (y ∷ ys)) (lit≤ tt, lit< tt) (joined_bytes (y ∷ ys) are.1))

pub spelling_bytes : (r : Record) → HasSpelling r → All IsLineByte (spelling r)
unfolding spelling
spelling_bytes r small = joined_bytes (fields r) (fields_are_fields r small)

-- a spelling has no LF
pub no_line_feed : (r : Record) → HasSpelling r → ¬ Contains (spelling r) 10
no_line_feed r small there =
    let byte : IsLineByte 10 = All-contains IsLineByte (spelling r) 10 (spelling_bytes r small) there in
    absurd (omega (arith, byte.0))
