-- Which records, proofs and chains fields can't spell.
use Rattle.std.proofs.Common.{◌≡◌, ◌∙◌, List, ◌∷◌, map, length, get_or, refl, sym, ap, inl, inr, arith}
use Rattle.std.specs.Prelude.{All, ◌==◌, codes}
use Rattle.std.specs.List.{slice_split, join_with_byte}
use Rattle.std.specs.Str.{IsUtf8}
use Rattle.std.proofs.lemmas.Bool.{cases_lt, eqb-false}
use Rattle.std.proofs.lemmas.List.{get_or_past}
use Rattle.std.proofs.lemmas.Str.{IsUtf8-from_ascii}
use Rattle.std.proofs.lemmas.List.Splits.{join_with_byte-slice_split}
use Rattle.pair_sets.specs.declared.tree.Token.{Token}
use Rattle.pair_miter.specs.ChainView.{ChainView}
use Rattle.result_records.specs.declared.record.Proof.{Proof}
use Rattle.result_records.specs.declared.record.Proof.TheVariants as proof
use Rattle.result_records.specs.declared.record.Record.{Record}
use Rattle.text_fields.specs.Fields.{Text}
use Rattle.result_records.specs.Spelling.{fields, spelling, token_field, evidence_fields, proof_fields, HasTreeSpelling, IsFreshChain, HasRefutationSpelling, HasProofSpelling, HasSpelling}
use Rattle.result_records.proofs.FieldLemmas.{spelling_bytes, parted_spelling}
use Rattle.text_fields.proofs.Cuts.{tails}
use Rattle.result_records.proofs.OnceLemmas.{lead_byte, proof_byte}

-- ---- proofs, by their letter

pub refuses_covered : (texts : List Text) → ((tree : List Token) → HasTreeSpelling tree → map token_field tree ≡ texts → ⊥) → (p : Proof) → HasProofSpelling p → proof_fields p ≡ codes "T" ∷ texts → ⊥
refuses_covered texts never (proof.Covered tree) spelled e = never tree spelled (tails e).1
refuses_covered texts never p spelled e = eqb-false (proof_byte p) 84 refl (ap lead_byte e)

pub refuses_refuted : (texts : List Text) → ((tree : List Token) (log : List ChainView) → HasTreeSpelling tree → HasRefutationSpelling log → evidence_fields tree log ≡ texts → ⊥) → (p : Proof) → HasProofSpelling p
    → proof_fields p ≡ codes "R" ∷ texts → ⊥
refuses_refuted texts never (proof.Refuted tree log) spelled e = never tree log spelled.0 spelled.1 (tails e).1
refuses_refuted texts never p spelled e = eqb-false (proof_byte p) 82 refl (ap lead_byte e)

pub refuses_spent : (texts : List Text) → ((tree : List Token) (log : List ChainView) → HasTreeSpelling tree → All IsFreshChain log → evidence_fields tree log ≡ texts → ⊥) → (p : Proof) → HasProofSpelling p
    → proof_fields p ≡ codes "O" ∷ texts → ⊥
refuses_spent texts never (proof.Spent tree log) spelled e = never tree log spelled.0 spelled.1 (tails e).1
refuses_spent texts never p spelled e = eqb-false (proof_byte p) 79 refl (ap lead_byte e)

-- ---- lines

-- a record's fields give its spelling, and a line has no others
pub spelled_by : (r : Record) (line : Text) → fields r ≡ slice_split (λ b. b == 32) line → spelling r ≡ line
unfolding spelling
spelled_by r line e = ap (join_with_byte 32) e ∙ join_with_byte-slice_split 32 line

pub fields_by : (r : Record) (line : Text) → HasSpelling r → spelling r ≡ line → fields r ≡ slice_split (λ b. b == 32) line
fields_by r line small e = sym (parted_spelling r small) ∙ ap (λ (text : Text). slice_split (λ b. b == 32) text) e

pub spelling_ascii : (r : Record) → HasSpelling r → IsUtf8 (spelling r)
spelling_ascii r small =
    IsUtf8-from_ascii (spelling r) (λ k. elim (cases_lt k (length (spelling r))) [
      | inl low ↦ omega (arith, (spelling_bytes r small k 0 low).1)
      | inr high ↦ let past : get_or (spelling r) k 0 ≡ 0 = get_or_past (spelling r) k 0 high in omega (arith, past)
    ])
