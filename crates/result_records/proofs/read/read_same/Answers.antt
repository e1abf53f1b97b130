use Rattle.std.proofs.Common.{◌≡◌, ◌∙◌, List, ◌∷◌, map, drop, refl, sym, ap}
use Rattle.std.specs.Prelude.{codes}
use Rattle.std.proofs.lemmas.Bool.{eqb-false}
use Rattle.std.proofs.lemmas.Result.{err_from_is_err_and}
use Rattle.result_records.specs.declared.record.Proof.{Proof}
use Rattle.result_records.specs.declared.record.Record.{Record}
use Rattle.result_records.specs.declared.record.Record.TheVariants.{Head, Budget, Pattern, Same, Class, Member, End}
use Rattle.text_fields.specs.Fields.{Text}
use Rattle.result_records.specs.Spelling.{HasSpelling, HasProofSpelling, fields, proof_fields}
use Rattle.result_records.proofs.AnswerLemmas.{turned, two_texts, behind_two}
use Rattle.result_records.proofs.OnceLemmas.{lead_byte}
use Rattle.result_records.proofs.read.read_same.Goals as goal

-- the proof in the fields of evidence
same_proof : (x : Record) (rest : List Text) → HasSpelling x → fields x ≡ codes "same" ∷ rest → (p : Proof) × HasProofSpelling p × (proof_fields p ≡ drop 2 rest)
same_proof (Head s p n) rest is e = absurd (eqb-false 100 115 refl (ap lead_byte e))
same_proof (Budget b) rest is e = absurd (eqb-false 98 115 refl (ap lead_byte e))
same_proof (Pattern v) rest is e = absurd (eqb-false 112 115 refl (ap lead_byte e))
same_proof (Same s) rest is e = (s.proof, is.2, ap (drop 3) e)
same_proof (Class n b) rest is e = absurd (eqb-false 99 115 refl (ap lead_byte e))
same_proof (Member n class m) rest is e = absurd (eqb-false 109 115 refl (ap lead_byte e))
same_proof End rest is e = absurd (eqb-false 101 115 refl (ap lead_byte e))

pub returns-in_err-read_proof : goal.returns-in_err-read_proof
returns-in_err-read_proof c =
    let rest = map (λ f. f.now) c.args.rest.now in
    let p = err_from_is_err_and c.from_residual.result c.from_residual.ensures.1 in
    rw (p.1, p.2) (turned HasProofSpelling proof_fields _ HasSpelling fields (codes "same" ∷ rest) c.in_err-read_proof.field-0.0 c.in_err-read_proof.ensures (λ never x is e.
    let k = same_proof x rest is e in
    never k.0 k.1 (k.2 ∙ sym (behind_two (λ f. f.now) c.args.rest.now c.in-len2-up.len_at_least))))

pub returns : goal.returns
returns c =
    let texts = two_texts (λ f. f.now) c.args.rest.now _ c.in-len2-up.len_at_least in
    let behind = behind_two (λ f. f.now) c.args.rest.now c.in-len2-up.len_at_least in
    let numbers = c.in-Some.ensures in
    let proof = c.in_ok-read_proof.ensures in
    ((numbers.0, numbers.1, proof.0), ap (λ (xs : List Text). codes "same" ∷ xs) ((λ i. numbers.2 i ∷ numbers.3 i ∷ (proof.1 ∙ behind) i) ∙ sym texts))
