-- The answer to a vector is determined by where it differs from the fault-free one.
use Rattle.std.proofs.Common.{◌≡◌, ◌≢◌, ◌↔◌, ℕ, ◌<◌, Bool, true, false, List, length, refl, sym, ◌∙◌, arith, IsTrue}
use Rattle.std.proofs.lemmas.Bool.{false≢true}
use Rattle.net_model.specs.declared.fault.Fault.{Fault}
use Rattle.net_model.specs.declared.fault.Fault.TheVariants.{Free}
use Rattle.net_model.specs.Circuit.{Circuit, IsCircuit}
use Rattle.net_model.specs.Answer.{bit_at, IsAnswer}
use Rattle.net_model.proofs.Copies.{same_bits_same_list}
use Rattle.class_refine.proofs.PatternTables.{answer_width, answer_exists}
use Rattle.fault_sim.specs.FaultSim.{IsDifference}

both_other : (a b free : Bool) → a ≢ free → b ≢ free → a ≡ b
both_other true true free ha hb = refl
both_other false false free ha hb = refl
both_other true false true ha hb = absurd (ha refl)
both_other true false false ha hb = absurd (hb refl)
both_other false true true ha hb = absurd (hb refl)
both_other false true false ha hb = absurd (ha refl)

not_other : (a free : Bool) → (a ≢ free → ⊥) → a ≡ free
not_other true true h = refl
not_other false false h = refl
not_other true false h = absurd (h (λ e. false≢true (sym e)))
not_other false true h = absurd (h (λ e. false≢true e))

-- two bits that differ alike from a third are the same
same_bit : (x a b free : Bool) → IsTrue x ↔ (a ≢ free) → IsTrue x ↔ (b ≢ free) → a ≡ b
same_bit true a b free ha hb = both_other a b free (ha.0 refl) (hb.0 refl)
same_bit false a b free ha hb = not_other a free (λ ne. false≢true (ha.1 ne)) ∙ sym (not_other b free (λ ne. false≢true (hb.1 ne)))

-- two bits that are the same differ alike from a third
pub same_difference : (x y a b free : Bool) → IsTrue x ↔ (a ≢ free) → IsTrue y ↔ (b ≢ free) → a ≡ b → x ≡ y
same_difference true true a b free ha hb e = refl
same_difference false false a b free ha hb e = refl
same_difference true false a b free ha hb e = absurd (false≢true (hb.1 (λ same. ha.0 refl (e ∙ same))))
same_difference false true a b free ha hb e = absurd (false≢true (ha.1 (λ same. hb.0 refl (sym e ∙ same))))

-- the answers of two faults that differ alike from the fault-free one are the same
pub alike_by_differences : (c : Circuit) → IsCircuit c → (f g : Fault) (v : List Bool) (x : ℕ → Bool) → ((position : ℕ) → position < length c.positions → IsDifference c f v position (x position) × IsDifference c g v position (x position))
    → (first second : List Bool) → IsAnswer c f v first → IsAnswer c g v second → first ≡ second
alike_by_differences c is f g v x differ first second a b =
    let free = answer_exists c is Free v in
    same_bits_same_list first second (answer_width a ∙ sym (answer_width b)) (λ position h.
    let d = differ position (omega (arith, h, answer_width a)) in
    same_bit (x position) (bit_at first position) (bit_at second position) (bit_at free.0 position) (d.0 first free.0 a free.1) (d.1 second free.0 b free.1))
