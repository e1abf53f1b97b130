-- What one of several readers sees, and when all of them see the same.
use Rattle.std.proofs.Common.{◌≡◌, ◌∙◌, ℕ, zero, suc, ◌+◌, ◌<◌, List, [], ◌∷◌, length, get_or, sym, ap, arith}
use Rattle.std.specs.Prelude.{Bool, false, Option, Some, unwrap_or}
use Rattle.std.specs.Option.{option_map_or}
use Rattle.std.proofs.lemmas.List.{ext_get_or}
use Rattle.net_model.specs.declared.gate.Gate.{Gate}
use Rattle.net_model.specs.declared.fault.Fault.{Fault}
use Rattle.net_model.specs.Gate.{gate_value}
use Rattle.net_model.specs.Circuit.{Circuit, gate_at}
use Rattle.net_model.specs.Fault.{stuck_pin}
use Rattle.net_model.specs.Answer.{bit_at, seen_bits, driven_bit}
use Rattle.net_model.proofs.Seen.{seen_from, seen_from-all, length-seen_bits}

seen_from-at : (stuck : ℕ → Option Bool) (bits : List Bool) (k : ℕ) (lines : List ℕ) (i : ℕ) → i < length lines → get_or (seen_from stuck bits k lines) i false ≡ unwrap_or (stuck (k + i)) (bit_at bits (get_or lines i 0))
seen_from-at stuck bits k [] i h = absurd (omega arith)
seen_from-at stuck bits k (line ∷ lines) zero h = ap (λ n. unwrap_or (stuck n) (bit_at bits line)) (omega arith)
seen_from-at stuck bits k (line ∷ lines) (suc i) h =
    seen_from-at stuck bits (k + 1) lines i (omega arith) ∙ ap (λ n. unwrap_or (stuck n) (bit_at bits (get_or lines i 0))) (omega arith)

-- what one reader sees
pub seen_at : (stuck : ℕ → Option Bool) (bits : List Bool) (lines : List ℕ) (i : ℕ) → i < length lines → bit_at (seen_bits stuck bits lines) i ≡ unwrap_or (stuck i) (bit_at bits (get_or lines i 0))
seen_at stuck bits lines i h =
    ap (λ xs. bit_at xs i) (sym (seen_from-all stuck bits lines)) ∙ seen_from-at stuck bits 0 lines i h ∙ ap (λ n. unwrap_or (stuck n) (bit_at bits (get_or lines i 0))) (omega arith)

-- if each reader sees the same, so do all together
pub same_seen : (stuck other : ℕ → Option Bool) (x y : List Bool) (lines : List ℕ)
    → ((i : ℕ) → i < length lines → unwrap_or (stuck i) (bit_at x (get_or lines i 0)) ≡ unwrap_or (other i) (bit_at y (get_or lines i 0))) → seen_bits stuck x lines ≡ seen_bits other y lines
same_seen stuck other x y lines same =
    ext_get_or false (seen_bits stuck x lines) (seen_bits other y lines) (length-seen_bits stuck x lines ∙ sym (length-seen_bits other y lines))
    (λ i h. let within : i < length lines = omega (arith, length-seen_bits stuck x lines) in seen_at stuck x lines i within ∙ same i within ∙ sym (seen_at other y lines i within))

-- the bit that a gate drives
pub driven_gate : (c : Circuit) (f : Fault) (v bits : List Bool) (line : ℕ) (gate : Gate) → gate_at c line ≡ Some gate → driven_bit c f v bits line ≡ gate_value gate.kind (seen_bits (stuck_pin f line) bits gate.pins)
unfolding driven_bit
driven_gate c f v bits line gate there = ap (λ o. option_map_or (λ gate. gate_value gate.kind (seen_bits (stuck_pin f line) bits gate.pins)) o (bit_at v line)) there
