-- If two vectors agree on the relevant sources of a pair and one separates the pair, the other does too.
use Rattle.std.proofs.Common.{◌≡◌, ◌∙◌, ℕ, zero, suc, ◌<◌, Bool, true, false, Option, Some, None, List, length, get_or, refl, sym, ap, arith}
use Rattle.std.specs.Prelude.{◌||◌, is_some, unwrap_or}
use Rattle.std.specs.Option.{option_map_or}
use Rattle.std.proofs.lemmas.Bool.{or_parts}
use Rattle.net_model.specs.declared.gate.Gate.{Gate}
use Rattle.net_model.specs.declared.fault.Fault.{Fault}
use Rattle.net_model.specs.Gate.{gate_value}
use Rattle.net_model.specs.Circuit.{Circuit, IsCircuit, line_count, gate_at, Feeds}
use Rattle.net_model.specs.Fault.{stuck_stem, stuck_pin, stuck_position}
use Rattle.net_model.specs.Answer.{bit_at, seen_bits, driven_bit, line_bit, shown_bits, Agrees, Separates}
use Rattle.net_model.specs.Scope.{is_split, is_reached, is_relevant}
use Rattle.net_model.proofs.Copies.{same_driven, pins_inside, same_bits_same_list}
use Rattle.net_model.proofs.Evaluation.{Agrees-exists}
use Rattle.net_model.proofs.Seen.{length-seen_bits}
use Rattle.net_model.proofs.SetSoFar.{undriven_is_source}
use Rattle.net_model.proofs.ScopeLaws.{same_unsplit}
use Rattle.net_model.proofs.Relevance.{relevant_back, relevant_shown}
use Rattle.pair_miter.proofs.Sound.{at_position}

-- At a position that isn't reached neither fault is stuck, and the line isn't split.
unreached : (c : Circuit) (f g : Fault) (at : ℕ) → is_reached c f g at ≡ false → (is_split c f g (get_or c.positions at 0) ≡ false) × (is_some (stuck_position f at) ≡ false) × (is_some (stuck_position g at) ≡ false)
unfolding is_reached
unreached c f g at none =
    let split = is_split c f g (get_or c.positions at 0) in
    let parts = or_parts (split || is_some (stuck_position f at)) (is_some (stuck_position g at)) none in
    let two = or_parts split (is_some (stuck_position f at)) parts.0 in
    (two.0, two.1, parts.1)

unstuck : (o : Option Bool) (bit : Bool) → is_some o ≡ false → unwrap_or o bit ≡ bit
unstuck None bit none = refl
unstuck (Some b) bit none = absurd (cc)

module _ (c : Circuit) (is : IsCircuit c) (f g : Fault) (v w : List Bool) (same : (source : ℕ) → source < c.sources → is_relevant c f g source ≡ true → bit_at v source ≡ bit_at w source) where
  -- The bit of a relevant line in two valuations of one copy.
  module _ (h : Fault) (x y : List Bool) (a : Agrees c h v x) (b : Agrees c h w y) where
    same_undriven : (line : ℕ) → line < line_count c → is_relevant c f g line ≡ true → (o : Option Gate) → gate_at c line ≡ o
        → option_map_or (λ gate. gate_value gate.kind (seen_bits (stuck_pin h line) y gate.pins)) o (bit_at v line) ≡ option_map_or (λ gate. gate_value gate.kind (seen_bits (stuck_pin h line) y gate.pins)) o (bit_at w line)
    same_undriven line inside relevant None undriven = same line (undriven_is_source c line inside undriven) relevant
    same_undriven line inside relevant (Some gate) driven = refl

    same_here : (line : ℕ) → line < line_count c → is_relevant c f g line ≡ true → ((read : ℕ) → Feeds c read line → bit_at x read ≡ bit_at y read) → bit_at x line ≡ bit_at y line
    unfolding line_bit driven_bit
    same_here line inside relevant lines =
        a.each line inside
        ∙ ap (unwrap_or (stuck_stem h line)) (same_driven c h h v x y line (gate_at c line) (λ pin. refl) lines ∙ same_undriven line inside relevant (gate_at c line) refl)
        ∙ sym (b.each line inside)

    same_below : (n line : ℕ) → is.acyclic.rank line < n → line < line_count c → is_relevant c f g line ≡ true → bit_at x line ≡ bit_at y line
    same_below zero line low inside relevant = absurd (omega arith)
    same_below (suc n) line low inside relevant =
        same_here line inside relevant
        (λ read m. let lower : is.acyclic.rank read < is.acyclic.rank line = is.acyclic.rises read line m in same_below n read (omega arith) (pins_inside c is line read m) (relevant_back c f g is.acyclic read line m relevant))

    same_shown : (at : ℕ) → at < length c.positions → is_reached c f g at ≡ true → bit_at (shown_bits c h x) at ≡ bit_at (shown_bits c h y) at
    same_shown at below reached =
        let line = get_or c.positions at 0 in
        at_position c h x at below
        ∙ ap (unwrap_or (stuck_position h at)) (same_below (suc (is.acyclic.rank line)) line (omega arith) (is.positions at 0 below) (relevant_shown c f g at below reached))
        ∙ sym (at_position c h y at below)

  -- A position that isn't reached shows the same in both copies.
  alike_unreached : (x y : List Bool) → Agrees c f v x → Agrees c g v y → (at : ℕ) → at < length c.positions → is_reached c f g at ≡ false → bit_at (shown_bits c f x) at ≡ bit_at (shown_bits c g y) at
  alike_unreached x y a b at below none =
      let parts = unreached c f g at none in
      let line = get_or c.positions at 0 in
      at_position c f x at below ∙ unstuck (stuck_position f at) (bit_at x line) parts.1
      ∙ same_unsplit c is f g v x y a b line (is.positions at 0 below) parts.0
      ∙ sym (unstuck (stuck_position g at) (bit_at y line) parts.2) ∙ sym (at_position c g y at below)

  module _ (x y : List Bool) (a : Agrees c f v x) (b : Agrees c g v y) (p q : List Bool) (d : Agrees c f w p) (e : Agrees c g w q) (equal : shown_bits c f p ≡ shown_bits c g q) where
    alike_at : (at : ℕ) → at < length c.positions → (reached : Bool) → is_reached c f g at ≡ reached → bit_at (shown_bits c f x) at ≡ bit_at (shown_bits c g y) at
    alike_at at below true reached = same_shown f x p a d at below reached ∙ ap (λ (bits : List Bool). bit_at bits at) equal ∙ sym (same_shown g y q b e at below reached)
    alike_at at below false none = alike_unreached x y a b at below none

    alike : shown_bits c f x ≡ shown_bits c g y
    alike =
        let first = length-seen_bits (stuck_position f) x c.positions in
        same_bits_same_list (shown_bits c f x) (shown_bits c g y) (first ∙ sym (length-seen_bits (stuck_position g) y c.positions))
        (λ at below. alike_at at (omega (arith, below, first)) (is_reached c f g at) refl)

  -- The other vector separates the pair too.
  pub separates_also : Separates c v f g → length w ≡ c.sources → Separates c w f g
  separates_also s wide =
      let p = Agrees-exists c f w is in
      let q = Agrees-exists c g w is in
      record {
        width = wide;
        first = shown_bits c f p.0;
        second = shown_bits c g q.0;
        first_is = record { bits = p.0; agrees = p.1; shows = refl };
        second_is = record { bits = q.0; agrees = q.1; shows = refl };
        differ = λ equal. s.differ (s.first_is.shows ∙ alike s.first_is.bits s.second_is.bits s.first_is.agrees s.second_is.agrees p.0 q.0 p.1 q.1 equal ∙ sym s.second_is.shows);
      }
