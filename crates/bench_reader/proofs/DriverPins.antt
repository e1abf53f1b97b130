-- The pins of a gate, by the meaning of its word.
use Rattle.std.proofs.Common.{◌≡◌, ℕ, [], ◌∷◌, List, refl, None, Some}
use Rattle.std.specs.Prelude.{Bool, true, false, if◌then◌else◌}
use Rattle.text_fields.specs.Fields.{Text}
use Rattle.bench_reader.specs.Tokens.{close_bracket, name_run, Token}
use Rattle.bench_reader.specs.Grammar.{Named, Driver, takes, gate_pins, driver_pins}

-- if a name comes first, every gate takes pins
pub name_first : (driver : Driver) (t : Text) (m : ℕ) (more : List Token) → driver_pins driver ((name_run t, m) ∷ more) ≡ gate_pins ((name_run t, m) ∷ more)
unfolding driver_pins
name_first driver t m [] = refl
name_first driver t m (x ∷ more) = refl

-- Tokens that are a gate's pins are none, or pins that every gate may have.
pub data Pins (driver : Driver) (tokens : List Token) (pins : List Named) : Type 0 where
  no_pins : (b : ℕ) → tokens ≡ (close_bracket, b) ∷ [] → pins ≡ [] → Pins driver tokens pins
  some_pins : (t : Text) (m : ℕ) (more : List Token) → tokens ≡ (name_run t, m) ∷ more → gate_pins tokens ≡ Some pins → Pins driver tokens pins

pub pins_are : (driver : Driver) (tokens : List Token) (pins : List Named) → driver_pins driver tokens ≡ Some pins → Pins driver tokens pins
unfolding driver_pins gate_pins
pins_are driver [] pins e = cc
pins_are driver ((close_bracket, b) ∷ []) pins e = no_pins b refl (by (takes driver 0) e)
  where
    by : (test : Bool) → (if test then Some [] else None) ≡ Some pins → pins ≡ []
    by true e = cc
    by false e = cc
pins_are driver ((name_run t, m) ∷ []) pins e = some_pins t m [] refl e
pins_are driver ((name_run t, m) ∷ x ∷ more) pins e = some_pins t m (x ∷ more) refl e
pins_are driver (_ ∷ []) pins e = cc
pins_are driver (_ ∷ x ∷ more) pins e = cc
