-- The first line that a fault changes is one of the circuit's, and the fault sticks nothing at another.
use Rattle.std.proofs.Common.{◌≡◌, ℕ, ◌<◌, get_or, refl, ap, subst}
use Rattle.std.specs.Prelude.{None, Some, ◌==◌, ◌&&◌}
use Rattle.std.specs.Bool.{then_some}
use Rattle.std.proofs.lemmas.Bool.{ne_eqb}
use Rattle.std.proofs.lemmas.List.Elements.{Contains-get_or}
use Rattle.net_model.specs.declared.fault.Site.TheVariants.{Stem, Pin, Position}
use Rattle.net_model.specs.declared.fault.Fault.{Fault}
use Rattle.net_model.specs.declared.fault.Fault.TheVariants.{Free, Stuck}
use Rattle.net_model.specs.Circuit.{Circuit, line_count, pins_of}
use Rattle.net_model.specs.Fault.{stuck_stem, stuck_pin, IsFaultOf}
use Rattle.net_model.specs.Scope.{first_changed}
use Rattle.net_model.proofs.Orders.{reader_is_gate}

pub first_inside : (c : Circuit) (f : Fault) (line : ℕ) → IsFaultOf c f → first_changed f ≡ Some line → line < line_count c
first_inside c Free line is e = cc
first_inside c (Stuck (Stem at) bit) line is e = let same : at ≡ line = cc in subst (λ n. n < line_count c) same is
first_inside c (Stuck (Pin gate at) bit) line is e =
    let same : gate ≡ line = cc in
    subst (λ n. n < line_count c) same (reader_is_gate c (get_or (pins_of c gate) at 0) gate (Contains-get_or (pins_of c gate) at 0 is)).1
first_inside c (Stuck (Position at) bit) line is e = cc

pub stem_elsewhere : (f : Fault) (line : ℕ) → (first_changed f ≡ Some line → ⊥) → stuck_stem f line ≡ None
stem_elsewhere Free line h = refl
stem_elsewhere (Stuck (Stem at) bit) line h = ap (λ b. then_some b bit) (ne_eqb at line (λ e. h (ap Some e)))
stem_elsewhere (Stuck (Pin gate at) bit) line h = refl
stem_elsewhere (Stuck (Position at) bit) line h = refl

pub pin_elsewhere : (f : Fault) (line pin : ℕ) → (first_changed f ≡ Some line → ⊥) → stuck_pin f line pin ≡ None
pin_elsewhere Free line pin h = refl
pin_elsewhere (Stuck (Stem at) bit) line pin h = refl
pin_elsewhere (Stuck (Pin gate at) bit) line pin h = ap (λ b. then_some (b && at == pin) bit) (ne_eqb gate line (λ e. h (ap Some e)))
pin_elsewhere (Stuck (Position at) bit) line pin h = refl
