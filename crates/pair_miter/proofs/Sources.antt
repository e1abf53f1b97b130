-- What leads to a source, and which faults reach one.
use Rattle.std.proofs.Common.{◌≡◌, ◌∙◌, ℕ, zero, suc, ◌<◌, inl, inr, true, false, eqb, length, ap, arith}
use Rattle.std.specs.Prelude.{◌==◌, is_none}
use Rattle.std.specs.Bool.{then_some}
use Rattle.std.specs.List.{list_any}
use Rattle.std.proofs.lemmas.Bool.{eqb-true, eq-eqb, or_cases}
use Rattle.net_model.specs.declared.fault.Site.TheVariants.{Stem, Pin, Position}
use Rattle.net_model.specs.declared.fault.Fault.{Fault}
use Rattle.net_model.specs.declared.fault.Fault.TheVariants.{Free, Stuck}
use Rattle.net_model.specs.Circuit.{Circuit, pins_of}
use Rattle.net_model.specs.Fault.{stuck_stem, IsFaultOf}
use Rattle.net_model.specs.Scope.{leads_within, leads_to, reaches_line}
use Rattle.net_model.proofs.Elements.{true_false}
use Rattle.net_model.proofs.QueueSteps.{source_pins}

source_leads : (c : Circuit) (n from line : ℕ) → line < c.sources → leads_within c n from line ≡ true → from ≡ line
source_leads c zero from line h t = eqb-true from line t
source_leads c (suc n) from line h t = elim (or_cases (from == line) (list_any (leads_within c n from) (pins_of c line)) t) [
  | inl here ↦ eqb-true from line here
  | inr through ↦
      true_false (list_any (leads_within c n from) (pins_of c line)) through (ap (list_any (leads_within c n from)) (source_pins c line h))
]

-- a fault of the circuit reaches a source only as its stem
pub reached_source : (c : Circuit) (f : Fault) (line : ℕ) → IsFaultOf c f → line < c.sources → reaches_line c f line ≡ true → is_none (stuck_stem f line) ≡ false
unfolding reaches_line leads_to
reached_source c Free line i h t = cc
reached_source c (Stuck (Stem at) bit) line i h t =
    let here : eqb at line ≡ true = eq-eqb at line (source_leads c (length c.gates) at line h t) in
    ap (λ b. is_none (then_some b bit)) here
reached_source c (Stuck (Pin gate pin) bit) line i h t =
    let same = source_leads c (length c.gates) gate line h t in
    let none : length (pins_of c gate) ≡ 0 = ap (λ l. length (pins_of c l)) same ∙ ap length (source_pins c line h) in
    absurd (omega (arith, i, none))
reached_source c (Stuck (Position at) bit) line i h t = cc
