use Rattle.std.proofs.Common.{◌≡◌, ◌∙◌, ◌-◌, ◌/◌, ◌%◌, ◌<◌, eqb, suc, length, get_or, refl, sym, ap, arith}
use Rattle.std.specs.Prelude.{Some, slice_get}
use Rattle.std.proofs.lemmas.Option.{slice_get-get_or}
use Rattle.net_model.specs.declared.fault.Site.TheVariants.{Stem}
use Rattle.net_model.specs.declared.fault.Fault.TheVariants.{Stuck}
use Rattle.fault_list.specs.Numbers.{faults_at}
use Rattle.fault_list.proofs.Stuck.{length-stuck, stuck_at}
use Rattle.fault_list.proofs.numbers.FaultList.get.Goals as goal

pub returns-then-number-eq0-clause-value : goal.returns-then-number-eq0-clause-value
returns-then-number-eq0-clause-value c = rw (← c.self.view_is, c.if-number-eq0.true) refl

pub bounds-sites-place : goal.bounds-sites-place
bounds-sites-place c = omega (arith, ap length c.self.view_is, ap length c.as_slice-sites.ensures.value, length-stuck c.self.inside.sites.items)

pub returns-clause-value : goal.returns-clause-value
returns-clause-value c =
    let sites = c.self.inside.sites.items in
    let place = c.args.number - 1 in
    let after : c.args.number ≡ suc place = omega arith in
    let within : place / 2 < length sites = omega (arith, ap length c.self.view_is, length-stuck sites) in
    sym (ap (λ listed. slice_get listed c.args.number) c.self.view_is)
    ∙ (ap (slice_get (faults_at sites)) after
    ∙ (stuck_at sites place (get_or sites (place / 2) (Stem 0)) (slice_get-get_or sites (place / 2) (Stem 0) within)
    ∙ ap (λ items. Some (Stuck (get_or items (place / 2) (Stem 0)) (eqb (place % 2) 1))) (sym c.as_slice-sites.ensures.value)))
