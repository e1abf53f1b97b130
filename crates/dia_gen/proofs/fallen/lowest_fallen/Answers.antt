use Rattle.std.proofs.Common.{◌≡◌, ◌∙◌, length, sym, ap, inl, inr, arith}
use Rattle.std.proofs.lemmas.Bool.{cases_lt}
use Rattle.net_model.specs.ClassTable.{class_at, members}
use Rattle.dia_gen.proofs.FallenLemmas.{only_leads, below_second_leads}
use Rattle.dia_gen.proofs.fallen.lowest_fallen.Goals as goal

pub loop-class-preserved : goal.loop-class-preserved
loop-class-preserved c =
    let class = c.loop-class.class in
    let so_far = c.loop-class.invariant in
    let t = c.args.classes.now in
    let now = c.up_to_second-lowest.ensures in
    record {
      within = omega (arith, so_far.within, now.within);
      leads = λ n less inside from here. elim (cases_lt (class_at t n) class) [
        | inl before ↦ so_far.leads n (omega (arith, less, now.within)) inside from before
        | inr most ↦
            let e : class_at t n ≡ class = omega (arith, here, most) in
            let group : c.members.result.now ≡ members t (class_at t n) = c.members.ensures ∙ ap (members t) (sym e) in
            let whole = c.count-class-end.ensures.whole in
            let second = rw group at now.second in
            elim (cases_lt 1 (length (members t (class_at t n)))) [
              | inl two ↦ below_second_leads t whole n inside two (omega (arith, less, second two))
              | inr few ↦ only_leads t whole n inside (omega (arith, few))
            ]
      ];
    }

pub returns-clause-leads : goal.returns-clause-leads
returns-clause-leads c = λ n less inside from.
    let class = c.count-class-end.ensures.whole.classes n inside in
    c.loop-class.invariant.leads n less inside from (omega (arith, class, c.count-class-end.ensures.value, c.loop-class-test.false))
