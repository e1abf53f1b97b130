use Rattle.std.proofs.Common.{◌+◌, length, get_or, sym, ap, subst, arith}
use Rattle.std.proofs.lemmas.List.{get_or_default}
use Rattle.samediff_dict.specs.declared.numbering.Candidates.{Candidates}
use Rattle.samediff_dict.specs.Copied.{IsLead, AreLeads}
use Rattle.samediff_dict.proofs.LeadLemmas.{leads_more}
use Rattle.samediff_dict.proofs.copying.chosen_leads.Goals as goal

pub class_with-class-requires : goal.class_with-class-requires
class_with-class-requires c =
    let pattern = c.loop-pattern.pattern in
    (c.requires.each pattern c.index-patterns-pattern.result (omega arith)).some

pub representative-requires : goal.representative-requires
representative-requires c = omega (arith, c.class_with-class.ensures.within, (c.requires.each c.loop-pattern.pattern c.index-patterns-pattern.result (omega arith)).one_each)

pub loop-pattern-preserved : goal.loop-pattern-preserved
loop-pattern-preserved c =
    let pattern = c.loop-pattern.pattern in
    let known = c.index-patterns-pattern.result in
    let class = c.class_with-class.result in
    let IsLeadOf : Candidates → Type 0 = λ (own : Candidates). IsLead c.args.classes.now own (get_or c.args.chosen.now pattern 0) c.representative.result in
    let lead : IsLeadOf (get_or c.args.patterns.now pattern known) = record {
      class = class;
      known = omega (arith, c.class_with-class.ensures.within, (c.requires.each pattern known (omega arith)).one_each);
      own = c.class_with-class.ensures.has;
      lead_is = c.representative.ensures.value;
      within = c.representative.ensures.within;
    } in
    subst (AreLeads c.args.classes.now c.args.patterns.now c.args.chosen.now (pattern + 1)) (sym c.in_ok-push.ensures.items)
    (leads_more _ _ _ _ _ _ c.loop-pattern.invariant (λ d. subst IsLeadOf (get_or_default c.args.patterns.now pattern known d (omega (arith, c.requires.count))) lead))

pub loop-pattern-init : goal.loop-pattern-init
loop-pattern-init c = record { one_each = ap length c.in_ok-leads.ensures.items; each = λ pattern d h. absurd (omega (arith, h)) }
