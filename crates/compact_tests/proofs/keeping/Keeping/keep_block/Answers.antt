use Rattle.std.proofs.Common.{◌≡◌, ◌∙◌, ◌+◌, ◌<◌, ℕ, Bool, List, Some, length, map, sym, ap, subst, arith}
use Rattle.std.specs.Prelude.{All, slice_range}
use Rattle.std.proofs.lemmas.List.{length-map}
use Rattle.net_model.specs.ClassTable.{class_count, representative}
use Rattle.net_model.specs.FaultList.{fault_count}
use Rattle.answer_numbers.specs.AnswerNumbers.{AnswerNumbers, answer_numbers_with}
use Rattle.compact_tests.specs.Mixed.{ListsMixed}
use Rattle.compact_tests.specs.Thinning.{IsNumbered, AreLanesNumbered}
use Rattle.compact_tests.proofs.MixedLemmas.{mixed_listed}
use Rattle.compact_tests.proofs.SimulatedLemmas.{numbered_in}
use Rattle.compact_tests.proofs.keeping.Keeping.keep_block.Goals as goal

pub lowest_of-requires : goal.lowest_of-requires
lowest_of-requires c =
    let self = c.args.self.now in
    let t = self.classes.now in
    subst (λ (xs : List ℕ). All (λ class. class < class_count t) xs) (sym (c.as_slice.ensures.value ∙ c.in_ok-listed.ensures.mixed)) (mixed_listed t self.kept c.requires.keeping.finer c.in_ok-listed.ensures.whole).within

pub new-requires-clause-few : goal.new-requires-clause-few
new-requires-clause-few c =
    let t = c.args.self.now.classes.now in
    let many : length c.as_slice-2.result.now ≡ length c.as_slice.result.now = ap length (c.as_slice-2.ensures.value ∙ c.in_ok-leads.ensures.lowest) ∙ length-map c.as_slice.result.now (representative t) in
    omega (arith, many, ap length c.as_slice.ensures.value, c.in_ok-listed.ensures.few)

pub keep_lanes-requires-clause-listed : goal.keep_lanes-requires-clause-listed
keep_lanes-requires-clause-listed c =
    let self = c.args.self.now in
    let t = self.classes.now in
    subst (ListsMixed t self.kept) (sym (c.as_slice-3.ensures.value ∙ c.in_ok-listed.ensures.mixed)) (mixed_listed t self.kept c.requires.keeping.finer c.in_ok-listed.ensures.whole)

pub returns-clause-kept : goal.returns-clause-kept
returns-clause-kept c = λ patterns kept first answers needed block before.
    let circuit = c.args.circuit.now in
    let t = c.args.self.now.classes.now in
    let vectors = c.args.block.now.vectors in
    let numbers = fault_count circuit in
    let leads = c.as_slice-2.result.now in
    let listed = c.as_slice-3.result.now in
    let numbered = c.number_block.new.self in
    let many : c.live.result ≡ length vectors = c.live.ensures.value in
    let leads_are : leads ≡ map (representative t) listed =
    c.as_slice-2.ensures.value ∙ (c.in_ok-leads.ensures.lowest ∙ ap (map (representative t)) (c.as_slice.ensures.value ∙ sym c.as_slice-3.ensures.value)) in
    let known : All (λ lead. lead < numbers) leads = rw c.as_slice-2.ensures.value (subst (λ (n : ℕ). All (λ number. number < n) c.in_ok-leads.leads.items) c.requires.numbers c.in_ok-leads.ensures.within) in
    let numbered_is : numbered ≡ answer_numbers_with circuit leads (Some (slice_range patterns first (first + length vectors))) =
    c.in_ok-number_block.ensures.ok ∙ (ap (λ (n : AnswerNumbers). answer_numbers_with n.circuit n.leads (Some vectors)) c.in_ok-numbers.ensures ∙ ap (λ (vs : List (List Bool)). answer_numbers_with circuit leads (Some vs)) block.are) in
    let are : AreLanesNumbered numbered listed t kept first c.live.result = λ lane h.
    subst (λ (n : AnswerNumbers). IsNumbered n lane listed t kept (first + lane)) (sym numbered_is)
    (numbered_in circuit patterns t kept answers listed leads leads_are known first (first + length vectors) lane (omega arith) block.within (omega (arith, h, many))) in
    rw (sym many) (c.in_ok-keep_lanes.ensures.kept kept first needed are before)
