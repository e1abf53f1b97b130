use Rattle.std.proofs.Common.{◌≡◌, ◌∙◌, ◌+◌, ◌<◌, ℕ, Bool, List, Some, length, map, sym, ap, subst, arith}
use Rattle.std.specs.Prelude.{All, slice_range}
use Rattle.std.proofs.lemmas.List.{length-map}
use Rattle.net_model.specs.ClassTable.{representative}
use Rattle.net_model.specs.FaultList.{fault_count}
use Rattle.net_model.proofs.Listed.{some_number}
use Rattle.answer_numbers.specs.AnswerNumbers.{AnswerNumbers, answer_numbers_with}
use Rattle.compact_tests.specs.Sharing.{sharing_numbers, ListsSharing}
use Rattle.compact_tests.specs.Thinning.{IsNumbered, AreLanesNumbered}
use Rattle.compact_tests.proofs.SharingLemmas.{sharing_listed, sharing_few}
use Rattle.compact_tests.proofs.SimulatedLemmas.{numbered_in}
use Rattle.compact_tests.proofs.thinning.Thinning.pass_block.Goals as goal

pub lowest_of-requires : goal.lowest_of-requires
lowest_of-requires c =
    let groups = c.args.self.now.groups in
    let size = c.requires.thinning.groups in
    rw (c.as_slice.ensures.value ∙ c.in_ok-listed.ensures) (subst (λ (n : ℕ). All (λ class. class < n) (sharing_numbers groups)) size (sharing_listed groups).within)

pub new-requires-clause-few : goal.new-requires-clause-few
new-requires-clause-few c =
    let t = c.args.self.now.classes.now in
    let groups = c.args.self.now.groups in
    let many : length c.as_slice-2.result.now ≡ length (sharing_numbers groups) =
    ap length (c.as_slice-2.ensures.value ∙ c.in_ok-leads.ensures.lowest) ∙ (length-map c.as_slice.result.now (representative t) ∙ ap length (c.as_slice.ensures.value ∙ c.in_ok-listed.ensures)) in
    omega (arith, many, sharing_few groups, c.requires.thinning.groups, c.count.ensures.value, c.count.type_inv)

pub pass_lanes-requires-clause-listed : goal.pass_lanes-requires-clause-listed
pass_lanes-requires-clause-listed c =
    let groups = c.args.self.now.groups in
    subst (ListsSharing groups) (sym (c.as_slice-3.ensures.value ∙ c.in_ok-listed.ensures)) (sharing_listed groups)

pub returns-clause-passed : goal.returns-clause-passed
returns-clause-passed c = λ patterns all answered block before.
    let circuit = c.args.circuit.now in
    let t = c.args.self.now.classes.now in
    let vectors = c.args.block.now.vectors in
    let first = c.args.first in
    let numbers = fault_count circuit in
    let leads = c.as_slice-2.result.now in
    let listed = c.as_slice-3.result.now in
    let numbered = c.number_block.new.self in
    let many : c.live.result ≡ length vectors = c.live.ensures.value in
    let leads_are : leads ≡ map (representative t) listed =
    c.as_slice-2.ensures.value ∙ (c.in_ok-leads.ensures.lowest ∙ ap (map (representative t)) (c.as_slice.ensures.value ∙ sym c.as_slice-3.ensures.value)) in
    let known : All (λ lead. lead < numbers) leads = rw c.as_slice-2.ensures.value (subst (λ (n : ℕ). All (λ number. number < n) c.in_ok-leads.leads.items) c.requires.numbers c.in_ok-leads.ensures.within) in
    let numbered_is : numbered ≡ answer_numbers_with circuit leads (Some (slice_range patterns first (first + length vectors))) =
    c.in_ok-number_block.ensures.ok ∙ (ap (λ (n : AnswerNumbers). answer_numbers_with n.circuit n.leads (Some vectors)) c.in_ok-numbers.ensures ∙ ap (λ (vs : List (List Bool)). answer_numbers_with circuit leads (Some vs)) block.are) in
    let are : AreLanesNumbered numbered listed t all first c.live.result = λ lane h.
    subst (λ (n : AnswerNumbers). IsNumbered n lane listed t all (first + lane)) (sym numbered_is)
    (numbered_in circuit patterns t all answered.answers listed leads leads_are known first (first + length vectors) lane (omega arith) block.within (omega (arith, h, many))) in
    c.in_ok-pass_lanes.ensures.passed numbers all (record { some = some_number circuit; is = answered.table }) are (rw many before)
