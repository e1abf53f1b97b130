use Rattle.std.proofs.Common.{◌≡◌, ◌∙◌, ◌↔◌, ℕ, ◌<◌, false, length, sym, ap, arith, refl}
use Rattle.std.proofs.lemmas.Bool.{false≢true}
use Rattle.net_model.specs.Answer.{bit_at}
use Rattle.word_sim.specs.GoodSim.{vectors_of}
use Rattle.net_model.specs.ClassTable.{representative, class_at}
use Rattle.kept_vectors.specs.Notes.{noted_by, number_notes}
use Rattle.kept_vectors.specs.Waits.{IsLed}
use Rattle.kept_vectors.proofs.WaitLemmas.{led_by_bit}
use Rattle.kept_vectors.proofs.waiting.leaves_at.Goals as goal
use Rattle.kept_vectors.proofs.waiting.leaves_at.Goals.{After-first_lane}

-- a lane tells the number from its representative, or not
told : (c : After-first_lane) (lane : ℕ) → lane < c.args.live → (bit_at c.apart.result lane ≡ false) ↔ IsLed c.args.good.now c.args.classes.now lane c.args.number
told c lane below =
    let good = c.args.good.now in
    let t = c.args.classes.now in
    let noted = noted_by c.args.differences.now in
    let number = c.args.number in
    let lead = c.representative-lead.result in
    let lead_is : lead ≡ representative t (class_at t number) = c.representative-lead.ensures.value ∙ ap (representative t) c.class_of.ensures.value in
    let live : lane < length (vectors_of good) = omega (arith, below, c.requires.live) in
    let one = (c.requires.noted lead c.representative-lead.ensures.within (c.representative-lead.ensures.member ∙ c.class_of.ensures.value)).report lane live in
    let other = (c.requires.noted number c.requires.number refl).report lane live in
    led_by_bit good c.requires.circuit t number lead lane c.apart.result (number_notes noted lead lane) (number_notes noted number lane) lead_is one other live (c.apart.ensures lane (omega (arith, below, c.requires.few)))

pub returns-clause-first : goal.returns-clause-first
returns-clause-first c below =
    let at = (goal.at.returns-clause-first c).After-first_lane in
    let lane = c.first_lane.result in
    record {
      number = c.requires.number;
      differs = λ led. false≢true (sym ((told at lane below).1 led) ∙ c.first_lane.ensures.found below);
      before = λ earlier from less. let live : earlier < c.args.live = omega (arith, less, below) in (told at earlier live).0 (c.first_lane.ensures.before earlier from less live);
    }

pub returns-clause-before : goal.returns-clause-before
returns-clause-before c unit lane from less live = (told (goal.at.returns-clause-before c).After-first_lane lane live).0 (c.first_lane.ensures.before lane from less live)
