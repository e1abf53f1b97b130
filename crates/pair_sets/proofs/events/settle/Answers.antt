use Rattle.std.proofs.Common.{◌≡◌, ◌<◌, ◌∙◌, [], length, set, refl, sym, ap, arith, inl, inr}
use Rattle.std.proofs.lemmas.Bool.{eqb-true, eq-eqb, false≢true}
use Rattle.std.proofs.lemmas.List.{append-nil, get_or_read, set-get_or}
use Rattle.pair_sets.specs.PairSet.{PairSet, free_pairs}
use Rattle.pair_sets.specs.PairSetFields.{set_with_number, number_of}
use Rattle.pair_sets.specs.CubeState.{set_at}
use Rattle.pair_sets.proofs.EventLemmas.{readers_within, readers_woken}
use Rattle.pair_sets.proofs.GateLemmas.{fewer_pairs}
use Rattle.pair_sets.proofs.ImageLemmas.{set_again}
use Rattle.pair_sets.proofs.TrailLemmas.{longer_one}
use Rattle.pair_sets.proofs.events.settle.Goals as goal

-- sets with the same number are equal
same_number : (s t : PairSet) → number_of s ≡ number_of t → s ≡ t
same_number s t e = sym (set_again s) ∙ ap set_with_number e ∙ set_again t

pub returns-then-eq-clause-sets : goal.returns-then-eq-clause-sets
returns-then-eq-clause-sets c =
    let sets = c.args.trail.now.sets.items in
    let line = c.args.line in
    let inside : line < length sets = omega (arith, c.requires.width, c.requires.line) in
    let was : c.index.result.now ≡ set_at sets line = get_or_read sets line c.index.result.now inside c.index.ensures free_pairs in
    let same : c.index.result.now ≡ c.args.pairs = same_number c.index.result.now c.args.pairs (eqb-true (number_of c.index.result.now) (number_of c.args.pairs) (sym c.eq.ensures ∙ c.if-eq.true)) in
    sym (set-get_or sets line free_pairs) ∙ ap (set sets line) (sym was ∙ same)

pub set-requires-clause-fewer : goal.set-requires-clause-fewer
set-requires-clause-fewer c =
    let sets = c.args.trail.now.sets.items in
    let line = c.args.line in
    let inside : line < length sets = omega (arith, c.requires.width, c.requires.line) in
    let was : c.index.result.now ≡ set_at sets line = get_or_read sets line c.index.result.now inside c.index.ensures free_pairs in
    fewer_pairs c.args.pairs (set_at sets line) c.requires.fewer
    (λ same. false≢true (sym c.if-eq.false ∙ c.eq.ensures ∙ eq-eqb (number_of c.index.result.now) (number_of c.args.pairs) (ap number_of (was ∙ sym same))))

pub wake-requires : goal.wake-requires
wake-requires c = λ k d h. omega (arith, readers_within c.args.pair.now.circuit.now c.args.wiring.now c.requires.wiring c.args.line c.readers.result.now c.readers.ensures k d h, c.requires.queue)

pub returns-clause-longer : goal.returns-clause-longer
returns-clause-longer c =
    let inside : c.args.line < length c.args.trail.now.sets.items = omega (arith, c.requires.width, c.requires.line) in
    longer_one c.args.trail.now c.set.new.self c.args.line c.args.pairs inside c.set.ensures.sets c.set.ensures.changes c.set.ensures.capacity

pub returns-clause-wakes : goal.returns-clause-wakes
returns-clause-wakes c =
    let woken =
    readers_woken c.args.pair.now.circuit.now c.args.wiring.now c.requires.wiring c.args.line c.readers.result.now c.readers.ensures c.args.queue.now c.wake.new.self c.wake.ensures.kept c.wake.ensures.only c.wake.ensures.here in
    record { others = woken.others; readers = inr woken.readers }

pub returns-then-eq-clause-longer : goal.returns-then-eq-clause-longer
returns-then-eq-clause-longer c = record { added = []; extends = sym (append-nil c.args.trail.now.changes.items); before = refl; whole = refl; within = λ k d h. absurd (omega (arith, h)); capacity = refl }

pub returns-then-eq-clause-wakes : goal.returns-then-eq-clause-wakes
returns-then-eq-clause-wakes c =
    let sets = c.args.trail.now.sets.items in
    let line = c.args.line in
    let inside : line < length sets = omega (arith, c.requires.width, c.requires.line) in
    let was : c.index.result.now ≡ set_at sets line = get_or_read sets line c.index.result.now inside c.index.ensures free_pairs in
    let same : c.index.result.now ≡ c.args.pairs = same_number c.index.result.now c.args.pairs (eqb-true (number_of c.index.result.now) (number_of c.args.pairs) (sym c.eq.ensures ∙ c.if-eq.true)) in
    record { others = record { kept = λ place e. e; only = λ place e. inl e }; readers = inl (sym was ∙ same) }

pub index-requires : goal.index-requires
index-requires c = omega (arith, c.requires.width, c.requires.line, c.args.trail.now.sets.ok.0)
