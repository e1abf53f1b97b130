use Rattle.std.proofs.Common.{◌≡◌, ◌∙◌, ◌<◌, ◌+◌, List, length, get_or, set, ap, sym, arith, subst}
use Rattle.std.specs.Prelude.{Some, slice_get}
use Rattle.std.proofs.lemmas.List.{length-set}
use Rattle.std.proofs.lemmas.Option.{slice_get-get_or, slice_get_within}
use Rattle.net_model.specs.declared.fault.Site.{Site}
use Rattle.net_model.specs.declared.fault.Site.TheVariants.{Stem}
use Rattle.fault_list.specs.Slots.{slot_of}
use Rattle.fault_list.proofs.Bound.{few_sites}
use Rattle.fault_list.proofs.OnePlace.{Apart, Apart-sites, one_place}
use Rattle.fault_list.proofs.Sites.{site_stands}
use Rattle.fault_list.proofs.Table.{row_count, PlacedBelow, placed_more, rising_table, within_table, some_slot}
use Rattle.fault_list.proofs.slots.places.Goals as goal
use Rattle.fault_list.proofs.slots.places.Goals.{in-Some, in_default}

pub bounds-starts-lines : goal.bounds-starts-lines
bounds-starts-lines c = omega (arith, c.lines.ensures.value, ap length c.requires.starts, row_count c.args.circuit.now)

pub overflow_cast-place : goal.overflow_cast-place
overflow_cast-place c = omega (arith, ap length c.requires.sites, few_sites c.args.circuit.now c.lines.ensures.circuit)

pub index_mut-requires : goal.index_mut-requires
index_mut-requires c =
    omega (
      arith,
      c.loop-place.places.ok.0,
      c.loop-place.invariant.whole,
      within_table c.args.circuit.now c.args.starts.now c.requires.starts c.lines.result c.lines.ensures.value (get_or c.args.sites.now c.loop-place.place (Stem 0)) c.in-Some.slot (sym c.in-Some.ensures),
    )

pub loop-place-preserved : goal.loop-place-preserved
loop-place-preserved c =
    let circuit = c.args.circuit.now in
    let starts = c.args.starts.now in
    let sites = c.args.sites.now in
    let places = c.loop-place.places.items in
    let count = c.loop-place.place in
    let site = get_or sites count (Stem 0) in
    let here : slice_get sites count ≡ Some site = slice_get-get_or sites count (Stem 0) c.loop-place-test.true in
    elim c.match-slot_of.branch [
      | in-Some w ↦
          let slot = w.in-Some.slot in
          let items : c.match-slot_of.places.items ≡ set places slot count = ap (λ v. v.items) w.places-is in
          let at : slot_of starts site ≡ Some slot = sym w.in-Some.ensures in
          let inside : slot < length places = omega (arith, c.loop-place.invariant.whole, within_table circuit starts c.requires.starts c.lines.result c.lines.ensures.value site slot at) in
          record {
            whole = ap length items ∙ (length-set places slot count ∙ c.loop-place.invariant.whole);
            placed = subst (PlacedBelow starts sites (count + 1)) (sym items)
                (placed_more starts sites (rising_table circuit starts c.requires.starts) (one_place sites (subst Apart (sym c.requires.sites) (Apart-sites circuit))) count slot site places here at inside c.loop-place.invariant.placed);
          }
      | in_default w ↦
          let slot = some_slot circuit starts c.requires.starts site (site_stands circuit count site (subst (λ (xs : List Site). slice_get xs count ≡ Some site) c.requires.sites here)) in
          absurd (w.in_default.not-Some slot.0 (c.slot_of.ensures ∙ slot.1))
    ]

pub returns : goal.returns
returns c = λ place site there. c.loop-place.invariant.placed place site (omega (arith, slice_get_within c.args.sites.now place site there)) there
