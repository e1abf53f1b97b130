use Rattle.std.proofs.Common.{◌≡◌, ◌∙◌, true, false, refl, ap, sym}
use Rattle.std.specs.Prelude.{not, is_none}
use Rattle.net_model.specs.Fault.{stuck_stem}
use Rattle.pair_miter.specs.Miter.{source_bit}
use Rattle.pair_miter.proofs.miter.source_bit.Goals as goal

pub returns-then-not-split : goal.returns-then-not-split
unfolding source_bit
returns-then-not-split c =
    let relevant = c.requires.relevant in
    let shared = sym c.split.ensures.value ∙ c.if-not-split.true in
    rw (relevant, shared) c.copy_bit.ensures

pub returns-then-is_none : goal.returns-then-is_none
unfolding source_bit
returns-then-is_none c =
    let p = c.args.numbering.now in
    let relevant = c.requires.relevant in
    let own = sym c.split.ensures.value ∙ c.if-not-split.false in
    let free : is_none (stuck_stem p.f c.args.source) ≡ true = ap (λ fault. is_none (stuck_stem fault c.args.source)) (sym c.fault.ensures) ∙ ap is_none (sym c.stuck_stem.ensures) ∙ ap not c.if-is_none.ensures in
    rw (relevant, own, free) c.copy_bit-then-is_none.ensures

pub returns-then-is_none-2 : goal.returns-then-is_none-2
unfolding source_bit
returns-then-is_none-2 c =
    let p = c.args.numbering.now in
    let relevant = c.requires.relevant in
    let own = sym c.split.ensures.value ∙ c.if-not-split.false in
    let stuck : is_none (stuck_stem p.f c.args.source) ≡ false = ap (λ fault. is_none (stuck_stem fault c.args.source)) (sym c.fault.ensures) ∙ ap is_none (sym c.stuck_stem.ensures) ∙ ap not c.if-is_none.ensures in
    let free : is_none (stuck_stem p.g c.args.source) ≡ true = ap (λ fault. is_none (stuck_stem fault c.args.source)) (sym c.fault-2.ensures) ∙ ap is_none (sym c.stuck_stem-2.ensures) ∙ ap not c.if-is_none-2.ensures in
    rw (relevant, own, stuck, free) c.copy_bit-then-is_none-2.ensures

pub returns : goal.returns
unfolding source_bit
returns c =
    let p = c.args.numbering.now in
    let relevant = c.requires.relevant in
    let own = sym c.split.ensures.value ∙ c.if-not-split.false in
    let stuck : is_none (stuck_stem p.f c.args.source) ≡ false = ap (λ fault. is_none (stuck_stem fault c.args.source)) (sym c.fault.ensures) ∙ ap is_none (sym c.stuck_stem.ensures) ∙ ap not c.if-is_none.ensures in
    let stuck_too : is_none (stuck_stem p.g c.args.source) ≡ false = ap (λ fault. is_none (stuck_stem fault c.args.source)) (sym c.fault-2.ensures) ∙ ap is_none (sym c.stuck_stem-2.ensures) ∙ ap not c.if-is_none-2.ensures in
    rw (relevant, own, stuck, stuck_too) refl
