use Rattle.std.proofs.Common.{◌≡◌, ◌≢◌, ◌∙◌, ◌<◌, [], ℕ, length, get_or, set, ap, subst, arith, inl, inr, filter}
use Rattle.std.proofs.lemmas.Bool.{cases_eq}
use Rattle.std.proofs.lemmas.List.{get_or-set_same, get_or-set_other, get_or_default}
use Rattle.std.proofs.lemmas.List.Elements.{filter_passes}
use Rattle.class_refine.specs.Steps.{is_in, staying}
use Rattle.class_refine.proofs.Ranges.{filter_all}
use Rattle.class_refine.proofs.moving.keep_members.Goals as goal

pub loop-at-preserved : goal.loop-at-preserved
loop-at-preserved c =
    let at = c.loop-at.at in
    let classes = c.args.classes.now in
    let class = get_or classes at 0 in
    let held = c.loop-at.groups in
    let group = c.keep.new.self in
    let want = staying c.args.class_of.now c.args.groups.now in
    let test = is_in c.args.class_of.now class in
    let inside : class < length held = omega (arith, c.requires at 0 c.loop-at-test.true, c.loop-at.auto.groups) in
    let here : get_or (set held class group) class [] ≡ want class =
    get_or-set_same held class group [] inside
    ∙ (c.keep.ensures ∙ (ap (filter test) (get_or_default held class c.index-groups-class.result [] inside) ∙ elim (c.loop-at.invariant.others class) [
      | inl e ↦ ap (filter test) e
      | inr e ↦ ap (filter test) e ∙ filter_all test (want class) (filter_passes test (get_or c.args.groups.now class []))
    ])) in
    let there : (other : ℕ) → other ≢ class → get_or (set held class group) other [] ≡ get_or held other [] = λ other ne. get_or-set_other held class other group [] ne in
    record {
      done = λ k l. elim (cases_eq (get_or classes k 0) class) [
        | inl same ↦ rw same here
        | inr ne ↦ there (get_or classes k 0) ne ∙ c.loop-at.invariant.done k (grind (arith, l, ne))
      ];
      others = λ other. elim (cases_eq other class) [
        | inl same ↦ inr (rw same here)
        | inr ne ↦ grind (arith, c.loop-at.invariant.others other, there other ne)
      ];
    }

pub returns : goal.returns
returns c class (inl has) =
    let same : get_or c.args.classes.now has.0 0 ≡ class = get_or_default c.args.classes.now has.0 0 class has.1 ∙ has.2 in
    subst (λ j. get_or c.loop-at.groups j [] ≡ staying c.args.class_of.now c.args.groups.now j) same (c.loop-at.invariant.done has.0 (omega (arith, has.1, c.loop-at-test.false)))
returns c class (inr stays) = grind (arith, c.loop-at.invariant.others class, stays)
