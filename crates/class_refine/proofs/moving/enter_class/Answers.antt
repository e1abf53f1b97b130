use Rattle.std.proofs.Common.{◌≡◌, ◌<◌, ◌∙◌, ℕ, List, length, get_or, set, refl, sym, ap, subst, arith, inl, inr, Contains}
use Rattle.std.proofs.lemmas.Bool.{cases_eq}
use Rattle.std.proofs.lemmas.List.{get_or-set_same, get_or-set_other, get_or_default}
use Rattle.std.proofs.lemmas.List.Elements.{Contains-get_or}
use Rattle.class_refine.proofs.moving.enter_class.Goals as goal

pub loop-n-init : goal.loop-n-init
loop-n-init c = record { entered = λ k low. absurd (omega arith); others = λ n. inl refl }

pub bounds-class_of-n : goal.bounds-class_of-n
bounds-class_of-n c = omega (arith, c.requires c.loop-n.n-index 0 c.loop-n-test.true, c.loop-n.auto.class_of)

still : (own : List ℕ) (n class k : ℕ) → n < length own → get_or own k 0 ≡ class → get_or (set own n class) k 0 ≡ class
still own n class k inside was = elim (cases_eq k n) [
  | inl same ↦ rw same (get_or-set_same own n class 0 inside)
  | inr ne ↦ get_or-set_other own n k class 0 ne ∙ was
]

pub loop-n-preserved : goal.loop-n-preserved
loop-n-preserved c =
    let own = c.loop-n.class_of in
    let numbers = c.args.numbers.now in
    let i = c.loop-n.n-index in
    let n = get_or numbers i 0 in
    let class = c.args.class in
    let inside : n < length own = omega (arith, c.requires i 0 c.loop-n-test.true, c.loop-n.auto.class_of) in
    record {
      entered = λ k low. elim (cases_eq k i) [
        | inl same ↦ ap (λ j. get_or (set own n class) (get_or numbers j 0) 0) same ∙ get_or-set_same own n class 0 inside
        | inr ne ↦ still own n class (get_or numbers k 0) inside (c.loop-n.invariant.entered k (omega (arith, low, ne)))
      ];
      others = λ k. elim (cases_eq k n) [
        | inl same ↦ inr (subst (Contains numbers) (sym same) (Contains-get_or numbers i 0 c.loop-n-test.true))
        | inr ne ↦ elim (c.loop-n.invariant.others k) [
          | inl was ↦ inl (get_or-set_other own n k class 0 ne ∙ was)
          | inr has ↦ inr has
        ]
      ];
    }

pub returns-clause-entered : goal.returns-clause-entered
returns-clause-entered c = λ k d h.
    subst (λ n. get_or c.loop-n.class_of n 0 ≡ c.args.class) (get_or_default c.args.numbers.now k 0 d h) (c.loop-n.invariant.entered k (omega (arith, h, c.loop-n-test.false)))

pub returns-clause-others : goal.returns-clause-others
returns-clause-others c = c.loop-n.invariant.others
