use Rattle.std.proofs.Common.{◌≡◌, ◌∙◌, ◌+◌, ◌++◌, ◌∷◌, [], ℕ, true, get_or, take, refl, sym, subst, arith, inl, inr}
use Rattle.std.specs.Prelude.{Contains}
use Rattle.std.proofs.lemmas.Bool.{cases_eq}
use Rattle.std.proofs.lemmas.List.{take_all, take_more}
use Rattle.std.proofs.lemmas.List.Elements.{Contains-append_left, Contains-push, Contains-push_cases}
use Rattle.event_queue.specs.Pending.{is_pending}
use Rattle.event_queue.proofs.queue.NumberQueue.wake.Goals as goal

pub loop-number-init : goal.loop-number-init
loop-number-init c = record { room = refl; here = λ n has. absurd (omega (arith, has.1)); kept = λ n was. was; only = λ n is. inl is }

pub loop-number-preserved : goal.loop-number-preserved
loop-number-preserved c =
    let numbers = c.args.numbers.now in
    let i = c.loop-number.number-index in
    let number = get_or numbers i 0 in
    let before = take i numbers in
    let was = c.loop-number.invariant in
    let new = c.insert.new.self in
    let more : take (i + 1) numbers ≡ before ++ number ∷ [] = take_more numbers i 0 c.loop-number-test.true in
    let waits : (n : ℕ) → is_pending c.loop-number.self n ≡ true → is_pending new n ≡ true =
    λ n is. elim (cases_eq n number) [
      | inl same ↦ rw same c.insert.ensures.here
      | inr ne ↦ c.insert.ensures.others n ne ∙ is
    ] in
    record {
      room = c.insert.ensures.room ∙ was.room;
      here = λ n has. elim (Contains-push_cases before number n (subst (λ l. Contains l n) more has)) [
        | inl earlier ↦ waits n (was.here n earlier)
        | inr same ↦ subst (λ m. is_pending new m ≡ true) same c.insert.ensures.here
      ];
      kept = λ n is. waits n (was.kept n is);
      only = λ n is. elim (cases_eq n number) [
        | inl same ↦ inr (subst (λ l. Contains l n) (sym more) (subst (Contains (before ++ number ∷ [])) (sym same) (Contains-push before number)))
        | inr ne ↦ elim (was.only n (sym (c.insert.ensures.others n ne) ∙ is)) [
          | inl old ↦ inl old
          | inr has ↦ inr (subst (λ l. Contains l n) (sym more) (Contains-append_left before (number ∷ []) n has))
        ]
      ];
    }

pub returns-clause-here : goal.returns-clause-here
returns-clause-here c = λ n has. c.loop-number.invariant.here n (subst (λ l. Contains l n) (sym (take_all c.loop-number.number-index c.args.numbers.now c.loop-number-test.false)) has)

pub returns-clause-only : goal.returns-clause-only
returns-clause-only c = λ n is. elim (c.loop-number.invariant.only n is) [
  | inl old ↦ inl old
  | inr has ↦ inr (subst (λ l. Contains l n) (take_all c.loop-number.number-index c.args.numbers.now c.loop-number-test.false) has)
]
