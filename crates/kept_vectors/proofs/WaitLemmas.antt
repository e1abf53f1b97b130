-- The numbers that wait, with one number more.
use Rattle.std.proofs.Common.{◌≡◌, ◌≢◌, ◌↔◌, ℕ, Bool, false, zero, suc, ◌<◌, ◌≤◌, ◌⊎◌, List, [], ◌∷◌, ◌++◌, length, get_or, set, sym, ap, subst, ◌∙◌, arith, inl, inr}
use Rattle.std.specs.Prelude.{All, Contains}
use Rattle.std.proofs.lemmas.Bool.{cases_eq, cases_lt}
use Rattle.std.proofs.lemmas.List.{length-set, get_or-set_same, get_or-set_other}
use Rattle.std.proofs.lemmas.List.Elements.{Contains-append_left, Contains-append_right, Contains-push_cases}
use Rattle.net_model.specs.Circuit.{IsCircuit}
use Rattle.net_model.specs.Answer.{bit_at}
use Rattle.net_model.specs.ClassTable.{ClassTable, class_at, representative}
use Rattle.word_sim.specs.declared.lanes.TheConstants.{LANES}
use Rattle.word_sim.specs.GoodSim.{GoodSim, vectors_of}
use Rattle.kept_vectors.specs.declared.notes.Note.{Note}
use Rattle.kept_vectors.specs.Units.{IsUnit}
use Rattle.kept_vectors.specs.Notes.{Noted, AreNotedAlike, AreAlikeAt, IsReportOf, AreAsked}
use Rattle.class_refine.specs.Fields.{IsWhole}
use Rattle.class_refine.proofs.Refined.{representative-member}
use Rattle.kept_vectors.proofs.NoteLemmas.{alike_by_notes}
use Rattle.kept_vectors.specs.Waits.{IsLed, LeavesFirst, AreWaiting}

module _ (good : GoodSim) (roots : List ℕ) (t : ClassTable) (from live : ℕ) where
  -- a number leaves its class first at one lane
  one_first : (n lane other : ℕ) → from ≤ lane → from ≤ other → LeavesFirst good t from lane n → LeavesFirst good t from other n → lane ≡ other
  one_first n lane other low low_too one two = elim (cases_lt lane other) [
    | inl less ↦ absurd (one.differs (two.before lane low less))
    | inr over ↦ elim (cases_lt other lane) [
      | inl less ↦ absurd (two.differs (one.before other low_too less))
      | inr same ↦ omega (arith, over, same)
    ]
  ]

  -- the first of those that are left is the number, or it comes later
  in_front : (number n : ℕ) (left : List ℕ) → Contains (number ∷ left) n → (number ≡ n) ⊎ Contains left n
  in_front number n left (zero, h, is) = inl is
  in_front number n left (suc k, h, is) = inr (k, omega (arith, h), is)

  module _ (lists : List (List ℕ)) (number : ℕ) (left : List ℕ) (so_far : AreWaiting good roots t from live lists (number ∷ left)) (lane : ℕ) (low : from ≤ lane) where
    -- a number that is no unit, or leaves its class at no lane below `live`
    pub waits_nowhere : live ≤ lane → (IsUnit roots number → (other : ℕ) → from ≤ other → other < lane → other < live → IsLed good t other number) → AreWaiting good roots t from live lists left
    waits_nowhere over before = record {
      count = so_far.count;
      right = so_far.right;
      all = λ n other unit low_too h first. elim (so_far.all n other unit low_too h first) [
        | inl has ↦ inl has
        | inr has ↦ elim (in_front number n left has) [
          | inr later ↦ inr later
          | inl same ↦ absurd (first.differs (subst (IsLed good t other) same (before (subst (IsUnit roots) (sym same) unit) other low_too (omega (arith, h, over)) h)))
        ]
      ];
    }

    -- a number that waits at a lane
    pub waits_here : lane < live → live ≤ LANES → LeavesFirst good t from lane number → AreWaiting good roots t from live (set lists lane (get_or lists lane [] ++ number ∷ [])) left
    waits_here less few first =
        let old = get_or lists lane [] in
        let here : get_or (set lists lane (old ++ number ∷ [])) lane [] ≡ old ++ number ∷ [] = get_or-set_same lists lane (old ++ number ∷ []) [] (omega (arith, less, few, so_far.count)) in
        let beside : (other : ℕ) → other ≢ lane → get_or (set lists lane (old ++ number ∷ [])) other [] ≡ get_or lists other [] = λ other ne. get_or-set_other lists lane other (old ++ number ∷ []) [] ne in
        record {
          count = length-set lists lane (old ++ number ∷ []) ∙ so_far.count;
          right = λ n other low_too h has. elim (cases_eq other lane) [
            | inr ne ↦ so_far.right n other low_too h (subst (λ ns. Contains ns n) (beside other ne) has)
            | inl is ↦ elim (Contains-push_cases old number n (subst (λ ns. Contains ns n) here (subst (λ (k : ℕ). Contains (get_or (set lists lane (old ++ number ∷ [])) k []) n) is has))) [
              | inl before ↦ so_far.right n other low_too h (subst (λ (k : ℕ). Contains (get_or lists k []) n) (sym is) before)
              | inr same ↦ subst (λ (k : ℕ). LeavesFirst good t from k n) (sym is) (subst (LeavesFirst good t from lane) same first)
            ]
          ];
          all = λ n other unit low_too h leaves. elim (so_far.all n other unit low_too h leaves) [
            | inl has ↦ inl (elim (cases_eq other lane) [
              | inr ne ↦ subst (λ ns. Contains ns n) (sym (beside other ne)) has
              | inl is ↦ subst (λ (k : ℕ). Contains (get_or (set lists lane (old ++ number ∷ [])) k []) n) (sym is)
                  (subst (λ ns. Contains ns n) (sym here) (Contains-append_left old (number ∷ []) n (subst (λ (k : ℕ). Contains (get_or lists k []) n) is has)))
            ])
            | inr has ↦ elim (in_front number n left has) [
              | inr later ↦ inr later
              | inl same ↦
                  let is : lane ≡ other = one_first number lane other low low_too first (subst (LeavesFirst good t from other) (sym same) leaves) in
                  inl (subst (λ (k : ℕ). Contains (get_or (set lists lane (old ++ number ∷ [])) k []) n) is (subst (λ ns. Contains ns n) (sym here) (Contains-append_right old (number ∷ []) n (0, omega arith, same))))
            ]
          ];
        }

-- a number leaves its class exactly at the lanes in which its notes and those of its representative are apart
pub led_by_bit : (good : GoodSim) → IsCircuit good.circuit → (t : ClassTable) (number lead lane : ℕ) (bits : List Bool) (one other : List Note) → lead ≡ representative t (class_at t number) → IsReportOf good lead lane one → IsReportOf good number lane other
    → lane < length (vectors_of good) → (bit_at bits lane ≡ false) ↔ AreNotedAlike lane one other → (bit_at bits lane ≡ false) ↔ IsLed good t lane number
led_by_bit good is t number lead lane bits one other lead_is first second live by_bit =
    let by_notes = alike_by_notes good is number lead lane other one second first in (
      λ off. subst (AreAlikeAt good lane number) lead_is (by_notes.0 (λ position. sym (by_bit.0 off position))),
      λ led. by_bit.1 (λ position. sym (by_notes.1 (subst (AreAlikeAt good lane number) (sym lead_is) led) position)),
    )

-- before any number waits, all units whose classes are noted are left to come
pub none_wait : (good : GoodSim) (t : ClassTable) → IsWhole t → (from live : ℕ) (lists : List (List ℕ)) (left : List ℕ) (noted : Noted) → All (λ ns. ns ≡ []) lists → length lists ≡ LANES → live ≤ LANES → live ≤ length (vectors_of good)
    → AreAsked good noted t left → AreWaiting good noted.roots t from live lists left
none_wait good t whole from live lists left noted empty count few known asked = record {
  count = count;
  right = λ n lane low h (k, inside, is). absurd (omega (arith, inside, ap length (empty lane [] (omega (arith, h, few, count)))));
  all = λ n lane unit low h first. elim (asked.others n first.number) [
    | inl both ↦ inr (both.0 unit)
    | inr alike ↦
        let lead = representative-member t whole (class_at t n) (whole.classes n first.number) in
        absurd (first.differs (alike (representative t (class_at t n)) lane lead.0 lead.1 (omega (arith, h, known))))
  ];
}
