-- Numbers asked class by class.
use Rattle.std.proofs.Common.{◌≡◌, ℕ, ◌+◌, ◌<◌, ◌≤◌, ◌⊎◌, List, [], ◌∷◌, ◌++◌, length, get_or, refl, sym, subst, ◌∙◌, arith, inl, inr}
use Rattle.std.specs.Prelude.{All, Contains}
use Rattle.std.proofs.lemmas.Bool.{cases_lt}
use Rattle.std.proofs.lemmas.List.Elements.{All-contains, Contains-get_or, Contains-append_left, Contains-append_right, Contains-push_cases}
use Rattle.std.proofs.lemmas.Grind.{get_or_default_zero}
use Rattle.net_model.specs.ClassTable.{ClassTable, class_at, members}
use Rattle.class_refine.proofs.Pieces.{members-All, members-contains}
use Rattle.word_sim.specs.GoodSim.{GoodSim}
use Rattle.kept_vectors.specs.Units.{IsUnit}
use Rattle.kept_vectors.specs.Notes.{AreMatesKnown, AreMatesAlike, IsGroupKnown, AreKnown}

-- `IsKnown` holds for the classes below one, or all numbers of such a class answer alike.
pub record AreKnownBelow (good : GoodSim) (roots : List ℕ) (IsKnown : ℕ → Type 0) (t : ClassTable) (class : ℕ) (numbers : List ℕ) : Type 0 where
  pub known : (n : ℕ) → n < length t.class_of → class_at t n < class → ((IsUnit roots n → Contains numbers n) × AreMatesKnown good IsKnown t n) ⊎ AreMatesAlike good t n
  pub mates : All (λ n. (n < length t.class_of) × AreMatesKnown good IsKnown t n) numbers

module _ (good : GoodSim) (roots : List ℕ) (t : ClassTable) (class : ℕ) (WasKnown IsKnown : ℕ → Type 0) (old numbers : List ℕ) (later : (n : ℕ) → WasKnown n → IsKnown n) where
  mates_later : (n : ℕ) → AreMatesKnown good WasKnown t n → AreMatesKnown good IsKnown t n
  mates_later n mates other h same = later other (mates other h same)

  in_class : (n : ℕ) → n < length t.class_of → class_at t n ≡ class → Contains (members t class) n
  in_class n h is = subst (λ c. Contains (members t c) n) is (members-contains t n h)

  module _ (grouped : IsGroupKnown good roots IsKnown (members t class) old numbers) where
    -- the numbers of the class
    own : (n : ℕ) → n < length t.class_of → class_at t n ≡ class → ((IsUnit roots n → Contains numbers n) × AreMatesKnown good IsKnown t n) ⊎ AreMatesAlike good t n
    own n h is = elim grouped [
      | inl noted ↦ inl (noted.1 n (in_class n h is), λ other below same. All-contains IsKnown (members t class) other noted.0 (in_class other below (same ∙ is)))
      | inr alike ↦ inr (λ other lane below same live. alike.1 n other lane (in_class n h is) (in_class other below (same ∙ is)) live)
    ]

    grown : (n : ℕ) → Contains old n → Contains numbers n
    grown n has = elim grouped [ inl noted ↦ noted.3 n has | inr alike ↦ subst (λ ns. Contains ns n) (sym alike.0) has ]

    -- those that were added
    added : (n : ℕ) → Contains numbers n → Contains old n ⊎ ((n < length t.class_of) × AreMatesKnown good IsKnown t n)
    added n has = elim grouped [
      | inr alike ↦ inl (subst (λ ns. Contains ns n) alike.0 has)
      | inl noted ↦ elim (noted.2 n has) [
        | inl before ↦ inl before
        | inr here ↦
            let is = All-contains (λ m. (m < length t.class_of) × (class_at t m ≡ class)) (members t class) n (members-All t class) here in
            inr (is.0, λ other below same. All-contains IsKnown (members t class) other noted.0 (in_class other below (same ∙ is.1)))
      ]
    ]

    pub below_more : AreKnownBelow good roots WasKnown t class old → AreKnownBelow good roots IsKnown t (class + 1) numbers
    below_more so_far = record {
      known = λ n h less. elim (cases_lt (class_at t n) class) [
        | inr over ↦ own n h (omega (arith, less, over))
        | inl low ↦ elim (so_far.known n h low) [ inl both ↦ inl (λ unit. grown n (both.0 unit), mates_later n both.1) | inr alike ↦ inr alike ]
      ];
      mates = λ k d h. elim (added (get_or numbers k d) (Contains-get_or numbers k d h)) [
        | inr new ↦ new
        | inl before ↦
            let was = All-contains (λ n. (n < length t.class_of) × AreMatesKnown good WasKnown t n) old (get_or numbers k d) so_far.mates before in
            (was.0, mates_later (get_or numbers k d) was.1)
      ];
    }

-- `IsKnown` holds for the units among the first `at` numbers of the group, which were added to `old`, and no number
-- that isn't of the group was.
pub record IsKnownSoFar (roots : List ℕ) (IsKnown : ℕ → Type 0) (group : List ℕ) (at : ℕ) (old numbers : List ℕ) : Type 0 where
  pub known : (k : ℕ) → k < at → IsUnit roots (get_or group k 0) → IsKnown (get_or group k 0) × Contains numbers (get_or group k 0)
  pub only : (n : ℕ) → Contains numbers n → Contains old n ⊎ Contains group n
  pub grown : (n : ℕ) → Contains old n → Contains numbers n

-- none of them
pub known_none : (roots : List ℕ) (IsKnown : ℕ → Type 0) (group numbers : List ℕ) → IsKnownSoFar roots IsKnown group 0 numbers numbers
known_none roots IsKnown group numbers = record { known = λ k h. absurd (omega (arith, h)); only = λ n has. inl has; grown = λ n has. has }

module _ {roots : List ℕ} {WasKnown IsKnown : ℕ → Type 0} {group : List ℕ} {at : ℕ} {old numbers : List ℕ} (so_far : IsKnownSoFar roots WasKnown group at old numbers) (later : (n : ℕ) → WasKnown n → IsKnown n) (inside : at < length group) where
  -- one more, which is a unit and was added
  pub known_unit : (new : List ℕ) → new ≡ numbers ++ get_or group at 0 ∷ [] → IsKnown (get_or group at 0) → IsKnownSoFar roots IsKnown group (at + 1) old new
  known_unit new is known =
      let kept : (n : ℕ) → Contains numbers n → Contains new n = λ n has. subst (λ ns. Contains ns n) (sym is) (Contains-append_left numbers (get_or group at 0 ∷ []) n has) in
      record {
        known = λ k h unit. elim (cases_lt k at) [
          | inl less ↦ let was = so_far.known k less unit in (later (get_or group k 0) was.0, kept (get_or group k 0) was.1)
          | inr most ↦
              let e : at ≡ k = omega (arith, h, most) in
              subst (λ (j : ℕ). IsKnown (get_or group j 0) × Contains new (get_or group j 0)) e
              (known, subst (λ ns. Contains ns (get_or group at 0)) (sym is) (Contains-append_right numbers (get_or group at 0 ∷ []) (get_or group at 0) (0, omega arith, refl)))
        ];
        only = λ n has. elim (Contains-push_cases numbers (get_or group at 0) n (subst (λ ns. Contains ns n) is has)) [
          | inl before ↦ so_far.only n before
          | inr same ↦ inr (subst (Contains group) same (Contains-get_or group at 0 inside))
        ];
        grown = λ n has. kept n (so_far.grown n has);
      }

  -- one more, which is no unit
  pub known_other : (new : List ℕ) → new ≡ numbers → (IsUnit roots (get_or group at 0) → ⊥) → IsKnownSoFar roots IsKnown group (at + 1) old new
  known_other new is none = record {
    known = λ k h unit. elim (cases_lt k at) [
      | inl less ↦ let was = so_far.known k less unit in (later (get_or group k 0) was.0, subst (λ ns. Contains ns (get_or group k 0)) (sym is) was.1)
      | inr most ↦ let e : k ≡ at = omega (arith, h, most) in absurd (none (subst (λ (j : ℕ). IsUnit roots (get_or group j 0)) e unit))
    ];
    only = λ n has. so_far.only n (subst (λ ns. Contains ns n) is has);
    grown = λ n has. subst (λ ns. Contains ns n) (sym is) (so_far.grown n has);
  }

-- all of them, if the group has the root of each of its numbers
pub group_known : (good : GoodSim) {roots : List ℕ} {IsKnown IsRootKnown : ℕ → Type 0} {group : List ℕ} {at : ℕ} {old numbers : List ℕ} → IsKnownSoFar roots IsKnown group at old numbers → length group ≤ at
    → ((n : ℕ) → Contains group n → Contains group (get_or roots n 0) × IsUnit roots (get_or roots n 0) × (IsKnown (get_or roots n 0) → IsRootKnown n)) → IsGroupKnown good roots IsRootKnown group old numbers
group_known good {roots} {IsKnown} {IsRootKnown} {group} {at} {old} {numbers} so_far whole units =
    let known : (n : ℕ) → Contains group n → IsUnit roots n → IsKnown n × Contains numbers n =
    λ n has unit.
    let k = has.0 in
    let is : get_or group k 0 ≡ n = sym (get_or_default_zero group k n has.1) ∙ has.2 in
    subst (λ (m : ℕ). IsKnown m × Contains numbers m) is (so_far.known k (omega (arith, has.1, whole)) (subst (IsUnit roots) (sym is) unit)) in
    inl (
      λ k d h. let n = get_or group k d in let unit = units n (Contains-get_or group k d h) in unit.2 (known (get_or roots n 0) unit.0 unit.1).0,
      λ n has unit. (known n has unit).1,
      so_far.only,
      so_far.grown,
    )

-- what is known of numbers, as something else that follows from it
pub known_as : {good : GoodSim} {roots : List ℕ} {WasKnown IsKnown : ℕ → Type 0} {t : ClassTable} {numbers : List ℕ} → ((n : ℕ) → WasKnown n → IsKnown n) → AreKnown good roots WasKnown t numbers → AreKnown good roots IsKnown t numbers
known_as later are = record {
  mates = λ k d h. let one = are.mates k d h in (one.0, λ other below same. later other (one.1 other below same));
  others = λ n h. elim (are.others n h) [ inl both ↦ inl (both.0, λ other below same. later other (both.1 other below same)) | inr alike ↦ inr alike ];
}

-- `IsKnown` holds for all of a class, or all of it answer alike
pub known_or_alike : {good : GoodSim} {roots : List ℕ} {IsKnown : ℕ → Type 0} {t : ClassTable} {numbers : List ℕ} → AreKnown good roots IsKnown t numbers → (n : ℕ) → n < length t.class_of → AreMatesKnown good IsKnown t n ⊎ AreMatesAlike good t n
known_or_alike are n h = elim (are.others n h) [ inr alike ↦ inr alike | inl both ↦ inl both.1 ]
