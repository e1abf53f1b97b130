-- Group numbers that are read one after another, and the groups of rows without bits.
use Rattle.std.proofs.Common.{◌≡◌, ◌∙◌, ℕ, ◌+◌, ◌-◌, ◌*◌, ◌<◌, ◌≤◌, ◌⊎◌, ◌↔◌, Bool, List, [], ◌∷◌, ◌++◌, length, get_or, take, max, replicate, refl, sym, ap, subst, arith, inl, inr, Contains}
use Rattle.std.proofs.lemmas.Bool.{cases_lt}
use Rattle.std.proofs.lemmas.List.{length-replicate, get_or-replicate, get_or_default, nil_from_length, take-replicate}
use Rattle.std.proofs.lemmas.List.Elements.{Contains-push, Contains-push_cases, Contains-append_left}
use Rattle.std.proofs.lemmas.List.FromFn.{map-range_with_len_more, take-map-range_with_len}
use Rattle.net_model.proofs.Elements.{none_in}
use Rattle.dict_rows.specs.Grouped.{IsGrouped, IsLeastUnused, AreDifferent, AreGroupsOf}
use Rattle.dict_file.specs.declared.fault.DictFault.{DictFault}
use Rattle.dict_file.specs.declared.fault.DictFault.TheVariants.{Value}
use Rattle.dict_file.specs.Parts.{reaches, wants, ◌⊳◌}
use Rattle.dict_file.specs.Reading as reading
use Rattle.dict_file.specs.Reading.{number_at, group_at, groups_before, IsGroupNumber, AreUsed, groups_from, group_part, groups_part}
use Rattle.dict_file.proofs.VersionTwo.{length-groups_before, get_or-groups_before}

-- The groups of the first numbers are right, and those below a count are the used ones.
pub record AreGroupsTo (bytes : List ℕ) (number used : ℕ) (read : List ℕ) : Type 0 where
  pub read_are : read ≡ groups_before bytes number
  pub each_is : (k : ℕ) → k < number → (group_part bytes k).Right
  pub used_are : (group : ℕ) → Contains (groups_before bytes number) group ↔ (group < used)
  pub few : used ≤ reading.groups bytes

pub groups_none : (bytes : List ℕ) → AreGroupsTo bytes 0 0 []
groups_none bytes = record {
  read_are = refl;
  each_is = λ k h. absurd (omega (arith, h));
  used_are = λ group. (λ has. absurd (none_in group has), λ h. absurd (omega (arith, h)));
  few = omega arith;
}

pub before_more : (bytes : List ℕ) (n : ℕ) → groups_before bytes (n + 1) ≡ groups_before bytes n ++ group_at bytes n ∷ []
before_more bytes n = map-range_with_len_more (group_at bytes) 0 n n (omega arith)

-- The group that may come next.
pub next_is : {bytes : List ℕ} {number used : ℕ} {read : List ℕ} → AreGroupsTo bytes number used read → group_at bytes number ≤ used → group_at bytes number < reading.groups bytes → IsGroupNumber bytes number
next_is {bytes} {number} {used} {read} are within known = record {
  next = elim (cases_lt (group_at bytes number) used) [
    | inl low ↦ inl ((are.used_are (group_at bytes number)).1 low)
    | inr over ↦ inr (record {
      unused = λ has. let low = (are.used_are (group_at bytes number)).0 has in omega (arith, low, over);
      lower = λ g h. (are.used_are g).1 (omega (arith, h, within));
    })
  ];
  known = known;
}

pub next_not : {bytes : List ℕ} {number used : ℕ} {read : List ℕ} → AreGroupsTo bytes number used read → ((group_at bytes number ≤ used) × (group_at bytes number < reading.groups bytes) → ⊥) → IsGroupNumber bytes number → ⊥
next_not {bytes} {number} {used} {read} are wrong is =
    wrong (
      elim is.next [
        | inl has ↦ let low = (are.used_are (group_at bytes number)).0 has in omega (arith, low)
        | inr least ↦ elim (cases_lt used (group_at bytes number)) [
          | inl more ↦ let low = (are.used_are used).0 (least.lower used more) in absurd (omega (arith, low))
          | inr within ↦ within
        ]
      ],
      is.known,
    )

pub groups_more : {bytes : List ℕ} {number used : ℕ} {read : List ℕ} (group : ℕ) → AreGroupsTo bytes number used read → group ≡ group_at bytes number → groups_from bytes + 4 * number + 4 ≤ length bytes → group ≤ used → group < reading.groups bytes
    → AreGroupsTo bytes (number + 1) (max used (group + 1)) (read ++ group ∷ [])
groups_more {bytes} {number} {used} {read} group are is within low known =
    let at : group_at bytes number ≤ used = omega (arith, is, low) in
    let below : group_at bytes number < reading.groups bytes = omega (arith, is, known) in
    let more = before_more bytes number in
    record {
      read_are = ap (λ gs. gs ++ group ∷ []) are.read_are ∙ (ap (λ g. groups_before bytes number ++ g ∷ []) is ∙ sym more);
      each_is = λ k h. elim (cases_lt k number) [
        | inl less ↦ are.each_is k less
        | inr over ↦ let e : number ≡ k = omega (arith, h, over) in subst (λ j. (group_part bytes j).Right) e (within, next_is are at below)
      ];
      used_are = λ g. (
        λ has. elim (Contains-push_cases (groups_before bytes number) (group_at bytes number) g (subst (λ (gs : List ℕ). Contains gs g) more has)) [
          | inl old ↦ let l = (are.used_are g).0 old in omega (arith, l)
          | inr new ↦ omega (arith, new, is)
        ],
        λ h. subst (λ (gs : List ℕ). Contains gs g) (sym more) (elim (cases_lt g used) [
          | inl less ↦ Contains-append_left (groups_before bytes number) (group_at bytes number ∷ []) g ((are.used_are g).1 less)
          | inr over ↦
              let e : group_at bytes number ≡ g = omega (arith, h, over, is, low) in
              subst (Contains (groups_before bytes number ++ group_at bytes number ∷ [])) e (Contains-push (groups_before bytes number) (group_at bytes number))
        ]),
      );
      few = omega (arith, are.few, known);
    }

-- All groups are used if as many are used as there are.
pub all_used : {bytes : List ℕ} {used : ℕ} {read : List ℕ} → AreGroupsTo bytes (reading.numbers bytes) used read → reading.groups bytes ≤ used → AreUsed bytes
all_used are all g h = (are.used_are g).1 (omega (arith, h, all))

pub not_all_used : {bytes : List ℕ} {used : ℕ} {read : List ℕ} → AreGroupsTo bytes (reading.numbers bytes) used read → used < reading.groups bytes → AreUsed bytes → ⊥
not_all_used {bytes} {used} {read} are few all = let low = (are.used_are used).0 (all used few) in omega (arith, low)

-- ---- groups that were read, as those of a dictionary

pub grouped_read : (bytes : List ℕ) (numbers groups : ℕ) (entries : List (List Bool)) → numbers ≡ reading.numbers bytes → groups ≡ reading.groups bytes → length entries ≡ groups → AreDifferent entries
    → ((k : ℕ) → k < reading.numbers bytes → (group_part bytes k).Right) → AreUsed bytes → IsGrouped numbers (groups_before bytes (reading.numbers bytes)) entries
grouped_read bytes numbers groups entries n_is g_is long different each_is all = record {
  one_each = length-groups_before bytes (reading.numbers bytes) ∙ sym n_is;
  numbered = record {
    each = λ n h.
        let low : n < reading.numbers bytes = omega (arith, h, length-groups_before bytes (reading.numbers bytes)) in
        let before : take n (groups_before bytes (reading.numbers bytes)) ≡ groups_before bytes n = take-map-range_with_len (group_at bytes) 0 (reading.numbers bytes) n (omega (arith, low)) in
        let here = get_or-groups_before bytes (reading.numbers bytes) n low in
        subst (λ (gs : List ℕ). Contains gs (get_or (groups_before bytes (reading.numbers bytes)) n 0) ⊎ IsLeastUnused gs (get_or (groups_before bytes (reading.numbers bytes)) n 0)) (sym before)
        (subst (λ g. Contains (groups_before bytes n) g ⊎ IsLeastUnused (groups_before bytes n) g) (sym here) (each_is n low).1.next);
  };
  used = λ g. (
    λ (k, h, e).
        let low : k < reading.numbers bytes = omega (arith, h, length-groups_before bytes (reading.numbers bytes)) in
        let here : get_or (groups_before bytes (reading.numbers bytes)) k g ≡ group_at bytes k = get_or_default (groups_before bytes (reading.numbers bytes)) k g 0 h ∙ get_or-groups_before bytes (reading.numbers bytes) k low in
        omega (arith, sym e ∙ here, (each_is k low).1.known, long, g_is),
    λ h. all g (omega (arith, h, long, g_is)),
  );
  different = different;
}

-- ---- rows without bits

zero_in : (n g : ℕ) → Contains (replicate n 0) g → (0 < n) × (g ≡ 0)
zero_in n g (k, h, e) =
    let low : k < n = omega (arith, h, length-replicate {A = ℕ} n 0) in
    (omega (arith, low), sym e ∙ get_or-replicate n k 0 g low)

in_zeros : (n : ℕ) → 0 < n → Contains (replicate {A = ℕ} n 0) 0
in_zeros n h = (0, omega (arith, h, length-replicate {A = ℕ} n 0), get_or-replicate n 0 0 0 h)

pub one_group_of : (rows : List (List Bool)) (groups : List ℕ) (entries : List (List Bool)) → 0 < length rows → ((k : ℕ) → k < length rows → length (get_or rows k []) ≡ 0) → groups ≡ replicate (length rows) 0 → entries ≡ [] ∷ []
    → AreGroupsOf rows groups entries
one_group_of rows groups entries some empty g_are e_are =
    let count = length rows in
    let long : length groups ≡ count = ap length g_are ∙ length-replicate count 0 in
    let one : length entries ≡ 1 = ap length e_are in
    let each : (n : ℕ) → n < count → get_or groups n 0 ≡ 0 = λ n h. ap (λ gs. get_or gs n 0) g_are ∙ get_or-replicate count n 0 0 h in
    record {
      grouped = record {
        one_each = long;
        numbered = record {
          each = λ n h.
              let low : n < count = omega (arith, h, long) in
              let before : take n groups ≡ replicate n 0 = ap (take n) g_are ∙ take-replicate n count 0 (omega (arith, low)) in
              subst (λ g. Contains (take n groups) g ⊎ IsLeastUnused (take n groups) g) (sym (each n low))
              (subst (λ (gs : List ℕ). Contains gs 0 ⊎ IsLeastUnused gs 0) (sym before)
              (elim (cases_lt 0 n) [
                | inl some ↦ inl (in_zeros n some)
                | inr none ↦ inr (record { unused = λ has. let l = (zero_in n 0 has).0 in omega (arith, l, none); lower = λ g l. absurd (omega (arith, l)) })
              ]));
        };
        used = λ g. (
          λ has. let z = (zero_in count g (subst (λ (gs : List ℕ). Contains gs g) g_are has)).1 in omega (arith, z, one),
          λ h. let z : 0 ≡ g = omega (arith, h, one) in subst (Contains groups) z (subst (λ (gs : List ℕ). Contains gs 0) (sym g_are) (in_zeros count some)),
        );
        different = record { apart = λ a b ha hb e. omega (arith, ha, hb, one) };
      };
      own = λ n h. ap (λ g. get_or entries g []) (each n h) ∙ (ap (λ (es : List (List Bool)). get_or es 0 []) e_are ∙ sym (nil_from_length (get_or rows n []) (empty n h)));
    }

-- ---- what a loop over group numbers has, as it is found

pub group_refused : (bytes : List ℕ) (number used at groups : ℕ) (read : List ℕ) (fault : DictFault) → AreGroupsTo bytes number used read → number < reading.numbers bytes → at ≡ groups_from bytes + 4 * number → groups ≡ reading.groups bytes
    → (reaches bytes (at + 4) ⊳ wants ((number_at bytes at ≤ used) × (number_at bytes at < groups)) (Value at)).Refused fault → (groups_part bytes).Refused fault
group_refused bytes number used at groups read fault are low at_is groups_is refused =
    let P : ℕ → ℕ → Type 0 = λ a g. (reaches bytes (a + 4) ⊳ wants ((number_at bytes a ≤ used) × (number_at bytes a < g)) (Value a)).Refused fault in
    let here : P (groups_from bytes + 4 * number) (reading.groups bytes) = subst (P (groups_from bytes + 4 * number)) groups_is (subst (λ a. P a groups) at_is refused) in
    inl (number, low, are.each_is, elim here [ inl cut ↦ inl cut | inr wrong ↦ inr (wrong.0, (next_not are wrong.1.0, wrong.1.1)) ])

pub groups_go_on : (bytes : List ℕ) (number used at groups group next : ℕ) (read : List ℕ) → AreGroupsTo bytes number used read → at ≡ groups_from bytes + 4 * number → groups ≡ reading.groups bytes → group ≡ number_at bytes at
    → (at + 4 ≤ length bytes) × ((group ≤ used) × (group < groups)) → next ≡ max used (group + 1) → AreGroupsTo bytes (number + 1) next (read ++ group ∷ [])
groups_go_on bytes number used at groups group next read are at_is groups_is group_is right next_is =
    subst (λ n. AreGroupsTo bytes (number + 1) n (read ++ group ∷ [])) (sym next_is)
    (groups_more group are (group_is ∙ ap (number_at bytes) at_is) (omega (arith, right.0, at_is)) right.1.0 (omega (arith, right.1.1, groups_is)))

pub unused_refused : (bytes : List ℕ) (number used groups place : ℕ) (read : List ℕ) → AreGroupsTo bytes number used read → number ≡ reading.numbers bytes → used < groups → groups ≡ reading.groups bytes
    → place ≡ groups_from bytes + 4 * (reading.numbers bytes - 1) → (groups_part bytes).Refused (Value place)
unused_refused bytes number used groups place read are all few groups_is place_is =
    let whole : AreGroupsTo bytes (reading.numbers bytes) used read = subst (λ n. AreGroupsTo bytes n used read) all are in
    inr (whole.each_is, (not_all_used whole (omega (arith, few, groups_is)), ap Value place_is))

pub groups_right : (bytes : List ℕ) (number used groups : ℕ) (read : List ℕ) → AreGroupsTo bytes number used read → number ≡ reading.numbers bytes → groups ≤ used → groups ≡ reading.groups bytes → (groups_part bytes).Right
groups_right bytes number used groups read are all enough groups_is =
    let whole : AreGroupsTo bytes (reading.numbers bytes) used read = subst (λ n. AreGroupsTo bytes n used read) all are in
    (whole.each_is, all_used whole (omega (arith, enough, groups_is)))
