-- The marks that are given: with evidence for one more number, and after one more pattern.
use Rattle.std.proofs.Common.{◌≡◌, ℕ, ◌<◌, ◌≤◌, Bool, true, false, cond, List, [], ◌∷◌, ◌++◌, length, get_or, set, replicate, Option, Some, None, refl, sym, ap, ap₂, subst, ◌∙◌, inl, inr, arith}
use Rattle.std.specs.Prelude.{◌==◌, ◌&&◌, is_none, option_and_then, All, IsSome, MatchOption, if◌then◌else◌}
use Rattle.std.specs.Option.{option_map, option_or}
use Rattle.std.specs.List.{find}
use Rattle.std.proofs.lemmas.Bool.{cases_eq, cases_lt, eqb-true, eq-eqb, ne_eqb}
use Rattle.std.proofs.lemmas.List.{length-set, get_or-set_same, get_or-set_other, length-replicate}
use Rattle.std.proofs.lemmas.List.Elements.{All-append, All-head, All-tail}
use Rattle.std.proofs.lemmas.List.Folds.{find-append}
use Rattle.std.proofs.lemmas.Option.{same_Some}
use Rattle.net_model.specs.ClassTable.{ClassTable, class_at, representative}
use Rattle.net_model.proofs.Elements.{get_or-replicate_anywhere}
use Rattle.class_refine.specs.Fields.{IsWhole}
use Rattle.class_refine.proofs.Refined.{representative-member}
use Rattle.result_records.specs.declared.record.Evidence.{Evidence}
use Rattle.result_records.specs.declared.record.Mark.{Mark}
use Rattle.result_records.specs.declared.record.Mark.TheVariants.{Rep}
use Rattle.result_records.specs.declared.record.Proof.{Proof}
use Rattle.result_records.specs.Marks.{number_mark, next_member, mark_of}
use Rattle.result_records.proofs.Marked.{next_is, none_next}
use Rattle.member_marks.specs.declared.marks.Given.{Given}
use Rattle.member_marks.specs.Given.{given_to, given_mark, AreGiven, AreAllMarked, IsLowestOpen}

some_is : {X : Type 0} (o : Option X) → IsSome o → is_none o ≡ false
some_is None some = absurd (cc)
some_is (Some x) some = refl

no_some : {X : Type 0} (o : Option X) → IsSome o → o ≡ None → ⊥
no_some None some none = cc
no_some (Some x) some none = cc

-- the lowest open number isn't among those that are marked
pub open_from : {t : ClassTable} {given : List (Option Given)} {from member : ℕ} → ((n : ℕ) → n < from → IsSome (given_mark t given n)) → IsLowestOpen t given member → from ≤ member
open_from {t} {given} {from} {member} below lowest = elim (cases_lt member from) [
  | inl less ↦ absurd (no_some (given_mark t given member) (below member less) lowest.unmarked)
  | inr most ↦ most
]

-- ---- whose turn it is

module _ (t : ClassTable) (evidence : List Evidence) (given : List (Option Given)) (are : AreGiven t evidence given) where
  settled : (n : ℕ) → n < length t.class_of → IsSome (given_mark t given n) → is_none (number_mark t evidence n) ≡ false
  settled n below some = ap is_none (are.marks n below) ∙ some_is (given_mark t given n) some

  pub lowest_is_next : (member : ℕ) → IsLowestOpen t given member → next_member t evidence ≡ Some member
  lowest_is_next member lowest =
      next_is t evidence member lowest.inside (λ m less. settled m (let h = lowest.inside in omega arith) (lowest.below m less)) (are.marks member lowest.inside ∙ lowest.unmarked)

  pub all_marked_none : AreAllMarked t given → next_member t evidence ≡ None
  all_marked_none all = none_next t evidence (λ m below. settled m below (all m below))

  -- the lowest open number by the marks is the next member by the evidence
  pub open_is_next : (found : Option ℕ) → MatchOption found (AreAllMarked t given) (IsLowestOpen t given) → next_member t evidence ≡ found
  open_is_next None all = all_marked_none all
  open_is_next (Some member) lowest = lowest_is_next member lowest

-- ---- marks by the representative

-- the mark of a number with this representative by the evidence
abbrev by_evidence : ℕ → List Evidence → ℕ → Option Mark
by_evidence lead evidence n = if lead == n then Some Rep else option_map (λ e. mark_of e.proof) (find (λ e. e.member == n && e.partner == lead) evidence)

abbrev by_given : ℕ → Option Given → ℕ → Option Mark
by_given lead given n = if lead == n then Some Rep else option_and_then (λ g. if g.partner == lead then Some g.mark else None) given

is_by_evidence : (t : ClassTable) (evidence : List Evidence) (n : ℕ) → number_mark t evidence n ≡ by_evidence (representative t (class_at t n)) evidence n
unfolding number_mark
is_by_evidence t evidence n = refl

-- ---- one more piece of evidence

map_none : (o : Option Evidence) → option_map (λ (e : Evidence). mark_of e.proof) o ≡ None → o ≡ None
map_none None none = refl
map_none (Some e) none = absurd (cc)

module _ (lead member : ℕ) (proof : Proof) (evidence : List Evidence) where
  abbrev more : Evidence
  more = record { member = member; partner = lead; proof = proof }

  find_more : (n r : ℕ) → find (λ e. e.member == n && e.partner == r) (evidence ++ more ∷ []) ≡ option_or (find (λ e. e.member == n && e.partner == r) evidence) (find (λ e. e.member == n && e.partner == r) (more ∷ []))
  find_more n r = find-append (λ (e : Evidence). e.member == n && e.partner == r) evidence (more ∷ [])

  or_none : (o : Option Evidence) → option_or o None ≡ o
  or_none None = refl
  or_none (Some e) = refl

  find_other : (n r : ℕ) → (member ≡ n → ⊥) → find (λ e. e.member == n && e.partner == r) (evidence ++ more ∷ []) ≡ find (λ e. e.member == n && e.partner == r) evidence
  find_other n r other =
      let no : (member == n) ≡ false = ne_eqb member n other in
      let last : find (λ (e : Evidence). e.member == n && e.partner == r) (more ∷ []) ≡ None = ap (λ (b : Bool). cond (b && (lead == r)) (Some more) None) no in
      find_more n r ∙ ap (option_or (find (λ (e : Evidence). e.member == n && e.partner == r) evidence)) last ∙ or_none (find (λ (e : Evidence). e.member == n && e.partner == r) evidence)

  find_own : find (λ e. e.member == member && e.partner == lead) evidence ≡ None → find (λ e. e.member == member && e.partner == lead) (evidence ++ more ∷ []) ≡ Some more
  find_own none =
      let last : find (λ (e : Evidence). e.member == member && e.partner == lead) (more ∷ []) ≡ Some more = ap₂ (λ (a b : Bool). cond (a && b) (Some more) None) (eq-eqb member member refl) (eq-eqb lead lead refl) in
      find_more member lead ∙ ap₂ option_or none last

  own_mark : (b : Bool) → (lead == member) ≡ b → by_evidence lead evidence member ≡ None → by_evidence lead (evidence ++ more ∷ []) member ≡ Some (mark_of proof)
  own_mark true same none =
      let some : by_evidence lead evidence member ≡ Some Rep = ap (λ (b : Bool). if b then Some Rep else option_map (λ (e : Evidence). mark_of e.proof) (find (λ (e : Evidence). e.member == member && e.partner == lead) evidence)) same in
      let clash : ◌≡◌ {A = Option Mark} None (Some Rep) = sym none ∙ some in
      absurd (cc)
  own_mark false same none =
      let pick = λ (b : Bool) (o : Option Evidence). if b then Some Rep else option_map (λ (e : Evidence). mark_of e.proof) o in
      let before : option_map (λ (e : Evidence). mark_of e.proof) (find (λ (e : Evidence). e.member == member && e.partner == lead) evidence) ≡ None =
      sym (ap (λ (b : Bool). pick b (find (λ (e : Evidence). e.member == member && e.partner == lead) evidence)) same) ∙ none in
      ap₂ pick same (find_own (map_none (find (λ (e : Evidence). e.member == member && e.partner == lead) evidence) before))

  given_own : (b : Bool) → (lead == member) ≡ b → (g : Option Given) → by_given lead g member ≡ None → by_given lead (Some (record { partner = lead; mark = mark_of proof })) member ≡ Some (mark_of proof)
  given_own true same g none =
      let some : by_given lead g member ≡ Some Rep = ap (λ (b : Bool). if b then Some Rep else option_and_then (λ (g : Given). if g.partner == lead then Some g.mark else None) g) same in
      let clash : ◌≡◌ {A = Option Mark} None (Some Rep) = sym none ∙ some in
      absurd (cc)
  given_own false same g none = ap₂ (λ (a b : Bool). if a then Some Rep else (if b then Some (mark_of proof) else None)) same (eq-eqb lead lead refl)

-- evidence for the lowest open number, and the mark that it gives
pub given_more : {t : ClassTable} {evidence : List Evidence} {given : List (Option Given)} (lead member : ℕ) (proof : Proof) → AreGiven t evidence given → member < length t.class_of
    → given_mark t given member ≡ None → lead ≡ representative t (class_at t member)
    → AreGiven t (evidence ++ record { member = member; partner = lead; proof = proof } ∷ []) (set given member (Some (record { partner = lead; mark = mark_of proof })))
given_more {t} {evidence} {given} lead member proof are inside unmarked is =
    let e : Evidence = record { member = member; partner = lead; proof = proof } in
    let g : Given = record { partner = lead; mark = mark_of proof } in
    let own : get_or (set given member (Some g)) member None ≡ Some g = get_or-set_same given member (Some g) None (omega (arith, are.whole)) in
    record {
      whole = length-set given member (Some g) ∙ are.whole;
      marks = λ n below. elim (cases_eq n member) [
        | inl same ↦
            let r = representative t (class_at t member) in
            let was : by_evidence r evidence member ≡ None = sym (is_by_evidence t evidence member) ∙ are.marks member inside ∙ unmarked in
            let gave : by_given r (get_or given member None) member ≡ None = unmarked in
            let one : by_evidence lead (evidence ++ e ∷ []) member ≡ Some (mark_of proof) = own_mark lead member proof evidence (lead == member) refl (subst (λ (k : ℕ). by_evidence k evidence member ≡ None) (sym is) was) in
            let two : by_given lead (Some g) member ≡ Some (mark_of proof) = given_own lead member proof evidence (lead == member) refl (get_or given member None) (subst (λ (k : ℕ). by_given k (get_or given member None) member ≡ None) (sym is) gave) in
            rw same (is_by_evidence t (evidence ++ e ∷ []) member ∙ ap (λ (k : ℕ). by_evidence k (evidence ++ e ∷ []) member) (sym is) ∙ one ∙ sym two ∙ ap (λ (k : ℕ). by_given k (Some g) member) is ∙ ap (λ (o : Option Given). by_given r o member) (sym own))
        | inr other ↦
            let r = representative t (class_at t n) in
            let found = find_other lead member proof evidence n r (λ same. other (sym same)) in
            let kept : get_or (set given member (Some g)) n None ≡ get_or given n None = get_or-set_other given member n (Some g) None other in
            is_by_evidence t (evidence ++ e ∷ []) n
            ∙ ap (λ (o : Option Evidence). if r == n then Some Rep else option_map (λ (e : Evidence). mark_of e.proof) o) found
            ∙ sym (is_by_evidence t evidence n)
            ∙ are.marks n below
            ∙ ap (λ (o : Option Given). by_given r o n) (sym kept)
      ];
      members = All-append (λ e. e.member < length t.class_of) evidence (e ∷ []) are.members (λ k d below. let k_is : k ≡ 0 = omega arith in rw k_is inside);
      partners = All-append (λ e. e.partner ≤ representative t (class_at t e.member)) evidence (e ∷ []) are.partners (λ k d below. let k_is : k ≡ 0 = omega arith in rw k_is (omega (arith, is)));
      low = λ n h below found. elim (cases_eq n member) [
        | inl same ↦
            let h_is : g ≡ h = same_Some g h (sym own ∙ ap (λ (k : ℕ). get_or (set given member (Some g)) k None) (sym same) ∙ found) in
            let p : h.partner ≡ lead = ap (λ (x : Given). x.partner) (sym h_is) in
            rw (same, p) (omega (arith, is))
        | inr other ↦ are.low n h below (sym (get_or-set_other given member n (Some g) None other) ∙ found)
      ];
    }

abbrev nothing_given : Option Given
nothing_given = None

-- at first nothing is given
pub given_none : {t : ClassTable} (numbers : ℕ) → numbers ≡ length t.class_of → AreGiven t [] (replicate numbers None)
given_none {t} numbers all =
    let nothing : (n : ℕ) → get_or (replicate numbers nothing_given) n None ≡ None = λ n. get_or-replicate_anywhere numbers n nothing_given in
    record {
      whole = length-replicate numbers nothing_given ∙ all;
      marks = λ n below. is_by_evidence t [] n ∙ ap (λ (o : Option Given). by_given (representative t (class_at t n)) o n) (sym (nothing n));
      members = λ k d below. absurd (omega arith);
      partners = λ k d below. absurd (omega arith);
      low = λ n g below found. let clash : ◌≡◌ {A = Option Given} None (Some g) = sym (nothing n) ∙ found in absurd (cc);
    }

-- ---- one more pattern

-- The second table has the numbers of the first, and no representative is lower in it.
pub record LeadsRise (t u : ClassTable) : Type 0 where
  pub numbers : length u.class_of ≡ length t.class_of
  pub rise : (n : ℕ) → n < length t.class_of → representative t (class_at t n) ≤ representative u (class_at u n)

-- a representative is a number of the table
pub lead_inside : (t : ClassTable) → IsWhole t → (n : ℕ) → n < length t.class_of → representative t (class_at t n) < length t.class_of
lead_inside t whole n below = (representative-member t whole (class_at t n) (whole.classes n below)).0

-- ---- marks after a pattern

none_found : (r n : ℕ) (evidence : List Evidence) → All (λ e. (e.member == n && e.partner == r) ≡ false) evidence → find (λ e. e.member == n && e.partner == r) evidence ≡ None
none_found r n [] all = refl
none_found r n (e ∷ evidence) all =
    ap₂ (λ (b : Bool) (o : Option Evidence). cond b (Some e) o) (All-head (λ (e : Evidence). (e.member == n && e.partner == r) ≡ false) e evidence all) (none_found r n evidence (All-tail (λ (e : Evidence). (e.member == n && e.partner == r) ≡ false) e evidence all))

not_both : (a b : Bool) → (a ≡ true → b ≡ false) → (a && b) ≡ false
not_both true b second = second refl
not_both false b second = refl

module _ {t u : ClassTable} {evidence : List Evidence} {given : List (Option Given)} (rises : LeadsRise t u) (are : AreGiven t evidence given) where
  -- a number with a new representative has no mark any more
  no_evidence : (n r : ℕ) → representative t (class_at t n) < r → find (λ e. e.member == n && e.partner == r) evidence ≡ None
  no_evidence n r higher = none_found r n evidence (λ k d below.
      let e = get_or evidence k d in
      not_both (e.member == n) (e.partner == r) (λ same.
      let is : e.member ≡ n = eqb-true e.member n same in
      let low : e.partner ≤ representative t (class_at t n) = rw is at (are.partners k d below) in
      ne_eqb e.partner r (λ equal. omega arith)))

  not_given : (n r : ℕ) (o : Option Given) → ((g : Given) → o ≡ Some g → g.partner < r) → option_and_then (λ (g : Given). if g.partner == r then Some g.mark else None) o ≡ None
  not_given n r None lower = refl
  not_given n r (Some g) lower =
      let other : (g.partner == r) ≡ false = ne_eqb g.partner r (λ equal. let less = lower g refl in omega arith) in
      ap (λ (b : Bool). if b then Some g.mark else None) other

  mark_after : (n : ℕ) → n < length t.class_of → (b : Bool) → (representative u (class_at u n) == n) ≡ b → representative t (class_at t n) < representative u (class_at u n)
      → by_evidence (representative u (class_at u n)) evidence n ≡ by_given (representative u (class_at u n)) (given_to given n) n
  mark_after n below true own higher =
      let r = representative u (class_at u n) in
      ap (λ (b : Bool). if b then Some Rep else option_map (λ (e : Evidence). mark_of e.proof) (find (λ (e : Evidence). e.member == n && e.partner == r) evidence)) own
      ∙ sym (ap (λ (b : Bool). if b then Some Rep else option_and_then (λ (g : Given). if g.partner == r then Some g.mark else None) (given_to given n)) own)
  mark_after n below false own higher =
      let r = representative u (class_at u n) in
      ap₂ (λ (b : Bool) (o : Option Evidence). if b then Some Rep else option_map (λ (e : Evidence). mark_of e.proof) o) own (no_evidence n r higher)
      ∙ sym (ap₂ (λ (b : Bool) (o : Option Mark). if b then Some Rep else o) own (not_given n r (given_to given n) (λ g is. let low = are.low n g below is in omega arith)))

  -- the marks after a pattern: a number with a new representative has lost its own
  pub given_risen : AreGiven u evidence given
  given_risen = record {
    whole = omega (arith, are.whole, rises.numbers);
    marks = λ n below.
        let inside : n < length t.class_of = omega (arith, rises.numbers) in
        let higher = rises.rise n inside in
        is_by_evidence u evidence n ∙ elim (cases_eq (representative t (class_at t n)) (representative u (class_at u n))) [
          | inl same ↦ ap (λ (r : ℕ). by_evidence r evidence n) (sym same) ∙ sym (is_by_evidence t evidence n) ∙ are.marks n inside ∙ ap (λ (r : ℕ). by_given r (given_to given n) n) same
          | inr other ↦ mark_after n inside (representative u (class_at u n) == n) refl (omega arith)
        ];
    members = λ k d below. omega (arith, are.members k d below, rises.numbers);
    partners = λ k d below. omega (arith, are.partners k d below, rises.rise (get_or evidence k d).member (are.members k d below));
    low = λ n g below is.
        let inside : n < length t.class_of = omega (arith, rises.numbers) in
        omega (arith, are.low n g inside is, rises.rise n inside);
  }
