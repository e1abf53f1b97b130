-- What right lines state is true of the circuit.
use Rattle.std.proofs.Common.{◌≡◌, ◌≢◌, ℕ, suc, ◌<◌, ◌≤◌, ◌^◌, Bool, false, cond, List, [], ◌∷◌, ◌++◌, length, get_or, Option, Some, None, refl, sym, ap, ap₂, ◌∙◌, inl, inr, arith, IsTrue}
use Rattle.std.specs.Prelude.{All, ◌==◌, ◌⊎◌, unwrap_or}
use Rattle.std.specs.List.{find, slice_get, range_with_len, count_by, enumerate_from}
use Rattle.std.proofs.lemmas.List.Sums.{sum_by-cons}
use Rattle.std.proofs.lemmas.Bool.{eq-eqb}
use Rattle.std.proofs.lemmas.List.{append-nil}
use Rattle.std.proofs.lemmas.List.Elements.{filter_map-append, All-from_get_or}
use Rattle.net_model.specs.Circuit.{Circuit, IsCircuit}
use Rattle.net_model.specs.declared.fault.Fault.{Fault}
use Rattle.net_model.specs.Answer.{Separates, AreEqual}
use Rattle.net_model.specs.Collapse.{root}
use Rattle.net_model.specs.FaultList.{fault_count, fault_numbered}
use Rattle.net_model.specs.ClassTable.{ClassTable, class_at, class_count, representative, named_pattern}
use Rattle.pair_sets.specs.declared.tree.Token.{Token}
use Rattle.pair_sets.specs.declared.tree.Token.TheVariants.{Closed}
use Rattle.pair_sets.specs.Cube.{Cube, IsClosed}
use Rattle.pair_sets.specs.Tree.{cube_at, token_at, IsTree, IsCovering, IsSpending}
use Rattle.pair_miter.specs.ChainView.{ChainView}
use Rattle.pair_miter.specs.Miter.{miter}
use Rattle.pair_miter.specs.Log.{IsSpentLog}
use Rattle.evidence_rules.proofs.Sound.{refutation_equal}
use Rattle.result_records.specs.declared.record.Budgets.{Budgets}
use Rattle.result_records.specs.declared.record.Evidence.{Evidence}
use Rattle.result_records.specs.declared.record.Mark.{Mark}
use Rattle.result_records.specs.declared.record.Mark.TheVariants as mark
use Rattle.result_records.specs.declared.record.Proof.{Proof}
use Rattle.result_records.specs.declared.record.Proof.TheVariants as proof
use Rattle.result_records.specs.declared.record.Record.{Record}
use Rattle.result_records.specs.declared.record.Record.TheVariants.{Head, Budget, Pattern, Same, Class, Member, End}
use Rattle.result_records.specs.Spelling.{HasSpelling}
use Rattle.result_records.specs.Marks.{evidence_of, patterns_in, evidence_in, mark_of}
use Rattle.result_file.specs.Lines.{HasRightRoots, IsRightProof}
use Rattle.result_file.specs.Summary.{is_open}
use Rattle.result_file.specs.Valid.{AreRightLines}
use Rattle.result_file.specs.Meaning.{StatedResult, stated_records, class_records, member_records, stated_class, stated_mark, lowest_mate, is_body_record, HasClosedCubes, IsSpentOn, IsTrueResult}
use Rattle.result_records.proofs.RecordLists.{read_kept}
use Rattle.result_file.proofs.RightLines.{AreMembers}
use Rattle.result_records.proofs.Marked.{find_same, find_some}
use Rattle.result_file.proofs.RightEvidence.{IsMarkedBy, all_right, mark_cases, rep_spent, open_spent}

-- Laws of the circuit: numbers with one root are equal faults, and so are those that a tree covers; closed leaves
-- have closed cubes, and trees never spend as many of them as there are vectors.
pub record AreSound (c : Circuit) : Type 0 where
  pub circuit : IsCircuit c
  pub roots : (m n : ℕ) → m < fault_count c → n < fault_count c → root c (fault_numbered c m) ≡ root c (fault_numbered c n) → AreEqual c (fault_numbered c m) (fault_numbered c n)
  pub covered : (f g : Fault) (limit : ℕ) (tokens : List Token) → IsCovering c f g limit tokens → AreEqual c f g
  pub bounded : (f g : Fault) (limit : ℕ) (tokens : List Token) → IsSpending c f g limit tokens → limit < 2 ^ c.sources
  pub leaves : (f g : Fault) (tokens : List Token) → IsTree c f g tokens → (at : ℕ) → at < length tokens → token_at tokens at ≡ Closed → (cube : Cube) × (cube_at tokens at ≡ Some cube) × IsClosed c f g cube

-- The table is that of the faults of the circuit after these patterns: its classes are in place, and named patterns
-- separate.
pub record IsSoundTable (c : Circuit) (patterns : List (List Bool)) (t : ClassTable) : Type 0 where
  pub numbers : length t.class_of ≡ fault_count c
  pub some : 0 < length t.class_of
  pub classes : (n : ℕ) → n < length t.class_of → class_at t n < class_count t
  pub first : slice_get t.births 0 ≡ Some None
  pub later : (k : ℕ) → 0 < k → k < length t.births → (birth : ℕ × ℕ) × (slice_get t.births k ≡ Some (Some birth)) × (birth.0 < k) × (birth.1 < length patterns)
  pub apart : (m n : ℕ) → m < fault_count c → n < fault_count c → class_at t m ≢ class_at t n
      → Separates c (get_or patterns (named_pattern t.births (class_at t m) (class_at t n)) []) (fault_numbered c m) (fault_numbered c n)
  pub leads : (n : ℕ) → n < length t.class_of → representative t (class_at t n) < length t.class_of

turned : (c : Circuit) (f g : Fault) → AreEqual c f g → AreEqual c g f
turned c f g equal v first second width one two = sym (equal v second first width two one)

-- a mark of equal is true of the pair
equal_by : (c : Circuit) (budgets : Budgets) → AreSound c → (m n : ℕ) → m < fault_count c → n < fault_count c → (p : Proof) → HasRightRoots c (fault_numbered c m) (fault_numbered c n) p
    → IsRightProof c (fault_numbered c m) (fault_numbered c n) budgets p → mark_of p ≡ mark.Equal → AreEqual c (fault_numbered c m) (fault_numbered c n)
equal_by c budgets sound m n low high proof.Collapse roots right is = sound.roots m n low high roots
equal_by c budgets sound m n low high (proof.Covered tree) roots right is = sound.covered (fault_numbered c m) (fault_numbered c n) budgets.cubes tree right
equal_by c budgets sound m n low high (proof.Refuted tree log) roots right is = refutation_equal c (fault_numbered c m) (fault_numbered c n) budgets.conflicts log sound.circuit right.1
equal_by c budgets sound m n low high (proof.Spent tree log) roots right is = absurd (cc)

-- The proof is a tree with the whole number of closed cubes, and a log with the whole number of clauses.
pub record SpendsOn (c : Circuit) (budgets : Budgets) (f g : Fault) (p : Proof) : Type 0 where
  pub tree : List Token
  pub log : List ChainView
  pub is : p ≡ proof.Spent tree log
  pub cubes : HasClosedCubes c f g budgets.cubes tree
  pub clauses : IsSpentLog (miter c f g) budgets.conflicts log

spent_by : (c : Circuit) (budgets : Budgets) → AreSound c → (f g : Fault) (p : Proof) → IsRightProof c f g budgets p → mark_of p ≡ mark.Spent → SpendsOn c budgets f g p
spent_by c budgets sound f g proof.Collapse right is = absurd (cc)
spent_by c budgets sound f g (proof.Covered tree) right is = absurd (cc)
spent_by c budgets sound f g (proof.Refuted tree log) right is = absurd (cc)
spent_by c budgets sound f g (proof.Spent tree log) right is = record {
  tree = tree;
  log = log;
  is = refl;
  cubes = record { shape = right.0.tree.shape; full = right.0.full; closed = sound.leaves f g tree right.0.tree };
  clauses = right.1;
}

-- then the limit is less than the number of vectors
spent_below : (c : Circuit) (budgets : Budgets) → AreSound c → (f g : Fault) (p : Proof) → IsRightProof c f g budgets p → mark_of p ≡ mark.Spent → budgets.cubes < 2 ^ c.sources
spent_below c budgets sound f g proof.Collapse right is = absurd (cc)
spent_below c budgets sound f g (proof.Covered tree) right is = absurd (cc)
spent_below c budgets sound f g (proof.Refuted tree log) right is = absurd (cc)
spent_below c budgets sound f g (proof.Spent tree log) right is = sound.bounded f g budgets.cubes tree right.0

never_rep : (p : Proof) → mark_of p ≡ mark.Rep → ⊥
never_rep proof.Collapse is = cc
never_rep (proof.Covered tree) is = cc
never_rep (proof.Refuted tree log) is = cc
never_rep (proof.Spent tree log) is = cc

rep_equal : ◌≡◌ {A = Mark} mark.Rep mark.Equal → ⊥
rep_equal e = cc

count_zero : (p : Record → Bool) (rs : List Record) → ((at : ℕ) (r : Record) → slice_get rs at ≡ Some r → p r ≡ false) → count_by p rs ≡ 0
count_zero p [] none = refl
count_zero p (r ∷ rs) none =
    let here : ◌≡◌ {A = ℕ} (cond (p r) 1 0) 0 = ap (λ (b : Bool). cond {A = ℕ} b 1 0) (none 0 r refl) in
    omega (arith, here, sum_by-cons (λ r. cond (p r) 1 0) r rs, count_zero p rs (λ at. none (suc at)))

not_open : (r : Record) → ((n class : ℕ) → r ≡ Member n class mark.Spent → ⊥) → is_open r ≡ false
not_open (Head s p n) other = refl
not_open (Budget b) other = refl
not_open (Pattern v) other = refl
not_open (Same e) other = refl
not_open (Class n b) other = refl
not_open (Member n class mark.Rep) other = refl
not_open (Member n class mark.Equal) other = refl
not_open (Member n class mark.Spent) other = absurd (other n class refl)
not_open End other = refl

-- with as many cubes as there are vectors no member is left open
pub none_open : (c : Circuit) (budgets : Budgets) → AreSound c → (sources positions numbers : ℕ) (rest : List Record) → AreRightLines c (Head sources positions numbers ∷ Budget budgets ∷ rest) → 2 ^ c.sources ≤ budgets.cubes
    → count_by is_open (Head sources positions numbers ∷ Budget budgets ∷ rest) ≡ 0
none_open c budgets sound sources positions numbers rest right enough =
    count_zero is_open (Head sources positions numbers ∷ Budget budgets ∷ rest) (λ at r there. not_open r (λ n class is.
    let spent = open_spent c budgets sources positions numbers rest right at n class (there ∙ ap Some is) in
    let low = spent_below c budgets sound (fault_numbered c spent.0.partner) (fault_numbered c spent.0.member) spent.0.proof spent.1.right.right spent.1.gives in
    omega arith))

module _ (c : Circuit) (budgets : Budgets) (body : List Record) (t : ClassTable) (members : List (ℕ × Mark)) where
  abbrev stated : StatedResult
  stated = record { budgets = budgets; body = body; births = t.births; members = members }

  lines_evidence : evidence_in (stated_records c stated) ≡ evidence_in body
  lines_evidence =
      filter_map-append evidence_of (body ++ class_records t.births ++ member_records members) (End ∷ [])
      ∙ append-nil (evidence_in (body ++ class_records t.births ++ member_records members))
      ∙ read_kept (λ x. Member x.0 x.1.0 x.1.1) (body ++ class_records t.births) evidence_of (λ x. refl) (enumerate_from 0 members)
      ∙ read_kept (λ x. Class x.0 x.1) body evidence_of (λ x. refl) (enumerate_from 0 t.births)

  module _ (sound : AreSound c) (right : AreRightLines c (stated_records c stated)) (isbody : All (λ r. IsTrue (is_body_record r)) body)
      (table : IsSoundTable c (patterns_in body) t) (are : AreMembers t (evidence_in body) members) where
    class_is : (n : ℕ) → n < length t.class_of → stated_class stated n ≡ class_at t n
    class_is n below = are.each.classes n (omega (arith, are.count))

    mate_is : (n : ℕ) → n < length t.class_of → lowest_mate stated n ≡ representative t (class_at t n)
    unfolding representative
    mate_is n below =
        let numbers = length t.class_of in
        let p = λ (m : ℕ). stated_class stated m == stated_class stated n in
        let q = λ (m : ℕ). class_at t m == class_at t n in
        let same : find p (range_with_len 0 numbers) ≡ find q (range_with_len 0 numbers) =
        find_same p q 0 numbers (λ m low high. ap₂ (λ (a b : ℕ). a == b) (class_is m (omega arith)) (class_is n below)) in
        let found = find_some q 0 numbers n (omega arith) (omega arith) (eq-eqb (class_at t n) (class_at t n) refl) in
        ap (λ (k : ℕ). unwrap_or (find p (range_with_len 0 k)) n) are.count
        ∙ ap (λ (o : Option ℕ). unwrap_or o n) (same ∙ found.1)
        ∙ sym (ap (λ (o : Option ℕ). unwrap_or o 0) found.1)

    -- the evidence that gives a number's mark
    given : (n : ℕ) (m : Mark) → n < length t.class_of → stated_mark stated n ≡ m → ((representative t (class_at t n) ≡ n) × (mark.Rep ≡ m)) ⊎ IsMarkedBy t (evidence_in body) n m
    given n m below is = mark_cases t (evidence_in body) n m (are.each.marks n (omega (arith, are.count)) ∙ ap Some is)

    -- this evidence is right for the number and its representative
    right_for : (n : ℕ) (m : Mark) → IsMarkedBy t (evidence_in body) n m → (p : Proof) × (mark_of p ≡ m) × HasRightRoots c (fault_numbered c (representative t (class_at t n))) (fault_numbered c n) p
        × IsRightProof c (fault_numbered c (representative t (class_at t n))) (fault_numbered c n) budgets p
    right_for n m by =
        let rest = body ++ class_records t.births ++ member_records members ++ End ∷ [] in
        let for = all_right c budgets c.sources (length c.positions) (fault_count c) rest right by.at by.e (ap (λ (es : List Evidence). slice_get es by.at) lines_evidence ∙ by.there) in
        (by.e.proof, by.gives, rw (by.member, by.partner) at for.roots, rw (by.member, by.partner) at for.right)

    equal_marked : (n : ℕ) → n < fault_count c → stated_mark stated n ≡ mark.Equal → AreEqual c (fault_numbered c n) (fault_numbered c (lowest_mate stated n))
    equal_marked n below is =
        let inside : n < length t.class_of = omega (arith, table.numbers) in
        let lead = representative t (class_at t n) in
        elim (given n mark.Equal inside is) [
          | inl self ↦ absurd (rep_equal self.1)
          | inr by ↦
              let for = right_for n mark.Equal by in
              rw (mate_is n inside) (turned c (fault_numbered c lead) (fault_numbered c n) (equal_by c budgets sound lead n (omega (arith, table.leads n inside, table.numbers)) below for.0 for.2 for.3 for.1))
        ]

    spent_on : (n : ℕ) → n < length t.class_of → (by : IsMarkedBy t (evidence_in body) n mark.Spent) → SpendsOn c budgets (fault_numbered c by.e.partner) (fault_numbered c by.e.member) by.e.proof → IsSpentOn c stated n
    spent_on n inside by spends =
        let lead = representative t (class_at t n) in
        let e_is : by.e ≡ record { member = n; partner = lead; proof = proof.Spent spends.tree spends.log } = λ i. record { member = by.member i; partner = by.partner i; proof = spends.is i } in
        record {
          tree = spends.tree;
          log = spends.log;
          at = by.at;
          evidence = rw (mate_is n inside) (by.there ∙ ap Some e_is);
          cubes = rw (mate_is n inside) (rw (by.member, by.partner) at spends.cubes);
          clauses = rw (mate_is n inside) (rw (by.member, by.partner) at spends.clauses);
        }

    spent_marked : (n : ℕ) → n < fault_count c → stated_mark stated n ≡ mark.Spent → IsSpentOn c stated n
    spent_marked n below is =
        let inside : n < length t.class_of = omega (arith, table.numbers) in
        elim (given n mark.Spent inside is) [
          | inl self ↦ absurd (rep_spent self.1)
          | inr by ↦
              let rest = body ++ class_records t.births ++ member_records members ++ End ∷ [] in
              let for = all_right c budgets c.sources (length c.positions) (fault_count c) rest right by.at by.e (ap (λ (es : List Evidence). slice_get es by.at) lines_evidence ∙ by.there) in
              spent_on n inside by (spent_by c budgets sound (fault_numbered c by.e.partner) (fault_numbered c by.e.member) by.e.proof for.right by.gives)
        ]

    lowest_marked : (n : ℕ) → n < fault_count c → stated_mark stated n ≡ mark.Rep → lowest_mate stated n ≡ n
    lowest_marked n below is =
        let inside : n < length t.class_of = omega (arith, table.numbers) in
        elim (given n mark.Rep inside is) [
          | inl self ↦ mate_is n inside ∙ self.0
          | inr by ↦ absurd (never_rep by.e.proof by.gives)
        ]

    pub lines_true : IsTrueResult c stated
    lines_true = record {
      spelled = All-from_get_or HasSpelling (stated_records c stated) End (λ at below. right.spelled at below);
      body = isbody;
      births = record { first = table.first; later = table.later };
      numbers = are.count ∙ table.numbers;
      classes = All-from_get_or (λ member. member.0 < length t.births) members (0, mark.Rep) (λ n below. let e = are.each.classes n below in omega (arith, table.classes n (omega (arith, are.count))));
      apart = λ m n low high differ.
          let i = class_is m (omega (arith, table.numbers)) in
          let j = class_is n (omega (arith, table.numbers)) in
          rw (i, j) (table.apart m n low high (λ e. differ (i ∙ e ∙ sym j)));
      equal = equal_marked;
      spent = spent_marked;
      representatives = lowest_marked;
    }
