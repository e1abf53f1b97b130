-- The lines of a draft: the first ones, and one line more.
use Rattle.std.proofs.Common.{◌≡◌, ℕ, zero, suc, ◌<◌, ◌≤◌, ◌^◌, Bool, false, cond, List, [], ◌∷◌, ◌++◌, map, length, length-append, Some, refl, sym, ap, subst, ◌∙◌, inl, inr, arith, IsTrue}
use Rattle.std.specs.Prelude.{All, ◌⊎◌}
use Rattle.std.specs.List.{slice_get, count_by}
use Rattle.std.proofs.lemmas.List.{append_assoc, append-nil, map-id, take-append-le}
use Rattle.std.proofs.lemmas.List.Elements.{All-append, All-head, All-tail, filter_map-append}
use Rattle.std.proofs.lemmas.List.Sums.{sum_by-append, sum_by-cons}
use Rattle.std.proofs.lemmas.Option.{same_Some, slice_get_within}
use Rattle.std.proofs.Math.Seq.{take-append_seam}
use Rattle.net_model.specs.Circuit.{Circuit}
use Rattle.net_model.specs.FaultList.{fault_count, fault_numbered}
use Rattle.net_model.specs.ClassTable.{ClassTable, class_at, representative}
use Rattle.net_model.specs.PatternRows.{IsTableOf, SplitsClass}
use Rattle.result_records.specs.declared.record.Budgets.{Budgets}
use Rattle.result_records.specs.declared.record.Evidence.{Evidence}
use Rattle.result_records.specs.declared.record.Record.{Record}
use Rattle.result_records.specs.declared.record.Record.TheVariants.{Head, Budget, Pattern, Same, Class, Member, End}
use Rattle.result_records.specs.Marks.{pattern_of, evidence_of, patterns_in, evidence_in, is_class, class_lines, next_member}
use Rattle.result_records.specs.Limits.{AreWithinLimits}
use Rattle.result_file.specs.Meaning.{is_body_record}
use Rattle.result_records.proofs.RecordLists.{read_all, read_none, count_kept}
use Rattle.result_file.proofs.RightLines.{IsNextLine, right_next, right_head, right_patterns}
use Rattle.kept_vectors.specs.Kept.{SplitInTurn}
use Rattle.dia_gen.specs.Settled.{IsApartBy, IsProofFor}
use Rattle.dia_gen.specs.declared.draft.Draft.{Draft}
use Rattle.dia_gen.specs.GenerationSetting.{GenerationSetting}
use Rattle.dia_gen.specs.Draft.{AreDraftLines, IsDrafted}
use Rattle.text_fields.specs.Fields.{Text}
use Rattle.dia_gen.specs.Made.{head_lines, lines_with, SeparatesNext, HasNoSearch, HasNoRefutation}

-- Another waiting text doesn't change what the lines are made from.
pub drafted_on : {s : GenerationSetting} {d : Draft} {kept : List (List Bool)} {later : List Record} (wait : Text) → IsDrafted s d kept later → IsDrafted s (record d { gathered = wait }) kept later
drafted_on wait is = record {
  first = is.first;
  lines = is.lines;
  few = is.few;
  circuit = is.circuit;
  keeper = is.keeper;
  patterns = is.patterns;
  marks = is.marks;
  space = is.space;
  looked = is.looked;
}

-- ---- one element more

last_cases : {X : Type 0} (xs : List X) (x y : X) (at : ℕ) → slice_get (xs ++ x ∷ []) at ≡ Some y → (slice_get xs at ≡ Some y) ⊎ ((at ≡ length xs) × (x ≡ y))
last_cases [] x y zero there = inr (refl, same_Some x y there)
last_cases [] x y (suc at) there = absurd (cc)
last_cases (z ∷ xs) x y zero there = inl there
last_cases (z ∷ xs) x y (suc at) there = elim (last_cases xs x y at there) [
  | inl before ↦ inl before
  | inr last ↦ inr (ap suc last.0, last.1)
]

one_of : {X : Type 0} (P : X → Type 0) (x : X) → P x → All P (x ∷ [])
one_of P x is k d below = let e : k ≡ 0 = omega arith in rw e is

-- No line of a body passes a test that takes neither patterns nor evidence.
body_count : (p : Record → Bool) → ((v : List Bool) → p (Pattern v) ≡ false) → ((e : Evidence) → p (Same e) ≡ false) → (later : List Record) → All (λ r. IsTrue (is_body_record r)) later → count_by p later ≡ 0
body_count p patterns evidence [] all = refl
body_count p patterns evidence (r ∷ later) all =
    let refused : p r ≡ false = by r (All-head (λ r. IsTrue (is_body_record r)) r later all) in
    let e : ◌≡◌ {A = ℕ} (cond (p r) 1 0) 0 = ap (λ (b : Bool). cond {A = ℕ} b 1 0) refused in
    omega (arith, e, sum_by-cons (λ r. cond (p r) 1 0) r later, body_count p patterns evidence later (All-tail (λ r. IsTrue (is_body_record r)) r later all))
  where
    by : (r : Record) → IsTrue (is_body_record r) → p r ≡ false
    by (Head s o n) is = absurd (cc)
    by (Budget b) is = absurd (cc)
    by (Pattern v) is = patterns v
    by (Same e) is = evidence e
    by (Class n b) is = absurd (cc)
    by (Member n k m) is = absurd (cc)
    by End is = absurd (cc)

module _ (c : Circuit) (budgets : Budgets) (kept : List (List Bool)) where
  abbrev pub before : List Record
  before = head_lines c budgets ++ map Pattern kept

  module _ (later : List Record) where
    pub lines_patterns : patterns_in (lines_with c budgets kept later) ≡ kept ++ patterns_in later
    lines_patterns =
        filter_map-append pattern_of before later
        ∙ ap (λ (vs : List (List Bool)). vs ++ patterns_in later) (read_all Pattern pattern_of (λ v. v) (λ v. refl) kept ∙ map-id kept)

    pub lines_evidence : evidence_in (lines_with c budgets kept later) ≡ evidence_in later
    lines_evidence = filter_map-append evidence_of before later ∙ ap (λ (es : List Evidence). es ++ evidence_in later) (read_none Pattern evidence_of (λ v. refl) kept)

    pub lines_two : 2 ≤ length (lines_with c budgets kept later)
    lines_two = omega (arith, length-append before later, length-append (head_lines c budgets) (map Pattern kept))

    pub lines_count : (p : Record → Bool) → ((v : List Bool) → p (Pattern v) ≡ false) → ((e : Evidence) → p (Same e) ≡ false) → count_by p (head_lines c budgets) ≡ 0 → All (λ r. IsTrue (is_body_record r)) later
        → count_by p (lines_with c budgets kept later) ≡ 0
    lines_count p patterns evidence none body =
        omega (arith, sum_by-append (λ r. cond (p r) 1 0) before later, count_kept Pattern (head_lines c budgets) p patterns kept ∙ none, body_count p patterns evidence later body)

    pub lines_more : (r : Record) → lines_with c budgets kept (later ++ r ∷ []) ≡ lines_with c budgets kept later ++ r ∷ []
    lines_more r = sym (append_assoc before later (r ∷ []))

    -- One line more.
    pub draft_more : AreDraftLines c budgets kept later → (r : Record) → IsNextLine c (lines_with c budgets kept later) r → IsTrue (is_body_record r)
        → ((v : List Bool) → r ≡ Pattern v → SeparatesNext c (lines_with c budgets kept later) v × (budgets.cubes ≡ 0 → budgets.conflicts ≡ 0 → ⊥))
        → ((e : Evidence) → r ≡ Same e → (budgets.cubes ≡ 0 → HasNoSearch e.proof) × (budgets.conflicts ≡ 0 → HasNoRefutation e.proof))
        → AreDraftLines c budgets kept (later ++ r ∷ [])
    draft_more so_far r next isbody pattern evidence = record {
      right = rw (lines_more r) (right_next so_far.right next);
      body = All-append (λ r. IsTrue (is_body_record r)) later (r ∷ []) so_far.body (one_of (λ r. IsTrue (is_body_record r)) r isbody);
      patterns = λ at v there. elim (last_cases later r (Pattern v) at there) [
        | inl old ↦ rw (take-append-le at later (r ∷ []) (let h = slice_get_within later at (Pattern v) old in omega arith)) (so_far.patterns at v old)
        | inr last ↦ rw (last.0, take-append_seam later (r ∷ [])) (pattern v last.1).0
      ];
      no_search = λ at e none there. elim (last_cases later r (Same e) at there) [
        | inl old ↦ so_far.no_search at e none old
        | inr last ↦ (evidence e last.1).0 none
      ];
      no_refutation = λ at e none there. elim (last_cases later r (Same e) at there) [
        | inl old ↦ so_far.no_refutation at e none old
        | inr last ↦ (evidence e last.1).1 none
      ];
      no_choice = λ at v none unlearned there. elim (last_cases later r (Pattern v) at there) [
        | inl old ↦ so_far.no_choice at v none unlearned old
        | inr last ↦ (pattern v last.1).1 none unlearned
      ];
    }

    module _ (t : ClassTable) (table : IsTableOf c (kept ++ patterns_in later) t) (few : fault_count c < 2 ^ 27) (so_far : AreDraftLines c budgets kept later) where
      lines_table : IsTableOf c (patterns_in (lines_with c budgets kept later)) t
      lines_table = rw lines_patterns table

      no_class : class_lines (lines_with c budgets kept later) ≡ 0
      no_class = lines_count is_class (λ v. refl) (λ e. refl) refl so_far.body

      -- Evidence for the next number.
      pub evidence_added : (e : Evidence) → e.member < fault_count c → e.partner < fault_count c → next_member t (evidence_in later) ≡ Some e.member → e.partner ≡ representative t (class_at t e.member)
          → IsProofFor c budgets e.partner e.member e.proof → AreDraftLines c budgets kept (later ++ Same e ∷ [])
      evidence_added e member partner next lead right =
          draft_more so_far (Same e) (record {
            spelled = (omega arith, omega arith, right.spelled);
            right = record {
              t = t;
              table = lines_table;
              place = (lines_two, no_class);
              content = record { next = record { member = rw lines_evidence next; partner = lead }; roots = right.roots; right = right.right };
            };
          }) refl (λ v is. absurd (cc)) (λ x is.
          let same : e ≡ x = same_evidence e x is in
          (λ none. subst (λ (y : Evidence). HasNoSearch y.proof) same (right.no_search none), λ none. subst (λ (y : Evidence). HasNoRefutation y.proof) same (right.no_refutation none)))
        where
          same_evidence : (e x : Evidence) → Same e ≡ Same x → e ≡ x
          same_evidence e x is = cc

      -- A pattern that separates the next number from its representative.
      pub pattern_added : (v : List Bool) (member : ℕ) → next_member t (evidence_in later) ≡ Some member → IsApartBy c (fault_numbered c (representative t (class_at t member))) (fault_numbered c member) budgets v → SplitsClass c (kept ++ patterns_in later) v
          → AreDraftLines c budgets kept (later ++ Pattern v ∷ [])
      pattern_added v member next apart right =
          draft_more so_far (Pattern v) (record {
            spelled = tt;
            right = record { t = t; table = lines_table; place = (lines_two, no_class); content = record { width = apart.width; splits = rw lines_patterns right } };
          }) refl
          (λ w is.
          let same : v ≡ w = same_pattern v w is in
          let separates : SeparatesNext c (lines_with c budgets kept later) v = record { t = t; table = lines_table; member = member; member_is = rw lines_evidence next; separates = apart.separates } in
          (subst (SeparatesNext c (lines_with c budgets kept later)) same separates, λ cubes conflicts. elim apart.budget [ inl some ↦ some cubes | inr some ↦ some conflicts ]))
          (λ x is. absurd (cc))
        where
          same_pattern : (v w : List Bool) → Pattern v ≡ Pattern w → v ≡ w
          same_pattern v w is = cc

  -- The kept vectors alone.
  pub draft_first : c.sources < 2 ^ 32 → length c.positions < 2 ^ 32 → fault_count c < 2 ^ 27 → AreWithinLimits budgets → SplitInTurn c kept → AreDraftLines c budgets kept []
  draft_first sources positions few limits right =
      let two : 2 ≤ length (head_lines c budgets) = omega arith in
      record {
        right = rw (append-nil before) (right_patterns (right_head (sources, positions, omega arith) (omega (arith, limits.blocks), omega (arith, limits.cubes), omega (arith, limits.conflicts)) limits) refl refl two right.widths right.splits);
        body = λ k d below. absurd (omega arith);
        patterns = λ at v there. absurd (cc);
        no_search = λ at e none there. absurd (cc);
        no_refutation = λ at e none there. absurd (cc);
        no_choice = λ at v none unlearned there. absurd (cc);
      }
