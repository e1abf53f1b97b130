-- What the lines of right records say of a pattern and of a number.
use Rattle.std.proofs.Common.{◌≡◌, ◌∙◌, ℕ, zero, suc, ◌<◌, Bool, List, [], ◌∷◌, ◌++◌, length, map, take, drop, get_or, Option, Some, refl, sym, ap, subst, append_assoc, arith}
use Rattle.std.specs.List.{enumerate_from}
use Rattle.std.proofs.lemmas.List.{map-append}
use Rattle.std.proofs.lemmas.List.FromFn.{length-enumerate_from, get_or-enumerate_from}
use Rattle.net_model.specs.Circuit.{Circuit}
use Rattle.net_model.specs.FaultList.{fault_count}
use Rattle.net_model.specs.ClassTable.{ClassTable, class_at}
use Rattle.net_model.specs.PatternRows.{IsTableOf, SplitsClass}
use Rattle.result_records.specs.declared.record.Mark.{Mark}
use Rattle.result_records.specs.declared.record.Mark.TheVariants as mark
use Rattle.result_records.specs.declared.record.Record.{Record}
use Rattle.result_records.specs.declared.record.Record.TheVariants.{Head, Budget, Pattern, Class, Member, End}
use Rattle.result_records.specs.Marks.{pattern_of, evidence_of, patterns_in, evidence_in, number_mark}
use Rattle.result_file.specs.Valid.{AreRightLines}
use Rattle.result_file.specs.Meaning.{StatedResult, stated_records, class_records, member_records, member_of, stated_class, stated_mark}
use Rattle.result_records.proofs.RecordLists.{read_kept}
use Rattle.result_file.proofs.FileLemmas.{next_right}

-- a list is what is before a place, the element there and what is after it
pub parts_at : {X : Type 0} (xs : List X) (k : ℕ) (d : X) → k < length xs → xs ≡ take k xs ++ get_or xs k d ∷ drop (suc k) xs
parts_at [] k d h = absurd (omega (arith, h))
parts_at (x ∷ xs) zero d h = refl
parts_at {X} (x ∷ xs) (suc k) d h = ap (λ (ys : List X). x ∷ ys) (parts_at xs k d (omega (arith, h)))

module _ (c : Circuit) (s : StatedResult) (right : AreRightLines c (stated_records c s)) where
  abbrev class_record : ℕ × Option (ℕ × ℕ) → Record
  class_record x = Class x.0 x.1

  abbrev member_record : ℕ × (ℕ × Mark) → Record
  member_record x = Member x.0 x.1.0 x.1.1

  abbrev heads : Record → List Record → List Record
  heads r body = r ∷ Budget s.budgets ∷ body

  abbrev head : Record
  head = Head c.sources (length c.positions) (fault_count c)

  -- a pattern has a bit for each source, and splits a class of the patterns before it
  pub pattern_right : (before : List Record) (v : List Bool) (more : List Record) → s.body ≡ before ++ Pattern v ∷ more → (length v ≡ c.sources) × SplitsClass c (patterns_in before) v
  pattern_right before v more body =
      let classes = class_records s.births in
      let members = member_records s.members in
      let rest = more ++ classes ++ members ++ End ∷ [] in
      let parts : stated_records c s ≡ heads head before ++ Pattern v ∷ rest =
      ap (λ (rs : List Record). heads head rs ++ classes ++ members ++ End ∷ []) body
      ∙ ap (λ (rs : List Record). rs ++ members ++ End ∷ []) (append_assoc (heads head before) (Pattern v ∷ more) classes)
      ∙ ap (λ (rs : List Record). rs ++ End ∷ []) (append_assoc (heads head before) (Pattern v ∷ more ++ classes) members)
      ∙ append_assoc (heads head before) (Pattern v ∷ more ++ classes ++ members) (End ∷ []) in
      let content = (next_right (heads head before) (Pattern v) rest right parts).right.content in
      (content.width, content.splits)

  -- The number is stated to be of its class in the table of all patterns, with the mark that the evidence gives.
  pub record IsStatedIn (n : ℕ) (t : ClassTable) : Type 0 where
    pub table : IsTableOf c (patterns_in s.body) t
    pub inside : n < length t.class_of
    pub class_is : stated_class s n ≡ class_at t n
    pub mark_is : number_mark t (evidence_in s.body) n ≡ Some (stated_mark s n)

  pub is_stated : (n : ℕ) → n < length s.members → (t : ClassTable) × IsStatedIn n t
  is_stated n h =
      let xs = enumerate_from 0 s.members in
      let front = heads head s.body ++ class_records s.births in
      let m = member_of s n in
      let inside : n < length xs = omega (arith, h, length-enumerate_from 0 s.members) in
      let item : get_or xs n (0, (0, mark.Rep)) ≡ (n, m) = get_or-enumerate_from 0 s.members n (0, (0, mark.Rep)) h ∙ ap (λ (k : ℕ). (k, m)) (omega arith) in
      let split : xs ≡ take n xs ++ (n, m) ∷ drop (suc n) xs = parts_at xs n (0, (0, mark.Rep)) inside ∙ ap (λ (x : ℕ × (ℕ × Mark)). take n xs ++ x ∷ drop (suc n) xs) item in
      let members : member_records s.members ≡ map member_record (take n xs) ++ Member n m.0 m.1 ∷ map member_record (drop (suc n) xs) =
      ap (map member_record) split ∙ map-append member_record (take n xs) ((n, m) ∷ drop (suc n) xs) in
      let before = front ++ map member_record (take n xs) in
      let more = map member_record (drop (suc n) xs) ++ End ∷ [] in
      let parts : stated_records c s ≡ before ++ Member n m.0 m.1 ∷ more =
      ap (λ (ms : List Record). (front ++ ms) ++ End ∷ []) members
      ∙ ap (λ (rs : List Record). rs ++ End ∷ []) (sym (append_assoc front (map member_record (take n xs)) (Member n m.0 m.1 ∷ map member_record (drop (suc n) xs))))
      ∙ append_assoc before (Member n m.0 m.1 ∷ map member_record (drop (suc n) xs)) (End ∷ []) in
      let one = (next_right before (Member n m.0 m.1) more right parts).right in
      let patterns : patterns_in before ≡ patterns_in s.body =
      read_kept member_record front pattern_of (λ x. refl) (take n xs) ∙ read_kept class_record (heads head s.body) pattern_of (λ x. refl) (enumerate_from 0 s.births) in
      let evidence : evidence_in before ≡ evidence_in s.body =
      read_kept member_record front evidence_of (λ x. refl) (take n xs) ∙ read_kept class_record (heads head s.body) evidence_of (λ x. refl) (enumerate_from 0 s.births) in (
        one.t,
        record {
          table = subst (λ (vs : List (List Bool)). IsTableOf c vs one.t) patterns one.table;
          inside = one.content.inside;
          class_is = one.content.class_is;
          mark_is = rw (sym evidence) one.content.mark_is;
        },
      )
