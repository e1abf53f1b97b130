-- Lines that are right one after another have the shape of a result: two heads, a body, the class lines, the member
-- lines and the end.
use Rattle.std.proofs.Common.{◌≡◌, ◌∙◌, ℕ, ◌+◌, ◌<◌, ◌≤◌, Bool, false, cond, List, [], ◌∷◌, ◌++◌, map, length, length-append, take, length-take, get_or, Option, Some, refl, sym, ap, inl, inr, arith, IsTrue}
use Rattle.std.specs.Prelude.{All}
use Rattle.std.specs.List.{slice_get, enumerate_from, count_by}
use Rattle.std.proofs.lemmas.Bool.{cases_lt}
use Rattle.std.proofs.lemmas.Option.{get_or_from_slice_get, slice_get_within}
use Rattle.std.proofs.lemmas.List.{append_assoc, append-nil, get_or_append_left, get_or-append-add, take_more, take_all}
use Rattle.std.proofs.lemmas.List.Elements.{All-nil, All-cons, All-head, All-tail, All-push, filter_map-append}
use Rattle.std.proofs.lemmas.List.FromFn.{length-enumerate_from}
use Rattle.std.proofs.lemmas.List.Sums.{sum_by-cons, sum_by-append}
use Rattle.net_model.specs.Circuit.{Circuit, IsCircuit}
use Rattle.net_model.specs.ClassTable.{ClassTable, class_at, class_count}
use Rattle.net_model.specs.PatternRows.{IsTableOf}
use Rattle.result_records.specs.declared.record.Budgets.{Budgets}
use Rattle.result_records.specs.declared.record.Evidence.{Evidence}
use Rattle.result_records.specs.declared.record.Mark.{Mark}
use Rattle.result_records.specs.declared.record.Mark.TheVariants as mark
use Rattle.result_records.specs.declared.record.Record.{Record}
use Rattle.result_records.specs.declared.record.Record.TheVariants.{Head, Budget, Pattern, Same, Class, Member, End}
use Rattle.result_records.specs.Marks.{pattern_of, evidence_of, patterns_in, evidence_in, is_class, is_member, is_end, class_lines, member_lines, end_lines, number_mark}
use Rattle.result_file.specs.Lines.{IsInPlace}
use Rattle.result_file.specs.Valid.{AreRightLines}
use Rattle.result_file.specs.Meaning.{class_records, member_records, is_body_record}
use Rattle.result_file.proofs.FileLemmas.{next_right}
use Rattle.result_records.proofs.RecordLists.{count_kept, count_more, read_kept}
use Rattle.result_file.proofs.RightLines.{IsNextLine, AreMembers, AreMembersSoFar}
use Rattle.net_model.proofs.OneAnswer.{one_table}
use Rattle.net_model.proofs.Elements.{All-left}

-- ---- lists that grow at their end

numbered_more : {X : Type 0} (n : ℕ) (xs : List X) (x : X) → enumerate_from n (xs ++ x ∷ []) ≡ enumerate_from n xs ++ (n + length xs, x) ∷ []
numbered_more {X} n [] x = ap (λ (k : ℕ). (k, x) ∷ []) (omega arith)
numbered_more {X} n (y ∷ xs) x =
    let later : enumerate_from (n + 1) (xs ++ x ∷ []) ≡ enumerate_from (n + 1) xs ++ (n + length (y ∷ xs), x) ∷ [] =
    numbered_more (n + 1) xs x ∙ ap (λ (k : ℕ). enumerate_from (n + 1) xs ++ (k, x) ∷ []) (omega arith) in
    ap (λ (ys : List (ℕ × X)). (n, y) ∷ ys) later

mapped_more : {X Y : Type 0} (f : X → Y) (xs : List X) (x : X) → map f (xs ++ x ∷ []) ≡ map f xs ++ f x ∷ []
mapped_more f [] x = refl
mapped_more {X} {Y} f (y ∷ xs) x = ap (λ (ys : List Y). f y ∷ ys) (mapped_more f xs x)

records_more : {X : Type 0} (f : ℕ × X → Record) (xs : List X) (x : X) → map f (enumerate_from 0 (xs ++ x ∷ [])) ≡ map f (enumerate_from 0 xs) ++ f (length xs, x) ∷ []
records_more {X} f xs x = ap (map f) (numbered_more 0 xs x) ∙ mapped_more f (enumerate_from 0 xs) (0 + length xs, x) ∙ ap (λ (n : ℕ). map f (enumerate_from 0 xs) ++ f (n, x) ∷ []) (omega arith)

take_next : {X : Type 0} (xs : List X) (k : ℕ) (x : X) → slice_get xs k ≡ Some x → take (k + 1) xs ≡ take k xs ++ x ∷ []
take_next {X} xs k x there = take_more xs k x (slice_get_within xs k x there) ∙ ap (λ (z : X). take k xs ++ z ∷ []) (get_or_from_slice_get xs k x x there)

-- ---- the records of a body

abbrev pub IsBodyRecord : Record → Type 0
IsBodyRecord r = IsTrue (is_body_record r)

no_class : (r : Record) → IsBodyRecord r → is_class r ≡ false
no_class (Class number birth) inside = absurd (cc)
no_class r inside = refl

no_member : (r : Record) → IsBodyRecord r → is_member r ≡ false
no_member (Member number class m) inside = absurd (cc)
no_member r inside = refl

no_end : (r : Record) → IsBodyRecord r → is_end r ≡ false
no_end End inside = absurd (cc)
no_end r inside = refl

body_none : (p : Record → Bool) → ((r : Record) → IsBodyRecord r → p r ≡ false) → (body : List Record) → All IsBodyRecord body → count_by p body ≡ 0
body_none p refused [] inside = refl
body_none p refused (r ∷ body) inside =
    let e : ◌≡◌ {A = ℕ} (cond (p r) 1 0) 0 = ap (λ (b : Bool). cond {A = ℕ} b 1 0) (refused r (All-head IsBodyRecord r body inside)) in
    omega (arith, e, sum_by-cons (λ r. cond (p r) 1 0) r body, body_none p refused body (All-tail IsBodyRecord r body inside))

-- two heads and a body
abbrev pub with_heads : ℕ → ℕ → ℕ → Budgets → List Record → List Record
with_heads sources positions numbers b body = Head sources positions numbers ∷ Budget b ∷ body

heads_none : (p : Record → Bool) (sources positions numbers : ℕ) (b : Budgets) (body : List Record) → p (Head sources positions numbers) ≡ false → p (Budget b) ≡ false → count_by p body ≡ 0
    → count_by p (with_heads sources positions numbers b body) ≡ 0
heads_none p sources positions numbers b body first second none =
    let head = Head sources positions numbers in
    let one : ◌≡◌ {A = ℕ} (cond (p head) 1 0) 0 = ap (λ (b : Bool). cond {A = ℕ} b 1 0) first in
    let two : ◌≡◌ {A = ℕ} (cond (p (Budget b)) 1 0) 0 = ap (λ (b : Bool). cond {A = ℕ} b 1 0) second in
    omega (arith, one, two, none, sum_by-cons (λ r. cond (p r) 1 0) head (Budget b ∷ body), sum_by-cons (λ r. cond (p r) 1 0) (Budget b) body)

-- ---- the members so far

member_more : {t : ClassTable} {evidence : List Evidence} (members : List (ℕ × Mark)) (class : ℕ) (m : Mark) → AreMembersSoFar t evidence members
    → class ≡ class_at t (length members) → number_mark t evidence (length members) ≡ Some m → AreMembersSoFar t evidence (members ++ (class, m) ∷ [])
member_more {t} {evidence} members class m so_far class_is mark_is =
    let one : List (ℕ × Mark) = (class, m) ∷ [] in
    let d : ℕ × Mark = (0, mark.Rep) in
    let at_end : get_or (members ++ one) (length members + 0) d ≡ (class, m) = get_or-append-add members one 0 d in
    record {
      classes = λ n below. elim (cases_lt n (length members)) [
        | inl low ↦ rw (get_or_append_left members one d n low) (so_far.classes n low)
        | inr high ↦ let e : n ≡ length members + 0 = omega (arith, length-append members one) in rw (e, at_end) (class_is ∙ ap (class_at t) (omega arith))
      ];
      marks = λ n below. elim (cases_lt n (length members)) [
        | inl low ↦ rw (get_or_append_left members one d n low) (so_far.marks n low)
        | inr high ↦ let e : n ≡ length members + 0 = omega (arith, length-append members one) in rw (e, at_end) (ap (number_mark t evidence) (omega arith) ∙ mark_is)
      ];
    }

-- ---- the shape

-- The records are two heads, a body, a line for each class of the table of its patterns, a line for each number, and
-- the end.
pub record HasShape (c : Circuit) (sources positions numbers : ℕ) (b : Budgets) (all : List Record) : Type 0 where
  pub body : List Record
  pub t : ClassTable
  pub members : List (ℕ × Mark)
  pub inside : All IsBodyRecord body
  pub widths : All (λ v. length v ≡ c.sources) (patterns_in body)
  pub table : IsTableOf c (patterns_in body) t
  pub are : AreMembers t (evidence_in body) members
  pub whole : all ≡ with_heads sources positions numbers b body ++ class_records t.births ++ member_records members ++ End ∷ []

-- The table has a class and a number.
abbrev pub HasSome : ClassTable → Type 0
HasSome t = (0 < class_count t) × (0 < length t.class_of)

abbrev class_record : ℕ × Option (ℕ × ℕ) → Record
class_record x = Class x.0 x.1

abbrev member_record : ℕ × (ℕ × Mark) → Record
member_record x = Member x.0 x.1.0 x.1.1

module _ (c : Circuit) (circuit : IsCircuit c) (sources positions numbers : ℕ) (b : Budgets) (all : List Record) (right : AreRightLines c all) (last : 0 < end_lines all) where
  module _ (body : List Record) (inside : All IsBodyRecord body) (widths : All (λ v. length v ≡ c.sources) (patterns_in body)) (t : ClassTable) (table : IsTableOf c (patterns_in body) t)
      (some : HasSome t) where
    abbrev heads : List Record
    heads = with_heads sources positions numbers b body

    -- the lines with the first class lines, and with all of them and some member lines
    abbrev classed : ℕ → List Record
    classed k = heads ++ class_records (take k t.births)

    abbrev listed : List (ℕ × Mark) → List Record
    listed members = heads ++ class_records t.births ++ member_records members

    same_table : (before : List Record) (u : ClassTable) → patterns_in before ≡ patterns_in body → IsTableOf c (patterns_in before) u → u ≡ t
    same_table before u same of = one_table c circuit (rw same at of) table

    classed_lines : (k : ℕ) → k ≤ class_count t → class_lines (classed k) ≡ k
    classed_lines k low =
        let births = take k t.births in
        omega (
          arith,
          low,
          count_more class_record heads is_class (λ x. refl) (enumerate_from 0 births),
          heads_none is_class sources positions numbers b body refl refl (body_none is_class no_class body inside),
          length-enumerate_from 0 births,
          length-take k t.births,
        )

    classed_none : (p : Record → Bool) → ((x : ℕ × Option (ℕ × ℕ)) → p (class_record x) ≡ false) → p (Head sources positions numbers) ≡ false → p (Budget b) ≡ false → ((r : Record) → IsBodyRecord r → p r ≡ false)
        → (births : List (Option (ℕ × ℕ))) → count_by p (heads ++ class_records births) ≡ 0
    classed_none p refused first second third births =
        count_kept class_record heads p refused (enumerate_from 0 births) ∙ heads_none p sources positions numbers b body first second (body_none p third body inside)

    classed_patterns : (births : List (Option (ℕ × ℕ))) → patterns_in (heads ++ class_records births) ≡ patterns_in body
    classed_patterns births = read_kept class_record heads pattern_of (λ x. refl) (enumerate_from 0 births)

    listed_patterns : (members : List (ℕ × Mark)) → patterns_in (listed members) ≡ patterns_in body
    listed_patterns members = read_kept member_record (heads ++ class_records t.births) pattern_of (λ x. refl) (enumerate_from 0 members) ∙ classed_patterns t.births

    listed_evidence : (members : List (ℕ × Mark)) → evidence_in (listed members) ≡ evidence_in body
    listed_evidence members =
        read_kept member_record (heads ++ class_records t.births) evidence_of (λ x. refl) (enumerate_from 0 members) ∙ read_kept class_record heads evidence_of (λ x. refl) (enumerate_from 0 t.births)

    listed_classes : (members : List (ℕ × Mark)) → class_lines (listed members) ≡ class_count t
    listed_classes members =
        count_kept member_record (heads ++ class_records t.births) is_class (λ x. refl) (enumerate_from 0 members)
        ∙ ap (λ (births : List (Option (ℕ × ℕ))). class_lines (heads ++ class_records births)) (sym (take_all (class_count t) t.births (omega arith)))
        ∙ classed_lines (class_count t) (omega arith)

    listed_members : (members : List (ℕ × Mark)) → member_lines (listed members) ≡ length members
    listed_members members =
        omega (
          arith,
          count_more member_record (heads ++ class_records t.births) is_member (λ x. refl) (enumerate_from 0 members),
          classed_none is_member (λ x. refl) refl refl no_member t.births,
          length-enumerate_from 0 members,
        )

    listed_ends : (members : List (ℕ × Mark)) → end_lines (listed members) ≡ 0
    listed_ends members = count_kept member_record (heads ++ class_records t.births) is_end (λ x. refl) (enumerate_from 0 members) ∙ classed_none is_end (λ x. refl) refl refl no_end t.births

    long : (rs : List Record) → 2 ≤ length (heads ++ rs)
    long rs = omega (arith, length-append heads rs)

    -- ---- after the end no line is allowed

    none_behind : (members : List (ℕ × Mark)) (u : ClassTable) (r : Record) → 0 < length members → patterns_in (listed members ++ End ∷ []) ≡ patterns_in body → IsTableOf c (patterns_in (listed members ++ End ∷ [])) u
        → class_lines (listed members ++ End ∷ []) ≡ class_count t → member_lines (listed members ++ End ∷ []) ≡ length members → 0 < end_lines (listed members ++ End ∷ [])
        → IsInPlace u (listed members ++ End ∷ []) r → ⊥
    none_behind members u (Head s p n) many same of classes lines ends place = omega (arith, ap length place, length-append (listed members) (End ∷ []))
    none_behind members u (Budget x) many same of classes lines ends place =
        omega (arith, place, length-append (listed members) (End ∷ []), length-append (heads ++ class_records t.births) (member_records members), long (class_records t.births))
    none_behind members u (Pattern bits) many same of classes lines ends place = omega (arith, place.1, classes, some.0)
    none_behind members u (Same e) many same of classes lines ends place = omega (arith, place.1, classes, some.0)
    none_behind members u (Class n birth) many same of classes lines ends place = omega (arith, place.1, lines, many)
    none_behind members u (Member n class m) many same of classes lines ends place = omega (arith, place.1, ends)
    none_behind members u End many same of classes lines ends place = omega (arith, place.2, ends)

    ended : (members : List (ℕ × Mark)) (rest : List Record) → 0 < length members → all ≡ listed members ++ End ∷ rest → all ≡ listed members ++ End ∷ []
    ended members [] many e = e
    ended members (r ∷ rest) many e =
        let before = listed members ++ End ∷ [] in
        let next = next_right before r rest right (e ∙ sym (append_assoc (listed members) (End ∷ []) (r ∷ rest))) in
        absurd (none_behind members next.right.t r many
        (filter_map-append pattern_of (listed members) (End ∷ []) ∙ append-nil (patterns_in (listed members)) ∙ listed_patterns members) next.right.table
        (omega (arith, sum_by-append (λ r. cond (is_class r) 1 0) (listed members) (End ∷ []), listed_classes members))
        (omega (arith, sum_by-append (λ r. cond (is_member r) 1 0) (listed members) (End ∷ []), listed_members members))
        (omega (arith, sum_by-append (λ r. cond (is_end r) 1 0) (listed members) (End ∷ [])))
        next.right.place)

    -- ---- member lines, up to the end

    -- one more member line is put after those so far
    member_put : (members : List (ℕ × Mark)) (number class : ℕ) (m : Mark) (rest : List Record) → number ≡ length members → listed members ++ Member number class m ∷ rest ≡ listed (members ++ (class, m) ∷ []) ++ rest
    member_put members number class m rest number_is =
        let before = heads ++ class_records t.births in
        let line : List Record = Member number class m ∷ [] in
        let more : member_records (members ++ (class, m) ∷ []) ≡ member_records members ++ line =
        records_more member_record members (class, m) ∙ ap (λ (n : ℕ). member_records members ++ Member n class m ∷ []) (sym number_is) in
        sym (append_assoc (listed members) line rest) ∙ ap (λ (rs : List Record). rs ++ rest) (append_assoc before (member_records members) line ∙ ap (λ (rs : List Record). before ++ rs) (sym more))

    -- a member line is right for its number
    member_right : (members : List (ℕ × Mark)) (number class : ℕ) (m : Mark) → AreMembersSoFar t (evidence_in body) members → IsNextLine c (listed members) (Member number class m)
        → (number ≡ length members) × AreMembersSoFar t (evidence_in body) (members ++ (class, m) ∷ [])
    member_right members number class m so_far next =
        let same = same_table (listed members) next.right.t (listed_patterns members) next.right.table in
        let number_is : number ≡ length members = next.right.content.next ∙ listed_members members in
        let class_is : class ≡ class_at t number = rw same at next.right.content.class_is in
        let mark_is : number_mark t (evidence_in body) number ≡ Some m = rw (same, listed_evidence members) at next.right.content.mark_is in
        (number_is, member_more members class m so_far (rw number_is at class_is) (rw number_is at mark_is))

    many_more : (members : List (ℕ × Mark)) (x : ℕ × Mark) → 0 < length (members ++ x ∷ [])
    many_more members x = omega (arith, length-append members (x ∷ []))

    -- after a member line only a member line and the end are allowed
    end_here : (members : List (ℕ × Mark)) (rest : List Record) → 0 < length members → AreMembersSoFar t (evidence_in body) members → all ≡ listed members ++ End ∷ rest → HasShape c sources positions numbers b all
    end_here members rest many so_far e =
        let next = next_right (listed members) End rest right e in
        let same = same_table (listed members) next.right.t (listed_patterns members) next.right.table in
        let count : length members ≡ length t.class_of = sym (listed_members members) ∙ next.right.place.1 ∙ ap (λ (u : ClassTable). length u.class_of) same in
        record { body = body; t = t; members = members; inside = inside; widths = widths; table = table; are = record { count = count; each = so_far }; whole = ended members rest many e }

    not_behind_members : (members : List (ℕ × Mark)) (u : ClassTable) (r : Record) → 0 < length members → (is_member r ≡ false) → (is_end r ≡ false) → IsInPlace u (listed members) r → ⊥
    not_behind_members members u (Head s p n) many other later place = omega (arith, ap length place, length-append (heads ++ class_records t.births) (member_records members), long (class_records t.births))
    not_behind_members members u (Budget x) many other later place = omega (
      arith,
      place,
      many,
      length-append (heads ++ class_records t.births) (member_records members),
      long (class_records t.births),
    )
    not_behind_members members u (Pattern bits) many other later place = omega (arith, place.1, listed_classes members, some.0)
    not_behind_members members u (Same e) many other later place = omega (arith, place.1, listed_classes members, some.0)
    not_behind_members members u (Class n birth) many other later place = omega (arith, place.1, listed_members members, many)
    not_behind_members members u (Member n class m) many other later place = absurd (cc)
    not_behind_members members u End many other later place = absurd (cc)

    never_last : (before : List Record) → all ≡ before ++ [] → end_lines before ≡ 0 → ⊥
    never_last before e none = omega (arith, last, none, ap end_lines (e ∙ append-nil before))

    walk_members : (members : List (ℕ × Mark)) (rest : List Record) → 0 < length members → AreMembersSoFar t (evidence_in body) members → all ≡ listed members ++ rest → HasShape c sources positions numbers b all
    walk_members members [] many so_far e = absurd (never_last (listed members) e (listed_ends members))
    walk_members members (Member number class m ∷ rest) many so_far e =
        let one = member_right members number class m so_far (next_right (listed members) (Member number class m) rest right e) in
        walk_members (members ++ (class, m) ∷ []) rest (many_more members (class, m)) one.1 (e ∙ member_put members number class m rest one.0)
    walk_members members (End ∷ rest) many so_far e = end_here members rest many so_far e
    walk_members members (r ∷ rest) many so_far e = let next = next_right (listed members) r rest right e in absurd (not_behind_members members next.right.t r many refl refl next.right.place)

    -- ---- class lines, up to the first member line

    class_put : (k : ℕ) (birth : Option (ℕ × ℕ)) (rest : List Record) → k < class_count t → slice_get t.births k ≡ Some birth → classed k ++ Class k birth ∷ rest ≡ classed (k + 1) ++ rest
    class_put k birth rest below birth_is =
        let births = take k t.births in
        let line : List Record = Class k birth ∷ [] in
        let long : length births ≡ k = omega (arith, below, length-take k t.births) in
        let more : class_records (take (k + 1) t.births) ≡ class_records births ++ line =
        ap class_records (take_next t.births k birth birth_is) ∙ records_more class_record births birth ∙ ap (λ (n : ℕ). class_records births ++ Class n birth ∷ []) long in
        sym (append_assoc (classed k) line rest) ∙ ap (λ (rs : List Record). rs ++ rest) (append_assoc heads (class_records births) line ∙ ap (λ (rs : List Record). heads ++ rs) (sym more))

    class_right : (k number : ℕ) (birth : Option (ℕ × ℕ)) → k ≤ class_count t → IsNextLine c (classed k) (Class number birth) → (number ≡ k) × (slice_get t.births k ≡ Some birth)
    class_right k number birth low next =
        let same = same_table (classed k) next.right.t (classed_patterns (take k t.births)) next.right.table in
        let number_is : number ≡ k = next.right.content.next ∙ classed_lines k low in
        (number_is, rw (same, number_is) at next.right.content.birth_is)

    no_members : AreMembersSoFar t (evidence_in body) []
    no_members = record { classes = λ n below. absurd (omega (arith, below)); marks = λ n below. absurd (omega (arith, below)) }

    first_member : (k number class : ℕ) (m : Mark) (rest : List Record) → 0 < k → k ≤ class_count t → all ≡ classed k ++ Member number class m ∷ rest → HasShape c sources positions numbers b all
    first_member k number class m rest many low e =
        let next = next_right (classed k) (Member number class m) rest right e in
        let same = same_table (classed k) next.right.t (classed_patterns (take k t.births)) next.right.table in
        let full : k ≡ class_count t = sym (classed_lines k low) ∙ next.right.place.0 ∙ ap (λ (u : ClassTable). length u.births) same in
        let whole : take k t.births ≡ t.births = ap (λ (n : ℕ). take n t.births) full ∙ take_all (class_count t) t.births (omega arith) in
        let lines : classed k ≡ listed [] = ap (λ (births : List (Option (ℕ × ℕ))). heads ++ class_records births) whole ∙ sym (append-nil (heads ++ class_records t.births)) in
        let e' : all ≡ listed [] ++ Member number class m ∷ rest = e ∙ ap (λ (rs : List Record). rs ++ Member number class m ∷ rest) lines in
        let one = member_right [] number class m no_members (next_right (listed []) (Member number class m) rest right e') in
        walk_members ((class, m) ∷ []) rest (many_more [] (class, m)) one.1 (e' ∙ member_put [] number class m rest one.0)

    not_behind_classes : (k : ℕ) (u : ClassTable) (r : Record) → 0 < k → k ≤ class_count t → u ≡ t → (is_class r ≡ false) → (is_member r ≡ false) → IsInPlace u (classed k) r → ⊥
    not_behind_classes k u (Head s p n) many low same other later place = omega (arith, ap length place, long (class_records (take k t.births)))
    not_behind_classes k u (Budget x) many low same other later place = omega (arith, place, long (class_records (take k t.births)))
    not_behind_classes k u (Pattern bits) many low same other later place = omega (arith, place.1, many, classed_lines k low)
    not_behind_classes k u (Same e) many low same other later place = omega (arith, place.1, many, classed_lines k low)
    not_behind_classes k u (Class n birth) many low same other later place = absurd (cc)
    not_behind_classes k u (Member n class m) many low same other later place = absurd (cc)
    not_behind_classes k u End many low same other later place =
        omega (arith, place.1, some.1, classed_none is_member (λ x. refl) refl refl no_member (take k t.births), ap (λ (u : ClassTable). length u.class_of) same)

    walk_classes : (k : ℕ) (rest : List Record) → 0 < k → k ≤ class_count t → all ≡ classed k ++ rest → HasShape c sources positions numbers b all
    walk_classes k [] many low e = absurd (never_last (classed k) e (classed_none is_end (λ x. refl) refl refl no_end (take k t.births)))
    walk_classes k (Class number birth ∷ rest) many low e =
        let one = class_right k number birth low (next_right (classed k) (Class number birth) rest right e) in
        let below = slice_get_within t.births k birth one.1 in
        let e' : all ≡ classed k ++ Class k birth ∷ rest = e ∙ ap (λ (n : ℕ). classed k ++ Class n birth ∷ rest) one.0 in
        walk_classes (k + 1) rest (omega arith) (omega (arith, below)) (e' ∙ class_put k birth rest below one.1)
    walk_classes k (Member number class m ∷ rest) many low e = first_member k number class m rest many low e
    walk_classes k (r ∷ rest) many low e =
        let next = next_right (classed k) r rest right e in
        let same = same_table (classed k) next.right.t (classed_patterns (take k t.births)) next.right.table in
        absurd (not_behind_classes k next.right.t r many low same refl refl next.right.place)

    first_class : (number : ℕ) (birth : Option (ℕ × ℕ)) (rest : List Record) → all ≡ heads ++ Class number birth ∷ rest → HasShape c sources positions numbers b all
    first_class number birth rest e =
        let e' : all ≡ classed 0 ++ Class number birth ∷ rest = e ∙ ap (λ (rs : List Record). rs ++ Class number birth ∷ rest) (sym (append-nil heads)) in
        let one = class_right 0 number birth (omega arith) (next_right (classed 0) (Class number birth) rest right e') in
        let below = slice_get_within t.births 0 birth one.1 in
        let e'' : all ≡ classed 0 ++ Class 0 birth ∷ rest = e' ∙ ap (λ (n : ℕ). classed 0 ++ Class n birth ∷ rest) one.0 in
        walk_classes 1 rest (omega arith) (omega (arith, below)) (e'' ∙ class_put 0 birth rest below one.1)

  -- ---- the body, up to the first class line

  module _ (some : (patterns : List (List Bool)) (t : ClassTable) → All (λ v. length v ≡ c.sources) patterns → IsTableOf c patterns t → HasSome t) where
    abbrev begun : List Record → List Record
    begun body = with_heads sources positions numbers b body

    -- the patterns on right lines are as wide as the circuit
    widths_from : (before rest : List Record) → all ≡ before ++ rest → All (λ v. length v ≡ c.sources) (patterns_in rest)
    widths_from before [] e = All-nil (λ v. length v ≡ c.sources)
    widths_from before (Pattern bits ∷ rest) e =
        let next = next_right before (Pattern bits) rest right e in
        All-cons (λ v. length v ≡ c.sources) bits (patterns_in rest) next.right.content.width (widths_from (before ++ Pattern bits ∷ []) rest (e ∙ sym (append_assoc before (Pattern bits ∷ []) rest)))
    widths_from before (r ∷ rest) e = widths_from (before ++ r ∷ []) rest (e ∙ sym (append_assoc before (r ∷ []) rest))

    body_widths : (body rest : List Record) → all ≡ begun body ++ rest → All (λ v. length v ≡ c.sources) (patterns_in body)
    body_widths body rest e =
        let read : patterns_in all ≡ patterns_in body ++ patterns_in rest = ap patterns_in e ∙ filter_map-append pattern_of (begun body) rest in
        All-left (λ v. length v ≡ c.sources) (patterns_in body) (patterns_in rest) (rw read at (widths_from [] all refl))

    begun_none : (p : Record → Bool) → p (Head sources positions numbers) ≡ false → p (Budget b) ≡ false → ((r : Record) → IsBodyRecord r → p r ≡ false) → (body : List Record) → All IsBodyRecord body → count_by p (begun body) ≡ 0
    begun_none p first second third body inside = heads_none p sources positions numbers b body first second (body_none p third body inside)

    put_body : (body rest : List Record) (r : Record) → all ≡ begun body ++ r ∷ rest → all ≡ begun (body ++ r ∷ []) ++ rest
    put_body body rest r e = e ∙ ap (λ (rs : List Record). Head sources positions numbers ∷ Budget b ∷ rs) (sym (append_assoc body (r ∷ []) rest))

    never_first : (body : List Record) (u : ClassTable) (r : Record) → All IsBodyRecord body → HasSome u → is_body_record r ≡ false → is_class r ≡ false → IsInPlace u (begun body) r → ⊥
    never_first body u (Head s p n) inside many other later place = cc
    never_first body u (Budget x) inside many other later place = omega (arith, place)
    never_first body u (Pattern bits) inside many other later place = absurd (cc)
    never_first body u (Same e) inside many other later place = absurd (cc)
    never_first body u (Class n birth) inside many other later place = absurd (cc)
    never_first body u (Member n class m) inside many other later place = omega (arith, place.0, many.0, begun_none is_class refl refl no_class body inside)
    never_first body u End inside many other later place = omega (arith, place.0, many.0, begun_none is_class refl refl no_class body inside)

    walk_body : (body rest : List Record) → All IsBodyRecord body → all ≡ begun body ++ rest → HasShape c sources positions numbers b all
    walk_body body [] inside e = absurd (omega (arith, last, ap end_lines (e ∙ append-nil (begun body)), begun_none is_end refl refl no_end body inside))
    walk_body body (Pattern bits ∷ rest) inside e = walk_body (body ++ Pattern bits ∷ []) rest (All-push IsBodyRecord body (Pattern bits) inside refl) (put_body body rest (Pattern bits) e)
    walk_body body (Same evidence ∷ rest) inside e = walk_body (body ++ Same evidence ∷ []) rest (All-push IsBodyRecord body (Same evidence) inside refl) (put_body body rest (Same evidence) e)
    walk_body body (Class number birth ∷ rest) inside e =
        let next = next_right (begun body) (Class number birth) rest right e in
        let widths = body_widths body (Class number birth ∷ rest) e in
        first_class body inside widths next.right.t next.right.table (some (patterns_in body) next.right.t widths next.right.table) number birth rest e
    walk_body body (r ∷ rest) inside e =
        let next = next_right (begun body) r rest right e in
        absurd (never_first body next.right.t r inside (some (patterns_in body) next.right.t (body_widths body (r ∷ rest) e) next.right.table) refl refl next.right.place)

    pub shaped : (rest : List Record) → all ≡ Head sources positions numbers ∷ Budget b ∷ rest → HasShape c sources positions numbers b all
    shaped rest e = walk_body [] rest (All-nil IsBodyRecord) e
