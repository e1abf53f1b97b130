-- What a result file states of its circuit, and when that is true. This is about the classes, births and marks that
-- the file's class and member lines state, and not about how anything in it was found.
use Rattle.std.specs.Prelude.{◌≡◌, ◌≢◌, ℕ, ◌<◌, Bool, true, false, List, [], ◌∷◌, ◌++◌, map, length, find, Option, None, Some, slice_get, slice_index_or, unwrap_or, All, IsTrue, ◌==◌}
use Rattle.std.specs.List.{enumerate_from, range_with_len}
use Rattle.net_model.specs.Circuit.{Circuit}
use Rattle.net_model.specs.Answer.{Separates, AreEqual}
use Rattle.net_model.specs.FaultList.{fault_count, fault_numbered}
use Rattle.net_model.specs.ClassTable.{named_pattern}
use Rattle.net_model.specs.declared.fault.Fault.{Fault}
use Rattle.pair_sets.specs.declared.tree.Token.{Token}
use Rattle.pair_sets.specs.declared.tree.Token.TheVariants.{Closed}
use Rattle.pair_sets.specs.Cube.{Cube, IsClosed}
use Rattle.pair_sets.specs.Tree.{cube_at, token_at, closed_count, HasTreeShape}
use Rattle.pair_miter.specs.ChainView.{ChainView}
use Rattle.pair_miter.specs.Miter.{miter}
use Rattle.pair_miter.specs.Log.{IsSpentLog}
use Rattle.result_records.specs.declared.record.Budgets.{Budgets}
use Rattle.result_records.specs.declared.record.Mark.{Mark}
use Rattle.result_records.specs.declared.record.Mark.TheVariants as mark
use Rattle.result_records.specs.declared.record.Proof.TheVariants as proof
use Rattle.result_records.specs.declared.record.Record.{Record}
use Rattle.result_records.specs.declared.record.Record.TheVariants.{Head, Budget, Pattern, Same, Class, Member, End}
use Rattle.text_fields.specs.Fields.{Text}
use Rattle.result_records.specs.Spelling.{text_of, HasSpelling}
use Rattle.result_records.specs.Marks.{patterns_in, evidence_in}

-- What the lines of a file state: the budgets, patterns and evidence, the birth of each class, and the class and mark
-- of each number.
pub record StatedResult : Type 0 where
  pub budgets : Budgets
  pub body : List Record
  pub births : List (Option (ℕ × ℕ))
  pub members : List (ℕ × Mark)

-- The class lines of these births, in order.
abbrev pub class_records : List (Option (ℕ × ℕ)) → List Record
class_records births = map (λ x. Class x.0 x.1) (enumerate_from 0 births)

-- The member lines of these classes and marks, in order.
abbrev pub member_records : List (ℕ × Mark) → List Record
member_records members = map (λ x. Member x.0 x.1.0 x.1.1) (enumerate_from 0 members)

-- The lines of a file that states this of the circuit.
abbrev pub stated_records : Circuit → StatedResult → List Record
stated_records c s = Head c.sources (length c.positions) (fault_count c) ∷ Budget s.budgets ∷ s.body ++ class_records s.births ++ member_records s.members ++ End ∷ []

-- Whether the record is a pattern or evidence.
abbrev pub is_body_record : Record → Bool
is_body_record (Pattern bits) = true
is_body_record (Same evidence) = true
is_body_record _ = false

-- ---- what is stated of a number or a class

-- The class and the mark of a number.
abbrev pub member_of : StatedResult → ℕ → ℕ × Mark
member_of s n = slice_index_or s.members n (0, mark.Rep)

-- The class of a number.
abbrev pub stated_class : StatedResult → ℕ → ℕ
stated_class s n = (member_of s n).0

-- The mark of a number.
abbrev pub stated_mark : StatedResult → ℕ → Mark
stated_mark s n = (member_of s n).1

-- The lowest number that is stated to be in the class of this number.
abbrev pub lowest_mate : StatedResult → ℕ → ℕ
lowest_mate s n = unwrap_or (find (λ m. stated_class s m == stated_class s n) (range_with_len 0 (length s.members))) n

-- The pattern that is named of the classes of two numbers.
abbrev pub pattern_between : StatedResult → ℕ → ℕ → List Bool
pattern_between s m n = slice_index_or (patterns_in s.body) (named_pattern s.births (stated_class s m) (stated_class s n)) []

-- Class 0 alone has no parent, the parent of each other class is a lower one, and its pattern is one of the file's.
pub record AreRightBirths (s : StatedResult) : Type 0 where
  pub first : slice_get s.births 0 ≡ Some None
  pub later : (k : ℕ) → 0 < k → k < length s.births → (birth : ℕ × ℕ) × (slice_get s.births k ≡ Some (Some birth)) × (birth.0 < k) × (birth.1 < length (patterns_in s.body))

-- The tokens have the shape of a tree, so that no vector is in the cubes of two leaves. It has exactly `limit` closed
-- leaves, and no vector of their cubes separates the faults.
pub record HasClosedCubes (c : Circuit) (f g : Fault) (limit : ℕ) (tree : List Token) : Type 0 where
  pub shape : HasTreeShape c tree
  pub full : closed_count tree ≡ limit
  pub closed : (at : ℕ) → at < length tree → token_at tree at ≡ Closed → (cube : Cube) × (cube_at tree at ≡ Some cube) × IsClosed c f g cube

-- Some evidence of the file names the number with the lowest of its class, and spends the budgets on them: as many
-- closed cubes as the budget allows, and as many clauses learned from the miter of the two as it allows, each of
-- which has literals and is fresh over those before it.
pub record IsSpentOn (c : Circuit) (s : StatedResult) (n : ℕ) : Type 0 where
  pub tree : List Token
  pub log : List ChainView
  pub at : ℕ
  pub evidence : slice_get (evidence_in s.body) at ≡ Some (record { member = n; partner = lowest_mate s n; proof = proof.Spent tree log })
  pub cubes : HasClosedCubes c (fault_numbered c (lowest_mate s n)) (fault_numbered c n) s.budgets.cubes tree
  pub clauses : IsSpentLog (miter c (fault_numbered c (lowest_mate s n)) (fault_numbered c n)) s.budgets.conflicts log

-- Any two faults of different classes answer differently to the pattern that is named of the classes.
abbrev pub AreApart : Circuit → StatedResult → Type 0
AreApart c s = (m n : ℕ) → m < fault_count c → n < fault_count c → stated_class s m ≢ stated_class s n → Separates c (pattern_between s m n) (fault_numbered c m) (fault_numbered c n)

-- Each member that is marked equal answers as the lowest of its class to every vector.
abbrev pub AreEqualMarked : Circuit → StatedResult → Type 0
AreEqualMarked c s = (n : ℕ) → n < fault_count c → stated_mark s n ≡ mark.Equal → AreEqual c (fault_numbered c n) (fault_numbered c (lowest_mate s n))

-- Each number that is marked neither equal nor open is the lowest of its class.
abbrev pub AreLowest : Circuit → StatedResult → Type 0
AreLowest c s = (n : ℕ) → n < fault_count c → stated_mark s n ≡ mark.Rep → lowest_mate s n ≡ n

-- What the lines state is true of the circuit, and they can be written: the body has only patterns and evidence, the
-- births are right, each fault number has one of the classes, faults of different classes are apart, and the marks
-- are true.
pub record IsTrueResult (c : Circuit) (s : StatedResult) : Type 0 where
  pub spelled : All HasSpelling (stated_records c s)
  pub body : All (λ r. IsTrue (is_body_record r)) s.body
  pub births : AreRightBirths s
  pub numbers : length s.members ≡ fault_count c
  pub classes : All (λ member. member.0 < length s.births) s.members
  pub apart : AreApart c s
  pub equal : AreEqualMarked c s
  pub spent : (n : ℕ) → n < fault_count c → stated_mark s n ≡ mark.Spent → IsSpentOn c s n
  pub representatives : AreLowest c s

-- The file states these budgets, and what it states is true of the circuit.
pub record IsTrueFile (c : Circuit) (budgets : Budgets) (file : Text) : Type 0 where
  pub stated : StatedResult
  pub text : file ≡ text_of (stated_records c stated)
  pub budgets_are : stated.budgets ≡ budgets
  pub is_true : IsTrueResult c stated
