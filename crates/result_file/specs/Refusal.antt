-- Which line of a file that isn't valid is refused, and by which rule.
use Rattle.std.specs.Prelude.{◌≡◌, ◌≢◌, ℕ, ◌+◌, ◌<◌, ◌≤◌, min, not, ◌==◌, take_while, List, [], ◌∷◌, ◌++◌, length}
use Rattle.net_model.specs.Ascii.{line_feed}
use Rattle.net_model.specs.declared.fault.Fault.{Fault}
use Rattle.net_model.specs.Circuit.{Circuit}
use Rattle.net_model.specs.ClassTable.{ClassTable}
use Rattle.net_model.specs.FaultList.{fault_numbered}
use Rattle.net_model.specs.PatternRows.{IsTableOf}
use Rattle.pair_miter.specs.Miter.{miter}
use Rattle.pair_sets.specs.declared.tree.Token.{Token}
use Rattle.pair_miter.specs.ChainView.{ChainView}
use Rattle.evidence_rules.specs.declared.refusal.EvidenceKind.{EvidenceKind}
use Rattle.evidence_rules.specs.declared.refusal.EvidenceKind.TheVariants as kind
use Rattle.evidence_rules.specs.TreeRefusal.{TreeRefused, IsRightTree}
use Rattle.evidence_rules.specs.LogRefusal.{LogRefused}
use Rattle.evidence_rules.specs.declared.refusal.Refusal.{Refusal}
use Rattle.result_records.specs.declared.limits.TheConstants.{RESULT_LIMIT}
use Rattle.result_records.specs.declared.record.Proof.{Proof}
use Rattle.result_records.specs.declared.record.Proof.TheVariants as proof
use Rattle.result_records.specs.declared.record.Evidence.{Evidence}
use Rattle.result_records.specs.declared.record.Budgets.{Budgets}
use Rattle.result_records.specs.declared.record.Record.{Record}
use Rattle.result_records.specs.declared.record.Record.TheVariants as line
use Rattle.result_file.specs.declared.fault.ResultKind.{ResultKind}
use Rattle.result_file.specs.declared.fault.ResultKind.TheVariants as why
use Rattle.result_file.specs.declared.fault.ResultFault.{ResultFault}
use Rattle.text_fields.specs.Fields.{Text}
use Rattle.result_records.specs.Spelling.{spelling, text_of, HasSpelling}
use Rattle.result_records.specs.Marks.{patterns_in, end_lines}
use Rattle.result_file.specs.Lines.{budgets_in, IsInPlace, IsRightContent, NamesNext, HasRightRoots}
use Rattle.result_file.specs.Valid.{AreRightLines}

-- ---- evidence

-- The evidence of a pair is refused so: its tree, or if that is right its log.
pub data PairRefused (c : Circuit) (f g : Fault) (kind : EvidenceKind) (budgets : Budgets) (tree : List Token) (log : List ChainView) (refusal : Refusal) : Type 0 where
  by_tree : TreeRefused c f g kind budgets.cubes tree refusal → PairRefused c f g kind budgets tree log refusal
  by_log : IsRightTree c f g kind budgets.cubes tree → LogRefused kind (miter c f g) budgets.conflicts log refusal → PairRefused c f g kind budgets tree log refusal

-- The proof is refused so: its tree, or if that is right its log. A proof by collapse isn't refused.
abbrev pub ProofRefused : Circuit → Fault → Fault → Budgets → Proof → Refusal → Type 0
ProofRefused c f g budgets proof.Collapse refusal = ⊥
ProofRefused c f g budgets (proof.Covered tree) refusal = TreeRefused c f g kind.Covered budgets.cubes tree refusal
ProofRefused c f g budgets (proof.Refuted tree log) refusal = PairRefused c f g kind.Refuted budgets tree log refusal
ProofRefused c f g budgets (proof.Spent tree log) refusal = PairRefused c f g kind.Spent budgets tree log refusal

module _ (c : Circuit) (t : ClassTable) (before : List Record) (evidence : Evidence) where
  -- The fault of the partner.
  abbrev pub partner_fault : Fault
  partner_fault = fault_numbered c evidence.partner

  -- The fault of the member.
  abbrev pub member_fault : Fault
  member_fault = fault_numbered c evidence.member

  -- The evidence is refused so: for what it names, else for the roots, else for its proof.
  pub data EvidenceRefused (reason : ResultKind) : Type 0 where
    by_name : ¬ NamesNext t before evidence → reason ≡ why.Member → EvidenceRefused reason
    by_roots : NamesNext t before evidence → ¬ HasRightRoots c partner_fault member_fault evidence.proof → reason ≡ why.Roots → EvidenceRefused reason
    by_proof : (refusal : Refusal) → NamesNext t before evidence → HasRightRoots c partner_fault member_fault evidence.proof → ProofRefused c partner_fault member_fault (budgets_in before) evidence.proof refusal → reason ≡ why.Evidence refusal → EvidenceRefused reason

-- ---- lines

-- A record that is allowed at its place is refused so, for what it says.
abbrev pub ContentRefused : Circuit → ClassTable → List Record → Record → ResultKind → Type 0
ContentRefused c t before (line.Head sources positions numbers) reason = ¬ IsRightContent c t before (line.Head sources positions numbers) × (reason ≡ why.Head)
ContentRefused c t before (line.Budget budgets) reason = ¬ IsRightContent c t before (line.Budget budgets) × (reason ≡ why.Head)
ContentRefused c t before (line.Pattern bits) reason = ¬ IsRightContent c t before (line.Pattern bits) × (reason ≡ why.Pattern)
ContentRefused c t before (line.Same evidence) reason = EvidenceRefused c t before evidence reason
ContentRefused c t before (line.Class number birth) reason = ¬ IsRightContent c t before (line.Class number birth) × (reason ≡ why.Table)
ContentRefused c t before (line.Member number class mark) reason = ¬ IsRightContent c t before (line.Member number class mark) × (reason ≡ why.Table)
ContentRefused c t before line.End reason = ⊥

-- How long the first line of the text is, with its LF if it has one.
abbrev pub line_length : Text → ℕ
line_length rest = min (length rest) (length (take_while (λ byte. not (byte == line_feed)) rest) + 1)

-- The first line of the text, with its LF, is no record that can be written.
abbrev pub IsNoRecord : Text → Type 0
IsNoRecord rest = (r : Record) (more : Text) → HasSpelling r → rest ≢ spelling r ++ line_feed ∷ more

-- Nothing is left, and no line before says that it is the end.
pub record EndsTooEarly (before : List Record) (rest : Text) : Type 0 where
  pub nothing : rest ≡ []
  pub unended : end_lines before ≡ 0

-- Something is left, and its first line is no record.
pub record IsUnreadableRecord (text : Text) : Type 0 where
  pub some : text ≢ []
  pub none : IsNoRecord text

-- The first line of the text spells this record.
pub record BeginsWithRecord (text : Text) (r : Record) : Type 0 where
  pub spelled : HasSpelling r
  pub more : Text
  pub text_is : text ≡ spelling r ++ line_feed ∷ more

-- A record of this kind isn't allowed after these lines.
pub record IsMisplaced (c : Circuit) (before : List Record) (r : Record) : Type 0 where
  pub table : ClassTable
  pub table_is : IsTableOf c (patterns_in before) table
  pub out : ¬ IsInPlace table before r

-- The record is allowed at its place, and is refused so for what it says.
pub record IsWrongThere (c : Circuit) (before : List Record) (r : Record) (reason : ResultKind) : Type 0 where
  pub table : ClassTable
  pub table_is : IsTableOf c (patterns_in before) table
  pub place : IsInPlace table before r
  pub refused : ContentRefused c table before r reason

-- What comes after the right lines is refused so.
pub data RestRefused (c : Circuit) (before : List Record) (rest : Text) (reason : ResultKind) : Type 0 where
  no_line : EndsTooEarly before rest → reason ≡ why.Order → RestRefused c before rest reason
  no_record : IsUnreadableRecord rest → reason ≡ why.Syntax → RestRefused c before rest reason
  misplaced : (r : Record) → BeginsWithRecord rest r → IsMisplaced c before r → reason ≡ why.Order → RestRefused c before rest reason
  wrong : (r : Record) → BeginsWithRecord rest r → IsWrongThere c before r reason → RestRefused c before rest reason

-- ---- files

-- The file begins with these right lines, and the rest comes after them.
pub record BeginsWithRightLines (c : Circuit) (file : Text) (before : List Record) (rest : Text) : Type 0 where
  pub text : file ≡ text_of before ++ rest
  pub right : AreRightLines c before

-- The file is refused so: at its first line that isn't right, or at the line that goes beyond the limit.
pub data FileRefused (c : Circuit) (file : Text) (fault : ResultFault) : Type 0 where
  at_line : (before : List Record) (rest : Text) (reason : ResultKind) → BeginsWithRightLines c file before rest → length (text_of before) + line_length rest ≤ RESULT_LIMIT → RestRefused c before rest reason
      → fault ≡ record { kind = reason; line = length before + 1 } → FileRefused c file fault
  too_long : (before : List Record) (rest : Text) → BeginsWithRightLines c file before rest → length (text_of before) ≤ RESULT_LIMIT → RESULT_LIMIT < length (text_of before) + line_length rest
      → fault ≡ record { kind = why.TooLong; line = length before + 1 } → FileRefused c file fault
