-- A line is refused in one way, and only if it isn't right.
use Rattle.std.proofs.Common.{◌≡◌, ◌≢◌, ◌∙◌, List, [], ◌∷◌, ◌++◌, sym, ap}
use Rattle.net_model.specs.declared.fault.Fault.{Fault}
use Rattle.net_model.specs.Circuit.{Circuit, IsCircuit}
use Rattle.net_model.specs.ClassTable.{ClassTable}
use Rattle.pair_miter.specs.ChainView.{ChainView}
use Rattle.pair_miter.specs.Miter.{miter}
use Rattle.pair_sets.specs.declared.tree.Token.{Token}
use Rattle.evidence_rules.specs.declared.refusal.EvidenceKind.{EvidenceKind}
use Rattle.evidence_rules.specs.declared.refusal.EvidenceKind.TheVariants.{Covered, Refuted, Spent}
use Rattle.evidence_rules.specs.declared.refusal.Refusal.{Refusal}
use Rattle.evidence_rules.specs.TreeRefusal.{IsRightTree}
use Rattle.evidence_rules.specs.LogRefusal.{IsRightLog}
use Rattle.evidence_rules.proofs.TreeLaws as trees
use Rattle.evidence_rules.proofs.LogLaws as logs
use Rattle.result_records.specs.declared.record.Budgets.{Budgets}
use Rattle.result_records.specs.declared.record.Proof.{Proof}
use Rattle.result_records.specs.declared.record.Proof.TheVariants as proof
use Rattle.result_records.specs.declared.record.Evidence.{Evidence}
use Rattle.result_records.specs.declared.record.Record.{Record}
use Rattle.result_records.specs.declared.record.Record.TheVariants.{Head, Budget, Pattern, Same, Class, Member, End}
use Rattle.result_file.specs.declared.fault.ResultKind.{ResultKind}
use Rattle.result_file.specs.declared.fault.ResultKind.TheVariants as why
use Rattle.text_fields.specs.Fields.{Text}
use Rattle.result_records.specs.Spelling.{spelling, HasSpelling}
use Rattle.result_file.specs.Lines.{budgets_in, IsRightContent, IsRightProof, IsRightLine}
use Rattle.result_file.specs.Refusal.{PairRefused, ProofRefused, EvidenceRefused, ContentRefused, BeginsWithRecord, IsMisplaced, IsWrongThere, RestRefused, partner_fault, member_fault}
use Rattle.result_file.specs.Refusal.PairRefused.{by_tree, by_log}
use Rattle.result_file.specs.Refusal.EvidenceRefused.{by_name, by_roots, by_proof}
use Rattle.result_file.specs.Refusal.RestRefused.{no_line, no_record, misplaced, wrong}
use Rattle.result_records.proofs.FieldLemmas.{no_line_feed}
use Rattle.text_fields.proofs.Cuts.{cut_once}
use Rattle.result_records.proofs.OnceLemmas.{spelling_once}
use Rattle.net_model.proofs.OneAnswer.{one_table}

module _ (c : Circuit) (f g : Fault) (budgets : Budgets) where
  pair_wrong : (kind : EvidenceKind) → kind ≢ Covered → (tree : List Token) (log : List ChainView) (refusal : Refusal) → PairRefused c f g kind budgets tree log refusal
      → IsRightTree c f g kind budgets.cubes tree → IsRightLog kind (miter c f g) budgets.conflicts log → ⊥
  pair_wrong kind some tree log refusal (by_tree refused) right right_log = trees.refused_is_wrong c f g kind budgets.cubes tree refusal refused right
  pair_wrong kind some tree log refusal (by_log whole refused) right right_log = logs.refused_is_wrong kind (miter c f g) budgets.conflicts log refusal some refused right_log

  pair_once : (kind : EvidenceKind) (tree : List Token) (log : List ChainView) (refusal other : Refusal) → PairRefused c f g kind budgets tree log refusal → PairRefused c f g kind budgets tree log other → refusal ≡ other
  pair_once kind tree log refusal other (by_tree first) (by_tree second) = trees.one_refusal c f g kind budgets.cubes tree refusal other first second
  pair_once kind tree log refusal other (by_tree first) (by_log right second) = absurd (trees.refused_is_wrong c f g kind budgets.cubes tree refusal first right)
  pair_once kind tree log refusal other (by_log right first) (by_tree second) = absurd (trees.refused_is_wrong c f g kind budgets.cubes tree other second right)
  pair_once kind tree log refusal other (by_log right first) (by_log right' second) = logs.one_refusal kind (miter c f g) log budgets.conflicts refusal other first second

  proof_wrong : (p : Proof) (refusal : Refusal) → ProofRefused c f g budgets p refusal → IsRightProof c f g budgets p → ⊥
  proof_wrong proof.Collapse refusal refused right = refused
  proof_wrong (proof.Covered tree) refusal refused right = trees.refused_is_wrong c f g Covered budgets.cubes tree refusal refused right
  proof_wrong (proof.Refuted tree log) refusal refused right = pair_wrong Refuted (λ e. cc) tree log refusal refused right.0 right.1
  proof_wrong (proof.Spent tree log) refusal refused right = pair_wrong Spent (λ e. cc) tree log refusal refused right.0 right.1

  proof_refused_once : (p : Proof) (refusal other : Refusal) → ProofRefused c f g budgets p refusal → ProofRefused c f g budgets p other → refusal ≡ other
  proof_refused_once proof.Collapse refusal other first second = absurd first
  proof_refused_once (proof.Covered tree) refusal other first second = trees.one_refusal c f g Covered budgets.cubes tree refusal other first second
  proof_refused_once (proof.Refuted tree log) refusal other first second = pair_once Refuted tree log refusal other first second
  proof_refused_once (proof.Spent tree log) refusal other first second = pair_once Spent tree log refusal other first second

module _ (c : Circuit) (t : ClassTable) (before : List Record) where
  evidence_once : (e : Evidence) (reason other : ResultKind) → EvidenceRefused c t before e reason → EvidenceRefused c t before e other → reason ≡ other
  evidence_once e reason other (by_name never is) (by_name never' is') = is ∙ sym is'
  evidence_once e reason other (by_name never is) (by_roots name never' is') = absurd (never name)
  evidence_once e reason other (by_name never is) (by_proof refusal name roots refused is') = absurd (never name)
  evidence_once e reason other (by_roots name never is) (by_name never' is') = absurd (never' name)
  evidence_once e reason other (by_roots name never is) (by_roots name' never' is') = is ∙ sym is'
  evidence_once e reason other (by_roots name never is) (by_proof refusal name' roots refused is') = absurd (never roots)
  evidence_once e reason other (by_proof refusal name roots refused is) (by_name never' is') = absurd (never' name)
  evidence_once e reason other (by_proof refusal name roots refused is) (by_roots name' never' is') = absurd (never' roots)
  evidence_once e reason other (by_proof refusal name roots refused is) (by_proof refusal' name' roots' refused' is') =
      is ∙ ap (λ (r : Refusal). why.Evidence r) (proof_refused_once c (partner_fault c t before e) (member_fault c t before e) (budgets_in before) e.proof refusal refusal' refused refused') ∙ sym is'

  content_wrong : (r : Record) (reason : ResultKind) → ContentRefused c t before r reason → IsRightContent c t before r → ⊥
  content_wrong (Head sources positions numbers) reason refused right = refused.0 right
  content_wrong (Budget budgets) reason refused right = refused.0 right
  content_wrong (Pattern bits) reason refused right = refused.0 right
  content_wrong (Same e) reason (by_name never is) right = never right.next
  content_wrong (Same e) reason (by_roots name never is) right = never right.roots
  content_wrong (Same e) reason (by_proof refusal name roots refused is) right = proof_wrong c (partner_fault c t before e) (member_fault c t before e) (budgets_in before) e.proof refusal refused right.right
  content_wrong (Class number birth) reason refused right = refused.0 right
  content_wrong (Member number class m) reason refused right = refused.0 right
  content_wrong End reason refused right = refused

  content_once : (r : Record) (reason other : ResultKind) → ContentRefused c t before r reason → ContentRefused c t before r other → reason ≡ other
  content_once (Head sources positions numbers) reason other first second = first.1 ∙ sym second.1
  content_once (Budget budgets) reason other first second = first.1 ∙ sym second.1
  content_once (Pattern bits) reason other first second = first.1 ∙ sym second.1
  content_once (Same e) reason other first second = evidence_once e reason other first second
  content_once (Class number birth) reason other first second = first.1 ∙ sym second.1
  content_once (Member number class m) reason other first second = first.1 ∙ sym second.1
  content_once End reason other first second = absurd first

-- the record on the first line of a text, and the text after it
pub record_once : (r other : Record) (more rest : Text) → HasSpelling r → HasSpelling other → spelling r ++ 10 ∷ more ≡ spelling other ++ 10 ∷ rest → (r ≡ other) × (more ≡ rest)
record_once r other more rest first second e =
    let line = cut_once 10 (spelling r) (spelling other) more rest (no_line_feed r first) (no_line_feed other second) e in
    (spelling_once r other first second line.0, line.1)

pub empty_line : (text more : Text) → [] ≡ text ++ 10 ∷ more → ⊥
empty_line [] more e = cc
empty_line (b ∷ text) more e = cc

-- a text that begins with a record isn't empty, and begins with one
pub record_stands : {text : Text} {r : Record} → BeginsWithRecord text r → text ≡ [] → ⊥
record_stands {text} {r} begins none = empty_line (spelling r) begins.more (sym none ∙ begins.text_is)

one_first : {text : Text} {r other : Record} → BeginsWithRecord text r → BeginsWithRecord text other → r ≡ other
one_first {text} {r} {other} first second = (record_once r other first.more second.more first.spelled second.spelled (sym first.text_is ∙ second.text_is)).0

module _ (c : Circuit) (is : IsCircuit c) (before : List Record) (rest : Text) where
  -- a record is allowed at its place or not, by whichever table
  never_there : {r other : Record} {reason : ResultKind} → BeginsWithRecord rest r → BeginsWithRecord rest other → IsMisplaced c before r → IsWrongThere c before other reason → ⊥
  never_there first second out there = out.out (rw (one_first first second, one_table c is out.table_is there.table_is) there.place)

  -- a refused line isn't right
  pub rest_wrong : (reason : ResultKind) (r : Record) → RestRefused c before rest reason → BeginsWithRecord rest r → IsRightLine c before r → ⊥
  rest_wrong reason r (no_line early is_order) begins right = record_stands begins early.nothing
  rest_wrong reason r (no_record unreadable is_syntax) begins right = unreadable.none r begins.more begins.spelled begins.text_is
  rest_wrong reason r (misplaced other first out is_order) begins right = out.out (rw (one_first first begins, one_table c is out.table_is right.table) right.place)
  rest_wrong reason r (wrong other first there) begins right =
      content_wrong c there.table before other reason there.refused (rw (one_first first begins, one_table c is there.table_is right.table) right.content)

  -- a line breaks one rule
  pub rest_once : (reason other : ResultKind) → RestRefused c before rest reason → RestRefused c before rest other → reason ≡ other
  rest_once reason other (no_line early why_first) (no_line early' why_second) = why_first ∙ sym why_second
  rest_once reason other (no_line early why_first) (no_record unreadable why_second) = absurd (unreadable.some early.nothing)
  rest_once reason other (no_line early why_first) (misplaced r begins out why_second) = absurd (record_stands begins early.nothing)
  rest_once reason other (no_line early why_first) (wrong r begins there) = absurd (record_stands begins early.nothing)
  rest_once reason other (no_record unreadable why_first) (no_line early why_second) = absurd (unreadable.some early.nothing)
  rest_once reason other (no_record unreadable why_first) (no_record unreadable' why_second) = why_first ∙ sym why_second
  rest_once reason other (no_record unreadable why_first) (misplaced r begins out why_second) = absurd (unreadable.none r begins.more begins.spelled begins.text_is)
  rest_once reason other (no_record unreadable why_first) (wrong r begins there) = absurd (unreadable.none r begins.more begins.spelled begins.text_is)
  rest_once reason other (misplaced r begins out why_first) (no_line early why_second) = absurd (record_stands begins early.nothing)
  rest_once reason other (misplaced r begins out why_first) (no_record unreadable why_second) = absurd (unreadable.none r begins.more begins.spelled begins.text_is)
  rest_once reason other (misplaced r begins out why_first) (misplaced r' begins' out' why_second) = why_first ∙ sym why_second
  rest_once reason other (misplaced r begins out why_first) (wrong r' begins' there) = absurd (never_there begins begins' out there)
  rest_once reason other (wrong r begins there) (no_line early why_second) = absurd (record_stands begins early.nothing)
  rest_once reason other (wrong r begins there) (no_record unreadable why_second) = absurd (unreadable.none r begins.more begins.spelled begins.text_is)
  rest_once reason other (wrong r begins there) (misplaced r' begins' out why_second) = absurd (never_there begins' begins out there)
  rest_once reason other (wrong r begins there) (wrong r' begins' there') =
      content_once c there.table before r reason other there.refused (rw (one_first begins begins', one_table c is there.table_is there'.table_is) there'.refused)
