-- Bytes are the file of one dictionary, or refused for one fault.
use Rattle.std.proofs.Common.{◌≡◌, ◌∙◌, ℕ, Bool, List, [], get_or, refl, sym, ap, subst, arith}
use Rattle.dict_rows.specs.declared.dict.Dict.{Dict}
use Rattle.dict_rows.specs.declared.dict.DictKind.{DictKind}
use Rattle.dict_rows.specs.declared.dict.DictKind.TheVariants.{PassFail, Full, SameDiff}
use Rattle.dict_rows.specs.Grouped.{IsGrouped}
use Rattle.dict_file.specs.declared.fault.DictFault.{DictFault}
use Rattle.dict_file.specs.declared.fault.DictVersion.{DictVersion}
use Rattle.dict_file.specs.declared.fault.DictVersion.TheVariants.{One, Two}
use Rattle.dict_file.specs.Spelling.{kind_number, version_number, SpellsDict, IsFileOf, entry_rows}
use Rattle.dict_file.specs.Reading as reading
use Rattle.dict_file.specs.Reading.{file_part, IsRefusedBy}
use Rattle.dict_file.proofs.PartLemmas.{file_is}
use Rattle.dict_file.proofs.GroupingOnce.{grouping_once}
use Rattle.dict_file.proofs.FieldLemmas.{AreFields}
use Rattle.dict_file.proofs.VersionOne.{get_or-entry_rows, reads_one, right_one}
use Rattle.dict_file.proofs.VersionTwo.{reads_two, right_two, all_groups}

kind_once : (k l : DictKind) → kind_number k ≡ kind_number l → k ≡ l
kind_once PassFail PassFail e = refl
kind_once PassFail Full e = absurd (omega (arith, e))
kind_once PassFail SameDiff e = absurd (omega (arith, e))
kind_once Full PassFail e = absurd (omega (arith, e))
kind_once Full Full e = refl
kind_once Full SameDiff e = absurd (omega (arith, e))
kind_once SameDiff PassFail e = absurd (omega (arith, e))
kind_once SameDiff Full e = absurd (omega (arith, e))
kind_once SameDiff SameDiff e = refl

version_once : (v w : DictVersion) → version_number v ≡ version_number w → v ≡ w
version_once One One e = refl
version_once One Two e = absurd (omega (arith, e))
version_once Two One e = absurd (omega (arith, e))
version_once Two Two e = refl

-- ---- a spelled dictionary is right

pub file_right : (bytes : List ℕ) (d : Dict) → IsFileOf d bytes → (file_part bytes).Right
file_right bytes d (One, spells) =
    let reads = reads_one spells in
    let is = reads.head.fields.version_is in
    (spells.short, (reads.head.right, (λ one. right_one reads, λ two. absurd (omega (arith, is, two)))))
file_right bytes d (Two, spells) =
    let reads = reads_two spells in
    let is = reads.head.fields.version_is in
    (spells.short, (reads.head.right, (λ one. absurd (omega (arith, is, one)), λ two. right_two spells.has reads)))

pub refused_wrong : (bytes : List ℕ) (d : Dict) (fault : DictFault) → IsRefusedBy bytes fault → ¬ IsFileOf d bytes
refused_wrong bytes d fault refused is = (file_is bytes).apart fault (file_right bytes d is) refused.refused

pub refused_once : (bytes : List ℕ) (fault other : DictFault) → IsRefusedBy bytes fault → IsRefusedBy bytes other → fault ≡ other
refused_once bytes fault other one two = (file_is bytes).one fault other one.refused two.refused

-- ---- one dictionary

same_dict : (d e : Dict) → d.kind ≡ e.kind → d.positions ≡ e.positions → d.patterns ≡ e.patterns → d.numbers ≡ e.numbers → d.baselines ≡ e.baselines → d.groups ≡ e.groups → d.entries ≡ e.entries → d ≡ e
same_dict d e k p q n b g r = λ i. record { kind = k i; positions = p i; patterns = q i; numbers = n i; baselines = b i; groups = g i; entries = r i }

fields_once : {bytes : List ℕ} {v : DictVersion} {d e : Dict} → AreFields bytes v d → AreFields bytes v e → d.baselines ≡ e.baselines → d.groups ≡ e.groups → d.entries ≡ e.entries → d ≡ e
fields_once {bytes} {v} {d} {e} one two b g r =
    same_dict d e (kind_once d.kind e.kind (sym one.kind_is ∙ two.kind_is)) (sym one.positions_are ∙ two.positions_are) (sym one.patterns_are ∙ two.patterns_are) (sym one.numbers_are ∙ two.numbers_are) b g r

one_once : (bytes : List ℕ) (d e : Dict) → SpellsDict One d bytes → SpellsDict One e bytes → d ≡ e
one_once bytes d e first second =
    let a = reads_one first in
    let b = reads_one second in
    let numbers : d.numbers ≡ e.numbers = sym a.head.fields.numbers_are ∙ b.head.fields.numbers_are in
    let rows : entry_rows d ≡ entry_rows e = sym a.entries.are ∙ b.entries.are in
    let groups = grouping_once d.numbers d.groups e.groups d.entries e.entries first.has.grouped (subst (λ n. IsGrouped n e.groups e.entries) (sym numbers) second.has.grouped)
    (λ n h. sym (get_or-entry_rows d n [] h) ∙ (ap (λ (xs : List (List Bool)). get_or xs n []) rows ∙ get_or-entry_rows e n [] (omega (arith, h, numbers)))) in
    fields_once a.head.fields b.head.fields (sym a.baselines.are ∙ b.baselines.are) groups.0 groups.1

two_once : (bytes : List ℕ) (d e : Dict) → SpellsDict Two d bytes → SpellsDict Two e bytes → d ≡ e
two_once bytes d e first second =
    let a = reads_two first in
    let b = reads_two second in
    fields_once a.head.fields b.head.fields (sym a.baselines.are ∙ b.baselines.are) (all_groups first.has a ∙ sym (all_groups second.has b)) (sym a.entries.are ∙ b.entries.are)

version_of : {bytes : List ℕ} {d : Dict} (v : DictVersion) → SpellsDict v d bytes → reading.version bytes ≡ version_number v
version_of One spells = (reads_one spells).head.fields.version_is
version_of Two spells = (reads_two spells).head.fields.version_is

same_version : (bytes : List ℕ) (v : DictVersion) (d e : Dict) → SpellsDict v d bytes → SpellsDict v e bytes → d ≡ e
same_version bytes One d e first second = one_once bytes d e first second
same_version bytes Two d e first second = two_once bytes d e first second

pub dictionary_once : (bytes : List ℕ) (v w : DictVersion) (d e : Dict) → SpellsDict v d bytes → SpellsDict w e bytes → (v ≡ w) × (d ≡ e)
dictionary_once bytes v w d e first second =
    let same = version_once v w (sym (version_of v first) ∙ version_of w second) in
    (same, same_version bytes v d e first (subst (λ x. SpellsDict x e bytes) (sym same) second))
