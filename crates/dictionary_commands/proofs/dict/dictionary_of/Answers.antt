use Rattle.std.proofs.Common.{◌≡◌, Result, Ok, Err, sym, subst}
use Rattle.std.specs.Prelude.{IfOk}
use Rattle.std.proofs.lemmas.Result.{IfOk-weaker}
use Rattle.dict_rows.specs.declared.dict.Dict.{Dict}
use Rattle.request_words.specs.declared.request.EntryKind.{EntryKind}
use Rattle.request_words.specs.declared.request.EntryKind.TheVariants.{SameDiff}
use Rattle.dictionary_commands.specs.Dictionaries.{IsOfPatterns, KeepsMostApart}
use Rattle.dictionary_commands.proofs.MadeLemmas.{kind_made}
use Rattle.dictionary_commands.proofs.dict.dictionary_of.Goals as goal

always : {T E : Type 0} (P : T → Type 0) (result : Result T E) → ((x : T) → P x) → IfOk result P
always P (Ok x) all = all x
always P (Err e) all = tt

pub returns-in-PassFail-clause-dictionary : goal.returns-in-PassFail-clause-dictionary
returns-in-PassFail-clause-dictionary c = kind_made c.pass_fail_at.result c.in-PassFail.is c.requires.classes c.pass_fail_at.ensures

pub returns-in-Full-clause-dictionary : goal.returns-in-Full-clause-dictionary
returns-in-Full-clause-dictionary c = kind_made c.full_at.result c.in-Full.is c.requires.classes c.full_at.ensures

pub returns-in-SameDiff-clause-dictionary : goal.returns-in-SameDiff-clause-dictionary
returns-in-SameDiff-clause-dictionary c =
    let circuit = c.args.setting.now.subject.now in
    let patterns = c.args.setting.now.patterns.now in
    let classes = c.args.setting.now.classes.now in
    subst (λ (kind : EntryKind). IfOk c.chosen_of.result (IsOfPatterns circuit kind patterns classes)) (sym c.in-SameDiff.is) c.chosen_of.ensures.dictionary

pub returns-in-PassFail-clause-most : goal.returns-in-PassFail-clause-most
returns-in-PassFail-clause-most c =
    let is = c.in-PassFail.is in
    always (λ (d : Dict). c.args.kind ≡ SameDiff → KeepsMostApart c.args.setting.now.subject.now c.args.setting.now.patterns.now c.args.setting.now.classes.now d) c.pass_fail_at.result (λ d same. absurd (cc))

pub returns-in-Full-clause-most : goal.returns-in-Full-clause-most
returns-in-Full-clause-most c =
    let is = c.in-Full.is in
    always (λ (d : Dict). c.args.kind ≡ SameDiff → KeepsMostApart c.args.setting.now.subject.now c.args.setting.now.patterns.now c.args.setting.now.classes.now d) c.full_at.result (λ d same. absurd (cc))

pub returns-in-SameDiff-clause-most : goal.returns-in-SameDiff-clause-most
returns-in-SameDiff-clause-most c =
    let circuit = c.args.setting.now.subject.now in
    let patterns = c.args.setting.now.patterns.now in
    let classes = c.args.setting.now.classes.now in
    IfOk-weaker c.chosen_of.result (KeepsMostApart circuit patterns classes) (λ (d : Dict). c.args.kind ≡ SameDiff → KeepsMostApart circuit patterns classes d) (λ d most same. most) c.chosen_of.ensures.most
