-- The names that a reader has numbered.
use Rattle.std.specs.Prelude.{ℕ, List, map, Vec}
use Rattle.std.specs.declared.alloc.Global.{Global}
use Rattle.std.specs.declared.hash.FoldHasher.{FoldHasher}
use Rattle.std.specs.declared.hash.BuildHasherDefault.{BuildHasherDefault}
use Rattle.indexmap.specs.IndexSet.{IndexSet}
use Rattle.text_fields.specs.Fields.{Text}

abbrev pub NameSet : Type 0
NameSet = IndexSet (Vec ℕ Global) (BuildHasherDefault FoldHasher)

-- the names as texts
abbrev pub texts_of_names : List (Vec ℕ Global) → List Text
texts_of_names names = map (λ v. v.items) names

-- the names by number
abbrev pub texts_in : NameSet → List Text
texts_in names = texts_of_names names.keys
