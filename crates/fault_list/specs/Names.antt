-- The names of faults.
use Rattle.std.specs.Prelude.{ℕ, List, [], ◌∷◌, ◌++◌, slice_index, slice_index_or, codes, decimal}
use Rattle.std.specs.List.{join_with_byte}
use Rattle.net_model.specs.Ascii.{space}
use Rattle.net_model.specs.declared.fault.Site.{Site}
use Rattle.net_model.specs.declared.fault.Site.TheVariants.{Stem, Pin, Position}
use Rattle.net_model.specs.declared.fault.Fault.{Fault}
use Rattle.net_model.specs.declared.fault.Fault.TheVariants.{Free, Stuck}
use Rattle.net_model.specs.BitText.{bit_digit}
use Rattle.net_model.specs.Circuit.{Circuit, pins_of}

module _ (c : Circuit) (names : List (List ℕ)) where
  -- the name of a line
  abbrev pub line_name : ℕ → List ℕ
  line_name line = slice_index_or names line []

  -- the kind of a site, the line that is read there, and which reader of the line it is
  abbrev pub site_fields : Site → List (List ℕ)
  site_fields (Stem line) = codes "S" ∷ line_name line ∷ []
  site_fields (Pin gate pin) = codes "G" ∷ line_name (slice_index (pins_of c gate) pin) ∷ line_name gate ∷ decimal pin ∷ []
  site_fields (Position at) = codes "O" ∷ line_name (slice_index c.positions at) ∷ decimal at ∷ []

  -- the fields of a fault's name: `free`, or those of its site and the stuck value
  abbrev pub name_fields : Fault → List (List ℕ)
  name_fields Free = codes "free" ∷ []
  name_fields (Stuck site bit) = site_fields site ++ (bit_digit bit ∷ []) ∷ []

  -- the name of a fault: the kind of its site, the line, which reader of the line it is, and the stuck value, with one
  -- blank between two fields
  abbrev pub fault_name : Fault → List ℕ
  fault_name fault = join_with_byte space (name_fields fault)
