-- Statements whose names may be driven twice or not at all.
use Rattle.std.specs.Prelude.{◌≡◌, List}
use Rattle.text_fields.specs.Fields.{Text}
use Rattle.bench_reader.specs.Netlist.{Netlist}
use Rattle.bench_reader.specs.Grammar.{Phrase}
use Rattle.bench_reader.specs.Reading.{IsText, netlist_of}

-- The text consists of statements, which read as this netlist.
pub record IsParsed (text : Text) (n : Netlist) : Type 0 where
  pub phrases : List Phrase
  pub is_text : IsText text phrases
  pub netlist_is : n ≡ netlist_of text phrases
