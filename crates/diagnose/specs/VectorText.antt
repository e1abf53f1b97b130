-- Lists of vectors: a line of bits for each.
use Rattle.std.specs.Prelude.{◌≡◌, ◌≢◌, ℕ, ◌≤◌, Bool, List, [], ◌∷◌, ◌++◌, length}
use Rattle.net_model.specs.Ascii.{line_feed}
use Rattle.net_model.specs.BitText.{bits_text}
use Rattle.net_model.specs.Rows.{AreWide}
use Rattle.diagnose.specs.declared.fault.LogKind.{LogKind}
use Rattle.diagnose.specs.declared.fault.LogKind.TheVariants.{Syntax, Width}
use Rattle.text_fields.specs.Fields.{Text, digit_bits}
use Rattle.diagnose.specs.Lines.{text_limit, lines_from, LinesRefused}

-- a line of a list, without its LF; its number isn't written
abbrev pub listed_vector : ℕ → List Bool → Text
listed_vector number bits = bits_text bits

-- The text is the list of these vectors, each with a bit for each source, and isn't longer than the limit.
pub record IsVectorList (sources : ℕ) (text : Text) (vectors : List (List Bool)) : Type 0 where
  pub short : length text ≤ text_limit
  pub wide : AreWide sources vectors
  pub text_is : text ≡ lines_from listed_vector 0 vectors

-- The text begins with no line of bits.
abbrev pub HasNoVector : Text → Type 0
HasNoVector text = (bits : List Bool) (more : Text) → text ≢ bits_text bits ++ line_feed ∷ more

-- The line of bits that a text begins with.
pub record FirstVectorLine (text : Text) : Type 0 where
  pub bits : List Bool
  pub more : Text
  pub begins : text ≡ bits_text bits ++ line_feed ∷ more

-- The text isn't empty, and begins with no line of bits.
pub record IsUnreadableVector (text : Text) : Type 0 where
  pub some : text ≢ []
  pub none : HasNoVector text

-- What is after some right lines is refused by this rule.
pub data VectorRestRefused (sources before : ℕ) (rest : Text) (kind : LogKind) : Type 0 where
  -- It begins with no line of bits.
  no_vector : IsUnreadableVector rest → kind ≡ Syntax → VectorRestRefused sources before rest kind
  -- It begins with a line of too few or too many bits.
  wrong_width : (line : FirstVectorLine rest) → length line.bits ≢ sources → kind ≡ Width → VectorRestRefused sources before rest kind

-- The list is refused by this rule at this line.
abbrev pub VectorsRefused : ℕ → Text → LogKind → ℕ → Type 0
VectorsRefused sources = LinesRefused listed_vector sources (VectorRestRefused sources)

-- The text begins with a line of as many digits as there are sources, and continues with `rest`.
pub record IsRightVector (sources : ℕ) (text digits rest : Text) : Type 0 where
  pub begins : text ≡ bits_text (digit_bits digits) ++ line_feed ∷ rest
  pub width : length digits ≡ sources
