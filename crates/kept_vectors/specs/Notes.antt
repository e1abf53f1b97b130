-- What is noted of the answers of fault numbers to the vectors of a block.
use Rattle.std.specs.Prelude.{◌≡◌, ◌≤◌, ℕ, ◌<◌, ◌+◌, ◌-◌, ◌↔◌, ◌⊎◌, Bool, true, false, List, [], length, map, filter, All, Contains, slice_index, slice_index_or, slice_range, Option, None, Some, IsSome, ⊤, ◌==◌, ◌&&◌, nat_lt, if◌then◌else◌}
use Rattle.std.specs.List.{list_any, AllPairs}
use Rattle.net_model.specs.Circuit.{Circuit, IsCircuit, line_count}
use Rattle.net_model.specs.declared.fault.Fault.{Fault}
use Rattle.net_model.specs.declared.fault.Fault.TheVariants.{Free}
use Rattle.net_model.specs.FaultList.{faults, fault_count, fault_numbered}
use Rattle.net_model.specs.Answer.{bit_at, IsAnswer, AreEqual}
use Rattle.net_model.specs.ClassTable.{ClassTable, class_at}
use Rattle.class_refine.specs.Fields.{IsWhole}
use Rattle.word_sim.specs.declared.lanes.TheConstants.{LANES}
use Rattle.word_sim.specs.GoodSim.{GoodSim, vectors_of}
use Rattle.fault_heads.specs.declared.head.Head.{Head}
use Rattle.fault_heads.specs.declared.head.Head.TheVariants as head
use Rattle.fault_heads.specs.declared.head.Turn.{Turn}
use Rattle.fault_heads.specs.Turned.{vector_at, IsFreeLane, IsHeadOf, turned_if, TurnsHead}
use Rattle.fault_sim.specs.FaultSim.{FaultSim, lanes_at, IsDifference}
use Rattle.kept_vectors.specs.Units.{IsUnit, HasChains}
use Rattle.kept_vectors.specs.declared.notes.Note.{Note}
use Rattle.kept_vectors.specs.declared.notes.Shown.{Shown}
use Rattle.kept_vectors.specs.declared.differences.Differences.{Differences}

-- whether a note is of the position and has the lane
abbrev pub has_lane : ℕ → ℕ → Note → Bool
has_lane lane position note = note.position == position && bit_at note.lanes lane

-- whether some note is of the position and has the lane: whether the answers that are noted differ there from the
-- fault-free ones
abbrev pub is_noted : List Note → ℕ → ℕ → Bool
is_noted notes lane position = list_any (has_lane lane position) notes

-- the positions of the notes that have the lane
abbrev pub lane_positions : List Note → ℕ → List ℕ
lane_positions notes lane = map (λ note. note.position) (filter (λ note. bit_at note.lanes lane) notes)

-- The notes are in order of their positions, at most one for each.
abbrev pub AreAscending : List Note → Type 0
AreAscending notes = AllPairs (λ a b. a.position < b.position) notes

-- Both lists note the same positions in the lane.
abbrev pub AreNotedAlike : ℕ → List Note → List Note → Type 0
AreNotedAlike lane one other = (position : ℕ) → is_noted one lane position ≡ is_noted other lane position

-- What is shown is a part of the notes.
abbrev pub IsSpanIn : List Note → Shown → Type 0
IsSpanIn notes shown = (shown.start ≤ shown.end) × (shown.end ≤ length notes)

abbrev pub noted_in : List Note → Shown → List Note
noted_in notes shown = slice_range notes shown.start shown.end

abbrev pub nothing_shown : Shown
nothing_shown = record { start = 0; end = 0; any = [] }

-- The notes are in order of their positions, and say at which positions and in which lanes the simulator's answers
-- differ.
pub record AreNotesAt (sim : FaultSim) (notes : List Note) : Type 0 where
  pub positions : All (λ note. note.position < length sim.circuit.positions) notes
  pub ascend : AreAscending notes
  pub noted : (position lane : ℕ) → position < length sim.circuit.positions → lane < LANES → is_noted notes lane position ≡ bit_at (lanes_at sim position) lane

-- ---- heads and their places

-- the place of a head: the lines come first, and then the positions
abbrev pub place_of : ℕ → Head → ℕ
place_of lines (head.Line line) = line
place_of lines (head.Position at) = lines + at

-- the head of a place
abbrev pub head_at : ℕ → ℕ → Head
head_at lines place = if nat_lt place lines then head.Line place else head.Position (place - lines)

-- what is noted: for each place what its head shows, for each number its root, and for each root what it turns
pub record Noted : Type 0 where
  pub lines : ℕ
  pub notes : List Note
  pub shown : List Shown
  pub roots : List ℕ
  pub turns : List (Option Turn)

abbrev pub noted_by : Differences → Noted
noted_by d = record { lines = d.lines; notes = d.notes.items; shown = d.shown.items; roots = d.units.roots.now; turns = d.turns.items }

module _ (noted : Noted) where
  abbrev pub shown_at : ℕ → Shown
  shown_at place = slice_index_or noted.shown place nothing_shown

  -- the notes of the head of a place
  abbrev pub head_notes : ℕ → List Note
  head_notes place = noted_in noted.notes (shown_at place)

  -- what a number's root turns
  abbrev pub turn_of : ℕ → Option Turn
  turn_of number = slice_index_or noted.turns (slice_index noted.roots number) None

-- the lanes in which a head is turned
abbrev pub row_of : Option Turn → List Bool
row_of None = []
row_of (Some turn) = turn.lanes

module _ (noted : Noted) where
  -- the notes of the head that is turned
  abbrev pub turn_notes : Option Turn → List Note
  turn_notes None = []
  turn_notes (Some turn) = head_notes noted (place_of noted.lines turn.head)

  -- the notes of the head that is turned, if it is turned in the lane, else none
  abbrev pub lane_notes : Option Turn → ℕ → List Note
  lane_notes turn lane = if bit_at (row_of turn) lane then turn_notes turn else []

  -- the notes of a number in a lane: those of the head that its root turns, if the root turns it in the lane, else none
  abbrev pub number_notes : ℕ → ℕ → List Note
  number_notes number lane = lane_notes (turn_of noted number) lane

  -- A part of the notes is that of the head of the place. They are in order of their positions, and `any` has the lanes
  -- in which there are some.
  pub record IsPlaceShown (place : ℕ) : Type 0 where
    pub below : place < length noted.shown
    pub within : IsSpanIn noted.notes (shown_at noted place)
    pub ascend : AreAscending (head_notes noted place)
    pub any : (lane : ℕ) → lane < LANES → (bit_at (shown_at noted place).any lane ≡ false) ↔ AreNotedAlike lane (head_notes noted place) []

  abbrev pub IsTurnShown : Option Turn → Type 0
  IsTurnShown None = ⊤
  IsTurnShown (Some turn) = IsPlaceShown (place_of noted.lines turn.head)

  -- What the number's root turns is shown.
  pub record HasNotes (number : ℕ) : Type 0 where
    pub inside : number < length noted.roots
    pub below : slice_index noted.roots number < length noted.turns
    pub shown : IsTurnShown (turn_of noted number)

module _ (good : GoodSim) where
  -- The bit is true exactly if the number's answer in the lane differs from the fault-free one at the position.
  abbrev pub IsDifferenceOf : ℕ → ℕ → ℕ → Bool → Type 0
  IsDifferenceOf number position lane bit = IsDifference good.circuit (fault_numbered good.circuit number) (vector_at good lane) position bit

  -- The notes are of the circuit's positions, in their order, and say at which of them the number's answer in the lane
  -- differs from the fault-free one.
  pub record IsReportOf (number lane : ℕ) (notes : List Note) : Type 0 where
    pub positions : All (λ note. note.position < length good.circuit.positions) notes
    pub ascend : AreAscending notes
    pub differ : (position : ℕ) → position < length good.circuit.positions → IsDifferenceOf number position lane (is_noted notes lane position)

  -- The notes are of the circuit's positions, in their order, and say at which of them and in which lanes the answers
  -- with the head turned in the lanes of the row differ from the fault-free ones.
  pub record IsHeadReport (head : Head) (row : List Bool) (notes : List Note) : Type 0 where
    pub positions : All (λ note. note.position < length good.circuit.positions) notes
    pub ascend : AreAscending notes
    pub differ : (position lane : ℕ) (free : List Bool) → position < length good.circuit.positions → IsFreeLane good lane free
        → IsDifference good.circuit (turned_if good.circuit free head (bit_at row lane)) (vector_at good lane) position (is_noted notes lane position)

  -- The part of the notes reports the head turned in the lanes of the row, and `any` has the lanes in which it notes
  -- something.
  pub record IsShownAs (head : Head) (row : List Bool) (notes : List Note) (shown : Shown) : Type 0 where
    pub within : IsSpanIn notes shown
    pub report : IsHeadReport head row (noted_in notes shown)
    pub any : (lane : ℕ) → lane < LANES → (bit_at shown.any lane ≡ false) ↔ AreNotedAlike lane (noted_in notes shown) []

  -- The two numbers answer alike to the vector of the lane.
  abbrev pub AreAlikeAt : ℕ → ℕ → ℕ → Type 0
  AreAlikeAt lane m n = (first second : List Bool) → IsAnswer good.circuit (fault_numbered good.circuit m) (vector_at good lane) first
      → IsAnswer good.circuit (fault_numbered good.circuit n) (vector_at good lane) second → first ≡ second

  -- The number's root is of its class and has itself as root, and both answer alike to each vector.
  pub record HasUnit (roots : List ℕ) (t : ClassTable) (n : ℕ) : Type 0 where
    pub below : slice_index roots n < length t.class_of
    pub itself : IsUnit roots (slice_index roots n)
    pub together : class_at t (slice_index roots n) ≡ class_at t n
    pub alike : (lane : ℕ) → lane < length (vectors_of good) → AreAlikeAt lane n (slice_index roots n)

  -- All numbers of the number's class answer as it does to each vector.
  abbrev pub AreMatesAlike : ClassTable → ℕ → Type 0
  AreMatesAlike t number = (other lane : ℕ) → other < length t.class_of → class_at t other ≡ class_at t number → lane < length (vectors_of good) → AreAlikeAt lane number other

  -- ---- what is asked

  module _ (needs : List (List Bool)) where
    -- The number turns a head of the circuit in the lanes of the turn, and this head is needed in all these lanes; or
    -- there is no turn, and the number is that of no fault.
    abbrev pub IsTurnNeeded : ℕ → Option Turn → Type 0
    IsTurnNeeded number None = fault_numbered good.circuit number ≡ Free
    IsTurnNeeded number (Some turn) = IsHeadOf good.circuit turn.head × TurnsHead good (fault_numbered good.circuit number) turn.head turn.lanes
        × ((lane : ℕ) → lane < LANES → bit_at turn.lanes lane ≡ true → bit_at (slice_index_or needs (place_of (line_count good.circuit) turn.head) []) lane ≡ true)

    -- It is known what the number turns, and its head is needed in the lanes in which the number turns it.
    pub record IsNumberAsked (turns : List (Option Turn)) (number : ℕ) : Type 0 where
      pub below : number < length turns
      pub turn : IsTurnNeeded number (slice_index_or turns number None)

    -- The notes of the place say at which positions and in which lanes the answers with its head turned, in the lanes
    -- in which the head is needed, differ from the fault-free ones.
    pub record IsPlaceNoted (notes : List Note) (shown : List Shown) (place : ℕ) : Type 0 where
      pub below : place < length shown
      pub shows : IsShownAs (head_at (line_count good.circuit) place) (slice_index_or needs place []) notes (slice_index_or shown place nothing_shown)

  module _ (noted : Noted) where
    -- The number has notes, which say at which positions its answer in each lane with a vector differs from the
    -- fault-free one.
    pub record IsNumberNoted (number : ℕ) : Type 0 where
      pub notes : HasNotes noted number
      pub report : (lane : ℕ) → lane < length (vectors_of good) → IsReportOf number lane (number_notes noted number lane)

  -- ---- groups and classes of which something is known

  -- `IsKnown` holds for all numbers of the number's class.
  abbrev pub AreMatesKnown : (ℕ → Type 0) → ClassTable → ℕ → Type 0
  AreMatesKnown IsKnown t number = (other : ℕ) → other < length t.class_of → class_at t other ≡ class_at t number → IsKnown other

  module _ (roots : List ℕ) (IsKnown : ℕ → Type 0) where
    -- `IsKnown` holds for all numbers of the group, and its units were added to `old`, and no number that isn't of the
    -- group; or all numbers of the group answer alike, and none was added.
    abbrev pub IsGroupKnown : List ℕ → List ℕ → List ℕ → Type 0
    IsGroupKnown group old new = (All IsKnown group × ((n : ℕ) → Contains group n → IsUnit roots n → Contains new n) × ((n : ℕ) → Contains new n → Contains old n ⊎ Contains group n) × ((n : ℕ) → Contains old n → Contains new n))
        ⊎ ((new ≡ old) × ((m n lane : ℕ) → Contains group m → Contains group n → lane < length (vectors_of good) → AreAlikeAt lane m n))

    -- `IsKnown` holds for all numbers of the classes of these numbers. For each class it holds for all its numbers, and
    -- its units are among these numbers, or all its numbers answer alike.
    pub record AreKnown (t : ClassTable) (numbers : List ℕ) : Type 0 where
      pub mates : All (λ n. (n < length t.class_of) × AreMatesKnown IsKnown t n) numbers
      pub others : (n : ℕ) → n < length t.class_of → ((IsUnit roots n → Contains numbers n) × AreMatesKnown IsKnown t n) ⊎ AreMatesAlike t n

  -- All numbers of the number's class are noted.
  abbrev pub AreMatesNoted : Noted → ClassTable → ℕ → Type 0
  AreMatesNoted noted = AreMatesKnown (IsNumberNoted noted)

  -- All numbers of the classes of these numbers are noted. For each class all its numbers are noted, and its units are
  -- among these numbers, or all its numbers answer alike.
  abbrev pub AreAsked : Noted → ClassTable → List ℕ → Type 0
  AreAsked noted = AreKnown noted.roots (IsNumberNoted noted)

  -- The number's root was asked.
  abbrev pub IsUnitAsked : Differences → ℕ → Type 0
  IsUnitAsked d n = (n < length d.units.roots.now) × IsNumberAsked d.needs.items d.turns.items (slice_index d.units.roots.now n)

  -- Each number that was asked before is asked still.
  abbrev pub AreAskedLater : Differences → Differences → Type 0
  AreAskedLater old new = (n : ℕ) → IsNumberAsked old.needs.items old.turns.items n → IsNumberAsked new.needs.items new.turns.items n

-- The circuit has run these vectors, the whole table has its fault numbers, each number answers as its root, which is
-- of its class, and for each class all numbers are noted or all answer alike.
pub record AreTold (good : GoodSim) (vectors : List (List Bool)) (noted : Noted) (t : ClassTable) : Type 0 where
  pub circuit : IsCircuit good.circuit
  pub ran : good.ran ≡ Some vectors
  pub whole : IsWhole t
  pub numbers : length t.class_of ≡ fault_count good.circuit
  pub roots : length noted.roots ≡ length t.class_of
  pub units : (n : ℕ) → n < length t.class_of → HasUnit good noted.roots t n
  pub mates : (n : ℕ) → n < length t.class_of → AreMatesNoted good noted t n ⊎ AreMatesAlike good t n

-- Each fault number has a root, which is its own root, and numbers with one root answer alike to every vector.
pub record AreRootsOf (c : Circuit) (roots : List ℕ) : Type 0 where
  pub whole : length roots ≡ fault_count c
  pub within : All (λ root. root < fault_count c) roots
  pub itself : (n : ℕ) → n < fault_count c → IsUnit roots (slice_index roots n)
  pub equal : IsCircuit c → (m n : ℕ) → m < fault_count c → n < fault_count c → slice_index roots m ≡ slice_index roots n → AreEqual c (fault_numbered c m) (fault_numbered c n)

-- The circuit has run a block of vectors with a bit for each source, and these are its faults.
pub record HasRunBlock (good : GoodSim) (listed : List Fault) : Type 0 where
  pub circuit : IsCircuit good.circuit
  pub ran : IsSome good.ran
  pub few : length (vectors_of good) ≤ LANES
  pub widths : All (λ v. length v ≡ good.circuit.sources) (vectors_of good)
  pub faults_are : listed ≡ faults good.circuit

-- The heads, the simulator and the units are those of the circuit, and there is room for its heads and numbers.
pub record AreOf (c : Circuit) (d : Differences) : Type 0 where
  pub lines : d.lines ≡ line_count c
  pub heads : d.heads.circuit ≡ c
  pub sim : d.sim.circuit ≡ c
  pub needs : length d.needs.items ≡ line_count c + length c.positions
  pub shown : length d.shown.items ≡ line_count c + length c.positions
  pub turns : length d.turns.items ≡ fault_count c
  pub roots : AreRootsOf c d.units.roots.now
  pub chains : HasChains d.units
