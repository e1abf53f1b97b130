-- For each position the places that differ there, in a list.
use Rattle.std.specs.Prelude.{◌≡◌, ◌≢◌, ℕ, ◌+◌, ◌-◌, ◌<◌, ◌≤◌, ◌^◌, ◌⊎◌, Bool, List, [], length, Option, None, Some, unwrap_or, slice_index, slice_index_or, ◌==◌, if◌then◌else◌}
use Rattle.net_model.specs.Answer.{bit_at}
use Rattle.word_sim.specs.declared.lanes.TheConstants.{LANES}
use Rattle.fault_sim.specs.FaultSim.{FaultSim, lanes_at}
use Rattle.answer_numbers.specs.declared.differences.Item.{Item}
use Rattle.answer_numbers.specs.declared.differences.PositionLists.{PositionLists}
use Rattle.answer_numbers.specs.Descents.{descended}

-- what is read past the last item
abbrev pub no_item : Item
no_item = record { place = 0; lanes = []; next = 0 }

module _ (ends : ℕ) (items : List Item) where
  -- the item of a number, if the first `ends` numbers are ends of lists
  abbrev pub item_of : ℕ → Item
  item_of number = slice_index_or items (number - ends) no_item

  -- the lanes of a place in the list that begins with a number, if it is there
  abbrev pub found_from : ℕ → ℕ → Option (List Bool)
  found_from place number = descended ends (λ n. (item_of n).next) (λ n. None) (λ n rest. if (item_of n).place == place then Some (item_of n).lanes else rest) number

-- All numbers have 32 bits, each list begins with one of them, each item leads to a lower number, and no place comes
-- again after its item.
pub record AreListsOf (firsts : List ℕ) (items : List Item) : Type 0 where
  pub few : length firsts + length items < 2 ^ 32
  pub inside : (position : ℕ) → position < length firsts → slice_index firsts position < length firsts + length items
  pub lower : (number : ℕ) → length firsts ≤ number → number < length firsts + length items → (item_of (length firsts) items number).next < number
  pub once : (number : ℕ) → length firsts ≤ number → number < length firsts + length items
      → found_from (length firsts) items (item_of (length firsts) items number).place (item_of (length firsts) items number).next ≡ None

-- The lists of `later` and `more` have `place` at `position` in `lanes`, and otherwise what those of `firsts` and
-- `items` have.
pub record IsPushed (position place : ℕ) (lanes : List Bool) (firsts : List ℕ) (items : List Item) (later : List ℕ) (more : List Item) : Type 0 where
  pub count : length later ≡ length firsts
  pub lists : AreListsOf later more
  pub here : found_from (length later) more place (slice_index later position) ≡ Some lanes
  pub others : (q p : ℕ) → q < length firsts → (q ≢ position) ⊎ (p ≢ place) → found_from (length later) more p (slice_index later q) ≡ found_from (length firsts) items p (slice_index firsts q)

-- how many positions there are
abbrev pub end_count : PositionLists → ℕ
end_count lists = length lists.firsts.items

abbrev pub AreLists : PositionLists → Type 0
AreLists lists = AreListsOf lists.firsts.items lists.items.items

abbrev pub HasPush : ℕ → ℕ → List Bool → PositionLists → PositionLists → Type 0
HasPush position place lanes old new = IsPushed position place lanes old.firsts.items old.items.items new.firsts.items new.items.items

-- The number is that of the item.
pub record IsItem (lists : PositionLists) (number : ℕ) (item : Item) : Type 0 where
  pub past : end_count lists ≤ number
  pub own : item ≡ item_of (end_count lists) lists.items.items number

-- the lanes of a place in the list of a position, if it is there
abbrev pub found_at : PositionLists → ℕ → ℕ → Option (List Bool)
found_at lists position place = found_from (end_count lists) lists.items.items place (slice_index lists.firsts.items position)

-- whether a place differs at a position in a lane
abbrev pub differs_at : PositionLists → ℕ → ℕ → ℕ → Bool
differs_at lists place position lane = bit_at (unwrap_or (found_at lists position place) []) lane

-- The new lists have `place` at each position and in each lane in which the simulator's answers differ, and of other
-- places what the old lists have.
pub record HasPlace (sim : FaultSim) (place : ℕ) (old new : PositionLists) : Type 0 where
  pub count : end_count new ≡ end_count old
  pub lists : AreLists new
  pub here : (position lane : ℕ) → position < end_count old → lane < LANES → differs_at new place position lane ≡ bit_at (lanes_at sim position) lane
  pub others : (position p : ℕ) → position < end_count old → p ≢ place → found_at new position p ≡ found_at old position p
