-- What baselines are chosen from, and what the steps of the choice make. `rows` has the answers to each pattern.
use Rattle.std.specs.Prelude.{◌≡◌, ◌<◌, ◌^◌, ℕ, Bool, List, [], length, Some, slice_index_or, slice_set}
use Rattle.net_model.specs.ClassTable.{class_count}
use Rattle.class_refine.specs.Fields.{IsWhole}
use Rattle.samediff_dict.specs.declared.partition.Partition.{Partition}
use Rattle.samediff_dict.specs.declared.choosing.BaselineChoice.{BaselineChoice}
use Rattle.samediff_dict.specs.declared.improving.Replacement.{Replacement}
use Rattle.samediff_dict.specs.Chosen.{candidates, improvement}
use Rattle.samediff_dict.specs.Partition.{IsPartition}
use Rattle.samediff_dict.specs.Numbered.{HaveCandidates, AreChosen, AlikeFrom, baselines_at}

module _ (rows : List (List (List Bool))) (c : BaselineChoice) where
  -- The class table is whole and has fewer than 2^32 classes, `count` is how many, and the candidates of each pattern
  -- are numbered.
  pub record IsChoice : Type 0 where
    pub whole : IsWhole c.classes.now
    pub count_is : c.count ≡ class_count c.classes.now
    pub few : c.count < 2 ^ 32
    pub numbered : HaveCandidates c.classes.now rows c.patterns.now

  module _ (chosen : List ℕ) where
    -- There is the number of a candidate for each pattern.
    pub record IsChosen : Type 0 where
      pub one_each : length chosen ≡ length rows
      pub chosen_are : AreChosen c.classes.now rows chosen

    -- The groups are those of the classes that are alike at the baselines of the patterns in a range.
    abbrev pub IsPartitionFrom : ℕ → ℕ → Partition → Type 0
    IsPartitionFrom first end p = IsPartition (class_count c.classes.now) (AlikeFrom c.classes.now rows (baselines_at c.classes.now rows chosen) first end) p

    -- The replacement of a baseline by a candidate of its pattern is the first one that keeps more pairs apart.
    pub record IsFirstBetter (r : Replacement) : Type 0 where
      pub pattern_within : r.pattern < length chosen
      pub answer_within : r.answer < length (candidates c.classes.now (slice_index_or rows r.pattern []))
      pub is : improvement c.classes.now rows (baselines_at c.classes.now rows chosen) ≡ Some (baselines_at c.classes.now rows (slice_set chosen r.pattern r.answer))
