use Rattle.std.proofs.Common.{◌≡◌, ◌<◌, ◌≤◌, ◌*◌, ◌^◌, ℕ, length, get_or}
use Rattle.dict_rows.specs.Dictionary.{entry_of}
use Rattle.table_dicts.proofs.ApartLemmas.{alike_to, apart_to}
use Rattle.table_dicts.proofs.pairs.apart.Given as goal

abbrev pub invariant-loop-class : goal.invariant-loop-class
invariant-loop-class l = record {
  places : length l.alike.items ≡ length l.dict.entries;
  alike : (group : ℕ) → group < length l.dict.entries → get_or l.alike.items group 0 ≡ alike_to l.classes l.dict.groups l.class group;
  count : l.count ≡ apart_to l.classes (entry_of l.dict) l.class;
  bound : l.count ≤ l.class * 2 ^ 32;
}
