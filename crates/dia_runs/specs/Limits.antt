-- How long files may be.
use Rattle.std.specs.Prelude.{◌≡◌}
use Rattle.bench_reader.specs.declared.reading.TheConstants.{NETLIST_LIMIT}
use Rattle.result_records.specs.declared.limits.TheConstants.{RESULT_LIMIT}
use Rattle.dict_file.specs.declared.reading.TheConstants.{DICTIONARY_LIMIT}
use Rattle.diagnose.specs.declared.lines.TheConstants.{TEXT_LIMIT}
use Rattle.run_steps.specs.declared.ending.FileKind.TheVariants.{Netlist, Result, Dictionary, Log, AdaptivePlan}
use Rattle.run_steps.specs.Limits.{limit_of}

-- The limits of the readers, beyond which a file is refused as too long, are the numbers of `limit_of`.
pub record HaveLimits : Type 0 where
  pub netlist : NETLIST_LIMIT ≡ limit_of Netlist
  pub result : RESULT_LIMIT ≡ limit_of Result
  pub dictionary : DICTIONARY_LIMIT ≡ limit_of Dictionary
  pub log : TEXT_LIMIT ≡ limit_of Log
  pub plan : TEXT_LIMIT ≡ limit_of AdaptivePlan
