use Rattle.std.proofs.Common.{refl}
use Rattle.dict_file.specs.declared.fault.DictVersion.TheVariants.{Two}
use Rattle.dict_file.proofs.OnceLemmas.{refused_wrong, refused_once, dictionary_once}
use Rattle.dict_file.proofs.laws.dictionary_is_read_once.Goals as goal

pub returns : goal.returns
returns c = record {
  wrong = refused_wrong;
  fault = refused_once;
  dictionary = dictionary_once;
  respelled = λ bytes d is short. (Two, record { has = is.1.has; bytes_are = refl; short = short });
}
