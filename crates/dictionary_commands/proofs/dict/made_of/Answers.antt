use Rattle.dictionary_commands.proofs.MadeLemmas.{grouped_of, shaped_of, numbers_of}
use Rattle.dictionary_commands.proofs.FullApart.{apart_by_kind}
use Rattle.dictionary_commands.proofs.dict.made_of.Goals as goal

pub spelled-requires-clause-grouped : goal.spelled-requires-clause-grouped
spelled-requires-clause-grouped c = grouped_of c.in_ok-dict.ensures.dictionary

pub spelled-requires-clause-shaped : goal.spelled-requires-clause-shaped
spelled-requires-clause-shaped c = shaped_of c.in_ok-dict.ensures.dictionary

pub spelled-requires-clause-numbers : goal.spelled-requires-clause-numbers
spelled-requires-clause-numbers c = numbers_of c.in_ok-dict.ensures.dictionary c.requires.classes

pub returns : goal.returns
returns c =
    let entries = c.in_ok-dict.ensures.dictionary in
    record {
      dictionary = c.in_ok-dict.dict;
      entries = entries;
      file_is = c.in_ok-made.ensures.file;
      text_is = c.in_ok-made.ensures.text;
      all_apart = apart_by_kind c.args.kind c.in_ok-dict.ensures.circuit entries c.requires.classes c.in_ok-made.ensures.whole;
      most_apart = c.in_ok-dict.ensures.most;
    }
