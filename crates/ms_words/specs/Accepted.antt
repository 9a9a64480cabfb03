-- What holds of all that accepted words give (own).
use Rattle.std.specs.Prelude.{◌≡◌, ◌≤◌, true, All, None, length}
use Rattle.std.specs.List.{list_all}
use Rattle.ms_words.specs.declared.names.CommandName.{CommandName}
use Rattle.ms_words.specs.Table.{takes, least_files, most_files}
use Rattle.ms_words.specs.Values.{value_fault}
use Rattle.ms_words.specs.Reading.{Given, is_given, wanted_in}

-- nothing is wrong with the values, there are no more files than a command may have, and nothing is missing
pub record Whole (c : CommandName) (g : Given) : Type 0 where
  pub values : All (λ p. value_fault (takes p.0) 0 p.1 ≡ None) g.options
  pub few : length g.files ≤ most_files c
  pub enough : least_files c ≤ length g.files
  pub wanted : list_all (λ o. is_given o g) (wanted_in c g) ≡ true
