-- Facts of the tables of commands and options.
use Rattle.std.proofs.Common.{◌≡◌, ◌≤◌, true, refl, sym, arith, true≢false, length}
use Rattle.std.proofs.lemmas.Slice.Eq.{bytes_eq-Decides}
use Rattle.ms_words.specs.declared.names.CommandName.{CommandName}
use Rattle.ms_words.specs.declared.names.CommandName.TheVariants.{Instrument, Check, Explain, Corpus, Gen}
use Rattle.ms_words.specs.declared.names.CommandName.TheVariants as name
use Rattle.ms_words.specs.declared.names.OptionName.{OptionName}
use Rattle.ms_words.specs.declared.names.OptionName.TheVariants.{Input, Fill, Steps, Reports, Schedule, Schedules, Workers, Seed, Functions, Run, Where, Calls, Once}
use Rattle.ms_words.specs.Table.{option_word, options_of, most_files}
use Rattle.ms_words.specs.Reading.{option_eq}

pub option_self : (o : OptionName) → option_eq o o ≡ true
option_self o = (bytes_eq-Decides (option_word o) (option_word o)).1 refl

-- options of one word are the same
pub same_option : (a b : OptionName) → option_eq a b ≡ true → a ≡ b
same_option Input Input same = refl
same_option Fill Fill same = refl
same_option Steps Steps same = refl
same_option Reports Reports same = refl
same_option Schedule Schedule same = refl
same_option Schedules Schedules same = refl
same_option Workers Workers same = refl
same_option Seed Seed same = refl
same_option Functions Functions same = refl
same_option Run Run same = refl
same_option Where Where same = refl
same_option Calls Calls same = refl
same_option Once Once same = refl
same_option a b same = absurd (true≢false (sym same))

pub few_options : (c : CommandName) → length (options_of c) ≤ 100
few_options Instrument = omega arith
few_options name.Run = omega arith
few_options Check = omega arith
few_options Explain = omega arith
few_options Corpus = omega arith
few_options Gen = omega arith

pub few_files : (c : CommandName) → most_files c ≤ 257
few_files Instrument = omega arith
few_files name.Run = omega arith
few_files Check = omega arith
few_files Explain = omega arith
few_files Corpus = omega arith
few_files Gen = omega arith
