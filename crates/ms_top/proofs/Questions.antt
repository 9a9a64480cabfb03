-- What is said of a question about the program itself, and of a first word that is no command.
use Rattle.std.proofs.Common.{◌≡◌, ℕ, List, ◌∷◌, codes, None, Ok, Err, ap, ◌∙◌, subst, find}
use Rattle.ms_report.specs.WordsTexts.{words_text}
use Rattle.ms_top.specs.declared.output.Output.{Output}
use Rattle.ms_words.specs.declared.commands.Command.TheVariants.{Help, Version}
use Rattle.ms_words.specs.declared.commands.WordsError.TheVariants.{UnknownCommand}
use Rattle.ms_words.specs.Table.{commands, command_word, topics}
use Rattle.ms_words.specs.Reading.{same}
use Rattle.ms_words.specs.Words.{command_of, command_named, asks, asked_or}
use Rattle.ms_top.specs.Files.{Counted}
use Rattle.ms_top.specs.Instrumented.{IsInstrumented}
use Rattle.ms_top.specs.Said.{says, answer_of_help, answer_of_version, IsAnswer, IsAnswerFor, IsAnswerToFiles}

help_of : (c : Counted) (a : Output) → IsAnswerFor IsInstrumented c (Ok Help) a → a ≡ answer_of_help
help_of c a (r, can, is) = subst (λ x. IsAnswerToFiles IsInstrumented Help x a) can is

version_of : (c : Counted) (a : Output) → IsAnswerFor IsInstrumented c (Ok Version) a → a ≡ answer_of_version
version_of c a (r, can, is) = subst (λ x. IsAnswerToFiles IsInstrumented Version x a) can is

pub help_answer : (c : Counted) (words : List (List ℕ)) (a : Output) → command_of words ≡ Ok Help → IsAnswer IsInstrumented c words a → a ≡ answer_of_help
help_answer c words a asks is = help_of c a (subst (λ r. IsAnswerFor IsInstrumented c r a) asks is)

pub version_answer : (c : Counted) (words : List (List ℕ)) (a : Output) → command_of words ≡ Ok Version → IsAnswer IsInstrumented c words a → a ≡ answer_of_version
version_answer c words a asks is = version_of c a (subst (λ r. IsAnswerFor IsInstrumented c r a) asks is)

unknown : (word : List ℕ) (rest : List (List ℕ)) → find (asks word) topics ≡ None → find (λ n. same word (command_word n)) commands ≡ None
    → command_of (word ∷ rest) ≡ Err (UnknownCommand 0)
unknown word rest unasked none = ap (λ t. asked_or t word rest) unasked ∙ ap (λ k. command_named k rest) none

pub unknown_answer : (c : Counted) (word : List ℕ) (rest : List (List ℕ)) (a : Output) → find (asks word) topics ≡ None → find (λ n. same word (command_word n)) commands ≡ None
    → IsAnswer IsInstrumented c (word ∷ rest) a → a ≡ says 2 (words_text (codes "UnknownCommand") 0)
unknown_answer c word rest a unasked none is = subst (λ r. IsAnswerFor IsInstrumented c r a) (unknown word rest unasked none) is
