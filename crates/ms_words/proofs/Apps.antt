-- The command of `clap`, built option by option.
use Rattle.std.proofs.Common.{◌≡◌, ◌∙◌, ◌<◌, ◌≤◌, ◌+◌, add-one, ℕ, suc, true, List, length, get_or, drop, refl, sym, ap, ap₂, drop-cons, drop_of_length-le}
use Rattle.clap.specs.Words.{rows_of, found_of, matches_of, HasMatchesOf, App, Rule, Text, is_simple, new_app, with_rule}
use Rattle.clap.specs.declared.parser.matches.ArgMatches.{ArgMatches}
use Rattle.ms_words.specs.declared.names.CommandName.{CommandName}
use Rattle.ms_words.specs.declared.names.CommandName.TheVariants.{Instrument, Run, Check, Explain, Corpus, Gen}
use Rattle.ms_words.specs.declared.names.OptionName.{OptionName}
use Rattle.ms_words.specs.Table.{command_word, options_of}
use Rattle.ms_words.specs.ClapForm.{option_rule, files_rule, with_options, app_for}

pub options_passed : (a b whole : App) (os : List OptionName) (i : ℕ) (d : OptionName) (r : Rule) → i < length os
    → b ≡ with_rule a r → r ≡ option_rule (get_or os i d) → with_options a (drop i os) ≡ whole → with_options b (drop (i + 1) os) ≡ whole
options_passed a b whole os i d r lt more is so_far =
    ap (λ n. with_options b (drop n os)) (add-one i) ∙ ap (λ x. with_options x (drop (suc i) os)) (more ∙ ap (with_rule a) is) ∙ sym (ap (with_options a) (drop-cons os i d lt)) ∙ so_far

pub options_ended : (c : CommandName) (a b : App) (os : List OptionName) (i : ℕ) (r : Rule) → length os ≤ i → os ≡ options_of c
    → with_options a (drop i os) ≡ with_options (new_app (command_word c)) os → b ≡ with_rule a r → r ≡ files_rule → b ≡ app_for c
options_ended c a b os i r past are so_far more is =
    let built = sym (ap (with_options a) (drop_of_length-le os past)) ∙ so_far ∙ ap (with_options (new_app (command_word c))) are in
    more ∙ ap₂ with_rule built is

simple : (c : CommandName) → is_simple (app_for c) ≡ true
simple Instrument = refl
simple Run = refl
simple Check = refl
simple Explain = refl
simple Corpus = refl
simple Gen = refl

pub matches_at : (c : CommandName) (a : App) (words : List Text) (m : ArgMatches) → a ≡ app_for c → HasMatchesOf a words m
    → rows_of (found_of m) ≡ matches_of (app_for c) words
matches_at c a words m is has = (has (ap is_simple is ∙ simple c)).0 ∙ ap (λ x. matches_of x words) is
