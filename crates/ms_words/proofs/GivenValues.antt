-- The value of an option.
use Rattle.std.proofs.Common.{◌≡◌, ◌∙◌, ◌<◌, ℕ, true, List, length, drop, Option, Some, None, option_map, refl, sym, ap, find}
use Rattle.std.specs.List.{slice_index_or}
use Rattle.ms_words.specs.declared.names.OptionName.{OptionName}
use Rattle.ms_words.specs.Table.{Word, default_of}
use Rattle.ms_words.specs.Reading.{Given, option_eq}
use Rattle.ms_words.specs.Words.{or_default, value_of}
use Rattle.ms_words.proofs.Finding.{find_here}

given_first : (d : Option Word) (v : Word) → or_default d (Some v) ≡ Some v
given_first None v = refl
given_first (Some d) v = refl

pub value_here : (o : OptionName) (g : Given) (xs : List (OptionName × Word)) (i : ℕ) (x : OptionName × Word) (v : Word) → g.options ≡ xs → i < length xs
    → x ≡ slice_index_or xs i x → option_eq x.0 o ≡ true → v ≡ x.1
    → find (λ p. option_eq p.0 o) (drop i xs) ≡ find (λ p. option_eq p.0 o) xs → Some v ≡ value_of o g
value_here o g xs i x v are lt at hit is same =
    let here = find_here (λ (p : OptionName × Word). option_eq p.0 o) xs i x lt at hit same in
    ap (λ w. Some w) is ∙ sym (given_first (default_of o) x.1)
    ∙ ap (λ (f : Option (OptionName × Word)). or_default (default_of o) (option_map (λ p. p.1) f)) here
    ∙ ap (λ (ys : List (OptionName × Word)). or_default (default_of o) (option_map (λ p. p.1) (find (λ p. option_eq p.0 o) ys))) (sym are)
