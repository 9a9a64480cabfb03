-- The name that a token is.
use Rattle.std.specs.Prelude.{ℕ, ◌+◌, ◌-◌, ◌*◌, Bool, ◌&&◌, ◌==◌, if◌then◌else◌, [], ◌∷◌, take, drop, length, slice_range}
use Rattle.std.specs.List.{before_first}
use Rattle.std.specs.Char.{digit_value, is_digit}
use Rattle.ms_lex.specs.declared.kinds.Kind.{Kind}
use Rattle.ms_lex.specs.declared.kinds.Kind.TheVariants.{Label, CText, Str, Number, Word, Other, Local, Meta, Group, Punct}
use Rattle.ms_lex.specs.declared.kinds.Kind.TheVariants as kinds
use Rattle.ms_lex.specs.declared.kinds.Token.{Token}
use Rattle.ms_lex.specs.Tokens.{Text, is_quote}

-- the bytes of the text that a token takes
abbrev pub spelling_of : Text → Token → Text
spelling_of text token = slice_range text token.start token.end

-- the run or the string that a token of this kind holds: without what is in front of it, and without the colon after it
abbrev pub name_part : Kind → Text → Text
name_part Label spelling = take (length spelling - 1) spelling
name_part CText spelling = drop 1 spelling
name_part kinds.Global spelling = drop 1 spelling
name_part Local spelling = drop 1 spelling
name_part Meta spelling = drop 1 spelling
name_part Group spelling = drop 1 spelling
name_part Str spelling = spelling
name_part Number spelling = spelling
name_part Word spelling = spelling
name_part Other spelling = spelling
name_part Punct spelling = spelling

abbrev pub is_backslash : ℕ → Bool
is_backslash b = b == 92

-- The bytes that a string's bytes stand for, read from left to right: two backslashes for one backslash, a backslash and two hexadecimal
-- digits for the byte that the digits name, and any other byte for itself, a backslash too.
abbrev pub unescaped : Text → Text
unescaped [] = []
unescaped (a ∷ []) = a ∷ []
unescaped (a ∷ b ∷ []) = if is_backslash a && is_backslash b then 92 ∷ [] else a ∷ unescaped (b ∷ [])
unescaped (a ∷ b ∷ c ∷ rest) =
    if is_backslash a && is_backslash b then 92 ∷ unescaped (c ∷ rest)
    else if is_backslash a && is_digit b 16 && is_digit c 16 then (16 * digit_value b + digit_value c) ∷ unescaped rest
    else a ∷ unescaped (b ∷ c ∷ rest)

-- a run stands for itself, and a string for what is between its quotes
abbrev pub decoded : Text → Text
decoded [] = []
decoded (b ∷ rest) = if is_quote b then unescaped (before_first is_quote rest) else b ∷ rest

unfoldable pub name_of : Text → Token → Text
name_of text token = decoded (name_part token.kind (spelling_of text token))
