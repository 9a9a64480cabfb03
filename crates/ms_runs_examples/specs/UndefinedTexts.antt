-- A text of an example module.
use Rattle.std.specs.Prelude.{◌∷◌, [], codes}
use Rattle.ms_lex.specs.Tokens.{Text}
use Rattle.ms_runs_examples.specs.Texts.{lines}

-- a value is defined on one of two paths to its use
abbrev pub undefined_on_a_path_text : Text
undefined_on_a_path_text =
    lines (
    codes "define i32 @main() {"
    ∷ codes "  %1 = call i32 @getchar()"
    ∷ codes "  %2 = icmp eq i32 %1, 0"
    ∷ codes "  br i1 %2, label %3, label %5"
    ∷ codes "3:"
    ∷ codes "  %4 = add i32 %1, 1"
    ∷ codes "  br label %5"
    ∷ codes "5:"
    ∷ codes "  ret i32 %4"
    ∷ codes "}"
    ∷ codes "declare i32 @getchar()"
    ∷ [])
