-- What stands under each line of an answer that names a site.
use Rattle.std.specs.Prelude.{◌≡◌, List, ◌++◌, Option, Some, None}
use Rattle.ms_ir.specs.declared.forms.Form.{Form}
use Rattle.ms_ir.specs.declared.syntax.Module.{Module}
use Rattle.ms_lex.specs.declared.kinds.Token.{Token}
use Rattle.ms_lex.specs.Tokens.{Text}
use Rattle.ms_text_grammar.specs.Texts.{HasTokens}
use Rattle.ms_where_places.specs.declared.marks.Mark.{Mark}
use Rattle.ms_where_places.specs.Marks.{AreMarks}
use Rattle.ms_where.specs.Lines.{lines_of_site}
use Rattle.ms_check_valid.specs.Refusals.{Fault}
use Rattle.ms_report.specs.FaultTexts.{fault_text}
use Rattle.ms_report.specs.WithLines.{Lines, no_lines, under_line, fault_site}
use Rattle.ms_words.specs.declared.commands.Command.{Command}
use Rattle.ms_top.specs.Command.{form_of, located_file}

-- The lines under each site of the module that a text reads as. Where the file of the text is named they show where the site
-- stands in the text, by its tokens and what these are, and in the source; else there are none.
abbrev pub AreLinesIn : (file : Option Text) → Form → Text → Module → Lines → Type 0
AreLinesIn None form text m under = under ≡ no_lines
AreLinesIn (Some file) form text m under =
    (tokens : List Token) × HasTokens form text tokens × (marks : List Mark) × AreMarks form text tokens marks
    × (under ≡ lines_of_site file (record { text = text; tokens = tokens; marks = marks }) m)

-- those that a command on a text asks for
abbrev pub AreLines : Command → Text → Module → Lines → Type 0
AreLines command text m under = AreLinesIn (located_file command) (form_of command) text m under

-- why a module isn't valid, with the lines under the site that it names
abbrev pub fault_text_with : Lines → Fault → Text
fault_text_with under fault = fault_text fault ++ under_line under (fault_site (Some fault))
