-- Parts of entities after what was read of them.
use Rattle.ms_lex.specs.Grammar.{give, look, ◌>>=◌, ◌>>◌}
use Rattle.ms_ir.specs.declared.syntax.Module.{Module}
use Rattle.ms_ir.specs.declared.syntax.Name.{Name}
use Rattle.ms_ir.specs.declared.syntax.Ty.{Ty}
use Rattle.ms_ir.specs.declared.forms.Form.{Form}
use Rattle.ms_text_grammar.specs.declared.states.ModuleSoFar.{ModuleSoFar}
use Rattle.ms_text_grammar.specs.declared.symbols.Symbol.{Symbol}
use Rattle.ms_text_grammar.specs.declared.symbols.Symbol.TheVariants as s
use Rattle.ms_text_grammar.specs.Modules.{attribute_group, end_of, source_filename, target_entity}
use Rattle.ms_text_grammar.specs.Steps.{Rule}
use Rattle.ms_text_grammar.specs.Types.{struct_type}

-- a named type after `type`
abbrev pub named_struct : Form → Name → Rule (Name × Ty)
named_struct form n = struct_type form >>= λ t. give (n, t)

-- what says nothing of a module's values, after its word: its source, its target or a group of attributes
abbrev pub heading : Form → Symbol → Rule (Unit {0})
heading form s.SourceFilename = source_filename
heading form s.Target = target_entity
heading form symbol = attribute_group form

-- the module of these parts, at the end of the text
abbrev pub ended : ModuleSoFar → Rule Module
ended parts = look end_of >> give parts.«module»
