-- Entities, and whole modules (LLVM Language Reference, "Module Structure").
use Rattle.std.specs.Prelude.{ℕ, ◌+◌, nat_lt, Bool, true, false, ◌||◌, cond, if◌then◌else◌, List, [], ◌∷◌, ◌++◌, length, Ok, Err}
use Rattle.ms_lex.specs.Numbers.{decimal}
use Rattle.ms_lex.specs.Grammar.{give, one, look, loop, ◌>>=◌, ◌>>◌}
use Rattle.ms_ir.specs.declared.syntax.Name.{Name}
use Rattle.ms_ir.specs.declared.syntax.Name.TheVariants as name
use Rattle.ms_ir.specs.declared.syntax.Ty.{Ty}
use Rattle.ms_ir.specs.declared.syntax.Block.{Block}
use Rattle.ms_ir.specs.declared.syntax.Func.{Func}
use Rattle.ms_ir.specs.declared.syntax.Decl.{Decl}
use Rattle.ms_ir.specs.declared.syntax.GlobalVar.{GlobalVar}
use Rattle.ms_ir.specs.declared.syntax.Module.{Module}
use Rattle.ms_ir.specs.declared.forms.Form.{Form}
use Rattle.ms_text_grammar.specs.declared.symbols.Symbol.{Symbol}
use Rattle.ms_text_grammar.specs.declared.symbols.Symbol.TheVariants as s
use Rattle.ms_text_grammar.specs.declared.refusals.Cause.TheVariants as r
use Rattle.ms_text_grammar.specs.declared.refusals.Limit.TheVariants as limit
use Rattle.ms_text_grammar.specs.declared.refusals.Outside.TheVariants as outside
use Rattle.ms_text_grammar.specs.declared.states.ModuleSoFar.{ModuleSoFar}
use Rattle.ms_text_grammar.specs.Lexemes.{Lexeme, is, name_in}
use Rattle.ms_text_grammar.specs.Steps.{Rule, Verdict, refusal, judge_map, next_symbol, skip, sees, word, comma_begins}
use Rattle.ms_text_grammar.specs.Names.{reserved_global, name_fits, local_by}
use Rattle.ms_text_grammar.specs.Types.{type_to, struct_type, max_depth}
use Rattle.ms_text_grammar.specs.Values.{init_to}
use Rattle.ms_text_grammar.specs.Skipped.{balanced, is_attribute_word, kind_of, meta}
use Rattle.ms_text_grammar.specs.Functions.{declaration, function}

-- ---- what adds nothing to the module

-- '=' string
unfoldable pub source_filename : Rule (Unit {0})
source_filename = word s.Equals >> word s.Str

-- what of the target is said
abbrev pub target_word_of : Lexeme → Verdict (Unit {0})
target_word_of t = if is s.DataLayout t || is s.Triple t then Ok tt else Err (refusal t)

-- ('datalayout' | 'triple') '=' string
unfoldable pub target_entity : Rule (Unit {0})
target_entity = do
  one target_word_of
  word s.Equals
  word s.Str

-- any group
abbrev pub group_of : Lexeme → Verdict (Unit {0})
group_of t = if is s.Group t || is s.DebugGroup t then Ok tt else Err (refusal t)

-- group '=' '{' balanced '}'
unfoldable pub attribute_group : Form → Rule (Unit {0})
attribute_group form = do
  one group_of
  word s.Equals
  word s.OpenBrace
  balanced form s.CloseBrace

-- '!' '{' balanced '}', or metadata '(' balanced ')'
abbrev pub node_by : Form → Symbol → Rule (Unit {0})
node_by form s.Bang = skip >> (word s.OpenBrace >> balanced form s.CloseBrace)
node_by form symbol = meta >> (word s.OpenParen >> balanced form s.CloseParen)

-- after a name of metadata
unfoldable pub metadata_entity : Form → Rule (Unit {0})
metadata_entity form = do
  word s.Equals
  distinct ← sees s.Distinct
  cond distinct skip (give tt)
  symbol ← next_symbol
  node_by form symbol

-- ---- named types

-- after its name
unfoldable pub named_type : Form → Name → Rule (Name × Ty)
named_type form n = do
  word s.Equals
  word s.TypeWord
  t ← struct_type form
  give (n, t)

-- ---- globals

-- words in front of 'global' or 'constant'
abbrev pub linkage_word_begins : Unit {0} → Lexeme → Verdict Bool
linkage_word_begins u t = Ok (is_attribute_word t.symbol)

-- `global` or `constant`; a global of another module has no place here
abbrev pub global_kind_by : Symbol → Lexeme → Verdict Bool
global_kind_by s.GlobalWord t = Ok false
global_kind_by s.ConstantWord t = Ok true
global_kind_by s.ExternalWord t = Err (r.Outside outside.ExternalGlobal)
global_kind_by symbol t = Err (refusal t)

-- whether the global is constant
abbrev pub global_kind_of : Lexeme → Verdict Bool
global_kind_of t = global_kind_by t.symbol t

-- 'align' number, 'section' string, or attached metadata
abbrev pub global_suffix_by : Form → Symbol → Rule (Unit {0})
global_suffix_by form s.Align = skip >> word s.Number
global_suffix_by form s.Section = skip >> word s.Str
global_suffix_by form symbol = one (kind_of form) >> meta

-- after its comma
unfoldable pub global_suffix : Form → Rule (Unit {0})
global_suffix form = next_symbol >>= global_suffix_by form

-- after its name
unfoldable pub global_variable : Form → Name → Rule GlobalVar
global_variable form n = do
  word s.Equals
  loop linkage_word_begins (λ u t. give tt) tt
  constant ← one global_kind_of
  t ← type_to form max_depth
  i ← init_to form max_depth t
  loop (comma_begins (λ u. true)) (λ u comma. global_suffix form) tt
  give (record { name = n; constant = constant; ty = t; init = i })

-- ---- entities

-- functions and declarations together, and globals
abbrev pub max_functions : ℕ
max_functions = 16384

-- globals of a module
abbrev pub max_globals : ℕ
max_globals = 16384

-- room for one more
abbrev pub room_for_function : Module → Verdict Bool
room_for_function m = if nat_lt (length m.funcs + length m.decls) max_functions then Ok true else Err (r.Limit limit.Functions)

-- a global's name isn't reserved, and then there is room for it, and then it is short enough
abbrev pub global_begins : Form → Module → Lexeme → Verdict Bool
global_begins form m t =
    if reserved_global form (name_in t) then Err r.Reserved
    else if nat_lt (length m.globals) max_globals then (if name_fits (name_in t) then Ok true else Err (r.Limit limit.Name))
    else Err (r.Limit limit.Globals)

-- the tokens that begin an entity, and what refuses them there
abbrev pub entity_begins_by : Form → Module → Symbol → Lexeme → Verdict Bool
entity_begins_by form m s.SourceFilename t = Ok true
entity_begins_by form m s.Target t = Ok true
entity_begins_by form m s.Attributes t = Ok true
entity_begins_by form m s.Meta t = Ok true
entity_begins_by form m s.NoSanitize t = Ok true
entity_begins_by form m s.Local t = judge_map (λ n. true) (local_by form s.Local t)
entity_begins_by form m s.NumberedLocal t = judge_map (λ n. true) (local_by form s.NumberedLocal t)
entity_begins_by form m s.Global t = global_begins form m t
entity_begins_by form m s.Declare t = room_for_function m
entity_begins_by form m s.Define t = room_for_function m
entity_begins_by form m symbol t = Ok false

-- whether an entity begins with this token
unfoldable pub entity_begins : Form → ModuleSoFar → Lexeme → Verdict Bool
entity_begins form parts t = entity_begins_by form parts.«module» t.symbol t

-- the instructions of a list of blocks
abbrev pub instructions_of : List Block → ℕ
instructions_of [] = 0
instructions_of (b ∷ rest) = length b.insts + instructions_of rest

-- one named type more
abbrev pub with_type : ModuleSoFar → Name × Ty → ModuleSoFar
with_type parts t = record parts { «module» = record parts.«module» { types = parts.«module».types ++ t ∷ [] } }

-- one global more
abbrev pub with_global : ModuleSoFar → GlobalVar → ModuleSoFar
with_global parts g = record parts { «module» = record parts.«module» { globals = parts.«module».globals ++ g ∷ [] } }

-- one declaration more
abbrev pub with_declaration : ModuleSoFar → Decl → ModuleSoFar
with_declaration parts d = record parts { «module» = record parts.«module» { decls = parts.«module».decls ++ d ∷ [] } }

-- one function more, with its instructions
abbrev pub with_function : ModuleSoFar → Func → ModuleSoFar
with_function parts f = record { «module» = record parts.«module» { funcs = parts.«module».funcs ++ f ∷ [] }; count = parts.count + instructions_of f.blocks }

-- after its first token
abbrev pub entity_by : Form → ModuleSoFar → Symbol → Lexeme → Rule ModuleSoFar
entity_by form parts s.SourceFilename t = source_filename >> give parts
entity_by form parts s.Target t = target_entity >> give parts
entity_by form parts s.Attributes t = attribute_group form >> give parts
entity_by form parts s.Local t = named_type form (name.Text (name_in t)) >>= λ x. give (with_type parts x)
entity_by form parts s.NumberedLocal t = named_type form (name.Number (decimal (name_in t))) >>= λ x. give (with_type parts x)
entity_by form parts s.Global t = global_variable form (name.Text (name_in t)) >>= λ g. give (with_global parts g)
entity_by form parts s.Declare t = declaration form >>= λ d. give (with_declaration parts d)
entity_by form parts s.Define t = function form parts.count >>= λ f. give (with_function parts f)
entity_by form parts symbol t = metadata_entity form >> give parts

-- an entity after its first token
unfoldable pub entity : Form → ModuleSoFar → Lexeme → Rule ModuleSoFar
entity form parts t = entity_by form parts t.symbol t

-- ---- modules

-- before the first entity
abbrev pub no_parts : ModuleSoFar
no_parts = record { «module» = record { types = []; globals = []; decls = []; funcs = [] }; count = 0 }

-- the end of the text, and nothing else
abbrev pub end_of : Lexeme → Verdict (Unit {0})
end_of t = if is s.EndOfText t then Ok tt else Err (refusal t)

-- entities up to the end of the text
unfoldable pub module_rule : Form → Rule Module
module_rule form = do
  parts ← loop (entity_begins form) (entity form) no_parts
  look end_of
  give parts.«module»
