-- How entities are written, and whole modules: named types, globals, declarations and functions (LLVM Language Reference,
-- "Module Structure"; own: the order of the kinds).
use Rattle.std.specs.Prelude.{Bool, true, false, ◌&&◌, List, [], ◌∷◌, ◌++◌, codes, map, flat_map}
use Rattle.std.specs.List.{list_any}
use Rattle.ms_lex.specs.Tokens.{Text}
use Rattle.ms_ir.specs.declared.syntax.Name.{Name}
use Rattle.ms_ir.specs.declared.syntax.Name.TheVariants as name
use Rattle.ms_ir.specs.declared.syntax.Ty.{Ty}
use Rattle.ms_ir.specs.declared.syntax.Block.{Block}
use Rattle.ms_ir.specs.declared.syntax.Func.{Func}
use Rattle.ms_ir.specs.declared.syntax.Decl.{Decl}
use Rattle.ms_ir.specs.declared.syntax.GlobalVar.{GlobalVar}
use Rattle.ms_ir.specs.declared.syntax.Module.{Module}
use Rattle.ms_text_grammar.specs.Lexemes.{Lexeme}
use Rattle.ms_text_grammar.specs.Types.{is_ptr}
use Rattle.ms_text_grammar.specs.Insts.{names_printf, is_i32}
use Rattle.ms_text_grammar.specs.LayoutPieces.{Piece, render, Line, flush, pieces_of, word, sign, meta, three_dots, enclosed}
use Rattle.ms_text_grammar.specs.LayoutNames.{local_token, global_token, label_token}
use Rattle.ms_text_grammar.specs.LayoutTypes.{type_tokens, result_tokens}
use Rattle.ms_text_grammar.specs.LayoutValues.{init_tokens}
use Rattle.ms_text_grammar.specs.LayoutInsts.{inst_line}

-- ---- named types and globals

-- a named type
unfoldable pub type_line : Name × Ty → Line
type_line t = flush (local_token t.0 ∷ sign (codes "=") ∷ word (codes "type") ∷ type_tokens t.1)

-- the word of a global
abbrev pub global_word : Bool → Text
global_word true = codes "constant"
global_word false = codes "global"

-- a global with its initialiser
unfoldable pub global_line : GlobalVar → Line
global_line g = flush (global_token g.name ∷ sign (codes "=") ∷ word (global_word g.constant) ∷ (type_tokens g.ty ++ init_tokens g.ty g.init))

-- ---- declarations

-- one pointer, and no more
abbrev pub is_one_pointer : List Ty → Bool
is_one_pointer [] = false
is_one_pointer (t ∷ []) = is_ptr t
is_one_pointer (t ∷ u ∷ rest) = false

-- a declaration of `printf`, which takes further arguments
unfoldable pub is_dotted : Decl → Bool
is_dotted d = names_printf d.name && is_i32 d.ret && is_one_pointer d.params

-- the dots after the parameters of a declaration, where it has them
abbrev pub dots : Bool → List (List Lexeme)
dots false = []
dots true = (three_dots ∷ []) ∷ []

-- a declaration
unfoldable pub declaration_line : Decl → Line
declaration_line d =
    flush (word (codes "declare") ∷ (result_tokens d.ret ++ global_token d.name ∷ enclosed (codes "(") (codes ")") (map type_tokens d.params ++ dots (is_dotted d))))

-- ---- functions

-- a parameter after its type; its name is always written
abbrev pub parameter_tokens : Ty × Name → List Lexeme
parameter_tokens p = type_tokens p.0 ++ local_token p.1 ∷ []

-- the head of a function
unfoldable pub head_line : Func → Line
head_line f =
    flush (word (codes "define") ∷ (result_tokens f.ret ++ global_token f.name ∷ (enclosed (codes "(") (codes ")") (map parameter_tokens f.params) ++ sign (codes "{") ∷ [])))

-- the label of a block
abbrev pub label_line : Name → Line
label_line x = flush (label_token x ∷ [])

-- the label of the first block, which has none where its name is a number
abbrev pub entry_label : Name → List Line
entry_label (name.Number n) = []
entry_label (name.Text x) = label_line (name.Text x) ∷ []

-- the instructions of a block, one for each line
abbrev pub body_lines : Bool → Block → List Line
body_lines dotted b = map (inst_line dotted) b.insts

-- a block after its label
unfoldable pub block_lines : Bool → Block → List Line
block_lines dotted b = label_line b.name ∷ body_lines dotted b

-- the first block, and those after it
abbrev pub blocks_lines : Bool → List Block → List Line
blocks_lines dotted [] = []
blocks_lines dotted (entry ∷ rest) = entry_label entry.name ++ (body_lines dotted entry ++ flat_map (block_lines dotted) rest)

-- a function
unfoldable pub function_lines : Bool → Func → List Line
function_lines dotted f = head_line f ∷ (blocks_lines dotted f.blocks ++ flush (sign (codes "}") ∷ []) ∷ [])

-- ---- modules

-- whether calls of `printf` are written with dots: such a one is declared
unfoldable pub has_dots : Module → Bool
has_dots m = list_any is_dotted m.decls

-- whether some instruction of a function is marked
abbrev pub has_mark_in : Func → Bool
has_mark_in f = list_any (λ b. list_any (λ inst. inst.marked) b.insts) f.blocks

-- whether some instruction is marked
unfoldable pub has_mark : Module → Bool
has_mark m = list_any has_mark_in m.funcs

-- the lines of a module but that of the mark
unfoldable pub module_lines : Module → List Line
module_lines m =
    map type_line m.types ++ (map global_line m.globals ++ (map declaration_line m.decls ++ flat_map (function_lines (has_dots m)) m.funcs))

-- the last line: the metadata that every mark names, `!0 = !{}`
unfoldable pub mark_pieces : Bool → List Piece
mark_pieces false = []
mark_pieces true =
    record { token = meta (codes "!0"); gap = codes " " } ∷ record { token = sign (codes "="); gap = codes " " } ∷ record { token = sign (codes "!"); gap = [] }
    ∷ record { token = sign (codes "{"); gap = [] } ∷ record { token = sign (codes "}"); gap = codes "\n" } ∷ []

-- the pieces of a module
unfoldable pub module_pieces : Module → List Piece
module_pieces m = pieces_of (module_lines m) ++ mark_pieces (has_mark m)

-- the text of a module
unfoldable pub written : Module → Text
written m = render (module_pieces m)
