-- Small modules that the examples read.
use Rattle.std.specs.Prelude.{ℕ, zero, suc, Bool, List, [], ◌∷◌, Some, None, false, codes}
use Rattle.ms_lex.specs.Tokens.{Text}
use Rattle.ms_ir.specs.declared.syntax.Block.{Block}
use Rattle.ms_ir.specs.declared.syntax.GlobalVar.{GlobalVar}
use Rattle.ms_ir.specs.declared.syntax.Init.{Init}
use Rattle.ms_ir.specs.declared.syntax.Init as init
use Rattle.ms_ir.specs.declared.syntax.Inst.{Inst}
use Rattle.ms_ir.specs.declared.syntax.Module.{Module}
use Rattle.ms_ir.specs.declared.syntax.Name.{Name}
use Rattle.ms_ir.specs.declared.syntax.Name.TheVariants as name
use Rattle.ms_ir.specs.declared.syntax.Op.{Op}
use Rattle.ms_ir.specs.declared.syntax.Op.TheVariants as op
use Rattle.ms_ir.specs.declared.syntax.Ty.{Ty}
use Rattle.ms_ir.specs.Builders.{i8, i32, alloca, block, does, module_of}
use Rattle.ms_text_grammar.specs.declared.states.ModuleSoFar.{ModuleSoFar}

-- so many of the same
abbrev pub copies : {A : Type 0} → ℕ → A → List A
copies zero a = []
copies (suc n) a = a ∷ copies n a

-- the function `f` without a result
abbrev pub blocks_of : List Block → Module
blocks_of all = module_of (record { name = name.Text (codes "f"); ret = None; params = []; blocks = all } ∷ []) []

-- the same, of one block
abbrev pub function_of : List Inst → Module
function_of insts = blocks_of (block 0 insts ∷ [])

-- a block that has a name
abbrev pub named_block : Text → List Inst → Block
named_block x insts = record { name = name.Text x; insts = insts }

-- a return without a value
abbrev pub returns : Inst
returns = does (op.Ret None)

-- one instruction with a result, and a return
abbrev pub line_with : Name → Bool → Op → Module
line_with result marked o = function_of (record { op = o; result = Some result; marked = marked } ∷ does (op.Ret None) ∷ [])

-- an unmarked instruction with a result, and a return
abbrev pub line_module : Name → Op → Module
line_module result = line_with result false

-- room for a word, with or without the mark
abbrev pub marked_alloca : Name → Bool → Module
marked_alloca result marked = line_with result marked (alloca i32)

-- a global variable
abbrev pub variable : Text → Bool → Ty → Init → GlobalVar
variable x constant type i = record { name = name.Text x; constant = constant; ty = type; init = i }

-- one global
abbrev pub global_of : Text → Bool → Ty → Init → Module
global_of x constant type i = record { types = []; globals = variable x constant type i ∷ []; decls = []; funcs = [] }

-- ---- Entities so far, with so many of one kind

-- declarations
abbrev pub with_declarations : ℕ → ModuleSoFar
with_declarations n =
    record { «module» = module_of [] (copies n (record { name = name.Text (codes "f"); ret = None; params = [] })); count = 0 }

-- globals
abbrev pub with_globals : ℕ → ModuleSoFar
with_globals n =
    record { «module» = record { types = []; globals = copies n (variable (codes "g") false i8 init.Zero); decls = []; funcs = [] }; count = 0 }
