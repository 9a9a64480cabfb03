-- Which instruction has a site, and which mark is told of it.
use Rattle.std.specs.Prelude.{◌≡◌, ℕ, ◌-◌, List, filter, Some, slice_get}
use Rattle.ms_ir.specs.declared.forms.Form.{Form}
use Rattle.ms_ir.specs.declared.syntax.Inst.{Inst}
use Rattle.ms_ir.specs.declared.syntax.Module.{Module}
use Rattle.ms_ir.specs.Instructions.{site_at, is_unmarked}
use Rattle.ms_text_grammar.specs.Lexemes.{Lexeme}
use Rattle.ms_where_places.specs.declared.marks.Mark.{Mark}
use Rattle.ms_where_places.specs.Instructions.{IsLineOf, module_insts}
use Rattle.ms_where.specs.Sites.{site_places}

-- the unmarked instruction p of block b of function f has the site whose number is its own among the unmarked ones of the module in
-- written order, counted from 1
abbrev pub IsNumbered : Module → (f b p : ℕ) → Inst → Type 0
IsNumbered m f b p inst = slice_get (filter is_unmarked (module_insts m)) (site_at m f b p - 1) ≡ Some inst

-- the mark that is told of a site is the line of an instruction
pub record IsToldOf (form : Form) (all : List Lexeme) (m : Module) (marks : List Mark) (site : ℕ) (inst : Inst) : Type 0 where
  pub place : ℕ
  pub mark : Mark
  pub told : slice_get (site_places m marks) (site - 1) ≡ Some place
  pub stands : slice_get marks place ≡ Some mark
  pub line : IsLineOf form all mark inst
