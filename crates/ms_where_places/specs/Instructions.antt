-- Which instruction of a module each instruction that is marked in its text is.
use Rattle.std.specs.Prelude.{◌≡◌, ℕ, Bool, true, false, List, [], ◌∷◌, ◌++◌, drop, filter, flat_map, length}
use Rattle.ms_lex.specs.Grammar.{tail}
use Rattle.ms_ir.specs.declared.syntax.Inst.{Inst}
use Rattle.ms_ir.specs.declared.syntax.Module.{Module}
use Rattle.ms_ir.specs.declared.forms.Form.{Form}
use Rattle.ms_ir.specs.Locals.{func_insts}
use Rattle.ms_text_grammar.specs.declared.states.BodySoFar.{BodySoFar}
use Rattle.ms_text_grammar.specs.Lexemes.{Lexeme}
use Rattle.ms_text_grammar.specs.Lines.{line}
use Rattle.ms_text_grammar.specs.Texts.{ReadsUpTo}
use Rattle.ms_read_cursor.specs.Reading.{front}
use Rattle.ms_where_places.specs.declared.marks.MarkKind.{MarkKind}
use Rattle.ms_where_places.specs.declared.marks.MarkKind.TheVariants as k
use Rattle.ms_where_places.specs.declared.marks.Mark.{Mark}

abbrev pub is_instruction : MarkKind → Bool
is_instruction k.Instruction = true
is_instruction kind = false

-- the marks of instructions, in their order
abbrev pub instruction_marks : List Mark → List Mark
instruction_marks found = filter (λ mark. is_instruction mark.kind) found

-- how many they are
abbrev pub instructions_in : List Mark → ℕ
instructions_in found = length (instruction_marks found)

-- the instructions of a module in written order, function by function and block by block
abbrev pub module_insts : Module → List Inst
module_insts m = flat_map func_insts m.funcs

-- the instructions of a body in written order: those of the blocks that have ended, and those of the open one
abbrev pub body_insts : BodySoFar → List Inst
body_insts b = flat_map (λ block. block.insts) b.blocks ++ b.insts

-- The tokens of a mark are one line of the grammar, from its first token up to its end, and what the line adds to the body in
-- which it stands is this instruction.
pub record IsLineOf (form : Form) (all : List Lexeme) (mark : Mark) (inst : Inst) : Type 0 where
  pub before : BodySoFar
  pub after : BodySoFar
  pub reads : ReadsUpTo (line form before (front (drop mark.first all))) (tail (drop mark.first all)) after (drop mark.after all)
  pub adds : body_insts after ≡ body_insts before ++ inst ∷ []
