-- Frames, jumps, calls and returns, for words of any kind V: a plain run's words are numbers (LLVM Language Reference,
-- "'phi' Instruction", "'br' Instruction", "'switch' Instruction", "'call' Instruction" and "'ret' Instruction"; own:
-- the limit of frames).
use Rattle.std.specs.Prelude.{ℕ, suc, ◌+◌, List, [], ◌∷◌, ◌++◌, length, drop, get_or, filter, eqb, leb, if◌then◌else◌, Option, Some, None, unwrap_or, option_map, option_and_then, slice_get}
use Rattle.ms_bits.specs.declared.traps.Trap.TheVariants as trap
use Rattle.ms_ir.specs.declared.syntax.Name.{Name}
use Rattle.ms_ir.specs.declared.syntax.Name.TheVariants.{Number}
use Rattle.ms_ir.specs.declared.syntax.Ty.{Ty}
use Rattle.ms_ir.specs.declared.syntax.Operand.{Operand}
use Rattle.ms_ir.specs.declared.syntax.Op.{Op}
use Rattle.ms_ir.specs.declared.syntax.Op.TheVariants as op
use Rattle.ms_ir.specs.declared.syntax.Inst.{Inst}
use Rattle.ms_ir.specs.declared.syntax.Module.{Module}
use Rattle.ms_runs.specs.declared.runs.End.{End}
use Rattle.ms_runs.specs.declared.runs.End.TheVariants as «end»
use Rattle.ms_ir.specs.Names.{main_name, name_eq}
use Rattle.ms_ir.specs.Areas.{Stack}
use Rattle.ms_runs.specs.World.{World, Setting, Here, Effect, Gives, Does, Goes, Enters, Leaves, Ends, stuck}
use Rattle.ms_runs.specs.Memory.{keeps, next_base, end_blocks}
use Rattle.ms_ir.specs.Instructions.{one_undef, func_at, blocks_at, insts_at, block_index, site_at, root_at, roots_in}

-- a call that stands: the function, block and instruction that is due, each counted from 0, what its results are so
-- far, where its part of the stack begins, which is 0 in a fiber beside `main`'s, and the heap blocks of its own there
pub record Frame (V : Type 0) : Type 0 where
  pub func : ℕ
  pub block : ℕ
  pub place : ℕ
  pub values : Name → V
  pub mark : ℕ
  pub heap : List ℕ

-- how words are read: an operand, given the number of roots before it, and what an unset result reads as
pub record Reading (V : Type 0) : Type 0 where
  pub read : Setting → (Name → V) → (root : ℕ) → Ty → Operand → V
  pub unset : V

-- the frames, innermost first, and the world after an instruction, or the end of the run
pub data Outcome (V : Type 0) : Type 0 where
  On : List (Frame V) → World → Outcome V
  Over : End → World → Outcome V

-- the name of the function at a place
abbrev pub func_name : Module → ℕ → Name
func_name m f = unwrap_or (option_map (λ g. g.name) (func_at m f)) (Number 0)

-- where a frame's instruction stands
abbrev pub here : {V : Type 0} → Setting → Module → Frame V → Here
here setting m frame = record {
  site = site_at m frame.func frame.block frame.place;
  root = root_at setting.func m frame.func frame.block frame.place;
  main = name_eq (func_name m frame.func) main_name;
}

-- the instructions from a frame's place on, to the end of its block
abbrev pub rest_of : {V : Type 0} → Module → Frame V → List Inst
rest_of m frame = drop frame.place (insts_at m frame.func frame.block)

-- the words of operands, which are read with the number of roots before each
abbrev pub read_all : {V : Type 0} → (ℕ → Ty → Operand → V) → List (Ty × Operand) → ℕ → List V
read_all read [] n = []
read_all read (o ∷ os) n = read n o.0 o.1 ∷ read_all read os (n + one_undef o.1)

-- results of which one is set anew
abbrev pub with_value : {V : Type 0} → (Name → V) → Name → V → (Name → V)
with_value values x v = λ y. if name_eq y x then v else values y

-- a frame, one instruction on
abbrev pub one_on : {V : Type 0} → Frame V → Frame V
one_on frame = record frame { place = frame.place + 1 }

-- a frame, one instruction on, with its result, if it has a name
abbrev pub put : {V : Type 0} → Frame V → Option Name → V → Frame V
put frame None v = one_on frame
put frame (Some x) v = record frame { place = frame.place + 1; values = with_value frame.values x v }

-- a phi's word: the first operand that names the block from which a jump comes, read with its own root
abbrev pub read_edge : {V : Type 0} → (ℕ → Ty → Operand → V) → V → Ty → Name → List (Operand × Name) → ℕ → V
read_edge read unset t from [] n = unset
read_edge read unset t from (e ∷ es) n = if name_eq e.1 from then read n t e.0 else read_edge read unset t from es (n + one_undef e.0)

-- the results of a block's leading phis, marked and unmarked, which all read the results before the jump
abbrev pub phis : {V : Type 0} → (ℕ → Ty → Operand → V) → V → (Name → Option ℕ) → Name → List Inst → ℕ → (Name → V) → (Name → V)
phis read unset func from [] n values = values
phis read unset func from (inst ∷ insts) n values =
    elim inst.op [
      | op.Phi t edges ↦
          phis read unset func from insts (n + roots_in func inst)
          (with_value values (unwrap_or inst.result (Number 0)) (read_edge read unset t from edges n))
      | _ ↦ values
    ]

-- the number of leading phis
abbrev pub count_phis : List Inst → ℕ
count_phis [] = 0
count_phis (inst ∷ insts) = elim inst.op [ op.Phi t edges ↦ suc (count_phis insts) | _ ↦ 0 ]

-- the name of block b of function f
abbrev pub block_name : Module → ℕ → ℕ → Name
block_name m f b = unwrap_or (option_map (λ k. k.name) (slice_get (blocks_at m f) b)) (Number 0)

-- a jump: the frame stands after the phis of the block with a name, which have their results
abbrev pub jumped : {V : Type 0} → Reading V → Setting → Module → Name → Frame V → Frame V
jumped reading setting m to frame =
    let b = block_index (blocks_at m frame.func) to in
    let insts = insts_at m frame.func b in
    record frame {
      block = b;
      place = count_phis insts;
      values =
          phis (reading.read setting frame.values) reading.unset setting.func (block_name m frame.func frame.block) insts
          (root_at setting.func m frame.func b 0) frame.values;
    }

-- the parameters of a function are the words of a call, and nothing else is set
abbrev pub bind : {V : Type 0} → V → List (Ty × Name) → List V → (Name → V)
bind unset [] words = λ x. unset
bind unset (p ∷ ps) [] = λ x. unset
bind unset (p ∷ ps) (v ∷ words) = with_value (bind unset ps words) p.1 v

-- the parameters of the function at a place
abbrev pub params_at : Module → ℕ → List (Ty × Name)
params_at m f = unwrap_or (option_map (λ g. g.params) (func_at m f)) []

-- where a new frame's part of the stack begins: where the next allocation would; 0 in a fiber beside `main`'s
abbrev pub entry_mark : World → ℕ
entry_mark world = if eqb world.turn 0 then next_base Stack world else 0

-- a call's new frame, at the beginning of its function
abbrev pub entered : {V : Type 0} → Reading V → Module → ℕ → List V → World → Frame V
entered reading m f words world = record {
  func = f;
  block = 0;
  place = 0;
  values = bind reading.unset (params_at m f) words;
  mark = entry_mark world;
  heap = [];
}

-- the name of the result of the instruction at which a frame stands, if it has one
abbrev pub result_at : {V : Type 0} → Module → Frame V → Option Name
result_at m frame = option_and_then (λ inst. inst.result) (slice_get (insts_at m frame.func frame.block) frame.place)

-- the stack's allocations from an address on are taken back
abbrev pub release : ℕ → World → World
release mark world = record world { allocs = filter (keeps mark) world.allocs }

-- what a frame has of the stack and of the heap is taken back
abbrev pub given_back : {V : Type 0} → Frame V → World → World
given_back frame world = end_blocks frame.heap (if eqb frame.mark 0 then world else release frame.mark world)

-- the heap block that an 'alloca' makes in a fiber beside `main`'s
abbrev pub local_block : Op → ℕ → List ℕ
local_block (op.Alloca t u count) v = v ∷ []
local_block o v = []

abbrev pub blocks_made : Op → Effect → List ℕ
blocks_made o (Gives v world) = if eqb world.turn 0 then [] else local_block o v
blocks_made o (Does world) = []
blocks_made o (Goes to world) = []
blocks_made o (Enters f world) = []
blocks_made o (Leaves world) = []
blocks_made o (Ends e world) = []

-- a frame has the heap blocks that an instruction made for it
abbrev pub keeping : {V : Type 0} → Op → Effect → Frame V → Frame V
keeping o effect frame = record frame { heap = blocks_made o effect ++ frame.heap }

-- a return: the caller goes on after its call, whose result is the word returned
abbrev pub left : {V : Type 0} → Reading V → Module → List V → Frame V → List (Frame V) → World → Outcome V
left reading m words frame [] world = Over stuck world
left reading m words frame (caller ∷ below) world =
    On (put caller (result_at m caller) (get_or words 0 reading.unset) ∷ below) (given_back frame world)

-- how many frames may stand at once
abbrev pub frame_limit : ℕ
frame_limit = 1024

-- what an effect does to the frames, of which at most `frame_limit` stand: `lift` makes the word of a result, and `after` is
-- what happens to the world then
abbrev pub after_effect : {V : Type 0} → Reading V → Setting → Module → ℕ → Option Name → List V → (ℕ → World → V) → (ℕ → World → World) → Frame V → List (Frame V) → Effect → Outcome V
after_effect reading setting m site x words lift after frame below (Gives v world) = On (put frame x (lift v world) ∷ below) (after v world)
after_effect reading setting m site x words lift after frame below (Does world) = On (one_on frame ∷ below) (after 0 world)
after_effect reading setting m site x words lift after frame below (Goes to world) = On (jumped reading setting m to frame ∷ below) world
after_effect reading setting m site x words lift after frame below (Enters f world) =
    if leb frame_limit (length below + 1) then Over («end».Trap trap.Depth site) world else On (entered reading m f words world ∷ frame ∷ below) world
after_effect reading setting m site x words lift after frame below (Leaves world) = left reading m words frame below world
after_effect reading setting m site x words lift after frame below (Ends e world) = Over e world
