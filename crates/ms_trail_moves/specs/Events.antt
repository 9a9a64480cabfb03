-- The moves of a step: one for each value, and each run of bytes of one source, that it wrote and that is poisoned then (own).
use Rattle.std.specs.Prelude.{ℕ, zero, suc, ◌+◌, ◌-◌, eqb, ltb, List, [], ◌∷◌, ◌++◌, map, length, drop, if◌then◌else◌, Option, Some, None, unwrap_or}
use Rattle.ms_ir.specs.declared.syntax.Name.{Name}
use Rattle.ms_ir.specs.declared.syntax.Name.TheVariants.{Number}
use Rattle.ms_ir.specs.declared.syntax.Ty.{Ty}
use Rattle.ms_ir.specs.declared.syntax.Operand.{Operand}
use Rattle.ms_ir.specs.declared.syntax.Op.TheVariants as op
use Rattle.ms_ir.specs.declared.syntax.Inst.{Inst}
use Rattle.ms_ir.specs.declared.syntax.Module.{Module}
use Rattle.ms_runs.specs.World.{World, Setting}
use Rattle.ms_ir.specs.Instructions.{operands, count_undefs, one_unmarked, roots_in, insts_at, site_at, root_at, external_named}
use Rattle.ms_ir.specs.declared.calls.External.{External}
use Rattle.ms_ir.specs.declared.calls.External.TheVariants.{Word}
use Rattle.ms_runs.specs.Control.{Frame, here, rest_of, read_all, read_edge, block_name, params_at, result_at}
use Rattle.ms_runs.specs.Poisoned.{Poisoned, clean}
use Rattle.ms_runs.specs.Masks.{word_at}
use Rattle.ms_runs.specs.Shadow.{ShadowState, read_poisoned}
use Rattle.ms_trail_moves.specs.declared.moves.Source.{Source}
use Rattle.ms_trail_moves.specs.declared.moves.Source.TheVariants.{Root, Byte}
use Rattle.ms_trail_moves.specs.declared.moves.Target.{Target}
use Rattle.ms_trail_moves.specs.declared.moves.Target.TheVariants.{Value, Bytes}
use Rattle.ms_trail_moves.specs.declared.moves.Move.{Move}
use Rattle.ms_trail_moves.specs.Sources.{operand_source, sources, source_at, result_source}
use Rattle.ms_trail_moves.specs.Written.{Written, Filled, Copied, written}

-- ---- words

abbrev pub moved : (event site : ℕ) → Source → Target → Move
moved event site from to = record { event = event; site = site; from = from; to = to }

-- a word is written: a move, where it is poisoned
abbrev pub word_move : (event site : ℕ) → Poisoned → Source → Target → List Move
word_move event site word from to = if eqb word.mask 0 then [] else moved event site from to ∷ []

-- the result, if it has a name, of an instruction after which the values are given
abbrev pub result_move : (event site frame : ℕ) → Option Name → (Name → Poisoned) → Source → List Move
result_move event site frame None values from = []
result_move event site frame (Some x) values from = word_move event site (values x) from (Value frame x)

-- the result of the call at which the caller, the first of these frames, stands
abbrev pub return_move : Module → (event site frame : ℕ) → Poisoned → Source → List (Frame Poisoned) → List Move
return_move m event site frame word from [] = []
return_move m event site frame word from (caller ∷ below) = result_move event site frame (result_at m caller) (λ x. word) from

-- the parameters of the frame that is entered
abbrev pub param_moves : (event site frame : ℕ) → List (Ty × Name) → List Poisoned → List Source → List Move
param_moves event site frame (t ∷ ts) (p ∷ ps) (s ∷ ss) = word_move event site p s (Value frame t.1) ++ param_moves event site frame ts ps ss
param_moves event site frame _ _ _ = []

-- a block's leading phis; `read` reads words and `from` their sources, n roots and a site come before
abbrev pub phi_moves : (event frame : ℕ) → (ℕ → Ty → Operand → Poisoned) → (ℕ → Ty → Operand → Source) → (Name → Option ℕ) → Name → List Inst → (n site : ℕ) → List Move
phi_moves event frame read source func from [] n site = []
phi_moves event frame read source func from (i ∷ is) n site =
    elim i.op [
      | op.Phi t edges ↦
          word_move event site (read_edge read clean t from edges n) (read_edge source (Root 0) t from edges n) (Value frame (unwrap_or i.result (Number 0)))
          ++ phi_moves event frame read source func from is (n + roots_in func i) (site + one_unmarked i)
      | _ ↦ []
    ]

-- ---- bytes

-- runs of bytes, each a first address and a length, and the byte before them
abbrev pub joined : ℕ → List (ℕ × ℕ) → List (ℕ × ℕ)
joined a [] = (a, 1) ∷ []
joined a (r ∷ rs) = if eqb r.0 (a + 1) then (a, r.1 + 1) ∷ rs else (a, 1) ∷ r ∷ rs

-- the longest runs of poisoned bytes among the n from an address on
abbrev pub runs : (ℕ → ℕ) → (a n : ℕ) → List (ℕ × ℕ)
runs shadow a zero = []
runs shadow a (suc n) = if eqb (shadow a) 0 then runs shadow (a + 1) n else joined a (runs shadow (a + 1) n)

abbrev pub written_moves : (event site : ℕ) → (ℕ → ℕ) → Written → List Move
written_moves event site shadow (Filled a n from) = map (λ r. moved event site from (Bytes r.0 r.1)) (runs shadow a n)
written_moves event site shadow (Copied a n from) = map (λ r. moved event site (Byte (from + (r.0 - a))) (Bytes r.0 r.1)) (runs shadow a n)

abbrev pub memory_moves : (event site : ℕ) → (ℕ → ℕ) → List Written → List Move
memory_moves event site shadow [] = []
memory_moves event site shadow (x ∷ xs) = written_moves event site shadow x ++ memory_moves event site shadow xs

-- ---- frames

-- the numbers of the frames that stand, innermost first, and how many were made
pub record Numbers : Type 0 where
  pub standing : List ℕ
  pub made : ℕ

-- after a step, where so many frames stand: one was entered, or the innermost was left, or neither
abbrev pub renumbered : ℕ → Numbers → Numbers
renumbered depth n =
    if ltb (length n.standing) depth then record { standing = n.made ∷ n.standing; made = n.made + 1 }
    else record { standing = drop (length n.standing - depth) n.standing; made = n.made }

-- the number of the innermost frame, the first of those given
abbrev pub innermost : List ℕ → ℕ
innermost [] = 0
innermost (k ∷ ks) = k

-- ---- steps

-- the moves of a call of an external: a function of whole words sets its result, and the others may write memory
abbrev pub callee_moves : Option External → (result memory : List Move) → List Move
callee_moves (Some (Word f n)) result memory = result
callee_moves e result memory = memory

-- a step by its instruction, from one innermost frame to another, the numbers of which are given
abbrev pub inst_moves : Setting → Module → (event : ℕ) → Inst → (from to : ℕ) → Frame Poisoned → List (Frame Poisoned) → World → Frame Poisoned → World → List Move
inst_moves s m event i from to fr below w next after =
    let h = here s m fr in
    let ps = read_all (read_poisoned s fr.values) (operands i.op) h.root in
    let ss = sources from (operands i.op) h.root in
    let jump = phi_moves event to (read_poisoned s fr.values) (λ n t o. operand_source from n o) s.func (block_name m fr.func fr.block)
    (insts_at m fr.func next.block) (root_at s.func m fr.func next.block 0) (site_at m fr.func next.block 0) in
    let result = result_move event h.site to i.result next.values (result_source i.op ps ss w) in
    let memory = memory_moves event h.site after.shadow (written s (h.root + count_undefs (operands i.op) + 1) i.op ps ss w after) in
    elim i.op [
      | op.Br x ↦ jump
      | op.CondBr c x y ↦ jump
      | op.Switch t v x cases ↦ jump
      | op.Ret v ↦ return_move m event h.site to (word_at 0 ps) (source_at 0 ss) below
      | op.Call r x args ↦ elim (s.func x) [ Some f ↦ param_moves event h.site to (params_at m f) ps ss | None ↦ callee_moves (external_named s.func x) result memory ]
      | op.Alloca t u count ↦ memory
      | op.Store t x a ↦ memory
      | _ ↦ result
    ]

abbrev pub first_moves : Setting → Module → (event : ℕ) → List Inst → (from to : ℕ) → Frame Poisoned → List (Frame Poisoned) → World → List (Frame Poisoned) → World → List Move
first_moves s m event (i ∷ is) from to fr below w (next ∷ rest) after = inst_moves s m event i from to fr below w next after
first_moves s m event _ from to fr below w _ after = []

abbrev pub frames_moves : Setting → Module → (event : ℕ) → (before after : Numbers) → List (Frame Poisoned) → World → ShadowState → List Move
frames_moves s m event before after [] w d = []
frames_moves s m event before after (fr ∷ below) w d =
    first_moves s m event (rest_of m fr) (innermost before.standing) (innermost after.standing) fr below w d.frames d.world

-- the moves of the step from one state to the next
abbrev pub event_moves : Setting → Module → (event : ℕ) → (before after : Numbers) → ShadowState → ShadowState → List Move
event_moves s m event before after c d = frames_moves s m event before after c.frames c.world d
