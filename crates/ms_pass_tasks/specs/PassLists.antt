-- The instrumented form of a list of instructions: each between its lists, and each phi followed by the phis of its
-- mask and its origin.
use Rattle.std.specs.Prelude.{ℕ, ◌+◌, List, [], ◌∷◌, ◌++◌, if◌then◌else◌, Option, Some, None}
use Rattle.ms_ir.specs.declared.syntax.Name.{Name}
use Rattle.ms_ir.specs.declared.syntax.Ty.{Ty, Int}
use Rattle.ms_ir.specs.declared.syntax.Operand.{Operand}
use Rattle.ms_ir.specs.declared.syntax.Operand.TheVariants as operand
use Rattle.ms_ir.specs.declared.syntax.Op.{Op}
use Rattle.ms_ir.specs.declared.syntax.Op.TheVariants as op
use Rattle.ms_ir.specs.declared.syntax.Inst.{Inst}
use Rattle.ms_ir.specs.Names.{name_eq}
use Rattle.ms_ir.specs.Layout.{width_of}
use Rattle.ms_runs.specs.World.{Here}
use Rattle.ms_ir.specs.Instructions.{one_undef, one_unmarked, roots_in}
use Rattle.ms_pass_tasks.specs.Tasks.{mask_name, origin_name, InsertedCode, inserted}
use Rattle.ms_pass_tasks.specs.Environments.{Env, Given, mask_type, mask_operand, origin_operand}
use Rattle.ms_pass_tasks.specs.Emit.{Emitted, emit_tasks}

-- ---- phis

-- the edges of the phi of a phi's mask
abbrev pub mask_edges : Env → ℕ → List (Operand × Name) → List (Operand × Name)
mask_edges env w [] = []
mask_edges env w (e ∷ es) = (mask_operand env w e.0, e.1) ∷ mask_edges env w es

-- the origin of the first operand that is named for a block, which is the one that is taken; root is the number of roots
-- before the first edge
abbrev pub origin_from : Env → (root : ℕ) → List (Operand × Name) → Name → Operand
origin_from env root [] from = operand.Int 0
origin_from env root (e ∷ es) from = if name_eq e.1 from then origin_operand env root e.0 else origin_from env (root + one_undef e.0) es from

-- `all` are the edges of the phi, and `es` those for which an origin is given
abbrev pub origins_by : Env → (root : ℕ) → (all es : List (Operand × Name)) → List (Operand × Name)
origins_by env root all [] = []
origins_by env root all (e ∷ es) = (origin_from env root all e.1, e.1) ∷ origins_by env root all es

-- the edges of the phi of a phi's origin
abbrev pub origin_edges : Env → (root : ℕ) → List (Operand × Name) → List (Operand × Name)
origin_edges env root es = origins_by env root es es

-- the phis of a phi's mask and of its origin, for the value with a number
abbrev pub phi_pair : Env → (v root : ℕ) → Ty → List (Operand × Name) → List Inst
phi_pair env v root t es =
    inserted (Some (mask_name v)) (op.Phi (mask_type t) (mask_edges env (width_of t) es))
    ∷ inserted (Some (origin_name v)) (op.Phi (Int 32) (origin_edges env root es))
    ∷ []

-- the same for a result by its name: none where it is known to be clean
abbrev pub phi_code : Env → (root : ℕ) → Option Name → Ty → List (Operand × Name) → List Inst
phi_code env root None t es = []
phi_code env root (Some x) t es = elim (env.number x) [ Some v ↦ if env.clean x then [] else phi_pair env v root t es | None ↦ [] ]

-- ---- instructions

-- where the instruction after this one stands
abbrev pub next_here : Given → Here → Inst → Here
next_here given h i = record { site = h.site + one_unmarked i; root = h.root + roots_in given.func i; main = h.main }

-- the lists round an instruction with an operation
abbrev pub emit_op : Given → Env → Here → Inst → ℕ → Op → Emitted
emit_op given env h i n (op.Phi t es) = record { before = []; after = phi_code env h.root i.result t es; next = n }
emit_op given env h i n _ = emit_tasks given env h i n

-- the lists round an instruction
abbrev pub emit_lists : Given → Env → Here → Inst → ℕ → Emitted
emit_lists given env h i n = emit_op given env h i n i.op

-- the instructions from a place on to the end of their block, each between its lists
abbrev pub pass_insts : Given → Env → List Inst → Here → ℕ → InsertedCode
pass_insts given env [] h n = record { code = []; next = n }
pass_insts given env (i ∷ is) h n =
    let x = emit_op given env h i n i.op in let y = pass_insts given env is (next_here given h i) x.next in
    record { code = x.before ++ (i ∷ (x.after ++ y.code)); next = y.next }

-- where a block is gone on with that begins with this operation: after its phis
abbrev pub here_by : Here → Op → Here → Here
here_by h (op.Phi t es) later = later
here_by h _ later = h

-- where a jump goes on: after the phis of a block
abbrev pub here_past : (Name → Option ℕ) → Here → List Inst → Here
here_past func h [] = h
here_past func h (i ∷ is) = here_by h i.op (here_past func (record { site = h.site + one_unmarked i; root = h.root + roots_in func i; main = h.main }) is)
