-- What an unmarked instruction does, given its operands' words (LLVM Language Reference, "Instruction Reference"; own:
-- what is undefined or poison there is a trap, or a word that the fill decides).
use Rattle.std.specs.Prelude.{ℕ, Bool, ◌*◌, ◌%◌, ◌^◌, List, [], ◌∷◌, drop, eqb, if◌then◌else◌, Some, None, Result, Ok, Err, map}
use Rattle.std.specs.Int.{from_bool}
use Rattle.ms_bits.specs.declared.traps.Trap.{Trap}
use Rattle.ms_bits.specs.declared.traps.Trap.TheVariants as trap
use Rattle.ms_ir.specs.declared.syntax.Name.{Name}
use Rattle.ms_ir.specs.declared.syntax.Ty.{Ty}
use Rattle.ms_ir.specs.declared.syntax.Operand.{Operand}
use Rattle.ms_ir.specs.declared.syntax.Operand.TheVariants as operand
use Rattle.ms_ir.specs.declared.syntax.Op.{Op}
use Rattle.ms_ir.specs.declared.syntax.Op.TheVariants as op
use Rattle.ms_runs.specs.declared.runs.End.TheVariants as «end»
use Rattle.ms_bits.specs.Arithmetic.{binary_of}
use Rattle.ms_bits.specs.Conversions.{compare_of, cast_of, select_of}
use Rattle.ms_bits.specs.Fill.{undef_word_of}
use Rattle.ms_ir.specs.Layout.{width_of, stored_size, size_in, extended, indexed}
use Rattle.ms_runs.specs.World.{World, Setting, Here, Effect, Gives, Does, Goes, Enters, Leaves, Ends, traps, stuck, word, gives}
use Rattle.ms_bits.specs.Maps.{number_at}
use Rattle.ms_runs.specs.Memory.{fits, next_base, local_area, is_good, make_unset, store_number}
use Rattle.ms_ir.specs.Instructions.{external_named}
use Rattle.ms_runs.specs.Globals.{constant}
use Rattle.ms_runs.specs.Control.{Reading}
use Rattle.ms_runs.specs.Externals.{external}

-- the word of an operand, cut to a width, where the results so far are given
abbrev pub operand_word : Setting → (Name → ℕ) → ℕ → Operand → ℕ
operand_word setting values width operand.Undef = undef_word_of setting.fill width
operand_word setting values width operand.Poison = undef_word_of setting.fill width
operand_word setting values width (operand.Local x) = values x % 2 ^ width
operand_word setting values width o = constant setting.types setting.address o % 2 ^ width

-- how a plain run reads words: roots don't matter, and an unset result, which no valid module meets, reads as 0
abbrev pub plain_reading : Reading ℕ
plain_reading = record { read = λ setting values root t o. operand_word setting values (width_of t) o; unset = 0 }

-- the answer of a comparison as a word of one bit
abbrev pub truth : Result Bool Trap → Result ℕ Trap
truth (Ok b) = Ok (from_bool b)
truth (Err t) = Err t

-- 'alloca' of n bytes in all, which are uninitialised; a fiber beside `main`'s has them on the heap
abbrev pub alloca : Setting → (site n : ℕ) → World → Effect
alloca setting site n world =
    let area = local_area world in
    if fits area n world then Gives (next_base area world) (make_unset setting.fill area n world) else traps trap.Stack site world

-- 'load': the bytes as a number, without the bits past the type's width
abbrev pub load : (site a : ℕ) → Ty → World → Effect
load site a t world =
    if is_good world a (stored_size t) then Gives (number_at world.bytes a (stored_size t) % 2 ^ width_of t) world else traps trap.BadAddress site world

-- 'store': the bytes of a number, with zero bits past the type's width
abbrev pub store : (site a : ℕ) → Ty → ℕ → World → Effect
store site a t v world =
    if is_good world a (stored_size t) then Does (store_number a (stored_size t) v world) else traps trap.BadAddress site world

-- 'call' of a function of the module, or of an external, with the arguments' types and words
abbrev pub call : Setting → ℕ → Name → List Ty → List ℕ → World → Effect
call setting site x types words world =
    elim (setting.func x) [
      | Some f ↦ Enters f world
      | None ↦ elim (external_named setting.func x) [ Some e ↦ external setting site e types words world | None ↦ Ends stuck world ]
    ]

-- the block to which a 'switch' goes: that of the case with the value, else the other one
abbrev pub case_of : List (ℕ × Name) → ℕ → Name → Name
case_of [] v other = other
case_of (c ∷ cs) v other = if eqb c.0 v then c.1 else case_of cs v other

-- the words of indices, sign-extended to 64 bits
abbrev pub extended_all : List (Ty × Operand) → List ℕ → List ℕ
extended_all [] words = []
extended_all (i ∷ is) [] = []
extended_all (i ∷ is) (v ∷ words) = extended (width_of i.0) v ∷ extended_all is words

-- an unmarked instruction, given its operands' words; phis are no steps of their own
abbrev pub act : Setting → Here → Op → List ℕ → World → Effect
act setting here (op.Binary o flags t a b) words world = gives here.site (binary_of o flags (width_of t) (word 0 words) (word 1 words)) world
act setting here (op.Icmp p flags t a b) words world = gives here.site (truth (compare_of p flags (width_of t) (word 0 words) (word 1 words))) world
act setting here (op.Cast o flags t a u) words world = gives here.site (cast_of o flags (width_of t) (word 0 words) (width_of u)) world
act setting here (op.Select c t a b) words world = Gives (select_of (word 0 words) (word 1 words) (word 2 words)) world
act setting here (op.Freeze t a) words world = Gives (word 0 words) world
act setting here (op.Phi t edges) words world = Ends stuck world
act setting here (op.Alloca t u count) words world = alloca setting here.site (size_in setting.types t * word 0 words) world
act setting here (op.Load t addr) words world = load here.site (word 0 words) t world
act setting here (op.Store t v addr) words world = store here.site (word 1 words) t (word 0 words) world
act setting here (op.Gep t base indices) words world = Gives (indexed setting.types t (word 0 words) (extended_all indices (drop 1 words))) world
act setting here (op.Call ret callee args) words world = call setting here.site callee (map (λ a. a.0) args) words world
act setting here (op.Br to) words world = Goes to world
act setting here (op.CondBr c to other) words world = Goes (if eqb (word 0 words) 0 then other else to) world
act setting here (op.Switch t v other cases) words world = Goes (case_of cases (word 0 words) other) world
act setting here (op.Ret v) words world = if here.main then Ends («end».Exit (word 0 words)) world else Leaves world
act setting here op.Unreachable words world = traps trap.Unreachable here.site world
