-- Results of code, as the shadow meaning has them (own).
use Rattle.std.specs.Prelude.{◌≡◌, ◌≤◌, ℕ, List, All}
use Rattle.ms_bits.specs.Conversions.{Allows}
use Rattle.ms_ir.specs.declared.syntax.Name.{Name}
use Rattle.ms_ir.specs.declared.syntax.Inst.{Inst}
use Rattle.ms_ir.specs.Instructions.{operands}
use Rattle.ms_runs.specs.declared.runs.Setup.{Setup}
use Rattle.ms_runs.specs.World.{World}
use Rattle.ms_runs.specs.Control.{read_all}
use Rattle.ms_runs.specs.Plain.{setting_of}
use Rattle.ms_runs.specs.Poisoned.{Poisoned}
use Rattle.ms_runs.specs.Masks.{by_formulas, result_mask}
use Rattle.ms_runs.specs.Shadow.{read_poisoned}
use Rattle.ms_machine_code.specs.declared.code.Code.{Code}
use Rattle.ms_machine_code.specs.declared.code.Code.TheVariants as code
use Rattle.ms_machine_code.specs.Fits.{IsSource, IsStride}
use Rattle.ms_machine_code.specs.Encodes.{Where, Encodes}
use Rattle.ms_trail_masks.specs.Shades.{HoldsShades}

-- a word with a mask, of no known origin
abbrev pub bare : (value mask : ℕ) → Poisoned
bare v m = record { value = v; mask = m; origin = 0 }

-- an operation, a comparison, a cast, a selection, an address or a 'freeze', for n values
abbrev pub IsComputed : (n : ℕ) → Code → Type 0
IsComputed n (code.Binary o flags w a b to) = (1 ≤ w) × (w ≤ 64) × IsSource n w a × IsSource n w b
IsComputed n (code.Icmp p flags w a b to) = (1 ≤ w) × (w ≤ 64) × IsSource n w a × IsSource n w b
IsComputed n (code.Cast o flags w a into to) = (1 ≤ w) × (w ≤ 64) × IsSource n w a × Allows o w into
IsComputed n (code.Select c a b to) = IsSource n 64 c × IsSource n 64 a × IsSource n 64 b
IsComputed n (code.Gep base offset strides to) = IsSource n 64 base × All (IsStride n) strides
IsComputed n (code.Freeze a to) = Unit {0}
IsComputed n k = ⊥

-- the words that the instruction of code reads
abbrev pub words_read : Where → Setup → (Name → Poisoned) → Inst → (root : ℕ) → List Poisoned
words_read at u values inst root = read_all (read_poisoned (setting_of at.whole u) values) (operands inst.op) root

-- whatever instruction code stands for, this is the mask of its result, in a frame with such values and masks
abbrev pub IsMask : (fill xs ms : List ℕ) → Code → ℕ → Type 0
IsMask fill xs ms k mask =
    (at : Where) (u : Setup) (inst : Inst) (values : Name → Poisoned) (root : ℕ) (world : World) → u.fill ≡ fill → Encodes at k inst → HoldsShades at.names xs ms values
    → mask ≡ result_mask by_formulas inst.op (words_read at u values inst root) world
