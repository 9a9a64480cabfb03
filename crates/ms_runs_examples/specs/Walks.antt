-- Runs that examples of reached origins speak of. No other definition rests on them.
use Rattle.std.specs.Prelude.{ℕ, [], ◌∷◌}
use Rattle.ms_ir.specs.declared.syntax.Module.{Module}
use Rattle.ms_ir.specs.declared.syntax.Name.TheVariants.{Number}
use Rattle.ms_ir.specs.declared.syntax.Op.TheVariants as op
use Rattle.ms_runs.specs.declared.runs.Setup.{Setup}
use Rattle.ms_ir.specs.Builders.{i32, block, int, local, main_blocks, ret, sets, does, undef}
use Rattle.ms_runs_good_laws.specs.Reached.{Walk, walk_start}

-- a run at its start, but with every byte poisoned and a root in every cell
abbrev pub poisoned_from : ℕ → Module → Setup → Walk
poisoned_from root m setup =
    let walk = walk_start m setup in
    record walk { state = record walk.state { world = record walk.state.world { shadow = λ addr. 255; origins = λ cell. root } } }

-- a phi whose two values are undefined: `main` comes to it from block 1, and its entry never goes there by itself
abbrev pub phi_of_undef : Module
phi_of_undef = main_blocks (
    block 0 (does (op.CondBr (int 1) (Number 1) (Number 2)) ∷ [])
    ∷ block 1 (does (op.Br (Number 2)) ∷ [])
    ∷ block 2 (sets 3 (op.Phi i32 ((undef, Number 0) ∷ (undef, Number 1) ∷ [])) ∷ does (ret (local 3)) ∷ [])
    ∷ []) []
