-- Ends that name an instruction: a trap has the site of the instruction that caused it, and sites are numbered from 1 on.
-- Site 0 stands where no instruction is due or a name stands for nothing (own).
use Rattle.std.specs.Prelude.{◌≤◌, ℕ}
use Rattle.ms_ir.specs.declared.syntax.Module.{Module}
use Rattle.ms_runs.specs.declared.runs.End.{End}
use Rattle.ms_runs.specs.declared.runs.End.TheVariants as «end»
use Rattle.ms_ir.specs.Instructions.{one_unmarked, over_funcs}
use Rattle.ms_runs.specs.Plain.{Stepped, Stop}

-- a site of a module
abbrev pub IsSite : Module → ℕ → Type 0
IsSite m site = (1 ≤ site) × (site ≤ over_funcs one_unmarked m.funcs)

-- a trap has a site
abbrev pub HasSite : Module → End → Type 0
HasSite m («end».Trap kind site) = IsSite m site
HasSite m e = Unit {0}

-- a step that ends the run has a site
abbrev pub StopsAtSite : {S : Type 0} → Module → Stepped S → Type 0
StopsAtSite m (Stop e world) = HasSite m e
StopsAtSite m step = Unit {0}
