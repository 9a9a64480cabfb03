-- What the parts of the code that finds a module's roots come to. Only those parts cite these: what `roots` promises
-- does not name them.
use Rattle.std.specs.Prelude.{ℕ, List, [], ◌∷◌, Option, Some, None}
use Rattle.ms_ir.specs.declared.syntax.Name.{Name}
use Rattle.ms_ir.specs.declared.syntax.Operand.{Operand}
use Rattle.ms_ir.specs.declared.syntax.Operand.TheVariants as operand
use Rattle.ms_ir.specs.declared.places.Root.{Root}
use Rattle.ms_ir.specs.declared.places.RootKind.{RootKind}
use Rattle.ms_ir.specs.declared.places.RootKind.TheVariants as kind
use Rattle.ms_ir.specs.declared.calls.External.{External}
use Rattle.ms_ir.specs.declared.calls.External.TheVariants.{Malloc, Realloc, LifetimeStart}
use Rattle.ms_ir.specs.Instructions.{external_named}
use Rattle.ms_ir.specs.Roots.{root}

-- the root of an undefined operand
abbrev pub operand_roots : ℕ → Operand → List Root
operand_roots site operand.Undef = root kind.Undef site ∷ []
operand_roots site operand.Poison = root kind.Undef site ∷ []
operand_roots site _ = []

-- the root of a kind, if there is one
abbrev pub roots_of_kind : ℕ → Option RootKind → List Root
roots_of_kind site None = []
roots_of_kind site (Some k) = root k site ∷ []

-- the kind of root that a call of an external is, if it is one
abbrev pub kind_of : Option External → Option RootKind
kind_of (Some Malloc) = Some kind.Malloc
kind_of (Some Realloc) = Some kind.Realloc
kind_of (Some LifetimeStart) = Some kind.Lifetime
kind_of _ = None

-- the kind of root that a call is
abbrev pub called_kind : (Name → Option ℕ) → Name → Option RootKind
called_kind func x = kind_of (external_named func x)
