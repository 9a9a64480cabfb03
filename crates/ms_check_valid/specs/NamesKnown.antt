-- Each name that is used is defined (LLVM Language Reference, "Identifiers", "Module Structure").
use Rattle.std.specs.Prelude.{ℕ, Bool, true, false, List, [], ◌++◌, map, filter, flat_map, not}
use Rattle.ms_ir.specs.declared.syntax.Name.{Name}
use Rattle.ms_ir.specs.declared.syntax.GlobalVar.{GlobalVar}
use Rattle.ms_ir.specs.declared.syntax.Module.{Module}
use Rattle.ms_ir.specs.Equal.{has_name}
use Rattle.ms_ir.specs.Written.{Mention, OfType, OfLocal, OfGlobal, type_mentions, init_mentions, mentions}
use Rattle.ms_ir.specs.Spots.{found_at_insts}
use Rattle.ms_ir.specs.Locals.{locals, symbols, type_names, Spelled}

-- a name is defined, where the locals are given
abbrev pub knows : Module → List Name → Mention → Bool
knows m known (OfType x) = has_name (type_names m) x
knows m known (OfLocal x) = has_name known x
knows m known (OfGlobal x) = has_name (symbols m) x

-- how a name is spelled
abbrev pub spelled : Mention → Spelled
spelled (OfType x) = record { global = false; name = x }
spelled (OfLocal x) = record { global = false; name = x }
spelled (OfGlobal x) = record { global = true; name = x }

-- those of some names that aren't defined, at a site
abbrev pub unknown_of : Module → List Name → ℕ → List Mention → List (ℕ × Spelled)
unknown_of m known site xs = map (λ x. (site, spelled x)) (filter (λ x. not (knows m known x)) xs)

-- a global's names: its type's, and then its initialiser's
abbrev pub global_mentions : GlobalVar → List Mention
global_mentions g = type_mentions g.ty ++ init_mentions g.init

-- the names that are used and not defined, in text order, each with its site, which is 0 outside functions
abbrev pub unknowns : Module → List (ℕ × Spelled)
unknowns m =
    unknown_of m [] 0 (flat_map (λ t. type_mentions t.1) m.types)
    ++ (unknown_of m [] 0 (flat_map global_mentions m.globals)
    ++ found_at_insts (λ at inst. unknown_of m (locals at.func) at.site (mentions inst.op)) m)
