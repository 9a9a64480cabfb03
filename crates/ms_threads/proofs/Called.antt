-- Which calls are thread calls.
use Rattle.std.proofs.Common.{◌≡◌, ◌∙◌, ◌&&◌, ◌||◌, ℕ, suc, Bool, true, false, not, List, [], ◌∷◌, Option, Some, None, is_some, option_map, if◌then◌else◌, refl}
use Rattle.std.specs.List.{list_any}
use Rattle.std.proofs.Math.Path.{ap₂}
use Rattle.ms_ir.specs.declared.syntax.Name.{Name}
use Rattle.ms_ir.specs.declared.syntax.Func.{Func}
use Rattle.ms_ir.specs.declared.calls.External.{External}
use Rattle.ms_ir.specs.Names.{lookup, externals, name_eq}
use Rattle.ms_ir.specs.Instructions.{func_index, external_named}
use Rattle.ms_ir.specs.ThreadCalls.{is_asked}

-- a function has a number where one has its name
defined : (funcs : List Func) (x : Name) → list_any (λ func. name_eq func.name x) funcs ≡ is_some (func_index funcs x)
defined [] x = refl
defined (f ∷ funcs) x = by_hit (name_eq f.name x) (func_index funcs x) (defined funcs x)
  where
    by_hit : (hit : Bool) (o : Option ℕ) {rest : Bool} → rest ≡ is_some o → (hit || rest) ≡ is_some (if hit then Some 0 else option_map suc o)
    by_hit true o e = refl
    by_hit false (Some k) e = e
    by_hit false None e = e

-- a name is called as a thread call where it is one's, and no function has it
pub thread_called : (funcs : List Func) (x : Name) (named defines : Bool) → named ≡ is_asked (lookup externals x) → defines ≡ list_any (λ func. name_eq func.name x) funcs
    → (named && not defines) ≡ is_asked (external_named (func_index funcs) x)
thread_called funcs x named defines e d = ap₂ (λ a b. a && not b) e (d ∙ defined funcs x) ∙ by_index (func_index funcs x) (lookup externals x)
  where
    by_index : (o : Option ℕ) (q : Option External) → (is_asked q && not (is_some o)) ≡ is_asked (if is_some o then None else q)
    by_index (Some k) q = and_false (is_asked q)
      where
        and_false : (b : Bool) → (b && false) ≡ false
        and_false true = refl
        and_false false = refl
    by_index None q = and_true (is_asked q)
      where
        and_true : (b : Bool) → (b && true) ≡ b
        and_true true = refl
        and_true false = refl
