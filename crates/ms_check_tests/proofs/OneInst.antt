-- A module of one instruction without result, in a function without parameters.
use Rattle.std.proofs.Common.{◌≡◌, ◌≤◌, ◌+◌, ◌*◌, ℕ, false, List, [], ◌∷◌, ◌++◌, length, map, Option, None, Some, refl, sym, ap, ap₂, ◌∙◌, subst}
use Rattle.std.specs.Prelude.{filter_map, flat_map, option_map, unwrap_or, slice_get}
use Rattle.std.specs.List.{cons_option}
use Rattle.ms_ir.specs.declared.syntax.Name.{Name}
use Rattle.ms_ir.specs.declared.syntax.Ty.{Ty}
use Rattle.ms_ir.specs.declared.syntax.Inst.{Inst}
use Rattle.ms_ir.specs.declared.syntax.Block.{Block}
use Rattle.ms_ir.specs.declared.syntax.Func.{Func}
use Rattle.ms_ir.specs.declared.syntax.Module.{Module}
use Rattle.ms_ir.specs.Instructions.{insts_at}
use Rattle.ms_ir.specs.Locals.{typed_result}
use Rattle.ms_ir.specs.Written.{result_type}
use Rattle.ms_pass_laws.specs.Numbers.{values_at}
use Rattle.ms_rules.specs.Singles.{StandsIn}

module _ (m : Module) (f : Func) (b : Block) (i : Inst) (funcs : m.funcs ≡ f ∷ []) where
  -- it stands at the beginning
  pub stands : f.blocks ≡ b ∷ [] → b.insts ≡ i ∷ [] → i.marked ≡ false → StandsIn m 0 i 1 0
  stands blocks insts unmarked = record {
    block = 0;
    place = 0;
    is = ap (λ (is : List Inst). slice_get is 0) here;
    unmarked = unmarked;
    site_is = refl;
    roots_are = refl;
  }
    where
      here : insts_at m 0 0 ≡ i ∷ []
      here =
          ap (λ (fs : List Func). insts_at (record m { funcs = fs }) 0 0) funcs
          ∙ ap (λ (bs : List Block). unwrap_or (option_map (λ k. k.insts) (slice_get bs 0)) []) blocks
          ∙ insts

  -- there are no values, so each number from 1 on is free
  pub few_values : f.params ≡ [] → f.blocks ≡ b ∷ [] → b.insts ≡ i ∷ [] → i.result ≡ None → (next : ℕ) → 1 ≤ next → 2 * length (values_at m 0) + 1 ≤ next
  few_values params blocks insts nothing next above = subst (λ (vs : List (Name × Ty)). 2 * length vs + 1 ≤ next) (sym none) above
    where
      only : filter_map typed_result (i ∷ []) ≡ []
      only = ap (λ (r : Option Name). cons_option (elim r as (λ w. Option (Name × Ty)) [ Some x ↦ option_map (λ t. (x, t)) (result_type i.op) | None ↦ None ]) []) nothing

      none : values_at m 0 ≡ []
      none =
          ap (λ (fs : List Func). values_at (record m { funcs = fs }) 0) funcs
          ∙ ap₂ (λ (ps : List (Ty × Name)) (bs : List Block). map (λ p. (p.1, p.0)) ps ++ filter_map typed_result (flat_map (λ k. k.insts) bs)) params blocks
          ∙ ap (λ (is : List Inst). filter_map typed_result (is ++ [])) insts
          ∙ only
