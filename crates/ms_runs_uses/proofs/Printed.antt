-- The uses of arguments of `printf`, counted from one with a place on.
use Rattle.std.proofs.Common.{◌≡◌, ◌+◌, ◌<◌, ℕ, suc, Bool, true, false, List, ◌∷◌, drop, length, get_or, if◌then◌else◌, Option, Some, None, refl, sym, ap, ◌∙◌, add-one}
use Rattle.std.specs.Prelude.{option_map}
use Rattle.std.proofs.lemmas.List.{drop_more}
use Rattle.std.proofs.lemmas.Option.{same_Some}
use Rattle.ms_ir.specs.declared.syntax.Operand.{Operand}
use Rattle.ms_ir.specs.declared.syntax.Operand.TheVariants as operand
use Rattle.ms_ir.specs.declared.syntax.Ty.{Ty}
use Rattle.ms_ir.specs.declared.syntax.Ty as ty
use Rattle.ms_ir.specs.Equal.{type_eq}
use Rattle.ms_runs.specs.Uses as meant
use Rattle.ms_runs.specs.Uses.{value_uses, string_uses}
use Rattle.ms_runs_uses.specs.declared.uses.CheckedUse.{CheckedUse}
use Rattle.ms_runs_uses.specs.Uses.{use_of}

-- uses, after one if there is one
abbrev pub after_use : Option CheckedUse → List meant.CheckedUse → List meant.CheckedUse
after_use (Some u) us = use_of u ∷ us
after_use None us = us

pub values_next : (args : List (Ty × Operand)) (k : ℕ) (u : CheckedUse) → k < length args → use_of u ≡ meant.Word 7 k → value_uses k (drop k args) ≡ use_of u ∷ value_uses (k + 1) (drop (k + 1) args)
values_next args k u lt is =
    ap (value_uses k) (drop_more args k (ty.Ptr, operand.Null) lt) ∙ (λ i. sym is i ∷ value_uses (sym (add-one k) i) (drop (k + 1) args))

pub strings_next : (args : List (Ty × Operand)) (k : ℕ) (d : Ty × Operand) (o : Option CheckedUse) → k < length args → option_map use_of o ≡ (if type_eq (get_or args k d).0 ty.Ptr then Some (meant.Asked k) else None)
    → string_uses k (drop k args) ≡ after_use o (string_uses (k + 1) (drop (k + 1) args))
strings_next args k d o lt is =
    ap (string_uses k) (drop_more args k d lt) ∙ by_test (type_eq (get_or args k d).0 ty.Ptr) o is ∙ ap (λ n. after_use o (string_uses n (drop (k + 1) args))) (sym (add-one k))
  where
    rest : List meant.CheckedUse
    rest = string_uses (suc k) (drop (k + 1) args)

    by_test : (b : Bool) (o : Option CheckedUse) → option_map use_of o ≡ (if b then Some (meant.Asked k) else None) → (if b then meant.Asked k ∷ rest else rest) ≡ after_use o rest
    by_test true (Some u) is = ap (λ (x : meant.CheckedUse). x ∷ rest) (sym (same_Some (use_of u) (meant.Asked k) is))
    by_test true None is = absurd cc
    by_test false (Some u) is = absurd cc
    by_test false None is = refl
