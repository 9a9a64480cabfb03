-- The slots, two by two.
use Rattle.std.proofs.Common.{◌≡◌, ℕ, Bool, true, false, sym, ap, ◌∙◌, take, drop}
use Rattle.std.specs.Prelude.{◌||◌, ◌&&◌}
use Rattle.std.specs.List.{list_any}
use Rattle.std.proofs.lemmas.Bool.{eq-eqb}
use Rattle.std.proofs.lemmas.List.Folds.{list_any-append}
use Rattle.ms_ir.specs.declared.syntax.Ty.{Ty, Int, Array}
use Rattle.ms_ir.specs.declared.syntax.GlobalVar.{GlobalVar}
use Rattle.ms_ir.specs.Equal.{type_eq}
use Rattle.ms_ir.specs.Signatures.{slot_globals}
use Rattle.ms_ir.proofs.Differing.{and_true, type_eq-array}
use Rattle.ms_check_valid.specs.ExternalsFit.{slot_eq}

-- the first of two, where it holds
pub or_then : (r a b : Bool) → r ≡ a → r ≡ true → r ≡ (a || b)
or_then r a b is holds = holds ∙ sym (ap (λ x. x || b) (sym is ∙ holds))

-- an array of 100 items
pub row_is : (x : Ty) (n : ℕ) (t : Ty) (width : ℕ) (r : Bool) → x ≡ Array n t → n ≡ 100 → r ≡ type_eq t (Int width) → r ≡ type_eq x (Array 100 (Int width))
row_is x n t width r is hundred found =
    found
    ∙ sym (ap (λ y. type_eq y (Array 100 (Int width))) is ∙ type_eq-array n 100 t (Int width) ∙ ap (λ b. b && (type_eq t (Int width) && true)) (eq-eqb n 100 hundred)
    ∙ and_true (type_eq t (Int width)))

halves : (g : GlobalVar) → list_any (slot_eq g) slot_globals ≡ (list_any (slot_eq g) (take 2 slot_globals) || list_any (slot_eq g) (drop 2 slot_globals))
halves g = list_any-append (slot_eq g) (take 2 slot_globals) (drop 2 slot_globals)

-- one of the first two, and else one of the others
pub among_first : (g : GlobalVar) (r : Bool) → r ≡ list_any (slot_eq g) (take 2 slot_globals) → r ≡ true → r ≡ list_any (slot_eq g) slot_globals
among_first g r is holds = holds ∙ sym (halves g ∙ ap (λ b. b || list_any (slot_eq g) (drop 2 slot_globals)) (sym is ∙ holds))

pub among_last : (g : GlobalVar) (r s : Bool) → r ≡ list_any (slot_eq g) (take 2 slot_globals) → r ≡ false → s ≡ list_any (slot_eq g) (drop 2 slot_globals) → s ≡ list_any (slot_eq g) slot_globals
among_last g r s is fails found = found ∙ sym (halves g ∙ ap (λ b. b || list_any (slot_eq g) (drop 2 slot_globals)) (sym is ∙ fails))
