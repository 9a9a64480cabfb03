-- The slots have sizes, and take no room among the globals.
use Rattle.std.proofs.Common.{◌≡◌, ℕ, suc, List, [], ◌∷◌, ◌++◌, Bool, true, false, Some, refl}
use Rattle.std.specs.Prelude.{◌&&◌, not, nat_le, codes, flat_map, slice_get}
use Rattle.std.proofs.Math.Path.{ap₂}
use Rattle.ms_ir.specs.declared.syntax.Ty as ty
use Rattle.ms_ir.specs.declared.syntax.Ty.{Ty, Int}
use Rattle.ms_ir.specs.declared.syntax.Ty.TheBlock.{hidden-the_row-Ty-0, shape-the_row-Ty-0}
use Rattle.ms_ir.specs.declared.syntax.GlobalVar.{GlobalVar}
use Rattle.ms_ir.specs.declared.syntax.Name.{Name}
use Rattle.ms_ir.specs.declared.syntax.Name.TheVariants.{Text}
use Rattle.ms_ir.specs.declared.syntax.Func.{Func}
use Rattle.ms_check_valid.proofs.Finding.{both_empty}
use Rattle.ms_ir.specs.Layout.{Types}
use Rattle.ms_ir.specs.Areas.{Fixed, area_limit}
use Rattle.ms_check_valid.specs.SizesFit.{sized, spelled_unless, taken_with, passes_limit, unsized_globals, func_types}
use Rattle.ms_ir.specs.Written.{init_types}
use Rattle.ms_ir.specs.Signatures.{slot_globals}

-- an array of a hundred integers of so many bits
abbrev pub hundred : ℕ → Ty
hundred w = ty.Array 100 (Int w)

words_sized : (types : Types) → sized types (hundred 64 ∷ []) ≡ true
unfolding hidden-the_row-Ty-0 shape-the_row-Ty-0 denote.Hole.Carrier.hidden
words_sized types = refl

origins_sized : (types : Types) → sized types (hundred 32 ∷ []) ≡ true
unfolding hidden-the_row-Ty-0 shape-the_row-Ty-0 denote.Hole.Carrier.hidden
origins_sized types = refl

never_both : (c : Bool) → (c && not c) ≡ false
never_both true = refl
never_both false = refl

stays : (k : ℕ) → passes_limit k k ≡ false
stays k = never_both (nat_le k (area_limit Fixed))

slot_step : (c d : Bool) (x : Name) → c ≡ true → d ≡ false → spelled_unless (c && not d) true x ≡ []
slot_step c d x e h = ap₂ (λ a b. spelled_unless (a && not b) true x) e h

slots_sized : (types : Types) (taken : ℕ) → unsized_globals types taken slot_globals ≡ []
slots_sized types k =
    ap₂ (λ a b. a ++ b) (slot_step (sized types (hundred 64 ∷ [])) (passes_limit k k) (Text (codes "__msan_param_tls")) (words_sized types) (stays k))
    (ap₂ (λ a b. a ++ b) (slot_step (sized types (hundred 32 ∷ [])) (passes_limit k k) (Text (codes "__msan_param_origin_tls")) (origins_sized types) (stays k))
    (ap₂ (λ a b. a ++ b) (slot_step (sized types (Int 64 ∷ [])) (passes_limit k k) (Text (codes "__msan_retval_tls")) refl (stays k))
    (ap₂ (λ a b. a ++ b) (slot_step (sized types (Int 32 ∷ [])) (passes_limit k k) (Text (codes "__msan_retval_origin_tls")) refl (stays k)) refl)))

pub globals_sized : (types : Types) (taken : ℕ) (gs : List GlobalVar) → unsized_globals types taken gs ≡ [] → unsized_globals types taken (gs ++ slot_globals) ≡ []
globals_sized types k [] e = slots_sized types k
globals_sized types k (g ∷ gs) e =
    let h = both_empty (spelled_unless (sized types (g.ty ∷ init_types g.init) && not (passes_limit k (taken_with types k g))) true g.name) (unsized_globals types (taken_with types k g) gs) e in
    ap₂ (λ a b. a ++ b) h.0 (globals_sized types (taken_with types k g) gs h.1)

-- functions whose types have sizes
pub funcs_sized : (types : Types) (fs : List Func) → ((n : ℕ) (g : Func) → slice_get fs n ≡ Some g → sized types (func_types g) ≡ true)
    → flat_map (λ f. spelled_unless (sized types (func_types f)) true f.name) fs ≡ []
funcs_sized types [] h = refl
funcs_sized types (f ∷ fs) h = ap₂ (λ c l. spelled_unless c true f.name ++ l) (h 0 f refl) (funcs_sized types fs (λ n g e. h (suc n) g e))
