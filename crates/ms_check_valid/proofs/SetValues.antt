-- What an instruction of a valid module uses is set when its turn comes.
use Rattle.std.proofs.Common.{◌≡◌, ℕ, zero, suc, List, [], ◌∷◌, ◌++◌, false, refl, subst, arith, inl, inr, ⊎_elim}
use Rattle.std.specs.Prelude.{All, Contains, length, flat_map, Some, slice_get}
use Rattle.ms_ir.specs.declared.syntax.Name.{Name}
use Rattle.ms_ir.specs.declared.syntax.Ty.{Ty}
use Rattle.ms_ir.specs.declared.syntax.Operand.{Operand}
use Rattle.ms_ir.specs.declared.syntax.Operand.TheVariants as operand
use Rattle.ms_ir.specs.declared.syntax.Op.{Op}
use Rattle.ms_ir.specs.declared.syntax.Op.TheVariants as op
use Rattle.ms_ir.specs.declared.syntax.Inst.{Inst}
use Rattle.ms_ir.specs.declared.syntax.Func.{Func}
use Rattle.ms_ir.specs.declared.syntax.Module.{Module}
use Rattle.ms_ir.specs.Instructions.{operands, func_at, insts_at, site_at, block_index, is_phi}
use Rattle.ms_ir.specs.Spots.{Spot, spot}
use Rattle.ms_check_valid.specs.Paths.{ValueUse, Path, IsDefined, insts_of, IsSet}
use Rattle.ms_check_valid.specs.UsesDefined.{operand_use, edge_use, inst_uses, IsUseDefined}
use Rattle.ms_check_valid.specs.Valid.{Valid}
use Rattle.ms_check_valid.proofs.AtInstructions.{all_parts, fits_at}

-- what holds of all that items of a list give holds of what one of them gives
all_of : {A B : Type 0} (P : B → Type 0) (f : A → List B) (xs : List A) (x : A) → Contains xs x → All P (flat_map f xs) → All P (f x)
all_of P f [] x h all = absurd (omega (arith, h.1))
all_of P f (y ∷ rest) x (zero, l, e) all = subst (λ z. All P (f z)) e (all_parts P (f y) (flat_map f rest) all).0
all_of P f (y ∷ rest) x (suc k, l, e) all = all_of P f rest x (k, omega arith, e) (all_parts P (f y) (flat_map f rest) all).1

-- the uses of an instruction that is no phi
plain_uses : (at : Spot) (o : Op) → is_phi o ≡ false → inst_uses at o ≡ flat_map (λ a. operand_use at at.block at.place a.1) (operands o)
plain_uses at (op.Phi t edges) e = grind arith
plain_uses at o e = refl

-- a use that is defined is set on each path that comes to it
set_on_path : (f : Func) (u : ValueUse) (before : List ℕ) → IsDefined f u → Path f (before ++ u.block ∷ []) → IsSet f before u.block u.place u.name
set_on_path f u before d p = ⊎_elim (λ own. inl own) (λ all. inr (all before p)) d

-- an operand of an instruction that is no phi is set on each path that comes to it
pub operand_set : (m : Module) → Valid m → (n b p : ℕ) (f : Func) (inst : Inst) → func_at m n ≡ Some f → slice_get (insts_at m n b) p ≡ Some inst → is_phi inst.op ≡ false
    → (t : Ty) (x : Name) → Contains (operands inst.op) (t, operand.Local x) → (before : List ℕ) → Path f (before ++ b ∷ []) → IsSet f before b p x
operand_set m v n b p f inst at due plain t x has before path =
    let here = spot f b p (site_at m n b p) in
    let all = subst (All IsUseDefined) (plain_uses here inst.op plain) (fits_at m v n b p f inst at due).uses_defined in
    let one = all_of IsUseDefined (λ a. operand_use here b p a.1) (operands inst.op) (t, operand.Local x) has all in
    let u : ValueUse = record { block = b; place = p; name = x } in
    set_on_path f u before (one 0 (record { func = f; site = site_at m n b p; value = u }) (omega arith)) path

-- a phi's operand is set at the end of the block that it names, on each path that comes there
pub edge_set : (m : Module) → Valid m → (n b p : ℕ) (f : Func) (inst : Inst) → func_at m n ≡ Some f → slice_get (insts_at m n b) p ≡ Some inst
    → (t : Ty) (edges : List (Operand × Name)) → inst.op ≡ op.Phi t edges → (x from : Name) → Contains edges (operand.Local x, from)
    → (before : List ℕ) → Path f (before ++ block_index f.blocks from ∷ [])
    → IsSet f before (block_index f.blocks from) (length (insts_of f (block_index f.blocks from))) x
edge_set m v n b p f inst at due t edges is x from has before path =
    let here = spot f b p (site_at m n b p) in
    let all = subst (λ o. All IsUseDefined (inst_uses here o)) is (fits_at m v n b p f inst at due).uses_defined in
    let one = all_of IsUseDefined (edge_use here) edges (operand.Local x, from) has all in
    let u : ValueUse = record { block = block_index f.blocks from; place = length (insts_of f (block_index f.blocks from)); name = x } in
    set_on_path f u before (one 0 (record { func = f; site = site_at m n b p; value = u }) (omega arith)) path
