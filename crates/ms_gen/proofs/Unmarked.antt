-- A module none of whose functions has a marked instruction has none.
use Rattle.std.proofs.Common.{◌≡◌, ℕ, zero, suc, Bool, true, false, List, [], ◌∷◌, refl, arith}
use Rattle.std.specs.Prelude.{All, not, drop, option_map, unwrap_or, slice_get}
use Rattle.std.specs.List.{list_all}
use Rattle.std.proofs.lemmas.Bool.{and_parts}
use Rattle.std.proofs.lemmas.List.Elements.{All-head, All-tail}
use Rattle.ms_ir.specs.declared.syntax.Inst.{Inst}
use Rattle.ms_ir.specs.declared.syntax.Block.{Block}
use Rattle.ms_ir.specs.declared.syntax.Func.{Func}
use Rattle.ms_ir.specs.declared.syntax.Module.{Module}
use Rattle.ms_ir.specs.Instructions.{is_unmarked, HeadUnmarked, NoMarks}

-- no instruction of a function is marked
abbrev pub all_unmarked : Func → Bool
all_unmarked f = list_all (λ b. list_all is_unmarked b.insts) f.blocks

in_insts : (insts : List Inst) (place : ℕ) → list_all is_unmarked insts ≡ true → HeadUnmarked (drop place insts)
in_insts [] zero h = tt
in_insts [] (suc place) h = tt
in_insts (i ∷ rest) zero h = by_mark i.marked refl (and_parts _ _ h).0
  where
    by_mark : (t : Bool) → i.marked ≡ t → not i.marked ≡ true → i.marked ≡ false
    by_mark t e k = grind (arith, e, k)
in_insts (i ∷ rest) (suc place) h = in_insts rest place (and_parts _ _ h).1

in_blocks : (blocks : List Block) (b place : ℕ) → list_all (λ k. list_all is_unmarked k.insts) blocks ≡ true
    → HeadUnmarked (drop place (unwrap_or (option_map (λ k. k.insts) (slice_get blocks b)) []))
in_blocks [] b place h = in_insts [] place refl
in_blocks (k ∷ rest) zero place h = in_insts k.insts place (and_parts _ _ h).0
in_blocks (k ∷ rest) (suc b) place h = in_blocks rest b place (and_parts _ _ h).1

in_funcs : (funcs : List Func) (n b place : ℕ) → All (λ f. all_unmarked f ≡ true) funcs
    → HeadUnmarked (drop place (unwrap_or (option_map (λ k. k.insts) (slice_get (unwrap_or (option_map (λ f. f.blocks) (slice_get funcs n)) []) b)) []))
in_funcs [] n b place h = in_blocks [] b place refl
in_funcs (f ∷ rest) zero b place h = in_blocks f.blocks b place (All-head (λ f. all_unmarked f ≡ true) f rest h)
in_funcs (f ∷ rest) (suc n) b place h = in_funcs rest n b place (All-tail (λ f. all_unmarked f ≡ true) f rest h)

pub no_marks : (m : Module) → All (λ f. all_unmarked f ≡ true) m.funcs → NoMarks m
no_marks m h = λ n b place. in_funcs m.funcs n b place h
