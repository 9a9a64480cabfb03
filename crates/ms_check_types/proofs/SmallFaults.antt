-- The number of an operand at fault is at most the number of operands.
use Rattle.std.proofs.Common.{◌≡◌, ℕ, suc, ◌+◌, ◌<◌, ◌≤◌, ◌^◌, List, [], ◌∷◌, ◌++◌, length, Bool, true, false, Option, Some, None, sym, ap, arith}
use Rattle.std.specs.Prelude.{IfSome, slice_get, take, drop, if◌then◌else◌, ◌&&◌}
use Rattle.std.specs.List.{list_all}
use Rattle.std.specs.Option.{option_or}
use Rattle.std.proofs.lemmas.Option.{none-some}
use Rattle.ms_ir.specs.declared.syntax.Name.{Name}
use Rattle.ms_ir.specs.declared.syntax.Ty.{Ty, Ptr}
use Rattle.ms_ir.specs.declared.syntax.Operand.{Operand}
use Rattle.ms_ir.specs.declared.syntax.Op.{Op}
use Rattle.ms_ir.specs.declared.syntax.Op.TheVariants as op
use Rattle.ms_ir.specs.declared.syntax.Inst.{Inst}
use Rattle.ms_ir.specs.declared.syntax.Block.{Block}
use Rattle.ms_ir.specs.declared.syntax.Func.{Func}
use Rattle.ms_ir.specs.declared.syntax.Module.{Module}
use Rattle.ms_ir.specs.Instructions.{operands, one_unmarked, over_insts, over_blocks, over_funcs}
use Rattle.ms_ir.specs.Equal.{has_name, type_eq, result_type_eq}
use Rattle.ms_ir.specs.Layout.{Types, resolved, part_type}
use Rattle.ms_ir.specs.Locals.{block_names}
use Rattle.ms_ir.specs.Signatures.{Signature, signature_of}
use Rattle.ms_ir.specs.Spots.{Spot, spot, next_spot, over_spots, over_block_spots, over_func_spots}
use Rattle.ms_ir.specs.Written.{targets}
use Rattle.ms_check_valid.specs.Formed.{count_written}
use Rattle.ms_check_valid.specs.TypesAgree.{first_misfit, fault_unless, leads_into, number_or_zero, first_misstep, cast_allows, differ, returns_fit, argument_fault, fits_call, is_printable, printf_fault, is_printf, call_fault, op_fault, at_site}
use Rattle.ms_check_types.specs.Bodies.{fits_within, fault_within}
use Rattle.ms_check_types.specs.Faults.{inst_faults, code_faults}

-- a number that is at most another, if there is one
abbrev most : ℕ → Option ℕ → Type 0
most n o = IfSome o (λ k. k ≤ n)

or_most : (n : ℕ) (a b : Option ℕ) → most n a → most n b → most n (option_or a b)
or_most n None b p q = q
or_most n (Some k) b p q = p

unless_most : (n : ℕ) (holds : Bool) → most n (fault_unless holds)
unless_most n true = record {}
unless_most n false = omega arith

module _ (fits : Ty × Operand → Bool) where
  misfit_most : (n k : ℕ) (xs : List (Ty × Operand)) → k + length xs ≤ suc n → most n (first_misfit fits k xs)
  misfit_most n k [] l = record {}
  misfit_most n k (x ∷ xs) l = by_test (fits x) (misfit_most n (suc k) xs (omega arith))
    where
      by_test : (b : Bool) → most n (first_misfit fits (suc k) xs) → most n (if b then first_misfit fits (suc k) xs else Some k)
      by_test true rest = rest
      by_test false rest = omega arith

  misstep_most : (n : ℕ) (types : Types) (t : Ty) (k : ℕ) (xs : List (Ty × Operand)) → k + length xs ≤ suc n → most n (first_misstep fits types t k xs)
  misstep_most n types t k [] l = record {}
  misstep_most n types t k (x ∷ xs) l =
      by_test (fits x && leads_into (resolved types t) x) (misstep_most n types (part_type (resolved types t) (number_or_zero x.1)) (suc k) xs (omega arith))
    where
      by_test : (b : Bool) → most n (first_misstep fits types (part_type (resolved types t) (number_or_zero x.1)) (suc k) xs)
          → most n (if b then first_misstep fits types (part_type (resolved types t) (number_or_zero x.1)) (suc k) xs else Some k)
      by_test true rest = rest
      by_test false rest = omega arith

  gep_most : (types : Types) (t : Ty) (base : Operand) (xs : List (Ty × Operand))
      → most (suc (length xs)) (option_or (first_misfit fits 0 ((Ptr, base) ∷ take 1 xs)) (first_misstep fits types t 2 (drop 1 xs)))
  gep_most types t base [] = or_most 1 (first_misfit fits 0 ((Ptr, base) ∷ [])) None (misfit_most 1 0 ((Ptr, base) ∷ []) (omega arith)) (record {})
  gep_most types t base (x ∷ xs) =
      or_most (suc (length (x ∷ xs))) (first_misfit fits 0 ((Ptr, base) ∷ x ∷ [])) (first_misstep fits types t 2 xs)
      (misfit_most (suc (length (x ∷ xs))) 0 ((Ptr, base) ∷ x ∷ []) (omega arith)) (misstep_most (suc (length (x ∷ xs))) types t 2 xs (omega arith))

misfit_of : (fits : Ty × Operand → Bool) (xs : List (Ty × Operand)) → most (length xs) (first_misfit fits 0 xs)
misfit_of fits xs = misfit_most fits (length xs) 0 xs (omega arith)

printf_most : (fits : Ty × Operand → Bool) (xs : List (Ty × Operand)) → most (length xs) (printf_fault fits xs)
printf_most fits [] = omega arith
printf_most fits (x ∷ xs) = by_test (type_eq x.0 Ptr && fits x)
  where
    by_test : (b : Bool) → most (suc (length xs)) (if b then first_misfit (λ y. is_printable y.0 && fits y) 1 xs else Some 0)
    by_test true = misfit_most (λ y. is_printable y.0 && fits y) (suc (length xs)) 1 xs (omega arith)
    by_test false = omega arith

argument_most : (fits : ℕ → Ty × Operand → Bool) (n k : ℕ) (ts : List Ty) (xs : List (Ty × Operand)) → k + length xs ≤ n → most n (argument_fault fits k ts xs)
argument_most fits n k [] [] l = record {}
argument_most fits n k [] (x ∷ xs) l = omega arith
argument_most fits n k (t ∷ ts) [] l = omega arith
argument_most fits n k (t ∷ ts) (x ∷ xs) l = by_test (type_eq x.0 t && fits k x) (argument_most fits n (suc k) ts xs (omega arith))
  where
    by_test : (b : Bool) → most n (argument_fault fits (suc k) ts xs) → most n (if b then argument_fault fits (suc k) ts xs else Some k)
    by_test true rest = rest
    by_test false rest = omega arith

call_most : (m : Module) (fits : Ty × Operand → Bool) (s : Option Signature) (ret : Option Ty) (callee : Name) (xs : List (Ty × Operand)) → most (length xs) (call_fault m fits s ret callee xs)
call_most m fits None ret callee xs = or_most (length xs) (first_misfit fits 0 xs) (Some 0) (misfit_of fits xs) (omega arith)
call_most m fits (Some s) ret callee xs =
    or_most (length xs) (if is_printf m callee then printf_fault fits xs else argument_fault (fits_call m fits callee) 0 s.params xs) (fault_unless (result_type_eq ret s.ret)) (by_test (is_printf m callee))
    (unless_most (length xs) (result_type_eq ret s.ret))
  where
    by_test : (b : Bool) → most (length xs) (if b then printf_fault fits xs else argument_fault (fits_call m fits callee) 0 s.params xs)
    by_test true = printf_most fits xs
    by_test false = argument_most (fits_call m fits callee) (length xs) 0 s.params xs (omega arith)

module _ (m : Module) (f : Func) (fits : Ty × Operand → Bool) where
  plain_most : (o : Op) → most (length (operands o)) (option_or (first_misfit fits 0 (operands o)) (fault_unless (list_all (has_name (block_names f)) (targets o))))
  plain_most o =
      or_most (length (operands o)) (first_misfit fits 0 (operands o)) (fault_unless (list_all (has_name (block_names f)) (targets o))) (misfit_of fits (operands o))
      (unless_most (length (operands o)) (list_all (has_name (block_names f)) (targets o)))

  op_most : (o : Op) → most (length (operands o)) (op_fault m f fits o)
  op_most (op.Cast o flags from a to) =
      or_most 1 (first_misfit fits 0 ((from, a) ∷ [])) (fault_unless (cast_allows o from to)) (misfit_of fits ((from, a) ∷ [])) (unless_most 1 (cast_allows o from to))
  op_most (op.Gep t base indices) = gep_most fits m.types t base indices
  op_most (op.Call ret callee args) = call_most m fits (signature_of m callee) ret callee args
  op_most (op.Switch t v other cases) =
      let known = differ cases && list_all (has_name (block_names f)) (targets (op.Switch t v other cases)) in
      or_most 1 (first_misfit fits 0 ((t, v) ∷ [])) (fault_unless known) (misfit_of fits ((t, v) ∷ [])) (unless_most 1 known)
  op_most (op.Ret v) = unless_most (length (operands (op.Ret v))) (returns_fit fits f.ret v)
  op_most (op.Binary o flags t a b) = plain_most (op.Binary o flags t a b)
  op_most (op.Icmp p flags t a b) = plain_most (op.Icmp p flags t a b)
  op_most (op.Select c t a b) = plain_most (op.Select c t a b)
  op_most (op.Freeze t a) = plain_most (op.Freeze t a)
  op_most (op.Phi t edges) = plain_most (op.Phi t edges)
  op_most (op.Alloca t u count) = plain_most (op.Alloca t u count)
  op_most (op.Load t addr) = plain_most (op.Load t addr)
  op_most (op.Store t v addr) = plain_most (op.Store t v addr)
  op_most (op.Br to) = plain_most (op.Br to)
  op_most (op.CondBr c to other) = plain_most (op.CondBr c to other)
  op_most op.Unreachable = plain_most op.Unreachable

-- ---- in the order of the text

-- the first of some faults is at an operand whose number is below another
abbrev First : ℕ → List (ℕ × ℕ) → Type 0
First n faults = IfSome (slice_get faults 0) (λ x. x.1 < n)

joined : (n : ℕ) (xs ys : List (ℕ × ℕ)) → First n xs → First n ys → First n (xs ++ ys)
joined n [] ys p q = q
joined n (x ∷ xs) ys p q = p

raised : (n k : ℕ) (xs : List (ℕ × ℕ)) → n ≤ k → First n xs → First k xs
raised n k [] l p = record {}
raised n k (x ∷ xs) l p = omega arith

at_most : (n site : ℕ) (o : Option ℕ) → most n o → First (suc n) (at_site site o)
at_most n site None p = record {}
at_most n site (Some k) p = omega arith

module _ (m : Module) where
  insts_first : (at : Spot) (insts : List Inst) → First (over_insts count_written insts) (over_spots (inst_faults m) at insts)
  insts_first at [] = record {}
  insts_first at (inst ∷ rest) =
      let here = at_most (length (operands inst.op)) at.site (fault_within m at.func inst.op) (op_most m at.func (fits_within m at.func) inst.op) in
      joined (over_insts count_written (inst ∷ rest)) (inst_faults m at inst) (over_spots (inst_faults m) (next_spot at inst) rest)
      (raised (count_written inst) (over_insts count_written (inst ∷ rest)) (inst_faults m at inst) (omega arith) here)
      (raised (over_insts count_written rest) (over_insts count_written (inst ∷ rest)) (over_spots (inst_faults m) (next_spot at inst) rest) (omega arith) (insts_first (next_spot at inst) rest))

  blocks_first : (f : Func) (block site : ℕ) (blocks : List Block) → First (over_blocks count_written blocks) (over_block_spots (inst_faults m) f block site blocks)
  blocks_first f block site [] = record {}
  blocks_first f block site (b ∷ rest) =
      let later = over_block_spots (inst_faults m) f (block + 1) (site + over_insts one_unmarked b.insts) rest in
      joined (over_blocks count_written (b ∷ rest)) (over_spots (inst_faults m) (spot f block 0 site) b.insts) later
      (raised (over_insts count_written b.insts) (over_blocks count_written (b ∷ rest)) (over_spots (inst_faults m) (spot f block 0 site) b.insts) (omega arith) (insts_first (spot f block 0 site) b.insts))
      (raised (over_blocks count_written rest) (over_blocks count_written (b ∷ rest)) later (omega arith) (blocks_first f (block + 1) (site + over_insts one_unmarked b.insts) rest))

  funcs_first : (site : ℕ) (funcs : List Func) → First (over_funcs count_written funcs) (over_func_spots (λ f. []) (inst_faults m) site funcs)
  funcs_first site [] = record {}
  funcs_first site (f ∷ rest) =
      let later = over_func_spots (λ g. []) (inst_faults m) (site + over_blocks one_unmarked f.blocks) rest in
      joined (over_funcs count_written (f ∷ rest)) (over_block_spots (inst_faults m) f 0 site f.blocks) later
      (raised (over_blocks count_written f.blocks) (over_funcs count_written (f ∷ rest)) (over_block_spots (inst_faults m) f 0 site f.blocks) (omega arith) (blocks_first f 0 site f.blocks))
      (raised (over_funcs count_written rest) (over_funcs count_written (f ∷ rest)) later (omega arith) (funcs_first (site + over_blocks one_unmarked f.blocks) rest))

abbrev second_of : Option (ℕ × ℕ) → ℕ
second_of None = 0
second_of (Some x) = x.1

-- the first mismatch of instructions is at an operand with a small number
pub small_operand : (source m : Module) (x : ℕ × ℕ) → over_funcs count_written m.funcs < 2 ^ 30 → Some x ≡ slice_get (code_faults source m) 0 → x.1 < 2 ^ 30
small_operand source m x few is = by_first (slice_get (code_faults source m) 0) (funcs_first source 1 m.funcs) is
  where
    by_first : (o : Option (ℕ × ℕ)) → IfSome o (λ y. y.1 < over_funcs count_written m.funcs) → Some x ≡ o → x.1 < 2 ^ 30
    by_first None p e = absurd (none-some x (sym e))
    by_first (Some y) p e = let same : x.1 ≡ y.1 = ap second_of e in omega arith
