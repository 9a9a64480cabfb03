-- Example modules with marked instructions, written by hand.
use Rattle.std.specs.Prelude.{ℕ, true, false, List, [], ◌∷◌, ◌++◌, Some, None, codes}
use Rattle.ms_bits.specs.declared.operations.BinOp.TheVariants as binary
use Rattle.ms_bits.specs.declared.operations.CastOp.TheVariants as cast
use Rattle.ms_bits.specs.declared.operations.Pred.TheVariants as predicate
use Rattle.ms_ir.specs.declared.syntax.Decl.{Decl}
use Rattle.ms_ir.specs.declared.syntax.GlobalVar.{GlobalVar}
use Rattle.ms_ir.specs.declared.syntax.Init as init
use Rattle.ms_ir.specs.declared.syntax.Inst.{Inst}
use Rattle.ms_ir.specs.declared.syntax.Module.{Module}
use Rattle.ms_ir.specs.declared.syntax.Name.{Name}
use Rattle.ms_ir.specs.declared.syntax.Name.TheVariants.{Number}
use Rattle.ms_ir.specs.declared.syntax.Op.{Op}
use Rattle.ms_ir.specs.declared.syntax.Op.TheVariants as op
use Rattle.ms_ir.specs.declared.syntax.Operand.{Operand}
use Rattle.ms_ir.specs.declared.syntax.Operand.TheVariants as operand
use Rattle.ms_ir.specs.declared.syntax.Ty as ty
use Rattle.ms_ir.specs.Builders.{byte_at, i16, i1, i32, i64, array, local, int, undef, sets, does, binary as combine, icmp, convert, alloca, branch, ret, name, call, block, main_func, main_of}
use Rattle.ms_ir.specs.Declarations.{msan_size, msan_copy, msan_fill, calloc, msan_check, msan_check_memory, msan_check_string, msan_poison, msan_unpoison, msan_store_origin, msan_load_origin}

-- the name of the inserted result with these digits
abbrev pub inserted_name : List ℕ → Name
inserted_name digits = name (codes "__msan." ++ digits)

-- the operand that is such a result
abbrev pub inserted : List ℕ → Operand
inserted digits = operand.Local (inserted_name digits)

-- a marked instruction with such a result
abbrev pub inserts : List ℕ → Op → Inst
inserts digits o = record { op = o; result = Some (inserted_name digits); marked = true }

-- a marked instruction without a result
abbrev pub marked : Op → Inst
marked o = record { op = o; result = None; marked = true }

-- a marked call without a result
abbrev pub inserts_call : Decl → List Operand → Inst
inserts_call callee arguments = marked (call callee arguments)

-- eight zero bytes on the heap, at the address with the number 1; marked instructions; then `main` returns 0
abbrev pub on_heap : List Inst → Module
on_heap insts = main_of (sets 1 (call calloc (int 1 ∷ int 8 ∷ [])) ∷ (insts ++ does (ret (int 0)) ∷ [])) (calloc ∷ [])

-- those of the eight bytes with the numbers from one to below another are poisoned with an origin
abbrev pub poisons : ℕ → ℕ → ℕ → Inst
poisons from to origin = inserts_call msan_poison (local 1 ∷ int from ∷ int to ∷ int origin ∷ [])

-- a check of the eight bytes, of the kind 9, which says the site 77
abbrev pub looks : Inst
looks = inserts_call msan_check_memory (local 1 ∷ int 8 ∷ int 9 ∷ int 77 ∷ [])

-- a check of a mask, of the kind 1 and part 0, which says the site 3
abbrev pub checks : Operand → ℕ → Operand → Inst
checks mask width origin = inserts_call msan_check (mask ∷ int width ∷ origin ∷ int 1 ∷ int 0 ∷ int 3 ∷ [])

-- the first n of the eight bytes are clean
abbrev pub unpoisons : ℕ → Inst
unpoisons n = inserts_call msan_unpoison (local 1 ∷ int n ∷ [])

-- shadow and origins of the first n of the eight bytes are copied to the fifth and those after it
abbrev pub copies_up : ℕ → List Inst
copies_up n = inserts (codes "1") (byte_at (local 1) 4) ∷ inserts_call msan_copy (inserted (codes "1") ∷ local 1 ∷ int n ∷ []) ∷ []

-- the first n of the eight bytes are filled with a mask's low byte; the site is 5
abbrev pub fills : (n mask origin : ℕ) → Inst
fills n mask origin = inserts_call msan_fill (local 1 ∷ int n ∷ int mask ∷ int origin ∷ int 5 ∷ [])

-- the cells of those of the eight bytes that a mask names get an origin; the site is 5
abbrev pub stores_origin : (mask origin : ℕ) → Inst
stores_origin mask origin = inserts_call msan_store_origin (local 1 ∷ int mask ∷ int origin ∷ int 5 ∷ [])

-- a check of the string at the first of the eight bytes, which says the site 6
abbrev pub looks_at_string : Inst
looks_at_string = inserts_call msan_check_string (local 1 ∷ int 6 ∷ [])

-- a check of the mask 1 with the origin of the first of the eight bytes that a mask names
abbrev pub checks_loaded_origin : ℕ → List Inst
checks_loaded_origin mask =
    inserts (codes "1") (call msan_load_origin (local 1 ∷ int mask ∷ [])) ∷ checks (int 1) 1 (inserted (codes "1")) ∷ []

-- a check of the size of the heap block at an address, as if it were a mask
abbrev pub checks_size : Operand → List Inst
checks_size address = inserts (codes "1") (call msan_size (address ∷ [])) ∷ checks (inserted (codes "1")) 64 (int 0) ∷ []

-- the address of the shadow of the first of the eight bytes is the result with the digits 3
abbrev pub shadow_address : List Inst
shadow_address =
    inserts (codes "1") (convert cast.PtrToInt ty.Ptr (local 1) i64)
    ∷ inserts (codes "2") (combine binary.Xor i64 (inserted (codes "1")) (int 0x500000000000))
    ∷ inserts (codes "3") (convert cast.IntToPtr i64 (inserted (codes "2")) ty.Ptr) ∷ []

-- a check of the shadow of the first two of the eight bytes, which is loaded as one word
abbrev pub checks_loaded_shadow : List Inst
checks_loaded_shadow =
    shadow_address
    ++ inserts (codes "4") (op.Load i16 (inserted (codes "3"))) ∷ inserts (codes "5") (convert cast.Zext i16 (inserted (codes "4")) i64)
    ∷ checks (inserted (codes "5")) 16 (int 4) ∷ []

-- every runtime function on memory, with ranges that aren't good
abbrev pub bad_ranges : List Inst
bad_ranges =
    inserts_call msan_poison (operand.Null ∷ int 0 ∷ int 8 ∷ int 4 ∷ []) ∷ inserts_call msan_poison (local 1 ∷ int 4 ∷ int 9 ∷ int 4 ∷ [])
    ∷ inserts_call msan_unpoison (operand.Null ∷ int 8 ∷ []) ∷ inserts_call msan_copy (local 1 ∷ operand.Null ∷ int 8 ∷ [])
    ∷ inserts_call msan_fill (operand.Null ∷ int 8 ∷ int 255 ∷ int 4 ∷ int 5 ∷ []) ∷ inserts_call msan_check_memory (local 1 ∷ int 9 ∷ int 9 ∷ int 5 ∷ [])
    ∷ inserts_call msan_check_string (operand.Null ∷ int 5 ∷ []) ∷ inserts_call msan_store_origin (operand.Null ∷ int 255 ∷ int 4 ∷ int 5 ∷ []) ∷ []

-- the module `branch_on_unset` with a mask for each word and a check before its branch
abbrev pub branch_on_unset_checked : Module
branch_on_unset_checked = record {
  types = [];
  globals = [];
  decls = msan_poison ∷ msan_load_origin ∷ msan_check ∷ [];
  funcs = main_func (
      block 0 (
      sets 1 (alloca i32)
      ∷ inserts_call msan_poison (local 1 ∷ int 0 ∷ int 4 ∷ int 1 ∷ [])
      ∷ (shadow_address
      ++ inserts (codes "4") (op.Load i32 (inserted (codes "3"))) ∷ inserts (codes "5") (convert cast.Zext i32 (inserted (codes "4")) i64)
      ∷ inserts (codes "6") (call msan_load_origin (local 1 ∷ inserted (codes "5") ∷ []))
      ∷ sets 2 (op.Load i32 (local 1))
      ∷ inserts (codes "7") (combine binary.Xor i32 (local 2) (int 0)) ∷ inserts (codes "8") (combine binary.Or i32 (inserted (codes "7")) (inserted (codes "4")))
      ∷ inserts (codes "9") (icmp predicate.Eq i32 (inserted (codes "8")) (inserted (codes "4")))
      ∷ inserts (codes "10") (icmp predicate.Ne i32 (inserted (codes "4")) (int 0))
      ∷ inserts (codes "11") (combine binary.And i1 (inserted (codes "9")) (inserted (codes "10")))
      ∷ sets 3 (icmp predicate.Eq i32 (local 2) (int 0))
      ∷ inserts (codes "12") (convert cast.Zext i1 (inserted (codes "11")) i64)
      ∷ inserts_call msan_check (inserted (codes "12") ∷ int 1 ∷ inserted (codes "6") ∷ int 1 ∷ int 0 ∷ int 4 ∷ [])
      ∷ does (branch 3 4 5) ∷ []))
      ∷ block 4 (does (ret (int 0)) ∷ []) ∷ block 5 (does (ret (int 1)) ∷ []) ∷ []) ∷ [];
}

-- the slots as globals
abbrev pub slot_globals : List GlobalVar
slot_globals =
    record { name = name (codes "__msan_param_tls"); constant = false; ty = array 100 i64; init = init.Zero }
    ∷ record { name = name (codes "__msan_param_origin_tls"); constant = false; ty = array 100 i32; init = init.Zero }
    ∷ record { name = name (codes "__msan_retval_tls"); constant = false; ty = i64; init = init.Value (int 0) }
    ∷ record { name = name (codes "__msan_retval_origin_tls"); constant = false; ty = i32; init = init.Value (int 0) } ∷ []

-- the slot of a parameter's mask
abbrev pub mask_slot : ℕ → Operand
mask_slot n = operand.Offset (name (codes "__msan_param_tls")) ((i64, (i64, n) ∷ []) ∷ [])

-- the slot of a parameter's origin
abbrev pub origin_slot : ℕ → Operand
origin_slot n = operand.Offset (name (codes "__msan_param_origin_tls")) ((i32, (i64, n) ∷ []) ∷ [])

-- the slot of a result's mask
abbrev pub result_mask : Operand
result_mask = operand.Global (name (codes "__msan_retval_tls"))

-- the slot of a result's origin
abbrev pub result_origin : Operand
result_origin = operand.Global (name (codes "__msan_retval_origin_tls"))

-- a marked store to a slot
abbrev pub puts_slot : Operand → Operand → Inst
puts_slot v slot = marked (op.Store i32 v slot)

-- a marked load from a slot
abbrev pub gets_slot : List ℕ → Operand → Inst
gets_slot digits slot = inserts digits (op.Load i32 slot)

-- the module `nested_call` whose masks and origins go through the slots, with a check before its end
abbrev pub nested_call_checked : Module
nested_call_checked = record {
  types = [];
  globals = slot_globals;
  decls = msan_check ∷ [];
  funcs =
      record {
        name = name (codes "g");
        ret = Some i32;
        params = (i32, Number 0) ∷ (i32, Number 1) ∷ (i32, Number 2) ∷ [];
        blocks = block 3 (
            gets_slot (codes "1") (mask_slot 2) ∷ gets_slot (codes "2") (origin_slot 2)
            ∷ puts_slot (inserted (codes "1")) result_mask ∷ puts_slot (inserted (codes "2")) result_origin ∷ does (ret (local 2)) ∷ []) ∷ [];
      }
      ∷ main_func (block 0 (
      puts_slot (int 0xffffffff) (mask_slot 2) ∷ puts_slot (int 1) (origin_slot 2)
      ∷ sets 1 (op.Call (Some i32) (name (codes "g")) ((i32, int 1) ∷ (i32, int 2) ∷ (i32, undef) ∷ []))
      ∷ gets_slot (codes "1") result_mask ∷ gets_slot (codes "2") result_origin ∷ puts_slot (int 0) (mask_slot 2) ∷ puts_slot (int 0) (origin_slot 2)
      ∷ sets 2 (op.Call (Some i32) (name (codes "g")) ((i32, int 3) ∷ (i32, int 4) ∷ (i32, int 5) ∷ []))
      ∷ gets_slot (codes "3") result_mask ∷ gets_slot (codes "4") result_origin ∷ inserts (codes "5") (convert cast.Zext i32 (inserted (codes "1")) i64)
      ∷ inserts_call msan_check (inserted (codes "5") ∷ int 32 ∷ inserted (codes "2") ∷ int 8 ∷ int 0 ∷ int 4 ∷ [])
      ∷ does (ret (local 1)) ∷ []) ∷ [])
      ∷ [];
}

-- a module with the slots and marked instructions, at the end of which `main` returns 0
abbrev pub with_slots : List Inst → Module
with_slots insts = record {
  types = [];
  globals = slot_globals;
  decls = msan_check ∷ [];
  funcs = main_func (block 0 (insts ++ does (ret (int 0)) ∷ []) ∷ []) ∷ [];
}

-- a check of a word of 64 bits that a slot holds
abbrev pub checks_slot : Operand → List Inst
checks_slot slot = inserts (codes "1") (op.Load i64 slot) ∷ checks (inserted (codes "1")) 64 (int 4) ∷ []
