-- Where globals stand, and what they hold first (LLVM Language Reference, "Global Variables" and "Constants"; own: the
-- order and places, and that undefined words of an initialiser are zero).
use Rattle.std.specs.Prelude.{ℕ, ◌+◌, ◌%◌, ◌^◌, Bool, List, [], ◌∷◌, length, map, get_or, if◌then◌else◌, Some, None}
use Rattle.ms_ir.specs.declared.syntax.Name.{Name}
use Rattle.ms_ir.specs.declared.syntax.Ty.{Ty}
use Rattle.ms_ir.specs.declared.syntax.Operand.{Operand}
use Rattle.ms_ir.specs.declared.syntax.Operand.TheVariants as operand
use Rattle.ms_ir.specs.declared.syntax.Init.{Init, Value, Zero, Array', Struct', Text, Row_of-Init-Array-0-2, end_of-Init-Array-0-2, more_of-Init-Array-0-2}
use Rattle.ms_ir.specs.declared.syntax.GlobalVar.{GlobalVar}
use Rattle.ms_ir.specs.declared.syntax.Module.{Module}
use Rattle.ms_ir.specs.Equal.{AddressStep}
use Rattle.ms_ir.specs.Names.{name_eq, lookup, slots, is_reserved}
use Rattle.ms_ir.specs.Instructions.{func_index}
use Rattle.ms_ir.specs.Layout.{Types, Extent, extent, width_of, stored_size, size_in, align_in, round_up, place_field, extended, indexed}
use Rattle.ms_ir.specs.Areas.{Fixed, area_base, room}
use Rattle.ms_runs.specs.World.{World}
use Rattle.ms_runs.specs.Memory.{make, store_number, set_bytes, next_base}

-- the address of a global, where the first one stands at an address: they stand one after the other in text order, and
-- those with reserved names take no room
abbrev pub address_from : Types → List GlobalVar → ℕ → Name → ℕ
address_from types [] at x = 0
address_from types (g ∷ rest) at x =
    if is_reserved g.name then address_from types rest at x else
    if name_eq g.name x then at else address_from types rest (at + room (size_in types g.ty)) x

-- what a name of a module that is no slot's stands for: a function's for its place, and another for the address of the global
abbrev pub own_address : Module → Name → ℕ
own_address m x = elim (func_index m.funcs x) [ Some f ↦ f % 2 ^ 64 | None ↦ address_from m.types m.globals (area_base Fixed) x ]

-- what a name stands for: a slot has an address of its own
abbrev pub address_of : Module → Name → ℕ
address_of m x = elim (lookup slots x) [ Some slot ↦ slot.0 | None ↦ own_address m x ]

-- constant indices, sign-extended to 64 bits
abbrev pub extended_indices : List (Ty × ℕ) → List ℕ
extended_indices indices = map (λ i. extended (width_of i.0) i.1) indices

-- the address to which constant steps lead from an address, the outermost first
abbrev pub stepped : Types → ℕ → List AddressStep → ℕ
stepped types base [] = base
stepped types base (s ∷ inner) = indexed types s.0 (stepped types base inner) (extended_indices s.1)

-- the number of an operand that names no result; undefined words are zero, which an initialiser alone asks for
abbrev pub constant : Types → (Name → ℕ) → Operand → ℕ
constant types address (operand.Int n) = n
constant types address operand.Null = 0
constant types address operand.Undef = 0
constant types address operand.Poison = 0
constant types address (operand.Local x) = 0
constant types address (operand.Global x) = address x
constant types address (operand.Offset x steps) = stepped types (address x) steps

-- an initialiser of a type, an array's items and a struct's fields, written from an address on into zero bytes
abbrev mutual
  pub write_init : Types → (Name → ℕ) → ℕ → Ty → Init → World → World
  write_init types address a t (Value o) world = store_number a (stored_size t) (constant types address o) world
  write_init types address a t Zero world = world
  write_init types address a t (Text bs) world = set_bytes a (length bs) (λ k. get_or bs k 0) world
  write_init types address a t (Array' shape items) world = write_items types address a items world
  write_init types address a t (Struct' packed shape fields) world = write_fields types address packed a (extent 0 1) fields world

  pub write_items : Types → (Name → ℕ) → ℕ → {n : _} → Row_of-Init-Array-0-2 n → World → World
  write_items types address a end_of-Init-Array-0-2 world = world
  write_items types address a (more_of-Init-Array-0-2 t init rest) world =
      write_items types address (a + size_in types t) rest (write_init types address a t init world)

  pub write_fields : Types → (Name → ℕ) → Bool → ℕ → Extent → {n : _} → Row_of-Init-Array-0-2 n → World → World
  write_fields types address packed a so_far end_of-Init-Array-0-2 world = world
  write_fields types address packed a so_far (more_of-Init-Array-0-2 t init rest) world =
      write_fields types address packed a (place_field packed so_far (extent (size_in types t) (align_in types t))) rest
      (write_init types address (a + (if packed then so_far.size else round_up so_far.size (align_in types t))) t init world)

-- the globals in text order, each an allocation with its initialiser's bytes; those with reserved names are none
abbrev pub make_globals : Types → (Name → ℕ) → List GlobalVar → World → World
make_globals types address [] world = world
make_globals types address (g ∷ rest) world =
    if is_reserved g.name then make_globals types address rest world else
    make_globals types address rest (write_init types address (next_base Fixed world) g.ty g.init (make Fixed (size_in types g.ty) world))
