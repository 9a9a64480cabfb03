-- Which names may stand where (LLVM Language Reference, "Identifiers"; own: reserved names, and that globals have no
-- numbers).
use Rattle.std.specs.Prelude.{ℕ, ◌+◌, ◌^◌, Bool, true, false, not, ◌&&◌, ◌||◌, nat_eq, nat_lt, List, [], ◌∷◌, filter_map, Option, Some, None, is_some}
use Rattle.std.specs.List.{list_all}
use Rattle.ms_ir.specs.declared.syntax.Name.{Name}
use Rattle.ms_ir.specs.declared.syntax.Name.TheVariants.{Number, Text}
use Rattle.ms_ir.specs.Names.{lookup, runtime_functions, slots, is_reserved, is_inserted_name}

-- numbers below 256
abbrev pub are_bytes : List ℕ → Bool
are_bytes text = list_all (λ b. nat_lt b 256) text

-- a name spelled with `%`: a number of 32 bits, or bytes; a reserved one is `__msan.K`
abbrev pub is_local_name : Name → Bool
is_local_name (Number n) = nat_lt n (2 ^ 32)
is_local_name (Text x) = are_bytes x && (not (is_reserved (Text x)) || is_inserted_name (Text x))

-- a name spelled with `@`: bytes; a reserved one is a runtime function's or a slot's
abbrev pub is_global_name : Name → Bool
is_global_name (Number n) = false
is_global_name (Text x) =
    are_bytes x && (not (is_reserved (Text x)) || is_some (lookup runtime_functions (Text x)) || is_some (lookup slots (Text x)))

-- the number that a name is, if it is one
abbrev pub name_number : Name → Option ℕ
name_number (Number n) = Some n
name_number (Text x) = None

-- the next numbers from k on
abbrev pub count_up : ℕ → List ℕ → Bool
count_up k [] = true
count_up k (n ∷ rest) = nat_eq n k && count_up (k + 1) rest

-- the numbers among names are 0 and those after it, as they stand
abbrev pub are_numbered : List Name → Bool
are_numbered names = count_up 0 (filter_map name_number names)
