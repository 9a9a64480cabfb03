-- Which debug record declares the variable that an instruction makes room for or stores to ("Source Level Debugging with LLVM", "Debug
-- Records": the first operand of `#dbg_declare` is the address of the variable). Everything here is total: what isn't there is empty.
use Rattle.std.specs.Prelude.{ℕ, ◌+◌, Bool, true, false, ◌&&◌, ◌==◌, nat_le, if◌then◌else◌, length, take, count_by, Option, Some, None, codes}
use Rattle.std.specs.Option.{option_map, option_and_then}
use Rattle.std.specs.Str.{bytes_eq}
use Rattle.ms_lex.specs.Tokens.{Text}
use Rattle.ms_where_places.specs.declared.marks.MarkKind.{MarkKind}
use Rattle.ms_where_places.specs.declared.marks.MarkKind.TheVariants as k
use Rattle.ms_where_places.specs.declared.marks.Mark.{Mark}
use Rattle.ms_where_places.specs.Told.{Told, spelling_at, mark_at}
use Rattle.ms_where.specs.VariableChoices.{first_below, last_below}

abbrev pub is_spelled : Told → Text → ℕ → Bool
is_spelled d word n = bytes_eq (spelling_at d n) word

-- ---- the local that an instruction is about

-- `%x = alloca ..`
abbrev pub makes_room : Told → Mark → Bool
makes_room d m = is_spelled d (codes "=") (m.first + 1) && is_spelled d (codes "alloca") (m.first + 2)

-- the last of a mark's tokens that is spelled `ptr`
abbrev pub last_ptr : Told → Mark → Option ℕ
last_ptr d m = last_below (λ n. nat_le m.first n && is_spelled d (codes "ptr") n) m.after

-- the token after it
abbrev pub after_ptr : Told → Mark → Option ℕ
after_ptr d m = option_map (λ n. n + 1) (last_ptr d m)

-- where `store .. ptr %x ..` stores
abbrev pub stored_at : Told → Mark → Option Text
stored_at d m = if is_spelled d (codes "store") m.first then option_map (spelling_at d) (after_ptr d m) else None

abbrev pub local_by : MarkKind → Told → Mark → Option Text
local_by k.Instruction d m = if makes_room d m then Some (spelling_at d m.first) else stored_at d m
local_by kind d m = None

-- the local that an instruction makes room for or stores to
abbrev pub local_of : Told → Mark → Option Text
local_of d m = local_by m.kind d m

-- ---- the local that a record declares

abbrev pub declared_by : MarkKind → Told → Mark → Option Text
declared_by k.Record d m = if is_spelled d (codes "#dbg_declare") m.first then Some (spelling_at d (m.first + 3)) else None
declared_by kind d m = None

-- the address of the variable in `#dbg_declare(ptr %x, ..)`
abbrev pub declared_in : Told → Mark → Option Text
declared_in d m = declared_by m.kind d m

-- ---- the record of an instruction

abbrev pub is_function : MarkKind → Bool
is_function k.Function = true
is_function kind = false

-- The function that a place among the marks lies in, by the number of those that end before it: the mark of a function stands
-- after those of its lines.
abbrev pub function_at : Told → ℕ → ℕ
function_at d place = count_by (λ m. is_function m.kind) (take place d.marks)

abbrev pub is_local : Text → Option Text → Bool
is_local local None = false
is_local local (Some other) = bytes_eq other local

-- the mark at this place is a record in this function, and declares the variable at this local
abbrev pub declares : Told → (function : ℕ) → Text → (place : ℕ) → Bool
declares d function local place = (function_at d place == function) && is_local local (option_and_then (declared_in d) (mark_at d place))

-- the first of them
abbrev pub record_in : Told → (function : ℕ) → Text → Option ℕ
record_in d function local = first_below (declares d function local) (length d.marks)

-- The place among the marks of the record that declares the variable which the instruction at this place is about: the first
-- one of its function that declares it.
abbrev pub record_of : Told → (place : ℕ) → Option ℕ
record_of d place = option_and_then (record_in d (function_at d place)) (option_and_then (local_of d) (mark_at d place))
