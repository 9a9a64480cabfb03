-- Looking up in a table with a function of what its rows have.
use Rattle.std.proofs.Common.{◌≡◌, ℕ, List, [], ◌∷◌, ◌++◌, Bool, true, false, Option, Some, None, map, option_map, is_some, refl, arith, if◌then◌else◌}
use Rattle.std.proofs.lemmas.Bool.{or_parts}
use Rattle.ms_ir.specs.declared.syntax.Name.{Name}
use Rattle.ms_ir.specs.declared.syntax.Name.TheVariants.{Number, Text}
use Rattle.ms_ir.specs.declared.rows.SignatureRow.{SignatureRow}
use Rattle.ms_ir.specs.declared.calls.External.{External}
use Rattle.ms_ir.specs.declared.calls.External.TheVariants.{Malloc, Calloc, Realloc, Free, Memcpy, Memmove, Memset, Memcmp, Strlen, Putchar, Puts, Getchar, Read, Write, Exit, Abort, LlvmMemcpy, LlvmMemmove, LlvmMemset, LifetimeStart, LifetimeEnd, Printf, LlvmTrap, LlvmAssume, LlvmObjectSize, PthreadCreate, PthreadJoin, SchedYield}
use Rattle.ms_ir.specs.declared.calls.RuntimeFn.{RuntimeFn}
use Rattle.ms_ir.specs.Names.{name_eq, lookup, external_name, word_externals, bit_moves, runtime_functions, is_reserved, is_kept}
use Rattle.ms_ir.specs.Rows.{by_name}

one_row : {A B : Type 0} (f : A → B) (here : Bool) (a : A) (late : Option B) (later : Option A) → late ≡ option_map f later → (if here then Some (f a) else late) ≡ option_map f (if here then Some a else later)
one_row f true a late later e = refl
one_row f false a late later e = e

pub lookup_map : {A B : Type 0} (f : A → B) (rows : List (Name × A)) (x : Name) → lookup (map (λ r. (r.0, f r.1)) rows) x ≡ option_map f (lookup rows x)
lookup_map f [] x = refl
lookup_map f (row ∷ rest) x = one_row f (name_eq row.0 x) row.1 _ _ (lookup_map f rest x)

-- looking up what the rows of a table have
pub lookup_of : {F A : Type 0} (k : SignatureRow F → A) (rows : List (SignatureRow F)) (x : Name) → lookup (map (λ r. (Text r.name.now, k r)) rows) x ≡ option_map k (lookup (by_name rows) x)
lookup_of k [] x = refl
lookup_of k (row ∷ rest) x = one_row k (name_eq (Text row.name.now) x) row _ _ (lookup_of k rest x)

-- whether a name has a row does not hang on what the row has
pub some_mapped : {A B : Type 0} (f : A → B) (a : Option A) → is_some a ≡ is_some (option_map f a)
some_mapped f None = refl
some_mapped f (Some a) = refl

-- looking up in two tables, one after the other
pub lookup_front : {A : Type 0} (rows rest : List (Name × A)) (x : Name) (a : A) → lookup rows x ≡ Some a → lookup (rows ++ rest) x ≡ Some a
lookup_front [] rest x a h = absurd cc
lookup_front (row ∷ rows) rest x a h = by_name (name_eq row.0 x) h (lookup_front rows rest x a)
  where
    by_name : (here : Bool) → (if here then Some row.1 else lookup rows x) ≡ Some a → (lookup rows x ≡ Some a → lookup (rows ++ rest) x ≡ Some a)
        → (if here then Some row.1 else lookup (rows ++ rest) x) ≡ Some a
    by_name true h later = h
    by_name false h later = later h

pub lookup_back : {A : Type 0} (rows rest : List (Name × A)) (x : Name) → lookup rows x ≡ None → lookup (rows ++ rest) x ≡ lookup rest x
lookup_back [] rest x h = refl
lookup_back (row ∷ rows) rest x h = by_name (name_eq row.0 x) h (lookup_back rows rest x)
  where
    by_name : (here : Bool) → (if here then Some row.1 else lookup rows x) ≡ None → (lookup rows x ≡ None → lookup (rows ++ rest) x ≡ lookup rest x)
        → (if here then Some row.1 else lookup (rows ++ rest) x) ≡ lookup rest x
    by_name true h later = absurd cc
    by_name false h later = later h

-- the externals that aren't functions of whole words
abbrev pub other_externals : List (Name × External)
other_externals =
    map (λ e. (external_name e, e))
    (Malloc ∷ Calloc ∷ Realloc ∷ Free ∷ Memcpy ∷ Memmove ∷ Memset ∷ Memcmp ∷ Strlen ∷ Putchar ∷ Puts ∷ Getchar ∷ Read ∷ Write ∷ Exit ∷ Abort ∷ LlvmMemcpy ∷ LlvmMemmove
    ∷ LlvmMemset ∷ LifetimeStart ∷ LifetimeEnd ∷ Printf ∷ LlvmTrap ∷ LlvmAssume ∷ LlvmObjectSize ∷ PthreadCreate ∷ PthreadJoin ∷ SchedYield ∷ [])

-- no function of whole words has a number as its name
pub no_word_number : (n : ℕ) → lookup word_externals (Number n) ≡ None
unfolding word_externals
no_word_number n = refl

-- nor has one that moves bits
pub no_move_number : (n : ℕ) → lookup bit_moves (Number n) ≡ None
unfolding bit_moves
no_move_number n = refl

-- ---- names that no function of a module has

no_row : (o : Option RuntimeFn) → is_some o ≡ false → o ≡ None
no_row None e = refl
no_row (Some f) e = grind arith

-- a name that isn't kept is neither reserved nor that of what marked calls reach
pub not_kept : (x : Name) → is_kept x ≡ false → (is_reserved x ≡ false) × (lookup runtime_functions x ≡ None)
unfolding is_kept
not_kept x e = let both = or_parts (is_reserved x) (is_some (lookup runtime_functions x)) e in (both.0, no_row (lookup runtime_functions x) both.1)
