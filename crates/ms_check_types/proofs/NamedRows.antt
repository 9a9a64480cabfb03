-- What stands beside a name in a table, by the first place of the name.
use Rattle.std.proofs.Common.{◌≡◌, ℕ, suc, List, [], ◌∷◌, map, Bool, true, false, Option, Some, None, is_some, Bor, option_copied, refl, sym, ap, ◌∙◌}
use Rattle.std.specs.Prelude.{option_map, if◌then◌else◌, ◌||◌, ◌&&◌, codes}
use Rattle.ms_ir.specs.declared.syntax.Name.{Name}
use Rattle.ms_ir.specs.declared.syntax.Name.TheVariants.{Text}
use Rattle.ms_ir.specs.declared.syntax.Ty.{Ty}
use Rattle.ms_ir.specs.declared.syntax.Decl.{Decl}
use Rattle.ms_ir.specs.declared.syntax.Func.{Func}
use Rattle.ms_ir.specs.declared.syntax.Module.{Module}
use Rattle.ms_ir.specs.Names.{name_eq, lookup}
use Rattle.ms_check_tables.specs.FirstPlace.{first_place, at_place}
use Rattle.ms_check_tables.proofs.Tied.{lookup_is}
use Rattle.ms_ir.specs.Equal.{has_name}
use Rattle.ms_ir.specs.Locals.{declared_names}
use Rattle.ms_check_valid.specs.TypesAgree.{is_printf, is_create}
use Rattle.ms_ir.specs.Signatures.{func_signature, decl_signature, defined_signature, declared_signature}

-- a table of two functions of the same things
pub lookup_by : {A B : Type 0} (k : A → Name) (v : A → B) (xs : List A) (x : Name) → lookup (map (λ a. (k a, v a)) xs) x ≡ option_map v (at_place xs (first_place (map k xs) x))
lookup_by k v [] x = refl
lookup_by {A} {B} k v (a ∷ xs) x = by_test (name_eq (k a) x) (first_place (map k xs) x) (lookup_by k v xs x)
  where
    by_test : (b : Bool) (o : Option ℕ) → lookup (map (λ c. (k c, v c)) xs) x ≡ option_map v (at_place xs o)
        → (if b then Some (v a) else lookup (map (λ c. (k c, v c)) xs) x) ≡ option_map v (at_place (a ∷ xs) (if b then Some 0 else option_map suc o))
    by_test true o e = refl
    by_test false None e = e
    by_test false (Some j) e = e

-- what a row of a table of names has beside its name
pub by_rows : {A B : Type 0} (k : A → Name) (v : A → B) (rows : List A) (names : List Name) (x : Name) (o : Option A)
    → names ≡ map k rows → o ≡ at_place rows (first_place names x) → option_map v o ≡ lookup (map (λ a. (k a, v a)) rows) x
by_rows k v rows names x o named is = ap (option_map v) (is ∙ ap (λ ns. at_place rows (first_place ns x)) named) ∙ sym (lookup_by k v rows x)

-- functions that are defined and declared
pub defined : (funcs : List Func) (names : List Name) (x : Name) (o : Option Func) → names ≡ map (λ f. f.name) funcs → o ≡ at_place funcs (first_place names x)
    → option_map func_signature o ≡ defined_signature funcs x
defined funcs names x o named is = by_rows (λ f. f.name) func_signature funcs names x o named is

pub declared : (decls : List Decl) (names : List Name) (x : Name) (o : Option Decl) → names ≡ map (λ d. d.name) decls → o ≡ at_place decls (first_place names x)
    → option_map decl_signature o ≡ declared_signature decls x
declared decls names x o named is = by_rows (λ d. d.name) decl_signature decls names x o named is

-- a function that is found
pub signature_copied : (r : Option (Bor Func)) → option_map (λ f. func_signature f.now) r ≡ option_map func_signature (option_copied r)
signature_copied None = refl
signature_copied (Some f) = refl

-- a name is declared where it has a signature
pub declared_known : (decls : List Decl) (x : Name) → has_name (map (λ d. d.name) decls) x ≡ is_some (declared_signature decls x)
declared_known [] x = refl
declared_known (d ∷ rest) x = by_test (name_eq d.name x) (declared_known rest x)
  where
    by_test : (b : Bool) → has_name (map (λ e. e.name) rest) x ≡ is_some (declared_signature rest x)
        → (b || has_name (map (λ e. e.name) rest) x) ≡ is_some (if b then Some (decl_signature d) else declared_signature rest x)
    by_test true e = refl
    by_test false e = e

-- the type that a name stands for
pub named_row : (rows : List (Name × Ty)) (names : List Name) (x : Name) (o : Option (Name × Ty)) → names ≡ map (λ r. r.0) rows → o ≡ at_place rows (first_place names x)
    → option_map (λ r. r.1) o ≡ lookup rows x
named_row rows names x o named is = ap (option_map (λ r. r.1)) (is ∙ ap (λ ns. at_place rows (first_place ns x)) named) ∙ sym (lookup_is rows x)

-- the `printf` that is declared
pub printf_known : (m : Module) (names : List Name) (x : Name) → names ≡ declared_names m → name_eq x (Text (codes "printf")) ≡ true → has_name names x ≡ is_printf m x
printf_known m names x named same =
    ap (λ ns. has_name ns x) named ∙ declared_known m.decls x ∙ sym (ap (λ b. b && is_some (declared_signature m.decls x)) same)

-- the `pthread_create` that is declared
pub create_known : (m : Module) (names : List Name) (x : Name) → names ≡ declared_names m → name_eq x (Text (codes "pthread_create")) ≡ true → has_name names x ≡ is_create m x
create_known m names x named same =
    ap (λ ns. has_name ns x) named ∙ declared_known m.decls x ∙ sym (ap (λ b. b && is_some (declared_signature m.decls x)) same)
