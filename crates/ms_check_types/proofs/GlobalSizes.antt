-- The bytes that globals take, one after the other.
use Rattle.std.proofs.Common.{◌≡◌, ◌<◌, ◌≤◌, ℕ, ◌+◌, ◌^◌, Bool, true, false, List, ◌∷◌, ◌++◌, Option, Some, None, refl, sym, ap, ◌∙◌, arith, length, drop, get_or, if◌then◌else◌, true≢false, drop_of_length-le}
use Rattle.std.specs.Prelude.{◌&&◌, not, nat_le, slice_get, is_some, option_map, option_and_then, unwrap_or}
use Rattle.std.proofs.lemmas.Bool.{le-leb, lt-leb, leb-true, and_parts}
use Rattle.std.proofs.lemmas.Option.{same_Some, none-some}
use Rattle.std.specs.List.{list_all}
use Rattle.ms_ir.specs.declared.syntax.GlobalVar.{GlobalVar}
use Rattle.ms_ir.specs.Names.{is_reserved}
use Rattle.ms_ir.specs.Areas.{room}
use Rattle.ms_ir.specs.Layout.{Extent, Types, size_of, size_in, extent_in}
use Rattle.ms_ir.specs.declared.syntax.Ty.{Ty}
use Rattle.ms_ir.specs.Locals.{Spelled}
use Rattle.ms_ir.specs.Written.{init_types}
use Rattle.ms_ir.proofs.Sizes.{drop_next}
use Rattle.ms_check_valid.specs.SizesFit.{sized, spelled_unless, taken_with, passes_limit, unsized_globals}
use Rattle.ms_check_types.specs.SizedParts.{has_sizes, taken_after}
use Rattle.ms_check_types.proofs.AllSized.{sized_each, size_itself}

-- a size that is answered is the whole size, and within the limit
pub size_known : (types : Types) (t : Ty) (s : ℕ) → Some s ≡ size_of types t → (s ≡ size_in types t) × (s ≤ 2 ^ 26)
size_known types t s h = by_extent (extent_in types t) h
  where
    by_test : (n : ℕ) (b : Bool) → nat_le n (2 ^ 26) ≡ b → Some s ≡ (if b then Some n else None) → (s ≡ n) × (s ≤ 2 ^ 26)
    by_test n true e k = let same : s ≡ n = same_Some s n k in let low : n ≤ 2 ^ 26 = leb-true n (2 ^ 26) e in (same, omega (arith, same, low))
    by_test n false e k = absurd (none-some s (sym k))

    by_extent : (o : Option Extent) → Some s ≡ option_and_then (λ whole. if nat_le whole.size (2 ^ 26) then Some whole.size else None) o
        → (s ≡ unwrap_or (option_map (λ whole. whole.size) o) 0) × (s ≤ 2 ^ 26)
    by_extent None k = absurd (none-some s (sym k))
    by_extent (Some e) k = by_test e.size (nat_le e.size (2 ^ 26)) refl k

-- ---- one more global

abbrev fits : Types → ℕ → GlobalVar → Bool
fits types taken g = sized types (g.ty ∷ init_types g.init) && not (passes_limit taken (taken_with types taken g))

pub without_sizes : (types : Types) (taken : ℕ) (g : GlobalVar) → sized types (g.ty ∷ init_types g.init) ≡ false → None ≡ taken_after types taken g
without_sizes types taken g h = ap (λ b. if b && not (passes_limit taken (taken_with types taken g)) then Some (taken_with types taken g) else None) (sym h)

pub without_size : (types : Types) (taken : ℕ) (g : GlobalVar) → sized types (g.ty ∷ init_types g.init) ≡ true → None ≡ size_of types g.ty → None ≡ taken_after types taken g
without_size types taken g h k =
    let parts : has_sizes types g.ty ≡ true = (and_parts (has_sizes types g.ty) (list_all (has_sizes types) (init_types g.init)) (sym (sized_each types (g.ty ∷ init_types g.init)) ∙ h)).0 in
    absurd (true≢false (sym (size_itself types g.ty parts) ∙ ap is_some (sym k)))

-- what is taken with one of the answered size
same_taken : (types : Types) (taken s after : ℕ) (g : GlobalVar) → Some s ≡ size_of types g.ty → after ≡ (if is_reserved g.name then taken else taken + room s)
    → after ≡ taken_with types taken g
same_taken types taken s after g h k = k ∙ ap (λ n. if is_reserved g.name then taken else taken + room n) (size_known types g.ty s h).0

limit_by : (types : Types) (taken after : ℕ) (g : GlobalVar) (low : Bool) → sized types (g.ty ∷ init_types g.init) ≡ true → taken ≤ 2 ^ 24 → after ≡ taken_with types taken g
    → nat_le after (2 ^ 24) ≡ low → taken_after types taken g ≡ (if low then Some after else None)
limit_by types taken after g low h t k e =
    let below : nat_le taken (2 ^ 24) ≡ true = le-leb taken (2 ^ 24) t in
    ap (λ b. if b && not (passes_limit taken (taken_with types taken g)) then Some (taken_with types taken g) else None) h
    ∙ ap (λ n. if not (passes_limit taken n) then Some n else None) (sym k)
    ∙ ap (λ b. if not (b && not (nat_le after (2 ^ 24))) then Some after else None) below
    ∙ ap (λ b. if not (not b) then Some after else None) e
    ∙ twice low
  where
    twice : (b : Bool) → (if not (not b) then Some after else None) ≡ (if b then Some after else None)
    twice true = refl
    twice false = refl

pub within_limit : (types : Types) (taken s after : ℕ) (g : GlobalVar) → sized types (g.ty ∷ init_types g.init) ≡ true → taken ≤ 2 ^ 24 → Some s ≡ size_of types g.ty
    → after ≡ (if is_reserved g.name then taken else taken + room s) → after ≤ 2 ^ 24 → Some after ≡ taken_after types taken g
within_limit types taken s after g h t k is low =
    sym (limit_by types taken after g true h t (same_taken types taken s after g k is) (le-leb after (2 ^ 24) low))

pub past_limit : (types : Types) (taken s after : ℕ) (g : GlobalVar) → sized types (g.ty ∷ init_types g.init) ≡ true → taken ≤ 2 ^ 24 → Some s ≡ size_of types g.ty
    → after ≡ (if is_reserved g.name then taken else taken + room s) → 2 ^ 24 < after → None ≡ taken_after types taken g
past_limit types taken s after g h t k is large =
    sym (limit_by types taken after g false h t (same_taken types taken s after g k is) (lt-leb after (2 ^ 24) large))

-- ---- the first fault among globals

abbrev pub first_global_from : Types → ℕ → List GlobalVar → ℕ → Option Spelled
first_global_from types taken gs i = slice_get (unsized_globals types taken (drop i gs)) 0

pub global_after : (types : Types) (taken after : ℕ) (gs : List GlobalVar) (i : ℕ) (g : GlobalVar) (whole : Option Spelled) → i < length gs → g ≡ get_or gs i g
    → Some after ≡ taken_after types taken g → first_global_from types taken gs i ≡ whole → first_global_from types after gs (i + 1) ≡ whole
global_after types taken after gs i g whole l is h w =
    by_test (fits types taken g) h (ap (λ ys. slice_get (unsized_globals types taken ys) 0) (sym (drop_next gs i g l is)) ∙ w)
  where
    by_test : (b : Bool) → Some after ≡ (if b then Some (taken_with types taken g) else None)
        → slice_get (spelled_unless b true g.name ++ unsized_globals types (taken_with types taken g) (drop (i + 1) gs)) 0 ≡ whole
        → first_global_from types after gs (i + 1) ≡ whole
    by_test true e k = ap (λ n. first_global_from types n gs (i + 1)) (same_Some after (taken_with types taken g) e) ∙ k
    by_test false e k = absurd (none-some after (sym e))

pub global_here : (types : Types) (taken : ℕ) (gs : List GlobalVar) (i : ℕ) (g : GlobalVar) (whole : Option Spelled) → i < length gs → g ≡ get_or gs i g
    → None ≡ taken_after types taken g → first_global_from types taken gs i ≡ whole → Some (record { global = true; name = g.name }) ≡ whole
global_here types taken gs i g whole l is h w =
    by_test (fits types taken g) h (ap (λ ys. slice_get (unsized_globals types taken ys) 0) (sym (drop_next gs i g l is)) ∙ w)
  where
    by_test : (b : Bool) → None ≡ (if b then Some (taken_with types taken g) else None)
        → slice_get (spelled_unless b true g.name ++ unsized_globals types (taken_with types taken g) (drop (i + 1) gs)) 0 ≡ whole
        → Some (record { global = true; name = g.name }) ≡ whole
    by_test true e k = absurd (none-some (taken_with types taken g) e)
    by_test false e k = k

pub no_global : (types : Types) (taken : ℕ) (gs : List GlobalVar) (i : ℕ) (whole : Option Spelled) → length gs ≤ i → first_global_from types taken gs i ≡ whole → None ≡ whole
no_global types taken gs i whole l h = ap (λ ys. slice_get (unsized_globals types taken ys) 0) (sym (drop_of_length-le gs l)) ∙ h
