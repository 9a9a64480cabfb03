-- The first of lists, one after the other.
use Rattle.std.proofs.Common.{◌≡◌, ◌<◌, ℕ, ◌+◌, List, Option, Some, None, sym, ap, ◌∙◌, length, drop, get_or, Bool, true, false}
use Rattle.std.specs.Prelude.{flat_map, slice_get}
use Rattle.std.specs.Option.{option_or}
use Rattle.ms_ir.specs.declared.syntax.Name.{Name}
use Rattle.ms_ir.proofs.Sizes.{drop_next}
use Rattle.ms_check_valid.specs.ExternalsFit.{name_unless}
use Rattle.ms_check_tables.proofs.Items.{first-append}

-- the first that items give, from a place on
abbrev pub first_from : {A B : Type 0} → (A → List B) → List A → ℕ → Option B
first_from g items i = slice_get (flat_map g (drop i items)) 0

from_here : {A B : Type 0} (g : A → List B) (items : List A) (i : ℕ) (item : A) → i < length items → item ≡ get_or items i item
    → first_from g items i ≡ option_or (slice_get (g item) 0) (first_from g items (i + 1))
from_here g items i item below here = ap (λ r. slice_get (flat_map g r) 0) (drop_next items i item below here) ∙ first-append (g item) (flat_map g (drop (i + 1) items))

pub passed : {A B : Type 0} (g : A → List B) (items : List A) (i : ℕ) (item : A) (whole : Option B) → i < length items → item ≡ get_or items i item → slice_get (g item) 0 ≡ None
    → first_from g items i ≡ whole → first_from g items (i + 1) ≡ whole
passed g items i item whole below here none before = sym (from_here g items i item below here ∙ ap (λ r. option_or r (first_from g items (i + 1))) none) ∙ before

pub stopped : {A B : Type 0} (g : A → List B) (items : List A) (i : ℕ) (item : A) (found : B) (whole : Option B) → i < length items → item ≡ get_or items i item → slice_get (g item) 0 ≡ Some found
    → first_from g items i ≡ whole → Some found ≡ whole
stopped g items i item found whole below here some before = sym (from_here g items i item below here ∙ ap (λ r. option_or r (first_from g items (i + 1))) some) ∙ before

-- a name, where something holds, and where it doesn't
pub name_fits : (holds : Bool) (x : Name) → holds ≡ true → slice_get (name_unless holds x) 0 ≡ None
name_fits holds x h = ap (λ b. slice_get (name_unless b x) 0) h

pub name_bad : (holds : Bool) (x : Name) → holds ≡ false → slice_get (name_unless holds x) 0 ≡ Some x
name_bad holds x h = ap (λ b. slice_get (name_unless b x) 0) h
