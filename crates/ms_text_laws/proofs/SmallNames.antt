-- Names that are read are short, and those of a plain text are not reserved.
use Rattle.std.proofs.Common.{◌≡◌, ℕ, Bool, true, false, not, ◌&&◌, List, [], ◌∷◌, ◌++◌, flat_map, map, length, Ok, refl, subst, ap, ◌∙◌, arith}
use Rattle.std.specs.Prelude.{nat_le}
use Rattle.std.specs.List.{list_all}
use Rattle.std.proofs.lemmas.Bool.{ltb-true, le-leb, and_parts, and_from}
use Rattle.std.proofs.lemmas.List.Folds.{list_all-append, list_all-map}
use Rattle.ms_lex.specs.Tokens.{Text}
use Rattle.ms_lex.specs.Numbers.{decimal}
use Rattle.ms_ir.specs.declared.syntax.Name.{Name}
use Rattle.ms_ir.specs.declared.syntax.Name.TheVariants as name
use Rattle.ms_ir.specs.Names.{is_reserved}
use Rattle.ms_ir.specs.Written.{Mention}
use Rattle.ms_ir.specs.declared.forms.Form.{Form}
use Rattle.ms_ir.specs.declared.forms.Form.TheVariants.{Plain, Instrumented}
use Rattle.ms_text_grammar.specs.declared.symbols.Symbol.{Symbol}
use Rattle.ms_text_grammar.specs.declared.symbols.Symbol.TheVariants as s
use Rattle.ms_text_grammar.specs.Lexemes.{Lexeme, name_in}
use Rattle.ms_text_grammar.specs.Names.{reserved_global, reserved_local, name_fits, text_name, local_name, global_name, number_name, local_by, global_by, local, global}
use Rattle.ms_check_valid.specs.ReadLimits.{is_short, mentioned}
use Rattle.ms_text_laws.proofs.Sound.{no_value, same_value, if_good, if_else}
use Rattle.ms_text_laws.proofs.Brings.{Brings, judged}

-- a name that a text of this form may have
abbrev pub is_small_name : Form → Name → Bool
is_small_name Plain x = is_short x && not (is_reserved x)
is_small_name Instrumented x = is_short x

-- such names where they are used
abbrev pub small_mentions : Form → List Mention → Bool
small_mentions form xs = list_all (λ x. is_small_name form (mentioned x)) xs

-- ---- lists

pub all_joined : {A : Type 0} (p : A → Bool) (xs ys : List A) → list_all p xs ≡ true → list_all p ys ≡ true → list_all p (xs ++ ys) ≡ true
all_joined p xs ys h k = list_all-append p xs ys ∙ and_from (list_all p xs) (list_all p ys) h k

pub all_so : {A : Type 0} (p q : A → Bool) → ((x : A) → p x ≡ true → q x ≡ true) → (xs : List A) → list_all p xs ≡ true → list_all q xs ≡ true
all_so p q f [] h = refl
all_so p q f (x ∷ xs) h =
    let parts = and_parts (p x) (list_all p xs) h in
    and_from (q x) (list_all q xs) (f x parts.0) (all_so p q f xs parts.1)

-- what each part of a list contributes
pub all_among : {A B : Type 0} (p : A → Bool) (q : B → Bool) (f : A → List B) → ((x : A) → p x ≡ true → list_all q (f x) ≡ true) → (xs : List A) → list_all p xs ≡ true → list_all q (flat_map f xs) ≡ true
all_among p q f each [] h = refl
all_among p q f each (x ∷ xs) h =
    let parts = and_parts (p x) (list_all p xs) h in
    all_joined q (f x) (flat_map f xs) (each x parts.0) (all_among p q f each xs parts.1)

pub all_mapped : {A B : Type 0} (p : A → Bool) (q : B → Bool) (f : A → B) → ((x : A) → p x ≡ true → q (f x) ≡ true) → (xs : List A) → list_all p xs ≡ true → list_all q (map f xs) ≡ true
all_mapped p q f each xs h = list_all-map q f xs ∙ all_so p (λ x. q (f x)) each xs h

-- ---- names

fits_short : (text : Text) → name_fits text ≡ true → nat_le (length text) 1024 ≡ true
unfolding name_fits
fits_short text h = let few = ltb-true (length text) 1025 h in le-leb (length text) 1024 (omega (arith, few))

pub local_small : (form : Form) (text : Text) → reserved_local form text ≡ false → name_fits text ≡ true → is_small_name form (name.Text text) ≡ true
unfolding reserved_local
local_small Plain text free fits = and_from (is_short (name.Text text)) (not (is_reserved (name.Text text))) (fits_short text fits) (ap not free)
local_small Instrumented text free fits = fits_short text fits

pub global_small : (form : Form) (text : Text) → reserved_global form text ≡ false → name_fits text ≡ true → is_small_name form (name.Text text) ≡ true
unfolding reserved_global
global_small Plain text free fits = and_from (is_short (name.Text text)) (not (is_reserved (name.Text text))) (fits_short text fits) (ap not free)
global_small Instrumented text free fits = fits_short text fits

pub number_small : (form : Form) (n : ℕ) → is_small_name form (name.Number n) ≡ true
number_small Plain n = refl
number_small Instrumented n = refl

-- a name that isn't reserved is its text
text_name_is : (reserved : Bool) (text : Text) (n : Name) → text_name reserved text ≡ Ok n → (reserved ≡ false) × (name_fits text ≡ true) × (name.Text text ≡ n)
text_name_is reserved text n h =
    let free = if_else reserved _ _ n h in
    let fits = if_good (name_fits text) _ _ n free.1 in
    (free.0, fits.0, same_value (name.Text text) n fits.1)

pub local_name_small : (form : Form) (text : Text) (n : Name) → local_name form text ≡ Ok n → is_small_name form n ≡ true
local_name_small form text n h =
    let is = text_name_is (reserved_local form text) text n h in
    subst (λ m. is_small_name form m ≡ true) is.2 (local_small form text is.0 is.1)

pub global_name_small : (form : Form) (text : Text) (n : Name) → global_name form text ≡ Ok n → is_small_name form n ≡ true
global_name_small form text n h =
    let is = text_name_is (reserved_global form text) text n h in
    subst (λ m. is_small_name form m ≡ true) is.2 (global_small form text is.0 is.1)

number_name_small : (form : Form) (k : ℕ) (n : Name) → number_name k ≡ Ok n → is_small_name form n ≡ true
number_name_small form k n h = subst (λ m. is_small_name form m ≡ true) (same_value (name.Number k) n (if_good _ _ _ n h).1) (number_small form k)

pub local_by_small : (form : Form) (x : Symbol) (t : Lexeme) (n : Name) → local_by form x t ≡ Ok n → is_small_name form n ≡ true
local_by_small form s.Local t n h = local_name_small form (name_in t) n h
local_by_small form s.NumberedLocal t n h = number_name_small form (decimal (name_in t)) n h
local_by_small form x t n h = no_value _ n h

pub global_by_small : (form : Form) (x : Symbol) (t : Lexeme) (n : Name) → global_by form x t ≡ Ok n → is_small_name form n ≡ true
global_by_small form s.Global t n h = global_name_small form (name_in t) n h
global_by_small form x t n h = no_value _ n h

pub local_read : (form : Form) → Brings (local form) (λ n. is_small_name form n ≡ true)
unfolding local
local_read form = judged (λ t n h. local_by_small form t.symbol t n h)

pub global_read : (form : Form) → Brings (global form) (λ n. is_small_name form n ≡ true)
unfolding global
global_read form = judged (λ t n h. global_by_small form t.symbol t n h)
