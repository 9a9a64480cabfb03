-- What operands, their masks and their origins hold where words match.
use Rattle.std.proofs.Common.{◌≡◌, ◌≢◌, ℕ, zero, suc, ◌+◌, ◌/◌, ◌%◌, ◌^◌, ◌<◌, List, [], ◌∷◌, refl, sym, ap, ◌∙◌, subst, arith, Bool, true, false, Some, None}
use Rattle.std.specs.Prelude.{if◌then◌else◌, map}
use Rattle.std.proofs.Math.Path.{ap₂}
use Rattle.std.proofs.Math.Nat.{mod-eq_of_lt, zero-mod}
use Rattle.std.proofs.Math.Pow.{ones_lt}
use Rattle.std.proofs.lemmas.Nat.{mod_below, pow_pos}
use Rattle.std.proofs.lemmas.Nat.Bits.{bit_at-lt}
use Rattle.ms_bits.specs.Fill.{undef_bit, undef_word_of, made_byte}
use Rattle.ms_ir.specs.declared.syntax.Name.{Name}
use Rattle.ms_ir.specs.declared.syntax.Ty.{Ty}
use Rattle.ms_ir.specs.declared.syntax.Operand.{Operand}
use Rattle.ms_ir.specs.declared.syntax.Operand.TheVariants as operand
use Rattle.ms_ir.specs.Names.{is_reserved}
use Rattle.ms_ir.specs.Layout.{width_of}
use Rattle.ms_runs.specs.World.{Setting}
use Rattle.ms_ir.specs.Instructions.{one_undef, count_undefs}
use Rattle.ms_runs.specs.Control.{read_all, with_value}
use Rattle.ms_runs.specs.Act.{operand_word}
use Rattle.ms_runs.specs.Poisoned.{Poisoned}
use Rattle.ms_runs.specs.Masks.{word_at}
use Rattle.ms_runs.specs.Shadow.{operand_mask, operand_origin, read_poisoned}
use Rattle.ms_pass_tasks.specs.Tasks.{mask_name, origin_name}
use Rattle.ms_pass_tasks.specs.Meaning.{words_of}
use Rattle.ms_pass_tasks.specs.Environments.{Env, Tracked, tracked, tracked_at, local_mask, local_origin, mask_operand, origin_operand}
use Rattle.ms_pass_tasks.specs.Known.{KnownOperand, KnownOperands}
use Rattle.ms_pass_tasks.specs.Match.{held, Matches, RangedValues}
use Rattle.ms_pass_tasks.proofs.InsertedNames.{mask_not_origin, with_other}
use Rattle.ms_bits_laws.proofs.MaskFunctions.{number_fits}

-- three equations at once
pub ap₃ : {A B C D : Type 0} (f : A → B → C → D) {x y : A} {u v : B} {p q : C} → x ≡ y → u ≡ v → p ≡ q → f x u p ≡ f y v q
ap₃ f a b c = ap₂ (λ g p. g p) (ap₂ f a b) c

-- ---- numbers at a width

pub mod_once : (w n : ℕ) → n % 2 ^ w % 2 ^ w ≡ n % 2 ^ w
mod_once w n = mod-eq_of_lt (mod_below n (2 ^ w) (pow_pos w))

pub undef_less : (fill : List ℕ) (w : ℕ) → undef_word_of fill w < 2 ^ w
unfolding undef_word_of undef_bit
undef_less fill w = number_fits (undef_bit fill) (λ i. bit_at-lt (made_byte fill (i / 8)) (i % 8)) w

-- the word of an operand is below the power of its width
pub word_less : (s : Setting) (names : Name → ℕ) (w : ℕ) (o : Operand) → operand_word s names w o < 2 ^ w
word_less s names w operand.Undef = undef_less s.fill w
word_less s names w operand.Poison = undef_less s.fill w
word_less s names w _ = mod_below _ (2 ^ w) (pow_pos w)

-- ---- the operands that hold masks and origins

pub mask_at : (env : Env) (x : Name) (v : ℕ) → env.number x ≡ Some v
    → local_mask env x ≡ (if env.clean x then operand.Int 0 else operand.Local (mask_name v))
mask_at env x v e = ap (λ z. elim z [ Some v ↦ if env.clean x then operand.Int 0 else operand.Local (mask_name v) | None ↦ operand.Int 0 ]) e

pub origin_at : (env : Env) (x : Name) (v : ℕ) → env.number x ≡ Some v
    → local_origin env x ≡ (if env.clean x then operand.Int 0 else operand.Local (origin_name v))
origin_at env x v e = ap (λ z. elim z [ Some v ↦ if env.clean x then operand.Int 0 else operand.Local (origin_name v) | None ↦ operand.Int 0 ]) e

pub word_if : (s : Setting) (names : Name → ℕ) (w : ℕ) (b : Bool) (n : Name)
    → operand_word s names w (if b then operand.Int 0 else operand.Local n) ≡ held names (if b then operand.Int 0 else operand.Local n) % 2 ^ w
word_if s names w true n = refl
word_if s names w false n = refl

mask_word : (s : Setting) (names : Name → ℕ) (w : ℕ) (env : Env) (x : Name) (v : ℕ) → env.number x ≡ Some v
    → operand_word s names w (local_mask env x) ≡ held names (local_mask env x) % 2 ^ w
mask_word s names w env x v e =
    ap (operand_word s names w) (mask_at env x v e) ∙ word_if s names w (env.clean x) (mask_name v)
    ∙ sym (ap (λ o. held names o % 2 ^ w) (mask_at env x v e))

origin_word : (s : Setting) (names : Name → ℕ) (w : ℕ) (env : Env) (x : Name) (v : ℕ) → env.number x ≡ Some v
    → operand_word s names w (local_origin env x) ≡ held names (local_origin env x) % 2 ^ w
origin_word s names w env x v e =
    ap (operand_word s names w) (origin_at env x v e) ∙ word_if s names w (env.clean x) (origin_name v)
    ∙ sym (ap (λ o. held names o % 2 ^ w) (origin_at env x v e))

-- ---- one operand

-- the program's own names hold their values
abbrev pub Own : (Name → Poisoned) → (Name → ℕ) → Type 0
Own values names = (x : Name) → is_reserved x ≡ false → names x ≡ (values x).value

pub value_known : (s : Setting) (env : Env) (size : ℕ) (values : Name → Poisoned) (names : Name → ℕ) → Own values names
    → (w : ℕ) (o : Operand) → KnownOperand env size o → operand_word s names w o ≡ operand_word s (λ x. (values x).value) w o
value_known s env size values names own w (operand.Local x) k = ap (λ n. n % 2 ^ w) (own x k.own)
value_known s env size values names own w _ k = refl

pub mask_known : (s : Setting) (env : Env) (size : ℕ) (values : Name → Poisoned) (names : Name → ℕ) → Matches env values names
    → (w : ℕ) (o : Operand) → KnownOperand env size o → operand_word s names w (mask_operand env w o) ≡ operand_mask values w o
mask_known s env size values names m w operand.Undef k = mod-eq_of_lt (ones_lt w)
mask_known s env size values names m w operand.Poison k = mod-eq_of_lt (ones_lt w)
mask_known s env size values names m w (operand.Local x) k =
    mask_word s names w env x k.place k.numbered ∙ ap (λ n. n % 2 ^ w) (m.mask x k.place k.numbered)
mask_known s env size values names m w _ k = zero-mod (2 ^ w)

pub origin_known : (s : Setting) (env : Env) (size : ℕ) (values : Name → Poisoned) (names : Name → ℕ) → Matches env values names → RangedValues values
    → (w root : ℕ) (o : Operand) → KnownOperand env size o → root + one_undef o < 2 ^ 32 → operand_mask values w o ≢ 0
    → operand_word s names 32 (origin_operand env root o) ≡ operand_origin values root o
origin_known s env size values names m r w root operand.Undef k l ne = mod-eq_of_lt l
origin_known s env size values names m r w root operand.Poison k l ne = mod-eq_of_lt l
origin_known s env size values names m r w root (operand.Local x) k l ne =
    origin_word s names 32 env x k.place k.numbered
    ∙ ap (λ n. n % 2 ^ 32) (m.origin x k.place k.numbered (λ e. ne (ap (λ n. n % 2 ^ w) e ∙ zero-mod (2 ^ w))))
    ∙ mod-eq_of_lt (r x)
origin_known s env size values names m r w root _ k l ne = absurd (ne refl)

-- ---- all operands of an instruction

pub words_known : (s : Setting) (env : Env) (size : ℕ) (values : Name → Poisoned) (names : Name → ℕ) → Own values names
    → (os : List (Ty × Operand)) (root : ℕ) → KnownOperands env size os
    → words_of s names os ≡ map (λ p. p.value) (read_all (read_poisoned s values) os root)
words_known s env size values names own [] root k = refl
words_known s env size values names own (o ∷ os) root k =
    ap₂ (λ n ns. n ∷ ns) (value_known s env size values names own (width_of o.0) o.1 k.1) (words_known s env size values names own os (root + one_undef o.1) k.2)

-- what is tracked of an operand holds a word's value, mask and origin
pub record Holds (s : Setting) (names : Name → ℕ) (t : Tracked) (p : Poisoned) : Type 0 where
  pub value : operand_word s names (width_of t.ty) t.operand ≡ p.value
  pub mask : operand_word s names (width_of t.ty) t.mask ≡ p.mask
  pub origin : p.mask ≢ 0 → operand_word s names 32 t.origin ≡ p.origin

pub tracked_holds : (s : Setting) (env : Env) (size : ℕ) (values : Name → Poisoned) (names : Name → ℕ) → Matches env values names → RangedValues values
    → (os : List (Ty × Operand)) (root : ℕ) → KnownOperands env size os → root + count_undefs os < 2 ^ 32
    → (k : ℕ) → Holds s names (tracked_at k (tracked env root os)) (word_at k (read_all (read_poisoned s values) os root))
tracked_holds s env size values names m r [] root known l k = record { value = refl; mask = refl; origin = λ ne. absurd (ne refl) }
tracked_holds s env size values names m r (o ∷ os) root known l zero = record {
  value = value_known s env size values names m.value (width_of o.0) o.1 known.1;
  mask = mask_known s env size values names m (width_of o.0) o.1 known.1;
  origin = origin_known s env size values names m r (width_of o.0) root o.1 known.1 (omega arith);
}
tracked_holds s env size values names m r (o ∷ os) root known l (suc k) =
    tracked_holds s env size values names m r os (root + one_undef o.1) known.2 (omega arith) k

-- ---- words past a new result

-- an operand reads one name at most
abbrev pub AgreeAt : (Name → ℕ) → (Name → ℕ) → Operand → Type 0
AgreeAt f g (operand.Local x) = f x ≡ g x
AgreeAt f g _ = Unit {0}

pub word_same : (s : Setting) (f g : Name → ℕ) (w : ℕ) (o : Operand) → AgreeAt f g o → operand_word s f w o ≡ operand_word s g w o
word_same s f g w (operand.Local x) e = ap (λ n. n % 2 ^ w) e
word_same s f g w _ e = refl

-- the program's own operands don't read what is set anew
pub own_agrees : (env : Env) (size : ℕ) (f g : Name → ℕ) → ((x : Name) → is_reserved x ≡ false → f x ≡ g x) → (o : Operand) → KnownOperand env size o → AgreeAt f g o
own_agrees env size f g same (operand.Local x) k = same x k.own
own_agrees env size f g same _ k = tt

-- masks don't read an origin that is set anew
pub mask_agrees : (env : Env) (size : ℕ) (names : Name → ℕ) (n x w : ℕ) (o : Operand) → KnownOperand env size o
    → AgreeAt (with_value names (origin_name n) x) names (mask_operand env w o)
mask_agrees env size names n x w operand.Undef k = tt
mask_agrees env size names n x w operand.Poison k = tt
mask_agrees env size names n x w (operand.Local y) k =
    subst (AgreeAt (with_value names (origin_name n) x) names) (sym (mask_at env y k.place k.numbered)) (by_clean (env.clean y))
  where
    by_clean : (b : Bool) → AgreeAt (with_value names (origin_name n) x) names (if b then operand.Int 0 else operand.Local (mask_name k.place))
    by_clean true = tt
    by_clean false = with_other names (origin_name n) (mask_name k.place) x (mask_not_origin k.place n)
mask_agrees env size names n x w _ k = tt
