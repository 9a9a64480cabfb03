-- Numbers that are kept only below 2 ^ 64, and multiples of an alignment.
use Rattle.std.proofs.Common.{◌≡◌, ◌≢◌, ℕ, suc, ◌+◌, ◌-◌, ◌*◌, ◌/◌, ◌^◌, ◌<◌, ◌≤◌, Bool, true, false, Option, Some, None, refl, ap, ◌∙◌, subst, arith, ⊎_elim, if◌then◌else◌, is_some}
use Rattle.std.specs.Prelude.{option_map, option_and_then, unwrap_or, nat_le}
use Rattle.std.specs.Option.{SomeIff}
use Rattle.std.proofs.Math.Nat.{mul-le-mul_left}
use Rattle.std.proofs.lemmas.Nat.{div-add-mod', mod_below}
use Rattle.std.proofs.lemmas.Bool.{cases_lt}
use Rattle.ms_ir.specs.declared.syntax.Ty.{Ty}
use Rattle.ms_ir.specs.Layout.{Types, Extent, extent_in, size_of, size_in, round_up}
use Rattle.ms_ir.proofs.Sizes.{rounded_near}
use Rattle.ms_host.specs.Initial.{Reaches}

pub reaches-some : (o : Option ℕ) (x n : ℕ) → o ≡ Some x → Reaches o n → x ≡ n
reaches-some o x n is r = let P : Option ℕ → Type 0 = λ q. Reaches q n in subst P is r

pub reaches-none : (o : Option ℕ) (n : ℕ) → o ≡ None → Reaches o n → 2 ^ 64 ≤ n
reaches-none o n is r = let P : Option ℕ → Type 0 = λ q. Reaches q n in subst P is r

pub reaches-sum : (o : Option ℕ) (v n : ℕ) → v ≡ n → SomeIff o (v < 2 ^ 64) v → Reaches o n
reaches-sum None v n e h = omega (arith, e, h)
reaches-sum (Some y) v n e h = h.1 ∙ e

-- a size that is known
pub size-reaches : (types : Types) (t : Ty) → is_some (size_of types t) ≡ true → Reaches (size_of types t) (size_in types t)
size-reaches types t = whole (extent_in types t)
  where
    small : (b : Bool) (n : ℕ) → is_some (if b then Some n else None) ≡ true → Reaches (if b then Some n else None) n
    small true n e = refl
    small false n e = absurd (cc)

    whole : (o : Option Extent) → is_some (option_and_then (λ e. if nat_le e.size (2 ^ 26) then Some e.size else None) o) ≡ true →
        Reaches (option_and_then (λ e. if nat_le e.size (2 ^ 26) then Some e.size else None) o) (unwrap_or (option_map (λ e. e.size) o) 0)
    whole None e = absurd (cc)
    whole (Some x) e = small (nat_le x.size (2 ^ 26)) x.size e

-- ---- multiples

apart : (d e a : ℕ) → d < e → d * a + a ≤ e * a
apart d e a l = let h : suc d ≤ e = omega (arith, l) in omega (arith, mul-le-mul_left a h)

-- the multiple in a row of `a` numbers
round-between : (n a e : ℕ) → 1 ≤ a → n ≤ e * a → e * a < n + a → round_up n a ≡ e * a
round-between n a e some low high = ⊎_elim
    (λ (l : (n + (a - 1)) / a < e). absurd (omega (arith, apart ((n + (a - 1)) / a) e a l, near.0, high)))
    (λ (g : e ≤ (n + (a - 1)) / a). ⊎_elim
    (λ (l : e < (n + (a - 1)) / a). absurd (omega (arith, apart e ((n + (a - 1)) / a) a l, near.1, low, some)))
    (λ (h : (n + (a - 1)) / a ≤ e). let same : (n + (a - 1)) / a ≡ e = omega (arith, g, h) in ap (λ (d : ℕ). d * a) same)
    (cases_lt e ((n + (a - 1)) / a)))
    (cases_lt ((n + (a - 1)) / a) e)
  where
    near : (n ≤ round_up n a) × (round_up n a ≤ n + (a - 1))
    near = rounded_near n a some

pub round-even : (n a : ℕ) → 1 ≤ a → n / a * a ≡ n → round_up n a ≡ n
round-even n a some even = round-between n a (n / a) some (omega (arith, even)) (omega (arith, even, some)) ∙ even

pub round-odd : (n a : ℕ) → 1 ≤ a → n / a * a ≢ n → round_up n a ≡ n / a * a + a
round-odd n a some odd =
    let parts = div-add-mod' n a in
    let rest = mod_below n a (omega (arith, some)) in
    let next : suc (n / a) * a ≡ n / a * a + a = omega arith in
    let less : n / a * a < n = omega (arith, parts, odd) in
    round-between n a (suc (n / a)) some (omega (arith, next, parts, rest)) (omega (arith, next, less)) ∙ next

pub begin-packed : (packed : Bool) (o : Option ℕ) (n m : ℕ) → packed ≡ true → Reaches o n → Reaches o (if packed then n else m)
begin-packed true o n m e r = r
begin-packed false o n m e r = absurd (cc)

pub begin-rounded : (packed : Bool) (o : Option ℕ) (n m : ℕ) → packed ≡ false → Reaches o m → Reaches o (if packed then n else m)
begin-rounded true o n m e r = absurd (cc)
begin-rounded false o n m e r = r
