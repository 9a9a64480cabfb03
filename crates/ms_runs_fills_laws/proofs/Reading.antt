-- Words that are read in two frames that are alike.
use Rattle.std.proofs.Common.{◌≡◌, ℕ, zero, suc, ◌+◌, ◌-◌, ◌%◌, ◌^◌, List, [], ◌∷◌, map, eqb, refl, sym, ap, ap₂, ◌∙◌, if◌then◌else◌}
use Rattle.std.specs.Int.{bit_at}
use Rattle.std.proofs.lemmas.Nat.{mod_below, pow_pos}
use Rattle.std.proofs.lemmas.Nat.Bits.{bit_at-zero, same_from_bits}
use Rattle.ms_bits.specs.Fill.{undef_word_of}
use Rattle.ms_ir.specs.declared.syntax.Name.{Name}
use Rattle.ms_ir.specs.declared.syntax.Ty.{Ty}
use Rattle.ms_ir.specs.declared.syntax.Operand.{Operand}
use Rattle.ms_ir.specs.declared.syntax.Operand.TheVariants as operand
use Rattle.ms_ir.specs.Layout.{width_of}
use Rattle.ms_runs.specs.World.{Setting}
use Rattle.ms_ir.specs.Instructions.{one_undef}
use Rattle.ms_runs.specs.Control.{read_all}
use Rattle.ms_runs.specs.Poisoned.{Poisoned, InRange, clean}
use Rattle.ms_runs.specs.Masks.{word_at, last_origin}
use Rattle.ms_runs.specs.Shadow.{read_poisoned}
use Rattle.ms_bits_laws.proofs.BitLemmas.{bit_at_mod}
use Rattle.ms_bits_laws.proofs.OperationAgreement.{nothing_outside_ones}
use Rattle.ms_bits_laws.proofs.WordAgreement.{ones_less}
use Rattle.ms_runs.specs.LowEqual.{LowWord}
use Rattle.ms_runs_fills_laws.proofs.Words.{LowAt, alike_word}
use Rattle.ms_runs_laws.proofs.SameRuns.{undef_fits}

-- a setting with another fill
abbrev pub refill : Setting → List ℕ → Setting
refill s fill = record s { fill = fill }

-- ---- words that are read are in range

-- ---- one word

alike_itself : (p : Poisoned) → LowWord p p
alike_itself p = record { mask = refl; origin = refl; value = λ i z. refl }

low_itself : (w : ℕ) (p : Poisoned) → InRange w p → LowAt w p p
low_itself w p r = record { mask = refl; origin = refl; value = λ i l z. refl; left = r; right = r }

cut_word : (w : ℕ) (p q : Poisoned) → LowWord p q
    → LowAt w (record { value = p.value % 2 ^ w; mask = p.mask % 2 ^ w; origin = p.origin }) (record { value = q.value % 2 ^ w; mask = q.mask % 2 ^ w; origin = q.origin })
cut_word w p q h = record {
  mask = ap (λ m. m % 2 ^ w) h.mask;
  origin = h.origin;
  value = λ i l z. bit_at_mod p.value w i l ∙ h.value i (sym (bit_at_mod p.mask w i l) ∙ z) ∙ sym (bit_at_mod q.value w i l);
  left = record { value = mod_below _ _ (pow_pos w); mask = mod_below _ _ (pow_pos w) };
  right = record { value = mod_below _ _ (pow_pos w); mask = mod_below _ _ (pow_pos w) };
}

undef_word : (w : ℕ) (fill other : List ℕ) (origin : ℕ)
    → LowAt w (record { value = undef_word_of fill w; mask = 2 ^ w - 1; origin = origin }) (record { value = undef_word_of other w; mask = 2 ^ w - 1; origin = origin })
undef_word w fill other origin = record {
  mask = refl;
  origin = refl;
  value = nothing_outside_ones w _ _;
  left = record { value = undef_fits fill w; mask = ones_less w };
  right = record { value = undef_fits other w; mask = ones_less w };
}

module _ (s : Setting) (fill : List ℕ) (values others : Name → Poisoned) (alike : (x : Name) → LowWord (values x) (others x)) where
  constant_in_range : (w v : ℕ) → InRange w (record { value = v % 2 ^ w; mask = 0; origin = 0 })
  constant_in_range w v = record { value = mod_below _ _ (pow_pos w); mask = pow_pos w }

  pub read_low : (root : ℕ) (t : Ty) (o : Operand) → LowAt (width_of t) (read_poisoned s values root t o) (read_poisoned (refill s fill) others root t o)
  read_low root t (operand.Int n) = low_itself (width_of t) _ (constant_in_range (width_of t) _)
  read_low root t operand.Null = low_itself (width_of t) _ (constant_in_range (width_of t) _)
  read_low root t operand.Undef = undef_word (width_of t) s.fill fill (root + 1)
  read_low root t operand.Poison = undef_word (width_of t) s.fill fill (root + 1)
  read_low root t (operand.Local x) = cut_word (width_of t) (values x) (others x) (alike x)
  read_low root t (operand.Global x) = low_itself (width_of t) _ (constant_in_range (width_of t) _)
  read_low root t (operand.Offset x steps) = low_itself (width_of t) _ (constant_in_range (width_of t) _)

-- ---- words in a list

-- words that are alike, and as many
abbrev pub AlikeWords : List Poisoned → List Poisoned → Type 0
AlikeWords [] [] = Unit {0}
AlikeWords (p ∷ ps) (q ∷ qs) = LowWord p q × AlikeWords ps qs
AlikeWords [] (q ∷ qs) = ⊥
AlikeWords (p ∷ ps) [] = ⊥

pub read_all_alike : (read other : ℕ → Ty → Operand → Poisoned) → ((n : ℕ) (t : Ty) (o : Operand) → LowAt (width_of t) (read n t o) (other n t o))
    → (os : List (Ty × Operand)) (n : ℕ) → AlikeWords (read_all read os n) (read_all other os n)
read_all_alike read other h [] n = tt
read_all_alike read other h (o ∷ os) n = (alike_word (width_of o.0) _ _ (h n o.0 o.1), read_all_alike read other h os (n + one_undef o.1))

-- with no poisoned bit two words alike are one
pub number_same : (p q : Poisoned) → LowWord p q → p.mask ≡ 0 → p.value ≡ q.value
number_same p q h z = same_from_bits p.value q.value (λ i. h.value i (ap (λ m. bit_at m i) z ∙ bit_at-zero i))

pub word_alike : (k : ℕ) (ps qs : List Poisoned) → AlikeWords ps qs → LowWord (word_at k ps) (word_at k qs)
word_alike k [] [] h = alike_itself clean
word_alike zero (p ∷ ps) (q ∷ qs) h = h.0
word_alike (suc k) (p ∷ ps) (q ∷ qs) h = word_alike k ps qs h.1
word_alike k [] (q ∷ qs) h = absurd h
word_alike k (p ∷ ps) [] h = absurd h

pub masks_same : (ps qs : List Poisoned) → AlikeWords ps qs → map (λ p. p.mask) ps ≡ map (λ p. p.mask) qs
masks_same [] [] h = refl
masks_same (p ∷ ps) (q ∷ qs) h = ap₂ (λ m ms. m ∷ ms) h.0.mask (masks_same ps qs h.1)
masks_same [] (q ∷ qs) h = absurd h
masks_same (p ∷ ps) [] h = absurd h

pub origins_same : (ps qs : List Poisoned) → AlikeWords ps qs → (best other : ℕ) → best ≡ other → last_origin ps best ≡ last_origin qs other
origins_same [] [] h best other e = e
origins_same (p ∷ ps) (q ∷ qs) h best other e =
    origins_same ps qs h.1 _ _
    (ap (λ m. if eqb m 0 then best else p.origin) h.0.mask ∙ ap₂ (λ x y. if eqb q.mask 0 then x else y) e h.0.origin)
origins_same [] (q ∷ qs) h best other e = absurd h
origins_same (p ∷ ps) [] h best other e = absurd h
