-- The union of words made of operands, where those whose masks are known to be 0 are left out.
use Rattle.std.proofs.Common.{◌≡◌, ℕ, ◌^◌, List, [], ◌∷◌, refl, sym, ap, ◌∙◌, subst, Bool, true, false}
use Rattle.std.specs.Prelude.{if◌then◌else◌, bit_or}
use Rattle.std.specs.Int.Bits.{or_zero_l, or_zero_r}
use Rattle.std.proofs.Math.Nat.{zero-mod}
use Rattle.std.proofs.lemmas.Nat.{pow_pos}
use Rattle.ms_ir.specs.declared.syntax.Name.{Name}
use Rattle.ms_ir.specs.declared.syntax.Ty.{Int}
use Rattle.ms_runs.specs.World.{Setting}
use Rattle.ms_runs.specs.Act.{operand_word}
use Rattle.ms_runs.specs.Masks.{union}
use Rattle.ms_pass_tasks.specs.Tasks.{Expr}
use Rattle.ms_pass_tasks.specs.Environments.{Tracked, is_zero, mask_of, unknown, joined}
use Rattle.ms_pass_tasks.proofs.CheckTasks.{zero_word}
use Rattle.ms_pass_tasks.proofs.Words.{Is, is_leaf, is_number, is_or}

-- the word made of an operand, which is 0 where the operand's mask is known to be 0
pub record Makes (s : Setting) (names : Name → ℕ) (w : ℕ) (f : Tracked → Expr) (t : Tracked) (x : ℕ) : Type 0 where
  pub word : Is s names w (f t) x
  pub clean : is_zero t.mask ≡ true → x ≡ 0

-- the same of all operands
abbrev pub AllMake : Setting → (Name → ℕ) → ℕ → (Tracked → Expr) → List Tracked → List ℕ → Type 0
AllMake s names w f [] [] = Unit {0}
AllMake s names w f (t ∷ ts) (x ∷ xs) = Makes s names w f t x × AllMake s names w f ts xs
AllMake s names w f [] (x ∷ xs) = ⊥
AllMake s names w f (t ∷ ts) [] = ⊥

module _ (s : Setting) (names : Name → ℕ) (w : ℕ) where
  pub own_mask : (t : Tracked) (x : ℕ) → operand_word s names w t.mask ≡ x → Makes s names w mask_of t x
  own_mask t x e = record { word = is_leaf s names w t.mask x e; clean = λ z. sym e ∙ zero_word s names w t.mask z }

  module _ (f : Tracked → Expr) where
    -- of no words the union is the number 0
    joined_more : (t : Tracked) (us : List Tracked) (x y : ℕ) → Is s names w (f t) x → Is s names w (joined (Int w) f us) y → Is s names w (joined (Int w) f (t ∷ us)) (bit_or x y)
    joined_more t [] x y i j = subst (Is s names w (f t)) (sym (or_zero_r x) ∙ ap (bit_or x) (sym (zero-mod (2 ^ w)) ∙ j.raw)) i
    joined_more t (u ∷ us) x y i j = is_or s names i j

    pub joined_is : (ts : List Tracked) (xs : List ℕ) → AllMake s names w f ts xs → Is s names w (joined (Int w) f (unknown ts)) (union xs)
    joined_is [] [] h = is_number s names w 0 (pow_pos w)
    joined_is [] (x ∷ xs) h = absurd h
    joined_is (t ∷ ts) [] h = absurd h
    joined_is (t ∷ ts) (x ∷ xs) h = by_mask (is_zero t.mask) refl (joined_is ts xs h.1)
      where
        by_mask : (b : Bool) → is_zero t.mask ≡ b → Is s names w (joined (Int w) f (unknown ts)) (union xs)
            → Is s names w (joined (Int w) f (if b then unknown ts else t ∷ unknown ts)) (bit_or x (union xs))
        by_mask true e rest = subst (Is s names w (joined (Int w) f (unknown ts))) (sym (or_zero_l (union xs)) ∙ ap (λ n. bit_or n (union xs)) (sym (h.0.clean e))) rest
        by_mask false e rest = joined_more t (unknown ts) x (union xs) h.0.word rest
