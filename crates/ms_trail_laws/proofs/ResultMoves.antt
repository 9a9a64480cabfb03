-- Where a result is poisoned, so is what it comes from.
use Rattle.std.proofs.Common.{◌≡◌, ◌≢◌, ℕ, zero, suc, ◌+◌, ◌-◌, ◌*◌, ◌%◌, ◌^◌, ◌<◌, ◌≤◌, List, [], ◌∷◌, map, Bool, true, false, cond, eqb, bit_and, bit_or, bit_xor, pos, negsuc, Option, Some, None, Result, Ok, Err, refl, sym, ap, ap₂, ◌∙◌, subst, arith, if◌then◌else◌, ◌⊎◌, inl, inr}
use Rattle.std.specs.Prelude.{not}
use Rattle.std.specs.Int.{from_bool}
use Rattle.std.specs.Int.Bits.{and_zero_r, xor_self, xor_zero_r}
use lib.Signed.{shr_z}
use Rattle.std.proofs.Math.Nat.{zero-mod, zero-div, zero-mul}
use Rattle.std.proofs.lemmas.Bool.{eqb-true, eqb-false, lt-ltb}
use Rattle.std.proofs.lemmas.Nat.{pow_pos}
use Rattle.ms_bits.specs.declared.operations.BinOp.{BinOp}
use Rattle.ms_bits.specs.declared.operations.BinOp.TheVariants.{Add, Sub, Mul, Udiv, Sdiv, Urem, Srem, Shl, Lshr, Ashr, And, Or, Xor}
use Rattle.ms_bits.specs.declared.operations.CastOp.{CastOp}
use Rattle.ms_bits.specs.declared.operations.CastOp.TheVariants.{Trunc, Zext, Sext, PtrToInt, IntToPtr, Bitcast}
use Rattle.ms_bits.specs.declared.operations.Pred.{Pred}
use Rattle.ms_bits.specs.declared.operations.Pred.TheVariants.{Eq, Ne, Ugt, Uge, Ult, Ule, Sgt, Sge, Slt, Sle}
use Rattle.ms_bits.specs.declared.traps.Trap.{Trap}
use Rattle.ms_bits.specs.Signed.{signed, wrap}
use Rattle.ms_bits.specs.Arithmetic.{binary_of}
use Rattle.ms_bits.specs.Conversions.{cast_of, select_of}
use Rattle.ms_bits.specs.Formulas.{greatest, least, union_mask, and_mask, or_mask, eq_mask, order_mask, turned_sign, compare_mask, select_mask, carry_mask}
use Rattle.ms_bits.specs.Maps.{number_at, first_nonzero}
use Rattle.ms_bits.specs.declared.word_functions.WordFn.{WordFn}
use Rattle.ms_bits.specs.declared.word_functions.WordWidth.{WordWidth}
use Rattle.ms_bits.specs.WordFunctions.{bits_of, word_mask}
use Rattle.ms_bits_laws.proofs.CleanWords.{word_clean}
use Rattle.ms_bits_laws.proofs.Results.{shl_is, lshr_is, ashr_is, trunc_is, zext_is, sext_is, ptrtoint_is, inttoptr_is, bitcast_is}
use Rattle.ms_ir.specs.declared.syntax.Name.{Name}
use Rattle.ms_ir.specs.declared.syntax.Ty.{Ty}
use Rattle.ms_ir.specs.declared.syntax.Ty as ty
use Rattle.ms_ir.specs.declared.syntax.Operand.{Operand}
use Rattle.ms_ir.specs.declared.syntax.Operand.TheVariants as operand
use Rattle.ms_ir.specs.declared.syntax.Op.{Op}
use Rattle.ms_ir.specs.declared.syntax.Op.TheVariants as op
use Rattle.ms_bits.specs.NoFlags.{no_flags}
use Rattle.ms_ir.specs.declared.calls.External.{External}
use Rattle.ms_ir.specs.declared.calls.External.TheVariants.{Word}
use Rattle.ms_ir.specs.Names.{lookup, externals}
use Rattle.ms_ir.specs.Layout.{width_of, stored_size, extended}
use Rattle.ms_runs.specs.World.{World, Setting}
use Rattle.ms_ir.specs.Instructions.{operands, one_undef, count_undefs}
use Rattle.ms_runs.specs.Control.{read_all}
use Rattle.ms_runs.specs.Act.{extended_all}
use Rattle.ms_runs.specs.Poisoned.{Poisoned}
use Rattle.ms_runs.specs.Masks.{by_formulas, binary_mask, shift_mask, value_or_zero, union, word_at, as_result, answer_mask, result_mask, last_origin, select_origin, answer_origin}
use Rattle.ms_runs.specs.Shadow.{read_poisoned}
use Rattle.ms_trail_moves.specs.declared.moves.Source.{Source}
use Rattle.ms_trail_moves.specs.declared.moves.Source.TheVariants.{Root, Value, Byte}
use Rattle.ms_trail_moves.specs.Sources.{operand_source, sources, source_at, placed, byte_source, result_source}

-- ---- masks of results, where no operand has a poisoned bit

answer_zero : (r : Result ℕ Trap) → ((v : ℕ) → r ≡ Ok v → v ≡ 0) → value_or_zero r ≡ 0
answer_zero (Ok v) h = h v refl
answer_zero (Err t) h = refl

wrap_zero : (w : ℕ) → wrap w (pos 0) ≡ 0
unfolding wrap
wrap_zero w = zero-mod (2 ^ w)

signed_zero : (w : ℕ) → signed w 0 ≡ pos 0
unfolding signed
signed_zero w = ap (λ t. cond t (pos 0) (negsuc (2 ^ w - 1 - 0))) (lt-ltb 0 (2 ^ w) (pow_pos w))

ashr_zero : (w b : ℕ) → wrap w (shr_z (signed w 0) (2 ^ b)) ≡ 0
unfolding wrap
ashr_zero w b = ap (λ z. wrap w (shr_z z (2 ^ b))) (signed_zero w) ∙ ap (λ n. n % 2 ^ w) (zero-div (2 ^ b)) ∙ zero-mod (2 ^ w)

shift_zero : (o : BinOp) (w b : ℕ) → ((r : ℕ) → binary_of o no_flags w 0 b ≡ Ok r → r ≡ 0) → (p q : Poisoned) → p.mask ≡ 0 → q.mask ≡ 0 → q.value ≡ b → shift_mask o w p q ≡ 0
shift_zero o w b h p q y z v =
    ap (λ m. if eqb m 0 then value_or_zero (binary_of o no_flags w p.mask q.value) else (2 ^ w - 1)) z
    ∙ ap₂ (λ m k. value_or_zero (binary_of o no_flags w m k)) y v ∙ answer_zero _ h

shl_zero : (w b r : ℕ) → binary_of Shl no_flags w 0 b ≡ Ok r → r ≡ 0
shl_zero w b r e = sym (shl_is no_flags w 0 b r e) ∙ ap (λ n. n % 2 ^ w) (zero-mul (2 ^ b)) ∙ zero-mod (2 ^ w)

lshr_zero : (w b r : ℕ) → binary_of Lshr no_flags w 0 b ≡ Ok r → r ≡ 0
lshr_zero w b r e = sym (lshr_is no_flags w 0 b r e) ∙ zero-div (2 ^ b)

or_zeros : (p q : Poisoned) → p.mask ≡ 0 → q.mask ≡ 0 → bit_or p.mask q.mask ≡ 0
or_zeros p q y z = ap₂ bit_or y z

and_clean : (a : ℕ) (p q : Poisoned) → p.mask ≡ 0 → q.mask ≡ 0 → bit_and a (bit_or p.mask q.mask) ≡ 0
and_clean a p q y z = ap (bit_and a) (or_zeros p q y z) ∙ and_zero_r a

-- of no poisoned bits come no carries that are
carry_clean : (w u : ℕ) → u ≡ 0 → carry_mask w u ≡ 0
unfolding carry_mask
carry_clean w u e = ap (λ n. bit_or n ((0 + (2 ^ w - n)) % 2 ^ w)) e ∙ full (2 ^ w)
  where
    full : (n : ℕ) → (0 + (n - 0)) % n ≡ 0
    full n = grind arith

clean_binary : (o : BinOp) (w : ℕ) (p q : Poisoned) → p.mask ≡ 0 → q.mask ≡ 0 → binary_mask by_formulas o w p q ≡ 0
unfolding and_mask or_mask union_mask
clean_binary Add w p q y z = carry_clean w (bit_or p.mask q.mask) (or_zeros p q y z)
clean_binary Sub w p q y z = carry_clean w (bit_or p.mask q.mask) (or_zeros p q y z)
clean_binary Mul w p q y z = carry_clean w (bit_or p.mask q.mask) (or_zeros p q y z)
clean_binary Udiv w p q y z = y
clean_binary Sdiv w p q y z = y
clean_binary Urem w p q y z = y
clean_binary Srem w p q y z = y
clean_binary Shl w p q y z = shift_zero Shl w q.value (shl_zero w q.value) p q y z refl
clean_binary Lshr w p q y z = shift_zero Lshr w q.value (lshr_zero w q.value) p q y z refl
clean_binary Ashr w p q y z = shift_zero Ashr w q.value (λ r e. sym (ashr_is no_flags w 0 q.value r e) ∙ ashr_zero w q.value) p q y z refl
clean_binary And w p q y z = and_clean _ p q y z
clean_binary Or w p q y z = and_clean _ p q y z
clean_binary Xor w p q y z = or_zeros p q y z

order_clean : (before : ℕ → ℕ → Bool) (v m u k : ℕ) → m ≡ 0 → k ≡ 0 → order_mask before v m u k ≡ 0
unfolding order_mask greatest least
order_clean before v m u k y z =
    ap₂ (λ a c. bit_xor (from_bool (before (bit_xor (bit_or v a) a) (bit_or u c))) (from_bool (before (bit_or v a) (bit_xor (bit_or u c) c)))) y z
    ∙ ap₂ (λ a c. bit_xor (from_bool (before a (bit_or u 0))) (from_bool (before (bit_or v 0) c))) (xor_zero_r (bit_or v 0)) (xor_zero_r (bit_or u 0))
    ∙ xor_self (from_bool (before (bit_or v 0) (bit_or u 0)))

eq_clean : (v m u k : ℕ) → m ≡ 0 → k ≡ 0 → eq_mask v m u k ≡ 0
unfolding eq_mask
eq_clean v m u k y z =
    ap₂ (λ a c. bit_and (from_bool (eqb (bit_or (bit_xor v u) (bit_or a c)) (bit_or a c))) (from_bool (not (eqb (bit_or a c) 0)))) y z ∙ and_zero_r _

clean_compare : (o : Pred) (w v m u k : ℕ) → m ≡ 0 → k ≡ 0 → compare_mask o w v m u k ≡ 0
unfolding compare_mask
clean_compare Eq w v m u k y z = eq_clean v m u k y z
clean_compare Ne w v m u k y z = eq_clean v m u k y z
clean_compare Ugt w v m u k y z = order_clean _ u k v m z y
clean_compare Uge w v m u k y z = order_clean _ u k v m z y
clean_compare Ult w v m u k y z = order_clean _ v m u k y z
clean_compare Ule w v m u k y z = order_clean _ v m u k y z
clean_compare Sgt w v m u k y z = order_clean _ (turned_sign w u) k (turned_sign w v) m z y
clean_compare Sge w v m u k y z = order_clean _ (turned_sign w u) k (turned_sign w v) m z y
clean_compare Slt w v m u k y z = order_clean _ (turned_sign w v) m (turned_sign w u) k y z
clean_compare Sle w v m u k y z = order_clean _ (turned_sign w v) m (turned_sign w u) k y z

clean_cast : (o : CastOp) (w to m : ℕ) → m ≡ 0 → value_or_zero (cast_of o no_flags w m to) ≡ 0
clean_cast o w to m y = ap (λ a. value_or_zero (cast_of o no_flags w a to)) y ∙ answer_zero _ (by_kind o)
  where
    by_kind : (c : CastOp) → (r : ℕ) → cast_of c no_flags w 0 to ≡ Ok r → r ≡ 0
    by_kind Trunc r e = sym (trunc_is no_flags w 0 to r e) ∙ zero-mod (2 ^ to)
    by_kind Zext r e = sym (zext_is no_flags w 0 to r e)
    by_kind Sext r e = sym (sext_is no_flags w 0 to r e) ∙ ap (wrap to) (signed_zero w) ∙ wrap_zero to
    by_kind PtrToInt r e = sym (ptrtoint_is no_flags w 0 to r e) ∙ zero-mod (2 ^ to)
    by_kind IntToPtr r e = sym (inttoptr_is no_flags w 0 to r e)
    by_kind Bitcast r e = sym (bitcast_is no_flags w 0 to r e)

-- of words without a poisoned bit no function of whole words answers a poisoned one
word_zero : (f : WordFn) (n : WordWidth) (ps : List Poisoned) → ((j : ℕ) → (word_at j ps).mask ≡ 0) → answer_mask (Some (Word f n)) ps ≡ 0
word_zero f n ps z =
    ap (λ m. word_mask f (bits_of n) (word_at 0 ps).value m (word_at 1 ps).value (word_at 1 ps).mask (word_at 2 ps).value (word_at 2 ps).mask) (z 0)
    ∙ ap (λ m. word_mask f (bits_of n) (word_at 0 ps).value 0 (word_at 1 ps).value m (word_at 2 ps).value (word_at 2 ps).mask) (z 1)
    ∙ ap (λ m. word_mask f (bits_of n) (word_at 0 ps).value 0 (word_at 1 ps).value 0 (word_at 2 ps).value m) (z 2)
    ∙ word_clean f (bits_of n) (word_at 0 ps).value (word_at 1 ps).value (word_at 2 ps).value

pub result_zero : (r : Option Ty) (m : ℕ) → m ≡ 0 → as_result r m ≡ 0
result_zero None m e = refl
result_zero (Some t) m e = ap (λ k. k % 2 ^ width_of t) e ∙ zero-mod (2 ^ width_of t)

-- the first of words has place 0
pub first_place : (ps : List Poisoned) → (word_at 0 (placed 0 ps)).origin ≡ 0
first_place [] = refl
first_place (p ∷ ps) = refl

extended_zero : (w v : ℕ) → v ≡ 0 → extended w v ≡ 0
extended_zero w v e = ap (extended w) e ∙ ap (wrap 64) (signed_zero w) ∙ wrap_zero 64

-- ---- some operand is poisoned

abbrev pub SomePoisoned : List Poisoned → Type 0
SomePoisoned ps = (j : ℕ) × ((word_at j ps).mask ≢ 0)

none_poisoned : (ps : List Poisoned) → SomePoisoned ps ⊎ ((j : ℕ) → (word_at j ps).mask ≡ 0)
none_poisoned [] = inr (λ j. refl)
none_poisoned (p ∷ ps) = by_test (eqb p.mask 0) refl (none_poisoned ps)
  where
    by_test : (t : Bool) → eqb p.mask 0 ≡ t → SomePoisoned ps ⊎ ((j : ℕ) → (word_at j ps).mask ≡ 0) → SomePoisoned (p ∷ ps) ⊎ ((j : ℕ) → (word_at j (p ∷ ps)).mask ≡ 0)
    by_test false e rest = inl (0, eqb-false p.mask 0 e)
    by_test true e (inl h) = inl (suc h.0, h.1)
    by_test true e (inr h) = inr all
      where
        all : (j : ℕ) → (word_at j (p ∷ ps)).mask ≡ 0
        all zero = eqb-true p.mask 0 e
        all (suc j) = h j

pub some_poisoned : (ps : List Poisoned) (r : ℕ) → r ≢ 0 → (((j : ℕ) → (word_at j ps).mask ≡ 0) → r ≡ 0) → SomePoisoned ps
some_poisoned ps r h f = on (none_poisoned ps)
  where
    on : SomePoisoned ps ⊎ ((j : ℕ) → (word_at j ps).mask ≡ 0) → SomePoisoned ps
    on (inl s) = s
    on (inr z) = absurd (h (f z))

clean_indices : (is : List (Ty × Operand)) (ps : List Poisoned) → ((j : ℕ) → (word_at j ps).mask ≡ 0) → union (extended_all is (map (λ p. p.mask) ps)) ≡ 0
clean_indices [] ps z = refl
clean_indices (i ∷ is) [] z = refl
clean_indices (i ∷ is) (p ∷ ps) z = ap₂ bit_or (extended_zero (width_of i.0) p.mask (z 0)) (clean_indices is ps (λ j. z (suc j)))

-- ---- the operand whose origin is taken

-- the last one that is poisoned
last_taken : (G : ℕ → Type 0) (ps : List Poisoned) (k best : ℕ) → ((j : ℕ) → (word_at j ps).mask ≢ 0 → G (k + j)) → G best ⊎ SomePoisoned ps → G (last_origin (placed k ps) best)
last_taken G [] k best h (inl g) = g
last_taken G [] k best h (inr s) = absurd (s.1 refl)
last_taken G (p ∷ ps) k best h g = by_test (eqb p.mask 0) refl g (λ c x. last_taken G ps (suc k) c rest x)
  where
    rest : (j : ℕ) → (word_at j ps).mask ≢ 0 → G (suc k + j)
    rest j n = let e : k + suc j ≡ suc k + j = omega arith in subst G e (h (suc j) n)

    later : eqb p.mask 0 ≡ true → SomePoisoned (p ∷ ps) → G best ⊎ SomePoisoned ps
    later e (zero, n) = absurd (n (eqb-true p.mask 0 e))
    later e (suc j, n) = inr (j, n)

    or_later : eqb p.mask 0 ≡ true → G best ⊎ SomePoisoned (p ∷ ps) → G best ⊎ SomePoisoned ps
    or_later e (inl x) = inl x
    or_later e (inr s) = later e s

    by_test : (t : Bool) → eqb p.mask 0 ≡ t → G best ⊎ SomePoisoned (p ∷ ps) → ((c : ℕ) → G c ⊎ SomePoisoned ps → G (last_origin (placed (suc k) ps) c)) → G (last_origin (placed (suc k) ps) (if t then best else k))
    by_test true e x go = go best (or_later e x)
    by_test false e x go =
        let here : k + 0 ≡ k = omega arith in
        go k (inl (subst G here (h 0 (eqb-false p.mask 0 e))))

-- ---- bytes

pub first_poisoned : (map : ℕ → ℕ) (n a : ℕ) → number_at map a n ≢ 0 → (b : ℕ) × (first_nonzero map a n ≡ Some b) × (map b ≢ 0)
first_poisoned map zero a h = absurd (h refl)
first_poisoned map (suc n) a h = by_test (eqb (map a) 0) refl (first_poisoned map n (a + 1))
  where
    by_test : (t : Bool) → eqb (map a) 0 ≡ t → (number_at map (a + 1) n ≢ 0 → (b : ℕ) × (first_nonzero map (a + 1) n ≡ Some b) × (map b ≢ 0))
        → (b : ℕ) × ((if t then first_nonzero map (a + 1) n else Some a) ≡ Some b) × (map b ≢ 0)
    by_test true e rest = rest (λ z. h (ap₂ (λ x y. x + 256 * y) (eqb-true (map a) 0 e) z))
    by_test false e rest = (a, refl, eqb-false (map a) 0 e)

-- ---- results

module _ (P : Source → Type 0) (ps : List Poisoned) (ss : List Source) (comes : (j : ℕ) → (word_at j ps).mask ≢ 0 → P (source_at j ss)) where
  from_last : SomePoisoned ps → (best : ℕ) → P (source_at (last_origin (placed 0 ps) best) ss)
  from_last s best = last_taken (λ j. P (source_at j ss)) ps 0 best (λ j n. let e : 0 + j ≡ j = omega arith in subst (λ i. P (source_at i ss)) (sym e) (comes j n)) (inr s)

  selected : (k p q : Poisoned) (rest : List Poisoned) → ps ≡ k ∷ p ∷ q ∷ rest → select_mask k.value k.mask p.value p.mask q.value q.mask ≢ 0
      → P (source_at (select_origin (record k { origin = 0 }) (record p { origin = 1 }) (record q { origin = 2 })) ss)
  unfolding select_mask select_of
  selected k p q rest e h = by_mask k.mask refl k.value refl h
    where
      at : (j : ℕ) → (word_at j (k ∷ p ∷ q ∷ rest)).mask ≢ 0 → P (source_at j ss)
      at j n = comes j (λ z. n (ap (λ l. (word_at j l).mask) (sym e) ∙ z))

      by_mask : (n : ℕ) → k.mask ≡ n → (t : ℕ) → k.value ≡ t → select_of n (bit_or (bit_or (bit_xor p.value q.value) p.mask) q.mask) (select_of t p.mask q.mask) ≢ 0 → P (source_at (select_of n 0 (select_of t 1 2)) ss)
      by_mask zero f zero g n = at 2 n
      by_mask zero f (suc t) g n = at 1 n
      by_mask (suc m) f t g n = at 0 (λ z. let e : suc m ≡ 0 = sym f ∙ z in absurd (omega (arith, e)))

pub loaded : (P : Source → Type 0) (t : Ty) (a : ℕ) (w : World) → ((b : ℕ) → w.shadow b ≢ 0 → P (Byte b)) → number_at w.shadow a (stored_size t) % 2 ^ width_of t ≢ 0 → P (byte_source (first_nonzero w.shadow a (stored_size t)))
loaded P t a w bytes h =
    let f = first_poisoned w.shadow (stored_size t) a (λ z. h (ap (λ n. n % 2 ^ width_of t) z ∙ zero-mod (2 ^ width_of t))) in
    subst (λ o. P (byte_source o)) (sym f.1) (bytes f.0 f.2)

-- ---- operands

module _ (P : Source → Type 0) (lo hi : ℕ) (roots : (n : ℕ) → lo < n → n ≤ hi → P (Root n)) (s : Setting) (values : Name → Poisoned) (frame : ℕ) (poisoned : (x : Name) → (values x).mask ≢ 0 → P (Value frame x)) where
  pub operand_from : (n : ℕ) (t : Ty) (o : Operand) → lo ≤ n → n + one_undef o ≤ hi → (read_poisoned s values n t o).mask ≢ 0 → P (operand_source frame n o)
  operand_from n t operand.Undef l g h = roots (n + 1) (omega (arith, l)) (omega (arith, g))
  operand_from n t operand.Poison l g h = roots (n + 1) (omega (arith, l)) (omega (arith, g))
  operand_from n t (operand.Local x) l g h = poisoned x (λ z. h (ap (λ m. m % 2 ^ width_of t) z ∙ zero-mod (2 ^ width_of t)))
  operand_from n t (operand.Int v) l g h = absurd (h refl)
  operand_from n t operand.Null l g h = absurd (h refl)
  operand_from n t (operand.Global x) l g h = absurd (h refl)
  operand_from n t (operand.Offset x is) l g h = absurd (h refl)

  pub words_from : (os : List (Ty × Operand)) (n : ℕ) → lo ≤ n → n + count_undefs os ≤ hi → (j : ℕ) → (word_at j (read_all (read_poisoned s values) os n)).mask ≢ 0 → P (source_at j (sources frame os n))
  words_from [] n l g j h = absurd (h refl)
  words_from (o ∷ os) n l g zero h = operand_from n o.0 o.1 l (omega (arith, g)) h
  words_from (o ∷ os) n l g (suc j) h = words_from os (n + one_undef o.1) (omega (arith, l)) (omega (arith, g)) j h

  abbrev read : ℕ → Ty → Operand → Poisoned
  read n t o = read_poisoned s values n t o

  last_from : (os : List (Ty × Operand)) (n r : ℕ) → lo ≤ n → n + count_undefs os ≤ hi → r ≢ 0 → (((j : ℕ) → (word_at j (read_all (read_poisoned s values) os n)).mask ≡ 0) → r ≡ 0) → P (source_at (last_origin (placed 0 (read_all (read_poisoned s values) os n)) 0) (sources frame os n))
  last_from os n r l g h f =
      from_last P (read_all (read_poisoned s values) os n) (sources frame os n) (words_from os n l g) (some_poisoned (read_all (read_poisoned s values) os n) r h f) 0

  -- where a result is poisoned, so is what it comes from
  pub result_from : (o : Op) (n : ℕ) → lo ≤ n → n + count_undefs (operands o) ≤ hi → (w : World) → ((b : ℕ) → w.shadow b ≢ 0 → P (Byte b)) → result_mask by_formulas o (read_all (read_poisoned s values) (operands o) n) w ≢ 0
      → P (result_source o (read_all (read_poisoned s values) (operands o) n) (sources frame (operands o) n) w)
  result_from (op.Binary o f t a b) n l g w bytes h =
      last_from ((t, a) ∷ (t, b) ∷ []) n (binary_mask by_formulas o (width_of t) (read n t a) (read (n + one_undef a) t b)) l g h (λ z. clean_binary o (width_of t) (read n t a) (read (n + one_undef a) t b) (z 0) (z 1))
  result_from (op.Icmp o f t a b) n l g w bytes h =
      let p = read n t a in let q = read (n + one_undef a) t b in
      last_from ((t, a) ∷ (t, b) ∷ []) n (compare_mask o (width_of t) p.value p.mask q.value q.mask) l g h (λ z. clean_compare o (width_of t) p.value p.mask q.value q.mask (z 0) (z 1))
  result_from (op.Cast o f t a u) n l g w bytes h = words_from ((t, a) ∷ []) n l g 0 (λ z. h (clean_cast o (width_of t) (width_of u) (read n t a).mask z))
  result_from (op.Select c t a b) n l g w bytes h =
      let os = (ty.Int 1, c) ∷ (t, a) ∷ (t, b) ∷ [] in
      selected P (read_all (read_poisoned s values) os n) (sources frame os n) (words_from os n l g) (read n (ty.Int 1) c) (read (n + one_undef c) t a) (read (n + one_undef c + one_undef a) t b) [] refl h
  result_from (op.Freeze t a) n l g w bytes h = absurd (h refl)
  result_from (op.Phi t edges) n l g w bytes h = absurd (h refl)
  result_from (op.Alloca t u c) n l g w bytes h = absurd (h refl)
  result_from (op.Load t a) n l g w bytes h = loaded P t (read n ty.Ptr a).value w bytes h
  result_from (op.Store t v a) n l g w bytes h = absurd (h refl)
  result_from (op.Gep t a is) n l g w bytes h =
      let u = bit_or (read n ty.Ptr a).mask (union (extended_all is (map (λ p. p.mask) (read_all (read_poisoned s values) is (n + one_undef a))))) in
      last_from ((ty.Ptr, a) ∷ is) n (carry_mask 64 u) l g h
      (λ z. carry_clean 64 u (ap₂ bit_or (z 0) (clean_indices is (read_all (read_poisoned s values) is (n + one_undef a)) (λ j. z (suc j)))))
  result_from (op.Call r x args) n l g w bytes h = by_external (lookup externals x) h
    where
      by_external : (e : Option External) → as_result r (answer_mask e (read_all (read_poisoned s values) args n)) ≢ 0
          → P (source_at (answer_origin e (placed 0 (read_all (read_poisoned s values) args n))) (sources frame args n))
      by_external (Some (Word f k)) h =
          subst (λ b. P (source_at (last_origin (placed 0 (read_all (read_poisoned s values) args n)) b) (sources frame args n))) (sym (first_place (read_all (read_poisoned s values) args n)))
          (last_from args n (as_result r (answer_mask (Some (Word f k)) (read_all (read_poisoned s values) args n))) l g h
          (λ z. result_zero r _ (word_zero f k (read_all (read_poisoned s values) args n) z)))
      by_external e h = absurd (h (result_zero r 0 refl))
  result_from (op.Br to) n l g w bytes h = absurd (h refl)
  result_from (op.CondBr c to otherwise) n l g w bytes h = absurd (h refl)
  result_from (op.Switch t v otherwise cases) n l g w bytes h = absurd (h refl)
  result_from (op.Ret v) n l g w bytes h = absurd (h refl)
  result_from op.Unreachable n l g w bytes h = absurd (h refl)
