-- Results with a poisoned bit have an origin that leads back.
use Rattle.std.proofs.Common.{◌≡◌, ◌⊎◌, inl, inr, ℕ, zero, suc, ◌+◌, ◌*◌, ◌/◌, ◌%◌, ◌^◌, ◌<◌, ◌≤◌, ⊎_elim, List, [], ◌∷◌, map, Bool, true, false, not, ◌||◌, eqb, Option, Some, None, refl, sym, ap, ◌∙◌, subst, arith, pow-suc, if◌then◌else◌, true≢false, pow_mono, pow_pos}
use Rattle.std.specs.Int.{bit_at}
use Rattle.std.proofs.lemmas.Bool.{eqb-true, eqb-false, cases_lt}
use Rattle.std.proofs.lemmas.Nat.{mod_below}
use Rattle.std.proofs.lemmas.Nat.Bits.{bit_at-zero, bit_at_above}
use Rattle.ms_bits.specs.Maps.{byte_of, number_at}
use Rattle.ms_bits.specs.Conversions.{cast_of, select_of}
use Rattle.ms_bits_laws.proofs.BitLemmas.{some_bit, bit_at_mod}
use Rattle.ms_bits_laws.proofs.ByteAgreement.{byte_bit}
use Rattle.ms_bits_laws.proofs.MapLemmas.{loaded_byte, number_at-lt}
use Rattle.ms_bits.specs.declared.traps.Trap.TheVariants as trap
use Rattle.ms_ir.specs.declared.syntax.Name.{Name}
use Rattle.ms_ir.specs.declared.syntax.Ty.{Ty}
use Rattle.ms_ir.specs.declared.syntax.Ty as ty
use Rattle.ms_ir.specs.declared.syntax.Op.{Op}
use Rattle.ms_ir.specs.declared.syntax.Op.TheVariants as op
use Rattle.ms_bits.specs.NoFlags.{no_flags}
use Rattle.ms_ir.specs.Layout.{width_of, stored_size}
use Rattle.ms_runs.specs.World.{World, Setting, Here, Effect, Gives, Does, Goes, Enters, Leaves, Ends, traps}
use Rattle.ms_runs.specs.Memory.{is_good}
use Rattle.ms_ir.specs.declared.calls.External.{External}
use Rattle.ms_ir.specs.declared.calls.External.TheVariants.{Word}
use Rattle.ms_ir.specs.Names.{lookup, externals}
use Rattle.ms_ir.specs.Instructions.{operands, one_undef}
use Rattle.ms_runs.specs.Control.{read_all}
use Rattle.ms_runs.specs.Act.{act}
use Rattle.ms_runs.specs.Origins.{origin_within, load_origin}
use Rattle.ms_runs.specs.Poisoned.{Poisoned}
use Rattle.ms_runs.specs.Masks.{Rules, value_or_zero, last_origin, select_origin, word_at, answer_mask, as_result, answer_origin}
use Rattle.ms_runs.specs.Shadow.{read_poisoned, poisoned_result}
use Rattle.ms_runs_clean_laws.specs.KeepClean.{KeepClean}
use Rattle.ms_runs_clean_laws.proofs.CleanResults.{NonePoisoned, answer_zero, result_zero, binary_zero, cast_zero, address_zero}
use Rattle.ms_runs_origins_laws.proofs.Trails.{good_byte}
use Rattle.ms_runs_origins_laws.proofs.Worlds.{Back, Backed, NoneFree}
use Rattle.ms_runs_origins_laws.proofs.Effects.{WordBack, WordsBack}
use Rattle.ms_runs_laws.proofs.SameRuns.{read_fits}

-- ---- bytes of a number cut to a width

cut_byte : (v w k : ℕ) → ¬ (byte_of (v % 2 ^ w) k ≡ 0) → ¬ (byte_of v k ≡ 0)
cut_byte v w k ne z =
    let bit = some_bit 8 (byte_of (v % 2 ^ w) k) (small (v % 2 ^ w) k) ne in
    clash bit.0 bit.1 (sym (byte_bit k (v % 2 ^ w) bit.0 bit.1) ∙ bit.2)
  where
    small : (n k : ℕ) → byte_of n k < 2 ^ 8
    small n zero = mod_below n 256 (omega arith)
    small n (suc k) = small (n / 256) k

    clash : (i : ℕ) → i < 8 → bit_at (v % 2 ^ w) (8 * k + i) ≡ 1 → ⊥
    clash i l e = ⊎_elim
        (λ low. omega (arith, e, bit_at_mod v w (8 * k + i) low, byte_bit k v i l, ap (λ x. bit_at x i) z, bit_at-zero i))
        (λ high. omega (arith, e, bit_at_above (v % 2 ^ w) w (8 * k + i) (mod_below v (2 ^ w) (pow_pos w)) high))
        (cases_lt (8 * k + i) w)

-- no byte stands after the last one of a number
no_byte_after : (n k v : ℕ) → v < 256 ^ n → n ≤ k → byte_of v k ≡ 0
no_byte_after zero zero v l g = omega (arith, l)
no_byte_after zero (suc k) v l g = no_byte_after zero k (v / 256) (omega (arith, l)) (omega arith)
no_byte_after (suc n) zero v l g = absurd (omega (arith, g))
no_byte_after (suc n) (suc k) v l g = no_byte_after n k (v / 256) (less (256 ^ n) (pow-suc 256 n) l) (omega (arith, g))
  where
    less : (p : ℕ) → 256 ^ suc n ≡ p * 256 → v < 256 ^ suc n → v / 256 < p
    less p e l = omega (arith, e, l)

-- ---- loads

module _ (w : World) (holds : ℕ → Type 0) where
  found_origin : (n a mask : ℕ) → ¬ (mask ≡ 0) → mask < 256 ^ n → ((k : ℕ) → k < n → ¬ (byte_of mask k ≡ 0) → (is_good w (a + k) 1 ≡ true) × holds (w.origins ((a + k) / 4))) → holds (origin_within n a mask w)
  found_origin zero a mask ne l h = absurd (ne (omega (arith, l)))
  found_origin (suc n) a mask ne l h =
      by_test (eqb (mask % 256) 0) (is_good w a 1) refl refl
      (λ z. found_origin n (a + 1) (mask / 256) z (less (256 ^ n) (pow-suc 256 n) l)
      (λ k g b. subst (λ y. (is_good w y 1 ≡ true) × holds (w.origins (y / 4))) (next k) (h (suc k) (omega (arith, g)) b)))
    where
      start : (x : ℕ) → x + 0 ≡ x
      start x = omega arith

      next : (j : ℕ) → a + suc j ≡ a + 1 + j
      next j = omega arith

      less : (p : ℕ) → 256 ^ suc n ≡ p * 256 → mask < 256 ^ suc n → mask / 256 < p
      less p e l = omega (arith, e, l)

      some_left : mask % 256 ≡ 0 → ¬ (mask / 256 ≡ 0)
      some_left z e = ne (omega (arith, z, e))

      first : ¬ (mask % 256 ≡ 0) → (is_good w a 1 ≡ true) × holds (w.origins (a / 4))
      first z = subst (λ y. (is_good w y 1 ≡ true) × holds (w.origins (y / 4))) (start a) (h 0 (omega arith) z)

      by_test : (t u : Bool) → eqb (mask % 256) 0 ≡ t → is_good w a 1 ≡ u → (¬ (mask / 256 ≡ 0) → holds (origin_within n (a + 1) (mask / 256) w))
          → holds (if t || not u then origin_within n (a + 1) (mask / 256) w else w.origins (a / 4))
      by_test true u e f later = later (some_left (eqb-true (mask % 256) 0 e))
      by_test false false e f later = absurd (true≢false (sym (first (eqb-false (mask % 256) 0 e)).0 ∙ f))
      by_test false true e f later = (first (eqb-false (mask % 256) 0 e)).1

-- what a load reads has at most 64 bits
abbrev pub SmallLoad : Op → Type 0
SmallLoad (op.Load t a) = width_of t ≤ 64
SmallLoad o = Unit {0}

-- ---- results

module _ (site root : ℕ → Type 0) (roots : ℕ) (pairs : List (ℕ × ℕ)) where
  -- the last word with a poisoned bit
  last_back : (ps : List Poisoned) → WordsBack site root roots pairs ps → (best : ℕ) → Back site root roots pairs best ⊎ (NonePoisoned ps → ⊥) → Back site root roots pairs (last_origin ps best)
  last_back [] words best (inl h) = h
  last_back [] words best (inr h) = absurd (h tt)
  last_back (p ∷ ps) words best h = last_back ps (λ k. words (suc k)) (if eqb p.mask 0 then best else p.origin) (by_test (eqb p.mask 0) refl h)
    where
      by_test : (t : Bool) → eqb p.mask 0 ≡ t → Back site root roots pairs best ⊎ (NonePoisoned (p ∷ ps) → ⊥) → Back site root roots pairs (if t then best else p.origin) ⊎ (NonePoisoned ps → ⊥)
      by_test true e (inl h) = inl h
      by_test true e (inr h) = inr (λ none. h (eqb-true p.mask 0 e, none))
      by_test false e h = inl (words 0 (eqb-false p.mask 0 e))

  -- the word that is selected, or the condition
  select_back : (k p q : Poisoned) → WordBack site root roots pairs k → WordBack site root roots pairs p → WordBack site root roots pairs q → (k.mask ≡ 0 → select_of k.value p.mask q.mask ≡ 0 → ⊥) → Back site root roots pairs (select_origin k p q)
  unfolding select_of
  select_back k p q a b c some = by_mask k.mask refl
    where
      by_value : (v : ℕ) → k.value ≡ v → k.mask ≡ 0 → Back site root roots pairs (select_of v p.origin q.origin)
      by_value zero e z = c (λ h. some z (ap (λ v. select_of v p.mask q.mask) e ∙ h))
      by_value (suc v) e z = b (λ h. some z (ap (λ u. select_of u p.mask q.mask) e ∙ h))

      by_mask : (m : ℕ) → k.mask ≡ m → Back site root roots pairs (select_of m k.origin (select_of k.value p.origin q.origin))
      by_mask zero e = by_value k.value refl e
      by_mask (suc m) e = a (λ z. some_mask m (sym e ∙ z))
        where
          some_mask : (m : ℕ) → suc m ≡ 0 → ⊥
          some_mask m e = omega (arith, e)

module _ (site root told : ℕ → Type 0) (s : Setting) (d : Rules) (keep : KeepClean d) (values : Name → Poisoned) (n : ℕ) where
  -- the words of an instruction's operands
  abbrev words_of : Op → List Poisoned
  words_of o = read_all (read_poisoned s values) (operands o) n

  -- a result with a poisoned bit has an origin that leads back in the world before
  abbrev pub ResultBack : Op → World → Effect → Type 0
  ResultBack o w (Gives v u) = WordBack site root s.roots w.pairs (poisoned_result d o (read_all (read_poisoned s values) (operands o) n) v u)
  ResultBack o w e = Unit {0}

  any_result : (o : Op) (w : World) (e : Effect) → ((v : ℕ) (u : World) → WordBack site root s.roots w.pairs (poisoned_result d o (read_all (read_poisoned s values) (operands o) n) v u)) → ResultBack o w e
  any_result o w (Gives v u) h = h v u
  any_result o w (Does u) h = tt
  any_result o w (Goes x u) h = tt
  any_result o w (Enters f u) h = tt
  any_result o w (Leaves u) h = tt
  any_result o w (Ends e u) h = tt

  load_back : (t : Ty) (a : ℕ) (w : World) → width_of t ≤ 64 → is_good w a (stored_size t) ≡ true → Backed site root told s.roots NoneFree w → ((x : ℕ) → w.shadow x < 256)
      → ¬ (number_at w.shadow a (stored_size t) % 2 ^ width_of t ≡ 0) → Back site root s.roots w.pairs (load_origin a (number_at w.shadow a (stored_size t) % 2 ^ width_of t) w)
  load_back t a w few good b bytes ne =
      found_origin w (Back site root s.roots w.pairs) 8 a (number_at w.shadow a (stored_size t) % 2 ^ width_of t) ne
      (below (2 ^ width_of t) (mod_below (number_at w.shadow a (stored_size t)) (2 ^ width_of t) (pow_pos (width_of t))) (pow_mono few))
      (λ k l some.
      let byte = cut_byte (number_at w.shadow a (stored_size t)) (width_of t) k some in
      let inside = within_it k byte in (
        good_byte w a (stored_size t) k good inside,
        ⊎_elim (λ h. absurd h) (λ h. h) (b.cells (a + k) (λ z. byte (loaded_byte (stored_size t) a k w.shadow inside (λ j g. bytes (a + j)) ∙ z))),
      ))
    where
      below : (p : ℕ) → number_at w.shadow a (stored_size t) % 2 ^ width_of t < p → p ≤ 2 ^ 64 → number_at w.shadow a (stored_size t) % 2 ^ width_of t < 256 ^ 8
      below p l g = omega (arith, l, g)

      within_it : (k : ℕ) → ¬ (byte_of (number_at w.shadow a (stored_size t)) k ≡ 0) → k < stored_size t
      within_it k byte = ⊎_elim (λ l. l) (λ g. absurd (byte (no_byte_after (stored_size t) k (number_at w.shadow a (stored_size t)) (number_at-lt (stored_size t) a w.shadow (λ j l. bytes (a + j))) g))) (cases_lt k (stored_size t))

  -- the result of an instruction
  pub op_result : (h : Here) (o : Op) → SmallLoad o → (w : World) → Backed site root told s.roots NoneFree w → ((x : ℕ) → w.shadow x < 256) → WordsBack site root s.roots w.pairs (read_all (read_poisoned s values) (operands o) n)
      → ResultBack o w (act s h o (map (λ p. p.value) (read_all (read_poisoned s values) (operands o) n)) w)
  op_result h (op.Binary o f t a b) small w g bytes words =
      any_result (op.Binary o f t a b) w _ (λ v u ne. last_back site root s.roots w.pairs (words_of (op.Binary o f t a b)) words (read_poisoned s values n t a).origin
      (inr (λ none. ne (binary_zero d keep o (width_of t) (read_poisoned s values n t a) (read_poisoned s values (n + one_undef a) t b) (read_fits s values n t a) (read_fits s values (n + one_undef a) t b) none.0 (λ e. none.1.0)))))
  op_result h (op.Icmp p f t a b) small w g bytes words =
      any_result (op.Icmp p f t a b) w _ (λ v u ne. last_back site root s.roots w.pairs (words_of (op.Icmp p f t a b)) words (read_poisoned s values n t a).origin
      (inr (λ none. ne (keep.compare p (width_of t) (read_poisoned s values n t a) (read_poisoned s values (n + one_undef a) t b) (read_fits s values n t a) (read_fits s values (n + one_undef a) t b) none.0 none.1.0))))
  op_result h (op.Cast o f t a u) small w g bytes words =
      any_result (op.Cast o f t a u) w _ (λ v x ne. words 0 (λ z. ne (ap (λ k. value_or_zero (cast_of o no_flags (width_of t) k (width_of u))) z ∙ cast_zero o (width_of t) (width_of u))))
  op_result h (op.Select c t a b) small w g bytes words =
      λ ne.
      select_back site root s.roots w.pairs (read_poisoned s values n (ty.Int 1) c) (read_poisoned s values (n + one_undef c) t a) (read_poisoned s values (n + one_undef c + one_undef a) t b) (words 0) (words 1) (words 2)
      (λ z e. ne (keep.select (width_of t) (read_poisoned s values n (ty.Int 1) c) (read_poisoned s values (n + one_undef c) t a) (read_poisoned s values (n + one_undef c + one_undef a) t b)
      (read_fits s values n (ty.Int 1) c) (read_fits s values (n + one_undef c) t a) (read_fits s values (n + one_undef c + one_undef a) t b) z e))
  op_result h (op.Gep t a ix) small w g bytes words =
      λ ne. last_back site root s.roots w.pairs (words_of (op.Gep t a ix)) words (read_poisoned s values n ty.Ptr a).origin
      (inr (λ none. ne (address_zero d keep ix (read_poisoned s values n ty.Ptr a) (read_all (read_poisoned s values) ix (n + one_undef a)) none.0 none.1)))
  op_result h (op.Load t a) small w g bytes words = by_test (is_good w (read_poisoned s values n ty.Ptr a).value (stored_size t)) refl
    where
      by_test : (b : Bool) → is_good w (read_poisoned s values n ty.Ptr a).value (stored_size t) ≡ b → ResultBack (op.Load t a) w (if b then Gives (number_at w.bytes (read_poisoned s values n ty.Ptr a).value (stored_size t) % 2 ^ width_of t) w else traps trap.BadAddress h.site w)
      by_test true e = load_back t (read_poisoned s values n ty.Ptr a).value w small e g bytes
      by_test false e = tt
  op_result h (op.Freeze t a) small w g bytes words = λ ne. absurd (ne refl)
  op_result h (op.Phi t edges) small w g bytes words = tt
  op_result h (op.Alloca t u c) small w g bytes words = any_result (op.Alloca t u c) w _ (λ v x ne. absurd (ne refl))
  op_result h (op.Store t v a) small w g bytes words = any_result (op.Store t v a) w _ (λ x u ne. absurd (ne refl))
  op_result h (op.Call r x args) small w g bytes words = any_result (op.Call r x args) w _ (λ v u. by_external (lookup externals x))
    where
      ps : List Poisoned
      ps = read_all (read_poisoned s values) args n

      by_external : (e : Option External) → ¬ (as_result r (answer_mask e ps) ≡ 0) → Back site root s.roots w.pairs (answer_origin e ps)
      by_external None ne = absurd (ne (result_zero r 0 refl))
      by_external (Some (Word f k)) ne =
          last_back site root s.roots w.pairs ps words (word_at 0 ps).origin (inr (λ none. ne (result_zero r (answer_mask (Some (Word f k)) ps) (answer_zero (Some (Word f k)) ps none))))
      by_external (Some e) ne = absurd (ne (result_zero r 0 refl))
  op_result h (op.Br to) small w g bytes words = tt
  op_result h (op.CondBr c to other) small w g bytes words = tt
  op_result h (op.Switch t v other cases) small w g bytes words = tt
  op_result h (op.Ret v) small w g bytes words = any_result (op.Ret v) w _ (λ x u ne. absurd (ne refl))
  op_result h op.Unreachable small w g bytes words = tt
