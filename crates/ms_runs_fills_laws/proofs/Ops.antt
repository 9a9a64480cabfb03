-- Instructions but calls, on words and worlds that are alike.
use Rattle.std.proofs.Common.{◌≡◌, ℕ, zero, suc, ◌+◌, ◌*◌, ◌/◌, ◌%◌, ◌^◌, ◌<◌, ◌≤◌, List, [], ◌∷◌, map, Bool, true, false, not, ◌||◌, eqb, Option, Some, None, Result, Ok, Err, refl, sym, ap, ap₂, ◌∙◌, subst, arith, bit_or, if◌then◌else◌}
use Rattle.std.specs.Int.{bit_at}
use Rattle.std.proofs.lemmas.Nat.{mod_below, pow_pos}
use Rattle.ms_bits.specs.declared.traps.Trap.{Trap}
use Rattle.ms_bits.specs.declared.traps.Trap.TheVariants as trap
use Rattle.ms_bits.specs.Maps.{number_at}
use Rattle.ms_ir.specs.declared.syntax.Ty.{Ty}
use Rattle.ms_ir.specs.declared.syntax.Ty as ty
use Rattle.ms_ir.specs.declared.syntax.Operand.{Operand}
use Rattle.ms_ir.specs.declared.syntax.Op.{Op}
use Rattle.ms_ir.specs.declared.syntax.Op.TheVariants as op
use Rattle.ms_runs.specs.declared.runs.End.TheVariants as «end»
use Rattle.ms_ir.specs.Layout.{width_of, stored_size, size_in}
use Rattle.ms_runs.specs.World.{World, Setting, Here, Gives, Does, Leaves, Ends, traps, gives}
use Rattle.ms_runs.specs.Memory.{is_good, fits, next_base, local_area, make_unset, store_number}
use Rattle.ms_ir.specs.Instructions.{operands, one_undef}
use Rattle.ms_runs.specs.Control.{read_all, local_block, blocks_made}
use Rattle.ms_runs.specs.Act.{act, extended_all}
use Rattle.ms_runs.specs.Origins.{origin_within}
use Rattle.ms_runs.specs.Poisoned.{Poisoned}
use Rattle.ms_runs.specs.Masks.{by_formulas, union}
use Rattle.ms_runs.specs.Uses.{uses, blinded}
use Rattle.ms_runs.specs.Shadow.{planes, poisoned_result}
use Rattle.ms_runs.specs.LowEqual.{LowWord, LowWorld, SameBits}
use Rattle.ms_bits_laws.proofs.ByteAgreement.{loaded_agree}
use Rattle.ms_bits_laws.proofs.OperationAgreement.{cut}
use Rattle.ms_bits.specs.Formulas as formulas
use Rattle.ms_runs.proofs.HeapBlocks.{no_blocks}
use Rattle.ms_runs_fills_laws.proofs.Passed.{AllPassed}
use Rattle.ms_runs_fills_laws.proofs.Effects.{EffectsAlike}
use Rattle.ms_runs_fills_laws.proofs.Words.{LowAt, from_width, alike_word, union_clean, AnswersAlike, binary_masks, binary_alike}
use Rattle.ms_runs_fills_laws.proofs.Addresses.{AddressStands, read_all_at, addresses_agree}
use Rattle.ms_runs_fills_laws.proofs.Answers.{CastsTo, compare_masks, compare_alike, cast_masks, cast_alike, select_masks, select_origins, select_alike}
use Rattle.ms_runs_fills_laws.proofs.Reading.{AlikeWords, read_all_alike, number_same, masks_same, origins_same, refill}
use Rattle.ms_runs_fills_laws.proofs.Worlds.{Unseen, other, BytesAlike, low_other, made_low, stored_low, store_origin_low, FitWorld}
use Rattle.ms_runs_good_laws.proofs.OpEffects.{indexed_below}

-- words alike without a poisoned bit are one
pub same_word : (p q : Poisoned) → LowWord p q → p.mask ≡ 0 → p ≡ q
same_word p q h z = let e = number_same p q h z in λ i. record { value = e i; mask = h.mask i; origin = h.origin i }

-- a word alike is the word with another number
pub other_word : (p q : Poisoned) → LowWord p q → record p { value = q.value } ≡ q
other_word p q h = λ i. record { value = q.value; mask = h.mask i; origin = h.origin i }

pub exact_word : (x y m k a c : ℕ) → m ≡ k → a ≡ c → x ≡ y → LowWord (record { value = x; mask = m; origin = a }) (record { value = y; mask = k; origin = c })
exact_word x y m k a c e f g = record { mask = e; origin = f; value = λ i z. ap (λ v. bit_at v i) g }

origin_same : (n a mask : ℕ) (w : World) (b : Unseen) → origin_within n a mask w ≡ origin_within n a mask (other w b)
origin_same zero a mask w b = refl
origin_same (suc n) a mask w b = ap (λ o. if eqb (mask % 256) 0 || not (is_good w a 1) then o else w.origins (a / 4)) (origin_same n (a + 1) (mask / 256) w b)

-- an answer
pub answer_alike : (lift lift' : ℕ → World → Poisoned) (after after' : ℕ → World → World) (site m : ℕ) (r q : Result ℕ Trap) (w v : World) → LowWorld w v → AnswersAlike m r q
    → ((x y : ℕ) → SameBits m x y → LowWord (lift x w) (lift' y v) × LowWorld (after x w) (after' y v))
    → EffectsAlike lift lift' after after' (gives site r w) (gives site q v)
answer_alike lift lift' after after' site m (Ok x) (Ok y) w v g h f = f x y h
answer_alike lift lift' after after' site m (Err t) (Err u) w v g h f = (ap (λ k. «end».Trap k site) h, g)
answer_alike lift lift' after after' site m (Ok x) (Err u) w v g h f = absurd h
answer_alike lift lift' after after' site m (Err t) (Ok y) w v g h f = absurd h

-- what a cast that stands may be
abbrev pub CastStands : Op → Type 0
CastStands (op.Cast o f t a u) = CastsTo o (width_of t) (width_of u)
CastStands o = Unit {0}

module _ (s : Setting) (fill : List ℕ) (h : Here) (root : ℕ) (w : World) (b : Unseen) (alike : BytesAlike w b) (bytes : FitWorld w) (others : (x : ℕ) → b.bytes x < 256) where
  -- an operation comes to the same on two lists of words
  abbrev pub OpAlike : Op → List Poisoned → List Poisoned → Type 0
  OpAlike o ps qs =
      EffectsAlike (poisoned_result by_formulas o ps) (poisoned_result by_formulas o qs) (planes s h.site root o ps w) (planes (refill s fill) h.site root o qs (other w b))
      (act s h o (map (λ p. p.value) ps) w) (act (refill s fill) h o (map (λ p. p.value) qs) (other w b))

  low : LowWorld w (other w b)
  low = low_other w b alike

  -- ---- memory

  loaded : (t : Ty) (x : Operand) (p : Poisoned) → OpAlike (op.Load t x) (p ∷ []) (p ∷ [])
  loaded t x p = by_test (is_good w p.value (stored_size t))
    where
      n : ℕ
      n = stored_size t

      fits_bytes : width_of t ≤ 8 * stored_size t
      fits_bytes = omega arith

      by_test : (g : Bool)
          → EffectsAlike (poisoned_result by_formulas (op.Load t x) (p ∷ [])) (poisoned_result by_formulas (op.Load t x) (p ∷ [])) (λ v u. u) (λ v u. u)
          (if g then Gives (number_at w.bytes p.value (stored_size t) % 2 ^ width_of t) w else traps trap.BadAddress h.site w)
          (if g then Gives (number_at b.bytes p.value (stored_size t) % 2 ^ width_of t) (other w b) else traps trap.BadAddress h.site (other w b))
      by_test true = (
        record {
          mask = refl;
          origin = origin_same 8 p.value (number_at w.shadow p.value (stored_size t) % 2 ^ width_of t) w b;
          value =
              from_width (width_of t) _ _ _ (mod_below _ _ (pow_pos (width_of t))) (mod_below _ _ (pow_pos (width_of t)))
              (cut (8 * stored_size t) (width_of t) _ _ _ fits_bytes
              (loaded_agree (stored_size t) p.value w.shadow w.bytes b.bytes (λ k l. bytes.shadow (p.value + k)) (λ k l. bytes.bytes (p.value + k)) (λ k l. others (p.value + k)) (λ k l. alike.0 (p.value + k))));
        },
        low,
      )
      by_test false = (refl, low)

  stored : (t : Ty) (v x : Operand) (p a : Poisoned) (y : ℕ) → SameBits p.mask p.value y → OpAlike (op.Store t v x) (p ∷ a ∷ []) (record p { value = y } ∷ a ∷ [])
  stored t v x p a y same = by_test (is_good w a.value (stored_size t))
    where
      by_test : (g : Bool)
          → EffectsAlike (poisoned_result by_formulas (op.Store t v x) (p ∷ a ∷ [])) (poisoned_result by_formulas (op.Store t v x) (record p { value = y } ∷ a ∷ []))
          (planes s h.site root (op.Store t v x) (p ∷ a ∷ []) w) (planes (refill s fill) h.site root (op.Store t v x) (record p { value = y } ∷ a ∷ []) (other w b))
          (if g then Does (store_number a.value (stored_size t) p.value w) else traps trap.BadAddress h.site w)
          (if g then Does (store_number a.value (stored_size t) y (other w b)) else traps trap.BadAddress h.site (other w b))
      by_test true = store_origin_low s a.value p.mask p.origin h.site _ _ (stored_low a.value (stored_size t) p.mask p.value y w b alike same)
      by_test false = (refl, low)

  made : (t u : Ty) (c : Operand) (p : Poisoned) → OpAlike (op.Alloca t u c) (p ∷ []) (p ∷ [])
  made t u c p = by_test (fits (local_area w) (size_in s.types t * p.value) w) refl
    where
      by_test : (g : Bool) → fits (local_area w) (size_in s.types t * p.value) w ≡ g
          → EffectsAlike (poisoned_result by_formulas (op.Alloca t u c) (p ∷ [])) (poisoned_result by_formulas (op.Alloca t u c) (p ∷ []))
          (planes s h.site root (op.Alloca t u c) (p ∷ []) w) (planes (refill s fill) h.site root (op.Alloca t u c) (p ∷ []) (other w b))
          (if g then Gives (next_base (local_area w) w) (make_unset s.fill (local_area w) (size_in s.types t * p.value) w) else traps trap.Stack h.site w)
          (if g then Gives (next_base (local_area w) w) (make_unset fill (local_area w) (size_in s.types t * p.value) (other w b)) else traps trap.Stack h.site (other w b))
      by_test true e = (exact_word _ _ _ _ _ _ refl refl refl, made_low s.fill fill (local_area w) (size_in s.types t * p.value) root w b alike e)
      by_test false e = (refl, low)

  -- ---- the heap blocks that an instruction makes for its frame

  -- they are the same on two lists of words
  abbrev pub BlocksAlike : Op → List Poisoned → List Poisoned → Type 0
  BlocksAlike o ps qs = blocks_made o (act s h o (map (λ p. p.value) ps) w) ≡ blocks_made o (act (refill s fill) h o (map (λ p. p.value) qs) (other w b))

  made_blocks : (t u : Ty) (c : Operand) (p : Poisoned) → BlocksAlike (op.Alloca t u c) (p ∷ []) (p ∷ [])
  made_blocks t u c p = by_test (fits (local_area w) (size_in s.types t * p.value) w)
    where
      by_test : (g : Bool)
          → blocks_made (op.Alloca t u c) (if g then Gives (next_base (local_area w) w) (make_unset s.fill (local_area w) (size_in s.types t * p.value) w) else traps trap.Stack h.site w)
          ≡ blocks_made (op.Alloca t u c) (if g then Gives (next_base (local_area w) w) (make_unset fill (local_area w) (size_in s.types t * p.value) (other w b)) else traps trap.Stack h.site (other w b))
      by_test true = refl
      by_test false = refl

  -- ---- all of them, where operands are read

  module _ (read others_read : ℕ → Ty → Operand → Poisoned) (reads : (n : ℕ) (t : Ty) (o : Operand) → LowAt (width_of t) (read n t o) (others_read n t o)) (n : ℕ) where
    -- the same on its own operands
    abbrev pub ReadAlike : Op → Type 0
    ReadAlike o = OpAlike o (read_all read (operands o) n) (read_all others_read (operands o) n)

    alike_at : (n : ℕ) (t : Ty) (o : Operand) → LowWord (read n t o) (others_read n t o)
    alike_at n t o = alike_word (width_of t) _ _ (reads n t o)

    -- an instruction of one operand that has no poisoned bit
    by_one : (t : Ty) (a : Operand) (P : Poisoned → Type 0) → (read n t a).mask ≡ 0 → P (read n t a) → P (others_read n t a)
    by_one t a P z p = subst P (same_word (read n t a) (others_read n t a) (alike_at n t a) z) p

    no_others : (o : Op) → ((v : ℕ) → local_block o v ≡ []) → BlocksAlike o (read_all read (operands o) n) (read_all others_read (operands o) n)
    no_others o none =
        no_blocks o none (act s h o (map (λ p. p.value) (read_all read (operands o) n)) w)
        ∙ sym (no_blocks o none (act (refill s fill) h o (map (λ p. p.value) (read_all others_read (operands o) n)) (other w b)))

    pub blocks_alike : (o : Op) → AllPassed w (read_all read (operands o) n) (uses s.func h.main o) → BlocksAlike o (read_all read (operands o) n) (read_all others_read (operands o) n)
    blocks_alike (op.Alloca t u c) passed = by_one u c (λ q. BlocksAlike (op.Alloca t u c) (read n u c ∷ []) (q ∷ [])) passed.0 (made_blocks t u c (read n u c))
    blocks_alike (op.Binary o f t a c) passed = no_others (op.Binary o f t a c) (λ j. refl)
    blocks_alike (op.Icmp o f t a c) passed = no_others (op.Icmp o f t a c) (λ j. refl)
    blocks_alike (op.Cast o f t a u) passed = no_others (op.Cast o f t a u) (λ j. refl)
    blocks_alike (op.Select c t a e) passed = no_others (op.Select c t a e) (λ j. refl)
    blocks_alike (op.Freeze t a) passed = no_others (op.Freeze t a) (λ j. refl)
    blocks_alike (op.Phi t edges) passed = no_others (op.Phi t edges) (λ j. refl)
    blocks_alike (op.Load t x) passed = no_others (op.Load t x) (λ j. refl)
    blocks_alike (op.Store t v x) passed = no_others (op.Store t v x) (λ j. refl)
    blocks_alike (op.Gep t base is) passed = no_others (op.Gep t base is) (λ j. refl)
    blocks_alike (op.Call r x args) passed = no_others (op.Call r x args) (λ j. refl)
    blocks_alike (op.Br to) passed = no_others (op.Br to) (λ j. refl)
    blocks_alike (op.CondBr c to otherwise) passed = no_others (op.CondBr c to otherwise) (λ j. refl)
    blocks_alike (op.Switch t v otherwise cases) passed = no_others (op.Switch t v otherwise cases) (λ j. refl)
    blocks_alike (op.Ret v) passed = no_others (op.Ret v) (λ j. refl)
    blocks_alike op.Unreachable passed = no_others op.Unreachable (λ j. refl)

    located : (t : Ty) (base : Operand) (is : List (Ty × Operand)) → AddressStands s.types (op.Gep t base is) (read_all read ((ty.Ptr, base) ∷ is) n) → ReadAlike (op.Gep t base is)
    located t base is stands = (
      record {
        mask = ap₂ (λ m k. formulas.carry_mask 64 (bit_or m (union (extended_all is k)))) words.0.mask (masks_same ps qs words.1);
        origin = origins_same (p ∷ ps) (q ∷ qs) words (read n ty.Ptr base).origin (others_read n ty.Ptr base).origin words.0.origin;
        value =
            from_width 64 _ _ _ (indexed_below s.types t p.value (extended_all is (map (λ r. r.value) ps)) low_base.left.value) (indexed_below s.types t q.value (extended_all is (map (λ r. r.value) qs)) low_base.right.value)
            (addresses_agree s.types t is p q ps qs low_base (read_all_at read others_read reads is (n + one_undef base)) stands);
      },
      low,
    )
      where
        p : Poisoned
        p = read n ty.Ptr base

        q : Poisoned
        q = others_read n ty.Ptr base

        ps : List Poisoned
        ps = read_all read is (n + one_undef base)

        qs : List Poisoned
        qs = read_all others_read is (n + one_undef base)

        low_base : LowAt 64 (read n ty.Ptr base) (others_read n ty.Ptr base)
        low_base = reads n ty.Ptr base

        words : AlikeWords (read_all read ((ty.Ptr, base) ∷ is) n) (read_all others_read ((ty.Ptr, base) ∷ is) n)
        words = read_all_alike read others_read reads ((ty.Ptr, base) ∷ is) n

    returned : (v : Option (Ty × Operand)) → AllPassed w (read_all read (operands (op.Ret v)) n) (uses s.func h.main (op.Ret v)) → ReadAlike (op.Ret v)
    returned None z = by_main h.main
      where
        by_main : (m : Bool)
            → EffectsAlike (poisoned_result by_formulas (op.Ret None) []) (poisoned_result by_formulas (op.Ret None) []) (λ x u. u) (λ x u. u)
            (if m then Ends («end».Exit 0) w else Leaves w) (if m then Ends («end».Exit 0) (other w b) else Leaves (other w b))
        by_main true = (refl, low)
        by_main false = low
    returned (Some v) z = by_main h.main z
      where
        by_main : (m : Bool) → AllPassed w (read n v.0 v.1 ∷ []) (uses s.func m (op.Ret (Some v)))
            → EffectsAlike (poisoned_result by_formulas (op.Ret (Some v)) (read n v.0 v.1 ∷ [])) (poisoned_result by_formulas (op.Ret (Some v)) (others_read n v.0 v.1 ∷ [])) (λ x u. u) (λ x u. u)
            (if m then Ends («end».Exit (read n v.0 v.1).value) w else Leaves w) (if m then Ends («end».Exit (others_read n v.0 v.1).value) (other w b) else Leaves (other w b))
        by_main true z = (ap (λ k. «end».Exit k) (number_same _ _ (alike_at n v.0 v.1) z.0), low)
        by_main false z = low

    -- calls stand elsewhere
    abbrev pub IsNoCall : Op → Type 0
    IsNoCall (op.Call r x args) = ⊥
    IsNoCall o = Unit {0}

    pub op_alike : (o : Op) → IsNoCall o → CastStands o → AddressStands s.types o (read_all read (operands o) n) → union (map (λ p. p.mask) (blinded s.func o (read_all read (operands o) n))) ≡ 0
        → AllPassed w (read_all read (operands o) n) (uses s.func h.main o) → ReadAlike o
    op_alike (op.Binary o f t a c) k fits stands quiet passed =
        let p = reads n t a in let q = reads (n + one_undef a) t c in
        answer_alike _ _ _ _ h.site _ _ _ w (other w b) low (binary_alike (width_of t) _ _ _ _ p q w o f quiet passed)
        (λ x y same. (record { mask = binary_masks (width_of t) _ _ _ _ p q o; origin = origins_same (read n t a ∷ read (n + one_undef a) t c ∷ []) (others_read n t a ∷ others_read (n + one_undef a) t c ∷ []) (read_all_alike read others_read reads ((t, a) ∷ (t, c) ∷ []) n) (read n t a).origin (others_read n t a).origin p.origin; value = same }, low))
    op_alike (op.Icmp o f t a c) k fits stands quiet passed =
        let p = reads n t a in let q = reads (n + one_undef a) t c in
        answer_alike _ _ _ _ h.site _ _ _ w (other w b) low (compare_alike (width_of t) _ _ _ _ p q o f quiet)
        (λ x y same. (record { mask = compare_masks (width_of t) _ _ _ _ p q o; origin = origins_same (read n t a ∷ read (n + one_undef a) t c ∷ []) (others_read n t a ∷ others_read (n + one_undef a) t c ∷ []) (read_all_alike read others_read reads ((t, a) ∷ (t, c) ∷ []) n) (read n t a).origin (others_read n t a).origin p.origin; value = same }, low))
    op_alike (op.Cast o f t a u) k fits stands quiet passed =
        let p = reads n t a in
        answer_alike _ _ _ _ h.site _ _ _ w (other w b) low (cast_alike (width_of t) (width_of u) _ _ p o f fits quiet)
        (λ x y same. (record { mask = cast_masks (width_of t) (width_of u) _ _ p o; origin = p.origin; value = same }, low))
    op_alike (op.Select c t a e) k fits stands quiet passed =
        let d = reads n (ty.Int 1) c in let p = reads (n + one_undef c) t a in let q = reads (n + one_undef c + one_undef a) t e in
        (record { mask = select_masks (width_of t) _ _ _ _ _ _ d p q; origin = select_origins (width_of t) _ _ _ _ _ _ d p q; value = select_alike (width_of t) _ _ _ _ _ _ d p q }, low)
    op_alike (op.Freeze t a) k fits stands quiet passed =
        (exact_word _ _ _ _ _ _ refl refl (number_same _ _ (alike_at n t a) (union_clean (read n t a ∷ []) quiet).0), low)
    op_alike (op.Phi t edges) k fits stands quiet passed = (refl, low)
    op_alike (op.Alloca t u c) k fits stands quiet passed = by_one u c (λ q. OpAlike (op.Alloca t u c) (read n u c ∷ []) (q ∷ [])) passed.0 (made t u c (read n u c))
    op_alike (op.Load t x) k fits stands quiet passed = by_one ty.Ptr x (λ q. OpAlike (op.Load t x) (read n ty.Ptr x ∷ []) (q ∷ [])) passed.0 (loaded t x (read n ty.Ptr x))
    op_alike (op.Store t v x) k fits stands quiet passed =
        let p = read n t v in let q = others_read n t v in let a = read (n + one_undef v) ty.Ptr x in
        let same = alike_at n t v in
        subst (λ c. OpAlike (op.Store t v x) (p ∷ a ∷ []) (q ∷ c ∷ [])) (same_word a (others_read (n + one_undef v) ty.Ptr x) (alike_at (n + one_undef v) ty.Ptr x) passed.0)
        (subst (λ d. OpAlike (op.Store t v x) (p ∷ a ∷ []) (d ∷ a ∷ [])) (other_word p q same) (stored t v x p a q.value same.value))
    op_alike (op.Gep t base is) k fits stands quiet passed = located t base is stands
    op_alike (op.Call r x args) k fits stands quiet passed = absurd k
    op_alike (op.Br to) k fits stands quiet passed = (refl, low)
    op_alike (op.CondBr c to otherwise) k fits stands quiet passed = by_one (ty.Int 1) c (λ q. OpAlike (op.CondBr c to otherwise) (read n (ty.Int 1) c ∷ []) (q ∷ [])) passed.0 (refl, low)
    op_alike (op.Switch t v otherwise cases) k fits stands quiet passed = by_one t v (λ q. OpAlike (op.Switch t v otherwise cases) (read n t v ∷ []) (q ∷ [])) passed.0 (refl, low)
    op_alike (op.Ret v) k fits stands quiet passed = returned v passed
    op_alike op.Unreachable k fits stands quiet passed = (refl, low)
