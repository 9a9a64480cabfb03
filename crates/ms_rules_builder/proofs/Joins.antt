-- The words of joined masks, and their steps as they are added.
use Rattle.std.proofs.Common.{◌≡◌, ℕ, zero, suc, ◌+◌, ◌<◌, ◌≤◌, Bool, true, false, List, [], ◌∷◌, ◌++◌, length, drop, get_or, map, replicate, refl, sym, ap, ap₂, ◌∙◌, arith, add-one}
use Rattle.std.specs.Prelude.{if◌then◌else◌}
use Rattle.std.proofs.lemmas.List.{append_assoc, drop_more, drop-drop, get_or-drop, get_or-map, length-map}
use Rattle.ms_ir.specs.declared.syntax.Ty.{Int}
use Rattle.ms_ir.specs.Layout.{width_of}
use Rattle.ms_ir.specs.ValueTypes.{type_of}
use Rattle.ms_pass_tasks.specs.Tasks.{Expr}
use Rattle.ms_pass_tasks.specs.Environments.{Tracked, untracked, tracked_at, is_zero, unknown, joined}
use Rattle.ms_rules_builder.specs.declared.tracked.TrackedOperand.{TrackedOperand}
use Rattle.ms_rules_builder.specs.declared.steps.Operation.TheVariants as operation
use Rattle.ms_rules_builder.specs.declared.steps.StackOp.{StackOp}
use Rattle.ms_rules_builder.specs.declared.steps.StackOp.TheVariants as step
use Rattle.ms_rules_builder.specs.declared.unions.Widening.{Widening}
use Rattle.ms_rules_builder.specs.declared.unions.Widening.TheVariants as widening
use Rattle.ms_rules_builder.specs.Steps.{Inputs, tracked_of, bits_in, words}
use Rattle.ms_rules_builder.specs.Joins.{width_in, word_in, union_in, mask_steps, masks_from, joins, union_steps}

-- ---- what the steps come to

words_append : (i : Inputs) (a b : List StackOp) (st : List Expr) → words i (a ++ b) st ≡ words i b (words i a st)
words_append i [] b st = refl
words_append i (s ∷ a) b st = words_append i a b _

pub times_and_once : (n : ℕ) (s : StackOp) (l : List StackOp) → replicate (suc n) s ++ l ≡ replicate n s ++ s ∷ l
times_and_once zero s l = refl
times_and_once (suc n) s l = ap (λ x. s ∷ x) (times_and_once n s l)

-- the stack with the words of operands, the last on top
abbrev stacked : Widening → List Tracked → List Expr → List Expr
stacked how [] st = st
stacked how (t ∷ ts) st = stacked how ts (word_in how t ∷ st)

module _ (i : Inputs) (how : Widening) where
  abbrev or : StackOp
  or = step.Two operation.Or (width_in how)

  one_mask : (h : Widening) (k : ℕ) (t : Tracked) (st : List Expr) → tracked_at k i.operands ≡ t → words i (mask_steps h k (width_of t.ty)) st ≡ word_in h t ∷ st
  one_mask widening.Own k t st e = ap (λ u. word_in widening.Own u ∷ st) e
  one_mask widening.Zeros k t st e = ap (λ (u : Tracked). words i (step.Widen (width_of t.ty) ∷ []) (word_in widening.Own u ∷ st)) e
  one_mask widening.Sign k t st e = ap (λ (u : Tracked). words i (step.Extend (width_of t.ty) ∷ []) (word_in widening.Own u ∷ st)) e

  by_mask : (t : Tracked) (ts : List Tracked) (k : ℕ) → tracked_at k i.operands ≡ t → ((st : List Expr) → words i (masks_from how (suc k) ts) st ≡ stacked how (unknown ts) st)
      → (b : Bool) (st : List Expr)
      → words i (if b then masks_from how (suc k) ts else mask_steps how k (width_of t.ty) ++ masks_from how (suc k) ts) st
      ≡ stacked how (if b then unknown ts else t ∷ unknown ts) st
  by_mask t ts k at later true st = later st
  by_mask t ts k at later false st =
      words_append i (mask_steps how k (width_of t.ty)) (masks_from how (suc k) ts) st
      ∙ ap (λ l. words i (masks_from how (suc k) ts) l) (one_mask how k t st at)
      ∙ later (word_in how t ∷ st)

  masks_stacked : (ts more : List Tracked) (k : ℕ) → drop k i.operands ≡ ts ++ more → (st : List Expr) → words i (masks_from how k ts) st ≡ stacked how (unknown ts) st
  masks_stacked [] more k e st = refl
  masks_stacked (t ∷ ts) more k e st =
      let at : tracked_at k i.operands ≡ t =
      ap (λ n. get_or i.operands n untracked) (let a : k ≡ k + 0 = omega arith in a) ∙ sym (get_or-drop k i.operands 0 untracked) ∙ ap (λ l. get_or l 0 untracked) e in
      let later : drop (suc k) i.operands ≡ ts ++ more =
      ap (λ n. drop n i.operands) (sym (add-one k)) ∙ sym (drop-drop 1 k i.operands) ∙ ap (drop 1) e in
      by_mask t ts k at (masks_stacked ts more (suc k) later) (is_zero t.mask) st

  all_joined : (t : Tracked) (ts : List Tracked) (rest : List StackOp) (st : List Expr)
      → words i (replicate (length ts) or ++ rest) (stacked how (t ∷ ts) st) ≡ words i rest (joined (Int (bits_in i (width_in how))) (word_in how) (t ∷ ts) ∷ st)
  all_joined t [] rest st = refl
  all_joined t (u ∷ us) rest st =
      ap (λ l. words i l (stacked how (u ∷ us) (word_in how t ∷ st))) (times_and_once (length us) or rest)
      ∙ all_joined u us (or ∷ rest) (word_in how t ∷ st)

  words_joined : (us : List Tracked) (rest : List StackOp) (st : List Expr)
      → words i (joins how (length us) ++ rest) (stacked how us st) ≡ words i rest (joined (Int (bits_in i (width_in how))) (word_in how) us ∷ st)
  words_joined [] rest st = refl
  words_joined (t ∷ ts) rest st = all_joined t ts rest st

  -- of the first operands of a rule, where other steps follow
  pub union_words : (ts more : List Tracked) (rest : List StackOp) (st : List Expr) → i.operands ≡ ts ++ more
      → words i (union_steps how ts ++ rest) st ≡ words i rest (union_in i how ts ∷ st)
  union_words ts more rest st e =
      let a = masks_from how 0 ts in
      let b = joins how (length (unknown ts)) in
      ap (λ l. words i l st) (append_assoc a b rest)
      ∙ words_append i a (b ++ rest) st
      ∙ ap (λ l. words i (b ++ rest) l) (masks_stacked ts more 0 e st)
      ∙ words_joined (unknown ts) rest st

-- ---- the steps as they are added

-- so many words stand in steps, and those of the operands from a place on are still to come
abbrev pub Added : List Tracked → Widening → ℕ → List StackOp → ℕ → List StackOp → ℕ → Type 0
Added ts how k steps masks all count =
    (steps ++ masks_from how k (drop k ts) ≡ all) × ((masks + length (unknown (drop k ts)) ≡ count) × (masks ≤ k))

module _ (ops : List TrackedOperand) (how : Widening) (k : ℕ) (x : TrackedOperand) (within : k < length ops) (is : x ≡ get_or ops k x) where
  next : drop k (map tracked_of ops) ≡ tracked_of x ∷ drop (k + 1) (map tracked_of ops)
  next =
      let ts = map tracked_of ops in
      drop_more ts k untracked (omega (arith, length-map ops tracked_of))
      ∙ ap (λ t. t ∷ drop (k + 1) ts) (get_or-map tracked_of ops k x untracked within ∙ ap tracked_of (sym is))

  masks_next : (b : Bool) → is_zero (tracked_of x).mask ≡ b
      → masks_from how k (drop k (map tracked_of ops))
      ≡ (let more = masks_from how (k + 1) (drop (k + 1) (map tracked_of ops)) in if b then more else mask_steps how k (width_of (type_of x.ty)) ++ more)
  masks_next b e =
      let us = drop (k + 1) (map tracked_of ops) in
      ap (masks_from how k) next
      ∙ ap₂ (λ n b. if b then masks_from how n us else mask_steps how k (width_of (type_of x.ty)) ++ masks_from how n us) (sym (add-one k)) e

  by_length : (b : Bool) (us : List Tracked) → length (if b then us else tracked_of x ∷ us) ≡ (if b then length us else suc (length us))
  by_length true us = refl
  by_length false us = refl

  count_next : (b : Bool) → is_zero (tracked_of x).mask ≡ b
      → length (unknown (drop k (map tracked_of ops)))
      ≡ (let n = length (unknown (drop (k + 1) (map tracked_of ops))) in if b then n else suc n)
  count_next b e =
      let us = unknown (drop (k + 1) (map tracked_of ops)) in
      ap (λ l. length (unknown l)) next
      ∙ ap (λ b. length (if b then us else tracked_of x ∷ us)) e
      ∙ by_length b us

  pub clean_passed : (steps all after : List StackOp) (masks count n : ℕ) → is_zero (tracked_of x).mask ≡ true → after ≡ steps → n ≡ masks
      → Added (map tracked_of ops) how k steps masks all count → Added (map tracked_of ops) how (k + 1) after n all count
  clean_passed steps all after masks count n clean a b held =
      let us = drop (k + 1) (map tracked_of ops) in (
        ap (λ l. l ++ masks_from how (k + 1) us) a ∙ ap (λ l. steps ++ l) (sym (masks_next true clean)) ∙ held.0,
        (ap (λ m. m + length (unknown us)) b ∙ ap (λ m. masks + m) (sym (count_next true clean)) ∙ held.1.0, omega (arith, b, held.1.1)),
      )

  pub mask_added : (steps all after : List StackOp) (masks count n w : ℕ) → is_zero (tracked_of x).mask ≡ false → w ≡ width_of (type_of x.ty) → after ≡ steps ++ mask_steps how k w → n ≡ masks + 1
      → Added (map tracked_of ops) how k steps masks all count → Added (map tracked_of ops) how (k + 1) after n all count
  mask_added steps all after masks count n w some wide a b held =
      let more = masks_from how (k + 1) (drop (k + 1) (map tracked_of ops)) in (
        ap (λ l. l ++ more) a ∙ append_assoc steps (mask_steps how k w) more ∙ ap (λ v. steps ++ (mask_steps how k v ++ more)) wide
            ∙ ap (λ l. steps ++ l) (sym (masks_next false some)) ∙ held.0,
        (omega (arith, b, count_next false some, held.1.0), omega (arith, b, held.1.1)),
      )
