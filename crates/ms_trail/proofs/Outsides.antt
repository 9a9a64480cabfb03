-- What externals leave of the shadow of memory, by their kinds.
use Rattle.std.proofs.Common.{◌≡◌, ℕ, zero, suc, List, [], ◌∷◌, ◌++◌, map, get_or, if◌then◌else◌, min, unwrap_or, refl, sym, ap, ◌∙◌, subst, append-nil, arith, false, true≢false}
use Rattle.ms_ir.specs.declared.calls.External.{External}
use Rattle.ms_ir.specs.declared.calls.External.TheVariants.{Malloc, Realloc, Memcpy, Memmove, Memset, LlvmMemcpy, LlvmMemmove, LlvmMemset, Read, LifetimeStart, PthreadCreate, PthreadJoin}
use Rattle.ms_ir.specs.Areas.{Heap}
use Rattle.ms_ir.specs.Signatures.{is_thread_call}
use Rattle.ms_runs.specs.World.{World}
use Rattle.ms_runs.specs.Memory.{fits, heap_size, is_good, next_base}
use Rattle.ms_runs.specs.Origins.{copy_planes, poison, unpoison}
use Rattle.ms_runs.specs.Poisoned.{Poisoned}
use Rattle.ms_runs.specs.Masks.{word_at}
use Rattle.ms_runs_good_laws.specs.GoodWorlds.{GoodWorld, FitsCell}
use Rattle.ms_runs_good_laws.proofs.WorldChanges.{either, set_shadow_good}
use Rattle.ms_runs_laws.specs.Follows.{fill_shadow}
use Rattle.ms_host.specs.State.{WorldState, Beside}
use Rattle.ms_host.specs.Shows.{Shows}
use Rattle.ms_trail_moves.specs.declared.moves.Source.{Source}
use Rattle.ms_trail_moves.specs.declared.moves.Move.{Move}
use Rattle.ms_trail_moves.specs.Sources.{source_at}
use Rattle.ms_trail_moves.specs.Written.{Filled, Copied, heap_place, made}
use Rattle.ms_trail_moves.specs.Events.{written_moves, memory_moves}
use Rattle.ms_trail_bytes.specs.declared.logs.Log.{Log}
use Rattle.ms_trail_bytes.specs.Logs.{IsLog}
use Rattle.ms_trail_bytes.specs.Shading.{ShadedAs, Done}

pub value_at : (ps : List Poisoned) (k : ℕ) → get_or (map (λ p. p.value) ps) k 0 ≡ (word_at k ps).value
value_at [] k = refl
value_at (p ∷ ps) zero = refl
value_at (p ∷ ps) (suc k) = value_at ps k

pub mask_at : (ps : List Poisoned) (k : ℕ) → get_or (map (λ p. p.mask) ps) k 0 ≡ (word_at k ps).mask
mask_at [] k = refl
mask_at (p ∷ ps) zero = refl
mask_at (p ∷ ps) (suc k) = mask_at ps k

pub word_read : (ps : List Poisoned) (words : List ℕ) (k x : ℕ) → words ≡ map (λ p. p.value) ps → x ≡ get_or words k 0 → x ≡ (word_at k ps).value
word_read ps words k x are is = is ∙ ap (λ (ws : List ℕ). get_or ws k 0) are ∙ value_at ps k

pub mask_read : (ps : List Poisoned) (masks : List ℕ) (k x : ℕ) → masks ≡ map (λ p. p.mask) ps → x ≡ get_or masks k 0 → x ≡ (word_at k ps).mask
mask_read ps masks k x are is = is ∙ ap (λ (ms : List ℕ). get_or ms k 0) are ∙ mask_at ps k

module _ (beside : Beside) (event site root : ℕ) (ps : List Poisoned) (ss : List Source) (before : World) (given : ℕ) (after : World) (moves : List Move) (w : WorldState) (log : Log) where
  pub malloc_done : (n : ℕ) → n ≡ (word_at 0 ps).value → given ≡ heap_place (word_at 0 ps).value before
      → ShadedAs beside after (poison given 0 n 0 after) w × IsLog log (moves ++ memory_moves event site (poison given 0 n 0 after).shadow (made (poison given 0 n 0 after) given 0 n root))
      → Done beside event site root ps ss before given after moves w log Malloc
  malloc_done n is place h =
      let x : ShadedAs beside after (poison given 0 (word_at 0 ps).value 0 after) w
      × IsLog log (moves ++ memory_moves event site (poison given 0 (word_at 0 ps).value 0 after).shadow (made (poison given 0 (word_at 0 ps).value 0 after) given 0 (word_at 0 ps).value root)) =
      subst (λ (k : ℕ). ShadedAs beside after (poison given 0 k 0 after) w × IsLog log (moves ++ memory_moves event site (poison given 0 k 0 after).shadow (made (poison given 0 k 0 after) given 0 k root))) is h in (
        x.0,
        subst (λ (a : ℕ). IsLog log (moves ++ memory_moves event site (poison given 0 (word_at 0 ps).value 0 after).shadow (made (poison given 0 (word_at 0 ps).value 0 after) a 0 (word_at 0 ps).value root))) place x.1,
      )

  pub started_done : (a n : ℕ) → n ≡ (word_at 0 ps).value → a ≡ (word_at 1 ps).value
      → ShadedAs beside after (poison a 0 n 0 after) w × IsLog log (moves ++ memory_moves event site (poison a 0 n 0 after).shadow (made (poison a 0 n 0 after) a 0 n root))
      → Done beside event site root ps ss before given after moves w log LifetimeStart
  started_done a n is at h =
      subst (λ (b : ℕ). ShadedAs beside after (poison b 0 (word_at 0 ps).value 0 after) w × IsLog log (moves ++ memory_moves event site (poison b 0 (word_at 0 ps).value 0 after).shadow (made (poison b 0 (word_at 0 ps).value 0 after) b 0 (word_at 0 ps).value root))) at
      (subst (λ (k : ℕ). ShadedAs beside after (poison a 0 k 0 after) w × IsLog log (moves ++ memory_moves event site (poison a 0 k 0 after).shadow (made (poison a 0 k 0 after) a 0 k root))) is h)

  pub realloc_done : (p n old : ℕ) → p ≡ (word_at 0 ps).value → n ≡ (word_at 1 ps).value → old ≡ unwrap_or (heap_size before (word_at 0 ps).value) 0 → given ≡ heap_place (word_at 1 ps).value before
      → ShadedAs beside after (poison given old n 0 after) w
      × IsLog log (moves ++ memory_moves event site (poison given old n 0 after).shadow ((if fits Heap n before then Copied (next_base Heap before) (min old n) p ∷ [] else []) ++ made (poison given old n 0 after) given old n root))
      → Done beside event site root ps ss before given after moves w log Realloc
  realloc_done p n old at is had place h =
      let q : ℕ = (word_at 0 ps).value in
      let k : ℕ = (word_at 1 ps).value in
      let l : ℕ = unwrap_or (heap_size before (word_at 0 ps).value) 0 in
      let one = subst (λ (x : ℕ). ShadedAs beside after (poison given old n 0 after) w
      × IsLog log (moves ++ memory_moves event site (poison given old n 0 after).shadow ((if fits Heap n before then Copied (next_base Heap before) (min old n) x ∷ [] else []) ++ made (poison given old n 0 after) given old n root))) at h in
      let two = subst (λ (x : ℕ). ShadedAs beside after (poison given old x 0 after) w
      × IsLog log (moves ++ memory_moves event site (poison given old x 0 after).shadow ((if fits Heap x before then Copied (next_base Heap before) (min old x) q ∷ [] else []) ++ made (poison given old x 0 after) given old x root))) is one in
      let three = subst (λ (x : ℕ). ShadedAs beside after (poison given x k 0 after) w
      × IsLog log (moves ++ memory_moves event site (poison given x k 0 after).shadow ((if fits Heap k before then Copied (next_base Heap before) (min x k) q ∷ [] else []) ++ made (poison given x k 0 after) given x k root))) had two in (
        three.0,
        subst (λ (a : ℕ). IsLog log (moves ++ memory_moves event site (poison given l k 0 after).shadow ((if fits Heap k before then Copied (next_base Heap before) (min l k) q ∷ [] else []) ++ made (poison given l k 0 after) a l k root))) place three.1,
      )

  -- copies
  abbrev Copies : (to from n : ℕ) → Type 0
  Copies to from n = ShadedAs beside after (copy_planes to from n after) w × IsLog log (moves ++ (written_moves event site (copy_planes to from n after).shadow (Copied to n from) ++ []))

  copies : (to from n : ℕ) → to ≡ (word_at 0 ps).value → from ≡ (word_at 1 ps).value → n ≡ (word_at 2 ps).value
      → ShadedAs beside after (copy_planes to from n after) w × IsLog log (moves ++ written_moves event site (copy_planes to from n after).shadow (Copied to n from)) → Copies (word_at 0 ps).value (word_at 1 ps).value (word_at 2 ps).value
  copies to from n a b c h =
      subst (λ (x : ℕ). Copies x (word_at 1 ps).value (word_at 2 ps).value) a
      (subst (λ (x : ℕ). Copies to x (word_at 2 ps).value) b
      (subst (λ (x : ℕ). Copies to from x) c
      (h.0, subst (λ (ms : List Move). IsLog log (moves ++ ms)) (sym (append-nil (written_moves event site (copy_planes to from n after).shadow (Copied to n from)))) h.1)))

  module _ (to from n : ℕ) (a : to ≡ (word_at 0 ps).value) (b : from ≡ (word_at 1 ps).value) (c : n ≡ (word_at 2 ps).value)
      (h : ShadedAs beside after (copy_planes to from n after) w × IsLog log (moves ++ written_moves event site (copy_planes to from n after).shadow (Copied to n from))) where
    pub memcpy_done : Done beside event site root ps ss before given after moves w log Memcpy
    memcpy_done = copies to from n a b c h

    pub memmove_done : Done beside event site root ps ss before given after moves w log Memmove
    memmove_done = copies to from n a b c h

    pub llvm_memcpy_done : Done beside event site root ps ss before given after moves w log LlvmMemcpy
    llvm_memcpy_done = copies to from n a b c h

    pub llvm_memmove_done : Done beside event site root ps ss before given after moves w log LlvmMemmove
    llvm_memmove_done = copies to from n a b c h

  -- bytes of one kind
  abbrev Sets : (a n mask : ℕ) → Type 0
  Sets a n mask = ShadedAs beside after (fill_shadow a n mask after) w × IsLog log (moves ++ (written_moves event site (fill_shadow a n mask after).shadow (Filled a n (source_at 1 ss)) ++ []))

  sets : (a n mask : ℕ) → a ≡ (word_at 0 ps).value → n ≡ (word_at 2 ps).value → mask ≡ (word_at 1 ps).mask
      → ShadedAs beside after (fill_shadow a n mask after) w × IsLog log (moves ++ written_moves event site (fill_shadow a n mask after).shadow (Filled a n (source_at 1 ss))) → Sets (word_at 0 ps).value (word_at 2 ps).value (word_at 1 ps).mask
  sets a n mask at is masked h =
      subst (λ (x : ℕ). Sets x (word_at 2 ps).value (word_at 1 ps).mask) at
      (subst (λ (x : ℕ). Sets a x (word_at 1 ps).mask) is
      (subst (λ (x : ℕ). Sets a n x) masked
      (h.0, subst (λ (ms : List Move). IsLog log (moves ++ ms)) (sym (append-nil (written_moves event site (fill_shadow a n mask after).shadow (Filled a n (source_at 1 ss))))) h.1)))

  module _ (a n mask : ℕ) (at : a ≡ (word_at 0 ps).value) (is : n ≡ (word_at 2 ps).value) (masked : mask ≡ (word_at 1 ps).mask)
      (h : ShadedAs beside after (fill_shadow a n mask after) w × IsLog log (moves ++ written_moves event site (fill_shadow a n mask after).shadow (Filled a n (source_at 1 ss)))) where
    pub memset_done : Done beside event site root ps ss before given after moves w log Memset
    memset_done = sets a n mask at is masked h

    pub llvm_memset_done : Done beside event site root ps ss before given after moves w log LlvmMemset
    llvm_memset_done = sets a n mask at is masked h

  -- bytes that were read
  pub read_done : (b : ℕ) → b ≡ (word_at 1 ps).value → Shows w beside (unpoison b given after) → IsLog log moves → Done beside event site root ps ss before given after moves w log Read
  read_done b at shows is = (
    subst (λ (x : ℕ). ShadedAs beside after (unpoison x given after) w) at
        (unpoison b given after, (shows, refl, λ g. either (GoodWorld FitsCell) (is_good after b given) _ after (set_shadow_good FitsCell b given (λ k. 0) after g (λ k. omega arith)) g)),
    subst (λ (ms : List Move). IsLog log ms) (sym (append-nil moves)) is,
  )

  -- nothing
  pub kept_done : Shows w beside after → ShadedAs beside after after w
  kept_done shows = (after, (shows, refl, λ g. g))

  pub none_told : IsLog log moves → IsLog log (moves ++ [])
  none_told is = subst (λ (ms : List Move). IsLog log ms) (sym (append-nil moves)) is

  pub default_done : (e : External) → (e ≡ Malloc → ⊥) → (e ≡ Realloc → ⊥) → (e ≡ Memcpy → ⊥) → (e ≡ Memmove → ⊥) → (e ≡ LlvmMemcpy → ⊥) → (e ≡ LlvmMemmove → ⊥) → (e ≡ Memset → ⊥) → (e ≡ LlvmMemset → ⊥) → (e ≡ Read → ⊥) → (e ≡ LifetimeStart → ⊥)
      → is_thread_call e ≡ false → Shows w beside after → IsLog log moves → Done beside event site root ps ss before given after moves w log e
  default_done Malloc a b c d f g h i j k alone shows is = absurd (a refl)
  default_done Realloc a b c d f g h i j k alone shows is = absurd (b refl)
  default_done Memcpy a b c d f g h i j k alone shows is = absurd (c refl)
  default_done Memmove a b c d f g h i j k alone shows is = absurd (d refl)
  default_done LlvmMemcpy a b c d f g h i j k alone shows is = absurd (f refl)
  default_done LlvmMemmove a b c d f g h i j k alone shows is = absurd (g refl)
  default_done Memset a b c d f g h i j k alone shows is = absurd (h refl)
  default_done LlvmMemset a b c d f g h i j k alone shows is = absurd (i refl)
  default_done Read a b c d f g h i j k alone shows is = absurd (j refl)
  default_done LifetimeStart a b c d f g h i j k alone shows is = absurd (k refl)
  default_done PthreadCreate a b c d f g h i j k alone shows is = absurd (true≢false alone)
  default_done PthreadJoin a b c d f g h i j k alone shows is = absurd (true≢false alone)
  default_done e a b c d f g h i j k alone shows is = (kept_done shows, none_told is)

-- by what the kind and the root are
pub finish : (beside : Beside) (event site root root' : ℕ) (ps : List Poisoned) (ss : List Source) (before : World) (given : ℕ) (after : World) (moves : List Move) (w : WorldState) (log : Log) (e k : External) → root ≡ root' → e ≡ k
    → Done beside event site root ps ss before given after moves w log k → Done beside event site root' ps ss before given after moves w log e
finish beside event site root root' ps ss before given after moves w log e k roots is done =
    subst (λ (x : External). Done beside event site root' ps ss before given after moves w log x) (sym is)
    (subst (λ (r : ℕ). Done beside event site r ps ss before given after moves w log k) roots done)
