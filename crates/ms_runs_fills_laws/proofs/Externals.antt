-- Externals on words and worlds that are alike.
use Rattle.std.proofs.Common.{◌≡◌, ℕ, ◌+◌, ◌*◌, ◌%◌, ◌^◌, ◌<◌, min, List, [], ◌∷◌, ◌++◌, map, take, drop, length, get_or, Bool, true, false, not, ◌&&◌, ◌||◌, eqb, leb, ltb, Option, Some, None, unwrap_or, is_some, refl, sym, ap₂, subst, arith, if◌then◌else◌, Result, Ok, Err, true≢false}
use Rattle.std.proofs.lemmas.Bool.{eqb-true}
use Rattle.ms_bits.specs.Completion.{Agrees}
use Rattle.ms_bits.specs.declared.traps.Trap.{Trap}
use Rattle.ms_bits.specs.declared.traps.Trap.TheVariants as trap
use Rattle.ms_bits.specs.Maps.{bytes_at, first_nonzero}
use Rattle.ms_ir.specs.declared.calls.External.{External}
use Rattle.ms_ir.specs.declared.calls.External.TheVariants.{Malloc, Calloc, Realloc, Free, Memcpy, Memmove, Memset, Memcmp, Strlen, Putchar, Puts, Getchar, Read, Write, Exit, Abort, LlvmMemcpy, LlvmMemmove, LlvmMemset, LifetimeStart, LifetimeEnd, Printf, LlvmTrap, LlvmAssume, LlvmObjectSize, PthreadCreate, PthreadJoin, SchedYield, Word}
use Rattle.ms_ir.specs.declared.syntax.Ty.{Ty}
use Rattle.ms_ir.specs.declared.syntax.Operand.{Operand}
use Rattle.ms_ir.specs.Areas.{Heap}
use Rattle.ms_runs.specs.World.{World, Setting, Effect, Gives, Does, traps}
use Rattle.ms_runs.specs.Memory.{is_good, fits, next_base, heap_size, end_block, set_bytes, set_shadow, set_cells, copy_bytes, copy_shadow, make, make_unset}
use Rattle.ms_runs.specs.Origins.{Chained, keeps_old, pair_index, chain, poison, unpoison, copy_planes, fill_planes, first_in_string}
use Rattle.ms_runs.specs.Memory.{bytes_left}
use Rattle.ms_runs.specs.Externals.{minus_one, unknown_size, malloc, calloc, reallocated, realloc, free, where_good, compared, string_at, printed, taken, next_byte, external, output_limit, prints}
use Rattle.ms_runs.specs.Poisoned.{Poisoned}
use Rattle.ms_runs.specs.Uses.{external_uses}
use Rattle.ms_runs.specs.Shadow.{external_planes}
use Rattle.ms_runs.specs.LowEqual.{LowWord, LowWorld, SameBits}
use Rattle.ms_runs_fills_laws.proofs.Reading.{refill}
use Rattle.ms_runs_fills_laws.proofs.Passed.{AllPassed}
use Rattle.ms_runs_fills_laws.proofs.Effects.{EffectsAlike}
use Rattle.ms_runs_fills_laws.proofs.Worlds.{Unseen, other, BytesAlike, low_other, poison_low, made_low, zeros_low, remade_low, copied_low, same_bytes_low, clean_bytes_low, filled_low, empty_low, low_byte_alike, FitWorld}
use Rattle.ms_runs_fills_laws.proofs.Ops.{same_word, other_word, exact_word}
use Rattle.ms_runs_fills_laws.proofs.Blocks.{heap_found, none_at_zero, size_found, too_many, reallocated_low, bytes_checked, string_checked}

-- an external that looks at three words at most, and answers a word without a poisoned bit
abbrev pub is_plain : External → Bool
is_plain Printf = false
is_plain (Word f n) = false
is_plain PthreadCreate = false
is_plain PthreadJoin = false
is_plain SchedYield = false
is_plain e = true

-- what such an external answers
abbrev pub answered : ℕ → World → Poisoned
answered v w = record { value = v; mask = 0; origin = 0 }

answers_same : (v : ℕ) → LowWord (record { value = v; mask = 0; origin = 0 }) (record { value = v; mask = 0; origin = 0 })
answers_same v = exact_word v v 0 0 0 0 refl refl refl

module _ (s : Setting) (fill : List ℕ) (site root : ℕ) (w : World) (b : Unseen) (alike : BytesAlike w b) (fit : FitWorld w) (others : (x : ℕ) → b.bytes x < 256) where
  -- an external does the same in both worlds
  abbrev pub ExtAlike : External → List Ty → List Poisoned → List Poisoned → Type 0
  ExtAlike e types ps qs =
      EffectsAlike answered answered (external_planes s site root e ps w) (external_planes (refill s fill) site root e qs (other w b))
      (external s site e types (map (λ p. p.value) ps) w) (external (refill s fill) site e types (map (λ p. p.value) qs) (other w b))

  low : LowWorld w (other w b)
  low = low_other w b alike

  -- ---- the heap

  -- a block of n bytes is made, of which those from k on are poisoned
  abbrev poisons : ℕ → ℕ → ℕ → World → World
  poisons k n v u = poison v k n root u

  made : (n : ℕ) → EffectsAlike answered answered (poisons 0 n) (poisons 0 n) (malloc s.fill n w) (malloc fill n (other w b))
  made n = by_test (fits Heap n w) refl
    where
      by_test : (t : Bool) → fits Heap n w ≡ t
          → EffectsAlike answered answered (poisons 0 n) (poisons 0 n)
          (if t then Gives (next_base Heap w) (make_unset s.fill Heap n w) else Gives 0 w)
          (if t then Gives (next_base Heap w) (make_unset fill Heap n (other w b)) else Gives 0 (other w b))
      by_test true e = (answers_same (next_base Heap w), made_low s.fill fill Heap n root w b alike e)
      by_test false e = (answers_same 0, poison_low 0 0 n root w (other w b) low)

  zeros : (n : ℕ) → EffectsAlike answered answered (λ v u. u) (λ v u. u) (calloc n w) (calloc n (other w b))
  zeros n = by_test (ltb n (2 ^ 64) && fits Heap n w)
    where
      by_test : (t : Bool)
          → EffectsAlike answered answered (λ v u. u) (λ v u. u)
          (if t then Gives (next_base Heap w) (make Heap n w) else Gives 0 w)
          (if t then Gives (next_base Heap w) (make Heap n (other w b)) else Gives 0 (other w b))
      by_test true = (answers_same (next_base Heap w), zeros_low Heap n w b alike)
      by_test false = (answers_same 0, low)

  reallocated_alike : (p old n : ℕ) → heap_size w p ≡ Some old → EffectsAlike answered answered (poisons old n) (poisons old n) (reallocated s.fill p old n w) (reallocated fill p old n (other w b))
  reallocated_alike p old n found = by_test (fits Heap n w) refl
    where
      by_test : (t : Bool) → fits Heap n w ≡ t
          → EffectsAlike answered answered (poisons old n) (poisons old n)
          (if t then Gives (next_base Heap w) (end_block p (copy_shadow (next_base Heap w) p (min old n) (copy_bytes (next_base Heap w) p (min old n) (make_unset s.fill Heap n w)))) else Gives 0 w)
          (if t then Gives (next_base Heap w) (end_block p (copy_shadow (next_base Heap w) p (min old n) (copy_bytes (next_base Heap w) p (min old n) (make_unset fill Heap n (other w b))))) else Gives 0 (other w b))
      by_test true e = (
        answers_same (next_base Heap w),
        reallocated_low s.fill fill p old n root w b alike e (heap_found (next_base Heap w) p w.allocs fit.placed old found).1 (size_found p w.allocs fit.sizes old found),
      )
      by_test false e = (answers_same 0, poison_low 0 old n root w (other w b) low)

  again : (p n : ℕ) → EffectsAlike answered answered (poisons (unwrap_or (heap_size w p) 0) n) (poisons (unwrap_or (heap_size w p) 0) n) (realloc s.fill site p n w) (realloc fill site p n (other w b))
  again p n = by_test (eqb p 0) (heap_size w p) refl refl
    where
      by_test : (t : Bool) (o : Option ℕ) → eqb p 0 ≡ t → heap_size w p ≡ o
          → EffectsAlike answered answered (poisons (unwrap_or o 0) n) (poisons (unwrap_or o 0) n)
          (if t then malloc s.fill n w else elim o [ Some old ↦ reallocated s.fill p old n w | None ↦ traps trap.BadFree site w ])
          (if t then malloc fill n (other w b) else elim o [ Some old ↦ reallocated fill p old n (other w b) | None ↦ traps trap.BadFree site (other w b) ])
      by_test true None e f = made n
      by_test true (Some old) e f = absurd (none_at_zero w fit.placed p old (eqb-true p 0 e) f)
      by_test false None e f = (refl, low)
      by_test false (Some old) e f = reallocated_alike p old n f

  freed : (p : ℕ) → EffectsAlike answered answered (λ v u. u) (λ v u. u) (free site p w) (free site p (other w b))
  freed p = by_test (eqb p 0) (is_some (heap_size w p))
    where
      by_test : (t u : Bool)
          → EffectsAlike answered answered (λ v u. u) (λ v u. u)
          (if t then Does w else if u then Does (end_block p w) else traps trap.BadFree site w)
          (if t then Does (other w b) else if u then Does (end_block p (other w b)) else traps trap.BadFree site (other w b))
      by_test true u = low
      by_test false true = record { allocs = refl; shadow = refl; origins = refl; pairs = refl; made = refl; input = refl; output = refl; reports = refl; blind = refl; turn = refl; threads = refl; answer_masks = refl; answer_origins = refl; bytes = alike.0; answers = alike.1 }
      by_test false false = (refl, low)

  -- a condition that must hold
  assumed_alike : (t : Bool) → EffectsAlike answered answered (λ v u. u) (λ v u. u)
      (if t then traps trap.Unreachable site w else Does w) (if t then traps trap.Unreachable site (other w b) else Does (other w b))
  assumed_alike true = (refl, low)
  assumed_alike false = low

  -- ---- memory

  -- bytes are good, or both runs trap alike
  guarded : (lift lift' : ℕ → World → Poisoned) (after after' : ℕ → World → World) (a n : ℕ) (e x : Effect)
      → (is_good w a n ≡ true → EffectsAlike lift lift' after after' e x) → EffectsAlike lift lift' after after' (where_good site a n w e) (where_good site a n (other w b) x)
  guarded lift lift' after after' a n e x f = by_test (is_good w a n) refl
    where
      by_test : (t : Bool) → is_good w a n ≡ t → EffectsAlike lift lift' after after' (if t then e else traps trap.BadAddress site w) (if t then x else traps trap.BadAddress site (other w b))
      by_test true g = f g
      by_test false g = (refl, low)

  copied_planes : (to from n : ℕ) → is_good w to n ≡ true → is_good w from n ≡ true
      → LowWorld (copy_planes to from n (copy_bytes to from n w)) (copy_planes to from n (copy_bytes to from n (other w b)))
  copied_planes to from n g k =
      subst (λ t. LowWorld (if t then copy_shadow to from n (copy_bytes to from n w) else copy_bytes to from n w) (if t then copy_shadow to from n (copy_bytes to from n (other w b)) else copy_bytes to from n (other w b)))
      (sym (ap₂ (λ t u. t && u) g k)) (copied_low to from n w b alike)

  filled_planes : (a n m x y origin : ℕ) → SameBits m x y → is_good w a n ≡ true
      → LowWorld (fill_planes s a n m origin site (set_bytes a n (λ k. x % 256) w)) (fill_planes (refill s fill) a n m origin site (set_bytes a n (λ k. y % 256) (other w b)))
  filled_planes a n m x y origin same g =
      subst (λ t. LowWorld
      (if not t then set_bytes a n (λ k. x % 256) w else if eqb (m % 256) 0 || eqb n 0 then set_shadow a n (λ k. 0) (set_bytes a n (λ k. x % 256) w) else
      let c = chain s origin site (set_bytes a n (λ k. x % 256) w) in set_cells a n c.id (set_shadow a n (λ k. m % 256) c.world))
      (if not t then set_bytes a n (λ k. y % 256) (other w b) else if eqb (m % 256) 0 || eqb n 0 then set_shadow a n (λ k. 0) (set_bytes a n (λ k. y % 256) (other w b)) else
      let c = chain s origin site (set_bytes a n (λ k. y % 256) (other w b)) in set_cells a n c.id (set_shadow a n (λ k. m % 256) c.world)))
      (sym g) (by_test (eqb (m % 256) 0) (eqb n 0) refl refl)
    where
      by_test : (t u : Bool) → eqb (m % 256) 0 ≡ t → eqb n 0 ≡ u
          → LowWorld
          (if t || u then set_shadow a n (λ k. 0) (set_bytes a n (λ k. x % 256) w) else
          let c = chain s origin site (set_bytes a n (λ k. x % 256) w) in set_cells a n c.id (set_shadow a n (λ k. m % 256) c.world))
          (if t || u then set_shadow a n (λ k. 0) (set_bytes a n (λ k. y % 256) (other w b)) else
          let c = chain s origin site (set_bytes a n (λ k. y % 256) (other w b)) in set_cells a n c.id (set_shadow a n (λ k. m % 256) c.world))
      by_test true u e f = filled_low a n 0 (x % 256) (y % 256) w b alike (subst (λ k. Agrees 8 k (x % 256) (y % 256)) (eqb-true (m % 256) 0 e) (low_byte_alike m x y same))
      by_test false true e f = subst (λ k. LowWorld (set_shadow a k (λ k. 0) (set_bytes a k (λ k. x % 256) w)) (set_shadow a k (λ k. 0) (set_bytes a k (λ k. y % 256) (other w b)))) (sym (eqb-true n 0 f)) (empty_low a (λ k. 0) (λ k. x % 256) (λ k. y % 256) w b alike)
      by_test false false e f = by_chain (keeps_old s w origin) (pair_index w.pairs origin site)
        where
          low_chained : (pairs : List (ℕ × ℕ)) (id : ℕ)
              → LowWorld (set_cells a n id (set_shadow a n (λ k. m % 256) (record (set_bytes a n (λ k. x % 256) w) { pairs = pairs })))
              (set_cells a n id (set_shadow a n (λ k. m % 256) (record (set_bytes a n (λ k. y % 256) (other w b)) { pairs = pairs })))
          low_chained pairs id =
              let filled = filled_low a n (m % 256) (x % 256) (y % 256) w b alike (low_byte_alike m x y same) in
              record { allocs = refl; shadow = refl; origins = refl; pairs = refl; made = refl; input = refl; output = refl; reports = refl; blind = refl; turn = refl; threads = refl; answer_masks = refl; answer_origins = refl; bytes = filled.bytes; answers = filled.answers }

          by_chain : (t : Bool) (o : Option ℕ)
              → LowWorld
              (let c : Chained = (if t then (record { id = origin; world = set_bytes a n (λ k. x % 256) w }) else
              elim o [
                | Some k ↦ record { id = s.roots + 1 + k; world = set_bytes a n (λ k. x % 256) w }
                | None ↦ record { id = s.roots + 1 + length w.pairs; world = record (set_bytes a n (λ k. x % 256) w) { pairs = w.pairs ++ (origin, site) ∷ [] } }
              ]) in set_cells a n c.id (set_shadow a n (λ k. m % 256) c.world))
              (let c : Chained = (if t then (record { id = origin; world = set_bytes a n (λ k. y % 256) (other w b) }) else
              elim o [
                | Some k ↦ record { id = s.roots + 1 + k; world = set_bytes a n (λ k. y % 256) (other w b) }
                | None ↦ record { id = s.roots + 1 + length w.pairs; world = record (set_bytes a n (λ k. y % 256) (other w b)) { pairs = w.pairs ++ (origin, site) ∷ [] } }
              ]) in set_cells a n c.id (set_shadow a n (λ k. m % 256) c.world))
          by_chain true o = low_chained w.pairs origin
          by_chain false (Some k) = low_chained w.pairs (s.roots + 1 + k)
          by_chain false None = low_chained (w.pairs ++ (origin, site) ∷ []) (s.roots + 1 + length w.pairs)

  print_alike : (v : ℕ) (bs cs : List ℕ) → bs ≡ cs → EffectsAlike answered answered (λ x u. u) (λ x u. u) (printed site bs (Gives v) w) (printed site cs (Gives v) (other w b))
  print_alike v bs cs e = subst (λ k. EffectsAlike answered answered (λ x u. u) (λ x u. u) (printed site bs (Gives v) w) (printed site k (Gives v) (other w b))) e (by_test (leb (length w.output + length bs) output_limit))
    where
      by_test : (t : Bool)
          → EffectsAlike answered answered (λ x u. u) (λ x u. u)
          (if t then Gives v (record w { output = w.output ++ bs }) else traps trap.Output site w)
          (if t then Gives v (record (other w b) { output = w.output ++ bs }) else traps trap.Output site (other w b))
      by_test true = (answers_same v, record { allocs = refl; shadow = refl; origins = refl; pairs = refl; made = refl; input = refl; output = refl; reports = refl; blind = refl; turn = refl; threads = refl; answer_masks = refl; answer_origins = refl; bytes = alike.0; answers = alike.1 })
      by_test false = (refl, low)

  pub prints_alike : (r t : Result (List ℕ) Trap) → r ≡ t → EffectsAlike answered answered (λ x u. u) (λ x u. u) (prints site r w) (prints site t (other w b))
  prints_alike r t e = subst (λ k. EffectsAlike answered answered (λ x u. u) (λ x u. u) (prints site r w) (prints site k (other w b))) e (itself r)
    where
      itself : (r : Result (List ℕ) Trap) → EffectsAlike answered answered (λ x u. u) (λ x u. u) (prints site r w) (prints site r (other w b))
      itself (Ok bs) = print_alike (length bs) bs bs refl
      itself (Err t) = (refl, low)

  taken_alike : (a n : ℕ) → EffectsAlike answered answered (λ v u. unpoison a v u) (λ v u. unpoison a v u) (taken a n w) (taken a n (other w b))
  taken_alike a n = (answers_same (length (take n w.input)), by_test (is_good w a (length (take n w.input))))
    where
      by_test : (t : Bool)
          → LowWorld
          (if t then set_shadow a (length (take n w.input)) (λ k. 0) (record (set_bytes a (length (take n w.input)) (λ k. get_or (take n w.input) k 0) w) { input = drop n w.input }) else
          record (set_bytes a (length (take n w.input)) (λ k. get_or (take n w.input) k 0) w) { input = drop n w.input })
          (if t then set_shadow a (length (take n w.input)) (λ k. 0) (record (set_bytes a (length (take n w.input)) (λ k. get_or (take n w.input) k 0) (other w b)) { input = drop n w.input }) else
          record (set_bytes a (length (take n w.input)) (λ k. get_or (take n w.input) k 0) (other w b)) { input = drop n w.input })
      by_test true =
          let cleaned = clean_bytes_low a (length (take n w.input)) (λ k. get_or (take n w.input) k 0) w b alike in
          record { allocs = refl; shadow = refl; origins = refl; pairs = refl; made = refl; input = refl; output = refl; reports = refl; blind = refl; turn = refl; threads = refl; answer_masks = refl; answer_origins = refl; bytes = cleaned.bytes; answers = cleaned.answers }
      by_test false = record {
        allocs = refl;
        shadow = refl;
        origins = refl;
        pairs = refl;
        made = refl;
        input = refl;
        output = refl;
        reports = refl;
        blind = refl;
        turn = refl;
        threads = refl;
        answer_masks = refl;
        answer_origins = refl;
        answers = alike.1;
        bytes = (same_bytes_low a (length (take n w.input)) (λ k. get_or (take n w.input) k 0) w b alike).0;
      }

  -- with no descriptor of the input -1 is answered, of which no bytes are good
  refused : (a : ℕ) → LowWorld (unpoison a (minus_one 64) w) (unpoison a (minus_one 64) (other w b))
  refused a =
      subst (λ t. LowWorld (if t then set_shadow a (minus_one 64) (λ k. 0) w else w) (if t then set_shadow a (minus_one 64) (λ k. 0) (other w b) else other w b))
      (sym (too_many w fit.sizes a (minus_one 64) (omega arith))) low

  read_alike : (d a n : ℕ) → EffectsAlike answered answered (λ v u. unpoison a v u) (λ v u. unpoison a v u)
      (if eqb d 0 then taken a n w else Gives (minus_one 64) w) (if eqb d 0 then taken a n (other w b) else Gives (minus_one 64) (other w b))
  read_alike d a n = by_test (eqb d 0)
    where
      by_test : (t : Bool) → EffectsAlike answered answered (λ v u. unpoison a v u) (λ v u. unpoison a v u)
          (if t then taken a n w else Gives (minus_one 64) w) (if t then taken a n (other w b) else Gives (minus_one 64) (other w b))
      by_test true = taken_alike a n
      by_test false = (answers_same (minus_one 64), refused a)

  next_alike : (bs : List ℕ) → EffectsAlike answered answered (λ v u. u) (λ v u. u) (next_byte bs w) (next_byte bs (other w b))
  next_alike [] = (answers_same (minus_one 32), low)
  next_alike (x ∷ bs) = (answers_same x, record { allocs = refl; shadow = refl; origins = refl; pairs = refl; made = refl; input = refl; output = refl; reports = refl; blind = refl; turn = refl; threads = refl; answer_masks = refl; answer_origins = refl; bytes = alike.0; answers = alike.1 })

  -- bytes that were checked
  checked_bytes : (a n : ℕ) → (is_good w a n ≡ true → first_nonzero w.shadow a n ≡ None) → is_good w a n ≡ true → bytes_at w.bytes a n ≡ bytes_at b.bytes a n
  checked_bytes a n h g = bytes_checked w b alike fit.bytes others n a (h g)

  pub checked_string : (a : ℕ) → first_in_string w a (bytes_left w a) ≡ None → string_at w a ≡ string_at (other w b) a
  checked_string a h = string_checked w b alike fit.bytes others (bytes_left w a) a h

  sized : (o p : Option (List ℕ)) → o ≡ p → EffectsAlike answered answered (λ v u. u) (λ v u. u)
      (elim o [ Some bs ↦ Gives (length bs) w | None ↦ traps trap.BadAddress site w ]) (elim p [ Some bs ↦ Gives (length bs) (other w b) | None ↦ traps trap.BadAddress site (other w b) ])
  sized o p e =
      subst (λ k. EffectsAlike answered answered (λ v u. u) (λ v u. u)
      (elim o [ Some bs ↦ Gives (length bs) w | None ↦ traps trap.BadAddress site w ]) (elim k [ Some bs ↦ Gives (length bs) (other w b) | None ↦ traps trap.BadAddress site (other w b) ])) e (itself o)
    where
      itself : (o : Option (List ℕ)) → EffectsAlike answered answered (λ v u. u) (λ v u. u)
          (elim o [ Some bs ↦ Gives (length bs) w | None ↦ traps trap.BadAddress site w ]) (elim o [ Some bs ↦ Gives (length bs) (other w b) | None ↦ traps trap.BadAddress site (other w b) ])
      itself (Some bs) = (answers_same (length bs), low)
      itself None = (refl, low)

  put_line : (o p : Option (List ℕ)) → o ≡ p → EffectsAlike answered answered (λ v u. u) (λ v u. u)
      (elim o [ Some bs ↦ printed site (bs ++ 10 ∷ []) (Gives 1) w | None ↦ traps trap.BadAddress site w ]) (elim p [ Some bs ↦ printed site (bs ++ 10 ∷ []) (Gives 1) (other w b) | None ↦ traps trap.BadAddress site (other w b) ])
  put_line o p e =
      subst (λ k. EffectsAlike answered answered (λ v u. u) (λ v u. u)
      (elim o [ Some bs ↦ printed site (bs ++ 10 ∷ []) (Gives 1) w | None ↦ traps trap.BadAddress site w ]) (elim k [ Some bs ↦ printed site (bs ++ 10 ∷ []) (Gives 1) (other w b) | None ↦ traps trap.BadAddress site (other w b) ])) e (itself o)
    where
      itself : (o : Option (List ℕ)) → EffectsAlike answered answered (λ v u. u) (λ v u. u)
          (elim o [ Some bs ↦ printed site (bs ++ 10 ∷ []) (Gives 1) w | None ↦ traps trap.BadAddress site w ]) (elim o [ Some bs ↦ printed site (bs ++ 10 ∷ []) (Gives 1) (other w b) | None ↦ traps trap.BadAddress site (other w b) ])
      itself (Some bs) = print_alike 1 (bs ++ 10 ∷ []) (bs ++ 10 ∷ []) refl
      itself None = (refl, low)

  -- ---- all of them, on three words, of which checked ones are the same in both runs

  module _ (a c d a' c' d' : Poisoned) (at_a : LowWord a a') (at_c : LowWord c c') (at_d : LowWord d d') (types : List Ty) (args : List (Ty × Operand)) where
    -- the same for three words
    abbrev Both : External → List Poisoned → Type 0
    Both e qs = ExtAlike e types (a ∷ c ∷ d ∷ []) qs

    by_a : (e : External) → a.mask ≡ 0 → Both e (a ∷ c' ∷ d' ∷ []) → Both e (a' ∷ c' ∷ d' ∷ [])
    by_a e x h = subst (λ k. Both e (k ∷ c' ∷ d' ∷ [])) (same_word a a' at_a x) h

    by_c : (e : External) → c.mask ≡ 0 → Both e (a' ∷ c ∷ d' ∷ []) → Both e (a' ∷ c' ∷ d' ∷ [])
    by_c e y h = subst (λ k. Both e (a' ∷ k ∷ d' ∷ [])) (same_word c c' at_c y) h

    by_ac : (e : External) → a.mask ≡ 0 → c.mask ≡ 0 → Both e (a ∷ c ∷ d' ∷ []) → Both e (a' ∷ c' ∷ d' ∷ [])
    by_ac e x y h = by_a e x (subst (λ k. Both e (a ∷ k ∷ d' ∷ [])) (same_word c c' at_c y) h)

    by_acd : (e : External) → a.mask ≡ 0 → c.mask ≡ 0 → d.mask ≡ 0 → Both e (a ∷ c ∷ d ∷ []) → Both e (a' ∷ c' ∷ d' ∷ [])
    by_acd e x y z h = by_ac e x y (subst (λ k. Both e (a ∷ c ∷ k ∷ [])) (same_word d d' at_d z) h)

    -- the second word may have poisoned bits, and another number
    by_ad : (e : External) → a.mask ≡ 0 → d.mask ≡ 0 → Both e (a ∷ record c { value = c'.value } ∷ d ∷ []) → Both e (a' ∷ c' ∷ d' ∷ [])
    by_ad e x z h = by_a e x (subst (λ k. Both e (a ∷ k ∷ d' ∷ [])) (other_word c c' at_c) (subst (λ k. Both e (a ∷ record c { value = c'.value } ∷ k ∷ [])) (same_word d d' at_d z) h))

    copy_alike : is_good w a.value d.value ≡ true → is_good w c.value d.value ≡ true
        → EffectsAlike answered answered (λ v u. copy_planes a.value c.value d.value u) (λ v u. copy_planes a.value c.value d.value u)
        (Gives a.value (copy_bytes a.value c.value d.value w)) (Gives a.value (copy_bytes a.value c.value d.value (other w b)))
    copy_alike g k = (answers_same a.value, copied_planes a.value c.value d.value g k)

    written : (bs cs : List ℕ) → bs ≡ cs → (n : ℕ) (t : Bool)
        → EffectsAlike answered answered (λ v u. u) (λ v u. u) (if t then printed site bs (Gives n) w else Gives (minus_one 64) w) (if t then printed site cs (Gives n) (other w b) else Gives (minus_one 64) (other w b))
    written bs cs e n true = print_alike n bs cs e
    written bs cs e n false = (answers_same (minus_one 64), low)

    pub three_alike : c.value < 2 ^ 64 → (e : External) → is_plain e ≡ true → AllPassed w (a ∷ c ∷ d ∷ []) (external_uses e args) → ExtAlike e types (a ∷ c ∷ d ∷ []) (a' ∷ c' ∷ d' ∷ [])
    three_alike small Malloc f p = by_a Malloc p.0 (made a.value)
    three_alike small Calloc f p = by_ac Calloc p.0 p.1.0 (zeros (a.value * c.value))
    three_alike small Realloc f p = by_ac Realloc p.0 p.1.0 (again a.value c.value)
    three_alike small Free f p = by_a Free p.0 (freed a.value)
    three_alike small Memcpy f p = by_acd Memcpy p.0 p.1.0 p.1.1.0 (guarded _ _ _ _ a.value d.value _ _ (λ g. guarded _ _ _ _ c.value d.value _ _ (λ k. copy_alike g k)))
    three_alike small Memmove f p = by_acd Memmove p.0 p.1.0 p.1.1.0 (guarded _ _ _ _ a.value d.value _ _ (λ g. guarded _ _ _ _ c.value d.value _ _ (λ k. copy_alike g k)))
    three_alike small Memset f p =
        by_ad Memset p.0 p.1.0 (guarded _ _ _ _ a.value d.value _ _ (λ g. (answers_same a.value, filled_planes a.value d.value c.mask c.value c'.value c.origin at_c.value g)))
    three_alike small Memcmp f p =
        by_acd Memcmp p.0 p.1.0 p.1.1.0
        (guarded _ _ _ _ a.value d.value _ _ (λ g. guarded _ _ _ _ c.value d.value _ _ (λ k.
        (exact_word _ _ 0 0 0 0 refl refl (ap₂ compared (checked_bytes a.value d.value p.1.1.1.0 g) (checked_bytes c.value d.value p.1.1.1.1.0 k)), low))))
    three_alike small Strlen f p = by_a Strlen p.0 (sized (string_at w a.value) (string_at (other w b) a.value) (checked_string a.value p.1.0))
    three_alike small Putchar f p = by_a Putchar p.0 (print_alike (a.value % 256) (a.value % 256 ∷ []) (a.value % 256 ∷ []) refl)
    three_alike small Puts f p = by_a Puts p.0 (put_line (string_at w a.value) (string_at (other w b) a.value) (checked_string a.value p.1.0))
    three_alike small Getchar f p = next_alike w.input
    three_alike small Read f p = by_acd Read p.0 p.1.0 p.1.1.0 (guarded _ _ _ _ c.value d.value _ _ (λ g. read_alike a.value c.value d.value))
    three_alike small Write f p =
        by_acd Write p.0 p.1.0 p.1.1.0
        (guarded _ _ _ _ c.value d.value _ _ (λ g. written (bytes_at w.bytes c.value d.value) (bytes_at b.bytes c.value d.value) (checked_bytes c.value d.value p.1.1.1.0 g) d.value (eqb a.value 1)))
    three_alike small Exit f p = by_a Exit p.0 (refl, low)
    three_alike small Abort f p = (refl, low)
    three_alike small LlvmMemcpy f p = by_acd LlvmMemcpy p.0 p.1.0 p.1.1.0 (guarded _ _ _ _ a.value d.value _ _ (λ g. guarded _ _ _ _ c.value d.value _ _ (λ k. copied_planes a.value c.value d.value g k)))
    three_alike small LlvmMemmove f p = by_acd LlvmMemmove p.0 p.1.0 p.1.1.0 (guarded _ _ _ _ a.value d.value _ _ (λ g. guarded _ _ _ _ c.value d.value _ _ (λ k. copied_planes a.value c.value d.value g k)))
    three_alike small LlvmMemset f p = by_ad LlvmMemset p.0 p.1.0 (guarded _ _ _ _ a.value d.value _ _ (λ g. filled_planes a.value d.value c.mask c.value c'.value c.origin at_c.value g))
    three_alike small LifetimeStart f p = by_ac LifetimeStart p.0 p.1.0 (guarded _ _ _ _ c.value a.value _ _ (λ g. remade_low s.fill fill c.value a.value root w b alike small g))
    three_alike small LifetimeEnd f p = low
    three_alike small LlvmTrap f p = (refl, low)
    three_alike small LlvmAssume f p = by_a LlvmAssume p.0 (assumed_alike (eqb a.value 0))
    three_alike small LlvmObjectSize f p = by_c LlvmObjectSize p.0 (answers_same (unknown_size c.value), low)
    three_alike small PthreadCreate f p = absurd (true≢false (sym f))
    three_alike small PthreadJoin f p = absurd (true≢false (sym f))
    three_alike small SchedYield f p = absurd (true≢false (sym f))
    three_alike small Printf f p = absurd (true≢false (sym f))
    three_alike small (Word f n) g p = absurd (true≢false (sym g))
