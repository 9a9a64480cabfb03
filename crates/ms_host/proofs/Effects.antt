-- What an external's effect comes to, where its tests are known.
use Rattle.std.proofs.Common.{◌≡◌, ◌≢◌, ℕ, ◌+◌, ◌^◌, ◌<◌, ◌≤◌, Bool, true, false, List, ◌++◌, length, min, refl, sym, ap, ◌∙◌, subst, arith, if◌then◌else◌, IsTrue, is_some, Option, Some, None, Ok, Err, ◌&&◌, eqb, ltb, leb, MatchBool, [], ◌∷◌, suc, append_assoc}
use Rattle.std.proofs.lemmas.Bool.{eq-eqb, ne_eqb, lt-ltb, le-leb, lt-leb}
use Rattle.ms_bits.specs.declared.traps.Trap.TheVariants as trap
use Rattle.ms_alloc.specs.declared.kinds.AllocKind.TheVariants as kind
use Rattle.ms_alloc.specs.declared.errors.AllocError.TheVariants as refused
use Rattle.ms_alloc.specs.Allocations.{Allocations, with_made, is_good as is_live, heap_size as block_size}
use Rattle.ms_bits.specs.Maps.{bytes_at}
use Rattle.ms_runs.specs.declared.runs.End.TheVariants as «end»
use Rattle.ms_ir.specs.Areas.{Heap}
use Rattle.ms_runs.specs.World.{World, Effect, Gives, Does, traps}
use Rattle.ms_runs.specs.Memory.{fits, next_base, is_good, heap_size, end_block, make, make_unset, set_bytes, copy_bytes, copy_shadow}
use Rattle.ms_runs.specs.Externals.{malloc, calloc, realloc, free, reallocated, where_good, string_at, printed}
use Rattle.ms_host.specs.declared.calls.Answer.{Answer}
use Rattle.ms_host.specs.declared.calls.Answer.TheVariants as answer
use Rattle.ms_host.specs.State.{WorldState, Beside}
use Rattle.ms_host.specs.Shows.{Shows, Allocated, Cleared, Grown}
use Rattle.ms_host.specs.Answers.{Answered, resumed, puts_of}
use Rattle.ms_host.proofs.Tables.{block-live, shorter-live, made-keeps, made-good}
use Rattle.ms_host.proofs.StringSteps.{length-bytes}

pub on-yes : (beside : Beside) (a : Answer) (w : WorldState) (b : Bool) (x y : Effect) → b ≡ true → Answered beside x a w → Answered beside (if b then x else y) a w
on-yes beside a w true x y e h = h
on-yes beside a w false x y e h = absurd (cc)

pub on-no : (beside : Beside) (a : Answer) (w : WorldState) (b : Bool) (x y : Effect) → b ≡ false → Answered beside y a w → Answered beside (if b then x else y) a w
on-no beside a w true x y e h = absurd (cc)
on-no beside a w false x y e h = h

-- ---- the heap

pub malloc-some : (beside : Beside) (world : World) (n base : ℕ) (w : WorldState) (fill : List ℕ) → w.fill ≡ fill → Allocated kind.Heap beside world n (Ok base) w → Answered beside (malloc fill n world) (answer.Resumed (Some base)) w
malloc-some beside world n base w fill is h =
    subst (λ (f : List ℕ). Answered beside (malloc f n world) (answer.Resumed (Some base)) w) is
    (on-yes beside _ w (fits Heap n world) (Gives (next_base Heap world) (make_unset w.fill Heap n world)) (Gives 0 world) h.0 (h.1, h.2))

pub malloc-none : (beside : Beside) (world : World) (n : ℕ) (w : WorldState) (fill : List ℕ) → Allocated kind.Heap beside world n (Err refused.Full) w → Answered beside (malloc fill n world) (answer.Resumed (Some 0)) w
malloc-none beside world n w fill h = on-no beside _ w (fits Heap n world) (Gives (next_base Heap world) (make_unset fill Heap n world)) (Gives 0 world) h.0 (refl, h.1)

and-true : (b c : Bool) → b ≡ true → (b && c) ≡ c
and-true true c e = refl
and-true false c e = absurd (cc)

pub calloc-some : (beside : Beside) (world : World) (n base : ℕ) (w : WorldState) → n < 2 ^ 64 → Cleared kind.Heap beside world n (Ok base) w → Answered beside (calloc n world) (answer.Resumed (Some base)) w
calloc-some beside world n base w l h =
    on-yes beside _ w (ltb n (2 ^ 64) && fits Heap n world) (Gives (next_base Heap world) (make Heap n world)) (Gives 0 world) (and-true _ _ (lt-ltb n (2 ^ 64) l) ∙ h.0) (h.1, h.2)

pub calloc-none : (beside : Beside) (world : World) (n : ℕ) (w : WorldState) → n < 2 ^ 64 → Cleared kind.Heap beside world n (Err refused.Full) w → Answered beside (calloc n world) (answer.Resumed (Some 0)) w
calloc-none beside world n w l h =
    on-no beside _ w (ltb n (2 ^ 64) && fits Heap n world) (Gives (next_base Heap world) (make Heap n world)) (Gives 0 world) (and-true _ _ (lt-ltb n (2 ^ 64) l) ∙ h.0) (refl, h.1)

pub realloc-null : (beside : Beside) (a : Answer) (world : World) (site p n : ℕ) (w : WorldState) (fill : List ℕ) → p ≡ 0 → Answered beside (malloc fill n world) a w → Answered beside (realloc fill site p n world) a w
realloc-null beside a world site p n w fill e h = on-yes beside a w (eqb p 0) (malloc fill n world) _ (eq-eqb p 0 e) h

pub realloc-bad : (beside : Beside) (world : World) (site p n : ℕ) (w : WorldState) (fill : List ℕ) → p ≢ 0 → heap_size world p ≡ None → Shows w beside world → Answered beside (realloc fill site p n world) (answer.Ended («end».Trap trap.BadFree site)) w
realloc-bad beside world site p n w fill e none h = on-no beside _ w (eqb p 0) (malloc fill n world) _ (ne_eqb p 0 e)
    (subst (λ (o : Option ℕ). Answered beside (elim o [ Some old ↦ reallocated fill p old n world | None ↦ traps trap.BadFree site world ]) (answer.Ended («end».Trap trap.BadFree site)) w) (sym none) (refl, h))

pub realloc-full : (beside : Beside) (world : World) (site p n old : ℕ) (w : WorldState) (fill : List ℕ) → p ≢ 0 → heap_size world p ≡ Some old → Allocated kind.Heap beside world n (Err refused.Full) w → Answered beside (realloc fill site p n world) (answer.Resumed (Some 0)) w
realloc-full beside world site p n old w fill e some h = on-no beside _ w (eqb p 0) (malloc fill n world) _ (ne_eqb p 0 e)
    (subst (λ (o : Option ℕ). Answered beside (elim o [ Some old ↦ reallocated fill p old n world | None ↦ traps trap.BadFree site world ]) (answer.Resumed (Some 0)) w) (sym some)
    (on-no beside _ w (fits Heap n world) _ (Gives 0 world) h.0 (refl, h.1)))

pub realloc-some : (beside : Beside) (world : World) (site p n old q k : ℕ) (w : WorldState) (fill : List ℕ) → p ≢ 0 → heap_size world p ≡ Some old → fits Heap n world ≡ true → q ≡ next_base Heap world → k ≡ min old n →
    Shows w beside (end_block p (copy_shadow q p k (copy_bytes q p k (make_unset fill Heap n world)))) → Answered beside (realloc fill site p n world) (answer.Resumed (Some q)) w
realloc-some beside world site p n old q k w fill e some room at few h = on-no beside _ w (eqb p 0) (malloc fill n world) _ (ne_eqb p 0 e)
    (subst (λ (o : Option ℕ). Answered beside (elim o [ Some old ↦ reallocated fill p old n world | None ↦ traps trap.BadFree site world ]) (answer.Resumed (Some q)) w) (sym some)
    (on-yes beside _ w (fits Heap n world) _ (Gives 0 world) room (
      at,
      subst (λ (j : ℕ). Shows w beside (end_block p (copy_shadow (next_base Heap world) p j (copy_bytes (next_base Heap world) p j (make_unset fill Heap n world))))) few
          (subst (λ (b : ℕ). Shows w beside (end_block p (copy_shadow b p k (copy_bytes b p k (make_unset fill Heap n world))))) at h),
    )))

-- the copied bytes are good
pub old-good : (t t' : Allocations) (p n old q k : ℕ) → block_size p t ≡ Some old → Grown kind.Heap t n (Ok q) t' → k ≡ min old n → IsTrue (is_live p k t')
old-good t t' p n old q k some grown few =
    subst (λ (u : Allocations). IsTrue (is_live p k u)) (sym grown.0)
    (made-keeps t kind.Heap n p k (shorter-live t p old k (omega (arith, few)) (block-live t p old some)))

pub new-good : (t t' : Allocations) (n old q k : ℕ) → Grown kind.Heap t n (Ok q) t' → k ≡ min old n → IsTrue (is_live q k t')
new-good t t' n old q k grown few =
    subst (λ (u : Allocations). IsTrue (is_live q k u)) (sym grown.0)
    (shorter-live (with_made kind.Heap n t) q n k (omega (arith, few)) (subst (λ (b : ℕ). IsTrue (is_live b n (with_made kind.Heap n t))) (sym grown.1) (made-good t kind.Heap n)))

pub free-bad : (beside : Beside) (world : World) (site p : ℕ) (w : WorldState) → p ≢ 0 → is_some (heap_size world p) ≡ false → Shows w beside world → Answered beside (free site p world) (answer.Ended («end».Trap trap.BadFree site)) w
free-bad beside world site p w e none h = on-no beside _ w (eqb p 0) (Does world) _ (ne_eqb p 0 e) (on-no beside _ w (is_some (heap_size world p)) (Does (end_block p world)) _ none (refl, h))

pub free-some : (beside : Beside) (world : World) (site p : ℕ) (w : WorldState) → p ≢ 0 → is_some (heap_size world p) ≡ true → Shows w beside (end_block p world) → Answered beside (free site p world) (answer.Resumed None) w
free-some beside world site p w e some h = on-no beside _ w (eqb p 0) (Does world) _ (ne_eqb p 0 e) (on-yes beside _ w (is_some (heap_size world p)) (Does (end_block p world)) _ some h)

-- ---- ranges

pub good-then : (beside : Beside) (a : Answer) (world : World) (site x n : ℕ) (w : WorldState) (e : Effect) → is_good world x n ≡ true → Answered beside e a w → Answered beside (where_good site x n world e) a w
good-then beside a world site x n w e good h = on-yes beside a w (is_good world x n) e _ good h

pub bad-then : (beside : Beside) (world : World) (site x n : ℕ) (w : WorldState) (e : Effect) → is_good world x n ≡ false → Shows w beside world → Answered beside (where_good site x n world e) (answer.Ended («end».Trap trap.BadAddress site)) w
bad-then beside world site x n w e bad h = on-no beside _ w (is_good world x n) e _ bad (refl, h)

-- one of two ranges isn't good
pub bad-two : (beside : Beside) (world : World) (site x y n : ℕ) (w : WorldState) (e : Effect) → (is_good world x n && is_good world y n) ≡ false → Shows w beside world →
    Answered beside (where_good site x n world (where_good site y n world e)) (answer.Ended («end».Trap trap.BadAddress site)) w
bad-two beside world site x y n w e bad h = by (is_good world x n) refl
  where
    by : (b : Bool) → is_good world x n ≡ b → Answered beside (where_good site x n world (where_good site y n world e)) (answer.Ended («end».Trap trap.BadAddress site)) w
    by true g = good-then beside _ world site x n w (where_good site y n world e) g (bad-then beside world site y n w e (sym (and-true _ _ g) ∙ bad) h)
    by false g = bad-then beside world site x n w (where_good site y n world e) g h

-- ---- output

pub printed-then : (beside : Beside) (a : Answer) (world : World) (site : ℕ) (bs : List ℕ) (go : World → Effect) (w : WorldState) → length world.output + length bs ≤ 1048576 → Answered beside (go (record world { output = world.output ++ bs })) a w → Answered beside (printed site bs go world) a w
printed-then beside a world site bs go w room h = on-yes beside a w (leb (length world.output + length bs) 1048576) (go (record world { output = world.output ++ bs })) _ (le-leb (length world.output + length bs) 1048576 room) h

pub printed-full : (beside : Beside) (world : World) (site : ℕ) (bs : List ℕ) (go : World → Effect) (w : WorldState) → 1048576 < length world.output + length bs → Shows w beside world → Answered beside (printed site bs go world) (answer.Ended («end».Trap trap.Output site)) w
printed-full beside world site bs go w full h = on-no beside _ w (leb (length world.output + length bs) 1048576) (go (record world { output = world.output ++ bs })) _ (lt-leb (length world.output + length bs) 1048576 full) (refl, h)

pub resumed-same : (beside : Beside) (o : Option ℕ) (world : World) (w : WorldState) → Shows w beside world → Answered beside (resumed o world) (answer.Resumed o) w
resumed-same beside None world w h = h
resumed-same beside (Some x) world w h = (refl, h)

-- what a test of a range answered
pub if-true : (b : Bool) (P Q : Type 0) → b ≡ true → MatchBool b P Q → P
if-true true P Q e h = h
if-true false P Q e h = absurd (cc)

pub if-false : (b : Bool) (P Q : Type 0) → b ≡ false → MatchBool b P Q → Q
if-false true P Q e h = absurd (cc)
if-false false P Q e h = h

-- ---- strings

pub strlen-then : (beside : Beside) (world : World) (site x n : ℕ) (w : WorldState) → string_at world x ≡ Some (bytes_at world.bytes x n) → Shows w beside world →
    Answered beside (elim (string_at world x) [ Some bs ↦ Gives (length bs) world | None ↦ traps trap.BadAddress site world ]) (answer.Resumed (Some n)) w
strlen-then beside world site x n w e h =
    subst (λ (o : Option (List ℕ)). Answered beside (elim o [ Some bs ↦ Gives (length bs) world | None ↦ traps trap.BadAddress site world ]) (answer.Resumed (Some n)) w) (sym e) (sym (length-bytes world.bytes x n), h)

pub strlen-bad : (beside : Beside) (world : World) (site x : ℕ) (w : WorldState) → string_at world x ≡ None → Shows w beside world →
    Answered beside (elim (string_at world x) [ Some bs ↦ Gives (length bs) world | None ↦ traps trap.BadAddress site world ]) (answer.Ended («end».Trap trap.BadAddress site)) w
strlen-bad beside world site x w e h =
    subst (λ (o : Option (List ℕ)). Answered beside (elim o [ Some bs ↦ Gives (length bs) world | None ↦ traps trap.BadAddress site world ]) (answer.Ended («end».Trap trap.BadAddress site)) w) (sym e) (refl, h)

pub puts-bad : (beside : Beside) (world : World) (site x : ℕ) (w : WorldState) → string_at world x ≡ None → Shows w beside world → Answered beside (puts_of site x world) (answer.Ended («end».Trap trap.BadAddress site)) w
puts-bad beside world site x w e h =
    subst (λ (o : Option (List ℕ)). Answered beside (elim o [ Some bs ↦ printed site (bs ++ 10 ∷ []) (Gives 1) world | None ↦ traps trap.BadAddress site world ]) (answer.Ended («end».Trap trap.BadAddress site)) w) (sym e) (refl, h)

line-length : (bs : List ℕ) → length (bs ++ 10 ∷ []) ≡ length bs + 1
line-length [] = refl
line-length (b ∷ bs) = let e : suc (length bs + 1) ≡ suc (length bs) + 1 = omega arith in ap suc (line-length bs) ∙ e

pub puts-full : (beside : Beside) (world : World) (site x n : ℕ) (w : WorldState) → string_at world x ≡ Some (bytes_at world.bytes x n) → ¬ (length world.output + (n + 1) ≤ 1048576) → Shows w beside world → Answered beside (puts_of site x world) (answer.Ended («end».Trap trap.Output site)) w
puts-full beside world site x n w e full h =
    subst (λ (o : Option (List ℕ)). Answered beside (elim o [ Some bs ↦ printed site (bs ++ 10 ∷ []) (Gives 1) world | None ↦ traps trap.BadAddress site world ]) (answer.Ended («end».Trap trap.Output site)) w) (sym e)
    (printed-full beside world site (bytes_at world.bytes x n ++ 10 ∷ []) (Gives 1) w (omega (arith, full, line-length (bytes_at world.bytes x n), length-bytes world.bytes x n)) h)

pub puts-then : (beside : Beside) (world : World) (site x n : ℕ) (w : WorldState) → string_at world x ≡ Some (bytes_at world.bytes x n) → length world.output + (n + 1) ≤ 1048576 →
    Shows w beside (record world { output = (world.output ++ bytes_at world.bytes x n) ++ 10 ∷ [] }) → Answered beside (puts_of site x world) (answer.Resumed (Some 1)) w
puts-then beside world site x n w e room h =
    subst (λ (o : Option (List ℕ)). Answered beside (elim o [ Some bs ↦ printed site (bs ++ 10 ∷ []) (Gives 1) world | None ↦ traps trap.BadAddress site world ]) (answer.Resumed (Some 1)) w) (sym e)
    (printed-then beside _ world site (bytes_at world.bytes x n ++ 10 ∷ []) (Gives 1) w (omega (arith, room, line-length (bytes_at world.bytes x n), length-bytes world.bytes x n))
    (refl, subst (λ (l : List ℕ). Shows w beside (record world { output = l })) (append_assoc world.output (bytes_at world.bytes x n) (10 ∷ [])) h))

pub no-room : (b : Bool) (P : Type 0) → b ≡ false → (P → IsTrue b) → ¬ P
no-room true P e f p = cc
no-room false P e f p = cc (f p)

-- 'memset' by words that are equal
pub filled-by : (beside : Beside) (site a a' byte byte' n n' : ℕ) (o o' : Option ℕ) (world : World) (x : Answer) (w : WorldState) → a ≡ a' → byte ≡ byte' → n ≡ n' → o ≡ o' →
    Answered beside (where_good site a n world (resumed o (set_bytes a n (λ k. byte) world))) x w → Answered beside (where_good site a' n' world (resumed o' (set_bytes a' n' (λ k. byte') world))) x w
filled-by beside site a a' byte byte' n n' o o' world x w ea eb en eo h =
    subst (λ (z : ℕ). Answered beside (where_good site z n' world (resumed o' (set_bytes z n' (λ k. byte') world))) x w) ea
    (subst (λ (z : ℕ). Answered beside (where_good site a n' world (resumed o' (set_bytes a n' (λ k. z) world))) x w) eb
    (subst (λ (z : ℕ). Answered beside (where_good site a z world (resumed o' (set_bytes a z (λ k. byte) world))) x w) en
    (subst (λ (z : Option ℕ). Answered beside (where_good site a n world (resumed z (set_bytes a n (λ k. byte) world))) x w) eo h)))
