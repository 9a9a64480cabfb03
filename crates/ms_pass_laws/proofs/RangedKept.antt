-- A step of the shadow run keeps that allocations are placed and that origins are numbers of 32 bits.
use Rattle.std.proofs.Common.{◌≡◌, ℕ, zero, suc, ◌+◌, ◌*◌, ◌<◌, ◌≤◌, ◌^◌, List, [], ◌∷◌, ◌++◌, refl, sym, ap, ◌∙◌, subst, arith, Bool, true, false, eqb}
use Rattle.std.specs.Prelude.{map, if◌then◌else◌, leb, ltb, ◌/◌, ◌%◌, ◌-◌, ◌&&◌, ◌||◌, not, cond, filter, get_or, unwrap_or, Option, Some, None, Result, Ok, Err, length, min}
use Rattle.std.proofs.lemmas.Bool.{leb-true}
use Rattle.ms_bits.specs.declared.traps.Trap.{Trap}
use Rattle.ms_bits.specs.Maps.{touches, byte_of, number_at, with_cell, with_cells, first_nonzero, bytes_at, copied_cells}
use Rattle.ms_bits.specs.WordFunctions.{bits_of, word_answer}
use Rattle.ms_ir.specs.declared.syntax.Name.{Name}
use Rattle.ms_ir.specs.declared.syntax.Name.TheVariants.{Number}
use Rattle.ms_ir.specs.declared.syntax.Ty.{Ty}
use Rattle.ms_ir.specs.declared.syntax.Operand.{Operand}
use Rattle.ms_ir.specs.declared.syntax.Op.{Op}
use Rattle.ms_ir.specs.declared.syntax.Op.TheVariants as op
use Rattle.ms_ir.specs.declared.syntax.Inst.{Inst}
use Rattle.ms_ir.specs.declared.syntax.Module.{Module}
use Rattle.ms_runs.specs.declared.runs.End.{End}
use Rattle.ms_runs.specs.declared.runs.End.TheVariants as «end»
use Rattle.ms_runs.specs.declared.runs.Report.{Report}
use Rattle.ms_ir.specs.Names.{name_eq}
use Rattle.ms_runs.specs.World.{Allocation, word, World, Setting, Here, Effect, Gives, Does, Goes, Enters, Leaves, Ends, then_does, stuck, gives}
use Rattle.ms_ir.specs.Areas.{Heap, Stack, room}
use Rattle.ms_bits.specs.declared.traps.Trap.TheVariants as trap
use Rattle.ms_ir.specs.Layout.{stored_size, width_of, size_in}
use Rattle.ms_runs.specs.Memory.{make, heap_size, is_heap_block, local_area, end_block, end_blocks, copy_bytes, copy_shadow, keeps, store_number, set_shadow, used, fits, next_base, is_good, make_unset, set_cells, bytes_left}
use Rattle.ms_runs.specs.Origins.{keeps_old, pair_index, copy_planes, fill_planes, unpoison, Chained, chain, is_hidden, add_report, check, check_byte, check_memory, count_blind, poison, mark_cells, store_origin, origin_within, trail, first_in_string, pair_limit, check_string, asks_string_at, check_format, thread_result}
use Rattle.ms_ir.specs.Instructions.{makes_unset, external_named, operands, one_undef, count_undefs, is_root, roots_in, blocks_at, insts_at, block_index, root_at, is_phi}
use Rattle.ms_runs.specs.Control.{Frame, here, rest_of, read_all, with_value, put, after_effect, read_edge, phis, block_name, result_at, left, release, given_back, keeping, Over, On, bind, entered, params_at, frame_limit}
use Rattle.ms_runs.specs.Act.{act, alloca, load, store}
use Rattle.ms_runs.specs.Plain.{Stepped, More, Stop}
use Rattle.ms_runs.specs.Poisoned.{Poisoned, clean}
use Rattle.ms_bits.specs.Conversions.{select_of}
use Rattle.ms_pass_tasks.proofs.OriginRanges.{AreRanged, operand_ranged, words_ranged, at_ranged, last_ranged}
use Rattle.ms_runs.specs.Masks.{by_formulas, word_at, answer_origin, result_origin, union}
use Rattle.ms_runs.specs.Uses.{CheckedUse, Word, Bytes, Line, blinded, uses, check_use, check_uses, Asked}
use Rattle.ms_runs.specs.Shadow.{ShadowState, read_poisoned, external_planes, callee_planes, planes, poisoned_result, shadow_moved, after_checks, shadow_inst, shadow_first, shadow_frames, shadow_step, shadow_reading}
use Rattle.ms_pass_tasks.specs.Environments.{Env}
use Rattle.ms_pass_tasks.specs.Known.{IsBuilt, KnownInst, edge_roots, PhiRoot, PhiRoots}
use Rattle.ms_pass_tasks.specs.Match.{IsPlaced, ArePlaced, RangedWorld, RangedValues, RangedHere}
use Rattle.ms_pass_laws.specs.Pass.{Numbering}
use Rattle.ms_pass_laws.specs.Law.{RangedFrames, Ranged}
use Rattle.ms_pass_laws.specs.Known.{KnownModule}
use Rattle.ms_ir.specs.declared.calls.External.{External}
use Rattle.ms_ir.specs.declared.calls.External.TheVariants.{Malloc, Calloc, Realloc, Free, Memcpy, Memmove, Memset, Memcmp, Strlen, Putchar, Puts, Getchar, Read, Write, Exit, Abort, LlvmMemcpy, LlvmMemmove, LlvmMemset, LifetimeStart, LifetimeEnd, Printf, LlvmTrap, LlvmAssume, LlvmObjectSize, PthreadCreate, PthreadJoin, SchedYield}
use Rattle.ms_ir.specs.declared.calls.External.TheVariants as called
use Rattle.ms_ir.specs.Names.{lookup, externals}
use Rattle.ms_runs.specs.Externals.{malloc, calloc, reallocated, where_good, string_at, printed, taken, next_byte, external, output_limit, formatted, prints, joined}
use Rattle.ms_runs.specs.Threads.{fiber_limit, thread_at, has_ended, join_answer}
use Rattle.ms_runs_good_laws.proofs.ExternalEffects.{room_above}
use Rattle.ms_runs_good_laws.proofs.WorldChanges.{pair_found}
use Rattle.ms_pass_laws.proofs.Placed.{placed_more}

-- ---- checks leave allocations and cells

-- a change that leaves allocations, cells and pairs
pub record Leaving (w z : World) : Type 0 where
  pub allocs : z.allocs ≡ w.allocs
  pub origins : z.origins ≡ w.origins
  pub pairs : z.pairs ≡ w.pairs
  pub answers : z.answer_origins ≡ w.answer_origins

-- an effect that, where it only changes the world, leaves allocations and cells
abbrev Quiet : World → Effect → Type 0
Quiet w (Does z) = Leaving w z
Quiet w (Gives x z) = Unit {0}
Quiet w (Goes x z) = Unit {0}
Quiet w (Enters f z) = Unit {0}
Quiet w (Leaves z) = Unit {0}
Quiet w (Ends e z) = Unit {0}

same : (w : World) → Leaving w w
same w = record { allocs = refl; origins = refl; pairs = refl; answers = refl }

leaving_then : (w u z : World) → Leaving w u → Leaving u z → Leaving w z
leaving_then w u z p q = record { allocs = q.allocs ∙ p.allocs; origins = q.origins ∙ p.origins; pairs = q.pairs ∙ p.pairs; answers = q.answers ∙ p.answers }

report_quiet : (s : Setting) (r : Report) (w : World) → Quiet w (add_report s r w)
report_quiet s r w = go (is_hidden s r w) (leb s.limit (length (w.reports ++ r ∷ [])))
  where
    reported : World
    reported = record w { reports = w.reports ++ r ∷ [] }

    go : (h b : Bool) → Quiet w (if h then Does w else if b then Ends «end».Reported reported else Does reported)
    go true b = same w
    go false true = tt
    go false false = record { allocs = refl; origins = refl; pairs = refl; answers = refl }

check_quiet : (s : Setting) (mask width origin kind part site : ℕ) (w : World) → Quiet w (check s mask width origin kind part site w)
check_quiet s mask width origin kind part site w = go (eqb mask 0)
  where
    report : Report
    report = record { site = site; kind = kind; part = part; width = width; mask = mask; origin = origin; chain = trail s w origin }

    go : (b : Bool) → Quiet w (if b then Does w else add_report s report w)
    go true = same w
    go false = report_quiet s report w

byte_quiet : (s : Setting) (kind site start : ℕ) (o : Option ℕ) (w : World) → Quiet w (check_byte s kind site start o w)
byte_quiet s kind site start None w = same w
byte_quiet s kind site start (Some x) w = check_quiet s (w.shadow x) 8 (w.origins (x / 4)) kind (x - start) site w

memory_quiet : (s : Setting) (a n kind site : ℕ) (w : World) → Quiet w (check_memory s a n kind site w)
memory_quiet s a n kind site w = go (is_good w a n)
  where
    go : (b : Bool) → Quiet w (if b then check_byte s kind site a (first_nonzero w.shadow a n) w else Does w)
    go true = byte_quiet s kind site a (first_nonzero w.shadow a n) w
    go false = same w

format_quiet : (s : Setting) (format index a site : ℕ) (w : World) → Quiet w (check_format s format index a site w)
format_quiet s format index a site w = go (asks_string_at w format index)
  where
    go : (b : Bool) → Quiet w (if b then check_string s a site w else Does w)
    go true = byte_quiet s 10 site a (first_in_string w a (bytes_left w a)) w
    go false = same w

use_quiet : (s : Setting) (site : ℕ) (os : List (Ty × Operand)) (ps : List Poisoned) (u : CheckedUse) (w : World) → Quiet w (check_use s site os ps u w)
use_quiet s site os ps (Word kind k) w = check_quiet s (word_at k ps).mask _ (word_at k ps).origin kind k site w
use_quiet s site os ps (Bytes kind a n) w = memory_quiet s (word_at a ps).value (word_at n ps).value kind site w
use_quiet s site os ps (Line a) w = byte_quiet s 10 site (word_at a ps).value (first_in_string w (word_at a ps).value (bytes_left w (word_at a ps).value)) w
use_quiet s site os ps (Asked a) w = format_quiet s (word_at 0 ps).value a (word_at a ps).value site w

then_quiet : (w : World) (e : Effect) (go : World → Effect) → Quiet w e → ((z : World) → Quiet z (go z)) → Quiet w (then_does e go)
then_quiet w (Does z) go q h = on (go z) (h z)
  where
    on : (f : Effect) → Quiet z f → Quiet w f
    on (Does y) r = leaving_then w z y q r
    on (Gives x y) r = tt
    on (Goes x y) r = tt
    on (Enters f y) r = tt
    on (Leaves y) r = tt
    on (Ends x y) r = tt
then_quiet w (Gives x z) go q h = tt
then_quiet w (Goes x z) go q h = tt
then_quiet w (Enters f z) go q h = tt
then_quiet w (Leaves z) go q h = tt
then_quiet w (Ends x z) go q h = tt

uses_quiet : (s : Setting) (site : ℕ) (os : List (Ty × Operand)) (ps : List Poisoned) (us : List CheckedUse) (w : World) → Quiet w (check_uses s site os ps us w)
uses_quiet s site os ps [] w = same w
uses_quiet s site os ps (u ∷ us) w =
    then_quiet w (check_use s site os ps u w) (check_uses s site os ps us) (use_quiet s site os ps u w) (uses_quiet s site os ps us)

counted : (mask : ℕ) (w : World) → Leaving w (count_blind mask w)
counted mask w = go (eqb mask 0)
  where
    go : (b : Bool) → Leaving w (if b then w else record w { blind = w.blind + 1 })
    go true = same w
    go false = record { allocs = refl; origins = refl; pairs = refl; answers = refl }

ranged_left : (w z : World) → Leaving w z → RangedWorld w → RangedWorld z
ranged_left w z q r = record {
  placed = subst ArePlaced (sym q.allocs) r.placed;
  origins = λ c. subst (λ f. f c < 2 ^ 32) (sym q.origins) (r.origins c);
  pairs = subst (λ (l : List (ℕ × ℕ)). length l ≤ pair_limit) (sym q.pairs) r.pairs;
  answers = λ c. subst (λ f. f c < 2 ^ 32) (sym q.answers) (r.answers c);
}

-- ---- origins

cells_ranged : (cells : ℕ → ℕ) (a n o : ℕ) → ((c : ℕ) → cells c < 2 ^ 32) → o < 2 ^ 32 → (c : ℕ) → with_cells cells a n o c < 2 ^ 32
cells_ranged cells a n o h lt c = go (touches a n c)
  where
    go : (b : Bool) → (if b then o else cells c) < 2 ^ 32
    go true = lt
    go false = h c

cell_ranged : (cells : ℕ → ℕ) (a o : ℕ) → ((c : ℕ) → cells c < 2 ^ 32) → o < 2 ^ 32 → (c : ℕ) → with_cell cells a o c < 2 ^ 32
cell_ranged cells a o h lt c = go (eqb c (a / 4))
  where
    go : (b : Bool) → (if b then o else cells c) < 2 ^ 32
    go true = lt
    go false = h c

poison_ranged : (a from to o : ℕ) (w : World) → RangedWorld w → o < 2 ^ 32 → RangedWorld (poison a from to o w)
poison_ranged a from to o w r lt = go (ltb from to && is_good w ((a + from) % 2 ^ 64) (to - from))
  where
    set : World
    set = set_cells ((a + from) % 2 ^ 64) (to - from) o (set_shadow ((a + from) % 2 ^ 64) (to - from) (λ k. 255) w)

    go : (b : Bool) → RangedWorld (if b then set_cells ((a + from) % 2 ^ 64) (to - from) o (set_shadow ((a + from) % 2 ^ 64) (to - from) (λ k. 255) w) else w)
    go true = record { placed = r.placed; origins = cells_ranged w.origins ((a + from) % 2 ^ 64) (to - from) o r.origins lt; pairs = r.pairs; answers = r.answers }
    go false = r

marked_ranged : (n a mask o : ℕ) (w : World) → RangedWorld w → o < 2 ^ 32 → RangedWorld (mark_cells n a mask o w)
marked_ranged zero a mask o w r lt = r
marked_ranged (suc n) a mask o w r lt =
    marked_ranged n (a + 1) (mask / 256) o _ (go (eqb (mask % 256) 0 || not (is_good w a 1))) lt
  where
    go : (b : Bool) → RangedWorld (if b then w else record w { origins = with_cell w.origins a o })
    go true = r
    go false = record { placed = r.placed; origins = cell_ranged w.origins a o r.origins lt; pairs = r.pairs; answers = r.answers }

-- a chained origin is a number of 32 bits, whatever the depth limit is
last_false : (a b c : Bool) → (a || b || c) ≡ false → c ≡ false
last_false true true c e = absurd (grind arith)
last_false true false c e = absurd (grind arith)
last_false false true c e = absurd (grind arith)
last_false false false c e = e

one_longer : (l : List (ℕ × ℕ)) (p : ℕ × ℕ) → length (l ++ p ∷ []) ≡ length l + 1
one_longer [] p = omega arith
one_longer (q ∷ l) p = let r = one_longer l p in omega (arith, r)

chained_ranged : (s : Setting) (o site : ℕ) (w : World) → s.roots + pair_limit + 1 < 2 ^ 32 → RangedWorld w → o < 2 ^ 32 → ((chain s o site w).id < 2 ^ 32) × RangedWorld (chain s o site w).world
chained_ranged s o site w many r lt = by_old (keeps_old s w o) refl (pair_index w.pairs o site) refl
  where
    few : keeps_old s w o ≡ false → length w.pairs < pair_limit
    few e = below (last_false (eqb (length (trail s w o)) 0) _ (leb pair_limit (length w.pairs)) e)
      where
        below : leb pair_limit (length w.pairs) ≡ false → length w.pairs < pair_limit
        below e = grind arith

    by_old : (b : Bool) → keeps_old s w o ≡ b → (p : Option ℕ) → pair_index w.pairs o site ≡ p
        → let z : Chained = if b then record { id = o; world = w } else elim p [
          | Some k ↦ record { id = s.roots + 1 + k; world = w }
          | None ↦ record { id = s.roots + 1 + length w.pairs; world = record w { pairs = w.pairs ++ (o, site) ∷ [] } }
        ] in (z.id < 2 ^ 32) × RangedWorld z.world
    by_old true e p q = (lt, r)
    by_old false e (Some k) q = let l = pair_found w.pairs o site k q in let b = r.pairs in (omega (arith, l, b, many), r)
    by_old false e None q =
        let f = few e in let l = one_longer w.pairs (o, site) in
        (omega (arith, f, many), record { placed = r.placed; origins = r.origins; pairs = omega (arith, f, l); answers = r.answers })

stored_ranged : (s : Setting) (a mask o site : ℕ) (w : World) → s.roots + pair_limit + 1 < 2 ^ 32 → RangedWorld w → o < 2 ^ 32 → RangedWorld (store_origin s a mask o site w)
stored_ranged s a mask o site w many r lt = go (eqb mask 0)
  where
    go : (b : Bool) → RangedWorld (if b then w else mark_cells 8 a mask (chain s o site w).id (chain s o site w).world)
    go true = r
    go false = let c = chained_ranged s o site w many r lt in marked_ranged 8 a mask (chain s o site w).id (chain s o site w).world c.1 c.0

found_ranged : (n a mask : ℕ) (w : World) → RangedWorld w → origin_within n a mask w < 2 ^ 32
found_ranged zero a mask w r = omega arith
found_ranged (suc n) a mask w r = go (found_ranged n (a + 1) (mask / 256) w r) (eqb (mask % 256) 0 || not (is_good w a 1))
  where
    go : origin_within n (a + 1) (mask / 256) w < 2 ^ 32 → (b : Bool) → (if b then origin_within n (a + 1) (mask / 256) w else w.origins (a / 4)) < 2 ^ 32
    go h true = h
    go h false = r.origins (a / 4)

-- ---- allocations

fitting : (n : ℕ) (w : World) → fits Stack n w ≡ true → used Stack w.allocs + room n ≤ 2 ^ 20
fitting n w e = leb-true (used Stack w.allocs + room n) (2 ^ 20) e

fitting_heap : (n : ℕ) (w : World) → fits Heap n w ≡ true → used Heap w.allocs + room n ≤ 2 ^ 26
fitting_heap n w e = leb-true (used Heap w.allocs + room n) (2 ^ 26) e

heap_ranged : (n : ℕ) (w : World) → RangedWorld w → fits Heap n w ≡ true → RangedWorld (make Heap n w)
heap_ranged n w r e = record {
  placed = placed_more w.allocs _ r.placed (record { from = omega arith; to = omega (arith, fitting_heap n w e, room_above n) });
  origins = cells_ranged w.origins (next_base Heap w) n 0 r.origins (omega arith);
  pairs = r.pairs;
  answers = r.answers;
}

made_ranged : (fill : List ℕ) (n : ℕ) (w : World) → RangedWorld w → fits Stack n w ≡ true → RangedWorld (make_unset fill Stack n w)
made_ranged fill n w r e = record {
  placed = placed_more w.allocs _ r.placed (record { from = omega arith; to = omega (arith, fitting n w e, room_above n) });
  origins = cells_ranged w.origins (next_base Stack w) n 0 r.origins (omega arith);
  pairs = r.pairs;
  answers = r.answers;
}

local_ranged : (fill : List ℕ) (n : ℕ) (w : World) → RangedWorld w → (t : Bool) → fits (if t then Stack else Heap) n w ≡ true → RangedWorld (make_unset fill (if t then Stack else Heap) n w)
local_ranged fill n w r true e = made_ranged fill n w r e
local_ranged fill n w r false e = let h = heap_ranged n w r e in record { placed = h.placed; origins = h.origins; pairs = h.pairs; answers = h.answers }

-- ---- one instruction

-- an effect that leaves a good world
abbrev RangedEffect : Effect → Type 0
RangedEffect (Gives v w) = RangedWorld w
RangedEffect (Does w) = RangedWorld w
RangedEffect (Goes x w) = RangedWorld w
RangedEffect (Enters f w) = RangedWorld w
RangedEffect (Leaves w) = RangedWorld w
RangedEffect (Ends e w) = Unit {0}

alloca_ranged : (s : Setting) (site n : ℕ) (w : World) → RangedWorld w → RangedEffect (alloca s site n w)
alloca_ranged s site n w r = go (fits (local_area w) n w) refl
  where
    go : (b : Bool) → fits (local_area w) n w ≡ b → RangedEffect (if b then Gives (next_base (local_area w) w) (make_unset s.fill (local_area w) n w) else Ends («end».Trap trap.Stack site) w)
    go true e = local_ranged s.fill n w r (eqb w.turn 0) e
    go false e = tt

load_ranged : (site a : ℕ) (t : Ty) (w : World) → RangedWorld w → RangedEffect (load site a t w)
load_ranged site a t w r = go (is_good w a (stored_size t))
  where
    go : (b : Bool) → RangedEffect (if b then Gives (number_at w.bytes a (stored_size t) % 2 ^ width_of t) w else Ends («end».Trap trap.BadAddress site) w)
    go true = r
    go false = tt

store_ranged : (site a : ℕ) (t : Ty) (v : ℕ) (w : World) → RangedWorld w → RangedEffect (store site a t v w)
store_ranged site a t v w r = go (is_good w a (stored_size t))
  where
    go : (b : Bool) → RangedEffect (if b then Does (store_number a (stored_size t) v w) else Ends («end».Trap trap.BadAddress site) w)
    go true = record { placed = r.placed; origins = r.origins; pairs = r.pairs; answers = r.answers }
    go false = tt

ret_ranged : (main : Bool) (v : ℕ) (w : World) → RangedWorld w → RangedEffect (if main then Ends («end».Exit v) w else Leaves w)
ret_ranged true v w e = tt
ret_ranged false v w e = e

ranged_if : (b : Bool) (e f : Effect) → RangedEffect e → RangedEffect f → RangedEffect (if b then e else f)
ranged_if true e f p q = p
ranged_if false e f p q = q

copied_ranged : (n to from : ℕ) (shadow old cells : ℕ → ℕ) → ((c : ℕ) → old c < 2 ^ 32) → ((c : ℕ) → cells c < 2 ^ 32) → (c : ℕ) → copied_cells shadow old to from n cells c < 2 ^ 32
copied_ranged zero to from shadow old cells h k c = k c
copied_ranged (suc n) to from shadow old cells h k c =
    copied_ranged n (to + 1) (from + 1) shadow old _ h (go (eqb (shadow from) 0)) c
  where
    go : (b : Bool) (c : ℕ) → (if b then cells else with_cell cells to (old (from / 4))) c < 2 ^ 32
    go true c = k c
    go false c = cell_ranged cells to (old (from / 4)) k (h (from / 4)) c

copy_ranged : (to from n : ℕ) (w : World) → RangedWorld w → RangedWorld (copy_shadow to from n w)
copy_ranged to from n w r = record { placed = r.placed; origins = copied_ranged n to from w.shadow w.origins w.origins r.origins r.origins; pairs = r.pairs; answers = r.answers }

ended_placed : (p : ℕ) (l : List Allocation) → ArePlaced l → ArePlaced (map (λ a. if is_heap_block p a then record a { live = false } else a) l)
ended_placed p [] h = tt
ended_placed p (a ∷ l) h = (by_test (is_heap_block p a), ended_placed p l h.1)
  where
    by_test : (b : Bool) → IsPlaced (if b then record a { live = false } else a)
    by_test true = record { from = h.0.from; to = h.0.to }
    by_test false = h.0

ended_ranged : (p : ℕ) (w : World) → RangedWorld w → RangedWorld (end_block p w)
ended_ranged p w r = record { placed = ended_placed p w.allocs r.placed; origins = r.origins; pairs = r.pairs; answers = r.answers }

malloc_ranged : (fill : List ℕ) (n : ℕ) (w : World) → RangedWorld w → RangedEffect (malloc fill n w)
malloc_ranged fill n w r = go (fits Heap n w) refl
  where
    go : (b : Bool) → fits Heap n w ≡ b → RangedEffect (if b then Gives (next_base Heap w) (make_unset fill Heap n w) else Gives 0 w)
    go true e = let h = heap_ranged n w r e in record { placed = h.placed; origins = h.origins; pairs = h.pairs; answers = h.answers }
    go false e = r

calloc_ranged : (n : ℕ) (w : World) → RangedWorld w → RangedEffect (calloc n w)
calloc_ranged n w r = by_size (ltb n (2 ^ 64)) (fits Heap n w) refl
  where
    by_size : (a b : Bool) → fits Heap n w ≡ b → RangedEffect (if a && b then Gives (next_base Heap w) (make Heap n w) else Gives 0 w)
    by_size true true e = heap_ranged n w r e
    by_size true false e = r
    by_size false b e = r

reallocated_block : (fill : List ℕ) (site p n : ℕ) (w : World) → RangedWorld w → (o : Option ℕ) → RangedEffect (elim o [ Some old ↦ reallocated fill p old n w | None ↦ Ends («end».Trap trap.BadFree site) w ])
reallocated_block fill site p n w r None = tt
reallocated_block fill site p n w r (Some old) = go (fits Heap n w) refl
  where
    made : World
    made = copy_bytes (next_base Heap w) p (min old n) (make_unset fill Heap n w)

    go : (b : Bool) → fits Heap n w ≡ b
        → RangedEffect (if b then Gives (next_base Heap w) (end_block p (copy_shadow (next_base Heap w) p (min old n) (copy_bytes (next_base Heap w) p (min old n) (make_unset fill Heap n w)))) else Gives 0 w)
    go true e =
        let h = heap_ranged n w r e in
        let m : RangedWorld (copy_bytes (next_base Heap w) p (min old n) (make_unset fill Heap n w)) = record { placed = h.placed; origins = h.origins; pairs = h.pairs; answers = h.answers } in
        ended_ranged p (copy_shadow (next_base Heap w) p (min old n) (copy_bytes (next_base Heap w) p (min old n) (make_unset fill Heap n w)))
        (copy_ranged (next_base Heap w) p (min old n) (copy_bytes (next_base Heap w) p (min old n) (make_unset fill Heap n w)) m)
    go false e = r

text_ranged : (site : ℕ) (o : Option (List ℕ)) (f : List ℕ → Effect) (w : World) → ((bs : List ℕ) → RangedEffect (f bs)) → RangedEffect (elim o [ Some bs ↦ f bs | None ↦ Ends («end».Trap trap.BadAddress site) w ])
text_ranged site None f w h = tt
text_ranged site (Some bs) f w h = h bs

byte_ranged : (bs : List ℕ) (w : World) → RangedWorld w → RangedEffect (next_byte bs w)
byte_ranged [] w r = r
byte_ranged (b ∷ bs) w r = record { placed = r.placed; origins = r.origins; pairs = r.pairs; answers = r.answers }

good_ranged : (site a n : ℕ) (w : World) (e : Effect) → RangedEffect e → RangedEffect (where_good site a n w e)
good_ranged site a n w e p = ranged_if (is_good w a n) e (Ends («end».Trap trap.BadAddress site) w) p tt

printed_ranged : (site : ℕ) (bs : List ℕ) (k : ℕ) (w : World) → RangedWorld w → RangedEffect (printed site bs (Gives k) w)
printed_ranged site bs k w r = ranged_if (leb (length w.output + length bs) output_limit) (Gives k _) (Ends («end».Trap trap.Output site) w) (record { placed = r.placed; origins = r.origins; pairs = r.pairs; answers = r.answers }) tt

prints_ranged : (site : ℕ) (t : Result (List ℕ) Trap) (w : World) → RangedWorld w → RangedEffect (prints site t w)
prints_ranged site (Ok bs) w r = printed_ranged site bs (length bs) w r
prints_ranged site (Err t) w r = tt

given_ranged : (site : ℕ) (r : Result ℕ Trap) (w : World) → RangedWorld w → RangedEffect (gives site r w)
given_ranged site (Ok v) w r = r
given_ranged site (Err t) w r = tt

external_ranged : (s : Setting) (site : ℕ) (e : External) (types : List Ty) (words : List ℕ) (w : World) → RangedWorld w → RangedEffect (external s site e types words w)
external_ranged s site Malloc types words w r = malloc_ranged s.fill (word 0 words) w r
external_ranged s site Calloc types words w r = calloc_ranged (word 0 words * word 1 words) w r
external_ranged s site Realloc types words w r =
    ranged_if (eqb (word 0 words) 0) (malloc s.fill (word 1 words) w) _ (malloc_ranged s.fill (word 1 words) w r) (reallocated_block s.fill site (word 0 words) (word 1 words) w r (heap_size w (word 0 words)))
external_ranged s site Free types words w r = ranged_if (eqb (word 0 words) 0) (Does w) _ r (ranged_if _ (Does _) (Ends _ w) (ended_ranged (word 0 words) w r) tt)
external_ranged s site Memcpy types words w r = good_ranged site (word 0 words) (word 2 words) w _ (good_ranged site (word 1 words) (word 2 words) w (Gives _ _) (record { placed = r.placed; origins = r.origins; pairs = r.pairs; answers = r.answers }))
external_ranged s site Memmove types words w r = good_ranged site (word 0 words) (word 2 words) w _ (good_ranged site (word 1 words) (word 2 words) w (Gives _ _) (record { placed = r.placed; origins = r.origins; pairs = r.pairs; answers = r.answers }))
external_ranged s site Memset types words w r = good_ranged site (word 0 words) (word 2 words) w (Gives _ _) (record { placed = r.placed; origins = r.origins; pairs = r.pairs; answers = r.answers })
external_ranged s site Memcmp types words w r = good_ranged site (word 0 words) (word 2 words) w _ (good_ranged site (word 1 words) (word 2 words) w (Gives _ _) r)
external_ranged s site Strlen types words w r = text_ranged site (string_at w (word 0 words)) (λ bs. Gives (length bs) w) w (λ bs. r)
external_ranged s site Putchar types words w r = printed_ranged site (word 0 words % 256 ∷ []) (word 0 words % 256) w r
external_ranged s site Puts types words w r = text_ranged site (string_at w (word 0 words)) (λ bs. printed site (bs ++ 10 ∷ []) (Gives 1) w) w (λ bs. printed_ranged site (bs ++ 10 ∷ []) 1 w r)
external_ranged s site Getchar types words w r = byte_ranged w.input w r
external_ranged s site Read types words w r =
    good_ranged site (word 1 words) (word 2 words) w _ (ranged_if (eqb (word 0 words) 0) (taken (word 1 words) (word 2 words) w) (Gives _ w) (record { placed = r.placed; origins = r.origins; pairs = r.pairs; answers = r.answers }) r)
external_ranged s site Write types words w r =
    good_ranged site (word 1 words) (word 2 words) w _
    (ranged_if (eqb (word 0 words) 1) (printed site (bytes_at w.bytes (word 1 words) (word 2 words)) (Gives (word 2 words)) w) (Gives _ w) (printed_ranged site (bytes_at w.bytes (word 1 words) (word 2 words)) (word 2 words) w r) r)
external_ranged s site Exit types words w r = tt
external_ranged s site Abort types words w r = tt
external_ranged s site LlvmMemcpy types words w r = good_ranged site (word 0 words) (word 2 words) w _ (good_ranged site (word 1 words) (word 2 words) w (Does _) (record { placed = r.placed; origins = r.origins; pairs = r.pairs; answers = r.answers }))
external_ranged s site LlvmMemmove types words w r = good_ranged site (word 0 words) (word 2 words) w _ (good_ranged site (word 1 words) (word 2 words) w (Does _) (record { placed = r.placed; origins = r.origins; pairs = r.pairs; answers = r.answers }))
external_ranged s site LlvmMemset types words w r = good_ranged site (word 0 words) (word 2 words) w (Does _) (record { placed = r.placed; origins = r.origins; pairs = r.pairs; answers = r.answers })
external_ranged s site LifetimeStart types words w r = good_ranged site (word 1 words) (word 0 words) w (Does _) (record { placed = r.placed; origins = r.origins; pairs = r.pairs; answers = r.answers })
external_ranged s site LifetimeEnd types words w r = r
external_ranged s site LlvmTrap types words w r = tt
external_ranged s site LlvmAssume types words w r = ranged_if (eqb (word 0 words) 0) (Ends _ w) (Does w) tt r
external_ranged s site LlvmObjectSize types words w r = r
external_ranged s site PthreadCreate types words w r = ranged_if (leb fiber_limit (length w.threads + 1)) (Gives 11 w) _ r (good_ranged site (word 0 words) 8 w (Gives _ _) (record { placed = r.placed; origins = r.origins; pairs = r.pairs; answers = r.answers }))
external_ranged s site PthreadJoin types words w r =
    ranged_if (eqb (join_answer w.turn (word 0 words) w.threads) 0) _ (Gives _ w)
    (ranged_if (has_ended (thread_at (word 0 words) w.threads)) (joined site (word 0 words) (word 1 words) w) (Ends («end».Trap trap.Deadlock site) w)
    (ranged_if (eqb (word 1 words) 0) (Gives 0 _) _ (record { placed = r.placed; origins = r.origins; pairs = r.pairs; answers = r.answers }) (good_ranged site (word 1 words) 8 w (Gives 0 _) (record { placed = r.placed; origins = r.origins; pairs = r.pairs; answers = r.answers }))) tt)
    r
external_ranged s site SchedYield types words w r = r
external_ranged s site Printf types words w r = prints_ranged site (formatted w types words) w r
external_ranged s site (called.Word f n) types words w r = given_ranged site (word_answer f (bits_of n) (word 0 words) (word 1 words) (word 2 words)) w r

call_ranged : (s : Setting) (site : ℕ) (types : List Ty) (words : List ℕ) (w : World) → RangedWorld w → (o : Option ℕ) (e : Option External)
    → RangedEffect (elim o [ Some f ↦ Enters f w | None ↦ elim e [ Some x ↦ external s site x types words w | None ↦ Ends stuck w ] ])
call_ranged s site types words w r (Some f) e = r
call_ranged s site types words w r None None = tt
call_ranged s site types words w r None (Some e) = external_ranged s site e types words w r

filled_ranged : (s : Setting) (a n mask o site : ℕ) (w : World) → s.roots + pair_limit + 1 < 2 ^ 32 → RangedWorld w → o < 2 ^ 32 → RangedWorld (fill_planes s a n mask o site w)
filled_ranged s a n mask o site w many r lt = go (is_good w a n) (eqb (mask % 256) 0 || eqb n 0)
  where
    set : (z : Chained) → RangedWorld z.world → z.id < 2 ^ 32 → RangedWorld (set_cells a n z.id (set_shadow a n (λ k. mask % 256) z.world))
    set z q l = record { placed = q.placed; origins = cells_ranged z.world.origins a n z.id q.origins l; pairs = q.pairs; answers = q.answers }

    go : (b c : Bool) → RangedWorld (if not b then w else (if c then set_shadow a n (λ k. 0) w else (let z = chain s o site w in set_cells a n z.id (set_shadow a n (λ k. mask % 256) z.world))))
    go true true = record { placed = r.placed; origins = r.origins; pairs = r.pairs; answers = r.answers }
    go true false = let c = chained_ranged s o site w many r lt in set (chain s o site w) c.1 c.0
    go false c = r

copied_planes : (to from n : ℕ) (w : World) → RangedWorld w → RangedWorld (copy_planes to from n w)
copied_planes to from n w r = go (is_good w to n && is_good w from n)
  where
    go : (b : Bool) → RangedWorld (if b then copy_shadow to from n w else w)
    go true = copy_ranged to from n w r
    go false = r

cleaned_ranged : (a n : ℕ) (w : World) → RangedWorld w → RangedWorld (unpoison a n w)
cleaned_ranged a n w r = go (is_good w a n)
  where
    go : (b : Bool) → RangedWorld (if b then set_shadow a n (λ k. 0) w else w)
    go true = record { placed = r.placed; origins = r.origins; pairs = r.pairs; answers = r.answers }
    go false = r

answered_ranged : (s : Setting) (a id v site : ℕ) (w : World) → s.roots + pair_limit + 1 < 2 ^ 32 → RangedWorld w → RangedWorld (thread_result s a id v site w)
answered_ranged s a id v site w many r = go (eqb v 0 && not (eqb a 0) && is_good w a 8 && has_ended (thread_at id w.threads))
  where
    go : (b : Bool) → RangedWorld (if b then store_origin s a (w.answer_masks id) (w.answer_origins id) site (set_shadow a 8 (byte_of (w.answer_masks id)) w) else w)
    go true =
        stored_ranged s a (w.answer_masks id) (w.answer_origins id) site (set_shadow a 8 (byte_of (w.answer_masks id)) w) many
        (record { placed = r.placed; origins = r.origins; pairs = r.pairs; answers = r.answers }) (r.answers id)
    go false = r

outside_ranged : (s : Setting) (site root : ℕ) (e : External) (ps : List Poisoned) (before : World) (v : ℕ) (w : World) → s.roots + pair_limit + 1 < 2 ^ 32 → AreRanged ps → (makes_unset (Some e) ≡ true → root < 2 ^ 32) → RangedWorld w
    → RangedWorld (external_planes s site root e ps before v w)
outside_ranged s site root Malloc ps before v w many q lt r = poison_ranged v 0 (word_at 0 ps).value root w r (lt refl)
outside_ranged s site root Realloc ps before v w many q lt r = poison_ranged v (unwrap_or (heap_size before (word_at 0 ps).value) 0) (word_at 1 ps).value root w r (lt refl)
outside_ranged s site root LifetimeStart ps before v w many q lt r = poison_ranged (word_at 1 ps).value 0 (word_at 0 ps).value root w r (lt refl)
outside_ranged s site root Memcpy ps before v w many q lt r = copied_planes (word_at 0 ps).value (word_at 1 ps).value (word_at 2 ps).value w r
outside_ranged s site root Memmove ps before v w many q lt r = copied_planes (word_at 0 ps).value (word_at 1 ps).value (word_at 2 ps).value w r
outside_ranged s site root LlvmMemcpy ps before v w many q lt r = copied_planes (word_at 0 ps).value (word_at 1 ps).value (word_at 2 ps).value w r
outside_ranged s site root LlvmMemmove ps before v w many q lt r = copied_planes (word_at 0 ps).value (word_at 1 ps).value (word_at 2 ps).value w r
outside_ranged s site root Memset ps before v w many q lt r = filled_ranged s (word_at 0 ps).value (word_at 2 ps).value (word_at 1 ps).mask (word_at 1 ps).origin site w many r (at_ranged 1 ps q)
outside_ranged s site root LlvmMemset ps before v w many q lt r = filled_ranged s (word_at 0 ps).value (word_at 2 ps).value (word_at 1 ps).mask (word_at 1 ps).origin site w many r (at_ranged 1 ps q)
outside_ranged s site root Read ps before v w many q lt r = cleaned_ranged (word_at 1 ps).value v w r
outside_ranged s site root PthreadCreate ps before v w many q lt r = cleaned_ranged (word_at 0 ps).value (if eqb v 0 then 8 else 0) w r
outside_ranged s site root PthreadJoin ps before v w many q lt r = answered_ranged s (word_at 1 ps).value (word_at 0 ps).value v site w many r
outside_ranged s site root _ ps before v w many q lt r = r

callee_ranged : (s : Setting) (site root : ℕ) (e : Option External) (ps : List Poisoned) (before : World) (v : ℕ) (w : World) → s.roots + pair_limit + 1 < 2 ^ 32 → AreRanged ps → (makes_unset e ≡ true → root < 2 ^ 32) → RangedWorld w
    → RangedWorld (callee_planes s site root e ps before v w)
callee_ranged s site root None ps before v w many q lt r = r
callee_ranged s site root (Some e) ps before v w many q lt r = outside_ranged s site root e ps before v w many q lt r

act_ranged : (s : Setting) (h : Here) (x : Option Name) (o : Op) (words : List ℕ) (w : World) → IsBuilt s.func x o → RangedWorld w → RangedEffect (act s h o words w)
act_ranged s h x (op.Binary o flags t a b) words w k r = given_ranged h.site _ w r
act_ranged s h x (op.Icmp p flags t a b) words w k r = given_ranged h.site _ w r
act_ranged s h x (op.Cast o flags t a u) words w k r = given_ranged h.site _ w r
act_ranged s h x (op.Select c t a b) words w k r = r
act_ranged s h x (op.Freeze t a) words w k r = r
act_ranged s h x (op.Gep t a is) words w k r = r
act_ranged s h x (op.Alloca t u c) words w k r = alloca_ranged s h.site _ w r
act_ranged s h x (op.Load t a) words w k r = load_ranged h.site _ t w r
act_ranged s h x (op.Store t v a) words w k r = store_ranged h.site _ t _ w r
act_ranged s h x (op.Ret v) words w k r = ret_ranged h.main _ w r
act_ranged s h x (op.Br to) words w k r = r
act_ranged s h x (op.CondBr c to other) words w k r = r
act_ranged s h x (op.Switch t v other cases) words w k r = r
act_ranged s h x op.Unreachable words w k r = tt
act_ranged s h x (op.Call ret callee args) words w k r = call_ranged s h.site (map (λ a. a.0) args) words w r (s.func callee) (external_named s.func callee)
act_ranged s h x (op.Phi t es) words w k r = absurd k

select_ranged : (c x y : ℕ) → x < 2 ^ 32 → y < 2 ^ 32 → select_of c x y < 2 ^ 32
unfolding select_of
select_ranged zero x y p q = q
select_ranged (suc c) x y p q = p

-- the origin of its result, and its effect on memory
result_ranged : (s : Setting) (x : Option Name) (o : Op) (ps : List Poisoned) (mask : ℕ) (w : World) → IsBuilt s.func x o → AreRanged ps → RangedWorld w → result_origin o ps mask w < 2 ^ 32
result_ranged s x (op.Binary o flags t a b) ps mask w k q r = last_ranged ps (word_at 0 ps).origin q (at_ranged 0 ps q)
result_ranged s x (op.Icmp p flags t a b) ps mask w k q r = last_ranged ps (word_at 0 ps).origin q (at_ranged 0 ps q)
result_ranged s x (op.Cast o flags t a u) ps mask w k q r = at_ranged 0 ps q
result_ranged s x (op.Select c t a b) ps mask w k q r =
    select_ranged (word_at 0 ps).mask (word_at 0 ps).origin _ (at_ranged 0 ps q) (select_ranged (word_at 0 ps).value (word_at 1 ps).origin (word_at 2 ps).origin (at_ranged 1 ps q) (at_ranged 2 ps q))
result_ranged s x (op.Gep t a is) ps mask w k q r = last_ranged ps (word_at 0 ps).origin q (at_ranged 0 ps q)
result_ranged s x (op.Load t a) ps mask w k q r = found_ranged 8 (word_at 0 ps).value mask w r
result_ranged s x (op.Call ret callee args) ps mask w k q r = by_external (lookup externals callee)
  where
    by_external : (e : Option External) → answer_origin e ps < 2 ^ 32
    by_external None = omega arith
    by_external (Some (called.Word f n)) = last_ranged ps (word_at 0 ps).origin q (at_ranged 0 ps q)
    by_external (Some e) = omega arith
result_ranged s x _ ps mask w k q r = omega arith

planes_ranged : (s : Setting) (site root : ℕ) (x : Option Name) (o : Op) (ps : List Poisoned) (before : World) (v : ℕ) (w : World) → s.roots + pair_limit + 1 < 2 ^ 32 → IsBuilt s.func x o → AreRanged ps → (is_root s.func o ≡ true → root < 2 ^ 32) → RangedWorld w → RangedWorld (planes s site root o ps before v w)
planes_ranged s site root x (op.Alloca t u c) ps before v w many k q lt r = poison_ranged v 0 (size_in s.types t * (word_at 0 ps).value) root w r (lt refl)
planes_ranged s site root x (op.Store t y a) ps before v w many k q lt r =
    stored_ranged s (word_at 1 ps).value (word_at 0 ps).mask (word_at 0 ps).origin site
    (set_shadow (word_at 1 ps).value (stored_size t) (byte_of (word_at 0 ps).mask) w) many (record { placed = r.placed; origins = r.origins; pairs = r.pairs; answers = r.answers }) (at_ranged 0 ps q)
planes_ranged s site root x (op.Call ret callee args) ps before v w many k q lt r = callee_ranged s site root (external_named s.func callee) ps before v w many q lt r
planes_ranged s site root x _ ps before v w many k q lt r = r

values_put : (values : Name → Poisoned) (x : Name) (p : Poisoned) → RangedValues values → p.origin < 2 ^ 32 → RangedValues (with_value values x p)
values_put values x p r lt y = go (name_eq y x)
  where
    go : (b : Bool) → (if b then p else values y).origin < 2 ^ 32
    go true = lt
    go false = r y

-- a jump's phis
edge_ranged : (s : Setting) (values : Name → Poisoned) (t : Ty) (from : Name) (es : List (Operand × Name)) (n : ℕ) → RangedValues values → n + edge_roots es < 2 ^ 32 → (read_edge (read_poisoned s values) clean t from es n).origin < 2 ^ 32
edge_ranged s values t from [] n r lt = omega arith
edge_ranged s values t from (e ∷ es) n r lt = by_name (edge_ranged s values t from es (n + one_undef e.0) r (omega arith)) (name_eq e.1 from)
  where
    by_name : (read_edge (read_poisoned s values) clean t from es (n + one_undef e.0)).origin < 2 ^ 32 → (b : Bool) → (if b then read_poisoned s values n t e.0 else read_edge (read_poisoned s values) clean t from es (n + one_undef e.0)).origin < 2 ^ 32
    by_name h true = operand_ranged values n e.0 r (omega arith)
    by_name h false = h

phis_ranged : (s : Setting) (values : Name → Poisoned) (func : Name → Option ℕ) (from : Name) (is : List Inst) (n : ℕ) → RangedValues values → PhiRoots func is n → (v : Name → Poisoned) → RangedValues v
    → RangedValues (phis (read_poisoned s values) clean func from is n v)
phis_ranged s values func from [] n r roots v rv = rv
phis_ranged s values func from (i ∷ is) n r roots v rv = by_op i.op i.result i.marked roots.0 (λ v2 rv2. phis_ranged s values func from is (n + roots_in func i) r roots.1 v2 rv2)
  where
    by_op : (o : Op) (x : Option Name) (b : Bool) → PhiRoot n o
        → ((v2 : Name → Poisoned) → RangedValues v2 → RangedValues (phis (read_poisoned s values) clean func from is (n + roots_in func (record { op = o; result = x; marked = b })) v2))
        → RangedValues (phis (read_poisoned s values) clean func from (record { op = o; result = x; marked = b } ∷ is) n v)
    by_op (op.Phi t es) x b lt go = go _ (values_put v (unwrap_or x (Number 0)) (read_edge (read_poisoned s values) clean t from es n) rv (edge_ranged s values t from es n r lt))
    by_op _ x b lt go = rv

-- ---- a step

put_ranged : (f : Frame Poisoned) (x : Option Name) (p : Poisoned) → RangedValues f.values → p.origin < 2 ^ 32 → RangedValues (put f x p).values
put_ranged f None p r lt = r
put_ranged f (Some x) p r lt = values_put f.values x p r lt

more_is : {c c' : ShadowState} → More c ≡ More c' → c ≡ c'
more_is {c} {c'} e = ap state e
  where
    state : Stepped ShadowState → ShadowState
    state (More z) = z
    state (Stop x w) = c

get_ranged : (ps : List Poisoned) → AreRanged ps → (get_or ps 0 clean).origin < 2 ^ 32
get_ranged [] q = omega arith
get_ranged (p ∷ ps) q = q.0

kept_placed : (mark : ℕ) (l : List Allocation) → ArePlaced l → ArePlaced (filter (keeps mark) l)
kept_placed mark [] h = tt
kept_placed mark (a ∷ l) h = by_test (keeps mark a) (kept_placed mark l h.1)
  where
    by_test : (b : Bool) → ArePlaced (filter (keeps mark) l) → ArePlaced (cond b (a ∷ filter (keeps mark) l) (filter (keeps mark) l))
    by_test true k = (h.0, k)
    by_test false k = k

all_ended_ranged : (ps : List ℕ) (w : World) → RangedWorld w → RangedWorld (end_blocks ps w)
all_ended_ranged [] w r = r
all_ended_ranged (p ∷ ps) w r = all_ended_ranged ps (end_block p w) (ended_ranged p w r)

-- what a return takes back
pub given_back_ranged : (f : Frame Poisoned) (w : World) → RangedWorld w → RangedWorld (given_back f w)
given_back_ranged f w r = all_ended_ranged f.heap (if eqb f.mark 0 then w else release f.mark w) (by_mark (eqb f.mark 0))
  where
    by_mark : (t : Bool) → RangedWorld (if t then w else release f.mark w)
    by_mark true = r
    by_mark false = record { placed = kept_placed f.mark w.allocs r.placed; origins = r.origins; pairs = r.pairs; answers = r.answers }

-- what a built instruction comes to
outcome_ranged : (s : Setting) (m : Module) (h : Here) (i : Inst) (ps : List Poisoned) (f : Frame Poisoned) (below : List (Frame Poisoned)) (w : World) (e : Effect) → s.roots + pair_limit + 1 < 2 ^ 32
    → IsBuilt s.func i.result i.op → AreRanged ps → (is_root s.func i.op ≡ true → h.root + count_undefs (operands i.op) + 1 < 2 ^ 32)
    → RangedValues f.values → RangedFrames below → RangedEffect e → ((b : ℕ) → PhiRoots s.func (insts_at m f.func b) (root_at s.func m f.func b 0))
    → (c : ShadowState)
    → shadow_moved (after_effect shadow_reading s m h.site i.result ps (poisoned_result by_formulas i.op ps)
    (planes s h.site (h.root + count_undefs (operands i.op) + 1) i.op ps w) f below e) ≡ More c
    → Ranged c
outcome_ranged s m h i ps f below w (Gives v z) many k q lt rv rf r pr c e = subst Ranged (more_is e) (record {
  frames = (put_ranged f i.result _ rv (result_ranged s i.result i.op ps _ z k q r), rf);
  world = planes_ranged s h.site _ i.result i.op ps w v z many k q lt r;
})
outcome_ranged s m h i ps f below w (Does z) many k q lt rv rf r pr c e = subst Ranged (more_is e) (record {
  frames = (rv, rf);
  world = planes_ranged s h.site _ i.result i.op ps w 0 z many k q lt r;
})
outcome_ranged s m h i ps f below w (Goes x z) many k q lt rv rf r pr c e = subst Ranged (more_is e) (record {
  frames = (phis_ranged s f.values s.func (block_name m f.func f.block) (insts_at m f.func (block_index (blocks_at m f.func) x)) (root_at s.func m f.func (block_index (blocks_at m f.func) x) 0) rv (pr (block_index (blocks_at m f.func) x)) f.values rv, rf);
  world = r;
})
outcome_ranged s m h i ps f below w (Enters x z) many k q lt rv rf r pr c e = by_depth (leb frame_limit (length below + 1)) e
  where
    bound : (params : List (Ty × Name)) (ps : List Poisoned) → AreRanged ps → RangedValues (bind clean params ps)
    bound [] ps q y = omega arith
    bound (p ∷ params) [] q y = omega arith
    bound (p ∷ params) (v ∷ ps) q y = values_put (bind clean params ps) p.1 v (bound params ps q.1) q.0 y

    by_depth : (b : Bool) → shadow_moved (if b then Over («end».Trap trap.Depth h.site) z else On (entered shadow_reading m x ps z ∷ f ∷ below) z) ≡ More c → Ranged c
    by_depth true e = absurd (grind arith)
    by_depth false e = subst Ranged (more_is e) (record { frames = (bound (params_at m x) ps q, (rv, rf)); world = r })
outcome_ranged s m h i ps f below w (Leaves z) many k q lt rv rf r pr c e = by_below below rf e
  where
    by_below : (below : List (Frame Poisoned)) → RangedFrames below → shadow_moved (left shadow_reading m ps f below z) ≡ More c → Ranged c
    by_below [] rf e = absurd (grind arith)
    by_below (caller ∷ below) rf e = subst Ranged (more_is e) (record {
      frames = (put_ranged caller (result_at m caller) (get_or ps 0 clean) rf.0 (get_ranged ps q), rf.1);
      world = given_back_ranged f z r;
    })
outcome_ranged s m h i ps f below w (Ends x z) many k q lt rv rf r pr c e = grind arith

stops : {e : End} {w : World} {c : ShadowState} → Stop e w ≡ More c → ⊥
stops e = grind arith

-- the number of roots of an unmarked instruction
own_root : (func : Name → Option ℕ) (i : Inst) (root : ℕ) → i.marked ≡ false → root + roots_in func i < 2 ^ 32 → is_root func i.op ≡ true → root + count_undefs (operands i.op) + 1 < 2 ^ 32
own_root func i root u lt e = by_mark i.marked u lt (one (is_root func i.op) e)
  where
    one : (b : Bool) → b ≡ true → ◌≡◌ {A = ℕ} (if b then 1 else 0) 1
    one true e = refl
    one false e = grind arith

    by_mark : (b : Bool) → b ≡ false → root + (if b then 0 else count_undefs (operands i.op) + (if is_root func i.op then 1 else 0)) < 2 ^ 32 → ◌≡◌ {A = ℕ} (if is_root func i.op then 1 else 0) 1 → root + count_undefs (operands i.op) + 1 < 2 ^ 32
    by_mark true u lt o = grind arith
    by_mark false u lt o = omega (arith, lt, o)

pub undefs_fit : (func : Name → Option ℕ) (i : Inst) (root : ℕ) → i.marked ≡ false → root + roots_in func i < 2 ^ 32 → root + count_undefs (operands i.op) < 2 ^ 32
undefs_fit func i root u lt = by_mark i.marked u lt
  where
    by_mark : (b : Bool) → b ≡ false → root + (if b then 0 else count_undefs (operands i.op) + (if is_root func i.op then 1 else 0)) < 2 ^ 32 → root + count_undefs (operands i.op) < 2 ^ 32
    by_mark true u lt = grind arith
    by_mark false u lt = omega (arith, lt)

-- an instruction whose checks are done
pub performed_ranged : (s : Setting) (m : Module) (env : Env) (size : ℕ) (i : Inst) (f : Frame Poisoned) (below : List (Frame Poisoned)) (z : World) → s.roots + pair_limit + 1 < 2 ^ 32
    → KnownInst s.func env size i → RangedHere s (here s m f) i → ((b : ℕ) → PhiRoots s.func (insts_at m f.func b) (root_at s.func m f.func b 0)) → RangedValues f.values → RangedFrames below → RangedWorld z
    → (c : ShadowState)
    → shadow_moved (after_checks by_formulas s m i (here s m f) (read_all (read_poisoned s f.values) (operands i.op) (here s m f).root) f below (Does z)) ≡ More c → Ranged c
performed_ranged s m env size i f below z many k rh pr rv rf r c e =
    let ps = read_all (read_poisoned s f.values) (operands i.op) (here s m f).root in
    let u = count_blind (union (map (λ p. p.mask) (blinded s.func i.op ps))) z in
    let rz : RangedWorld u = ranged_left z u (counted _ z) r in
    let x = act s (here s m f) i.op (map (λ p. p.value) ps) u in
    outcome_ranged s m (here s m f) i ps (keeping i.op x f) below u x many k.built
    (words_ranged s f.values (operands i.op) (here s m f).root rv (undefs_fit s.func i (here s m f).root k.unmarked rh.root))
    (own_root s.func i (here s m f).root k.unmarked rh.root) rv rf
    (act_ranged s (here s m f) i.result i.op _ u k.built rz) pr c e

inst_ranged : (s : Setting) (m : Module) (env : Env) (size : ℕ) (i : Inst) (f : Frame Poisoned) (below : List (Frame Poisoned)) (w : World) → s.roots + pair_limit + 1 < 2 ^ 32
    → KnownInst s.func env size i → RangedHere s (here s m f) i → ((b : ℕ) → PhiRoots s.func (insts_at m f.func b) (root_at s.func m f.func b 0)) → RangedValues f.values → RangedFrames below → RangedWorld w
    → (c : ShadowState) → shadow_moved (shadow_inst by_formulas s m i f below w) ≡ More c → Ranged c
inst_ranged s m env size i f below w many k rh pr rv rf r c e = by_checks (check_uses s h.site (operands i.op) ps (uses s.func h.main i.op) w) (uses_quiet s h.site (operands i.op) ps (uses s.func h.main i.op) w) e
  where
    h : Here
    h = here s m f

    ps : List Poisoned
    ps = read_all (read_poisoned s f.values) (operands i.op) (here s m f).root

    by_checks : (x : Effect) → Quiet w x → shadow_moved (after_checks by_formulas s m i (here s m f) (read_all (read_poisoned s f.values) (operands i.op) (here s m f).root) f below x) ≡ More c → Ranged c
    by_checks (Does z) q e = performed_ranged s m env size i f below z many k rh pr rv rf (ranged_left w z q r) c e
    by_checks (Ends x z) q e = absurd (stops e)
    by_checks (Gives v z) q e = absurd (stops e)
    by_checks (Goes x z) q e = absurd (stops e)
    by_checks (Enters x z) q e = absurd (stops e)
    by_checks (Leaves z) q e = absurd (stops e)

-- a phi that is met in its turn ends the run
pub phi_shadow : (s : Setting) (m : Module) (o : Op) (x : Option Name) (b : Bool) (f : Frame Poisoned) (below : List (Frame Poisoned)) (w : World) → is_phi o ≡ true
    → shadow_moved (shadow_inst by_formulas s m (record { op = o; result = x; marked = b }) f below w) ≡ Stop stuck w
phi_shadow s m (op.Phi t es) x b f below w e = refl
phi_shadow s m _ x b f below w e = absurd (grind arith)

pub ranged_kept : (s : Setting) (numbers : ℕ → Numbering) (m : Module) → KnownModule s numbers m
    → (c c' : ShadowState) → Ranged c → shadow_step by_formulas s m c ≡ More c' → Ranged c'
ranged_kept s numbers m known c c' r e = by_frames c.frames r.frames e
  where
    by_phi : (f : Frame Poisoned) (below : List (Frame Poisoned)) → RangedFrames (f ∷ below) → (i : Inst) (is : List Inst) → rest_of m f ≡ i ∷ is → (b : Bool) → is_phi i.op ≡ b
        → shadow_moved (shadow_inst by_formulas s m i f below c.world) ≡ More c' → Ranged c'
    by_phi f below rf i is p false q e =
        inst_ranged s m (numbers f.func).env (numbers f.func).size i f below c.world known.many (known.known f i is p q) (known.ranged f i is p) (known.roots f.func) rf.0 rf.1 r.world c' e
    by_phi f below rf i is p true q e = absurd (stops (sym (phi_shadow s m i.op i.result i.marked f below c.world q) ∙ e))

    by_rest : (f : Frame Poisoned) (below : List (Frame Poisoned)) → RangedFrames (f ∷ below) → (l : List Inst) → rest_of m f ≡ l → shadow_moved (shadow_first by_formulas s m l f below c.world) ≡ More c' → Ranged c'
    by_rest f below rf [] p e = absurd (stops e)
    by_rest f below rf (i ∷ is) p e = by_phi f below rf i is p (is_phi i.op) refl e

    by_frames : (fs : List (Frame Poisoned)) → RangedFrames fs → shadow_moved (shadow_frames by_formulas s m fs c.world) ≡ More c' → Ranged c'
    by_frames [] rf e = absurd (stops e)
    by_frames (f ∷ below) rf e = by_rest f below rf (rest_of m f) refl e

-- the world in which an instruction runs whose checks passed
pub checks_ranged : (s : Setting) (site : ℕ) (os : List (Ty × Operand)) (ps : List Poisoned) (us : List CheckedUse) (mask : ℕ) (w z : World)
    → check_uses s site os ps us w ≡ Does z → RangedWorld w → RangedWorld (count_blind mask z)
checks_ranged s site os ps us mask w z e r =
    ranged_left z (count_blind mask z) (counted mask z) (ranged_left w z (subst (Quiet w) e (uses_quiet s site os ps us w)) r)
