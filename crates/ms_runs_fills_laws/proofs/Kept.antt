-- What instructions leave of a world: the number of blind uses, and heap blocks in their places.
use Rattle.std.proofs.Common.{◌≡◌, ℕ, zero, suc, ◌+◌, ◌-◌, ◌*◌, ◌/◌, ◌%◌, ◌^◌, ◌≤◌, min, List, [], ◌∷◌, ◌++◌, map, filter, length, get_or, All, Bool, true, false, not, ◌&&◌, ◌||◌, eqb, leb, ltb, Option, Some, None, unwrap_or, is_some, Result, Ok, Err, refl, sym, ap, ◌∙◌, subst, arith, append_assoc, if◌then◌else◌}
use Rattle.std.proofs.lemmas.List.Elements.{All-push, All-map, All-filter}
use Rattle.ms_bits.specs.declared.traps.Trap.{Trap}
use Rattle.ms_bits.specs.declared.traps.Trap.TheVariants as trap
use Rattle.ms_bits.specs.Maps.{byte_of, bytes_at, with_cell, first_nonzero}
use Rattle.ms_ir.specs.declared.syntax.Name.{Name}
use Rattle.ms_ir.specs.declared.syntax.Ty.{Ty}
use Rattle.ms_ir.specs.declared.syntax.Operand.{Operand}
use Rattle.ms_ir.specs.declared.syntax.Op.{Op}
use Rattle.ms_ir.specs.declared.syntax.Op.TheVariants as op
use Rattle.ms_runs.specs.declared.runs.Report.{Report}
use Rattle.ms_ir.specs.declared.calls.External.{External}
use Rattle.ms_ir.specs.declared.calls.External.TheVariants.{Malloc, Calloc, Realloc, Free, Memcpy, Memmove, Memset, Memcmp, Strlen, Putchar, Puts, Getchar, Read, Write, Exit, Abort, LlvmMemcpy, LlvmMemmove, LlvmMemset, LifetimeStart, LifetimeEnd, Printf, LlvmTrap, LlvmAssume, LlvmObjectSize, PthreadCreate, PthreadJoin, SchedYield}
use Rattle.ms_ir.specs.declared.calls.External.TheVariants as called
use Rattle.ms_ir.specs.declared.syntax.Init.{Init, Row_of-Init-Array-0-2, end_of-Init-Array-0-2, more_of-Init-Array-0-2}
use Rattle.ms_ir.specs.declared.syntax.Init as initial
use Rattle.ms_ir.specs.declared.syntax.GlobalVar.{GlobalVar}
use Rattle.ms_ir.specs.Names.{is_reserved}
use Rattle.ms_runs.specs.Globals.{write_init, write_items, write_fields, make_globals}
use Rattle.ms_ir.specs.Layout.{Types, Extent, extent, stored_size, size_in, align_in, round_up, place_field, width_of}
use Rattle.ms_ir.specs.Areas.{Area, Fixed, Heap, Stack}
use Rattle.ms_runs.specs.World.{Allocation, World, Setting, Here, Effect, Gives, Does, Goes, Enters, Leaves, Ends, traps, stuck, word, then_does, gives}
use Rattle.ms_ir.specs.Areas.{area_eq, area_base, room}
use Rattle.ms_runs.specs.Memory.{used, fits, next_base, is_good, is_heap_block, heap_size, local_area, end_block, end_blocks, set_shadow, copy_bytes, copy_shadow, make, make_unset, keeps}
use Rattle.ms_bits.specs.WordFunctions.{bits_of, word_answer}
use Rattle.ms_ir.specs.Instructions.{external_named}
use Rattle.ms_runs.specs.Origins.{Chained, keeps_old, pair_index, chain, is_hidden, add_report, check, check_byte, first_in_string, poison, unpoison, copy_planes, fill_planes, mark_cells, store_origin, asks_string_at}
use Rattle.ms_runs.specs.Memory.{bytes_left}
use Rattle.ms_runs.specs.Externals.{malloc, reallocated, realloc, where_good, string_at, printed, next_byte, external, output_limit, formatted, prints}
use Rattle.ms_runs.specs.Act.{act}
use Rattle.ms_runs.specs.Control.{Frame, release, given_back}
use Rattle.ms_runs.specs.Poisoned.{Poisoned}
use Rattle.ms_runs.specs.Masks.{word_at}
use Rattle.ms_runs.specs.Uses.{CheckedUse, Word, Bytes, Line, type_at, check_use, check_uses, Asked}
use Rattle.ms_runs.specs.Shadow.{external_planes, callee_planes, planes}
use Rattle.ms_runs.specs.Threads.{fiber_limit, thread_at, has_ended, join_answer}
use Rattle.ms_runs_fills_laws.specs.Placed.{IsPlaced, HeapPlaced}
use Rattle.ms_runs_good_laws.proofs.Rooms.{used_ended, used_kept}

-- what an instruction leaves of a world: the number of blind uses, the reports, and heap blocks in their places
pub record Keeps (w u : World) : Type 0 where
  pub blind : u.blind ≡ w.blind
  pub reports : u.reports ≡ w.reports
  pub placed : HeapPlaced w → HeapPlaced u

-- the reports of a world begin with some
abbrev pub StartsWith : List Report → World → Type 0
StartsWith l w = (rest : List Report) × (w.reports ≡ l ++ rest)

-- the first report of a world
abbrev pub FirstIs : Report → World → Type 0
FirstIs r w = StartsWith (r ∷ []) w

-- what checks leave of a world: the number of blind uses, the first report, and heap blocks in their places
pub record Checks (w u : World) : Type 0 where
  pub blind : u.blind ≡ w.blind
  pub leads : (l : List Report) → StartsWith l w → StartsWith l u
  pub placed : HeapPlaced w → HeapPlaced u

-- what an instruction leaves of the world of its effect
abbrev pub KeepsAfter : World → Effect → Type 0
KeepsAfter w (Gives v u) = Keeps w u
KeepsAfter w (Does u) = Keeps w u
KeepsAfter w (Goes to u) = Keeps w u
KeepsAfter w (Enters f u) = Keeps w u
KeepsAfter w (Leaves u) = Keeps w u
KeepsAfter w (Ends e u) = Keeps w u

-- what checks leave of the world of an effect
abbrev pub ChecksAfter : World → Effect → Type 0
ChecksAfter w (Gives v u) = Checks w u
ChecksAfter w (Does u) = Checks w u
ChecksAfter w (Goes to u) = Checks w u
ChecksAfter w (Enters f u) = Checks w u
ChecksAfter w (Leaves u) = Checks w u
ChecksAfter w (Ends e u) = Checks w u

-- ---- worlds with the same allocations

-- heap blocks end where the next one would begin or before
abbrev PlacedIn : List Allocation → Type 0
PlacedIn xs = All (IsPlaced (area_base Heap + used Heap xs)) xs

pub same_kept : (w u : World) → u.allocs ≡ w.allocs → u.blind ≡ w.blind → u.reports ≡ w.reports → Keeps w u
same_kept w u e f g = record { blind = f; reports = g; placed = λ h. subst PlacedIn (sym e) h }

itself : (w : World) → Keeps w w
itself w = same_kept w w refl refl refl

pub then_kept : (w u v : World) → Keeps w u → Keeps u v → Keeps w v
then_kept w u v h g = record { blind = g.blind ∙ h.blind; reports = g.reports ∙ h.reports; placed = λ k. g.placed (h.placed k) }

either_kept : (t : Bool) (w u v : World) → Keeps w u → Keeps w v → Keeps w (if t then u else v)
either_kept true w u v h g = h
either_kept false w u v h g = g

either_after : (t : Bool) (w : World) (e x : Effect) → KeepsAfter w e → KeepsAfter w x → KeepsAfter w (if t then e else x)
either_after true w e x h g = h
either_after false w e x h g = g

-- ---- allocations

used_push : (xs : List Allocation) (a : Allocation) → used Heap (xs ++ a ∷ []) ≡ used Heap xs + (if area_eq Heap a.area then room a.size else 0)
used_push [] a = omega arith
used_push (x ∷ xs) a = omega (arith, used_push xs a)

raised : (top more : ℕ) → top ≤ more → (xs : List Allocation) → All (IsPlaced top) xs → All (IsPlaced more) xs
raised top more l xs h k d g e = let r = h k d g e in (r.0, omega (arith, r.1, l))

make_kept : (area : Area) (n : ℕ) (w : World) → Keeps w (make area n w)
make_kept area n w = record {
  blind = refl;
  reports = refl;
  placed = λ h. All-push (IsPlaced (area_base Heap + used Heap (w.allocs ++ new ∷ []))) w.allocs new (raised (next_base Heap w) (area_base Heap + used Heap (w.allocs ++ new ∷ [])) grows w.allocs h) (new_placed area);
}
  where
    new : Allocation
    new = record { base = next_base area w; size = n; area = area; live = true }

    grows : next_base Heap w ≤ area_base Heap + used Heap (w.allocs ++ (record { base = next_base area w; size = n; area = area; live = true }) ∷ [])
    grows = omega (arith, used_push w.allocs (record { base = next_base area w; size = n; area = area; live = true }))

    new_placed : (a : Area) → IsPlaced (area_base Heap + used Heap (w.allocs ++ (record { base = next_base a w; size = n; area = a; live = true }) ∷ [])) (record { base = next_base a w; size = n; area = a; live = true })
    new_placed Fixed e = grind arith
    new_placed Stack e = grind arith
    new_placed Heap e = (omega arith, omega (arith, used_push w.allocs (record { base = next_base Heap w; size = n; area = Heap; live = true })))

make_unset_kept : (fill : List ℕ) (area : Area) (n : ℕ) (w : World) → Keeps w (make_unset fill area n w)
make_unset_kept fill area n w = then_kept w (make area n w) (make_unset fill area n w) (make_kept area n w) (same_kept _ _ refl refl refl)

end_kept : (p : ℕ) (w : World) → Keeps w (end_block p w)
end_kept p w = record {
  blind = refl;
  reports = refl;
  placed = λ h. subst (λ top. All (IsPlaced (area_base Heap + top)) (map (λ a. if is_heap_block p a then record a { live = false } else a) w.allocs)) (sym (used_ended p w.allocs))
      (All-map (IsPlaced (next_base Heap w)) (λ a. if is_heap_block p a then record a { live = false } else a) w.allocs (λ k d l. one (is_heap_block p (get_or w.allocs k d)) (get_or w.allocs k d) (h k d l)));
}
  where
    one : (t : Bool) (a : Allocation) → IsPlaced (next_base Heap w) a → IsPlaced (next_base Heap w) (if t then record a { live = false } else a)
    one true a h = h
    one false a h = h

pub release_kept : (mark : ℕ) (w : World) → Keeps w (release mark w)
release_kept mark w = record {
  blind = refl;
  reports = refl;
  placed = λ h. subst (λ top. All (IsPlaced (area_base Heap + top)) (filter (keeps mark) w.allocs)) (sym (used_kept mark w.allocs)) (All-filter (keeps mark) (IsPlaced (next_base Heap w)) w.allocs h);
}

ends_kept : (ps : List ℕ) (w : World) → Keeps w (end_blocks ps w)
ends_kept [] w = itself w
ends_kept (p ∷ ps) w = then_kept w (end_block p w) _ (end_kept p w) (ends_kept ps (end_block p w))

-- what a return takes back
pub given_back_kept : {V : Type 0} (frame : Frame V) (w : World) → Keeps w (given_back frame w)
given_back_kept frame w =
    then_kept w (if eqb frame.mark 0 then w else release frame.mark w) _ (either_kept (eqb frame.mark 0) w _ _ (itself w) (release_kept frame.mark w))
    (ends_kept frame.heap (if eqb frame.mark 0 then w else release frame.mark w))

-- ---- shadow and origins

poison_kept : (a from to origin : ℕ) (w : World) → Keeps w (poison a from to origin w)
poison_kept a from to origin w = either_kept (ltb from to && is_good w ((a + from) % 2 ^ 64) (to - from)) w _ _ (same_kept _ _ refl refl refl) (itself w)

unpoison_kept : (a n : ℕ) (w : World) → Keeps w (unpoison a n w)
unpoison_kept a n w = either_kept (is_good w a n) w _ _ (same_kept _ _ refl refl refl) (itself w)

copy_kept : (to from n : ℕ) (w : World) → Keeps w (copy_planes to from n w)
copy_kept to from n w = either_kept (is_good w to n && is_good w from n) w _ _ (same_kept _ _ refl refl refl) (itself w)

chain_kept : (s : Setting) (old site : ℕ) (w : World) → Keeps w (chain s old site w).world
chain_kept s old site w = by_test (keeps_old s w old) (pair_index w.pairs old site)
  where
    by_test : (t : Bool) (o : Option ℕ)
        → Keeps w
        (let c : Chained = (if t then (record { id = old; world = w }) else
        elim o [
          | Some k ↦ record { id = s.roots + 1 + k; world = w }
          | None ↦ record { id = s.roots + 1 + length w.pairs; world = record w { pairs = w.pairs ++ (old, site) ∷ [] } }
        ]) in c.world)
    by_test true o = itself w
    by_test false (Some k) = itself w
    by_test false None = same_kept _ _ refl refl refl

fill_kept : (s : Setting) (a n mask origin site : ℕ) (w : World) → Keeps w (fill_planes s a n mask origin site w)
fill_kept s a n mask origin site w =
    either_kept (not (is_good w a n)) w _ _ (itself w)
    (either_kept (eqb (mask % 256) 0 || eqb n 0) w _ _ (same_kept _ _ refl refl refl)
    (then_kept w (chain s origin site w).world _ (chain_kept s origin site w) (same_kept _ _ refl refl refl)))

mark_kept : (n a mask origin : ℕ) (w : World) → Keeps w (mark_cells n a mask origin w)
mark_kept zero a mask origin w = itself w
mark_kept (suc n) a mask origin w =
    then_kept w (if eqb (mask % 256) 0 || not (is_good w a 1) then w else record w { origins = with_cell w.origins a origin }) _
    (either_kept (eqb (mask % 256) 0 || not (is_good w a 1)) w _ _ (itself w) (same_kept _ _ refl refl refl)) (mark_kept n (a + 1) (mask / 256) origin _)

store_kept : (s : Setting) (a mask origin site : ℕ) (w : World) → Keeps w (store_origin s a mask origin site w)
store_kept s a mask origin site w =
    either_kept (eqb mask 0) w _ _ (itself w) (then_kept w (chain s origin site w).world _ (chain_kept s origin site w) (mark_kept 8 a mask (chain s origin site w).id (chain s origin site w).world))

external_planes_kept : (s : Setting) (site root : ℕ) (e : External) (ps : List Poisoned) (before : World) (v : ℕ) (w : World) → Keeps w (external_planes s site root e ps before v w)
external_planes_kept s site root Malloc ps before v w = poison_kept v 0 (word_at 0 ps).value root w
external_planes_kept s site root Realloc ps before v w = poison_kept v (unwrap_or (heap_size before (word_at 0 ps).value) 0) (word_at 1 ps).value root w
external_planes_kept s site root Memcpy ps before v w = copy_kept (word_at 0 ps).value (word_at 1 ps).value (word_at 2 ps).value w
external_planes_kept s site root Memmove ps before v w = copy_kept (word_at 0 ps).value (word_at 1 ps).value (word_at 2 ps).value w
external_planes_kept s site root Memset ps before v w = fill_kept s (word_at 0 ps).value (word_at 2 ps).value (word_at 1 ps).mask (word_at 1 ps).origin site w
external_planes_kept s site root Read ps before v w = unpoison_kept (word_at 1 ps).value v w
external_planes_kept s site root LlvmMemcpy ps before v w = copy_kept (word_at 0 ps).value (word_at 1 ps).value (word_at 2 ps).value w
external_planes_kept s site root LlvmMemmove ps before v w = copy_kept (word_at 0 ps).value (word_at 1 ps).value (word_at 2 ps).value w
external_planes_kept s site root LlvmMemset ps before v w = fill_kept s (word_at 0 ps).value (word_at 2 ps).value (word_at 1 ps).mask (word_at 1 ps).origin site w
external_planes_kept s site root LifetimeStart ps before v w = poison_kept (word_at 1 ps).value 0 (word_at 0 ps).value root w
external_planes_kept s site root PthreadCreate ps before v w = unpoison_kept (word_at 0 ps).value (if eqb v 0 then 8 else 0) w
external_planes_kept s site root PthreadJoin ps before v w =
    let a = (word_at 1 ps).value in let id = (word_at 0 ps).value in let mask = w.answer_masks id in
    either_kept (eqb v 0 && not (eqb a 0) && is_good w a 8 && has_ended (thread_at id w.threads)) w _ _
    (then_kept w (set_shadow a 8 (byte_of mask) w) _ (same_kept _ _ refl refl refl) (store_kept s a mask (w.answer_origins id) site _)) (itself w)
external_planes_kept s site root e ps before v w = itself w

callee_planes_kept : (s : Setting) (site root : ℕ) (o : Option External) (ps : List Poisoned) (before : World) (v : ℕ) (w : World) → Keeps w (callee_planes s site root o ps before v w)
callee_planes_kept s site root None ps before v w = itself w
callee_planes_kept s site root (Some e) ps before v w = external_planes_kept s site root e ps before v w

pub planes_kept : (s : Setting) (site root : ℕ) (o : Op) (ps : List Poisoned) (before : World) (v : ℕ) (w : World) → Keeps w (planes s site root o ps before v w)
planes_kept s site root (op.Alloca t u c) ps before v w = poison_kept v 0 (size_in s.types t * (word_at 0 ps).value) root w
planes_kept s site root (op.Store t x a) ps before v w = then_kept w (set_shadow (word_at 1 ps).value (stored_size t) (byte_of (word_at 0 ps).mask) w) _ (same_kept _ _ refl refl refl) (store_kept s (word_at 1 ps).value (word_at 0 ps).mask (word_at 0 ps).origin site _)
planes_kept s site root (op.Call r x args) ps before v w = callee_planes_kept s site root (external_named s.func x) ps before v w
planes_kept s site root o ps before v w = itself w

-- ---- instructions

gives_kept : (site : ℕ) (r : Result ℕ Trap) (w : World) → KeepsAfter w (gives site r w)
gives_kept site (Ok v) w = itself w
gives_kept site (Err t) w = itself w

malloc_kept : (fill : List ℕ) (n : ℕ) (w : World) → KeepsAfter w (malloc fill n w)
malloc_kept fill n w = either_after (fits Heap n w) w _ _ (make_unset_kept fill Heap n w) (itself w)

reallocated_kept : (fill : List ℕ) (p old n : ℕ) (w : World) → KeepsAfter w (reallocated fill p old n w)
reallocated_kept fill p old n w =
    either_after (fits Heap n w) w _ _
    (then_kept w (copy_shadow (next_base Heap w) p (min old n) (copy_bytes (next_base Heap w) p (min old n) (make_unset fill Heap n w))) _
    (then_kept w (make_unset fill Heap n w) _ (make_unset_kept fill Heap n w) (same_kept _ _ refl refl refl)) (end_kept p _)) (itself w)

realloc_kept : (fill : List ℕ) (site p n : ℕ) (w : World) → KeepsAfter w (realloc fill site p n w)
realloc_kept fill site p n w = either_after (eqb p 0) w _ _ (malloc_kept fill n w) (by_size (heap_size w p))
  where
    by_size : (o : Option ℕ) → KeepsAfter w (elim o [ Some old ↦ reallocated fill p old n w | None ↦ traps trap.BadFree site w ])
    by_size (Some old) = reallocated_kept fill p old n w
    by_size None = itself w

string_kept : (w : World) (o : Option (List ℕ)) (f : List ℕ → Effect) (site : ℕ) → ((bs : List ℕ) → KeepsAfter w (f bs)) → KeepsAfter w (elim o [ Some bs ↦ f bs | None ↦ traps trap.BadAddress site w ])
string_kept w (Some bs) f site h = h bs
string_kept w None f site h = itself w

printed_kept : (site : ℕ) (bs : List ℕ) (v : ℕ) (w : World) → KeepsAfter w (printed site bs (Gives v) w)
printed_kept site bs v w = either_after (leb (length w.output + length bs) output_limit) w _ _ (same_kept _ _ refl refl refl) (itself w)

next_kept : (bs : List ℕ) (w : World) → KeepsAfter w (next_byte bs w)
next_kept [] w = itself w
next_kept (b ∷ bs) w = same_kept _ _ refl refl refl

good_kept : (site a n : ℕ) (w : World) (e : Effect) → KeepsAfter w e → KeepsAfter w (where_good site a n w e)
good_kept site a n w e h = either_after (is_good w a n) w _ _ h (itself w)

prints_kept : (site : ℕ) (r : Result (List ℕ) Trap) (w : World) → KeepsAfter w (prints site r w)
prints_kept site (Ok bs) w = printed_kept site bs (length bs) w
prints_kept site (Err t) w = itself w

pub external_kept : (s : Setting) (site : ℕ) (e : External) (ts : List Ty) (vs : List ℕ) (w : World) → KeepsAfter w (external s site e ts vs w)
external_kept s site Malloc ts vs w = malloc_kept s.fill (word 0 vs) w
external_kept s site Calloc ts vs w = either_after (ltb (word 0 vs * word 1 vs) (2 ^ 64) && fits Heap (word 0 vs * word 1 vs) w) w _ _ (make_kept Heap (word 0 vs * word 1 vs) w) (itself w)
external_kept s site Realloc ts vs w = realloc_kept s.fill site (word 0 vs) (word 1 vs) w
external_kept s site Free ts vs w = either_after (eqb (word 0 vs) 0) w _ _ (itself w) (either_after (is_some (heap_size w (word 0 vs))) w _ _ (end_kept (word 0 vs) w) (itself w))
external_kept s site Memcpy ts vs w = good_kept site (word 0 vs) (word 2 vs) w _ (good_kept site (word 1 vs) (word 2 vs) w _ (same_kept _ _ refl refl refl))
external_kept s site Memmove ts vs w = good_kept site (word 0 vs) (word 2 vs) w _ (good_kept site (word 1 vs) (word 2 vs) w _ (same_kept _ _ refl refl refl))
external_kept s site Memset ts vs w = good_kept site (word 0 vs) (word 2 vs) w _ (same_kept _ _ refl refl refl)
external_kept s site Memcmp ts vs w = good_kept site (word 0 vs) (word 2 vs) w _ (good_kept site (word 1 vs) (word 2 vs) w _ (itself w))
external_kept s site Strlen ts vs w = string_kept w (string_at w (word 0 vs)) (λ bs. Gives (length bs) w) site (λ bs. itself w)
external_kept s site Putchar ts vs w = printed_kept site (word 0 vs % 256 ∷ []) (word 0 vs % 256) w
external_kept s site Puts ts vs w = string_kept w (string_at w (word 0 vs)) (λ bs. printed site (bs ++ 10 ∷ []) (Gives 1) w) site (λ bs. printed_kept site (bs ++ 10 ∷ []) 1 w)
external_kept s site Getchar ts vs w = next_kept w.input w
external_kept s site Read ts vs w = good_kept site (word 1 vs) (word 2 vs) w _ (either_after (eqb (word 0 vs) 0) w _ _ (same_kept _ _ refl refl refl) (itself w))
external_kept s site Write ts vs w = good_kept site (word 1 vs) (word 2 vs) w _ (either_after (eqb (word 0 vs) 1) w _ _ (printed_kept site (bytes_at w.bytes (word 1 vs) (word 2 vs)) (word 2 vs) w) (itself w))
external_kept s site Exit ts vs w = itself w
external_kept s site Abort ts vs w = itself w
external_kept s site LlvmMemcpy ts vs w = good_kept site (word 0 vs) (word 2 vs) w _ (good_kept site (word 1 vs) (word 2 vs) w _ (same_kept _ _ refl refl refl))
external_kept s site LlvmMemmove ts vs w = good_kept site (word 0 vs) (word 2 vs) w _ (good_kept site (word 1 vs) (word 2 vs) w _ (same_kept _ _ refl refl refl))
external_kept s site LlvmMemset ts vs w = good_kept site (word 0 vs) (word 2 vs) w _ (same_kept _ _ refl refl refl)
external_kept s site LifetimeStart ts vs w = good_kept site (word 1 vs) (word 0 vs) w _ (same_kept _ _ refl refl refl)
external_kept s site LifetimeEnd ts vs w = itself w
external_kept s site LlvmTrap ts vs w = itself w
external_kept s site LlvmAssume ts vs w = either_after (eqb (word 0 vs) 0) w _ _ (itself w) (itself w)
external_kept s site LlvmObjectSize ts vs w = itself w
external_kept s site PthreadCreate ts vs w = either_after (leb fiber_limit (length w.threads + 1)) w _ _ (itself w) (good_kept site (word 0 vs) 8 w _ (same_kept _ _ refl refl refl))
external_kept s site PthreadJoin ts vs w =
    either_after (eqb (join_answer w.turn (word 0 vs) w.threads) 0) w _ _
    (either_after (has_ended (thread_at (word 0 vs) w.threads)) w _ _ (either_after (eqb (word 1 vs) 0) w _ _ (same_kept _ _ refl refl refl) (good_kept site (word 1 vs) 8 w _ (same_kept _ _ refl refl refl))) (itself w)) (itself w)
external_kept s site SchedYield ts vs w = itself w
external_kept s site Printf ts vs w = prints_kept site (formatted w ts vs) w
external_kept s site (called.Word f n) ts vs w = gives_kept site (word_answer f (bits_of n) (word 0 vs) (word 1 vs) (word 2 vs)) w

call_kept : (s : Setting) (site : ℕ) (ts : List Ty) (vs : List ℕ) (w : World) (o : Option ℕ) (e : Option External)
    → KeepsAfter w (elim o [ Some f ↦ Enters f w | None ↦ elim e [ Some x ↦ external s site x ts vs w | None ↦ Ends stuck w ] ])
call_kept s site ts vs w (Some f) e = itself w
call_kept s site ts vs w None (Some x) = external_kept s site x ts vs w
call_kept s site ts vs w None None = itself w

pub act_kept : (s : Setting) (h : Here) (o : Op) (vs : List ℕ) (w : World) → KeepsAfter w (act s h o vs w)
act_kept s h (op.Binary o f t a b) vs w = gives_kept h.site _ w
act_kept s h (op.Icmp p f t a b) vs w = gives_kept h.site _ w
act_kept s h (op.Cast o f t a u) vs w = gives_kept h.site _ w
act_kept s h (op.Alloca t u c) vs w = either_after (fits (local_area w) (size_in s.types t * word 0 vs) w) w _ _ (make_unset_kept s.fill (local_area w) (size_in s.types t * word 0 vs) w) (itself w)
act_kept s h (op.Load t a) vs w = either_after (is_good w (word 0 vs) (stored_size t)) w _ _ (itself w) (itself w)
act_kept s h (op.Store t v a) vs w = either_after (is_good w (word 1 vs) (stored_size t)) w _ _ (same_kept _ _ refl refl refl) (itself w)
act_kept s h (op.Call r x args) vs w = call_kept s h.site (map (λ a. a.0) args) vs w (s.func x) (external_named s.func x)
act_kept s h (op.Ret v) vs w = either_after h.main w _ _ (itself w) (itself w)
act_kept s h o vs w = itself w

-- ---- checks

unchecked : (w : World) → Checks w w
unchecked w = record { blind = refl; leads = λ r h. h; placed = λ h. h }

one_more : (r : Report) (w : World) → Checks w (record w { reports = w.reports ++ r ∷ [] })
one_more r w = record { blind = refl; leads = λ l h. (h.0 ++ r ∷ [], ap (λ k. k ++ r ∷ []) h.1 ∙ append_assoc l h.0 (r ∷ [])); placed = λ h. h }

then_checked : (w u v : World) → Checks w u → Checks u v → Checks w v
then_checked w u v h g = record { blind = g.blind ∙ h.blind; leads = λ l k. g.leads l (h.leads l k); placed = λ k. g.placed (h.placed k) }

either_checked : (t : Bool) (w : World) (e x : Effect) → ChecksAfter w e → ChecksAfter w x → ChecksAfter w (if t then e else x)
either_checked true w e x h g = h
either_checked false w e x h g = g

report_kept : (s : Setting) (r : Report) (w : World) → ChecksAfter w (add_report s r w)
report_kept s r w = either_checked (is_hidden s r w) w _ _ (unchecked w) (either_checked (leb s.limit (length (w.reports ++ r ∷ []))) w _ _ (one_more r w) (one_more r w))

check_kept : (s : Setting) (mask width origin kind part site : ℕ) (w : World) → ChecksAfter w (check s mask width origin kind part site w)
check_kept s mask width origin kind part site w = either_checked (eqb mask 0) w _ _ (unchecked w) (report_kept s _ w)

byte_kept : (s : Setting) (kind site start : ℕ) (o : Option ℕ) (w : World) → ChecksAfter w (check_byte s kind site start o w)
byte_kept s kind site start None w = unchecked w
byte_kept s kind site start (Some x) w = check_kept s (w.shadow x) 8 (w.origins (x / 4)) kind (x - start) site w

use_kept : (s : Setting) (site : ℕ) (os : List (Ty × Operand)) (ps : List Poisoned) (u : CheckedUse) (w : World) → ChecksAfter w (check_use s site os ps u w)
use_kept s site os ps (Word kind k) w = check_kept s (word_at k ps).mask (width_of (type_at k os)) (word_at k ps).origin kind k site w
use_kept s site os ps (Bytes kind a n) w = either_checked (is_good w (word_at a ps).value (word_at n ps).value) w _ _ (byte_kept s kind site (word_at a ps).value (first_nonzero w.shadow (word_at a ps).value (word_at n ps).value) w) (unchecked w)
use_kept s site os ps (Line a) w = byte_kept s 10 site (word_at a ps).value (first_in_string w (word_at a ps).value (bytes_left w (word_at a ps).value)) w
use_kept s site os ps (Asked a) w =
    either_checked (asks_string_at w (word_at 0 ps).value a) w _ _ (byte_kept s 10 site (word_at a ps).value (first_in_string w (word_at a ps).value (bytes_left w (word_at a ps).value)) w) (unchecked w)

kept_from : (w u : World) (e : Effect) → Checks w u → ChecksAfter u e → ChecksAfter w e
kept_from w u (Gives v z) h g = then_checked w u z h g
kept_from w u (Does z) h g = then_checked w u z h g
kept_from w u (Goes v z) h g = then_checked w u z h g
kept_from w u (Enters v z) h g = then_checked w u z h g
kept_from w u (Leaves z) h g = then_checked w u z h g
kept_from w u (Ends v z) h g = then_checked w u z h g

then_after : (w : World) (e : Effect) (go : World → Effect) → ChecksAfter w e → ((u : World) → ChecksAfter u (go u)) → ChecksAfter w (then_does e go)
then_after w (Does u) go h f = kept_from w u (go u) h (f u)
then_after w (Gives v u) go h f = h
then_after w (Goes v u) go h f = h
then_after w (Enters v u) go h f = h
then_after w (Leaves u) go h f = h
then_after w (Ends v u) go h f = h

pub uses_kept : (s : Setting) (site : ℕ) (os : List (Ty × Operand)) (ps : List Poisoned) (us : List CheckedUse) (w : World) → ChecksAfter w (check_uses s site os ps us w)
uses_kept s site os ps [] w = unchecked w
uses_kept s site os ps (u ∷ us) w = then_after w (check_use s site os ps u w) (check_uses s site os ps us) (use_kept s site os ps u w) (λ v. uses_kept s site os ps us v)

-- ---- initialisers

module _ (types : Types) (address : Name → ℕ) where
  mutual
    init_kept : (i : Init) (t : Ty) (a : ℕ) (w : World) → Keeps w (write_init types address a t i w)
    init_kept (initial.Value o) t a w = same_kept _ _ refl refl refl
    init_kept initial.Zero t a w = itself w
    init_kept (initial.Text bs) t a w = same_kept _ _ refl refl refl
    init_kept (initial.Array' shape items) t a w = items_kept items a w
    init_kept (initial.Struct' packed shape fields) t a w = fields_kept fields packed a (extent 0 1) w

    items_kept : {n : _} (r : Row_of-Init-Array-0-2 n) (a : ℕ) (w : World) → Keeps w (write_items types address a r w)
    items_kept end_of-Init-Array-0-2 a w = itself w
    items_kept (more_of-Init-Array-0-2 t i rest) a w =
        then_kept w (write_init types address a t i w) _ (init_kept i t a w) (items_kept rest (a + size_in types t) (write_init types address a t i w))

    fields_kept : {n : _} (r : Row_of-Init-Array-0-2 n) (packed : Bool) (a : ℕ) (so_far : Extent) (w : World) → Keeps w (write_fields types address packed a so_far r w)
    fields_kept end_of-Init-Array-0-2 packed a so_far w = itself w
    fields_kept (more_of-Init-Array-0-2 t i rest) packed a so_far w =
        let at = a + (if packed then so_far.size else round_up so_far.size (align_in types t)) in
        then_kept w (write_init types address at t i w) _ (init_kept i t at w)
        (fields_kept rest packed a (place_field packed so_far (extent (size_in types t) (align_in types t))) (write_init types address at t i w))

  pub globals_kept : (gs : List GlobalVar) (w : World) → Keeps w (make_globals types address gs w)
  globals_kept [] w = itself w
  globals_kept (g ∷ rest) w =
      let made = make Fixed (size_in types g.ty) w in
      let written = write_init types address (next_base Fixed w) g.ty g.init made in
      either_kept (is_reserved g.name) w _ _ (globals_kept rest w)
      (then_kept w written _ (then_kept w made written (make_kept Fixed (size_in types g.ty) w) (init_kept g.init g.ty (next_base Fixed w) made)) (globals_kept rest written))
