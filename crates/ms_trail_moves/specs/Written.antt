-- Which bytes an instruction writes, and where they come from (own).
use Rattle.std.specs.Prelude.{ℕ, ◌+◌, ◌-◌, ◌*◌, ◌%◌, ◌^◌, min, ◌&&◌, ltb, List, [], ◌∷◌, ◌++◌, if◌then◌else◌, Option, Some, None, unwrap_or}
use Rattle.ms_ir.specs.declared.syntax.Op.{Op}
use Rattle.ms_ir.specs.declared.syntax.Op.TheVariants as op
use Rattle.ms_ir.specs.declared.calls.External.{External}
use Rattle.ms_ir.specs.declared.calls.External.TheVariants.{Malloc, Realloc, Memcpy, Memmove, Memset, LlvmMemcpy, LlvmMemmove, LlvmMemset, LifetimeStart}
use Rattle.ms_ir.specs.Layout.{stored_size, size_in}
use Rattle.ms_ir.specs.Areas.{Heap}
use Rattle.ms_runs.specs.World.{World, Setting}
use Rattle.ms_runs.specs.Memory.{fits, local_area, next_base, is_good, heap_size}
use Rattle.ms_ir.specs.Instructions.{external_named}
use Rattle.ms_runs.specs.Poisoned.{Poisoned}
use Rattle.ms_runs.specs.Masks.{word_at}
use Rattle.ms_trail_moves.specs.declared.moves.Source.{Source}
use Rattle.ms_trail_moves.specs.declared.moves.Source.TheVariants.{Root}
use Rattle.ms_trail_moves.specs.Sources.{source_at}

-- bytes that follow one another: all from one source, or each from the one at its distance from an address
pub data Written : Type 0 where
  Filled : (addr len : ℕ) → Source → Written
  Copied : (addr len from : ℕ) → Written

-- the bytes of an address with the numbers from `from` to `to` - 1 are made uninitialised, where they are good
abbrev pub made : World → (a from to root : ℕ) → List Written
made after a from to root =
    let p = (a + from) % 2 ^ 64 in
    if ltb from to && is_good after p (to - from) then Filled p (to - from) (Root root) ∷ [] else []

-- where a heap block of n bytes would be made, 0 where the heap's limit would be passed
abbrev pub heap_place : ℕ → World → ℕ
heap_place n before = if fits Heap n before then next_base Heap before else 0

abbrev pub external_written : (root : ℕ) → External → List Poisoned → List Source → (before after : World) → List Written
external_written root Malloc ps ss before after = made after (heap_place (word_at 0 ps).value before) 0 (word_at 0 ps).value root
external_written root Realloc ps ss before after =
    let n = (word_at 1 ps).value in
    let old = unwrap_or (heap_size before (word_at 0 ps).value) 0 in
    (if fits Heap n before then Copied (next_base Heap before) (min old n) (word_at 0 ps).value ∷ [] else []) ++ made after (heap_place n before) old n root
external_written root Memcpy ps ss before after = Copied (word_at 0 ps).value (word_at 2 ps).value (word_at 1 ps).value ∷ []
external_written root Memmove ps ss before after = Copied (word_at 0 ps).value (word_at 2 ps).value (word_at 1 ps).value ∷ []
external_written root Memset ps ss before after = Filled (word_at 0 ps).value (word_at 2 ps).value (source_at 1 ss) ∷ []
external_written root LlvmMemcpy ps ss before after = Copied (word_at 0 ps).value (word_at 2 ps).value (word_at 1 ps).value ∷ []
external_written root LlvmMemmove ps ss before after = Copied (word_at 0 ps).value (word_at 2 ps).value (word_at 1 ps).value ∷ []
external_written root LlvmMemset ps ss before after = Filled (word_at 0 ps).value (word_at 2 ps).value (source_at 1 ss) ∷ []
external_written root LifetimeStart ps ss before after = made after (word_at 1 ps).value 0 (word_at 0 ps).value root
external_written root _ ps ss before after = []

abbrev pub callee_written : (root : ℕ) → Option External → List Poisoned → List Source → (before after : World) → List Written
callee_written root None ps ss before after = []
callee_written root (Some e) ps ss before after = external_written root e ps ss before after

-- what an instruction writes into memory that may be poisoned, in rising order; root is its own
abbrev pub written : Setting → (root : ℕ) → Op → List Poisoned → List Source → (before after : World) → List Written
written s root (op.Alloca t u c) ps ss before after = made after (next_base (local_area before) before) 0 (size_in s.types t * (word_at 0 ps).value) root
written s root (op.Store t x a) ps ss before after = Filled (word_at 1 ps).value (stored_size t) (source_at 0 ss) ∷ []
written s root (op.Call r x as') ps ss before after = callee_written root (external_named s.func x) ps ss before after
written s root _ ps ss before after = []
