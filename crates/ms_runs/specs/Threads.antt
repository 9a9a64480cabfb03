-- The fibers beside `main`'s: which has a number, and what a join answers (POSIX, "pthread_join"; own: the numbers of
-- fibers, and that one is joined once).
use Rattle.std.specs.Prelude.{ℕ, zero, suc, ◌%◌, ◌^◌, Bool, true, false, List, [], ◌∷◌, ◌++◌, eqb, if◌then◌else◌, Option, Some, None, slice_get}
use Rattle.ms_bits.specs.Maps.{number_at, with_range}
use Rattle.ms_ir.specs.declared.calls.Slot.TheVariants as slot
use Rattle.ms_ir.specs.Names.{slot_room}
use Rattle.ms_runs.specs.World.{World, Thread}
use Rattle.ms_runs.specs.Poisoned.{Poisoned}

-- what a world has of fibers
pub record Fibers : Type 0 where
  pub turn : ℕ
  pub threads : List Thread
  pub answers : ℕ → ℕ
  pub answer_masks : ℕ → ℕ
  pub answer_origins : ℕ → ℕ

abbrev pub fibers_of : World → Fibers
fibers_of world = record {
  turn = world.turn;
  threads = world.threads;
  answers = world.answers;
  answer_masks = world.answer_masks;
  answer_origins = world.answer_origins;
}

-- none but `main`'s was made
abbrev pub no_fibers : Fibers
no_fibers = record {
  turn = 0;
  threads = [];
  answers = λ k. 0;
  answer_masks = λ k. 0;
  answer_origins = λ k. 0;
}

-- how many fibers may be made, that of `main` counted
abbrev pub fiber_limit : ℕ
fiber_limit = 64

-- the fiber with a number; that of `main`, which has number 0, is none of these
abbrev pub thread_at : ℕ → List Thread → Option Thread
thread_at zero threads = None
thread_at (suc k) threads = slice_get threads k

-- an item of a list is changed
abbrev pub changed_at : ℕ → (Thread → Thread) → List Thread → List Thread
changed_at k change [] = []
changed_at zero change (t ∷ ts) = change t ∷ ts
changed_at (suc k) change (t ∷ ts) = t ∷ changed_at k change ts

-- the fiber with a number is changed
abbrev pub changed_thread : ℕ → (Thread → Thread) → List Thread → List Thread
changed_thread zero change threads = threads
changed_thread (suc k) change threads = changed_at k change threads

-- one fiber more, which runs a function with an argument
abbrev pub with_fiber : (func argument : ℕ) → World → World
with_fiber func argument world =
    record world { threads = world.threads ++ record { func = func; argument = argument; ended = false; joined = false } ∷ [] }

-- the fiber with a number was joined
abbrev pub with_joined : ℕ → World → World
with_joined id world = record world { threads = changed_thread id (λ t. record t { joined = true }) world.threads }

-- a number is changed at a place
abbrev pub set_at : (ℕ → ℕ) → ℕ → ℕ → (ℕ → ℕ)
set_at held k v = λ n. if eqb n k then v else held n

-- the fiber whose turn it is has ended with a word, whose origin counts where a bit is poisoned alone
abbrev pub with_answer : Poisoned → World → World
with_answer p world = record world {
  threads = changed_thread world.turn (λ t. record t { ended = true }) world.threads;
  answers = set_at world.answers world.turn p.value;
  answer_masks = set_at world.answer_masks world.turn p.mask;
  answer_origins = set_at world.answer_origins world.turn (if eqb p.mask 0 then 0 else p.origin);
}

-- a fiber has ended
abbrev pub has_ended : Option Thread → Bool
has_ended None = false
has_ended (Some t) = t.ended

-- a join of no fiber, and of one that was joined, is refused by 3
abbrev pub join_of : Option Thread → ℕ
join_of None = 3
join_of (Some t) = if t.joined then 3 else 0

-- what a join answers: 35 for the caller's own number
abbrev pub join_answer : (own id : ℕ) → List Thread → ℕ
join_answer own id threads = if eqb id own then 35 else join_of (thread_at id threads)

-- ---- slots

-- those of the first parameter are clean where a fiber begins
abbrev pub first_clean : (ℕ → ℕ) → (ℕ → ℕ)
first_clean slots = with_range (with_range slots (slot_room slot.ParamMasks).0 8 (λ k. 0)) (slot_room slot.ParamOrigins).0 4 (λ k. 0)

-- the mask and the origin that those of a result hold
abbrev pub result_mask : (ℕ → ℕ) → ℕ
result_mask slots = number_at slots (slot_room slot.RetvalMask).0 8 % 2 ^ 64

abbrev pub result_origin : (ℕ → ℕ) → ℕ
result_origin slots = number_at slots (slot_room slot.RetvalOrigin).0 4 % 2 ^ 32
