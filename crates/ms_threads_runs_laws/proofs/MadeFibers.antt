-- Fibers that were made begin well, by number and in a list.
use Rattle.std.proofs.Common.{◌≡◌, ◌<◌, ◌^◌, ℕ, suc, List, [], ◌∷◌, slice_get, Some, refl}
use Rattle.ms_ir.specs.declared.syntax.Module.{Module}
use Rattle.ms_runs.specs.World.{Thread}
use Rattle.ms_runs_good_laws.specs.GoodStates.{IsStart}
use Rattle.ms_threads_laws.proofs.StartedFibers.{AllStart, thread_starts}
use Rattle.ms_threads_runs_laws.specs.ThreadStates.{SoundThreads}

all_start : (m : Module) (ts : List Thread) → ((k : ℕ) (t : Thread) → slice_get ts k ≡ Some t → IsStart m t.func × (t.argument < 2 ^ 64)) → AllStart m ts
all_start m [] h = tt
all_start m (t ∷ ts) h = (record { func = (h 0 t refl).0; argument = (h 0 t refl).1 }, all_start m ts (λ k x e. h (suc k) x e))

pub start_all : (m : Module) (ts : List Thread) → SoundThreads m ts → AllStart m ts
start_all m ts h = all_start m ts (λ k t e. h (suc k) t e)

pub each_starts : (m : Module) (ts : List Thread) → AllStart m ts → SoundThreads m ts
each_starts m ts h = λ k t e. let g = thread_starts m k ts t h e in (g.func, g.argument)
