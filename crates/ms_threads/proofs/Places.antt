-- Where a thread stands, by its place among those of all threads.
use Rattle.std.proofs.Common.{◌≡◌, ◌≢◌, ◌<◌, ℕ, zero, suc, Bool, true, false, eqb, if◌then◌else◌, List, [], ◌∷◌, ◌++◌, length, reverse, get_or, refl, sym, ap, ◌∙◌, arith, Option, Some, None, option_map, true≢false, eqb-true}
use Rattle.std.proofs.Math.ListN.{set}
use Rattle.std.proofs.lemmas.Bool.{eq-eqb}
use Rattle.std.proofs.lemmas.List.{length-set}
use Rattle.ms_host.specs.declared.calls.HostCall.{HostCall}
use Rattle.ms_machine_frames.specs.declared.fibers.Fiber.{Fiber}
use Rattle.ms_machine_frames.specs.Standing.{frames_of}
use Rattle.ms_threads.specs.declared.thread_table.Parked.{Parked}
use Rattle.ms_threads.specs.declared.thread_table.ThreadTable.{ThreadTable}
use Rattle.ms_threads.specs.ThreadTables.{Standing, standing_of, stand_of, stand_at, SameCalls, Stands}

-- ---- a fiber that has the calls of another

pub same_frames : (old new : Fiber) → SameCalls old new → frames_of new ≡ frames_of old
same_frames old new s = λ i. s.frame i ∷ reverse ((s.below i).items)

pub same_standing : (old new : Fiber) (call : HostCall) → SameCalls old new → standing_of new call ≡ standing_of old call
same_standing old new call s = λ i. record { frames = s.frame i ∷ reverse ((s.below i).items); spawned = s.spawned i; heap = (s.heap i).items; call = call }

pub same_stand : (old new : Fiber) → SameCalls old new → (o : Option HostCall) → option_map (standing_of new) o ≡ option_map (standing_of old) o
same_stand old new s None = refl
same_stand old new s (Some call) = ap (λ (x : Standing). Some x) (same_standing old new call s)

-- ---- places

pub stand_there : (ps : List Parked) (k : ℕ) (p : Parked) → k < length ps → p ≡ get_or ps k p → stand_at ps k ≡ stand_of p
stand_there [] k p lt is = absurd (omega (arith, lt))
stand_there (q ∷ ps) zero p lt is = ap stand_of (sym is)
stand_there (q ∷ ps) (suc k) p lt is = stand_there ps k p (omega (arith, lt)) is

-- one that is changed, and another
stand_here : (ps : List Parked) (n : ℕ) (p : Parked) → n < length ps → stand_at (set ps n p) n ≡ stand_of p
stand_here [] n p lt = absurd (omega (arith, lt))
stand_here (q ∷ ps) zero p lt = refl
stand_here (q ∷ ps) (suc n) p lt = stand_here ps n p (omega (arith, lt))

stand_other : (ps : List Parked) (n : ℕ) (p : Parked) (k : ℕ) → k ≢ n → stand_at (set ps n p) k ≡ stand_at ps k
stand_other [] n p k other = refl
stand_other (q ∷ ps) zero p zero other = absurd (other refl)
stand_other (q ∷ ps) zero p (suc k) other = refl
stand_other (q ∷ ps) (suc n) p zero other = refl
stand_other (q ∷ ps) (suc n) p (suc k) other = stand_other ps n p k (λ e. other (ap suc e))

pub stand_set : (ps : List Parked) (n : ℕ) (p : Parked) → n < length ps → (k : ℕ) → stand_at (set ps n p) k ≡ (if eqb k n then stand_of p else stand_at ps k)
stand_set ps n p lt k = by_test (eqb k n) refl
  where
    by_test : (b : Bool) → eqb k n ≡ b → stand_at (set ps n p) k ≡ (if b then stand_of p else stand_at ps k)
    by_test true e = ap (stand_at (set ps n p)) (eqb-true k n e) ∙ stand_here ps n p lt
    by_test false e = stand_other ps n p k (λ same. true≢false (sym (eq-eqb k n same) ∙ e))

-- one more, of a thread that stands nowhere
pub none_more : (ps : List Parked) (p : Parked) → stand_of p ≡ None → (k : ℕ) → stand_at (ps ++ p ∷ []) k ≡ stand_at ps k
none_more [] p none zero = none
none_more [] p none (suc k) = refl
none_more (q ∷ ps) p none zero = refl
none_more (q ∷ ps) p none (suc k) = none_more ps p none k

-- a place with no call is that of a thread that stands nowhere
pub no_call : (p : Parked) → p.call ≡ None → stand_of p ≡ None
no_call p none = ap (λ (o : Option HostCall). stand_of (record p { call = o })) none

-- the place of the one that has the turn is changed
pub stands_so : (g h : ThreadTable) (p : Parked) (o : Option Standing) → g.turn < length g.parked.items → h.parked.items ≡ set g.parked.items g.turn p → stand_of p ≡ o → h.threads ≡ g.threads → h.turn ≡ g.turn → h.next_pick ≡ g.next_pick → h.recorder ≡ g.recorder → Stands o g h
stands_so g h p o lt items is threads turn place recorder = record {
  stands = λ k. ap (λ ps. stand_at ps k) items ∙ stand_set g.parked.items g.turn p lt k ∙ ap (λ (x : Option Standing). if eqb k g.turn then x else stand_at g.parked.items k) is;
  count = ap length items ∙ length-set g.parked.items g.turn p;
  threads = threads;
  same = record { turn = turn; place = place; recorder = recorder };
}
