use Rattle.std.proofs.Common.{◌≡◌, ◌∙◌, ◌&&◌, ℕ, zero, suc, Bool, true, false, not, eqb, if◌then◌else◌, List, [], Some, None, refl, sym, ap, subst}
use Rattle.ms_bits.specs.Maps.{byte_of}
use Rattle.ms_runs.specs.Memory.{is_good, set_shadow}
use Rattle.ms_runs.specs.Threads.{thread_at, has_ended}
use Rattle.ms_ir.specs.declared.calls.RuntimeFn.TheVariants.{LoadOrigin, Size, Move}
use Rattle.ms_runs.specs.World.{World, Setting, Thread, Gives, Does, word}
use Rattle.ms_runs.specs.Origins.{count_blind, store_origin, thread_result}
use Rattle.ms_runs.specs.Runtime.{runtime}
use Rattle.ms_host.specs.declared.calls.Answer.TheVariants.{Resumed}
use Rattle.ms_runtime.specs.Served.{CanServe, Served}
use Rattle.ms_runtime.proofs.OnMemory.{from-kind, gives}
use Rattle.ms_runtime.proofs.serving.serve_update.Goals as goal

pub returns-in-Blind-clause-served : goal.returns-in-Blind-clause-served
returns-in-Blind-clause-served c = λ setting beside meant roots kept can shows.
    from-kind (λ f. Served (runtime setting f c.args.args.now meant) (Resumed None) c.args.world.now c.args.depot.now c.count_blind.new.told) c.in-Blind.is
    (subst (λ (mask : ℕ). Served (Does (count_blind mask meant)) (Resumed None) c.args.world.now c.args.depot.now c.count_blind.new.told) c.word.ensures (c.count_blind.ensures.counted beside c.args.depot.now c.args.world.now meant kept shows))

pub returns-in-Poison-clause-served : goal.returns-in-Poison-clause-served
returns-in-Poison-clause-served c = λ setting beside meant roots kept can shows.
    from-kind (λ f. Served (runtime setting f c.args.args.now meant) (Resumed None) c.poison.new.world c.args.depot.now c.args.told.now) c.in-Poison.is
    ((beside, (kept, c.poison.ensures.served setting beside meant shows)))

pub returns-in-Unpoison-clause-served : goal.returns-in-Unpoison-clause-served
returns-in-Unpoison-clause-served c = λ setting beside meant roots kept can shows.
    from-kind (λ f. Served (runtime setting f c.args.args.now meant) (Resumed None) c.unpoison.new.world c.args.depot.now c.args.told.now) c.in-Unpoison.is
    ((beside, (kept, c.unpoison.ensures.served setting beside meant shows)))

pub returns-in_ok-copy-in-Copy-clause-served : goal.returns-in_ok-copy-in-Copy-clause-served
returns-in_ok-copy-in-Copy-clause-served c = λ setting beside meant roots kept can shows.
    from-kind (λ f. Served (runtime setting f c.args.args.now meant) (Resumed None) c.copy.new.world c.args.depot.now c.args.told.now) c.in-Copy.is
    ((beside, (kept, c.in_ok-copy-in-Copy.ensures.served setting beside meant shows)))

pub returns-in_ok-fill-in-Fill-clause-served : goal.returns-in_ok-fill-in-Fill-clause-served
returns-in_ok-fill-in-Fill-clause-served c = λ setting beside meant roots kept can shows.
    from-kind (λ f. Served (runtime setting f c.args.args.now meant) (Resumed None) c.fill.new.world c.fill.new.depot c.args.told.now) c.in-Fill.is
    (c.in_ok-fill-in-Fill.ensures.served setting beside meant c.args.told.now roots kept shows)

pub returns-in_ok-store_origin-in-StoreOrigin-clause-served : goal.returns-in_ok-store_origin-in-StoreOrigin-clause-served
returns-in_ok-store_origin-in-StoreOrigin-clause-served c = λ setting beside meant roots kept can shows.
    from-kind (λ f. Served (runtime setting f c.args.args.now meant) (Resumed None) c.store_origin.new.world c.store_origin.new.depot c.args.told.now) c.in-StoreOrigin.is
    (c.in_ok-store_origin-in-StoreOrigin.ensures.served setting beside meant c.args.told.now roots kept shows)

pub returns-in-LoadOrigin-clause-served : goal.returns-in-LoadOrigin-clause-served
returns-in-LoadOrigin-clause-served c = λ setting beside meant roots kept can shows.
    from-kind (λ f. Served (runtime setting f c.args.args.now meant) (Resumed (Some c.load_origin.result)) c.args.world.now c.args.depot.now c.args.told.now) c.in-LoadOrigin.is
    ((beside, (kept, gives c.args.world.now beside meant (runtime setting LoadOrigin c.args.args.now meant) c.load_origin.result (c.load_origin.ensures setting beside meant shows) shows)))

pub returns-in-Size-clause-served : goal.returns-in-Size-clause-served
returns-in-Size-clause-served c = λ setting beside meant roots kept can shows.
    from-kind (λ f. Served (runtime setting f c.args.args.now meant) (Resumed (Some c.size.result)) c.args.world.now c.args.depot.now c.args.told.now) c.in-Size.is
    ((beside, (kept, gives c.args.world.now beside meant (runtime setting Size c.args.args.now meant) c.size.result (c.size.ensures setting beside meant shows) shows)))

pub returns-in-Move-clause-served : goal.returns-in-Move-clause-served
returns-in-Move-clause-served c = λ setting beside meant roots kept can shows.
    from-kind (λ f. Served (runtime setting f c.args.args.now meant) (Resumed (Some c.moved.result)) c.args.world.now c.args.depot.now c.args.told.now) c.in-Move.is
    ((beside, (kept, gives c.args.world.now beside meant (runtime setting (Move c.in-Move.kind) c.args.args.now meant) c.moved.result (ap (λ (v : ℕ). Gives v meant) (sym c.moved.ensures)) shows)))

-- nothing is done where no thread was made
no_result : (setting : Setting) (a id answer site : ℕ) (world : World) → world.threads ≡ [] → thread_result setting a id answer site world ≡ world
no_result setting a id answer site world none =
    ap (λ (ts : List Thread). if eqb answer 0 && not (eqb a 0) && is_good world a 8 && has_ended (thread_at id ts)
    then store_origin setting a (world.answer_masks id) (world.answer_origins id) site (set_shadow a 8 (byte_of (world.answer_masks id)) world) else world) none
    ∙ by_tests (eqb answer 0) (not (eqb a 0)) (is_good world a 8) (has_ended (thread_at id [])) (store_origin setting a (world.answer_masks id) (world.answer_origins id) site (set_shadow a 8 (byte_of (world.answer_masks id)) world)) world (nobody id)
  where
    nobody : (k : ℕ) → has_ended (thread_at k []) ≡ false
    nobody zero = refl
    nobody (suc k) = refl

    by_tests : (p q r t : Bool) (x y : World) → t ≡ false → (if p && q && r && t then x else y) ≡ y
    by_tests true true true t x y e = ap (λ (b : Bool). if b then x else y) e
    by_tests true true false t x y e = refl
    by_tests true false r t x y e = refl
    by_tests false q r t x y e = refl

pub returns-in-ThreadResult-clause-served : goal.returns-in-ThreadResult-clause-served
returns-in-ThreadResult-clause-served c = λ setting beside meant roots kept can shows.
    let args = c.args.args.now in
    let alone = subst (λ f. CanServe f beside) c.in-ThreadResult.is can in
    from-kind (λ f. Served (runtime setting f args meant) (Resumed None) c.args.world.now c.args.depot.now c.args.told.now) c.in-ThreadResult.is
    (subst (λ (w : World). Served (Does w) (Resumed None) c.args.world.now c.args.depot.now c.args.told.now)
    (sym (no_result setting (word 0 args) (word 1 args) (word 2 args) (word 3 args) meant (ap (λ f. f.threads) (shows.fibers ∙ alone)))) (beside, (kept, shows)))
