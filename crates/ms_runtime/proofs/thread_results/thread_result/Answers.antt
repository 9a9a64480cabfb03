use Rattle.std.proofs.Common.{◌≡◌, ℕ, Bool, true, if◌then◌else◌, sym, ap, ◌∙◌}
use Rattle.ms_bits.specs.Maps.{byte_of}
use Rattle.ms_runs.specs.World.{World, Setting}
use Rattle.ms_runs.specs.Memory.{set_shadow, is_good}
use Rattle.ms_runs.specs.Origins.{store_origin}
use Rattle.std.proofs.lemmas.Result.{on_ok_weaker}
use Rattle.ms_runtime.proofs.OnMemory.{does-as, store-clean, store-marked}
use Rattle.ms_runtime.proofs.thread_results.thread_result.Goals as goal

-- where the bytes are good, and where they aren't
abbrev put : Setting → (a mask origin site : ℕ) → World → Bool → World
put setting a mask origin site world good = if good then store_origin setting a mask origin site (set_shadow a 8 (byte_of mask) world) else world

pub returns-then-not-store_shadow-clause-served : goal.returns-then-not-store_shadow-clause-served
returns-then-not-store_shadow-clause-served c = λ setting beside meant told roots kept shows.
    let h = c.if-not-store_shadow.ensures.stored beside meant shows in
    let e : put setting c.args.addr c.args.mask c.args.origin c.args.site meant (is_good meant c.args.addr 8) ≡ meant = ap (put setting c.args.addr c.args.mask c.args.origin c.args.site meant) h.0 in
    does-as c.store_shadow.new.self c.args.depot.now told _ _ (sym e) (beside, (kept, h.1))

pub returns-then-mask-eq0-clause-served : goal.returns-then-mask-eq0-clause-served
returns-then-mask-eq0-clause-served c = λ setting beside meant told roots kept shows.
    let h = c.if-not-store_shadow.ensures.stored beside meant shows in
    let e : put setting c.args.addr c.args.mask c.args.origin c.args.site meant (is_good meant c.args.addr 8) ≡ put setting c.args.addr c.args.mask c.args.origin c.args.site meant true =
    ap (put setting c.args.addr c.args.mask c.args.origin c.args.site meant) h.0 in
    does-as c.store_shadow.new.self c.args.depot.now told _ _
    (store-clean setting (set_shadow c.args.addr 8 (byte_of c.args.mask) meant) c.args.addr c.args.mask c.args.origin c.args.site c.if-mask-eq0.true ∙ sym e) (beside, (kept, h.1))

pub returns-clause-served : goal.returns-clause-served
returns-clause-served c = λ setting beside meant told roots kept shows.
    let h = c.if-not-store_shadow.ensures.stored beside meant shows in
    let e : put setting c.args.addr c.args.mask c.args.origin c.args.site meant (is_good meant c.args.addr 8) ≡ put setting c.args.addr c.args.mask c.args.origin c.args.site meant true =
    ap (put setting c.args.addr c.args.mask c.args.origin c.args.site meant) h.0 in
    on_ok_weaker c.mark_chained.result
    (does-as c.mark_chained.new.world c.mark_chained.new.depot told _ _
    (store-marked setting (set_shadow c.args.addr 8 (byte_of c.args.mask) meant) c.args.addr c.args.mask c.args.origin c.args.site c.if-mask-eq0.false ∙ sym e))
    (c.mark_chained.ensures.served setting beside (set_shadow c.args.addr 8 (byte_of c.args.mask) meant) told roots kept h.1)
