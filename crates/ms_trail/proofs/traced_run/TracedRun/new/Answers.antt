use Rattle.std.proofs.Common.{◌≡◌, ℕ, length, replicate, refl, sym, ap, subst, ◌∙◌, arith}
use Rattle.ms_ir.specs.declared.syntax.Module.{Module}
use Rattle.ms_check_valid.specs.Formed.{Formed}
use Rattle.ms_runs.specs.Plain.{plain_start}
use Rattle.ms_runs_good_laws.proofs.Starts.{start_is_main}
use Rattle.ms_runtime.proofs.RootCounts.{few_roots}
use Rattle.ms_runs_laws.proofs.FollowedSteps.{start_follows}
use Rattle.ms_trail_uses.specs.Tabled.{AreTables}
use Rattle.ms_trail.proofs.Beginning.{one_running, start_shades}
use Rattle.ms_trail.proofs.traced_run.TracedRun.new.Goals as goal

pub of-requires : goal.of-requires
of-requires c = omega (arith, few_roots c.module-code.result.now (subst Formed (sym c.module-code.ensures) c.law_valid.ensures.formed))

pub returns-clause-is : goal.returns-clause-is
returns-clause-is c =
    let m = c.args.m.now in
    let u = c.args.setup.now in
    let running = c.in_ok-fiber.ensures.running in
    let many : c.len.result ≡ length c.in_ok-fiber.fiber.frame.values.items = omega (arith, c.len.ensures, c.in_ok-fiber.fiber.frame.values.ok) in
    record {
      whole = refl;
      bare = c.requires.plain.plain.unmarked;
      calm = c.requires.alone;
      few = omega (arith, few_roots m c.law_valid.ensures.formed);
      state = plain_start m u;
      running = one_running m u c.in_ok-fiber.fiber c.in_ok-fiber.world running;
      follows = start_follows m u;
      bottom = start_is_main m c.law_valid.ensures.valid;
      shades = start_shades m u c.in_ok-fiber.fiber c.in_ok-fiber.world c.in_ok-shade.shade _ running c.in_ok-shade.ensures.number (c.in_ok-shade.ensures.masks ∙ ap (λ (n : ℕ). replicate n 0) many) c.new-2.ensures.items;
      made = refl;
      event = refl;
      log = c.new-3.ensures;
      tables = subst (λ (x : Module). AreTables x c.in_ok-tables.tables.rows.items) c.module-code.ensures c.in_ok-tables.ensures;
      fill = c.as_slice.ensures;
      filled = c.requires.limits.filled;
    }
