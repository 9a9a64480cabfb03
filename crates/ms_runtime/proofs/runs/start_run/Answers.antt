use Rattle.std.proofs.Common.{arith, sym, ap, subst, refl, ◌≡◌, ◌∙◌, ◌<◌, ◌≤◌, ◌+◌, ◌-◌, ◌*◌, ◌^◌, ℕ, List, length}
use Rattle.std.proofs.Math.Nat.{mul-le-mul_right}
use Rattle.ms_ir.specs.declared.syntax.Module.{Module}
use Rattle.ms_ir.specs.declared.places.Root.{Root}
use Rattle.ms_ir.specs.Instructions.{over_funcs}
use Rattle.ms_ir.specs.Roots.{roots_of}
use Rattle.ms_check_valid.specs.Formed.{Formed}
use Rattle.ms_check_valid.proofs.SmallNumbers.{small_numbers}
use Rattle.ms_runtime.proofs.RootCounts.{roots_counted, few_roots, few_insts}
use Rattle.ms_runtime.proofs.Goings.{going_begun}
use Rattle.ms_runtime.proofs.runs.start_run.Goals as goal

pub roots-requires : goal.roots-requires
roots-requires c = small_numbers c.module-code.result.now (subst Formed (sym c.module-code.ensures) c.law_valid.ensures.formed)

few : (m : Module) → Formed m → (roots : List Root) → roots ≡ roots_of m → length roots < 2 ^ 30
few m formed roots e = subst (λ (n : ℕ). n < 2 ^ 30) (sym (ap length e ∙ roots_counted m)) (few_roots m formed)

pub overflow_cast-count : goal.overflow_cast-count
overflow_cast-count c = omega (arith, few c.args.m.now c.law_valid.ensures.formed c.as_slice-count.result.now (c.as_slice-count.ensures ∙ c.in_ok-roots.ensures ∙ ap roots_of c.module-code.ensures))

pub new-requires : goal.new-requires
new-requires c = few c.args.m.now c.law_valid.ensures.formed c.as_slice-count.result.now (c.as_slice-count.ensures ∙ c.in_ok-roots.ensures ∙ ap roots_of c.module-code.ensures)

-- so few steps through so little code
near : (steps all : ℕ) → steps ≤ 1000000000 → all < 2 ^ 30 → 0 + (steps * (all + 1) + (all - 0)) ≤ 2 ^ 62
near steps all few little = omega (arith, mul-le-mul_right (all + 1) few, little)

pub returns-clause-begins : goal.returns-clause-begins
returns-clause-begins c =
    let m = c.args.m.now in
    let u = c.args.setup.now in
    let formed = c.law_valid.ensures.formed in
    let limits = c.requires.limits in
    record {
      stands = c.in_ok-fiber.ensures.running;
      told = record { pairs = sym c.new.ensures.pairs; reports = sym (c.from_vec-2.ensures ∙ c.new-3.ensures.items); blind = refl };
      keeping = record {
        roots = c.new.ensures.roots ∙ ap length (c.as_slice-count.ensures ∙ c.in_ok-roots.ensures ∙ ap roots_of c.module-code.ensures) ∙ roots_counted m;
        few = omega (arith, ap length (c.from_vec-2.ensures ∙ c.new-3.ensures.items), limits.some_reports);
        room = omega (arith, c.in_ok-fiber.ensures.made, limits.steps);
        blind = let at : over_funcs (λ inst. 1) m.funcs - c.in_ok-fiber.fiber.frame.at ≤ over_funcs (λ inst. 1) m.funcs = omega arith in
            omega (arith, near u.steps (over_funcs (λ inst. 1) m.funcs) limits.steps (few_insts m formed), at);
      };
      budget = refl;
    }

pub returns-clause-going : goal.returns-clause-going
returns-clause-going c = λ calm. going_begun c.args.m.now c.args.setup.now calm _ (returns-clause-begins c)
