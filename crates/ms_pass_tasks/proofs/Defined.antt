-- What defining a result's mask and origin does, for any kind of instruction.
use Rattle.std.proofs.Common.{◌≡◌, ◌≢◌, ℕ, List, refl, sym, ap, ◌∙◌, true, false, Option, Some}
use Rattle.std.specs.Prelude.{if◌then◌else◌, map}
use Rattle.ms_ir.specs.declared.syntax.Name.{Name}
use Rattle.ms_ir.specs.declared.syntax.Operand.TheVariants as operand
use Rattle.ms_ir.specs.declared.syntax.Op.{Op}
use Rattle.ms_runs.specs.declared.runs.End.{End}
use Rattle.ms_ir.specs.Names.{is_reserved}
use Rattle.ms_runs.specs.World.{World, Setting, Here, Effect, Gives, Ends}
use Rattle.ms_ir.specs.Instructions.{operands}
use Rattle.ms_runs.specs.Control.{with_value, read_all}
use Rattle.ms_runs.specs.Act.{act}
use Rattle.ms_runs.specs.Poisoned.{Poisoned}
use Rattle.ms_runs.specs.Masks.{by_formulas}
use Rattle.ms_runs.specs.Shadow.{read_poisoned, poisoned_result}
use Rattle.ms_pass_tasks.specs.Tasks.{mask_name, origin_name, Task}
use Rattle.ms_pass_tasks.specs.Meaning.{Values, Went, Over, do_tasks, set_result}
use Rattle.ms_pass_tasks.specs.Environments.{Env}
use Rattle.ms_pass_tasks.specs.Match.{held, Matches}
use Rattle.ms_pass_tasks.specs.InstructionLaw.{after_result, GoesOn, CallsOutside}
use Rattle.ms_pass_tasks.proofs.InsertedNames.{mask_not_origin, with_here, with_other}
use Rattle.ms_pass_tasks.proofs.OperandWords.{mask_at, origin_at}
use Rattle.ms_pass_tasks.proofs.MatchedNames.{Defines}

-- the words of an operation's operands, and what it comes to
abbrev pub words_for : Setting → (Name → Poisoned) → Here → Op → List Poisoned
words_for s values h o = read_all (read_poisoned s values) (operands o) h.root

-- what an operation comes to
abbrev pub acts_for : Setting → (Name → Poisoned) → Here → Op → World → Effect
acts_for s values h o w = act s h o (map (λ p. p.value) (words_for s values h o)) w

-- the tasks leave the words matched, with the result's mask and origin; or the run ends as by the instruction itself
pub data Defined (s : Setting) (env : Env) (h : Here) (values : Name → Poisoned) (v : Values) (x : Option Name) (o : Op) (ts : List Task) (w : World) : Type 0 where
  Fine : (after : Values) → do_tasks s h ts v w ≡ Went after w → after.slots ≡ v.slots
      → ((y : Name) → is_reserved y ≡ false → after.names y ≡ v.names y)
      → ((k : ℕ) (u : World) → acts_for s values h o w ≡ Gives k u
      → Matches env (after_result values x (poisoned_result by_formulas o (words_for s values h o) k u)) (set_result after.names x k))
      → (CallsOutside s.func o → (k : ℕ) (u : World) → Matches env (after_result values x (poisoned_result by_formulas o (words_for s values h o) k u)) (set_result after.names x k))
      → (GoesOn (acts_for s values h o w) → Matches env values after.names)
      → Defined s env h values v x o ts w
  Fails : (e : End) → (CallsOutside s.func o → ⊥) → do_tasks s h ts v w ≡ Over e w → acts_for s values h o w ≡ Ends e w → Defined s env h values v x o ts w

-- the two names of a result, the origin's first
pub origin_first : (env : Env) (x : Name) (n : ℕ) → env.number x ≡ Some n → env.clean x ≡ false → (names : Name → ℕ) (mask origin stored : ℕ) → (mask ≢ 0 → stored ≡ origin)
    → Defines env x n names (with_value (with_value names (origin_name n) stored) (mask_name n) mask) mask origin
origin_first env x n e c names mask origin stored h = record {
  kept = λ y f g. with_other (with_value names (origin_name n) stored) (mask_name n) y mask f ∙ with_other names (origin_name n) y stored g;
  mask_held =
      ap (held after) (mask_at env x n e) ∙ ap (λ b. held after (if b then operand.Int 0 else operand.Local (mask_name n))) c
      ∙ with_here (with_value names (origin_name n) stored) (mask_name n) mask;
  origin_held = λ ne.
      ap (held after) (origin_at env x n e) ∙ ap (λ b. held after (if b then operand.Int 0 else operand.Local (origin_name n))) c
      ∙ with_other (with_value names (origin_name n) stored) (mask_name n) (origin_name n) mask (λ z. mask_not_origin n n (sym z))
      ∙ with_here names (origin_name n) stored ∙ h ne;
}
  where
    after : Name → ℕ
    after = with_value (with_value names (origin_name n) stored) (mask_name n) mask

-- the mask's first
pub mask_first : (env : Env) (x : Name) (n : ℕ) → env.number x ≡ Some n → env.clean x ≡ false → (names : Name → ℕ) (mask origin stored : ℕ) → (mask ≢ 0 → stored ≡ origin)
    → Defines env x n names (with_value (with_value names (mask_name n) mask) (origin_name n) stored) mask origin
mask_first env x n e c names mask origin stored h = record {
  kept = λ y f g. with_other (with_value names (mask_name n) mask) (origin_name n) y stored g ∙ with_other names (mask_name n) y mask f;
  mask_held =
      ap (held after) (mask_at env x n e) ∙ ap (λ b. held after (if b then operand.Int 0 else operand.Local (mask_name n))) c
      ∙ with_other (with_value names (mask_name n) mask) (origin_name n) (mask_name n) stored (mask_not_origin n n)
      ∙ with_here names (mask_name n) mask;
  origin_held = λ ne.
      ap (held after) (origin_at env x n e) ∙ ap (λ b. held after (if b then operand.Int 0 else operand.Local (origin_name n))) c
      ∙ with_here (with_value names (mask_name n) mask) (origin_name n) stored ∙ h ne;
}
  where
    after : Name → ℕ
    after = with_value (with_value names (mask_name n) mask) (origin_name n) stored

-- nothing is computed where the mask is known to be 0, and it is 0
pub clean_kept : (env : Env) (x : Name) (n : ℕ) → env.number x ≡ Some n → env.clean x ≡ true → (names : Name → ℕ) (mask origin : ℕ) → mask ≡ 0
    → Defines env x n names names mask origin
clean_kept env x n e c names mask origin z = record {
  kept = λ y f g. refl;
  mask_held = ap (held names) (mask_at env x n e) ∙ ap (λ b. held names (if b then operand.Int 0 else operand.Local (mask_name n))) c ∙ sym z;
  origin_held = λ ne. absurd (ne z);
}
