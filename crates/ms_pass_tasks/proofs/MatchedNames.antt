-- What keeps words matched: a new result whose mask and origin stand in their names.
use Rattle.std.proofs.Common.{◌≡◌, ◌≢◌, ℕ, ◌+◌, ◌*◌, refl, sym, ap, ◌∙◌, subst, arith, Bool, true, false, Some}
use Rattle.std.specs.Prelude.{if◌then◌else◌}
use Rattle.ms_ir.specs.declared.syntax.Name.{Name}
use Rattle.ms_ir.specs.declared.syntax.Operand.TheVariants as operand
use Rattle.ms_ir.specs.Names.{name_eq, is_reserved}
use Rattle.ms_ir.proofs.RootKinds.{name_same}
use Rattle.ms_runs.specs.Control.{with_value}
use Rattle.ms_runs.specs.Poisoned.{Poisoned}
use Rattle.ms_pass_tasks.specs.Tasks.{mask_name, origin_name}
use Rattle.ms_pass_tasks.specs.Meaning.{Values, Same, Below}
use Rattle.ms_pass_tasks.specs.Environments.{Env, local_mask, local_origin}
use Rattle.ms_pass_tasks.specs.Known.{KnownName, OneName}
use Rattle.ms_pass_tasks.specs.Match.{held, Matches}
use Rattle.ms_pass_tasks.proofs.InsertedNames.{own_not_msan, own_below, mask_name_one, origin_name_one, mask_not_origin, name_self, with_other}
use Rattle.ms_pass_tasks.proofs.OperandWords.{mask_at, origin_at}

-- what a name holds elsewhere
held_if : (f g : Name → ℕ) (b : Bool) (n : Name) → f n ≡ g n
    → held f (if b then operand.Int 0 else operand.Local n) ≡ held g (if b then operand.Int 0 else operand.Local n)
held_if f g true n e = refl
held_if f g false n e = e

pub mask_elsewhere : (env : Env) (f g : Name → ℕ) (x : Name) (v : ℕ) → env.number x ≡ Some v → f (mask_name v) ≡ g (mask_name v)
    → held f (local_mask env x) ≡ held g (local_mask env x)
mask_elsewhere env f g x v e h =
    subst (λ o. held f o ≡ held g o) (sym (mask_at env x v e)) (held_if f g (env.clean x) (mask_name v) h)

pub origin_elsewhere : (env : Env) (f g : Name → ℕ) (x : Name) (v : ℕ) → env.number x ≡ Some v → f (origin_name v) ≡ g (origin_name v)
    → held f (local_origin env x) ≡ held g (local_origin env x)
origin_elsewhere env f g x v e h =
    subst (λ o. held f o ≡ held g o) (sym (origin_at env x v e)) (held_if f g (env.clean x) (origin_name v) h)

-- words from a set of words that is the same below a base
pub record Numbers (env : Env) (base : ℕ) : Type 0 where
  pub masks : (x : Name) (v : ℕ) → env.number x ≡ Some v → Below base (mask_name v)
  pub origins : (x : Name) (v : ℕ) → env.number x ≡ Some v → Below base (origin_name v)

-- the mask and the origin of a value are set, and no other name
pub record Defines (env : Env) (x : Name) (n : ℕ) (names after : Name → ℕ) (mask origin : ℕ) : Type 0 where
  pub kept : (y : Name) → y ≢ mask_name n → y ≢ origin_name n → after y ≡ names y
  pub mask_held : held after (local_mask env x) ≡ mask
  pub origin_held : mask ≢ 0 → held after (local_origin env x) ≡ origin

pub defines_own : (env : Env) (x : Name) (n : ℕ) (names after : Name → ℕ) (mask origin : ℕ) → Defines env x n names after mask origin
    → (y : Name) → is_reserved y ≡ false → after y ≡ names y
defines_own env x n names after mask origin d y own = d.kept y (own_not_msan y (2 * n + 1) own) (own_not_msan y (2 * n + 2) own)

-- after the instruction, with its result's mask and origin defined before it
pub matches_set : (env : Env) (size : ℕ) (x : Name) (k : KnownName env size x) → OneName env
    → (values : Name → Poisoned) (names after : Name → ℕ) (p : Poisoned) → Matches env values names
    → Defines env x k.place names after p.mask p.origin → Matches env (with_value values x p) (with_value after x p.value)
matches_set env size x k one values names after p m d = record {
  value = λ y own. at_value y own (name_eq y x);
  mask = λ y v e. mask_elsewhere env (with_value after x p.value) after y v e (past_own (mask_name v) (not_mask v)) ∙ at_mask y v e (name_eq y x) refl;
  origin = λ y v e. at_origin y v e (name_eq y x) refl;
}
  where
    past_own : (n : Name) → n ≢ x → with_value after x p.value n ≡ after n
    past_own n ne = with_other after x n p.value ne

    not_mask : (v : ℕ) → mask_name v ≢ x
    not_mask v e = own_not_msan x (2 * v + 1) k.own (sym e)

    not_origin : (v : ℕ) → origin_name v ≢ x
    not_origin v e = own_not_msan x (2 * v + 2) k.own (sym e)

    at_value : (y : Name) → is_reserved y ≡ false → (b : Bool) → (if b then p.value else after y) ≡ (if b then p else values y).value
    at_value y own true = refl
    at_value y own false = defines_own env x k.place names after p.mask p.origin d y own ∙ m.value y own

    -- another name has another number
    other : (y : Name) (v : ℕ) → env.number y ≡ Some v → name_eq y x ≡ false → v ≢ k.place
    other y v e f z =
        let same : y ≡ x = one y x k.place (e ∙ ap Some z) k.numbered in
        let loop : name_eq x x ≡ false = subst (λ i. name_eq i x ≡ false) same f in
        true_false (sym (name_self x) ∙ loop)
      where
        true_false : true ≡ false → ⊥
        true_false g = grind arith

    at_mask : (y : Name) (v : ℕ) → env.number y ≡ Some v → (b : Bool) → name_eq y x ≡ b → held after (local_mask env y) ≡ (if b then p else values y).mask
    at_mask y v e true f = ap (λ i. held after (local_mask env i)) (name_same y x f) ∙ d.mask_held
    at_mask y v e false f =
        let ne = other y v e f in
        mask_elsewhere env after names y v e
        (d.kept (mask_name v) (λ z. ne (mask_name_one v k.place z)) (mask_not_origin v k.place))
        ∙ m.mask y v e

    at_origin : (y : Name) (v : ℕ) → env.number y ≡ Some v → (b : Bool) → name_eq y x ≡ b → (if b then p else values y).mask ≢ 0
        → held (with_value after x p.value) (local_origin env y) ≡ (if b then p else values y).origin
    at_origin y v e true f ne =
        origin_elsewhere env (with_value after x p.value) after y v e (past_own (origin_name v) (not_origin v))
        ∙ ap (λ i. held after (local_origin env i)) (name_same y x f) ∙ d.origin_held ne
    at_origin y v e false f ne =
        let nv = other y v e f in
        origin_elsewhere env (with_value after x p.value) after y v e (past_own (origin_name v) (not_origin v))
        ∙ origin_elsewhere env after names y v e
        (d.kept (origin_name v) (λ z. mask_not_origin k.place v (sym z)) (λ z. nv (origin_name_one v k.place z)))
        ∙ m.origin y v e ne

-- ---- words that are the same below a base

pub matches_same : (env : Env) (base : ℕ) → Numbers env base → (values : Name → Poisoned) (v u : Values)
    → Matches env values v.names → Same base v u → Matches env values u.names
matches_same env base low values v u m s = record {
  value = λ y own. sym (s.names y (own_below base y own)) ∙ m.value y own;
  mask = λ y n e. mask_elsewhere env u.names v.names y n e (sym (s.names (mask_name n) (low.masks y n e))) ∙ m.mask y n e;
  origin = λ y n e ne. origin_elsewhere env u.names v.names y n e (sym (s.names (origin_name n) (low.origins y n e))) ∙ m.origin y n e ne;
}
