-- A jump sets the words of phis, of their masks and of their origins at once.
use Rattle.std.proofs.Common.{◌≡◌, ◌≢◌, ℕ, ◌+◌, ◌*◌, ◌^◌, ◌<◌, List, [], ◌∷◌, ◌++◌, refl, sym, ap, ◌∙◌, subst, arith, Bool, true, false, Option, Some, None, true≢false}
use Rattle.std.specs.Prelude.{if◌then◌else◌, unwrap_or, drop}
use Rattle.ms_ir.specs.declared.syntax.Name.{Name}
use Rattle.ms_ir.specs.declared.syntax.Ty.{Ty, Int}
use Rattle.ms_ir.specs.declared.syntax.Operand.{Operand}
use Rattle.ms_ir.specs.declared.syntax.Operand.TheVariants as operand
use Rattle.ms_ir.specs.declared.syntax.Op.{Op}
use Rattle.ms_ir.specs.declared.syntax.Op.TheVariants as op
use Rattle.ms_ir.specs.declared.syntax.Inst.{Inst}
use Rattle.ms_ir.specs.Names.{name_eq, is_reserved}
use Rattle.ms_ir.specs.Layout.{width_of}
use Rattle.ms_runs.specs.World.{Setting, Here}
use Rattle.ms_ir.specs.Instructions.{is_phi, one_undef, roots_in}
use Rattle.ms_ir.proofs.RootKinds.{name_same}
use Rattle.ms_runs.specs.Control.{with_value, read_edge, phis, count_phis}
use Rattle.ms_runs.specs.Act.{operand_word}
use Rattle.ms_runs.specs.Poisoned.{Poisoned, clean}
use Rattle.ms_runs.specs.Shadow.{read_poisoned}
use Rattle.ms_pass_tasks.specs.Tasks.{mask_name, origin_name}
use Rattle.ms_pass_tasks.specs.Meaning.{AllMarked}
use Rattle.ms_pass_tasks.specs.Environments.{Env, Given, mask_type, mask_operand, origin_operand}
use Rattle.ms_pass_tasks.specs.Emit.{emit_tasks, start, before_tasks}
use Rattle.ms_pass_tasks.specs.Known.{KnownName, OneName, KnownEdges, edge_roots, KnownPhi, KnownPhis, PhiRoot, PhiRoots}
use Rattle.ms_pass_tasks.specs.Match.{held, Matches, RangedValues}
use Rattle.ms_pass_tasks.specs.PassLists.{mask_edges, origin_from, origins_by, origin_edges, phi_pair, phi_code, next_here, pass_insts, here_past}
use Rattle.ms_pass_tasks.proofs.InsertedNames.{own_not_msan, mask_not_origin, mask_name_one, origin_name_one, name_self, with_here, with_other}
use Rattle.ms_pass_tasks.proofs.OperandWords.{value_known, mask_known, origin_known, mask_at, origin_at}
use Rattle.ms_pass_tasks.proofs.Marked.{tasks_marked}

-- ---- words that say nothing of clean values

-- words match, but nothing is said of values that are known to be clean
pub record Raw (env : Env) (values : Name → Poisoned) (names : Name → ℕ) : Type 0 where
  pub value : (x : Name) → is_reserved x ≡ false → names x ≡ (values x).value
  pub mask : (x : Name) (v : ℕ) → env.number x ≡ Some v → env.clean x ≡ false → names (mask_name v) ≡ (values x).mask
  pub origin : (x : Name) (v : ℕ) → env.number x ≡ Some v → env.clean x ≡ false → (values x).mask ≢ 0 → names (origin_name v) ≡ (values x).origin

pub raw_of : (env : Env) (values : Name → Poisoned) (names : Name → ℕ) → Matches env values names → Raw env values names
raw_of env values names m = record {
  value = m.value;
  mask = λ x v e c. sym (ap (held names) (mask_at env x v e) ∙ ap (λ b. held names (if b then operand.Int 0 else operand.Local (mask_name v))) c) ∙ m.mask x v e;
  origin = λ x v e c ne. sym (ap (held names) (origin_at env x v e) ∙ ap (λ b. held names (if b then operand.Int 0 else operand.Local (origin_name v))) c) ∙ m.origin x v e ne;
}

-- where clean values have the mask 0
pub raw_matches : (env : Env) (values : Name → Poisoned) (names : Name → ℕ) → Raw env values names → ((x : Name) → env.clean x ≡ true → (values x).mask ≡ 0) → Matches env values names
raw_matches env values names r c = record {
  value = r.value;
  mask = λ x v e. by_clean x v e (env.clean x) refl;
  origin = λ x v e ne. origin_clean x v e ne (env.clean x) refl;
}
  where
    by_clean : (x : Name) (v : ℕ) → env.number x ≡ Some v → (b : Bool) → env.clean x ≡ b → held names (elim (env.number x) [ Some v ↦ if env.clean x then operand.Int 0 else operand.Local (mask_name v) | None ↦ operand.Int 0 ]) ≡ (values x).mask
    by_clean x v e true f = ap (held names) (mask_at env x v e) ∙ ap (λ b. held names (if b then operand.Int 0 else operand.Local (mask_name v))) f ∙ sym (c x f)
    by_clean x v e false f = ap (held names) (mask_at env x v e) ∙ ap (λ b. held names (if b then operand.Int 0 else operand.Local (mask_name v))) f ∙ r.mask x v e f

    origin_clean : (x : Name) (v : ℕ) → env.number x ≡ Some v → (values x).mask ≢ 0 → (b : Bool) → env.clean x ≡ b
        → held names (elim (env.number x) [ Some v ↦ if env.clean x then operand.Int 0 else operand.Local (origin_name v) | None ↦ operand.Int 0 ]) ≡ (values x).origin
    origin_clean x v e ne true f = absurd (ne (c x f))
    origin_clean x v e ne false f = ap (held names) (origin_at env x v e) ∙ ap (λ b. held names (if b then operand.Int 0 else operand.Local (origin_name v))) f ∙ r.origin x v e f ne

-- ---- one phi

module _ (s : Setting) (env : Env) (size : ℕ) (values : Name → Poisoned) (names : Name → ℕ) (m : Matches env values names) (r : RangedValues values) (from : Name) where
  -- how a plain run reads the words of edges
  abbrev plain_read : ℕ → Ty → Operand → ℕ
  plain_read root t o = operand_word s names (width_of t) o

  edge_value : (t : Ty) (es : List (Operand × Name)) (n k : ℕ) → KnownEdges env size es
      → read_edge plain_read 0 t from es k ≡ (read_edge (read_poisoned s values) clean t from es n).value
  edge_value t [] n k known = refl
  edge_value t (e ∷ es) n k known = by_name (edge_value t es (n + one_undef e.0) (k + one_undef e.0) known.1) (name_eq e.1 from)
    where
      by_name : read_edge plain_read 0 t from es (k + one_undef e.0) ≡ (read_edge (read_poisoned s values) clean t from es (n + one_undef e.0)).value → (b : Bool) → (if b then plain_read k t e.0 else read_edge plain_read 0 t from es (k + one_undef e.0))
          ≡ (if b then read_poisoned s values n t e.0 else read_edge (read_poisoned s values) clean t from es (n + one_undef e.0)).value
      by_name h true = value_known s env size values names m.value (width_of t) e.0 known.0
      by_name h false = h

  edge_mask : (t : Ty) (es : List (Operand × Name)) (n k : ℕ) → KnownEdges env size es
      → read_edge plain_read 0 (mask_type t) from (mask_edges env (width_of t) es) k ≡ (read_edge (read_poisoned s values) clean t from es n).mask
  edge_mask t [] n k known = refl
  edge_mask t (e ∷ es) n k known = by_name (edge_mask t es (n + one_undef e.0) (k + one_undef (mask_operand env (width_of t) e.0)) known.1) (name_eq e.1 from)
    where
      by_name : read_edge plain_read 0 (mask_type t) from (mask_edges env (width_of t) es) (k + one_undef (mask_operand env (width_of t) e.0)) ≡ (read_edge (read_poisoned s values) clean t from es (n + one_undef e.0)).mask
          → (b : Bool) → (if b then plain_read k (mask_type t) (mask_operand env (width_of t) e.0) else read_edge plain_read 0 (mask_type t) from (mask_edges env (width_of t) es) (k + one_undef (mask_operand env (width_of t) e.0)))
          ≡ (if b then read_poisoned s values n t e.0 else read_edge (read_poisoned s values) clean t from es (n + one_undef e.0)).mask
      by_name h true = mask_known s env size values names m (width_of t) e.0 known.0
      by_name h false = h

  -- the origin that is given for a block is that of the operand that is taken
  taken_origin : (t : Ty) (es : List (Operand × Name)) (n k : ℕ) → KnownEdges env size es → n + edge_roots es < 2 ^ 32
      → (read_edge (read_poisoned s values) clean t from es n).mask ≢ 0
      → plain_read k (Int 32) (origin_from env n es from) ≡ (read_edge (read_poisoned s values) clean t from es n).origin
  taken_origin t [] n k known less ne = absurd (ne refl)
  taken_origin t (e ∷ es) n k known less ne = by_name (λ ne. taken_origin t es (n + one_undef e.0) k known.1 (omega arith) ne) (name_eq e.1 from) ne
    where
      by_name : ((read_edge (read_poisoned s values) clean t from es (n + one_undef e.0)).mask ≢ 0
          → plain_read k (Int 32) (origin_from env (n + one_undef e.0) es from) ≡ (read_edge (read_poisoned s values) clean t from es (n + one_undef e.0)).origin)
          → (b : Bool) → (if b then read_poisoned s values n t e.0 else read_edge (read_poisoned s values) clean t from es (n + one_undef e.0)).mask ≢ 0
          → plain_read k (Int 32) (if b then origin_operand env n e.0 else origin_from env (n + one_undef e.0) es from)
          ≡ (if b then read_poisoned s values n t e.0 else read_edge (read_poisoned s values) clean t from es (n + one_undef e.0)).origin
      by_name h true ne = origin_known s env size values names m r (width_of t) n e.0 known.0 (omega arith) ne
      by_name h false ne = h ne

  -- each edge that names the block gives it, and where none does, the mask is 0
  given_origin : (t : Ty) (all es : List (Operand × Name)) (n l k : ℕ) → (read_edge (read_poisoned s values) clean t from es l).mask ≢ 0
      → (o : ℕ) → ((j : ℕ) → plain_read j (Int 32) (origin_from env n all from) ≡ o)
      → read_edge plain_read 0 (Int 32) from (origins_by env n all es) k ≡ o
  given_origin t all [] n l k ne o h = absurd (ne refl)
  given_origin t all (e ∷ es) n l k ne o h =
      by_name (name_eq e.1 from) refl ne (λ ne. given_origin t all es n (l + one_undef e.0) (k + one_undef (origin_from env n all e.1)) ne o h)
    where
      by_name : (b : Bool) → name_eq e.1 from ≡ b → (if b then read_poisoned s values l t e.0 else read_edge (read_poisoned s values) clean t from es (l + one_undef e.0)).mask ≢ 0
          → ((read_edge (read_poisoned s values) clean t from es (l + one_undef e.0)).mask ≢ 0
          → read_edge plain_read 0 (Int 32) from (origins_by env n all es) (k + one_undef (origin_from env n all e.1)) ≡ o)
          → (if b then plain_read k (Int 32) (origin_from env n all e.1) else read_edge plain_read 0 (Int 32) from (origins_by env n all es) (k + one_undef (origin_from env n all e.1))) ≡ o
      by_name true same ne go = ap (λ x. plain_read k (Int 32) (origin_from env n all x)) (name_same e.1 from same) ∙ h k
      by_name false same ne go = go ne

  edge_origin : (t : Ty) (es : List (Operand × Name)) (n k : ℕ) → KnownEdges env size es → n + edge_roots es < 2 ^ 32
      → (read_edge (read_poisoned s values) clean t from es n).mask ≢ 0
      → read_edge plain_read 0 (Int 32) from (origin_edges env n es) k ≡ (read_edge (read_poisoned s values) clean t from es n).origin
  edge_origin t es n k known less ne =
      given_origin t es es n n k ne (read_edge (read_poisoned s values) clean t from es n).origin (λ j. taken_origin t es n j known less ne)

-- ---- a value, its mask and its origin are set

module _ (env : Env) (size : ℕ) (one : OneName env) (x : Name) (k : KnownName env size x) (values : Name → Poisoned) (names : Name → ℕ) (p : Poisoned) (raw : Raw env values names) where
  other : (y : Name) (v : ℕ) → env.number y ≡ Some v → name_eq y x ≡ false → v ≢ k.place
  other y v e f z =
      let same : y ≡ x = one y x k.place (e ∙ ap Some z) k.numbered in
      true≢false (sym (name_self x) ∙ subst (λ i. name_eq i x ≡ false) same f)

  -- the words with that of the phi itself
  abbrev with_own : Name → ℕ
  with_own = with_value names x p.value

  past_mask : (v : ℕ) → with_own (mask_name v) ≡ names (mask_name v)
  past_mask v = with_other names x (mask_name v) p.value (λ e. own_not_msan x (2 * v + 1) k.own (sym e))

  past_origin : (v : ℕ) → with_own (origin_name v) ≡ names (origin_name v)
  past_origin v = with_other names x (origin_name v) p.value (λ e. own_not_msan x (2 * v + 2) k.own (sym e))

  raw_clean : env.clean x ≡ true → Raw env (with_value values x p) with_own
  raw_clean cl = record {
    value = λ y own. at_value y own (name_eq y x);
    mask = λ y v e c. at_mask y v e c (name_eq y x) refl;
    origin = λ y v e c. at_origin y v e c (name_eq y x) refl;
  }
    where
      at_value : (y : Name) → is_reserved y ≡ false → (b : Bool) → (if b then p.value else names y) ≡ (if b then p else values y).value
      at_value y own true = refl
      at_value y own false = raw.value y own

      at_mask : (y : Name) (v : ℕ) → env.number y ≡ Some v → env.clean y ≡ false → (b : Bool) → name_eq y x ≡ b → with_own (mask_name v) ≡ (if b then p else values y).mask
      at_mask y v e c true f = absurd (true≢false (sym cl ∙ subst (λ i. env.clean i ≡ false) (name_same y x f) c))
      at_mask y v e c false f = past_mask v ∙ raw.mask y v e c

      at_origin : (y : Name) (v : ℕ) → env.number y ≡ Some v → env.clean y ≡ false → (b : Bool) → name_eq y x ≡ b → (if b then p else values y).mask ≢ 0
          → with_own (origin_name v) ≡ (if b then p else values y).origin
      at_origin y v e c true f ne = absurd (true≢false (sym cl ∙ subst (λ i. env.clean i ≡ false) (name_same y x f) c))
      at_origin y v e c false f ne = past_origin v ∙ raw.origin y v e c ne

  raw_set : (mask origin : ℕ) → mask ≡ p.mask → (p.mask ≢ 0 → origin ≡ p.origin)
      → Raw env (with_value values x p) (with_value (with_value with_own (mask_name k.place) mask) (origin_name k.place) origin)
  raw_set mask origin me oe = record {
    value = λ y own. past2 y (own_not_msan y (2 * k.place + 1) own) (own_not_msan y (2 * k.place + 2) own) ∙ at_value y own (name_eq y x);
    mask = λ y v e c. at_mask y v e c (name_eq y x) refl;
    origin = λ y v e c. at_origin y v e c (name_eq y x) refl;
  }
    where
      past2 : (y : Name) → y ≢ mask_name k.place → y ≢ origin_name k.place → with_value (with_value with_own (mask_name k.place) mask) (origin_name k.place) origin y ≡ with_own y
      past2 y f g = with_other (with_value with_own (mask_name k.place) mask) (origin_name k.place) y origin g ∙ with_other with_own (mask_name k.place) y mask f

      at_value : (y : Name) → is_reserved y ≡ false → (b : Bool) → (if b then p.value else names y) ≡ (if b then p else values y).value
      at_value y own true = refl
      at_value y own false = raw.value y own

      place_is : (y : Name) (v : ℕ) → env.number y ≡ Some v → name_eq y x ≡ true → v ≡ k.place
      place_is y v e f = some_same v k.place (sym e ∙ ap env.number (name_same y x f) ∙ k.numbered)
        where
          some_same : (a b : ℕ) → Some a ≡ Some b → a ≡ b
          some_same a b q = ap (λ o. unwrap_or o 0) q

      at_mask : (y : Name) (v : ℕ) → env.number y ≡ Some v → env.clean y ≡ false → (b : Bool) → name_eq y x ≡ b
          → with_value (with_value with_own (mask_name k.place) mask) (origin_name k.place) origin (mask_name v) ≡ (if b then p else values y).mask
      at_mask y v e c true f =
          ap (λ i. with_value (with_value with_own (mask_name k.place) mask) (origin_name k.place) origin (mask_name i)) (place_is y v e f)
          ∙ with_other (with_value with_own (mask_name k.place) mask) (origin_name k.place) (mask_name k.place) origin (mask_not_origin k.place k.place)
          ∙ with_here with_own (mask_name k.place) mask ∙ me
      at_mask y v e c false f =
          past2 (mask_name v) (λ z. other y v e f (mask_name_one v k.place z)) (mask_not_origin v k.place) ∙ past_mask v ∙ raw.mask y v e c

      at_origin : (y : Name) (v : ℕ) → env.number y ≡ Some v → env.clean y ≡ false → (b : Bool) → name_eq y x ≡ b → (if b then p else values y).mask ≢ 0
          → with_value (with_value with_own (mask_name k.place) mask) (origin_name k.place) origin (origin_name v) ≡ (if b then p else values y).origin
      at_origin y v e c true f ne =
          ap (λ i. with_value (with_value with_own (mask_name k.place) mask) (origin_name k.place) origin (origin_name i)) (place_is y v e f)
          ∙ with_here (with_value with_own (mask_name k.place) mask) (origin_name k.place) origin ∙ oe ne
      at_origin y v e c false f ne =
          past2 (origin_name v) (λ z. mask_not_origin k.place v (sym z)) (λ z. other y v e f (origin_name_one v k.place z)) ∙ past_origin v ∙ raw.origin y v e c ne

-- ---- all phis of a block

-- a list begins with no phi
abbrev pub NoPhi : List Inst → Type 0
NoPhi [] = Unit {0}
NoPhi (i ∷ is) = is_phi i.op ≡ false

-- a list that doesn't begin with a phi sets nothing
phis_none : {V : Type 0} (read : ℕ → Ty → Operand → V) (unset : V) (func : Name → Option ℕ) (from : Name) (o : Op) (x : Option Name) (b : Bool) (rest : List Inst) (n : ℕ) (values : Name → V)
    → is_phi o ≡ false → phis read unset func from (record { op = o; result = x; marked = b } ∷ rest) n values ≡ values
phis_none read unset func from (op.Phi t es) x b rest n values e = absurd (true≢false e)
phis_none read unset func from _ x b rest n values e = refl

list_none : {V : Type 0} (read : ℕ → Ty → Operand → V) (unset : V) (func : Name → Option ℕ) (from : Name) (l : List Inst) (i : Inst) (rest : List Inst) (n : ℕ) (values : Name → V)
    → NoPhi l → is_phi i.op ≡ false → phis read unset func from (l ++ (i ∷ rest)) n values ≡ values
list_none read unset func from [] i rest n values e f = phis_none read unset func from i.op i.result i.marked rest n values f
list_none read unset func from (j ∷ l) i rest n values e f = phis_none read unset func from j.op j.result j.marked (l ++ (i ∷ rest)) n values e

count_none : (l : List Inst) (o : Op) (x : Option Name) (b : Bool) (rest : List Inst) → NoPhi l → is_phi o ≡ false → count_phis (l ++ (record { op = o; result = x; marked = b } ∷ rest)) ≡ 0
count_none [] o x b rest e f = one o f
  where
    one : (o : Op) → is_phi o ≡ false → count_phis (record { op = o; result = x; marked = b } ∷ rest) ≡ 0
    one (op.Phi t es) e = absurd (true≢false e)
    one _ e = refl
count_none (j ∷ l) o x b rest e f = first j.op j.result j.marked e
  where
    first : (p : Op) (y : Option Name) (c : Bool) → is_phi p ≡ false → count_phis (record { op = p; result = y; marked = c } ∷ (l ++ (record { op = o; result = x; marked = b } ∷ rest))) ≡ 0
    first (op.Phi t es) y c e = absurd (true≢false e)
    first _ y c e = refl

-- what stands before an instruction begins with no phi
pub no_phi : (given : Given) (env : Env) (h : Here) (i : Inst) (n : ℕ) → NoPhi (emit_tasks given env h i n).before
no_phi given env h i n = first _ (tasks_marked (before_tasks given env h i n) (start given i n))
  where
    first : (l : List Inst) → AllMarked l → NoPhi l
    first [] h = tt
    first (i ∷ l) h = same i.op h.1
      where
        same : (o : Op) → is_phi o ≡ false → is_phi o ≡ false
        same (op.Phi t es) e = e
        same _ e = refl

module _ (given : Given)
    (s : Setting) (env : Env) (size : ℕ) (one : OneName env) (values : Name → Poisoned) (names : Name → ℕ) (m : Matches env values names) (r : RangedValues values) (from : Name) where
  -- how a plain run reads words
  abbrev reads : ℕ → Ty → Operand → ℕ
  reads root t o = operand_word s names (width_of t) o

  -- one phi with its pair
  phi_set : (x : Name) (k : KnownName env size x) (t : Ty) (es : List (Operand × Name)) → KnownEdges env size es → (root n2 : ℕ) → root + edge_roots es < 2 ^ 32
      → (rest : List Inst) (v1 : Name → Poisoned) (n1 : Name → ℕ) → Raw env v1 n1
      → (after : Name → Poisoned)
      → ((n3 : Name → ℕ) (n4 : ℕ) → Raw env (with_value v1 x (read_edge (read_poisoned s values) clean t from es root)) n3 → Raw env after (phis reads 0 given.func from rest n4 n3))
      → Raw env after (phis reads 0 given.func from (record { op = op.Phi t es; result = Some x; marked = false } ∷ (phi_code env root (Some x) t es ++ rest)) n2 n1)
  phi_set x k t es known root n2 less rest v1 n1 raw after go =
      subst (λ z. Raw env after (phis reads 0 given.func from (record { op = op.Phi t es; result = Some x; marked = false }
      ∷ (elim z [ Some v ↦ if env.clean x then [] else phi_pair env v root t es | None ↦ [] ] ++ rest)) n2 n1)) (sym k.numbered) (by_clean (env.clean x) refl)
    where
      p : Poisoned
      p = read_edge (read_poisoned s values) clean t from es root

      value : ℕ
      value = read_edge reads 0 t from es n2

      value_is : read_edge reads 0 t from es n2 ≡ (read_edge (read_poisoned s values) clean t from es root).value
      value_is = edge_value s env size values names m r from t es root n2 known

      by_clean : (b : Bool) → env.clean x ≡ b
          → Raw env after (phis reads 0 given.func from (record { op = op.Phi t es; result = Some x; marked = false } ∷ ((if b then [] else phi_pair env k.place root t es) ++ rest)) n2 n1)
      by_clean true cl =
          go (with_value n1 x (read_edge reads 0 t from es n2)) (n2 + roots_in given.func (record { op = op.Phi t es; result = Some x; marked = false }))
          (subst (λ i. Raw env (with_value v1 x p) (with_value n1 x i)) (sym value_is) (raw_clean env size one x k v1 n1 p raw cl))
      by_clean false cl =
          let k1 = n2 + roots_in given.func (record { op = op.Phi t es; result = Some x; marked = false }) in
          let mask = read_edge reads 0 (mask_type t) from (mask_edges env (width_of t) es) k1 in
          let origin = read_edge reads 0 (Int 32) from (origin_edges env root es) (k1 + 0) in
          go (with_value (with_value (with_value n1 x (read_edge reads 0 t from es n2)) (mask_name k.place) mask) (origin_name k.place) origin) (k1 + 0 + 0)
          (subst (λ i. Raw env (with_value v1 x p) (with_value (with_value (with_value n1 x i) (mask_name k.place) mask) (origin_name k.place) origin)) (sym value_is)
          (raw_set env size one x k v1 n1 p raw mask origin (edge_mask s env size values names m r from t es root k1 known) (edge_origin s env size values names m r from t es root (k1 + 0) known less)))

  -- the words after a jump
  pub jump_raw : (is : List Inst) → KnownPhis env size is → (h : Here) (n n2 : ℕ) → PhiRoots given.func is h.root → (v1 : Name → Poisoned) (n1 : Name → ℕ) → Raw env v1 n1
      → Raw env (phis (read_poisoned s values) clean given.func from is h.root v1) (phis reads 0 given.func from (pass_insts given env is h n).code n2 n1)
  jump_raw [] known h n n2 roots v1 n1 raw = raw
  jump_raw (i ∷ is) known h n n2 roots v1 n1 raw = by_op i.op i.result i.marked known.0 known.1 roots.0
      (λ v2 n3 n4 raw2. jump_raw is known.2 (next_here given h i) n n4 roots.1 v2 n3 raw2)
    where
      by_op : (o : Op) (x : Option Name) (b : Bool) → b ≡ false → KnownPhi env size x o → PhiRoot h.root o
          → ((v2 : Name → Poisoned) (n3 : Name → ℕ) (n4 : ℕ) → Raw env v2 n3
          → Raw env (phis (read_poisoned s values) clean given.func from is (h.root + roots_in given.func (record { op = o; result = x; marked = b })) v2)
          (phis reads 0 given.func from (pass_insts given env is (next_here given h (record { op = o; result = x; marked = b })) n).code n4 n3))
          → Raw env (phis (read_poisoned s values) clean given.func from (record { op = o; result = x; marked = b } ∷ is) h.root v1)
          (phis reads 0 given.func from (pass_insts given env (record { op = o; result = x; marked = b } ∷ is) h n).code n2 n1)
      by_op (op.Phi t es) None b un known roots go = absurd known
      by_op (op.Phi t es) (Some x) true un known roots go = absurd (true≢false un)
      by_op (op.Phi t es) (Some x) false un known roots go =
          phi_set x known.0 t es known.1 h.root n2 roots (pass_insts given env is (next_here given h (record { op = op.Phi t es; result = Some x; marked = false })) n).code v1 n1 raw
          (phis (read_poisoned s values) clean given.func from is (h.root + roots_in given.func (record { op = op.Phi t es; result = Some x; marked = false })) (with_value v1 x (read_edge (read_poisoned s values) clean t from es h.root)))
          (λ n3 n4 raw2. go (with_value v1 x (read_edge (read_poisoned s values) clean t from es h.root)) n3 n4 raw2)
      by_op o x b un known roots go =
          subst (Raw env v1)
          (sym (list_none reads 0 given.func from (emit_tasks given env h (record { op = o; result = x; marked = b }) n).before (record { op = o; result = x; marked = b })
          ((emit_tasks given env h (record { op = o; result = x; marked = b }) n).after
          ++ (pass_insts given env is (next_here given h (record { op = o; result = x; marked = b }))
          (emit_tasks given env h (record { op = o; result = x; marked = b }) n).next).code)
          n2 n1 (no_phi given env h (record { op = o; result = x; marked = b }) n) refl)) raw

  -- the words match after a jump, where clean values have the mask 0 there
  pub jump_matches : (is : List Inst) → KnownPhis env size is → (h : Here) (n n2 : ℕ) → PhiRoots given.func is h.root
      → ((x : Name) → env.clean x ≡ true → (phis (read_poisoned s values) clean given.func from is h.root values x).mask ≡ 0)
      → Matches env (phis (read_poisoned s values) clean given.func from is h.root values) (phis reads 0 given.func from (pass_insts given env is h n).code n2 names)
  jump_matches is known h n n2 roots sound =
      raw_matches env (phis (read_poisoned s values) clean given.func from is h.root values) (phis reads 0 given.func from (pass_insts given env is h n).code n2 names)
      (jump_raw is known h n n2 roots values names (raw_of env values names m)) sound

-- ---- what is left of a block after its phis

module _ (given : Given) (env : Env) (size : ℕ) where
  phi_rest : (x : Name) (k : KnownName env size x) (t : Ty) (es : List (Operand × Name)) (root : ℕ) (rest left : List Inst) → drop (count_phis rest) rest ≡ left
      → drop (count_phis (record { op = op.Phi t es; result = Some x; marked = false } ∷ (phi_code env root (Some x) t es ++ rest)))
      (record { op = op.Phi t es; result = Some x; marked = false } ∷ (phi_code env root (Some x) t es ++ rest)) ≡ left
  phi_rest x k t es root rest left e =
      subst (λ z. drop (count_phis (record { op = op.Phi t es; result = Some x; marked = false } ∷ (elim z [ Some v ↦ if env.clean x then [] else phi_pair env v root t es | None ↦ [] ] ++ rest)))
      (record { op = op.Phi t es; result = Some x; marked = false } ∷ (elim z [ Some v ↦ if env.clean x then [] else phi_pair env v root t es | None ↦ [] ] ++ rest)) ≡ left) (sym k.numbered) (by_clean (env.clean x))
    where
      by_clean : (b : Bool) → drop (count_phis (record { op = op.Phi t es; result = Some x; marked = false } ∷ ((if b then [] else phi_pair env k.place root t es) ++ rest)))
          (record { op = op.Phi t es; result = Some x; marked = false } ∷ ((if b then [] else phi_pair env k.place root t es) ++ rest)) ≡ left
      by_clean true = e
      by_clean false = e

  pub jump_rest : (is : List Inst) → KnownPhis env size is → (h : Here) (n : ℕ)
      → drop (count_phis (pass_insts given env is h n).code) (pass_insts given env is h n).code
      ≡ (pass_insts given env (drop (count_phis is) is) (here_past given.func h is) n).code
  jump_rest [] known h n = refl
  jump_rest (i ∷ is) known h n = by_op i.op i.result i.marked known.0 known.1 (jump_rest is known.2 (next_here given h i) n)
    where
      by_op : (o : Op) (x : Option Name) (b : Bool) → b ≡ false → KnownPhi env size x o
          → drop (count_phis (pass_insts given env is (next_here given h (record { op = o; result = x; marked = b })) n).code)
          (pass_insts given env is (next_here given h (record { op = o; result = x; marked = b })) n).code
          ≡ (pass_insts given env (drop (count_phis is) is) (here_past given.func (next_here given h (record { op = o; result = x; marked = b })) is) n).code
          → drop (count_phis (pass_insts given env (record { op = o; result = x; marked = b } ∷ is) h n).code) (pass_insts given env (record { op = o; result = x; marked = b } ∷ is) h n).code
          ≡ (pass_insts given env (drop (count_phis (record { op = o; result = x; marked = b } ∷ is)) (record { op = o; result = x; marked = b } ∷ is)) (here_past given.func h (record { op = o; result = x; marked = b } ∷ is)) n).code
      by_op (op.Phi t es) None b un known e = absurd known
      by_op (op.Phi t es) (Some x) true un known e = absurd (true≢false un)
      by_op (op.Phi t es) (Some x) false un known e =
          phi_rest x known.0 t es h.root (pass_insts given env is (next_here given h (record { op = op.Phi t es; result = Some x; marked = false })) n).code _ e
      by_op o x b un known e =
          ap (λ k. drop k (pass_insts given env (record { op = o; result = x; marked = b } ∷ is) h n).code)
          (count_none (emit_tasks given env h (record { op = o; result = x; marked = b }) n).before o x b
          ((emit_tasks given env h (record { op = o; result = x; marked = b }) n).after
          ++ (pass_insts given env is (next_here given h (record { op = o; result = x; marked = b }))
          (emit_tasks given env h (record { op = o; result = x; marked = b }) n).next).code)
          (no_phi given env h (record { op = o; result = x; marked = b }) n) refl)
