-- The function that has a site, by the place of its instruction.
use Rattle.std.proofs.Common.{◌≡◌, ◌<◌, ◌≤◌, ℕ, zero, suc, ◌+◌, ◌-◌, List, [], ◌∷◌, Some, None, refl, sym, ap, ◌∙◌, subst, arith, take, length, if◌then◌else◌, Bool, true, false, inl, inr}
use Rattle.std.specs.Prelude.{slice_get}
use Rattle.std.proofs.lemmas.Bool.{cases_lt, lt-ltb, le-ltb, ne_eqb}
use Rattle.std.proofs.lemmas.Option.{same_Some, none-some, slice_get_within}
use Rattle.ms_ir.specs.declared.syntax.Inst.{Inst}
use Rattle.ms_ir.specs.declared.syntax.Block.{Block}
use Rattle.ms_ir.specs.declared.syntax.Func.{Func}
use Rattle.ms_ir.specs.declared.syntax.Module.{Module}
use Rattle.ms_ir.specs.declared.places.Place.{Place}
use Rattle.ms_ir.specs.Instructions.{over_insts, over_blocks, over_funcs, one_unmarked}
use Rattle.ms_ir.specs.Places.{count_sites, IsPlaceOf}
use Rattle.ms_ir.specs.Searches.{FoundInst, FoundBlock, FoundFunc}
use Rattle.ms_ir.proofs.Counting.{stands, site_by_parts, insts_part, blocks_part, blocks_are, insts_are, found_place}
use Rattle.ms_report.specs.RunTexts.{sites_of, function_after, function_of}

-- ---- with a place

-- the function with a number has the sites after those of the functions before it
after_found : (fs : List Func) (i k n : ℕ) (f : Func) → slice_get fs i ≡ Some f → k < sites_of f → n ≡ over_funcs one_unmarked (take i fs) + k
    → function_after fs n ≡ Some f.name
after_found [] i k n f here within is = absurd (none-some f here)
after_found (g ∷ gs) zero k n f here within is =
    let e : g ≡ f = same_Some g f here in
    let l : sites_of f ≡ sites_of g = ap sites_of (sym e) in
    rw (lt-ltb n (sites_of g) (omega (arith, is, within, l))) (ap (λ h. Some h.name) e)
after_found (g ∷ gs) (suc i) k n f here within is =
    rw (le-ltb n (sites_of g) (omega (arith, is))) (after_found gs i k (n - sites_of g) f here within (omega (arith, is)))

pub at_place : (m : Module) (site : ℕ) (p : Place) (f : Func) → IsPlaceOf m site p → slice_get m.funcs p.func ≡ Some f → function_of m site ≡ Some f.name
at_place m site p f place here =
    let u = place.unmarked in
    let s = stands m p.func p.block p.inst u.inst u.here in
    let same : s.func ≡ f = same_Some s.func f (sym s.func_here ∙ here) in
    let e = site_by_parts m p.func p.block p.inst s.func s.block s.func_here s.block_here in
    let one : one_unmarked u.inst ≡ 1 = ap (λ b. if b then 0 else 1) u.unmarked in
    let i = insts_part s.block.insts p.inst u.inst s.inst_here in
    let b = blocks_part s.func.blocks p.block s.block s.block_here in
    let k = over_blocks one_unmarked (take p.block s.func.blocks) + over_insts one_unmarked (take p.inst s.block.insts) in
    let within : k < sites_of s.func = omega (arith, one, i, b) in
    let is : site - 1 ≡ over_funcs one_unmarked (take p.func m.funcs) + k = omega (arith, e, place.site_is) in
    rw (ne_eqb site 0 (λ z. omega (arith, e, place.site_is, z)))
    (after_found m.funcs p.func k (site - 1) s.func s.func_here within is ∙ ap (λ h. Some h.name) same)

pub has_func : (m : Module) (site : ℕ) (p : Place) → IsPlaceOf m site p → length m.funcs ≤ p.func → ⊥
has_func m site p place h =
    let u = place.unmarked in
    let s = stands m p.func p.block p.inst u.inst u.here in
    let l = slice_get_within m.funcs p.func s.func s.func_here in
    omega (arith, l, h)

-- ---- without one

record SomeInst (insts : List Inst) (n : ℕ) : Type 0 where
  index : ℕ
  found : FoundInst insts n index

record SomeBlock (blocks : List Block) (n : ℕ) : Type 0 where
  index : ℕ
  left : ℕ
  found : FoundBlock blocks n index left

record SomeFunc (funcs : List Func) (n : ℕ) : Type 0 where
  index : ℕ
  left : ℕ
  found : FoundFunc funcs n index left

-- after one more instruction
after_one : (x : Inst) (rest : List Inst) (k n : ℕ) → n ≡ one_unmarked x + k → SomeInst rest k → SomeInst (x ∷ rest) n
after_one x rest k n is r =
    record { index = suc r.index; found = record { inst = r.found.inst; here = r.found.here; unmarked = r.found.unmarked; before = omega (arith, is, r.found.before) } }

by_mark : (x : Inst) (rest : List Inst) (n : ℕ) → n < over_insts one_unmarked (x ∷ rest) → ((k : ℕ) → k < over_insts one_unmarked rest → SomeInst rest k)
    → (b : Bool) → x.marked ≡ b → SomeInst (x ∷ rest) n
by_mark x rest n l more true h =
    let none : one_unmarked x ≡ 0 = ap (λ b. if b then 0 else 1) h in
    after_one x rest n n (omega (arith, none)) (more n (omega (arith, l, none)))
by_mark x rest zero l more false h = record { index = 0; found = record { inst = x; here = refl; unmarked = h; before = refl } }
by_mark x rest (suc n) l more false h =
    let one : one_unmarked x ≡ 1 = ap (λ b. if b then 0 else 1) h in
    after_one x rest n (suc n) (omega (arith, one)) (more n (omega (arith, l, one)))

-- below the number of unmarked instructions, each number is one's
some_inst : (insts : List Inst) (n : ℕ) → n < over_insts one_unmarked insts → SomeInst insts n
some_inst [] n l = absurd (omega (arith, l))
some_inst (x ∷ rest) n l = by_mark x rest n l (λ k h. some_inst rest k h) x.marked refl

some_block : (blocks : List Block) (n : ℕ) → n < over_blocks one_unmarked blocks → SomeBlock blocks n
some_block [] n l = absurd (omega (arith, l))
some_block (b ∷ rest) n l = elim (cases_lt n (over_insts one_unmarked b.insts)) [
  | inl here ↦ record { index = 0; left = n; found = record { block = b; here = refl; before = omega arith; within = here } }
  | inr after ↦
      let r = some_block rest (n - over_insts one_unmarked b.insts) (omega (arith, l, after)) in
      record { index = suc r.index; left = r.left; found = record { block = r.found.block; here = r.found.here; before = omega (arith, after, r.found.before); within = r.found.within } }
]

some_func : (funcs : List Func) (n : ℕ) → n < over_funcs one_unmarked funcs → SomeFunc funcs n
some_func [] n l = absurd (omega (arith, l))
some_func (f ∷ rest) n l = elim (cases_lt n (over_blocks one_unmarked f.blocks)) [
  | inl here ↦ record { index = 0; left = n; found = record { func = f; here = refl; before = omega arith; within = here } }
  | inr after ↦
      let r = some_func rest (n - over_blocks one_unmarked f.blocks) (omega (arith, l, after)) in
      record { index = suc r.index; left = r.left; found = record { func = r.found.func; here = r.found.here; before = omega (arith, after, r.found.before); within = r.found.within } }
]

-- each site that is counted has a place
record SomePlace (m : Module) (site : ℕ) : Type 0 where
  place : Place
  is : IsPlaceOf m site place

some_place : (m : Module) (n : ℕ) → n < count_sites m → SomePlace m (1 + n)
some_place m n l =
    let f = some_func m.funcs n l in
    let bs = blocks_are m f.index f.found.func f.found.here in
    let b = some_block f.found.func.blocks f.left f.found.within in
    let is = insts_are m f.index b.index f.found.func b.found.block f.found.here b.found.here in
    let i = some_inst b.found.block.insts b.left b.found.within in
    record {
      place = record { func = f.index; block = b.index; inst = i.index };
      is = found_place m n f.index f.left b.index b.left i.index f.found
          (subst (λ l. FoundBlock l f.left b.index b.left) (sym bs) b.found)
          (subst (λ l. FoundInst l b.left i.index) (sym is) i.found);
    }

-- after the sites of all functions none has one
after_none : (fs : List Func) (n : ℕ) → over_funcs one_unmarked fs ≤ n → function_after fs n ≡ None
after_none [] n h = refl
after_none (f ∷ fs) n h = rw (le-ltb n (sites_of f) (omega (arith, h))) (after_none fs (n - sites_of f) (omega (arith, h)))

pub nowhere : (m : Module) (site : ℕ) → ((p : Place) → IsPlaceOf m site p → ⊥) → function_of m site ≡ None
nowhere m zero none = refl
nowhere m (suc n) none = elim (cases_lt n (count_sites m)) [
  | inl l ↦ let s = some_place m n l in absurd (none s.place (subst (λ k. IsPlaceOf m k s.place) (omega arith) s.is))
  | inr h ↦ rw (ne_eqb (suc n) 0 (λ z. omega (arith, z))) (after_none m.funcs (suc n - 1) (omega (arith, h)))
]
