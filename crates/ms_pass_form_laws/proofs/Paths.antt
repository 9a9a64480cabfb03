-- Uses in a function that has another's blocks, with more instructions in them.
use Rattle.std.proofs.Common.{◌≡◌, ℕ, zero, suc, ◌+◌, List, [], ◌∷◌, ◌++◌, Option, Some, None, refl, sym, ap, subst, ◌∙◌, arith, inl, inr, ⊎_elim}
use Rattle.std.specs.Prelude.{◌⊎◌, Any, Contains, take, slice_get, unwrap_or, option_map}
use Rattle.std.specs.List.{cons_option}
use Rattle.ms_ir.specs.declared.syntax.Name.{Name}
use Rattle.ms_ir.specs.declared.syntax.Inst.{Inst}
use Rattle.ms_ir.specs.declared.syntax.Func.{Func}
use Rattle.ms_ir.specs.Locals.{results, parameter_names}
use Rattle.ms_check_valid.specs.Paths.{insts_of, successors, Leads, Path, block_results, Passes, IsDefined}
use Rattle.ms_ir.specs.declared.syntax.Block.{Block}
use Rattle.std.proofs.lemmas.List.Elements.{filter_map-append}

-- the instructions of the block with a number
abbrev pub insts_in : List Block → ℕ → List Inst
insts_in bs b = unwrap_or (option_map (λ k. k.insts) (slice_get bs b)) []

-- ---- members of lists

-- a name stands in a list
abbrev pub In : List Name → Name → Type 0
In [] x = ⊥
In (y ∷ ys) x = (y ≡ x) ⊎ In ys x

pub to_in : (ys : List Name) (x : Name) → Contains ys x → In ys x
to_in [] x h = absurd (omega (arith, h.1))
to_in (y ∷ ys) x (zero, l, e) = inl e
to_in (y ∷ ys) x (suc k, l, e) = inr (to_in ys x (k, omega (arith, l), e))

pub from_in : (ys : List Name) (x : Name) → In ys x → Contains ys x
from_in [] x h = absurd h
from_in (y ∷ ys) x (inl e) = (0, omega arith, e)
from_in (y ∷ ys) x (inr h) = let r = from_in ys x h in (suc r.0, omega (arith, r.1), r.2)

pub in_left : (a b : List Name) (x : Name) → In a x → In (a ++ b) x
in_left [] b x h = absurd h
in_left (y ∷ a) b x (inl e) = inl e
in_left (y ∷ a) b x (inr h) = inr (in_left a b x h)

pub in_right : (a b : List Name) (x : Name) → In b x → In (a ++ b) x
in_right [] b x h = h
in_right (y ∷ a) b x h = inr (in_right a b x h)

pub in_either : (a b : List Name) (x : Name) → In (a ++ b) x → In a x ⊎ In b x
in_either [] b x h = inr h
in_either (y ∷ a) b x (inl e) = inl (inl e)
in_either (y ∷ a) b x (inr h) = ⊎_elim (λ p. inl (inr p)) (λ q. inr q) (in_either a b x h)

pub results_append : (a b : List Inst) → results (a ++ b) ≡ results a ++ results b
results_append a b = filter_map-append (λ i. i.result) a b

-- the result of an instruction is among those of a list that has it
pub result_in : (is : List Inst) (k : ℕ) (i : Inst) (x : Name) → slice_get is k ≡ Some i → i.result ≡ Some x → In (results is) x
result_in [] k i x e named = grind arith
result_in (j ∷ rest) zero i x e named = subst (λ o. In (cons_option o (results rest)) x) (sym (ap (λ o. (unwrap_or o j).result) e ∙ named)) (inl refl)
result_in (j ∷ rest) (suc k) i x e named = by_result j.result (result_in rest k i x e named)
  where
    by_result : (o : Option Name) → In (results rest) x → In (cons_option o (results rest)) x
    by_result None h = h
    by_result (Some y) h = inr h

-- more instructions have more results
pub take_more : (is : List Inst) (p q : ℕ) (x : Name) → In (results (take p is)) x → In (results (take (p + q) is)) x
take_more is zero q x h = absurd h
take_more [] (suc p) q x h = absurd h
take_more (i ∷ is) (suc p) q x h = subst (λ n. In (results (take n (i ∷ is))) x) {x = suc (p + q)} {y = suc p + q} (omega arith) (by_result i.result h (take_more is p q x))
  where
    by_result : (o : Option Name) → In (cons_option o (results (take p is))) x → (In (results (take p is)) x → In (results (take (p + q) is)) x)
        → In (cons_option o (results (take (p + q) is))) x
    by_result None g more = more g
    by_result (Some y) (inl e) more = inl e
    by_result (Some y) (inr g) more = inr (more g)

-- ---- paths

-- g has the blocks of f, with the same edges
pub record Keeps (f g : Func) : Type 0 where
  pub params : g.params ≡ f.params
  pub leads : (b : ℕ) → successors g b ≡ successors f b

leads_back : (f g : Func) → Keeps f g → (b : ℕ) (rest : List ℕ) → Leads g b rest → Leads f b rest
leads_back f g k b [] l = tt
leads_back f g k b (c ∷ rest) l = (subst (λ s. Contains s c) (k.leads b) l.0, leads_back f g k c rest l.1)

pub path_back : (f g : Func) → Keeps f g → (bs : List ℕ) → Path g bs → Path f bs
path_back f g k [] p = p
path_back f g k (b ∷ rest) p = (p.0, leads_back f g k b rest p.1)

-- who passes x in f passes y in g
pub record Accompanies (f g : Func) (x y : Name) : Type 0 where
  pub own : Contains (parameter_names f) x → Contains (parameter_names g) y
  pub blocks : (b : ℕ) → In (block_results f b) x → In (block_results g b) y

any_block : (P Q : ℕ → Type 0) → ((b : ℕ) → P b → Q b) → (bs : List ℕ) → Any P bs → Any Q bs
any_block P Q h bs a = (a.0, a.1, a.2, a.3, h a.1 a.4)

-- a use of y in g is defined where one of x in f is, if what stands before the one follows what stands before the other
pub defined_too : (f g : Func) → Keeps f g → (x y : Name) → Accompanies f g x y → (b p q : ℕ)
    → (In (results (take p (insts_of f b))) x → In (results (take q (insts_of g b))) y)
    → IsDefined f (record { block = b; place = p; name = x }) → IsDefined g (record { block = b; place = q; name = y })
defined_too f g k x y a b p q there d = ⊎_elim (λ own. inl (a.own own)) (λ all. inr (λ before path. each before path (all before (path_back f g k (before ++ b ∷ []) path)))) d
  where
    each : (before : List ℕ) → Path g (before ++ b ∷ []) → Passes f before (record { block = b; place = p; name = x }) → Passes g before (record { block = b; place = q; name = y })
    each before path passed =
        ⊎_elim
        (λ h. inl (any_block (λ c. Contains (block_results f c) x) (λ c. Contains (block_results g c) y) (λ c s. from_in (block_results g c) y (a.blocks c (to_in (block_results f c) x s))) before h))
        (λ h. inr (from_in (results (take q (insts_of g b))) y (there (to_in (results (take p (insts_of f b))) x h))))
        passed

-- what is set before it in the block is defined
pub defined_before : (g : Func) (b q : ℕ) (y : Name) → In (results (take q (insts_of g b))) y → IsDefined g (record { block = b; place = q; name = y })
defined_before g b q y h = inr (λ before path. inr (from_in (results (take q (insts_of g b))) y h))

-- and what is defined at a place is so further on
pub defined_later : (g : Func) (b q r : ℕ) (y : Name) → IsDefined g (record { block = b; place = q; name = y }) → IsDefined g (record { block = b; place = q + r; name = y })
defined_later g b q r y d = ⊎_elim (λ own. inl own) (λ all. inr (λ before path. each before (all before path))) d
  where
    each : (before : List ℕ) → Passes g before (record { block = b; place = q; name = y }) → Passes g before (record { block = b; place = q + r; name = y })
    each before passed = ⊎_elim (λ h. inl h)
        (λ h. inr (from_in (results (take (q + r) (insts_of g b))) y (take_more (insts_of g b) q r y (to_in (results (take q (insts_of g b))) y h)))) passed

-- what the entry block sets is defined at a place after it, and in all other blocks
pub defined_from_entry : (g : Func) (b q : ℕ) (y : Name) → In (block_results g 0) y → (b ≡ 0 → In (results (take q (insts_of g b))) y)
    → IsDefined g (record { block = b; place = q; name = y })
defined_from_entry g b q y there here = inr by_path
  where
    by_path : (before : List ℕ) → Path g (before ++ b ∷ []) → Passes g before (record { block = b; place = q; name = y })
    by_path [] path = inr (from_in (results (take q (insts_of g b))) y (here path.0))
    by_path (c ∷ rest) path = inl (0, c, omega arith, refl, subst (λ k. Contains (block_results g k) y) (sym path.0) (from_in (block_results g 0) y there))
