-- Each use of a value of a module whose names are known and whose phis fit is of a value of its function, in one of its
-- blocks.
use Rattle.std.proofs.Common.{◌≡◌, ℕ, ◌+◌, ◌<◌, List, [], ◌∷◌, ◌++◌, Bool, true, false, cond, not, Some, None, refl, sym, ap, subst, ◌∙◌, arith, length, map, if◌then◌else◌}
use Rattle.std.specs.Prelude.{◌&&◌, ◌||◌, nat_eq, All, Option, option_map, unwrap_or, filter, flat_map, slice_get}
use Rattle.std.specs.List.{list_all}
use Rattle.std.proofs.lemmas.Bool.{and_parts, and_from, or_left, or_right, eqb-true}
use Rattle.std.proofs.lemmas.List.Elements.{All-nil, All-cons, All-append}
use Rattle.std.proofs.lemmas.List.Folds.{list_all-append, list_all-map}
use Rattle.std.proofs.lemmas.List.Sums.{sum_by-cons}
use Rattle.std.proofs.lemmas.Option.{none-some, slice_get_within}
use Rattle.ms_ir.specs.declared.syntax.Name.{Name}
use Rattle.ms_ir.specs.declared.syntax.Operand.{Operand}
use Rattle.ms_ir.specs.declared.syntax.Operand.TheVariants as operand
use Rattle.ms_ir.specs.declared.syntax.Op.{Op}
use Rattle.ms_ir.specs.declared.syntax.Op.TheVariants as op
use Rattle.ms_ir.specs.declared.syntax.Inst.{Inst}
use Rattle.ms_ir.specs.declared.syntax.Block.{Block}
use Rattle.ms_ir.specs.declared.syntax.Func.{Func}
use Rattle.ms_ir.specs.declared.syntax.Module.{Module}
use Rattle.ms_ir.specs.Names.{name_eq}
use Rattle.ms_ir.specs.Instructions.{operands, block_index, func_at, blocks_at, insts_at, site_at, is_phi}
use Rattle.ms_ir.specs.Equal.{has_name}
use Rattle.ms_ir.specs.Locals.{locals, block_names, block_name_at, Spelled}
use Rattle.ms_check_valid.specs.NamesKnown.{knows, spelled, unknown_of, global_mentions}
use Rattle.ms_check_valid.specs.Paths.{insts_of}
use Rattle.ms_check_valid.specs.PhisFit.{count_name, edges_between, edges_agree, phi_fits, edges_fit}
use Rattle.ms_ir.specs.Spots.{Spot, spot, found_at_insts}
use Rattle.ms_check_valid.specs.Refusals.{UpToPhis}
use Rattle.ms_check_valid.specs.UsesDefined.{SiteUse, operand_use, edge_use, inst_uses, uses}
use Rattle.ms_ir.specs.Written.{Mention, OfLocal, OfGlobal, type_mentions, operand_mentions, operands_mentions, labels, mentions}
use Rattle.ms_check_valid.proofs.Finding.{both_empty, at_insts}
use Rattle.ms_check_valid.proofs.Joining.{from_module}
use Rattle.ms_check_valid.proofs.NamePlaces.{index_below}
use Rattle.ms_check_valid.proofs.NameTests.{name_same}
use Rattle.ms_check_valid.proofs.AtInstructions.{passes_test}
use Rattle.ms_check_flow.specs.Asked.{IsWithin}
use Rattle.ms_check_flow.proofs.Arrived.{from_known}

-- ---- tests of lists

-- what each item of a list gives has what is asked, where a test of each passes
all_of_each : {A B : Type 0} (t : A → Bool) (P : B → Type 0) (h : A → List B) → ((a : A) → t a ≡ true → All P (h a))
    → (xs : List A) → list_all t xs ≡ true → All P (flat_map h xs)
all_of_each t P h each [] e = All-nil P
all_of_each t P h each (x ∷ xs) e =
    let parts = and_parts (t x) (list_all t xs) e in
    All-append P (h x) (flat_map h xs) (each x parts.0) (all_of_each t P h each xs parts.1)

list_all-flat : {A B : Type 0} (t : B → Bool) (h : A → List B) (xs : List A) → list_all t (flat_map h xs) ≡ list_all (λ a. list_all t (h a)) xs
list_all-flat t h [] = refl
list_all-flat t h (x ∷ xs) = list_all-append t (h x) (flat_map h xs) ∙ ap (λ b. list_all t (h x) && b) (list_all-flat t h xs)

-- of two lists in a row each passes
both_pass : {A : Type 0} (t : A → Bool) (xs ys : List A) → list_all t (xs ++ ys) ≡ true → (list_all t xs ≡ true) × (list_all t ys ≡ true)
both_pass t xs ys e = and_parts (list_all t xs) (list_all t ys) (sym (list_all-append t xs ys) ∙ e)

-- ---- names

-- where none of some names is unknown, each is known
all_known : (m : Module) (known : List Name) (site : ℕ) (xs : List Mention) → unknown_of m known site xs ≡ [] → list_all (knows m known) xs ≡ true
all_known m known site [] e = refl
all_known m known site (x ∷ xs) e = by_test (knows m known x) e (all_known m known site xs)
  where
    by_test : (t : Bool) → map {B = ℕ × Spelled} (λ y. (site, spelled y)) (cond (not t) (x ∷ filter (λ y. not (knows m known y)) xs) (filter (λ y. not (knows m known y)) xs)) ≡ []
        → (unknown_of m known site xs ≡ [] → list_all (knows m known) xs ≡ true) → (t && list_all (knows m known) xs) ≡ true
    by_test true e rest = rest e
    by_test false e rest = grind arith

-- the names of the operands are among those of an instruction that is no phi
operands_known : (t : Mention → Bool) (o : Op) → is_phi o ≡ false → list_all t (mentions o) ≡ true → list_all (λ a. list_all t (operand_mentions a.1)) (operands o) ≡ true
operands_known t (op.Phi u edges) plain e = grind arith
operands_known t (op.Alloca u count_type count) plain e =
    and_from (list_all t (operand_mentions count)) true (both_pass t (type_mentions u) (operand_mentions count) e).1 refl
operands_known t (op.Gep u base indices) plain e =
    let parts = both_pass t (operand_mentions base) (operands_mentions indices) (both_pass t (type_mentions u) (operand_mentions base ++ operands_mentions indices) e).1 in
    and_from (list_all t (operand_mentions base)) (list_all (λ a. list_all t (operand_mentions a.1)) indices) parts.0
    (sym (list_all-flat t (λ a. operand_mentions a.1) indices) ∙ parts.1)
operands_known t (op.Call ret callee args) plain e =
    sym (list_all-flat t (λ a. operand_mentions a.1) args) ∙ (and_parts (t (OfGlobal callee)) (list_all t (operands_mentions args)) e).1
operands_known t o plain e =
    sym (list_all-flat t (λ a. operand_mentions a.1) (operands o)) ∙ (both_pass t (operands_mentions (operands o)) (map OfLocal (labels o)) e).0

-- ---- labels

-- a name that a list has is counted in it
has_count : (names : List Name) (x : Name) → has_name names x ≡ true → 0 < count_name x names
has_count [] x e = grind arith
has_count (y ∷ names) x e =
    subst (λ n. 0 < n) (sym (sum_by-cons (λ z. cond (name_eq z x) 1 0) y names)) (by_test (name_eq y x) e (has_count names x))
  where
    by_test : (t : Bool) → (t || has_name names x) ≡ true → (has_name names x ≡ true → 0 < count_name x names) → 0 < cond t 1 0 + count_name x names
    by_test true e rest = omega arith
    by_test false e rest = omega (arith, rest e)

-- names that stand among others, each counted as often as edges lead from its block, are blocks
counted_known : (f : Func) (to : Name) (names xs : List Name) → ((x : Name) → has_name xs x ≡ true → has_name names x ≡ true)
    → list_all (λ from. nat_eq (count_name from names) (edges_between f.blocks from to)) xs ≡ true → list_all (has_name (block_names f)) xs ≡ true
counted_known f to names [] among e = refl
counted_known f to names (x ∷ xs) among e =
    let parts = and_parts (nat_eq (count_name x names) (edges_between f.blocks x to)) (list_all (λ from. nat_eq (count_name from names) (edges_between f.blocks from to)) xs) e in
    let here : has_name names x ≡ true = among x (or_left (name_eq x x) (has_name xs x) (name_same x)) in
    let count : 0 < edges_between f.blocks x to = omega (arith, has_count names x here, eqb-true (count_name x names) (edges_between f.blocks x to) parts.0) in
    and_from (has_name (block_names f) x) (list_all (has_name (block_names f)) xs) (from_known f.blocks x to count)
    (counted_known f to names xs (λ y h. among y (or_right (name_eq x y) (has_name xs y) h)) parts.1)

-- the labels of a phi that fits are blocks
labels_known : (f : Func) (to : Name) (edges : List (Operand × Name)) → phi_fits f to edges ≡ true → list_all (λ e. has_name (block_names f) e.1) edges ≡ true
labels_known f to edges fits =
    let names = map (λ (e : Operand × Name). e.1) edges in
    let counts = λ (from : Name). nat_eq (count_name from names) (edges_between f.blocks from to) in
    let mine = (both_pass counts names (block_names f) (and_parts (list_all counts (names ++ block_names f)) (edges_agree edges) fits).0).0 in
    sym (list_all-map (has_name (block_names f)) (λ e. e.1) edges) ∙ counted_known f to names names (λ x h. h) mine

-- ---- uses

operand_within : (m : Module) (at : Spot) (block place : ℕ) (o : Operand) → block < length at.func.blocks
    → list_all (knows m (locals at.func)) (operand_mentions o) ≡ true → All IsWithin (operand_use at block place o)
operand_within m at block place (operand.Local x) l e =
    let u : SiteUse = record { func = at.func; site = at.site; value = record { block = block; place = place; name = x } } in
    All-cons IsWithin u [] (record { block = l; known = (and_parts (has_name (locals at.func) x) true e).0 }) (All-nil IsWithin)
operand_within m at block place o l e = All-nil IsWithin

edges_within : (m : Module) (at : Spot) (edges : List (Operand × Name))
    → list_all (knows m (locals at.func)) (flat_map (λ e. operand_mentions e.0 ++ OfLocal e.1 ∷ []) edges) ≡ true
    → list_all (λ e. has_name (block_names at.func) e.1) edges ≡ true → All IsWithin (flat_map (edge_use at) edges)
edges_within m at [] known blocks = All-nil IsWithin
edges_within m at (e ∷ edges) known blocks =
    let t = knows m (locals at.func) in
    let names = both_pass t (operand_mentions e.0 ++ OfLocal e.1 ∷ []) (flat_map (λ d. operand_mentions d.0 ++ OfLocal d.1 ∷ []) edges) known in
    let value = (both_pass t (operand_mentions e.0) (OfLocal e.1 ∷ []) names.0).0 in
    let label = and_parts (has_name (block_names at.func) e.1) (list_all (λ d. has_name (block_names at.func) d.1) edges) blocks in
    let from = block_index at.func.blocks e.1 in
    All-append IsWithin (edge_use at e) (flat_map (edge_use at) edges)
    (operand_within m at from (length (insts_of at.func from)) e.0 (index_below at.func.blocks e.1 label.0) value)
    (edges_within m at edges names.1 label.1)

inst_within : (m : Module) (at : Spot) (o : Op) → at.block < length at.func.blocks → list_all (knows m (locals at.func)) (mentions o) ≡ true
    → edges_fit at o ≡ true → All IsWithin (inst_uses at o)
inst_within m at (op.Phi t edges) l known fits = edges_within m at edges known (labels_known at.func (block_name_at at.func at.block) edges fits)
inst_within m at o l known fits =
    all_of_each (λ a. list_all (knows m (locals at.func)) (operand_mentions a.1)) IsWithin (λ a. operand_use at at.block at.place a.1)
    (λ a e. operand_within m at at.block at.place a.1 l e) (operands o) (operands_known (knows m (locals at.func)) o refl known)

-- ---- modules

-- the block of an instruction that is there
block_there : (blocks : List Block) (b p : ℕ) (inst : Inst) → slice_get (unwrap_or (option_map (λ (k : Block). k.insts) (slice_get blocks b)) []) p ≡ Some inst → b < length blocks
block_there blocks b p inst due = by_block (slice_get blocks b) refl due
  where
    by_block : (o : Option Block) → slice_get blocks b ≡ o → slice_get (unwrap_or (option_map (λ (k : Block). k.insts) o) []) p ≡ Some inst → b < length blocks
    by_block None is due = absurd (none-some inst due)
    by_block (Some k) is due = slice_get_within blocks b k is

pub uses_within : (m : Module) → UpToPhis m → All IsWithin (uses m)
uses_within m before =
    from_module (λ at inst. inst_uses at inst.op) (All IsWithin) (All-nil IsWithin) (λ xs ys h k. All-append IsWithin xs ys h k) (λ f. []) m
    (λ n f at. All-nil IsWithin) (λ n b p f inst at due.
    let blocks : blocks_at m n ≡ f.blocks = ap (λ (o : Option Func). unwrap_or (option_map (λ g. g.blocks) o) []) at in
    let there = block_there f.blocks b p inst (subst (λ (bs : List Block). slice_get (unwrap_or (option_map (λ k. k.insts) (slice_get bs b)) []) p ≡ Some inst) blocks due) in
    let site = site_at m n b p in
    inst_within m (spot f b p site) inst.op there (all_known m (locals f) site (mentions inst.op) (names_at m before n b p f inst at due)) (edges_at m before n b p f inst at due))
  where
    names_at : (m : Module) → UpToPhis m → (n b p : ℕ) (f : Func) (inst : Inst) → func_at m n ≡ Some f → slice_get (insts_at m n b) p ≡ Some inst
        → unknown_of m (locals f) (site_at m n b p) (mentions inst.op) ≡ []
    names_at m before n b p f inst at due =
        let look = λ (s : Spot) (i : Inst). unknown_of m (locals s.func) s.site (mentions i.op) in
        let types = unknown_of m [] 0 (flat_map (λ t. type_mentions t.1) m.types) in
        let globals = unknown_of m [] 0 (flat_map global_mentions m.globals) in
        let later = (both_empty types (globals ++ found_at_insts look m) before.0.0.1).1 in
        at_insts look (λ l. l ≡ []) both_empty (λ g. []) m (both_empty globals (found_at_insts look m) later).1 n b p f inst at due

    edges_at : (m : Module) → UpToPhis m → (n b p : ℕ) (f : Func) (inst : Inst) → func_at m n ≡ Some f → slice_get (insts_at m n b) p ≡ Some inst
        → edges_fit (spot f b p (site_at m n b p)) inst.op ≡ true
    edges_at m before n b p f inst at due =
        let site = site_at m n b p in
        passes_test (edges_fit (spot f b p site) inst.op) site
        (at_insts (λ s i. if edges_fit s i.op then [] else s.site ∷ []) (λ l. l ≡ []) both_empty (λ g. []) m before.1 n b p f inst at due)
