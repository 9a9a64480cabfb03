-- The unmarked instructions of a module are numbered in written order.
use Rattle.std.proofs.Common.{◌≡◌, ◌∙◌, ℕ, zero, suc, ◌+◌, ◌-◌, Bool, true, false, List, [], ◌∷◌, ◌++◌, map, take, cond, not, Some, slice_get, unwrap_or, refl, ap, ap₂, subst, arith, if◌then◌else◌, ◌⊎◌, inl, inr}
use Rattle.std.specs.Prelude.{filter, flat_map, option_map}
use Rattle.std.specs.List.{zip, enumerate_from, AllZip}
use Rattle.std.proofs.lemmas.Option.{same_Some, none-some}
use Rattle.ms_lex.specs.Tokens.{Text}
use Rattle.ms_lex.specs.declared.kinds.Token.{Token}
use Rattle.ms_ir.specs.declared.forms.Form.{Form}
use Rattle.ms_ir.specs.declared.syntax.Inst.{Inst}
use Rattle.ms_ir.specs.declared.syntax.Block.{Block}
use Rattle.ms_ir.specs.declared.syntax.Func.{Func}
use Rattle.ms_ir.specs.declared.syntax.Module.{Module}
use Rattle.ms_ir.specs.Locals.{func_insts}
use Rattle.ms_ir.specs.Instructions.{insts_at, over_insts, over_blocks, over_funcs, one_unmarked, site_at, is_unmarked}
use Rattle.ms_text_grammar.specs.Lexemes.{Lexeme, lexemes_of}
use Rattle.ms_text_grammar.specs.Texts.{HasTokens, Reads}
use Rattle.ms_where_places.specs.declared.marks.Mark.{Mark}
use Rattle.ms_where_places.specs.Marks.{AreMarks}
use Rattle.ms_where_places.specs.Instructions.{is_instruction, IsLineOf, module_insts}
use Rattle.ms_where_places.proofs.Each.{instructions_one_by_one}
use Rattle.ms_where.specs.Sites.{instruction_places}
use Rattle.ms_where.specs.Numbered.{IsNumbered, IsToldOf}

-- an instruction stands in a list, after so many unmarked ones
abbrev Stands : List Inst → Inst → ℕ → Type 0
Stands [] inst k = ⊥
Stands (x ∷ xs) inst k = ((x ≡ inst) × (k ≡ 0)) ⊎ ((j : ℕ) × (k ≡ one_unmarked x + j) × Stands xs inst j)

stands_there : (xs : List Inst) (p : ℕ) (inst : Inst) → slice_get xs p ≡ Some inst → Stands xs inst (over_insts one_unmarked (take p xs))
stands_there [] p inst e = absurd (none-some inst e)
stands_there (x ∷ xs) zero inst e = inl (same_Some x inst e, refl)
stands_there (x ∷ xs) (suc p) inst e = inr (over_insts one_unmarked (take p xs), refl, stands_there xs p inst e)

stands_left : (xs ys : List Inst) (inst : Inst) (k : ℕ) → Stands xs inst k → Stands (xs ++ ys) inst k
stands_left [] ys inst k h = absurd h
stands_left (x ∷ xs) ys inst k (inl h) = inl h
stands_left (x ∷ xs) ys inst k (inr h) = inr (h.0, h.1, stands_left xs ys inst h.0 h.2)

stands_right : (xs ys : List Inst) (inst : Inst) (k : ℕ) → Stands ys inst k → Stands (xs ++ ys) inst (over_insts one_unmarked xs + k)
stands_right [] ys inst k h = let z : k ≡ 0 + k = omega arith in subst (Stands ys inst) z h
stands_right (x ∷ xs) ys inst k h = inr (over_insts one_unmarked xs + k, omega arith, stands_right xs ys inst k h)

in_blocks : (bs : List Block) (b p : ℕ) (inst : Inst) → slice_get (unwrap_or (option_map (λ (k : Block). k.insts) (slice_get bs b)) []) p ≡ Some inst
    → Stands (flat_map (λ b. b.insts) bs) inst (over_blocks one_unmarked (take b bs) + over_insts one_unmarked (take p (unwrap_or (option_map (λ (k : Block). k.insts) (slice_get bs b)) [])))
in_blocks [] b p inst e = absurd (none-some inst e)
in_blocks (x ∷ bs) zero p inst e =
    let z : over_insts one_unmarked (take p x.insts) ≡ 0 + over_insts one_unmarked (take p x.insts) = omega arith in
    subst (Stands (x.insts ++ flat_map (λ b. b.insts) bs) inst) z (stands_left x.insts (flat_map (λ b. b.insts) bs) inst _ (stands_there x.insts p inst e))
in_blocks (x ∷ bs) (suc b) p inst e =
    subst (Stands (x.insts ++ flat_map (λ b. b.insts) bs) inst) (sum _ _ _) (stands_right x.insts (flat_map (λ b. b.insts) bs) inst _ (in_blocks bs b p inst e))
  where
    sum : (i j k : ℕ) → i + (j + k) ≡ i + j + k
    sum i j k = omega arith

blocks_counted : (bs : List Block) → over_insts one_unmarked (flat_map (λ b. b.insts) bs) ≡ over_blocks one_unmarked bs
blocks_counted [] = refl
blocks_counted (b ∷ bs) = joined b.insts (flat_map (λ b. b.insts) bs) ∙ ap (λ n. over_insts one_unmarked b.insts + n) (blocks_counted bs)
  where
    joined : (xs ys : List Inst) → over_insts one_unmarked (xs ++ ys) ≡ over_insts one_unmarked xs + over_insts one_unmarked ys
    joined [] ys = omega arith
    joined (x ∷ xs) ys = omega (arith, joined xs ys)

abbrev blocks_in : List Func → ℕ → List Block
blocks_in fs f = unwrap_or (option_map (λ (g : Func). g.blocks) (slice_get fs f)) []

abbrev insts_in : List Func → (f b : ℕ) → List Inst
insts_in fs f b = unwrap_or (option_map (λ (k : Block). k.insts) (slice_get (blocks_in fs f) b)) []

in_funcs : (fs : List Func) (f b p : ℕ) (inst : Inst) → slice_get (insts_in fs f b) p ≡ Some inst
    → Stands (flat_map func_insts fs) inst (over_funcs one_unmarked (take f fs) + over_blocks one_unmarked (take b (blocks_in fs f)) + over_insts one_unmarked (take p (insts_in fs f b)))
in_funcs [] f b p inst e = absurd (none-some inst e)
in_funcs (x ∷ fs) zero b p inst e =
    subst (Stands (func_insts x ++ flat_map func_insts fs) inst) (sum _ _) (stands_left (func_insts x) (flat_map func_insts fs) inst _ (in_blocks x.blocks b p inst e))
  where
    sum : (i j : ℕ) → i + j ≡ 0 + i + j
    sum i j = omega arith
in_funcs (x ∷ fs) (suc f) b p inst e =
    subst (Stands (func_insts x ++ flat_map func_insts fs) inst) (sum _ _ _ _ _ (blocks_counted x.blocks)) (stands_right (func_insts x) (flat_map func_insts fs) inst _ (in_funcs fs f b p inst e))
  where
    sum : (n h i j k : ℕ) → n ≡ h → n + (i + j + k) ≡ h + i + j + k
    sum n h i j k e = omega (arith, e)

stands_in : (m : Module) (f b p : ℕ) (inst : Inst) → slice_get (insts_at m f b) p ≡ Some inst → Stands (module_insts m) inst (site_at m f b p - 1)
stands_in m f b p inst e = subst (Stands (module_insts m) inst) (one_less _) (in_funcs m.funcs f b p inst e)
  where
    one_less : (n : ℕ) → n ≡ 1 + n - 1
    one_less n = omega arith

-- ---- among the unmarked ones

get_filtered : (xs : List Inst) (inst : Inst) (k : ℕ) → inst.marked ≡ false → Stands xs inst k → slice_get (filter is_unmarked xs) k ≡ Some inst
get_filtered [] inst k plain h = absurd h
get_filtered (x ∷ xs) inst k plain (inl h) =
    ap₂ (λ n t. slice_get (cond (not t) (x ∷ filter is_unmarked xs) (filter is_unmarked xs)) n) h.1 (ap (λ i. i.marked) h.0 ∙ plain) ∙ ap Some h.0
get_filtered (x ∷ xs) inst k plain (inr h) = ap (λ n. slice_get (filter is_unmarked (x ∷ xs)) n) h.1 ∙ by_mark x.marked ∙ get_filtered xs inst h.0 plain h.2
  where
    by_mark : (t : Bool) → slice_get (cond (not t) (x ∷ filter is_unmarked xs) (filter is_unmarked xs)) ((if t then 0 else 1) + h.0) ≡ slice_get (filter is_unmarked xs) h.0
    by_mark true = let z : 0 + h.0 ≡ h.0 = omega arith in ap (slice_get (filter is_unmarked xs)) z
    by_mark false = let z : 1 + h.0 ≡ suc h.0 = omega arith in ap (slice_get (x ∷ filter is_unmarked xs)) z

pub numbered : (m : Module) (f b p : ℕ) (inst : Inst) → slice_get (insts_at m f b) p ≡ Some inst → inst.marked ≡ false → IsNumbered m f b p inst
numbered m f b p inst e plain = get_filtered (module_insts m) inst (site_at m f b p - 1) plain (stands_in m f b p inst e)

-- ---- their marks

module _ (form : Form) (all : List Lexeme) (marks : List Mark) where
  -- a place is that of an instruction's line
  abbrev IsPlaceOf : ℕ → Inst → Type 0
  IsPlaceOf place inst = (mark : Mark) × (slice_get marks place ≡ Some mark) × IsLineOf form all mark inst

  abbrev places_from : ℕ → List Mark → List ℕ
  places_from n ms = map (λ p. p.0) (filter (λ p. is_instruction p.1.kind) (enumerate_from n ms))

  -- some of the marks, from one place on
  told_from : (ms : List Mark) (n : ℕ) (xs : List Inst) → ((j : ℕ) (mark : Mark) → slice_get ms j ≡ Some mark → slice_get marks (n + j) ≡ Some mark)
      → AllZip (IsLineOf form all) (filter (λ mark. is_instruction mark.kind) ms) xs → AllZip IsPlaceOf (places_from n ms) xs
  told_from [] n [] there h = tt
  told_from [] n (x ∷ xs) there h = absurd h
  told_from (mark ∷ ms) n xs there h = by_kind (is_instruction mark.kind) xs h (λ ys g. told_from ms (n + 1) ys later g)
    where
      later : (j : ℕ) (other : Mark) → slice_get ms j ≡ Some other → slice_get marks (n + 1 + j) ≡ Some other
      later j other e = let z : n + 1 + j ≡ n + suc j = omega arith in ap (slice_get marks) z ∙ there (suc j) other e

      by_kind : (t : Bool) (ys : List Inst) → AllZip (IsLineOf form all) (cond t (mark ∷ filter (λ mark. is_instruction mark.kind) ms) (filter (λ mark. is_instruction mark.kind) ms)) ys
          → ((zs : List Inst) → AllZip (IsLineOf form all) (filter (λ mark. is_instruction mark.kind) ms) zs → AllZip IsPlaceOf (places_from (n + 1) ms) zs)
          → AllZip IsPlaceOf (map (λ p. p.0) (cond t ((n, mark) ∷ filter (λ p. is_instruction p.1.kind) (enumerate_from (n + 1) ms)) (filter (λ p. is_instruction p.1.kind) (enumerate_from (n + 1) ms)))) ys
      by_kind false ys h go = go ys h
      by_kind true [] h go = absurd h
      by_kind true (y ∷ ys) h go =
          let z : n ≡ n + 0 = omega arith in
          ((mark, ap (slice_get marks) z ∙ there 0 mark refl, h.0), go ys h.1)

  get_place : (places : List ℕ) (xs : List Inst) (inst : Inst) (k : ℕ) → inst.marked ≡ false → AllZip IsPlaceOf places xs → Stands xs inst k
      → (place : ℕ) × (slice_get (map (λ p. p.1) (filter (λ p. is_unmarked p.0) (zip xs places))) k ≡ Some place) × IsPlaceOf place inst
  get_place places [] inst k plain told h = absurd h
  get_place [] (x ∷ xs) inst k plain told h = absurd told
  get_place (n ∷ places) (x ∷ xs) inst k plain told (inl h) = (
    n,
    ap₂ (λ j t. slice_get (map (λ p. p.1) (cond (not t) ((x, n) ∷ filter (λ p. is_unmarked p.0) (zip xs places)) (filter (λ p. is_unmarked p.0) (zip xs places)))) j) h.1 (ap (λ i. i.marked) h.0 ∙ plain),
    subst (IsPlaceOf n) h.0 told.0,
  )
  get_place (n ∷ places) (x ∷ xs) inst k plain told (inr h) =
      let rest = get_place places xs inst h.0 plain told.1 h.2 in
      (rest.0, ap (λ j. slice_get (map (λ p. p.1) (filter (λ p. is_unmarked p.0) (zip (x ∷ xs) (n ∷ places)))) j) h.1 ∙ by_mark x.marked ∙ rest.1, rest.2)
    where
      by_mark : (t : Bool)
          → slice_get (map (λ p. p.1) (cond (not t) ((x, n) ∷ filter (λ p. is_unmarked p.0) (zip xs places)) (filter (λ p. is_unmarked p.0) (zip xs places)))) ((if t then 0 else 1) + h.0)
          ≡ slice_get (map (λ p. p.1) (filter (λ p. is_unmarked p.0) (zip xs places))) h.0
      by_mark true = let z : 0 + h.0 ≡ h.0 = omega arith in ap (slice_get (map (λ p. p.1) (filter (λ p. is_unmarked p.0) (zip xs places)))) z
      by_mark false = let z : 1 + h.0 ≡ suc h.0 = omega arith in ap (slice_get (n ∷ map (λ p. p.1) (filter (λ p. is_unmarked p.0) (zip xs places)))) z

pub told : (text : Text) (form : Form) (m : Module) (tokens : List Token) (found : List Mark) → Reads form text m → HasTokens form text tokens → AreMarks form text tokens found
    → (f b p : ℕ) (inst : Inst) → slice_get (insts_at m f b) p ≡ Some inst → inst.marked ≡ false → IsToldOf form (lexemes_of text tokens) m found (site_at m f b p) inst
told text form m tokens found reads has are f b p inst e plain =
    let places = told_from form (lexemes_of text tokens) found found 0 (module_insts m) there (instructions_one_by_one text form m tokens found reads has are) in
    let at = get_place form (lexemes_of text tokens) found (instruction_places found) (module_insts m) inst (site_at m f b p - 1) plain places (stands_in m f b p inst e) in
    record { place = at.0; mark = at.2.0; told = at.1; stands = at.2.1; line = at.2.2 }
  where
    there : (j : ℕ) (mark : Mark) → slice_get found j ≡ Some mark → slice_get found (0 + j) ≡ Some mark
    there j mark e = let z : 0 + j ≡ j = omega arith in ap (slice_get found) z ∙ e
