-- A step accounts for what is poisoned after it.
use Rattle.std.proofs.Common.{◌≡◌, ◌≢◌, ℕ, zero, suc, ◌+◌, ◌-◌, ◌%◌, ◌^◌, ◌<◌, ◌≤◌, List, [], ◌∷◌, ◌++◌, map, drop, get_or, length, Bool, true, false, eqb, leb, ltb, Option, Some, None, unwrap_or, is_some, Result, Ok, Err, refl, sym, ap, ◌∙◌, subst, arith, if◌then◌else◌, ◌⊎◌, inl, inr}
use Rattle.std.proofs.Math.Nat.{zero-mod}
use Rattle.std.proofs.lemmas.Bool.{ltb-true, lt-ltb}
use Rattle.ms_bits.specs.declared.traps.Trap.{Trap}
use Rattle.ms_bits.specs.declared.traps.Trap.TheVariants as trap
use Rattle.ms_bits.specs.Maps.{first_nonzero, number_at}
use Rattle.ms_ir.specs.declared.syntax.Name.{Name}
use Rattle.ms_ir.specs.declared.syntax.Name.TheVariants.{Number}
use Rattle.ms_ir.specs.declared.syntax.Ty.{Ty}
use Rattle.ms_ir.specs.declared.syntax.Ty as ty
use Rattle.ms_ir.specs.declared.syntax.Operand.{Operand}
use Rattle.ms_ir.specs.declared.syntax.Operand.TheVariants as operand
use Rattle.ms_ir.specs.declared.syntax.Op.{Op}
use Rattle.ms_ir.specs.declared.syntax.Op.TheVariants as op
use Rattle.ms_ir.specs.declared.syntax.Inst.{Inst}
use Rattle.ms_ir.specs.declared.syntax.Module.{Module}
use Rattle.ms_runs.specs.declared.runs.End.TheVariants as «end»
use Rattle.ms_runs.specs.declared.runs.Report.{Report}
use Rattle.ms_ir.specs.Names.{name_eq, lookup, externals}
use Rattle.ms_ir.specs.declared.calls.External.{External}
use Rattle.ms_ir.specs.declared.calls.External.TheVariants as external_of
use Rattle.ms_bits.specs.declared.word_functions.WordFn.{WordFn}
use Rattle.ms_bits.specs.declared.word_functions.WordWidth.{WordWidth}
use Rattle.ms_runs.specs.World.{World, Setting, Effect, Gives, Does, Goes, Enters, Leaves, Ends, traps, stuck, word, then_does, gives}
use Rattle.ms_runs.specs.Memory.{is_good, bytes_left, end_block, end_blocks}
use Rattle.ms_runs.specs.Origins.{count_blind, is_hidden, check, check_byte, first_in_string, asks_string_at, trail}
use Rattle.ms_ir.specs.Layout.{width_of, stored_size}
use Rattle.ms_runs.specs.Externals.{external}
use Rattle.ms_ir.specs.Instructions.{operands, count_undefs, one_undef, one_unmarked, roots_in, root_at, site_at, insts_at, is_root, external_named}
use Rattle.ms_runs.specs.Control.{Frame, Outcome, On, Over, here, read_all, read_edge, phis, block_name, with_value, one_on, put, jumped, bind, params_at, entered, result_at, release, given_back, blocks_made, keeping, after_effect}
use Rattle.ms_runs.specs.Act.{act}
use Rattle.ms_runs.specs.Poisoned.{Poisoned, clean}
use Rattle.ms_runs.specs.Masks.{by_formulas, union, word_at, answer_mask, result_mask}
use Rattle.ms_runs.specs.Uses.{CheckedUse, Word, Bytes, Line, Asked, type_at, check_use, check_uses, uses, blinded}
use Rattle.ms_runs.specs.Shadow.{read_poisoned, shadow_reading, callee_planes, planes, poisoned_result, shadow_act, after_checks, shadow_first}
use Rattle.ms_ir.specs.Written.{targets}
use Rattle.ms_runs_good_laws.specs.Reached.{edge_root}
use Rattle.ms_check_valid.proofs.NameTests.{name_same}
use Rattle.ms_trail_moves.specs.declared.moves.Source.{Source}
use Rattle.ms_trail_moves.specs.declared.moves.Source.TheVariants.{Root, Value, Byte}
use Rattle.ms_trail_moves.specs.declared.moves.Target.TheVariants as target
use Rattle.ms_trail_moves.specs.declared.moves.Move.{Move}
use Rattle.ms_trail_moves.specs.Sources.{operand_source, sources, source_at, result_source}
use Rattle.ms_trail_moves.specs.Written.{written}
use Rattle.ms_trail_moves.specs.Events.{word_move, result_move, return_move, param_moves, phi_moves, memory_moves, Numbers, renumbered, innermost, callee_moves, first_moves}
use Rattle.ms_trail_moves.specs.Moving.{IsPoisonedIn, IsPoisoned}
use Rattle.ms_trail_laws.specs.Complete.{HasMask, HasBits}
use Rattle.ms_trail_laws.proofs.ByteRuns.{Sound, WritesIn, sound_append, writes_left, writes_right, word_sound, word_writes, NoByte, memory_sound, memory_writes, Covered}
use Rattle.ms_trail_laws.proofs.ResultMoves.{words_from, result_zero, result_from}
use Rattle.ms_ir.specs.ThreadCalls.{calls_thread}
use Rattle.ms_ir.proofs.RootKinds.{name_same as name_sound}
use Rattle.ms_runs_good_laws.proofs.ThreadsApart.{asked_alone}
use Rattle.ms_trail_laws.proofs.MemoryMoves.{OpMemory, alloca_memory, stored_memory, called_memory}

-- ---- numbers of frames

pub less_itself : (n : ℕ) → ltb n n ≡ false
less_itself n = by_test (ltb n n) refl
  where
    by_test : (t : Bool) → ltb n n ≡ t → ltb n n ≡ false
    by_test true e = absurd (omega (arith, ltb-true n n e))
    by_test false e = e

less_below : (n : ℕ) → ltb (suc n) n ≡ false
less_below n = by_test (ltb (suc n) n) refl
  where
    by_test : (t : Bool) → ltb (suc n) n ≡ t → ltb (suc n) n ≡ false
    by_test true e = absurd (omega (arith, ltb-true (suc n) n e))
    by_test false e = e

-- as many frames stand as before
renumbered_same : (ks : List ℕ) (made depth : ℕ) → length ks ≡ depth → renumbered depth (record { standing = ks; made = made }) ≡ record { standing = ks; made = made }
renumbered_same ks made depth e =
    let gap : length ks - depth ≡ 0 = omega (arith, e) in
    ap (λ t. if t then (record { standing = made ∷ ks; made = made + 1 }) else record { standing = drop (length ks - depth) ks; made = made }) (ap (λ d. ltb d depth) e ∙ less_itself depth)
    ∙ ap (λ d. record { standing = drop d ks; made = made }) gap

renumbered_more : (ks : List ℕ) (made depth : ℕ) → suc (length ks) ≡ depth → renumbered depth (record { standing = ks; made = made }) ≡ record { standing = made ∷ ks; made = made + 1 }
renumbered_more ks made depth e =
    ap (λ t. if t then (record { standing = made ∷ ks; made = made + 1 }) else record { standing = drop (length ks - depth) ks; made = made }) (lt-ltb (length ks) depth (omega (arith, e)))

renumbered_less : (k : ℕ) (ks : List ℕ) (made depth : ℕ) → length ks ≡ depth → renumbered depth (record { standing = k ∷ ks; made = made }) ≡ record { standing = ks; made = made }
renumbered_less k ks made depth e =
    let gap : suc (length ks) - depth ≡ 1 = omega (arith, e) in
    ap (λ t. if t then (record { standing = made ∷ k ∷ ks; made = made + 1 }) else record { standing = drop (suc (length ks) - depth) (k ∷ ks); made = made }) (ap (λ d. ltb (suc d) depth) e ∙ less_below depth)
    ∙ ap (λ d. record { standing = drop d (k ∷ ks); made = made }) gap

-- ---- values

with_mask : (values : Name → Poisoned) (x : Name) (v : Poisoned) (y : Name) (b : ℕ) → (with_value values x v y).mask ≡ b → ((values y).mask ≡ b) ⊎ ((y ≡ x) × (v.mask ≡ b))
with_mask values x v y b h = by_test (name_eq y x) refl h
  where
    by_test : (t : Bool) → name_eq y x ≡ t → (if t then v else values y).mask ≡ b → ((values y).mask ≡ b) ⊎ ((y ≡ x) × (v.mask ≡ b))
    by_test true e g = inr (name_sound y x e, g)
    by_test false e g = inl g

with_itself : (values : Name → Poisoned) (x : Name) (v : Poisoned) → with_value values x v x ≡ v
with_itself values x v = ap (λ t. if t then v else values x) (name_same x)

-- a value that is poisoned has some poisoned bits
some_mask : (ns : List ℕ) (fs : List (Frame Poisoned)) (f : ℕ) (y : Name) → IsPoisonedIn ns fs f y → (b : ℕ) × (b ≢ 0) × HasMask b ns fs f y
some_mask (n ∷ ns) (fr ∷ fs) f y (inl h) = ((fr.values y).mask, h.1, inl (h.0, refl))
some_mask (n ∷ ns) (fr ∷ fs) f y (inr h) = let r = some_mask ns fs f y h in (r.0, r.1, inr r.2)
some_mask (n ∷ ns) [] f y h = absurd h
some_mask [] fs f y h = absurd h

mask_poisoned : (b : ℕ) → b ≢ 0 → (ns : List ℕ) (fs : List (Frame Poisoned)) (f : ℕ) (y : Name) → HasMask b ns fs f y → IsPoisonedIn ns fs f y
mask_poisoned b some (n ∷ ns) (fr ∷ fs) f y (inl h) = inl (h.0, λ z. some (sym h.1 ∙ z))
mask_poisoned b some (n ∷ ns) (fr ∷ fs) f y (inr h) = inr (mask_poisoned b some ns fs f y h)
mask_poisoned b some (n ∷ ns) [] f y h = absurd h
mask_poisoned b some [] fs f y h = absurd h

-- ---- sources are no bytes

operand_plain : (frame root : ℕ) (o : Operand) → NoByte (operand_source frame root o)
operand_plain frame root operand.Undef = tt
operand_plain frame root operand.Poison = tt
operand_plain frame root (operand.Local x) = tt
operand_plain frame root (operand.Int v) = tt
operand_plain frame root operand.Null = tt
operand_plain frame root (operand.Global x) = tt
operand_plain frame root (operand.Offset x is) = tt

sources_plain : (frame : ℕ) (os : List (Ty × Operand)) (n j : ℕ) → NoByte (source_at j (sources frame os n))
sources_plain frame [] n j = tt
sources_plain frame (o ∷ os) n zero = operand_plain frame n o.1
sources_plain frame (o ∷ os) n (suc j) = sources_plain frame os (n + one_undef o.1) j

-- ---- checks change reports alone

abbrev OnlyReports : World → Effect → Type 0
OnlyReports w (Does u) = u ≡ record w { reports = u.reports }
OnlyReports w e = Unit {0}

either_reports : (t : Bool) (w : World) (e x : Effect) → OnlyReports w e → OnlyReports w x → OnlyReports w (if t then e else x)
either_reports true w e x h g = h
either_reports false w e x h g = g

check_reports : (s : Setting) (mask width origin kind part site : ℕ) (w : World) → OnlyReports w (check s mask width origin kind part site w)
check_reports s mask width origin kind part site w =
    let r : Report = record { site = site; kind = kind; part = part; width = width; mask = mask; origin = origin; chain = trail s w origin } in
    either_reports (eqb mask 0) w _ _ refl (either_reports (is_hidden s r w) w _ _ refl (either_reports (leb s.limit (length (w.reports ++ r ∷ []))) w _ _ tt refl))

byte_reports : (s : Setting) (kind site start : ℕ) (o : Option ℕ) (w : World) → OnlyReports w (check_byte s kind site start o w)
byte_reports s kind site start None w = refl
byte_reports s kind site start (Some x) w = check_reports s (w.shadow x) 8 _ kind (x - start) site w

use_reports : (s : Setting) (site : ℕ) (os : List (Ty × Operand)) (ps : List Poisoned) (u : CheckedUse) (w : World) → OnlyReports w (check_use s site os ps u w)
use_reports s site os ps (Word kind k) w = check_reports s (word_at k ps).mask (width_of (type_at k os)) (word_at k ps).origin kind k site w
use_reports s site os ps (Bytes kind a n) w =
    either_reports (is_good w (word_at a ps).value (word_at n ps).value) w _ _ (byte_reports s kind site (word_at a ps).value (first_nonzero w.shadow (word_at a ps).value (word_at n ps).value) w) refl
use_reports s site os ps (Asked a) w =
    either_reports (asks_string_at w (word_at 0 ps).value a) w _ _ (byte_reports s 10 site (word_at a ps).value (first_in_string w (word_at a ps).value (bytes_left w (word_at a ps).value)) w) refl
use_reports s site os ps (Line a) w = byte_reports s 10 site (word_at a ps).value (first_in_string w (word_at a ps).value (bytes_left w (word_at a ps).value)) w

reports_from : (w u : World) (e : Effect) → u ≡ record w { reports = u.reports } → OnlyReports u e → OnlyReports w e
reports_from w u (Does z) h g = g ∙ ap {A = World} (λ x. record x { reports = z.reports }) h
reports_from w u (Gives v z) h g = tt
reports_from w u (Goes v z) h g = tt
reports_from w u (Enters v z) h g = tt
reports_from w u (Leaves z) h g = tt
reports_from w u (Ends v z) h g = tt

then_reports : (w : World) (e : Effect) (go : World → Effect) → OnlyReports w e → ((u : World) → OnlyReports u (go u)) → OnlyReports w (then_does e go)
then_reports w (Does u) go h f = reports_from w u (go u) h (f u)
then_reports w (Gives v u) go h f = tt
then_reports w (Goes v u) go h f = tt
then_reports w (Enters v u) go h f = tt
then_reports w (Leaves u) go h f = tt
then_reports w (Ends v u) go h f = tt

uses_reports : (s : Setting) (site : ℕ) (os : List (Ty × Operand)) (ps : List Poisoned) (us : List CheckedUse) (w : World) → OnlyReports w (check_uses s site os ps us w)
uses_reports s site os ps [] w = refl
uses_reports s site os ps (u ∷ us) w = then_reports w (check_use s site os ps u w) (check_uses s site os ps us) (use_reports s site os ps u w) (λ v. uses_reports s site os ps us v)

-- ---- a step

module _ (R : ℕ → Type 0) (s : Setting) (m : Module) (event : ℕ) (k : ℕ) (ks : List ℕ) (made : ℕ) (fr : Frame Poisoned) (below : List (Frame Poisoned)) (same : length ks ≡ length below) (w : World) where
  abbrev pub numbers : Numbers
  numbers = record { standing = k ∷ ks; made = made }

  -- what is poisoned before
  abbrev pub P : Source → Type 0
  P = IsPoisoned R (k ∷ ks) (record { frames = fr ∷ below; world = w })

  pub in_frame : (x : Name) → (fr.values x).mask ≢ 0 → P (Value k x)
  in_frame x h = inl (refl, h)

  -- the moves to frames, of which `ns` are the numbers, and a world account for what is poisoned there
  pub record Accounted (is : List Inst) (ns : Numbers) (fs : List (Frame Poisoned)) (v : World) : Type 0 where
    pub deep : length ns.standing ≡ length fs
    pub sound : Sound P event (first_moves s m event is k (innermost ns.standing) fr below w fs v)
    pub kept : (b : ℕ) → b ≢ 0 → (x : Source) → HasBits b ns.standing (record { frames = fs; world = v }) x
        → HasBits b (k ∷ ks) (record { frames = fr ∷ below; world = w }) x ⊎ WritesIn (first_moves s m event is k (innermost ns.standing) fr below w fs v) x

  -- so what is poisoned was so before, or is written
  pub writes_of : (is : List Inst) (ns : Numbers) (fs : List (Frame Poisoned)) (v : World) → Accounted is ns fs v → (x : Source)
      → IsPoisoned R ns.standing (record { frames = fs; world = v }) x → P x ⊎ WritesIn (first_moves s m event is k (innermost ns.standing) fr below w fs v) x
  writes_of is ns fs v a (Root n) q = inl q
  writes_of is ns fs v a (Value f y) q = let had = some_mask ns.standing fs f y q in on had.0 had.1 (a.kept had.0 had.1 (Value f y) had.2)
    where
      on : (b : ℕ) → b ≢ 0 → HasMask b (k ∷ ks) (fr ∷ below) f y ⊎ WritesIn (first_moves s m event is k (innermost ns.standing) fr below w fs v) (Value f y)
          → P (Value f y) ⊎ WritesIn (first_moves s m event is k (innermost ns.standing) fr below w fs v) (Value f y)
      on b some (inl h) = inl (mask_poisoned b some (k ∷ ks) (fr ∷ below) f y h)
      on b some (inr h) = inr h
  writes_of is ns fs v a (Byte x) q = on (a.kept (v.shadow x) q (Byte x) refl)
    where
      on : (w.shadow x ≡ v.shadow x) ⊎ WritesIn (first_moves s m event is k (innermost ns.standing) fr below w fs v) (Byte x)
          → P (Byte x) ⊎ WritesIn (first_moves s m event is k (innermost ns.standing) fr below w fs v) (Byte x)
      on (inl h) = inl (λ z. q (sym h ∙ z))
      on (inr h) = inr h

  -- the roots of phis whose edge from a block is taken are of the kind; n roots come before
  abbrev pub EdgesOf : Name → List Inst → ℕ → Type 0
  EdgesOf from [] n = Unit {0}
  EdgesOf from (i ∷ is) n =
      elim i.op [
        | op.Phi t edges ↦ (read_edge (λ n t o. edge_root n o) 0 t from edges n ≢ 0 → R (read_edge (λ n t o. edge_root n o) 0 t from edges n)) × EdgesOf from is (n + roots_in s.func i)
        | _ ↦ Unit {0}
      ]

  -- so are those of the block to which a branch went
  abbrev pub Edges : List Inst → List (Frame Poisoned) → Type 0
  Edges (i ∷ is) (next ∷ rest) = ¬ (targets i.op ≡ []) → EdgesOf (block_name m fr.func fr.block) (insts_at m next.func next.block) (root_at s.func m next.func next.block 0)
  Edges _ _ = Unit {0}

  abbrev pub AccountedMoved : List Inst → Outcome Poisoned → Type 0
  AccountedMoved is (On fs v) = Edges is fs → Accounted is (renumbered (length fs) numbers) fs v
  AccountedMoved is (Over e v) = Unit {0}

  as_before : (is : List Inst) (f : Frame Poisoned) (v : World) → Accounted is numbers (f ∷ below) v → AccountedMoved is (On (f ∷ below) v)
  as_before is f v h edges = subst (λ ns. Accounted is ns (f ∷ below) v) (sym (renumbered_same (k ∷ ks) made (suc (length below)) (ap suc same))) h

  -- the heap blocks of a frame are no part of it
  reheaped : (i : Inst) (is : List Inst) (l : List ℕ) (f : Frame Poisoned) (v : World) → Accounted (i ∷ is) numbers (f ∷ below) v → Accounted (i ∷ is) numbers (record f { heap = l } ∷ below) v
  reheaped i is l f v a = record { deep = a.deep; sound = a.sound; kept = by_source }
    where
      by_source : (b : ℕ) → b ≢ 0 → (y : Source) → HasBits b (k ∷ ks) (record { frames = record f { heap = l } ∷ below; world = v }) y
          → HasBits b (k ∷ ks) (record { frames = fr ∷ below; world = w }) y ⊎ WritesIn (first_moves s m event (i ∷ is) k k fr below w (record f { heap = l } ∷ below) v) y
      by_source b some (Root n) q = inl q
      by_source b some (Value g y) q = a.kept b some (Value g y) q
      by_source b some (Byte x) q = a.kept b some (Byte x) q

  put_reheaped : (l : List ℕ) (r : Option Name) (p : Poisoned) → put (record fr { heap = l }) r p ≡ record (put fr r p) { heap = l }
  put_reheaped l None p = refl
  put_reheaped l (Some x) p = refl

  -- a frame that an instruction gave its result, and maybe a heap block
  as_put : (i : Inst) (is : List Inst) (e : Effect) (r : Option Name) (p : Poisoned) (v : World) → Accounted (i ∷ is) numbers (put fr r p ∷ below) v
      → AccountedMoved (i ∷ is) (On (put (keeping i.op e fr) r p ∷ below) v)
  as_put i is e r p v a =
      let l = blocks_made i.op e ++ fr.heap in
      as_before (i ∷ is) (put (record fr { heap = l }) r p) v (subst (λ f. Accounted (i ∷ is) numbers (f ∷ below) v) (sym (put_reheaped l r p)) (reheaped i is l (put fr r p) v a))

  -- ---- results

  put_sound : (site : ℕ) (r : Option Name) (v : Poisoned) (from : Source) → (v.mask ≢ 0 → P from) → Sound P event (result_move event site k r (put fr r v).values from)
  put_sound site None v from h = tt
  put_sound site (Some x) v from h = word_sound P event site (with_value fr.values x v x) from k x (λ n. h (λ z. n (ap (λ p. p.mask) (with_itself fr.values x v) ∙ z)))

  module _ (b : ℕ) (some : b ≢ 0) where
    put_kept : (site : ℕ) (r : Option Name) (v : Poisoned) (from : Source) (f : ℕ) (y : Name) → HasMask b (k ∷ ks) (put fr r v ∷ below) f y
        → HasMask b (k ∷ ks) (fr ∷ below) f y ⊎ WritesIn (result_move event site k r (put fr r v).values from) (Value f y)
    put_kept site r v from f y (inr h) = inl (inr h)
    put_kept site None v from f y (inl h) = inl (inl h)
    put_kept site (Some x) v from f y (inl h) = on (with_mask fr.values x v y b h.1)
      where
        on : ((fr.values y).mask ≡ b) ⊎ ((y ≡ x) × (v.mask ≡ b)) → HasMask b (k ∷ ks) (fr ∷ below) f y ⊎ WritesIn (result_move event site k (Some x) (put fr (Some x) v).values from) (Value f y)
        on (inl n) = inl (inl (h.0, n))
        on (inr e) =
            inr (subst (λ g. WritesIn (result_move event site k (Some x) (put fr (Some x) v).values from) (Value g y)) h.0
            (subst (λ z. WritesIn (result_move event site k (Some x) (put fr (Some x) v).values from) (Value k z)) (sym e.0)
            (word_writes event site (with_value fr.values x v x) from k x (λ z. some (sym e.1 ∙ sym (ap (λ p. p.mask) (with_itself fr.values x v)) ∙ z)))))

    put_clean : (r : Option Name) (v : Poisoned) → v.mask ≡ 0 → (f : ℕ) (y : Name) → HasMask b (k ∷ ks) (put fr r v ∷ below) f y → HasMask b (k ∷ ks) (fr ∷ below) f y
    put_clean r v z f y (inr h) = inr h
    put_clean None v z f y (inl h) = inl h
    put_clean (Some x) v z f y (inl h) = on (with_mask fr.values x v y b h.1)
      where
        on : ((fr.values y).mask ≡ b) ⊎ ((y ≡ x) × (v.mask ≡ b)) → HasMask b (k ∷ ks) (fr ∷ below) f y
        on (inl n) = inl (h.0, n)
        on (inr e) = absurd (some (sym e.1 ∙ z))

  -- ---- phis

  edge_operand : (n : ℕ) (t : Ty) (o : Operand) → (edge_root n o ≢ 0 → R (edge_root n o)) → (read_poisoned s fr.values n t o).mask ≢ 0 → P (operand_source k n o)
  edge_operand n t operand.Undef reached h = reached (λ e. omega (arith, e))
  edge_operand n t operand.Poison reached h = reached (λ e. omega (arith, e))
  edge_operand n t (operand.Local x) reached h = in_frame x (λ z. h (ap (λ m. m % 2 ^ width_of t) z ∙ zero-mod (2 ^ width_of t)))
  edge_operand n t (operand.Int v) reached h = absurd (h refl)
  edge_operand n t operand.Null reached h = absurd (h refl)
  edge_operand n t (operand.Global x) reached h = absurd (h refl)
  edge_operand n t (operand.Offset x is) reached h = absurd (h refl)

  edge_from : (t : Ty) (from : Name) (es : List (Operand × Name)) (n : ℕ)
      → (read_edge (λ n t o. edge_root n o) 0 t from es n ≢ 0 → R (read_edge (λ n t o. edge_root n o) 0 t from es n)) → (read_edge (read_poisoned s fr.values) clean t from es n).mask ≢ 0
      → P (read_edge (λ n t o. operand_source k n o) (Root 0) t from es n)
  edge_from t from [] n reached h = absurd (h refl)
  edge_from t from (e ∷ es) n reached h = by_test (name_eq e.1 from) reached h (edge_from t from es (n + one_undef e.0))
    where
      by_test : (c : Bool)
          → ((if c then edge_root n e.0 else read_edge (λ n t o. edge_root n o) 0 t from es (n + one_undef e.0)) ≢ 0 → R (if c then edge_root n e.0 else read_edge (λ n t o. edge_root n o) 0 t from es (n + one_undef e.0)))
          → (if c then read_poisoned s fr.values n t e.0 else read_edge (read_poisoned s fr.values) clean t from es (n + one_undef e.0)).mask ≢ 0
          → ((read_edge (λ n t o. edge_root n o) 0 t from es (n + one_undef e.0) ≢ 0 → R (read_edge (λ n t o. edge_root n o) 0 t from es (n + one_undef e.0)))
          → (read_edge (read_poisoned s fr.values) clean t from es (n + one_undef e.0)).mask ≢ 0 → P (read_edge (λ n t o. operand_source k n o) (Root 0) t from es (n + one_undef e.0)))
          → P (if c then operand_source k n e.0 else read_edge (λ n t o. operand_source k n o) (Root 0) t from es (n + one_undef e.0))
      by_test true f g rest = edge_operand n t e.0 f g
      by_test false f g rest = rest f g

  module _ (from : Name) where
    abbrev phis_moves : List Inst → ℕ → ℕ → List Move
    phis_moves is n site = phi_moves event k (read_poisoned s fr.values) (λ n t o. operand_source k n o) s.func from is n site

    abbrev phi_word : Ty → List (Operand × Name) → ℕ → Poisoned
    phi_word t edges n = read_edge (read_poisoned s fr.values) clean t from edges n

    abbrev phi_source : Ty → List (Operand × Name) → ℕ → Source
    phi_source t edges n = read_edge (λ n t o. operand_source k n o) (Root 0) t from edges n

    abbrev phi_move : Inst → Ty → List (Operand × Name) → ℕ → ℕ → List Move
    phi_move i t edges n site = word_move event site (phi_word t edges n) (phi_source t edges n) (target.Value k (unwrap_or i.result (Number 0)))

    phis_sound : (is : List Inst) (n site : ℕ) → EdgesOf from is n → Sound P event (phis_moves is n site)
    phis_sound [] n site edges = tt
    phis_sound (i ∷ is) n site edges = by_op i.op edges (λ a b e. phis_sound is a b e)
      where
        by_op : (o : Op)
            → (elim o as (λ z. Type 0) [
              | op.Phi t edges ↦ (read_edge (λ n t o. edge_root n o) 0 t from edges n ≢ 0 → R (read_edge (λ n t o. edge_root n o) 0 t from edges n)) × EdgesOf from is (n + roots_in s.func i)
              | _ ↦ Unit {0}
            ])
            → ((a b : ℕ) → EdgesOf from is a → Sound P event (phis_moves is a b))
            → Sound P event
            (elim o [
              | op.Phi t edges ↦ phi_move i t edges n site ++ phis_moves is (n + roots_in s.func i) (site + one_unmarked i)
              | _ ↦ []
            ])
        by_op (op.Phi t edges) g rest =
            sound_append P event (phi_move i t edges n site) (phis_moves is (n + roots_in s.func i) (site + one_unmarked i))
            (word_sound P event site (phi_word t edges n) (phi_source t edges n) k (unwrap_or i.result (Number 0)) (edge_from t from edges n g.0)) (rest (n + roots_in s.func i) (site + one_unmarked i) g.1)
        by_op _ g rest = tt

    module _ (b : ℕ) (some : b ≢ 0) where
      phis_kept : (is : List Inst) (n site : ℕ) (values : Name → Poisoned) (y : Name) → (phis (read_poisoned s fr.values) clean s.func from is n values y).mask ≡ b
          → ((values y).mask ≡ b) ⊎ WritesIn (phis_moves is n site) (Value k y)
      phis_kept [] n site values y h = inl h
      phis_kept (i ∷ is) n site values y h = by_op i.op h (λ a c v g. phis_kept is a c v y g)
        where
          by_op : (o : Op)
              → ((elim o as (λ z. Name → Poisoned) [
                | op.Phi t edges ↦ phis (read_poisoned s fr.values) clean s.func from is (n + roots_in s.func i) (with_value values (unwrap_or i.result (Number 0)) (phi_word t edges n))
                | _ ↦ values
              ]) y).mask ≡ b
              → ((a c : ℕ) (v : Name → Poisoned) → (phis (read_poisoned s fr.values) clean s.func from is a v y).mask ≡ b → ((v y).mask ≡ b) ⊎ WritesIn (phis_moves is a c) (Value k y))
              → ((values y).mask ≡ b)
              ⊎ WritesIn
              (elim o [
                | op.Phi t edges ↦
                    phi_move i t edges n site
                    ++ phis_moves is (n + roots_in s.func i) (site + one_unmarked i)
                | _ ↦ []
              ]) (Value k y)
          by_op (op.Phi t edges) g rest = on (rest (n + roots_in s.func i) (site + one_unmarked i) (with_value values (unwrap_or i.result (Number 0)) (phi_word t edges n)) g)
            where
              on : ((with_value values (unwrap_or i.result (Number 0)) (phi_word t edges n) y).mask ≡ b) ⊎ WritesIn (phis_moves is (n + roots_in s.func i) (site + one_unmarked i)) (Value k y)
                  → ((values y).mask ≡ b)
                  ⊎ WritesIn
                  (phi_move i t edges n site
                  ++ phis_moves is (n + roots_in s.func i) (site + one_unmarked i)) (Value k y)
              on (inr x) = inr (writes_right (phi_move i t edges n site) (phis_moves is (n + roots_in s.func i) (site + one_unmarked i)) (Value k y) x)
              on (inl h) = here (with_mask values (unwrap_or i.result (Number 0)) (phi_word t edges n) y b h)
                where
                  here : ((values y).mask ≡ b) ⊎ ((y ≡ unwrap_or i.result (Number 0)) × ((phi_word t edges n).mask ≡ b))
                      → ((values y).mask ≡ b)
                      ⊎ WritesIn
                      (phi_move i t edges n site
                      ++ phis_moves is (n + roots_in s.func i) (site + one_unmarked i)) (Value k y)
                  here (inl h) = inl h
                  here (inr e) =
                      inr (writes_left (phi_move i t edges n site) (phis_moves is (n + roots_in s.func i) (site + one_unmarked i)) (Value k y)
                      (subst (λ z. WritesIn (phi_move i t edges n site) (Value k z)) (sym e.0)
                      (word_writes event site (phi_word t edges n) (phi_source t edges n) k (unwrap_or i.result (Number 0)) (λ z. some (sym e.1 ∙ z)))))
          by_op _ g rest = inl g

  -- ---- parameters

  param_sound : (site frame : ℕ) (ts : List (Ty × Name)) (ps : List Poisoned) (ss : List Source) → ((j : ℕ) → (word_at j ps).mask ≢ 0 → P (source_at j ss)) → Sound P event (param_moves event site frame ts ps ss)
  param_sound site frame [] ps ss h = tt
  param_sound site frame (t ∷ ts) [] ss h = tt
  param_sound site frame (t ∷ ts) (p ∷ ps) [] h = tt
  param_sound site frame (t ∷ ts) (p ∷ ps) (x ∷ ss) h =
      sound_append P event _ _ (word_sound P event site p x frame t.1 (h 0)) (param_sound site frame ts ps ss (λ j. h (suc j)))

  module _ (b : ℕ) (some : b ≢ 0) where
    param_writes : (site frame : ℕ) (ts : List (Ty × Name)) (os : List (Ty × Operand)) (n : ℕ) (y : Name) → (bind clean ts (read_all (read_poisoned s fr.values) os n) y).mask ≡ b
        → WritesIn (param_moves event site frame ts (read_all (read_poisoned s fr.values) os n) (sources k os n)) (Value frame y)
    param_writes site frame [] os n y h = absurd (some (sym h))
    param_writes site frame (t ∷ ts) [] n y h = absurd (some (sym h))
    param_writes site frame (t ∷ ts) (o ∷ os) n y h =
        on (with_mask (bind clean ts (read_all (read_poisoned s fr.values) os (n + one_undef o.1))) t.1 (read_poisoned s fr.values n o.0 o.1) y b h) (param_writes site frame ts os (n + one_undef o.1) y)
      where
        on : ((bind clean ts (read_all (read_poisoned s fr.values) os (n + one_undef o.1)) y).mask ≡ b) ⊎ ((y ≡ t.1) × ((read_poisoned s fr.values n o.0 o.1).mask ≡ b))
            → ((bind clean ts (read_all (read_poisoned s fr.values) os (n + one_undef o.1)) y).mask ≡ b
            → WritesIn (param_moves event site frame ts (read_all (read_poisoned s fr.values) os (n + one_undef o.1)) (sources k os (n + one_undef o.1))) (Value frame y))
            → WritesIn (param_moves event site frame (t ∷ ts) (read_all (read_poisoned s fr.values) (o ∷ os) n) (sources k (o ∷ os) n)) (Value frame y)
        on (inl g) rest = writes_right (word_move event site (read_poisoned s fr.values n o.0 o.1) (operand_source k n o.1) (target.Value frame t.1)) _ (Value frame y) (rest g)
        on (inr e) rest =
            writes_left _ _ (Value frame y)
            (subst (λ z. WritesIn (word_move event site (read_poisoned s fr.values n o.0 o.1) (operand_source k n o.1) (target.Value frame t.1)) (Value frame z)) (sym e.0)
            (word_writes event site (read_poisoned s fr.values n o.0 o.1) (operand_source k n o.1) frame t.1 (λ z. some (sym e.1 ∙ z))))

  -- ---- one instruction, after its checks and its blind count

  -- the roots of an instruction are of the kind: those of its operands, and its own
  pub record DueRoots (o : Op) : Type 0 where
    pub of_operands : (n : ℕ) → (here s m fr).root < n → n ≤ (here s m fr).root + count_undefs (operands o) → R n
    pub its_own : is_root s.func o ≡ true → R ((here s m fr).root + count_undefs (operands o) + 1)
    pub alone : calls_thread s.func o ≡ false

  module _ (o : Op) (r : Option Name) (mark : Bool) (is : List Inst) (rs : List Report) (blind : ℕ) (due : DueRoots o) where
    abbrev pub inst : Inst
    inst = record { op = o; result = r; marked = mark }

    abbrev pub ps : List Poisoned
    ps = read_all (read_poisoned s fr.values) (operands o) (here s m fr).root

    abbrev pub ss : List Source
    ss = sources k (operands o) (here s m fr).root

    abbrev pub own : ℕ
    own = (here s m fr).root + count_undefs (operands o) + 1

    abbrev pub u : World
    u = record w { reports = rs; blind = blind }

    abbrev pub lift : ℕ → World → Poisoned
    lift = poisoned_result by_formulas o ps

    abbrev pub after : ℕ → World → World
    after = planes s (here s m fr).site own o ps u

    pub comes : (j : ℕ) → (word_at j ps).mask ≢ 0 → P (source_at j ss)
    comes j n = words_from P (here s m fr).root ((here s m fr).root + count_undefs (operands o)) due.of_operands s fr.values k in_frame (operands o) (here s m fr).root (omega arith) (omega arith) j n

    pub plain : (j : ℕ) → NoByte (source_at j ss)
    plain j = sources_plain k (operands o) (here s m fr).root j

    pub bytes : (b : ℕ) → w.shadow b ≢ 0 → P (Byte b)
    bytes b n = n

    abbrev pub OpMoved : Effect → Type 0
    OpMoved e = AccountedMoved (inst ∷ is) (after_effect shadow_reading s m (here s m fr).site r ps lift after (keeping o e fr) below e)

    abbrev pub MovesAre : ℕ → (Frame Poisoned → World → List Move) → Type 0
    MovesAre to f = (next : Frame Poisoned) (rest : List (Frame Poisoned)) (v : World) → first_moves s m event (inst ∷ is) k to fr below w (next ∷ rest) v ≡ f next v

    -- a result, or the end
    abbrev pub GivesResult : Effect → Type 0
    GivesResult (Gives v x) = x ≡ u
    GivesResult (Ends e x) = Unit {0}
    GivesResult _ = ⊥

    pub result_moved : MovesAre k (λ next v. result_move event (here s m fr).site k r next.values (result_source o ps ss w)) → (result_mask by_formulas o ps u ≢ 0 → P (result_source o ps ss w))
        → ((v : ℕ) → after v u ≡ u) → (e : Effect) → GivesResult e → OpMoved e
    result_moved are from kept (Gives v x) g =
        subst (λ y. OpMoved (Gives v y)) (sym g)
        (as_put inst is (Gives v u) r (lift v u) (after v u) (record {
          deep = ap suc same;
          sound = subst (Sound P event) (sym (are (put fr r (lift v u)) below (after v u))) (put_sound (here s m fr).site r (lift v u) (result_source o ps ss w) from);
          kept = by_source;
        }))
      where
        by_source : (b : ℕ) → b ≢ 0 → (y : Source) → HasBits b (k ∷ ks) (record { frames = put fr r (lift v u) ∷ below; world = after v u }) y
            → HasBits b (k ∷ ks) (record { frames = fr ∷ below; world = w }) y ⊎ WritesIn (first_moves s m event (inst ∷ is) k k fr below w (put fr r (lift v u) ∷ below) (after v u)) y
        by_source b some (Root n) q = inl q
        by_source b some (Value f y) q =
            subst (λ ms. HasMask b (k ∷ ks) (fr ∷ below) f y ⊎ WritesIn ms (Value f y)) (sym (are (put fr r (lift v u)) below (after v u)))
            (put_kept b some (here s m fr).site r (lift v u) (result_source o ps ss w) f y q)
        by_source b some (Byte a) q = inl (ap (λ x. x.shadow a) (sym (kept v)) ∙ q)
    result_moved are from kept (Ends e x) g = tt
    result_moved are from kept (Does x) g = absurd g
    result_moved are from kept (Goes to x) g = absurd g
    result_moved are from kept (Enters f x) g = absurd g
    result_moved are from kept (Leaves x) g = absurd g

    abbrev pub MemoryOf : Effect → Type 0
    MemoryOf e = OpMemory P s (here s m fr).site own w bytes rs blind ps ss comes plain o e

    pub memory_moved : MovesAre k (λ next v. memory_moves event (here s m fr).site v.shadow (written s own o ps ss w v)) → ((x : World) → result_mask by_formulas o ps x ≡ 0)
        → (e : Effect) → MemoryOf e → OpMoved e
    memory_moved are clear (Gives v x) g =
        as_put inst is (Gives v x) r (lift v x) (after v x) (record {
          deep = ap suc same;
          sound = subst (Sound P event) (sym (are (put fr r (lift v x)) below (after v x))) (memory_sound P event (here s m fr).site (after v x).shadow (written s own o ps ss w (after v x)) g.sound);
          kept = by_source;
        })
      where
        by_source : (b : ℕ) → b ≢ 0 → (y : Source) → HasBits b (k ∷ ks) (record { frames = put fr r (lift v x) ∷ below; world = after v x }) y
            → HasBits b (k ∷ ks) (record { frames = fr ∷ below; world = w }) y ⊎ WritesIn (first_moves s m event (inst ∷ is) k k fr below w (put fr r (lift v x) ∷ below) (after v x)) y
        by_source b some (Root n) q = inl q
        by_source b some (Value f y) q = inl (put_clean b some r (lift v x) (clear x) f y q)
        by_source b some (Byte a) q = on (g.covers a poisoned)
          where
            poisoned : (after v x).shadow a ≢ 0
            poisoned = λ z. some (sym q ∙ z)

            on : ((after v x).shadow a ≡ w.shadow a) ⊎ Covered (written s own o ps ss w (after v x)) a → (w.shadow a ≡ b) ⊎ WritesIn (first_moves s m event (inst ∷ is) k k fr below w (put fr r (lift v x) ∷ below) (after v x)) (Byte a)
            on (inl h) = inl (sym h ∙ q)
            on (inr c) =
                inr (subst (λ ms. WritesIn ms (Byte a)) (sym (are (put fr r (lift v x)) below (after v x)))
                (memory_writes event (here s m fr).site (after v x).shadow (written s own o ps ss w (after v x)) a poisoned c))
    memory_moved are clear (Does x) g =
        as_before (inst ∷ is) (one_on fr) (after 0 x) (record {
          deep = ap suc same;
          sound = subst (Sound P event) (sym (are (one_on fr) below (after 0 x))) (memory_sound P event (here s m fr).site (after 0 x).shadow (written s own o ps ss w (after 0 x)) g.sound);
          kept = by_source;
        })
      where
        by_source : (b : ℕ) → b ≢ 0 → (y : Source) → HasBits b (k ∷ ks) (record { frames = one_on fr ∷ below; world = after 0 x }) y
            → HasBits b (k ∷ ks) (record { frames = fr ∷ below; world = w }) y ⊎ WritesIn (first_moves s m event (inst ∷ is) k k fr below w (one_on fr ∷ below) (after 0 x)) y
        by_source b some (Root n) q = inl q
        by_source b some (Value f y) q = inl q
        by_source b some (Byte a) q = on (g.covers a poisoned)
          where
            poisoned : (after 0 x).shadow a ≢ 0
            poisoned = λ z. some (sym q ∙ z)

            on : ((after 0 x).shadow a ≡ w.shadow a) ⊎ Covered (written s own o ps ss w (after 0 x)) a → (w.shadow a ≡ b) ⊎ WritesIn (first_moves s m event (inst ∷ is) k k fr below w (one_on fr ∷ below) (after 0 x)) (Byte a)
            on (inl h) = inl (sym h ∙ q)
            on (inr c) =
                inr (subst (λ ms. WritesIn ms (Byte a)) (sym (are (one_on fr) below (after 0 x)))
                (memory_writes event (here s m fr).site (after 0 x).shadow (written s own o ps ss w (after 0 x)) a poisoned c))
    memory_moved are clear (Ends e x) g = tt
    memory_moved are clear (Goes to x) g = absurd g
    memory_moved are clear (Enters f x) g = absurd g
    memory_moved are clear (Leaves x) g = absurd g

    abbrev pub jump_moves : ℕ → List Move
    jump_moves b = phis_moves (block_name m fr.func fr.block) (insts_at m fr.func b) (root_at s.func m fr.func b 0) (site_at m fr.func b 0)

    pub jump_moved : ¬ (targets o ≡ []) → MovesAre k (λ next v. jump_moves next.block) → (to : Name) → OpMoved (Goes to u)
    jump_moved branches are to edges =
        as_before (inst ∷ is) next u (record {
          deep = ap suc same;
          sound = subst (Sound P event) (sym (are next below u)) (phis_sound (block_name m fr.func fr.block) (insts_at m fr.func next.block) (root_at s.func m fr.func next.block 0) (site_at m fr.func next.block 0) (edges branches));
          kept = by_source;
        }) edges
      where
        next : Frame Poisoned
        next = jumped shadow_reading s m to fr

        by_source : (b : ℕ) → b ≢ 0 → (y : Source) → HasBits b (k ∷ ks) (record { frames = jumped shadow_reading s m to fr ∷ below; world = u }) y
            → HasBits b (k ∷ ks) (record { frames = fr ∷ below; world = w }) y ⊎ WritesIn (first_moves s m event (inst ∷ is) k k fr below w (jumped shadow_reading s m to fr ∷ below) u) y
        by_source b some (Root n) q = inl q
        by_source b some (Byte a) q = inl q
        by_source b some (Value f y) (inr q) = inl (inr q)
        by_source b some (Value f y) (inl q) =
            on (phis_kept (block_name m fr.func fr.block) b some (insts_at m fr.func (jumped shadow_reading s m to fr).block) (root_at s.func m fr.func (jumped shadow_reading s m to fr).block 0) (site_at m fr.func (jumped shadow_reading s m to fr).block 0) fr.values y q.1)
          where
            on : ((fr.values y).mask ≡ b) ⊎ WritesIn (jump_moves (jumped shadow_reading s m to fr).block) (Value k y)
                → HasMask b (k ∷ ks) (fr ∷ below) f y ⊎ WritesIn (first_moves s m event (inst ∷ is) k k fr below w (jumped shadow_reading s m to fr ∷ below) u) (Value f y)
            on (inl h) = inl (inl (q.0, h))
            on (inr h) =
                inr (subst (λ g. WritesIn (first_moves s m event (inst ∷ is) k k fr below w (jumped shadow_reading s m to fr ∷ below) u) (Value g y)) q.0
                (subst (λ ms. WritesIn ms (Value k y)) (sym (are (jumped shadow_reading s m to fr) below u)) h))

    pub enter_moved : (f : ℕ) → MovesAre made (λ next v. param_moves event (here s m fr).site made (params_at m f) ps ss) → OpMoved (Enters f u)
    enter_moved f are = by_depth (leb 1024 (length below + 1))
      where
        next : Frame Poisoned
        next = entered shadow_reading m f ps u

        by_source : (b : ℕ) → b ≢ 0 → (y : Source) → HasBits b (made ∷ k ∷ ks) (record { frames = entered shadow_reading m f ps u ∷ fr ∷ below; world = u }) y
            → HasBits b (k ∷ ks) (record { frames = fr ∷ below; world = w }) y ⊎ WritesIn (first_moves s m event (inst ∷ is) k made fr below w (entered shadow_reading m f ps u ∷ fr ∷ below) u) y
        by_source b some (Root n) q = inl q
        by_source b some (Byte a) q = inl q
        by_source b some (Value g y) (inr q) = inl q
        by_source b some (Value g y) (inl q) =
            inr (subst (λ g. WritesIn (first_moves s m event (inst ∷ is) k made fr below w (entered shadow_reading m f ps u ∷ fr ∷ below) u) (Value g y)) q.0
            (subst (λ ms. WritesIn ms (Value made y)) (sym (are (entered shadow_reading m f ps u) (fr ∷ below) u))
            (param_writes b some (here s m fr).site made (params_at m f) (operands o) (here s m fr).root y q.1)))

        accounted : Accounted (inst ∷ is) (record { standing = made ∷ k ∷ ks; made = made + 1 }) (entered shadow_reading m f ps u ∷ fr ∷ below) u
        accounted = record {
          deep = ap (λ n. suc (suc n)) same;
          sound = subst (Sound P event) (sym (are next (fr ∷ below) u)) (param_sound (here s m fr).site made (params_at m f) ps ss comes);
          kept = by_source;
        }

        by_depth : (t : Bool) → AccountedMoved (inst ∷ is) (if t then Over («end».Trap trap.Depth (here s m fr).site) u else On (entered shadow_reading m f ps u ∷ fr ∷ below) u)
        by_depth true = tt
        by_depth false =
            λ edges. subst (λ ns. Accounted (inst ∷ is) ns (entered shadow_reading m f ps u ∷ fr ∷ below) u) (sym (renumbered_more (k ∷ ks) made (suc (suc (length below))) (ap (λ n. suc (suc n)) same))) accounted

-- ---- a return

ended_shadow : (ps : List ℕ) (w : World) → (end_blocks ps w).shadow ≡ w.shadow
ended_shadow [] w = refl
ended_shadow (p ∷ ps) w = ended_shadow ps (end_block p w)

-- what it takes back leaves shadow as it is
given_back_shadow : (frame : Frame Poisoned) (w : World) → (given_back frame w).shadow ≡ w.shadow
given_back_shadow frame w = ended_shadow frame.heap (if eqb frame.mark 0 then w else release frame.mark w) ∙ by_mark (eqb frame.mark 0)
  where
    by_mark : (t : Bool) → (if t then w else release frame.mark w).shadow ≡ w.shadow
    by_mark true = refl
    by_mark false = refl

return_moved : (R : ℕ → Type 0) (s : Setting) (m : Module) (event k : ℕ) (ks : List ℕ) (made : ℕ) (fr : Frame Poisoned) (below : List (Frame Poisoned)) (same : length ks ≡ length below) (w : World)
    (v : Option (Ty × Operand)) (r : Option Name) (mark : Bool) (is : List Inst) (rs : List Report) (blind : ℕ) (due : DueRoots R s m event k ks made fr below same w (op.Ret v))
    → OpMoved R s m event k ks made fr below same w (op.Ret v) r mark is rs blind due (Leaves (record w { reports = rs; blind = blind }))
return_moved R s m event k ks made fr [] same w v r mark is rs blind due = tt
return_moved R s m event k [] made fr (caller ∷ rest) same w v r mark is rs blind due = absurd (omega (arith, same))
return_moved R s m event k (j ∷ js) made fr (caller ∷ rest) same w v r mark is rs blind due =
    λ edges. subst (λ ns. Accounted R s m event k (j ∷ js) made fr (caller ∷ rest) same w (record { op = op.Ret v; result = r; marked = mark } ∷ is) ns (put caller (result_at m caller) word ∷ rest) (given_back fr x))
    (sym (renumbered_less k (j ∷ js) made (suc (length rest)) same))
    (record { deep = same; sound = sound (result_at m caller); kept = by_source })
  where
    x : World
    x = record w { reports = rs; blind = blind }

    words : List Poisoned
    words = read_all (read_poisoned s fr.values) (operands (op.Ret v)) (here s m fr).root

    word : Poisoned
    word = get_or words 0 clean

    first_word : (qs : List Poisoned) → get_or qs 0 clean ≡ word_at 0 qs
    first_word [] = refl
    first_word (q ∷ qs) = refl

    site : ℕ
    site = (here s m fr).site

    from : Source
    from = source_at 0 (sources k (operands (op.Ret v)) (here s m fr).root)

    before : Source → Type 0
    before = IsPoisoned R (k ∷ j ∷ js) (record { frames = fr ∷ caller ∷ rest; world = w })

    sound : (n : Option Name) → Sound before event (result_move event site j n (λ y. word_at 0 words) from)
    sound None = tt
    sound (Some y) = word_sound before event site (word_at 0 words) from j y (λ z. comes R s m event k (j ∷ js) made fr (caller ∷ rest) same w (op.Ret v) r mark is rs blind due 0 z)

    put_there : (b : ℕ) → b ≢ 0 → (n : Option Name) (f : ℕ) (y : Name) → ((put caller n word).values y).mask ≡ b → j ≡ f
        → HasMask b (k ∷ j ∷ js) (fr ∷ caller ∷ rest) f y ⊎ WritesIn (result_move event site j n (λ z. word_at 0 words) from) (Value f y)
    put_there b some None f y h g = inl (inr (inl (g, h)))
    put_there b some (Some z) f y h g = on (with_mask caller.values z word y b h)
      where
        on : ((caller.values y).mask ≡ b) ⊎ ((y ≡ z) × (word.mask ≡ b))
            → HasMask b (k ∷ j ∷ js) (fr ∷ caller ∷ rest) f y ⊎ WritesIn (result_move event site j (Some z) (λ a. word_at 0 words) from) (Value f y)
        on (inl q) = inl (inr (inl (g, q)))
        on (inr q) =
            inr (subst (λ c. WritesIn (result_move event site j (Some z) (λ a. word_at 0 words) from) (Value c y)) g
            (subst (λ c. WritesIn (result_move event site j (Some z) (λ a. word_at 0 words) from) (Value j c)) (sym q.0)
            (word_writes event site (word_at 0 words) from j z (λ e. some (sym q.1 ∙ ap (λ p. p.mask) (first_word words) ∙ e)))))

    by_source : (b : ℕ) → b ≢ 0 → (y : Source) → HasBits b (j ∷ js) (record { frames = put caller (result_at m caller) word ∷ rest; world = given_back fr x }) y
        → HasBits b (k ∷ j ∷ js) (record { frames = fr ∷ caller ∷ rest; world = w }) y ⊎ WritesIn (return_move m event site j (word_at 0 words) from (caller ∷ rest)) y
    by_source b some (Root n) q = inl q
    by_source b some (Byte a) q = inl (sym (ap (λ (f : ℕ → ℕ). f a) (given_back_shadow fr x)) ∙ q)
    by_source b some (Value f y) (inr q) = inl (inr (inr q))
    by_source b some (Value f y) (inl q) = put_there b some (result_at m caller) f y q.1 q.0

no_end : (x : Name) (xs : List Name) → (x ∷ xs) ≡ [] → ⊥
no_end x xs e = let h : suc (length xs) ≡ 0 = ap length e in absurd (omega (arith, h))

-- ---- calls of externals

-- a function of whole words is called, or what writes memory and answers no poisoned bit
abbrev WordOrOther : Option External → Type 0
WordOrOther o = ((f : WordFn) × (n : WordWidth) × (o ≡ Some (external_of.Word f n))) ⊎ (((result memory : List Move) → callee_moves o result memory ≡ memory) × ((ps : List Poisoned) → answer_mask o ps ≡ 0))

word_or_other : (o : Option External) → WordOrOther o
word_or_other (Some (external_of.Word f n)) = inl (f, n, refl)
word_or_other o = inr ((λ result memory. refl), (λ ps. refl))

-- ---- every instruction

module _ (R : ℕ → Type 0) (s : Setting) (m : Module) (event : ℕ) (k : ℕ) (ks : List ℕ) (made : ℕ) (fr : Frame Poisoned) (below : List (Frame Poisoned)) (same : length ks ≡ length below) (w : World) where
  module _ (r : Option Name) (mark : Bool) (is : List Inst) (rs : List Report) (blind : ℕ) where
    abbrev Acts : (o : Op) → DueRoots R s m event k ks made fr below same w o → Type 0
    Acts o due = OpMoved R s m event k ks made fr below same w o r mark is rs blind due (act s (here s m fr) o (map (λ p. p.value) (ps R s m event k ks made fr below same w o r mark is rs blind due)) (record w { reports = rs; blind = blind }))

    abbrev moved_as : (o : Op) → DueRoots R s m event k ks made fr below same w o → (e : Effect) → Type 0
    moved_as o due e = OpMoved R s m event k ks made fr below same w o r mark is rs blind due e

    given : (site : ℕ) (o : Op) (due : DueRoots R s m event k ks made fr below same w o) (a : Result ℕ Trap) → GivesResult R s m event k ks made fr below same w o r mark is rs blind due (gives site a (record w { reports = rs; blind = blind }))
    given site o due (Ok v) = refl
    given site o due (Err t) = tt

    from : (o : Op) (due : DueRoots R s m event k ks made fr below same w o) (x : World) → ((b : ℕ) → x.shadow b ≢ 0 → w.shadow b ≢ 0) → result_mask by_formulas o (ps R s m event k ks made fr below same w o r mark is rs blind due) x ≢ 0
        → P R s m event k ks made fr below same w (result_source o (ps R s m event k ks made fr below same w o r mark is rs blind due) (ss R s m event k ks made fr below same w o r mark is rs blind due) x)
    from o due x h n =
        result_from (P R s m event k ks made fr below same w) (here s m fr).root ((here s m fr).root + count_undefs (operands o)) due.of_operands s fr.values k (in_frame R s m event k ks made fr below same w) o (here s m fr).root (omega arith) (omega arith) x (λ b g. h b g) n

    by_callee : (ret : Option Ty) (x : Name) (args : List (Ty × Operand)) (due : DueRoots R s m event k ks made fr below same w (op.Call ret x args)) (c : Option ℕ) → s.func x ≡ c
        → moved_as (op.Call ret x args) due
        (elim c [
          | Some f ↦ Enters f (record w { reports = rs; blind = blind })
          | None ↦
              elim (external_named s.func x) [
                | Some e ↦ external s (here s m fr).site e (map (λ a. a.0) args) (map (λ p. p.value) (ps R s m event k ks made fr below same w (op.Call ret x args) r mark is rs blind due)) (record w { reports = rs; blind = blind })
                | None ↦ Ends stuck (record w { reports = rs; blind = blind })
              ]
        ])
    by_callee ret x args due (Some f) e =
        enter_moved R s m event k ks made fr below same w (op.Call ret x args) r mark is rs blind due f
        (λ next rest v. ap (λ c. elim c as (λ z. List Move) [
          | Some g ↦ param_moves event (here s m fr).site made (params_at m g) (ps R s m event k ks made fr below same w (op.Call ret x args) r mark is rs blind due) (ss R s m event k ks made fr below same w (op.Call ret x args) r mark is rs blind due)
          | None ↦
              callee_moves (external_named s.func x)
              (result_move event (here s m fr).site made r next.values (result_source (op.Call ret x args) (ps R s m event k ks made fr below same w (op.Call ret x args) r mark is rs blind due) (ss R s m event k ks made fr below same w (op.Call ret x args) r mark is rs blind due) w))
              (memory_moves event (here s m fr).site v.shadow (written s (own R s m event k ks made fr below same w (op.Call ret x args) r mark is rs blind due) (op.Call ret x args) (ps R s m event k ks made fr below same w (op.Call ret x args) r mark is rs blind due) (ss R s m event k ks made fr below same w (op.Call ret x args) r mark is rs blind due) w v))
        ]) e)
    by_callee ret x args due None e = by_kind (word_or_other (external_named s.func x))
      where
        result_of : (Name → Poisoned) → List Move
        result_of values = result_move event (here s m fr).site k r values (result_source (op.Call ret x args) (read_all (read_poisoned s fr.values) args (here s m fr).root) (sources k args (here s m fr).root) w)

        bytes_of : World → List Move
        bytes_of v = memory_moves event (here s m fr).site v.shadow (written s ((here s m fr).root + count_undefs args + 1) (op.Call ret x args) (read_all (read_poisoned s fr.values) args (here s m fr).root) (sources k args (here s m fr).root) w v)

        -- the moves are those of a call of no function of the module
        outside : (next : Frame Poisoned) (rest : List (Frame Poisoned)) (v : World)
            → first_moves s m event (record { op = op.Call ret x args; result = r; marked = mark } ∷ is) k k fr below w (next ∷ rest) v ≡ callee_moves (external_named s.func x) (result_of next.values) (bytes_of v)
        outside next rest v = ap (λ c. elim c as (λ z. List Move) [
          | Some g ↦ param_moves event (here s m fr).site k (params_at m g) (read_all (read_poisoned s fr.values) args (here s m fr).root) (sources k args (here s m fr).root)
          | None ↦ callee_moves (external_named s.func x) (result_of next.values) (bytes_of v)
        ]) e

        by_kind : WordOrOther (external_named s.func x)
            → moved_as (op.Call ret x args) due
            (elim (external_named s.func x) [
              | Some y ↦ external s (here s m fr).site y (map (λ a. a.0) args) (map (λ p. p.value) (read_all (read_poisoned s fr.values) args (here s m fr).root)) (record w { reports = rs; blind = blind })
              | None ↦ Ends stuck (record w { reports = rs; blind = blind })
            ])
        by_kind (inl (f, n, is_word)) =
            subst (λ o. moved_as (op.Call ret x args) due
            (elim o [
              | Some y ↦ external s (here s m fr).site y (map (λ a. a.0) args) (map (λ p. p.value) (read_all (read_poisoned s fr.values) args (here s m fr).root)) (record w { reports = rs; blind = blind })
              | None ↦ Ends stuck (record w { reports = rs; blind = blind })
            ])) (sym is_word)
            (result_moved R s m event k ks made fr below same w (op.Call ret x args) r mark is rs blind due
            (λ next rest v. outside next rest v ∙ ap (λ o. callee_moves o (result_of next.values) (bytes_of v)) is_word)
            (λ z. from (op.Call ret x args) due w (λ b h. h) z)
            (λ v. ap (λ o. callee_planes s (here s m fr).site ((here s m fr).root + count_undefs args + 1) o (read_all (read_poisoned s fr.values) args (here s m fr).root) (record w { reports = rs; blind = blind }) v (record w { reports = rs; blind = blind })) is_word)
            _ (given (here s m fr).site (op.Call ret x args) due _))
        by_kind (inr (alone, clean_answer)) =
            memory_moved R s m event k ks made fr below same w (op.Call ret x args) r mark is rs blind due
            (λ next rest v. outside next rest v ∙ alone (result_of next.values) (bytes_of v))
            (λ y. result_zero ret _ (ap (λ o. answer_mask o (read_all (read_poisoned s fr.values) args (here s m fr).root)) (sym (ap (λ c. if is_some c then None else lookup externals x) e)) ∙ clean_answer (read_all (read_poisoned s fr.values) args (here s m fr).root))) _
            (called_memory (P R s m event k ks made fr below same w) s (here s m fr).site (own R s m event k ks made fr below same w (op.Call ret x args) r mark is rs blind due) w
            (bytes R s m event k ks made fr below same w (op.Call ret x args) r mark is rs blind due) rs blind (ps R s m event k ks made fr below same w (op.Call ret x args) r mark is rs blind due) (ss R s m event k ks made fr below same w (op.Call ret x args) r mark is rs blind due)
            (comes R s m event k ks made fr below same w (op.Call ret x args) r mark is rs blind due) (plain R s m event k ks made fr below same w (op.Call ret x args) r mark is rs blind due) ret x args (external_named s.func x) refl (asked_alone (external_named s.func x) due.alone) due.its_own)

    acts : (o : Op) (due : DueRoots R s m event k ks made fr below same w o) → Acts o due
    acts (op.Binary o f t a b) due = result_moved R s m event k ks made fr below same w (op.Binary o f t a b) r mark is rs blind due (λ next rest v. refl) (λ n. from (op.Binary o f t a b) due w (λ b h. h) n) (λ v. refl) _ (given (here s m fr).site (op.Binary o f t a b) due _)
    acts (op.Icmp o f t a b) due = result_moved R s m event k ks made fr below same w (op.Icmp o f t a b) r mark is rs blind due (λ next rest v. refl) (λ n. from (op.Icmp o f t a b) due w (λ b h. h) n) (λ v. refl) _ (given (here s m fr).site (op.Icmp o f t a b) due _)
    acts (op.Cast o f t a b) due = result_moved R s m event k ks made fr below same w (op.Cast o f t a b) r mark is rs blind due (λ next rest v. refl) (λ n. from (op.Cast o f t a b) due w (λ b h. h) n) (λ v. refl) _ (given (here s m fr).site (op.Cast o f t a b) due _)
    acts (op.Select c t a b) due = result_moved R s m event k ks made fr below same w (op.Select c t a b) r mark is rs blind due (λ next rest v. refl) (λ n. from (op.Select c t a b) due w (λ b h. h) n) (λ v. refl) (Gives _ (record w { reports = rs; blind = blind })) refl
    acts (op.Freeze t a) due = result_moved R s m event k ks made fr below same w (op.Freeze t a) r mark is rs blind due (λ next rest v. refl) (λ n. from (op.Freeze t a) due w (λ b h. h) n) (λ v. refl) (Gives _ (record w { reports = rs; blind = blind })) refl
    acts (op.Phi t edges) due = tt
    acts (op.Alloca t u c) due =
        memory_moved R s m event k ks made fr below same w (op.Alloca t u c) r mark is rs blind due (λ next rest v. refl) (λ y. refl) _
        (alloca_memory (P R s m event k ks made fr below same w) s (here s m fr).site (own R s m event k ks made fr below same w (op.Alloca t u c) r mark is rs blind due) w
        (bytes R s m event k ks made fr below same w (op.Alloca t u c) r mark is rs blind due) rs blind (ps R s m event k ks made fr below same w (op.Alloca t u c) r mark is rs blind due) (ss R s m event k ks made fr below same w (op.Alloca t u c) r mark is rs blind due)
        (comes R s m event k ks made fr below same w (op.Alloca t u c) r mark is rs blind due) (plain R s m event k ks made fr below same w (op.Alloca t u c) r mark is rs blind due) (due.its_own refl) (here s m fr) t u c)
    acts (op.Load t a) due = by_good (is_good w (read_poisoned s fr.values (here s m fr).root ty.Ptr a).value (stored_size t))
      where
        by_good : (g : Bool)
            → moved_as (op.Load t a) due
            (if g then Gives (number_at w.bytes (read_poisoned s fr.values (here s m fr).root ty.Ptr a).value (stored_size t) % 2 ^ width_of t) (record w { reports = rs; blind = blind }) else traps trap.BadAddress (here s m fr).site (record w { reports = rs; blind = blind }))
        by_good true = result_moved R s m event k ks made fr below same w (op.Load t a) r mark is rs blind due (λ next rest v. refl) (λ n. from (op.Load t a) due w (λ b h. h) n) (λ v. refl) (Gives _ (record w { reports = rs; blind = blind })) refl
        by_good false = tt
    acts (op.Store t v a) due =
        memory_moved R s m event k ks made fr below same w (op.Store t v a) r mark is rs blind due (λ next rest v. refl) (λ y. refl) _
        (stored_memory (P R s m event k ks made fr below same w) s (here s m fr).site (own R s m event k ks made fr below same w (op.Store t v a) r mark is rs blind due) w
        (bytes R s m event k ks made fr below same w (op.Store t v a) r mark is rs blind due) rs blind (ps R s m event k ks made fr below same w (op.Store t v a) r mark is rs blind due) (ss R s m event k ks made fr below same w (op.Store t v a) r mark is rs blind due)
        (comes R s m event k ks made fr below same w (op.Store t v a) r mark is rs blind due) (plain R s m event k ks made fr below same w (op.Store t v a) r mark is rs blind due) (here s m fr) t v a)
    acts (op.Gep t a ix) due = result_moved R s m event k ks made fr below same w (op.Gep t a ix) r mark is rs blind due (λ next rest v. refl) (λ n. from (op.Gep t a ix) due w (λ b h. h) n) (λ v. refl) (Gives _ (record w { reports = rs; blind = blind })) refl
    acts (op.Call ret x args) due = by_callee ret x args due (s.func x) refl
    acts (op.Br to) due = jump_moved R s m event k ks made fr below same w (op.Br to) r mark is rs blind due (λ e. no_end _ _ e) (λ next rest v. refl) to
    acts (op.CondBr c to otherwise) due = jump_moved R s m event k ks made fr below same w (op.CondBr c to otherwise) r mark is rs blind due (λ e. no_end _ _ e) (λ next rest v. refl) _
    acts (op.Switch t v otherwise cases) due = jump_moved R s m event k ks made fr below same w (op.Switch t v otherwise cases) r mark is rs blind due (λ e. no_end _ _ e) (λ next rest v. refl) _
    acts (op.Ret v) due = by_main (here s m fr).main
      where
        by_main : (t : Bool) → moved_as (op.Ret v) due (if t then Ends («end».Exit (word 0 (map (λ p. p.value) (ps R s m event k ks made fr below same w (op.Ret v) r mark is rs blind due)))) (record w { reports = rs; blind = blind }) else Leaves (record w { reports = rs; blind = blind }))
        by_main true = tt
        by_main false = return_moved R s m event k ks made fr below same w v r mark is rs blind due
    acts op.Unreachable due = tt

  -- ---- checks, the blind count, and the instruction that is due

  abbrev pub Moves : List Inst → Outcome Poisoned → Type 0
  Moves is x = AccountedMoved R s m event k ks made fr below same w is x

  counted : (mask : ℕ) (rs : List Report) (Q : World → Type 0) → ((blind : ℕ) → Q (record w { reports = rs; blind = blind })) → Q (count_blind mask (record w { reports = rs }))
  counted mask rs Q h = by_test (eqb mask 0)
    where
      by_test : (t : Bool) → Q (if t then record w { reports = rs } else record w { reports = rs; blind = w.blind + 1 })
      by_test true = h w.blind
      by_test false = h (w.blind + 1)

  checked : (i : Inst) (is : List Inst) → DueRoots R s m event k ks made fr below same w i.op → (e : Effect) → OnlyReports w e
      → Moves (i ∷ is) (after_checks by_formulas s m i (here s m fr) (read_all (read_poisoned s fr.values) (operands i.op) (here s m fr).root) fr below e)
  checked i is due (Does x) h =
      subst (λ y. Moves (i ∷ is) (after_checks by_formulas s m i (here s m fr) (read_all (read_poisoned s fr.values) (operands i.op) (here s m fr).root) fr below (Does y))) (sym h)
      (counted (union (map (λ p. p.mask) (blinded s.func i.op (read_all (read_poisoned s fr.values) (operands i.op) (here s m fr).root)))) x.reports
      (λ y. Moves (i ∷ is) (shadow_act by_formulas s m i (here s m fr) (read_all (read_poisoned s fr.values) (operands i.op) (here s m fr).root) fr below y))
      (λ blind. acts i.result i.marked is x.reports blind i.op due))
  checked i is due (Gives v x) h = tt
  checked i is due (Goes v x) h = tt
  checked i is due (Enters v x) h = tt
  checked i is due (Leaves x) h = tt
  checked i is due (Ends v x) h = tt

  -- the roots of the instruction that is due
  abbrev pub FirstRoots : List Inst → Type 0
  FirstRoots [] = Unit {0}
  FirstRoots (i ∷ is) = DueRoots R s m event k ks made fr below same w i.op

  pub first_moved : (is : List Inst) → FirstRoots is → Moves is (shadow_first by_formulas s m is fr below w)
  first_moved [] due = tt
  first_moved (i ∷ is) due =
      checked i is due (check_uses s (here s m fr).site (operands i.op) (read_all (read_poisoned s fr.values) (operands i.op) (here s m fr).root) (uses s.func (here s m fr).main i.op) w)
      (uses_reports s (here s m fr).site (operands i.op) (read_all (read_poisoned s fr.values) (operands i.op) (here s m fr).root) (uses s.func (here s m fr).main i.op) w)
