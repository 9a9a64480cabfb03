-- A run that is reported has a way to what its use reads.
use Rattle.std.proofs.Common.{◌≡◌, ◌≢◌, ℕ, zero, suc, ◌+◌, ◌<◌, List, [], ◌∷◌, ◌++◌, take, drop, slice_get, length, reverse, Bool, true, false, Some, None, refl, sym, ap, ◌∙◌, subst, arith, if◌then◌else◌, ◌⊎◌, inl, inr}
use Rattle.std.proofs.lemmas.Option.{same_Some, none-some}
use Rattle.std.proofs.lemmas.List.{reverse-reverse}
use Rattle.ms_ir.specs.declared.syntax.Name.{Name}
use Rattle.ms_ir.specs.declared.syntax.Ty.{Ty}
use Rattle.ms_ir.specs.declared.syntax.Inst.{Inst}
use Rattle.ms_ir.specs.declared.syntax.Init.{Init, Row_of-Init-Array-0-2, end_of-Init-Array-0-2, more_of-Init-Array-0-2}
use Rattle.ms_ir.specs.declared.syntax.Init as initial
use Rattle.ms_ir.specs.declared.syntax.GlobalVar.{GlobalVar}
use Rattle.ms_ir.specs.declared.syntax.Module.{Module}
use Rattle.ms_runs.specs.declared.runs.End.{End}
use Rattle.ms_runs.specs.declared.runs.End.TheVariants as «end»
use Rattle.ms_runs.specs.declared.runs.Setup.{Setup}
use Rattle.ms_ir.specs.Names.{is_reserved}
use Rattle.ms_runs.specs.Globals.{write_init, write_items, write_fields, make_globals, address_of}
use Rattle.ms_ir.specs.Layout.{Types, Extent, extent, size_in, align_in, round_up, place_field}
use Rattle.ms_ir.specs.Areas.{Fixed}
use Rattle.ms_runs.specs.World.{World, Setting}
use Rattle.ms_runs.specs.Memory.{next_base, make}
use Rattle.ms_ir.specs.Instructions.{operands, count_undefs, roots_in, over_insts, func_index, insts_at, root_at}
use Rattle.ms_runs.specs.Control.{Frame, Outcome, On, Over, here, rest_of, read_all, read_edge, count_phis, block_name}
use Rattle.ms_runs.specs.Plain.{Stepped, More, Stop, setting_of}
use Rattle.ms_runs.specs.Poisoned.{Poisoned}
use Rattle.ms_runs.specs.Masks.{by_formulas, by_completions}
use Rattle.ms_runs.specs.Uses.{uses}
use Rattle.ms_runs.specs.Shadow.{read_poisoned, ShadowState, shadow_moved, shadow_first, shadow_frames, shadow_step}
use Rattle.ms_runs_good_laws.specs.Fills.{to_first_report}
use Rattle.ms_trail_moves.specs.declared.moves.Source.{Source}
use Rattle.ms_trail_moves.specs.declared.moves.Source.TheVariants.{Root, Value, Byte}
use Rattle.ms_trail_moves.specs.declared.moves.Move.{Move}
use Rattle.ms_trail_moves.specs.declared.moves.Hop.{Hop}
use Rattle.ms_trail_moves.specs.Sources.{sources}
use Rattle.ms_trail_moves.specs.Events.{renumbered, event_moves}
use Rattle.ms_trail_moves.specs.Traces.{first_read, frames_read, use_of, Traced, traced_start, traced_on, NoReport, Found, ended, stepped, trace_from, trace}
use Rattle.ms_trail_moves.specs.Leads.{LeadsBack}
use Rattle.ms_trail_moves.specs.Moving.{IsPoisoned}
use Rattle.ms_trail_laws.proofs.Exact.{computed}
use Rattle.ms_trail_moves.proofs.Chains.{HasWays, ways_on, more_roots}
use Rattle.ms_trail_laws.proofs.ByteRuns.{account}
use Rattle.ms_trail_laws.proofs.MemoryMoves.{zeroed}
use Rattle.ms_trail_laws.proofs.ResultMoves.{words_from}
use Rattle.ms_ir.specs.ThreadCalls.{is_threaded}
use Rattle.ms_runs_good_laws.proofs.ThreadsApart.{none_due}
use Rattle.ms_trail_laws.proofs.StepMoves.{AccountedMoved, writes_of, EdgesOf, Edges, FirstRoots, first_moved}
use Rattle.ms_runs_laws.proofs.UnreportedEnds.{is_reported}
use Rattle.ms_trail_laws.proofs.EndsAtUse.{ReadMoved, uses_read, after_read}
use Rattle.std.specs.Prelude.{option_and_then}
use Rattle.ms_ir.specs.declared.syntax.Op.{Op}
use Rattle.ms_ir.specs.declared.syntax.Op.TheVariants as op
use Rattle.ms_ir.specs.declared.syntax.Operand.{Operand}
use Rattle.ms_ir.specs.Written.{targets}
use Rattle.ms_runs_good_laws.specs.Reached.{walked, walked_on, Due, IsOperand, edge_root, AsOperand, AsItself, AsEdge, IsReached}
use Rattle.ms_runs_good_laws.proofs.Frames.{drop_first, drop_next}
use Rattle.ms_trail_laws.specs.FromReached.{FromReached}
use Rattle.ms_trail_moves.specs.Scanned.{Ascending}
use Rattle.ms_runs_laws.proofs.ExactRules.{formulas_exact}
use Rattle.ms_runs_laws.proofs.SameRuns.{same_step}

-- ---- the start

module _ (types : Types) (address : Name → ℕ) where
  mutual
    init_clean : (i : Init) (t : Ty) (a : ℕ) (w : World) → (write_init types address a t i w).shadow ≡ w.shadow
    init_clean (initial.Value o) t a w = refl
    init_clean initial.Zero t a w = refl
    init_clean (initial.Text bs) t a w = refl
    init_clean (initial.Array' shape items) t a w = items_clean items a w
    init_clean (initial.Struct' packed shape fields) t a w = fields_clean fields packed a (extent 0 1) w

    items_clean : {n : _} (r : Row_of-Init-Array-0-2 n) (a : ℕ) (w : World) → (write_items types address a r w).shadow ≡ w.shadow
    items_clean end_of-Init-Array-0-2 a w = refl
    items_clean (more_of-Init-Array-0-2 t i rest) a w = items_clean rest (a + size_in types t) (write_init types address a t i w) ∙ init_clean i t a w

    fields_clean : {n : _} (r : Row_of-Init-Array-0-2 n) (packed : Bool) (a : ℕ) (so_far : Extent) (w : World) → (write_fields types address packed a so_far r w).shadow ≡ w.shadow
    fields_clean end_of-Init-Array-0-2 packed a so_far w = refl
    fields_clean (more_of-Init-Array-0-2 t i rest) packed a so_far w =
        let at = a + (if packed then so_far.size else round_up so_far.size (align_in types t)) in
        fields_clean rest packed a (place_field packed so_far (extent (size_in types t) (align_in types t))) (write_init types address at t i w) ∙ init_clean i t at w

  globals_clean : (gs : List GlobalVar) (w : World) (a : ℕ) → (make_globals types address gs w).shadow a ≢ 0 → w.shadow a ≢ 0
  globals_clean [] w a h = h
  globals_clean (g ∷ rest) w a h = by_test (is_reserved g.name) h (λ v n. globals_clean rest v a n)
    where
      by_test : (t : Bool)
          → (if t then make_globals types address rest w else
          make_globals types address rest (write_init types address (next_base Fixed w) g.ty g.init (make Fixed (size_in types g.ty) w))).shadow a ≢ 0
          → ((v : World) → (make_globals types address rest v).shadow a ≢ 0 → v.shadow a ≢ 0) → w.shadow a ≢ 0
      by_test true n go = go w n
      by_test false n go =
          zeroed w.shadow (next_base Fixed w) (size_in types g.ty) a
          (subst (λ S. S a ≢ 0) (init_clean g.init g.ty (next_base Fixed w) (make Fixed (size_in types g.ty) w))
          (go (write_init types address (next_base Fixed w) g.ty g.init (make Fixed (size_in types g.ty) w)) n))

-- ---- lists

counted_next : (count : Inst → ℕ) (xs : List Inst) (n : ℕ) (i : Inst) (is : List Inst) → drop n xs ≡ i ∷ is → over_insts count (take (suc n) xs) ≡ over_insts count (take n xs) + count i
counted_next count [] zero i is e = let h : 0 ≡ suc (length is) = ap length e in absurd (omega (arith, h))
counted_next count [] (suc n) i is e = let h : 0 ≡ suc (length is) = ap length e in absurd (omega (arith, h))
counted_next count (x ∷ xs) zero i is e =
    let same : x ≡ i = same_Some x i (ap (λ l. slice_get l 0) e) in
    let c : count x ≡ count i = ap count same in
    omega (arith, c)
counted_next count (x ∷ xs) (suc n) i is e = omega (arith, counted_next count xs n i is e)

-- ---- what holds of a run as far as it came

abbrev pub kind_of : Module → ShadowState → List ShadowState → ℕ → Type 0
kind_of m c passed = IsReached m (record { state = c; passed = passed })

pub stop_more : {S : Type 0} (e : End) (w : World) (c : S) → Stop e w ≡ More c → ⊥
stop_more e w c h = grind arith

module _ (m : Module) (calm : is_threaded m ≡ false) (setup : Setup) where
  abbrev s : Setting
  s = setting_of m setup

  pub record Good (t : Traced) (passed : List ShadowState) : Type 0 where
    pub deep : length t.numbers.standing ≡ length t.state.frames
    pub came : walked by_completions m setup t.events ≡ Some (record { state = t.state; passed = passed })
    pub ways : HasWays (kind_of m t.state passed) (IsPoisoned (kind_of m t.state passed) t.numbers.standing t.state) t.moves t.events

  good_start : Good (traced_start m setup) []
  good_start = record {
    deep = refl;
    came = refl;
    ways = record { ways = by_source; earlier = λ j x e. absurd (none-some x e); ordered = λ i j x o l e f. absurd (none-some x e) };
  }
    where
      by_source : (y : Source) → IsPoisoned (kind_of m (traced_start m setup).state []) (0 ∷ []) (traced_start m setup).state y → (hops : List Hop) × LeadsBack (kind_of m (traced_start m setup).state []) [] None y hops
      by_source (Root n) q = absurd q
      by_source (Value f x) (inl q) = absurd (q.1 refl)
      by_source (Value f x) (inr q) = absurd q
      by_source (Byte a) q = absurd (globals_clean m.types (address_of m) m.globals _ a q refl)

  -- ---- a step

  module _ (w : World) (made events k : ℕ) (ks : List ℕ) (fr : Frame Poisoned) (below : List (Frame Poisoned)) (same : length ks ≡ length below) (passed : List ShadowState) (c : ShadowState) where
    abbrev before : ShadowState
    before = record { frames = fr ∷ below; world = w }

    -- the roots that the run has reached after the step
    abbrev R : ℕ → Type 0
    R = kind_of m c (record { frames = fr ∷ below; world = w } ∷ passed)

    abbrev due_at : (i : Inst) (is : List Inst) → rest_of m fr ≡ i ∷ is → Due m (record { frames = fr ∷ below; world = w })
    due_at i is e = record { frame = fr; below = below; innermost = refl; inst = i; stands = drop_first (insts_at m fr.func fr.block) fr.place i is e }

    first_roots : (is : List Inst) → rest_of m fr ≡ is → FirstRoots R s m events k ks made fr below same w is
    first_roots [] e = tt
    first_roots (i ∷ is) e = record {
      of_operands = λ n l g. inl (AsOperand (record { due = due_at i is e; above = l; within = g }));
      its_own = λ makes. inl (AsItself (record { due = due_at i is e; makes = makes; is = refl }));
      alone = none_due m calm fr.func fr.block fr.place i (drop_first (insts_at m fr.func fr.block) fr.place i is e);
    }

    module _ (i : Inst) (is : List Inst) (e : rest_of m fr ≡ i ∷ is) (branches : ¬ (targets i.op ≡ [])) (next : Frame Poisoned) (rest : List (Frame Poisoned)) (there : c.frames ≡ next ∷ rest) where
      abbrev insts : List Inst
      insts = insts_at m next.func next.block

      phi_root : (p : ℕ) (j : Inst) (js : List Inst) → drop p (insts_at m next.func next.block) ≡ j ∷ js → p < count_phis (insts_at m next.func next.block)
          → (n : ℕ) → n ≡ root_at (func_index m.funcs) m next.func next.block p → (t : Ty) (es : List (Operand × Name)) → j.op ≡ op.Phi t es
          → read_edge (λ n t o. edge_root n o) 0 t (block_name m fr.func fr.block) es n ≢ 0 → R (read_edge (λ n t o. edge_root n o) 0 t (block_name m fr.func fr.block) es n)
      phi_root p j js d leading n is_n t es shape some =
          inl (AsEdge (record {
            due = due_at i is e;
            branches = branches;
            frame = next;
            below = rest;
            innermost = there;
            place = p;
            leading = leading;
            phi = j;
            stands = drop_first (insts_at m next.func next.block) p j js d;
            ty = t;
            edges = es;
            shape = shape;
            undefined = positive _ some;
            taken = ap (λ a. read_edge (λ n t o. edge_root n o) 0 t (block_name m fr.func fr.block) es a) is_n;
          }))
        where
          positive : (a : ℕ) → a ≢ 0 → 0 < a
          positive zero h = absurd (h refl)
          positive (suc a) h = omega arith

      edges_of : (p : ℕ) (js : List Inst) → drop p (insts_at m next.func next.block) ≡ js → p + count_phis js ≡ count_phis (insts_at m next.func next.block)
          → (n : ℕ) → n ≡ root_at (func_index m.funcs) m next.func next.block p → EdgesOf R s m events k ks made fr below same w (block_name m fr.func fr.block) js n
      edges_of p [] d count n is_n = tt
      edges_of p (j ∷ js) d count n is_n =
          by_op j.op refl count
          (λ q. edges_of (suc p) js (drop_next (insts_at m next.func next.block) p j js d) (omega (arith, q)) (n + roots_in (func_index m.funcs) j)
          (omega (arith, is_n, counted_next (roots_in (func_index m.funcs)) (insts_at m next.func next.block) p j js d)))
        where
          by_op : (o : Op) → j.op ≡ o → p + (elim o as (λ z. ℕ) [ op.Phi t es ↦ suc (count_phis js) | _ ↦ 0 ]) ≡ count_phis (insts_at m next.func next.block)
              → (p + suc (count_phis js) ≡ count_phis (insts_at m next.func next.block) → EdgesOf R s m events k ks made fr below same w (block_name m fr.func fr.block) js (n + roots_in (func_index m.funcs) j))
              → (elim o as (λ z. Type 0) [
                | op.Phi t edges ↦
                    (read_edge (λ n t o. edge_root n o) 0 t (block_name m fr.func fr.block) edges n ≢ 0 → R (read_edge (λ n t o. edge_root n o) 0 t (block_name m fr.func fr.block) edges n))
                    × EdgesOf R s m events k ks made fr below same w (block_name m fr.func fr.block) js (n + roots_in (func_index m.funcs) j)
                | _ ↦ Unit {0}
              ])
          by_op (op.Phi t es) shape q go = (phi_root p j js d (omega (arith, q)) n is_n t es shape, go q)
          by_op _ shape q go = tt

    edges_at : (is : List Inst) → rest_of m fr ≡ is → (fs : List (Frame Poisoned)) → c.frames ≡ fs → Edges R s m events k ks made fr below same w is fs
    edges_at [] e fs there = tt
    edges_at (i ∷ is) e [] there = tt
    edges_at (i ∷ is) e (next ∷ rest) there = λ branches. edges_of i is e branches next rest there 0 (insts_at m next.func next.block) refl (omega arith) (root_at (func_index m.funcs) m next.func next.block 0) refl

    -- the ways so far are from roots that are reached then
    raised : (numbers : List ℕ) (moves : List Move) → HasWays (kind_of m before passed) (IsPoisoned (kind_of m before passed) numbers before) moves events → HasWays R (IsPoisoned R numbers before) moves events
    raised numbers moves h = record { ways = by_source; earlier = h.earlier; ordered = h.ordered }
      where
        by_source : (y : Source) → IsPoisoned R numbers before y → (hops : List Hop) × LeadsBack R moves None y hops
        by_source (Root n) q = ([], q)
        by_source (Value f x) q = let way = h.ways (Value f x) q in (way.0, more_roots (kind_of m before passed) R (λ n r. inr r) moves (Value f x) way.0 way.1)
        by_source (Byte a) q = let way = h.ways (Byte a) q in (way.0, more_roots (kind_of m before passed) R (λ n r. inr r) moves (Byte a) way.0 way.1)

  -- where a step leads
  good_on : (frames : List (Frame Poisoned)) (w : World) (standing : List ℕ) (made events : ℕ) (moves : List Move) (passed : List ShadowState)
      → Good (record { state = record { frames = frames; world = w }; numbers = record { standing = standing; made = made }; events = events; moves = moves }) passed
      → (c : ShadowState) → shadow_step by_formulas s m (record { frames = frames; world = w }) ≡ More c
      → Good (traced_on s m (record { state = record { frames = frames; world = w }; numbers = record { standing = standing; made = made }; events = events; moves = moves }) c) (record { frames = frames; world = w } ∷ passed)
  good_on [] w standing made events moves passed g c e = absurd (stop_more _ _ c e)
  good_on (fr ∷ below) w [] made events moves passed g c e = let d = g.deep in absurd (omega (arith, d))
  good_on (fr ∷ below) w (k ∷ ks) made events moves passed g c e =
      let after = by_moved (shadow_frames by_formulas s m (fr ∷ below) w) (first_moved (R w made events k ks fr below same passed c) s m events k ks made fr below same w (rest_of m fr) (first_roots w made events k ks fr below same passed c (rest_of m fr) refl)) e in
      record { deep = after.0; came = came; ways = after.1 }
    where
      same : length ks ≡ length below
      same = let d = g.deep in omega (arith, d)

      came : walked by_completions m setup (events + 1) ≡ Some (record { state = c; passed = record { frames = fr ∷ below; world = w } ∷ passed })
      came =
          let next : events + 1 ≡ suc events = omega arith in
          ap (walked by_completions m setup) next
          ∙ ap (option_and_then (λ walk. walked_on walk (shadow_step by_completions s m walk.state))) g.came
          ∙ ap (walked_on (record { state = record { frames = fr ∷ below; world = w }; passed = passed })) (same_step formulas_exact s m (record { frames = fr ∷ below; world = w }) ∙ e)

      by_moved : (x : Outcome Poisoned) → AccountedMoved (kind_of m c (record { frames = fr ∷ below; world = w } ∷ passed)) s m events k ks made fr below same w (rest_of m fr) x → shadow_moved x ≡ More c
          → (length (renumbered (length c.frames) (record { standing = k ∷ ks; made = made })).standing ≡ length c.frames)
          × HasWays (kind_of m c (record { frames = fr ∷ below; world = w } ∷ passed)) (IsPoisoned (kind_of m c (record { frames = fr ∷ below; world = w } ∷ passed)) (renumbered (length c.frames) (record { standing = k ∷ ks; made = made })).standing c)
          (moves ++ event_moves s m events (record { standing = k ∷ ks; made = made }) (renumbered (length c.frames) (record { standing = k ∷ ks; made = made })) (record { frames = fr ∷ below; world = w }) c) (events + 1)
      by_moved (Over x v) a h = absurd (stop_more x v c h)
      by_moved (On fs v) a h =
          let is_c = more_same (record { frames = fs; world = v }) c h in
          let account_of = a (edges_at w made events k ks fr below same passed c (rest_of m fr) refl fs (ap (λ d. d.frames) (sym is_c))) in
          subst (λ d. (length (renumbered (length d.frames) (record { standing = k ∷ ks; made = made })).standing ≡ length d.frames)
          × HasWays (kind_of m c (record { frames = fr ∷ below; world = w } ∷ passed)) (IsPoisoned (kind_of m c (record { frames = fr ∷ below; world = w } ∷ passed)) (renumbered (length d.frames) (record { standing = k ∷ ks; made = made })).standing d)
          (moves ++ event_moves s m events (record { standing = k ∷ ks; made = made }) (renumbered (length d.frames) (record { standing = k ∷ ks; made = made })) (record { frames = fr ∷ below; world = w }) d) (events + 1)) is_c (
            account_of.deep,
            ways_on (kind_of m c (record { frames = fr ∷ below; world = w } ∷ passed)) (IsPoisoned (kind_of m c (record { frames = fr ∷ below; world = w } ∷ passed)) (k ∷ ks) (record { frames = fr ∷ below; world = w }))
                (IsPoisoned (kind_of m c (record { frames = fr ∷ below; world = w } ∷ passed)) (renumbered (length fs) (record { standing = k ∷ ks; made = made })).standing (record { frames = fs; world = v })) moves _ events
                (raised w made events k ks fr below same passed c (k ∷ ks) moves g.ways)
                (account _ _ events _ account_of.sound
                (writes_of (kind_of m c (record { frames = fr ∷ below; world = w } ∷ passed)) s m events k ks made fr below same w (rest_of m fr) (renumbered (length fs) (record { standing = k ∷ ks; made = made })) fs v account_of)),
          )
        where
          more_same : (x y : ShadowState) → More x ≡ More y → x ≡ y
          more_same x y e = cc

  -- ---- what a use reads is poisoned

  module _ (one : s.limit ≡ 1) where
    -- the roots that the run has reached, with those of the instruction that is due
    abbrev pub K : ShadowState → List ShadowState → ℕ → Type 0
    K c passed n = kind_of m c passed n ⊎ IsOperand m c n

    pub use_read : (frames : List (Frame Poisoned)) (w : World) (standing : List ℕ) (made : ℕ) (passed : List ShadowState) → length standing ≡ length frames
        → ReadMoved (IsPoisoned (K (record { frames = frames; world = w }) passed) standing (record { frames = frames; world = w }) (frames_read s m (record { standing = standing; made = made }) frames w)) (shadow_frames by_formulas s m frames w)
    use_read [] w standing made passed e = λ f. absurd (false_true f)
      where
        false_true : false ≡ true → ⊥
        false_true e = grind arith
    use_read (fr ∷ below) w [] made passed e = absurd (omega (arith, e))
    use_read (fr ∷ below) w (k ∷ ks) made passed e = by_insts (rest_of m fr) refl
      where
        by_insts : (is : List Inst) → rest_of m fr ≡ is
            → ReadMoved (IsPoisoned (K (record { frames = fr ∷ below; world = w }) passed) (k ∷ ks) (record { frames = fr ∷ below; world = w }) (first_read s m k is fr w)) (shadow_first by_formulas s m is fr below w)
        by_insts [] f = λ z. absurd (false_true z)
          where
            false_true : false ≡ true → ⊥
            false_true e = grind arith
        by_insts (i ∷ is) f =
            after_read by_formulas s m _ w i (here s m fr) (read_all (read_poisoned s fr.values) (operands i.op) (here s m fr).root) fr below _
            (uses_read s one (IsPoisoned (K (record { frames = fr ∷ below; world = w }) passed) (k ∷ ks) (record { frames = fr ∷ below; world = w })) w (λ a n. n) (here s m fr).site (operands i.op)
            (read_all (read_poisoned s fr.values) (operands i.op) (here s m fr).root) (sources k (operands i.op) (here s m fr).root)
            (λ j n. words_from (IsPoisoned (K (record { frames = fr ∷ below; world = w }) passed) (k ∷ ks) (record { frames = fr ∷ below; world = w })) (here s m fr).root ((here s m fr).root + count_undefs (operands i.op))
            (λ n l g. inr (record { due = record { frame = fr; below = below; innermost = refl; inst = i; stands = drop_first (insts_at m fr.func fr.block) fr.place i is f }; above = l; within = g }))
            s fr.values k (λ x h. inl (refl, h)) (operands i.op) (here s m fr).root (omega arith) (omega arith) j n)
            (uses s.func (here s m fr).main i.op))

    -- ---- the run

    found_same : (ms ns : List Move) (at to : Source) → Found ms at ≡ Found ns to → (ms ≡ ns) × (at ≡ to)
    found_same ms ns at to e = (cc, cc)

    none_found : (ms : List Move) (at : Source) → NoReport ≡ Found ms at → ⊥
    none_found ms at e = grind arith

    way_to : (t : Traced) (passed : List ShadowState) → Good t passed → (at : Source) → IsPoisoned (K t.state passed) t.numbers.standing t.state at → (hops : List Hop) × LeadsBack (K t.state passed) t.moves None at hops
    way_to t passed g (Root n) p = ([], p)
    way_to t passed g (Value f x) p = let way = g.ways.ways (Value f x) p in (way.0, more_roots (kind_of m t.state passed) (K t.state passed) (λ n r. inl r) t.moves (Value f x) way.0 way.1)
    way_to t passed g (Byte a) p = let way = g.ways.ways (Byte a) p in (way.0, more_roots (kind_of m t.state passed) (K t.state passed) (λ n r. inl r) t.moves (Byte a) way.0 way.1)

    way_to_use : (t : Traced) (passed : List ShadowState) → Good t passed → t.events < setup.steps → (w : World) → shadow_step by_formulas s m t.state ≡ Stop «end».Reported w
        → (ms : List Move) (at : Source) → Found t.moves (use_of s m t.numbers t.state) ≡ Found ms at → FromReached m setup ms at
    way_to_use t passed g left w stops ms at e =
        let same = found_same t.moves ms (use_of s m t.numbers t.state) at e in
        let way = way_to t passed g (use_of s m t.numbers t.state) (by_moved (shadow_frames by_formulas s m t.state.frames t.state.world) (use_read t.state.frames t.state.world t.numbers.standing t.numbers.made passed g.deep) stops) in
        subst (λ ns. FromReached m setup ns at) same.0
        (subst (λ a. FromReached m setup t.moves a) same.1
        (record {
          walk = record { state = t.state; passed = passed };
          reports = record { steps = t.events; left = left; came = g.came; world = w; ends = same_step formulas_exact s m t.state ∙ stops };
          hops = reverse way.0;
          leads = subst (LeadsBack (K t.state passed) t.moves None (use_of s m t.numbers t.state)) (sym (reverse-reverse way.0)) way.1;
        }))
      where
        stop_same : (e x : End) (v u : World) → ◌≡◌ {A = Stepped ShadowState} (Stop e v) (Stop x u) → e ≡ x
        stop_same e x v u h = cc

        more_stop : (c : ShadowState) (e : End) (v : World) → ◌≡◌ {A = Stepped ShadowState} (More c) (Stop e v) → ⊥
        more_stop c e v h = grind arith

        by_moved : (x : Outcome Poisoned) → ReadMoved (IsPoisoned (K t.state passed) t.numbers.standing t.state (use_of s m t.numbers t.state)) x → shadow_moved x ≡ Stop «end».Reported w
            → IsPoisoned (K t.state passed) t.numbers.standing t.state (use_of s m t.numbers t.state)
        by_moved (On fs v) h f = absurd (more_stop _ «end».Reported w f)
        by_moved (Over x v) h f = h (ap is_reported (stop_same x «end».Reported v w f))

    ways_from : (n : ℕ) (t : Traced) (passed : List ShadowState) → Good t passed → t.events + n ≡ setup.steps → (ms : List Move) (at : Source) → trace_from by_formulas s m n t ≡ Found ms at → FromReached m setup ms at
    ways_from zero t passed g left ms at e = absurd (none_found ms at e)
    ways_from (suc n) t passed g left ms at e =
        by_step (shadow_step by_formulas s m t.state) refl e (λ c f h. ways_from n (traced_on s m t c) (t.state ∷ passed) f (omega (arith, left)) ms at h)
      where
        by_end : (x : End) (w : World) → shadow_step by_formulas s m t.state ≡ Stop x w → ended x (Found t.moves (use_of s m t.numbers t.state)) ≡ Found ms at → FromReached m setup ms at
        by_end «end».Reported w f h = way_to_use t passed g (omega (arith, left)) w f ms at h
        by_end («end».Exit v) w f h = absurd (none_found ms at h)
        by_end («end».Trap k v) w f h = absurd (none_found ms at h)
        by_end «end».Spent w f h = absurd (none_found ms at h)

        by_step : (x : Stepped ShadowState) → shadow_step by_formulas s m t.state ≡ x → stepped x (λ c. trace_from by_formulas s m n (traced_on s m t c)) (Found t.moves (use_of s m t.numbers t.state)) ≡ Found ms at
            → ((c : ShadowState) → Good (traced_on s m t c) (t.state ∷ passed) → trace_from by_formulas s m n (traced_on s m t c) ≡ Found ms at → FromReached m setup ms at) → FromReached m setup ms at
        by_step (More c) f h go = go c (good_on t.state.frames t.state.world t.numbers.standing t.numbers.made t.events t.moves passed g c f) h
        by_step (Stop x w) f h go = by_end x w f h

    -- the moves are in order
    ordered_from : (n : ℕ) (t : Traced) (passed : List ShadowState) → Good t passed → (ms : List Move) (at : Source) → trace_from by_formulas s m n t ≡ Found ms at → Ascending ms
    ordered_from zero t passed g ms at e = absurd (none_found ms at e)
    ordered_from (suc n) t passed g ms at e =
        by_step (shadow_step by_formulas s m t.state) refl e (λ c f h. ordered_from n (traced_on s m t c) (t.state ∷ passed) f ms at h)
      where
        by_end : (x : End) → ended x (Found t.moves (use_of s m t.numbers t.state)) ≡ Found ms at → Ascending ms
        by_end «end».Reported h = subst Ascending (found_same t.moves ms (use_of s m t.numbers t.state) at h).0 g.ways.ordered
        by_end («end».Exit v) h = absurd (none_found ms at h)
        by_end («end».Trap k v) h = absurd (none_found ms at h)
        by_end «end».Spent h = absurd (none_found ms at h)

        by_step : (x : Stepped ShadowState) → shadow_step by_formulas s m t.state ≡ x → stepped x (λ c. trace_from by_formulas s m n (traced_on s m t c)) (Found t.moves (use_of s m t.numbers t.state)) ≡ Found ms at
            → ((c : ShadowState) → Good (traced_on s m t c) (t.state ∷ passed) → trace_from by_formulas s m n (traced_on s m t c) ≡ Found ms at → Ascending ms) → Ascending ms
        by_step (More c) f h go = go c (good_on t.state.frames t.state.world t.numbers.standing t.numbers.made t.events t.moves passed g c f) h
        by_step (Stop x w) f h go = by_end x h

pub ordered : (m : Module) → is_threaded m ≡ false → (setup : Setup) (ms : List Move) (at : Source) → trace m setup ≡ Found ms at → Ascending ms
ordered m calm setup ms at e =
    ordered_from m calm (to_first_report setup) refl setup.steps (traced_start m (to_first_report setup)) [] (good_start m calm (to_first_report setup)) ms at (sym (computed m setup) ∙ e)

pub some_way : (m : Module) → is_threaded m ≡ false → (setup : Setup) (ms : List Move) (at : Source) → trace m setup ≡ Found ms at → FromReached m (to_first_report setup) ms at
some_way m calm setup ms at e =
    ways_from m calm (to_first_report setup) refl setup.steps (traced_start m (to_first_report setup)) [] (good_start m calm (to_first_report setup)) (omega arith) ms at (sym (computed m setup) ∙ e)
