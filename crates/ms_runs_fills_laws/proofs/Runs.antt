-- Runs from states that are alike, of which one has no blind use.
use Rattle.std.proofs.Common.{◌≡◌, ℕ, zero, suc, ◌+◌, ◌≤◌, List, [], ◌∷◌, map, length, leb, Bool, true, false, eqb, Option, refl, sym, ap, ◌∙◌, subst, arith, if◌then◌else◌}
use Rattle.std.proofs.lemmas.Bool.{eqb-true}
use Rattle.ms_bits.specs.declared.traps.Trap.TheVariants as trap
use Rattle.ms_ir.specs.declared.syntax.Name.{Name}
use Rattle.ms_ir.specs.declared.syntax.Inst.{Inst}
use Rattle.ms_ir.specs.declared.syntax.Module.{Module}
use Rattle.ms_runs.specs.declared.runs.End.{End}
use Rattle.ms_runs.specs.declared.runs.End.TheVariants as «end»
use Rattle.ms_runs.specs.World.{World, Setting, Here, Effect, Gives, Does, Goes, Enters, Leaves, Ends, result}
use Rattle.ms_ir.specs.Instructions.{operands, count_undefs}
use Rattle.ms_runs.specs.Control.{Frame, Outcome, On, Over, here, rest_of, read_all, entered, left, keeping, after_effect, frame_limit}
use Rattle.ms_runs.specs.Origins.{count_blind}
use Rattle.ms_runs.specs.Act.{act}
use Rattle.ms_runs.specs.Plain.{Stepped, More, Stop, go_on, run}
use Rattle.ms_runs.specs.Poisoned.{Poisoned}
use Rattle.ms_runs.specs.Masks.{by_formulas, union}
use Rattle.ms_runs.specs.Uses.{uses, blinded}
use Rattle.ms_runs.specs.Shadow.{read_poisoned, shadow_reading, planes, ShadowState, shadow_moved, poisoned_result, shadow_act, after_checks, shadow_inst, shadow_first, shadow_frames, shadow_step}
use Rattle.ms_runs.specs.LowEqual.{LowEqual, LowWorld}
use Rattle.ms_runs_fills_laws.specs.Alike.{StepsAlike, CountsNone}
use Rattle.ms_runs.specs.declared.runs.Report.{Report}
use Rattle.ms_runs_fills_laws.specs.Placed.{HeapPlaced}
use Rattle.ms_runs_fills_laws.proofs.Reading.{refill}
use Rattle.ms_runs_fills_laws.proofs.Worlds.{FitWorld}
use Rattle.ms_runs_fills_laws.proofs.Kept.{then_kept, given_back_kept, act_kept, planes_kept, uses_kept, KeepsAfter, ChecksAfter, Keeps, StartsWith, Checks}
use Rattle.ms_runs_fills_laws.proofs.Steps.{QuietAt, DueQuiet, TopQuiet, TopStands, step_alike}

-- ---- what a step leaves

-- the number of blind uses doesn't fall, and heap blocks stay in their places
pub record Grows (w u : World) : Type 0 where
  pub blind : w.blind ≤ u.blind
  pub leads : (l : List Report) → StartsWith l w → StartsWith l u
  pub placed : HeapPlaced w → HeapPlaced u

-- an outcome keeps what instructions keep
abbrev pub KeptOutcome : World → Outcome Poisoned → Type 0
KeptOutcome w (On fs u) = Keeps w u
KeptOutcome w (Over e u) = Keeps w u

-- an outcome counts no fewer blind uses
abbrev pub GrownOutcome : World → Outcome Poisoned → Type 0
GrownOutcome w (On fs u) = Grows w u
GrownOutcome w (Over e u) = Grows w u

-- the number of blind uses of an outcome
abbrev pub outcome_blind : Outcome Poisoned → ℕ
outcome_blind (On fs u) = u.blind
outcome_blind (Over e u) = u.blind

still : (l : List Report) (u z : World) → z.reports ≡ u.reports → StartsWith l u → StartsWith l z
still l u z e h = (h.0, e ∙ h.1)

grown : (w u : World) (x : Outcome Poisoned) → Grows w u → KeptOutcome u x → GrownOutcome w x
grown w u (On fs z) h g = record { blind = omega (arith, h.blind, g.blind); leads = λ l k. still l u z g.reports (h.leads l k); placed = λ k. g.placed (h.placed k) }
grown w u (Over e z) h g = record { blind = omega (arith, h.blind, g.blind); leads = λ l k. still l u z g.reports (h.leads l k); placed = λ k. g.placed (h.placed k) }

kept_blind : (w : World) (x : Outcome Poisoned) → KeptOutcome w x → outcome_blind x ≡ w.blind
kept_blind w (On fs z) g = g.blind
kept_blind w (Over e z) g = g.blind

left_kept : (m : Module) (ps : List Poisoned) (w u : World) → Keeps w u → (fr : Frame Poisoned) (below : List (Frame Poisoned)) → KeptOutcome w (left shadow_reading m ps fr below u)
left_kept m ps w u h fr [] = h
left_kept m ps w u h fr (c ∷ below) = then_kept w u _ h (given_back_kept fr u)

moves_kept : (s : Setting) (m : Module) (site : ℕ) (x : Option Name) (ps : List Poisoned) (lift : ℕ → World → Poisoned) (after : ℕ → World → World) → ((v : ℕ) (u : World) → Keeps u (after v u))
    → (fr : Frame Poisoned) (below : List (Frame Poisoned)) (w : World) (e : Effect) → KeepsAfter w e → KeptOutcome w (after_effect shadow_reading s m site x ps lift after fr below e)
moves_kept s m site x ps lift after keep fr below w (Gives v u) h = then_kept w u _ h (keep v u)
moves_kept s m site x ps lift after keep fr below w (Does u) h = then_kept w u _ h (keep 0 u)
moves_kept s m site x ps lift after keep fr below w (Goes to u) h = h
moves_kept s m site x ps lift after keep fr below w (Enters f u) h = by_depth (leb frame_limit (length below + 1))
  where
    by_depth : (t : Bool) → KeptOutcome w (if t then Over («end».Trap trap.Depth site) u else On (entered shadow_reading m f ps u ∷ fr ∷ below) u)
    by_depth true = h
    by_depth false = h
moves_kept s m site x ps lift after keep fr below w (Leaves u) h = left_kept m ps w u h fr below
moves_kept s m site x ps lift after keep fr below w (Ends e u) h = h

module _ (s : Setting) (m : Module) where
  pub act_moves_kept : (i : Inst) (h : Here) (ps : List Poisoned) (fr : Frame Poisoned) (below : List (Frame Poisoned)) (w : World) → KeptOutcome w (shadow_act by_formulas s m i h ps fr below w)
  act_moves_kept i h ps fr below w =
      let e = act s h i.op (map (λ p. p.value) ps) w in
      moves_kept s m h.site i.result ps (poisoned_result by_formulas i.op ps) (planes s h.site (h.root + count_undefs (operands i.op) + 1) i.op ps w)
      (λ v u. planes_kept s h.site (h.root + count_undefs (operands i.op) + 1) i.op ps w v u) (keeping i.op e fr) below w e (act_kept s h i.op (map (λ p. p.value) ps) w)

  counted : (mask : ℕ) (w u : World) → Checks w u → Grows w (count_blind mask u)
  counted mask w u h = by_test (eqb mask 0)
    where
      by_test : (t : Bool) → Grows w (if t then u else record u { blind = u.blind + 1 })
      by_test true = record { blind = omega (arith, h.blind); leads = h.leads; placed = h.placed }
      by_test false = record { blind = omega (arith, h.blind); leads = λ l k. h.leads l k; placed = λ k. h.placed k }

  pub after_grown : (i : Inst) (h : Here) (ps : List Poisoned) (fr : Frame Poisoned) (below : List (Frame Poisoned)) (w : World) (e : Effect) → ChecksAfter w e → GrownOutcome w (after_checks by_formulas s m i h ps fr below e)
  after_grown i h ps fr below w (Does u) k =
      grown w (count_blind (union (map (λ p. p.mask) (blinded s.func i.op ps))) u) _ (counted (union (map (λ p. p.mask) (blinded s.func i.op ps))) w u k) (act_moves_kept i h ps fr below _)
  after_grown i h ps fr below w (Ends e u) k = record { blind = omega (arith, k.blind); leads = k.leads; placed = k.placed }
  after_grown i h ps fr below w (Gives v u) k = record { blind = omega (arith, k.blind); leads = k.leads; placed = k.placed }
  after_grown i h ps fr below w (Goes v u) k = record { blind = omega (arith, k.blind); leads = k.leads; placed = k.placed }
  after_grown i h ps fr below w (Enters v u) k = record { blind = omega (arith, k.blind); leads = k.leads; placed = k.placed }
  after_grown i h ps fr below w (Leaves u) k = record { blind = omega (arith, k.blind); leads = k.leads; placed = k.placed }

  first_grown : (is : List Inst) (fr : Frame Poisoned) (below : List (Frame Poisoned)) (w : World) → GrownOutcome w (shadow_first by_formulas s m is fr below w)
  first_grown [] fr below w = record { blind = omega arith; leads = λ l k. k; placed = λ k. k }
  first_grown (i ∷ is) fr below w =
      after_grown i (here s m fr) (read_all (read_poisoned s fr.values) (operands i.op) (here s m fr).root) fr below w _
      (uses_kept s (here s m fr).site (operands i.op) (read_all (read_poisoned s fr.values) (operands i.op) (here s m fr).root) (uses s.func (here s m fr).main i.op) w)

  pub frames_grown : (fs : List (Frame Poisoned)) (w : World) → GrownOutcome w (shadow_frames by_formulas s m fs w)
  frames_grown [] w = record { blind = omega arith; leads = λ l k. k; placed = λ k. k }
  frames_grown (fr ∷ below) w = first_grown (rest_of m fr) fr below w

  -- ---- no blind use at all

  inst_quiet : (i : Inst) (fr : Frame Poisoned) (below : List (Frame Poisoned)) (w : World) → outcome_blind (shadow_inst by_formulas s m i fr below w) ≡ w.blind → QuietAt s m i fr w
  inst_quiet i fr below w z u e = by_test (eqb mask 0) refl
    where
      h : Here
      h = here s m fr

      ps : List Poisoned
      ps = read_all (read_poisoned s fr.values) (operands i.op) (here s m fr).root

      mask : ℕ
      mask = union (map (λ p. p.mask) (blinded s.func i.op (read_all (read_poisoned s fr.values) (operands i.op) (here s m fr).root)))

      comes : outcome_blind (shadow_act by_formulas s m i (here s m fr) (read_all (read_poisoned s fr.values) (operands i.op) (here s m fr).root) fr below
          (count_blind (union (map (λ p. p.mask) (blinded s.func i.op (read_all (read_poisoned s fr.values) (operands i.op) (here s m fr).root)))) u)) ≡ w.blind
      comes = sym (ap (λ k. outcome_blind (after_checks by_formulas s m i (here s m fr) (read_all (read_poisoned s fr.values) (operands i.op) (here s m fr).root) fr below k)) e) ∙ z

      none : (count_blind (union (map (λ p. p.mask) (blinded s.func i.op (read_all (read_poisoned s fr.values) (operands i.op) (here s m fr).root)))) u).blind ≡ w.blind
      none = sym (kept_blind _ _ (act_moves_kept i (here s m fr) (read_all (read_poisoned s fr.values) (operands i.op) (here s m fr).root) fr below _)) ∙ comes

      before : u.blind ≡ w.blind
      before = (subst (ChecksAfter w) e (uses_kept s (here s m fr).site (operands i.op) (read_all (read_poisoned s fr.values) (operands i.op) (here s m fr).root) (uses s.func (here s m fr).main i.op) w)).blind

      by_test : (t : Bool) → eqb (union (map (λ p. p.mask) (blinded s.func i.op (read_all (read_poisoned s fr.values) (operands i.op) (here s m fr).root)))) 0 ≡ t
          → union (map (λ p. p.mask) (blinded s.func i.op (read_all (read_poisoned s fr.values) (operands i.op) (here s m fr).root))) ≡ 0
      by_test true f = eqb-true _ 0 f
      by_test false f = absurd (one_more u w before (sym (ap (λ t. (if t then u else record u { blind = u.blind + 1 }).blind) f) ∙ none))
        where
          one_more : (u w : World) → u.blind ≡ w.blind → u.blind + 1 ≡ w.blind → ⊥
          one_more u w h e = omega (arith, e, h)

  first_quiet : (is : List Inst) (fr : Frame Poisoned) (below : List (Frame Poisoned)) (w : World) → outcome_blind (shadow_first by_formulas s m is fr below w) ≡ w.blind → DueQuiet s m is fr w
  first_quiet [] fr below w z = tt
  first_quiet (i ∷ is) fr below w z = inst_quiet i fr below w z

  frames_quiet : (fs : List (Frame Poisoned)) (w : World) → outcome_blind (shadow_frames by_formulas s m fs w) ≡ w.blind → TopQuiet s m fs w
  frames_quiet [] w z = tt
  frames_quiet (fr ∷ below) w z = first_quiet (rest_of m fr) fr below w z

  -- the number of blind uses after a step
  abbrev pub stepped_blind : Stepped ShadowState → ℕ
  stepped_blind (More c) = c.world.blind
  stepped_blind (Stop e w) = w.blind

  moved_same : (x : Outcome Poisoned) → stepped_blind (shadow_moved x) ≡ outcome_blind x
  moved_same (On fs w) = refl
  moved_same (Over e w) = refl

  grown_blind : (w : World) (x : Outcome Poisoned) → GrownOutcome w x → w.blind ≤ outcome_blind x
  grown_blind w (On fs u) g = g.blind
  grown_blind w (Over e u) g = g.blind

  pub step_blind : (c : ShadowState) → c.world.blind ≤ stepped_blind (shadow_step by_formulas s m c)
  step_blind c = omega (arith, moved_same (shadow_frames by_formulas s m c.frames c.world), grown_blind c.world (shadow_frames by_formulas s m c.frames c.world) (frames_grown c.frames c.world))

  pub step_quiet : (c : ShadowState) → CountsNone c (shadow_step by_formulas s m c) → TopQuiet s m c.frames c.world
  step_quiet c z = frames_quiet c.frames c.world (by_moved (shadow_frames by_formulas s m c.frames c.world) z)
    where
      by_moved : (x : Outcome Poisoned) → CountsNone c (shadow_moved x) → outcome_blind x ≡ c.world.blind
      by_moved (On fs w) h = h
      by_moved (Over e w) h = h

  -- where a step leads, heap blocks stay in their places
  abbrev pub PlacedStep : Stepped ShadowState → Type 0
  PlacedStep (More c) = HeapPlaced c.world
  PlacedStep (Stop e w) = Unit {0}

  moved_placed : (w : World) (x : Outcome Poisoned) → GrownOutcome w x → HeapPlaced w → PlacedStep (shadow_moved x)
  moved_placed w (On fs u) g h = g.placed h
  moved_placed w (Over e u) g h = tt

  pub step_placed : (c : ShadowState) → HeapPlaced c.world → PlacedStep (shadow_step by_formulas s m c)
  step_placed c h = moved_placed c.world (shadow_frames by_formulas s m c.frames c.world) (frames_grown c.frames c.world) h

  pub run_blind : (n : ℕ) (r : Stepped ShadowState) → stepped_blind r ≤ (go_on (run (λ c. c.world) (shadow_step by_formulas s m) n) r).blind
  run_blind n (Stop e w) = omega arith
  run_blind zero (More c) = omega arith
  run_blind (suc n) (More c) = omega (arith, step_blind c, run_blind n (shadow_step by_formulas s m c))

-- ---- the runs

pub result_same : (e : End) (w v : World) → LowWorld w v → result e w ≡ result e v
result_same e w v h = λ i. record { output = h.output i; «end» = e; reports = h.reports i; blind = h.blind i }

-- what every state of a run has: it is kept by steps under both fills
pub record Kept (Good : ShadowState → Type 0) (s : Setting) (m : Module) : Type 0 where
  pub more : (c d : ShadowState) → Good c → shadow_step by_formulas s m c ≡ More d → Good d

-- good states have what a step under two fills asks for
pub record Sure (Good : ShadowState → Type 0) (s : Setting) (m : Module) : Type 0 where
  pub stands : (c : ShadowState) → Good c → TopStands s m c.frames
  pub fit : (c : ShadowState) → Good c → FitWorld c.world

module _ (Good : ShadowState → Type 0) (s : Setting) (fill : List ℕ) (one : s.limit ≡ 1) (m : Module) (sure : Sure Good s m) (kept : Kept Good s m) (kept_too : Kept Good (refill s fill) m) where
  pub runs_alike : (n : ℕ) (c d : ShadowState) → Good c → Good d → LowEqual c d → (run (λ c. c.world) (shadow_step by_formulas s m) n c).blind ≡ 0
      → run (λ c. c.world) (shadow_step by_formulas s m) n c ≡ run (λ c. c.world) (shadow_step by_formulas (refill s fill) m) n d
  runs_alike zero c d g k h z = result_same «end».Spent c.world d.world h.world
  runs_alike (suc n) c d g k h z =
      after (shadow_step by_formulas s m c) (shadow_step by_formulas (refill s fill) m d) refl refl
      (step_alike s fill one m c d h (sure.stands c g) (sure.fit c g) (sure.fit d k).bytes
      (step_quiet s m c (none (shadow_step by_formulas s m c) (step_blind s m c) (run_blind s m n (shadow_step by_formulas s m c)) z)))
      (λ x y i j l e. runs_alike n x y i j l e) z
    where
      none : (r : Stepped ShadowState) → c.world.blind ≤ stepped_blind s m r → stepped_blind s m r ≤ (go_on (run (λ c. c.world) (shadow_step by_formulas s m) n) r).blind
          → (go_on (run (λ c. c.world) (shadow_step by_formulas s m) n) r).blind ≡ 0 → CountsNone c r
      none (More x) g l e = omega (arith, g, l, e)
      none (Stop x w) g l e = omega (arith, g, l, e)

      after : (x y : Stepped ShadowState) → shadow_step by_formulas s m c ≡ x → shadow_step by_formulas (refill s fill) m d ≡ y → StepsAlike x y
          → ((c' d' : ShadowState) → Good c' → Good d' → LowEqual c' d' → (run (λ c. c.world) (shadow_step by_formulas s m) n c').blind ≡ 0
          → run (λ c. c.world) (shadow_step by_formulas s m) n c' ≡ run (λ c. c.world) (shadow_step by_formulas (refill s fill) m) n d')
          → (go_on (run (λ c. c.world) (shadow_step by_formulas s m) n) x).blind ≡ 0
          → go_on (run (λ c. c.world) (shadow_step by_formulas s m) n) x ≡ go_on (run (λ c. c.world) (shadow_step by_formulas (refill s fill) m) n) y
      after (More c') (More d') e f a rest q = rest c' d' (kept.more c c' g e) (kept_too.more d d' k f) a q
      after (Stop x w) (Stop y v) e f a rest q = ap (λ t. result t w) a.0 ∙ result_same y w v a.1
      after (More c') (Stop y v) e f a rest q = absurd a
      after (Stop x w) (More d') e f a rest q = absurd a
