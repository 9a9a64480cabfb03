-- A step poisons nothing but what its moves write, and they read what was poisoned before it.
use Rattle.std.proofs.Common.{◌≡◌, ◌≢◌, ℕ, ◌+◌, false, List, [], ◌∷◌, length, refl, sym, ap, subst, ◌∙◌, arith, ◌⊎◌, inl, inr}
use Rattle.ms_ir.specs.declared.syntax.Name.{Name}
use Rattle.ms_ir.specs.declared.syntax.Op.{Op}
use Rattle.ms_ir.specs.declared.syntax.Op.TheVariants as op
use Rattle.ms_ir.specs.declared.syntax.Inst.{Inst}
use Rattle.ms_ir.specs.declared.syntax.Module.{Module}
use Rattle.ms_runs.specs.World.{World, Setting}
use Rattle.ms_ir.specs.Instructions.{func_index, roots_in, root_at, insts_at}
use Rattle.ms_ir.specs.ThreadCalls.{calls_thread, is_threaded}
use Rattle.ms_runs_good_laws.proofs.ThreadsApart.{none_due}
use Rattle.ms_runs.specs.Control.{Frame, Outcome, On, Over, rest_of, read_edge, block_name}
use Rattle.ms_runs.specs.Plain.{More}
use Rattle.ms_runs.specs.Poisoned.{Poisoned}
use Rattle.ms_runs.specs.Masks.{by_formulas, by_completions}
use Rattle.ms_runs.specs.Shadow.{ShadowState, shadow_moved, shadow_frames, shadow_step}
use Rattle.ms_runs_good_laws.specs.Reached.{edge_root}
use Rattle.ms_runs_good_laws.proofs.Frames.{drop_first}
use Rattle.ms_runs_laws.proofs.ExactRules.{formulas_exact}
use Rattle.ms_runs_laws.proofs.SameRuns.{same_step}
use Rattle.ms_trail_moves.specs.declared.moves.Source.{Source}
use Rattle.ms_trail_moves.specs.declared.moves.Move.{Move}
use Rattle.ms_trail_moves.specs.Events.{Numbers, renumbered, event_moves}
use Rattle.ms_trail_moves.specs.Moving.{Writes}
use Rattle.ms_trail_laws.specs.Complete.{IsComplete}
use Rattle.ms_trail_laws.specs.Staying.{ReadsPoison}
use Rattle.ms_trail_laws.proofs.ByteRuns.{WritesIn, found, account}
use Rattle.ms_trail_laws.proofs.StepMoves.{P, AccountedMoved, EdgesOf, Edges, FirstRoots, first_moved}
use Rattle.ms_trail_laws.proofs.Whole.{stop_more}

-- any number counts as a root
abbrev Any : ℕ → Type 0
Any n = Unit {0}

module _ (s : Setting) (m : Module) (event k : ℕ) (ks : List ℕ) (made : ℕ) (fr : Frame Poisoned) (below : List (Frame Poisoned)) (same : length ks ≡ length below) (w : World) where
  edges_of : (from : Name) (is : List Inst) (n : ℕ) → EdgesOf Any s m event k ks made fr below same w from is n
  edges_of from [] n = tt
  edges_of from (i ∷ is) n = by_op i.op (λ q. edges_of from is q)
    where
      by_op : (o : Op) → ((q : ℕ) → EdgesOf Any s m event k ks made fr below same w from is q)
          → (elim o as (λ z. Type 0) [
            | op.Phi t edges ↦
                (read_edge (λ n t o. edge_root n o) 0 t from edges n ≢ 0 → Any (read_edge (λ n t o. edge_root n o) 0 t from edges n))
                × EdgesOf Any s m event k ks made fr below same w from is (n + roots_in s.func i)
            | _ ↦ Unit {0}
          ])
      by_op (op.Phi t edges) go = ((λ h. tt), go (n + roots_in s.func i))
      by_op _ go = tt

  edges_at : (is : List Inst) (fs : List (Frame Poisoned)) → Edges Any s m event k ks made fr below same w is fs
  edges_at [] fs = tt
  edges_at (i ∷ is) [] = tt
  edges_at (i ∷ is) (next ∷ rest) = λ branches. edges_of (block_name m fr.func fr.block) (insts_at m next.func next.block) (root_at s.func m next.func next.block 0)

  roots_at : s.func ≡ func_index m.funcs → is_threaded m ≡ false → (is : List Inst) → rest_of m fr ≡ is → FirstRoots Any s m event k ks made fr below same w is
  roots_at named calm [] e = tt
  roots_at named calm (i ∷ is) e = record {
    of_operands = λ n l g. tt;
    its_own = λ h. tt;
    alone = ap (λ func. calls_thread func i.op) named ∙ none_due m calm fr.func fr.block fr.place i (drop_first (insts_at m fr.func fr.block) fr.place i is e);
  }

  -- what a step's moves are
  pub record StepMoves (d : ShadowState) : Type 0 where
    pub deep : length (renumbered (length d.frames) (record { standing = k ∷ ks; made = made })).standing ≡ length d.frames
    pub complete : IsComplete s m event (record { standing = k ∷ ks; made = made }) (record { frames = fr ∷ below; world = w }) d
    pub reads : ReadsPoison s m event (record { standing = k ∷ ks; made = made }) (record { frames = fr ∷ below; world = w }) d

  by_outcome : (x : Outcome Poisoned) → AccountedMoved Any s m event k ks made fr below same w (rest_of m fr) x → (d : ShadowState) → shadow_moved x ≡ More d → StepMoves d
  by_outcome (Over e v) a d h = absurd (stop_more e v d h)
  by_outcome (On fs v) a d h =
      let accounts = a (edges_at (rest_of m fr) fs) in
      subst StepMoves (more_same (record { frames = fs; world = v }) d h)
      (record {
        deep = accounts.deep;
        complete = λ place bits some has.
            on (event_moves s m event (record { standing = k ∷ ks; made = made }) (renumbered (length fs) (record { standing = k ∷ ks; made = made })) (record { frames = fr ∷ below; world = w }) (record { frames = fs; world = v }))
            place (accounts.kept bits some place has);
        reads = λ index byte move place stands reaches.
            let each = account (P Any s m event k ks made fr below same w) (P Any s m event k ks made fr below same w) event _ accounts.sound (λ place before. inl before) in
            (each.of_event index move stands, each.poisoned index byte place move stands reaches);
      })
    where
      more_same : (x y : ShadowState) → More x ≡ More y → x ≡ y
      more_same x y e = cc

      on : {A : Type 0} (moves : List Move) (place : Source) → A ⊎ WritesIn moves place → A ⊎ Writes moves place
      on moves place (inl p) = inl p
      on moves place (inr x) = inr (found moves place x)

-- what the moves of a step are, and that frames have as many numbers as before
pub record AreMoves (s : Setting) (m : Module) (event : ℕ) (before : Numbers) (c d : ShadowState) : Type 0 where
  pub deep : length (renumbered (length d.frames) before).standing ≡ length d.frames
  pub complete : IsComplete s m event before c d
  pub reads : ReadsPoison s m event before c d

moves_from : (s : Setting) (m : Module) → s.func ≡ func_index m.funcs → is_threaded m ≡ false → (event : ℕ) (standing : List ℕ) (made : ℕ) (frames : List (Frame Poisoned)) (w : World) (d : ShadowState) → length standing ≡ length frames
    → shadow_step by_formulas s m (record { frames = frames; world = w }) ≡ More d → AreMoves s m event (record { standing = standing; made = made }) (record { frames = frames; world = w }) d
moves_from s m named calm event standing made [] w d deep e = absurd (stop_more _ _ d e)
moves_from s m named calm event [] made (fr ∷ below) w d deep e = absurd (omega (arith, deep))
moves_from s m named calm event (k ∷ ks) made (fr ∷ below) w d deep e = next (omega (arith, deep))
  where
    next : length ks ≡ length below → AreMoves s m event (record { standing = k ∷ ks; made = made }) (record { frames = fr ∷ below; world = w }) d
    next same =
        let a = by_outcome s m event k ks made fr below same w (shadow_frames by_formulas s m (fr ∷ below) w)
        (first_moved Any s m event k ks made fr below same w (rest_of m fr) (roots_at s m event k ks made fr below same w named calm (rest_of m fr) refl)) d e in
        record { deep = a.deep; complete = a.complete; reads = a.reads }

-- a step's moves are all that it poisons, and read what was poisoned before it
pub step_moves : (s : Setting) (m : Module) → s.func ≡ func_index m.funcs → is_threaded m ≡ false → (event : ℕ) (numbers : Numbers) (c d : ShadowState) → length numbers.standing ≡ length c.frames → shadow_step by_completions s m c ≡ More d → AreMoves s m event numbers c d
step_moves s m named calm event numbers c d deep e = moves_from s m named calm event numbers.standing numbers.made c.frames c.world d deep (sym (same_step formulas_exact s m c) ∙ e)

pub complete : (s : Setting) (m : Module) → s.func ≡ func_index m.funcs → is_threaded m ≡ false → (event : ℕ) (numbers : Numbers) (c d : ShadowState) → length numbers.standing ≡ length c.frames → shadow_step by_completions s m c ≡ More d → IsComplete s m event numbers c d
complete s m named calm event numbers c d deep e = (step_moves s m named calm event numbers c d deep e).complete

pub reads_poison : (s : Setting) (m : Module) → s.func ≡ func_index m.funcs → is_threaded m ≡ false → (event : ℕ) (numbers : Numbers) (c d : ShadowState) → length numbers.standing ≡ length c.frames → shadow_step by_completions s m c ≡ More d → ReadsPoison s m event numbers c d
reads_poison s m named calm event numbers c d deep e = (step_moves s m named calm event numbers c d deep e).reads
