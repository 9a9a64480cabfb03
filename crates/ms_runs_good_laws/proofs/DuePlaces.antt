-- The instruction that is due is the one at which the innermost frame stands, and no other.
use Rattle.std.proofs.Common.{◌≡◌, ◌<◌, ℕ, ◌+◌, List, ◌∷◌, Some, false, sym, ap, ◌∙◌, get_or, arith, true≢false}
use Rattle.std.specs.Prelude.{slice_get}
use Rattle.std.proofs.Math.Path.{ap₂}
use Rattle.std.proofs.lemmas.Option.{same_Some}
use Rattle.ms_ir.specs.declared.syntax.Op.{Op}
use Rattle.ms_ir.specs.declared.syntax.Op.TheVariants as op
use Rattle.ms_ir.specs.declared.syntax.Inst.{Inst}
use Rattle.ms_ir.specs.declared.syntax.Module.{Module}
use Rattle.ms_ir.specs.Instructions.{operands, count_undefs, is_root, func_index, insts_at, root_at}
use Rattle.ms_runs.specs.Control.{Frame, count_phis, read_edge, block_name}
use Rattle.ms_runs.specs.Poisoned.{Poisoned}
use Rattle.ms_runs.specs.Shadow.{ShadowState}
use Rattle.ms_runs_good_laws.specs.Reached.{Due, due_root, IsEdge, edge_root, Reaches, AsOperand, AsItself, AsEdge}

pub innermost_frame : (f g : Frame Poisoned) (fs gs : List (Frame Poisoned)) → f ∷ fs ≡ g ∷ gs → f ≡ g
innermost_frame f g fs gs e = ap (λ l. get_or l 0 f) e

-- what is due in a state with such an innermost frame
pub due_frame : (m : Module) (state : ShadowState) (f : Frame Poisoned) (fs : List (Frame Poisoned)) → state.frames ≡ f ∷ fs → (due : Due m state) → due.frame ≡ f
due_frame m state f fs e due = innermost_frame due.frame f due.below fs (sym due.innermost ∙ e)

pub due_inst : (m : Module) (state : ShadowState) (f : Frame Poisoned) (fs : List (Frame Poisoned)) (i : Inst) → state.frames ≡ f ∷ fs
    → slice_get (insts_at m f.func f.block) f.place ≡ Some i → (due : Due m state) → due.inst ≡ i
due_inst m state f fs i e s due =
    same_Some due.inst i (sym due.stands ∙ ap (λ g. slice_get (insts_at m g.func g.block) g.place) (due_frame m state f fs e due) ∙ s)

-- the root of the edge that a phi takes, 0 where it is none
abbrev pub taken_root : Module → (from : Frame Poisoned) → (to : Frame Poisoned) → ℕ → Op → ℕ
taken_root m from to place (op.Phi t edges) =
    read_edge (λ n u o. edge_root n o) 0 t (block_name m from.func from.block) edges (root_at (func_index m.funcs) m to.func to.block place)
taken_root m from to place o = 0

-- the edge's root, by the frames before and after a branch and the phi's place
pub edge_taken : (m : Module) (before after : ShadowState) (id : ℕ) (f g : Frame Poisoned) (fs gs : List (Frame Poisoned))
    → before.frames ≡ f ∷ fs → after.frames ≡ g ∷ gs → (edge : IsEdge m before after id)
    → (k : ℕ) (phi : Inst) → edge.place ≡ k → slice_get (insts_at m g.func g.block) k ≡ Some phi → id ≡ taken_root m f g k phi.op
edge_taken m before after id f g fs gs e h edge k phi p s =
    let to : edge.frame ≡ g = innermost_frame edge.frame g edge.below gs (sym edge.innermost ∙ h) in
    let is : edge.phi ≡ phi = same_Some edge.phi phi (sym edge.stands ∙ ap (λ z. slice_get (insts_at m z.func z.block) edge.place) to ∙ ap (λ n. slice_get (insts_at m g.func g.block) n) p ∙ s) in
    edge.taken
    ∙ ap (λ o. taken_root m edge.due.frame edge.frame edge.place o) (sym edge.shape)
    ∙ ap (λ z. taken_root m z edge.frame edge.place edge.phi.op) (due_frame m before f fs e edge.due)
    ∙ ap (λ z. taken_root m f z edge.place edge.phi.op) to
    ∙ ap (λ n. taken_root m f g n edge.phi.op) p
    ∙ ap (λ i. taken_root m f g k i.op) is

-- a phi to which a branch leads is one of its block's
pub edge_leads : (m : Module) (before after : ShadowState) (id : ℕ) (g : Frame Poisoned) (gs : List (Frame Poisoned)) → after.frames ≡ g ∷ gs
    → (edge : IsEdge m before after id) → edge.place < count_phis (insts_at m g.func g.block)
edge_leads m before after id g gs h edge =
    let same : count_phis (insts_at m edge.frame.func edge.frame.block) ≡ count_phis (insts_at m g.func g.block) =
    ap (λ z. count_phis (insts_at m z.func z.block)) (innermost_frame edge.frame g edge.below gs (sym edge.innermost ∙ h)) in
    omega (arith, edge.leading, same)

-- a step reaches no root above those of the instruction that is due, unless by an edge
pub no_reach : (m : Module) (before after : ShadowState) (id : ℕ) (f : Frame Poisoned) (fs : List (Frame Poisoned)) (i : Inst) → before.frames ≡ f ∷ fs
    → slice_get (insts_at m f.func f.block) f.place ≡ Some i
    → root_at (func_index m.funcs) m f.func f.block f.place + count_undefs (operands i.op) < id → is_root (func_index m.funcs) i.op ≡ false
    → ((edge : IsEdge m before after id) → ⊥) → Reaches m before after id → ⊥
no_reach m before after id f fs i e s lt none edges (AsOperand h) =
    let same : due_root m h.due + count_undefs (operands h.due.inst.op) ≡ root_at (func_index m.funcs) m f.func f.block f.place + count_undefs (operands i.op) =
    ap₂ (λ z j. root_at (func_index m.funcs) m z.func z.block z.place + count_undefs (operands j.op)) (due_frame m before f fs e h.due) (due_inst m before f fs i e s h.due) in
    omega (arith, h.within, same, lt)
no_reach m before after id f fs i e s lt none edges (AsItself h) =
    true≢false (sym h.makes ∙ ap (λ j. is_root (func_index m.funcs) j.op) (due_inst m before f fs i e s h.due) ∙ none)
no_reach m before after id f fs i e s lt none edges (AsEdge h) = edges h
