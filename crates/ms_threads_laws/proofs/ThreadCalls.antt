-- What a thread call is among the instructions that are due: it answers a clean word, loses no poison, and hands nothing over.
use Rattle.std.proofs.Common.{◌≡◌, Bool, true, false, Option, Some, None, ℕ, List, [], ◌∷◌, refl, sym, ap, ◌∙◌, arith}
use Rattle.std.specs.Prelude.{◌&&◌, not, if◌then◌else◌, map, is_some}
use Rattle.std.proofs.lemmas.Bool.{false≢true}
use Rattle.ms_ir.specs.declared.syntax.Name.{Name}
use Rattle.ms_ir.specs.declared.syntax.Op.{Op}
use Rattle.ms_ir.specs.declared.syntax.Op.TheVariants as op
use Rattle.ms_ir.specs.declared.calls.External.{External}
use Rattle.ms_ir.specs.declared.calls.External.TheVariants.{Realloc, PthreadCreate, PthreadJoin, SchedYield, Word}
use Rattle.ms_ir.specs.Names.{lookup, externals}
use Rattle.ms_ir.specs.Instructions.{external_named, is_phi}
use Rattle.ms_runs.specs.World.{World, Setting, Here, Enters, Ends, stuck}
use Rattle.ms_runs.specs.Externals.{external}
use Rattle.ms_runs.specs.Act.{act}
use Rattle.ms_runs.specs.Poisoned.{Poisoned}
use Rattle.ms_runs.specs.Masks.{union, by_formulas}
use Rattle.ms_runs.specs.Shadow.{poisoned_result}
use Rattle.ms_runs.specs.Origins.{count_blind}
use Rattle.ms_runs.specs.Uses.{blinded, blind_words, has_true_flag}
use Rattle.ms_pass_tasks.specs.Match.{CallHeld, Handed, SavedSize, Saved}
use Rattle.ms_pass_tasks.specs.InstructionLaw.{GoesOn, IsOutside, CallsOutside}
use Rattle.ms_pass_tasks.proofs.Externals.{external_goes}
use Rattle.ms_pass_tasks.proofs.DefineResults.{outside_clean}
use Rattle.ms_runs_threads.specs.Fibers.{Own, Asks, Returns}
use Rattle.ms_runs_threads.specs.PlainFibers.{due_of}
use Rattle.ms_ir.specs.ThreadCalls.{is_asked}

-- an operation is a thread call
abbrev pub ThreadCall : (Name → Option ℕ) → Op → Type 0
ThreadCall func (op.Call ret callee args) = is_asked (external_named func callee) ≡ true
ThreadCall func _ = ⊥

-- or a return outside `main`, in a frame alone
abbrev pub ReturnsAlone : (main only : Bool) → Op → Type 0
ReturnsAlone main only (op.Ret v) = (only ≡ true) × (main ≡ false)
ReturnsAlone main only _ = ⊥

asked_by : (b : Bool) → (if b then Asks else Own) ≡ Asks → b ≡ true
asked_by true e = refl
asked_by false e = grind arith

not_asked_by : (b : Bool) → (if b then Asks else Own) ≡ Returns → ⊥
not_asked_by true e = grind arith
not_asked_by false e = grind arith

returned_by : (only main : Bool) → (if only && not main then Returns else Own) ≡ Returns → (only ≡ true) × (main ≡ false)
returned_by true false e = (refl, refl)
returned_by true true e = grind arith
returned_by false main e = grind arith

not_returned_by : (b : Bool) → (if b then Returns else Own) ≡ Asks → ⊥
not_returned_by true e = grind arith
not_returned_by false e = grind arith

pub asks_call : (func : Name → Option ℕ) (main only : Bool) (o : Op) → due_of func main only o ≡ Asks → ThreadCall func o
asks_call func main only (op.Call ret callee args) e = asked_by (is_asked (external_named func callee)) e
asks_call func main only (op.Ret v) e = not_returned_by (only && not main) e
asks_call func main only _ e = grind arith

pub returns_alone : (func : Name → Option ℕ) (main only : Bool) (o : Op) → due_of func main only o ≡ Returns → ReturnsAlone main only o
returns_alone func main only (op.Call ret callee args) e = not_asked_by (is_asked (external_named func callee)) e
returns_alone func main only (op.Ret v) e = returned_by only main e
returns_alone func main only _ e = grind arith

-- ---- what holds of a thread call

outside_asked : (e : Option External) → is_asked e ≡ true → IsOutside e
outside_asked None h = false≢true h
outside_asked (Some (Word f n)) h = false≢true h
outside_asked (Some e) h = tt

pub call_outside : (func : Name → Option ℕ) (o : Op) → ThreadCall func o → CallsOutside func o
call_outside func (op.Call ret callee args) h = outside_asked (external_named func callee) h
call_outside func _ h = absurd h

none_lost : (b : Bool) → union (map (λ (p : Poisoned). p.mask) (if b then [] else [])) ≡ 0
none_lost true = refl
none_lost false = refl

-- it counts no blind use
pub counts_none : (func : Name → Option ℕ) (o : Op) → ThreadCall func o → (ps : List Poisoned) (w : World) → count_blind (union (map (λ p. p.mask) (blinded func o ps))) w ≡ w
counts_none func (op.Call ret callee args) h ps w = ap (λ n. count_blind n w) (by_external (external_named func callee) h)
  where
    by_external : (e : Option External) → is_asked e ≡ true → union (map (λ p. p.mask) (blind_words e args ps)) ≡ 0
    by_external None h = absurd (false≢true h)
    by_external (Some PthreadCreate) h = none_lost (has_true_flag args)
    by_external (Some PthreadJoin) h = none_lost (has_true_flag args)
    by_external (Some SchedYield) h = none_lost (has_true_flag args)
    by_external (Some e) h = absurd (false≢true h)
counts_none func _ h ps w = absurd h

pub hands_none : (func : Name → Option ℕ) (main : Bool) (o : Op) → ThreadCall func o → (ps : List Poisoned) (cells : ℕ → ℕ) → Handed func main o ps cells
hands_none func main (op.Call ret callee args) h ps cells = by_own (is_some (func callee)) h
  where
    by_own : (b : Bool) → is_asked (if b then None else lookup externals callee) ≡ true → CallHeld b cells args ps
    by_own true h = absurd (false≢true h)
    by_own false h = tt
hands_none func main _ h ps cells = absurd h

pub saves_none : (func : Name → Option ℕ) (saved : ℕ) (o : Op) → ThreadCall func o → (ps : List Poisoned) (w : World) (names : Name → ℕ) → Saved func saved o ps w names
saves_none func saved (op.Call ret callee args) h ps w names = by_external (external_named func callee) h
  where
    by_external : (e : Option External) → is_asked e ≡ true → SavedSize e saved ps w names
    by_external None h = tt
    by_external (Some Realloc) h = absurd (false≢true h)
    by_external (Some e) h = tt
saves_none func saved _ h ps w names = absurd h

-- it answers, or ends the run
pub never_goes_on : (s : Setting) (h : Here) (o : Op) → ThreadCall s.func o → (words : List ℕ) (w : World) → GoesOn (act s h o words w) → ⊥
never_goes_on s h (op.Call ret callee args) asked words w =
    by_own (s.func callee) (external_named s.func callee) asked (λ own. ap (λ b. if b then None else lookup externals callee) own)
  where
    by_external : (e : Option External) → is_asked e ≡ true
        → GoesOn (elim e [ Some x ↦ external s h.site x (map (λ a. a.0) args) words w | None ↦ Ends stuck w ]) → ⊥
    by_external None asked g = g
    by_external (Some PthreadCreate) asked g = external_goes s h.site PthreadCreate (map (λ a. a.0) args) words w refl g
    by_external (Some PthreadJoin) asked g = external_goes s h.site PthreadJoin (map (λ a. a.0) args) words w refl g
    by_external (Some SchedYield) asked g = external_goes s h.site SchedYield (map (λ a. a.0) args) words w refl g
    by_external (Some e) asked g = false≢true asked

    by_own : (q : Option ℕ) (e : Option External) → is_asked e ≡ true → (is_some q ≡ true → e ≡ None)
        → GoesOn (elim q [ Some f ↦ Enters f w | None ↦ elim e [ Some x ↦ external s h.site x (map (λ a. a.0) args) words w | None ↦ Ends stuck w ] ]) → ⊥
    by_own (Some f) e asked own g = false≢true (ap is_asked (sym (own refl)) ∙ asked)
    by_own None e asked own g = by_external e asked g
never_goes_on s h _ asked words w = absurd asked

pub no_phi : (func : Name → Option ℕ) (o : Op) → ThreadCall func o → is_phi o ≡ false
no_phi func (op.Call ret callee args) h = refl
no_phi func _ h = absurd h

-- its answer is clean
pub call_clean : (func : Name → Option ℕ) (o : Op) → ThreadCall func o → (ps : List Poisoned) (x : ℕ) (w : World) → (poisoned_result by_formulas o ps x w).mask ≡ 0
call_clean func o h ps x w = outside_clean func o (call_outside func o h) ps w
