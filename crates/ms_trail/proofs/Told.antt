-- Logs of moves of words.
use Rattle.std.proofs.Common.{◌≡◌, ℕ, Bool, List, [], ◌∷◌, ◌++◌, if◌then◌else◌, Option, Some, None, sym, ap, ◌∙◌, subst, append-nil, eq-eqb}
use Rattle.std.specs.Prelude.{unwrap_or}
use Rattle.std.proofs.lemmas.Bool.{ne_eqb}
use Rattle.ms_ir.specs.declared.syntax.Name.{Name}
use Rattle.ms_ir.specs.declared.syntax.Name.TheVariants.{Number}
use Rattle.ms_trail_moves.specs.declared.moves.Source.{Source}
use Rattle.ms_trail_moves.specs.declared.moves.Target.{Target}
use Rattle.ms_trail_moves.specs.declared.moves.Target.TheVariants.{Value}
use Rattle.ms_trail_moves.specs.declared.moves.Move.{Move}
use Rattle.ms_trail_moves.specs.Events.{moved}
use Rattle.ms_trail_bytes.specs.declared.logs.Log.{Log}
use Rattle.ms_trail_bytes.specs.Logs.{IsLog}
use Rattle.ms_trail.specs.Telling.{masked_move}
use Rattle.ms_trail.specs.Calling.{returned_told}

-- a clean word is no move
pub told_none : (log : Log) (moves : List Move) (event site mask : ℕ) (from : Source) (to : Target) → mask ≡ 0 → IsLog log moves → IsLog log (moves ++ masked_move event site mask from to)
told_none log moves event site mask from to none is =
    subst (λ (ms : List Move). IsLog log ms) (sym (ap (λ (b : Bool). moves ++ (if b then [] else moved event site from to ∷ [])) (eq-eqb mask 0 none) ∙ append-nil moves)) is

-- a poisoned one is
pub told_one : (log : Log) (moves : List Move) (event site mask : ℕ) (from from' : Source) (to to' : Target) → (mask ≡ 0 → ⊥) → from' ≡ from → to' ≡ to → IsLog log (moves ++ moved event site from' to' ∷ [])
    → IsLog log (moves ++ masked_move event site mask from to)
told_one log moves event site mask from from' to to' some same there is =
    subst (λ (ms : List Move). IsLog log ms)
    ((λ i. moves ++ moved event site (same i) (there i) ∷ []) ∙ sym (ap (λ (b : Bool). moves ++ (if b then [] else moved event site from to ∷ [])) (ne_eqb mask 0 some))) is

-- a clean word is handed back by no move
pub returned_none : (log : Log) (moves : List Move) (event site frame : ℕ) (result : Option Name) (mask : ℕ) (from : Source) → mask ≡ 0 → IsLog log moves → IsLog log (moves ++ returned_told event site frame result mask from)
returned_none log moves event site frame None mask from none is = subst (λ (ms : List Move). IsLog log ms) (sym (append-nil moves)) is
returned_none log moves event site frame (Some x) mask from none is = told_none log moves event site mask from (Value frame x) none is

-- a poisoned one is by one, where there is a result
pub returned_one : (log : Log) (moves : List Move) (event site frame : ℕ) (result : Option Name) (x : Name) (mask : ℕ) (from from' : Source) (to : Target) → result ≡ Some x → (mask ≡ 0 → ⊥) → from' ≡ from → to ≡ Value frame (unwrap_or result (Number 0))
    → IsLog log (moves ++ moved event site from' to ∷ []) → IsLog log (moves ++ returned_told event site frame result mask from)
returned_one log moves event site frame result x mask from from' to has some same there is =
    subst (λ (r : Option Name). IsLog log (moves ++ returned_told event site frame r mask from)) (sym has)
    (told_one log moves event site mask from from' (Value frame x) to some same (there ∙ ap (λ (r : Option Name). Value frame (unwrap_or r (Number 0))) has) is)
