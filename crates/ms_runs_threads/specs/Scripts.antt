-- Fibers that follow a script, of which this repository says how they run: what a schedule does, without a module.
use Rattle.std.specs.Prelude.{ℕ, Bool, true, false, List, [], ◌∷◌, ◌++◌, length, eqb, if◌then◌else◌, Option, Some, None}
use Rattle.ms_runs.specs.declared.runs.End.{End}
use Rattle.ms_runs.specs.declared.runs.End.TheVariants as «end»
use Rattle.ms_runs.specs.World.{World, first_world}
use Rattle.ms_runs.specs.Threads.{changed_thread, join_answer}
use Rattle.ms_runs.specs.Poisoned.{clean}
use Rattle.ms_runs.specs.Plain.{Stepped, More, Stop}
use Rattle.ms_runs_threads.specs.Fibers.{Due, Own, Asks, Returns, Going, Meaning, Goes, ends_in}

-- what a fiber does: it prints a byte, makes a fiber that follows a script, joins the fiber with a number, or lets others
-- go on
pub data Act : Type 0 where
  Prints : (byte : ℕ) → Act
  Makes : (script : ℕ) → Act
  Joins : (id : ℕ) → Act
  Yields : Act

-- a fiber: what it has still to do, and whether it is `main`'s
pub record Script : Type 0 where
  pub main : Bool
  pub acts : List Act

abbrev pub due_act : (main : Bool) → List Act → Due
due_act main [] = if main then Own else Returns
due_act main (Prints b ∷ acts) = Own
due_act main (a ∷ acts) = Asks

abbrev pub joins_act : List Act → Option ℕ
joins_act (Joins id ∷ acts) = Some id
joins_act acts = None

-- with other things to do
abbrev pub goes_with : Script → List Act → World → Stepped (Going Script World)
goes_with f acts w = More (record { fiber = record f { acts = acts }; shared = w })

abbrev pub step_act : Script → List Act → World → Stepped (Going Script World)
step_act f (Prints b ∷ acts) w = goes_with f acts (record w { output = w.output ++ b ∷ [] })
step_act f acts w = Stop («end».Exit 0) w

abbrev pub perform_act : Script → List Act → World → Stepped (Going Script World)
perform_act f (Makes n ∷ acts) w =
    goes_with f acts (record w { threads = w.threads ++ record { func = n; argument = 0; ended = false; joined = false } ∷ [] })
perform_act f (Joins id ∷ acts) w =
    goes_with f acts
    (if eqb (join_answer w.turn id w.threads) 0 then record w { threads = changed_thread id (λ t. record t { joined = true }) w.threads } else w)
perform_act f (Yields ∷ acts) w = goes_with f acts w
perform_act f acts w = Stop («end».Exit 1) w

-- fibers that follow scripts; the site of what is due is the number of things still to do
abbrev pub follows : (scripts : ℕ → List Act) → Meaning Script World
follows scripts = record {
  world = λ w. w;
  within = λ w old. w;
  due = λ f. due_act f.main f.acts;
  joins = λ f. joins_act f.acts;
  site = λ f. length f.acts;
  step = λ f w. step_act f f.acts w;
  reach = λ f w. More (record { fiber = f; shared = w });
  perform = λ f w. perform_act f f.acts w;
  answer = λ f w. clean;
  left = λ f w. w;
  begun = λ func argument w. record { fiber = record { main = false; acts = scripts func }; shared = w };
}

-- how a run of so many steps ends in which `main` follows a script, and what it printed
abbrev pub ends : (scripts : ℕ → List Act) → List Act → (schedule : List ℕ) → (steps : ℕ) → End × List ℕ
ends scripts acts schedule steps =
    let at = ends_in (follows scripts) schedule steps (Goes (record { main = true; acts = acts }) (first_world []) (record { stands = λ k. None; picks = 0 })) in
    (at.0, at.1.output)

-- the script of the fibers below: one prints 66
abbrev pub prints_one : ℕ → List Act
prints_one n = Prints 66 ∷ []

-- two fibers that join each other
abbrev pub join_round : ℕ → List Act
join_round n = Joins (if eqb n 0 then 2 else 1) ∷ []

-- `main` makes a fiber, lets it go on, prints 65 and joins it
abbrev pub makes_one : List Act
makes_one = Makes 0 ∷ Yields ∷ Prints 65 ∷ Joins 1 ∷ []
