-- What is printed so far, and what a call comes to.
use Rattle.std.proofs.Common.{◌≡◌, ◌≤◌, ◌<◌, ℕ, ◌+◌, ◌-◌, ◌^◌, min, List, [], ◌∷◌, ◌++◌, length, get_or, drop, Option, Some, None, Result, Ok, Err, refl, sym, ap, ◌∙◌, subst, arith, append_assoc}
use Rattle.ms_bits.specs.declared.traps.Trap.{Trap}
use Rattle.ms_bits.specs.declared.traps.Trap.TheVariants as trap
use Rattle.ms_bits.specs.Maps.{bytes_at}
use Rattle.ms_ir.specs.declared.syntax.Ty.{Ty}
use Rattle.ms_runs.specs.declared.runs.End.TheVariants as «end»
use Rattle.ms_runs.specs.Formats.{both_shown}
use Rattle.ms_runs.specs.Externals.{string_at, cut_shown, formatted, prints}
use Rattle.ms_runs.specs.World.{World, Gives}
use Rattle.ms_host.specs.declared.calls.Answer.{Answer}
use Rattle.ms_host.specs.declared.calls.Answer.TheVariants as answer
use Rattle.ms_host.specs.State.{WorldState, Beside}
use Rattle.ms_host.specs.Shows.{Shows}
use Rattle.ms_host.specs.Answers.{Answered}
use Rattle.ms_host.proofs.Effects.{printed-then, printed-full}
use Rattle.ms_printf.specs.declared.shown.FormatFault.{FormatFault}
use Rattle.ms_printf.specs.declared.shown.FormatFault.TheVariants as fault
use Rattle.ms_printf.specs.declared.shown.Shown.{Shown}
use Rattle.ms_printf.specs.declared.shown.Shown.TheVariants as shown
use Rattle.ms_printf.specs.Walks.{shown_of, Measures}

-- ---- printing

-- of the bytes some were printed, and the rest comes to the others
pub record PrintedSoFar (w : WorldState) (beside : Beside) (meant : World) (bytes : List ℕ) (rest : Result (List ℕ) Trap) : Type 0 where
  pub done : List ℕ
  pub left : List ℕ
  pub whole : done ++ left ≡ bytes
  pub rest_is : rest ≡ Ok left
  pub shows : Shows w beside (record meant { output = meant.output ++ done })

pub nothing_more : (bs : List ℕ) → bs ++ [] ≡ bs
nothing_more [] = refl
nothing_more (b ∷ bs) = ap (λ (l : List ℕ). b ∷ l) (nothing_more bs)

pub nothing_printed : (w : WorldState) (beside : Beside) (meant : World) (bytes : List ℕ) (rest : Result (List ℕ) Trap) → Shows w beside meant → rest ≡ Ok bytes → PrintedSoFar w beside meant bytes rest
nothing_printed w beside meant bytes rest shows e = record {
  done = [];
  left = bytes;
  whole = refl;
  rest_is = e;
  shows = subst (λ (l : List ℕ). Shows w beside (record meant { output = l })) (sym (nothing_more meant.output)) shows;
}

-- two parts without a fault
record Split (x y : Result (List ℕ) Trap) (bytes : List ℕ) : Type 0 where
  pub first : List ℕ
  pub second : List ℕ
  pub first_is : x ≡ Ok first
  pub second_is : y ≡ Ok second
  pub whole : first ++ second ≡ bytes

both : (a : List ℕ) (y : Result (List ℕ) Trap) (bytes : List ℕ) → both_shown (Ok a) y ≡ Ok bytes → Split (Ok a) y bytes
both a (Ok b) bytes e = record { first = a; second = b; first_is = refl; second_is = refl; whole = cc }
both a (Err t) bytes e = absurd (cc)

split : (world : World) (s : Shown) (y : Result (List ℕ) Trap) (bytes : List ℕ) → both_shown (shown_of world s) y ≡ Ok bytes → Split (shown_of world s) y bytes
split world (shown.Memory addr len) y bytes e = both (bytes_at world.bytes addr len) y bytes e
split world (shown.Text text) y bytes e = both text.items y bytes e
split world (shown.Fault fault.Address) y bytes e = absurd (cc)
split world (shown.Fault fault.Format) (Ok b) bytes e = absurd (cc)
split world (shown.Fault fault.Format) (Err t) bytes e = absurd (cc)

pub more_printed : (w new : WorldState) (beside : Beside) (meant : World) (bytes : List ℕ) (rest next : Result (List ℕ) Trap) (s : Shown) (h : PrintedSoFar w beside meant bytes rest)
    → rest ≡ both_shown (shown_of meant s) next
    → ((bs : List ℕ) → shown_of meant s ≡ Ok bs → Shows new beside (record meant { output = (meant.output ++ h.done) ++ bs })) → PrintedSoFar new beside meant bytes next
more_printed w new beside meant bytes rest next s h e step =
    let parts : Split (shown_of meant s) next h.left = split meant s next h.left (sym e ∙ h.rest_is) in
    record {
      done = h.done ++ parts.first;
      left = parts.second;
      whole = append_assoc h.done parts.first parts.second ∙ ap (λ (l : List ℕ). h.done ++ l) parts.whole ∙ h.whole;
      rest_is = parts.second_is;
      shows = subst (λ (l : List ℕ). Shows new beside (record meant { output = l })) (append_assoc meant.output h.done parts.first) (step parts.first parts.first_is);
    }

ok_same : (a b : List ℕ) (r : Result (List ℕ) Trap) → r ≡ Ok a → r ≡ Ok b → a ≡ b
ok_same a b r e h = cc

pub all_done : (w : WorldState) (beside : Beside) (meant : World) (bytes : List ℕ) (rest : Result (List ℕ) Trap) → PrintedSoFar w beside meant bytes rest → rest ≡ Ok [] → Shows w beside (record meant { output = meant.output ++ bytes })
all_done w beside meant bytes rest h e =
    let none : h.left ≡ [] = ok_same h.left [] rest h.rest_is e in
    subst (λ (l : List ℕ). Shows w beside (record meant { output = meant.output ++ l })) (sym (nothing_more h.done) ∙ ap (λ (l : List ℕ). h.done ++ l) (sym none) ∙ h.whole) h.shows

-- ---- what a call comes to

pub no_format : (world : World) (types : List Ty) (words : List ℕ) (addr : ℕ) → addr ≡ get_or words 0 0 → string_at world addr ≡ None → formatted world types words ≡ Err trap.BadAddress
no_format world types words addr is e =
    ap (λ (o : Option (List ℕ)). elim o as (λ z. Result (List ℕ) Trap) [ Some format ↦ cut_shown world format (drop 1 types) (drop 1 words) | None ↦ Err trap.BadAddress ]) (ap (string_at world) (sym is) ∙ e)

pub has_format : (world : World) (types : List Ty) (words : List ℕ) (addr n : ℕ) → addr ≡ get_or words 0 0 → string_at world addr ≡ Some (bytes_at world.bytes addr n)
    → formatted world types words ≡ cut_shown world (bytes_at world.bytes addr n) (drop 1 types) (drop 1 words)
has_format world types words addr n is e =
    ap (λ (o : Option (List ℕ)). elim o as (λ z. Result (List ℕ) Trap) [ Some format ↦ cut_shown world format (drop 1 types) (drop 1 words) | None ↦ Err trap.BadAddress ]) (ap (string_at world) (sym is) ∙ e)

pub faulted : (beside : Beside) (world : World) (site : ℕ) (w : WorldState) (r : Result (List ℕ) Trap) (t : Trap) → r ≡ Err t → Shows w beside world → Answered beside (prints site r world) (answer.Ended («end».Trap t site)) w
faulted beside world site w r t e shows = subst (λ (x : Result (List ℕ) Trap). Answered beside (prints site x world) (answer.Ended («end».Trap t site)) w) (sym e) (refl, shows)

pub too_many : (beside : Beside) (world : World) (site n : ℕ) (w : WorldState) (r : Result (List ℕ) Trap) → Measures (Ok n) r → ¬ (length world.output + n ≤ 1048576) → Shows w beside world
    → Answered beside (prints site r world) (answer.Ended («end».Trap trap.Output site)) w
too_many beside world site n w (Ok bs) h full shows =
    let e : n ≡ min (length bs) (2 ^ 64 - 1) = h in
    printed-full beside world site bs (Gives (length bs)) w (omega (arith, e, full)) shows
too_many beside world site n w (Err t) h full shows = absurd h

pub fits : (beside : Beside) (world : World) (site n : ℕ) (w : WorldState) (r : Result (List ℕ) Trap) → Measures (Ok n) r → length world.output + n ≤ 1048576
    → ((bs : List ℕ) → r ≡ Ok bs → Shows w beside (record world { output = world.output ++ bs })) → Answered beside (prints site r world) (answer.Resumed (Some n)) w
fits beside world site n w (Ok bs) h room shows =
    let e : n ≡ min (length bs) (2 ^ 64 - 1) = h in
    let same : n ≡ length bs = omega (arith, e, room) in
    printed-then beside _ world site bs (Gives (length bs)) w (omega (arith, same, room)) (same, shows bs refl)
fits beside world site n w (Err t) h room shows = absurd h
