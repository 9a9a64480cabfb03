-- What the parts of a format come to in turn.
use Rattle.std.proofs.Common.{◌≡◌, ◌≤◌, ◌<◌, ℕ, ◌+◌, ◌-◌, ◌^◌, min, List, [], ◌++◌, length, Result, Ok, Err, refl, sym, ap, ◌∙◌, subst, arith, append_assoc, length-append}
use Rattle.ms_bits.specs.declared.traps.Trap.{Trap}
use Rattle.ms_bits.specs.declared.traps.Trap.TheVariants as trap
use Rattle.ms_bits.specs.Maps.{bytes_at}
use Rattle.ms_runs.specs.Formats.{both_shown}
use Rattle.ms_runs.specs.World.{World}
use Rattle.ms_printf.specs.declared.shown.FormatFault.{FormatFault}
use Rattle.ms_printf.specs.declared.shown.FormatFault.TheVariants as fault
use Rattle.ms_printf.specs.declared.shown.Shown.{Shown}
use Rattle.ms_printf.specs.declared.shown.Shown.TheVariants as shown
use Rattle.ms_printf.specs.Walks.{trap_of, shown_of, Measures}
use Rattle.ms_printf.proofs.Output.{nothing_more}

-- ---- parts are joined from the left as from the right

ok_ok : (a b : List ℕ) (z : Result (List ℕ) Trap) → both_shown (both_shown (Ok a) (Ok b)) z ≡ both_shown (Ok a) (both_shown (Ok b) z)
ok_ok a b (Ok c) = ap Ok (append_assoc a b c)
ok_ok a b (Err t) = refl

ok_err : (a : List ℕ) (f : FormatFault) (z : Result (List ℕ) Trap) → both_shown (both_shown (Ok a) (Err (trap_of f))) z ≡ both_shown (Ok a) (both_shown (Err (trap_of f)) z)
ok_err a fault.Address z = refl
ok_err a fault.Format (Ok c) = refl
ok_err a fault.Format (Err t) = refl

format_ok : (b : List ℕ) (z : Result (List ℕ) Trap) → both_shown (both_shown (Err trap.Format) (Ok b)) z ≡ both_shown (Err trap.Format) (both_shown (Ok b) z)
format_ok b (Ok c) = refl
format_ok b (Err t) = refl

format_err : (f : FormatFault) (z : Result (List ℕ) Trap) → both_shown (both_shown (Err trap.Format) (Err (trap_of f))) z ≡ both_shown (Err trap.Format) (both_shown (Err (trap_of f)) z)
format_err fault.Address z = refl
format_err fault.Format (Ok c) = refl
format_err fault.Format (Err t) = refl

err_any : (world : World) (f : FormatFault) (s : Shown) (z : Result (List ℕ) Trap) → both_shown (both_shown (Err (trap_of f)) (shown_of world s)) z ≡ both_shown (Err (trap_of f)) (both_shown (shown_of world s) z)
err_any world fault.Address s z = refl
err_any world fault.Format (shown.Memory addr len) z = format_ok (bytes_at world.bytes addr len) z
err_any world fault.Format (shown.Text text) z = format_ok text.items z
err_any world fault.Format (shown.Fault f) z = format_err f z

joined : (world : World) (sum : Result ℕ FormatFault) (x : Result (List ℕ) Trap) (s : Shown) (z : Result (List ℕ) Trap) → Measures sum x → both_shown (both_shown x (shown_of world s)) z ≡ both_shown x (both_shown (shown_of world s) z)
joined world (Ok n) (Ok a) (shown.Memory addr len) z h = ok_ok a (bytes_at world.bytes addr len) z
joined world (Ok n) (Ok a) (shown.Text text) z h = ok_ok a text.items z
joined world (Ok n) (Ok a) (shown.Fault f) z h = ok_err a f z
joined world (Ok n) (Err t) s z h = absurd h
joined world (Err f) x s z h = subst (λ (y : Result (List ℕ) Trap). both_shown (both_shown y (shown_of world s)) z ≡ both_shown y (both_shown (shown_of world s) z)) (sym h) (err_any world f s z)

-- ---- what parts came to so far

-- the whole is what parts came to, which is measured, and the rest
pub record SoFar (sum : Result ℕ FormatFault) (rest whole : Result (List ℕ) Trap) : Type 0 where
  pub came : Result (List ℕ) Trap
  pub measures : Measures sum came
  pub same : whole ≡ both_shown came rest

pub begun : (whole : Result (List ℕ) Trap) → SoFar (Ok 0) whole whole
begun (Ok bs) = record { came = Ok []; measures = refl; same = refl }
begun (Err t) = record { came = Ok []; measures = refl; same = refl }

pub more : (world : World) (sum new : Result ℕ FormatFault) (s : Shown) (rest next whole : Result (List ℕ) Trap) → SoFar sum rest whole → rest ≡ both_shown (shown_of world s) next
    → ((came : Result (List ℕ) Trap) → Measures sum came → Measures new (both_shown came (shown_of world s))) → SoFar new next whole
more world sum new s rest next whole h e measured = record {
  came = both_shown h.came (shown_of world s);
  measures = measured h.came h.measures;
  same = h.same ∙ ap (both_shown h.came) e ∙ sym (joined world sum h.came s next h.measures);
}

alone : (sum : Result ℕ FormatFault) (x : Result (List ℕ) Trap) → Measures sum x → both_shown x (Ok []) ≡ x
alone (Ok n) (Ok bs) h = ap Ok (nothing_more bs)
alone (Ok n) (Err t) h = absurd h
alone (Err fault.Address) x h = subst (λ (y : Result (List ℕ) Trap). both_shown y (Ok []) ≡ y) (sym h) refl
alone (Err fault.Format) x h = subst (λ (y : Result (List ℕ) Trap). both_shown y (Ok []) ≡ y) (sym h) refl

pub finished : (sum : Result ℕ FormatFault) (rest whole : Result (List ℕ) Trap) → SoFar sum rest whole → rest ≡ Ok [] → Measures sum whole
finished sum rest whole h e = subst (Measures sum) (sym (h.same ∙ ap (both_shown h.came) e ∙ alone sum h.came h.measures)) h.measures

-- ---- one part more

add : (n len : ℕ) (bs cs : List ℕ) → n ≡ min (length bs) (2 ^ 64 - 1) → len ≡ length cs → min (n + len) (2 ^ 64 - 1) ≡ min (length (bs ++ cs)) (2 ^ 64 - 1)
add n len bs cs e l = omega (arith, length-append bs cs)

pub more_bytes : (n len new : ℕ) (came : Result (List ℕ) Trap) (cs : List ℕ) → Measures (Ok n) came → len ≡ length cs → new ≡ min (n + len) (2 ^ 64 - 1) → Measures (Ok new) (both_shown came (Ok cs))
more_bytes n len new (Ok bs) cs h l e = e ∙ add n len bs cs h l
more_bytes n len new (Err t) cs h l e = absurd h
