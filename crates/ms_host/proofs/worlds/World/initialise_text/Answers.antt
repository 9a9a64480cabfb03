use Rattle.std.proofs.Common.{◌≡◌, ◌<◌, ◌∙◌, ℕ, length, get_or, refl, arith, sym, subst}
use Rattle.ms_runs.specs.Memory.{set_bytes}
use Rattle.ms_host.specs.State.{WorldState}
use Rattle.ms_host.specs.Shows.{Shows}
use Rattle.ms_host.proofs.Changes.{keeps-both}
use Rattle.ms_host.proofs.Initialised.{next-byte, no-byte, dead-range}
use Rattle.ms_host.proofs.KeptNumbers.{reaches-some, reaches-none}
use Rattle.ms_host.proofs.worlds.World.initialise_text.Goals as goal

pub loop-k-init : goal.loop-k-init
loop-k-init c = record {
  written = λ beside world shows. no-byte c.args.self.now beside world c.in-Some.addr (λ j. get_or c.args.bytes.now j 0) shows;
  keeps = record { input = refl; fill = refl; slots = refl };
  made = refl;
}

pub loop-k-preserved : goal.loop-k-preserved
loop-k-preserved c =
    let l = c.loop-k in
    let low : get_or c.args.bytes.now l.k 0 < 256 = omega (arith, c.type_inv.bytes l.k) in
    record {
      written = λ beside world shows.
          next-byte c.initialise_byte.new.self beside world c.in-Some.addr l.k (get_or c.args.bytes.now l.k 0) (λ j. get_or c.args.bytes.now j 0) refl low
          (c.initialise_byte.ensures.written beside (set_bytes c.in-Some.addr l.k (λ j. get_or c.args.bytes.now j 0) world) (l.invariant.written beside world shows));
      keeps = keeps-both _ _ _ l.invariant.keeps c.initialise_byte.ensures.keeps;
      made = c.initialise_byte.ensures.made ∙ l.invariant.made;
    }

pub returns-in_default-clause-written : goal.returns-in_default-clause-written
returns-in_default-clause-written c = λ a beside world at shows.
    let s = subst (λ (h : WorldState). Shows h beside world) (sym c.self.view_is) shows in
    subst (λ (h : WorldState). Shows h beside (set_bytes a (length c.args.bytes.now) (λ j. get_or c.args.bytes.now j 0) world)) c.self.view_is
    (dead-range _ beside world a (length c.args.bytes.now) (λ j. get_or c.args.bytes.now j 0) c.law_laid_out.ensures (reaches-none c.args.at a c.in_default.is at) s)

pub returns-clause-written : goal.returns-clause-written
returns-clause-written c = λ a beside world at shows.
    let done : c.loop-k.k ≡ length c.args.bytes.now = omega (arith, c.loop-k-test.false, c.loop-k.auto.k-end) in
    let here : c.in-Some.addr ≡ a = reaches-some c.args.at c.in-Some.addr a c.in-Some.is at in
    subst (λ (x : ℕ). Shows c.loop-k.self beside (set_bytes x (length c.args.bytes.now) (λ j. get_or c.args.bytes.now j 0) world)) here
    (subst (λ (n : ℕ). Shows c.loop-k.self beside (set_bytes c.in-Some.addr n (λ j. get_or c.args.bytes.now j 0) world)) done (c.loop-k.invariant.written beside world shows))
