-- What is read of a view of a frame is read of the frame.
use Rattle.std.proofs.Common.{◌≡◌, ◌<◌, ℕ, List, length, Option, sym, ap, ◌∙◌, subst}
use Rattle.ms_ir.specs.declared.syntax.Op.{Op}
use Rattle.ms_runs.specs.World.{World}
use Rattle.ms_machine_code.specs.declared.code.Code.{Code}
use Rattle.ms_machine_code.specs.declared.code.Edge.{Edge}
use Rattle.ms_trail_masks.specs.declared.words.View.{View}
use Rattle.ms_trail_masks.specs.Results.{IsMask}
use Rattle.ms_trail_masks.specs.Views.{IsView}
use Rattle.ms_trail_uses.specs.declared.used.Used.{Used}
use Rattle.ms_trail_uses.specs.Used.{code_read}
use Rattle.ms_trail_uses.specs.Taken.{IsTaken}
use Rattle.ms_trail_uses.specs.Origins.{place_read}

pub mask_same : (fill fill' xs xs' ms ms' : List ℕ) (k : Code) (mask : ℕ) → fill ≡ fill' → xs ≡ xs' → ms ≡ ms' → IsMask fill xs ms k mask → IsMask fill' xs' ms' k mask
mask_same fill fill' xs xs' ms ms' k mask e f g h =
    subst (λ (l : List ℕ). IsMask l xs' ms' k mask) e (subst (λ (l : List ℕ). IsMask fill l ms' k mask) f (subst (λ (l : List ℕ). IsMask fill xs l k mask) g h))

-- a view of a follower's frame
pub view_is : (v : View) (xs ms fill : List ℕ) → v.values.now ≡ xs → v.masks.now ≡ ms → v.fill.now ≡ fill → length ms ≡ length xs → 0 < length fill → IsView v
view_is v xs ms fill values masks filled same some = record {
  same = ap length masks ∙ same ∙ sym (ap length values);
  filled = subst (λ (l : List ℕ). 0 < length l) (sym filled) some;
}

pub read_same : (v : View) (xs ms fill : List ℕ) (w : World) (o : Op) (k : Code) (used : Option Used) → v.values.now ≡ xs → v.masks.now ≡ ms → v.fill.now ≡ fill → used ≡ code_read v.fill.now v.values.now v.masks.now w o k → used ≡ code_read fill xs ms w o k
read_same v xs ms fill w o k used values masks filled is = is ∙ (λ j. code_read (filled j) (values j) (masks j) w o k)

pub place_same : (fill fill' xs xs' ms ms' : List ℕ) (o : Op) (k : Code) (place : ℕ) → fill ≡ fill' → xs ≡ xs' → ms ≡ ms' → place ≡ place_read fill xs ms o k → place ≡ place_read fill' xs' ms' o k
place_same fill fill' xs xs' ms ms' o k place filled values masks is = is ∙ (λ j. place_read (filled j) (values j) (masks j) o k)

pub taken_same : (v : View) (xs fill : List ℕ) (k : Code) (e : Edge) → v.values.now ≡ xs → v.fill.now ≡ fill → IsTaken v.fill.now v.values.now k e → IsTaken fill xs k e
taken_same v xs fill k e values filled h = subst (λ (l : List ℕ). IsTaken fill l k e) values (subst (λ (l : List ℕ). IsTaken l v.values.now k e) filled h)
