-- Numbers stored one after the other into a list: what is left to store makes of the list what all of it makes of the list at entry.
-- The reader's three lists and the writer's buffer are filled so. Assumes nothing.
use Prim.Native.Nat.{ℕ, suc, ◌+◌, ◌≤◌}
use mathlib.Core.Path.{◌≡◌, refl, ap, sym, ◌∙◌}
use mathlib.Core.List.{List, [], ◌∷◌, ◌++◌}
use native.Mathlib.Omega.{arith}
use native.Mathlib.Numerals.{add-one}
use native.Mathlib.Nat.{zero-add}
use lib.ListN.{length, drop, set, length-set, length-append}
use lib.Seq.{sets, sets-eq, length-sets}
use Rattle.trace.specs.Promise.{over}
use Rattle.trace.specs.Stores.{Roomy, Laid}

-- of the numbers vs₀, stored from a place on into list₀, the numbers vs are left, from `at` on
pub record Left (vs₀ : List ℕ) (from : ℕ) (list₀ vs : List ℕ) (at : ℕ) (list : List ℕ) : Type 0 where
  pub same : sets list at vs ≡ sets list₀ from vs₀
  pub ends : at + length vs ≡ from + length vs₀
  pub long : length list ≡ length list₀

sets_append : (l : List ℕ) (i : ℕ) (a b : List ℕ) → sets l i (a ++ b) ≡ sets (sets l i a) (i + length a) b
sets_append l i [] b = ap (λ (k : ℕ). sets l k b) (omega arith)
sets_append l i (v ∷ a) b = sets_append (set l i v) (suc i) a b ∙ ap (λ (k : ℕ). sets (sets (set l i v) (suc i) a) k b) (omega arith)

pub left_first : (vs : List ℕ) (from : ℕ) (list : List ℕ) → Left vs from list vs from list
left_first vs from list = record { same = refl; ends = refl; long = refl }

module _ {vs₀ : List ℕ} {from : ℕ} {list₀ : List ℕ} where
  pub left_one : (v : ℕ) (vs : List ℕ) (at : ℕ) (list : List ℕ) → Left vs₀ from list₀ (v ∷ vs) at list → Left vs₀ from list₀ vs (at + 1) (set list at v)
  left_one v vs at list h = record { same = rw add-one h.same; ends = omega (arith, h.ends); long = length-set list at v ∙ h.long }

  pub left_more : (a b : List ℕ) (at at' : ℕ) (list list' : List ℕ) → Left vs₀ from list₀ (a ++ b) at list → Laid a at list list' at' → Left vs₀ from list₀ b at' list'
  left_more a b at at' list list' h p =
      record {
        same = rw (p.placed, p.ends) (sym (sets_append list at a b) ∙ h.same);
        ends = omega (arith, p.ends, h.ends, length-append a b);
        long = ap length p.placed ∙ length-sets list at a ∙ h.long;
      }

  pub left_end : (at : ℕ) (list : List ℕ) → Left vs₀ from list₀ [] at list → Laid vs₀ from list₀ list at
  left_end at list h = record { placed = h.same; ends = omega (arith, h.ends) }

-- stores from the front on lay a list over another, whatever its entries are
pub stored : {A : Type 0} (vs list : List A) → length vs ≤ length list → sets list 0 vs ≡ over vs list
stored vs list h = sets-eq vs list 0 (omega arith) ∙ ap (λ (k : ℕ). vs ++ drop k list) (zero-add (length vs))

pub laid_over : (vs list list' : List ℕ) (at : ℕ) → length vs ≤ length list → Laid vs 0 list list' at → list' ≡ over vs list
laid_over vs list list' at h p = p.placed ∙ stored vs list h

-- one list of numbers after another
module _ (a b : List ℕ) (at : ℕ) (list : List ℕ) where
  pub roomy_front : Roomy (a ++ b) at list → Roomy a at list
  roomy_front h = record { room = omega (arith, h.room, length-append a b) }

  module _ (list' : List ℕ) (at' : ℕ) (p : Laid a at list list' at') where
    pub roomy_next : Roomy (a ++ b) at list → Roomy b at' list'
    roomy_next h = record { room = omega (arith, h.room, length-append a b, p.ends, ap length p.placed, length-sets list at a) }

    pub laid_then : (list'' : List ℕ) (at'' : ℕ) → Laid b at' list' list'' at'' → Laid (a ++ b) at list list'' at''
    laid_then list'' at'' q =
        record {
          placed = q.placed ∙ rw (p.placed, p.ends) (sym (sets_append list at a b));
          ends = omega (arith, p.ends, q.ends, length-append a b);
        }

-- the lengths of three lists together, and of five
pub three_long : (a b c : List ℕ) (x y z : ℕ) → x ≡ length a → y ≡ length b → z ≡ length c → x + y + z ≡ length (a ++ (b ++ c))
three_long a b c x y z p q r = omega (arith, length-append a (b ++ c), length-append b c)

pub five_long : (a b c d e : List ℕ) (x y z v w : ℕ) → x ≡ length a → y ≡ length b → z ≡ length c → v ≡ length d → w ≡ length e
    → x + y + z + v + w ≡ length (a ++ (b ++ (c ++ (d ++ e))))
five_long a b c d e x y z v w p q r s t = omega (arith, length-append a (b ++ (c ++ (d ++ e))), three_long b c (d ++ e) y z (v + w) q r (omega (arith, length-append d e)))
