-- A lift leaves the shelf of whole keys as it was. Assumes nothing.
use mathlib.Core.Path.{◌≡◌, refl, sym, ap, ◌∙◌}
use mathlib.Core.Logic.{◌⊎◌, inl, inr}
use mathlib.Core.Bool.{Bool, true, false}
use mathlib.Core.List.{List, [], ◌∷◌, map}
use Prim.Native.Nat.{ℕ, zero, suc, ◌+◌, ◌*◌, ◌<◌}
use native.Mathlib.Omega.{arith}
use lib.Dec.{eqb}
use lib.ListN.{length, get_or, take}
use borrow.Author.Tests.{eqb-false}
use Rattle.amounts.specs.Limits.{pick, lift, no_place}
use Rattle.queue.specs.Queue.{times}
use Rattle.method.specs.Shelf.{Slot, none, kept}
use Rattle.method.specs.Whole.{raise}
use Rattle.tables.specs.Tables.{Tables, record_at, slot_of, shelf_of}
use Rattle.lifting.specs.Lifting.{Lifted}
use Rattle.lifting.specs.Leaving.{with_keys}

-- maps that agree on each of the first n entries
map_same : {B : Type 0} (g h : ℕ → B) (l : List ℕ) (n : ℕ) → ((i : ℕ) → i < n → i < length l → g (get_or l i 0) ≡ h (get_or l i 0)) → map g (take n l) ≡ map h (take n l)
map_same g h [] zero e = refl
map_same g h [] (suc n) e = refl
map_same g h (x ∷ l) zero e = refl
map_same g h (x ∷ l) (suc n) e =
    let a : g x ≡ h x = e 0 (omega arith) (omega arith) in
    let b : map g (take n l) ≡ map h (take n l) = map_same g h l n (λ i p q. e (suc i) (omega arith) (omega arith)) in
    cc

map_twice : {A B C : Type 0} (g : B → C) (f : A → B) (l : List A) → map g (map f l) ≡ map (λ x. g (f x)) l
map_twice g f [] = refl
map_twice g f (x ∷ l) = ap (λ r. g (f x) ∷ r) (map_twice g f l)

module _ (lifts n : ℕ) (t : Tables) (keys' : List ℕ) (l : Lifted t.queue t.key keys' n) where
  slot_lifted : (p : ℕ) → (p ≡ no_place) ⊎ (times p t.queue n ≡ 1) → raise ((lifts + 1) * lift) (slot_of (with_keys t keys') p) ≡ raise (lifts * lift) (slot_of t p)
  unfolding slot_of
  slot_lifted p h = go (eqb p no_place) refl h
    where
      go : (b : Bool) → eqb p no_place ≡ b → (p ≡ no_place) ⊎ (times p t.queue n ≡ 1)
          → ◌≡◌ {A = Slot} (raise ((lifts + 1) * lift) (pick b none (kept (record_at (with_keys t keys') p)))) (raise (lifts * lift) (pick b none (kept (record_at t p))))
      go true e h = refl
      go false e (inl z) = absurd (eqb-false p no_place e z)
      go false e (inr o) =
          let k : (lifts + 1) * lift + get_or keys' p 0 ≡ lifts * lift + get_or t.key p 0 = omega (arith, o, l.less p) in
          ap (λ (x : ℕ). kept (record { size = get_or t.size p 0; cost = get_or t.cost p 0; freq = get_or t.freq p 0; key = x; stamp = get_or t.stamp p 0 })) k

  -- every file has no place, or one that the queue holds once: the shelf of whole keys is as it was
  pub shelf_lifted : (catalogue : ℕ) → ((f : ℕ) → f < catalogue → (get_or t.place f 0 ≡ no_place) ⊎ (times (get_or t.place f 0) t.queue n ≡ 1))
      → map (raise ((lifts + 1) * lift)) (shelf_of catalogue (with_keys t keys')) ≡ map (raise (lifts * lift)) (shelf_of catalogue t)
  unfolding shelf_of
  shelf_lifted catalogue h =
      map_twice (raise ((lifts + 1) * lift)) (slot_of (with_keys t keys')) (take catalogue t.place)
      ∙ map_same (λ p. raise ((lifts + 1) * lift) (slot_of (with_keys t keys') p)) (λ p. raise (lifts * lift) (slot_of t p)) t.place catalogue (λ f a b. slot_lifted (get_or t.place f 0) (h f a))
      ∙ sym (map_twice (raise (lifts * lift)) (slot_of t) (take catalogue t.place))
