-- A shelf and the queue that covers it: each kept file's place is in the queue, and each entry's file is kept. Assumes nothing.
use mathlib.Core.Path.{◌≡◌, sym, ap, ◌∙◌, subst}
use mathlib.Core.Logic.{⊎_elim}
use mathlib.Core.List.{List}
use Prim.Native.Nat.{ℕ, zero, suc, ◌+◌, ◌-◌, ◌≤◌, ◌<◌}
use native.Mathlib.Omega.{arith}
use native.Mathlib.Numerals.{add-one}
use lib.ListN.{get_or, set}
use lib.Seq.{get_or-set_same, get_or-set_other}
use Rattle.amounts.specs.Limits.{no_place}
use Rattle.amounts.specs.declared.settings.Settings.{Settings}
use Rattle.amounts.proofs.Tests.{same}
use Rattle.queue.specs.Queue.{total, is, times, Holding, Removed}
use Rattle.queue.proofs.Totals.{total_more, times_at, times_none, times_found, Found, is_other}
use Rattle.queue.proofs.Callers.{removed_gone, removed_other}
use Rattle.method.specs.Shelf.{Kept, none, kept, Shelf, sum}
use Rattle.method.proofs.Shelves.{none_kept, kept_lt, at_set, sum_set_eq}
use Rattle.method.proofs.Room.{sum_empty}
use Rattle.tables.specs.Tables.{Tables, record_at, slot_of, shelf_of}
use Rattle.tables.specs.Sound.{At, Occupied}
use Rattle.tables.proofs.Shelves.{slot_none, slot_kept, shelf_at, shelf_length}
use Rattle.shelving.specs.Live.{Live}
use Rattle.shelving.proofs.Links.{at_file, at_place, at_occupied}
use Rattle.shelving.proofs.Lives.{unheld}

-- file f, of which r is kept, has a place that the first m entries hold
abbrev Filed : Settings → Tables → List ℕ → ℕ → ℕ → Kept → Type 0
Filed s t q m f r = At s t f (get_or t.place f 0) × (r ≡ record_at t (get_or t.place f 0)) × (1 ≤ times (get_or t.place f 0) q m)

-- the file at place p is on the shelf
abbrev Shelved : Settings → Tables → Shelf → ℕ → Type 0
Shelved s t x p = Occupied s t p × (get_or x (get_or t.file p 0) none ≡ kept (record_at t p))

-- the files of x are those whose places the first m entries of q hold
pub record Covers (s : Settings) (t : Tables) (q : List ℕ) (m : ℕ) (x : Shelf) : Type 0 where
  pub file : (f : ℕ) (r : Kept) → get_or x f none ≡ kept r → Filed s t q m f r
  pub entry : (i : ℕ) → i < m → Shelved s t x (get_or q i 0)

-- the whole shelf is covered by the whole queue
pub shelf_covered : (s : Settings) (n m : ℕ) (t : Tables) (entry : List ℕ) → Live s n m t entry → Covers s t t.queue n (shelf_of s.catalogue.0 t)
shelf_covered s n m t entry h = record { file = file; entry = entry_in }
  where
    slot : (f : ℕ) → f < s.catalogue.0 → get_or (shelf_of s.catalogue.0 t) f none ≡ slot_of t (get_or t.place f 0)
    slot f b = shelf_at s.catalogue.0 t f b h.long.place

    file : (f : ℕ) (r : Kept) → get_or (shelf_of s.catalogue.0 t) f none ≡ kept r → Filed s t t.queue n f r
    file f r e =
        let b : f < s.catalogue.0 = omega (arith, kept_lt (shelf_of s.catalogue.0 t) f r e, shelf_length s.catalogue.0 t h.long.place) in
        ⊎_elim
        (λ z. none_kept (sym (slot_none t (get_or t.place f 0) z) ∙ sym (slot f b) ∙ e))
        (λ a.
        let ne : get_or t.place f 0 ≡ no_place → ⊥ = λ z. omega (arith, a.inside, h.places) in
        let k : kept (record_at t (get_or t.place f 0)) ≡ kept r = sym (slot_kept t (get_or t.place f 0) ne) ∙ sym (slot f b) ∙ e in
        let q : r ≡ record_at t (get_or t.place f 0) = cc in
        (a, q, omega (arith, h.queued.once (get_or t.place f 0) (at_occupied s t f (get_or t.place f 0) a))))
        (h.linked.out f b)

    entry_in : (i : ℕ) → i < n → Shelved s t (shelf_of s.catalogue.0 t) (get_or t.queue i 0)
    entry_in i b =
        let a = h.queued.entries i b in
        (a, slot _ a.known ∙ ap (slot_of t) a.place ∙ slot_kept t (get_or t.queue i 0) (λ z. omega (arith, a.inside, h.places)))

-- place p taken out, and its file off the shelf: the first m entries of r hold what the first n of q hold but for p
module _ (s : Settings) (t : Tables) (q r : List ℕ) (n m p : ℕ) (x : Shelf) (c : Covers s t q n x) (there : Shelved s t x p)
    (gone : times p r m ≡ 0) (others : (k : ℕ) → (k ≡ p → ⊥) → times k r m ≡ times k q n) where
  abbrev off : Shelf
  off = set x (get_or t.file p 0) none

  off_file : (g : ℕ) (k : Kept) → get_or off g none ≡ kept k → Filed s t r m g k
  off_file g k w = ⊎_elim (λ z. none_kept z.1) old (at_set x (get_or t.file p 0) none g k w)
    where
      old : get_or x g none ≡ kept k → Filed s t r m g k
      old z =
          let b = c.file g k z in
          ⊎_elim
          (λ e. none_kept (sym (get_or-set_same x (get_or t.file p 0) none none (kept_lt x _ _ there.1)) ∙ ap (λ (j : ℕ). get_or off j none) (sym e) ∙ w))
          (λ ne.
          let np : get_or t.place g 0 ≡ p → ⊥ = λ e. ne (at_file s t g (get_or t.file p 0) p (subst (At s t g) e b.0) there.0) in
          (b.0, b.1, omega (arith, b.2, others (get_or t.place g 0) np)))
          (same g (get_or t.file p 0))

  off_entry : (i : ℕ) → i < m → Shelved s t off (get_or r i 0)
  off_entry i b =
      let k : ℕ = get_or r i 0 in
      let np : k ≡ p → ⊥ = times_none p r i m gone b in
      let w : Found k q n = times_found k q n (omega (arith, times_at r i m b, others k np)) in
      let z : Shelved s t x k = subst (Shelved s t x) w.is (c.entry w.entry w.before) in
      (z.0, get_or-set_other x (get_or t.file p 0) _ none none (λ e. np (at_place s t _ _ p z.0 (subst (λ (v : ℕ). At s t v p) (sym e) there.0))) ∙ z.1)

  covers_off : Covers s t r m off
  covers_off = record { file = off_file; entry = off_entry }

-- the first entry taken out
pub covers_less : (s : Settings) (t : Tables) (q q' e e' keys stamps : List ℕ) (m : ℕ) (x : Shelf) → Covers s t q m x → Holding q e keys stamps m 0
    → Removed q q' e e' keys stamps m 0 (get_or q 0 0) → Covers s t q' (m - 1) (set x (get_or t.file (get_or q 0 0) 0) none)
covers_less s t q q' e e' keys stamps m x c hold r =
    covers_off s t q q' m (m - 1) (get_or q 0 0) x c (c.entry 0 hold.inside) (removed_gone q q' e e' keys stamps m 0 (get_or q 0 0) hold r)
    (λ k ne. removed_other q q' e e' keys stamps m 0 (get_or q 0 0) k r ne)

-- ---- a sum over the shelf is the sum over the queue that covers it

module _ (s : Settings) (t : Tables) (q : List ℕ) (n : ℕ) (distinct : (i j : ℕ) → i < n → j < n → get_or q i 0 ≡ get_or q j 0 → i ≡ j) where
  -- the last entry left out
  covers_last : (m : ℕ) (x : Shelf) → m < n → Covers s t q (m + 1) x → Covers s t q m (set x (get_or t.file (get_or q m 0) 0) none)
  covers_last m x h c =
      covers_off s t q q (m + 1) m (get_or q m 0) x c (c.entry m (omega arith))
      (unheld (get_or q m 0) q m (λ w. omega (arith, w.before, distinct w.entry m (omega (arith, w.before)) h w.is)))
      (λ k ne. omega (arith, total_more (is k) q m, is_other k (get_or q m 0) ne))

  pub sum_covered : (w : Kept → ℕ) (m : ℕ) (x : Shelf) → m ≤ n → Covers s t q m x → sum w x ≡ total (λ p. w (record_at t p)) q m
  unfolding total
  sum_covered w zero x h c = sum_empty w x (λ f r e. omega (arith, (c.file f r e).2))
  sum_covered w (suc m) x h c =
      let f : ℕ = get_or t.file (get_or q m 0) 0 in
      let z : get_or x f none ≡ kept (record_at t (get_or q m 0)) = (c.entry m (omega arith)).1 in
      let d : sum w (set x f none) + w (record_at t (get_or q m 0)) ≡ 0 + sum w x = rw z at (sum_set_eq w x f none (kept_lt x f _ z)) in
      let less = covers_last m x (omega arith) (subst (λ (k : ℕ). Covers s t q k x) (sym (add-one m)) c) in
      let r : sum w (set x f none) ≡ total (λ p. w (record_at t p)) q m = sum_covered w m (set x f none) (omega arith) less in
      omega arith
