-- Whether a tally and tables are sound can be decided: each condition is bounded, and is one of numbers. Assumes nothing.
use mathlib.Core.Path.{◌≡◌, refl, sym, ◌∙◌}
use mathlib.Core.Logic.{◌⊎◌, inl}
use mathlib.Core.List.{List, [], ◌∷◌}
use Prim.Native.Nat.{ℕ, suc, ◌+◌, ◌*◌, ◌≤◌, ◌<◌}
use lib.ListN.{length, get_or}
use Rattle.amounts.specs.Limits.{size_most, cost_most, requests_most, frequency_most, lift, no_place}
use Rattle.amounts.specs.Worth.{Valued, worth_most}
use Rattle.amounts.specs.declared.settings.Settings.{Settings}
use Rattle.amounts.proofs.Tests.{same}
use Rattle.queue.specs.Queue.{lower_at, times, above, Ordered}
use Rattle.method.specs.Shelf.{Kept, Slot, none, kept, Shelf, sum, bytes, files, product, Each}
use Rattle.method.specs.Method as method
use Rattle.method.specs.Totals.{Totals, Amount, Counts, Agreed}
use Rattle.method.specs.Promise as promise
use Rattle.method.proofs.Shelves.{none_kept, is_kept, kept_lt, each_cons}
use Rattle.tables.specs.Tables.{Tables}
use Rattle.tables.specs.Tally.{store_of, policy_in, totals_of, state_of, whole_of}
use Rattle.tables.specs.Sound.{Counted, At, Occupied, Zero, Linked, Queued, Sound}
use Rattle.tables.specs.declared.tally.Tally.{Tally}
use Rattle.tables.proofs.Deciding.{Decided, decide_as, decide_both, decide_either, decide_if, decide_not, decide_le, decide_lt, decide_false, all_below}

-- ---- the totals

amount : (m h n x y : ℕ) → Decided (Amount m h n x y)
amount m h n x y =
    decide_as (λ p. record { hit_least = p.0; hit_most = p.1.0; hit_asked = p.1.1.0; asked_least = p.1.1.1.0; asked_most = p.1.1.1.1 })
    (λ g. (g.hit_least, (g.hit_most, (g.hit_asked, (g.asked_least, g.asked_most)))))
    (decide_both (decide_le h x) (decide_both (decide_le x (h * m)) (decide_both (decide_le x y) (decide_both (decide_le n y) (decide_le y (n * m))))))

counts : (y : Totals) → Decided (Counts y)
counts y =
    decide_as (λ p. record { outcomes = p.0; bytes = p.1 }) (λ g. (g.outcomes, g.bytes))
    (decide_both (same (y.hits + y.admitted + y.passed) y.requests) (amount size_most y.hits y.requests y.hit_bytes y.bytes))

agreed : (k : ℕ) (y : Totals) → Decided (Agreed k y)
agreed k y =
    decide_as (λ p. record { counts = p.0; gone = p.1.0; cost = p.1.1 }) (λ g. (g.counts, (g.gone, g.cost)))
    (decide_both (counts y) (decide_both (same (y.evicted + y.dropped + k) y.admitted) (amount cost_most y.hits y.requests y.hit_cost y.cost)))

pub counted_decided : (a : Tally) → Counted a ⊎ (Counted a → ⊥)
counted_decided a =
    decide_as (λ p. record { few = p.0; counts = p.1 }) (λ g. (g.few, g.counts)) (decide_both (decide_le a.requests requests_most) (counts (totals_of a)))

-- ---- the links and the queue

module _ (s : Settings) (t : Tables) where
  at : (f p : ℕ) → Decided (At s t f p)
  at f p =
      decide_as (λ x. record { known = x.0; inside = x.1.0; place = x.1.1.0; file = x.1.1.1 }) (λ o. (o.known, (o.inside, (o.place, o.file))))
      (decide_both (decide_lt f s.catalogue.0) (decide_both (decide_lt p s.places.0) (decide_both (same (get_or t.place f 0) p) (same (get_or t.file p 0) f))))

  pub occupied : (p : ℕ) → Decided (Occupied s t p)
  occupied p = at (get_or t.file p 0) p

  zero_at : (p : ℕ) → Decided (Zero t p)
  zero_at p =
      decide_as (λ x. record { file = x.0; size = x.1.0; cost = x.1.1.0; freq = x.1.1.1.0; key = x.1.1.1.1.0; stamp = x.1.1.1.1.1 })
      (λ z. (z.file, (z.size, (z.cost, (z.freq, (z.key, z.stamp))))))
      (decide_both (same (get_or t.file p 0) 0) (decide_both (same (get_or t.size p 0) 0) (decide_both (same (get_or t.cost p 0) 0)
      (decide_both (same (get_or t.freq p 0) 0) (decide_both (same (get_or t.key p 0) 0) (same (get_or t.stamp p 0) 0))))))

  linked : Decided (Linked s t)
  linked =
      decide_as (λ x. record { out = x.0; unused = x.1 }) (λ l. (l.out, l.unused))
      (decide_both
      (all_below (λ f. decide_either (same (get_or t.place f 0) no_place) (at f (get_or t.place f 0))) s.catalogue.0)
      (all_below (λ p. decide_if (decide_not (occupied p)) (zero_at p)) s.places.0))

  -- an occupied place is below the places, so that only those are asked
  queued : (n : ℕ) → Decided (Queued s n t)
  queued n =
      decide_as (λ x. record { entries = x.0; once = λ p o. x.1.0 p o.inside o; rest = λ i a b. x.1.1 i b a })
      (λ q. (q.entries, ((λ p l o. q.once p o), (λ i b a. q.rest i a b))))
      (decide_both (all_below (λ i. occupied (get_or t.queue i 0)) n)
      (decide_both (all_below (λ p. decide_if (occupied p) (same (times p t.queue n) 1)) s.places.0)
      (all_below (λ i. decide_if (decide_le n i) (same (get_or t.queue i 0) 0)) s.places.0)))

ordered : (queue keys stamps : List ℕ) (n : ℕ) → Decided (Ordered queue keys stamps n)
ordered queue keys stamps n =
    decide_as (λ f. record { order = λ i p l. f i l p }) (λ o. λ i l p. o.order i p l)
    (all_below (λ i. decide_if (decide_lt 0 i) (decide_false (lower_at keys stamps (get_or queue i 0) (get_or queue (above i) 0)))) n)

-- ---- the shelf

slot : (P : Kept → Type 0) → ((r : Kept) → Decided (P r)) → (x : Slot) → Decided ((q : Kept) → x ≡ kept q → P q)
slot P d none = inl (λ q e. none_kept e)
slot P d (kept r) = decide_as (λ p. is_kept P r p) (λ f. f r refl) (d r)

each : (P : Kept → Type 0) → ((r : Kept) → Decided (P r)) → (s : Shelf) → Decided (Each P s)
each P d [] = inl (λ i r e. none_kept e)
each P d (x ∷ s) = decide_as (λ y. each_cons P x s y.0 y.1) (λ f. ((λ q e. f 0 q e), (λ i r e. f (suc i) r e))) (decide_both (slot P d x) (each P d s))

once : (p : method.Policy) (f : ℕ) → Decided (promise.Once p f)
once method.gds f = same f 1
once method.gdsf f = inl tt

valued : (size cost : ℕ) → Decided (Valued size cost)
valued size cost =
    decide_as (λ x. record { size_least = x.0; size_at_most = x.1.0; cost_least = x.1.1.0; cost_at_most = x.1.1.1 }) (λ v. (v.size_least, (v.size_at_most, (v.cost_least, v.cost_at_most))))
    (decide_both (decide_le 1 size) (decide_both (decide_le size size_most) (decide_both (decide_le 1 cost) (decide_le cost cost_most))))

fine : (p : method.Policy) (r : Kept) → Decided (promise.Fine p r)
fine p r =
    decide_as (λ x. record { valued = x.0; freq = x.1.0; seldom = x.1.1.0; once = x.1.1.1 }) (λ v. (v.valued, (v.freq, (v.seldom, v.once))))
    (decide_both (valued r.size r.cost) (decide_both (decide_le 1 r.freq) (decide_both (decide_le r.freq frequency_most) (once p r.freq))))

-- two slots do not share a stamp, unless they are one
abbrev Differ : ℕ → ℕ → Slot → Slot → Type 0
Differ i j x y = (r q : Kept) → x ≡ kept r → y ≡ kept q → r.stamp ≡ q.stamp → i ≡ j

differ : (i j : ℕ) (x y : Slot) → Decided (Differ i j x y)
differ i j none y = inl (λ r q a b e. none_kept a)
differ i j (kept r) none = inl (λ r q a b e. none_kept b)
differ i j (kept r) (kept q) =
    decide_as
    (λ f. λ r' q' a b e. f (is_kept (λ v. r.stamp ≡ v.stamp) r refl r' a ∙ e ∙ sym (is_kept (λ v. q.stamp ≡ v.stamp) q refl q' b)))
    (λ f. f r q refl refl) (decide_if (same r.stamp q.stamp) (same i j))

apart : (s : Shelf) → Decided (promise.Apart s)
apart s =
    decide_as (λ f. λ i j r q a b e. f i (kept_lt s i r a) j (kept_lt s j q b) r q a b e) (λ f. λ i _ j _ r q a b e. f i j r q a b e)
    (all_below (λ i. all_below (λ j. differ i j (get_or s i none) (get_or s j none)) (length s)) (length s))

sums : (p : method.Policy) (c : method.Settings) (l : ℕ) (s : Shelf) (t n : ℕ) → Decided (promise.Sound p c l s t n)
sums p c l s t n =
    decide_as
    (λ x. record {
      slots = x.0;
      bytes = x.1.0;
      files = x.1.1.0;
      fine = x.1.1.1.0;
      stamps = x.1.1.1.1.0;
      apart = x.1.1.1.1.1.0;
      freqs = x.1.1.1.1.1.1.0;
      keys = x.1.1.1.1.1.1.1.0;
      total = x.1.1.1.1.1.1.1.1;
    })
    (λ g. (g.slots, (g.bytes, (g.files, (g.fine, (g.stamps, (g.apart, (g.freqs, (g.keys, g.total)))))))))
    (decide_both (same (length s) c.catalogue)
    (decide_both (decide_le (bytes s) c.capacity)
    (decide_both (decide_le (files s) c.places)
    (decide_both (each (promise.Fine p) (fine p) s)
    (decide_both (each (λ r. r.stamp < t) (λ r. decide_lt r.stamp t) s)
    (decide_both (apart s)
    (decide_both (decide_le (sum (λ r. r.freq) s) n)
    (decide_both (each (λ r. (l ≤ r.key) × (r.key ≤ l + product r)) (λ r. decide_both (decide_le l r.key) (decide_le r.key (l + product r))) s)
    (decide_le (l + sum product s) (n * worth_most))))))))))

-- ---- all of it

pub sound_decided : (a : Tally) (t : Tables) → Sound a t ⊎ (Sound a t → ⊥)
sound_decided a t =
    decide_as
    (λ x. record {
      agreed = x.0;
      few = x.1.0;
      low = x.1.1.0;
      linked = x.1.1.1.0;
      queued = x.1.1.1.1.0;
      ordered = x.1.1.1.1.1.0;
      shelf = x.1.1.1.1.1.1.0;
      files = x.1.1.1.1.1.1.1.0;
      bytes = x.1.1.1.1.1.1.1.1;
    })
    (λ s. (s.agreed, (s.few, (s.low, (s.linked, (s.queued, (s.ordered, (s.shelf, (s.files, s.bytes)))))))))
    (decide_both (agreed a.files_kept (totals_of a))
    (decide_both (decide_le a.requests requests_most)
    (decide_both (decide_lt a.inflation.0 (2 * lift))
    (decide_both (linked a.settings t)
    (decide_both (queued a.settings t a.files_kept)
    (decide_both (ordered t.queue t.key t.stamp a.files_kept)
    (decide_both (sums (policy_in a.settings) (store_of a.settings) (whole_of a t).inflation (whole_of a t).shelf a.requests a.requests)
    (decide_both (same (files (state_of a t).shelf) a.files_kept) (same (bytes (state_of a t).shelf) a.bytes_kept.0)))))))))
