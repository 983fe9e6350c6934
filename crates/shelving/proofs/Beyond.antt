-- Entries beyond the needed lengths are never written. Assumes nothing.
use mathlib.Core.Path.{◌≡◌, refl, sym, ap, ◌∙◌}
use mathlib.Core.List.{List}
use Prim.Native.Nat.{ℕ, zero, suc, ◌+◌, ◌-◌, ◌≤◌, ◌<◌}
use native.Mathlib.Omega.{arith}
use lib.ListN.{length, get_or, set, drop, length-drop}
use lib.Seq.{drop-set-lt, get_or-drop, ext_get_or}
use Rattle.amounts.specs.Limits.{no_place}
use Rattle.amounts.specs.declared.settings.Settings.{Settings}
use Rattle.tables.specs.Tables.{Tables}
use Rattle.tables.specs.Sound.{Occupied}
use Rattle.tables.proofs.Lengths.{tables_eq}
use Rattle.shelving.specs.Live.{Live, beyond_of}
use Rattle.shelving.specs.Evicting.{with_queue, last_place, drop_last, drop_all}
use Rattle.shelving.proofs.Dropping.{live_last}

-- a list that differs in the first k entries only is the same from there on
pub drop_same : (l m : List ℕ) (k n : ℕ) → length m ≡ length l → k ≤ n → ((i : ℕ) → k ≤ i → get_or m i 0 ≡ get_or l i 0) → drop n m ≡ drop n l
drop_same l m k n e b h =
    ext_get_or 0 (drop n m) (drop n l) (length-drop n m ∙ ap (λ (x : ℕ). x - n) e ∙ sym (length-drop n l))
    (λ i _. get_or-drop n m i 0 ∙ h (n + i) (omega arith) ∙ sym (get_or-drop n l i 0))

-- another queue
pub beyond_queue : (s : Settings) (t : Tables) (q : List ℕ) → drop s.places.0 q ≡ drop s.places.0 t.queue → beyond_of s (with_queue q t) ≡ beyond_of s t
beyond_queue s t q hq = tables_eq refl refl refl refl refl refl refl hq

-- a file dropped, and all behind the queue
beyond_last : (s : Settings) (n : ℕ) (t : Tables) → 0 < n → n ≤ s.places.0 → Occupied s t (last_place n t) → beyond_of s (drop_last n t) ≡ beyond_of s t
beyond_last s n t pos few a =
    let p : ℕ = last_place n t in
    let same : (l : List ℕ) → drop s.places.0 (set l p 0) ≡ drop s.places.0 l = λ l. drop-set-lt s.places.0 l p 0 a.inside in
    tables_eq (drop-set-lt s.catalogue.0 t.place (get_or t.file p 0) no_place a.known) (same t.file) (same t.size) (same t.cost) (same t.freq) (same t.key)
    (same t.stamp) (drop-set-lt s.places.0 t.queue (n - 1) 0 (omega arith))

pub beyond_all : (s : Settings) (n m k : ℕ) (t : Tables) (entry : List ℕ) → m + k ≡ n → Live s n m t entry → beyond_of s (drop_all k n t) ≡ beyond_of s t
unfolding drop_all
beyond_all s n m zero t entry e h = refl
beyond_all s n m (suc k) t entry e h =
    let room : m < n = omega arith in
    beyond_all s (n - 1) m k (drop_last n t) entry (omega arith) (live_last s n m t entry h room)
    ∙ beyond_last s n t (omega arith) h.few (h.queued.entries (n - 1) (omega arith))
