-- What is popped from the queue is what is set aside on the shelf. Assumes nothing.
use mathlib.Core.Path.{◌≡◌, refl, sym, ap, ◌∙◌, subst}
use mathlib.Core.Bool.{true, false}
use mathlib.Core.List.{List, [], ◌∷◌, ◌++◌, append_assoc, append-nil}
use Prim.Native.Nat.{ℕ, zero, suc, ◌+◌, ◌-◌, ◌≤◌, ◌<◌}
use native.Mathlib.Omega.{arith}
use lib.ListN.{length, get_or, set}
use Rattle.amounts.specs.declared.settings.Settings.{Settings}
use Rattle.queue.specs.Queue.{Whole, Removed}
use Rattle.queue.proofs.Callers as callers
use Rattle.method.specs.Shelf.{Kept, none, kept, Shelf, bytes, files, NotLower, at, lowest}
use Rattle.method.specs.Method as method
use Rattle.method.specs.Method.{Gone, beside, fits}
use Rattle.method.specs.Promise.{Apart}
use Rattle.method.proofs.Shelves.{lowest_is, kept_lt, sum_set_eq, files_le}
use Rattle.method.proofs.Sound.{apart_none}
use Rattle.tables.specs.Tables.{Tables, record_at, shelf_of}
use Rattle.tables.specs.Tally.{store_of}
use Rattle.shelving.specs.Taking.{Aside, stop, first, aside}
use Rattle.shelving.specs.Live.{Live}
use Rattle.shelving.specs.Room.{room_for, first_key, first_size, Popped, none, more}
use Rattle.shelving.specs.Evicting.{with_queue, gone_at, behind, without}
use Rattle.shelving.proofs.MakingRoom.{Turns, by_turns, aside_fits, aside_above, aside_more, fewer}
use Rattle.shelving.proofs.Lives.{live_queue, removed_kept}
use Rattle.shelving.proofs.Covers.{Covers, shelf_covered, covers_less}

-- ---- the files behind the queue

behind_snoc : (t : Tables) (n k : ℕ) → behind t n (suc k) ≡ behind t n k ++ gone_at t (n - 1 - k) ∷ []
unfolding behind
behind_snoc t n zero = ap (λ (i : ℕ). gone_at t i ∷ []) (omega arith)
behind_snoc t n (suc k) =
    let e : n - 1 - 1 - k ≡ n - 1 - suc k = omega arith in
    ap (λ (gs : List Gone). gone_at t (n - 1) ∷ gs) (behind_snoc t (n - 1) k ∙ ap (λ (i : ℕ). behind t (n - 1) k ++ gone_at t i ∷ []) e)

-- entries from m on decide the files behind the first m
pub behind_same : (t u : Tables) (m n k : ℕ) → m + k ≤ n → ((i : ℕ) → m ≤ i → i < n → gone_at u i ≡ gone_at t i) → behind u n k ≡ behind t n k
unfolding behind
behind_same t u m n zero b h = refl
behind_same t u m n (suc k) b h =
    let a : gone_at u (n - 1) ≡ gone_at t (n - 1) = h (n - 1) (omega arith) (omega arith) in
    let r : behind u (n - 1) k ≡ behind t (n - 1) k = behind_same t u m (n - 1) k (omega arith) (λ i c d. h i c (omega arith)) in
    λ i. a i ∷ r i

-- what is set aside comes before what is still to go
abbrev ahead : List Gone → Aside → Aside
ahead gs y = record { low = y.low; inflation = y.inflation; shelf = y.shelf; gone = gs ++ y.gone }

ahead_first : (gs : List Gone) (i : ℕ) (r : Kept) (y : Aside) → ahead (gs ++ record { file = i; was = r } ∷ []) y ≡ ahead gs (first i r y)
ahead_first gs i r y = ap (λ (ks : List Gone). record { low = y.low; inflation = y.inflation; shelf = y.shelf; gone = ks }) (append_assoc gs (record { file = i; was = r } ∷ []) y.gone)

module _ (s : Settings) (n : ℕ) (t : Tables) (entry : List ℕ) (z limit l₀ b₀ : ℕ) (h : Live s n n t entry)
    (apart₀ : Apart (shelf_of s.catalogue.0 t)) (files₀ : files (shelf_of s.catalogue.0 t) ≡ n) (bytes₀ : bytes (shelf_of s.catalogue.0 t) ≡ b₀) where
  abbrev shelf₀ : Shelf
  shelf₀ = shelf_of s.catalogue.0 t

  -- what is still to go from a shelf, and from the whole one
  abbrev more_of : ℕ → ℕ → Shelf → Aside
  more_of fuel l x = aside (store_of s) z limit fuel l x

  abbrev all : Aside
  all = more_of (length shelf₀) l₀ shelf₀

  abbrev Pops : List ℕ → List ℕ → ℕ → ℕ → ℕ → Type 0
  Pops q e m l b = Popped t.size t.key t.stamp s.capacity.0 s.places.0 z limit t.queue entry n l₀ b₀ q e m l b

  -- where m entries are left in the queue q
  record Sofar (q e : List ℕ) (m l b : ℕ) : Type 0 where
    live : Live s n m (with_queue q t) e
    shelf : Shelf
    covers : Covers s t q m shelf
    apart : Apart shelf
    count : files shelf ≡ m
    weight : bytes shelf ≡ b
    fuel : ℕ
    enough : m ≤ fuel
    same : ahead (behind (with_queue q t) n (n - m)) (more_of fuel l shelf) ≡ all

  sofar_fits : {q e : List ℕ} {m l b : ℕ} (y : Sofar q e m l b) → fits (store_of s) (beside z) y.shelf ≡ room_for s.capacity.0 s.places.0 b m z
  unfolding room_for
  sofar_fits y = rw (y.count, y.weight)

  -- the first entry's file is the lowest
  first_lowest : {q e : List ℕ} {m l b : ℕ} (y : Sofar q e m l b) → Whole q e t.key t.stamp m → 0 < m
      → lowest y.shelf ≡ at (get_or t.file (get_or q 0 0) 0) (record_at t (get_or q 0 0))
  first_lowest {q} {m = m} y w pos =
      lowest_is y.shelf _ _ y.apart (
        (y.covers.entry 0 pos).1,
        λ g k z.
            let c = y.covers.file g k z in
            subst (λ (r : Kept). NotLower r (record_at t (get_or q 0 0))) (sym c.1) (callers.lowest_held q t.key t.stamp m w.ordered (get_or t.place g 0) c.2),
      )

  -- one more is set aside
  sofar_more : (q q' e e' : List ℕ) (m l b fuel : ℕ) (y : Sofar q e m l b) → y.fuel ≡ suc fuel → 0 < m → Whole q e t.key t.stamp m
      → room_for s.capacity.0 s.places.0 b m z ≡ false → first_key t.key q ≤ limit → Removed q q' e e' t.key t.stamp m 0 (get_or q 0 0)
      → Sofar q' e' (m - 1) (first_key t.key q) (b - first_size t.size q)
  sofar_more q q' e e' m l b fuel y turns pos w full low r =
      let f : ℕ = get_or t.file (get_or q 0 0) 0 in
      let k : Kept = record_at t (get_or q 0 0) in
      let x : Shelf = set y.shelf f none in
      let there : get_or y.shelf f none ≡ kept k = (y.covers.entry 0 pos).1 in
      let lighter : bytes x + k.size ≡ 0 + bytes y.shelf = rw there at (sum_set_eq (λ r. r.size) y.shelf f none (kept_lt y.shelf _ _ there)) in
      let part : m ≤ n = y.live.part in
      let step : more_of (suc fuel) l y.shelf ≡ first f k (more_of fuel k.key x) =
      aside_more (store_of s) z limit fuel l y.shelf f k (sofar_fits y ∙ full) (first_lowest y w pos) low in
      let old : behind (with_queue q' t) n (n - m) ≡ behind (with_queue q t) n (n - m) =
      behind_same (with_queue q t) (with_queue q' t) m n (n - m) (omega arith) (λ i c d. ap (λ (p : ℕ). record { file = get_or t.file p 0; was = record_at t p }) (r.apart.past i c)) in
      let last : gone_at (with_queue q' t) (n - 1 - (n - m)) ≡ record { file = f; was = k } =
      ap (λ (i : ℕ). gone_at (with_queue q' t) i) {x = n - 1 - (n - m)} {y = m - 1} (omega arith) ∙ ap (λ (p : ℕ). record { file = get_or t.file p 0; was = record_at t p }) r.freed in
      let new : behind (with_queue q' t) n (n - (m - 1)) ≡ behind (with_queue q t) n (n - m) ++ record { file = f; was = k } ∷ [] =
      ap (behind (with_queue q' t) n) {x = n - (m - 1)} {y = suc (n - m)} (omega arith) ∙ behind_snoc (with_queue q' t) n (n - m) ∙ (λ i. old i ++ last i ∷ []) in
      record {
        live = live_queue s n m (m - 1) t q q' e e' y.live (omega arith) (removed_kept q q' e e' t.key t.stamp m n 0 pos part r) r.whole;
        shelf = x;
        covers = covers_less s t q q' e e' t.key t.stamp m y.shelf y.covers (record { whole = w; inside = pos }) r;
        apart = apart_none y.shelf f y.apart;
        count = omega (arith, fewer y.shelf f k there, y.count);
        weight = omega (arith, lighter, y.weight);
        fuel = fuel;
        enough = omega (arith, y.enough);
        same =
            ap (λ (gs : List Gone). ahead gs (more_of fuel k.key x)) new ∙ ahead_first (behind (with_queue q t) n (n - m)) f k (more_of fuel k.key x)
            ∙ ap (ahead (behind (with_queue q t) n (n - m))) (sym step ∙ ap (λ (j : ℕ). more_of j l y.shelf) (sym turns)) ∙ y.same;
      }

  some_fuel : (k m : ℕ) → 0 < m → m ≤ k → (j : ℕ) × (k ≡ suc j)
  some_fuel zero m a b = absurd (omega arith)
  some_fuel (suc j) m a b = (j, refl)

  sofar_first : Sofar t.queue entry n l₀ b₀
  unfolding behind
  sofar_first =
      record {
        live = h;
        shelf = shelf₀;
        covers = shelf_covered s n n t entry h;
        apart = apart₀;
        count = files₀;
        weight = bytes₀;
        fuel = length shelf₀;
        enough = omega (arith, files_le shelf₀);
        same = ap (λ (k : ℕ). ahead (behind t n k) all) {x = n - n} {y = 0} (omega arith);
      }

  sofar : {q e : List ℕ} {m l b : ℕ} → Pops q e m l b → Sofar q e m l b
  sofar none = sofar_first
  sofar (more {q} {q'} {e} {e'} {m} {l} {b} pop pos w full low r) =
      let y : Sofar q e m l b = sofar pop in
      let k : (j : ℕ) × (y.fuel ≡ suc j) = some_fuel y.fuel m pos y.enough in
      sofar_more q q' e e' m l b k.0 y k.1 pos w full low r

  -- ---- where it stops

  -- there is room: these are set aside
  pub record Stopped (q e : List ℕ) (m l b : ℕ) : Type 0 where
    pub live : Live s n m (with_queue q t) e
    pub low : all.low ≡ false
    pub inflation : all.inflation ≡ l
    pub gone : all.gone ≡ behind (with_queue q t) n (n - m)
    pub count : files all.shelf ≡ m
    pub weight : bytes all.shelf ≡ b

  -- with room, the method stops too, whatever fuel is left
  fits_stop : (fuel l : ℕ) (x : Shelf) → fits (store_of s) (beside z) x ≡ true → more_of fuel l x ≡ stop false l x
  unfolding aside
  fits_stop zero l x f = refl
  fits_stop (suc fuel) l x f = aside_fits (store_of s) z limit fuel l x f

  pub stopped : {q e : List ℕ} {m l b : ℕ} → Pops q e m l b → room_for s.capacity.0 s.places.0 b m z ≡ true → Stopped q e m l b
  stopped {q} {e} {m} {l} {b} pop room =
      let y : Sofar q e m l b = sofar pop in
      let end : all ≡ ahead (behind (with_queue q t) n (n - m)) (stop false l y.shelf) =
      sym y.same ∙ ap (ahead (behind (with_queue q t) n (n - m))) (fits_stop y.fuel l y.shelf (sofar_fits y ∙ room)) in
      record {
        live = y.live;
        low = ap (λ (x : Aside). x.low) end;
        inflation = ap (λ (x : Aside). x.inflation) end;
        gone = ap (λ (x : Aside). x.gone) end ∙ append-nil (behind (with_queue q t) n (n - m));
        count = ap (λ (x : Aside). files x.shelf) end ∙ y.count;
        weight = ap (λ (x : Aside). bytes x.shelf) end ∙ y.weight;
      }

  -- the newcomer would be taken itself
  pub record Taken (q e : List ℕ) (m : ℕ) : Type 0 where
    pub live : Live s n m (with_queue q t) e
    pub low : all.low ≡ true

  pub taken : {q e : List ℕ} {m l b : ℕ} → Pops q e m l b → Whole q e t.key t.stamp m → room_for s.capacity.0 s.places.0 b m z ≡ false
      → 0 < m → limit < first_key t.key q → Taken q e m
  taken {q} {e} {m} {l} {b} pop w full pos above =
      let y : Sofar q e m l b = sofar pop in
      let k : (j : ℕ) × (y.fuel ≡ suc j) = some_fuel y.fuel m pos y.enough in
      let end : more_of (suc k.0) l y.shelf ≡ stop true l y.shelf =
      aside_above (store_of s) z limit k.0 l y.shelf _ _ (sofar_fits y ∙ full) (first_lowest y w pos) above in
      record { live = y.live; low = ap (λ (x : Aside). x.low) (sym y.same) ∙ ap (λ (j : ℕ). (more_of j l y.shelf).low) k.1 ∙ ap (λ (x : Aside). x.low) end }

-- ---- what is left on the shelf is the shelf without what is set aside

left_turns : (c : method.Settings) (z limit : ℕ) → Turns c z limit (λ n l x y. y.shelf ≡ without y.gone x)
unfolding without
left_turns c z limit = record { start = λ l x. refl; fitting = λ n l x u. refl; empty = λ n l x u e. refl; above = λ n l x i r u e a. refl; onward = λ n l x i r y u e a ih. ih }

pub aside_without : (c : method.Settings) (z limit n l : ℕ) (x : Shelf) → (aside c z limit n l x).shelf ≡ without (aside c z limit n l x).gone x
aside_without c z limit n l x = by_turns c z limit _ (left_turns c z limit) n l x
