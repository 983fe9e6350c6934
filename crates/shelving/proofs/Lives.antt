-- What keeps `Live`: a queue rearranged, a file dropped from behind the queue, a file kept at a free place. Assumes nothing.
use mathlib.Core.Path.{◌≡◌, refl, sym, ap, ◌∙◌, subst}
use mathlib.Core.Logic.{◌⊎◌, inl, inr, ⊎_elim}
use mathlib.Core.List.{List}
use Prim.Native.Nat.{ℕ, zero, suc, ◌+◌, ◌-◌, ◌≤◌, ◌<◌}
use native.Mathlib.Omega.{arith}
use lib.ListN.{length, get_or}
use Rattle.amounts.specs.Limits.{no_place}
use Rattle.amounts.specs.declared.settings.Settings.{Settings}
use Rattle.amounts.proofs.Tests.{same, below}
use Rattle.queue.specs.Queue.{total, is, times, Whole, Apart, Removed, Inserted}
use Rattle.queue.specs.Moves.{Rearranged}
use Rattle.queue.proofs.Totals.{total_last, total_more, total_prefix, total_same, times_at, times_found, times_none, Found, is_same, is_other}
use Rattle.tables.specs.Tables.{Tables, Long}
use Rattle.tables.specs.Sound.{At, Occupied, Zero, Linked}
use Rattle.shelving.specs.Live.{Live, Stack}
use Rattle.shelving.specs.Evicting.{with_queue}
use Rattle.shelving.proofs.Links.{SameAt, But, zero_same, at_file, at_place, at_occupied, occupied_there, occupied_back, linked_there}

-- ---- what is held among the first n entries, from what is held among the first m

total_past : (f : ℕ → ℕ) (q r : List ℕ) (m n : ℕ) → m ≤ n → ((i : ℕ) → m ≤ i → get_or r i 0 ≡ get_or q i 0) → total f r m ≡ total f q m → total f r n ≡ total f q n
unfolding total
total_past f q r m zero h p e = refl
total_past f q r m (suc n) h p e =
    ⊎_elim
    (λ g. let c : total f r n ≡ total f q n = total_past f q r m n (omega arith) p e in let d : get_or r n 0 ≡ get_or q n 0 = p n (omega arith) in rw (c, d))
    (λ g. let c : m ≡ suc n = omega arith in subst (λ (k : ℕ). total f r k ≡ total f q k) c e)
    (below m (suc n))

-- what the first n entries of r hold, those of q hold
pub held_found : (q r : List ℕ) (n : ℕ) → ((f : ℕ → ℕ) → total f r n ≡ total f q n) → (i : ℕ) → i < n → Found (get_or r i 0) q n
held_found q r n h i b = times_found (get_or r i 0) q n (omega (arith, times_at r i n b, h (is (get_or r i 0))))

-- what stands at no entry is not held
pub unheld : (p : ℕ) (q : List ℕ) (n : ℕ) → (Found p q n → ⊥) → times p q n ≡ 0
unheld p q n h = ⊎_elim (λ e. e) (λ ne. absurd (h (times_found p q n (omega arith)))) (same (times p q n) 0)

-- ---- the same files at the same places, and the same places in the queue

module _ (s : Settings) (n m : ℕ) (t u : Tables) (entry entry' : List ℕ) (h : Live s n m t entry)
    (places : u.place ≡ t.place) (files : u.file ≡ t.file) (records : (k : ℕ) → (Occupied s t k → ⊥) → SameAt t u k) where
  at_same : (f p : ℕ) → At s t f p → At s u f p
  at_same f p a = record { known = a.known; inside = a.inside; place = rw places a.place; file = rw files a.file }

  at_back : (f p : ℕ) → At s u f p → At s t f p
  at_back f p a = record { known = a.known; inside = a.inside; place = rw places at a.place; file = rw files at a.file }

  occ_same : (p : ℕ) → Occupied s t p → Occupied s u p
  occ_same p a = at_occupied s u _ p (at_same _ p a)

  occ_back : (p : ℕ) → Occupied s u p → Occupied s t p
  occ_back p a = at_occupied s t _ p (at_back _ p a)

  linked_same : Linked s u
  linked_same =
      record {
        out = λ f b. ⊎_elim (λ e. inl (rw places e)) (λ a. inr (at_same f _ (subst (At s t f) (ap (λ (l : List ℕ). get_or l f 0) (sym places)) a))) (h.linked.out f b);
        unused = λ p b no. zero_same t u p (records p (λ o. no (occ_same p o))) (h.linked.unused p b (λ o. no (occ_same p o)));
      }

  pub live_same : (m' : ℕ) → m' ≤ n → Long s.places.0 s.catalogue.0 u → length entry' ≡ length entry
      → ((f : ℕ → ℕ) → total f u.queue n ≡ total f t.queue n) → ((i : ℕ) → n ≤ i → get_or u.queue i 0 ≡ get_or t.queue i 0)
      → Whole u.queue entry' u.key u.stamp m' → Live s n m' u entry'
  live_same m' part long e held past whole =
      record {
        places = h.places;
        catalogue = h.catalogue;
        long = long;
        entry_long = omega (arith, h.entry_long);
        few = h.few;
        part = part;
        linked = linked_same;
        queued =
            record {
              entries = λ i b.
                  let w = held_found t.queue u.queue n held i b in
                  occ_same _ (subst (Occupied s t) w.is (h.queued.entries w.entry w.before));
              once = λ p o. held (is p) ∙ h.queued.once p (occ_back p o);
              rest = λ i a b. past i a ∙ h.queued.rest i a b;
            };
        whole = whole;
      }

  pub stack_same : (free : List ℕ) → Stack s n t free → Stack s n u free
  stack_same free f =
      record {
        long = f.long;
        spare = record { unused = λ i b. ((f.spare.unused i b).0, λ o. (f.spare.unused i b).1 (occ_back _ o)); apart = f.spare.apart };
      }

-- ---- the queue taken from and put back into: the places that it holds, with those behind it, stay

-- what is as it was apart from the first m entries is so apart from the first n
apart_wider : {q q' e e' : List ℕ} {m k : ℕ} (n : ℕ) → m ≤ n → k ≤ n → Apart q q' e e' m k → Apart q q' e e' n n
apart_wider {q} {q'} {m = m} n h g a =
    record {
      long = a.long;
      entries = a.entries;
      past = λ i b. a.past i (omega arith);
      unheld = λ p z. a.unheld p (omega (arith, total_prefix (is p) q' m n h));
    }

pub removed_kept : (q q' e e' keys stamps : List ℕ) (m n at : ℕ) → 0 < m → m ≤ n → Removed q q' e e' keys stamps m at (get_or q at 0) → Rearranged q q' e e' n
removed_kept q q' e e' keys stamps m n at pos h r =
    record {
      held = λ f. total_past f q q' m n h r.apart.past (total_last f q' m pos ∙ ap (λ (v : ℕ). total f q' (m - 1) + f v) r.freed ∙ r.held f);
      apart = apart_wider n (omega arith) h r.apart;
    }

pub inserted_kept : (q q' e e' keys stamps : List ℕ) (m n : ℕ) → m < n → Inserted q q' e e' keys stamps m (get_or q m 0) → Rearranged q q' e e' n
inserted_kept q q' e e' keys stamps m n h r =
    record {
      held = λ f. total_past f q q' (m + 1) n (omega arith) r.apart.past (r.held f ∙ sym (total_more f q m));
      apart = apart_wider n (omega arith) (omega arith) r.apart;
    }

-- the same tables with a queue of the same places, of which other entries may be set aside
pub live_queue : (s : Settings) (n m m' : ℕ) (t : Tables) (q q' e e' : List ℕ) → Live s n m (with_queue q t) e → m' ≤ n → Rearranged q q' e e' n
    → Whole q' e' t.key t.stamp m' → Live s n m' (with_queue q' t) e'
live_queue s n m m' t q q' e e' h part k w =
    let l = h.long in
    live_same s n m (with_queue q t) (with_queue q' t) e e' h refl refl (λ p _. record { file = refl; size = refl; cost = refl; freq = refl; key = refl; stamp = refl }) m' part
    (record { place = l.place; file = l.file; size = l.size; cost = l.cost; freq = l.freq; key = l.key; stamp = l.stamp; queue = omega (arith, l.queue, k.apart.long) })
    k.apart.entries k.held k.apart.past w

-- ---- a file dropped: the one at the last entry behind the queue

-- place p of file f is left, and the queue's last entry with it
pub record Vacated (s : Settings) (n f p : ℕ) (t u : Tables) : Type 0 where
  pub but : But f p t u
  pub gone : get_or u.place f 0 ≡ no_place
  pub zero : Zero u p
  pub last : get_or u.queue (n - 1) 0 ≡ 0
  pub past : (i : ℕ) → (i ≡ n - 1 → ⊥) → get_or u.queue i 0 ≡ get_or t.queue i 0

module _ (s : Settings) (n m f p : ℕ) (t u : Tables) (entry : List ℕ) (h : Live s n m t entry) (room : m < n)
    (a : At s t f p) (end : get_or t.queue (n - 1) 0 ≡ p) (d : Vacated s n f p t u) where
  -- the place is held nowhere else
  once_last : times p t.queue (n - 1) ≡ 0
  once_last =
      let o : times p t.queue n ≡ 1 = h.queued.once p (at_occupied s t f p a) in
      omega (arith, total_last (is p) t.queue n (omega arith), is_same p (get_or t.queue (n - 1) 0) (sym end))

  no_place_lem : (k : ℕ) → At s u f k → k ≡ p
  no_place_lem k b = absurd (omega (arith, b.place, b.inside, d.gone, h.places))

  only : (k : ℕ) → At s t f k → k ≡ p
  only k b = at_place s t f k p b a

  not_p : (Occupied s u p → ⊥)
  not_p o =
      let g : ℕ = get_or u.file p 0 in
      ⊎_elim
      (λ e. omega (arith, o.place, ap (λ (g : ℕ). get_or u.place g 0) e, d.gone, o.inside, h.places))
      (λ ne.
      let q : get_or t.place g 0 ≡ p = sym (d.but.places g ne) ∙ o.place in
      ⊎_elim (λ e. omega (arith, o.inside, h.places)) (λ b. ne (at_file s t g f p (subst (At s t g) q b) a)) (h.linked.out g o.known))
      (same g f)

  dropped_total : (g : ℕ → ℕ) → total g u.queue (n - 1) ≡ total g t.queue (n - 1)
  dropped_total g = total_same g g u.queue t.queue (n - 1) (λ i b. ap g (d.past i (omega arith)))

  -- an entry before the last holds another place
  pub before_last : (i : ℕ) → i < n - 1 → get_or t.queue i 0 ≡ p → ⊥
  before_last i b e = times_none p t.queue i (n - 1) once_last b e

  -- the place is free now, and on top of the stack
  pub stack_drop : (free free' : List ℕ) → Stack s n t free → length free' ≡ length free → get_or free' (s.places.0 - n) 0 ≡ p
      → ((i : ℕ) → (i ≡ s.places.0 - n → ⊥) → get_or free' i 0 ≡ get_or free i 0) → Stack s (n - 1) u free'
  stack_drop free free' k long top rest =
      let end : ℕ = s.places.0 - n in
      record { long = omega (arith, k.long); spare = record { unused = λ i b. unused i b (same i end); apart = λ i j b c. apart i j b c (same i end) (same j end) } }
    where
      -- what was free before is not p
      old : (i : ℕ) → i + n < s.places.0 → get_or free i 0 ≡ p → ⊥
      old i b e = (k.spare.unused i b).1 (subst (Occupied s t) (sym e) (at_occupied s t f p a))

      unused : (i : ℕ) → i + (n - 1) < s.places.0 → (i ≡ s.places.0 - n) ⊎ (i ≡ s.places.0 - n → ⊥) → (get_or free' i 0 < s.places.0) × (Occupied s u (get_or free' i 0) → ⊥)
      unused i b (inl e) =
          let q : get_or free' i 0 ≡ p = ap (λ (k : ℕ). get_or free' k 0) e ∙ top in
          (omega (arith, q, a.inside), λ o. not_p (subst (Occupied s u) q o))
      unused i b (inr ne) =
          let q : get_or free' i 0 ≡ get_or free i 0 = rest i ne in
          let c : i + n < s.places.0 = omega (arith, h.few) in (
            omega (arith, q, (k.spare.unused i c).0),
            λ o. (k.spare.unused i c).1 (subst (Occupied s t) q (occupied_back s f p t u d.but only no_place_lem (get_or free' i 0) o (λ e. old i c (sym q ∙ e)))),
          )

      apart : (i j : ℕ) → i + (n - 1) < s.places.0 → j + (n - 1) < s.places.0 → (i ≡ s.places.0 - n) ⊎ (i ≡ s.places.0 - n → ⊥) → (j ≡ s.places.0 - n) ⊎ (j ≡ s.places.0 - n → ⊥)
          → get_or free' i 0 ≡ get_or free' j 0 → i ≡ j
      apart i j b c (inl x) (inl y) e = omega arith
      apart i j b c (inl x) (inr y) e =
          absurd (old j (omega (arith, h.few)) (sym (rest j y) ∙ sym e ∙ ap (λ (k : ℕ). get_or free' k 0) x ∙ top))
      apart i j b c (inr x) (inl y) e =
          absurd (old i (omega (arith, h.few)) (sym (rest i x) ∙ e ∙ ap (λ (k : ℕ). get_or free' k 0) y ∙ top))
      apart i j b c (inr x) (inr y) e = k.spare.apart i j (omega (arith, h.few)) (omega (arith, h.few)) (sym (rest i x) ∙ e ∙ rest j y)

  pub live_drop : Long s.places.0 s.catalogue.0 u → Whole u.queue entry u.key u.stamp m → Live s (n - 1) m u entry
  live_drop long whole =
      record {
        places = h.places;
        catalogue = h.catalogue;
        long = long;
        entry_long = h.entry_long;
        few = omega (arith, h.few);
        part = omega arith;
        linked = linked_there s f p t u d.but only no_place_lem h.linked (inl d.gone) (λ g b. at_file s t g f p b a) (λ _ _. d.zero);
        queued =
            record {
              entries = λ i b.
                  subst (Occupied s u) (sym (d.past i (omega arith)))
                  (occupied_there s f p t u d.but only (get_or t.queue i 0) (h.queued.entries i (omega arith)) (before_last i b));
              once = λ k o.
                  let ne : k ≡ p → ⊥ = λ q. not_p (subst (Occupied s u) q o) in
                  let w : times k t.queue n ≡ 1 = h.queued.once k (occupied_back s f p t u d.but only no_place_lem k o ne) in
                  let l : times k t.queue n ≡ times k t.queue (n - 1) + is k (get_or t.queue (n - 1) 0) = total_last (is k) t.queue n (omega arith) in
                  let z : is k (get_or t.queue (n - 1) 0) ≡ 0 = is_other k (get_or t.queue (n - 1) 0) (λ q. ne (q ∙ end)) in
                  dropped_total (is k) ∙ omega arith;
              rest = λ i b c. ⊎_elim
                  (λ q. ap (λ (k : ℕ). get_or u.queue k 0) q ∙ d.last)
                  (λ ne. d.past i ne ∙ h.queued.rest i (omega arith) c)
                  (same i (n - 1));
            };
        whole = whole;
      }

-- ---- a file kept at the free place on top of the stack

module _ (s : Settings) (n f p : ℕ) (t u : Tables) (entry entry' free : List ℕ) (h : Live s n n t entry) (st : Stack s n t free) (room : n < s.places.0)
    (out : get_or t.place f 0 ≡ no_place) (top : get_or free (s.places.0 - n - 1) 0 ≡ p) (but : But f p t u) (a : At s u f p)
    (held : (g : ℕ → ℕ) → total g u.queue (n + 1) ≡ total g t.queue n + g p) (past : (i : ℕ) → n + 1 ≤ i → get_or u.queue i 0 ≡ get_or t.queue i 0) where
  -- the place is free, and f has none
  pub place_free : Occupied s t p → ⊥
  place_free o = (st.spare.unused (s.places.0 - n - 1) (omega arith)).1 (subst (Occupied s t) (sym top) o)

  pub place_unheld : times p t.queue n ≡ 0
  place_unheld = unheld p t.queue n (λ w. place_free (subst (Occupied s t) w.is (h.queued.entries w.entry w.before)))

  nowhere : (k : ℕ) → At s t f k → k ≡ p
  nowhere k b = absurd (omega (arith, b.place, b.inside, out, h.places))

  here : (k : ℕ) → At s u f k → k ≡ p
  here k b = at_place s u f k p b a

  stays : (k : ℕ) → Occupied s t k → Occupied s u k
  stays k o = occupied_there s f p t u but nowhere k o (λ e. place_free (subst (Occupied s t) e o))

  was : (k : ℕ) → Occupied s u k → (k ≡ p → ⊥) → Occupied s t k
  was k o ne = occupied_back s f p t u but nowhere here k o ne

  kept_entry : (i : ℕ) → i < n + 1 → Occupied s u (get_or u.queue i 0)
  kept_entry i b = ⊎_elim
      (λ e. subst (Occupied s u) (sym e) (at_occupied s u f p a))
      (λ ne.
      let k : ℕ = get_or u.queue i 0 in
      let w = times_found k t.queue n (omega (arith, times_at u.queue i (n + 1) b, held (is k), is_other k p ne)) in
      stays k (subst (Occupied s t) w.is (h.queued.entries w.entry w.before)))
      (same (get_or u.queue i 0) p)

  kept_once : (k : ℕ) → Occupied s u k → times k u.queue (n + 1) ≡ 1
  kept_once k o = ⊎_elim
      (λ e. subst (λ (x : ℕ). times x u.queue (n + 1) ≡ 1) (sym e) (held (is p) ∙ omega (arith, place_unheld, is_same p p refl)))
      (λ ne. held (is k) ∙ omega (arith, h.queued.once k (was k o ne), is_other k p ne))
      (same k p)

  pub stack_keep : Stack s (n + 1) u free
  stack_keep =
      record {
        long = st.long;
        spare = record {
          unused = λ i b.
              let c : i + n < s.places.0 = omega arith in
              let ne : get_or free i 0 ≡ p → ⊥ = λ e. omega (arith, st.spare.apart i (s.places.0 - n - 1) c (omega arith) (e ∙ sym top)) in
              ((st.spare.unused i c).0, λ o. (st.spare.unused i c).1 (was (get_or free i 0) o ne));
          apart = λ i j b c. st.spare.apart i j (omega arith) (omega arith);
        };
      }

  pub live_keep : Long s.places.0 s.catalogue.0 u → length entry' ≡ length entry → Whole u.queue entry' u.key u.stamp (n + 1) → Live s (n + 1) (n + 1) u entry'
  live_keep long e whole =
      record {
        places = h.places;
        catalogue = h.catalogue;
        long = long;
        entry_long = omega (arith, h.entry_long);
        few = omega arith;
        part = omega arith;
        linked =
            linked_there s f p t u but nowhere here h.linked (inr (subst (At s u f) (sym a.place) a)) (λ g b. absurd (place_free (at_occupied s t g p b)))
            (λ _ no. absurd (no (at_occupied s u f p a)));
        queued = record { entries = kept_entry; once = kept_once; rest = λ i b c. past i b ∙ h.queued.rest i (omega arith) c };
        whole = whole;
      }
