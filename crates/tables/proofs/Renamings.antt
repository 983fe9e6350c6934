-- Sound tables that stand for one shelf differ in nothing but which place a file takes and the queue's order. Assumes nothing.
use mathlib.Core.Path.{◌≡◌, refl, sym, ap, ◌∙◌, subst}
use mathlib.Core.Logic.{⊎_elim}
use Prim.Native.Nat.{ℕ, zero, suc, ◌≤◌, ◌<◌}
use native.Mathlib.Omega.{arith}
use lib.Dec.{eqb}
use lib.ListN.{get_or}
use borrow.Author.Tests.{eq-eqb, ne_eqb}
use Rattle.amounts.specs.Limits.{pick, no_place, places_most}
use Rattle.amounts.specs.declared.settings.Settings.{Settings}
use Rattle.amounts.proofs.Tests.{same, below, pick_true, pick_false}
use Rattle.queue.specs.Queue.{times}
use Rattle.queue.proofs.Totals.{Found, times_found}
use Rattle.method.specs.Shelf.{Kept, none, kept, Shelf}
use Rattle.tables.specs.Tables.{Tables, Long, record_at, slot_of, shelf_of}
use Rattle.tables.specs.Sound.{At, Occupied, Zero, Linked, Queued}
use Rattle.tables.specs.Renaming.{Renaming, Renamed}
use Rattle.tables.proofs.Shelves.{slot_none, slot_kept, shelf_at}
use Rattle.tables.proofs.SoundDecided.{occupied}

-- ---- two places exchanged

swap : ℕ → ℕ → ℕ → ℕ
swap a b x = pick (eqb x a) b (pick (eqb x b) a x)

module _ (a b : ℕ) where
  swap_first : swap a b a ≡ b
  unfolding swap
  swap_first = rw (eq-eqb a a refl)

  swap_second : swap a b b ≡ a
  unfolding swap
  swap_second = ⊎_elim (λ e. pick_true b _ (eq-eqb b a e) ∙ e) (λ ne. pick_false b _ (ne_eqb b a ne) ∙ pick_true a b (eq-eqb b b refl)) (same b a)

  swap_other : (x : ℕ) → (x ≡ a → ⊥) → (x ≡ b → ⊥) → swap a b x ≡ x
  unfolding swap
  swap_other x na nb = pick_false b _ (ne_eqb x a na) ∙ pick_false a x (ne_eqb x b nb)

  swap_twice : (x : ℕ) → swap a b (swap a b x) ≡ x
  swap_twice x = ⊎_elim
      (λ e. ap (λ (y : ℕ). swap a b (swap a b y)) e ∙ ap (swap a b) swap_first ∙ swap_second ∙ sym e)
      (λ na. ⊎_elim (λ e. ap (λ (y : ℕ). swap a b (swap a b y)) e ∙ ap (swap a b) swap_second ∙ swap_first ∙ sym e) (λ nb. ap (swap a b) (swap_other x na nb) ∙ swap_other x na nb) (same x b))
      (same x a)

  swap_inside : (n x : ℕ) → a < n → b < n → x < n → swap a b x < n
  swap_inside n x la lb lx = ⊎_elim
      (λ e. subst (λ (y : ℕ). y < n) (sym (ap (swap a b) e ∙ swap_first)) lb)
      (λ na. ⊎_elim (λ e. subst (λ (y : ℕ). y < n) (sym (ap (swap a b) e ∙ swap_second)) la) (λ nb. subst (λ (y : ℕ). y < n) (sym (swap_other x na nb)) lx) (same x b))
      (same x a)

-- a renaming, then two places exchanged
abbrev exchanged : {n : ℕ} → Renaming n → (a b : ℕ) → a < n → b < n → Renaming n
exchanged {n} m a b la lb =
    record {
      to = λ p. swap a b (m.to p);
      from = λ p. m.from (swap a b p);
      inside = λ p h. swap_inside a b n (m.to p) la lb (m.inside p h);
      inside_back = λ p h. m.inside_back (swap a b p) (swap_inside a b n p la lb h);
      there = λ p h. ap (swap a b) (m.there (swap a b p) (swap_inside a b n p la lb h)) ∙ swap_twice a b p;
      back = λ p h. ap m.from (swap_twice a b (m.to p)) ∙ m.back p h;
    }

as_it_is : (n : ℕ) → Renaming n
as_it_is n = record { to = λ p. p; from = λ p. p; inside = λ p h. h; inside_back = λ p h. h; there = λ p h. refl; back = λ p h. refl }

-- two places with one name are one place
one_name : {n : ℕ} (m : Renaming n) (p q : ℕ) → p < n → q < n → m.to p ≡ m.to q → p ≡ q
one_name m p q h k e = sym (m.back p h) ∙ ap m.from e ∙ m.back q k

-- ---- one table

-- the place of a file
abbrev place_of : Tables → ℕ → ℕ
place_of t f = get_or t.place f 0

module _ (s : Settings) (few : s.places.0 ≤ places_most) where
  module _ (t : Tables) (linked : Linked s t) where
    -- a file with a place has one that points back at it
    at_home : (f : ℕ) → f < s.catalogue.0 → (place_of t f ≡ no_place → ⊥) → At s t f (place_of t f)
    at_home f h ne = ⊎_elim (λ e. absurd (ne e)) (λ x. x) (linked.out f h)

    home_occupied : (f : ℕ) → f < s.catalogue.0 → (place_of t f ≡ no_place → ⊥) → Occupied s t (place_of t f)
    home_occupied f h ne = let x = at_home f h ne in subst (λ (g : ℕ). At s t g (place_of t f)) (sym x.file) x

    -- two files with one place are one file
    one_file : (f g : ℕ) → f < s.catalogue.0 → g < s.catalogue.0 → (place_of t f ≡ no_place → ⊥) → (place_of t g ≡ no_place → ⊥) → place_of t f ≡ place_of t g → f ≡ g
    one_file f g h k nf ng e = sym (at_home f h nf).file ∙ ap (λ (p : ℕ). get_or t.file p 0) e ∙ (at_home g k ng).file

    -- the place of an occupied place's file is a place
    no_none : (p : ℕ) → Occupied s t p → get_or t.place (get_or t.file p 0) 0 ≡ no_place → ⊥
    no_none p x e = omega (arith, x.place, x.inside)

    module _ (n : ℕ) (queued : Queued s n t) where
      -- a place that is not occupied stands nowhere in the queue
      not_held : (p : ℕ) → (Occupied s t p → ⊥) → times p t.queue n ≡ 0
      not_held p free = ⊎_elim (λ h. absurd (found (times_found p t.queue n (omega arith)))) (λ h. omega arith) (below 0 (times p t.queue n))
        where
          found : Found p t.queue n → ⊥
          found x = free (subst (Occupied s t) x.is (queued.entries x.entry x.before))

-- ---- two tables that stand for one shelf

never : {r : Kept} → none ≡ kept r → ⊥
never e = let z : ◌≡◌ {A = ℕ} 0 1 = cc in omega arith

zeros : (t : Tables) (p : ℕ) → Zero t p → record_at t p ≡ record { size = 0; cost = 0; freq = 0; key = 0; stamp = 0 }
zeros t p z = λ i. record { size = z.size i; cost = z.cost i; freq = z.freq i; key = z.key i; stamp = z.stamp i }

module _ (s : Settings) (few : s.places.0 ≤ places_most) (t u : Tables) (long : Long s.places.0 s.catalogue.0 t) (long' : Long s.places.0 s.catalogue.0 u)
    (linked : Linked s t) (linked' : Linked s u) (shelf : shelf_of s.catalogue.0 t ≡ shelf_of s.catalogue.0 u) where
  slots : (f : ℕ) → f < s.catalogue.0 → slot_of t (place_of t f) ≡ slot_of u (place_of u f)
  slots f h =
      sym (shelf_at s.catalogue.0 t f h long.place) ∙ ap (λ (x : Shelf). get_or x f none) shelf ∙ shelf_at s.catalogue.0 u f h long'.place

  -- a file has a place in both or in neither
  away : (f : ℕ) → f < s.catalogue.0 → place_of t f ≡ no_place → place_of u f ≡ no_place
  away f h e = ⊎_elim (λ x. x) (λ ne. absurd (never (sym (slot_none t _ e) ∙ slots f h ∙ slot_kept u _ ne))) (same (place_of u f) no_place)

  home : (f : ℕ) → f < s.catalogue.0 → (place_of t f ≡ no_place → ⊥) → place_of u f ≡ no_place → ⊥
  home f h ne e = never (sym (slot_none u _ e) ∙ sym (slots f h) ∙ slot_kept t _ ne)

  -- and one record
  one_record : (f : ℕ) → f < s.catalogue.0 → (place_of t f ≡ no_place → ⊥) → record_at u (place_of u f) ≡ record_at t (place_of t f)
  one_record f h ne =
      let e : kept (record_at t (place_of t f)) ≡ kept (record_at u (place_of u f)) = sym (slot_kept t _ ne) ∙ slots f h ∙ slot_kept u _ (home f h ne) in
      cc

  -- the places of the first k files are renamed as they stand in the other table
  record Follows (k : ℕ) (m : Renaming s.places.0) : Type 0 where
    follows : (f : ℕ) → f < k → (place_of t f ≡ no_place → ⊥) → m.to (place_of t f) ≡ place_of u f

  -- one file more that has a place: its name is exchanged for the right one, and no earlier file has either
  module _ (k : ℕ) (h : k < s.catalogue.0) (m : Renaming s.places.0) (w : Follows k m) (ne : place_of t k ≡ no_place → ⊥) where
    inside : place_of t k < s.places.0
    inside = (at_home s few t linked k h ne).inside

    moved : (f : ℕ) → f < suc k → (place_of t f ≡ no_place → ⊥) → swap (m.to (place_of t k)) (place_of u k) (m.to (place_of t f)) ≡ place_of u f
    moved f l nf = ⊎_elim
        (λ x. subst (λ (g : ℕ). swap (m.to (place_of t k)) (place_of u k) (m.to (place_of t g)) ≡ place_of u g) (sym x) (swap_first (m.to (place_of t k)) (place_of u k)))
        (λ x. earlier x (omega arith) (w.follows f (omega arith) nf))
        (same f k)
      where
        earlier : (f ≡ k → ⊥) → f < s.catalogue.0 → m.to (place_of t f) ≡ place_of u f → swap (m.to (place_of t k)) (place_of u k) (m.to (place_of t f)) ≡ place_of u f
        earlier x known was =
            swap_other (m.to (place_of t k)) (place_of u k) (m.to (place_of t f))
            (λ e. x (one_file s few t linked f k known h nf ne (one_name m _ _ (at_home s few t linked f known nf).inside inside e)))
            (λ e. x (one_file s few u linked' f k known h (home f known nf) (home k h ne) (sym was ∙ e)))
            ∙ was

    moves : (m' : Renaming s.places.0) × Follows (suc k) m'
    moves =
        (exchanged m (m.to (place_of t k)) (place_of u k) (m.inside _ inside) (at_home s few u linked' k h (home k h ne)).inside, record { follows = moved })

  followed : (k : ℕ) → k ≤ s.catalogue.0 → (m : Renaming s.places.0) × Follows k m
  followed zero h = (as_it_is s.places.0, record { follows = λ f l ne. absurd (omega arith) })
  followed (suc k) h = let x = followed k (omega arith) in ⊎_elim (λ e. (x.0, stays x.0 x.1 e)) (λ ne. moves k (omega arith) x.0 x.1 ne) (same (place_of t k) no_place)
    where
      stays : (m : Renaming s.places.0) → Follows k m → place_of t k ≡ no_place → Follows (suc k) m
      stays m w e = record { follows = λ f l ne. ⊎_elim (λ x. absurd (ne (ap (λ (g : ℕ). place_of t g) x ∙ e))) (λ x. w.follows f (omega arith) ne) (same f k) }

  module _ (n : ℕ) (queued : Queued s n t) (queued' : Queued s n u) where
    all : (m : Renaming s.places.0) × Follows s.catalogue.0 m
    all = followed s.catalogue.0 (omega arith)

    names : Renaming s.places.0
    names = all.0

    named : (f : ℕ) → f < s.catalogue.0 → (place_of t f ≡ no_place → ⊥) → names.to (place_of t f) ≡ place_of u f
    unfolding names
    named f h ne = all.1.follows f h ne

    -- a file's place in the one table is the name of its place in the other
    name_of : (p : ℕ) → Occupied s t p → names.to p ≡ get_or u.place (get_or t.file p 0) 0
    name_of p x = ap names.to (sym x.place) ∙ named (get_or t.file p 0) x.known (no_none s few t linked p x)

    name_occupied : (p : ℕ) → Occupied s t p → Occupied s u (names.to p)
    name_occupied p x =
        subst (Occupied s u) (sym (name_of p x)) (home_occupied s few u linked' (get_or t.file p 0) x.known (home _ x.known (no_none s few t linked p x)))

    -- the name of an unused place is unused
    name_unused : (p : ℕ) → p < s.places.0 → (Occupied s t p → ⊥) → Occupied s u (names.to p) → ⊥
    name_unused p h free x =
        let f : ℕ = get_or u.file (names.to p) 0 in
        let ne : place_of t f ≡ no_place → ⊥ = λ e. no_none s few u linked' (names.to p) x (away f x.known e) in
        let one : place_of t f ≡ p = one_name names _ _ (at_home s few t linked f x.known ne).inside h (named f x.known ne ∙ x.place) in
        free (subst (Occupied s t) one (home_occupied s few t linked f x.known ne))

    -- sound tables that stand for one shelf are the same but for a renaming of places and the queue's order
    pub renamed : Renamed s n t u
    renamed =
        record {
          long = long;
          long' = long';
          places = names;
          place =
              λ f h. ⊎_elim (λ e. away f h e ∙ sym (pick_true no_place _ (eq-eqb _ _ e))) (λ ne. sym (named f h ne) ∙ sym (pick_false no_place _ (ne_eqb _ _ ne)))
              (same (place_of t f) no_place);
          file =
              λ p h. ⊎_elim
              (λ x. ap (λ (q : ℕ). get_or u.file q 0) (name_of p x) ∙ (at_home s few u linked' _ x.known (home _ x.known (no_none s few t linked p x))).file)
              (λ free. (linked'.unused _ (names.inside p h) (name_unused p h free)).file ∙ sym (linked.unused p h free).file)
              (occupied s t p);
          kept =
              λ p h. ⊎_elim
              (λ x. ap (record_at u) (name_of p x) ∙ one_record _ x.known (no_none s few t linked p x) ∙ ap (record_at t) x.place)
              (λ free. zeros u _ (linked'.unused _ (names.inside p h) (name_unused p h free)) ∙ sym (zeros t p (linked.unused p h free)))
              (occupied s t p);
          held =
              λ p h. ⊎_elim
              (λ x. queued'.once _ (name_occupied p x) ∙ sym (queued.once p x))
              (λ free. not_held s few u linked' n queued' _ (name_unused p h free) ∙ sym (not_held s few t linked n queued p free))
              (occupied s t p);
          rest = λ i a b. queued'.rest i a b ∙ sym (queued.rest i a b);
        }
