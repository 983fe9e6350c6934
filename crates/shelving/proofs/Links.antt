-- One file's place changes: what still points at each other, and which places are occupied. Assumes nothing.
use mathlib.Core.Path.{◌≡◌, sym, ◌∙◌, subst}
use mathlib.Core.Logic.{◌⊎◌, inl, inr, ⊎_elim}
use Prim.Native.Nat.{ℕ, ◌<◌}
use lib.ListN.{get_or}
use Rattle.amounts.specs.Limits.{no_place}
use Rattle.amounts.specs.declared.settings.Settings.{Settings}
use Rattle.amounts.proofs.Tests.{same}
use Rattle.tables.specs.Tables.{Tables}
use Rattle.tables.specs.Sound.{At, Occupied, Zero, Linked}

-- the records at place k are the same
pub record SameAt (t u : Tables) (k : ℕ) : Type 0 where
  pub file : get_or u.file k 0 ≡ get_or t.file k 0
  pub size : get_or u.size k 0 ≡ get_or t.size k 0
  pub cost : get_or u.cost k 0 ≡ get_or t.cost k 0
  pub freq : get_or u.freq k 0 ≡ get_or t.freq k 0
  pub key : get_or u.key k 0 ≡ get_or t.key k 0
  pub stamp : get_or u.stamp k 0 ≡ get_or t.stamp k 0

-- only the place of file f and the record at place p may differ
pub record But (f p : ℕ) (t u : Tables) : Type 0 where
  pub places : (g : ℕ) → (g ≡ f → ⊥) → get_or u.place g 0 ≡ get_or t.place g 0
  pub records : (k : ℕ) → (k ≡ p → ⊥) → SameAt t u k

pub but_sym : (f p : ℕ) (t u : Tables) → But f p t u → But f p u t
but_sym f p t u b =
    record {
      places = λ g n. sym (b.places g n);
      records = λ k n.
          let r = b.records k n in
          record { file = sym r.file; size = sym r.size; cost = sym r.cost; freq = sym r.freq; key = sym r.key; stamp = sym r.stamp };
    }

-- so is a record of 0
pub zero_same : (t u : Tables) (k : ℕ) → SameAt t u k → Zero t k → Zero u k
zero_same t u k r z =
    record { file = r.file ∙ z.file; size = r.size ∙ z.size; cost = r.cost ∙ z.cost; freq = r.freq ∙ z.freq; key = r.key ∙ z.key; stamp = r.stamp ∙ z.stamp }

-- two files at one place are one file; two places of one file are one place
pub at_file : (s : Settings) (t : Tables) (f g p : ℕ) → At s t f p → At s t g p → f ≡ g
at_file s t f g p a b = sym a.file ∙ b.file

pub at_place : (s : Settings) (t : Tables) (f p k : ℕ) → At s t f p → At s t f k → p ≡ k
at_place s t f p k a b = sym a.place ∙ b.place

-- a place with a file is occupied
pub at_occupied : (s : Settings) (t : Tables) (f p : ℕ) → At s t f p → Occupied s t p
at_occupied s t f p a = subst (λ (g : ℕ). At s t g p) (sym a.file) a

module _ (s : Settings) (f p : ℕ) (t u : Tables) (b : But f p t u) where
  at_there : (g k : ℕ) → At s t g k → (g ≡ f → ⊥) → (k ≡ p → ⊥) → At s u g k
  at_there g k a ng nk =
      record { known = a.known; inside = a.inside; place = b.places g ng ∙ a.place; file = (b.records k nk).file ∙ a.file }

  -- where no other file has the place p, an occupied place stays so
  pub occupied_there : ((k : ℕ) → At s t f k → k ≡ p) → (k : ℕ) → Occupied s t k → (k ≡ p → ⊥) → Occupied s u k
  occupied_there only k a nk =
      at_occupied s u (get_or t.file k 0) k (at_there (get_or t.file k 0) k a (λ e. nk (only k (subst (λ (g : ℕ). At s t g k) e a))) nk)

module _ (s : Settings) (f p : ℕ) (t u : Tables) (b : But f p t u) where
  -- f has no place in t or has p, and in u the same
  module _ (only : (k : ℕ) → At s t f k → k ≡ p) (only' : (k : ℕ) → At s u f k → k ≡ p) where
    pub occupied_back : (k : ℕ) → Occupied s u k → (k ≡ p → ⊥) → Occupied s t k
    occupied_back k a nk = occupied_there s f p u t (but_sym f p t u b) only' k a nk

    pub linked_there : Linked s t → ((get_or u.place f 0 ≡ no_place) ⊎ At s u f (get_or u.place f 0)) → ((g : ℕ) → At s t g p → g ≡ f)
        → (p < s.places.0 → (Occupied s u p → ⊥) → Zero u p) → Linked s u
    linked_there l here mine at_p =
        record {
          out = λ g h. ⊎_elim
              (λ e. subst (λ (x : ℕ). (get_or u.place x 0 ≡ no_place) ⊎ At s u x (get_or u.place x 0)) (sym e) here)
              (λ ne. ⊎_elim
              (λ e. inl (b.places g ne ∙ e))
              (λ a. inr (subst (At s u g) (sym (b.places g ne)) (at_there s f p t u b g (get_or t.place g 0) a ne (λ e. ne (mine g (subst (At s t g) e a))))))
              (l.out g h))
              (same g f);
          unused = λ k h no. ⊎_elim
              (λ e. subst (Zero u) (sym e) (at_p (subst (λ (x : ℕ). x < s.places.0) e h) (λ o. no (subst (Occupied s u) (sym e) o))))
              (λ ne. zero_same t u k (b.records k ne) (l.unused k h (λ o. no (occupied_there s f p t u b only k o ne))))
              (same k p);
        }
