-- What is said of tables hangs on the lists that it reads: what a pass says of some of them holds of all tables that have them. Assumes nothing.
use mathlib.Core.Path.{◌≡◌, refl, sym, ap, ◌∙◌, subst}
use mathlib.Core.Logic.{inl, inr, ⊎_elim}
use mathlib.Core.List.{List, []}
use Prim.Native.Nat.{ℕ, ◌+◌, ◌<◌}
use native.Mathlib.Omega.{arith}
use lib.ListN.{get_or}
use Rattle.amounts.specs.declared.settings.Settings.{Settings}
use Rattle.tables.specs.Tables.{Tables, tables}
use Rattle.tables.specs.Sound.{At, Occupied, Zero, Queued, Spare}
use Rattle.tables.specs.declared.tally.Tally.{Tally}
use Rattle.weighing.specs.Weighing.{Covered, Filed}
use Rattle.weighing.proofs.Shelving.{balanced_as}
use Rattle.judge.specs.Passes.{Index, Used}

-- ---- places and file numbers that point at each other: the two tables of links

module _ {s : Settings} {t u : Tables} (a : t.place ≡ u.place) (b : t.file ≡ u.file) where
  pub at_as : {f p : ℕ} → At s t f p → At s u f p
  at_as {f} {p} o =
      record { known = o.known; inside = o.inside; place = ap (λ (l : List ℕ). get_or l f 0) (sym a) ∙ o.place; file = ap (λ (l : List ℕ). get_or l p 0) (sym b) ∙ o.file }

  pub occupied_as : {p : ℕ} → Occupied s t p → Occupied s u p
  occupied_as {p} o = subst (λ (f : ℕ). At s u f p) (ap (λ (l : List ℕ). get_or l p 0) b) (at_as o)

-- ---- the queue's entries: the links and the queue

module _ (t : Tables) where
  abbrev pub entered : Tables
  entered = tables t.place t.file [] [] [] [] [] t.queue

  pub queued_part : {s : Settings} {n : ℕ} → Queued s n t → Queued s n entered
  queued_part q = record { entries = λ i l. occupied_as refl refl (q.entries i l); once = λ p o. q.once p (occupied_as refl refl o); rest = q.rest }

  pub index_all : {s : Settings} {n : ℕ} {entry : List ℕ} → Index s n entered entry → Index s n t entry
  index_all x = record { entries = λ i l. occupied_as refl refl (x.entries i l); indexed = x.indexed; notes = x.notes }

-- ---- the record at a place: neither the table by file number nor the queue

pub zero_as : {t : Tables} {place queue : List ℕ} {p : ℕ} → Zero t p → Zero (tables place t.file t.size t.cost t.freq t.key t.stamp queue) p
zero_as z = record { file = z.file; size = z.size; cost = z.cost; freq = z.freq; key = z.key; stamp = z.stamp }

-- it can be read where it is inside the tables
pub one_covered : {places catalogue p : ℕ} {t : Tables} → Covered places catalogue t → p < places → Covered (p + 1) 0 (tables [] t.file t.size t.cost t.freq t.key t.stamp [])
one_covered x h =
    let l = x.long in
    record {
      queue = x.queue;
      long = record {
        place = omega arith;
        file = omega (arith, l.file);
        size = omega (arith, l.size);
        cost = omega (arith, l.cost);
        freq = omega (arith, l.freq);
        key = omega (arith, l.key);
        stamp = omega (arith, l.stamp);
        queue = omega (arith, l.queue);
      };
    }

-- ---- the places and the files: all lists but the queue

module _ (t : Tables) (queue : List ℕ) where
  -- t with another queue
  abbrev pub requeued : Tables
  requeued = tables t.place t.file t.size t.cost t.freq t.key t.stamp queue

  pub used_requeued : {s : Settings} {entry : List ℕ} → Used s t entry → Used s requeued entry
  used_requeued u = record { indexed = λ p l o. u.indexed p l (occupied_as refl refl o); unused = λ p l ne. zero_as (u.unused p l (λ o. ne (occupied_as refl refl o))) }

  pub spare_requeued : {s : Settings} {n : ℕ} {free : List ℕ} → Spare s n t free → Spare s n requeued free
  spare_requeued x = record { unused = λ i l. let u = x.unused i l in (u.0, λ o. u.1 (occupied_as refl refl o)); apart = x.apart }

  pub filed_requeued : {a : Tally} → Filed a t → Filed a requeued
  filed_requeued x = record { lawful = λ f l. ⊎_elim (λ e. inl e) (λ o. inr (at_as refl refl o.0, o.1)) (x.lawful f l); balanced = balanced_as _ _ _ _ refl refl refl refl x.balanced }
