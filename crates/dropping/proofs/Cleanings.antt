-- The old copy of a file, by its place and its size: none, one of the size asked for, or one that goes. Assumes nothing.
use mathlib.Core.Path.{◌≡◌, refl, sym, ap, ◌∙◌, subst}
use mathlib.Core.Logic.{⊎_elim}
use mathlib.Core.List.{List}
use Prim.Native.Nat.{ℕ, ◌+◌, ◌≤◌, ◌<◌}
use native.Mathlib.Omega.{arith}
use lib.ListN.{length, get_or, set}
use borrow.Author.Tests.{eq-eqb, ne_eqb}
use Rattle.amounts.specs.Limits.{no_place, catalogue_most}
use Rattle.amounts.specs.declared.settings.Settings.{Settings}
use Rattle.method.specs.Shelf.{Slot, none, kept, Shelf}
use Rattle.method.specs.Method.{old_copy}
use Rattle.method.specs.Events.{event}
use Rattle.tables.specs.Tables.{Tables, record_at, slot_of, shelf_of}
use Rattle.tables.specs.Sound.{At}
use Rattle.tables.specs.declared.tally.Tally.{Tally}
use Rattle.tables.proofs.Shelves.{shelf_at, slot_none, slot_kept}
use Rattle.shelving.proofs.Links.{at_occupied}
use Rattle.shelving.proofs.Runnings as runnings
use Rattle.dropping.specs.Dropping.{Standing, CopyGone}
use Rattle.dropping.specs.Cleaning.{old_in, Cleanable, Cleans}
use Rattle.dropping.proofs.Droppings.{some}

module _ {a : Tally} {f : ℕ} {t : Tables} {entry free events : List ℕ} {at : ℕ} (h : Cleanable a f t entry free events at) where
  abbrev s : Settings
  s = a.settings

  abbrev shelf : Shelf
  shelf = shelf_of a.settings.catalogue.0 t

  abbrev home : ℕ
  home = get_or t.place f 0

  slot : get_or shelf f none ≡ slot_of t home
  slot = shelf_at s.catalogue.0 t f h.known h.running.long.place

  -- ---- nothing is dropped

  still : (size : ℕ) → old_in a f size t ≡ none → Cleans a f (old_in a f size t) t events at (record { tally = a; due = at }) t entry free events
  still size e =
      subst (λ (x : Slot). Cleans a f x t events at (record { tally = a; due = at }) t entry free events) (sym e)
      (record { tally = refl; shelf = refl; written = refl; due = omega arith; running = h.running; past = refl })

  pub still_out : (size : ℕ) → home ≡ no_place → Cleans a f (old_in a f size t) t events at (record { tally = a; due = at }) t entry free events
  still_out size out = still size (ap (old_copy size) (slot ∙ slot_none t home out))

  -- ---- a copy is kept

  module _ (in-store : home ≡ no_place → ⊥) where
    at_home : At s t f home
    at_home = ⊎_elim (λ z. absurd (in-store z)) (λ x. x) (h.running.sound.linked.out f h.known)

    pub inside : home < s.places.0
    inside = at_home.inside

    kept_home : get_or shelf f none ≡ kept (record_at t home)
    kept_home = slot ∙ slot_kept t home in-store

    pub still_same : {p size : ℕ} → p ≡ home → get_or t.size p 0 ≡ size → Cleans a f (old_in a f size t) t events at (record { tally = a; due = at }) t entry free events
    still_same {p} {size} e same =
        let z : get_or t.size home 0 ≡ size = ap (λ (k : ℕ). get_or t.size k 0) (sym e) ∙ same in
        still size (rw (kept_home, eq-eqb (get_or t.size home 0) size z))

    pub standing : {p : ℕ} → p ≡ home → Standing a p t entry free
    standing {p} e = record { running = h.running; occupied = at_occupied s t f p (subst (At s t f) (sym e) at_home) }

    -- there is room for the event, since a file is kept
    pub space : at + 1 ≤ length events
    space = omega (arith, h.room, some (standing refl))

    pub known : f < catalogue_most
    known = omega (arith, h.known, (runnings.live h.running).catalogue)

    -- ---- and it is of another size

    pub drops : {p size : ℕ} → p ≡ home → (get_or t.size p 0 ≡ size → ⊥) → {b : Tally} {u : Tables} {entry' free' : List ℕ} {v : ℕ} → v ≡ event 6 f → CopyGone a p t b u entry' free'
        → Cleans a f (old_in a f size t) t events at (record { tally = b; due = at + 1 }) u entry' free' (set events at v)
    drops {p} {size} e ne {b} {u} {entry'} {free'} {v} is-v g =
        let old : old_in a f size t ≡ kept (record_at t p) =
        rw (kept_home, ne_eqb (get_or t.size home 0) size (λ z. ne (ap (λ (k : ℕ). get_or t.size k 0) e ∙ z))) (ap (λ (k : ℕ). kept (record_at t k)) (sym e)) in
        let file : get_or t.file p 0 ≡ f = ap (λ (k : ℕ). get_or t.file k 0) e ∙ at_home.file in
        subst (λ (x : Slot). Cleans a f x t events at (record { tally = b; due = at + 1 }) u entry' free' (set events at v)) (sym old)
        (record {
          tally = g.tally;
          shelf = g.shelf ∙ ap (λ (k : ℕ). set shelf k none) file;
          written = ap (set events at) is-v;
          due = refl;
          running = g.running;
          past = g.past;
        })
