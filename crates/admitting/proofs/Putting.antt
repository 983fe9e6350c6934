-- A file's record put at a place: what is new, and what is as it was. Assumes nothing.
use mathlib.Core.Path.{◌≡◌, refl, ap, ◌∙◌}
use mathlib.Core.List.{List}
use Prim.Native.Nat.{ℕ, ◌≤◌, ◌<◌}
use native.Mathlib.Omega.{arith}
use lib.ListN.{length, get_or, set, drop, length-set}
use lib.Seq.{get_or-set_same, get_or-set_other, drop-set-lt}
use Rattle.amounts.specs.Limits.{places_most}
use Rattle.amounts.specs.declared.settings.Settings.{Settings}
use Rattle.method.specs.Shelf.{Kept, kept}
use Rattle.tables.specs.Tables.{Tables, Long, record_at, shelf_of}
use Rattle.tables.specs.Sound.{At}
use Rattle.tables.proofs.Lengths.{tables_eq}
use Rattle.tables.proofs.Shelves.{shelf_change, slot_kept}
use Rattle.shelving.specs.Evicting.{with_queue}
use Rattle.shelving.specs.Records.{put_at}
use Rattle.shelving.proofs.Links.{SameAt, But}
use Rattle.admitting.specs.Deciding.{beyond_of}

-- file f kept at place p, and the queue q
abbrev pub kept_at : ℕ → ℕ → Kept → Tables → List ℕ → Tables
kept_at p f k t q = with_queue q (put_at p f k t)

-- what the tables t become by it
pub record Put (s : Settings) (p f : ℕ) (k : Kept) (t : Tables) (q : List ℕ) : Type 0 where
  pub at : At s (kept_at p f k t q) f p
  pub but : But f p t (kept_at p f k t q)
  -- one slot of the shelf changes, where no other file had the place
  pub shelf : ((j : ℕ) → j < s.catalogue.0 → (j ≡ f → ⊥) → get_or t.place j 0 ≡ p → ⊥) → shelf_of s.catalogue.0 (kept_at p f k t q) ≡ set (shelf_of s.catalogue.0 t) f (kept k)
  pub long : length q ≡ length t.queue → Long s.places.0 s.catalogue.0 (kept_at p f k t q)
  pub past : drop s.places.0 q ≡ drop s.places.0 t.queue → beyond_of s (kept_at p f k t q) ≡ beyond_of s t

pub put : (s : Settings) (p f : ℕ) (k : Kept) (t : Tables) (q : List ℕ) → s.places.0 ≤ places_most → Long s.places.0 s.catalogue.0 t → p < s.places.0 → f < s.catalogue.0
    → Put s p f k t q
put s p f k t q few long inside known =
    let u : Tables = kept_at p f k t q in
    let same : (l : List ℕ) (v : ℕ) → drop s.places.0 (set l p v) ≡ drop s.places.0 l = λ l v. drop-set-lt s.places.0 l p v inside in
    let other : (j : ℕ) → (j ≡ p → ⊥) → SameAt t u j =
    λ j ne.
    record {
      file = get_or-set_other t.file p j f 0 ne;
      size = get_or-set_other t.size p j k.size 0 ne;
      cost = get_or-set_other t.cost p j k.cost 0 ne;
      freq = get_or-set_other t.freq p j k.freq 0 ne;
      key = get_or-set_other t.key p j k.key 0 ne;
      stamp = get_or-set_other t.stamp p j k.stamp 0 ne;
    } in
    let here : record_at u p ≡ k =
    λ i. record {
      size = get_or-set_same t.size p k.size 0 (omega (arith, long.size)) i;
      cost = get_or-set_same t.cost p k.cost 0 (omega (arith, long.cost)) i;
      freq = get_or-set_same t.freq p k.freq 0 (omega (arith, long.freq)) i;
      key = get_or-set_same t.key p k.key 0 (omega (arith, long.key)) i;
      stamp = get_or-set_same t.stamp p k.stamp 0 (omega (arith, long.stamp)) i;
    } in
    record {
      at =
          record {
            known = known;
            inside = inside;
            place = get_or-set_same t.place f p 0 (omega (arith, long.place));
            file = get_or-set_same t.file p f 0 (omega (arith, long.file));
          };
      but = record { places = λ g ne. get_or-set_other t.place f g p 0 ne; records = other };
      shelf = λ own.
          shelf_change s.catalogue.0 t u f p p known long.place refl
          (λ j ne. let x = other j ne in λ i. record { size = x.size i; cost = x.cost i; freq = x.freq i; key = x.key i; stamp = x.stamp i }) own
          ∙ ap (set (shelf_of s.catalogue.0 t) f) (slot_kept u p (λ z. omega arith) ∙ ap kept here);
      long = λ e.
          record {
            place = simp length-set long.place;
            file = simp length-set long.file;
            size = simp length-set long.size;
            cost = simp length-set long.cost;
            freq = simp length-set long.freq;
            key = simp length-set long.key;
            stamp = simp length-set long.stamp;
            queue = omega (arith, long.queue, e);
          };
      past = λ e.
          tables_eq (drop-set-lt s.catalogue.0 t.place f p known) (same t.file f) (same t.size k.size) (same t.cost k.cost) (same t.freq k.freq)
          (same t.key k.key) (same t.stamp k.stamp) e;
    }
