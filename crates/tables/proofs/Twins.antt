-- The promise of a fresh start admits one answer, and what it gives hangs on the settings alone. Assumes nothing.
use mathlib.Core.Path.{◌≡◌, refl, sym, ap, ◌∙◌, subst}
use Rattle.std.proofs.Common.{Result, Ok, Err}
use mathlib.Core.Bool.{Bool, true, false}
use mathlib.Core.List.{List}
use Prim.Native.Nat.{ℕ}
use lib.ListN.{get_or, take, drop, replicate}
use Rattle.amounts.specs.Limits.{pick, no_place}
use Rattle.amounts.specs.Settings.{in_range}
use Rattle.amounts.specs.declared.settings.Settings.{Settings}
use Rattle.card.specs.declared.Refusal.{Refusal}
use Rattle.card.proofs.Cases.{answer_on, bad_on}
use Rattle.tables.specs.Tables.{Tables, tables, needed, beyond, filled, cleared}
use Rattle.tables.specs.Tally.{fresh_tally}
use Rattle.tables.specs.Start.{start_card, long, start_answer, start_tables, Freshly}
use Rattle.tables.specs.declared.tally.Tally.{Tally}
use Rattle.tables.specs.Sound.{Sound}
use Rattle.tables.proofs.Lengths.{tables_eq}
use Rattle.tables.proofs.Lists.{take_filled, drop_filled}
use Rattle.tables.proofs.FreshSound.{fresh_sound}

-- ---- a card stands for one answer: it can be read back

tally_of : List ℕ → Tally
tally_of v =
    record {
      settings =
          record {
            unit = record { 0 = get_or v 0 0 };
            policy = record { 0 = get_or v 1 0 };
            capacity = record { 0 = get_or v 2 0 };
            places = record { 0 = get_or v 3 0 };
            catalogue = record { 0 = get_or v 4 0 };
          };
      inflation = record { 0 = get_or v 5 0 };
      bytes_kept = record { 0 = get_or v 6 0 };
      files_kept = get_or v 7 0;
      requests = get_or v 8 0;
      hits = get_or v 9 0;
      admitted = get_or v 10 0;
      passed = get_or v 11 0;
      evicted = get_or v 12 0;
      bytes_asked = record { 0 = get_or v 13 0 };
      hit_bytes = record { 0 = get_or v 14 0 };
      cost_asked = record { 0 = get_or v 15 0 };
      hit_cost = record { 0 = get_or v 16 0 };
      dropped = get_or v 17 0;
      lifts = get_or v 18 0;
    }

abbrev started_with : List ℕ → Result Tally Refusal
started_with v = Ok (tally_of v)

read_back : (r : Result Tally Refusal) → answer_on started_with Err (start_card r) ≡ r
unfolding tally_of
read_back (Ok a) = refl
read_back (Err x) = bad_on started_with Err x

pub one_card : (r r' : Result Tally Refusal) → start_card r ≡ start_card r' → r ≡ r'
one_card r r' e = sym (read_back r) ∙ ap (answer_on started_with Err) e ∙ read_back r'

-- ---- one answer

-- two results that meet the promise of a fresh start are the same result
pub fresh_one_answer : (s : Settings) (t : Tables) (r r' : Result Tally Refusal) (u u' : Tables) → Freshly s t r u → Freshly s t r' u' → (r ≡ r') × (u ≡ u')
fresh_one_answer s t r r' u u' f g = (one_card r r' (f.answer ∙ sym g.answer), f.lent ∙ sym g.lent)

-- ---- twins

-- what cleared tables hold where it is needed, and beyond
needed_cleared : (p n : ℕ) (t : Tables)
    → needed p n (cleared p n t) ≡ tables (replicate n no_place) (replicate p 0) (replicate p 0) (replicate p 0) (replicate p 0) (replicate p 0) (replicate p 0) (replicate p 0)
needed_cleared p n t =
    let z : (l : List ℕ) → take p (filled p 0 l) ≡ replicate p 0 = take_filled p 0 in
    tables_eq (take_filled n no_place t.place) (z t.file) (z t.size) (z t.cost) (z t.freq) (z t.key) (z t.stamp) (z t.queue)

beyond_cleared : (p n : ℕ) (t : Tables) → beyond p n (cleared p n t) ≡ beyond p n t
beyond_cleared p n t =
    let z : (l : List ℕ) → drop p (filled p 0 l) ≡ drop p l = drop_filled p 0 in
    tables_eq (drop_filled n no_place t.place) (z t.file) (z t.size) (z t.cost) (z t.freq) (z t.key) (z t.stamp) (z t.queue)

module _ (s : Settings) (t : Tables) (r : Result Tally Refusal) (u : Tables) (f : Freshly s t r u) where
  -- with settings in range and tables long enough the answer is the new tally and the tables are cleared
  pub fresh_done : in_range s ≡ true → long s t ≡ true → (r ≡ Ok (fresh_tally s)) × (u ≡ cleared s.places.0 s.catalogue.0 t)
  unfolding start_answer start_tables
  fresh_done h l = (one_card r (Ok (fresh_tally s)) (f.answer ∙ rw (h, l)), f.lent ∙ rw (h, l))

  -- entries beyond the needed ones are as they were, whatever the answer
  pub fresh_beyond : beyond s.places.0 s.catalogue.0 u ≡ beyond s.places.0 s.catalogue.0 t
  unfolding start_tables
  fresh_beyond = ap (beyond s.places.0 s.catalogue.0) f.lent ∙ go (in_range s) (long s t)
    where
      go : (a b : Bool) → beyond s.places.0 s.catalogue.0 (pick a (pick b (cleared s.places.0 s.catalogue.0 t) t) t) ≡ beyond s.places.0 s.catalogue.0 t
      go true true = beyond_cleared s.places.0 s.catalogue.0 t
      go true false = refl
      go false b = refl

-- two fresh starts with the same settings over any two sets of tables long enough: the same answer, and the same needed entries
pub twins : (s : Settings) (t t' : Tables) (r r' : Result Tally Refusal) (u u' : Tables) → Freshly s t r u → Freshly s t' r' u' → in_range s ≡ true → long s t ≡ true → long s t' ≡ true
    → (r ≡ r') × (needed s.places.0 s.catalogue.0 u ≡ needed s.places.0 s.catalogue.0 u')
twins s t t' r r' u u' f g h l m =
    let p : ℕ = s.places.0 in
    let n : ℕ = s.catalogue.0 in
    let a = fresh_done s t r u f h l in
    let b = fresh_done s t' r' u' g h m in
    (a.0 ∙ sym b.0, ap (needed p n) a.1 ∙ needed_cleared p n t ∙ sym (needed_cleared p n t') ∙ ap (needed p n) (sym b.1))

-- and what they leave is sound
pub freshly_sound : (s : Settings) (t : Tables) (r : Result Tally Refusal) (u : Tables) → Freshly s t r u → in_range s ≡ true → long s t ≡ true → (r ≡ Ok (fresh_tally s)) × Sound (fresh_tally s) u
freshly_sound s t r u f h l = let a = fresh_done s t r u f h l in (a.0, subst (Sound (fresh_tally s)) (sym a.1) (fresh_sound s t h))
