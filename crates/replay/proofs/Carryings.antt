-- A run carried on: sound tables are ready to be served. Assumes nothing.
use mathlib.Core.Path.{◌≡◌}
use mathlib.Core.Bool.{Bool, true}
use mathlib.Core.List.{List}
use Prim.Native.Nat.{ℕ, ◌≤◌}
use native.Mathlib.Omega.{arith}
use lib.ListN.{length}
use Rattle.std.specs.Prelude.{Ok}
use Rattle.tables.specs.Tables.{Tables}
use Rattle.tables.specs.Start.{long}
use Rattle.tables.specs.Sound.{Sound, Verdict}
use Rattle.tables.specs.declared.tally.Tally.{Tally}
use Rattle.tables.proofs.Lengths.{long_of}
use Rattle.tables.proofs.Near.{near}
use Rattle.tables.proofs.Ranges.{bounded}
use Rattle.serving.specs.Serving.{Running}
use Rattle.refusing.specs.Judging.{Judgeable, fitting, fine, settled, Orderly}
use Rattle.refusing.proofs.Rooms.{fits, settled_fine}
use Rattle.parts.specs.Parts.{Ready}

pub orderly : (unit : ℕ) (a : Tally) (t : Tables) → settled unit a (long a.settings t) ≡ fine → Orderly a t
orderly unit a t e = let x = settled_fine unit a (long a.settings t) e in record { range = x.0; long = long_of a.settings.places.0 a.settings.catalogue.0 t x.1 }

pub judgeable : (a : Tally) (t : Tables) → Orderly a t → Sound a t → Judgeable a
judgeable a t o s = record { few = s.few; kept = omega (arith, s.files, (near s).files, (bounded a.settings o.range).places.1) }

module _ (a : Tally) (t : Tables) (entry entry' free free' : List ℕ) (answer : Bool) (v : Verdict a t entry entry' free free' answer) where
  pub sound_running : Orderly a t → answer ≡ true → a.settings.places.0 ≤ length entry → a.settings.places.0 ≤ length free → Running a t entry' free'
  sound_running o is e f =
      record {
        ranged = o.range;
        long = o.long;
        sound = v.yes is;
        desk = v.ready is;
        entry_long = omega (arith, e, v.entry_long);
        free_long = omega (arith, f, v.free_long);
      }

-- what is found to fit is ready to be served
pub fits_ready : (a : Tally) (t : Tables) (entry free told part : List ℕ) (count : ℕ) → Running a t entry free → fitting a part (length told) ≡ Ok count → Ready a part count t entry free told
fits_ready a t entry free told part count h e =
    let f = fits a part count (length told) e in
    record { running = h; reads = f.reads; counts = f.counts; few = f.few; room = f.room }
