-- The admission of a newcomer (document 01, "The run"). Assumes nothing.
use Rattle.std.specs.Prelude.{◌≡◌, List, ℕ, ◌+◌, ◌≤◌, ◌<◌, length, get_or, set}
use Rattle.amounts.specs.Limits.{no_place}
use Rattle.amounts.specs.Requests.{Request}
use Rattle.method.specs.Shelf.{Shelf, kept, bytes, files}
use Rattle.method.specs.Method.{Gone, State, Served, served, missed, admit}
use Rattle.method.specs.declared.outcome.Outcome.TheVariants.{Admitted}
use Rattle.tables.specs.Tables.{Tables, shelf_of}
use Rattle.tables.specs.Tally.{store_of, policy_in, stamp_of}
use Rattle.tables.specs.declared.tally.Tally.{Tally}
use Rattle.shelving.specs.Live.{Live, Stack}
use Rattle.shelving.specs.Evicting.{behind, without}
use Rattle.shelving.specs.declared.room.Room.{Room}
use Rattle.newcomer.specs.Newcomer.{new_record, Worthy, gone_for, Admits}
use Rattle.admitting.specs.Deciding.{Meetable}

-- ---- A newcomer that is not too big

-- what its admission asks
pub record Admissible (a : Tally) (q : Request) (t : Tables) (entry free events : List ℕ) (at : ℕ) : Type 0 where
  pub meetable : Meetable a q t entry free events at
  pub out : get_or t.place q.file 0 ≡ no_place
  pub small : q.size ≤ a.settings.capacity.0

-- document 01, "The run": what the policy gives for it
abbrev pub admits : Tally → Request → Tables → Served State
admits a q t = admit (policy_in a.settings) (store_of a.settings) a.inflation.0 (shelf_of a.settings.catalogue.0 t) (stamp_of a) q

-- ---- A newcomer that enters where room was made

-- the files that go, and the shelf that they leave
abbrev pub gone_in : Tally → Room → Tables → List Gone
gone_in a room t = behind t a.files_kept (gone_for a room)

abbrev pub left_in : Tally → Room → Tables → Shelf
left_in a room t = without (gone_in a room t) (shelf_of a.settings.catalogue.0 t)

-- what entering asks: the room is for it, and counts what is left
pub record Enterable (a : Tally) (q : Request) (room : Room) (t : Tables) (entry free events : List ℕ) (at : ℕ) : Type 0 where
  pub live : Live a.settings a.files_kept room.left t entry
  pub stack : Stack a.settings a.files_kept t free
  pub one : room.left < a.settings.places.0
  pub known : q.file < a.settings.catalogue.0
  pub out : get_or t.place q.file 0 ≡ no_place
  pub worthy : Worthy a q.size q.cost room
  pub admits : Admits a q.size q.cost room
  pub bytes : bytes (left_in a room t) ≡ room.bytes.0
  pub files : files (left_in a room t) ≡ room.left
  pub space : at + a.files_kept ≤ length events

-- document 01, "The run": they go, and it is kept beside what is left
abbrev pub enters : Tally → Request → Room → Tables → Served State
enters a q room t =
    served room.inflation.0 (set (left_in a room t) q.file (kept (new_record a q.size q.cost room))) (stamp_of a) (missed q (gone_in a room t) Admitted)
